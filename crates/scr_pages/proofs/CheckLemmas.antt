-- What the passes over an input find.
use Rattle.std.proofs.Common.{◌≡◌, ℕ, zero, suc, ◌+◌, ◌-◌, ◌≤◌, Bool, true, false, Option, Some, None, Result, Ok, Err, List, [], ◌∷◌, drop, take, map, length, refl, sym, ap, ◌∙◌, subst, arith, IfOk, length-drop}
use Rattle.std.specs.Prelude.{All}
use Rattle.std.proofs.lemmas.List.Elements.{All-tail}
use Rattle.std.proofs.lemmas.List.{drop-drop}
use Rattle.std.specs.List.{take-map, drop-map}
use Rattle.scr_read.specs.Sheets.{SheetRound, IsSheet}
use Rattle.scr_read.specs.Groups.{GroupOf, groups_of, GivesFirst}
use Rattle.scr_pages.specs.Faults.{RunFault as Fault}
use Rattle.scr_pages.specs.declared.survey.Survey.{Survey}
use Rattle.scr_pages.specs.declared.checking.Checked.{Checked}
use Rattle.scr_pages.specs.Asked.{Asked}
use Rattle.scr_pages.specs.Shown.{shown_group, shown_groups, chosen}
use Rattle.scr_pages.specs.Marked.{with_groups, IsInSheet}
use Rattle.scr_pages.specs.Pages.{Look}
use Rattle.scr_pages.specs.Slots.{Slot, slots_of, IsBarred, IsNear}
use Rattle.scr_pages.specs.Refusals.{NoneIs, MeetsRegulations}
use Rattle.scr_pages.specs.Passes.{AreFew}
use Rattle.scr_pages.specs.Checked.{IsSurveyed, IsChecked}
use Rattle.scr_pages.proofs.GroupLemmas.{all-few, all-held, all-in-sheet}

pub sheet-few : (text : List ℕ) (groups : List GroupOf) (rounds : List SheetRound) → IsSheet text rounds → groups ≡ groups_of rounds
    → AreFew groups
sheet-few text groups rounds is are = subst AreFew (sym are) (all-few rounds is.each is.few)

pub surveyed-is : (bytes : List ℕ) (groups : List GroupOf) (rounds : List SheetRound) (result : Result Survey Fault)
    → IsSheet bytes rounds → groups ≡ groups_of rounds → IfOk result (λ survey. survey.marks.items ≡ with_groups [] groups)
    → IfOk result (λ survey. survey.groups ≡ length groups) → IfOk result (λ survey. NoneIs IsBarred (slots_of groups))
    → IfOk result (IsSurveyed bytes)
surveyed-is bytes groups rounds (Ok survey) is are marks count played = record {
  rounds = rounds;
  sheet = is;
  marks = marks ∙ ap (with_groups []) are ∙ all-held rounds is.each;
  count = count ∙ ap length are;
  played = subst (λ (gs : List GroupOf). NoneIs IsBarred (slots_of gs)) are played;
}
surveyed-is bytes groups rounds (Err why) is are marks count played = tt

pub meets : (regulations : Bool) (slots : List Slot) → regulations ≡ true → NoneIs IsNear slots → MeetsRegulations regulations slots
meets true slots is none = none
meets false slots is none = cc

pub not-asked : (regulations : Bool) (slots : List Slot) → regulations ≡ false → MeetsRegulations regulations slots
not-asked true slots is = cc
not-asked false slots is = tt

drop-first : (before after : List GroupOf) (answer : Option GroupOf) → GivesFirst before after answer → after ≡ drop 1 before
drop-first before after (Some group) given = sym (ap (drop 1) given)
drop-first before after None given = given.1 ∙ sym (ap (drop 1) given.0)

pub passed-one : (n : ℕ) (all before after : List GroupOf) (answer : Option GroupOf) → before ≡ drop n all
    → GivesFirst before after answer → after ≡ drop (n + 1) all
passed-one n all before after answer is given = drop-first before after answer given ∙ ap (drop 1) is ∙ drop-drop 1 n all

pub chosen-map : {X Y : Type 0} (f : X → Y) (group : Option ℕ) (xs : List X) → chosen group (map f xs) ≡ map f (chosen group xs)
chosen-map f None xs = refl
chosen-map f (Some number) xs = ap (take 1) (drop-map f (number - 1) xs) ∙ take-map f 1 (drop (number - 1) xs)

pub all-drop : {X : Type 0} (P : X → Type 0) (n : ℕ) (xs : List X) → All P xs → All P (drop n xs)
all-drop P zero xs all = all
all-drop P (suc n) [] all = all
all-drop P (suc n) (x ∷ xs) all = all-drop P n xs (All-tail P x xs all)

-- ---- the groups that are wanted

pub wanted-left : (asked : Asked) (bytes : List ℕ) (checked : Checked) (is : IsChecked asked bytes checked) (others : List SheetRound) (groups left : List GroupOf)
    → others ≡ is.surveyed.rounds → groups ≡ groups_of others → left ≡ drop checked.wanted.first groups
    → left ≡ drop checked.wanted.first (groups_of is.surveyed.rounds)
wanted-left asked bytes checked is others groups left same are left_are =
    left_are ∙ ap (drop checked.wanted.first) (are ∙ ap groups_of same)

pub wanted-few : (asked : Asked) (bytes : List ℕ) (checked : Checked) (is : IsChecked asked bytes checked) (left : List GroupOf)
    → left ≡ drop checked.wanted.first (groups_of is.surveyed.rounds) → checked.wanted.count ≤ length left
wanted-few asked bytes checked is left are =
    let few = is.wanted.few in
    omega (arith, ap length are, length-drop checked.wanted.first (groups_of is.surveyed.rounds), few, is.surveyed.count)

pub wanted-in-sheet : (asked : Asked) (bytes : List ℕ) (checked : Checked) (is : IsChecked asked bytes checked) (left : List GroupOf)
    → left ≡ drop checked.wanted.first (groups_of is.surveyed.rounds) → All (IsInSheet is.surveyed.rounds) left
wanted-in-sheet asked bytes checked is left are =
    let rounds = is.surveyed.rounds in
    subst (λ (gs : List GroupOf). All (IsInSheet rounds) gs) (sym are)
    (all-drop (IsInSheet rounds) checked.wanted.first (groups_of rounds) (all-in-sheet rounds is.surveyed.sheet.each is.surveyed.sheet.few))

pub wanted-shown : (asked : Asked) (bytes : List ℕ) (checked : Checked) (is : IsChecked asked bytes checked) (left : List GroupOf)
    → left ≡ drop checked.wanted.first (groups_of is.surveyed.rounds)
    → map (shown_group is.surveyed.rounds) (take checked.wanted.count left) ≡ chosen asked.group (shown_groups is.surveyed.rounds)
wanted-shown asked bytes checked is left are =
    let rounds = is.surveyed.rounds in
    let f = shown_group rounds in
    ap (λ (gs : List GroupOf). map f (take checked.wanted.count gs)) are
    ∙ sym (ap (map f) (is.wanted.are (groups_of rounds) (sym is.surveyed.count)))
    ∙ sym (chosen-map f asked.group (groups_of rounds))

abbrev pub look_with : Bool → Bool → List ℕ → Look
look_with html pictures name = record { html = html; pictures = pictures; name = name }

pub same-look : (html pictures others : Bool) (name other : List ℕ) → pictures ≡ others → name ≡ other
    → look_with html pictures name ≡ look_with html others other
same-look html pictures others name other same is = ap (λ p. look_with html p name) same ∙ ap (look_with html others) is
