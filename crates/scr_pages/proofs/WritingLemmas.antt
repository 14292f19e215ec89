-- Pages written group by group.
use Rattle.std.proofs.Common.{◌≡◌, ℕ, Bool, IsTrue, ◌+◌, ◌<◌, ◌≤◌, List, [], ◌∷◌, ◌++◌, map, take, length, get_or, refl, sym, ap, ◌∙◌, subst, arith, append_assoc, length-append}
use Rattle.std.specs.Prelude.{All}
use Rattle.std.proofs.lemmas.List.{take-take, map-append, take_all}
use Rattle.std.proofs.Math.Seq.{take-append_seam, get_or-append_seam}
use Rattle.std.specs.List.{take-map}
use Rattle.scr_outside.specs.Bytes.{IsFirstPart}
use Rattle.scr_outside.specs.Change.{Change, Gains, Falters}
use Rattle.scr_outside.proofs.ChangeLemmas.{Falters-longer}
use Rattle.scr_read.specs.Sheets.{SheetRound}
use Rattle.scr_read.specs.Groups.{GroupOf}
use Rattle.scr_layout.specs.Group.{Group}
use Rattle.scr_pages.specs.Shown.{shown_group}
use Rattle.scr_pages.specs.Marked.{IsInSheet}
use Rattle.scr_pages.specs.Pages.{Look, AreBegun, ArePages, pages_end}
use Rattle.scr_pages.specs.Writing.{GoesOn}

-- those of all groups that are left, behind so many that were written
pub record IsWritten (look : Look) (rounds : List SheetRound) (all left : List GroupOf) (place : ℕ) (out : Change) : Type 0 where
  pub done : List GroupOf
  pub all_is : all ≡ done ++ left
  pub place_is : length done ≡ place
  pub text : List ℕ
  pub pages : AreBegun look (map (shown_group rounds) done) text
  pub gains : Gains out text

-- the groups that are done are the first so many of those that are wanted
pub first-so-many : {X Y : Type 0} (f : X → Y) (all done left : List X) (count place : ℕ) → all ≡ done ++ left → length done ≡ place
    → place ≤ count → take place (map f (take count all)) ≡ map f done
first-so-many f all done left count place all_is place_is few =
    take-map f place (take count all)
    ∙ ap (map f) (take-take place count all few ∙ ap (take place) all_is ∙ ap (λ n. take n (done ++ left)) (sym place_is) ∙ take-append_seam done left)

pub so-many : {X Y : Type 0} (f : X → Y) (all done left : List X) (count place : ℕ) → all ≡ done ++ left → length done ≡ place
    → place ≡ count → map f (take count all) ≡ map f done
so-many f all done left count place all_is place_is same =
    ap (map f) (ap (take count) all_is ∙ ap (λ n. take n (done ++ left)) (sym (place_is ∙ same)) ∙ take-append_seam done left)

pub one-more : {X : Type 0} (all done left after : List X) (group : X) → all ≡ done ++ left → left ≡ group ∷ after
    → all ≡ (done ++ group ∷ []) ++ after
one-more all done left after group all_is given = all_is ∙ ap (λ l. done ++ l) given ∙ sym (append_assoc done (group ∷ []) after)

pub map-one : {X Y : Type 0} (f : X → Y) (xs : List X) (x : X) → map f (xs ++ x ∷ []) ≡ map f xs ++ f x ∷ []
map-one f xs x = map-append f xs (x ∷ [])

-- the group that comes is one of the sheet
pub in-sheet : (rounds : List SheetRound) (all done left after : List GroupOf) (group : GroupOf) → all ≡ done ++ left → left ≡ group ∷ after
    → All (IsInSheet rounds) all → IsInSheet rounds group
in-sheet rounds all done left after group all_is given each =
    let same : all ≡ done ++ group ∷ after = all_is ∙ ap (λ l. done ++ l) given in
    let below : length done < length all = omega (arith, ap length same, length-append done (group ∷ after)) in
    subst (IsInSheet rounds) (ap (λ l. get_or l (length done) group) same ∙ get_or-append_seam done group after group)
    (each (length done) group below)

pub no-part : (text : List ℕ) → IsFirstPart [] text
no-part text = record { rest = text; parts = refl }

none-before : {X Y : Type 0} (f : X → Y) (done : List X) (place : ℕ) → length done ≡ place → place ≡ 0 → map f done ≡ []
none-before f [] place long none = refl
none-before f (x ∷ done) place long none = absurd (omega arith)

-- ---- one group more

module _ (look : Look) (rounds : List SheetRound) (all left after : List GroupOf) (group : GroupOf) (place : ℕ) (out : Change) where
  -- the pages with those of the next group
  pub next-pages : (w : IsWritten look rounds all left place out) (shown : Group) (first : Bool) (piece bytes : List ℕ)
      → shown ≡ shown_group rounds group → (IsTrue first → place ≡ 0) → GoesOn look first shown piece → bytes ≡ piece
      → AreBegun look (map (shown_group rounds) (w.done ++ group ∷ [])) (w.text ++ bytes)
  next-pages w shown first piece bytes is none goes same =
      let f = shown_group rounds in
      let more = goes (map f w.done) w.text (λ b. none-before f w.done place w.place_is (none b)) w.pages in
      subst (λ (gs : List Group). AreBegun look gs (w.text ++ bytes)) (ap (λ g. map f w.done ++ g ∷ []) is ∙ sym (map-one f w.done group))
      (subst (λ (p : List ℕ). AreBegun look (map f w.done ++ shown ∷ []) (w.text ++ p)) (sym same) more)

  pub written-next : (w : IsWritten look rounds all left place out) (then : Change) (bytes : List ℕ) → left ≡ group ∷ after
      → AreBegun look (map (shown_group rounds) (w.done ++ group ∷ [])) (w.text ++ bytes) → Gains then (w.text ++ bytes)
      → IsWritten look rounds all after (place + 1) then
  written-next w then bytes given pages gains = record {
    done = w.done ++ group ∷ [];
    all_is = one-more all w.done left after group w.all_is given;
    place_is = length-append w.done (group ∷ []) ∙ ap (λ n. n + 1) w.place_is;
    text = w.text ++ bytes;
    pages = pages;
    gains = gains;
  }

  pub falters-next : (w : IsWritten look rounds all left place out) (count : ℕ) (then : Change) (bytes : List ℕ) → left ≡ group ∷ after
      → place < count → AreBegun look (map (shown_group rounds) (w.done ++ group ∷ [])) (w.text ++ bytes) → Falters then (w.text ++ bytes)
      → (so_many : ℕ) × (text : List ℕ) × ArePages look (take so_many (map (shown_group rounds) (take count all))) text × Falters then text
  falters-next w count then bytes given few pages falters =
      let taken = first-so-many (shown_group rounds) all (w.done ++ group ∷ []) after count (place + 1) (one-more all w.done left after group w.all_is given)
      (length-append w.done (group ∷ []) ∙ ap (λ n. n + 1) w.place_is) (omega (arith, few)) in (
        place + 1,
        (w.text ++ bytes) ++ pages_end look,
        (w.text ++ bytes, subst (λ (gs : List Group). AreBegun look gs (w.text ++ bytes)) (sym taken) pages, refl),
        Falters-longer (pages_end look) falters,
      )

-- memory is wanting for what comes next
pub wanting-here : (look : Look) (rounds : List SheetRound) (all left : List GroupOf) (place count : ℕ) (out : Change)
    → IsWritten look rounds all left place out → place ≤ count
    → (so_many : ℕ) × (text : List ℕ) × ArePages look (take so_many (map (shown_group rounds) (take count all))) text
    × ((part : List ℕ) × IsFirstPart part text × Gains out part)
wanting-here look rounds all left place count out w few =
    let taken = first-so-many (shown_group rounds) all w.done left count place w.all_is w.place_is few in (
      place,
      w.text ++ pages_end look,
      (w.text, subst (λ (gs : List Group). AreBegun look gs w.text) (sym taken) w.pages, refl),
      (w.text, record { rest = pages_end look; parts = refl }, w.gains),
    )

-- all are done, and the end is added
pub ended-pages : (look : Look) (rounds : List SheetRound) (all left : List GroupOf) (place count : ℕ) (out : Change) (piece bytes : List ℕ)
    → (w : IsWritten look rounds all left place out) → place ≡ count → piece ≡ pages_end look → bytes ≡ piece
    → ArePages look (map (shown_group rounds) (take count all)) (w.text ++ bytes)
ended-pages look rounds all left place count out piece bytes w same ends are =
    let f = shown_group rounds in (
      w.text,
      subst (λ (gs : List Group). AreBegun look gs w.text) (sym (so-many f all w.done left count place w.all_is w.place_is same)) w.pages,
      ap (λ b. w.text ++ b) (are ∙ ends),
    )

pub taken-all : {X : Type 0} (xs : List X) → take (length xs) xs ≡ xs
taken-all xs = take_all (length xs) xs (omega arith)
