-- What is held of the rounds of a sheet tells where its groups stand.
use Rattle.std.proofs.Common.{◌≡◌, ℕ, zero, suc, ◌+◌, ◌<◌, ◌≤◌, true, cond, List, [], ◌∷◌, length, get_or, take, refl, sym, ap, ◌∙◌, arith, leb-true, slice_index}
use Rattle.std.specs.Prelude.{count_by, nat_le}
use Rattle.std.specs.List.{take-map}
use Rattle.std.proofs.lemmas.List.{length-map}
use Rattle.std.proofs.lemmas.List.Sums.{count_by-le-length, sum_by-cons, sum_by-take-le, AllPass-from_list_all}
use Rattle.std.proofs.lemmas.List.Elements.{All-map}
use Rattle.scr_notation.specs.declared.event.Event.{Event}
use Rattle.scr_notation.specs.Written.{Written}
use Rattle.scr_notation.proofs.Below.{and_first, and_second}
use Rattle.scr_list.specs.Names.{is_name_byte}
use Rattle.scr_list.proofs.NameLemmas.{name-bytes}
use Rattle.scr_read.specs.Sheets.{SheetRound}
use Rattle.scr_read.specs.Groups.{GroupOf, IsGroup, scrambles_of}
use Rattle.scr_layout.specs.Group.{Group, IsGroup as IsShown}
use Rattle.scr_layout.specs.Shown.{IsNoControl, HasNoControl}
use Rattle.scr_pages.specs.declared.marks.RoundMark.{RoundMark}
use Rattle.scr_pages.specs.Shown.{is_event, rounds_of_event, group_counts, shown_group}
use Rattle.scr_pages.specs.Marked.{mark_of_round, marks_of, IsInSheet}

-- ---- counts

-- so many of the marks are of an event
abbrev pub marked_rounds : Event → List RoundMark → ℕ
marked_rounds event marks = count_by (λ mark. is_event event mark.event) marks

marked-rounds : (event : Event) (rounds : List SheetRound) → marked_rounds event (marks_of rounds) ≡ rounds_of_event event rounds
marked-rounds event [] = refl
marked-rounds event (round ∷ rounds) =
    let of_mark = λ (mark : RoundMark). cond (is_event event mark.event) 1 0 in
    let of_round = λ (r : SheetRound). cond (is_event event r.event) 1 0 in
    sum_by-cons of_mark (mark_of_round round) (marks_of rounds) ∙ ap (λ n. of_round round + n) (marked-rounds event rounds)
    ∙ sym (sum_by-cons of_round round rounds)

pub marked-taken : (event : Event) (n : ℕ) (rounds : List SheetRound)
    → marked_rounds event (take n (marks_of rounds)) ≡ rounds_of_event event (take n rounds)
marked-taken event n rounds = ap (marked_rounds event) (take-map mark_of_round n rounds) ∙ marked-rounds event (take n rounds)

groups-marked : (rounds : List SheetRound) (k : ℕ) (d : RoundMark) → k < length rounds
    → (get_or (marks_of rounds) k d).groups ≡ slice_index (group_counts rounds) k
groups-marked [] k d below = absurd (omega arith)
groups-marked (round ∷ rounds) zero d below = refl
groups-marked (round ∷ rounds) (suc k) d below = groups-marked rounds k d (omega arith)

-- ---- a group in a sheet

-- a group with these numbers and texts
abbrev pub group_with : Event → ℕ → ℕ → ℕ → ℕ → ℕ → List ℕ → List Written → Group
group_with event sheet_round event_round event_rounds number groups name scrambles = record {
  event = event;
  sheet_round = sheet_round;
  event_round = event_round;
  event_rounds = event_rounds;
  number = number;
  groups = groups;
  name = name;
  scrambles = scrambles;
}

same_group : (event : Event) (a b c n g : ℕ) (name : List ℕ) (scrambles : List Written)
    (event' : Event) (a' b' c' n' g' : ℕ) (name' : List ℕ) (scrambles' : List Written)
    → event ≡ event' → a ≡ a' → b ≡ b' → c ≡ c' → n ≡ n' → g ≡ g' → name ≡ name' → scrambles ≡ scrambles'
    → group_with event a b c n g name scrambles ≡ group_with event' a' b' c' n' g' name' scrambles'
same_group event a b c n g name scrambles event' a' b' c' n' g' name' scrambles' p q r s t u v w = cc

-- what code reads of a group, of its head and of the marks is the group as its pages show it
pub read-shown : (rounds : List SheetRound) (marks : List RoundMark) (group : GroupOf) (d : RoundMark)
    (event : Event) (index round before all number : ℕ) (name : List ℕ) (scrambles : List Written)
    → marks ≡ marks_of rounds → group.round < length rounds
    → event ≡ group.head.event → index ≡ group.round → round ≡ group.round
    → before ≡ marked_rounds event (take (index + 1) marks) → all ≡ marked_rounds event marks
    → number ≡ group.number → name ≡ group.head.name → scrambles ≡ scrambles_of group.head.event group.scrambles
    → group_with event (round + 1) before all number (get_or marks index d).groups name scrambles ≡ shown_group rounds group
read-shown rounds marks group d event index round before all number name scrambles are below event_is index_is round_is before_is all_is number_is name_is scrambles_are =
    same_group event (round + 1) before all number (get_or marks index d).groups name scrambles
    group.head.event (group.round + 1) _ _ group.number _ group.head.name _
    event_is (ap (λ n. n + 1) round_is)
    (before_is ∙ ap (λ e. marked_rounds e (take (index + 1) marks)) event_is
    ∙ ap (λ n. marked_rounds group.head.event (take (n + 1) marks)) index_is
    ∙ ap (λ ms. marked_rounds group.head.event (take (group.round + 1) ms)) are
    ∙ marked-taken group.head.event (group.round + 1) rounds)
    (all_is ∙ ap (λ e. marked_rounds e marks) event_is ∙ ap (marked_rounds group.head.event) are
    ∙ marked-rounds group.head.event rounds)
    number_is
    (ap (λ n. (get_or marks n d).groups) index_is ∙ ap (λ ms. (get_or ms group.round d).groups) are
    ∙ groups-marked rounds group.round d below)
    name_is scrambles_are

-- ---- such a group is one that pages show

name_byte : (byte : ℕ) → is_name_byte byte ≡ true → IsNoControl byte
name_byte byte is =
    let least = leb-true 32 byte (and_first (nat_le 32 byte) (nat_le byte 126) is) in
    let most = leb-true byte 126 (and_second (nat_le 32 byte) (nat_le byte 126) is) in
    (least, λ e. omega (arith, e, most))

name_shown : (group : GroupOf) → IsGroup group → HasNoControl group.head.name
name_shown group valid =
    let pass = AllPass-from_list_all is_name_byte group.head.name (name-bytes group.head.name valid.head.name) in
    λ k d below. name_byte (get_or group.head.name k d) (pass k d below)

before-all : (event : Event) (n : ℕ) (rounds : List SheetRound) → rounds_of_event event (take n rounds) ≤ rounds_of_event event rounds
before-all event n rounds = sum_by-take-le (λ (r : SheetRound). cond (is_event event r.event) 1 0) rounds n

pub shown-valid : (rounds : List SheetRound) (group : GroupOf) → IsInSheet rounds group → IsShown (shown_group rounds group)
shown-valid rounds group is = record {
  sheet_round = omega (arith, is.few, is.round);
  event_round = before-all group.head.event (group.round + 1) rounds;
  event_rounds = omega (arith, is.few, count_by-le-length (λ (round : SheetRound). is_event group.head.event round.event) rounds);
  number = is.number;
  groups = is.groups;
  name = name_shown group is.valid;
  each_slot = length-map group.scrambles (λ t. record { event = group.head.event; turns = t }) ∙ is.valid.scrambles.each_slot;
  each = All-map (λ (s : Written). s.event ≡ group.head.event) (λ t. record { event = group.head.event; turns = t }) group.scrambles (λ k d below. refl);
}
