-- The groups of a sheet: what is held of their rounds, and their numbers.
use Rattle.std.proofs.Common.{◌≡◌, ℕ, suc, ◌+◌, ◌*◌, ◌<◌, ◌≤◌, List, [], ◌∷◌, ◌++◌, length, take, refl, sym, ap, ◌∙◌, subst, arith, length-append, append_assoc, append-nil, slice_index}
use Rattle.std.specs.Prelude.{All}
use Rattle.std.proofs.Math.Seq.{take-append_seam}
use Rattle.std.proofs.lemmas.List.{take_all}
use Rattle.std.proofs.lemmas.List.Elements.{All-nil, All-cons, All-append, All-head, All-tail}
use Rattle.scr_notation.specs.declared.event.Event.{Event}
use Rattle.scr_notation.specs.declared.event.Event.TheVariants.{C222}
use Rattle.scr_notation.specs.declared.turn.Turn.{Turn}
use Rattle.scr_notation.specs.Event.{per_group_of}
use Rattle.scr_list.specs.Rounds.{IsRound}
use Rattle.scr_read.specs.Heads.{HeadOf}
use Rattle.scr_read.specs.Reading.{as_round, head_of}
use Rattle.scr_read.specs.Sheets.{SheetRound, IsSheetRound, AreGroup}
use Rattle.scr_read.specs.Groups.{GroupOf, groups_from, groups_of_rounds, groups_of, lines_of_groups}
use Rattle.scr_pages.specs.declared.marks.RoundMark.{RoundMark}
use Rattle.scr_pages.specs.Shown.{group_counts}
use Rattle.scr_pages.specs.Marked.{mark_of_round, marks_of, with_group, with_groups, IsInSheet}
use Rattle.scr_pages.specs.Passes.{AreFew}

-- ---- what is held of the rounds

with_groups-append : (marks : List RoundMark) (groups more : List GroupOf)
    → with_groups marks (groups ++ more) ≡ with_groups (with_groups marks groups) more
with_groups-append marks [] more = refl
with_groups-append marks (group ∷ groups) more = with_groups-append (with_group marks group) groups more

-- so many groups were read of round k
abbrev marked : ℕ → List RoundMark → Event → ℕ → List RoundMark
marked k marks event groups = take k marks ++ record { event = event; groups = groups } ∷ []

taken-again : (k : ℕ) (marks : List RoundMark) (event : Event) (groups : ℕ) → length (take k marks) ≡ k
    → take k (marked k marks event groups) ≡ take k marks
taken-again k marks event groups long =
    let more : List RoundMark = record { event = event; groups = groups } ∷ [] in
    ap (λ n. take n (take k marks ++ more)) (sym long) ∙ take-append_seam (take k marks) more

round-marked : (k : ℕ) (head : HeadOf) (n line : ℕ) (group : List (List Turn)) (groups : List (List (List Turn))) (marks : List RoundMark)
    → length (take k marks) ≡ k
    → with_groups marks (groups_from k head n line (group ∷ groups)) ≡ marked k marks head.event (n + 1 + length groups)
round-marked k head n line group [] marks long = ap (λ m. marked k marks head.event m) (omega arith)
round-marked k head n line group (next ∷ groups) marks long =
    let again = taken-again k marks head.event (n + 1) long in
    round-marked k head (n + 1) (line + (length group + 2)) next groups (marked k marks head.event (n + 1)) (ap length again ∙ long)
    ∙ ap (λ ms. ms ++ record { event = head.event; groups = n + 1 + 1 + length groups } ∷ []) again
    ∙ ap (λ m. marked k marks head.event m) (omega arith)

some-groups : (round : SheetRound) → IsSheetRound round → 1 ≤ length round.groups
some-groups round is = is.listed.some_groups

round-held : (k : ℕ) (head : HeadOf) (line : ℕ) (groups : List (List (List Turn))) (marks : List RoundMark)
    → length marks ≡ k → 1 ≤ length groups
    → with_groups marks (groups_from k head 0 line groups) ≡ marks ++ record { event = head.event; groups = length groups } ∷ []
round-held k head line [] marks long some = absurd (omega arith)
round-held k head line (group ∷ groups) marks long some =
    let all = take_all k marks (omega (arith, long)) in
    round-marked k head 0 line group groups marks (ap length all ∙ long)
    ∙ ap (λ ms. ms ++ record { event = head.event; groups = 0 + 1 + length groups } ∷ []) all
    ∙ ap (λ m. marks ++ record { event = head.event; groups = m } ∷ []) (omega arith)

rounds-held : (k line : ℕ) (rounds : List SheetRound) (marks : List RoundMark) → length marks ≡ k → All IsSheetRound rounds
    → with_groups marks (groups_of_rounds k line rounds) ≡ marks ++ marks_of rounds
rounds-held k line [] marks long each = sym (append-nil marks)
rounds-held k line (round ∷ rounds) marks long each =
    let one = marks ++ mark_of_round round ∷ [] in
    with_groups-append marks (groups_from k (head_of round) 0 (line + 1) round.groups) (groups_of_rounds (k + 1) (line + 1 + lines_of_groups round.groups) rounds)
    ∙ ap (λ ms. with_groups ms (groups_of_rounds (k + 1) (line + 1 + lines_of_groups round.groups) rounds))
    (round-held k (head_of round) (line + 1) round.groups marks long (some-groups round (All-head IsSheetRound round rounds each)))
    ∙ rounds-held (k + 1) (line + 1 + lines_of_groups round.groups) rounds one (length-append marks (mark_of_round round ∷ []) ∙ ap (λ n. n + 1) long) (All-tail IsSheetRound round rounds each)
    ∙ append_assoc marks (mark_of_round round ∷ []) (marks_of rounds)

-- behind all groups each round is held
pub all-held : (rounds : List SheetRound) → All IsSheetRound rounds → with_groups [] (groups_of rounds) ≡ marks_of rounds
all-held rounds each = rounds-held 0 1 rounds [] refl each

-- ---- each group is in the sheet

headed : (round : SheetRound) → IsSheetRound round → IsRound (as_round (head_of round))
headed round is = record {
  some_groups = omega arith;
  few_groups = omega arith;
  least = is.listed.least;
  name = is.listed.name;
}

-- the groups of a round, the first of them with this number, are in a sheet where that round has this number
in-round : (rounds : List SheetRound) (k : ℕ) (head : HeadOf) (n line : ℕ) (groups : List (List (List Turn)))
    → length rounds ≤ 256 → k < length rounds → n + length groups ≡ slice_index (group_counts rounds) k
    → slice_index (group_counts rounds) k ≤ 26 → IsRound (as_round head) → All (AreGroup head.event) groups
    → All (IsInSheet rounds) (groups_from k head n line groups)
in-round rounds k head n line [] few round count most is each = All-nil (IsInSheet rounds)
in-round rounds k head n line (group ∷ groups) few round count most is each =
    let one : GroupOf = record { round = k; head = head; number = n; line = line; scrambles = group } in
    All-cons (IsInSheet rounds) one (groups_from k head (n + 1) (line + (length group + 2)) groups)
    (record {
      few = few;
      round = round;
      number = omega (arith, count);
      groups = most;
      valid = record {
        round = omega (arith, few, round);
        head = is;
        number = omega (arith, count, most);
        scrambles = All-head (AreGroup head.event) group groups each;
      };
    })
    (in-round rounds k head (n + 1) (line + (length group + 2)) groups few round (omega (arith, count)) most is (All-tail (AreGroup head.event) group groups each))

count-here : (before : List SheetRound) (round : SheetRound) (rounds : List SheetRound)
    → slice_index (group_counts (before ++ round ∷ rounds)) (length before) ≡ length round.groups
count-here [] round rounds = refl
count-here (first ∷ before) round rounds = count-here before round rounds

in-rounds : (before rounds : List SheetRound) (k line : ℕ) → length before ≡ k → length (before ++ rounds) ≤ 256
    → All IsSheetRound rounds → All (IsInSheet (before ++ rounds)) (groups_of_rounds k line rounds)
in-rounds before [] k line long few each = All-nil (IsInSheet (before ++ []))
in-rounds before (round ∷ rounds) k line long few each =
    let whole = before ++ round ∷ rounds in
    let is = All-head IsSheetRound round rounds each in
    let here : slice_index (group_counts whole) k ≡ length round.groups = ap (slice_index (group_counts whole)) (sym long) ∙ count-here before round rounds in
    let longer = length-append before (round ∷ rounds) in
    let next = before ++ round ∷ [] in
    let same : next ++ rounds ≡ whole = append_assoc before (round ∷ []) rounds in
    let most = is.listed.few_groups in
    All-append (IsInSheet whole) (groups_from k (head_of round) 0 (line + 1) round.groups) (groups_of_rounds (k + 1) (line + 1 + lines_of_groups round.groups) rounds)
    (in-round whole k (head_of round) 0 (line + 1) round.groups few (omega (arith, longer, long)) (omega (arith, here)) (omega (arith, here, most)) (headed round is) is.groups)
    (subst (λ (all : List SheetRound). All (IsInSheet all) (groups_of_rounds (k + 1) (line + 1 + lines_of_groups round.groups) rounds)) same
    (in-rounds next rounds (k + 1) (line + 1 + lines_of_groups round.groups) (length-append before (round ∷ []) ∙ ap (λ n. n + 1) long) (omega (arith, ap length same, few)) (All-tail IsSheetRound round rounds each)))

pub all-in-sheet : (rounds : List SheetRound) → All IsSheetRound rounds → length rounds ≤ 256 → All (IsInSheet rounds) (groups_of rounds)
all-in-sheet rounds each few = in-rounds [] rounds 0 1 refl few each

-- ---- groups are few

at_most_five : (event : Event) → per_group_of event ≤ 5
at_most_five C222 = omega arith
at_most_five _ = omega arith

long-group : (event : Event) (group : List (List Turn)) → AreGroup event group → length group ≤ 7
long-group event group is = omega (arith, is.each_slot, at_most_five event)

lines-few : (event : Event) (groups : List (List (List Turn))) → All (AreGroup event) groups → lines_of_groups groups ≤ 9 * length groups
lines-few event [] each = omega arith
lines-few event (group ∷ groups) each =
    omega (arith, long-group event group (All-head (AreGroup event) group groups each), lines-few event groups (All-tail (AreGroup event) group groups each))

abbrev IsAbove : ℕ → GroupOf → Type 0
IsAbove line group = group.line ≤ line

lower : (a b : ℕ) (groups : List GroupOf) → a ≤ b → All (IsAbove a) groups → All (IsAbove b) groups
lower a b groups le each = λ k d below. let here = each k d below in omega (arith, here, le)

lines-from : (k : ℕ) (head : HeadOf) (n line : ℕ) (groups : List (List (List Turn))) → All (AreGroup head.event) groups
    → All (IsAbove (line + 9 * length groups)) (groups_from k head n line groups)
lines-from k head n line [] each = All-nil (IsAbove (line + 9 * 0))
lines-from k head n line (group ∷ groups) each =
    let most = line + 9 * length (group ∷ groups) in
    let one : GroupOf = record { round = k; head = head; number = n; line = line; scrambles = group } in
    let long = long-group head.event group (All-head (AreGroup head.event) group groups each) in
    let next = line + (length group + 2) in
    All-cons (IsAbove most) one (groups_from k head (n + 1) next groups) (omega arith)
    (lower (next + 9 * length groups) most (groups_from k head (n + 1) next groups) (omega (arith, long))
    (lines-from k head (n + 1) next groups (All-tail (AreGroup head.event) group groups each)))

lines-below : (k line : ℕ) (rounds : List SheetRound) → All IsSheetRound rounds
    → All (IsAbove (line + 235 * length rounds)) (groups_of_rounds k line rounds)
lines-below k line [] each = All-nil (IsAbove (line + 235 * 0))
lines-below k line (round ∷ rounds) each =
    let most = line + 235 * length (round ∷ rounds) in
    let is = All-head IsSheetRound round rounds each in
    let few = is.listed.few_groups in
    let next = line + 1 + lines_of_groups round.groups in
    All-append (IsAbove most) (groups_from k (head_of round) 0 (line + 1) round.groups) (groups_of_rounds (k + 1) next rounds)
    (lower (line + 1 + 9 * length round.groups) most (groups_from k (head_of round) 0 (line + 1) round.groups) (omega (arith, few)) (lines-from k (head_of round) 0 (line + 1) round.groups is.groups))
    (lower (next + 235 * length rounds) most (groups_of_rounds (k + 1) next rounds) (omega (arith, few, lines-few round.event round.groups is.groups)) (lines-below (k + 1) next rounds (All-tail IsSheetRound round rounds each)))

length-from : (k : ℕ) (head : HeadOf) (n line : ℕ) (groups : List (List (List Turn))) → length (groups_from k head n line groups) ≡ length groups
length-from k head n line [] = refl
length-from k head n line (group ∷ groups) = ap suc (length-from k head (n + 1) (line + (length group + 2)) groups)

count-few : (k line : ℕ) (rounds : List SheetRound) → All IsSheetRound rounds → length (groups_of_rounds k line rounds) ≤ 26 * length rounds
count-few k line [] each = omega arith
count-few k line (round ∷ rounds) each =
    let next = line + 1 + lines_of_groups round.groups in
    let is = All-head IsSheetRound round rounds each in
    let few = is.listed.few_groups in
    omega (arith, few, length-append (groups_from k (head_of round) 0 (line + 1) round.groups) (groups_of_rounds (k + 1) next rounds), length-from k (head_of round) 0 (line + 1) round.groups, count-few (k + 1) next rounds (All-tail IsSheetRound round rounds each))

pub all-few : (rounds : List SheetRound) → All IsSheetRound rounds → length rounds ≤ 256 → AreFew (groups_of rounds)
all-few rounds each few = record {
  few = omega (arith, count-few 0 1 rounds each, few);
  lines = lower (1 + 235 * length rounds) 65536 (groups_of rounds) (omega (arith, few)) (lines-below 0 1 rounds each);
}
