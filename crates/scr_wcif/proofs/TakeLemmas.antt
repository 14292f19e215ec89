-- The sets that are gathered from the groups of a sheet are those of its rounds.
use Rattle.std.proofs.Common.{◌≡◌, ℕ, ◌+◌, ◌==◌, ◌<◌, ◌≤◌, ◌^◌, false, cond, List, [], ◌∷◌, ◌++◌, map, take, drop, length, length-drop, ◌-◌, refl, sym, ap, ◌∙◌, arith, append_assoc, append-nil}
use Rattle.std.specs.Fmt.{decimal}
use Rattle.std.specs.Prelude.{All, Result, Ok, Err, OnOk}
use Rattle.std.proofs.lemmas.Bool.Decides.{nat_tests}
use Rattle.std.proofs.lemmas.List.{take_all, take-map, drop-map}
use Rattle.std.proofs.lemmas.List.Elements.{All-cons, All-nil, All-head, All-tail}
use Rattle.std.proofs.lemmas.Simd.{map-map}
use Rattle.json.specs.Print.{IsNumber}
use Rattle.json.proofs.Printed.Decimals.{IsNumber-decimal}
use Rattle.scr_notation.specs.declared.event.Event.{Event}
use Rattle.scr_notation.specs.declared.turn.Turn.{Turn}
use Rattle.scr_notation.specs.Event.{per_group_of}
use Rattle.scr_notation.specs.Spelling.{text_of}
use Rattle.scr_notation.specs.Written.{Written}
use Rattle.scr_read.specs.Heads.{HeadOf}
use Rattle.scr_read.specs.Reading.{head_of}
use Rattle.scr_read.specs.Sheets.{SheetRound, IsSheetRound}
use Rattle.scr_read.specs.Groups.{GroupOf, groups_from, lines_of_groups, groups_of_rounds, scrambles_of}
use Rattle.scr_wcif.specs.Sets.{ScrambleSet, EventSets, HaveNumbers, RoundHasNumbers}
use Rattle.scr_wcif.specs.Taking.{taken_set, taken_from, taken_round}
use Rattle.scr_wcif.specs.Gathering.{with_last, with_group, with_groups}

-- ---- the scrambles of a group

pub texts-first : (event : Event) (n : ℕ) (turns : List (List Turn))
    → map (λ (s : Written). text_of s.turns) (take n (scrambles_of event turns)) ≡ map text_of (take n turns)
texts-first event n turns =
    ap (map (λ (s : Written). text_of s.turns)) (take-map (λ t. record { event = event; turns = t }) n turns)
    ∙ map-map (λ (s : Written). text_of s.turns) (λ t. record { event = event; turns = t }) (take n turns)

pub texts-behind : (event : Event) (n : ℕ) (turns : List (List Turn))
    → map (λ (s : Written). text_of s.turns) (drop n (scrambles_of event turns)) ≡ map text_of (drop n turns)
texts-behind event n turns =
    ap (map (λ (s : Written). text_of s.turns)) (drop-map (λ t. record { event = event; turns = t }) n turns)
    ∙ map-map (λ (s : Written). text_of s.turns) (λ t. record { event = event; turns = t }) (drop n turns)

abbrev text_in : Written → List ℕ
text_in s = text_of s.turns

pub set-made : (event : Event) (number : ℕ) (turns : List (List Turn)) (got : List Written) (n : ℕ) (text : List ℕ) (scrambles extras : List (List ℕ)) →
    got ≡ scrambles_of event turns → n ≡ per_group_of event → text ≡ decimal (number + 1) →
    scrambles ≡ map text_in (take n got) → extras ≡ map text_in (take (length got - n) (drop n got)) →
    record { number = text; scrambles = scrambles; extras = extras } ≡ taken_set event number turns
set-made event number turns got n text scrambles extras got_is n_is text_is scrambles_are extras_are =
    let first : scrambles ≡ map text_of (take (per_group_of event) turns) =
    scrambles_are ∙ ap (λ xs. map text_in (take n xs)) got_is ∙ texts-first event n turns ∙ ap (λ k. map text_of (take k turns)) n_is in
    let size : length (drop n got) ≤ length got - n = omega (arith, length-drop n got) in
    let behind : extras ≡ map text_of (drop (per_group_of event) turns) =
    extras_are ∙ ap (map text_in) (take_all (length got - n) (drop n got) size) ∙ ap (λ xs. map text_in (drop n xs)) got_is
    ∙ texts-behind event n turns ∙ ap (λ k. map text_of (drop k turns)) n_is in
    ap (λ t. record { number = t; scrambles = scrambles; extras = extras }) text_is
    ∙ ap (λ s. record { number = decimal (number + 1); scrambles = s; extras = extras }) first
    ∙ ap (λ e. record { number = decimal (number + 1); scrambles = map text_of (take (per_group_of event) turns); extras = e }) behind

-- ---- the groups of rounds, one after another

pub with_last-snoc : (before : List EventSets) (last : EventSets) (set : ScrambleSet) →
    with_last (before ++ last ∷ []) set ≡ before ++ record { event = last.event; sets = last.sets ++ set ∷ [] } ∷ []
with_last-snoc [] last set = refl
with_last-snoc (first ∷ []) last set = refl
with_last-snoc (first ∷ next ∷ before) last set = ap (λ l. first ∷ l) (with_last-snoc (next ∷ before) last set)

-- rounds, and one more with these sets
abbrev and_round : List EventSets → Event → List ScrambleSet → List EventSets
and_round before event sets = before ++ record { event = event; sets = sets } ∷ []

abbrev group_at : ℕ → HeadOf → ℕ → ℕ → List (List Turn) → GroupOf
group_at k head number line group = record { round = k; head = head; number = number; line = line; scrambles = group }

later-group : (k : ℕ) (head : HeadOf) (number line : ℕ) (group : List (List Turn)) (before : List EventSets) (sets : List ScrambleSet) → 1 ≤ number →
    with_group (and_round before head.event sets) (group_at k head number line group)
    ≡ and_round before head.event (sets ++ taken_set head.event number group ∷ [])
later-group k head number line group before sets later =
    let set = taken_set head.event number group in
    let other : (number == 0) ≡ false = grind (arith, nat_tests) in
    ap (λ b. cond b (and_round before head.event sets ++ record { event = head.event; sets = set ∷ [] } ∷ []) (with_last (and_round before head.event sets) set)) other
    ∙ with_last-snoc before (record { event = head.event; sets = sets }) set

-- those of a round behind its first
later-groups : (k : ℕ) (head : HeadOf) (number line : ℕ) (groups : List (List (List Turn))) (more : List GroupOf) (before : List EventSets) (sets : List ScrambleSet) → 1 ≤ number →
    with_groups (and_round before head.event sets) (groups_from k head number line groups ++ more)
    ≡ with_groups (and_round before head.event (sets ++ taken_from head.event number groups)) more
later-groups k head number line [] more before sets later =
    ap (λ s. with_groups (and_round before head.event s) more) (sym (append-nil sets))
later-groups k head number line (group ∷ groups) more before sets later =
    let set = taken_set head.event number group in
    let next = line + (length group + 2) in
    ap (λ rounds. with_groups rounds (groups_from k head (number + 1) next groups ++ more))
    (later-group k head number line group before sets later)
    ∙ later-groups k head (number + 1) next groups more before (sets ++ set ∷ []) (omega arith)
    ∙ ap (λ s. with_groups (and_round before head.event s) more) (append_assoc sets (set ∷ []) (taken_from head.event (number + 1) groups))

-- those of a round
round-groups : (k : ℕ) (head : HeadOf) (line : ℕ) (groups : List (List (List Turn))) (more : List GroupOf) (before : List EventSets) → 1 ≤ length groups →
    with_groups before (groups_from k head 0 line groups ++ more)
    ≡ with_groups (and_round before head.event (taken_from head.event 0 groups)) more
round-groups k head line [] more before some = absurd (omega arith)
round-groups k head line (group ∷ groups) more before some =
    later-groups k head 1 (line + (length group + 2)) groups more before (taken_set head.event 0 group ∷ []) (omega arith)

-- those of rounds
pub rounds-groups : (k line : ℕ) (rounds : List SheetRound) (before : List EventSets) → All IsSheetRound rounds →
    with_groups before (groups_of_rounds k line rounds) ≡ before ++ map taken_round rounds
rounds-groups k line [] before each = sym (append-nil before)
rounds-groups k line (round ∷ rounds) before each =
    let next = line + 1 + lines_of_groups round.groups in
    let is = All-head IsSheetRound round rounds each in
    round-groups k (head_of round) (line + 1) round.groups (groups_of_rounds (k + 1) next rounds) before is.listed.some_groups
    ∙ rounds-groups (k + 1) next rounds (before ++ taken_round round ∷ []) (All-tail IsSheetRound round rounds each)
    ∙ append_assoc before (taken_round round ∷ []) (map taken_round rounds)

-- ---- their numbers

numbers-from : (event : Event) (number : ℕ) (groups : List (List (List Turn))) → number + length groups < 2 ^ 64 → HaveNumbers (taken_from event number groups)
numbers-from event number [] few = All-nil (λ (set : ScrambleSet). IsNumber set.number)
numbers-from event number (group ∷ groups) few =
    All-cons (λ (set : ScrambleSet). IsNumber set.number) (taken_set event number group) (taken_from event (number + 1) groups)
    (IsNumber-decimal (number + 1) (omega arith)) (numbers-from event (number + 1) groups (omega arith))

pub rounds-numbers : (rounds : List SheetRound) → All IsSheetRound rounds → All RoundHasNumbers (map taken_round rounds)
rounds-numbers [] each = All-nil RoundHasNumbers
rounds-numbers (round ∷ rounds) each =
    let is = All-head IsSheetRound round rounds each in
    let few : 0 + length round.groups < 2 ^ 64 = omega (arith, is.listed.few_groups) in
    All-cons RoundHasNumbers (taken_round round) (map taken_round rounds) (numbers-from round.event 0 round.groups few)
    (rounds-numbers rounds (All-tail IsSheetRound round rounds each))

-- ---- what code does

pub last-pushed : {E : Type 0} (result : Result (Unit {0}) E) (old before new : List EventSets) (last changed : EventSets) (set : ScrambleSet) → old ≡ before ++ last ∷ [] →
    changed ≡ record { event = last.event; sets = last.sets ++ set ∷ [] } → OnOk result (new ≡ before ++ changed ∷ []) →
    OnOk result (new ≡ with_last old set)
last-pushed (Ok done) old before new last changed set old_is changed_is new_is =
    new_is ∙ ap (λ r. before ++ r ∷ []) changed_is ∙ sym (with_last-snoc before last set) ∙ ap (λ l. with_last l set) (sym old_is)
last-pushed (Err why) old before new last changed set old_is changed_is new_is = new_is
