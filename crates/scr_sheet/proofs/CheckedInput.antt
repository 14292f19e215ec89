-- The check of an input, as a reader reads it.
use Rattle.std.proofs.Common.{◌≡◌, ℕ, ◌<◌, ◌≤◌, Bool, true, false, cond, List, [], ◌∷◌, ◌++◌, length, take, Ok, Err, inl, inr, refl, sym, ap, subst, ◌∙◌, arith, append_assoc, length-take-le, rules}
use Rattle.std.specs.Prelude.{Option, Result, codes, IsTrue, All, Contains, filter, ◌↔◌}
use Rattle.std.proofs.lemmas.Bool.{cases_lt}
use Rattle.std.proofs.lemmas.List.Elements.{All-nil, All-cons, All-head, All-tail}
use Rattle.std.proofs.lemmas.List.Sums.{length-filter, count_by-le-length}
use Rattle.scr_outside.specs.Change.{Change, intake_of, Gives, TellsEnd}
use Rattle.scr_outside.specs.Bytes.{put_back}
use Rattle.scr_check.specs.declared.fault.CheckFault.{CheckFault}
use Rattle.scr_check.specs.declared.fault.CheckFault.TheVariants as check
use Rattle.scr_check.specs.Agreement.{ComesTo}
use Rattle.scr_check.specs.Lines.{cut_lines}
use Rattle.scr_check.specs.Parts.{list_part, sheet_part, list_room}
use Rattle.scr_check.specs.Reading.{Reading, Takes, StopsShort, fresh}
use Rattle.scr_check.specs.Taken.{CanFollow, ChecksSheet, TakesSheet}
use Rattle.scr_check.proofs.ReadingLemmas.{Takes-append, StopsShort-after}
use Rattle.scr_list.specs.declared.fault.ListFault.{ListFault}
use Rattle.scr_list.specs.declared.fault.ListFault.TheVariants as list
use Rattle.scr_list.specs.declared.round.Round.{Round}
use Rattle.scr_list.specs.Rounds.{rounds_of}
use Rattle.scr_list.proofs.RoundFacts.{most_bytes-le}
use Rattle.scr_list.proofs.RoundLemmas.{rounds_of-long}
use Rattle.scr_notation.specs.declared.event.Event.{Event}
use Rattle.scr_notation.specs.EventSets.{Has}
use Rattle.scr_slots.specs.declared.settings.Settings.{Settings}
use Rattle.scr_notation.specs.Event.{is_tested_by_table}
use Rattle.scr_sheet.specs.declared.check.Tests.{Tests}
use Rattle.scr_sheet.specs.Outcome.{EndsTelling}
use Rattle.scr_sheet.specs.Ready.{ReadsTests, EndsHolding}
use Rattle.scr_fault.specs.declared.fault.Fault.{Fault}
use Rattle.scr_fault.specs.declared.fault.Fault.TheVariants as fault
use Rattle.scr_sheet.specs.Causes.{LacksTables}
use Rattle.std.specs.Result.{result_map_both}
use Rattle.scr_fault.specs.Faults.{fault_of_check}
use Rattle.scr_sheet.specs.Check.{expected_lines, rounds_in, InputComesTo, ReadsInput, EndsChecking, tested_events, TakesList, ReadsListPart, TakesInput, EndsReading}
use Rattle.scr_sheet.proofs.FairParts.{each_asked}

-- what a check found, as the end of a run
abbrev pub end_of_check : Result (Unit {0}) CheckFault → Result (Unit {0}) Fault
end_of_check found = result_map_both (λ done. done) fault_of_check found

-- a list that names rounds isn't too long
listed-short : (bytes : List ℕ) (rounds : List Round) → rounds_of bytes ≡ Ok rounds → length bytes < list_room
listed-short bytes rounds is = grind (arith, most_bytes-le, cases_lt, rounds_of-long)

-- ---- by a reader

module _ {S : Type 0} (left : S → Option (List ℕ)) (faults ends : S → ℕ) where
  -- a list part that names rounds, of an input that may follow, tells these rounds
  told-rounds : {list : List ℕ} {answer : Result (List Round) ListFault} (input : List ℕ)
      → take list_room (list_part input) ≡ list → rounds_of list ≡ answer → rounds_in input ≡ answer
  told-rounds input is says = ap rounds_of is ∙ says

  pub takes-rounds : {before after : Reading S} {answer : Result (List Round) ListFault}
      → TakesList left faults ends before after answer
      → TakesInput left faults ends before after (λ input. rounds_in input ≡ answer)
  takes-rounds taken = record {
    bytes = taken.takes.bytes;
    takes = taken.takes.takes;
    tells = λ rest follows. told-rounds (taken.takes.bytes ++ rest) (taken.takes.split rest follows).list_is taken.says;
  }

  -- a list part that is no list
  takes-refusal : (settings : Settings) {before after : Reading S} (refusal : ListFault)
      → TakesList left faults ends before after (Err refusal)
      → EndsReading left faults ends before after settings (Err (fault.List refusal))
  takes-refusal settings refusal taken = grind (arith, takes-rounds)

  pub refused-list : (settings : Settings) (before after : Reading S) (refusal : ListFault)
      → ReadsListPart left faults ends before after (Err refusal)
      → EndsReading left faults ends before after settings (Err (fault.List refusal))
  refused-list settings before after list.Read stops = inr (inr (refl, stops))
  refused-list settings before after (list.TooLong limit) taken = takes-refusal settings (list.TooLong limit) taken
  refused-list settings before after (list.Line number cause) taken = takes-refusal settings (list.Line number cause) taken

  -- tables that could not be built
  pub lacks-tests : (settings : Settings) (before after : Reading S) (rounds : List Round) (answer : Result (Unit {0}) Fault)
      → ReadsListPart left faults ends before after (Ok rounds) → length after.ahead ≤ 4096 → LacksTables (tested_events rounds) answer
      → EndsReading left faults ends before after settings answer
  lacks-tests settings before after rounds answer taken few lacks = inr (inl (rounds, taken, few, lacks))

  -- what may follow both of two takings follows the first with the second
  both-follow : {b c : Reading S} {ys : List ℕ} → Takes left faults ends b c ys → (rest : List ℕ)
      → CanFollow c.ended rest → CanFollow b.ended (ys ++ rest)
  both-follow {b} {c} {ys} second rest follows ended = grind arith

  -- a sheet that was held against the lines of a list's sheet
  takes-sheet : (settings : Settings) (a b c : Reading S) (rounds : List Round) (found : Result (Unit {0}) CheckFault)
      → ReadsListPart left faults ends a b (Ok rounds)
      → TakesSheet left faults ends b c (expected_lines settings rounds) found
      → TakesInput left faults ends a c (λ input. InputComesTo settings (rounds_in input) input (end_of_check found))
  takes-sheet settings a b c rounds found taken sheet = record {
    bytes = taken.takes.bytes ++ sheet.bytes;
    takes = Takes-append left faults ends taken.takes.takes sheet.takes;
    tells = λ rest follows.
        let input = taken.takes.bytes ++ (sheet.bytes ++ rest) in
        let split = taken.takes.split (sheet.bytes ++ rest) (both-follow sheet.takes rest follows) in
        let named : rounds_in input ≡ Ok rounds = told-rounds input split.list_is taken.says in
        let behind : sheet_part input ≡ sheet.bytes ++ rest = split.sheet_is (listed-short taken.list rounds taken.says) in
        let comes = sheet.comes_to rest follows in
        let Comes : List ℕ → Type 0 = λ text. ComesTo (expected_lines settings rounds) (cut_lines text) found in
        let told : InputComesTo settings (Ok rounds) input (end_of_check found) = (found, subst Comes (sym behind) comes, refl) in
        let whole : input ≡ (taken.takes.bytes ++ sheet.bytes) ++ rest = sym (append_assoc taken.takes.bytes sheet.bytes rest) in
        subst (λ text. InputComesTo settings (rounds_in text) text (end_of_check found)) whole
        (subst (λ r. InputComesTo settings r input (end_of_check found)) (sym named) told);
  }

  pub checked-sheet : (settings : Settings) (a b c : Reading S) (rounds : List Round) (found : Result (Unit {0}) CheckFault)
      → ReadsListPart left faults ends a b (Ok rounds)
      → ChecksSheet left faults ends b c (expected_lines settings rounds) found
      → EndsReading left faults ends a c settings (end_of_check found)
  checked-sheet settings a b c rounds (Ok u) taken checked = inl (takes-sheet settings a b c rounds (Ok u) taken checked.0)
  checked-sheet settings a b c rounds (Err (check.Differs line)) taken checked =
      inl (takes-sheet settings a b c rounds (Err (check.Differs line)) taken checked)
  checked-sheet settings a b c rounds (Err (check.Limit missing)) taken checked =
      inl (takes-sheet settings a b c rounds (Err (check.Limit missing)) taken checked)
  checked-sheet settings a b c rounds (Err check.Read) taken stops =
      inr (inr (
        refl,
        record {
          bytes = taken.takes.bytes ++ stops.bytes;
          stops = StopsShort-after left faults ends taken.takes.takes stops.stops;
        },
      ))

  -- what a check ends with that is handed the rounds and their tables, or why they were not got
  pub holds-tests : (settings : Settings) (a b c : Reading S) (tests : Result Tests Fault) (out : Change) (ended : Result (Unit {0}) Fault)
      → ReadsTests left faults ends a b tests → EndsHolding left faults ends b c settings tests out ended
      → (answer : Result (Unit {0}) Fault) × EndsReading left faults ends a c settings answer × EndsTelling answer (codes "agrees\n") out ended
  holds-tests settings a b c (Ok tests) out ended read (found, checked, told) =
      (end_of_check found, checked-sheet settings a b c tests.rounds.items found read checked, told)
  holds-tests settings a b c (Err why) out ended (inl (refusal, listed, is)) (same, stops) =
      let Ends : Fault → Reading S → Type 0 = λ f after. EndsReading left faults ends a after settings (Err f) in
      (Err why, subst (Ends why) (sym same) (subst (λ f. Ends f b) (sym is) (refused-list settings a b refusal listed)), stops)
  holds-tests settings a b c (Err why) out ended (inr (rounds, listed, few, lacks)) (same, stops) =
      let Ends : Reading S → Type 0 = λ after. EndsReading left faults ends a after settings (Err why) in
      (Err why, subst Ends (sym same) (lacks-tests settings a b rounds (Err why) listed few lacks), stops)

  -- ---- by the source of a new reader

  -- what was taken, and what was read ahead, the source gave
  reads-taken : (source : S) (after : Reading S) {Tells : List ℕ → Type 0}
      → ((bytes : List ℕ) → Takes left faults ends (fresh source) after bytes → Gives (intake_of left faults ends source after.source) (bytes ++ after.ahead))
      → ((bytes : List ℕ) → Takes left faults ends (fresh source) after bytes → after.ended ≡ true → TellsEnd (intake_of left faults ends source after.source) × (after.ahead ≡ []))
      → TakesInput left faults ends (fresh source) after Tells
      → ReadsInput (intake_of left faults ends source after.source) Tells
  reads-taken source after {Tells} gives end taken = record {
    bytes = taken.bytes ++ after.ahead;
    ended = after.ended;
    gives = gives taken.bytes taken.takes;
    end = λ ended. (end taken.bytes taken.takes ended).0;
    no_end = λ unended. taken.takes.no_end unended;
    tells = λ rest follows.
        subst Tells (sym (append_assoc taken.bytes after.ahead rest))
        (taken.tells (after.ahead ++ rest) (λ ended. ap (λ x. x ++ rest) (end taken.bytes taken.takes ended).1 ∙ follows ended));
  }

  -- where no more was taken than the list part, and few bytes were read ahead, few of the sheet part were read
  reads-list : (source : S) (after : Reading S) {named : List Round}
      → ((bytes : List ℕ) → Takes left faults ends (fresh source) after bytes → Gives (intake_of left faults ends source after.source) (bytes ++ after.ahead))
      → ((bytes : List ℕ) → Takes left faults ends (fresh source) after bytes → after.ended ≡ true → TellsEnd (intake_of left faults ends source after.source) × (after.ahead ≡ []))
      → TakesList left faults ends (fresh source) after (Ok named) → length after.ahead ≤ 4096
      → (read : ReadsInput (intake_of left faults ends source after.source) (λ input. rounds_in input ≡ Ok named))
      × (length (sheet_part read.bytes) ≤ 4096)
  unfolding reads-taken takes-rounds
  reads-list source after {named} gives end taken few =
      let bytes = taken.takes.bytes in
      let nothing : after.ended ≡ true → after.ahead ≡ [] = λ ended. (end bytes taken.takes.takes ended).1 in
      let sheet = (taken.takes.split after.ahead nothing).sheet_is (listed-short taken.list named taken.says) in
      (reads-taken source after gives end (takes-rounds taken), subst (λ s. length s ≤ 4096) (sym sheet) few)

  pub ends-reading : (settings : Settings) (source : S) (after : Reading S) (answer : Result (Unit {0}) Fault)
      → ((bytes : List ℕ) → Takes left faults ends (fresh source) after bytes → Gives (intake_of left faults ends source after.source) (bytes ++ after.ahead))
      → ((bytes : List ℕ) → Takes left faults ends (fresh source) after bytes → after.ended ≡ true → TellsEnd (intake_of left faults ends source after.source) × (after.ahead ≡ []))
      → ((bytes : List ℕ) → StopsShort left faults ends (fresh source) after bytes → left source ≡ put_back (bytes ++ after.ahead) (left after.source))
      → EndsReading left faults ends (fresh source) after settings answer
      → EndsChecking settings (intake_of left faults ends source after.source) answer
  ends-reading settings source after answer gives end gave (inl taken) = inl (reads-taken source after gives end taken)
  ends-reading settings source after answer gives end gave (inr (inl lacks)) =
      let read = reads-list source after gives end lacks.1 lacks.2 in inr (inl (lacks.0, read.0, read.1, lacks.3))
  ends-reading settings source after answer gives end gave (inr (inr (is, stops))) = grind arith

-- ---- the rounds that are tested by tables

-- where those that pass a test have a property, each element that passes has it
passing-next : {X : Type 0} (p : X → Bool) (P : X → Type 0) (x : X) (xs : List X) (b : Bool) → p x ≡ b
    → (All P (filter p xs) → All (λ y. IsTrue (p y) → P y) xs) → All P (cond b (x ∷ filter p xs) (filter p xs))
    → All (λ y. IsTrue (p y) → P y) (x ∷ xs)
passing-next p P x xs true is rest own =
    All-cons (λ y. IsTrue (p y) → P y) x xs (λ passes. All-head P x (filter p xs) own) (rest (All-tail P x (filter p xs) own))
passing-next p P x xs false is rest own = grind (arith, All-cons)

passing : {X : Type 0} (p : X → Bool) (P : X → Type 0) (xs : List X) → All P (filter p xs)
    → All (λ x. IsTrue (p x) → P x) xs
passing p P [] all = All-nil (λ x. IsTrue (p x) → P x)
passing p P (x ∷ xs) all = passing-next p P x xs (p x) refl (passing p P xs) all

pub each_tested : (events : List Bool) (rounds : List Round)
    → ((event : Event) → Has events event ↔ Contains (tested_events rounds) event)
    → All (λ (round : Round). IsTrue (is_tested_by_table round.event) → Has events round.event) rounds
each_tested events rounds same = search (arith, rules, passing, each_asked)

-- so few are tested
pub tested-few : (p : Round → Bool) (rounds : List Round) (i : ℕ) → i < length rounds
    → length (filter p (take i rounds)) < length rounds
tested-few p rounds i below = grind (arith, length-filter, count_by-le-length, length-take-le)
