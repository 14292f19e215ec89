-- What a check of an input must end with, where nothing hinders it.
use Rattle.std.proofs.Common.{◌≡◌, ℕ, true, List, [], ◌++◌, Ok, Err, inl, inr, refl, sym, ap, subst, ◌∙◌}
use Rattle.std.specs.Prelude.{Option, Some, None, Result}
use Rattle.scr_outside.specs.Bytes.{put_back, IsSpent}
use Rattle.scr_outside.specs.Change.{Change}
use Rattle.scr_check.specs.Lines.{cut_lines}
use Rattle.scr_check.specs.Parts.{sheet_part}
use Rattle.scr_text_laws.proofs.CheckLemmas.{one-answer}
use Rattle.arrayvec.specs.ArrayVec.{ArrayVec}
use Rattle.scr_list.specs.declared.fault.ListFault.{ListFault}
use Rattle.scr_list.specs.declared.round.Round.{Round}
use Rattle.scr_list.specs.RoundLists.{IsRounds}
use Rattle.scr_list.specs.Rounds.{rounds_of}
use Rattle.scr_list.proofs.RoundFacts.{answer-IsRounds}
use Rattle.scr_command.specs.declared.command.Command.{Command}
use Rattle.scr_command.specs.declared.command.UsageFault.{UsageFault}
use Rattle.scr_table.specs.declared.fault.BuildFault.{BuildFault}
use Rattle.scr_table.specs.declared.fault.BuildFault.TheVariants as build
use Rattle.scr_slots.specs.declared.settings.Settings.{Settings}
use Rattle.scr_fault.specs.declared.fault.Fault.{Fault}
use Rattle.scr_fault.specs.declared.status.Status.{Status}
use Rattle.scr_fault.specs.Faults.{fault_of_build}
use Rattle.std.specs.Result.{result_map_both}
use Rattle.scr_fault.specs.Faults.{fault_of_check}
use Rattle.scr_sheet.specs.Check.{InputComesTo, expected_lines, ReadsInput, EndsChecking, rounds_in}
use Rattle.scr_fault.specs.Status.{status_of}
use Rattle.scr_sheet.specs.Outcome.{Ends}
use Rattle.scr_run_laws.proofs.CheckLaws.{EndsCheck}
use Rattle.scr_run_laws.specs.Task.{IsUnhinderedCheck, EndsWith}
use Rattle.scr_run_laws.proofs.RunLaws.{EndsTelling-same}
use Rattle.scr_sheet.proofs.SheetLineLaws.{lines-lawful}

-- rounds that a list names are rounds that lists can name
pub named-rounds : (bytes : List ℕ) (rounds : List Round) → rounds_of bytes ≡ Ok rounds → IsRounds rounds
named-rounds bytes rounds is =
    let named : ArrayVec Round = record { items = rounds } in
    answer-IsRounds bytes (Ok named) (sym is)

-- an input comes to one end
comes-one : (settings : Settings) (rounds : Result (List Round) ListFault) (input : List ℕ) (one other : Result (Unit {0}) Fault)
    → ((named : List Round) → rounds ≡ Ok named → IsRounds named) → InputComesTo settings rounds input one
    → InputComesTo settings rounds input other → one ≡ other
comes-one settings (Err list) input one other valid first second = first ∙ sym second
comes-one settings (Ok rounds) input one other valid first second =
    let same = one-answer (expected_lines settings rounds) (lines-lawful settings rounds (valid rounds refl)) (cut_lines (sheet_part input)) first.0 second.0
    first.1 second.1 in
    first.2 ∙ ap (result_map_both (λ done. done) fault_of_check) same ∙ sym second.2

-- what was read of an input that is told whole tells it of this input
left_of : (input bytes : List ℕ) (left : Option (List ℕ)) → Some input ≡ put_back bytes left
    → (rest : List ℕ) × (left ≡ Some rest) × (input ≡ bytes ++ rest)
left_of input bytes None is = let none : ⊥ = cc in absurd none
left_of input bytes (Some rest) is = (rest, refl, let whole : input ≡ bytes ++ rest = cc in whole)

told-whole : (source : Change) (input : List ℕ) {Tells : List ℕ → Type 0} → source.bytes_before ≡ Some input
    → ReadsInput source Tells → Tells input
told-whole source input {Tells} told reads =
    let left = left_of input reads.bytes source.bytes_after (sym told ∙ reads.gives.given) in
    let spent : reads.ended ≡ true → left.0 ≡ [] = λ ended. subst IsSpent left.1 (reads.end ended).spent in
    subst Tells (sym left.2) (reads.tells left.0 spent)

-- tables that could not be built
lacks-ends : (why : BuildFault) (answer : Result (Unit {0}) Fault) (wanted : Status) → answer ≡ Err (fault_of_build why)
    → EndsWith (status_of answer) wanted
lacks-ends build.NoMemory answer wanted is = inr (inl (ap status_of is))
lacks-ends (build.Gap table index) answer wanted is = inr (inr (ap status_of is))

pub check-ends : {words : List (List ℕ)} {outcome : Status} {source out err : Change} {settings : Settings} {input : List ℕ}
    → (run : IsUnhinderedCheck words outcome source out err settings input) → (answer : Result (Unit {0}) Fault)
    → InputComesTo settings (rounds_in input) input answer → EndsWith outcome (status_of answer)
check-ends {source = source} {out = out} {settings = settings} {input = input} run answer comes =
    rw run.run.answer
    (elim run.run.performed.ends [
      | inl ends ↦
          let P : Result Command UsageFault → Type 0 = λ asked. Ends asked source out run.run.ended in
          ended (rw run.is (subst P run.asks ends))
      | inr wanting ↦ inr (inl (ap status_of wanting.1.0))
    ])
  where
    checked : (found : Result (Unit {0}) Fault) → EndsChecking settings source found
        → EndsWith (status_of found) (status_of answer)
    checked found (inl reads) =
        inl (ap status_of (comes-one settings (rounds_in input) input found answer (λ named is. named-rounds _ named is)
        (told-whole source input run.told reads) comes))
    checked found (inr (inl lacks)) = lacks-ends lacks.3.0 found (status_of answer) lacks.3.2
    checked found (inr (inr unread)) = absurd (run.read unread.1.rose)

    ended : EndsCheck settings source out run.run.ended → EndsWith (status_of run.run.ended) (status_of answer)
    ended ends =
        let same = EndsTelling-same ends.0 _ out run.run.ended run.written ends.2 in
        rw same (checked ends.0 ends.1)
