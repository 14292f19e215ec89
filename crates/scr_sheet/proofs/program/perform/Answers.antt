use Rattle.std.proofs.Common.{◌≡◌, ℕ, List, rules, Ok, Err, inl, inr, refl, sym, ap, ◌∙◌, subst}
use Rattle.std.specs.Prelude.{Result, None}
use Rattle.std.proofs.lemmas.Result.{err_from_is_err_and}
use Rattle.scr_outside.specs.Change.{Change, intake_of}
use Rattle.scr_outside.proofs.ChangeLemmas.{Gains-nothing}
use Rattle.scr_check.specs.Reading.{reading}
use Rattle.scr_command.specs.declared.command.Command.{Command}
use Rattle.scr_command.specs.Command.{command_of}
use Rattle.scr_fault.specs.declared.fault.Fault.{Fault}
use Rattle.scr_fault.specs.declared.fault.Fault.TheVariants as fault
use Rattle.scr_sheet.specs.Check.{EndsChecking, check_settings}
use Rattle.scr_sheet.specs.Outcome.{Ends, IsPerformed, TakesMemory}
use Rattle.scr_sheet.specs.Ready.{ReadsTests}
use Rattle.scr_sheet.proofs.CheckedInput.{holds-tests, ends-reading}
use Rattle.scr_sheet.proofs.ReadyLaws.{making-ready, single-ready, wants-tables, load-ready}
use Rattle.scr_sheet.proofs.program.perform.Goals as goal

-- words that are a command
by_command : {words : List (List ℕ)} {read command : Command} {source out : Change} {ended : Result (Unit {0}) Fault}
    → command_of words ≡ Ok read → read ≡ command → Ends (Ok command) source out ended
    → (ended ≡ Err fault.NoMemory → TakesMemory (Ok command)) → IsPerformed words source out ended
by_command asks is ends memory = record { ends = inl (rw (asks, is) ends); memory = λ wanting. inr (rw (asks, is) (memory wanting)) }

pub returns-in-One : goal.returns-in-One
returns-in-One g c =
    let tables = c.of_event-tables in
    by_command c.in_ok-event.ensures.answer c.in-One.is (
      record { bytes = refl; faults = refl; ends = refl },
      single-ready tables.result _ c.in-One.event None _ _ tables.ensures.fair tables.ensures.cause c.write_single.ensures.ends,
    )
    (λ wanting. wants-tables tables.result c.in-One.event tables.ensures.cause (c.write_single.ensures.memory wanting))

pub returns-in_err-rounds-in-Sheet : goal.returns-in_err-rounds-in-Sheet
returns-in_err-rounds-in-Sheet g c =
    let p = err_from_is_err_and c.from_residual-in_err-rounds-in-Sheet.result c.from_residual-in_err-rounds-in-Sheet.ensures.1 in
    by_command c.in_ok-event.ensures.answer c.in-Sheet.is
    (inr (c.in_err-rounds-in-Sheet.field-0.0, c.in_err-rounds-in-Sheet.ensures.fault, (p.1 ∙ ap Err p.2, Gains-nothing))) (λ wanting. tt)

pub returns-in_ok-rounds-in-Sheet : goal.returns-in_ok-rounds-in-Sheet
returns-in_ok-rounds-in-Sheet g c =
    let ready = c.for_rounds-ready in
    by_command c.in_ok-event.ensures.answer c.in-Sheet.is
    (inl (
      c.in_ok-rounds-in-Sheet.rounds.items,
      c.in_ok-rounds-in-Sheet.ensures.read,
      making-ready ready.result _ _ _ _ (rw c.deref.ensures.0 at ready.ensures.fair) (rw c.deref.ensures.0 at ready.ensures.cause)
          (rw c.deref-in-Sheet.ensures.0 at c.write_sheet.ensures.ends),
    ))
    (λ wanting. tt)

pub returns-in-Tables : goal.returns-in-Tables
returns-in-Tables g c =
    by_command c.in_ok-event.ensures.answer c.in-Tables.is (record { bytes = refl; faults = refl; ends = refl }, c.write_event_tables.ensures.ends)
    c.write_event_tables.ensures.memory

pub returns-in-Net : goal.returns-in-Net
returns-in-Net g c =
    let tables = c.of_event-tables-in-Net in
    by_command c.in_ok-event.ensures.answer c.in-Net.is (
      record { bytes = refl; faults = refl; ends = refl },
      rw (sym c.net_side.ensures.value)
          (single-ready tables.result _ c.in-Net.event c.net_side.result _ _ tables.ensures.fair tables.ensures.cause c.write_single-in-Net.ensures.ends),
    )
    (λ wanting. wants-tables tables.result c.in-Net.event tables.ensures.cause (c.write_single-in-Net.ensures.memory wanting))

pub returns-in-Load : goal.returns-in-Load
returns-in-Load g c =
    let ready = c.for_rounds-ready-in-Load in
    let rounds = c.load_rounds-rounds.ensures.rounds in
    let first = c.deref-in-Load.ensures.0 in
    let second = c.deref-in-Load-2.ensures.0 in
    by_command c.in_ok-event.ensures.answer c.in-Load.is (
      record { bytes = refl; faults = refl; ends = refl },
      load-ready ready.result c.in-Load.number _ _ (rw (first, rounds) at ready.ensures.fair) (rw (first, rounds) at ready.ensures.cause)
          (rw (second, rounds, c.load_seed.ensures) at c.write_load.ensures.ends),
    )
    (λ wanting. tt)

pub returns-in-Check : goal.returns-in-Check
returns-in-Check g c =
    let left = g.S.Source.left in
    let faults = g.S.Source.faults in
    let ends = g.S.Source.ends in
    let settings = check_settings c.in-Check.seed c.in-Check.attempts in
    let middle = reading c.tests_of_list-tests.new.reader in
    let after = reading c.write_check.new.reader in
    let read = subst (λ before. ReadsTests left faults ends before middle c.tests_of_list-tests.result) c.new-reader.ensures.fresh c.tests_of_list-tests.ensures.read in
    let held = holds-tests left faults ends settings _ middle after c.tests_of_list-tests.result _ _ read c.write_check.ensures.ends in
    let checked = ends-reading left faults ends settings c.args.source.now after held.0 (c.what_the_source_gave.ensures.gives after)
    (c.what_the_source_gave.ensures.end after) (c.what_the_source_gave.ensures.gave after) held.1 in
    by_command c.in_ok-event.ensures.answer c.in-Check.is
    (held.0, subst (λ s. EndsChecking settings (intake_of left faults ends c.args.source.now s) held.0) (search rules) checked, held.2)
    (λ wanting. tt)
