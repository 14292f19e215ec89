-- What follows from how a run ended: what it told, and what a count of faults that rose means.
use Rattle.std.proofs.Common.{◌≡◌, ◌⊎◌, ℕ, ◌<◌, List, [], ◌∷◌, Ok, Err, inl, inr, refl, sym, ap, subst, ◌∙◌, arith}
use Rattle.std.specs.Prelude.{Result}
use Rattle.scr_outside.specs.Change.{Change, IsUnchanged, Gains, Falters}
use Rattle.scr_notation.specs.declared.event.Event.{Event}
use Rattle.scr_list.specs.declared.fault.ListFault.{ListFault}
use Rattle.scr_list.specs.declared.fault.ListFault.TheVariants as list
use Rattle.scr_list.specs.Reading.{ReadsNoList}
use Rattle.scr_command.specs.declared.command.Command.{Command}
use Rattle.scr_command.specs.declared.command.Command.TheVariants.{One, Sheet, Tables, Load, Net, Check}
use Rattle.scr_command.specs.declared.command.UsageFault.{UsageFault}
use Rattle.scr_command.specs.Command.{command_of, HasOptions}
use Rattle.scr_table.specs.declared.fault.BuildFault.{BuildFault}
use Rattle.scr_table.specs.declared.fault.BuildFault.TheVariants as build
use Rattle.scr_table_text.specs.TableText.{IsTablesText}
use Rattle.scr_slots.specs.declared.settings.Settings.{Settings}
use Rattle.scr_slots.specs.Tables.{tables_for}
use Rattle.scr_fault.specs.declared.fault.Fault.{Fault}
use Rattle.scr_fault.specs.declared.fault.Fault.TheVariants as fault
use Rattle.scr_fault.specs.declared.status.Status.{Status}
use Rattle.scr_fault.specs.declared.status.Status.TheVariants as status
use Rattle.scr_sheet.specs.Sheet.{Part}
use Rattle.scr_fault.specs.Status.{status_of}
use Rattle.scr_sheet.specs.Outcome.{EndsParts, EndsMaking, EndsTables, EndsTelling, Ends, IsUnwritten, IsRun, Tells, TakesMemory}
use Rattle.scr_fault.specs.Faults.{fault_of_build}
use Rattle.scr_sheet.specs.Causes.{LacksTables}
use Rattle.scr_run_laws.proofs.StatusLaws.{end-of}
use Rattle.scr_run_laws.proofs.CheckLaws.{check-input}

-- a count that stayed didn't rise
stayed : {n m : ℕ} → m ≡ n → n < m → ⊥
stayed same higher = omega (arith, same, higher)

-- a sink that gained a text didn't fail
gained : {out : Change} {text : List ℕ} → Gains out text → out.faults_before < out.faults_after → ⊥
gained gains = stayed gains.no_fault

-- a source that was left alone didn't fail
unchanged : {source : Change} → IsUnchanged source → source.faults_before < source.faults_after → ⊥
unchanged same = stayed same.faults

-- ---- the output

-- an output fault ends the run for just that
abbrev IsOutputFault : Change → Result (Unit {0}) Fault → Type 0
IsOutputFault out ended = out.faults_before < out.faults_after → status_of ended ≡ status.WriteFault

parts-output : (settings : Settings) (k : ℕ) (parts : List Part) (out : Change) (ended : Result (Unit {0}) Fault)
    → EndsParts settings k parts out ended → IsOutputFault out ended
parts-output settings k parts out (Ok u) ends rose = absurd (gained ends.is rose)
parts-output settings k parts out (Err (fault.Usage usage)) ends rose = absurd ends
parts-output settings k parts out (Err (fault.List list)) ends rose = absurd ends
parts-output settings k parts out (Err (fault.DrawLimit missing)) ends rose = absurd (gained ends.is rose)
parts-output settings k parts out (Err fault.Write) ends rose = refl
parts-output settings k parts out (Err fault.NoMemory) ends rose = absurd ends
parts-output settings k parts out (Err (fault.Gap table index)) ends rose = absurd ends
parts-output settings k parts out (Err (fault.Differs line)) ends rose = absurd ends

making-output : (settings : Settings) (parts : List Part) (out : Change) (ended : Result (Unit {0}) Fault)
    → EndsMaking settings parts out ended → IsOutputFault out ended
making-output settings parts out ended making rose =
    elim making [
      | inl made ↦ parts-output settings 0 parts out ended made.1 rose
      | inr lacks ↦ absurd (gained lacks.1 rose)
    ]

telling-output : (made : Result (Unit {0}) Fault) (lines : List ℕ) (out : Change) (ended : Result (Unit {0}) Fault)
    → EndsTelling made lines out ended → IsOutputFault out ended
telling-output (Ok u) lines out (Ok v) told rose = absurd (gained told rose)
telling-output (Ok u) lines out (Err f) told rose = ap (λ g. status_of (Err g)) told.0
telling-output (Err f) lines out ended told rose = absurd (gained told.1 rose)

command-output : (command : Command) (source out : Change) (ended : Result (Unit {0}) Fault)
    → Ends (Ok command) source out ended → IsOutputFault out ended
command-output (One event seed) source out ended ends rose = making-output _ _ out ended ends.1 rose
command-output (Sheet seed options) source out ended (inl ends) rose = making-output _ _ out ended ends.2 rose
command-output (Sheet seed options) source out ended (inr refused) rose = absurd (gained refused.2.1 rose)
command-output (Tables event) source out ended (same, inl ends) rose = telling-output (Ok tt) ends.0 out ended ends.2 rose
command-output (Tables event) source out ended (same, inr lacks) rose = absurd (gained lacks.1 rose)
command-output (Load number) source out ended ends rose = telling-output ends.1.made _ out ended ends.1.told rose
command-output (Net event seed) source out ended ends rose = making-output _ _ out ended ends.1 rose
command-output (Check seed attempts) source out ended ends rose = telling-output ends.0 _ out ended ends.2 rose

-- ---- the input

refused-input : (source : Change) (refusal : ListFault) → ReadsNoList source refusal
    → source.faults_before < source.faults_after → status_of (Err (fault.List refusal)) ≡ status.ReadFault
refused-input source (list.TooLong limit) cause rose = absurd (stayed cause.gives.no_fault rose)
refused-input source (list.Line number why) cause rose = absurd (stayed cause.gives.no_fault rose)
refused-input source list.Read cause rose = refl

command-input : (command : Command) (source out : Change) (ended : Result (Unit {0}) Fault)
    → Ends (Ok command) source out ended → source.faults_before < source.faults_after
    → status_of ended ≡ status.ReadFault
command-input (One event seed) source out ended ends rose = absurd (unchanged ends.0 rose)
command-input (Sheet seed options) source out ended (inl ends) rose = absurd (stayed ends.1.gives.no_fault rose)
command-input (Sheet seed options) source out ended (inr refused) rose = ap status_of refused.2.0 ∙ refused-input source refused.0 refused.1 rose
command-input (Tables event) source out ended ends rose = absurd (unchanged ends.0 rose)
command-input (Load number) source out ended ends rose = absurd (unchanged ends.0 rose)
command-input (Net event seed) source out ended ends rose = absurd (unchanged ends.0 rose)
command-input (Check seed attempts) source out ended ends rose = check-input _ source out ended ends rose

-- ---- a whole run

-- a count that rises only where a command ends for it
module _ (Rises : Change → Change → Type 0) (status_then : Status)
    (command_then : (command : Command) (source out : Change) (ended : Result (Unit {0}) Fault) → Ends (Ok command) source out ended
    → Rises source out → status_of ended ≡ status_then)
    (unmoved : (source out : Change) → IsUnchanged source → IsUnwritten out → Rises source out → ⊥) where
  words-then : (asked : Result Command UsageFault) (source out : Change) (ended : Result (Unit {0}) Fault)
      → Ends asked source out ended → Rises source out → status_of ended ≡ status_then
  words-then (Ok command) source out ended ends rose = command_then command source out ended ends rose
  words-then (Err usage) source out ended ends rose = absurd (unmoved source out ends.0 ends.1.1 rose)

  run-then : (words : List (List ℕ)) (outcome : Status) (source out err : Change) → IsRun words outcome source out err
      → Rises source out → outcome ≡ status_then
  run-then words outcome source out err run rose =
      run.answer
      ∙ elim run.performed.ends as (λ e. status_of run.ended ≡ status_then) [
        | inl ends ↦ words-then (command_of words) source out run.ended ends rose
        | inr wanting ↦ absurd (unmoved source out wanting.0 wanting.1.1 rose)
      ]

pub run-output : (words : List (List ℕ)) (outcome : Status) (source out err : Change)
    → IsRun words outcome source out err → out.faults_before < out.faults_after → outcome ≡ status.WriteFault
run-output =
    run-then (λ source out. out.faults_before < out.faults_after) status.WriteFault command-output (λ source out unread unwritten rose. gained unwritten rose)

pub run-input : (words : List (List ℕ)) (outcome : Status) (source out err : Change)
    → IsRun words outcome source out err → source.faults_before < source.faults_after → outcome ≡ status.ReadFault
run-input =
    run-then (λ source out. source.faults_before < source.faults_after) status.ReadFault command-input (λ source out unread unwritten rose. unchanged unread rose)

-- ---- what is told

told-done : (err : Change) (ended : Result (Unit {0}) Fault) → ended ≡ Ok tt → Tells err ended → IsUnwritten err
told-done err ended is tells = subst (λ e. Tells err e) is tells

pub run-done : (words : List (List ℕ)) (source out err : Change) → IsRun words status.Done source out err
    → IsUnwritten err
run-done words source out err run = told-done err run.ended (end-of status.Done run.ended (sym run.answer)) run.tells

pub run-memory : (words : List (List ℕ)) (source out err : Change) → IsRun words status.NoMemory source out err
    → HasOptions words ⊎ TakesMemory (command_of words)
run-memory words source out err run = run.performed.memory (end-of status.NoMemory run.ended (sym run.answer))

-- the text of tables of which a first part was written
abbrev pub FaltersInTables : Event → Change → Type 0
FaltersInTables event out = (text : List ℕ) × IsTablesText (tables_for (event ∷ [])) text × Falters out text

tables-broken : (event : Event) (out : Change)
    → EndsTables event out (Err fault.Write) ⊎ (LacksTables (event ∷ []) (Err fault.Write) × IsUnwritten out)
    → FaltersInTables event out
tables-broken event out (inl ends) = (ends.0, ends.1, ends.2.1)
tables-broken event out (inr lacks) = absurd (no_write lacks.0.0 lacks.0.2)
  where
    no_write : (why : BuildFault)
        → (let ended : Result (Unit {0}) Fault = Err fault.Write in ended) ≡ Err (fault_of_build why) → ⊥
    no_write build.NoMemory same = cc
    no_write (build.Gap table index) same = cc

pub run-tables : (words : List (List ℕ)) (event : Event) (source out err : Change)
    → command_of words ≡ Ok (Tables event) → IsRun words status.WriteFault source out err → FaltersInTables event out
run-tables words event source out err asks run =
    let P : Result Command UsageFault → Type 0 = λ asked. Ends asked source out run.ended in
    elim run.performed.ends [
      | inl ends ↦
          let broken : run.ended ≡ Err fault.Write = end-of status.WriteFault run.ended (sym run.answer) in
          let Q : Result (Unit {0}) Fault → Type 0 = λ e. EndsTables event out e ⊎ (LacksTables (event ∷ []) e × IsUnwritten out) in
          tables-broken event out (subst Q broken (subst P asks ends).1)
      | inr wanting ↦ let none : status.NoMemory ≡ status.WriteFault = ap status_of (sym wanting.1.0) ∙ sym run.answer in cc
    ]
