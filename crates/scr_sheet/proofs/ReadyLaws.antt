-- How runs end by what was got ready for them.
use Rattle.std.proofs.Common.{◌≡◌, ℕ, ◌≤◌, List, [], ◌∷◌, All, map, Ok, Err, inl, inr, refl, ap, subst, ◌∙◌, arith}
use Rattle.std.specs.Prelude.{Result, IfOk, IfErr, Option}
use Rattle.scr_outside.specs.Change.{Change}
use Rattle.scr_outside.proofs.ChangeLemmas.{Gains-nothing}
use Rattle.scr_command.specs.Command.{usual_options}
use Rattle.scr_notation.specs.declared.event.Event.{Event}
use Rattle.scr_notation.specs.Event.{greatest_of}
use Rattle.scr_slots.specs.declared.settings.Settings.{Settings}
use Rattle.scr_slots.specs.Events.{scrambling_of}
use Rattle.scr_slots.specs.Slots.{IsDrawnFairly}
use Rattle.scr_slots.specs.Tables.{IsBuildCause, HasTables}
use Rattle.scr_table.specs.declared.fault.BuildFault.{BuildFault}
use Rattle.scr_table.specs.declared.fault.BuildFault.TheVariants as build
use Rattle.scr_fault.specs.declared.fault.Fault.{Fault}
use Rattle.scr_fault.specs.Faults.{fault_of_build}
use Rattle.scr_sheet.specs.Load.{load_seed, load_rounds}
use Rattle.scr_sheet.specs.Outcome.{EndsParts, EndsMaking, EndsLoad, Stops}
use Rattle.scr_sheet.specs.Ready.{IsUnready, EndsAfter}
use Rattle.scr_sheet.specs.Sheet.{Part, settings_of, round_parts, single_part}
use Rattle.scr_sheet.specs.Sizes.{EndsSized}
use Rattle.scr_sheet.proofs.SingleLaws.{single-making}

-- parts are drawn fairly
abbrev AreFair : List Part → Type 0
AreFair parts = All (λ part. IsDrawnFairly (scrambling_of part.event) part.least) parts

abbrev events_of : List Part → List Event
events_of parts = map (λ part. part.event) parts

-- not got ready, so not made
unready-ends : (settings : Settings) (parts : List Part) (why : BuildFault) (out : Change) (ended : Result (Unit {0}) Fault)
    → IsUnready (events_of parts) why → Stops (fault_of_build why) out ended
    → EndsMaking settings parts out ended
unready-ends settings parts why out ended (inl cause) stops = inr (inl (why, cause, stops.0), stops.1)
unready-ends settings parts why out ended (inr same) stops = inr (inr (stops.0 ∙ ap (λ w. Err (fault_of_build w)) same), stops.1)

pub making-ready : {X : Type 0} (ready : Result X BuildFault) (settings : Settings) (parts : List Part) (out : Change) (ended : Result (Unit {0}) Fault)
    → IfOk ready (λ _. AreFair parts) → IfErr ready (IsUnready (events_of parts))
    → EndsAfter ready (EndsParts settings 0 parts) out ended → EndsMaking settings parts out ended
making-ready (Ok got) settings parts out ended fair cause ends = inl (fair, ends)
making-ready (Err why) settings parts out ended fair cause ends = unready-ends settings parts why out ended cause ends

-- of the tables of one event
pub single-ready : {X : Type 0} (tables : Result X BuildFault) (settings : Settings) (event : Event) (side : Option ℕ) (out : Change) (ended : Result (Unit {0}) Fault)
    → IfOk tables (λ _. (least : ℕ) → least ≤ greatest_of event → IsDrawnFairly (scrambling_of event) least)
    → IfErr tables (IsBuildCause (event ∷ []))
    → EndsAfter tables (EndsParts settings 0 (single_part event side ∷ [])) out ended
    → EndsMaking settings (single_part event side ∷ []) out ended
single-ready (Ok got) settings event side out ended fair cause ends = single-making settings event side (fair 0 (omega arith)) ends
single-ready (Err why) settings event side out ended fair cause ends = inr (inl (why, cause, ends.0), ends.1)

-- memory is wanting for them only where there is a table
pub wants-tables : {X : Type 0} (tables : Result X BuildFault) (event : Event) → IfErr tables (IsBuildCause (event ∷ []))
    → tables ≡ Err build.NoMemory → HasTables event
wants-tables tables event cause is = subst (λ t. IfErr t (IsBuildCause (event ∷ []))) is cause

-- of a list that follows from a number
pub load-ready : {X : Type 0} (ready : Result X BuildFault) (number : ℕ) (out : Change) (ended : Result (Unit {0}) Fault)
    → IfOk ready (λ _. AreFair (round_parts 0 (load_rounds number)))
    → IfErr ready (IsUnready (events_of (round_parts 0 (load_rounds number))))
    → EndsAfter ready (EndsSized (settings_of (load_seed number) usual_options) (load_rounds number)) out ended
    → EndsLoad number out ended
load-ready (Ok got) number out ended fair cause ends = grind arith
load-ready (Err why) number out ended fair cause ends = record {
  sheet = [];
  made = Err (fault_of_build why);
  making = unready-ends (settings_of (load_seed number) usual_options) (round_parts 0 (load_rounds number)) why _ _ cause (refl, Gains-nothing);
  told = ends;
}
