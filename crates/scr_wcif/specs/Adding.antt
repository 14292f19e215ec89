-- What calls give and add, beside what the definitions say.
use Rattle.std.specs.Prelude.{◌≡◌, List, ◌++◌, Result, Ok, Err}
use Rattle.std.specs.Result.{result_map_both}
use Rattle.json.specs.Value.{items_view}
use Rattle.scr_host.specs.declared.fault.Fault.{Fault}
use Rattle.scr_host.specs.Faults.{IsOwn}
use Rattle.scr_wcif.specs.declared.fault.FileFault.{FileFault}
use Rattle.scr_wcif.specs.declared.rounds.EventEntry.{EventEntry}
use Rattle.scr_wcif.specs.FileRounds.{FileEvent}

-- A call gives what is wanted, or the fault that stands in its place; or memory was wanting.
abbrev pub Gives : {X Y : Type 0} → Result Y FileFault → (X → Y) → Result X (Fault FileFault) → Type 0
Gives wanted view (Ok given) = wanted ≡ Ok (view given)
Gives wanted view (Err why) = IsOwn (λ file. wanted ≡ Err file) why

-- A call gives such a value, or a fault of the file for which this holds; or memory was wanting.
abbrev pub IsAnswer : {X : Type 0} → (X → Type 0) → (FileFault → Type 0) → Result X (Fault FileFault) → Type 0
IsAnswer Is IsNot (Ok given) = Is given
IsAnswer Is IsNot (Err why) = IsOwn IsNot why

-- It adds what is wanted to a list, or gives the fault that stands in its place; or memory was wanting.
abbrev pub Adds : {X : Type 0} → Result (List X) FileFault → List X → List X → Result (Unit {0}) (Fault FileFault) → Type 0
Adds {X} wanted old new (Ok _) = (added : List X) × (wanted ≡ Ok added) × (new ≡ old ++ added)
Adds wanted old new (Err why) = IsOwn (λ file. wanted ≡ Err file) why

-- an event as code holds it
abbrev pub entry_told : EventEntry → FileEvent
entry_told entry = record { id = entry.id.now; rounds = items_view entry.rounds.now }

abbrev pub event_told : Result EventEntry FileFault → Result FileEvent FileFault
event_told = result_map_both entry_told (λ why. why)
