-- Steps of reading one after another, each of which may find a fault.
use Rattle.std.specs.Prelude.{Result, Ok, Err}

-- what follows from what a step gives, or its fault
abbrev pub and_then : {X Y F : Type 0} → Result X F → (X → Result Y F) → Result Y F
and_then (Ok part) next = next part
and_then (Err fault) next = Err fault
