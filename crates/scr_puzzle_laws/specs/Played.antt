-- Where letters of an event are played.
use Rattle.std.specs.Prelude.{◌↔◌, IsSome, List, Option}
use Rattle.std.specs.List.{AllPass}
use Rattle.scr_combinatorics.specs.Play.{play}
use Rattle.scr_notation.specs.declared.event.Event.{Event}
use Rattle.scr_notation.specs.declared.turn.Turn.{Turn}
use Rattle.scr_notation.specs.Turns.{permits}

-- From each valid state letters lead to a state exactly where all of them are turns of the event. So they lead to none
-- exactly where one of them is no turn of it.
abbrev pub PlaysTurnsOf : {S : Type 0} → Event → (S → Type 0) → (S → Turn → Option S) → Type 0
PlaysTurnsOf {S} event IsValid after =
    (s : S) (w : List Turn) → IsValid s → IsSome (play after s w) ↔ AllPass (permits event) w
