-- A Clock in hand, and what written turns make of it (WCA Regulations, article 12).
use Rattle.std.specs.Prelude.{ℕ, Bool, false, not, if◌then◌else◌, List, Option, Some, None}
use Rattle.std.specs.Option.{option_map}
use Rattle.scr_combinatorics.specs.Play.{play}
use Rattle.scr_notation.specs.declared.turn.Turn.{Turn}
use Rattle.scr_notation.specs.declared.turn.Turn.TheVariants.{Pins, Over}
use Rattle.scr_notation.specs.Pins.{is_clock_turn}
use Rattle.scr_clock.specs.Dials.{dials_turned, dial_turn}

-- the dials, and whether the back faces the scrambler
pub record HeldClock : Type 0 where
  pub dials : List ℕ
  pub back : Bool

-- What a written turn makes of a held Clock: pins turn the side that faces the scrambler, and `y2` turns the Clock
-- over. It is none where the turn is none of a Clock's.
unfoldable pub held_after : HeldClock → Turn → Option HeldClock
held_after held (Pins pins amount) =
    if is_clock_turn (Pins pins amount)
    then Some (record held { dials = dials_turned held.dials (dial_turn held.back pins amount) })
    else None
held_after held Over = Some (record held { back = not held.back })
held_after held _ = None

-- What written turns make of a Clock whose front faces the scrambler at first.
abbrev pub clock_after : List ℕ → List Turn → Option (List ℕ)
clock_after dials turns =
    option_map (λ held. held.dials) (play held_after (record { dials = dials; back = false }) turns)
