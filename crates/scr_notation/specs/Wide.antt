-- The turns of a Megaminx as they are written (WCA Regulations, article 12).
use Rattle.std.specs.Prelude.{Bool, false, nat_lt}
use Rattle.scr_notation.specs.declared.turn.Turn.{Turn}
use Rattle.scr_notation.specs.declared.turn.Turn.TheVariants.{Wide}

-- a wide turn of one of the letters R D U, one way or the other
abbrev pub is_wide_turn : Turn → Bool
is_wide_turn (Wide letter plus) = nat_lt letter 3
is_wide_turn _ = false
