-- The turns of a Pyraminx and of a Skewb as they are written (WCA Regulations, article 12).
use Rattle.std.specs.Prelude.{Bool, false, ◌&&◌, nat_lt}
use Rattle.scr_notation.specs.declared.turn.Turn.{Turn}
use Rattle.scr_notation.specs.declared.turn.Turn.TheVariants.{Axis, Tip}
use Rattle.scr_notation.specs.Amounts.{is_amount}

-- a turn about one of four axes by one or two thirds, or of the tip at one of them, where the puzzle has tips
abbrev pub is_axis_turn : Bool → Turn → Bool
is_axis_turn tips (Axis axis amount) = nat_lt axis 4 && is_amount 3 amount
is_axis_turn tips (Tip tip amount) = tips && (nat_lt tip 4 && is_amount 3 amount)
is_axis_turn tips _ = false
