-- Turns about axes as powers of turns by a third, clockwise as seen from the axis' corner.
use Rattle.std.specs.Prelude.{◌+◌, ◌-◌, ◌&&◌, nat_lt, if◌then◌else◌, Option, Some, None}
use Rattle.scr_combinatorics.specs.PowerLetters.{Power, PowerLetters}
use Rattle.scr_notation.specs.Amounts.{is_amount}
use Rattle.scr_notation.specs.TurnNumbers.{axis_turn_at}
use Rattle.scr_notation.specs.declared.turn.Turn.{Turn}
use Rattle.scr_notation.specs.declared.turn.Turn.TheVariants.{Axis, Tip}

-- The large turn about one of the four axes, by one or two thirds: so many times the axis' third. The tips come
-- behind the axes, so a puzzle without tips has the first four thirds alone. No other letter is a power. (WCA
-- Regulations, article 12.)
abbrev pub thirds_of : Turn → Option Power
thirds_of (Axis axis amount) =
    if nat_lt axis 4 && is_amount 3 amount then Some (record { generator = axis; exponent = amount }) else None
thirds_of (Tip tip amount) =
    if nat_lt tip 4 && is_amount 3 amount then Some (record { generator = 4 + tip; exponent = amount }) else None
thirds_of _ = None

-- Four axes, U L R B, and four tips, u l r b, each with turns by one and two thirds.
abbrev pub letters_about_axes : PowerLetters Turn
letters_about_axes = record {
  order = 3;
  most = 8;
  power_at = thirds_of;
  letter_of = λ p. if nat_lt p.generator 4 then Axis p.generator p.exponent else Tip (p.generator - 4) p.exponent;
  letter_at = axis_turn_at;
}
