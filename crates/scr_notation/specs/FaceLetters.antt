-- Turns of the outer layers at faces, as powers of quarter turns.
use Rattle.std.specs.Prelude.{◌==◌, ◌&&◌, if◌then◌else◌, Option, Some, None}
use Rattle.scr_combinatorics.specs.PowerLetters.{Power, PowerLetters}
use Rattle.scr_notation.specs.Amounts.{is_amount}
use Rattle.scr_notation.specs.TurnNumbers.{face_turn_at}
use Rattle.scr_notation.specs.declared.turn.Turn.{Turn}
use Rattle.scr_notation.specs.declared.turn.Turn.TheVariants.{Face}

-- The outer layer at a face, turned by one to three quarters: so many times the face's quarter turn. No other letter is
-- a power. (WCA Regulations, article 12.)
abbrev pub quarters_of : Turn → Option Power
quarters_of (Face face depth amount) =
    if (depth == 1) && is_amount 4 amount then Some (record { generator = face; exponent = amount }) else None
quarters_of _ = None

-- Six faces, U R F D L B, each with turns by one, two and three quarters.
abbrev pub letters_of_faces : PowerLetters Turn
letters_of_faces = record {
  order = 4;
  most = 6;
  power_at = quarters_of;
  letter_of = λ p. Face p.generator 1 p.exponent;
  letter_at = face_turn_at;
}
