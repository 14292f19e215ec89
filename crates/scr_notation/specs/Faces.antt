-- The turns of a cube as they are written (WCA Regulations, article 12).
use Rattle.std.specs.Prelude.{ℕ, Bool, false, ◌&&◌, nat_le, nat_lt, if◌then◌else◌}
use Rattle.scr_notation.specs.declared.turn.Turn.{Turn}
use Rattle.scr_notation.specs.declared.turn.Turn.TheVariants.{Face}
use Rattle.scr_notation.specs.Amounts.{is_amount}

-- How deep a turn of a face may be: the near faces U R F are 0 to 2, the far faces D L B are 3 to 5.
abbrev pub depths_of : ℕ → ℕ → ℕ → ℕ
depths_of near far face = if nat_lt face 3 then near else (if nat_lt face 6 then far else 0)

-- a turn of the outer layers at a face, one or more and at most so many, by one to three quarters
abbrev pub is_face_turn : ℕ → ℕ → Turn → Bool
is_face_turn near far (Face face depth amount) =
    (nat_le 1 depth && nat_le depth (depths_of near far face)) && is_amount 4 amount
is_face_turn near far _ = false
