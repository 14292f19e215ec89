-- The turns of a Square-1 as they are written (WCA Regulations, article 12).
use Rattle.std.specs.Prelude.{ℤ, pos, neg_ℤ, ◌+ℤ◌, ◌-ℤ◌, int_le, Bool, true, false, ◌&&◌, not}
use Rattle.std.specs.Int.{int_rem_euclid}
use Rattle.std.specs.Ordering.{int_eq}
use Rattle.scr_notation.specs.declared.turn.Turn.{Turn}
use Rattle.scr_notation.specs.declared.turn.Turn.TheVariants.{Layers, Twist}

-- twelfths of a turn, modulo 12, from -5 to 6
abbrev pub twelfths : ℤ → ℤ
twelfths amount = int_rem_euclid (amount +ℤ pos 5) (pos 12) -ℤ pos 5

-- an amount of twelfths is from -5 to 6
abbrev pub is_twelfths : ℤ → Bool
is_twelfths amount = int_le (neg_ℤ (pos 5)) amount && int_le amount (pos 6)

-- neither layer turns
abbrev pub are_still : ℤ → ℤ → Bool
are_still top bottom = int_eq top (pos 0) && int_eq bottom (pos 0)

-- a turn of the layers by these amounts, not both 0, or a twist
abbrev pub is_layer_turn : Turn → Bool
is_layer_turn (Layers top bottom) = (is_twelfths top && is_twelfths bottom) && not (are_still top bottom)
is_layer_turn Twist = true
is_layer_turn _ = false
