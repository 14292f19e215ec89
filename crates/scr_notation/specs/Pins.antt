-- The turns of a Clock as they are written (WCA Regulations, article 12).
use Rattle.std.specs.Prelude.{ℕ, Bool, true, false, ◌==◌, ◌&&◌, nat_le, List, [], ◌∷◌}
use Rattle.std.specs.List.{list_any}
use Rattle.scr_notation.specs.declared.turn.Turn.{Turn}
use Rattle.scr_notation.specs.declared.turn.Turn.TheVariants.{Pins, Over}

-- The nine sets of pins that a scramble puts up, each a sum of 1 for UR, 2 for DR, 4 for DL and 8 for UL.
abbrev pub pin_sets : List ℕ
pin_sets = 1 ∷ 2 ∷ 4 ∷ 8 ∷ 9 ∷ 3 ∷ 6 ∷ 12 ∷ 15 ∷ []

-- a turn of a Clock: one of these pin sets by 0 to 11 hours, or `y2`, by which the other side faces the scrambler
abbrev pub is_clock_turn : Turn → Bool
is_clock_turn (Pins pins amount) = list_any (λ set. set == pins) pin_sets && nat_le amount 11
is_clock_turn Over = true
is_clock_turn _ = false
