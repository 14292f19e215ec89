-- Orders of words, and how many turns a state needs, by computation.
use Rattle.std.proofs.Common.{◌≡◌, [], ◌∷◌, Some, refl, ap, arith, lit<}
use Rattle.std.specs.Prelude.{slice_index}
use Rattle.scr_combinatorics.specs.Play.{play}
use Rattle.scr_combinatorics.specs.Reach.{Needs}
use Rattle.scr_orbit.specs.PowerPuzzles.{HaveOrders, letter_table, word_at, after_letter, power_puzzle}
use Rattle.scr_orbit.proofs.Minima.{one_needed, enough}
use Rattle.scr_orbit.proofs.Orders.{All-word_orders}
use Rattle.scr_notation.specs.TurnNumbers.{axis_turn_at}
use Rattle.scr_tetra.specs.Skewb.{skewb_monoid, skewb_powers, solved_skewb}
use Rattle.scr_tetra.specs.SkewbKnown.{skewb_orders, after_b_u}
use Rattle.scr_tetra.proofs.SkewbLaws.{moves_nothing, tells_skewb}
use Rattle.scr_tetra.proofs.SkewbOnLiterals.{skewb_on_literals}

pub word_orders : HaveOrders skewb_powers skewb_orders
unfolding moves_nothing skewb_on_literals
word_orders = All-word_orders skewb_monoid moves_nothing tells_skewb (letter_table skewb_powers) axis_turn_at skewb_orders refl

-- ---- how many turns a state needs

unsolved : after_b_u ≡ solved_skewb → ⊥
unfolding skewb_on_literals
unsolved e =
    let two : 2 ≡ 0 = ap (λ s. slice_index s.three.pieces 0) e in
    omega (arith, two)

pub b_u_needs_one : Needs (power_puzzle skewb_powers) after_b_u 1
b_u_needs_one = one_needed skewb_monoid (letter_table skewb_powers) after_b_u unsolved

back_to_solved : play (after_letter skewb_powers) after_b_u (word_at skewb_powers (1 ∷ 7 ∷ [])) ≡ Some solved_skewb
unfolding skewb_on_literals
back_to_solved = refl

pub two_enough : Needs (power_puzzle skewb_powers) after_b_u 3 → ⊥
two_enough needs = enough skewb_monoid (letter_table skewb_powers) after_b_u (word_at skewb_powers (1 ∷ 7 ∷ [])) 3 (lit< tt) back_to_solved needs
