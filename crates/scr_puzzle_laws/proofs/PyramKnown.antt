-- Orders of words, by computation, and how many turns a state needs.
use Rattle.std.proofs.Common.{◌≡◌, [], ◌∷◌, Some, refl, ap, arith, lit<}
use Rattle.scr_combinatorics.specs.Play.{play}
use Rattle.scr_combinatorics.specs.Reach.{Needs}
use Rattle.scr_orbit.specs.PowerPuzzles.{HaveOrders, letter_table, word_at, after_letter, power_puzzle}
use Rattle.scr_orbit.proofs.Minima.{count_once, enough}
use Rattle.scr_orbit.proofs.Orders.{All-word_orders}
use Rattle.scr_notation.specs.TurnNumbers.{axis_turn_at}
use Rattle.scr_tetra.specs.Pyraminx.{IsPyram, pyram_monoid, pyram_powers, solved_pyram}
use Rattle.scr_tetra.specs.PyramParts.{turned_count}
use Rattle.scr_puzzle_laws.specs.PyramKnown.{pyram_orders, two_tips}
use Rattle.scr_tetra.proofs.NumberedPyram.{pyram_numbering}
use Rattle.scr_tetra.proofs.PyramLaws.{moves_nothing, moves_no_body, tells_pyram}
use Rattle.scr_tetra.proofs.PyramLiterals.{pyram_on_literals}
use Rattle.scr_tetra.proofs.PyramWords.{by_parts}

pub word_orders : HaveOrders pyram_powers pyram_orders
unfolding moves_nothing moves_no_body pyram_on_literals
word_orders = All-word_orders pyram_monoid moves_nothing tells_pyram (letter_table pyram_powers) axis_turn_at pyram_orders refl

-- ---- how many turns a state needs

IsPyram-two_tips : IsPyram two_tips
unfolding pyram_on_literals
IsPyram-two_tips = pyram_numbering.one_to_one.valid 55 (lit< tt)

-- each turn solves one tip at most
pub two_needed : Needs (power_puzzle pyram_powers) two_tips 2
unfolding pyram_on_literals
two_needed w end c played solved =
    let parts = by_parts two_tips end w IsPyram-two_tips played in
    let none : turned_count end.tips ≡ 0 = ap (λ s. turned_count s.tips) solved in
    absurd (omega (arith, c, count_once w, parts.tips, parts.count, none))

two_back : play (after_letter pyram_powers) two_tips (word_at pyram_powers (14 ∷ 9 ∷ [])) ≡ Some solved_pyram
unfolding pyram_on_literals
two_back = refl

pub two_enough : Needs (power_puzzle pyram_powers) two_tips 3 → ⊥
two_enough = enough pyram_monoid (letter_table pyram_powers) two_tips (word_at pyram_powers (14 ∷ 9 ∷ [])) 3 (lit< tt) two_back
