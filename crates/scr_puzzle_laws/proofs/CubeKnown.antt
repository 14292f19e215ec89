-- Orders of words, and turns that can be exchanged, by computation.
use Rattle.std.proofs.Common.{◌≡◌, ℕ, zero, suc, ◌+◌, ◌<◌, Some, refl, sym, ap, ◌∙◌, arith}
use Rattle.std.specs.Prelude.{slice_get}
use Rattle.std.proofs.lemmas.Option.{same_Some}
use Rattle.scr_combinatorics.specs.Play.{play}
use Rattle.scr_orbit.specs.Monoids.{power, power_of}
use Rattle.scr_orbit.specs.Orbits.{turned_orbit, solved_orbit, added_digits}
use Rattle.scr_orbit.specs.PowerPuzzles.{HaveOrders, letter_table}
use Rattle.scr_orbit.proofs.Orders.{All-word_orders}
use Rattle.scr_notation.specs.TurnNumbers.{face_turn_at}
use Rattle.scr_cube.specs.Cube333.{CubeState, cube_quarters, cube_monoid, cube_powers, solved_cube}
use Rattle.scr_cube.specs.Known.{known_orders}
use Rattle.scr_cube.proofs.Laws333.{is_solved, tells_solved}

pub word_orders : HaveOrders cube_powers known_orders
unfolding is_solved play power power_of turned_orbit solved_cube solved_orbit added_digits face_turn_at
word_orders = All-word_orders cube_monoid is_solved tells_solved (letter_table cube_powers) face_turn_at known_orders refl

exchanged : (x y r q : CubeState) → Some x ≡ Some r → Some y ≡ Some q
    → cube_monoid.turned x y ≡ cube_monoid.turned y x → cube_monoid.turned r q ≡ cube_monoid.turned q r
exchanged x y r q a b e =
    let one : x ≡ r = same_Some x r a in
    let two : y ≡ q = same_Some y q b in
    ap (λ t. cube_monoid.turned t q) (sym one) ∙ ap (cube_monoid.turned x) (sym two) ∙ e
    ∙ ap (cube_monoid.turned y) one ∙ ap (λ t. cube_monoid.turned t r) two

-- turns of opposite faces
pub opposite_faces : (face : ℕ) (r q : CubeState) → face < 3 → slice_get cube_quarters face ≡ Some r
    → slice_get cube_quarters (face + 3) ≡ Some q → cube_monoid.turned r q ≡ cube_monoid.turned q r
unfolding turned_orbit added_digits
opposite_faces zero r q lt a b = exchanged _ _ r q a b refl
opposite_faces (suc zero) r q lt a b = exchanged _ _ r q a b refl
opposite_faces (suc (suc zero)) r q lt a b = exchanged _ _ r q a b refl
opposite_faces (suc (suc (suc face))) r q lt a b = absurd (omega arith)
