-- What the tests of dominoes and of the solved cube tell.
use Rattle.std.proofs.Common.{◌≡◌, ℕ, IsTrue, arith}
use Rattle.std.proofs.Common.{sym, ◌∙◌, eqb-true, eq-eqb}
use Rattle.std.specs.Prelude.{◌==◌, ◌↔◌}
use Rattle.std.proofs.lemmas.Bool.{and_parts, and_from}
use Rattle.std.proofs.lemmas.Slice.Eq.{bytes_eq-Decides}
use Rattle.scr_orbit.specs.Orbits.{solved_orbit}
use Rattle.scr_cube.specs.Cube333.{CubeState, solved_cube}
use Rattle.scr_stages.specs.Stages.{IsDomino}
use Rattle.scr_twophase.specs.TwoParts.{is_domino, is_solved}

pub IsDomino-test : (c : CubeState) → IsTrue (is_domino c) ↔ IsDomino c
unfolding is_domino
IsDomino-test c = grind (arith, and_parts, bytes_eq-Decides, and_from)

-- a cube by its four lists
pub same_cube : (c d : CubeState) → c.corners.pieces ≡ d.corners.pieces → c.corners.digits ≡ d.corners.digits
    → c.edges.pieces ≡ d.edges.pieces → c.edges.digits ≡ d.edges.digits → c ≡ d
same_cube c d p q r s = grind arith

pub IsSolved-test : (c : CubeState) → IsTrue (is_solved c) ↔ (c ≡ solved_cube)
unfolding is_solved solved_cube solved_orbit
IsSolved-test c = grind (arith, and_parts, same_cube, bytes_eq-Decides)

-- a goal is reached where a number says so
pub goal_number : (P : Type 0) (n m goal : ℕ) → P ↔ IsTrue (n == m) → m ≡ goal → P ↔ (n ≡ goal)
goal_number P n m goal h e = (λ p. eqb-true n m (h.0 p) ∙ e, λ same. h.1 (eq-eqb n m (same ∙ sym e)))
