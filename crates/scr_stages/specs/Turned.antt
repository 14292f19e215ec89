-- What turns do to all corners or to all edges, in arrays.
use Rattle.std.specs.Prelude.{◌≡◌, ℕ, List, map}
use Rattle.scr_combinatorics.specs.Permutations.{IsPermutation}
use Rattle.scr_orbit.specs.Orbits.{IsZeroSumOrbit, Orbit}
use Rattle.scr_orbit.specs.declared.placed.PlaceTurn.{PlaceTurn}
use Rattle.scr_orbit.specs.PlaceTurns.{made_by}
use Rattle.scr_coord.specs.Projections.{AreTurns}

-- They are these turns, each of which keeps the sum of the digits, and permutes the places.
pub record AreTurned (n base : ℕ) (moves : List Orbit) (turned : List (PlaceTurn n)) : Type 0 where
  pub turns : map made_by turned ≡ moves
  pub valid : AreTurns (λ turn. IsZeroSumOrbit n base (made_by turn)) turned
  pub places : AreTurns (λ (turn : PlaceTurn n). IsPermutation n turn.places) turned
