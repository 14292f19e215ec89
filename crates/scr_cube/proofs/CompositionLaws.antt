-- Laws of cubes that are joined, one and then another: what undoes a cube, and what words lead to.
use Rattle.std.proofs.Common.{◌≡◌, IsTrue, List, Some, refl, ap, ◌∙◌, lit≤, arith}
use Rattle.std.specs.Prelude.{All}
use Rattle.std.specs.Option.{option_map}
use Rattle.scr_combinatorics.specs.Play.{play}
use Rattle.scr_combinatorics.proofs.PlayLaws.{play-append}
use Rattle.scr_combinatorics.proofs.PlayedWhere.{played-turns}
use Rattle.scr_orbit.specs.Monoids.{IsInverse}
use Rattle.scr_orbit.specs.Orbits.{Orbit, IsOrbit, orbit_monoid}
use Rattle.scr_orbit.specs.PowerPuzzles.{after_letter}
use Rattle.scr_orbit.proofs.InverseLaws.{IsZeroSumOrbit-inverse, parity-inverse_orbit}
use Rattle.scr_orbit.proofs.MonoidLaws.{IsInverse-both}
use Rattle.scr_orbit.proofs.OrbitLaws.{IsOrbit-zero_sum}
use Rattle.scr_orbit.proofs.PlayedTurns.{TellsTurns-powers}
use Rattle.scr_notation.specs.declared.event.Event.TheVariants.{C333}
use Rattle.scr_notation.specs.declared.turn.Turn.{Turn}
use Rattle.scr_notation.specs.Turns.{permits}
use Rattle.scr_notation.proofs.TellsPowers.{tells_faces}
use Rattle.scr_cube.specs.Composition.{IsJoined}
use Rattle.scr_cube.specs.Cube333.{CubeState, IsCube, cube_monoid, cube_powers, solved_cube}
use Rattle.scr_cube.proofs.Laws333.{same_cube, cube_laws, lawful_cube}

-- the inverse of both parts, whose digits still sum to 0 and whose parities are still alike
pub IsInverse-parts : (s : CubeState) (corners edges : Orbit) → IsCube s
    → IsInverse (orbit_monoid 8 3) (IsOrbit 8 3) s.corners corners
    → IsInverse (orbit_monoid 12 2) (IsOrbit 12 2) s.edges edges
    → IsInverse cube_monoid IsCube s (record { corners = corners; edges = edges })
unfolding solved_cube
IsInverse-parts s corners edges own c e =
    let valid : IsCube (record { corners = corners; edges = edges }) =
    grind (arith, IsZeroSumOrbit-inverse, parity-inverse_orbit, IsOrbit-zero_sum) in
    IsInverse-both cube_monoid IsCube cube_laws s (record { corners = corners; edges = edges }) own valid
    (same_cube _ _ c.after e.after) (same_cube _ _ c.before e.before)

-- A word leads from a cube to the one that is that cube and then the cube to which it leads from solved.
pub play-then : (c d : CubeState) (w : List Turn) → IsCube c → play (after_letter cube_powers) solved_cube w ≡ Some d
    → play (after_letter cube_powers) c w ≡ Some (cube_monoid.turned c d)
play-then c d w own played = lawful_cube.lawful.words c w own ∙ ap (option_map (cube_monoid.turned c)) played

pub IsCube-played : (d : CubeState) (w : List Turn) → play (after_letter cube_powers) solved_cube w ≡ Some d → IsCube d
IsCube-played d w e = lawful_cube.lawful.reached (λ t. 1) d (w, solved_cube, refl, e)

pub words_joined : (v w : List Turn) → All (λ t. IsTrue (permits C333 t)) v → All (λ t. IsTrue (permits C333 t)) w
    → IsJoined v w
words_joined v w h k =
    let tells = TellsTurns-powers cube_powers (permits C333) (tells_faces 1 (lit≤ tt)) lawful_cube in
    let first = played-turns tells solved_cube v cube_laws.solved h in
    let second = played-turns tells solved_cube w cube_laws.solved k in
    grind (
      arith,
      play-append (after_letter cube_powers) solved_cube first.0 v w first.1,
      play-then first.0 second.0 w (IsCube-played first.0 v first.1) second.1,
    )
