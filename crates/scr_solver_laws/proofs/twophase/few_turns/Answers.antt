use Rattle.std.proofs.Common.{◌≡◌, ◌≤◌, ℕ, List, Option, Some, None, IsTrue, length, map, refl, ap, arith, length-append}
use Rattle.std.specs.Prelude.{is_some}
use Rattle.std.proofs.lemmas.List.{length-map}
use Rattle.scr_notation.specs.declared.turn.Turn.{Turn}
use Rattle.scr_notation.specs.TurnNumbers.{face_turn_at}
use Rattle.scr_notation.proofs.OppositeLaws.{length-back}
use Rattle.scr_cube.specs.Cube333.{CubeState}
use Rattle.scr_twophase.specs.TwoParts.{two_parts}
use Rattle.scr_twophase.proofs.PartLaws.{IsScrambleBy, two_parts-joined}
use Rattle.scr_solver_laws.proofs.twophase.few_turns.Goals as goal

-- the two parts have few turns
parts : (c : goal.After-second_parts) (cube : CubeState) (tries : ℕ) (w : List ℕ) → two_parts cube tries ≡ Some w
    → length w ≤ 22
parts c cube tries w e =
    let both = two_parts-joined cube tries w e in
    let first = ((c.first_parts.ensures.all cube both.0).0 both.1).0 in
    let second = c.second_parts.ensures.such cube both.0 w both.2 in
    omega (arith, first, second.2, ap length second.1, length-append both.0 second.0)

-- and so has the word that is taken back
few : (c : goal.After-second_parts) (cube : CubeState) (tries : ℕ) (turns : List Turn) (o : Option (List ℕ))
    → two_parts cube tries ≡ o → IsScrambleBy o cube turns → IsTrue (is_some o) → length turns ≤ 22
few c cube tries turns None e is some = absurd (cc)
few c cube tries turns (Some w) e is some =
    let short = parts c cube tries w e in
    omega (arith, short, ap length is, length-back (map face_turn_at w), length-map w face_turn_at)

pub returns : goal.returns
returns c = λ cube tries turns is some. few c cube tries turns (two_parts cube tries) refl is some
