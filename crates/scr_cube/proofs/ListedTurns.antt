-- What the turn at a place of a list does.
use Rattle.std.proofs.Common.{◌≡◌, ℕ, ◌<◌, Bool, true, false, cond, List, length, Option, Some, None, refl, sym, ap, ◌∙◌, ltb-true, arith}
use Rattle.std.specs.Prelude.{nat_lt, slice_get, slice_index, slice_index_or, option_and_then}
use Rattle.std.proofs.lemmas.Bool.{ltb-false}
use Rattle.std.proofs.lemmas.Option.{slice_get-get_or, slice_get_past}
use Rattle.scr_combinatorics.specs.Play.{play}
use Rattle.scr_combinatorics.specs.Stages.{by_letters}
use Rattle.scr_combinatorics.proofs.PlayLaws.{play-one}
use Rattle.scr_orbit.specs.Monoids.{all_powers}
use Rattle.scr_orbit.specs.PowerPuzzles.{after_letter, all_turns}
use Rattle.scr_notation.specs.TurnNumbers.{face_turn_at}
use Rattle.scr_cube.specs.Cube333.{CubeState, cube_monoid, cube_powers, solved_cube}
use Rattle.scr_cube.specs.ListedTurns.{letter_in, after_of}
use Rattle.scr_cube.proofs.Laws333.{lawful_cube}

pub length-turns : length (all_turns cube_powers) ≡ 18
unfolding all_turns all_powers
length-turns = refl

-- each of the turns leads somewhere
pub turn-leads : (c : CubeState) (t : ℕ) → t < 18
    → (after_letter cube_powers) c (face_turn_at t) ≡ Some (cube_monoid.turned c (slice_index_or (all_turns cube_powers) t solved_cube))
unfolding all_turns
turn-leads c t lt = grind (arith, lawful_cube, slice_get-get_or, length-turns)

-- what it is: that with the number which stands there
pub after_of-is : (turns : List ℕ) (c : CubeState) (place : ℕ)
    → after_of turns c place ≡ option_and_then (λ t. (after_letter cube_powers) c (face_turn_at t)) (slice_get turns place)
unfolding by_letters
after_of-is turns c place = by_cases (nat_lt place (length turns)) refl
  where
    turned : ℕ → Option CubeState
    turned t = (after_letter cube_powers) c (face_turn_at t)

    by_cases : (b : Bool) → nat_lt place (length turns) ≡ b
        → (let o : Option CubeState = cond b (play (after_letter cube_powers) c (letter_in turns place)) None in o)
        ≡ option_and_then turned (slice_get turns place)
    by_cases true e =
        play-one (after_letter cube_powers) c (face_turn_at (slice_index turns place))
        ∙ ap (option_and_then turned) (sym (slice_get-get_or turns place 0 (ltb-true place (length turns) e)))
    by_cases false e =
        ap (option_and_then turned) (sym (slice_get_past turns place (ltb-false place (length turns) e)))
