-- How many turns states need.
use Rattle.std.proofs.Common.{◌≡◌, [], ◌∷◌, Some, refl, sym, ap, ◌∙◌, arith, lit<}
use Rattle.std.specs.Prelude.{slice_index}
use Rattle.std.proofs.lemmas.Option.{same_Some}
use Rattle.scr_combinatorics.specs.Play.{play}
use Rattle.scr_combinatorics.specs.Reach.{Needs}
use Rattle.scr_combinatorics.proofs.PlayLaws.{play-one}
use Rattle.scr_orbit.proofs.Minima.{one_needed as needs_one, enough}
use Rattle.scr_orbit.specs.Monoids.{power, power_of}
use Rattle.scr_orbit.specs.Orbits.{Orbit, turned_orbit, solved_orbit, added_digits}
use Rattle.scr_orbit.specs.PowerPuzzles.{letter_table, after_letter, power_puzzle}
use Rattle.scr_notation.specs.TurnNumbers.{face_turn_at}
use Rattle.scr_cube.specs.Cube333.{cube_monoid, cube_powers, solved_cube}
use Rattle.scr_cube.specs.Cube222.{powers_222, solved_222}
use Rattle.scr_cube.specs.Known.{superflip, superflip_word}

first_of_up : (after_letter powers_222) solved_222 (face_turn_at 0) ≡ Some (record { pieces = 3 ∷ 0 ∷ 1 ∷ 2 ∷ 4 ∷ 5 ∷ 6 ∷ []; digits = 0 ∷ 0 ∷ 0 ∷ 0 ∷ 0 ∷ 0 ∷ 0 ∷ [] })
unfolding face_turn_at power_of power turned_orbit solved_orbit added_digits
first_of_up = refl

-- the state after U is not solved
unsolved : (s : Orbit) → (after_letter powers_222) solved_222 (face_turn_at 0) ≡ Some s → s ≡ solved_222 → ⊥
unfolding solved_orbit
unsolved s e same =
    let there = same_Some _ s (sym first_of_up ∙ e) in
    let three : 3 ≡ 0 = ap (λ o. slice_index o.pieces 0) (there ∙ same) in
    omega (arith, three)

pub one_needed : (s : Orbit) → (after_letter powers_222) solved_222 (face_turn_at 0) ≡ Some s
    → Needs (power_puzzle powers_222) s 1
one_needed s e = needs_one powers_222.monoid (letter_table powers_222) s (unsolved s e)

up_back : (after_letter powers_222) (record { pieces = 3 ∷ 0 ∷ 1 ∷ 2 ∷ 4 ∷ 5 ∷ 6 ∷ []; digits = 0 ∷ 0 ∷ 0 ∷ 0 ∷ 0 ∷ 0 ∷ 0 ∷ [] }) (face_turn_at 2) ≡ Some solved_222
unfolding face_turn_at power_of power turned_orbit solved_orbit added_digits
up_back = refl

pub one_enough : (s : Orbit) → (after_letter powers_222) solved_222 (face_turn_at 0) ≡ Some s
    → Needs (power_puzzle powers_222) s 2 → ⊥
one_enough s e =
    let there = same_Some _ s (sym first_of_up ∙ e) in
    enough powers_222.monoid (letter_table powers_222) s (face_turn_at 2 ∷ []) 2 (lit< tt)
    (play-one (after_letter powers_222) s (face_turn_at 2) ∙ ap (λ o. (after_letter powers_222) o (face_turn_at 2)) (sym there) ∙ up_back)

superflip_back : play (after_letter cube_powers) superflip superflip_word ≡ Some solved_cube
unfolding play face_turn_at power_of power turned_orbit solved_orbit solved_cube added_digits superflip
superflip_back = refl

pub twenty_enough : Needs (power_puzzle cube_powers) superflip 21 → ⊥
twenty_enough = enough cube_monoid (letter_table cube_powers) superflip superflip_word 21 (lit< tt) superflip_back
