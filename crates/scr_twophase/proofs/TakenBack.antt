-- The turns of a part are taken back by turns of it.
use Rattle.std.proofs.Common.{◌≡◌, ℕ, ◌<◌, List, [], ◌∷◌, map, length, get_or, get_or-take, take, Some, refl, sym, ap, ◌∙◌, subst, ltb-true, arith}
use Rattle.std.specs.Prelude.{All, nat_lt}
use Rattle.std.proofs.lemmas.List.{get_or-map, length-map}
use Rattle.scr_combinatorics.proofs.PlayLaws.{play-one}
use Rattle.scr_orbit.specs.PowerPuzzles.{after_letter}
use Rattle.scr_notation.specs.declared.turn.Turn.{Turn}
use Rattle.scr_notation.specs.TurnNumbers.{face_turn_at}
use Rattle.scr_notation.specs.Turning.{opposite}
use Rattle.scr_cube.specs.Cube333.{CubeState, IsCube, cube_powers}
use Rattle.scr_cube.proofs.Laws333.{lawful_cube}
use Rattle.scr_stages.specs.Numbers.{IsDominoCube}
use Rattle.scr_orbit.proofs.TableTests.{All-from_test}
use Rattle.scr_twophase.specs.declared.first.TheConstants as all
use Rattle.scr_twophase.specs.declared.second.TheConstants as ten
use Rattle.scr_search.specs.Views.{AreTakenBack}
use Rattle.scr_stages.specs.Stages.{domino_turns}
use Rattle.scr_cube.specs.ListedTurns.{turn_numbers}
use Rattle.scr_search.specs.Orderly.{after_turn}
use Rattle.scr_search.proofs.Admissible.{IsCube-turned}
use Rattle.scr_search.proofs.Leads.{after_of-place}
use Rattle.scr_twophase.proofs.Spaces.{Follows-corners}

-- each turn by the place of the one that takes it back, at its own place in a list that may be longer
AreTakenBack-by : (turns backs : List ℕ) (IsSeen : CubeState → Type 0) → ((c : CubeState) → IsSeen c → IsCube c)
    → ((c d : CubeState) (place : ℕ) → IsSeen c → place < length turns → after_turn c (get_or turns place 0) ≡ Some d → IsSeen d)
    → map (λ k. face_turn_at (get_or turns k 0)) (take (length turns) backs) ≡ map (λ t. opposite (face_turn_at t)) turns
    → All (λ k. k < length turns) (take (length turns) backs) → AreTakenBack turns backs IsSeen
AreTakenBack-by turns backs IsSeen cube kept same below = record {
  below = λ place lt. subst (λ k. k < length turns) (own place lt) (below place 0 (few place lt));
  seen = λ c d place seen lt to. kept c d place seen lt to;
  back = λ c d place seen lt to.
      let letter = face_turn_at (get_or turns place 0) in
      let k : ℕ = get_or backs place 0 in
      let is : face_turn_at (get_or turns k 0) ≡ opposite letter =
      ap name (sym (own place lt)) ∙ sym (get_or-map name (take (length turns) backs) place 0 letter (few place lt)) ∙ ap (λ xs. get_or xs place letter) same ∙ get_or-map other turns place 0 letter lt in
      ap (after_letter cube_powers d) is ∙ sym (play-one (after_letter cube_powers) d (opposite letter))
      ∙ lawful_cube.lawful.taken_back c d (letter ∷ []) (cube c seen) (play-one (after_letter cube_powers) c letter ∙ to);
}
  where
    name : ℕ → Turn
    name j = face_turn_at (get_or turns j 0)

    other : ℕ → Turn
    other t = opposite (face_turn_at t)

    few : (place : ℕ) → place < length turns → place < length (take (length turns) backs)
    few place lt = omega (arith, lt, ap length same, length-map (take (length turns) backs) name, length-map turns other)

    own : (place : ℕ) → place < length turns → get_or (take (length turns) backs) place 0 ≡ get_or backs place 0
    own place lt = get_or-take (length turns) backs place 0 lt

-- of all turns, and of the ten that keep a domino
pub AreTakenBack-turns : AreTakenBack turn_numbers all.FIRST_EXTENT.backs IsCube
unfolding face_turn_at
AreTakenBack-turns =
    AreTakenBack-by turn_numbers all.FIRST_EXTENT.backs IsCube (λ c h. h) (λ c d place h lt to. IsCube-turned c d (get_or turn_numbers place 0) h to) refl
    (All-from_test (λ k. nat_lt k 18) (λ k. k < 18) (λ k. ltb-true k 18) (take 18 all.FIRST_EXTENT.backs) refl)

pub AreTakenBack-ten : AreTakenBack domino_turns ten.SECOND_EXTENT.backs IsDominoCube
unfolding face_turn_at
AreTakenBack-ten =
    AreTakenBack-by domino_turns ten.SECOND_EXTENT.backs IsDominoCube (λ c h. h.cube)
    (λ c d place h lt to. Follows-corners.kept c d place h (after_of-place domino_turns c place lt ∙ to)) refl
    (All-from_test (λ k. nat_lt k 10) (λ k. k < 10) (λ k. ltb-true k 10) (take 10 ten.SECOND_EXTENT.backs) refl)
