-- A half turn of a half cube by its number: the four parts of the number are turned each by itself.
use Rattle.std.proofs.Common.{◌≡◌, ℕ, List, map, refl, ◌+◌, ◌*◌, ◌/◌, ◌%◌, ◌<◌, cond, lt-ltb, [], ◌∷◌, get_or, Some, None, sym, ap, ◌∙◌, subst, lit<, arith}
use Rattle.std.specs.Prelude.{All}
use Rattle.std.proofs.lemmas.List.Elements.{All-map}
use Rattle.scr_combinatorics.specs.Lists.{numbers_from}
use Rattle.scr_combinatorics.specs.Permutations.{IsPermutation, permutation_number, parity, permutation_at, half_at}
use Rattle.scr_combinatorics.proofs.PermutationLaws.{IsPermutation-numbers_from, IsPermutation-pick}
use Rattle.scr_orbit.specs.Orbits.{Orbit, turned_orbit}
use Rattle.scr_positions.specs.Coordinates.{StaysBelow, Coordinate}
use Rattle.scr_positions.specs.SearchSpaces.{positions, Follows, ShowsSame}
use Rattle.scr_coord.proofs.ListViews.{IsListView, StaysBelow-projection}
use Rattle.scr_cube.specs.ListedTurns.{cube_space, after_of}
use Rattle.scr_stages.specs.Stages.{half_turns, middle_edges}
use Rattle.scr_stages.specs.Numbers.{IsHalfCube, first_edges, second_edges, AreParts, ArePartNumbers, half_digits, half_cube_of_digits, half_cubes}
use Rattle.scr_stages.specs.Tables.{turns_of, corners_by, edges_by, block_turn, half_corners_coordinate, half_block_coordinate, halves_coordinate}
use Rattle.scr_stages.specs.Tetrads.{corner_index, in_block, half_corners_number, half_corners_view, half_corners_at}
use Rattle.scr_stages.proofs.ViewLaws.{Follows-listed}
use Rattle.scr_stages.proofs.StageSpaces.{Follows-block}
use Rattle.scr_stages.proofs.TurnFacts.{halves_turns, All-block_turns}
use Rattle.scr_stages.proofs.TetradTests.{half_list, corner_index-half, parity-half}
use Rattle.scr_stages.proofs.HalfCubes.{IsHalfBlock, block-order, half_corners_number-lt, half_corners_at-number, IsTetradsHome-half, IsHalfBlock-first, IsHalfBlock-second, IsHalfBlock-middle, half_cubes-numbered, part_numbers, third-in, half_cube_of_four}
use Rattle.scr_stages.proofs.HalfTurned.{corner_index-kept, halves_moves, IsHalfCube-after}
use Rattle.std.specs.Option.{option_map}
use Rattle.std.proofs.lemmas.Nat.{mod_below}
use Rattle.std.proofs.lemmas.Option.{slice_get-get_or}
use Rattle.scr_positions.specs.Moves.{Moves, moves_coordinate}
use Rattle.scr_cube.specs.Cube333.{CubeState, cube_monoid, solved_cube}
use Rattle.scr_cube.proofs.Holds.{at_both}
use Rattle.scr_stages.specs.declared.half_moves.HalfMoves.{HalfMoves}

-- ---- the corners

-- lists with the index of solved, as half turns make them
pub record IsHalfList (p : List ℕ) : Type 0 where
  pub permutation : IsPermutation 8 p
  pub index : corner_index p ≡ corner_index (numbers_from 0 8)

IsListView-half_corners : IsListView half_corners_view IsHalfList (λ r. IsHalfList r.pieces)
IsListView-half_corners = record {
  one_to_one = record {
    valid = λ q lt. record { permutation = (half_list q lt).permutation; index = corner_index-half q lt };
    below = λ p h. half_corners_number-lt p h.permutation h.index;
    number_again = λ q lt. (half_list q lt).same;
    state_again = λ p h. half_corners_at-number p h.permutation h.index;
  };
  turned = λ p r h t. record {
    permutation = IsPermutation-pick 8 p r.pieces h.permutation t.permutation;
    index = corner_index-kept p r.pieces h.permutation t.permutation h.index t.index;
  };
  goal = record { permutation = IsPermutation-numbers_from 8; index = refl };
}

IsHalfList-half : (c : CubeState) → IsHalfCube c → IsHalfList c.corners.pieces
IsHalfList-half c h = record { permutation = h.domino.cube.corners.pieces; index = (IsTetradsHome-half c h).corners }

pub StaysBelow-half_corners : StaysBelow half_corners_coordinate
StaysBelow-half_corners =
    let IsMove : Orbit → Type 0 = λ r. IsHalfList r.pieces in
    StaysBelow-projection half_corners_view IsHalfList IsMove (corners_by half_turns) IsListView-half_corners
    (All-map IsMove (λ r. r.corners) (turns_of half_turns) (λ k d lt. IsHalfList-half _ (halves_turns k d lt)))

pub Follows-half_corners : Follows (cube_space IsHalfCube half_turns (λ c. c.corners.pieces ≡ numbers_from 0 8))
    (positions half_corners_coordinate) (λ c. half_corners_number c.corners.pieces)
unfolding turned_orbit
Follows-half_corners =
    Follows-listed halves_moves half_corners_view IsListView-half_corners (λ r. r.corners) (λ c. c.corners.pieces) IsHalfList-half (λ c r h t. refl)

-- ---- a block of edges

pub Follows-half_block : (block : List ℕ) → IsHalfBlock block
    → Follows (cube_space IsHalfCube half_turns (λ c. in_block block c.edges.pieces ≡ numbers_from 0 4))
    (positions (half_block_coordinate block)) (λ c. permutation_number (in_block block c.edges.pieces))
Follows-half_block block b = Follows-block half_turns halves_moves (λ c h. h.domino.cube) 4 block b.set b.kept

-- half turns carry its edges among its places
pub All-half_block : (block : List ℕ) → IsHalfBlock block
    → All (λ r. IsPermutation 4 r.pieces) (map (block_turn block) (edges_by half_turns))
All-half_block block b = All-block_turns half_turns halves_turns 4 block (block-order block b)

-- ---- the parts of the half cube with a number

-- the number of a list of four with a half and a parity
number-by_half : (odd half : ℕ) → odd < 2 → half < 12
    → permutation_number (half_at 4 odd half) ≡ 2 * half + (odd + parity (permutation_at 4 (2 * half))) % 2
unfolding permutation_at half_at
number-by_half =
    at_both (λ odd half. permutation_number (half_at 4 odd half)) (λ odd half. 2 * half + (odd + parity (permutation_at 4 (2 * half))) % 2) 2 12 refl

AreParts-digits : (half s f q : ℕ) → half < 12 → s < 24 → f < 24 → q < 96 → (odd : ℕ)
    → odd ≡ parity (permutation_at 4 f) + parity (permutation_at 4 s) + parity (permutation_at 4 (2 * half))
    → AreParts (half_cube_of_digits (half ∷ s ∷ f ∷ q ∷ [])) (2 * half + odd % 2) s f q
unfolding half_cube_of_digits half_digits
AreParts-digits half s f q lh ls lf lq odd e =
    let again = (half_cube_of_four half s f q lh ls lf lq).again in
    let sum = parity (half_corners_at q) + parity (permutation_at 4 f) + parity (permutation_at 4 s) in
    record {
      middle_is = omega (
        arith,
        e,
        parity-half q lq,
        ap permutation_number (third-in half s f q lh ls lf lq).inside,
        number-by_half (sum % 2) half (mod_below sum 2 (lit< tt)) lh,
      );
      second_is = sym (ap (λ ds. get_or ds 1 0) again);
      first_is = sym (ap (λ ds. get_or ds 2 0) again);
      corners_is = sym (ap (λ ds. get_or ds 3 0) again);
    }

-- the parts of the cube with a number, as the code tells them
pub AreParts-at : (me : HalfMoves) (p : ℕ) (at : p < 663552)
    → let odd = get_or me.odd (p / 12 / 24 % 24) 0 + get_or me.odd (p / 12 % 24) 0 + get_or me.odd (2 * (p % 12)) 0 in
    AreParts (half_cubes.state_at p) (2 * (p % 12) + odd % 2) (p / 12 % 24) (p / 12 / 24 % 24) (p / 12 / 24 / 24)
AreParts-at me p at =
    let lh = mod_below p 12 (lit< tt) in
    let ls = mod_below (p / 12) 24 (lit< tt) in
    let lf = mod_below (p / 12 / 24) 24 (lit< tt) in
    let q = p / 12 / 24 / 24 in
    let lq : q < 96 = omega (arith, at) in
    let same : q % 96 ≡ q = omega (arith, lq) in
    let odd = get_or me.odd (p / 12 / 24 % 24) 0 + get_or me.odd (p / 12 % 24) 0 + get_or me.odd (2 * (p % 12)) 0 in
    subst (λ k. AreParts (half_cube_of_digits (p % 12 ∷ p / 12 % 24 ∷ p / 12 / 24 % 24 ∷ k ∷ [])) (2 * (p % 12) + odd % 2) (p / 12 % 24) (p / 12 / 24 % 24) q) (sym same)
    (AreParts-digits (p % 12) (p / 12 % 24) (p / 12 / 24 % 24) q lh ls lf lq odd
    (omega (arith, me.parities _ lf, me.parities _ ls, me.parities (2 * (p % 12)) (omega (arith, lh)))))

-- the number of a half cube by its parts
pub number-by_parts : (c : CubeState) (middle second first corners : ℕ) → AreParts c middle second first corners
    → middle / 2 + 12 * (second + 24 * (first + 24 * corners)) ≡ half_cubes.number_of c
unfolding half_digits
number-by_parts c middle second first corners is = omega (arith, ap (λ n. n / 2) is.middle_is, is.second_is, is.first_is, is.corners_is)

-- ---- a half turn in move tables

-- a number is the one to which a table leads
abbrev pub IsTarget : Moves → ℕ → ℕ → ℕ → Type 0
IsTarget moves q t r = (next : ℕ) → (moves_coordinate moves).after q t ≡ Some next → r ≡ next

-- a half turn leads from every cube to one
turned_cube : (c : CubeState) (t : ℕ) → t < 6 → (d : CubeState) × (after_of half_turns c t ≡ Some d)
turned_cube c t lt =
    let r = get_or (turns_of half_turns) t solved_cube in (
      cube_monoid.turned c r,
      halves_moves.after_is c t ∙ ap (option_map (cube_monoid.turned c)) (slice_get-get_or (turns_of half_turns) t solved_cube lt),
    )

module _ (c d : CubeState) (half : IsHalfCube c) (t : ℕ) (lt : t < 6) (to : after_of half_turns c t ≡ Some d) where
  -- Where moves show a part of half cubes, they lead from its number to that of the turned cube.
  part_to : (part : Coordinate) (IsGoal : CubeState → Type 0) (view : CubeState → ℕ)
      → Follows (cube_space IsHalfCube half_turns IsGoal) (positions part) view → t < part.turns → (moves : Moves)
      → ShowsSame part (moves_coordinate moves) → (q r : ℕ) → q ≡ view c → IsTarget moves q t r → r ≡ view d
  part_to part IsGoal view f turn moves shows q r e target =
      target (view d) (shows.after q t (omega (arith, e, f.valid c half)) turn
      ∙ ap (λ k. part.after k t) e
      ∙ sym (ap (λ b. cond b (part.after (view c) t) None) (lt-ltb t part.turns turn))
      ∙ f.turned c t half
      ∙ ap (option_map view) to)

  block_to : (block : List ℕ) → IsHalfBlock block → (moves : Moves)
      → ShowsSame (half_block_coordinate block) (moves_coordinate moves) → (q r : ℕ)
      → q ≡ permutation_number (in_block block c.edges.pieces) → IsTarget moves q t r
      → r ≡ permutation_number (in_block block d.edges.pieces)
  block_to block b =
      part_to (half_block_coordinate block) _ (λ d. permutation_number (in_block block d.edges.pieces)) (Follows-half_block block b) lt

-- the parts are turned each by itself
module _ (me : HalfMoves) (p : ℕ) (at : p < 663552) (m s f q m' s' f' q' : ℕ)
    (is : AreParts (half_cubes.state_at p) m s f q) (t : ℕ) (lt : t < 6) (middle : IsTarget me.middle m t m')
    (second : IsTarget me.second s t s') (first : IsTarget me.first f t f') (corners : IsTarget me.corners q t q') where
  half : IsHalfCube (half_cubes.state_at p)
  half = half_cubes-numbered.one_to_one.valid p at

  to : (d : CubeState) × (after_of half_turns (half_cubes.state_at p) t ≡ Some d)
  to = turned_cube (half_cubes.state_at p) t lt

  AreParts-turned : AreParts to.0 m' s' f' q'
  AreParts-turned =
      let block = block_to (half_cubes.state_at p) to.0 half t lt to.1 in
      record {
        middle_is = block middle_edges IsHalfBlock-middle me.middle me.shows_middle m m' is.middle_is middle;
        second_is = block second_edges IsHalfBlock-second me.second me.shows_second s s' is.second_is second;
        first_is = block first_edges IsHalfBlock-first me.first me.shows_first f f' is.first_is first;
        corners_is = part_to (half_cubes.state_at p) to.0 half t lt to.1 half_corners_coordinate _ (λ d. half_corners_number d.corners.pieces)
            Follows-half_corners lt me.corners me.shows_corners q q' is.corners_is corners;
      }

  pub turned_below : ArePartNumbers m' s' f' q'
  turned_below =
      part_numbers to.0 m' s' f' q' (IsHalfCube-after (half_cubes.state_at p) to.0 t half to.1) AreParts-turned

  pub turned_number : (n : ℕ)
      → ((cube : CubeState) → AreParts cube m' s' f' q' → n ≡ half_cubes.number_of cube)
      → Some n ≡ halves_coordinate.after p t
  turned_number n by = ap Some (by to.0 AreParts-turned) ∙ sym (ap (option_map half_cubes.number_of) to.1)
