-- What half turns reach of solved: dominoes with the tetrads number of solved, where a table measures the halves.
use Rattle.std.proofs.Common.{◌≡◌, ℕ, ◌≤◌, List, [], ◌∷◌, Option, Some, None, reverse, refl, sym, ap, ◌∙◌, arith}
use Rattle.std.specs.Prelude.{All, ◌↔◌, option_and_then, slice_get}
use mathlib.Core.List.{reverse-cons}
use Rattle.std.proofs.lemmas.List.Elements.{All-from_recursion}
use Rattle.std.proofs.lemmas.Option.{slice_get_past}
use Rattle.scr_combinatorics.specs.Lists.{numbers_from, pick}
use Rattle.scr_combinatorics.specs.Permutations.{IsPermutation}
use Rattle.scr_combinatorics.proofs.PermutationLaws.{All-permutation}
use Rattle.scr_combinatorics.proofs.Picks.{pick-from_order}
use Rattle.scr_combinatorics.specs.Play.{play}
use Rattle.scr_combinatorics.proofs.PlayLaws.{play-empty, play-parts, play-append, play-one, play-keeps, and_then-some}
use Rattle.scr_orbit.specs.Orbits.{solved_orbit, turned_orbit}
use Rattle.scr_orbit.specs.PowerPuzzles.{after_letter}
use Rattle.scr_orbit.proofs.PowerLaws.{All-got}
use Rattle.scr_notation.specs.TurnNumbers.{face_turn_at}
use Rattle.scr_notation.specs.Turning.{opposite}
use Rattle.scr_positions.specs.Coordinates.{StaysBelow}
use Rattle.scr_positions.specs.SearchSpaces.{positions, Follows}
use Rattle.scr_positions.proofs.SearchLaws.{FindsTheSame-follows}
use Rattle.scr_table.specs.Distances.{Distances, Measures}
use Rattle.scr_table.proofs.FoundWords.{first_word}
use Rattle.scr_cube.specs.Cube333.{CubeState, IsCube, cube_monoid, cube_powers, solved_cube}
use Rattle.scr_cube.proofs.Laws333.{cube_laws, lawful_cube}
use Rattle.scr_stages.specs.Stages.{IsHalfTurned, half_turns}
use Rattle.scr_cube.specs.ListedTurns.{after_of}
use Rattle.scr_stages.specs.Numbers.{IsDominoCube, first_edges, tetrads_number, IsHalfCube, half_cubes}
use Rattle.scr_stages.specs.SearchTables.{halves_table}
use Rattle.scr_stages.specs.Tables.{turns_of, halves_coordinate}
use Rattle.scr_stages.specs.Tetrads.{corner_index}
use Rattle.scr_positions.proofs.IndexLaws.{Follows-numbered, StaysBelow-numbered}
use Rattle.scr_stages.proofs.ViewLaws.{TurnsStates, kept_by}
use Rattle.scr_cube.proofs.ListedTurns.{after_of-is}
use Rattle.scr_stages.proofs.TurnFacts.{after_of-turns, All-numbers, halves_turns}
use Rattle.scr_stages.proofs.TetradTests.{corners_at-solved}
use Rattle.scr_stages.proofs.TetradLaws.{corner_index-turned}
use Rattle.scr_stages.proofs.DominoLaws.{IsDominoCube-turned, places-turned}
use Rattle.scr_stages.proofs.HalfCubes.{IsTetradsHome-half, half_cubes-numbered}

-- ---- half turns keep them

-- the index of the corners stays
pub corner_index-kept : (p ks : List ℕ) → IsPermutation 8 p → IsPermutation 8 ks
    → corner_index p ≡ corner_index (numbers_from 0 8) → corner_index ks ≡ corner_index (numbers_from 0 8)
    → corner_index (pick p ks) ≡ corner_index (numbers_from 0 8)
corner_index-kept p ks h k e f =
    cc (corner_index-turned p ks h k, corners_at-solved, pick-from_order 8 ks (All-permutation 8 ks k))

pub IsHalfCube-turned : (c r : CubeState) → IsHalfCube c → IsHalfCube r → IsHalfCube (cube_monoid.turned c r)
unfolding turned_orbit
IsHalfCube-turned c r h t =
    grind (
      arith,
      IsTetradsHome-half c h,
      IsTetradsHome-half r t,
      IsDominoCube-turned c r h.domino t.domino,
      places-turned 12 2 first_edges c.edges r.edges h.domino.cube.edges.pieces t.domino.cube.edges.pieces,
      corner_index-kept,
    )

pub halves_moves : TurnsStates cube_monoid.turned (turns_of half_turns) (after_of half_turns) IsHalfCube
halves_moves = record { each = halves_turns; after_is = after_of-turns half_turns (All-numbers half_turns refl); keeps = IsHalfCube-turned }

pub IsHalfCube-after : (c d : CubeState) (place : ℕ) → IsHalfCube c → after_of half_turns c place ≡ Some d
    → IsHalfCube d
IsHalfCube-after = kept_by halves_moves

pub IsHalfCube-solved : IsHalfCube solved_cube
unfolding solved_cube solved_orbit
IsHalfCube-solved =
    record { domino = record { cube = cube_laws.solved; domino = record { no_flips = refl; no_twists = refl; middle = refl } }; index = refl }

-- so what half turns reach is such a cube
pub IsHalfCube-half_turned : (c : CubeState) → IsHalfTurned c → IsHalfCube c
IsHalfCube-half_turned c h = play-keeps (after_of half_turns) IsHalfCube IsHalfCube-after solved_cube c h.0 IsHalfCube-solved h.1

-- ---- they go along with their numbers

no_seventh : (c : CubeState) (place : ℕ) → 6 ≤ place → after_of half_turns c place ≡ None
no_seventh c place le = grind (arith, after_of-is, slice_get_past)

pub Follows-halves : Follows halves_table.space (positions halves_coordinate) half_cubes.number_of
Follows-halves =
    Follows-numbered half_cubes half_cubes-numbered.one_to_one 6 (after_of half_turns) solved_cube IsHalfCube-solved IsHalfCube-after no_seventh

pub StaysBelow-halves : StaysBelow halves_coordinate
StaysBelow-halves =
    StaysBelow-numbered half_cubes half_cubes-numbered.one_to_one 6 (after_of half_turns) solved_cube IsHalfCube-solved IsHalfCube-after no_seventh

-- ---- half turns undo themselves

own_opposite : All (λ t. opposite (face_turn_at t) ≡ face_turn_at t) half_turns
unfolding face_turn_at
own_opposite = All-from_recursion (λ t. opposite (face_turn_at t) ≡ face_turn_at t) half_turns (refl, (refl, (refl, (refl, (refl, (refl, tt))))))

undone : (c d : CubeState) (place : ℕ) → IsCube c → after_of half_turns c place ≡ Some d
    → after_of half_turns d place ≡ Some c
undone c d place h e =
    let turn = and_then-some (λ t. (after_letter cube_powers) c (face_turn_at t)) (slice_get half_turns place) d
    (sym (after_of-is half_turns c place) ∙ e) in
    let letter = face_turn_at turn.0 in
    let own = All-got (λ t. opposite (face_turn_at t) ≡ face_turn_at t) half_turns place turn.0 own_opposite turn.1 in
    after_of-is half_turns d place
    ∙ ap (option_and_then (λ t. (after_letter cube_powers) d (face_turn_at t))) turn.1
    ∙ ap ((after_letter cube_powers) d) (sym own)
    ∙ sym (play-one (after_letter cube_powers) d (opposite letter))
    ∙ lawful_cube.lawful.taken_back c d (letter ∷ []) h (play-one (after_letter cube_powers) c letter ∙ turn.2)

-- a word of turns that undo themselves leads back in reversed order
play-reversed : {S : Type 0} (after : S → ℕ → Option S) (IsValid : S → Type 0)
    → ((s r : S) (t : ℕ) → IsValid s → after s t ≡ Some r → IsValid r)
    → ((s r : S) (t : ℕ) → IsValid s → after s t ≡ Some r → after r t ≡ Some s) → (s r : S) (w : List ℕ) → IsValid s
    → play after s w ≡ Some r → play after r (reverse w) ≡ Some s
play-reversed after IsValid keeps undoes s r [] h e = grind (arith, play-empty)
play-reversed after IsValid keeps undoes s r (t ∷ w) h e =
    let parts = play-parts after s r t w e in
    ap (play after r) (reverse-cons t w)
    ∙ play-append after r parts.0 (reverse w) (t ∷ []) (play-reversed after IsValid keeps undoes parts.0 r w (keeps s parts.0 t h parts.1) parts.2)
    ∙ play-one after parts.0 t ∙ undoes s parts.0 t h parts.1

-- ---- the theorem

-- Where a table measures the halves, such a cube is reached by half turns.
pub IsHalfTurned-half_cube : (table : Distances) → Measures halves_coordinate table → (c : CubeState) → IsHalfCube c
    → IsHalfTurned c
IsHalfTurned-half_cube table m c h =
    let found = first_word halves_coordinate table m (half_cubes.number_of c) (half_cubes-numbered.one_to_one.below c h) in
    let leads =
    ((FindsTheSame-follows halves_table.space (positions halves_coordinate) half_cubes.number_of Follows-halves).words c
    found.0 h).1 found.1.leads in (
      reverse found.0,
      play-reversed (after_of half_turns) IsHalfCube IsHalfCube-after (λ s r t k e. undone s r t k.domino.cube e) c solved_cube found.0 h (leads.played ∙ ap Some leads.goal),
    )

-- A domino has the tetrads number of solved exactly where half turns reach it.
pub tetrads_number-half_turned : (table : Distances) → Measures halves_coordinate table → (c : CubeState)
    → IsDominoCube c → (tetrads_number c ≡ tetrads_number solved_cube) ↔ IsHalfTurned c
tetrads_number-half_turned table m c d = (
  λ e. IsHalfTurned-half_cube table m c (record { domino = d; index = e }),
  λ h. (IsHalfCube-half_turned c h).index,
)
