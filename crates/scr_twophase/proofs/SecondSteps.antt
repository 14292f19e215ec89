-- What a search for second parts sees: its positions, and where its words end.
use Rattle.std.proofs.Common.{◌≡◌, ℕ, ◌+◌, ◌-◌, ◌*◌, ◌<◌, Bool, true, cond, List, [], ◌∷◌, ◌++◌, map, length, get_or, get_or-take, Option, Some, None, refl, sym, ap, ◌∙◌, subst, arith, eqb-true, eq-eqb, lit<, lit≤}
use Rattle.std.specs.Prelude.{◌&&◌, ◌==◌, filter, slice_get}
use Rattle.std.specs.Option.{option_map_or}
use Rattle.std.proofs.Math.Bool.{and-true}
use Rattle.std.proofs.Math.Path.{fun_ext}
use Rattle.std.proofs.lemmas.List.{get_or-map}
use Rattle.scr_combinatorics.specs.Lists.{numbers_from, pick}
use Rattle.scr_combinatorics.specs.Permutations.{permutation_number}
use Rattle.scr_combinatorics.proofs.Picks.{pick-in_order}
use Rattle.scr_coord.proofs.GoalNumbers.{permutation_number-in_order}
use Rattle.scr_orbit.specs.declared.placed.PlaceTurn.{PlaceTurn}
use Rattle.scr_orbit.specs.Orbits.{Orbit, solved_orbit, turned_orbit}
use Rattle.scr_orbit.specs.PlaceTurns.{IsTurnTable, made_by}
use Rattle.scr_orbit.specs.PowerPuzzles.{all_turns, part_turns}
use Rattle.scr_cube.specs.Cube333.{CubeState, cube_monoid, cube_powers, solved_cube}
use Rattle.scr_stages.specs.Stages.{middle_edges, domino_turns}
use Rattle.scr_stages.specs.Numbers.{IsDominoCube}
use Rattle.scr_stages.specs.Tables.{outer_places}
use Rattle.scr_stages.specs.Tetrads.{in_block}
use Rattle.scr_stages.proofs.Blocks.{pick-append}
use Rattle.scr_stages.proofs.DominoLaws.{IsPlaceSet-middle, IsPlaceSet-outer_places, outer-kept}
use Rattle.scr_stages.proofs.KeptBlocks.{pick-in_block}
use Rattle.scr_cube.proofs.ListedTurns.{length-turns}
use Rattle.scr_stages.proofs.TurnFacts.{tetrads_numbers}
use Rattle.scr_combinatorics.specs.Words.{words_within}
use Rattle.scr_table.proofs.WordLists.{find-filter}
use Rattle.scr_twophase.specs.declared.second.TheConstants.{SECOND_EXTENT}
use Rattle.scr_search.specs.declared.position.PartPosition.{PartPosition}
use Rattle.scr_search.specs.Orderly.{after_turn, is_orderly, leads}
use Rattle.scr_twophase.specs.TwoParts.{is_solved, is_solution, joined}
use Rattle.scr_twophase.specs.Tables.{corners_of, outer_edges_of, middle_edges_of}
use Rattle.scr_search.specs.Search.{IsSearched, first_given}
use Rattle.scr_search.specs.Views.{AreViews, Shows, is_whole, part_number}
use Rattle.scr_twophase.specs.BothParts.{second_views}
use Rattle.scr_search.proofs.BitSets.{has_turn-all}
use Rattle.scr_search.proofs.Leads.{after_turn-is, same_test, turn-below}
use Rattle.scr_twophase.proofs.CubeTests.{same_cube, IsSolved-test, goal_number}
use Rattle.scr_twophase.proofs.TakenBack.{AreTakenBack-ten}
use Rattle.scr_search.proofs.ViewLaws.{Sees-follows}
use Rattle.scr_twophase.proofs.WordSteps.{AreBehind-ten, sets_below}
use Rattle.scr_twophase.specs.Spaces.{AreMiddleHome}
use Rattle.scr_twophase.proofs.Spaces.{AreCornersHome, AreOuterHome, Follows-corners, Follows-outer_edges}
use Rattle.scr_twophase.proofs.Spaces.{Follows-middle_edges}

-- ---- positions

-- what is so of the solved cube
so_there : (P : CubeState → Type 0) → P solved_cube → (e : CubeState) → is_solved e ≡ true → P e
so_there P home e test = subst P (sym ((IsSolved-test e).0 test)) home

-- ---- tests

-- a domino whose corners, outer and middle edges are home is solved
all_home : (c : CubeState) → IsDominoCube c → in_block outer_places c.edges.pieces ≡ numbers_from 0 8
    → in_block middle_edges c.edges.pieces ≡ numbers_from 0 4 → c.edges.pieces ≡ numbers_from 0 12
all_home c d outer middle =
    let p = c.edges.pieces in
    let is = d.cube.edges.pieces in
    let first : pick p outer_places ≡ outer_places =
    sym (pick-in_block 12 8 outer_places IsPlaceSet-outer_places p (outer-kept c d)) ∙ ap (pick outer_places) outer in
    let last : pick p middle_edges ≡ middle_edges =
    sym (pick-in_block 12 4 middle_edges IsPlaceSet-middle p d.domino.middle) ∙ ap (pick middle_edges) middle in
    sym (pick-in_order p) ∙ ap (λ n. pick p (numbers_from 0 n)) is.size
    ∙ pick-append p outer_places middle_edges ∙ ap (λ xs. xs ++ pick p middle_edges) first ∙ ap (λ xs. outer_places ++ xs) last

-- the number of a domino says whether it is solved
second_number : (c : CubeState) → IsDominoCube c → is_solved c ≡ (part_number second_views c == 0)
unfolding solved_cube solved_orbit
second_number c h =
    let corners = goal_number (AreCornersHome c) (corners_of c) (permutation_number (numbers_from 0 8)) 0 (Follows-corners.goals c h) (permutation_number-in_order 8) in
    let outer = goal_number (AreOuterHome c) (outer_edges_of c) (permutation_number (numbers_from 0 8)) 0 (Follows-outer_edges.goals c h) (permutation_number-in_order 8) in
    let middle = goal_number (AreMiddleHome c) (middle_edges_of c) (permutation_number (numbers_from 0 4)) 0 (Follows-middle_edges.goals c h) (permutation_number-in_order 4) in
    let tests = IsSolved-test c in
    let number : ℕ = (corners_of c + 40320 * outer_edges_of c) + 4294967296 * middle_edges_of c in
    same_test (is_solved c) (number == 0)
    (λ e.
    let s = tests.0 e in
    eq-eqb number 0 (omega (
      arith,
      corners.0 (ap (λ d. d.corners.pieces) s),
      outer.0 (ap (λ d. in_block outer_places d.edges.pieces) s),
      middle.0 (ap (λ d. in_block middle_edges d.edges.pieces) s),
    )))
    (λ e.
    let is : number ≡ 0 = eqb-true number 0 e in
    let home = all_home c h (outer.1 (omega (arith, is))) (middle.1 (omega (arith, is))) in
    tests.1 (same_cube c solved_cube (corners.1 (omega (arith, is))) h.domino.no_twists home h.domino.no_flips))

-- what a search for second parts sees
pub AreViews-second : AreViews second_views SECOND_EXTENT
unfolding solved_cube solved_orbit
AreViews-second = record {
  one = Sees-follows second_views AreCornersHome second_views.one refl Follows-corners (λ c h e. so_there AreCornersHome refl c e);
  other = Sees-follows second_views AreOuterHome second_views.other refl Follows-outer_edges (λ c h e. so_there AreOuterHome refl c e);
  middle = Sees-follows second_views AreMiddleHome second_views.middle refl Follows-middle_edges (λ c h e. so_there AreMiddleHome refl c e);
  counts = (refl, refl, refl);
  block = (lit< tt, lit< tt, lit≤ tt);
  slices = (lit< tt, lit< tt);
  few = (lit≤ tt, lit≤ tt, refl);
  numbers = λ place lt. (sym (get_or-take 10 SECOND_EXTENT.numbers place 0 lt), tetrads_numbers place 0 lt);
  taken_back = AreTakenBack-ten;
  behind = (sets_below 10 SECOND_EXTENT.behind refl, AreBehind-ten);
  last = λ place lt. has_turn-all place (omega (arith, lt));
  end = second_number;
}

-- ---- words

-- any turn may be the last
pub any_last : (o : Option ℕ) → option_map_or (λ _. true) o true ≡ true
any_last None = refl
any_last (Some t) = refl

-- so the whole words are the solutions
whole_is : (c : CubeState) → is_whole second_views c ≡ is_solution c
unfolding is_whole is_solution
whole_is c =
    fun_ext (λ w.
    ap (λ b. (is_orderly w && b) && leads is_solved c w) (any_last (slice_get w (length w - 1)))
    ∙ ap (λ b. b && leads is_solved c w) (and-true (is_orderly w)))

-- ---- both parts

first_given-first : (words : List (List ℕ)) → first_given (λ w. Some w) 1 words ≡ slice_get words 0
unfolding first_given
first_given-first [] = refl
first_given-first (w ∷ words) = refl

-- a first part joined with its second part is the first solution that goes on from it by at most ten turns
pub joined-searched : (c : CubeState) (word after : List ℕ) (found : Bool) (left : ℕ)
    → IsSearched (λ w. Some w) (filter (is_whole second_views c) (map (λ v. word ++ v) (words_within domino_turns 10))) 1 word found after left
    → joined c word ≡ cond found (Some after) None
unfolding joined
joined-searched c word after found left s =
    let words = map (λ v. word ++ v) (words_within domino_turns 10) in
    find-filter (is_solution c) words ∙ sym (first_given-first (filter (is_solution c) words))
    ∙ ap (λ test. first_given (λ w. Some w) 1 (filter test words)) (sym (whole_is c)) ∙ s.given

-- ---- where turns lead

-- what a turn in an array carries where is what it does by its number
module _ {n : ℕ} (part : CubeState → Orbit) {IsTurn : Orbit → Type 0} (turns : List (PlaceTurn n)) (table : IsTurnTable 18 IsTurn (part_turns part cube_powers) turns) (t : ℕ) (x : PlaceTurn n) where
  turn-places : t < 18 → (get_or turns t x).places ≡ (part (get_or (all_turns cube_powers) t solved_cube)).pieces
  turn-places lt =
      let all = all_turns cube_powers in
      ap (λ (r : Orbit). r.pieces) (sym (get_or-map made_by turns t x (part solved_cube) (omega (arith, lt, table.count)))
      ∙ ap (λ rs. get_or rs t (part solved_cube)) table.defined
      ∙ get_or-map part all t solved_cube (part solved_cube) (omega (arith, length-turns, lt)))

  -- the pieces of a kind are carried as the turn says
  pub carried : (pieces : CubeState → List ℕ)
      → ((c r : CubeState) → pieces (cube_monoid.turned c r) ≡ pick (pieces c) (part r).pieces)
      → (c d : CubeState) (from to : List ℕ) → after_turn c t ≡ Some d → from ≡ pieces c
      → to ≡ pick from (get_or turns t x).places → to ≡ pieces d
  carried pieces turned c d from to leads same is =
      is ∙ ap (λ xs. pick xs (get_or turns t x).places) same ∙ ap (pick (pieces c)) (turn-places (turn-below c d t leads))
      ∙ sym (ap pieces (after_turn-is c d t leads) ∙ turned c (get_or (all_turns cube_powers) t solved_cube))

-- of corners and of edges
pub corners-turned : (c r : CubeState)
    → (cube_monoid.turned c r).corners.pieces ≡ pick c.corners.pieces r.corners.pieces
unfolding turned_orbit
corners-turned c r = refl

pub edges-turned : (c r : CubeState)
    → (cube_monoid.turned c r).edges.pieces ≡ pick c.edges.pieces r.edges.pieces
unfolding turned_orbit
edges-turned c r = refl

-- a position is that of a domino by the numbers of its pieces
pub Shows-numbers : (c : CubeState) (at : PartPosition) (corners edges : List ℕ) → IsDominoCube c
    → corners ≡ c.corners.pieces → edges ≡ c.edges.pieces → at.one ≡ permutation_number corners
    → at.other ≡ permutation_number (in_block outer_places edges)
    → at.middle ≡ permutation_number (in_block middle_edges edges) → Shows second_views c at
Shows-numbers c at corners edges domino same_corners same_edges a b d = record {
  seen = domino;
  one = a ∙ ap permutation_number same_corners;
  other = b ∙ ap (λ xs. permutation_number (in_block outer_places xs)) same_edges;
  middle = d ∙ ap (λ xs. permutation_number (in_block middle_edges xs)) same_edges;
}
