-- What a search for first parts sees: its positions, and its whole words.
use Rattle.std.proofs.Common.{◌≡◌, ℕ, ◌+◌, ◌*◌, ◌<◌, Bool, cond, List, [], ◌++◌, map, get_or, Some, None, refl, sym, ap, ◌∙◌, arith, eqb-true, eq-eqb, lit<, lit≤}
use Rattle.std.specs.Prelude.{filter, ◌==◌}
use Rattle.std.proofs.lemmas.List.{map-id}
use Rattle.scr_combinatorics.proofs.Picks.{numbers_from-at}
use Rattle.scr_combinatorics.specs.PlaceSets.{place_set_number}
use Rattle.scr_combinatorics.specs.Twists.{twists_number}
use Rattle.scr_orbit.specs.Orbits.{zeros}
use Rattle.scr_coord.proofs.GoalNumbers.{twists_number-zeros}
use Rattle.scr_cube.specs.Cube333.{CubeState, IsCube}
use Rattle.scr_stages.specs.Stages.{HasNoFlips, IsUntwisted, IsInMiddle, middle_edges}
use Rattle.scr_stages.specs.Numbers.{flips_number, middle_set_of}
use Rattle.scr_stages.proofs.FiniteTests.{agree, agree-same, passes_below, test-below}
use Rattle.scr_stages.proofs.StageSpaces.{Follows-flips}
use Rattle.scr_combinatorics.specs.Words.{words_within}
use Rattle.scr_twophase.specs.declared.first.TheConstants.{FIRST_EXTENT}
use Rattle.scr_search.specs.TurnSets.{contains_turn}
use Rattle.scr_twophase.specs.TwoParts.{ends_in_quarter, is_domino, is_first_part, is_side_quarter, joined, first_parts, two_parts}
use Rattle.scr_search.specs.Search.{IsSearched, first_given}
use Rattle.scr_cube.specs.ListedTurns.{turn_numbers}
use Rattle.scr_twophase.specs.Tables.{twists_of}
use Rattle.scr_search.specs.Views.{AreViews, is_whole, part_number}
use Rattle.scr_twophase.specs.BothParts.{first_views}
use Rattle.scr_twophase.proofs.CubeTests.{IsDomino-test, goal_number}
use Rattle.scr_search.proofs.Leads.{same_test}
use Rattle.scr_twophase.proofs.Spaces.{Follows-twists, Follows-middle_set}
use Rattle.scr_twophase.proofs.TakenBack.{AreTakenBack-turns}
use Rattle.scr_search.proofs.ViewLaws.{Sees-follows}
use Rattle.scr_twophase.proofs.WordSteps.{AreBehind-turns, sets_below}

-- the number of a cube says whether it is a domino
first_number : (c : CubeState) → IsCube c → is_domino c ≡ (part_number first_views c == 2121713844224)
first_number c h =
    let flips = goal_number (HasNoFlips c) (flips_number c) (twists_number 2 (zeros 12)) 0 (Follows-flips.goals c h) (twists_number-zeros 12 2) in
    let twists = goal_number (IsUntwisted c) (twists_of c) (twists_number 3 (zeros 8)) 0 (Follows-twists.goals c h) (twists_number-zeros 8 3) in
    let middle = goal_number (IsInMiddle c) (middle_set_of c) (place_set_number 12 middle_edges) 494 (Follows-middle_set.goals c h) refl in
    let tests = IsDomino-test c in
    let number : ℕ = (flips_number c + 2048 * twists_of c) + 4294967296 * middle_set_of c in
    let few_flips : flips_number c < 2048 = Follows-flips.valid c h in
    let few_twists : twists_of c < 2187 = Follows-twists.valid c h in
    same_test (is_domino c) (number == 2121713844224)
    (λ e. let d = tests.0 e in eq-eqb number 2121713844224 (omega (arith, flips.0 d.no_flips, twists.0 d.no_twists, middle.0 d.middle)))
    (λ e.
    let is : number ≡ 2121713844224 = eqb-true number 2121713844224 e in
    tests.1 (record {
      no_flips = flips.1 (omega (arith, is, few_flips, few_twists));
      no_twists = twists.1 (omega (arith, is, few_flips, few_twists));
      middle = middle.1 (omega (arith, is, few_flips, few_twists));
    }))

-- the quarter turns that may be the last
last_turns : (place : ℕ) → place < 18 → contains_turn FIRST_EXTENT.last.bits place ≡ is_side_quarter (get_or turn_numbers place 0)
unfolding passes_below agree
last_turns place lt =
    agree-same (contains_turn FIRST_EXTENT.last.bits place) (is_side_quarter (get_or turn_numbers place 0))
    (test-below (λ k. agree (contains_turn FIRST_EXTENT.last.bits k) (is_side_quarter (get_or turn_numbers k 0))) 18 place refl lt)

-- what a search for first parts sees
pub AreViews-first : AreViews first_views FIRST_EXTENT
AreViews-first = record {
  one = Sees-follows first_views HasNoFlips first_views.one refl Follows-flips (λ c h e. let d = (IsDomino-test c).0 e in d.no_flips);
  other = Sees-follows first_views IsUntwisted first_views.other refl Follows-twists (λ c h e. let d = (IsDomino-test c).0 e in d.no_twists);
  middle = Sees-follows first_views IsInMiddle first_views.middle refl Follows-middle_set (λ c h e. let d = (IsDomino-test c).0 e in d.middle);
  counts = (refl, refl, refl);
  block = (lit< tt, lit< tt, lit≤ tt);
  slices = (lit< tt, lit< tt);
  few = (lit≤ tt, lit≤ tt, refl);
  numbers = λ place lt. (refl, omega (arith, numbers_from-at 0 18 place lt));
  taken_back = AreTakenBack-turns;
  behind = (sets_below 18 FIRST_EXTENT.behind refl, AreBehind-turns);
  last = last_turns;
  end = first_number;
}

-- The two parts are what the first of the first parts gives that gives anything.
pub two_parts-searched : (c : CubeState) (word after : List ℕ) (tries left : ℕ) (found : Bool) → word ≡ []
    → IsSearched (joined c) (filter (is_whole first_views c) (map (λ v. word ++ v) (words_within turn_numbers 12))) tries word found after left
    → two_parts c tries ≡ cond found (Some after) None
unfolding two_parts first_parts first_given is_first_part ends_in_quarter is_whole
two_parts-searched c word after tries left found e s =
    let words = words_within turn_numbers 12 in
    ap (λ ws. first_given (joined c) tries (filter (is_first_part c) ws)) (sym (ap (λ w. map (λ v. w ++ v) words) e ∙ map-id words)) ∙ s.given
