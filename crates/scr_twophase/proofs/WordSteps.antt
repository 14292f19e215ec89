-- Which turns may stand behind a word.
use Rattle.std.proofs.Common.{◌≡◌, ℕ, ◌/◌, ◌^◌, ◌<◌, Bool, true, List, length, get_or, refl, ltb-true}
use Rattle.std.specs.Prelude.{All, nat_lt}
use Rattle.std.specs.List.{list_all}
use Rattle.scr_orbit.proofs.TableTests.{All-from_test}
use Rattle.scr_stages.proofs.FiniteTests.{agree, agree-same, passes_below, test-below}
use Rattle.scr_twophase.specs.declared.first.TheConstants as all
use Rattle.scr_twophase.specs.declared.second.TheConstants as ten
use Rattle.scr_search.specs.Views.{AreBehind}
use Rattle.scr_stages.specs.Stages.{domino_turns}
use Rattle.scr_cube.specs.ListedTurns.{turn_numbers}
use Rattle.scr_search.specs.Orderly.{may_precede}
use Rattle.scr_search.specs.TurnSets.{contains_turn}

-- a test of a turn's set, place by place
is_behind : List ℕ → List ℕ → ℕ → Bool
is_behind turns sets last = passes_below (λ k. agree (contains_turn (get_or sets (last / 3) 0) k) (may_precede last (get_or turns k 0))) (length turns)

AreBehind-tested : (turns sets : List ℕ) → passes_below (is_behind turns sets) 18 ≡ true
    → passes_below (contains_turn (get_or sets 6 0)) (length turns) ≡ true → AreBehind turns sets
unfolding is_behind
AreBehind-tested turns sets each all = record {
  each = λ last place a b.
      agree-same (contains_turn (get_or sets (last / 3) 0) place) (may_precede last (get_or turns place 0))
      (test-below (λ k. agree (contains_turn (get_or sets (last / 3) 0) k) (may_precede last (get_or turns k 0))) (length turns) place (test-below (is_behind turns sets) 18 last each a) b);
  all = λ place b. test-below (contains_turn (get_or sets 6 0)) (length turns) place all b;
}

-- all turns, and the ten
pub AreBehind-turns : AreBehind turn_numbers all.FIRST_EXTENT.behind
unfolding is_behind passes_below agree may_precede
AreBehind-turns = AreBehind-tested turn_numbers all.FIRST_EXTENT.behind refl refl

pub AreBehind-ten : AreBehind domino_turns ten.SECOND_EXTENT.behind
unfolding is_behind passes_below agree may_precede
AreBehind-ten = AreBehind-tested domino_turns ten.SECOND_EXTENT.behind refl refl

-- sets of numbers below a limit
pub sets_below : (n : ℕ) (sets : List ℕ) → list_all (λ set. nat_lt set (2 ^ n)) sets ≡ true
    → All (λ set. set < 2 ^ n) sets
sets_below n sets = All-from_test (λ set. nat_lt set (2 ^ n)) (λ set. set < 2 ^ n) (λ set. ltb-true set (2 ^ n)) sets
