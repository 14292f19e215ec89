use Rattle.std.proofs.Common.{◌≡◌, ℕ, ◌<◌, ◌≤◌, true, IsTrue, List, [], ◌∷◌, length, Some, refl, ◌∙◌, lit≤, ltb-true}
use Rattle.std.proofs.Common.{arith}
use Rattle.std.specs.Prelude.{All, Contains, nat_lt, ◌&&◌}
use Rattle.std.proofs.lemmas.Bool.{and_from}
use Rattle.scr_combinatorics.specs.Play.{play}
use Rattle.scr_orbit.specs.Orbits.{solved_orbit}
use Rattle.scr_cube.specs.Cube333.{CubeState, solved_cube}
use Rattle.scr_combinatorics.specs.Words.{words_within}
use Rattle.scr_table.proofs.ListedWords.{All-below, All-numbers, Contains-words_within, IsWithin-listed, Contains-filter, Contains-passed}
use Rattle.scr_orbit.proofs.TableTests.{All-from_test}
use Rattle.scr_cube.specs.ListedTurns.{turn_numbers}
use Rattle.scr_search.specs.Orderly.{after_turn, may_precede, is_orderly, leads}
use Rattle.scr_twophase.specs.TwoParts.{ends_in_quarter, is_domino, is_first_part, first_parts}
use Rattle.scr_search.proofs.Leads.{leads-played}
use Rattle.scr_solver_laws.proofs.twophase.first_parts.Goals as goal

first_part : (c : CubeState) (w : List ℕ) → length w ≤ 12 → All (λ t. t < 18) w → IsTrue (is_first_part c w)
    → Contains (first_parts c) w
unfolding first_parts
first_part c w le below passes =
    Contains-filter (is_first_part c) (words_within turn_numbers 12) w
    (Contains-words_within turn_numbers 12 w le (All-numbers 18 w below)) passes

-- what a first part is
record IsFirstPart (c : CubeState) (w : List ℕ) : Type 0 where
  size : length w ≤ 12
  below : All (λ t. t < 18) w
  passes : IsTrue (is_first_part c w)

IsFirstPart-listed : (c : CubeState) (w : List ℕ) → Contains (first_parts c) w → IsFirstPart c w
unfolding first_parts
IsFirstPart-listed c w there =
    let passed = Contains-passed (is_first_part c) (words_within turn_numbers 12) w there in
    let within = IsWithin-listed turn_numbers 12 w passed.0 in
    record { size = within.size; below = All-below 18 w within.each; passes = passed.1 }

-- R F L B, three times
abbrev twelve_turns : List ℕ
twelve_turns = 3 ∷ 6 ∷ 12 ∷ 15 ∷ 3 ∷ 6 ∷ 12 ∷ 15 ∷ 3 ∷ 6 ∷ 12 ∷ 15 ∷ []

twelve-orderly : (is_orderly twelve_turns && ends_in_quarter twelve_turns) ≡ true
unfolding is_orderly may_precede ends_in_quarter
twelve-orderly = refl

solved-domino : is_domino solved_cube ≡ true
unfolding is_domino solved_cube solved_orbit
solved-domino = refl

-- a word that solves a cube leads it to a domino
passes-solving : (c : CubeState) (w : List ℕ) → (is_orderly w && ends_in_quarter w) ≡ true
    → play after_turn c w ≡ Some solved_cube
    → IsTrue (is_first_part c w)
unfolding is_first_part
passes-solving c w orderly solves =
    and_from (is_orderly w && ends_in_quarter w) (leads is_domino c w) orderly
    (leads-played is_domino c solved_cube w solves ∙ solved-domino)

pub returns-clause-all : goal.returns-clause-all
returns-clause-all c = λ cube w. (
  λ there. let h = IsFirstPart-listed cube w there in (h.size, h.below, h.passes),
  λ h. first_part cube w h.0 h.1 h.2,
)

pub returns-clause-twelve : goal.returns-clause-twelve
returns-clause-twelve c = λ cube solves.
    first_part cube twelve_turns (lit≤ tt)
    (All-from_test (λ t. nat_lt t 18) (λ t. t < 18) (λ t. ltb-true t 18) twelve_turns refl)
    (passes-solving cube twelve_turns twelve-orderly solves)

pub returns-clause-no_thirteen : goal.returns-clause-no_thirteen
returns-clause-no_thirteen c = λ cube there.
    let h = IsFirstPart-listed cube (3 ∷ 6 ∷ 12 ∷ 15 ∷ 3 ∷ 6 ∷ 12 ∷ 15 ∷ 3 ∷ 6 ∷ 12 ∷ 15 ∷ 3 ∷ []) there in
    omega (arith, h.size)
