-- What the table of the Pyraminx without tips says of the Pyraminx: its valid states are those that turns reach, what
-- each needs, and its scramble.
use Rattle.std.proofs.Common.{◌≡◌, ℕ, ◌+◌, ◌/◌, ◌≤◌, Bool, true, false, cond, IsTrue, List, [], ◌∷◌, ◌++◌, map, length, get_or, inl, inr, Some, refl, sym, ap, ◌∙◌, arith, lit≤}
use Rattle.std.specs.Prelude.{nat_le, ◌==◌, ◌↔◌}
use Rattle.std.proofs.lemmas.Bool.{cases_lt}
use Rattle.std.proofs.lemmas.List.{length-append, length-map, length-reverse}
use Rattle.scr_combinatorics.specs.Play.{play}
use Rattle.scr_combinatorics.specs.Back.{back}
use Rattle.scr_combinatorics.specs.Reach.{IsReached, Needs}
use Rattle.scr_combinatorics.proofs.PlayLaws.{play-append}
use Rattle.scr_orbit.specs.Orbits.{zeros}
use Rattle.scr_orbit.specs.PowerPuzzles.{after_letter, power_puzzle}
use Rattle.scr_notation.specs.declared.turn.Turn.{Turn}
use Rattle.scr_notation.specs.Turning.{opposite}
use Rattle.scr_orbit.proofs.Minima.{count_once}
use Rattle.scr_table.specs.Distances.{Distances, Measures}
use Rattle.scr_tetra.specs.Pyraminx.{numbered_tetraminx, tetraminx_powers, solved_tetraminx, PyramState, IsPyram, pyram_powers, solved_pyram, numbered_pyram, pyram_digits}
use Rattle.scr_tetra.proofs.NumberedPyram.{thirds_one_to_one, tetraminx_numbering}
use Rattle.scr_tetra.specs.PyramParts.{large_turns, turned_count, tips_word}
use Rattle.scr_tetra.proofs.PyramLaws.{lawful_pyram}
use Rattle.scr_tetra.proofs.PyramTips.{tips_word-played, length-tips_word}
use Rattle.scr_tetra.proofs.PyramWords.{by_parts, with_tips}
use Rattle.scr_small.proofs.PuzzleLaws.{tested_by, numbered_word, IsDistance-state, length-scramble, play-scrambled, scrambled, IsScrambleOf-unique}
use Rattle.scr_small.specs.Puzzles.{numbered_puzzle_tetraminx, coordinate_tetraminx, IsScramblePyram}
use Rattle.scr_small.proofs.LawfulTetraminx.{lawful_puzzle_tetraminx}

-- no more tips stand turned than there are
turned_by : (b : Bool) (n k : ℕ) → n ≤ k → cond b 0 1 + n ≤ k + 1
turned_by true n k le = omega arith
turned_by false n k le = omega arith

turned_count-le : (ds : List ℕ) → turned_count ds ≤ length ds
turned_count-le [] = lit≤ tt
turned_count-le (d ∷ ds) = omega (arith, turned_by (d == 0) (turned_count ds) (length ds) (turned_count-le ds))

pub few_tips : (s : PyramState) → IsPyram s → length (tips_word s.tips) ≤ 4
few_tips s h = omega (arith, length-tips_word s.tips h.tips, turned_count-le s.tips, h.tips.size)

pub turned_tips-le : (s : PyramState) → IsPyram s → turned_count s.tips ≤ 4
turned_tips-le s h = omega (arith, turned_count-le s.tips, h.tips.size)

-- the position of a state in the table is the rest of its number, behind the number of its tips
pub position_of : (s : PyramState) → IsPyram s → numbered_pyram.number_of s / 81 ≡ numbered_tetraminx.number_of s.body
unfolding pyram_digits
position_of s h = omega (arith, thirds_one_to_one.below s.tips h.tips)

-- ---- scrambles

-- large turns that lead to the body, and then the turns of the tips, lead from solved to the state
pub play-by_parts : (s : PyramState) → IsPyram s → (large : List Turn)
    → play (after_letter tetraminx_powers) solved_tetraminx large ≡ Some s.body
    → play (after_letter pyram_powers) solved_pyram (large ++ tips_word s.tips) ≡ Some s
unfolding solved_pyram
play-by_parts s h large e =
    play-append (after_letter pyram_powers) _ _ large (tips_word s.tips) (with_tips solved_tetraminx s.body (zeros 4) large lawful_pyram.lawful.joined.solved e)
    ∙ tips_word-played s.body s.tips h.body h.tips

pub play-scrambled_pyram : (s : PyramState) (turns : List Turn) → IsPyram s → IsScramblePyram s turns
    → play (after_letter pyram_powers) solved_pyram turns ≡ Some s
play-scrambled_pyram s turns h scramble =
    ap (play (after_letter pyram_powers) solved_pyram) scramble.with_tips
    ∙ play-by_parts s h scramble.large
    (play-scrambled numbered_puzzle_tetraminx lawful_puzzle_tetraminx s.body scramble.large h.body scramble.without_tips)

-- a state has one scramble at most
pub IsScramblePyram-unique : (s : PyramState) (some other : List Turn) → IsScramblePyram s some
    → IsScramblePyram s other → some ≡ other
IsScramblePyram-unique s some other a b =
    a.with_tips
    ∙ ap (λ w. w ++ tips_word s.tips)
    (IsScrambleOf-unique numbered_puzzle_tetraminx lawful_puzzle_tetraminx s.body a.large b.large a.without_tips b.without_tips)
    ∙ sym b.with_tips

-- what turns reach is valid
pub IsPyram-reached : (s : PyramState) → IsReached (power_puzzle pyram_powers) s → IsPyram s
IsPyram-reached = lawful_pyram.lawful.reached (λ t. 1)

-- ---- what a table says that measures the states without tips

module _ (table : Distances) (m : Measures coordinate_tetraminx table) where
  -- large turns of the shortest way, and a turn of each tip that stands turned
  abbrev pub pyram_distance : PyramState → ℕ
  pyram_distance s = get_or table.distances (numbered_tetraminx.number_of s.body) 0 + turned_count s.tips

  pub length-scramble_pyram : (s : PyramState) (turns : List Turn) → IsPyram s → IsScramblePyram s turns
      → length turns ≡ pyram_distance s
  length-scramble_pyram s turns h scramble =
      let large = length-scramble numbered_puzzle_tetraminx lawful_puzzle_tetraminx table m s.body scramble.large h.body scramble.without_tips in
      ap length scramble.with_tips ∙ length-append scramble.large (tips_word s.tips)
      ∙ ap (λ n. n + length (tips_word s.tips)) large
      ∙ ap (λ n. get_or table.distances (numbered_tetraminx.number_of s.body) 0 + n) (length-tips_word s.tips h.tips)

  pub large-le : table.bound ≡ 11 → (s : PyramState) → IsPyram s
      → get_or table.distances (numbered_tetraminx.number_of s.body) 0 ≤ 11
  large-le bound s h =
      omega (arith, bound, m.within (numbered_tetraminx.number_of s.body) (tetraminx_numbering.one_to_one.below s.body h.body))

  -- each valid state has a scramble
  pub scrambled_pyram : (s : PyramState) → IsPyram s → (turns : List Turn) × IsScramblePyram s turns
  scrambled_pyram s h =
      let found = scrambled numbered_puzzle_tetraminx lawful_puzzle_tetraminx table m s.body h.body in
      (found.0 ++ tips_word s.tips, record { large = found.0; without_tips = found.1; with_tips = refl })

  -- the valid states are those that turns reach
  pub IsReached-pyram : (s : PyramState) → IsPyram s ↔ IsReached (power_puzzle pyram_powers) s
  IsReached-pyram s = (
    λ h.
        let found = scrambled_pyram s h in (found.0, solved_pyram, refl, play-scrambled_pyram s found.0 h found.1),
    IsPyram-reached s,
  )

  -- no word that solves a state is shorter
  no_shorter : (s end : PyramState) (w : List Turn) → IsPyram s → play (after_letter pyram_powers) s w ≡ Some end
      → end ≡ solved_pyram → pyram_distance s ≤ length w
  unfolding solved_pyram
  no_shorter s end w h played solved =
      let parts = by_parts s end w h played in
      let word = numbered_word numbered_puzzle_tetraminx lawful_puzzle_tetraminx s.body end.body (large_turns w) parts.body in
      let least = (IsDistance-state numbered_puzzle_tetraminx lawful_puzzle_tetraminx table m s.body h.body).least word.0
      (record { end = end.body; played = word.1; goal = ap (λ x. x.body) solved }) in
      let none : turned_count end.tips ≡ 0 = ap (λ x. turned_count x.tips) solved in
      omega (arith, parts.tips, parts.count, word.2, least, none)

  -- a state needs so many turns exactly where that is no more
  pub Needs-pyram : (s : PyramState) (least : ℕ) → IsPyram s
      → (least ≤ pyram_distance s) ↔ Needs (power_puzzle pyram_powers) s least
  Needs-pyram s least h = (
    λ le v end few played solved. omega (arith, count_once v, no_shorter s end v h played solved),
    λ needs.
        let found = scrambled_pyram s h in
        let word : List Turn = back opposite found.0 in
        let long : length word ≡ pyram_distance s =
        length-reverse (map opposite found.0) ∙ length-map found.0 opposite ∙ length-scramble_pyram s found.0 h found.1 in
        let solves = lawful_pyram.lawful.taken_back solved_pyram s found.0 lawful_pyram.lawful.joined.solved (play-scrambled_pyram s found.0 h found.1) in
        elim (cases_lt (pyram_distance s) least) [
          | inl less ↦ absurd (needs word solved_pyram (omega (arith, count_once word, long)) solves refl)
          | inr le ↦ le
        ],
  )

  -- and so says the test of the number
  pub tested_pyram : (s : PyramState) (least : ℕ) → IsPyram s
      → IsTrue (nat_le least (pyram_distance s)) ↔ Needs (power_puzzle pyram_powers) s least
  tested_pyram s least h = tested_by least (pyram_distance s) (Needs-pyram s least h)
