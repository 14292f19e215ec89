use Rattle.std.proofs.Common.{◌≡◌, ℕ, ◌-◌, ◌<◌, ◌^◌, [], ◌∷◌, ◌++◌, true, get_or, length}
use Rattle.scr_combinatorics.specs.Words.{words_behind}
use Rattle.scr_search.specs.Search.{MayFollow}
use Rattle.scr_search.specs.TurnSets.{contains_turn, turns_in}
use Rattle.scr_search.specs.Views.{is_whole}
use Rattle.scr_search.proofs.Outcomes.{IsLeft}
use Rattle.scr_search.proofs.SearchSteps.{words_by}
use Rattle.scr_search.proofs.search.Search.+behind.Given as goal

abbrev pub decreases-behind : goal.decreases-behind
decreases-behind g l = l.left

abbrev pub decreases-loop-place : goal.decreases-loop-place
decreases-loop-place g l = length (turns_in l.turns.bits)

abbrev pub invariant-loop-place : goal.invariant-loop-place
invariant-loop-place g l =
    let v = g.P.Part.views in
    let word = l.fn.word.items in record {
      same : (turn : ℕ) × (l.word.items ≡ word ++ turn ∷ []);
      words : IsLeft (g.P.Part.gives l.self.cube.now) (words_behind v.turns (is_whole v l.self.cube.now) word l.left) l.initial.tries (words_by v l.self.cube.now word (l.left - 1)) (turns_in l.turns.bits) l.tries;
      follow : (place : ℕ) → contains_turn l.turns.bits place ≡ true → MayFollow v word place;
      last : l.left ≡ 1 → (place : ℕ) → contains_turn l.turns.bits place ≡ true → v.is_last (get_or v.turns place 0) ≡ true;
      few : l.turns.bits < 2 ^ 18;
    }
