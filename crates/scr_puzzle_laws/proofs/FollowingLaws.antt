-- The turns of a big cube's scramble follow one another.
use Rattle.std.proofs.Common.{◌≡◌, ℕ, zero, suc, ◌+◌, Some, List, [], ◌∷◌, length, refl, sym, ap, ◌∙◌, subst, arith}
use Rattle.std.specs.Prelude.{IsTrue, All, Contains, slice_get}
use Rattle.std.proofs.lemmas.Option.{same_Some, option_and_then_some}
use Rattle.std.proofs.lemmas.List.Elements.{All-nil, All-cons, All-contains, All-filter, All-contains_itself, filter_passes}
use Rattle.scr_draw.specs.Attempt.{attempt_values}
use Rattle.scr_draw.specs.Drawn.{drawn}
use Rattle.scr_notation.specs.declared.turn.Turn.{Turn}
use Rattle.scr_bigs.specs.Choices.{choice_of}
use Rattle.scr_bigs.specs.BigCubes.{cube_turns, may_follow, turns_after, turns_made}
use Rattle.scr_bigs.specs.CubeMoves.{moves_from, cube_moves}
use Rattle.scr_bigs.specs.Following.{AreCubeTurns}
use Rattle.scr_bigs.proofs.ChoiceLaws.{mapped, drawn-among}

abbrev IsOf : ℕ → Turn → Type 0
IsOf side = Contains (cube_turns side)

-- some turns, of which the first is one of these choices
record IsChain (side : ℕ) (choices : List Turn) (n : ℕ) (turns : List Turn) : Type 0 where
  count : length turns ≡ n
  each : All (IsOf side) turns
  first : (turn : Turn) → slice_get turns 0 ≡ Some turn → Contains choices turn
  follow : (i : ℕ) (before next : Turn) → slice_get turns i ≡ Some before → slice_get turns (i + 1) ≡ Some next
      → IsTrue (may_follow before next)

chain-none : (side : ℕ) (choices : List Turn) → IsChain side choices 0 []
chain-none side choices =
    record { count = refl; each = All-nil (IsOf side); first = λ turn at. cc; follow = λ i before next at at_next. cc }

follow-more : (side : ℕ) (turn : Turn) (more : List Turn) (n : ℕ) → IsChain side (turns_after side turn) n more
    → (i : ℕ) (before next : Turn) → slice_get (turn ∷ more) i ≡ Some before
    → slice_get (turn ∷ more) (i + 1) ≡ Some next → IsTrue (may_follow before next)
unfolding turns_after
follow-more side turn more n chain zero before next at at_next =
    let same = same_Some turn before at in
    let pass = filter_passes (may_follow turn) (cube_turns side) in
    subst (λ t. IsTrue (may_follow t next)) same
    (All-contains (λ t. IsTrue (may_follow turn t)) (turns_after side turn) next pass (chain.first next at_next))
follow-more side turn more n chain (suc i) before next at at_next =
    let place : suc i + 1 ≡ suc (i + 1) = omega arith in
    chain.follow i before next at (ap (slice_get (turn ∷ more)) (sym place) ∙ at_next)

chain-more : (side : ℕ) (choices : List Turn) (turn : Turn) (more : List Turn) (n : ℕ)
    → All (IsOf side) choices → Contains choices turn → IsChain side (turns_after side turn) n more
    → IsChain side choices (suc n) (turn ∷ more)
chain-more side choices turn more n each among chain = record {
  count = ap suc chain.count;
  each = All-cons (IsOf side) turn more (All-contains (IsOf side) choices turn each among) chain.each;
  first = λ t at. subst (Contains choices) (same_Some turn t at) among;
  follow = follow-more side turn more n chain;
}

all_after : (side : ℕ) (turn : Turn) → All (IsOf side) (turns_after side turn)
unfolding turns_after
all_after side turn = All-filter (may_follow turn) (IsOf side) (cube_turns side) (All-contains_itself (cube_turns side))

chain-of : (side attempts : ℕ) (word : ℕ → ℕ) (n : ℕ) (choices : List Turn) (place : ℕ) (turns : List Turn)
    → All (IsOf side) choices → moves_from side attempts word choices place n ≡ Some turns
    → IsChain side choices n turns
unfolding moves_from
chain-of side attempts word zero choices place turns each is =
    subst (IsChain side choices 0) (same_Some [] turns is) (chain-none side choices)
chain-of side attempts word (suc n) choices place turns each is =
    option_and_then_some _ (drawn (choice_of choices) (attempt_values word place attempts)) turns is
    (λ turn drawn_is made.
    mapped (λ more. turn ∷ more) _ turns made
    (λ more rest_is whole.
    subst (IsChain side choices (suc n)) whole
    (chain-more side choices turn more n each (drawn-among choices word place attempts turn drawn_is)
    (chain-of side attempts word n (turns_after side turn) _ more (all_after side turn) rest_is))))

pub moves-turns : (side attempts place : ℕ) (word : ℕ → ℕ) (turns : List Turn)
    → cube_moves side attempts word place ≡ Some turns → AreCubeTurns side turns
moves-turns side attempts place word turns is =
    let all = All-contains_itself (cube_turns side) in
    let chain = chain-of side attempts word (turns_made side) (cube_turns side) place turns all is in
    record { count = chain.count; each = chain.each; follow = chain.follow }
