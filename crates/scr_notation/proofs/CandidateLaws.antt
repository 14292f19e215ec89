-- A turn's number is that of the one turn that its spelling can be.
use Rattle.std.proofs.Common.{◌≡◌, ℕ, ◌<◌, true, false, IsTrue, List, refl, arith, ap, sym, ◌∙◌, subst}
use Rattle.std.proofs.lemmas.Bool.{eqb-true}
use Rattle.std.specs.Prelude.{◌==◌}
use Rattle.scr_notation.specs.declared.event.Kind.{Kind}
use Rattle.scr_notation.specs.declared.event.Kind.TheVariants.{Faces, Axes, LayersAndTwist, PinSets, WideTurns}
use Rattle.scr_notation.specs.declared.turn.Turn.{Turn}
use Rattle.scr_notation.specs.Kinds.{IsKind}
use Rattle.scr_notation.specs.Spelling.{spelling, hours_text}
use Rattle.scr_notation.specs.TurnNumbers.{turn_count, turn_at, face_turn_at, axis_turn_at, layer_turn_at, clock_turn_at, wide_turn_at}
use Rattle.scr_notation.specs.Candidates.{layers_candidate, quarters_candidate, face_candidate, axis_candidate, twelfths_candidate, layer_candidate, set_candidate, clock_candidate, wide_candidate, candidate}
use Rattle.scr_notation.specs.Ranges.{all_below}
use Rattle.scr_notation.specs.Turns.{has_turn}
use Rattle.scr_notation.proofs.Below.{at_below}
use Rattle.scr_notation.proofs.NumberLaws.{numbered}

faces : IsTrue (all_below (λ n. face_candidate (spelling (face_turn_at n)) == n) 54)
unfolding all_below face_turn_at spelling face_candidate layers_candidate quarters_candidate
faces = refl

axes : IsTrue (all_below (λ n. axis_candidate (spelling (axis_turn_at n)) == n) 16)
unfolding all_below axis_turn_at spelling axis_candidate
axes = refl

layers : IsTrue (all_below (λ n. layer_candidate (spelling (layer_turn_at n)) == n) 144)
unfolding all_below layer_turn_at spelling layer_candidate twelfths_candidate
layers = refl

pins : IsTrue (all_below (λ n. clock_candidate (spelling (clock_turn_at n)) == n) 109)
unfolding all_below clock_turn_at spelling hours_text clock_candidate set_candidate
pins = refl

wide : IsTrue (all_below (λ n. wide_candidate (spelling (wide_turn_at n)) == n) 6)
unfolding all_below wide_turn_at spelling wide_candidate
wide = refl

at : (spelled : ℕ → ℕ) (count n : ℕ) → IsTrue (all_below (λ k. spelled k == k) count) → n < count → spelled n ≡ n
at spelled count n all l = eqb-true (spelled n) n (at_below (λ k. spelled k == k) count n all l)

pub candidate-spelling : (kind : Kind) (n : ℕ) → IsKind kind → n < turn_count kind
    → candidate kind (spelling (turn_at kind n)) ≡ n
unfolding turn_at candidate
candidate-spelling (Faces near far) n k l =
    at (λ i. face_candidate (spelling (face_turn_at i))) 54 n faces (omega (arith, k.few, k.near_first))
candidate-spelling (Axes true) n k l = at (λ i. axis_candidate (spelling (axis_turn_at i))) 16 n axes l
candidate-spelling (Axes false) n k l = at (λ i. axis_candidate (spelling (axis_turn_at i))) 16 n axes (omega arith)
candidate-spelling LayersAndTwist n k l = at (λ i. layer_candidate (spelling (layer_turn_at i))) 144 n layers l
candidate-spelling PinSets n k l = at (λ i. clock_candidate (spelling (clock_turn_at i))) 109 n pins l
candidate-spelling WideTurns n k l = at (λ i. wide_candidate (spelling (wide_turn_at i))) 6 n wide l

-- so a turn that the kind has is the one with the number of its spelling's candidate
pub candidate_of_spelling : (kind : Kind) (t : Turn) (word : List ℕ) → IsKind kind → IsTrue (has_turn kind t)
    → spelling t ≡ word → (candidate kind word < turn_count kind) × (turn_at kind (candidate kind word) ≡ t)
candidate_of_spelling kind t word k h s =
    let n = numbered kind t k h in
    let e : candidate kind word ≡ n.0 = ap (candidate kind) (sym s ∙ ap spelling (sym n.2)) ∙ candidate-spelling kind n.0 k n.1 in
    (subst (λ m. m < turn_count kind) (sym e) n.1, ap (turn_at kind) e ∙ n.2)
