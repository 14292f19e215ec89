use Rattle.std.proofs.Common.{rules, ◌≡◌, ◌<◌, IsTrue, arith, ap, sym, ◌∙◌, subst}
use Rattle.scr_notation.specs.declared.event.Kind.{Kind}
use Rattle.scr_notation.specs.Turns.{has_turn}
use Rattle.scr_notation.specs.Spelling.{spelling}
use Rattle.scr_notation.specs.TurnNumbers.{turn_at}
use Rattle.scr_notation.specs.Candidates.{candidate}
use Rattle.scr_notation.proofs.CandidateLaws.{candidate_of_spelling}
use Rattle.scr_notation.proofs.reading.read_turn.Goals as goal

pub returns-then-number-turn_count-clause-none : goal.returns-then-number-turn_count-clause-none
returns-then-number-turn_count-clause-none c = λ _ s.
    let P : Kind → Type 0 = λ kind. IsTrue (has_turn kind s.0) in
    let is = candidate_of_spelling c.row-kind.result.kind s.0 c.args.word.now c.row-kind.ensures.depths (subst P (sym c.row-kind.ensures.kind) s.1) s.2 in
    let number : c.candidate-number.result ≡ candidate c.row-kind.result.kind c.args.word.now = c.candidate-number.ensures ∙ ap (candidate c.row-kind.result.kind) c.as_bytes.ensures.value in
    let below : c.candidate-number.result < c.turn_count.result = omega (arith, is.0) in
    search rules

pub returns-else-eq-clause-none : goal.returns-else-eq-clause-none
returns-else-eq-clause-none c = λ _ s.
    let P : Kind → Type 0 = λ kind. IsTrue (has_turn kind s.0) in
    let is = candidate_of_spelling c.row-kind.result.kind s.0 c.args.word.now c.row-kind.ensures.depths (subst P (sym c.row-kind.ensures.kind) s.1) s.2 in
    let number : c.candidate-number.result ≡ candidate c.row-kind.result.kind c.args.word.now = c.candidate-number.ensures ∙ ap (candidate c.row-kind.result.kind) c.as_bytes.ensures.value in
    let turn : c.turn_at-turn.result ≡ s.0 = c.turn_at-turn.ensures.value ∙ ap (turn_at c.row-kind.result.kind) number ∙ is.1 in
    let text : c.as_str.result.now ≡ c.args.word.now = c.as_str.ensures.value ∙ c.spelled.ensures ∙ ap spelling turn ∙ s.2 in
    search rules
