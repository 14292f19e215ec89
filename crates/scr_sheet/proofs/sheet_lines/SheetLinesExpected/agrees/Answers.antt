use Rattle.std.proofs.Common.{◌≡◌, ◌<◌, ℕ, get_or, length, sym, ap, subst, ◌∙◌, arith}
use Rattle.std.specs.Prelude.{slice_get}
use Rattle.std.proofs.lemmas.Option.{same_Some, get_or_from_slice_get, slice_get_within}
use Rattle.scr_list.specs.declared.round.Round.{Round}
use Rattle.scr_round.specs.Round.{Line, round_lines}
use Rattle.scr_sheet.specs.Check.{IsAnswerAt, IsLineAnswer, SheetRounds, list_lines}
use Rattle.scr_sheet.proofs.sheet_lines.SheetLinesExpected.agrees.Goals as goal

pub line_agrees-requires-clause-tables : goal.line_agrees-requires-clause-tables
line_agrees-requires-clause-tables c =
    let at = c.place_of-index.ensures in
    let k : ℕ = c.place_of-index.result.0 in
    c.self.invariant.2 k c.index-self-index.result (slice_get_within c.self.inside.rounds.now k at.round at.round_there)

pub line_agrees-requires-clause-round : goal.line_agrees-requires-clause-round
line_agrees-requires-clause-round c =
    let at = c.place_of-index.ensures in
    let k : ℕ = c.place_of-index.result.0 in
    c.self.invariant.0.each k c.index-self-index.result (slice_get_within c.self.inside.rounds.now k at.round at.round_there)

pub line_agrees-requires-clause-index : goal.line_agrees-requires-clause-index
line_agrees-requires-clause-index c =
    let at = c.place_of-index.ensures in
    let k : ℕ = c.place_of-index.result.0 in
    let below = slice_get_within c.self.inside.rounds.now k at.round at.round_there in
    let few = c.self.invariant.0.few in
    omega (arith, below, few)

pub line_agrees-requires-clause-place : goal.line_agrees-requires-clause-place
line_agrees-requires-clause-place c =
    let at = c.place_of-index.ensures in
    let k : ℕ = c.place_of-index.result.0 in
    let place : ℕ = c.place_of-index.result.1 in
    let rounds = c.self.inside.rounds.now in
    let round = get_or_from_slice_get rounds k at.round c.index-self-index.result at.round_there in
    subst (λ (r : Round). place < length (round_lines k r)) (sym round) (slice_get_within (round_lines k at.round) place at.own at.own_there)

pub line_agrees-requires-clause-attempts : goal.line_agrees-requires-clause-attempts
line_agrees-requires-clause-attempts c = c.self.invariant.1

pub returns : goal.returns
returns c =
    let at = c.place_of-index.ensures in
    let k : ℕ = c.place_of-index.result.0 in
    let place : ℕ = c.place_of-index.result.1 in
    let rounds = c.self.inside.rounds.now in
    let settings = c.self.inside.settings.now in
    let told = c.line_agrees.result in
    let answer = c.line_agrees.ensures in
    let round : get_or rounds k c.index-self-index.result ≡ at.round = get_or_from_slice_get rounds k at.round c.index-self-index.result at.round_there in
    let own : answer.own ≡ at.own =
    same_Some answer.own at.own (sym answer.there ∙ ap (λ (r : Round). slice_get (round_lines k r) place) round ∙ at.own_there) in
    subst (λ (of : SheetRounds). IsAnswerAt of.settings (list_lines 0 of.rounds) c.args.line c.args.text.now told) c.self.view_is (record {
      line = record { k = k; round = at.round; line = at.own };
      there = at.there;
      answered = subst (λ (line : Line). IsLineAnswer settings k at.round line c.args.text.now told) own
          (subst (λ (r : Round). IsLineAnswer settings k r answer.own c.args.text.now told) round answer.answered);
    })
