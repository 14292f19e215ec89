use Rattle.std.proofs.Common.{◌-◌, suc, ◌≡◌, None, Some, sym, ◌∙◌, subst, arith}
use Rattle.std.specs.Prelude.{not, ◌==◌}
use Rattle.std.proofs.lemmas.Option.{same_Some}
use Rattle.scr_combinatorics.proofs.PlayLaws.{Needs-fewer}
use Rattle.scr_notation.specs.TurnNumbers.{layer_turn_at}
use Rattle.scr_sq1.specs.Units.{sq1_puzzle}
use Rattle.scr_sq1far.specs.Alternating.{NeedsBy}
use Rattle.scr_sq1far.proofs.Alternation.{NeedsBy-needs, NeedsBy-turns, Needs-behind, on_true, beq-differ}
use Rattle.scr_sq1far.proofs.TurnLaws.{each_turn-more, each_turn-all}
use Rattle.scr_sq1far.proofs.near.NearSolved.+needs_by.Goals as goal
use Rattle.scr_sq1far.proofs.near.NearSolved.+needs_by.Goals.{then-turn-twists+in-Some+else-not-needs_by, then-turn-twists+in_default, else-turn-twists}

pub returns-then-least-le7-clause-needed : goal.returns-then-least-le7-clause-needed
returns-then-least-le7-clause-needed t c =
    on_true c.needs.result (λ is. NeedsBy-needs c.args.twists c.args.state.now c.args.least (c.needs.ensures.exact.0 is))

pub loop-turn-init : goal.loop-turn-init
loop-turn-init t c = λ n r lt kind e. absurd (omega arith)

pub returns-then-not-needs_by-clause-refused : goal.returns-then-not-needs_by-clause-refused
returns-then-not-needs_by-clause-refused t c = λ needs.
    c.if-not-needs_by.ensures.refused
    (Needs-behind c.args.state.now c.in-Some.next (layer_turn_at c.loop-turn.turn) (c.args.least - 1) (sym c.in-Some.ensures.after)
    (Needs-fewer sq1_puzzle c.args.state.now c.args.least (suc (c.args.least - 1)) (omega arith) needs))

pub loop-turn-preserved : goal.loop-turn-preserved
loop-turn-preserved t c =
    each_turn-more (λ r. NeedsBy (not c.args.twists) r (c.args.least - 1)) c.args.state.now c.args.twists c.loop-turn.turn c.loop-turn.invariant
    (λ r kind e. elim c.if-turn-twists.branch [
      | then-turn-twists+in-Some+else-not-needs_by w ↦
          subst (λ q. NeedsBy (not c.args.twists) q (c.args.least - 1)) (same_Some w.in-Some.next r (w.in-Some.ensures.after ∙ e)) w.if-not-needs_by.ensures.needed
      | then-turn-twists+in_default w ↦ absurd (let same : None ≡ Some r = w.in_default.ensures.after ∙ e in cc)
      | else-turn-twists w ↦ absurd (beq-differ (c.loop-turn.turn == 65) c.args.twists w.if-turn-twists.false kind)
    ])

pub returns-clause-needed : goal.returns-clause-needed
returns-clause-needed t c =
    NeedsBy-turns c.args.twists c.args.state.now (c.args.least - 1) c.args.least (omega arith)
    (Needs-fewer sq1_puzzle c.args.state.now 7 1 (omega arith) (c.needs-2.ensures.exact.0 c.if-not-needs.false))
    (each_turn-all (λ r. NeedsBy (not c.args.twists) r (c.args.least - 1)) c.args.state.now c.args.twists
    (λ n r lt kind e. c.loop-turn.invariant n r (omega arith) kind e))
