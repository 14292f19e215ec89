use Rattle.std.proofs.Common.{◌≤◌, ℕ, slice_index_or, sym, ap, ◌∙◌, subst, arith}
use native.Mathlib.Decide.{ℕ_discrete}
use mathlib.Core.Logic.{dite}
use Rattle.scr_workers.proofs.Steps.{get_or-any}
use Rattle.scr_round.specs.Round.{slots_of}
use Rattle.scr_sheet.proofs.room.most_slots.Goals as goal

pub loop-round-preserved : goal.loop-round-preserved
loop-round-preserved c k d below inside =
    let i : ℕ = c.loop-round.round-index in
    let rounds = c.args.rounds.now in
    let greater = c.max-most.ensures in
    dite (ℕ_discrete k i)
    (λ here. let own = c.slots.ensures.count ∙ ap slots_of (c.round-item.is ∙ get_or-any rounds i c.round-item.result d c.loop-round-test.true) in
    let most : slots_of (slice_index_or rounds i d) ≤ c.max-most.result = omega (arith, own, greater) in
    subst (λ j. slots_of (slice_index_or rounds j d) ≤ c.max-most.result) (sym here) most)
    (λ other. let before = c.loop-round.invariant k d (omega (arith, below, other)) inside in omega (arith, before, greater))
