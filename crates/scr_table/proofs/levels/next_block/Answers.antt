use Rattle.std.proofs.Common.{◌≡◌, ℕ, ◌+◌, ◌-◌, ◌∙◌, subst, arith}
use Rattle.std.proofs.lemmas.List.{length-set}
use Rattle.scr_positions.proofs.Written.{each_written_from}
use Rattle.scr_table.specs.Filled.{IsNextEntry}
use Rattle.scr_table.proofs.BlockLaws.{IsNextEntry-least}
use Rattle.scr_table.proofs.levels.next_block.Goals as goal
use Rattle.scr_table.proofs.levels.next_block.Goals.{then-entry, else-entry}

pub loop-position-preserved : goal.loop-position-preserved
loop-position-preserved g c =
    let coordinate = g.C.Coord.coordinate c.args.coord.now in
    let p = c.loop-position.position in
    let Is : ℕ → ℕ → Type 0 = λ q e. IsNextEntry coordinate c.args.level c.args.entries.now q e in
    let here : Is p c.if-entry.next =
    elim c.if-entry.branch [
      | then-entry w ↦
          IsNextEntry-least coordinate c.args.level c.args.entries.now p w.least_neighbour.result c.if-entry.next w.least_neighbour.ensures
          (w.next-is ∙ w.next_entry.ensures)
      | else-entry w ↦ record { kept = λ _. w.next-is; reached = λ unknown. absurd (w.if-entry.false unknown) }
    ] in
    let place : p ≡ c.args.start + (p - c.args.start) = omega arith in
    let Here : ℕ → Type 0 = λ q. Is q c.if-entry.next in (
      length-set c.loop-position.next _ _ ∙ c.loop-position.invariant.0,
      each_written_from (λ k e. Is (c.args.start + k) e) c.loop-position.next c.args.start p c.if-entry.next (omega arith)
          (omega (arith, c.loop-position.invariant.0)) c.loop-position.invariant.1 (subst Here place here),
    )
