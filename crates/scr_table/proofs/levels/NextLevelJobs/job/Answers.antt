use Rattle.std.proofs.Common.{◌≡◌, ℕ, ◌+◌, ◌*◌, get_or, subst, arith}
use Rattle.scr_table.specs.Filled.{IsNextEntry}
use Rattle.scr_table.proofs.BlockLaws.{IsCheckedBlock-of}
use Rattle.scr_table.proofs.levels.NextLevelJobs.job.Goals as goal

pub returns-then-self : goal.returns-then-self
returns-then-self g c =
    let me = c.args.self.now in
    rw c.if-self.true
    (IsCheckedBlock-of (g.C.Coord.coordinate me.coord.now) me.level me.entries.now c.args.slot (c.args.slot * 1024) c.min-end.result
    c.least_neighbours-least.result (omega arith) (λ k lt inside. omega (arith, inside))
    (λ k lt. c.least_neighbours-least.ensures k (omega (arith, lt))) c.checked_block.result c.checked_block.ensures.agree
    c.checked_block.ensures.next)

pub returns-then-not-contains : goal.returns-then-not-contains
returns-then-not-contains g c =
    rw c.if-self.false
    (λ k lt inside. c.if-not-contains.ensures.none (1024 * c.args.slot + k) (omega arith) (omega (arith, inside)))

pub returns : goal.returns
returns g c =
    rw c.if-self.false
    (λ k lt inside.
    let me = c.args.self.now in
    let place : c.args.slot * 1024 + k ≡ 1024 * c.args.slot + k = omega arith in
    let P : ℕ → Type 0 = λ p. IsNextEntry (g.C.Coord.coordinate me.coord.now) me.level me.entries.now p (get_or c.next_block.result k 0) in
    subst P place (c.next_block.ensures k (omega (arith, inside))))
