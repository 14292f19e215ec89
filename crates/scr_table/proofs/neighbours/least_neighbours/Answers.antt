use Rattle.std.proofs.Common.{ℕ, ◌+◌, sym, subst, arith}
use Rattle.std.proofs.lemmas.List.{get_or-replicate}
use Rattle.scr_table.proofs.FilledLaws.{IsLeast, IsLeast-none}
use Rattle.scr_table.proofs.neighbours.least_neighbours.Goals as goal

pub loop-turn-init : goal.loop-turn-init
loop-turn-init g c =
    λ k lt.
    let P : ℕ → Type 0 = λ least. IsLeast (g.C.Coord.coordinate c.args.coord.now) c.args.entries.now (c.args.start + k) 0 least in
    subst P (sym (get_or-replicate 1024 k 255 0 (omega arith))) (IsLeast-none _ _ _)
