use Rattle.std.proofs.Common.{◌∙◌, arith}
use Rattle.scr_workers.proofs.Keeps.{claims_keep, no_late}
use Rattle.scr_workers.proofs.laws.work.Goals as goal

pub fetch_add-number-requires : goal.fetch_add-number-requires
fetch_add-number-requires g c =
    let inv = c.loop-seat.invariant in
    let word = c.args.table.now.one_word in
    let weight = c.requires.seat.some_weight in
    let same = inv.same.weight in
    let fits = c.ranges.slots.fits in (
      inv.same.word ∙ c.requires.seat.of_word,
      omega (arith, word),
      claims_keep _ _ _ (omega (arith, weight, same)) (no_late c.args.slots _ (omega (arith, fits)) inv.below),
    )
