use Rattle.std.proofs.Common.{◌≡◌, slice_index, sym, arith}
use Rattle.scr_twophase.proofs.Astray.{astray-none, astray-more, astray-same}
use Rattle.scr_twophase.proofs.needs.pieces_astray.Goals as goal
use Rattle.scr_twophase.proofs.needs.pieces_astray.Goals.{then-from-place, then-from-place-via-then-from-place, then-from-place-via-else-from-place+then-digits-place-ne0, else-from-place+else-digits-place-ne0}

pub loop-place-init : goal.loop-place-init
loop-place-init c = (sym (astray-none c.args.pieces.now c.args.digits.now), omega arith)

pub loop-place-preserved : goal.loop-place-preserved
loop-place-preserved c =
    let pieces = c.args.pieces.now in
    let digits = c.args.digits.now in
    let place = c.loop-place.place in
    elim c.if-from-place.branch [
      | then-from-place w ↦
          let other : slice_index pieces place ≡ place → slice_index digits place ≡ 0 → ⊥ =
          λ e f. elim w.then-from-place.branch [
            | then-from-place-via-then-from-place v ↦ omega (arith, e, c.from.ensures)
            | then-from-place-via-else-from-place+then-digits-place-ne0 v ↦ omega (arith, f)
          ] in
          let more = astray-more pieces digits place other in
          (omega (arith, more, w.count-is, c.loop-place.invariant.0), omega (arith, w.count-is, c.loop-place.invariant.1))
      | else-from-place+else-digits-place-ne0 w ↦
          let same = astray-same pieces digits place (omega (arith, c.from.ensures)) (omega arith) in
          (omega (arith, same, w.count-is, c.loop-place.invariant.0), omega (arith, w.count-is, c.loop-place.invariant.1))
    ]
