use Rattle.std.proofs.Common.{arith}
use Rattle.std.proofs.lemmas.Result.{err_from_is_err_and}
use Rattle.scr_outside.proofs.ChangeLemmas.{written-none, written-more, written-part, written-at, written-all}
use Rattle.scr_net.specs.NetText.{net_lines}
use Rattle.scr_net.proofs.TextLaws.{next_line, no_line, lines-long, text-is}
use Rattle.scr_net.proofs.writing.write_net.Goals as goal

pub loop-place-init : goal.loop-place-init
loop-place-init g c = written-at (text-is g.row.SIDE c.args.net.now) written-none

pub returns-in_err-write_line : goal.returns-in_err-write_line
returns-in_err-write_line g c =
    let p = err_from_is_err_and c.from_residual.result c.from_residual.ensures.1 in
    let next = next_line (net_lines g.row.SIDE c.args.net.now) c.loop-place.place (omega (arith, lines-long g.row.SIDE c.args.net.now)) in
    rw p.1 (written-part _ (written-at next c.loop-place.invariant) (rw (c.as_str.ensures.value, c.net_line.ensures.line) at c.in_err-write_line.ensures))

pub loop-place-preserved : goal.loop-place-preserved
loop-place-preserved g c =
    let next = next_line (net_lines g.row.SIDE c.args.net.now) c.loop-place.place (omega (arith, lines-long g.row.SIDE c.args.net.now)) in
    written-more (written-at next c.loop-place.invariant) (rw (c.as_str.ensures.value, c.net_line.ensures.line) at c.in_ok-write_line.ensures)

pub returns : goal.returns
returns g c =
    written-all
    (written-at (no_line (net_lines g.row.SIDE c.args.net.now) c.loop-place.place (omega (arith, lines-long g.row.SIDE c.args.net.now))) c.loop-place.invariant)
