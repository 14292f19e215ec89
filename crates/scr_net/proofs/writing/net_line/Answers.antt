use Rattle.std.proofs.Common.{[], ◌∷◌, sym, ◌∙◌, arith}
use Rattle.scr_net.proofs.TextLaws.{upper-at, middle-at, lower-at, line-printable}
use Rattle.scr_net.proofs.writing.net_line.Goals as goal

pub returns-then-place-clause-line : goal.returns-then-place-clause-line
returns-then-place-clause-line g c = c.line_beside.ensures.bytes ∙ sym (upper-at g.row.SIDE c.args.net.now c.args.place (omega arith))

pub returns-then-place-clause-printable : goal.returns-then-place-clause-printable
returns-then-place-clause-printable g c =
    rw c.line_beside.ensures.bytes (line-printable g.row.SIDE c.args.net.now _ 0 [] _ c.line_beside.ensures.net)

pub returns-then-place-2-clause-line : goal.returns-then-place-2-clause-line
returns-then-place-2-clause-line g c =
    c.line_beside-then-place-2.ensures.bytes ∙ sym (middle-at g.row.SIDE c.args.net.now c.args.place (omega arith) (omega arith))

pub returns-then-place-2-clause-printable : goal.returns-then-place-2-clause-printable
returns-then-place-2-clause-printable g c =
    rw c.line_beside-then-place-2.ensures.bytes (line-printable g.row.SIDE c.args.net.now 0 4 (2 ∷ 1 ∷ 5 ∷ []) _ c.line_beside-then-place-2.ensures.net)

pub returns-else-place-2-clause-line : goal.returns-else-place-2-clause-line
returns-else-place-2-clause-line g c =
    c.line_beside-else-place-2.ensures.bytes ∙ sym (lower-at g.row.SIDE c.args.net.now c.args.place (omega arith) (omega (arith, c.requires.place)))

pub returns-else-place-2-clause-printable : goal.returns-else-place-2-clause-printable
returns-else-place-2-clause-printable g c =
    rw c.line_beside-else-place-2.ensures.bytes (line-printable g.row.SIDE c.args.net.now _ 3 [] _ c.line_beside-else-place-2.ensures.net)
