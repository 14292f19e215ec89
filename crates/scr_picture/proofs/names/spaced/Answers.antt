use Rattle.std.proofs.Common.{take}
use Rattle.scr_picture.proofs.OneLine.{spaced_line}
use Rattle.scr_picture.proofs.names.spaced.Goals as goal

pub returns-clause-line : goal.returns-clause-line
returns-clause-line c =
    rw (c.loop-letter.invariant.bytes, c.push_str.ensures.bytes, c.new-text.ensures, c.name_in.ensures.value)
    (spaced_line c.args.alphabet c.in-Some.first.now (take c.loop-letter.letter-index c.in-Some.others.now))
