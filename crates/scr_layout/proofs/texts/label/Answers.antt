use Rattle.std.proofs.Common.{◌<◌, arith}
use Rattle.scr_notation.specs.Event.{per_group_of}
use Rattle.scr_layout.proofs.LabelLemmas.{label-0, label-1, label-2, label-3, label-4}
use Rattle.scr_layout.proofs.texts.label.Goals as goal

pub returns-in-0-clause-value : goal.returns-in-0-clause-value
returns-in-0-clause-value c = rw c.in-0.is (label-0 c.args.event)

pub returns-in-1-clause-value : goal.returns-in-1-clause-value
returns-in-1-clause-value c = rw c.in-1.is (label-1 c.args.event)

pub returns-in-2-clause-value : goal.returns-in-2-clause-value
returns-in-2-clause-value c = rw c.in-2.is (label-2 c.args.event)

pub returns-in-3-clause-value : goal.returns-in-3-clause-value
returns-in-3-clause-value c =
    let more : 3 < per_group_of c.args.event = omega arith in
    rw c.in-3.is (label-3 c.args.event more)

pub returns-in-4-clause-value : goal.returns-in-4-clause-value
returns-in-4-clause-value c =
    let more : 4 < per_group_of c.args.event = omega arith in
    rw c.in-4.is (label-4 c.args.event more)
