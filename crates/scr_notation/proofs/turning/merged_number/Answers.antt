use Rattle.std.proofs.Common.{◌/◌, eq-eqb, ne_eqb}
use Rattle.scr_notation.proofs.NumberTurns.{layers_alike, layers_merged, faces_alike, faces_merged, faces_below}
use Rattle.scr_notation.proofs.turning.merged_number.Goals as goal

pub returns-in-LayersAndTwist-clause-alike : goal.returns-in-LayersAndTwist-clause-alike
returns-in-LayersAndTwist-clause-alike c = layers_alike c.args.first c.args.second c.in-LayersAndTwist.is c.if-first-second.true

pub returns-in-LayersAndTwist-2-clause-alike : goal.returns-in-LayersAndTwist-2-clause-alike
returns-in-LayersAndTwist-2-clause-alike c = layers_alike c.args.first c.args.second c.in-LayersAndTwist.is c.if-first-second.false

pub returns-in-LayersAndTwist-2-clause-merged : goal.returns-in-LayersAndTwist-2-clause-merged
returns-in-LayersAndTwist-2-clause-merged c =
    layers_merged c.args.first c.args.second c.in-LayersAndTwist.is c.requires.first c.requires.second c.if-first-second.false c.then_some.ensures

pub returns-in_default-clause-alike : goal.returns-in_default-clause-alike
returns-in_default-clause-alike c =
    faces_alike c.args.first c.args.second c.requires.merging c.in_default.not-LayersAndTwist
    (ne_eqb (c.args.first / 3) (c.args.second / 3) c.if-first-second-2.true)

pub returns-in_default-2-clause-alike : goal.returns-in_default-2-clause-alike
returns-in_default-2-clause-alike c =
    faces_alike c.args.first c.args.second c.requires.merging c.in_default.not-LayersAndTwist
    (eq-eqb (c.args.first / 3) (c.args.second / 3) c.if-first-second-2.false)

pub returns-in_default-2-clause-merged : goal.returns-in_default-2-clause-merged
returns-in_default-2-clause-merged c =
    faces_merged c.args.first c.args.second c.requires.merging c.in_default.not-LayersAndTwist c.if-first-second-2.false
    c.then_some-in_default-2.ensures

pub returns-in_default-2-clause-below : goal.returns-in_default-2-clause-below
returns-in_default-2-clause-below c =
    faces_below c.args.first c.args.second c.requires.merging c.in_default.not-LayersAndTwist c.requires.first
    c.then_some-in_default-2.ensures
