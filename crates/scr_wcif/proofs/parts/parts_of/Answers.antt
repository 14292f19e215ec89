use Rattle.std.proofs.Common.{◌≡◌, true, false, sym, ap, ◌∙◌}
use Rattle.std.specs.Prelude.{◌≢◌}
use Rattle.std.specs.Str.{bytes_eq}
use Rattle.std.proofs.lemmas.Bool.{false≢true}
use Rattle.std.proofs.lemmas.Slice.Eq.{bytes_eq-Decides}
use Rattle.scr_wcif.specs.Parts.{between}
use Rattle.scr_wcif.proofs.PartLemmas.{passed-more, passed-parts, passed-all}
use Rattle.scr_wcif.proofs.parts.parts_of.Goals as goal

pub returns-then-eq : goal.returns-then-eq
returns-then-eq c =
    let line = c.in-Some.line.now in
    let same : bytes_eq line between ≡ true = ap (bytes_eq line) (sym c.as_slice.ensures) ∙ sym c.if-eq.ensures in
    passed-parts c.args.input.now c.lines.rest.now line c.in-Some.behind.now c.lines.invariant c.in-Some.ensures.0 ((bytes_eq-Decides line between).0 same)

pub lines-preserved : goal.lines-preserved
lines-preserved c =
    let line = c.in-Some.line.now in
    let other : bytes_eq line between ≡ false = ap (bytes_eq line) (sym c.as_slice.ensures) ∙ sym c.if-eq.ensures in
    let differs : line ≢ between = λ is. false≢true (sym other ∙ (bytes_eq-Decides line between).1 is) in
    passed-more c.args.input.now c.lines.rest.now line c.in-Some.behind.now c.lines.invariant c.in-Some.ensures.0 c.in-Some.ensures.1 differs

pub returns : goal.returns
returns c = passed-all c.args.input.now c.lines.rest.now c.lines.invariant c.in_default.ensures
