use Rattle.std.proofs.Common.{◌∙◌, [], ◌∷◌, arith}
use Rattle.std.proofs.lemmas.Bool.{ne_eqb}
use Rattle.scr_check.proofs.CutLemmas.{IsPlain-none, IsPlain-one, IsPlain-append}
use Rattle.scr_check.proofs.ReadingLemmas.{Takes-none, Takes-append}
use Rattle.scr_check.proofs.line.read_line.Goals as goal

pub loop-reader-init : goal.loop-reader-init
loop-reader-init g c = grind (arith, IsPlain-none, Takes-none)

pub loop-reader-preserved : goal.loop-reader-preserved
loop-reader-preserved g c = record {
  same_source = c.next.ensures.same_source ∙ c.loop-reader.invariant.same_source;
  few = first_of (omega (arith, c.push.ensures.len), grind (arith, c.push.ensures.len));
  plain = rw c.push.ensures.items
      (IsPlain-append c.loop-reader.text.items (c.in-Some.byte ∷ []) c.loop-reader.invariant.plain (IsPlain-one c.in-Some.byte (ne_eqb c.in-Some.byte 10 c.in-Some.byte-test.1)));
  taken = rw c.push.ensures.items
      (Takes-append g.S.Source.left g.S.Source.faults g.S.Source.ends c.loop-reader.invariant.taken (rw c.in-Some.is at c.in_ok-next.ensures.byte));
}
