use Rattle.std.proofs.Common.{Some, ap, ◌∙◌, sym, length-take, arith}
use Rattle.std.proofs.lemmas.List.{take_rest}
use Rattle.scr_outside.proofs.BytesLemmas.{copied-put_back}
use Rattle.scr_outside.proofs.memory.MemSourceSource.read.Goals as goal

pub returns-clause-ok : goal.returns-clause-ok
returns-clause-ok c = record {
  given =
      ap (λ s. Some s.left) (sym c.self.view_is) ∙
      ap Some (copied-put_back c.self.inside.bytes.items c.copy_from_slice.new.self _ c.self.inside.place c.min-n.result
      (rw (take_rest, c.deref.ensures.value) at c.copy_from_slice.ensures.after) (c.copy_from_slice.ensures.len ∙ length-take _ _ ∙ omega arith));
  no_fault = ap (λ calls. calls.faults) c.count.ensures.counted ∙ ap (λ s. s.calls.faults) c.self.view_is;
}
