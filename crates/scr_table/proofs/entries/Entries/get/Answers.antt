use Rattle.std.proofs.Common.{◌∙◌, ap}
use Rattle.scr_table.specs.Halves.{Deep}
use Rattle.scr_table.proofs.StoredLaws.{AreRising-deep, found_stored}
use Rattle.scr_table.proofs.entries.Entries.get.Goals as goal

pub deep_entry-requires-clause-rising : goal.deep_entry-requires-clause-rising
deep_entry-requires-clause-rising c =
    rw c.deref-then-half-eq-DEEP.ensures.value (rw c.self.invariant.deep_ones (AreRising-deep _))

pub deep_entry-requires-clause-there : goal.deep_entry-requires-clause-there
deep_entry-requires-clause-there c =
    let (i, lt, at) = found_stored _ _ _ _ _ _ _ _ _ c.self.invariant c.self.view_is c.requires c.deref.ensures.value
    c.half_byte_at-half.ensures c.if-half-eq-DEEP.true c.deref-then-half-eq-DEEP.ensures.value in
    (i, (lt, ap (λ (e : Deep). e.0) at))

pub returns-then-half-eq-DEEP : goal.returns-then-half-eq-DEEP
returns-then-half-eq-DEEP c =
    let (i, lt, at) = found_stored _ _ _ _ _ _ _ _ _ c.self.invariant c.self.view_is c.requires c.deref.ensures.value
    c.half_byte_at-half.ensures c.if-half-eq-DEEP.true c.deref-then-half-eq-DEEP.ensures.value in
    c.deep_entry.ensures i (lt, ap (λ (e : Deep). e.0) at) ∙ ap (λ (e : Deep). e.1) at
