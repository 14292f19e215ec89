use Rattle.std.proofs.Common.{◌≡◌, false, length, take, drop, refl, sym, ap, ◌∙◌, arith}
use Rattle.std.specs.Str.{bytes_eq}
use Rattle.std.proofs.lemmas.Bool.{false≢true, eq-eqb, ne_eqb, eqb-true}
use Rattle.scr_check.specs.Parts.{separator, ends_line, list_room}
use Rattle.scr_check.specs.Reading.{reading}
use Rattle.scr_check.proofs.ListLemmas.{so-far-none, so-far-other, so-far-feed, tail-is, part-separated, part-whole, part-full}
use Rattle.scr_check.proofs.ReadingLemmas.{Takes-none, Takes-append}
use Rattle.scr_check.proofs.parts.list_part.Goals.{else-ends_line-via-then-ends_line+else-eq, else-ends_line-via-else-ends_line}
use Rattle.scr_check.proofs.parts.list_part.Goals as goal

pub loop-reader-init : goal.loop-reader-init
loop-reader-init g c = record {
  same_source = refl;
  so_far = so-far-none c.new-text.result.items c.new-text.ensures;
  taken = rw c.new-text.ensures (Takes-none g.S.Source.left g.S.Source.faults g.S.Source.ends (reading c.args.reader.now));
}

pub returns-then-eq-clause-part : goal.returns-then-eq-clause-part
returns-then-eq-clause-part g c =
    let held = c.as_slice-held.ensures.value in
    part-separated g.S.Source.left g.S.Source.faults g.S.Source.ends (reading c.args.reader.now) (reading c.next.new.self) c.loop-reader.start
    c.loop-reader.text.items c.in_ok-byte.byte c.first_bytes.result.items c.loop-reader.invariant.so_far
    (ap (λ x. bytes_eq x separator) (sym (tail-is c.as_slice-held.result.now c.loop-reader.text.items c.loop-reader.start held))
    ∙ sym (rw c.as_slice.ensures at c.eq.ensures) ∙ c.if-eq.true)
    (sym c.ends_line.ensures ∙ c.if-ends_line.true)
    (Takes-append g.S.Source.left g.S.Source.faults g.S.Source.ends c.loop-reader.invariant.taken c.in_ok-byte.ensures.byte)
    c.in_ok-byte.ensures.end (c.first_bytes.ensures ∙ ap (λ x. take list_room (take c.loop-reader.start x)) held)

pub returns-in_default-clause-part : goal.returns-in_default-clause-part
returns-in_default-clause-part g c =
    let held = c.as_slice-held.ensures.value in
    let tail = tail-is c.as_slice-held.result.now c.loop-reader.text.items c.loop-reader.start held in
    let other : bytes_eq (drop c.loop-reader.start c.loop-reader.text.items) separator ≡ false = elim c.else-ends_line.branch [
      | else-ends_line-via-then-ends_line+else-eq w ↦
          ap (λ x. bytes_eq x separator) (sym tail) ∙ sym (rw w.as_slice.ensures at w.eq.ensures) ∙ w.if-eq.false
      | else-ends_line-via-else-ends_line w ↦
          absurd (false≢true (sym w.if-ends_line.false ∙ c.ends_line.ensures ∙ ap ends_line c.in_default.is))
    ] in
    part-whole g.S.Source.left g.S.Source.faults g.S.Source.ends (reading c.args.reader.now) (reading c.next.new.self) c.loop-reader.start
    c.loop-reader.text.items c.first_bytes-in_default.result.items c.loop-reader.invariant.so_far other
    (Takes-append g.S.Source.left g.S.Source.faults g.S.Source.ends c.loop-reader.invariant.taken (rw c.in_default.is at c.in_ok-byte.ensures.byte))
    (c.in_ok-byte.ensures.end.0 c.in_default.is) (c.first_bytes-in_default.ensures ∙ ap (take list_room) held)

pub loop-reader-preserved-then-byte-eq10 : goal.loop-reader-preserved-then-byte-eq10
loop-reader-preserved-then-byte-eq10 g c =
    let held = c.as_slice-held.ensures.value in
    let tail = tail-is c.as_slice-held.result.now c.loop-reader.text.items c.loop-reader.start held in
    let feed = eq-eqb c.in-Some.byte 10 c.if-byte-eq10.true in
    let other : bytes_eq (drop c.loop-reader.start c.loop-reader.text.items) separator ≡ false = elim c.else-ends_line.branch [
      | else-ends_line-via-then-ends_line+else-eq w ↦
          ap (λ x. bytes_eq x separator) (sym tail) ∙ sym (rw w.as_slice.ensures at w.eq.ensures) ∙ w.if-eq.false
      | else-ends_line-via-else-ends_line w ↦
          absurd (false≢true (sym w.if-ends_line.false ∙ c.ends_line.ensures ∙ ap ends_line c.in-Some.is ∙ feed))
    ] in
    record {
      same_source = c.next.ensures.same_source ∙ c.loop-reader.invariant.same_source;
      so_far = rw c.push.ensures.items (so-far-feed c.loop-reader.start c.loop-reader.text.items c.in-Some.byte c.len-start.result
          c.loop-reader.invariant.so_far feed other (c.len-start.ensures.value ∙ ap length c.push.ensures.items));
      taken = rw c.push.ensures.items (Takes-append g.S.Source.left g.S.Source.faults g.S.Source.ends c.loop-reader.invariant.taken
          (rw c.in-Some.is at c.in_ok-byte.ensures.byte));
    }

pub loop-reader-preserved : goal.loop-reader-preserved
loop-reader-preserved g c = record {
  same_source = c.next.ensures.same_source ∙ c.loop-reader.invariant.same_source;
  so_far = rw c.push.ensures.items (so-far-other c.loop-reader.start c.loop-reader.text.items c.in-Some.byte c.loop-reader.invariant.so_far
      (ne_eqb c.in-Some.byte 10 c.if-byte-eq10.false));
  taken = rw c.push.ensures.items (Takes-append g.S.Source.left g.S.Source.faults g.S.Source.ends c.loop-reader.invariant.taken
      (rw c.in-Some.is at c.in_ok-byte.ensures.byte));
}

pub returns-clause-part : goal.returns-clause-part
returns-clause-part g c = grind (arith, part-full, eqb-true)
