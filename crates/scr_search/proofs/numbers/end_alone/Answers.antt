use Rattle.std.proofs.Common.{◌≡◌, ℕ, ◌+◌, ◌/◌, ◌%◌, ◌^◌, ◌<◌, rules, List, None, Some, length, get_or, refl, sym, ap, subst, arith}
use Rattle.std.specs.Prelude.{Contains, Ok}
use Rattle.scr_search.specs.Spread.{IsListed, Listed, numbers_in}
use Rattle.scr_search.specs.Views.{part_number}
use Rattle.scr_search.proofs.NearLaws.{IsNear-end, each-pushed}
use Rattle.scr_search.proofs.ViewLaws.{block-lt}
use Rattle.scr_search.proofs.numbers.end_alone.Goals.{then-extent-from+in_ok-push, else-extent-from}
use Rattle.scr_search.proofs.numbers.end_alone.Goals as goal

pub loop-block-preserved : goal.loop-block-preserved
loop-block-preserved g c =
    let all = c.loop-block.all.items in
    let end = c.extent-extent.result.now.end in
    let one : Listed = Some (Ok c.if-extent-from.list) in
    let Has : ℕ → Listed → Type 0 = λ k list. end / 2 ^ 32 ≡ k → Contains (numbers_in list) (end % 2 ^ 32) in
    let before = λ (k : ℕ) (lt : k < length all). c.loop-block.invariant.1 k (omega (arith, lt, c.loop-block.invariant.0)) in
    let here : Has (length all) one = λ at.
    elim c.if-extent-from.branch [
      | then-extent-from+in_ok-push w ↦ rw w.list-is (rw w.in_ok-push.ensures.items (rw c.new-list.ensures.items (search rules)))
      | else-extent-from w ↦ absurd (omega (arith, at, c.loop-block.invariant.0, c.from.ensures, w.if-extent-from.false))
    ] in
    let Each : List Listed → Type 0 = λ lists. (k : ℕ) → k < c.loop-block.block + 1 → Has k (get_or lists k None) in (
      omega (arith, c.in_ok-push-2.ensures.len, c.loop-block.invariant.0),
      subst Each (sym c.in_ok-push-2.ensures.items) (λ k lt. each-pushed Has all one None before here k (omega (arith, lt, c.loop-block.invariant.0))),
    )

pub returns-clause-near : goal.returns-clause-near
returns-clause-near g c =
    let v = g.P.Part.views in
    let e = c.extent-extent.result.now in
    let are = c.extent-extent.ensures.views in
    IsNear-end v e.end (IsListed c.loop-block.all.items) are.end
    (λ cube seen is.
    let block : e.end / 2 ^ 32 ≡ part_number v cube / 2 ^ 32 = ap (λ n. n / 2 ^ 32) is in
    c.loop-block.invariant.1 (e.end / 2 ^ 32) (omega (arith, block, block-lt v e are cube seen, c.loop-block-test.false)) refl)
