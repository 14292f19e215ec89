use Rattle.std.proofs.Common.{◌≡◌, ℕ, ◌<◌, List, length, get_or, None, Some, inl, inr, sym, ap, ◌∙◌, subst, arith}
use Rattle.std.specs.Prelude.{◌/◌, ◌%◌, ◌^◌, Contains, slice_index_or}
use Rattle.std.proofs.lemmas.Bool.{cases_eq}
use Rattle.scr_search.specs.Spread.{numbers_in}
use Rattle.scr_search.specs.Orderly.{after_turn}
use Rattle.scr_search.specs.Views.{part_number}
use Rattle.scr_search.proofs.numbers.spread.Goals as goal

pub loop-place-preserved : goal.loop-place-preserved
loop-place-preserved g c =
    let v = g.P.Part.views in
    let are = c.extent-extent.ensures.views in
    let p = c.loop-place.place in
    let turned = c.enter_turned.ensures in (
      λ cube seen at listed. turned.kept (part_number v cube % 2 ^ 32) (c.loop-place.invariant.0 cube seen at listed),
      λ cube d place seen at lt to listed.
          elim (cases_eq place p) [
            | inl same ↦
                let below : p < length v.turns = omega (arith, c.loop-place-test.true, are.few.2) in
                let here : after_turn cube (get_or v.turns p 0) ≡ Some d = ap (λ k. after_turn cube (get_or v.turns k 0)) (sym same) ∙ to in
                let from : c.block_after-from.result ≡ part_number v d / 2 ^ 32 = c.block_after-from.ensures cube d seen (sym at) here in
                let Listed : ℕ → Type 0 = λ block. Contains (numbers_in (slice_index_or c.args.lists.now block None)) (part_number v d % 2 ^ 32) in
                let Numbers : List ℕ → Type 0 = λ xs. Contains xs (part_number v d % 2 ^ 32) in
                turned.turned d cube (are.taken_back.seen cube d p seen below here)
                (subst Numbers (sym c.numbers_in-in-loop-place.ensures) (subst Listed (sym from) listed))
                (are.taken_back.back cube d p seen below here)
            | inr other ↦
                turned.kept (part_number v cube % 2 ^ 32) (c.loop-place.invariant.1 cube d place seen at (omega (arith, lt, other)) to listed)
          ],
    )
