use Rattle.std.proofs.Common.{◌≡◌, ℕ, ◌+◌, ◌-◌, ◌<◌, length, get_or, rules, subst, sym, arith}
use Rattle.std.specs.Vec.{with_items}
use Rattle.std.proofs.lemmas.List.{with_items_is}
use Rattle.scr_search.specs.declared.near_set.NearSet.{NearSet}
use Rattle.scr_search.specs.declared.near_set.NearBlock.{NearBlock}
use Rattle.scr_search.specs.Near.{HasBits, IsInSet, IsNear}
use Rattle.scr_search.specs.Spread.{IsListed, IsSpread}
use Rattle.scr_search.proofs.NearLaws.{IsNear-entered}
use Rattle.scr_search.proofs.near_set.NearSet.build.Goals as goal

pub returns : goal.returns
returns g c =
    let v = g.P.Part.views in
    let before : ℕ = c.args.most - 1 in
    let one : before + 1 ≡ c.args.most = omega (arith, c.requires.most) in
    let blocks = c.for_each_mut.new.s in
    let each : (k : ℕ) (d : NearBlock) → k < length blocks → IsSpread v c.deref.result.now k (HasBits (get_or blocks k d).words) =
    λ k d lt. search rules in
    let set : NearSet = record { blocks = with_items c.in_ok-blocks.blocks blocks } in
    subst (λ n. IsNear v n (IsInSet set)) one
    (IsNear-entered v c.extent-extent.result.now c.extent-extent.ensures.views before c.deref.result.now blocks set
    (with_items_is c.in_ok-blocks.blocks blocks (omega arith)) each
    (subst (λ lists. IsNear v before (IsListed lists)) (sym c.deref.ensures.value) c.in_ok-lists.ensures))
