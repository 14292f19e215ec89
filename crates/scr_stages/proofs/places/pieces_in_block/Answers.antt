use Rattle.std.proofs.Common.{ℕ, sym, ap, ◌∙◌, arith}
use Rattle.std.proofs.lemmas.List.{length-map, get_or-map, ext_get_or}
use Rattle.scr_combinatorics.specs.Lists.{pick}
use Rattle.scr_combinatorics.specs.Permutations.{place_of}
use Rattle.scr_combinatorics.proofs.Picks.{length-pick, pick-at}
use Rattle.scr_stages.specs.Tetrads.{in_block}
use Rattle.scr_stages.proofs.places.pieces_in_block.Goals as goal

pub returns : goal.returns
returns c =
    let block = c.args.block.now in
    let picked = pick c.args.pieces.now block in
    let tell : ℕ → ℕ = λ x. place_of x block in
    ext_get_or 0 c.loop-place.out (in_block block c.args.pieces.now) (omega (arith, length-map picked tell, length-pick c.args.pieces.now block)) (λ k lt.
    c.loop-place.invariant k (omega arith)
    ∙ sym (get_or-map tell picked k 0 0 (omega (arith, length-pick c.args.pieces.now block)) ∙ ap tell (pick-at c.args.pieces.now block k (omega arith))))
