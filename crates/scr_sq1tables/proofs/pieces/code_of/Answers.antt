use Rattle.std.proofs.Common.{◌≡◌, ℕ, ◌<◌, List, length, sym, subst, ltb-true, refl}
use Rattle.std.specs.Prelude.{All, nat_lt}
use Rattle.scr_combinatorics.specs.Lists.{pick}
use Rattle.scr_combinatorics.specs.Permutations.{IsPermutation}
use Rattle.scr_combinatorics.proofs.PermutationLaws.{All-permutation}
use Rattle.scr_combinatorics.proofs.Picks.{All-pick}
use Rattle.scr_notation.proofs.Below.{All-from_test}
use Rattle.scr_sq1tables.specs.Tables.{smaller}
use Rattle.scr_sq1tables.proofs.pieces.code_of.Goals as goal

places_below : (xs : List ℕ) → IsPermutation 8 xs → All (λ k. k < length xs) smaller
places_below xs p = subst (λ n. All (λ k. k < n) smaller) (sym p.size) (All-from_test (λ k. nat_lt k 8) (λ k. k < 8) (λ k. ltb-true k 8) smaller refl)

standing_below : (xs ys : List ℕ) → IsPermutation 8 xs → ys ≡ pick xs smaller → All (λ piece. piece < 8) ys
standing_below xs ys p is = subst (All (λ piece. piece < 8)) (sym is) (All-pick (λ piece. piece < 8) xs smaller (All-permutation 8 xs p) (places_below xs p))

pub pick_into-requires-2-clause-places : goal.pick_into-requires-2-clause-places
pick_into-requires-2-clause-places c = standing_below c.args.pieces.now _ c.requires c.pick_into.ensures
