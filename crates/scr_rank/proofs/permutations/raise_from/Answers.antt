use Rattle.std.proofs.Common.{◌≡◌, ◌+◌, ℕ, List, length, get_or, set, take, drop, map, ◌++◌, ◌<◌, add-one, arith}
use Rattle.std.proofs.lemmas.List.{length-map, length-take-le, get_or-append_right, get_or-drop, get_or_default}
use Rattle.std.proofs.lemmas.List.Edits.{map_over_more}
use Rattle.scr_combinatorics.proofs.PermutationNumbers.{nth_except-above, nth_except-below}
use Rattle.scr_rank.proofs.permutations.raise_from.Goals as goal
use Rattle.scr_rank.proofs.permutations.raise_from.Goals.{then-number-first, else-number-first}

-- what is not reached yet is as it was
not_yet : (f : ℕ → ℕ) (xs ys : List ℕ) (i : ℕ) → i < length xs → ys ≡ map f (take i xs) ++ drop i xs
    → get_or ys i 0 ≡ get_or xs i 0
not_yet f xs ys i lt e = grind (arith, get_or-append_right, length-map, length-take-le, get_or-drop)

step : (f : ℕ → ℕ) (xs ys zs : List ℕ) (i : ℕ) → i < length xs → length ys ≡ length xs
    → ys ≡ map f (take i xs) ++ drop i xs → zs ≡ set ys i (f (get_or ys i 0))
    → zs ≡ map f (take (i + 1) xs) ++ drop (i + 1) xs
step f xs ys zs i lt size e ez = grind (arith, map_over_more, get_or_default)

pub loop-number-preserved : goal.loop-number-preserved
loop-number-preserved c =
    grind (arith, step, then-number-first, add-one, nth_except-above, else-number-first, nth_except-below)
