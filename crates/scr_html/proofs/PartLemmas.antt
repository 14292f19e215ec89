-- Lists taken part by part.
use Rattle.std.proofs.Common.{◌≡◌, ℕ, ◌+◌, ◌-◌, ◌≤◌, suc, zero, List, [], ◌∷◌, ◌++◌, Some, take, drop, length, get_or, refl, sym, ap, ◌∙◌, arith}
use Rattle.std.specs.Prelude.{slice_get, flat_map, zip}
use Rattle.scr_notation.specs.Written.{Written}
use Rattle.std.proofs.Math.Seq.{take-length}

less_one : (n : ℕ) → suc n - 1 ≡ n
less_one n = omega arith

-- a list is its first element and the rest
pub split_first : {X : Type 0} (xs : List X) (d : X) → 1 ≤ length xs → get_or xs 0 d ∷ take (length xs - 1) (drop 1 xs) ≡ xs
split_first [] d some = absurd (omega arith)
split_first (x ∷ xs) d some = rw (less_one (length xs), take-length xs) refl

one_further : (n : ℕ) → suc (n + 1) ≡ suc n + 1
one_further n = omega arith

-- what begins at the place of an element
pub drop_at : {X : Type 0} (xs : List X) (n : ℕ) (x : X) → slice_get xs n ≡ Some x → drop n xs ≡ x ∷ drop (n + 1) xs
drop_at [] n x at = cc
drop_at (y ∷ xs) zero x at = let same : y ≡ x = cc in cc
drop_at (y ∷ xs) (suc n) x at = drop_at xs n x at ∙ ap (λ k. x ∷ drop k (y ∷ xs)) (one_further n)

-- what is told of labelled scrambles from a place on: of the one there, and of those behind it
pub slots_first : {Y : Type 0} (f : List ℕ × Written → List Y) (labels : List (List ℕ)) (place : ℕ) (label : List ℕ) (scrambles : List Written) (s : Written)
    → slice_get labels place ≡ Some label → 1 ≤ length scrambles → s ≡ get_or scrambles 0 s
    → f (label, s) ++ flat_map f (zip (drop (place + 1) labels) (take (length scrambles - 1) (drop 1 scrambles)))
    ≡ flat_map f (zip (drop place labels) scrambles)
slots_first f labels place label scrambles s at some is =
    let rest = take (length scrambles - 1) (drop 1 scrambles) in
    let first : s ∷ rest ≡ scrambles = ap (λ x. x ∷ rest) is ∙ split_first scrambles s some in
    ap (λ ls. flat_map f (zip ls (s ∷ rest))) (sym (drop_at labels place label at))
    ∙ ap (λ ss. flat_map f (zip (drop place labels) ss)) first
