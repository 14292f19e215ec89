-- The steps of the loop over places that takes those of marked pieces.
use Rattle.std.proofs.Common.{◌≡◌, ℕ, zero, suc, ◌+◌, ◌<◌, ◌≤◌, Bool, true, false, cond, List, [], ◌∷◌, ◌++◌, length, get_or, take, set, sym, ap, ◌∙◌, arith, add-zero}
use Rattle.std.proofs.lemmas.List.{take_more, take_more_set, length-take-le, length-append, append-nil, take_all}
use Rattle.scr_combinatorics.specs.PlaceSets.{IsPlaceSetFrom, IsPlaceSet}
use Rattle.scr_combinatorics.proofs.Counts.{one_if, total_by}
use Rattle.scr_coord.specs.Projections.{marked_from, marked_places}
use Rattle.scr_coord.proofs.MarkedLaws.{length-marked}

append_by : (b : Bool) (low : ℕ) (xs ys : List ℕ) → cond b (low ∷ (xs ++ ys)) (xs ++ ys) ≡ cond b (low ∷ xs) xs ++ ys
append_by b low xs ys = grind arith

pub marked-append : (marked : ℕ → Bool) (low : ℕ) (xs ys : List ℕ)
    → marked_from marked low (xs ++ ys) ≡ marked_from marked low xs ++ marked_from marked (low + length xs) ys
marked-append marked low [] ys = ap (λ n. marked_from marked n ys) (sym (add-zero low))
marked-append marked low (x ∷ xs) ys = grind (arith, append_by, marked-append marked (suc low) xs ys)

-- one more place
pub marked-more : (marked : ℕ → Bool) (xs : List ℕ) (k : ℕ) → k < length xs
    → marked_places marked (take (k + 1) xs) ≡ marked_places marked (take k xs) ++ cond (marked (get_or xs k 0)) (k ∷ []) []
marked-more marked xs k lt =
    ap (marked_places marked) (take_more xs k 0 lt)
    ∙ marked-append marked 0 (take k xs) (get_or xs k 0 ∷ [])
    ∙ ap (λ n. marked_places marked (take k xs) ++ marked_from marked n (get_or xs k 0 ∷ [])) (omega (arith, length-take-le k xs (omega arith)))

total_by-take : (f : ℕ → ℕ) (xs : List ℕ) (k : ℕ) → k < length xs
    → f (get_or xs k 0) + total_by f (take k xs) ≤ total_by f xs
total_by-take f [] k lt = absurd (omega arith)
total_by-take f (x ∷ xs) zero lt = omega arith
total_by-take f (x ∷ xs) (suc k) lt = omega (arith, total_by-take f xs k (omega arith))

-- there is room for a place that is found
pub marked-room : (marked : ℕ → Bool) (xs : List ℕ) (k : ℕ) → k < length xs → marked (get_or xs k 0) ≡ true
    → length (marked_places marked (take k xs)) < length (marked_places marked xs)
marked-room marked xs k lt e = grind (arith, length-marked, one_if, total_by-take)

-- What the loop keeps: the places so far stand at the front
pub record FoundSoFar (marked : ℕ → Bool) (xs out : List ℕ) (found place : ℕ) : Type 0 where
  pub front : take found out ≡ marked_places marked (take place xs)
  pub counted : found ≡ length (marked_places marked (take place xs))

-- there is room for one more
pub found_room : (marked : ℕ → Bool) (xs out : List ℕ) (found place : ℕ) → FoundSoFar marked xs out found place
    → place < length xs → length (marked_places marked xs) ≡ length out → marked (get_or xs place 0) ≡ true
    → found < length out
found_room marked xs out found place so_far lt fits e = omega (arith, so_far.counted, marked-room marked xs place lt e)

-- at a marked piece its place is written behind them
pub found_more : (marked : ℕ → Bool) (xs out : List ℕ) (found place : ℕ) → FoundSoFar marked xs out found place
    → place < length xs → length (marked_places marked xs) ≡ length out → marked (get_or xs place 0) ≡ true
    → FoundSoFar marked xs (set out found place) (found + 1) (place + 1)
found_more marked xs out found place so_far lt fits e =
    grind (arith, marked-more, take_more_set, found_room, length-append)

-- at any other nothing is
pub found_none : (marked : ℕ → Bool) (xs out : List ℕ) (found place : ℕ) → FoundSoFar marked xs out found place
    → place < length xs → marked (get_or xs place 0) ≡ false → FoundSoFar marked xs out found (place + 1)
found_none marked xs out found place so_far lt e = grind (arith, marked-more, append-nil)

-- at the end they are all that is written
pub found_all : (marked : ℕ → Bool) (xs out : List ℕ) (found place : ℕ) → FoundSoFar marked xs out found place
    → length xs ≤ place → length (marked_places marked xs) ≡ length out → out ≡ marked_places marked xs
found_all marked xs out found place so_far le e = grind (arith, take_all)

-- a set has no more places than there are
set_from_le : (low n : ℕ) (set : List ℕ) → low ≤ n → IsPlaceSetFrom low n set → low + length set ≤ n
set_from_le low n [] le h = omega arith
set_from_le low n (x ∷ xs) le h = omega (arith, h.0, h.1, set_from_le (suc x) n xs (omega (arith, h.1)) h.2)

pub set_le : (n k : ℕ) (set : List ℕ) → IsPlaceSet n k set → k ≤ n
set_le n k set h = omega (arith, h.size, set_from_le 0 n set (omega arith) h.increasing)
