-- Lists of what a function gives of the numbers below a bound.
use Rattle.std.proofs.Common.{◌≡◌, ℕ, ◌+◌, ◌<◌, ◌≤◌, ◌^◌, List, [], ◌∷◌, ◌++◌, length, map, Some, sym, ap, ◌∙◌, arith}
use Rattle.std.specs.Prelude.{slice_get}
use Rattle.std.specs.List.{range_with_len}
use Rattle.std.proofs.lemmas.List.{map-id}
use Rattle.std.proofs.lemmas.List.FromFn.{length-map-range_with_len, get_or-map-range_with_len, fill_by_all, map-range_with_len_more}
use Rattle.std.proofs.lemmas.Option.{same_Some, slice_get-get_or, slice_get_within}
use Rattle.scr_bigs.specs.Choices.{IsFairChoice}
use Rattle.scr_bigs.proofs.ChoiceLaws.{Differ, choice-fair}

abbrev pub listed : {X : Type 0} → (ℕ → X) → ℕ → List X
listed f n = map f (range_with_len 0 n)

module _ {X : Type 0} (f : ℕ → X) (n : ℕ) where
  pub length-listed : length (listed f n) ≡ n
  length-listed = length-map-range_with_len f 0 n

  pub listed-at : (k : ℕ) → k < n → slice_get (listed f n) k ≡ Some (f k)
  listed-at k below =
      let size = length-listed in
      slice_get-get_or (listed f n) k (f k) (omega arith) ∙ ap Some (get_or-map-range_with_len f 0 n k k (f k) below (omega arith))

  -- such a list is a fair choice where no two numbers give the same
  pub listed-fair : ((i j : ℕ) → i < n → j < n → f i ≡ f j → i ≡ j) → 1 ≤ n → n ≤ 2 ^ 96 → IsFairChoice (listed f n)
  listed-fair one some few =
      let size = length-listed in
      choice-fair (listed f n) differ (omega arith) (omega arith)
    where
      differ : Differ (listed f n)
      differ i j x at_i at_j =
          let size = length-listed in
          let low_i = slice_get_within (listed f n) i x at_i in
          let low_j = slice_get_within (listed f n) j x at_j in
          let below_i : i < n = omega arith in
          let below_j : j < n = omega arith in
          one i j below_i below_j (same_Some (f i) (f j) (sym (listed-at i below_i) ∙ at_i ∙ sym at_j ∙ listed-at j below_j))

-- what two functions give of each number below the bound is the same where the lists are
pub listed-same : {X : Type 0} (f g : ℕ → X) (n k : ℕ) → listed f n ≡ listed g n → k < n → f k ≡ g k
listed-same f g n k same below =
    same_Some (f k) (g k) (sym (listed-at f n k below) ∙ ap (λ xs. slice_get xs k) same ∙ listed-at g n k below)

pub listed-agree : {X : Type 0} (f g : ℕ → X) (n : ℕ) → ((k : ℕ) → k < n → f k ≡ g k) → listed f n ≡ listed g n
listed-agree f g n same =
    fill_by_all g (listed f n) n (f 0) (length-listed f n)
    (λ k below. get_or-map-range_with_len f 0 n k k (f 0) below (omega arith) ∙ same k below)

pub range-more : (n : ℕ) → range_with_len 0 (n + 1) ≡ range_with_len 0 n ++ n ∷ []
range-more n =
    sym (map-id (range_with_len 0 (n + 1))) ∙ map-range_with_len_more (λ (k : ℕ). k) 0 n n (omega arith)
    ∙ ap (λ ks. ks ++ n ∷ []) (map-id (range_with_len 0 n))
