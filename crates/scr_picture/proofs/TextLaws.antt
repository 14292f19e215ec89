-- Texts that grow, name by name.
use Rattle.std.proofs.Common.{◌≡◌, ℕ, ◌+◌, ◌<◌, List, [], ◌∷◌, ◌++◌, length, get_or, refl, take, drop, sym, ap, ◌∙◌, arith}
use Rattle.std.specs.Prelude.{flat_map}
use Rattle.std.specs.List.{range_with_len}
use Rattle.std.proofs.lemmas.List.{flat_map_more, map-id, take_at, drop_at, take_more}
use Rattle.std.proofs.lemmas.List.FromFn.{map-range_with_len_more}

pub flat_map_next : (f : ℕ → List ℕ) (xs : List ℕ) (k : ℕ) → k < length xs
    → flat_map f (take (k + 1) xs) ≡ flat_map f (take k xs) ++ f (get_or xs k 0)
flat_map_next f xs k lt = ap (flat_map f) (take_more xs k 0 lt) ∙ sym (flat_map_more f [] (take k xs) (get_or xs k 0))

pub flat_map_behind : (f : ℕ → List ℕ) (old : List ℕ) (k : ℕ)
    → old ++ flat_map f (range_with_len 0 (k + 1)) ≡ (old ++ flat_map f (range_with_len 0 k)) ++ f k
flat_map_behind f old k =
    ap (λ ks. old ++ flat_map f ks)
    (sym (map-id (range_with_len 0 (k + 1))) ∙ map-range_with_len_more (λ (k : ℕ). k) 0 k k (omega arith)
    ∙ ap (λ ks. ks ++ k ∷ []) (map-id (range_with_len 0 k)))
    ∙ sym (flat_map_more f old (range_with_len 0 k) k)

pub flat_map_range : (f : ℕ → List ℕ) (k : ℕ)
    → flat_map f (range_with_len 0 (k + 1)) ≡ flat_map f (range_with_len 0 k) ++ f k
flat_map_range f = flat_map_behind f []

-- texts of parts that are as long have the same parts
pub append-same : (a b x y : List ℕ) → length a ≡ length x → a ++ b ≡ x ++ y → (a ≡ x) × (b ≡ y)
append-same a b x y same e = (
  sym (take_at a b (length a) refl) ∙ ap (take (length a)) e ∙ take_at x y (length a) (sym same),
  sym (drop_at a b (length a) refl) ∙ ap (drop (length a)) e ∙ drop_at x y (length a) (sym same),
)
