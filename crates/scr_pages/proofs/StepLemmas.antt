-- Lists cut behind their first item.
use Rattle.std.proofs.Common.{◌≡◌, ◌-◌, ◌≤◌, List, [], ◌∷◌, length, get_or, take, drop, ap, sym, ◌∙◌, arith}
use Rattle.std.proofs.lemmas.List.{take_all}

pub split-first : {X : Type 0} (xs : List X) (first : X) → 1 ≤ length xs → first ≡ get_or xs 0 first
    → xs ≡ first ∷ take (length xs - 1) (drop 1 xs)
split-first [] first few is = absurd (omega arith)
split-first (x ∷ xs) first few is =
    ap (λ f. f ∷ xs) (sym is) ∙ ap (λ rest. first ∷ rest) (sym (take_all (length (x ∷ xs) - 1) xs (omega arith)))
