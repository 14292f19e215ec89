-- Orderly words, letter by letter.
use Rattle.std.proofs.Common.{◌≡◌, ℕ, ◌-◌, Bool, true, List, [], ◌∷◌, ◌++◌, length, Some, refl, ap, ◌∙◌, arith}
use Rattle.std.specs.Prelude.{◌&&◌, slice_get}
use Rattle.std.proofs.lemmas.Bool.{and_parts, and_from}
use Rattle.scr_search.specs.Orderly.{may_end, is_orderly}

-- ---- the last letter

last-cons : (t u : ℕ) (w : List ℕ)
    → slice_get (t ∷ u ∷ w) (length (t ∷ u ∷ w) - 1) ≡ slice_get (u ∷ w) (length (u ∷ w) - 1)
last-cons t u w = grind arith

pub last-push : (w : List ℕ) (t : ℕ) → slice_get (w ++ t ∷ []) (length (w ++ t ∷ []) - 1) ≡ Some t
last-push [] t = refl
last-push (u ∷ []) t = refl
last-push (u ∷ v ∷ w) t = last-cons u v (w ++ t ∷ []) ∙ last-push (v ∷ w) t

-- ---- words joined

and-assoc : (a b c : Bool) → (a && (b && c)) ≡ ((a && b) && c)
and-assoc a b c = grind arith

-- a word and then others behind one more turn
pub is_orderly-behind : (w : List ℕ) (t : ℕ) (v : List ℕ)
    → is_orderly (w ++ t ∷ v) ≡ ((is_orderly w && may_end w t) && is_orderly (t ∷ v))
unfolding is_orderly may_end
is_orderly-behind [] t v = refl
is_orderly-behind (u ∷ []) t v = refl
is_orderly-behind (u ∷ x ∷ w) t v = grind (arith, and-assoc, last-cons, is_orderly-behind (x ∷ w) t v)

-- so a turn that may stand behind a word makes an orderly word of it
pub is_orderly-push : (w : List ℕ) (t : ℕ) → is_orderly w ≡ true → may_end w t ≡ true → is_orderly (w ++ t ∷ []) ≡ true
unfolding is_orderly
is_orderly-push w t h e = is_orderly-behind w t [] ∙ ap (λ b. b && (true && true)) (and_from (is_orderly w) (may_end w t) h e)

-- and a turn of an orderly word may stand behind the turns before it
pub may_end-orderly : (w : List ℕ) (t : ℕ) (v : List ℕ) → is_orderly (w ++ t ∷ v) ≡ true → may_end w t ≡ true
may_end-orderly w t v h = grind (arith, and_parts, is_orderly-behind)
