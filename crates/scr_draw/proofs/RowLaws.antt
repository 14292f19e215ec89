-- A position of a row needs as many turns as its number, and turns reach them all.
use Rattle.std.specs.Prelude.{◌≡◌, ℕ, zero, suc, ◌+◌, ◌<◌, ◌≤◌, ◌↔◌, nat_le}
use Rattle.std.specs.Prelude.{IsTrue, List, [], ◌∷◌, Some}
use Rattle.std.proofs.Common.{refl, ◌∙◌, inl, inr, arith}
use Rattle.std.proofs.lemmas.Bool.{cases_lt, le-leb, leb-true}
use Rattle.scr_combinatorics.specs.Play.{play, count_in}
use Rattle.scr_combinatorics.specs.Reach.{Needs, IsReached}
use Rattle.scr_combinatorics.proofs.PlayLaws.{play-empty, play-one, play-first, play-parts, IsReached-keeps}
use Rattle.scr_draw.specs.Row.{moved_in_row, row_puzzle}

moved-parts : (count s r t : ℕ) → moved_in_row count s t ≡ Some r → (r < count) × (s ≤ r + 1)
moved-parts count s r t e = grind arith

moved-from : (count s t : ℕ) → t < count → s ≤ t + 1 → moved_in_row count s t ≡ Some t
moved-from count s t below near = grind arith

-- a word of so many turns leads no further down
no_further : (count s r : ℕ) (w : List ℕ) → play (moved_in_row count) s w ≡ Some r → s ≤ r + count_in (λ t. 1) w
unfolding count_in
no_further count s r [] e = let here = play-empty (moved_in_row count) s in let same : s ≡ r = cc in omega arith
no_further count s r (t ∷ w) e =
    let parts = play-parts (moved_in_row count) s r t w e in
    let step = moved-parts count s parts.0 t parts.1 in
    let rest = no_further count parts.0 r w parts.2 in
    let near = step.1 in
    omega arith

-- the turns down from a position
down : ℕ → List ℕ
down zero = []
down (suc s) = s ∷ down s

down-leads : (count s : ℕ) → s < count → play (moved_in_row count) s (down s) ≡ Some 0
unfolding down
down-leads count zero below = play-empty (moved_in_row count) 0
down-leads count (suc s) below = grind (arith, play-first, down, moved-from, down-leads count s (omega arith))

down-counted : (s : ℕ) → count_in (λ t. 1) (down s) ≡ s
unfolding down count_in
down-counted zero = refl
down-counted (suc s) = omega (arith, down-counted s)

-- each position needs as many turns as its number
pub row_exact : (count s least : ℕ) → s < count → IsTrue (nat_le least s) ↔ Needs (row_puzzle count) s least
row_exact count s least below = (
  λ h w end few leads solved. let le = leb-true least s h in let near = no_further count s end w leads in omega arith,
  λ needs. elim (cases_lt s least) [
    | inl fewer ↦
        let counted = down-counted s in absurd (needs (down s) 0 (omega arith) (down-leads count s below) refl)
    | inr enough ↦ le-leb least s enough
  ],
)

-- the positions are those that turns reach
pub row_reached : (count s : ℕ) → 0 < count → (s < count) ↔ IsReached (row_puzzle count) s
row_reached count s some = (
  λ below. (s ∷ [], 0, refl, play-one (moved_in_row count) 0 s ∙ moved-from count 0 s below (omega arith)),
  λ h.
      IsReached-keeps (row_puzzle count) (λ r. r < count) (λ r e. omega arith) (λ a b t low e. (moved-parts count a b t e).0) s h,
)
