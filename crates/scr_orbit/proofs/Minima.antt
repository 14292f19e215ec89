-- How many turns a state needs, of puzzles whose turns all count once.
use Rattle.std.proofs.Common.{◌≡◌, ℕ, ◌<◌, List, [], ◌∷◌, Option, Some, length, refl, sym, ◌∙◌, arith}
use Rattle.std.proofs.lemmas.Option.{same_Some}
use Rattle.scr_combinatorics.specs.Play.{play, count_in}
use Rattle.scr_combinatorics.specs.Reach.{Needs}
use Rattle.scr_combinatorics.proofs.PlayLaws.{play-empty}
use Rattle.scr_orbit.specs.Monoids.{Monoid, after_by, table_puzzle}

-- each turn counts once
pub count_once : {T : Type 0} (w : List T) → count_in (λ t. 1) w ≡ length w
unfolding count_in
count_once [] = refl
count_once (t ∷ w) = omega (arith, count_once w)

module _ {S T : Type 0} (m : Monoid S) (table : T → Option S) where
  no_turns : (s end : S) (w : List T) → count_in (λ t. 1) w < 1 → play (after_by m table) s w ≡ Some end → s ≡ end
  no_turns s end [] c e = same_Some s end (sym (play-empty (after_by m table) s) ∙ e)
  no_turns s end (t ∷ w) c e = absurd (omega (arith, count_once (t ∷ w)))

  -- a state that isn't solved needs one
  pub one_needed : (s : S) → (s ≡ m.solved → ⊥) → Needs (table_puzzle m table (λ t. 1)) s 1
  one_needed s apart w end c p is = apart (no_turns s end w c p ∙ is)

  -- and none needs more than a word to solved has
  pub enough : (s : S) (w : List T) (n : ℕ) → length w < n → play (after_by m table) s w ≡ Some m.solved
      → Needs (table_puzzle m table (λ t. 1)) s n → ⊥
  enough s w n lt e needs = needs w m.solved (omega (arith, count_once w)) e refl
