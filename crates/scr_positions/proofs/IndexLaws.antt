-- States go along with the coordinate of their numbers.
use Rattle.std.proofs.Common.{◌≡◌, ℕ, ◌<◌, ◌≤◌, Bool, true, false, cond, Option, Some, None, refl, sym, ap, ◌∙◌, subst}
use Rattle.std.specs.Prelude.{nat_lt, ◌==◌}
use Rattle.std.specs.Option.{option_map}
use Rattle.std.proofs.lemmas.Bool.{eq-eqb, eqb-true, ltb-false}
use Rattle.scr_combinatorics.specs.Numbered.{Numbered}
use Rattle.scr_combinatorics.specs.Numbering.{IsOneToOne}
use Rattle.scr_combinatorics.proofs.PlayLaws.{map-some}
use Rattle.scr_positions.specs.Coordinates.{StaysBelow}
use Rattle.scr_positions.specs.Indexes.{indexed_coordinate, numbered_coordinate}
use Rattle.scr_positions.specs.SearchSpaces.{positions, Follows}

-- turns lead from numbers to numbers
pub StaysBelow-indexed : {S : Type 0} (n : Numbered S) (turns : ℕ) (after : S → ℕ → Option S) (is_goal : ℕ → Bool)
    → ((i : ℕ) → i < n.count → n.IsValid (n.state_at i)) → ((s : S) → n.IsValid s → n.number_of s < n.count)
    → ((s r : S) (t : ℕ) → n.IsValid s → t < turns → after s t ≡ Some r → n.IsValid r)
    → StaysBelow (indexed_coordinate n turns after is_goal)
StaysBelow-indexed n turns after is_goal valid below kept p t q at turn e =
    let made = map-some n.number_of (after (n.state_at p) t) q e in
    subst (λ k. k < n.count) made.2 (below made.0 (kept (n.state_at p) made.0 t (valid p at) turn made.1))

module _ {S : Type 0} (n : Numbered S) (one : IsOneToOne n.count n.state_at n.number_of n.IsValid) (turns : ℕ) (after : S → ℕ → Option S) (solved : S)
    (valid : n.IsValid solved) (kept : (s r : S) (t : ℕ) → n.IsValid s → after s t ≡ Some r → n.IsValid r)
    (no_more : (s : S) (t : ℕ) → turns ≤ t → after s t ≡ None) where
  guarded_by : (s : S) (t : ℕ) (b : Bool) → nat_lt t turns ≡ b
      → cond b (option_map n.number_of (after s t)) None ≡ option_map n.number_of (after s t)
  guarded_by s t true e = refl
  guarded_by s t false e = ap (option_map n.number_of) (sym (no_more s t (ltb-false t turns e)))

  pub Follows-numbered : Follows (record { IsValid = n.IsValid; after = after; IsGoal = λ s. s ≡ solved }) (positions (numbered_coordinate n turns after solved)) n.number_of
  Follows-numbered = record {
    kept = kept;
    valid = one.below;
    turned = λ s t h.
        ap (λ r. cond (nat_lt t turns) (option_map n.number_of (after r t)) None) (one.state_again s h)
        ∙ guarded_by s t (nat_lt t turns) refl;
    goals = λ s h. (
      λ e. eq-eqb (n.number_of s) (n.number_of solved) (ap n.number_of e),
      λ e.
          sym (one.state_again s h) ∙ ap n.state_at (eqb-true (n.number_of s) (n.number_of solved) e)
          ∙ one.state_again solved valid,
    );
  }

  pub StaysBelow-numbered : StaysBelow (numbered_coordinate n turns after solved)
  StaysBelow-numbered =
      StaysBelow-indexed n turns after (λ i. i == n.number_of solved) one.valid one.below
      (λ s r t v turn e. kept s r t v e)
