-- Laws of states that are turns, too, once for all puzzles: powers add up, a word makes of any state what it makes of
-- the solved one, and turns are lawful, so that words are taken back and tidied by the laws of `scr_combinatorics`.
use Rattle.std.proofs.Common.{◌≡◌, ℕ, zero, suc, ◌+◌, ◌*◌, ◌%◌, ◌<◌, IsTrue, List, [], ◌∷◌, Option, Some, None, refl, sym, ap, ◌∙◌, arith}
use Rattle.std.specs.Prelude.{option_and_then}
use Rattle.std.specs.Option.{option_map}
use Rattle.std.proofs.lemmas.Option.{same_Some}
use Rattle.scr_combinatorics.specs.Play.{play}
use Rattle.scr_combinatorics.specs.Tidy.{Merging, word_of}
use Rattle.scr_combinatorics.specs.Lawful.{IsLawful}
use Rattle.scr_combinatorics.proofs.PlayLaws.{map-some, play-empty, play-one}
use Rattle.scr_orbit.specs.Monoids.{Monoid, IsMonoid, IsInverse, after_by, power}

-- the turn that a letter or none is
abbrev pub merged_turn : {S T : Type 0} → Monoid S → (T → Option S) → Option T → Option S
merged_turn m table None = Some m.solved
merged_turn m table (Some t) = table t

module _ {S : Type 0} (m : Monoid S) (IsValid : S → Type 0) (l : IsMonoid m IsValid) where
  -- ---- powers

  pub IsValid-power : (r : S) (n : ℕ) → IsValid r → IsValid (power m r n)
  unfolding power
  IsValid-power r zero h = l.solved
  IsValid-power r (suc n) h = l.kept r (power m r n) h (IsValid-power r n h)

  pub power-add : (r : S) (n k : ℕ) → IsValid r → power m r (n + k) ≡ m.turned (power m r n) (power m r k)
  unfolding power
  power-add r zero k h = let e : zero + k ≡ k = omega arith in ap (power m r) e ∙ sym (l.solved_first (power m r k) (IsValid-power r k h))
  power-add r (suc n) k h =
      let e : suc n + k ≡ suc (n + k) = omega arith in
      ap (power m r) e ∙ ap (m.turned r) (power-add r n k h)
      ∙ sym (l.grouped r (power m r n) (power m r k) h (IsValid-power r n h) (IsValid-power r k h))

  -- the order's multiples change nothing
  pub power-multiple : (r : S) (order k : ℕ) → IsValid r → power m r order ≡ m.solved
      → power m r (order * k) ≡ m.solved
  unfolding power
  power-multiple r order zero h e = let none : order * zero ≡ zero = omega arith in ap (power m r) none
  power-multiple r order (suc k) h e = grind (arith, power-add, IsValid-power, power-multiple r order k h e)

  -- exponents count modulo the order
  pub power-mod : (r : S) (order n : ℕ) → 0 < order → IsValid r → power m r order ≡ m.solved
      → power m r (n % order) ≡ power m r n
  power-mod r order n pos h e = grind (arith, IsValid-power, power-multiple, power-add)

  -- ---- inverses

  -- a state that is solved with another both ways is its inverse
  pub IsInverse-both : (s r : S) → IsValid s → IsValid r → m.turned s r ≡ m.solved → m.turned r s ≡ m.solved
      → IsInverse m IsValid s r
  IsInverse-both s r own valid after before = grind arith

  -- where each state is solved with another, that is its inverse
  pub IsInverse-right : (inverted : S → S) → ((s : S) → IsValid s → IsValid (inverted s))
      → ((s : S) → IsValid s → m.turned s (inverted s) ≡ m.solved) → (s : S) → IsValid s
      → IsInverse m IsValid s (inverted s)
  IsInverse-right inverted valid after s own = grind (arith, IsInverse-both)

module _ {S T : Type 0} (m : Monoid S) (IsValid : S → Type 0) (l : IsMonoid m IsValid) (table : T → Option S)
    (turns : (t : T) (r : S) → table t ≡ Some r → IsValid r) where
  -- ---- words

  pub IsValid-after : (s r : S) (t : T) → IsValid s → after_by m table s t ≡ Some r → IsValid r
  IsValid-after s r t v e = grind (arith, map-some)

  -- a word from where a turn, or none, leads
  abbrev behind : List T → S → Option S → Option S
  behind w s o = option_and_then (λ r. play (after_by m table) r w) (option_map (m.turned s) o)

  -- A word makes of a turned state what the state is turned to by what it makes of the turn.
  pub play-turned : (s r : S) (w : List T) → IsValid s → IsValid r
      → play (after_by m table) (m.turned s r) w ≡ option_map (m.turned s) (play (after_by m table) r w)
  unfolding play
  play-turned s r [] h k = refl
  play-turned s r (t ∷ w) h k = by (λ q. play-turned s (m.turned r q) w h) (table t) refl
    where
      by : ((q : S) → IsValid (m.turned r q) → play (after_by m table) (m.turned s (m.turned r q)) w ≡ option_map (m.turned s) (play (after_by m table) (m.turned r q) w))
          → (o : Option S) → table t ≡ o → behind w (m.turned s r) (table t) ≡ option_map (m.turned s) (behind w r (table t))
      by rest None e = ap (behind w (m.turned s r)) e ∙ sym (ap (λ o. option_map (m.turned s) (behind w r o)) e)
      by rest (Some q) e =
          ap (behind w (m.turned s r)) e
          ∙ ap (λ x. play (after_by m table) x w) (l.grouped s r q h k (turns t q e))
          ∙ rest q (l.kept r q k (turns t q e))
          ∙ sym (ap (λ o. option_map (m.turned s) (behind w r o)) e)

  -- So a word is one turn, that which it makes of the solved state.
  pub play-solved : (s : S) (w : List T) → IsValid s
      → play (after_by m table) s w ≡ option_map (m.turned s) (play (after_by m table) m.solved w)
  play-solved s w h = grind (arith, play-turned)

  -- ---- what is taken back and tidied

  module _ (opposite : T → T) (merging : Merging T)
      (opposites : (t : T) (r : S) → table t ≡ Some r → (q : S) × (table (opposite t) ≡ Some q) × (m.turned r q ≡ m.solved))
      (merges : (t u : T) (r q : S) → IsTrue (merging.alike t u) → table t ≡ Some r → table u ≡ Some q
      → merged_turn m table (merging.merged t u) ≡ Some (m.turned r q)) where
    merged_by : (s : S) (o : Option T) (r : S) → IsValid s → merged_turn m table o ≡ Some r
        → play (after_by m table) s (word_of o) ≡ Some (m.turned s r)
    unfolding word_of
    merged_by s None r v e = grind (arith, play-empty, same_Some)
    merged_by s (Some t) r v e = play-one (after_by m table) s t ∙ ap (option_map (m.turned s)) e

    pub IsLawful-table : IsLawful (after_by m table) opposite merging IsValid
    IsLawful-table = grind (arith, IsValid-after, map-some, merged_by)
