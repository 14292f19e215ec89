-- Laws of puzzles whose turns are powers of generators of one order: their tables are of turns, opposite letters undo
-- each other and merged ones add up, so that the turns are lawful; and the list of all turns has each at its number.
use Rattle.std.proofs.Common.{◌≡◌, ℕ, zero, suc, ◌+◌, ◌-◌, ◌*◌, ◌%◌, ◌<◌, ◌≤◌, IsTrue, List, [], ◌∷◌, ◌++◌, Option, Some, None, map, length, length-append, get_or, refl, sym, ap, ◌∙◌, subst, arith}
use Rattle.std.specs.Prelude.{All, slice_get, option_and_then}
use Rattle.std.specs.Option.{option_map}
use Rattle.std.proofs.lemmas.List.{length-map}
use Rattle.std.proofs.lemmas.Option.{same_Some, slice_get_within, slice_get_past, get_or_from_slice_get, slice_get-map, slice_get-get_or}
use Rattle.scr_combinatorics.specs.Lists.{numbers_from}
use Rattle.scr_combinatorics.proofs.Picks.{length-numbers_from, numbers_from-at}
use Rattle.scr_combinatorics.specs.PowerLetters.{Power}
use Rattle.scr_combinatorics.specs.Tidy.{Merging}
use Rattle.scr_combinatorics.specs.Lawful.{IsLawful}
use Rattle.scr_combinatorics.proofs.PlayLaws.{and_then-some, map-some, play-keeps}
use Rattle.scr_combinatorics.proofs.BackLaws.{IsTakenBack-lawful}
use Rattle.scr_combinatorics.proofs.TidyPlay.{IsKeptByTidy-lawful}
use Rattle.scr_combinatorics.proofs.PowerLetterLaws.{merged_power, ArePowers}
use Rattle.scr_orbit.specs.Monoids.{Monoid, IsMonoid, after_by, power, power_of, power_table, all_powers}
use Rattle.scr_orbit.specs.LawfulTurns.{HasLawfulTurns}
use Rattle.scr_orbit.proofs.MonoidLaws.{IsValid-power, power-add, power-mod, merged_turn, IsLawful-table, play-solved}

-- what holds of each element holds of the one at a place
pub All-got : {X : Type 0} (P : X → Type 0) (xs : List X) (k : ℕ) (x : X) → All P xs → slice_get xs k ≡ Some x → P x
All-got P xs k x each e = grind (arith, get_or_from_slice_get, slice_get_within)

-- ---- the list of all turns

pub get-append : {X : Type 0} (xs ys : List X) (i : ℕ) → i < length xs → slice_get (xs ++ ys) i ≡ slice_get xs i
get-append [] ys i lt = absurd (omega arith)
get-append (x ∷ xs) ys zero lt = refl
get-append (x ∷ xs) ys (suc i) lt = get-append xs ys i (omega arith)

pub get-append_past : {X : Type 0} (xs ys : List X) (n i : ℕ) → n ≡ length xs + i → slice_get (xs ++ ys) n ≡ slice_get ys i
get-append_past [] ys n i e = let same : n ≡ i = omega (arith, e) in ap (slice_get ys) same
get-append_past (x ∷ xs) ys zero i e = absurd (omega (arith, e))
get-append_past (x ∷ xs) ys (suc n) i e = get-append_past xs ys n i (omega (arith, e))

module _ {S : Type 0} (m : Monoid S) (order : ℕ) where
  powers_at : (r : S) (e : ℕ) → 0 < e → e < order
      → slice_get (map (power m r) (numbers_from 1 (order - 1))) (e - 1) ≡ Some (power m r e)
  powers_at r e some lt =
      let in_list : e - 1 < length (numbers_from 1 (order - 1)) = omega (arith, length-numbers_from 1 (order - 1)) in
      let at : get_or (numbers_from 1 (order - 1)) (e - 1) 0 ≡ e = omega (arith, numbers_from-at 1 (order - 1) (e - 1) (omega arith)) in
      slice_get-map (power m r) (numbers_from 1 (order - 1)) (e - 1)
      ∙ ap (option_map (power m r)) (slice_get-get_or (numbers_from 1 (order - 1)) (e - 1) 0 in_list ∙ ap Some at)

  powers_length : (r : S) → length (map (power m r) (numbers_from 1 (order - 1))) ≡ order - 1
  powers_length r = length-map (numbers_from 1 (order - 1)) (power m r) ∙ length-numbers_from 1 (order - 1)

  -- each turn stands at its number: `order - 1` for each earlier generator, and its own exponent, from 1
  pub all_powers-at : (generators : List S) (g e : ℕ) → 0 < e → e < order
      → slice_get (all_powers m order generators) ((order - 1) * g + (e - 1)) ≡ power_of m generators (record { generator = g; exponent = e })
  unfolding all_powers power_of
  all_powers-at [] g e some lt = refl
  all_powers-at (r ∷ rs) zero e some lt =
      let first : (order - 1) * zero + (e - 1) ≡ e - 1 = omega arith in
      ap (slice_get (map (power m r) (numbers_from 1 (order - 1)) ++ all_powers m order rs)) first
      ∙ get-append (map (power m r) (numbers_from 1 (order - 1))) (all_powers m order rs) (e - 1) (omega (arith, powers_length r))
      ∙ powers_at r e some lt
  all_powers-at (r ∷ rs) (suc g) e some lt =
      get-append_past (map (power m r) (numbers_from 1 (order - 1))) (all_powers m order rs) ((order - 1) * suc g + (e - 1)) ((order - 1) * g + (e - 1))
      (omega (arith, powers_length r))
      ∙ all_powers-at rs g e some lt

  -- and there are so many
  pub length-all_powers : (generators : List S)
      → length (all_powers m order generators) ≡ (order - 1) * length generators
  unfolding all_powers
  length-all_powers [] = omega arith
  length-all_powers (r ∷ rs) = grind (arith, length-append, powers_length, length-all_powers rs)

-- The letter at a number is the power with that number.
pub power_table-at : {S T : Type 0} (m : Monoid S) (order : ℕ) (generators : List S) (power_at : T → Option Power) (t : T) (g e : ℕ)
    → 0 < e → e < order → power_at t ≡ Some (record { generator = g; exponent = e })
    → power_table m generators power_at t ≡ slice_get (all_powers m order generators) ((order - 1) * g + (e - 1))
power_table-at m order generators power_at t g e some lt read = grind (arith, all_powers-at)

-- ---- lawful turns

-- a turn of this order
pub record IsGenerator {S : Type 0} (m : Monoid S) (IsValid : S → Type 0) (order : ℕ) (r : S) : Type 0 where
  pub valid : IsValid r
  pub whole : power m r order ≡ m.solved

module _ {S T : Type 0} (m : Monoid S) (IsValid : S → Type 0) (l : IsMonoid m IsValid)
    (order : ℕ) (generators : List S) (each : All (IsGenerator m IsValid order) generators)
    (power_at : T → Option Power) (opposite : T → T) (merging : Merging T) (ps : ArePowers order power_at opposite merging) where
  -- a letter's generator, and its power
  pub record IsPowerOf (t : T) (r : S) : Type 0 where
    pub letter : Power
    pub generator : S
    pub read : power_at t ≡ Some letter
    pub there : slice_get generators letter.generator ≡ Some generator
    pub made : power m generator letter.exponent ≡ r
    pub is : IsGenerator m IsValid order generator

  pub IsPowerOf-table : (t : T) (r : S) → power_table m generators power_at t ≡ Some r → IsPowerOf t r
  unfolding power_of
  IsPowerOf-table t r e =
      let letter = and_then-some (power_of m generators) (power_at t) r e in
      let found = map-some (λ g. power m g letter.0.exponent) (slice_get generators letter.0.generator) r letter.2 in
      record {
        letter = letter.0;
        generator = found.0;
        read = letter.1;
        there = found.1;
        made = found.2;
        is = All-got (IsGenerator m IsValid order) generators letter.0.generator found.0 each found.1;
      }

  -- a table of powers is one of turns
  pub IsValid-power_table : (t : T) (r : S) → power_table m generators power_at t ≡ Some r → IsValid r
  IsValid-power_table t r e =
      let p = IsPowerOf-table t r e in
      subst IsValid p.made (IsValid-power m IsValid l p.generator p.letter.exponent p.is.valid)

  power_of-at : (n e : ℕ) (g : S) → slice_get generators n ≡ Some g
      → power_of m generators (record { generator = n; exponent = e }) ≡ Some (power m g e)
  unfolding power_of
  power_of-at n e g h = ap (option_map (λ x. power m x e)) h

  -- the opposite letter undoes a letter
  pub opposites-power_table : (t : T) (r : S) → power_table m generators power_at t ≡ Some r
      → (q : S) × (power_table m generators power_at (opposite t) ≡ Some q) × (m.turned r q ≡ m.solved)
  opposites-power_table t r e =
      let p = IsPowerOf-table t r e in
      let g = p.generator in
      let n = p.letter.exponent in
      let left = order - n in
      let all : n + left ≡ order = omega (arith, ps.below t p.letter p.read) in (
        power m g left,
        ap (option_and_then (power_of m generators)) (ps.opposites t p.letter p.read) ∙ power_of-at p.letter.generator left g p.there,
        ap (λ x. m.turned x (power m g left)) (sym p.made)
            ∙ sym (power-add m IsValid l g n left p.is.valid) ∙ ap (power m g) all ∙ p.is.whole,
      )

  merged_by : (n : ℕ) (g : S) (o : Option T) → slice_get generators n ≡ Some g
      → merged_turn m (power_table m generators power_at) o
      ≡ option_and_then (power_of m generators) (merged_power power_at n o)
  unfolding power
  merged_by n g None h = sym (power_of-at n 0 g h)
  merged_by n g (Some t) h = refl

  -- and merged letters come to both
  pub merges-power_table : (t u : T) (r q : S) → IsTrue (merging.alike t u)
      → power_table m generators power_at t ≡ Some r → power_table m generators power_at u ≡ Some q
      → merged_turn m (power_table m generators power_at) (merging.merged t u) ≡ Some (m.turned r q)
  merges-power_table t u r q alike e f =
      let p = IsPowerOf-table t r e in
      let s = IsPowerOf-table u q f in
      let g = p.generator in
      let n = p.letter.exponent in
      let k = s.letter.exponent in
      let one : s.generator ≡ g =
      same_Some s.generator g (sym s.there ∙ ap (slice_get generators) (sym (ps.same t u p.letter s.letter alike p.read s.read)) ∙ p.there) in
      let other : power m g k ≡ q = ap (λ x. power m x k) (sym one) ∙ s.made in
      merged_by p.letter.generator g (merging.merged t u) p.there
      ∙ ap (option_and_then (power_of m generators)) (ps.merges t u p.letter s.letter alike p.read s.read)
      ∙ power_of-at p.letter.generator ((n + k) % order) g p.there
      ∙ ap Some (power-mod m IsValid l g order (n + k) (omega (arith, ps.below t p.letter p.read)) p.is.valid p.is.whole
      ∙ power-add m IsValid l g n k p.is.valid
      ∙ ap (λ x. m.turned x (power m g k)) p.made ∙ ap (m.turned r) other)

  pub IsLawful-powers : IsLawful (after_by m (power_table m generators power_at)) opposite merging IsValid
  IsLawful-powers = grind (arith, IsLawful-table, IsValid-power_table, opposites-power_table, merges-power_table)

  -- ---- what holds of such a puzzle

  pub HasLawfulTurns-powers : HasLawfulTurns m IsValid (power_table m generators power_at) opposite merging
  HasLawfulTurns-powers =
      let table = power_table m generators power_at in
      record {
        joined = l;
        turns = IsValid-power_table;
        kept = IsLawful-powers.keeps;
        taken_back = IsTakenBack-lawful (after_by m table) opposite merging IsValid IsLawful-powers;
        kept_by_tidy = IsKeptByTidy-lawful (after_by m table) opposite merging IsValid IsLawful-powers;
        words = play-solved m IsValid l table IsValid-power_table;
        reached = λ counted s h.
            play-keeps (after_by m table) IsValid IsLawful-powers.keeps h.1 s h.0 (subst IsValid (sym h.2) l.solved) h.3;
      }

-- A letter that is a power of none of the generators makes nothing.
pub after-no_power : {S T : Type 0} (m : Monoid S) (generators : List S) (power_at : T → Option Power) (s : S) (t : T)
    → ((p : Power) → power_at t ≡ Some p → length generators ≤ p.generator)
    → after_by m (power_table m generators power_at) s t ≡ None
unfolding power_of
after-no_power m generators power_at s t none = by (power_at t) refl
  where
    by : (o : Option Power) → power_at t ≡ o → after_by m (power_table m generators power_at) s t ≡ None
    by None e = ap (λ o. option_map (m.turned s) (option_and_then (power_of m generators) o)) e
    by (Some p) e =
        ap (λ o. option_map (m.turned s) (option_and_then (power_of m generators) o)) e
        ∙ ap (λ o. option_map (m.turned s) (option_map (λ r. power m r p.exponent) o)) (slice_get_past generators p.generator (none p e))
