-- Turns by their numbers, for any puzzle whose letters are numbered powers of its generators.
use Rattle.std.proofs.Common.{◌≡◌, ℕ, ◌+◌, ◌-◌, ◌*◌, ◌/◌, ◌%◌, ◌<◌, ◌≤◌, List, Some, None, length, sym, ap, ◌∙◌, arith, ⊎_elim, div-add-mod', zero-mul, zero, suc}
use Rattle.std.specs.Prelude.{slice_get, option_and_then}
use Rattle.std.specs.Option.{option_map}
use Rattle.std.proofs.Math.Nat.{mul-le-mul_left}
use Rattle.std.proofs.lemmas.Bool.{cases_lt}
use Rattle.std.proofs.lemmas.Nat.{div_below, mod_below}
use Rattle.std.proofs.lemmas.Option.{slice_get_past, slice_get_within}
use Rattle.scr_combinatorics.specs.PowerLetters.{Power, PowerLetters, IsPower, AreNumbered}
use Rattle.scr_combinatorics.proofs.PlayLaws.{and_then-some, map-some}
use Rattle.scr_combinatorics.proofs.PowerLetterLaws.{number-lt}
use Rattle.scr_orbit.specs.Monoids.{Monoid, after_by, power, power_of, power_table, all_powers}
use Rattle.scr_orbit.proofs.PowerLaws.{power_table-at, length-all_powers}

positive : (n m k : ℕ) → n < k * m → 0 < k
positive n m zero lt = absurd (omega (arith, zero-mul m))
positive n m (suc k) lt = omega arith

module _ {S T : Type 0} (l : PowerLetters T) (h : AreNumbered l) (m : Monoid S) (generators : List S) (few : length generators ≤ l.most) where
  count-le : length (all_powers m l.order generators) ≤ (l.order - 1) * l.most
  count-le = omega (arith, length-all_powers m l.order generators, mul-le-mul_left (l.order - 1) few)

  -- all turns, in the order of their numbers, are those of the letters with these numbers
  pub all_powers-numbered : (n : ℕ)
      → slice_get (all_powers m l.order generators) n ≡ power_table m generators l.power_at (l.letter_at n)
  all_powers-numbered n =
      ⊎_elim
      (λ lt.
      let powers : ℕ = l.order - 1 in
      let some : 0 < powers = positive n l.most powers lt in
      let p : Power = record { generator = n / powers; exponent = n % powers + 1 } in
      let below : n % powers < powers = mod_below n powers some in
      let is : IsPower l p = record {
        generator = div_below n powers l.most some (omega (arith, lt));
        some = omega arith;
        few = omega (arith, below);
      } in
      let number : powers * (n / powers) + (n % powers + 1 - 1) ≡ n = omega (arith, div-add-mod' n powers) in
      sym (ap (λ k. power_table m generators l.power_at (l.letter_at k)) (sym number)
      ∙ ap (power_table m generators l.power_at) (h.numbered p is)
      ∙ power_table-at m l.order generators l.power_at (l.letter_of p) p.generator p.exponent (omega arith) is.few (h.read p is)
      ∙ ap (slice_get (all_powers m l.order generators)) number))
      (λ le.
      slice_get_past (all_powers m l.order generators) n (omega (arith, count-le, le))
      ∙ sym (ap (option_and_then (power_of m generators)) (h.no_more n le)))
      (cases_lt n ((l.order - 1) * l.most))

  -- what does something is a turn with a number below that of all turns
  pub number_of_turn : (s r : S) (t : T) → after_by m (power_table m generators l.power_at) s t ≡ Some r
      → (n : ℕ) × (n < (l.order - 1) * length generators) × (l.letter_at n ≡ t)
  unfolding power_of
  number_of_turn s r t e =
      let read = map-some (m.turned s) (power_table m generators l.power_at t) r e in
      let p = and_then-some (power_of m generators) (l.power_at t) read.0 read.1 in
      let found = map-some (λ q. power m q p.0.exponent) (slice_get generators p.0.generator) read.0 p.2 in
      let there : p.0.generator < length generators = slice_get_within generators p.0.generator found.0 found.1 in
      let is : IsPower l p.0 = record { generator = omega (arith, there, few); some = h.some t p.0 p.1; few = h.few t p.0 p.1 } in
      ((l.order - 1) * p.0.generator + (p.0.exponent - 1), number-lt l p.0 (length generators) is there, h.numbered p.0 is ∙ h.only t p.0 p.1)

  -- and a turn with another number does nothing
  pub no_more_turns : (s : S) (n : ℕ) → (l.order - 1) * length generators ≤ n
      → after_by m (power_table m generators l.power_at) s (l.letter_at n) ≡ None
  no_more_turns s n le =
      ap (option_map (m.turned s))
      (sym (all_powers-numbered n) ∙ slice_get_past (all_powers m l.order generators) n (omega (arith, length-all_powers m l.order generators, le)))
