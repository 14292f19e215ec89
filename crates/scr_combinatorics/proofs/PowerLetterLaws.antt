-- Letters that are powers of generators: read as such, opposite and merged as powers are, told by a test, and by their
-- numbers.
use Rattle.std.proofs.Common.{◌≡◌, ℕ, ◌+◌, ◌-◌, ◌*◌, ◌%◌, ◌<◌, ◌≤◌, Bool, IsTrue, Option, Some, None, arith}
use Rattle.std.specs.Option.{option_map}
use Rattle.std.proofs.Math.Nat.{mul-le-mul_left}
use Rattle.std.proofs.lemmas.Option.{same_Some}
use Rattle.scr_combinatorics.specs.PowerLetters.{Power, PowerLetters, IsPower, AreNumbered}
use Rattle.scr_combinatorics.specs.Tidy.{Merging}

-- the power of one generator that a letter or none is
abbrev pub merged_power : {T : Type 0} → (T → Option Power) → ℕ → Option T → Option Power
merged_power power_at generator None = Some (record { generator = generator; exponent = 0 })
merged_power power_at generator (Some t) = power_at t

-- Of letters that are powers of generators of one order: the opposite letter has what is left to the order, and two
-- letters of one generator come to the sum of their exponents.
pub record ArePowers {T : Type 0} (order : ℕ) (power_at : T → Option Power) (opposite : T → T) (m : Merging T) : Type 0 where
  pub below : (t : T) (p : Power) → power_at t ≡ Some p → (0 < p.exponent) × (p.exponent < order)
  pub opposites : (t : T) (p : Power) → power_at t ≡ Some p
      → power_at (opposite t) ≡ Some (record { generator = p.generator; exponent = order - p.exponent })
  pub same : (t u : T) (p q : Power) → IsTrue (m.alike t u) → power_at t ≡ Some p → power_at u ≡ Some q
      → p.generator ≡ q.generator
  pub merges : (t u : T) (p q : Power) → IsTrue (m.alike t u) → power_at t ≡ Some p → power_at u ≡ Some q
      → merged_power power_at p.generator (m.merged t u)
      ≡ Some (record { generator = p.generator; exponent = (p.exponent + q.exponent) % order })

-- a test is true of the letters that are powers of the first generators, so many of them, and of no others
pub record TellsPowers {T : Type 0} (power_at : T → Option Power) (count : ℕ) (test : T → Bool) : Type 0 where
  pub powers : (t : T) → IsTrue (test t) → (p : Power) × (power_at t ≡ Some p) × (p.generator < count)
  pub only : (t : T) (p : Power) → power_at t ≡ Some p → p.generator < count → IsTrue (test t)

-- ---- letters, by the generator and the exponent that are read from them

read_power : (o : Option Power) (generator exponent : ℕ)
    → (let pair : ℕ × ℕ = (generator, exponent) in Some pair ≡ option_map (λ p. (p.generator, p.exponent)) o)
    → (p : Power) × (o ≡ Some p) × (generator ≡ p.generator) × (exponent ≡ p.exponent)
read_power None generator exponent e = absurd (cc)
read_power (Some p) generator exponent e = grind (arith, same_Some)

module _ {T : Type 0} (l : PowerLetters T) where
  -- what is read from a letter
  abbrev pub IsRead : Option (ℕ × ℕ) → T → Type 0
  IsRead read t = read ≡ option_map (λ p. (p.generator, p.exponent)) (l.power_at t)

  -- it is the letter of its power
  pub letter_is : AreNumbered l → (t : T) (generator exponent : ℕ) → IsRead (Some (generator, exponent)) t
      → l.letter_of (record { generator = generator; exponent = exponent }) ≡ t
  letter_is h t generator exponent e = grind (arith, read_power)

  -- it is none of a puzzle that hasn't the generator
  pub barred_generator : (t : T) (generator exponent count : ℕ) → IsRead (Some (generator, exponent)) t
      → count ≤ generator → (p : Power) → l.power_at t ≡ Some p → count ≤ p.generator
  barred_generator t generator exponent count e le p at = grind (arith, read_power, same_Some)

  -- ---- numbers

  -- a power's number is below that of the next generator's first
  pub number-lt : (p : Power) (count : ℕ) → IsPower l p → p.generator < count
      → (l.order - 1) * p.generator + (p.exponent - 1) < (l.order - 1) * count
  number-lt p count is lt = omega (arith, is.some, is.few, mul-le-mul_left (l.order - 1) lt)
