-- Letters of turns as powers of a puzzle's generators, as a half turn of a face is its quarter turn twice, and the
-- numbers that they have as turns.
use Rattle.std.specs.Prelude.{◌≡◌, ℕ, ◌+◌, ◌-◌, ◌*◌, ◌<◌, ◌≤◌, Option, Some, None}

-- Which generator of a puzzle, from 0, and how many times.
pub record Power : Type 0 where
  pub generator : ℕ
  pub exponent : ℕ

-- How often each generator is done to move nothing; how many generators there are letters for; which power a letter is,
-- or none; the letter of each power; and the letter of each number.
pub record PowerLetters (T : Type 0) : Type 0 where
  pub order : ℕ
  pub most : ℕ
  pub power_at : T → Option Power
  pub letter_of : Power → T
  pub letter_at : ℕ → T

-- A power that moves something, of one of these generators.
pub record IsPower {T : Type 0} (l : PowerLetters T) (p : Power) : Type 0 where
  pub generator : p.generator < l.most
  pub some : 0 < p.exponent
  pub few : p.exponent < l.order

-- The letters are those of the powers, one for each; and they are numbered generator by generator, and there by
-- exponents.
pub record AreNumbered {T : Type 0} (l : PowerLetters T) : Type 0 where
  pub read : (p : Power) → IsPower l p → l.power_at (l.letter_of p) ≡ Some p
  pub only : (t : T) (p : Power) → l.power_at t ≡ Some p → l.letter_of p ≡ t
  pub some : (t : T) (p : Power) → l.power_at t ≡ Some p → 0 < p.exponent
  pub few : (t : T) (p : Power) → l.power_at t ≡ Some p → p.exponent < l.order
  pub numbered : (p : Power) → IsPower l p → l.letter_at ((l.order - 1) * p.generator + (p.exponent - 1)) ≡ l.letter_of p
  pub no_more : (n : ℕ) → (l.order - 1) * l.most ≤ n → l.power_at (l.letter_at n) ≡ None

-- So many of these letters' generators are a puzzle's: a letter that is a power of none of them makes nothing.
pub record HasGenerators {S T : Type 0} (l : PowerLetters T) (count : ℕ) (after : S → T → Option S) : Type 0 where
  pub few : count ≤ l.most
  pub barred : (s : S) (t : T) → ((p : Power) → l.power_at t ≡ Some p → count ≤ p.generator) → after s t ≡ None
