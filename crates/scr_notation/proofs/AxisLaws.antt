-- Turns about axes and of tips are powers of thirds, opposite as powers are, and each has its number.
use Rattle.std.proofs.Common.{◌≡◌, ℕ, ◌+◌, ◌-◌, ◌*◌, ◌/◌, ◌%◌, ◌<◌, ◌≤◌, ◌⊎◌, inl, inr, true, IsTrue, cond, Some, None, refl, sym, ap, ◌∙◌, subst, arith, ltb, ltb-true, lt-ltb, ⊎_elim}
use Rattle.std.specs.Prelude.{◌&&◌}
use Rattle.std.specs.Cmp.Derive.{both_true}
use Rattle.std.proofs.lemmas.Bool.{cases_lt, cond-true, cond-false, le-ltb}
use Rattle.std.proofs.lemmas.Option.{cond_some}
use Rattle.scr_combinatorics.specs.PowerLetters.{Power, IsPower, AreNumbered}
use Rattle.scr_combinatorics.proofs.PowerLetterLaws.{ArePowers}
use Rattle.scr_notation.specs.declared.turn.Turn.{Turn}
use Rattle.scr_notation.specs.declared.turn.Turn.TheVariants.{Axis, Tip}
use Rattle.scr_notation.specs.Amounts.{is_amount}
use Rattle.scr_notation.specs.TurnNumbers.{axis_turn_at}
use Rattle.scr_notation.specs.Turning.{opposite, are_alike, turn_merging}
use Rattle.scr_notation.specs.AxisLetters.{thirds_of, letters_about_axes}
use Rattle.scr_notation.proofs.Below.{and_first, and_second}
use Rattle.scr_notation.proofs.NumberLaws.{axis_at, tip_at}

-- a letter that is a power is a large turn or one of a tip, by one or two thirds
pub record IsThirdsOf (t : Turn) (p : Power) : Type 0 where
  pub is : ((p.generator < 4) × (t ≡ Axis p.generator p.exponent)) ⊎ ((tip : ℕ) × (tip < 4) × (p.generator ≡ 4 + tip) × (t ≡ Tip tip p.exponent))
  pub some : 0 < p.exponent
  pub few : p.exponent < 3

-- what the test of a letter says
record IsInRange (axis amount : ℕ) : Type 0 where
  there : axis < 4
  some : 0 < amount
  few : amount < 3

in_range : (axis amount : ℕ) → (ltb axis 4 && is_amount 3 amount) ≡ true → IsInRange axis amount
in_range axis amount e =
    let range : is_amount 3 amount ≡ true = and_second (ltb axis 4) (is_amount 3 amount) e in
    record {
      there = ltb-true axis 4 (and_first (ltb axis 4) (is_amount 3 amount) e);
      some = ltb-true 0 amount (and_first (ltb 0 amount) (ltb amount 3) range);
      few = ltb-true amount 3 (and_second (ltb 0 amount) (ltb amount 3) range);
    }

axis_read : (axis amount : ℕ) (p : Power) → thirds_of (Axis axis amount) ≡ Some p → IsThirdsOf (Axis axis amount) p
axis_read axis amount p e =
    let read = cond_some (ltb axis 4 && is_amount 3 amount) (record { generator = axis; exponent = amount }) p e in
    let range = in_range axis amount read.0 in
    let P : Power → Type 0 = IsThirdsOf (Axis axis amount) in
    subst P read.1 (record { is = inl (range.there, refl); some = range.some; few = range.few })

tip_read : (tip amount : ℕ) (p : Power) → thirds_of (Tip tip amount) ≡ Some p → IsThirdsOf (Tip tip amount) p
tip_read tip amount p e =
    let read = cond_some (ltb tip 4 && is_amount 3 amount) (record { generator = 4 + tip; exponent = amount }) p e in
    let range = in_range tip amount read.0 in
    let P : Power → Type 0 = IsThirdsOf (Tip tip amount) in
    subst P read.1 (record { is = inr (tip, range.there, refl, refl); some = range.some; few = range.few })

pub IsThirdsOf-read : (t : Turn) (p : Power) → thirds_of t ≡ Some p → IsThirdsOf t p
IsThirdsOf-read (Axis axis amount) p e = axis_read axis amount p e
IsThirdsOf-read (Tip tip amount) p e = tip_read tip amount p e
IsThirdsOf-read _ p e = absurd (cc)

-- and each such turn is
pub thirds_of-axis : (axis amount : ℕ) → axis < 4 → 0 < amount → amount < 3
    → thirds_of (Axis axis amount) ≡ Some (record { generator = axis; exponent = amount })
thirds_of-axis axis amount there some few =
    ap (λ b. cond b (Some (record { generator = axis; exponent = amount })) None) (both_true (lt-ltb axis 4 there) (both_true (lt-ltb 0 amount some) (lt-ltb amount 3 few)))

pub thirds_of-tip : (tip amount : ℕ) → tip < 4 → 0 < amount → amount < 3
    → thirds_of (Tip tip amount) ≡ Some (record { generator = 4 + tip; exponent = amount })
thirds_of-tip tip amount there some few =
    ap (λ b. cond b (Some (record { generator = 4 + tip; exponent = amount })) None) (both_true (lt-ltb tip 4 there) (both_true (lt-ltb 0 amount some) (lt-ltb amount 3 few)))

opposite_by : (t : Turn) (p : Power) → IsThirdsOf t p
    → thirds_of (opposite t) ≡ Some (record { generator = p.generator; exponent = 3 - p.exponent })
opposite_by t p h =
    elim h.is [
      | inl a ↦ ap (λ u. thirds_of (opposite u)) a.1 ∙ thirds_of-axis p.generator (3 - p.exponent) a.0 (omega (arith, h.some, h.few)) (omega (arith, h.some))
      | inr b ↦
          ap (λ u. thirds_of (opposite u)) b.3
          ∙ thirds_of-tip b.0 (3 - p.exponent) b.1 (omega (arith, h.some, h.few)) (omega (arith, h.some))
          ∙ ap (λ g. Some (record { generator = g; exponent = 3 - p.exponent })) (sym b.2)
    ]

-- no two of them are merged
unlike : (t u : Turn) (p : Power) → thirds_of t ≡ Some p → IsTrue (are_alike t u) → ⊥
unlike (Axis axis amount) u p e alike = cc
unlike (Tip tip amount) u p e alike = cc
unlike _ u p e alike = absurd (cc)

pub axis_powers : ArePowers 3 thirds_of opposite turn_merging
axis_powers = record {
  below = λ t p e. let a = IsThirdsOf-read t p e in (a.some, a.few);
  opposites = λ t p e. opposite_by t p (IsThirdsOf-read t p e);
  same = λ t u p q alike e f. absurd (unlike t u p e alike);
  merges = λ t u p q alike e f. absurd (unlike t u p e alike);
}

-- ---- by their numbers

axis_turn_at-high : (n : ℕ) → 8 ≤ n → axis_turn_at n ≡ Tip ((n - 8) / 2) (n % 2 + 1)
unfolding axis_turn_at
axis_turn_at-high n l = cond-false (ltb n 8) _ _ (le-ltb n 8 l)

-- and the others are no turns of these puzzles
pub thirds_of-past : (n : ℕ) → 16 ≤ n → thirds_of (axis_turn_at n) ≡ None
thirds_of-past n l =
    let amount : ℕ = n % 2 + 1 in
    ap thirds_of (axis_turn_at-high n (omega arith))
    ∙ ap (λ b. cond (b && is_amount 3 amount) (Some (record { generator = 4 + (n - 8) / 2; exponent = amount })) None) (le-ltb ((n - 8) / 2) 4 (omega arith))

-- a power's letter is that of its number
pub axis_turn_at-power : (t : Turn) (p : Power) → thirds_of t ≡ Some p
    → axis_turn_at (2 * p.generator + (p.exponent - 1)) ≡ t
axis_turn_at-power t p e =
    let h = IsThirdsOf-read t p e in
    elim h.is [
      | inl a ↦ axis_at p.generator p.exponent (record { axis_below = a.0; some_third = h.some; no_whole = h.few }) ∙ sym a.1
      | inr b ↦
          let same : 2 * p.generator + (p.exponent - 1) ≡ 8 + 2 * b.0 + (p.exponent - 1) = omega (arith, b.2) in
          ap axis_turn_at same ∙ tip_at b.0 p.exponent (record { axis_below = b.1; some_third = h.some; no_whole = h.few }) ∙ sym b.3
    ]

letter-low : (p : Power) → p.generator < 4 → letters_about_axes.letter_of p ≡ Axis p.generator p.exponent
letter-low p l = cond-true (ltb p.generator 4) _ _ (lt-ltb p.generator 4 l)

pub letter-high : (p : Power) (tip : ℕ) → p.generator ≡ 4 + tip → letters_about_axes.letter_of p ≡ Tip tip p.exponent
letter-high p tip e =
    let which : p.generator - 4 ≡ tip = omega arith in
    cond-false (ltb p.generator 4) _ _ (le-ltb p.generator 4 (omega arith)) ∙ ap (λ g. Tip g p.exponent) which

letter_of-only : (t : Turn) (p : Power) → IsThirdsOf t p → letters_about_axes.letter_of p ≡ t
letter_of-only t p h =
    elim h.is [
      | inl a ↦ letter-low p a.0 ∙ sym a.1
      | inr b ↦ letter-high p b.0 b.2 ∙ sym b.3
    ]

thirds_of-letter : (p : Power) → IsPower letters_about_axes p → thirds_of (letters_about_axes.letter_of p) ≡ Some p
thirds_of-letter p h =
    ⊎_elim
    (λ low. ap thirds_of (letter-low p low) ∙ thirds_of-axis p.generator p.exponent low h.some h.few)
    (λ high.
    let whole : p.generator ≡ 4 + (p.generator - 4) = omega arith in
    ap thirds_of (letter-high p (p.generator - 4) whole) ∙ thirds_of-tip (p.generator - 4) p.exponent (omega (arith, h.generator)) h.some h.few
    ∙ ap (λ g. Some (record { generator = g; exponent = p.exponent })) (sym whole))
    (cases_lt p.generator 4)

pub axes_numbered : AreNumbered letters_about_axes
axes_numbered = record {
  read = thirds_of-letter;
  only = λ t p e. letter_of-only t p (IsThirdsOf-read t p e);
  some = λ t p e. (IsThirdsOf-read t p e).some;
  few = λ t p e. (IsThirdsOf-read t p e).few;
  numbered = λ p h. axis_turn_at-power (letters_about_axes.letter_of p) p (thirds_of-letter p h);
  no_more = thirds_of-past;
}
