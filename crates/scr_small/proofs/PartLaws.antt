-- Laws of the two parts of a puzzle's states.
use Rattle.std.proofs.Common.{◌≡◌, ℕ, zero, suc, ◌*◌, ◌/◌, ◌%◌, ◌<◌, Some, sym, ap, ◌∙◌, subst, arith}
use Rattle.std.specs.Option.{option_map}
use Rattle.std.proofs.lemmas.Option.{same_Some}
use Rattle.std.proofs.Math.Nat.{mul-lt-mul_of_pos_left}
use Rattle.scr_combinatorics.specs.Numbered.{Numbered}
use Rattle.scr_combinatorics.proofs.PlayLaws.{map-some}
use Rattle.scr_orbit.specs.PowerPuzzles.{PowerPuzzle, after_letter, letter_table}
use Rattle.scr_positions.specs.Coordinates.{StaysBelow}
use Rattle.scr_positions.proofs.StaysBelowLaws.{part_below}
use Rattle.scr_notation.specs.declared.turn.Turn.{Turn}
use Rattle.scr_small.specs.NumberedPuzzles.{NumberedPuzzle, numbered_powers, after_number}
use Rattle.scr_small.specs.LawfulPuzzles.{IsNumberedPuzzle}
use Rattle.scr_small.specs.StateParts.{MovesByParts, high_part}

-- ---- turns lead from positions to positions

-- the place of a low part among the states, and of a high one
pub low_place : (low_count high_count count i : ℕ) → count ≡ low_count * high_count → 0 < count → i < low_count
    → i < count
low_place low_count zero count i pairs some at = absurd (omega (arith, pairs, some))
low_place low_count (suc k) count i pairs some at = omega (arith, pairs, at)

pub high_place : (low_count high_count count i : ℕ) → count ≡ low_count * high_count → 0 < count → i < high_count
    → low_count * i < count
high_place zero high_count count i pairs some at = absurd (omega (arith, pairs, some))
high_place (suc k) high_count count i pairs some at = subst (λ c. suc k * i < c) (sym pairs) (mul-lt-mul_of_pos_left at (omega arith))

pub StaysBelow-high : {S T : Type 0} (p : NumberedPuzzle S T) → IsNumberedPuzzle p → (low_count high_count : ℕ)
    → MovesByParts p low_count high_count → StaysBelow (high_part p low_count high_count)
StaysBelow-high p l low_count high_count b i n q at turn e =
    let s = p.numbered.state_at (low_count * i) in
    let led = map-some (λ s. p.numbered.number_of s / low_count) (after_number p s n) q e in
    let valid = l.numbering.one_to_one.valid (low_count * i) (high_place low_count high_count p.numbered.count i b.pairs l.numbering.some at) in
    let below = l.numbering.one_to_one.below led.0 (l.kept s led.0 (p.letter_at n) valid led.1) in
    let within : p.numbered.number_of led.0 < low_count * high_count = subst (λ k. p.numbered.number_of led.0 < k) b.pairs below in
    subst (λ k. k < high_count) led.2 (part_below low_count high_count (p.numbered.number_of led.0) within).1

-- ---- parts of the states of a table

-- What a state's parts are, and that they tell the two numbers of a state and are told by them.
pub record AreParts {S L H : Type 0} (n : Numbered S) (low_count : ℕ) (low_of : S → L) (high_of : S → H) : Type 0 where
  pub low_told : (i j : ℕ) → i % low_count ≡ j % low_count → low_of (n.state_at i) ≡ low_of (n.state_at j)
  pub high_told : (i j : ℕ) → i / low_count ≡ j / low_count → high_of (n.state_at i) ≡ high_of (n.state_at j)
  pub low_number : (s r : S) → n.IsValid s → n.IsValid r → low_of s ≡ low_of r
      → n.number_of s % low_count ≡ n.number_of r % low_count
  pub high_number : (s r : S) → n.IsValid s → n.IsValid r → high_of s ≡ high_of r
      → n.number_of s / low_count ≡ n.number_of r / low_count

module _ {S L H : Type 0} (n : Numbered S) (p : PowerPuzzle S Turn) (l : IsNumberedPuzzle (numbered_powers n p))
    (low_count high_count : ℕ) (pairs : n.count ≡ low_count * high_count)
    (low_of : S → L) (high_of : S → H) (parts : AreParts n low_count low_of high_of)
    (low_turned : (s r x : S) → low_of s ≡ low_of r → low_of (p.monoid.turned s x) ≡ low_of (p.monoid.turned r x))
    (high_turned : (s r x : S) → high_of s ≡ high_of r → high_of (p.monoid.turned s x) ≡ high_of (p.monoid.turned r x)) where
  -- what a letter makes of two states, it makes by one turn
  made_of_both : (s r s' r' : S) (t : Turn) → after_letter p s t ≡ Some s' → after_letter p r t ≡ Some r'
      → (x : S) × (p.monoid.turned s x ≡ s') × (p.monoid.turned r x ≡ r')
  made_of_both s r s' r' t e f =
      let one = map-some (p.monoid.turned s) (letter_table p t) s' e in
      let two = map-some (p.monoid.turned r) (letter_table p t) r' f in
      let same : two.0 ≡ one.0 = same_Some two.0 one.0 (sym two.1 ∙ one.1) in
      (one.0, one.2, ap (p.monoid.turned r) (sym same) ∙ two.2)

  -- states whose numbers agree in a part agree in the part
  same_low : (s r : S) → n.IsValid s → n.IsValid r → n.number_of s % low_count ≡ n.number_of r % low_count
      → low_of s ≡ low_of r
  same_low s r v w e =
      sym (ap low_of (l.numbering.one_to_one.state_again s v)) ∙ parts.low_told (n.number_of s) (n.number_of r) e
      ∙ ap low_of (l.numbering.one_to_one.state_again r w)

  same_high : (s r : S) → n.IsValid s → n.IsValid r → n.number_of s / low_count ≡ n.number_of r / low_count
      → high_of s ≡ high_of r
  same_high s r v w e =
      sym (ap high_of (l.numbering.one_to_one.state_again s v)) ∙ parts.high_told (n.number_of s) (n.number_of r) e
      ∙ ap high_of (l.numbering.one_to_one.state_again r w)

  -- turns that move the parts each by itself move their numbers so
  pub MovesByParts-powers : MovesByParts (numbered_powers n p) low_count high_count
  MovesByParts-powers = record {
    pairs = pairs;
    low = λ s r s' r' t v w e f h.
        let made = made_of_both s r s' r' t e f in
        parts.low_number s' r' (l.kept s s' t v e) (l.kept r r' t w f)
        (ap low_of (sym made.1) ∙ low_turned s r made.0 (same_low s r v w h) ∙ ap low_of made.2);
    high = λ s r s' r' t v w e f h.
        let made = made_of_both s r s' r' t e f in
        parts.high_number s' r' (l.kept s s' t v e) (l.kept r r' t w f)
        (ap high_of (sym made.1) ∙ high_turned s r made.0 (same_high s r v w h) ∙ ap high_of made.2);
    alike = λ s r s' t v w e.
        let read = map-some (p.monoid.turned s) (letter_table p t) s' e in
        (p.monoid.turned r read.0, ap (option_map (p.monoid.turned r)) read.1);
  }
