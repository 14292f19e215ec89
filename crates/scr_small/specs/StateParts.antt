-- Puzzles whose states are two parts that turns move each by itself, and the coordinate of each part. No puzzle stands
-- here.
use Rattle.std.specs.Prelude.{◌≡◌, ℕ, ◌*◌, ◌/◌, ◌%◌, ◌==◌, Option, Some}
use Rattle.std.specs.Option.{option_map}
use Rattle.scr_positions.specs.Coordinates.{Coordinate}
use Rattle.scr_small.specs.NumberedPuzzles.{NumberedPuzzle, after_number}

-- Turns move two parts of a state each by itself. The number of a state is low + low_count * high, where low is the
-- number of one part, below low_count, and high that of the other, below high_count: states that agree in a part agree
-- in it after a turn, and a turn that does something to one state does something to each.
pub record MovesByParts {S T : Type 0} (p : NumberedPuzzle S T) (low_count high_count : ℕ) : Type 0 where
  pub pairs : p.numbered.count ≡ low_count * high_count
  pub low : (s r s' r' : S) (t : T) → p.numbered.IsValid s → p.numbered.IsValid r
      → p.after s t ≡ Some s' → p.after r t ≡ Some r'
      → p.numbered.number_of s % low_count ≡ p.numbered.number_of r % low_count
      → p.numbered.number_of s' % low_count ≡ p.numbered.number_of r' % low_count
  pub high : (s r s' r' : S) (t : T) → p.numbered.IsValid s → p.numbered.IsValid r
      → p.after s t ≡ Some s' → p.after r t ≡ Some r'
      → p.numbered.number_of s / low_count ≡ p.numbered.number_of r / low_count
      → p.numbered.number_of s' / low_count ≡ p.numbered.number_of r' / low_count
  pub alike : (s r s' : S) (t : T) → p.numbered.IsValid s → p.numbered.IsValid r → p.after s t ≡ Some s'
      → (r' : S) × (p.after r t ≡ Some r')

-- Where the turn of a number leads from the state with a number, as a number of the turned state.
abbrev pub led_to : {S T : Type 0} → NumberedPuzzle S T → (S → ℕ) → ℕ → ℕ → Option ℕ
led_to p seen i n = option_map seen (after_number p (p.numbered.state_at i) n)

-- The low part as a coordinate: position i is that of the state with number i, whose high part is 0.
abbrev pub low_part : {S T : Type 0} → NumberedPuzzle S T → ℕ → Coordinate
low_part p low_count = record {
  count = low_count;
  turns = p.turns;
  after = λ i n. led_to p (λ s. p.numbered.number_of s % low_count) i n;
  is_goal = λ i. i == p.numbered.number_of p.solved % low_count;
}

-- The high part: position i is that of the state with number low_count * i, whose low part is 0.
abbrev pub high_part : {S T : Type 0} → NumberedPuzzle S T → ℕ → ℕ → Coordinate
high_part p low_count high_count = record {
  count = high_count;
  turns = p.turns;
  after = λ i n. led_to p (λ s. p.numbered.number_of s / low_count) (low_count * i) n;
  is_goal = λ i. i == p.numbered.number_of p.solved / low_count;
}
