-- The turns of a Megaminx by the bits of a number.
use Rattle.std.proofs.Common.{◌≡◌, ℕ, zero, suc, ◌+◌, ◌*◌, ◌/◌, ◌%◌, ◌^◌, ◌<◌, ◌==◌, min, Bool, None, Some, List, [], ◌∷◌, ◌++◌, length, replicate, slice_index, refl, sym, ap, ◌∙◌, append_assoc, lit<, arith}
use Rattle.std.specs.Prelude.{slice_get, if◌then◌else◌, All}
use Rattle.std.specs.List.{flat_map, range_with_len}
use Rattle.std.proofs.lemmas.Bool.{ne_eqb}
use Rattle.std.proofs.lemmas.Option.{cond_some}
use Rattle.std.proofs.lemmas.List.{flat_map_more}
use Rattle.std.proofs.lemmas.List.FromFn.{map-range_with_len_more}
use Rattle.std.proofs.lemmas.Nat.{shr-shr}
use Rattle.std.proofs.Math.Nat.{div-one}
use Rattle.scr_combinatorics.specs.Digits.{mixed_digits, mixed_number}
use Rattle.scr_combinatorics.proofs.Digits.{lists_one_to_one}
use Rattle.scr_draw.specs.Attempt.{answer, is_accepted, attempt_value}
use Rattle.scr_notation.specs.declared.turn.Turn.{Turn}
use Rattle.scr_notation.specs.declared.turn.Turn.TheVariants.{Wide}
use Rattle.scr_bigs.specs.Megaminx.{bits_of, row_turns, rows_turns, megaminx_moves}
use Rattle.scr_bigs.specs.Fairness.{AreFairBits}
use Rattle.scr_bigs.specs.Following.{AreMegaminxTurns}
use Rattle.scr_bigs.proofs.ChoiceLaws.{answer-accepted, answer-equally, mapped}
use Rattle.scr_bigs.proofs.Listed.{listed, length-listed, listed-at, listed-agree, range-more}

-- ---- the bits of a number

bit-at : (n v k : ℕ) → k < n → slice_index (mixed_digits (replicate n 2) v) k ≡ v / 2 ^ k % 2
bit-at zero v k below = absurd (omega arith)
bit-at (suc n) v zero below = ap (λ w. w % 2) (sym (div-one v))
bit-at (suc n) v (suc k) below =
    let more : 1 + k ≡ suc k = omega arith in
    bit-at n (v / 2) k (omega arith) ∙ ap (λ w. w % 2) (shr-shr v 1 k ∙ ap (λ j. v / 2 ^ j) more)

bit-of : (v k : ℕ) → k < 70 → slice_index (bits_of v) k ≡ v / 2 ^ k % 2
unfolding bits_of
bit-of v k below = bit-at 70 v k below

-- ---- a row

-- turn k of the row that a number's low bits give
abbrev pub bit_turn : ℕ → ℕ → Turn
bit_turn v k = Wide (k % 2) (v / 2 ^ k % 2 == 1)

row-number : (v row : ℕ) → row < 7
    → row_turns (bits_of v) row
    ≡ listed (bit_turn (v / 2 ^ (10 * row))) 10 ++ Wide 2 (v / 2 ^ (10 * row) / 512 % 2 == 1) ∷ []
unfolding row_turns
row-number v row low =
    ap (λ turns. turns ++ Wide 2 (slice_index (bits_of v) (10 * row + 9) == 1) ∷ [])
    (listed-agree (λ k. Wide (k % 2) (slice_index (bits_of v) (10 * row + k) == 1)) (bit_turn (v / 2 ^ (10 * row))) 10
    (λ k few. ap (λ b. Wide (k % 2) (b == 1)) (bit k few)))
    ∙ ap (λ b. listed (bit_turn (v / 2 ^ (10 * row))) 10 ++ Wide 2 (b == 1) ∷ []) (bit 9 (lit< tt))
  where
    bit : (k : ℕ) → k < 10 → slice_index (bits_of v) (10 * row + k) ≡ v / 2 ^ (10 * row) / 2 ^ k % 2
    bit k few = bit-of v (10 * row + k) (omega arith) ∙ ap (λ w. w % 2) (sym (shr-shr v (10 * row) k))

-- one more turn of a row
pub row-more : (old turns : List Turn) (bits rest place : ℕ) → turns ≡ old ++ listed (bit_turn bits) place
    → rest ≡ bits / 2 ^ place
    → turns ++ Wide (place % 2) (rest % 2 == 1) ∷ [] ≡ old ++ listed (bit_turn bits) (place + 1)
row-more old turns bits rest place so_far is =
    rw (so_far, is)
    (append_assoc old (listed (bit_turn bits) place) (bit_turn bits place ∷ [])
    ∙ ap (λ t. old ++ t) (sym (map-range_with_len_more (bit_turn bits) 0 place place (omega arith))))

pub rest-more : (bits rest place : ℕ) → rest ≡ bits / 2 ^ place → rest / 2 ≡ bits / 2 ^ (place + 1)
rest-more bits rest place is = rw is (shr-shr bits place 1)

-- all ten turns, and the turn of U
pub row-end : (old turns : List Turn) (v row bits place : ℕ) → row < 7 → bits ≡ v / 2 ^ (10 * row) → place ≡ 10
    → turns ≡ old ++ listed (bit_turn bits) place
    → turns ++ Wide 2 (bits / 512 % 2 == 1) ∷ [] ≡ old ++ row_turns (bits_of v) row
row-end old turns v row bits place low are whole so_far =
    rw (so_far, whole, are, row-number v row low) (append_assoc old (listed (bit_turn (v / 2 ^ (10 * row))) 10) _)

-- ---- rows

pub rows-more : (bits : List ℕ) (turns : List Turn) (row : ℕ) → turns ≡ flat_map (row_turns bits) (range_with_len 0 row)
    → turns ++ row_turns bits row ≡ flat_map (row_turns bits) (range_with_len 0 (row + 1))
rows-more bits turns row so_far =
    rw (so_far, range-more row) (flat_map_more (row_turns bits) [] (range_with_len 0 row) row)

pub rows-end : (bits : List ℕ) (turns : List Turn) (row : ℕ) → row ≡ 7
    → turns ≡ flat_map (row_turns bits) (range_with_len 0 row) → rows_turns bits ≡ turns
unfolding rows_turns
rows-end bits turns row whole so_far = rw (so_far, whole) refl

-- every number is accepted
pub always-accepted : (v : ℕ) → v < 2 ^ 96 → None ≡ answer (2 ^ 70) v → ⊥
always-accepted v below none = some_not_none (answer-accepted (2 ^ 70) v below ∙ sym none)
  where
    some_not_none : {n : ℕ} → Some n ≡ None → ⊥
    some_not_none same = cc

pub moves-answered : (word : ℕ → ℕ) (place number : ℕ) → Some number ≡ answer (2 ^ 70) (attempt_value word place)
    → megaminx_moves word place ≡ Some (rows_turns (bits_of number))
unfolding megaminx_moves
moves-answered word place number is = rw (← is) refl

-- ---- turns by their places

-- turn p of the 77
place_turn : List ℕ → ℕ → Turn
place_turn bits p =
    Wide (if p % 11 == 10 then 2 else p % 11 % 2) (slice_index bits (10 * (p / 11) + min (p % 11) 9) == 1)

rows-listed : (bits : List ℕ) → rows_turns bits ≡ listed (place_turn bits) 77
unfolding place_turn rows_turns row_turns
rows-listed bits = refl

turn-of-row : (bits : List ℕ) (row k : ℕ) → row < 7 → k < 11
    → slice_get (rows_turns bits) (11 * row + k)
    ≡ Some (Wide (if k == 10 then 2 else k % 2) (slice_index bits (10 * row + min k 9) == 1))
unfolding place_turn
turn-of-row bits row k low few =
    let across : (11 * row + k) / 11 ≡ row = omega arith in
    let along : (11 * row + k) % 11 ≡ k = omega arith in
    ap (λ turns. slice_get turns (11 * row + k)) (rows-listed bits)
    ∙ listed-at (place_turn bits) 77 (11 * row + k) (omega arith) ∙ rw (across, along) refl

pub megaminx-turns : (v : ℕ) → AreMegaminxTurns v (rows_turns (bits_of v))
megaminx-turns v = record {
  count = ap length (rows-listed (bits_of v)) ∙ length-listed (place_turn (bits_of v)) 77;
  turn = λ row k low few.
      let other = ne_eqb k 10 (λ e. omega arith) in
      let least : min k 9 ≡ k = omega arith in
      let bit = bit-of v (10 * row + k) (omega arith) in
      turn-of-row (bits_of v) row k low (omega arith) ∙ rw (other, least, bit) refl;
  last = λ row low.
      turn-of-row (bits_of v) row 10 low (lit< tt)
      ∙ ap (λ b. Some (Wide 2 (b == 1))) (bit-of v (10 * row + 9) (omega arith));
}

pub megaminx-count : (word : ℕ → ℕ) (place : ℕ) (turns : List Turn) → megaminx_moves word place ≡ Some turns
    → length turns ≡ 77
unfolding megaminx_moves
megaminx-count word place turns gives =
    mapped (λ number. rows_turns (bits_of number)) (answer (2 ^ 70) (attempt_value word place)) turns gives
    (λ v answered same. ap length (sym same) ∙ (megaminx-turns v).count)

-- the last turn of a row goes the way of the turn of D before it
pub last-turn : (v row : ℕ) (plus : Bool) → row < 7
    → slice_get (rows_turns (bits_of v)) (11 * row + 9) ≡ Some (Wide 1 plus)
    → slice_get (rows_turns (bits_of v)) (11 * row + 10) ≡ Some (Wide 2 plus)
last-turn v row plus low turned =
    let turns = megaminx-turns v in
    let before : Some (Wide 1 (v / 2 ^ (10 * row + 9) % 2 == 1)) ≡ Some (Wide 1 plus) = sym (turns.turn row 9 low (lit< tt)) ∙ turned in
    let way : (v / 2 ^ (10 * row + 9) % 2 == 1) ≡ plus = cc in
    turns.last row low ∙ ap (λ to. Some (Wide 2 to)) way

-- ---- fairness

pub fair-bits : AreFairBits
unfolding bits_of
fair-bits bits size each =
    let law = lists_one_to_one 70 2 (lit< tt) in
    let valid : (length bits ≡ 70) × All (λ bit. bit < 2) bits = (size, each) in
    let number : ℕ = mixed_number (replicate 70 2) bits in
    let all = answer-equally (2 ^ 70) number (law.below bits valid) in
    record {
      test = all.test;
      tells = λ v low. (
        λ h. let given = (all.tells v low).0 h in rw given (ap Some (law.state_again bits valid)),
        λ h.
            mapped bits_of (answer (2 ^ 70) v) bits h
            (λ r given same.
            let place = (cond_some (is_accepted (2 ^ 70) v) (v % 2 ^ 70) r given).1 in
            let small : r < 2 ^ 70 = omega arith in
            (all.tells v low).1 (given ∙ ap Some (sym (law.number_again r small) ∙ ap (mixed_number (replicate 70 2)) same))),
      );
      counted = all.counted;
    }
