-- A number that is entered has its bits, and so have those that had theirs before.
use Rattle.std.proofs.Math.ListN.{set}
use Rattle.std.proofs.Common.{◌≡◌, ℕ, ◌*◌, ◌/◌, ◌%◌, ◌^◌, ◌<◌, true, List, length, get_or, get_or-set_other, get_or-set_same, ap, ◌∙◌, max, w64, arith}
use Rattle.std.specs.Prelude.{◌==◌}
use Rattle.std.specs.Int.{bit_at}
use Rattle.std.specs.Int.Bits.{bit_and, bit_or}
use Rattle.std.proofs.lemmas.Bool.{cases_eq}
use Rattle.std.proofs.lemmas.Nat.Bits.{bit_at-lt, bit_at_or, bit_at_set_same, shr_and_one}
use Rattle.scr_search.specs.Near.{HasBits, word_of, first_bit, second_bit}

most_one : (y : ℕ) → y < 2 → max 1 y ≡ 1
most_one y h0 = grind arith

-- bits stay set
stays : (word mask i : ℕ) → bit_at word i ≡ 1 → bit_at (bit_or word mask) i ≡ 1
stays word mask i h = bit_at_or word mask i ∙ ap (λ x. max x (bit_at mask i)) h ∙ most_one (bit_at mask i) (bit_at-lt mask i)

-- both bits of a seat, set in a word
abbrev pub both_set : ℕ → ℕ → ℕ → ℕ
both_set word first second = bit_or (bit_or word (1 * 2 ^ first % 2 ^ 64)) (1 * 2 ^ second % 2 ^ 64)

-- a number whose word is written
pub HasBits-entered : (words : List ℕ) (number word at first second : ℕ) → at ≡ word_of number
    → first ≡ first_bit number → second ≡ second_bit number → first < 64 → second < 64 → at < length words
    → HasBits (set words at (both_set word first second)) number
HasBits-entered words number word at first second e f s few_first few_second inside =
    grind (
      arith,
      get_or-set_same words at (both_set word first second) 0 inside,
      stays (bit_or word (1 * 2 ^ first % 2 ^ 64)) (1 * 2 ^ second % 2 ^ 64) first (bit_at_set_same w64 word first few_first),
      bit_at_set_same w64 (bit_or word (1 * 2 ^ first % 2 ^ 64)) second few_second,
    )

-- a bit that was set is set after a word is written
still : (words : List ℕ) (seat i word at first second : ℕ) → word ≡ get_or words at 0 → at < length words
    → bit_at (get_or words seat 0) i ≡ 1 → bit_at (get_or (set words at (both_set word first second)) seat 0) i ≡ 1
still words seat i word at first second is inside was =
    grind (arith, cases_eq, set, get_or-set_same, stays, get_or-set_other)

-- and any other
pub HasBits-kept : (words : List ℕ) (other word at first second : ℕ) → word ≡ get_or words at 0 → at < length words
    → HasBits words other → HasBits (set words at (both_set word first second)) other
HasBits-kept words other word at first second is inside h = record {
  first = still words (word_of other) (first_bit other) word at first second is inside h.first;
  second = still words (word_of other) (second_bit other) word at first second is inside h.second;
}

-- what a look at both bits answers
pub both_bits : (words : List ℕ) (number word at first second : ℕ) → word ≡ get_or words at 0 → at ≡ word_of number
    → first ≡ first_bit number → second ≡ second_bit number → HasBits words number
    → (bit_and (bit_and (word / 2 ^ first) 1) (bit_and (word / 2 ^ second) 1) == 1) ≡ true
both_bits words number word at first second is e f s h = grind (arith, shr_and_one)
