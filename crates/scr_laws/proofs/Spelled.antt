-- Three words spell each number below 2 ^ 96, each once.
use Rattle.std.proofs.Common.{◌≡◌, ℕ, ◌^◌, ◌<◌, List, [], ◌∷◌, length, replicate, slice_index, ap, ◌∙◌, arith, lit<}
use Rattle.std.specs.Prelude.{All}
use Rattle.scr_combinatorics.specs.Digits.{mixed_digits, mixed_number}
use Rattle.scr_combinatorics.specs.Numbering.{IsOneToOne}
use Rattle.scr_combinatorics.proofs.Digits.{lists_one_to_one}
use Rattle.scr_draw.specs.Attempt.{attempt_value}

-- the number that three words spell is that of three digits in base 2 ^ 32
spelled : (words : List ℕ) → length words ≡ 3
    → attempt_value (slice_index words) 0 ≡ mixed_number (replicate 3 (2 ^ 32)) words
spelled [] e = absurd (omega arith)
spelled (a ∷ []) e = absurd (omega arith)
spelled (a ∷ b ∷ []) e = absurd (omega arith)
spelled (a ∷ b ∷ c ∷ []) e = omega arith
spelled (a ∷ b ∷ c ∷ d ∷ words) e = absurd (omega arith)

pub words_one_to_one : IsOneToOne (2 ^ 96) (mixed_digits (replicate 3 (2 ^ 32))) (λ words. attempt_value (slice_index words) 0) (λ words. (length words ≡ 3) × All (λ word. word < 2 ^ 32) words)
words_one_to_one =
    let own = lists_one_to_one 3 (2 ^ 32) (lit< tt) in
    record {
      valid = own.valid;
      below = λ words h. omega (arith, own.below words h, spelled words h.0);
      number_again = λ i lt. spelled (mixed_digits (replicate 3 (2 ^ 32)) i) (own.valid i lt).0 ∙ own.number_again i lt;
      state_again = λ words h. ap (mixed_digits (replicate 3 (2 ^ 32))) (spelled words h.0) ∙ own.state_again words h;
    }
