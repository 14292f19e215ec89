-- States that are numbered by digits, of which the last tells one part and those before it the other. No puzzle stands
-- here.
use Rattle.std.proofs.Common.{◌≡◌, ℕ, ◌+◌, ◌*◌, ◌/◌, ◌%◌, ◌<◌, List, [], ◌∷◌, ◌++◌, refl, sym, ap, ◌∙◌, arith}
use Rattle.std.proofs.lemmas.Nat.{div-mul-add}
use Rattle.std.proofs.Math.Nat.{mul-add, mul_assoc, mod-add-div, add-mul-mod_self_left, add-mul-div_left, mod-eq_of_lt}
use Rattle.std.proofs.Math.Nat.{div-div-eq-div-mul, div-one}
use Rattle.scr_combinatorics.specs.Digits.{product, AreDigits, mixed_number, mixed_digits}
use Rattle.scr_combinatorics.specs.Numbered.{Numbered, numbered_by_digits}
use Rattle.scr_combinatorics.proofs.Digits.{factor_pos, mixed_number-lt}
use Rattle.scr_small.proofs.PartLaws.{AreParts}

-- what is left of a number behind its first digits
abbrev pub behind_digits : List ℕ → ℕ → ℕ
behind_digits [] i = i
behind_digits (b ∷ bs) i = behind_digits bs (i / b)

behind-div : (bases : List ℕ) (i : ℕ) → behind_digits bases i ≡ i / product bases
behind-div [] i = sym (div-one i)
behind-div (b ∷ bs) i = behind-div bs (i / b) ∙ div-div-eq-div-mul i b (product bs)

-- first digits are those of the number modulo the product of their bases
digits_before : (bases : List ℕ) (r q : ℕ) → 0 < product bases
    → mixed_digits bases (r + product bases * q) ≡ mixed_digits bases r
digits_before [] r q some = refl
digits_before (b ∷ bs) r q some =
    let both = factor_pos b (product bs) some in
    let more : r + b * product bs * q ≡ r + b * (product bs * q) = ap (λ n. r + n) (mul_assoc b (product bs) q) in
    ap (λ n. n % b ∷ mixed_digits bs (n / b)) more
    ∙ ap (λ n. n ∷ mixed_digits bs ((r + b * (product bs * q)) / b)) (add-mul-mod_self_left r b (product bs * q))
    ∙ ap (λ n. r % b ∷ mixed_digits bs n) (add-mul-div_left r (product bs * q) both.0)
    ∙ ap (λ ds. r % b ∷ ds) (digits_before bs (r / b) q both.1)

digits-mod : (bases : List ℕ) (i : ℕ) → 0 < product bases
    → mixed_digits bases i ≡ mixed_digits bases (i % product bases)
digits-mod bases i some =
    ap (mixed_digits bases) (sym (mod-add-div i (product bases))) ∙ digits_before bases (i % product bases) (i / product bases) some

-- the number of digits and one more
number-behind : (bases ds : List ℕ) (top d : ℕ) → AreDigits bases ds
    → mixed_number (bases ++ top ∷ []) (ds ++ d ∷ []) ≡ mixed_number bases ds + product bases * d
number-behind [] [] top d h = omega arith
number-behind [] (e ∷ ds) top d h = absurd h
number-behind (b ∷ bs) [] top d h = absurd h
number-behind (b ∷ bs) (e ∷ ds) top d h =
    let m = mixed_number bs ds in
    ap (λ n. e + b * n) (number-behind bs ds top d h.1)
    ∙ omega (arith, mul-add b m (product bs * d), mul_assoc b (product bs) d)

-- A state's parts, what each digit is of a part, and which part digits give.
module _ {S L H : Type 0} (lows : List ℕ) (top : ℕ) (state_of : List ℕ → S) (digits_of : S → List ℕ) (IsValid : S → Type 0)
    (low_of : S → L) (high_of : S → H) (low_digits : L → List ℕ) (high_digit : H → ℕ) (low_at : List ℕ → L) (high_at : ℕ → H) where
  abbrev numbered : Numbered S
  numbered = numbered_by_digits (lows ++ top ∷ []) state_of digits_of IsValid

  pub AreParts-digits : 0 < product lows
      → ((i : ℕ) → low_of (numbered.state_at i) ≡ low_at (mixed_digits lows i))
      → ((i : ℕ) → high_of (numbered.state_at i) ≡ high_at (behind_digits lows i % top))
      → ((s : S) → digits_of s ≡ low_digits (low_of s) ++ high_digit (high_of s) ∷ [])
      → ((s : S) → IsValid s → AreDigits lows (low_digits (low_of s)))
      → AreParts numbered (product lows) low_of high_of
  AreParts-digits some seen_low seen_high told below =
      let before = λ (s : S). mixed_number lows (low_digits (low_of s)) in
      let number = λ (s : S) (v : IsValid s). ap (mixed_number (lows ++ top ∷ [])) (told s)
      ∙ number-behind lows (low_digits (low_of s)) top (high_digit (high_of s)) (below s v) in
      let lt = λ (s : S) (v : IsValid s). mixed_number-lt lows (low_digits (low_of s)) (below s v) in
      let low = λ (s : S) (v : IsValid s). ap (λ k. k % product lows) (number s v)
      ∙ add-mul-mod_self_left (before s) (product lows) (high_digit (high_of s)) ∙ mod-eq_of_lt (lt s v) in
      let high = λ (s : S) (v : IsValid s). ap (λ k. k / product lows) (number s v)
      ∙ ap (λ k. k / product lows) (omega arith) ∙ div-mul-add (high_digit (high_of s)) (product lows) (before s) (lt s v) in
      record {
        low_told = λ i j e.
            seen_low i ∙ ap low_at (digits-mod lows i some ∙ ap (mixed_digits lows) e ∙ sym (digits-mod lows j some)) ∙ sym (seen_low j);
        high_told = λ i j e.
            seen_high i ∙ ap (λ k. high_at (k % top)) (behind-div lows i ∙ e ∙ sym (behind-div lows j)) ∙ sym (seen_high j);
        low_number = λ s r v w e. low s v ∙ ap (λ q. mixed_number lows (low_digits q)) e ∙ sym (low r w);
        high_number = λ s r v w e. high s v ∙ ap high_digit e ∙ sym (high r w);
      }
