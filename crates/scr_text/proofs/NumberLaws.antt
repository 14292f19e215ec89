-- Numbers and their texts.
use Rattle.std.proofs.Common.{◌≡◌, ℕ, zero, suc, ◌+◌, ◌-◌, ◌/◌, ◌%◌, ◌^◌, ◌<◌, ◌≤◌, Bool, true, false, cond, eqb, List, [], ◌∷◌, ◌++◌, length, get_or, Option, Some, None, Result, Ok, Err, refl, sym, ap, ◌∙◌, arith, rules, inl, inr, lit<, length-append}
use Rattle.std.specs.Prelude.{◌&&◌, nat_le, option_and_then}
use Rattle.std.specs.Result.{OkIff, result_ok}
use Rattle.std.specs.Str.{IsUtf8}
use Rattle.std.specs.Char.{is_ascii_digit}
use Rattle.std.specs.Fmt.{decimal}
use Rattle.std.specs.List.{list_all}
use Rattle.std.specs.Str.Parse.{digits_value, ParsesUnsigned}
use Rattle.std.proofs.lemmas.Bool.{cases_lt}
use Rattle.std.proofs.lemmas.Bool.Decides.{nat_tests}
use Rattle.std.proofs.lemmas.Fmt.{digits_decimal, digits_value-decimal, decimal-digits_value, first_decimal, decimal_nonempty, decimal_digit, decimal_step, length-decimal-le}
use Rattle.std.proofs.lemmas.List.Sums.{AllPass-from_list_all}
use Rattle.std.proofs.lemmas.Str.{IsUtf8-from_ascii}
use Rattle.std.proofs.lemmas.Str.Ascii.{IsAscii-from_all}
use Rattle.std.proofs.lemmas.Str.Parse.{IsNumeralModel, numerals_by_value, parse_digits}
use Rattle.scr_text.specs.Numbers.{has_plain_start, is_number, number_of_text, in_range, number_between}

pub digits_model : IsNumeralModel (λ ds. list_all is_ascii_digit ds ≡ true) (digits_value 10)
digits_model = numerals_by_value _ (search rules)

-- a plain start, in numbers
pub plain_start : (text : List ℕ) → 0 < length text → (get_or text 0 0 ≡ 48 → length text ≡ 1)
    → has_plain_start text ≡ true
plain_start [] some lone = absurd (omega arith)
plain_start (digit ∷ []) some lone = refl
plain_start (first ∷ second ∷ rest) some lone = at (eqb first 48) refl
  where
    at : (b : Bool) → eqb first 48 ≡ b → has_plain_start (first ∷ second ∷ rest) ≡ true
    at true is = let first_is : first ≡ 48 = grind (arith, nat_tests) in let two = lone first_is in absurd (omega arith)
    at false other = rw other refl

pub plain_start-is : (text : List ℕ) → has_plain_start text ≡ true
    → (0 < length text) × (get_or text 0 0 ≡ 48 → length text ≡ 1)
plain_start-is [] plain = cc
plain_start-is (digit ∷ []) plain = (omega arith, λ h. refl)
plain_start-is (first ∷ second ∷ rest) plain = (omega arith, λ h. grind (arith, nat_tests))

both : (a b : Bool) → a ≡ true → b ≡ true → (a && b) ≡ true
both a b first second = rw (first, second) refl

parts : (a b : Bool) → (a && b) ≡ true → (a ≡ true) × (b ≡ true)
parts true b is = (refl, is)
parts false b is = cc

-- the text of a number begins with no 0, unless it is `0`
decimal-plain : (n : ℕ) → n < 2 ^ 64 → get_or (decimal n) 0 0 ≡ 48 → length (decimal n) ≡ 1
decimal-plain zero low is = ap length (decimal_digit 0 (omega arith))
decimal-plain (suc n) low is = let some = first_decimal (suc n) (omega arith) low in absurd (omega arith)

pub decimal-is_number : (n : ℕ) → n < 2 ^ 64 → is_number (decimal n) ≡ true
decimal-is_number n low =
    both (list_all is_ascii_digit (decimal n)) (has_plain_start (decimal n)) (digits_decimal digits_model n low)
    (plain_start (decimal n) (decimal_nonempty n low) (decimal-plain n low))

pub number_of_text-decimal : (n : ℕ) → n < 2 ^ 64 → number_of_text (decimal n) ≡ Some n
unfolding number_of_text
number_of_text-decimal n low = rw (decimal-is_number n low) (ap Some (digits_value-decimal digits_model n low))

pub number_of_text-is : (text : List ℕ) (n : ℕ) → n < 2 ^ 64 → number_of_text text ≡ Some n → text ≡ decimal n
unfolding number_of_text
number_of_text-is text n low found = at (is_number text) refl found
  where
    at : (b : Bool) → is_number text ≡ b → cond b (Some (digits_value 10 text)) None ≡ Some n → text ≡ decimal n
    at false none it = cc
    at true some it =
        let tests = parts (list_all is_ascii_digit text) (has_plain_start text) some in
        let start = plain_start-is text tests.1 in
        let value : digits_value 10 text ≡ n = cc in
        sym (decimal-digits_value digits_model text tests.0 start.0 start.1 (omega (arith, value))) ∙ ap decimal value

-- a number in a range, and one outside
pub in_range-some : (least greatest n : ℕ) → least ≤ n → n ≤ greatest → in_range least greatest n ≡ Some n
in_range-some least greatest n low high =
    let first : nat_le least n ≡ true = grind (arith, nat_tests) in
    let second : nat_le n greatest ≡ true = grind (arith, nat_tests) in
    rw (first, second) refl

pub in_range-above : (least greatest n : ℕ) → greatest < n → in_range least greatest n ≡ None
in_range-above least greatest n above =
    let second : nat_le n greatest ≡ false = grind (arith, nat_tests) in
    at (nat_le least n) (nat_le n greatest) second
  where
    at : (a b : Bool) → b ≡ false → cond (a && b) (Some n) None ≡ None
    at true b is = rw is refl
    at false b is = refl

-- a number in a range, found in a greater one
narrowed : (least greatest top : ℕ) → greatest ≤ top → (o : Option ℕ) →
    option_and_then (in_range least greatest) o ≡ option_and_then (in_range least greatest) (option_and_then (in_range 0 top) o)
narrowed least greatest top within None = refl
narrowed least greatest top within (Some n) =
    elim (cases_lt top n) [
      | inl above ↦ in_range-above least greatest n (omega arith) ∙ ap (option_and_then (in_range least greatest)) (sym (in_range-above 0 top n above))
      | inr inside ↦ ap (option_and_then (in_range least greatest)) (sym (in_range-some 0 top n (omega arith) (omega arith)))
    ]

pub number_between-narrowed : (least greatest top : ℕ) (text : List ℕ) (o : Option ℕ) → greatest ≤ top → o ≡ number_between 0 top text →
    number_between least greatest text ≡ option_and_then (in_range least greatest) o
unfolding number_between
number_between-narrowed least greatest top text o within is =
    narrowed least greatest top within (number_of_text text) ∙ ap (option_and_then (in_range least greatest)) (sym is)

-- a text by whether it is a number
pub number_between-by : (least greatest : ℕ) (text : List ℕ) (b : Bool) → b ≡ is_number text →
    number_between least greatest text ≡ option_and_then (in_range least greatest) (cond b (Some (digits_value 10 text)) None)
unfolding number_between number_of_text
number_between-by least greatest text b is = rw (← is) refl

-- what a number's digits are parsed as
ascii_digit-low : (b : ℕ) → is_ascii_digit b ≡ true → b < 128
ascii_digit-low b digit = grind (arith, nat_tests)

pub IsUtf8-number : (text : List ℕ) → is_number text ≡ true → IsUtf8 text
IsUtf8-number text some =
    let digits = (parts (list_all is_ascii_digit text) (has_plain_start text) some).0 in
    IsUtf8-from_ascii text
    (IsAscii-from_all text (λ k d h. ascii_digit-low (get_or text k d) (AllPass-from_list_all is_ascii_digit text digits k d h)))

pub parsed-in_range : {E : Type 0} (text : List ℕ) (r : Result ℕ E) → ParsesUnsigned 32 10 text r → is_number text ≡ true →
    result_ok r ≡ in_range 0 (2 ^ 32 - 1) (digits_value 10 text)
parsed-in_range text r parses some =
    let tests = parts (list_all is_ascii_digit text) (has_plain_start text) some in
    at r (parse_digits digits_model 32 text r parses tests.0) (plain_start-is text tests.1).0
  where
    at : {E : Type 0} (r : Result ℕ E) → OkIff r ((0 < length text) × (digits_value 10 text < 2 ^ 32)) (digits_value 10 text) → 0 < length text →
        result_ok r ≡ in_range 0 (2 ^ 32 - 1) (digits_value 10 text)
    at (Ok n) found bytes = ap Some found.1 ∙ sym (in_range-some 0 (2 ^ 32 - 1) (digits_value 10 text) (omega arith) (omega (arith, found.0.1)))
    at (Err e) none bytes =
        elim (cases_lt (digits_value 10 text) (2 ^ 32)) [
          | inl low ↦ absurd (none (bytes, low))
          | inr high ↦ sym (in_range-above 0 (2 ^ 32 - 1) (digits_value 10 text) (omega arith))
        ]

-- the text of a number below 2 ^ 32, digit by digit
pub length-decimal : (n : ℕ) → n < 2 ^ 32 → length (decimal n) ≤ 10
length-decimal n small = length-decimal-le 10 n (lit< tt) (omega (arith, small)) (omega (arith, small))

pub decimal-more : (n : ℕ) → 10 ≤ n → n < 2 ^ 32 → decimal n ≡ decimal (n / 10) ++ (48 + n % 10) ∷ []
decimal-more n large small = decimal_step n large (omega (arith, small))

pub length-decimal-more : (n : ℕ) → 10 ≤ n → n < 2 ^ 32 → length (decimal n) ≡ length (decimal (n / 10)) + 1
length-decimal-more n large small = ap length (decimal-more n large small) ∙ length-append _ _
