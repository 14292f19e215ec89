-- What `hex` decodes is what the digits spell.
use Rattle.std.proofs.Common.{◌≡◌, ◌==◌, ℕ, zero, suc, ◌+◌, ◌*◌, ◌%◌, ◌<◌, true, false, List, [], ◌∷◌, length, take, slice_index, Option, Some, None, unwrap_or, is_some, Ok, Err, refl, sym, ap, ◌∙◌, inl, inr, arith}
use Rattle.std.specs.List.{AllPass, prefix_len}
use Rattle.std.proofs.lemmas.List.Elements.{All-head, All-tail}
use Rattle.hex.specs.Hex.{decode_of, decode_pairs, decode_sized, digit_or_error, hex_digit_value, is_hex_digit, pair_value}
use Rattle.hex.specs.declared.error.FromHexError.{FromHexError}
use Rattle.hex.specs.declared.error.FromHexError.TheVariants.{InvalidHexCharacter}
use Rattle.hex.proofs.HexLemmas.{decode_of-err, decode_of-even, decode_of-ok, decode_of-same, decode_sized-twice}
use Rattle.hex.proofs.Pairs.{cons_byte, decode_pairs-ok_pair}
use Rattle.scr_words.specs.Seed.{digit, seed_of, spelled}
use Rattle.scr_words.specs.declared.seed.SeedFault.TheVariants.{Digit}

-- the fact of `AllPass is_hex_digit`
abbrev IsDigit : ℕ → Type 0
IsDigit c = is_hex_digit c ≡ true

digit_read : (c i : ℕ) (o : Option ℕ) → is_some o ≡ true → digit_or_error c i o ≡ Ok (unwrap_or o 0)
digit_read c i (Some v) h = refl
digit_read c i None h = cc h

-- pairs of digits decode to what they spell
spelled_pairs : (i : ℕ) (s : List ℕ) → length s % 2 ≡ 0 → AllPass is_hex_digit s → decode_pairs i s ≡ Ok (spelled s)
unfolding decode_pairs spelled
spelled_pairs i [] even h = refl
spelled_pairs i (a ∷ []) even h = absurd (omega arith)
spelled_pairs i (a ∷ b ∷ rest) even h =
    let tail = All-tail IsDigit a (b ∷ rest) h in
    let da = digit_read a i (hex_digit_value a) (All-head IsDigit a (b ∷ rest) h) in
    let db = digit_read b (i + 1) (hex_digit_value b) (All-head IsDigit b rest tail) in
    let ih = spelled_pairs (i + 2) rest (omega arith) (All-tail IsDigit b rest tail) in
    let byte : digit a * 16 + digit b ≡ 16 * digit a + digit b = omega arith in
    let pair : pair_value a b i ≡ Ok (digit a * 16 + digit b) = rw (da, db) refl in
    decode_pairs-ok_pair i a b _ rest pair ∙ ap (cons_byte (digit a * 16 + digit b)) ih
    ∙ ap (λ (v : ℕ). Ok (v ∷ spelled rest)) byte

-- how many digits a text begins with
abbrev digits_before : List ℕ → ℕ
digits_before = prefix_len is_hex_digit

-- a text of digits has as many as its length
all_digits : (s : List ℕ) → AllPass is_hex_digit s → digits_before s ≡ length s
all_digits [] h = refl
all_digits (c ∷ rest) h =
    let here = All-head IsDigit c rest h in
    let later = all_digits rest (All-tail IsDigit c rest h) in
    rw (here, later) (omega arith)

-- digits up to a byte that is none
digits_up_to : (k : ℕ) (s : List ℕ) → k < length s → is_hex_digit (slice_index s k) ≡ false
    → AllPass is_hex_digit (take k s) → digits_before s ≡ k
digits_up_to k [] below bad h = absurd (omega arith)
digits_up_to zero (c ∷ rest) below bad h = rw bad refl
digits_up_to (suc k) (c ∷ rest) below bad h =
    let here = All-head IsDigit c (take k rest) h in
    let later = digits_up_to k rest (omega arith) bad (All-tail IsDigit c (take k rest) h) in
    rw (here, later) (omega arith)

-- 64 digits that decode
decoded_is_spelled : (s bytes : List ℕ) → length s ≡ 64 → decode_sized s 32 ≡ Ok bytes
    → (digits_before s ≡ 64) × (bytes ≡ spelled s)
decoded_is_spelled s bytes len h =
    let whole : decode_of s ≡ Ok bytes = sym (decode_sized-twice s 32 len) ∙ h in
    let ok = decode_of-ok s bytes whole in
    let even : length s % 2 ≡ 0 = omega arith in
    let same = decode_of-even s even ∙ spelled_pairs 0 s even ok.1 in
    (all_digits s ok.1 ∙ len, decode_of-same s bytes (spelled s) whole same)

-- 64 bytes that don't decode: the error names the first byte that is no digit
refused_at_first : (s : List ℕ) (e : FromHexError) → length s ≡ 64 → decode_sized s 32 ≡ Err e
    → (digits_before s < 64) × (e ≡ InvalidHexCharacter (slice_index s (digits_before s)) (digits_before s))
refused_at_first s e len h =
    elim (decode_of-err s e (sym (decode_sized-twice s 32 len) ∙ h)) [
      | inl odd ↦ absurd (let is_odd = odd.0 in omega arith)
      | inr r ↦
          let place = digits_up_to r.0 s r.2 r.3 r.4 in
          let bound : r.0 < length s = r.2 in
          let named : 0 + r.0 ≡ r.0 = omega arith in
          (omega arith, r.1 ∙ rw (named, place) refl)
    ]

-- the place that an error names
abbrev place_of : FromHexError → ℕ
place_of (InvalidHexCharacter c i) = i
place_of _ = 0

-- the seed of 64 digits
pub seed_of-digits : (s bytes : List ℕ) → length s ≡ 64 → decode_sized s 32 ≡ Ok bytes
    → Ok (record { 0 = bytes }) ≡ seed_of s
seed_of-digits s bytes len h =
    let is = decoded_is_spelled s bytes len h in
    let all : digits_before s ≡ 64 = is.0 in
    rw (len, all, is.1) refl

-- the fault of 64 bytes that aren't all digits, and that its place is below 64
pub seed_of-bad_digit : (s : List ℕ) (e : FromHexError) (c i : ℕ) → length s ≡ 64 → decode_sized s 32 ≡ Err e
    → e ≡ InvalidHexCharacter c i → (i < 64) × (Err (Digit i) ≡ seed_of s)
seed_of-bad_digit s e c i len h named =
    let is = refused_at_first s e len h in
    let place : i ≡ digits_before s = ap place_of (sym named ∙ is.1) in
    let below : digits_before s < 64 = is.0 in
    let other : (digits_before s == 64) ≡ false = grind arith in
    (omega arith, rw (len, other, place) refl)

-- no other error comes of 64 bytes
pub only_bad_digits : (s : List ℕ) (e : FromHexError) → length s ≡ 64 → decode_sized s 32 ≡ Err e
    → ((c i : ℕ) → e ≡ InvalidHexCharacter c i → ⊥) → ⊥
only_bad_digits s e len h none = none _ _ (refused_at_first s e len h).1
