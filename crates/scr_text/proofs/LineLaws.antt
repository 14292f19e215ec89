-- Lines and words, one after another.
use Rattle.std.proofs.Common.{◌≡◌, ℕ, ◌+◌, ◌-◌, ◌^◌, ◌<◌, ◌≤◌, Bool, true, false, cond, eqb, Some, None, List, [], ◌∷◌, ◌++◌, map, take, drop, length, get_or, refl, ap, ◌∙◌, arith, lit<}
use Rattle.std.specs.Prelude.{filter, position, nat_lt, All}
use Rattle.std.specs.Char.{is_ascii_digit}
use Rattle.std.specs.Fmt.{decimal}
use Rattle.std.specs.List.{join_with_byte, position_or_len, slice_split}
use Rattle.std.specs.Str.Lines.{strip_carriage_return}
use Rattle.std.proofs.lemmas.Bool.Decides.{nat_tests}
use Rattle.std.proofs.lemmas.Fmt.{digits_decimal, decimal_nonempty}
use Rattle.std.proofs.lemmas.List.Elements.{All-head, All-tail, All-nil, All-cons, All-append, All-weaker}
use Rattle.std.proofs.lemmas.List.Splits.{slice_split_at, slice_split_first, slice_split_none}
use Rattle.std.proofs.lemmas.List.Quantifiers.{position-Some}
use Rattle.std.proofs.lemmas.List.Sums.{AllPass-from_list_all, position_or_len_is, fails_before_first}
use borrow.Author.Tests.{ne_eqb}
use Rattle.scr_text.specs.Lines.{lines_of, line_words, is_blank, is_line_feed, has_bytes, text_of_lines}
use Rattle.scr_text.specs.Parts.{IsLine, IsWord}
use Rattle.scr_text.proofs.NumberLaws.{digits_model}

pub lines_of-text_of_lines : (lines : List (List ℕ)) → All IsLine lines
    → lines_of (text_of_lines lines) ≡ lines ++ [] ∷ []
unfolding lines_of
lines_of-text_of_lines [] all = refl
lines_of-text_of_lines (line ∷ lines) all =
    let it = All-head IsLine line lines all in
    ap (map strip_carriage_return) (slice_split_at is_line_feed line 10 (text_of_lines lines) it.plain refl)
    ∙ ap (λ x. x ∷ lines_of (text_of_lines lines)) it.end
    ∙ ap (λ x. line ∷ x) (lines_of-text_of_lines lines (All-tail IsLine line lines all))

kept : (word : List ℕ) (words : List (List ℕ)) → has_bytes word ≡ true
    → filter has_bytes (word ∷ words) ≡ word ∷ filter has_bytes words
kept word words some = rw some refl

pub line_words-join_with_byte : (words : List (List ℕ)) → All IsWord words
    → line_words (join_with_byte 32 words) ≡ words
unfolding line_words
line_words-join_with_byte [] all = refl
line_words-join_with_byte (word ∷ []) all =
    let it = All-head IsWord word [] all in
    ap (filter has_bytes) (slice_split_none is_blank word it.plain) ∙ kept word [] it.some
line_words-join_with_byte (word ∷ next ∷ words) all =
    let it = All-head IsWord word (next ∷ words) all in
    ap (filter has_bytes) (slice_split_at is_blank word 32 (join_with_byte 32 (next ∷ words)) it.plain refl)
    ∙ kept word (slice_split is_blank (join_with_byte 32 (next ∷ words))) it.some
    ∙ ap (λ x. word ∷ x) (line_words-join_with_byte (next ∷ words) (All-tail IsWord word (next ∷ words) all))

-- the first line, up to its line feed
pub lines_of-first : (text : List ℕ) (end : ℕ) → position is_line_feed text ≡ Some end →
    lines_of text ≡ strip_carriage_return (take end text) ∷ lines_of (drop (end + 1) text)
unfolding lines_of
lines_of-first text end found =
    let is = position-Some is_line_feed text end 0 found in
    let first : position_or_len is_line_feed text ≡ end = position_or_len_is is_line_feed text end 0 (omega (arith, is.0)) is.2 (λ h. is.1) in
    let cut = slice_split_first {X = ℕ} is_line_feed text 0 (omega (arith, first, is.0)) in
    ap (map strip_carriage_return) (rw first at cut)

found_at : (size place : ℕ) (b : Bool) → nat_lt place size ≡ b → cond b (Some place) None ≡ None → size ≤ place
found_at size place true is none = cc
found_at size place false is none = grind (arith, nat_tests)

-- a text without a line feed
pub lines_of-last : (text : List ℕ) → position is_line_feed text ≡ None
    → lines_of text ≡ strip_carriage_return text ∷ []
unfolding lines_of
lines_of-last text none =
    let past = found_at (length text) (position_or_len is_line_feed text) (nat_lt (position_or_len is_line_feed text) (length text)) refl none in
    ap (map strip_carriage_return)
    (slice_split_none is_line_feed text (λ k d h. fails_before_first is_line_feed text k d (omega (arith, past))))

-- bytes above the blanks make a word
is_blank-above : (b : ℕ) → 32 < b → is_blank b ≡ false
is_blank-above b high = grind (arith, nat_tests)

pub IsWord-plain : (text : List ℕ) → has_bytes text ≡ true → All (λ b. 32 < b) text → IsWord text
IsWord-plain text some plain = record {
  some = some;
  plain = All-weaker (λ b. 32 < b) (λ b. is_blank b ≡ false) is_blank-above text plain;
}

-- bytes above those that end lines make a line
is_line_feed-above : (b : ℕ) → 31 < b → is_line_feed b ≡ false
is_line_feed-above b high = grind (arith, nat_tests)

last_byte : (text : List ℕ) → All (λ b. 31 < b) text → eqb (get_or text (length text - 1) 0) 13 ≡ false
last_byte [] high = refl
last_byte (b ∷ text) high =
    let here : 31 < get_or (b ∷ text) (length (b ∷ text) - 1) 0 = high (length (b ∷ text) - 1) 0 (omega arith) in
    ne_eqb (get_or (b ∷ text) (length (b ∷ text) - 1) 0) 13 (λ e. omega arith)

pub IsLine-plain : (text : List ℕ) → All (λ b. 31 < b) text → IsLine text
IsLine-plain text high = record {
  plain = All-weaker (λ b. 31 < b) (λ b. is_line_feed b ≡ false) is_line_feed-above text high;
  end = rw (last_byte text high) refl;
}

-- words of such bytes, joined, are a line
pub join_with_byte-plain : (words : List (List ℕ)) → All (λ word. All (λ b. 32 < b) word) words
    → All (λ b. 31 < b) (join_with_byte 32 words)
join_with_byte-plain [] all = All-nil (λ b. 31 < b)
join_with_byte-plain (word ∷ []) all =
    All-weaker (λ b. 32 < b) (λ b. 31 < b) (λ b h. omega arith) word (All-head (λ w. All (λ b. 32 < b) w) word [] all)
join_with_byte-plain (word ∷ next ∷ words) all =
    All-append (λ b. 31 < b) word (32 ∷ join_with_byte 32 (next ∷ words))
    (All-weaker (λ b. 32 < b) (λ b. 31 < b) (λ b h. omega arith) word (All-head (λ w. All (λ b. 32 < b) w) word (next ∷ words) all))
    (All-cons (λ b. 31 < b) 32 (join_with_byte 32 (next ∷ words)) (lit< tt)
    (join_with_byte-plain (next ∷ words) (All-tail (λ w. All (λ b. 32 < b) w) word (next ∷ words) all)))

-- the digits of a number are such bytes
digit-above : (b : ℕ) → is_ascii_digit b ≡ true → 32 < b
digit-above b digit = grind (arith, nat_tests)

pub decimal-plain : (n : ℕ) → n < 2 ^ 64 → All (λ b. 32 < b) (decimal n)
decimal-plain n low = λ k d h. digit-above (get_or (decimal n) k d) (AllPass-from_list_all is_ascii_digit (decimal n) (digits_decimal digits_model n low) k d h)

has_bytes-some : (text : List ℕ) → 0 < length text → has_bytes text ≡ true
has_bytes-some [] some = absurd (omega arith)
has_bytes-some (b ∷ text) some = refl

pub IsWord-decimal : (n : ℕ) → n < 2 ^ 64 → IsWord (decimal n)
IsWord-decimal n low = IsWord-plain (decimal n) (has_bytes-some (decimal n) (decimal_nonempty n low)) (decimal-plain n low)
