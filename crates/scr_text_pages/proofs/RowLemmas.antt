-- Rows of words.
use Rattle.std.proofs.Common.{◌≡◌, ℕ, zero, suc, ◌+◌, ◌<◌, ◌≤◌, ◌||◌, ◌&&◌, Bool, true, false, IsTrue, if◌then◌else◌, List, [], ◌∷◌, ◌++◌, length, refl, sym, ap, ◌∙◌, subst, arith, append_assoc, append-nil, replicate, drop, filter, get_or, map, leb-true, ltb-true, Result, OnOk}
use Rattle.std.proofs.lemmas.Bool.{or_right}
use Rattle.std.proofs.lemmas.Result.{on_ok_weaker}
use Rattle.std.specs.Prelude.{All, nat_le, nat_lt, ◌≢◌}
use Rattle.std.specs.List.{slice_split, list_all}
use Rattle.std.proofs.lemmas.Bool.Decides.{nat_tests}
use Rattle.std.proofs.lemmas.List.Elements.{All-nil, All-cons, All-append, All-tail, filter-append}
use Rattle.std.proofs.lemmas.List.Sums.{AllPass-from_list_all}
use Rattle.scr_notation.specs.declared.event.Event.{Event}
use Rattle.scr_notation.specs.declared.turn.Turn.{Turn}
use Rattle.scr_notation.specs.Turns.{permits}
use Rattle.scr_notation.specs.Spelling.{spelling, text_of}
use Rattle.scr_notation.proofs.Below.{and_first, and_second}
use Rattle.scr_text.specs.Lines.{line_words, has_bytes, is_blank, text_of_lines}
use Rattle.scr_text.specs.Parts.{IsWord}
use Rattle.scr_text.proofs.LineLaws.{line_words-join_with_byte, IsWord-plain}
use Rattle.scr_text.proofs.WrittenLines.{text_of_lines-append}
use Rattle.scr_layout.specs.Shown.{IsPlainWord}
use Rattle.scr_text_pages.specs.Reading.{begins, is_row, is_cut_line, row_words, read_lines}
use Rattle.scr_text_pages.specs.Adding.{IsPlainLine, AddsLines, AddsRow, GoesOn, words_read, is_label}
use Rattle.scr_text_pages.proofs.ReadLemmas.{read-rows, read-row}
use Rattle.scr_text_pages.proofs.SplitLemmas.{split-between}
use Rattle.scr_text_pages.proofs.PlainLemmas.{plain-known, plain-append}

-- ---- words of a line

words-none : line_words [] ≡ []
unfolding line_words
words-none = refl

words-between : (xs ys : List ℕ) → line_words (xs ++ 32 ∷ ys) ≡ line_words xs ++ line_words ys
unfolding line_words
words-between xs ys =
    ap (filter has_bytes) (split-between is_blank 32 refl xs ys) ∙ filter-append has_bytes (slice_split is_blank xs) (slice_split is_blank ys)

words-one : (word : List ℕ) → IsWord word → line_words word ≡ word ∷ []
words-one word is = line_words-join_with_byte (word ∷ []) (All-cons IsWord word [] is (All-nil IsWord))

words-spaced : (n : ℕ) (word : List ℕ) → IsWord word → line_words (replicate n 32 ++ word) ≡ word ∷ []
words-spaced zero word is = words-one word is
words-spaced (suc n) word is =
    words-between [] (replicate n 32 ++ word) ∙ ap (λ w. w ++ line_words (replicate n 32 ++ word)) words-none ∙ words-spaced n word is

-- a word behind spaces in a line
words-behind : (line : List ℕ) (n : ℕ) (word : List ℕ) → IsWord word → 1 ≤ n
    → line_words (line ++ (replicate n 32 ++ word)) ≡ line_words line ++ word ∷ []
words-behind line zero word is some = absurd (omega arith)
words-behind line (suc n) word is some =
    words-between line (replicate n 32 ++ word) ∙ ap (λ w. line_words line ++ w) (words-spaced n word is)

blank_row : row_words (32 ∷ 32 ∷ 32 ∷ []) ≡ []
unfolding line_words
blank_row = refl

-- ---- rows

row-goes_on : (row more : List ℕ) → is_row row ≡ true → is_row (row ++ more) ≡ true
row-goes_on [] more is = cc
row-goes_on (byte ∷ row) more is = is

row-words : (row : List ℕ) → is_row row ≡ true → row_words row ≡ line_words row
row-words row is = ap (λ b. if b then line_words row else if begins 124 row then drop 5 row ∷ [] else []) is

-- a line that begins with a space or an E doesn't begin with a hyphen
row-no_cut : (row : List ℕ) → is_row row ≡ true → is_cut_line row ≡ false
row-no_cut [] is = refl
row-no_cut (byte ∷ row) is = grind (arith, nat_tests)

is_word : (word : List ℕ) → IsPlainWord word → IsWord word
is_word word is = IsWord-plain word (some word is.some) (λ k d below. let above = is.plain k d below in omega (arith, above))
  where
    some : (text : List ℕ) → 1 ≤ length text → has_bytes text ≡ true
    some [] few = absurd (omega arith)
    some (byte ∷ text) few = refl

plain-word : (word : List ℕ) → IsPlainWord word → IsPlainLine word
plain-word word is = λ k d below. let above = is.plain k d below in omega (arith, above)

plain-spaces : (n : ℕ) → IsPlainLine (replicate n 32)
plain-spaces zero = All-nil (λ byte. 31 < byte)
plain-spaces (suc n) = All-cons (λ byte. 31 < byte) 32 (replicate n 32) (omega arith) (plain-spaces n)

-- one word more
pub row-word : (word old new : List ℕ) (n : ℕ) → IsPlainWord word → 1 ≤ n → new ≡ (old ++ replicate n 32) ++ word → GoesOn (word ∷ []) old new
row-word word old new n is some new_is = λ words before row.
    let piece = replicate n 32 ++ word in
    record {
      lines = row.lines;
      row = row.row ++ piece;
      text =
          new_is ∙ append_assoc old (replicate n 32) word ∙ ap (λ t. t ++ piece) row.text
          ∙ append_assoc (before ++ text_of_lines row.lines) row.row piece;
      plain = row.plain;
      plain_row = plain-append row.row piece row.plain_row (plain-append (replicate n 32) word (plain-spaces n) (plain-word word is));
      is_row = row-goes_on row.row piece row.is_row;
      read = row.read;
      reads = row.reads;
      words_are =
          ap (λ w. row.read ++ w) (row-words (row.row ++ piece) (row-goes_on row.row piece row.is_row)
          ∙ words-behind row.row n word (is_word word is) some ∙ ap (λ w. w ++ word ∷ []) (sym (row-words row.row row.is_row)))
          ∙ sym (append_assoc row.read (row_words row.row) (word ∷ [])) ∙ ap (λ w. w ++ word ∷ []) row.words_are;
    }

-- the row is ended
pub row-ended : (words : List (List ℕ)) (before old new : List ℕ) → AddsRow words before old → new ≡ old ++ 10 ∷ [] → AddsLines (words_read words) before new
row-ended words before old new row new_is = record {
  lines = row.lines ++ row.row ∷ [];
  text =
      new_is ∙ ap (λ t. t ++ 10 ∷ []) row.text ∙ append_assoc (before ++ text_of_lines row.lines) row.row (10 ∷ [])
      ∙ append_assoc before (text_of_lines row.lines) (row.row ++ 10 ∷ [])
      ∙ ap (λ t. before ++ t) (sym (text_of_lines-append row.lines (row.row ∷ [])));
  plain = All-append IsPlainLine row.lines (row.row ∷ []) row.plain (All-cons IsPlainLine row.row [] row.plain_row (All-nil IsPlainLine));
  reads =
      read-rows row.lines (row.row ∷ []) (ap (λ r. r.slots) row.reads)
      ∙ ap (λ r. record { before = r.before ++ (read_lines (row.row ∷ [])).before; slots = (read_lines (row.row ∷ [])).slots }) row.reads
      ∙ ap (λ r. record { before = row.read ++ r.before; slots = r.slots }) (read-row row.row [] (row-no_cut row.row row.is_row))
      ∙ ap words_read (ap (λ w. row.read ++ w) (append-nil (row_words row.row)) ∙ row.words_are);
}

-- a row without a label is begun
pub row-begun : (words : List (List ℕ)) (before old new : List ℕ) → AddsLines (words_read words) before old → new ≡ old ++ 32 ∷ 32 ∷ 32 ∷ []
    → AddsRow words before new
row-begun words before old new lines new_is = record {
  lines = lines.lines;
  row = 32 ∷ 32 ∷ 32 ∷ [];
  text = new_is ∙ ap (λ t. t ++ 32 ∷ 32 ∷ 32 ∷ []) lines.text;
  plain = lines.plain;
  plain_row = plain-known (32 ∷ 32 ∷ 32 ∷ []) refl;
  is_row = refl;
  read = words;
  reads = lines.reads;
  words_are = ap (λ w. words ++ w) blank_row ∙ append-nil words;
}

-- no words are added
pub row-same : (old new : List ℕ) → ((words : List (List ℕ)) (before : List ℕ) → AddsRow words before old → AddsRow words before new)
    → GoesOn [] old new
row-same old new stays = λ words before row. subst (λ w. AddsRow w before new) (sym (append-nil words)) (stays words before row)

-- some words, and then more
pub row-then : (words more : List (List ℕ)) (a b c : List ℕ) → GoesOn words a b → GoesOn more b c → GoesOn (words ++ more) a c
row-then words more a b c first second = λ stood before row.
    subst (λ w. AddsRow w before c) (append_assoc stood words more) (second (stood ++ words) before (first stood before row))

-- ---- labels

pub record IsLabel (label : List ℕ) : Type 0 where
  pub word : IsPlainWord label
  pub fits : (nat_lt (length label) 3 || begins 69 label) ≡ true

visible_label : (label : List ℕ) → list_all (λ byte. nat_le 33 byte && nat_le byte 126) label ≡ true
    → All (λ byte. (33 ≤ byte) × (byte ≢ 127)) label
visible_label label pass =
    let each = AllPass-from_list_all (λ byte. nat_le 33 byte && nat_le byte 126) label pass in
    λ k d below.
    let byte = get_or label k d in
    let least = leb-true 33 byte (and_first (nat_le 33 byte) (nat_le byte 126) (each k d below)) in
    let most = leb-true byte 126 (and_second (nat_le 33 byte) (nat_le byte 126) (each k d below)) in
    (least, λ e. omega (arith, e, most))

pub label-is : (label : List ℕ) → is_label label ≡ true → IsLabel label
label-is label is =
    let seen = list_all (λ byte. nat_le 33 byte && nat_le byte 126) label in
    let least = nat_le 2 (length label) in
    let most = nat_le (length label) 3 in
    let fits = nat_lt (length label) 3 || begins 69 label in
    let front = and_first (seen && least && most) fits is in
    let ends = and_first (seen && least) most front in
    let low = leb-true 2 (length label) (and_second seen least ends) in
    let high = leb-true (length label) 3 (and_second (seen && least) most front) in
    record {
      word = record { some = omega (arith, low); short = omega (arith, high); plain = visible_label label (and_first seen least ends) };
      fits = and_second (seen && least && most) fits is;
    }

label-begins : (label : List ℕ) → (nat_lt (length label) 3 || begins 69 label) ≡ true → 3 ≤ length label → begins 69 label ≡ true
label-begins label fits long =
    or_cases (nat_lt (length label) 3) (begins 69 label) fits (λ b. let short = ltb-true (length label) 3 b in absurd (omega (arith, short, long))) (λ b. b)
  where
    or_cases : (a b : Bool) → (a || b) ≡ true → (a ≡ true → b ≡ true) → (b ≡ true → b ≡ true) → b ≡ true
    or_cases true b is first second = first refl
    or_cases false b is first second = second is

pub label-short : (label old spaced new : List ℕ) → is_label label ≡ true → spaced ≡ old ++ 32 ∷ [] → new ≡ spaced ++ label
    → AddsRow (label ∷ []) old new
label-short label old spaced new is spaced_is new_is =
    let word = (label-is label is).word in
    record {
      lines = [];
      row = 32 ∷ label;
      text = new_is ∙ ap (λ t. t ++ label) spaced_is ∙ append_assoc old (32 ∷ []) label ∙ ap (λ t. t ++ 32 ∷ label) (sym (append-nil old));
      plain = All-nil IsPlainLine;
      plain_row = plain-append (32 ∷ []) label (plain-known (32 ∷ []) refl) (plain-word label word);
      is_row = refl;
      read = [];
      reads = refl;
      words_are = words-spaced 1 label (is_word label word);
    }

pub label-long : (label old spaced new : List ℕ) → is_label label ≡ true → 3 ≤ length label → spaced ≡ old → new ≡ spaced ++ label
    → AddsRow (label ∷ []) old new
label-long label old spaced new is long spaced_is new_is =
    let label_is = label-is label is in
    let row = or_right (begins 32 label) (begins 69 label) (label-begins label label_is.fits long) in
    record {
      lines = [];
      row = label;
      text = new_is ∙ ap (λ t. t ++ label) (spaced_is ∙ sym (append-nil old));
      plain = All-nil IsPlainLine;
      plain_row = plain-word label label_is.word;
      is_row = row;
      read = [];
      reads = refl;
      words_are = row-words label row ∙ words-one label (is_word label label_is.word);
    }

-- ---- the words of a text

abbrev AreOf : Event → List Turn → Type 0
AreOf event turns = All (λ turn. IsTrue (permits event turn)) turns

-- a word was added behind rows that were ended, and then the others
pub words-step : {E : Type 0} (result : Result (Unit {0}) E) (event : Event) (turns : List Turn) (left word behind a b c d : List ℕ) (places others : ℕ)
    → ((event : Event) (turn : Turn) (turns : List Turn) → AreOf event (turn ∷ turns) → left ≡ text_of (turn ∷ turns)
    → (word ≡ spelling turn) × (behind ≡ text_of turns) × IsPlainWord word)
    → GoesOn [] a b → (IsPlainWord word → GoesOn (word ∷ []) b c)
    → ((event : Event) (turns : List Turn) → AreOf event turns → behind ≡ text_of turns → others ≡ length turns
    → OnOk result (GoesOn (map spelling turns) c d))
    → others + 1 ≡ places → AreOf event turns → left ≡ text_of turns → places ≡ length turns
    → OnOk result (GoesOn (map spelling turns) a d)
words-step result event [] left word behind a b c d places others first row one more count are is same = absurd (omega arith)
words-step result event (turn ∷ turns) left word behind a b c d places others first row one more count are is same =
    let found = first event turn turns are is in
    let rest = more event turns (All-tail (λ t. IsTrue (permits event t)) turn turns are) found.1 (omega arith) in
    on_ok_weaker result
    (λ goes. row-then (spelling turn ∷ []) (map spelling turns) a c d
    (subst (λ w. GoesOn (w ∷ []) a c) found.0 (row-then [] (word ∷ []) a b c row (one found.2))) goes)
    rest
