-- The two parts of an input.
use Rattle.std.proofs.Common.{◌≡◌, ℕ, ◌+◌, ◌-◌, ◌==◌, ◌||◌, Bool, true, false, List, [], ◌∷◌, ◌++◌, length, take, refl, sym, ap, subst, ◌∙◌, arith, append_assoc, length-append}
use Rattle.std.specs.Prelude.{All, ◌≢◌}
use Rattle.std.specs.List.{list_any}
use Rattle.std.proofs.lemmas.Bool.{false≢true}
use Rattle.std.proofs.lemmas.List.{take_all, take-append-le}
use Rattle.std.proofs.lemmas.List.Elements.{All-cons, All-nil, All-append, All-head, All-tail}
use Rattle.scr_text.specs.Lines.{text_of_lines}
use Rattle.scr_read.specs.Faults.{IsOneLine}
use Rattle.scr_wcif.specs.Parts.{between, IsOtherLine, AreParts, HasNoParts}

-- ---- lines

-- some line feed stands in a line with its line feed
line-fed : (line behind : List ℕ) → list_any (λ byte. byte == 10) (line ++ 10 ∷ behind) ≡ true
line-fed [] behind = refl
line-fed (byte ∷ line) behind = or-true (byte == 10) (line-fed line behind)
  where
    or-true : (b : Bool) {c : Bool} → c ≡ true → (b || c) ≡ true
    or-true true is = refl
    or-true false is = is

pub fed-twice : (rest line behind : List ℕ) → IsOneLine rest → rest ≡ line ++ 10 ∷ behind → ⊥
fed-twice rest line behind one is =
    false≢true (sym one ∙ ap (list_any (λ byte. byte == 10)) is ∙ line-fed line behind)

-- a text has one first line
pub first-line : (line other behind more : List ℕ) → IsOneLine line → IsOneLine other → line ++ 10 ∷ behind ≡ other ++ 10 ∷ more
    → (line ≡ other) × (behind ≡ more)
first-line [] [] behind more one one' same = (refl, cc)
first-line [] (byte ∷ other) behind more one one' same =
    let fed : byte ≡ 10 = cc in
    let P : ℕ → Type 0 = λ b. list_any (λ byte. byte == 10) (b ∷ other) ≡ false in
    absurd (false≢true (sym (subst P fed one')))
first-line (byte ∷ line) [] behind more one one' same =
    let fed : byte ≡ 10 = cc in
    let P : ℕ → Type 0 = λ b. list_any (λ byte. byte == 10) (b ∷ line) ≡ false in
    absurd (false≢true (sym (subst P fed one)))
first-line (byte ∷ line) (byte' ∷ other) behind more one one' same =
    let head : byte ≡ byte' = cc in
    let tail : line ++ 10 ∷ behind ≡ other ++ 10 ∷ more = cc in
    let it = first-line line other behind more (rest-one byte line one) (rest-one byte' other one') tail in
    (ap (λ b. b ∷ line) head ∙ ap (λ l. byte' ∷ l) it.0, it.1)
  where
    rest-one : (b : ℕ) (l : List ℕ) → IsOneLine (b ∷ l) → IsOneLine l
    rest-one b l is = or-false (b == 10) is
      where
        or-false : (x : Bool) {y : Bool} → (x || y) ≡ false → y ≡ false
        or-false true is = absurd (false≢true (sym is))
        or-false false is = is

lines-append : (lines : List (List ℕ)) (line : List ℕ) (behind : List ℕ) →
    text_of_lines (lines ++ line ∷ []) ++ behind ≡ text_of_lines lines ++ (line ++ 10 ∷ behind)
lines-append [] line behind = append_assoc line (10 ∷ []) behind
lines-append (first ∷ lines) line behind =
    append_assoc first (10 ∷ text_of_lines (lines ++ line ∷ [])) behind
    ∙ ap (λ t. first ++ 10 ∷ t) (lines-append lines line behind)
    ∙ sym (append_assoc first (10 ∷ text_of_lines lines) (line ++ 10 ∷ behind))

-- ---- an input, of which some lines were passed

pub record HasPassed (input rest : List ℕ) : Type 0 where
  pub lines : List (List ℕ)
  pub others : All IsOtherLine lines
  pub input_is : input ≡ text_of_lines lines ++ rest

pub passed-more : (input rest line behind : List ℕ) → HasPassed input rest → rest ≡ line ++ 10 ∷ behind → IsOneLine line →
    line ≢ between → HasPassed input behind
passed-more input rest line behind passed is one other = record {
  lines = passed.lines ++ line ∷ [];
  others = All-append IsOtherLine passed.lines (line ∷ []) passed.others (All-cons IsOtherLine line [] (one, other) (All-nil IsOtherLine));
  input_is = passed.input_is ∙ ap (λ r. text_of_lines passed.lines ++ r) is ∙ sym (lines-append passed.lines line behind);
}

-- the next line is that one
pub passed-parts : (input rest line behind : List ℕ) → HasPassed input rest → rest ≡ line ++ 10 ∷ behind → line ≡ between →
    AreParts input (take (length input - length rest) input) behind
passed-parts input rest line behind passed is here =
    let file = text_of_lines passed.lines in
    let size : length input ≡ length file + length rest = ap length passed.input_is ∙ length-append file rest in
    let before : length input - length rest ≡ length file = omega arith in
    let cut : take (length input - length rest) input ≡ file =
    ap (λ n. take n input) before ∙ ap (take (length file)) passed.input_is ∙ take-append-le (length file) file rest (omega arith) ∙ take_all (length file) file (omega arith) in
    record {
      lines = passed.lines;
      others = passed.others;
      file_is = cut;
      input_is = passed.input_is ∙ ap (λ r. file ++ r) (is ∙ ap (λ l. l ++ 10 ∷ behind) here) ∙ ap (λ f. f ++ (between ++ 10 ∷ behind)) (sym cut);
    }

-- no line is left
none-left : (lines others : List (List ℕ)) (rest sheet : List ℕ) → All IsOtherLine lines → All IsOtherLine others → IsOneLine rest →
    text_of_lines lines ++ rest ≡ text_of_lines others ++ (between ++ 10 ∷ sheet) → ⊥
none-left [] [] rest sheet all all' one same = fed-twice rest between sheet one same
none-left [] (other ∷ others) rest sheet all all' one same =
    fed-twice rest other (text_of_lines others ++ (between ++ 10 ∷ sheet)) one (same ∙ append_assoc other (10 ∷ text_of_lines others) (between ++ 10 ∷ sheet))
none-left (line ∷ lines) [] rest sheet all all' one same =
    let is = All-head IsOtherLine line lines all in
    is.1 (first-line line between (text_of_lines lines ++ rest) sheet is.0 refl (sym (append_assoc line (10 ∷ text_of_lines lines) rest) ∙ same)).0
none-left (line ∷ lines) (other ∷ others) rest sheet all all' one same =
    let is = All-head IsOtherLine line lines all in
    let it = All-head IsOtherLine other others all' in
    none-left lines others rest sheet (All-tail IsOtherLine line lines all) (All-tail IsOtherLine other others all') one
    (first-line line other (text_of_lines lines ++ rest) (text_of_lines others ++ (between ++ 10 ∷ sheet)) is.0 it.0
    (sym (append_assoc line (10 ∷ text_of_lines lines) rest) ∙ same ∙ append_assoc other (10 ∷ text_of_lines others) (between ++ 10 ∷ sheet))).1

pub passed-all : (input rest : List ℕ) → HasPassed input rest → IsOneLine rest → HasNoParts input
passed-all input rest passed one file sheet parts =
    none-left passed.lines parts.lines rest sheet passed.others parts.others one
    (sym passed.input_is ∙ parts.input_is ∙ ap (λ f. f ++ (between ++ 10 ∷ sheet)) parts.file_is)
