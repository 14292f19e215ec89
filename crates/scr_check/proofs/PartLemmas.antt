-- The list part of an input, of which the first bytes were taken.
use Rattle.std.proofs.Common.{◌≡◌, ℕ, ◌+◌, ◌≤◌, Bool, true, false, List, [], ◌∷◌, ◌++◌, length, take, refl, sym, ap, subst, ◌∙◌, append_assoc, append-nil, length-append, inl, inr, ◌⊎◌, arith}
use Rattle.std.specs.List.{before_first, after_first}
use Rattle.std.specs.Str.{bytes_eq}
use Rattle.std.proofs.lemmas.List.{take-append-le}
use Rattle.std.proofs.lemmas.Slice.Eq.{bytes_eq-Decides}
use Rattle.std.proofs.lemmas.Bool.{cases_Bool, false≢true}
use Rattle.scr_check.specs.Lines.{CutLine, cut_lines, joined_lines, line_end, IsPlain}
use Rattle.scr_check.specs.Parts.{separator, is_separator, list_part, sheet_part}
use Rattle.scr_check.specs.Shapes.{NoneSeparates, IsListText}
use Rattle.scr_check.proofs.CutLemmas.{cut-append, cut-begun, cut-ended, cut-none, joined-cut, joined-append, begun, first_bytes, is_first_ended, lines_behind}

pub NoneSeparates-none : NoneSeparates []
unfolding NoneSeparates
NoneSeparates-none = tt

pub NoneSeparates-one : (text : List ℕ) (ended : Bool) → bytes_eq text separator ≡ false →
    NoneSeparates (record { bytes = text; ended = ended } ∷ [])
unfolding NoneSeparates
NoneSeparates-one text ended other = (other, tt)

pub NoneSeparates-append : (xs ys : List CutLine) → NoneSeparates xs → NoneSeparates ys → NoneSeparates (xs ++ ys)
unfolding NoneSeparates
NoneSeparates-append [] ys p q = q
NoneSeparates-append (x ∷ xs) ys p q = (p.0, NoneSeparates-append xs ys p.1 q)

-- the lines before the first that separates, and those after it
abbrev lines_before : List CutLine → List CutLine
lines_before lines = before_first is_separator lines

abbrev lines_after : List CutLine → List CutLine
lines_after lines = after_first is_separator lines

before-separator : (line : CutLine) (lines : List CutLine) → is_separator line ≡ true → lines_before (line ∷ lines) ≡ []
before-separator line lines is = rw is refl

after-separator : (line : CutLine) (lines : List CutLine) → is_separator line ≡ true
    → lines_after (line ∷ lines) ≡ lines
after-separator line lines is = rw is refl

before-other : (line : CutLine) (lines : List CutLine) → is_separator line ≡ false
    → lines_before (line ∷ lines) ≡ line ∷ lines_before lines
before-other line lines other = grind arith

after-other : (line : CutLine) (lines : List CutLine) → is_separator line ≡ false
    → lines_after (line ∷ lines) ≡ lines_after lines
after-other line lines other = grind arith

before-append : (xs ys : List CutLine) → NoneSeparates xs → lines_before (xs ++ ys) ≡ xs ++ lines_before ys
unfolding NoneSeparates
before-append [] ys none = refl
before-append (x ∷ xs) ys none = before-other x (xs ++ ys) none.0 ∙ ap (λ z. x ∷ z) (before-append xs ys none.1)

after-append : (xs ys : List CutLine) → NoneSeparates xs → lines_after (xs ++ ys) ≡ lines_after ys
unfolding NoneSeparates
after-append [] ys none = refl
after-append (x ∷ xs) ys none = after-other x (xs ++ ys) none.0 ∙ after-append xs ys none.1

before-none : lines_before [] ≡ []
before-none = refl

after-none : lines_after [] ≡ []
after-none = refl

joined-none : joined_lines [] ≡ []
unfolding joined_lines
joined-none = refl

list-append : (whole rest : List ℕ) → IsListText whole → list_part (whole ++ rest) ≡ whole ++ list_part rest
list-append whole rest lines = grind (arith, cut-append, before-append, joined-append, joined-cut)

sheet-append : (whole rest : List ℕ) → IsListText whole → sheet_part (whole ++ rest) ≡ sheet_part rest
sheet-append whole rest lines = grind (arith, cut-append, after-append)

-- ---- where a separator was met

separated-list : (whole tail rest : List ℕ) → IsListText whole → IsPlain tail → bytes_eq tail separator ≡ true →
    list_part (whole ++ (tail ++ 10 ∷ rest)) ≡ whole
separated-list whole tail rest lines plain separates =
    grind (arith, list-append, cut-ended, before-separator, joined-none, append-nil)

separated-sheet : (whole tail rest : List ℕ) → IsListText whole → IsPlain tail → bytes_eq tail separator ≡ true →
    sheet_part (whole ++ (tail ++ 10 ∷ rest)) ≡ rest
separated-sheet whole tail rest lines plain separates =
    grind (arith, sheet-append, cut-ended, after-separator, joined-cut)

-- a line feed ends the separator
pub split-separated : (whole tail rest : List ℕ) → IsListText whole → IsPlain tail → bytes_eq tail separator ≡ true →
    (list_part (whole ++ (tail ++ 10 ∷ rest)) ≡ whole) × (sheet_part (whole ++ (tail ++ 10 ∷ rest)) ≡ rest)
split-separated whole tail rest lines plain separates = grind (arith, separated-list, separated-sheet)

-- the last line, which nothing ends
pub cut-last : (byte : ℕ) (text : List ℕ) → IsPlain (byte ∷ text) →
    cut_lines (byte ∷ text) ≡ record { bytes = byte ∷ text; ended = false } ∷ []
cut-last byte text plain =
    ap (λ x. cut_lines (byte ∷ x)) (sym (append-nil text)) ∙ cut-begun byte text [] plain
    ∙ ap (λ x. begun (byte ∷ text) x) cut-none ∙ ap (λ x. record { bytes = byte ∷ x; ended = false } ∷ []) (append-nil text)

-- the end of input ends it
pub split-separated_last : (whole tail : List ℕ) → IsListText whole → IsPlain tail → bytes_eq tail separator ≡ true →
    (list_part (whole ++ tail) ≡ whole) × (sheet_part (whole ++ tail) ≡ [])
split-separated_last whole [] lines plain separates = absurd (false≢true separates)
split-separated_last whole (byte ∷ text) lines plain separates =
    grind (arith, list-append, cut-last, before-separator, joined-none, append-nil, sheet-append, after-separator)

-- ---- where none was met

all-before : (lines : List CutLine) → NoneSeparates lines → lines_before lines ≡ lines
all-before lines none =
    ap lines_before (sym (append-nil lines)) ∙ before-append lines [] none ∙ ap (λ x. lines ++ x) before-none ∙ append-nil lines

none-after : (lines : List CutLine) → NoneSeparates lines → lines_after lines ≡ []
none-after lines none = ap lines_after (sym (append-nil lines)) ∙ after-append lines [] none ∙ after-none

-- an input of which no line separates
pub split-alone : (input : List ℕ) → NoneSeparates (cut_lines input)
    → (list_part input ≡ input) × (sheet_part input ≡ [])
split-alone input none = grind (arith, all-before, joined-cut, none-after, joined-none)

last-NoneSeparates : (tail : List ℕ) → IsPlain tail → bytes_eq tail separator ≡ false → NoneSeparates (cut_lines tail)
last-NoneSeparates [] plain other = subst NoneSeparates (sym cut-none) NoneSeparates-none
last-NoneSeparates (byte ∷ text) plain other = grind (arith, cut-last, NoneSeparates-one)

-- the input ends without one
pub split-whole : (whole tail : List ℕ) → IsListText whole → IsPlain tail → bytes_eq tail separator ≡ false →
    (list_part (whole ++ tail) ≡ whole ++ tail) × (sheet_part (whole ++ tail) ≡ [])
split-whole whole tail lines plain other =
    grind (arith, split-alone, cut-append, NoneSeparates-append, last-NoneSeparates)

-- ---- where enough bytes were taken to tell that there are too many

separator-length : (text : List ℕ) → bytes_eq text separator ≡ true → length text ≡ 5
separator-length text separates = ap length ((bytes_eq-Decides text separator).0 separates)

joined-first : (line : CutLine) (lines : List CutLine) (text more : List ℕ) → line.bytes ≡ text ++ more →
    joined_lines (line ∷ lines) ≡ text ++ (more ++ (line_end line.ended ++ joined_lines lines))
unfolding joined_lines
joined-first line lines text more begins = grind (arith, append_assoc)

full-by : (room byte : ℕ) (whole text rest : List ℕ) (line : CutLine) (lines : List CutLine) → IsListText whole →
    cut_lines (byte ∷ (text ++ rest)) ≡ line ∷ lines → (more : List ℕ) → line.bytes ≡ (byte ∷ text) ++ more →
    length (whole ++ (byte ∷ text)) ≡ room + 5 →
    (is_separator line ≡ true) ⊎ (is_separator line ≡ false) →
    take room (list_part (whole ++ (byte ∷ (text ++ rest)))) ≡ take room (whole ++ (byte ∷ text))
full-by room byte whole text rest line lines list cut more begins long (inl separates) =
    let short : length line.bytes ≡ 5 = separator-length line.bytes separates in
    let parts : length line.bytes ≡ length (byte ∷ text) + length more = ap length begins ∙ length-append (byte ∷ text) more in
    let all = length-append whole (byte ∷ text) in
    let enough : room ≤ length whole = omega arith in
    ap (take room) (list-append whole (byte ∷ (text ++ rest)) list)
    ∙ take-append-le room whole (list_part (byte ∷ (text ++ rest))) enough
    ∙ sym (take-append-le room whole (byte ∷ text) enough)
full-by room byte whole text rest line lines list cut more begins long (inr other) =
    let behind : List ℕ = more ++ (line_end line.ended ++ joined_lines (lines_before lines)) in
    let enough : room ≤ length (whole ++ (byte ∷ text)) = omega arith in
    ap (take room) (list-append whole (byte ∷ (text ++ rest)) list
    ∙ ap (λ x. whole ++ joined_lines (lines_before x)) cut
    ∙ ap (λ x. whole ++ joined_lines x) (before-other line lines other)
    ∙ ap (λ x. whole ++ x) (joined-first line (lines_before lines) (byte ∷ text) more begins)
    ∙ sym (append_assoc whole (byte ∷ text) behind))
    ∙ take-append-le room (whole ++ (byte ∷ text)) behind enough

pub split-full : (room : ℕ) (whole tail rest : List ℕ) → IsListText whole → IsPlain tail → length (whole ++ tail) ≡ room + 5 →
    take room (list_part (whole ++ (tail ++ rest))) ≡ take room (whole ++ tail)
split-full room whole [] rest lines plain long = grind (arith, append-nil, list-append, take-append-le)
split-full room whole (byte ∷ text) rest lines plain long =
    full-by room byte whole text rest
    (record { bytes = (byte ∷ text) ++ first_bytes (cut_lines rest); ended = is_first_ended (cut_lines rest) }) (lines_behind (cut_lines rest))
    lines (cut-begun byte text rest plain) (first_bytes (cut_lines rest)) refl long
    (cases_Bool (is_separator (record { bytes = (byte ∷ text) ++ first_bytes (cut_lines rest); ended = is_first_ended (cut_lines rest) })))
