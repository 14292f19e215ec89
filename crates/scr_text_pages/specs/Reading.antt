-- What is read back from pages of text. The first byte of a line tells what it is: a hyphen (45) begins a line to cut at,
-- a space (32) or an E (69) a row of words, a bar (124) a line of a net, and any other a line that is for the eye alone.
-- Our own choice.
use Rattle.std.specs.Prelude.{ℕ, ◌≡◌, Bool, false, IsTrue, ◌||◌, ◌==◌, if◌then◌else◌, List, [], ◌∷◌, ◌++◌, All, drop, flat_map}
use Rattle.std.specs.List.{before_first, prefix_len, slice_split}
use Rattle.scr_text.specs.Lines.{has_bytes, is_line_feed, lines_of, line_words}

abbrev pub begins : ℕ → List ℕ → Bool
begins byte [] = false
begins byte (first ∷ rest) = first == byte

abbrev pub is_cut_line : List ℕ → Bool
is_cut_line line = begins 45 line

abbrev pub is_row : List ℕ → Bool
is_row line = begins 32 line || begins 69 line

-- what a line to cut at says, behind its hyphens and spaces
abbrev pub is_dash : ℕ → Bool
is_dash byte = (byte == 45) || (byte == 32)

abbrev pub cut_text : List ℕ → List ℕ
cut_text line = drop (prefix_len is_dash line) line

-- the words of a line that is a row of them; a label is one, and so is what stands behind the bar of a line of a net and
-- four spaces
abbrev pub row_words : List ℕ → List (List ℕ)
row_words line = if is_row line then line_words line else if begins 124 line then drop 5 line ∷ [] else []

-- a scramble as it is read: what the line above it says, and the words of its rows, the first of them its label, behind
-- which stand the lines of its net
pub record ReadSlot : Type 0 where
  pub of : List ℕ
  pub words : List (List ℕ)

-- what is read of lines: the words of rows before the first line to cut at, and the scrambles below such lines
pub record ReadLines : Type 0 where
  pub before : List (List ℕ)
  pub slots : List ReadSlot

abbrev pub with_line : List ℕ → ReadLines → ReadLines
with_line line more =
    if is_cut_line line
    then record { before = []; slots = record { of = cut_text line; words = more.before } ∷ more.slots }
    else record { before = row_words line ++ more.before; slots = more.slots }

abbrev pub read_lines : List (List ℕ) → ReadLines
read_lines [] = record { before = []; slots = [] }
read_lines (line ∷ lines) = with_line line (read_lines lines)

-- the lines of a page that are read: all, but the first where that has the competition's name
abbrev pub lines_read : Bool → List ℕ → List (List ℕ)
lines_read has_name page = drop (if has_name then 1 else 0) (lines_of page)

abbrev pub slots_of_page : Bool → List ℕ → List ReadSlot
slots_of_page has_name page = (read_lines (lines_read has_name page)).slots

-- a form feed, which stands between two pages
abbrev pub is_form_feed : ℕ → Bool
is_form_feed byte = byte == 12

-- the scrambles that are read of pages
abbrev pub slots_of_text : Bool → List ℕ → List ReadSlot
slots_of_text has_name text = flat_map (slots_of_page has_name) (slice_split is_form_feed text)

-- the first line of a page
abbrev pub first_line : List ℕ → List ℕ
first_line page = before_first is_line_feed page

-- each page on which something stands begins with a competition's name, where it isn't empty
abbrev pub AreNamed : List ℕ → List ℕ → Type 0
AreNamed name text =
    IsTrue (has_bytes name) → All (λ page. IsTrue (has_bytes page) → first_line page ≡ name) (slice_split is_form_feed text)
