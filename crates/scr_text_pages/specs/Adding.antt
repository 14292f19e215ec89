-- What calls add to pages of text.
use Rattle.std.specs.Prelude.{ℕ, ◌≡◌, ◌<◌, ◌-◌, nat_le, nat_lt, ◌&&◌, ◌||◌, Bool, IsTrue, true, if◌then◌else◌, List, [], ◌∷◌, ◌++◌, All, drop, take, length}
use Rattle.std.specs.List.{list_all}
use Rattle.scr_text.specs.Lines.{has_bytes, text_of_lines}
use Rattle.scr_layout.specs.Group.{Group}
use Rattle.scr_text_pages.specs.Reading.{ReadSlot, ReadLines, begins, is_cut_line, is_dash, cut_text, is_row, read_lines, row_words, slots_of_text, AreNamed}
use Rattle.scr_text_pages.specs.Slots.{slots_of_group}

-- ---- pages

-- pages that begin with this name, where it isn't empty, and of which just these scrambles are read
pub record AddsSlots (name : List ℕ) (slots : List ReadSlot) (before after : List ℕ) : Type 0 where
  pub pages : List ℕ
  pub text : after ≡ before ++ pages
  pub named : AreNamed name pages
  pub reads : slots_of_text (has_bytes name) pages ≡ slots

-- those of a group
abbrev pub AddsPages : Bool → List ℕ → Group → List ℕ → List ℕ → Type 0
AddsPages pictures name group before after = AddsSlots name (slots_of_group pictures group) before after

-- the scrambles of a group from a place on and before another
abbrev pub slots_between : Bool → ℕ → ℕ → Group → List ReadSlot
slots_between pictures from end group = take (end - from) (drop from (slots_of_group pictures group))

-- ---- lines

-- a line without controls
abbrev pub IsPlainLine : List ℕ → Type 0
IsPlainLine line = All (λ byte. 31 < byte) line

-- lines of which this is read
pub record AddsLines (read : ReadLines) (before after : List ℕ) : Type 0 where
  pub lines : List (List ℕ)
  pub text : after ≡ before ++ text_of_lines lines
  pub plain : All IsPlainLine lines
  pub reads : read_lines lines ≡ read

-- rows with these words
abbrev pub words_read : List (List ℕ) → ReadLines
words_read words = record { before = words; slots = [] }

-- these scrambles
abbrev pub slots_read : List ReadSlot → ReadLines
slots_read slots = record { before = []; slots = slots }

-- a line to cut at, which says this
pub record AddsCut (of before after : List ℕ) : Type 0 where
  pub line : List ℕ
  pub text : after ≡ before ++ line ++ 10 ∷ []
  pub plain : IsPlainLine line
  pub cut : is_cut_line line ≡ true
  pub says : cut_text line ≡ of

-- lines of which no scramble is read, where the first of them is this name, if it isn't empty, and isn't read
pub record AddsHead (name before after : List ℕ) : Type 0 where
  pub lines : List (List ℕ)
  pub text : after ≡ before ++ text_of_lines lines
  pub plain : All IsPlainLine lines
  pub first : IsTrue (has_bytes name) → lines ≡ name ∷ drop 1 lines
  pub no_slots : (read_lines (drop (if has_bytes name then 1 else 0) lines)).slots ≡ []

-- a row that isn't ended, behind lines; in both these words stand so far
pub record AddsRow (words : List (List ℕ)) (before after : List ℕ) : Type 0 where
  pub lines : List (List ℕ)
  pub row : List ℕ
  pub text : after ≡ before ++ text_of_lines lines ++ row
  pub plain : All IsPlainLine lines
  pub plain_row : IsPlainLine row
  pub is_row : is_row row ≡ true
  pub read : List (List ℕ)
  pub reads : read_lines lines ≡ words_read read
  pub words_are : read ++ row_words row ≡ words

-- a hyphen, and hyphens and spaces behind it
pub record AddsDashes (before after : List ℕ) : Type 0 where
  pub more : List ℕ
  pub text : after ≡ before ++ 45 ∷ more
  pub dashes : All (λ byte. IsTrue (is_dash byte)) more

-- whatever words stood in a row that isn't ended, these stand there behind them
abbrev pub GoesOn : List (List ℕ) → List ℕ → List ℕ → Type 0
GoesOn more old new =
    (words : List (List ℕ)) (before : List ℕ) → AddsRow words before old → AddsRow (words ++ more) before new

-- a label: a short word, which a row can begin with behind spaces that make it three letters wide
abbrev pub is_label : List ℕ → Bool
is_label label =
    list_all (λ byte. nat_le 33 byte && nat_le byte 126) label && nat_le 2 (length label) && nat_le (length label) 3
    && (nat_lt (length label) 3 || begins 69 label)

-- a text without controls
pub record AddsPlain (before after : List ℕ) : Type 0 where
  pub more : List ℕ
  pub text : after ≡ before ++ more
  pub plain : IsPlainLine more
