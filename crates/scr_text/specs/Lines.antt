-- The lines of a text, and the words of a line. The grammar is our own choice.
use Rattle.std.specs.Prelude.{ℕ, Bool, true, false, ◌||◌, ◌==◌, List, [], ◌∷◌, ◌++◌, map, filter}
use Rattle.std.specs.List.{slice_split}
use Rattle.std.specs.Str.Lines.{strip_carriage_return}

-- a byte that ends a line: a line feed
abbrev pub is_line_feed : ℕ → Bool
is_line_feed byte = byte == 10

-- The lines of a text, each without the carriage return at its end, of which it loses one. Where the text ends with a
-- line feed, an empty line comes last.
unfoldable pub lines_of : List ℕ → List (List ℕ)
lines_of text = map strip_carriage_return (slice_split is_line_feed text)

-- a space or a tab
abbrev pub is_blank : ℕ → Bool
is_blank byte = (byte == 32) || (byte == 9)

abbrev pub has_bytes : List ℕ → Bool
has_bytes [] = false
has_bytes (byte ∷ rest) = true

-- the words of a line: what stands between its blanks
unfoldable pub line_words : List ℕ → List (List ℕ)
line_words line = filter has_bytes (slice_split is_blank line)

-- lines, each with its line feed
abbrev pub text_of_lines : List (List ℕ) → List ℕ
text_of_lines [] = []
text_of_lines (line ∷ lines) = line ++ 10 ∷ text_of_lines lines
