-- Texts that are one word or one line, and what follows a line.
use Rattle.std.specs.Prelude.{ℕ, ◌≡◌, true, false, Option, Some, None, List, [], All}
use Rattle.std.specs.Str.Lines.{strip_carriage_return}
use Rattle.scr_text.specs.Lines.{is_line_feed, is_blank, has_bytes, lines_of}

-- a text that is one word: it has bytes, and no blanks
pub record IsWord (text : List ℕ) : Type 0 where
  pub some : has_bytes text ≡ true
  pub plain : All (λ byte. is_blank byte ≡ false) text

-- a text that is one line: it has no line feed, and no carriage return at its end
pub record IsLine (text : List ℕ) : Type 0 where
  pub plain : All (λ byte. is_line_feed byte ≡ false) text
  pub end : strip_carriage_return text ≡ text

-- the lines of what follows a line feed, where there is one
abbrev pub more_lines : Option (List ℕ) → List (List ℕ)
more_lines None = []
more_lines (Some text) = lines_of text
