-- The two parts of an input: a file, and behind it a sheet. The first line `=====` stands between them.
use Rattle.std.specs.Prelude.{ℕ, ◌≡◌, ◌≢◌, List, ◌∷◌, ◌++◌, codes, All}
use Rattle.scr_text.specs.Lines.{text_of_lines}
use Rattle.scr_read.specs.Faults.{IsOneLine}

-- the line between them
abbrev pub between : List ℕ
between = codes "====="

-- a line, and not that one
abbrev pub IsOtherLine : List ℕ → Type 0
IsOtherLine line = IsOneLine line × (line ≢ between)

-- These are the parts of an input: all before its first line `=====`, and all behind it. A line feed ends that line, and
-- each before it.
pub record AreParts (input file sheet : List ℕ) : Type 0 where
  pub lines : List (List ℕ)
  pub others : All IsOtherLine lines
  pub file_is : file ≡ text_of_lines lines
  pub input_is : input ≡ file ++ (between ++ 10 ∷ sheet)

-- no line of it is that one
abbrev pub HasNoParts : List ℕ → Type 0
HasNoParts input = (file sheet : List ℕ) → AreParts input file sheet → ⊥
