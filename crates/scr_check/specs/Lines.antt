-- The lines of a text: what its line feeds cut it into. Bytes after the last line feed are a line too, which no line
-- feed ends; where there are none, there is no such line.
use Rattle.std.specs.Prelude.{ℕ, Bool, true, false, cond, nat_eq, ◌≡◌, List, [], ◌∷◌, ◌++◌}

-- a line's bytes, without its line feed, and whether a line feed ends it
pub record CutLine : Type 0 where
  pub bytes : List ℕ
  pub ended : Bool

-- a byte before what these lines are cut from: it comes first in the first of them, or is a line of its own
abbrev pub with_byte : ℕ → List CutLine → List CutLine
with_byte byte [] = record { bytes = byte ∷ []; ended = false } ∷ []
with_byte byte (line ∷ lines) = record { bytes = byte ∷ line.bytes; ended = line.ended } ∷ lines

-- the lines of a text
unfoldable pub cut_lines : List ℕ → List CutLine
cut_lines [] = []
cut_lines (byte ∷ rest) =
    cond (nat_eq byte 10) (record { bytes = []; ended = true } ∷ cut_lines rest) (with_byte byte (cut_lines rest))

-- what ends a line: a line feed, or nothing
abbrev pub line_end : Bool → List ℕ
line_end ended = cond ended (10 ∷ []) []

-- the text whose lines these are
unfoldable pub joined_lines : List CutLine → List ℕ
joined_lines [] = []
joined_lines (line ∷ lines) = (line.bytes ++ line_end line.ended) ++ joined_lines lines

-- a text without a line feed
unfoldable pub IsPlain : List ℕ → Type 0
IsPlain [] = Unit {0}
IsPlain (byte ∷ rest) = (nat_eq byte 10 ≡ false) × IsPlain rest

-- lines each of which a line feed ends
unfoldable pub AreEnded : List CutLine → Type 0
AreEnded [] = Unit {0}
AreEnded (line ∷ lines) = (line.ended ≡ true) × AreEnded lines
