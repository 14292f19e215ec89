-- The two parts of an input: a round list, and a sheet. The first line `=====` stands between them.
use Rattle.std.specs.Prelude.{ℕ, Bool, true, nat_eq, Option, Some, None, List, codes}
use Rattle.std.specs.List.{before_first, after_first}
use Rattle.std.specs.Str.{bytes_eq}
use Rattle.scr_check.specs.Lines.{CutLine, cut_lines, joined_lines}

-- the bytes of the line between them
abbrev pub separator : List ℕ
separator = codes "====="

-- a line ends here: before a line feed, and where no byte follows
abbrev pub ends_line : Option ℕ → Bool
ends_line None = true
ends_line (Some byte) = nat_eq byte 10

-- a line that stands between the parts, whether a line feed ends it or the end of the input
abbrev pub is_separator : CutLine → Bool
is_separator line = bytes_eq line.bytes separator

-- the list part of an input: all before the first line that separates; without one it is the whole input
abbrev pub list_part : List ℕ → List ℕ
list_part input = joined_lines (before_first is_separator (cut_lines input))

-- its sheet part: all after that line; without one it is empty
abbrev pub sheet_part : List ℕ → List ℕ
sheet_part input = joined_lines (after_first is_separator (cut_lines input))

-- So many bytes of a list part are given at most: more than any list has, so that they tell of one that it is too long.
-- The number is our own choice.
abbrev pub list_room : ℕ
list_room = 16385
