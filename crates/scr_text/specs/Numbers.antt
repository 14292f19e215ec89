-- Numbers as lists, commands and sheets write them: decimal digits, without a sign, and without leading zeros except in
-- `0` itself. The form is our own choice; `decimal` of std is the text of a number.
use Rattle.std.specs.Prelude.{ℕ, Bool, true, false, not, ◌&&◌, ◌==◌, nat_le, if◌then◌else◌, Option, Some, None, option_and_then, List, [], ◌∷◌}
use Rattle.std.specs.Char.{is_ascii_digit}
use Rattle.std.specs.List.{list_all}
use Rattle.std.specs.Str.Parse.{digits_value}

-- a text has bytes, and begins with no 0 unless that stands alone
abbrev pub has_plain_start : List ℕ → Bool
has_plain_start [] = false
has_plain_start (digit ∷ []) = true
has_plain_start (first ∷ second ∷ rest) = not (first == 48)

-- the text is a number
abbrev pub is_number : List ℕ → Bool
is_number text = list_all is_ascii_digit text && has_plain_start text

-- the number that a text is, however long
unfoldable pub number_of_text : List ℕ → Option ℕ
number_of_text text = if is_number text then Some (digits_value 10 text) else None

-- a number where it lies from the least to the greatest
abbrev pub in_range : ℕ → ℕ → ℕ → Option ℕ
in_range least greatest number = if nat_le least number && nat_le number greatest then Some number else None

-- the number that a text is, where it lies from the least to the greatest
unfoldable pub number_between : ℕ → ℕ → List ℕ → Option ℕ
number_between least greatest text = option_and_then (in_range least greatest) (number_of_text text)
