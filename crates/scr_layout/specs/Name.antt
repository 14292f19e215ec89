-- A competition's name in one line. It is a list of its letters, which are numbers of Unicode. Our own choice.
use Rattle.std.specs.Prelude.{ℕ, ◌+◌, ◌-◌, Bool, not, ◌&&◌, ◌||◌, nat_le, nat_lt, if◌then◌else◌, List, [], ◌∷◌, ◌++◌, codes, chars, encode_utf8_all}
use Rattle.std.specs.List.{list_all}

-- ---- blanks

-- what could move the line: a control, an end of a line, or a turn of the direction of writing; and the space
abbrev pub is_blank : ℕ → Bool
is_blank letter =
    nat_le letter 32 || (nat_le 127 letter && nat_le letter 159) || (nat_le 8232 letter && nat_le letter 8238)
    || (nat_le 8294 letter && nat_le letter 8297)

-- a space, where blanks come next and other letters behind them
abbrev pub gap : List ℕ → List ℕ
gap [] = []
gap (letter ∷ rest) = if is_blank letter && not (list_all is_blank rest) then 32 ∷ [] else []

-- the letters of a name, with one space for blanks one after another, and none at its ends
unfoldable pub spaced : List ℕ → List ℕ
spaced [] = []
spaced (letter ∷ rest) = if is_blank letter then spaced rest else letter ∷ gap rest ++ spaced rest

-- ---- width

-- how wide a letter is at the most: two, where it takes three bytes and more
abbrev pub wide : ℕ → ℕ
wide letter = if nat_lt letter 2048 then 1 else 2

unfoldable pub width : List ℕ → ℕ
width [] = 0
width (letter ∷ rest) = wide letter + width rest

-- the first letters that fit so wide a line
unfoldable pub first_wide : ℕ → List ℕ → List ℕ
first_wide most [] = []
first_wide most (letter ∷ rest) = if nat_le (wide letter) most then letter ∷ first_wide (most - wide letter) rest else []

-- A name that fits so wide a line: whole, or its first letters, with three full stops behind them.
unfoldable pub fitted : ℕ → List ℕ → List ℕ
fitted most name =
    if nat_le (width (spaced name)) most then spaced name else first_wide (most - 3) (spaced name) ++ codes "..."

-- the same of the bytes of a name
abbrev pub fitting : ℕ → List ℕ → List ℕ
fitting most name = encode_utf8_all (fitted most (chars name))
