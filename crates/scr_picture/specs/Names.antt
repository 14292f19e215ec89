-- The names of the letters of pictures.
use Rattle.std.specs.Prelude.{ℕ, ◌≡◌, false, List, [], ◌∷◌, ◌++◌, codes, flat_map}
use Rattle.std.specs.List.{slice_index_or, list_any}
use Rattle.scr_text.specs.Lines.{is_line_feed}
use Rattle.scr_picture.specs.declared.names.Alphabet.{Alphabet}
use Rattle.scr_picture.specs.declared.names.Alphabet.TheVariants.{Cube, Pyraminx, Megaminx, Hours, Units}

-- Of a cube and a Skewb, of a Pyraminx, of a Megaminx; of a Clock's hours, and of a Square-1's units.
abbrev pub names_of : Alphabet → List (List ℕ)
names_of Cube = codes "U" ∷ codes "R" ∷ codes "F" ∷ codes "D" ∷ codes "L" ∷ codes "B" ∷ []
names_of Pyraminx = codes "F" ∷ codes "R" ∷ codes "L" ∷ codes "D" ∷ []
names_of Megaminx =
    codes "U" ∷ codes "F" ∷ codes "R" ∷ codes "BR" ∷ codes "BL" ∷ codes "L"
    ∷ codes "D" ∷ codes "B" ∷ codes "DBR" ∷ codes "DR" ∷ codes "DL" ∷ codes "DBL" ∷ []
names_of Hours =
    codes "12" ∷ codes "1" ∷ codes "2" ∷ codes "3" ∷ codes "4" ∷ codes "5"
    ∷ codes "6" ∷ codes "7" ∷ codes "8" ∷ codes "9" ∷ codes "10" ∷ codes "11" ∷ []
names_of Units =
    codes "0" ∷ codes "1" ∷ codes "2" ∷ codes "3" ∷ codes "4" ∷ codes "5" ∷ codes "6" ∷ codes "7"
    ∷ codes "8" ∷ codes "9" ∷ codes "a" ∷ codes "b" ∷ codes "c" ∷ codes "d" ∷ codes "e" ∷ codes "f" ∷ []

abbrev pub name_in : Alphabet → ℕ → List ℕ
name_in alphabet letter = slice_index_or (names_of alphabet) letter []

-- letters one behind another
abbrev pub joined_text : Alphabet → List ℕ → List ℕ
joined_text alphabet letters = flat_map (name_in alphabet) letters

-- with a space between two
abbrev pub spaced_text : Alphabet → List ℕ → List ℕ
spaced_text alphabet [] = []
spaced_text alphabet (letter ∷ letters) =
    name_in alphabet letter ++ flat_map (λ other. 32 ∷ name_in alphabet other) letters

-- a text in one line
abbrev pub IsLine : List ℕ → Type 0
IsLine text = list_any is_line_feed text ≡ false
