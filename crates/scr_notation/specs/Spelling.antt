-- How each turn is written, and the text of turns (WCA Regulations, article 12).
use Rattle.std.specs.Prelude.{ℕ, ◌+◌, ◌-◌, ◌==◌, nat_le, if◌then◌else◌, ℤ, pos, negsuc, Bool, List, [], ◌∷◌, ◌++◌, map, slice_index, slice_index_or, codes}
use Rattle.std.specs.List.{join_with_byte, position_or_len}
use Rattle.scr_notation.specs.declared.turn.Turn.{Turn}
use Rattle.scr_notation.specs.declared.turn.Turn.TheVariants.{Face, Axis, Tip, Layers, Twist, Pins, Over, Wide}
use Rattle.scr_notation.specs.Pins.{pin_sets}

-- the letter with this number
abbrev pub letter_text : List ℕ → ℕ → List ℕ
letter_text letters n = slice_index letters n ∷ []

-- How far a turn goes, of which so many steps make a whole one: nothing for one step clockwise, `'` for one step the
-- other way, `2` for the half turn between them.
abbrev pub amount_text : ℕ → ℕ → List ℕ
amount_text order amount = if amount == 1 then [] else (if amount + 1 == order then codes "'" else codes "2")

-- two and more layers have `w` behind the letter, and three have `3` before it
abbrev pub layers_before : ℕ → List ℕ
layers_before depth = if depth == 3 then codes "3" else []

abbrev pub layers_behind : ℕ → List ℕ
layers_behind depth = if depth == 1 then [] else codes "w"

-- the way of a wide turn: `++` and `--`, but nothing and `'` for the letter U
abbrev pub way_text : ℕ → Bool → List ℕ
way_text letter plus = if letter == 2 then (if plus then [] else codes "'") else if plus then codes "++" else codes "--"

-- a number of one digit (0 is byte 48), with `-` where it is below 0
abbrev pub signed_text : ℤ → List ℕ
signed_text (pos n) = (48 + n) ∷ []
signed_text (negsuc n) = codes "-" ++ (48 + (n + 1)) ∷ []

-- the names of a Clock's pin sets, in their order
abbrev pub pin_names : List (List ℕ)
pin_names =
    codes "UR" ∷ codes "DR" ∷ codes "DL" ∷ codes "UL" ∷ codes "U" ∷ codes "R" ∷ codes "D" ∷ codes "L" ∷ codes "ALL" ∷ []

-- the name that stands at the place of a pin set
abbrev pub name_of_set : ℕ → List ℕ
name_of_set pins = slice_index_or pin_names (position_or_len (λ set. set == pins) pin_sets) []

-- how many hours: 0 to 6 as that number and `+`, 7 to 11 as the number left to twelve and `-`
unfoldable pub hours_text : ℕ → List ℕ
hours_text amount = if nat_le amount 6 then (48 + amount) ∷ codes "+" else (48 + (12 - amount)) ∷ codes "-"

-- how a turn is written: the letters of a cube's faces, of axes, of tips and of a Megaminx's wide turns stand in the
-- order of their numbers
unfoldable pub spelling : Turn → List ℕ
spelling (Face face depth amount) =
    layers_before depth ++ letter_text (codes "URFDLB") face ++ layers_behind depth ++ amount_text 4 amount
spelling (Axis axis amount) = letter_text (codes "ULRB") axis ++ amount_text 3 amount
spelling (Tip tip amount) = letter_text (codes "ulrb") tip ++ amount_text 3 amount
spelling (Layers top bottom) = codes "(" ++ signed_text top ++ codes "," ++ signed_text bottom ++ codes ")"
spelling Twist = codes "/"
spelling (Pins pins amount) = name_of_set pins ++ hours_text amount
spelling Over = codes "y2"
spelling (Wide letter plus) = letter_text (codes "RDU") letter ++ way_text letter plus

-- the text of turns: their spellings with one space (byte 32) between
abbrev pub text_of : List Turn → List ℕ
text_of turns = join_with_byte 32 (map spelling turns)
