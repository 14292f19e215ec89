-- The one turn of a kind that a word can be the spelling of, as its number among the kind's turns. It follows from a few
-- bytes of the word; whether the word is its spelling is looked at afterwards. No public contract names these.
use Rattle.std.specs.Prelude.{ℕ, ◌+◌, ◌*◌, ◌-◌, ◌==◌, if◌then◌else◌, List, length, codes, slice_index_or, unwrap_or, position}
use Rattle.scr_notation.specs.declared.event.Kind.{Kind}
use Rattle.scr_notation.specs.declared.event.Kind.TheVariants.{Faces, Axes, LayersAndTwist, PinSets, WideTurns}

-- the byte at a place of a word; 0 behind its end
abbrev pub byte_at : List ℕ → ℕ → ℕ
byte_at word place = slice_index_or word place 0

-- the place of a letter; how many letters there are where it isn't among them
abbrev pub place_in : List ℕ → ℕ → ℕ
place_in letters letter = unwrap_or (position (λ l. l == letter) letters) (length letters)

-- three layers have a 3 (byte 51) before the letter, two a w (byte 119) behind it
unfoldable pub layers_candidate : ℕ → ℕ → ℕ
layers_candidate first second = if first == 51 then 2 else if second == 119 then 1 else 0

-- three quarters end with ' (byte 39), two with 2 (byte 50)
unfoldable pub quarters_candidate : ℕ → ℕ
quarters_candidate last = if last == 39 then 2 else if last == 50 then 1 else 0

unfoldable pub face_candidate : List ℕ → ℕ
face_candidate word =
    let letter = if byte_at word 0 == 51 then byte_at word 1 else byte_at word 0 in
    18 * layers_candidate (byte_at word 0) (byte_at word 1)
    + (3 * place_in (codes "URFDLB") letter + quarters_candidate (byte_at word (length word - 1)))

unfoldable pub axis_candidate : List ℕ → ℕ
axis_candidate word =
    2 * place_in (codes "ULRBulrb") (byte_at word 0) + (if byte_at word 1 == 39 then 1 else 0)

-- twelfths from this place on, counted from -5: a digit, or - (byte 45) and a digit
unfoldable pub twelfths_candidate : List ℕ → ℕ → ℕ
twelfths_candidate word place =
    if byte_at word place == 45
    then 5 - place_in (codes "0123456") (byte_at word (place + 1))
    else 5 + place_in (codes "0123456") (byte_at word place)

-- the bottom layer's stand behind the comma; the twist is / (byte 47)
unfoldable pub layer_candidate : List ℕ → ℕ
layer_candidate word =
    if byte_at word 0 == 47
    then 65
    else 12 * twelfths_candidate word 1 + twelfths_candidate word (if byte_at word 1 == 45 then 4 else 3)

-- the first two letters tell the names of pin sets: UR DR DL UL U R D L ALL
unfoldable pub set_candidate : ℕ → ℕ → ℕ
set_candidate first second =
    if second == 82 then place_in (codes "UD") first
    else if first == 65 then 8
    else if second == 76 then 3 - place_in (codes "UD") first
    else 4 + place_in (codes "URDL") first

-- a digit and + or - at the end; the turn over is y2, and y is byte 121
unfoldable pub clock_candidate : List ℕ → ℕ
clock_candidate word =
    let digit = place_in (codes "0123456") (byte_at word (length word - 2)) in
    let hours = if byte_at word (length word - 1) == 45 then 12 - digit else digit in
    if byte_at word 0 == 121 then 108 else 12 * set_candidate (byte_at word 0) (byte_at word 1) + hours

-- U' has ' behind its letter, R-- and D-- have -
unfoldable pub wide_candidate : List ℕ → ℕ
wide_candidate word =
    let second = byte_at word 1 in
    2 * place_in (codes "RDU") (byte_at word 0) + (if second == 39 then 1 else if second == 45 then 1 else 0)

unfoldable pub candidate : Kind → List ℕ → ℕ
candidate (Faces near far) word = face_candidate word
candidate (Axes tips) word = axis_candidate word
candidate LayersAndTwist word = layer_candidate word
candidate PinSets word = clock_candidate word
candidate WideTurns word = wide_candidate word
