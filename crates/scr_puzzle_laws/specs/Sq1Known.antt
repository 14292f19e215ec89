-- Words and states that are known from elsewhere, and the puzzle turned over.
use Rattle.std.specs.Prelude.{◌≡◌, ℕ, ◌-◌, ◌++◌, ℤ, pos, neg_ℤ, Bool, if◌then◌else◌, nat_lt, List, [], ◌∷◌, Some, map, replicate, flat_map, codes}
use Rattle.scr_combinatorics.specs.Lists.{numbers_from, pick}
use Rattle.scr_combinatorics.specs.Play.{play}
use Rattle.scr_notation.specs.declared.turn.Turn.{Turn}
use Rattle.scr_notation.specs.declared.turn.Turn.TheVariants.{Layers, Twist}
use Rattle.scr_notation.specs.Spelling.{text_of}
use Rattle.scr_sq1.specs.Units.{Sq1State, IsSq1, solved_sq1, sq1_after}
use Rattle.scr_sq1.specs.Shapes.{shape_of, shape_number}

-- ---- words

-- anticlockwise by so many twelfths
abbrev pub anticlockwise : ℕ → ℤ
anticlockwise n = neg_ℤ (pos n)

-- Turns of the layers, each with a twist behind it.
abbrev pub slices : List (ℤ × ℤ) → List Turn
slices [] = []
slices (amounts ∷ rest) = Layers amounts.0 amounts.1 ∷ Twist ∷ slices rest

-- What a word is written as, and the state that it leads to from solved.
pub record IsKnownWord (word : List Turn) (text : List ℕ) (s : Sq1State) : Type 0 where
  pub spelled : text_of word ≡ text
  pub plays : play sq1_after solved_sq1 word ≡ Some s

-- A word that leads from solved to solved when it is done so many times.
abbrev pub ReturnsAfter : ℕ → List Turn → Type 0
ReturnsAfter times word = play sq1_after solved_sq1 (flat_map (λ again. again) (replicate times word)) ≡ Some solved_sq1

-- Units as they are written here: each by its piece as a digit in base 16, 0 to 7 for corners and 8 to f for edges.
abbrev pub units_written : List ℕ → List ℕ
units_written digits = map (λ digit. if nat_lt digit 97 then digit - 48 else digit - 87) digits

-- the layers of the solved state
abbrev pub solved_top : List ℕ
solved_top = codes "00811922a33b"

abbrev pub solved_bottom : List ℕ
solved_bottom = codes "c44d55e66f77"

-- the state with these layers
abbrev pub layers : List ℕ → List ℕ → Bool → Sq1State
layers top bottom equator = record { units = units_written (top ++ bottom); equator = equator }

-- The algorithm that exchanges the edges at the right of the front and at the left of the back, and nothing else.
abbrev pub parity_word : List Turn
parity_word =
    Twist
    ∷ slices ((pos 3, pos 3) ∷ (pos 1, pos 0) ∷ (anticlockwise 2, anticlockwise 2) ∷ (pos 2, pos 0) ∷ (pos 2, pos 2)
    ∷ (anticlockwise 1, pos 0) ∷ (anticlockwise 3, anticlockwise 3) ∷ (anticlockwise 2, pos 0) ∷ (pos 3, pos 3)
    ∷ (pos 3, pos 0) ∷ (anticlockwise 1, anticlockwise 1) ∷ (anticlockwise 3, pos 0) ∷ (pos 1, pos 1) ∷ [])
    ++ Layers (anticlockwise 4) (anticlockwise 3) ∷ []

-- A word that turns the layers by nearly every amount, through shapes that are no squares.
abbrev pub long_word : List Turn
long_word =
    slices ((pos 1, pos 3) ∷ (anticlockwise 4, anticlockwise 1) ∷ (pos 0, pos 1) ∷ (pos 3, pos 0) ∷ (pos 1, pos 2)
    ∷ (anticlockwise 4, anticlockwise 3) ∷ (pos 0, pos 6) ∷ (pos 4, anticlockwise 3) ∷ (pos 6, pos 2) ∷ (pos 6, pos 4)
    ∷ (pos 2, anticlockwise 4) ∷ (pos 5, anticlockwise 5) ∷ (anticlockwise 5, pos 6) ∷ (anticlockwise 4, pos 5)
    ∷ (anticlockwise 2, pos 6) ∷ (anticlockwise 1, anticlockwise 2) ∷ [])

-- ---- states

-- Units that have a corner across the cut, at one of the four places: units 11 and 0, 5 and 6, 23 and 12, 17 and 18.
abbrev pub barred_units : List (List ℕ)
barred_units =
    map units_written
    ((codes "08119a2233b0" ++ solved_bottom) ∷ (codes "0089a112233b" ++ solved_bottom)
    ∷ (solved_top ++ codes "4c55de6677f4") ∷ (solved_top ++ codes "44cde556677f") ∷ [])

-- Units that can't be put together: edge 8 stands twice; corner 0 is split in one layer; it is split between the
-- layers; a unit is missing.
abbrev pub impossible_units : List (List ℕ)
impossible_units =
    map units_written
    ((codes "00811822a33b" ++ solved_bottom) ∷ (codes "08011922a33b" ++ solved_bottom)
    ∷ codes "0c811922a33b044d55e66f77" ∷ (codes "00811922a33" ++ solved_bottom) ∷ [])

-- These units are of no state.
abbrev pub AreOfNoState : List ℕ → Type 0
AreOfNoState units = (equator : Bool) → IsSq1 (record { units = units; equator = equator }) → ⊥

-- Written units whose halves have these numbers, and the number of the shape that these make.
pub record HasShape (digits halves : List ℕ) (number : ℕ) : Type 0 where
  pub consists : shape_of (units_written digits) ≡ halves
  pub numbered : shape_number halves ≡ number

-- ---- turned over

-- The puzzle turned over about the axis from left to right: the layers are exchanged, and the right half stays at the
-- right.
abbrev pub turned_over_sq1 : Sq1State → Sq1State
turned_over_sq1 s = record { units = pick s.units (numbers_from 12 12 ++ numbers_from 0 12); equator = s.equator }
