-- The letters of the stages, each kind by its name, and the turns that their words come to.
use Rattle.std.specs.Prelude.{ℕ, ◌/◌, ◌%◌, ◌==◌, nat_lt, pos, ◌-ℤ◌, ◌+ℤ◌, if◌then◌else◌, List, [], ◌∷◌}
use Rattle.scr_notation.specs.declared.turn.Turn.{Turn}
use Rattle.scr_notation.specs.TurnNumbers.{layer_turn_at}
use Rattle.scr_sq1.specs.Units.{Sq1State}
use Rattle.scr_sq1tables.specs.Stages.{turn_word, quarters, quarter_word, squaring_letter, shape_stage, squaring_stage, pairing_stage, home_stage, last_stage}
use Rattle.scr_sq1tables.specs.declared.stage_letters.StageLetters.{StageLetters}
use Rattle.scr_sq1tables.specs.declared.stage_letters.StageLetters.TheVariants.{OfShapes, OfPairings, OfHome, Squarings, Quarters}
use Rattle.scr_combinatorics.specs.Stages.{Stage}

-- the stage with these letters
abbrev pub stage_of : StageLetters → Stage Sq1State Turn
stage_of OfShapes = shape_stage
stage_of OfPairings = pairing_stage
stage_of OfHome = home_stage
stage_of Squarings = squaring_stage
stage_of Quarters = last_stage

-- the word of the letter with this number
abbrev pub letter_of : StageLetters → ℕ → List Turn
letter_of letters = (stage_of letters).letter

-- the turn of the layers with which it begins
abbrev pub first_word : StageLetters → ℕ → List Turn
first_word OfShapes n = turn_word (pos (n / 12) -ℤ pos 5) (pos (n % 12) -ℤ pos 5)
first_word OfPairings n =
    if nat_lt n 16 then turn_word (quarters (n / 4 % 4)) (quarters (n % 4) -ℤ pos 1)
    else turn_word (quarters (n / 4 % 4) +ℤ pos 1) (quarters (n % 4))
first_word OfHome n = quarter_word (n % 16)
first_word Squarings n = squaring_letter n
first_word Quarters n = quarter_word n

-- the turn of the layers with this number as a word: none where neither turns, whose number is the twist's
abbrev pub layers_word : ℕ → List Turn
layers_word n = if n == 65 then [] else layer_turn_at n ∷ []
