-- The words that lead to the square shape, told by a test, in the order of words. That they are told so is our own way of
-- saying it.
use Rattle.std.specs.Prelude.{ℕ, ◌==◌, ◌&&◌, Bool, false, List, filter}
use Rattle.std.specs.List.{list_any}
use Rattle.std.specs.Option.{option_map_or}
use Rattle.std.specs.Str.{bytes_eq}
use Rattle.scr_combinatorics.specs.Lists.{numbers_from}
use Rattle.scr_combinatorics.specs.Play.{play}
use Rattle.scr_combinatorics.specs.Stages.{by_letters}
use Rattle.scr_sq1.specs.Units.{Sq1State, solved_sq1, sq1_after}
use Rattle.scr_sq1.specs.Shapes.{shape_of}
use Rattle.scr_sq1tables.specs.Stages.{oddness, squaring_letter, shape_letter}
use Rattle.scr_combinatorics.specs.Words.{words_within}

-- A state is normal, as a test.
abbrev pub is_normal : Sq1State → Bool
is_normal s = bytes_eq (shape_of s.units) (shape_of solved_sq1.units) && oddness s == 0

-- One of the four turns that end the square shape makes it normal.
unfoldable pub is_squared : Sq1State → Bool
is_squared s = list_any (λ n. option_map_or is_normal (play sq1_after s (squaring_letter n)) false) (numbers_from 0 4)

-- A shape word of a state: a word of letters of the first stage, told by their numbers, after which one of the four
-- turns makes the state normal. It may have come to such a state before.
unfoldable pub is_shape_word : Sq1State → List ℕ → Bool
is_shape_word s word = option_map_or is_squared (play (by_letters sq1_after 144 shape_letter) s word) false

-- those of at most 13 letters, in the order of words: by length, and then by the letters' numbers
unfoldable pub shape_words : Sq1State → List (List ℕ)
shape_words s = filter (is_shape_word s) (words_within (numbers_from 0 144) 13)
