-- The solutions of a Square-1 that begin with other words to the square shape than the first one.
--
-- The first word to the square shape needn't be the one by which the whole solution is shortest. So here each word of
-- at most so many letters that leads there begins a solution, its total: the later stages go on from where it ends,
-- each with its first word. That these words are told by a test, and that they stand in the order of words, is our own
-- way of saying it.
use Rattle.std.specs.Prelude.{◌≡◌, ℕ, false, if◌then◌else◌, List, [], ◌++◌, Some}
use Rattle.std.specs.Option.{option_map_or}
use Rattle.scr_combinatorics.specs.Play.{play}
use Rattle.scr_combinatorics.specs.Stages.{spelled, IsSolution}
use Rattle.scr_combinatorics.specs.Tidy.{tidy}
use Rattle.scr_notation.specs.declared.turn.Turn.{Turn}
use Rattle.scr_notation.specs.Turning.{turn_merging}
use Rattle.scr_sq1.specs.Units.{Sq1State, sq1_after}
use Rattle.scr_sq1tables.specs.Stages.{shape_letter, later_stages, equator_word}

-- The word that turns the equator, where these turns would leave it turned.
unfoldable pub equator_part : Sq1State → List Turn → List Turn
equator_part s layers = if option_map_or (λ r. r.equator) (play sq1_after s layers) false then equator_word else []

-- The total of a word of letters of the first stage: its turns and the words of the later stages from where they lead
-- solve the layers; before them the equator is turned, where they would leave it turned; and all of it is tidied.
pub record IsTotal (s : Sq1State) (word : List ℕ) (total : List Turn) : Type 0 where
  pub end : Sq1State
  pub shaped : play sq1_after s (spelled shape_letter word) ≡ Some end
  pub later : List Turn
  pub solved : IsSolution sq1_after later_stages end later
  pub tidied : total ≡ tidy turn_merging
      (let layers : List Turn = spelled shape_letter word ++ later in equator_part s layers ++ layers)
