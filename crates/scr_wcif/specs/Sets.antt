-- The scrambles that a file takes over from a sheet.
use Rattle.std.specs.Prelude.{ℕ, List, All}
use Rattle.json.specs.Print.{IsNumber}
use Rattle.scr_notation.specs.declared.event.Event.{Event}

-- those of a group: the text of its number in the round, and the texts of its scrambles and of its extra ones
pub record ScrambleSet : Type 0 where
  pub number : List ℕ
  pub scrambles : List (List ℕ)
  pub extras : List (List ℕ)

-- those of a round's groups, with the round's event
pub record EventSets : Type 0 where
  pub event : Event
  pub sets : List ScrambleSet

-- those that a round of a file gets, by the id that it has there
pub record RoundSets : Type 0 where
  pub id : List ℕ
  pub sets : List ScrambleSet

-- what stands for their numbers are numbers
abbrev pub HaveNumbers : List ScrambleSet → Type 0
HaveNumbers sets = All (λ set. IsNumber set.number) sets

abbrev pub RoundHasNumbers : EventSets → Type 0
RoundHasNumbers round = HaveNumbers round.sets

abbrev pub SetsHaveNumbers : RoundSets → Type 0
SetsHaveNumbers round = HaveNumbers round.sets
