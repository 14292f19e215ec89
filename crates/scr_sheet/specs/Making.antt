-- What the making of a round gives.
use Rattle.std.specs.Prelude.{◌≡◌, ℕ, ◌*◌, ◌<◌, Bool, List, ◌∷◌, ◌++◌, Option, Some, None, length, map}
use Rattle.scr_notation.specs.EventSets.{Has}
use Rattle.scr_notation.specs.Written.{Written}
use Rattle.scr_list.specs.declared.round.Round.{Round}
use Rattle.scr_slots.specs.declared.settings.Settings.{Settings}
use Rattle.scr_slots.specs.Ranges.{AreInRange}
use Rattle.scr_slots.specs.Slots.{IsSlotAnswer}
use Rattle.scr_slots.specs.Events.{scrambling_of}
use Rattle.scr_round.specs.Round.{IsInRange}
use Rattle.scr_round.specs.Made.{Made}
use Rattle.scr_sheet.specs.declared.making.RoundFault.{RoundFault}
use Rattle.scr_sheet.specs.declared.making.RoundFault.TheVariants.{NoMemory, Limit}
use Rattle.scr_sheet.specs.Sheet.{Part, EachSlot, round_part, AreScrambles, IsFirstWithout}

-- the slots of round k of a list, counted from 0, and what they are made with
pub record RoundSlots : Type 0 where
  pub settings : Settings
  pub index : ℕ
  pub round : Round

-- Round k of a list can be made: there are the tables of its event, k is small, and its numbers and the settings are in
-- their ranges. Its name may hold anything.
pub record CanBeMade (tables : List Bool) (settings : Settings) (k : ℕ) (round : Round) : Type 0 where
  pub has_tables : Has tables round.event
  pub few_before : k < 256
  pub round_in_range : IsInRange round
  pub in_range : AreInRange settings

-- the answers of a part, one for each slot in order
pub record AreAnswers (settings : Settings) (part : Part) (answers : List (Option Written)) : Type 0 where
  pub each_slot : length answers ≡ part.slots
  pub each : EachSlot (IsSlotAnswer (scrambling_of part.event) settings part.least) part.first_stream answers

-- round k was made: each slot has its scramble
pub record IsRoundMade (settings : Settings) (k : ℕ) (round : Round) (made : Made) : Type 0 where
  pub same_round : made.round ≡ round
  pub same_index : made.index ≡ k
  pub scrambles : AreScrambles settings (round_part k round) (round_part k round).slots made.scrambles

-- a slot of a part, the first without a scramble, whose attempts took so many words
pub record IsLimit (settings : Settings) (part : Part) (slot words : ℕ) : Type 0 where
  pub first : IsFirstWithout settings part slot
  pub taken : words ≡ 3 * settings.attempts

-- why the scrambles of a part were not made
abbrev pub IsPartFault : Settings → Part → RoundFault → Type 0
IsPartFault settings part NoMemory = Unit {0}
IsPartFault settings part (Limit slot words) = IsLimit settings part slot words

-- an answer is none, and those before it are some
pub record IsFirstNone (answers : List (Option Written)) (place : ℕ) : Type 0 where
  pub before : List Written
  pub behind : List (Option Written)
  pub are : answers ≡ map Some before ++ None ∷ behind
  pub as_many : length before ≡ place
