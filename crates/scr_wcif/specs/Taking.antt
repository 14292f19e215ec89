-- What a file takes over from a sheet.
use Rattle.std.specs.Prelude.{ℕ, ◌≡◌, ◌+◌, List, [], ◌∷◌, map, take, drop}
use Rattle.std.specs.Fmt.{decimal}
use Rattle.scr_notation.specs.declared.event.Event.{Event}
use Rattle.scr_notation.specs.declared.turn.Turn.{Turn}
use Rattle.scr_notation.specs.Event.{per_group_of}
use Rattle.scr_notation.specs.Spelling.{text_of}
use Rattle.scr_read.specs.Sheets.{SheetRound, IsSheet}
use Rattle.scr_read.specs.Faults.{IsFirstFault}
use Rattle.scr_wcif.specs.declared.fault.FileFault.{FileFault}
use Rattle.scr_wcif.specs.declared.fault.FileFault.TheVariants as file
use Rattle.scr_wcif.specs.Sets.{ScrambleSet, EventSets}

-- the set of group `number`, from 0, of a round: its number from 1, the texts of its scrambles, and those of the extra
-- ones, which stand behind as many as a group of the event has
abbrev pub taken_set : Event → ℕ → List (List Turn) → ScrambleSet
taken_set event number group = record {
  number = decimal (number + 1);
  scrambles = map text_of (take (per_group_of event) group);
  extras = map text_of (drop (per_group_of event) group);
}

-- those of groups, the first of them with this number
abbrev pub taken_from : Event → ℕ → List (List (List Turn)) → List ScrambleSet
taken_from event number [] = []
taken_from event number (group ∷ groups) = taken_set event number group ∷ taken_from event (number + 1) groups

-- those of a round of a sheet
abbrev pub taken_round : SheetRound → EventSets
taken_round round = record { event = round.event; sets = taken_from round.event 0 round.groups }

-- a text is a sheet, of whose rounds these are the sets
pub record IsSheetOf (text : List ℕ) (sets : List EventSets) : Type 0 where
  pub rounds : List SheetRound
  pub is : IsSheet text rounds
  pub sets_are : sets ≡ map taken_round rounds

-- it is none: this line is its first at fault, for this cause
abbrev pub IsNoSheet : List ℕ → FileFault → Type 0
IsNoSheet text (file.SheetLine line cause) = IsFirstFault text (record { line = line; cause = cause })
IsNoSheet text other = ⊥
