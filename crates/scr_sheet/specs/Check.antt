-- How a sheet is checked: the input is a round list and, behind the line `=====`, a sheet, which is held against the
-- lines that the sheet of these rounds has.
use Rattle.std.specs.Prelude.{◌≡◌, ◌↔◌, ◌⊎◌, ◌+◌, ◌*◌, ◌-◌, ◌≤◌, ℕ, Bool, true, false, IsTrue, List, [], ◌∷◌, ◌++◌, length, map, take, filter, slice_get}
use Rattle.std.specs.Prelude.{Option, Some, None, Result, Ok, Err}
use Rattle.std.specs.Result.{result_map_both}
use Rattle.std.specs.Str.{bytes_eq}
use Rattle.scr_outside.specs.Change.{Change, Gives, TellsEnd}
use Rattle.scr_check.specs.declared.fault.Missing.{Missing}
use Rattle.scr_check.specs.declared.fault.CheckFault.{CheckFault}
use Rattle.scr_check.specs.Agreement.{ExpectedLines, ComesTo}
use Rattle.scr_check.specs.Lines.{cut_lines}
use Rattle.scr_check.specs.Parts.{list_part, sheet_part, list_room}
use Rattle.scr_check.specs.Reading.{Reading, Takes}
use Rattle.scr_check.specs.Taken.{CanFollow, TakesListPart, StopsInPart}
use Rattle.scr_words.specs.declared.seed.Seed.{Seed}
use Rattle.scr_list.specs.declared.fault.ListFault.{ListFault}
use Rattle.scr_list.specs.declared.fault.ListFault.TheVariants as list
use Rattle.scr_list.specs.Reading.{ReadsInPart}
use Rattle.scr_list.specs.declared.round.Round.{Round}
use Rattle.scr_list.specs.Rounds.{rounds_of}
use Rattle.scr_notation.specs.declared.event.Event.{Event}
use Rattle.scr_round.specs.Round.{Line, Fixed, Slot, round_lines}
use Rattle.scr_slots.specs.declared.settings.Settings.{Settings}
use Rattle.scr_notation.specs.Event.{is_tested_by_table}
use Rattle.scr_slots.specs.Agreement.{TextAgrees}
use Rattle.scr_slots.specs.Events.{scrambling_of}
use Rattle.scr_slots.specs.Slots.{HasNoScramble, first_stream}
use Rattle.scr_fault.specs.declared.fault.Fault.{Fault}
use Rattle.scr_fault.specs.declared.fault.Fault.TheVariants as fault
use Rattle.scr_fault.specs.Faults.{fault_of_check}
use Rattle.scr_sheet.specs.Causes.{LacksTables}

-- ---- the lines that are expected

-- a line of round k of a list, counted from 0
pub record ListLine : Type 0 where
  pub k : ℕ
  pub round : Round
  pub line : Line

-- the lines of the sheet of rounds, the first of them round k
abbrev pub list_lines : ℕ → List Round → List ListLine
list_lines k [] = []
list_lines k (round ∷ rounds) =
    map (λ line. record { k = k; round = round; line = line }) (round_lines k round) ++ list_lines (k + 1) rounds

-- a text is the label of a slot and behind it one that agrees with the slot
pub record SlotLineAgrees (settings : Settings) (k : ℕ) (round : Round) (label : List ℕ) (slot : ℕ) (text : List ℕ) : Type 0 where
  pub behind : List ℕ
  pub is : text ≡ label ++ behind
  pub agrees : TextAgrees (scrambling_of round.event) settings round.least (first_stream k + slot) behind

-- What is answered for a line and a text. A fixed line agrees with its own text alone. Of a slot's line it is whether
-- they agree, or that the slot has no scramble: its round and it are then counted from 1.
abbrev pub IsLineAnswer : Settings → ℕ → Round → Line → List ℕ → Result Bool Missing → Type 0
IsLineAnswer settings k round (Fixed own) text answer = answer ≡ Ok (bytes_eq text own)
IsLineAnswer settings k round (Slot label slot) text (Ok told) =
    (HasNoScramble (scrambling_of round.event) settings round.least (first_stream k + slot) → ⊥)
    × (IsTrue told ↔ SlotLineAgrees settings k round label slot text)
IsLineAnswer settings k round (Slot label slot) text (Err missing) =
    HasNoScramble (scrambling_of round.event) settings round.least (first_stream k + slot)
    × (missing ≡ record { round = k + 1; slot = slot + 1; words = 3 * settings.attempts })

-- it is what is answered for a line of a round and a text
pub record IsPlaceAnswer (settings : Settings) (k : ℕ) (round : Round) (place : ℕ) (text : List ℕ) (answer : Result Bool Missing) : Type 0 where
  pub own : Line
  pub there : slice_get (round_lines k round) place ≡ Some own
  pub answered : IsLineAnswer settings k round own text answer

-- what a checker's lines are those of
pub record SheetRounds : Type 0 where
  pub settings : Settings
  pub rounds : List Round

-- it is what is answered for line i of these and a text
pub record IsAnswerAt (settings : Settings) (lines : List ListLine) (i : ℕ) (text : List ℕ) (answer : Result Bool Missing) : Type 0 where
  pub line : ListLine
  pub there : slice_get lines (i - 1) ≡ Some line
  pub answered : IsLineAnswer settings line.k line.round line.line text answer

-- the lines that the sheet of a list's rounds has
abbrev pub expected_lines : Settings → List Round → ExpectedLines
expected_lines settings rounds =
    record { count = length (list_lines 0 rounds); IsAnswer = IsAnswerAt settings (list_lines 0 rounds) }

-- ---- what an input comes to

-- The rounds that its list part names, of which no more is read than tells that it is too long.
abbrev pub rounds_in : List ℕ → Result (List Round) ListFault
rounds_in input = rounds_of (take list_room (list_part input))

-- The list part is no list; or its rounds are these, and the sheet part was held against their lines.
abbrev pub InputComesTo : Settings → Result (List Round) ListFault → List ℕ → Result (Unit {0}) Fault → Type 0
InputComesTo settings (Err list) input answer = answer ≡ Err (fault.List list)
InputComesTo settings (Ok rounds) input answer =
    (found : Result (Unit {0}) CheckFault)
    × ComesTo (expected_lines settings rounds) (cut_lines (sheet_part input)) found
    × (answer ≡ result_map_both (λ done. done) fault_of_check found)

-- the events of a list's rounds that are tested by tables as they are drawn
abbrev pub tested_events : List Round → List Event
tested_events rounds = map (λ round. round.event) (filter (λ round. is_tested_by_table round.event) rounds)

-- What was read of an input tells this of all of it, whatever may follow; nothing follows where the end was met.
pub record ReadsInput (source : Change) (Tells : List ℕ → Type 0) : Type 0 where
  pub bytes : List ℕ
  pub ended : Bool
  pub gives : Gives source bytes
  pub end : ended ≡ true → TellsEnd source
  pub no_end : ended ≡ false → source.ends_after ≡ source.ends_before
  pub tells : (rest : List ℕ) → CanFollow ended rest → Tells (bytes ++ rest)

-- What the check of an input ends with, by what was read of it. That is what the input comes to. Or the tables could
-- not be built by which the states of its rounds are tested: then its list part was read, which names these rounds, and
-- of its sheet part 4,096 bytes at most. Or it could not be read.
abbrev pub EndsChecking : Settings → Change → Result (Unit {0}) Fault → Type 0
EndsChecking settings source answer =
    ReadsInput source (λ input. InputComesTo settings (rounds_in input) input answer)
    ⊎ (((named : List Round) × (read : ReadsInput source (λ input. rounds_in input ≡ Ok named))
    × (length (sheet_part read.bytes) ≤ 4096) × LacksTables (tested_events named) answer)
    ⊎ ((answer ≡ Err (fault.List list.Read)) × ReadsInPart source length))

-- a check is made with a seed and so many attempts a slot; no scramble is looked for
abbrev pub check_settings : Seed → ℕ → Settings
check_settings seed attempts = record { seed = seed; attempts = attempts; effort = record { tries = 0; short = 1 } }

-- ---- what the calls on that way give

-- what stands in a text behind a label, if the text begins with it
abbrev pub IsBehind : List ℕ → List ℕ → Option (List ℕ) → Type 0
IsBehind label text (Some behind) = text ≡ label ++ behind
IsBehind label text None = (behind : List ℕ) → text ≡ label ++ behind → ⊥

-- a line of the sheet of rounds is this one of round k
pub record IsPlacedAt (rounds : List Round) (line k place : ℕ) : Type 0 where
  pub round : Round
  pub round_there : slice_get rounds k ≡ Some round
  pub own : Line
  pub own_there : slice_get (round_lines k round) place ≡ Some own
  pub there : slice_get (list_lines 0 rounds) line ≡ Some (record { k = k; round = round; line = own })

module _ {S : Type 0} (left : S → Option (List ℕ)) (faults ends : S → ℕ) where
  -- a list part was taken, which says this
  pub record TakesList (before after : Reading S) (answer : Result (List Round) ListFault) : Type 0 where
    pub list : List ℕ
    pub takes : TakesListPart left faults ends before after list
    pub says : rounds_of list ≡ answer

  -- A list part was taken, which says this, or the source failed in it.
  abbrev pub ReadsListPart : Reading S → Reading S → Result (List Round) ListFault → Type 0
  ReadsListPart before after (Ok rounds) = TakesList before after (Ok rounds)
  ReadsListPart before after (Err (list.Line number cause)) = TakesList before after (Err (list.Line number cause))
  ReadsListPart before after (Err (list.TooLong limit)) = TakesList before after (Err (list.TooLong limit))
  ReadsListPart before after (Err list.Read) = StopsInPart left faults ends before after

  -- What was taken of an input tells this of all that may still come.
  pub record TakesInput (before after : Reading S) (Tells : List ℕ → Type 0) : Type 0 where
    pub bytes : List ℕ
    pub takes : Takes left faults ends before after bytes
    pub tells : (rest : List ℕ) → CanFollow after.ended rest → Tells (bytes ++ rest)

  -- What a check ends with whose input is what a reader has still to give. Where the tables could not be built, no more
  -- than the list part was taken, and 4,096 bytes at most were read ahead.
  abbrev pub EndsReading : Reading S → Reading S → Settings → Result (Unit {0}) Fault → Type 0
  EndsReading before after settings answer =
      TakesInput before after (λ input. InputComesTo settings (rounds_in input) input answer)
      ⊎ (((named : List Round) × TakesList before after (Ok named) × (length after.ahead ≤ 4096)
      × LacksTables (tested_events named) answer)
      ⊎ ((answer ≡ Err (fault.List list.Read)) × StopsInPart left faults ends before after))
