-- The headline: what is promised of fairness and of play where scrambles are written, by whatever the states are
-- numbered, whichever scramble a state has, and however a sheet is laid out below the heads of its rounds.
use Rattle.std.specs.Prelude.{◌≡◌, ◌⊎◌, ℕ, ◌+◌, ◌≤◌, ◌==◌, true, false, List, [], ◌∷◌, ◌++◌, Some, length, codes}
use Rattle.std.specs.List.{list_all, list_any}
use Rattle.scr_outside.specs.Change.{Change, Gains, Falters}
use Rattle.scr_draw.specs.StateSpace.{StateSpace, IsFairFor}
use Rattle.scr_notation.specs.declared.event.Event.{Event}
use Rattle.scr_notation.specs.declared.turn.Turn.{Turn}
use Rattle.scr_notation.specs.Spelling.{text_of}
use Rattle.scr_list.specs.declared.round.Round.{Round}
use Rattle.scr_list.specs.Names.{is_name_byte}
use Rattle.scr_round.specs.Round.{slots_of, heading}
use Rattle.scr_slots.specs.declared.settings.Settings.{Settings}
use Rattle.scr_slots.specs.Promised.{Promised, States, Moves, GivesDrawn, HasMoves, slot_numbers}
use Rattle.scr_slots.specs.Slots.{first_stream}
use Rattle.scr_sheet.specs.Sheet.{EachSlot}

-- The slots on streams one after another are drawn fairly. Of a puzzle's states: by some numbers of them, every state
-- that turns reach and that needs so many is drawn by equally many lists of numbers, and no other state by any; and
-- these turns give the states that the slots' numbers draw. Of random moves: each step takes each of its choices by
-- equally many numbers, and the slots have those of their streams.
abbrev pub AreFairScrambles : Promised → Settings → ℕ → ℕ → List (List Turn) → Type 0
AreFairScrambles (States S drawn) settings least stream scrambles =
    (count : ℕ) × (state_at : ℕ → S) × (
    let space : StateSpace S = record { count = count; state_at = state_at; puzzle = drawn.puzzle } in
    IsFairFor space least
    × EachSlot (λ s turns. GivesDrawn drawn space least (slot_numbers settings s) turns) stream scrambles)
AreFairScrambles (Moves random) settings least stream scrambles =
    random.AreFair × EachSlot (λ s turns. HasMoves random settings s (Some turns)) stream scrambles

-- no dot, which is byte 46, stands in it
abbrev pub HasNoDot : List ℕ → Type 0
HasNoDot text = list_any (λ byte. byte == 46) text ≡ false

-- A text in which these scrambles stand in order: each behind a dot and a space, to the end of its line (byte 10), and
-- there is no other dot. (No turn is spelled with one.)
pub data StandInOrder : List (List Turn) → List ℕ → Type 0 where
  no_more : (text : List ℕ) → HasNoDot text → StandInOrder [] text
  next : (before : List ℕ) (turns : List Turn) (others : List (List Turn)) (below : List ℕ) → HasNoDot before
      → StandInOrder others below → StandInOrder (turns ∷ others) (before ++ codes ". " ++ text_of turns ++ 10 ∷ below)

-- ---- what a run writes, whatever is said of the scrambles of an event's slots, on streams one after another

-- The text of a round, which is round k, counted from 0: its head, a line that names its event and its minimum, and
-- below it the scrambles of its slots in order, which are fair. It has at most 26 groups, so no two rounds share a stream.
pub record IsFairRound (AreFair : Event → Settings → ℕ → ℕ → List (List Turn) → Type 0) (k : ℕ) (settings : Settings) (text : List ℕ) : Type 0 where
  pub round : Round
  pub few_groups : round.groups ≤ 26
  pub scrambles : List (List Turn)
  pub each_slot : length scrambles ≡ slots_of round
  pub fair : AreFair round.event settings round.least (first_stream k) scrambles
  pub below : List ℕ
  pub in_order : StandInOrder scrambles below
  pub one_line : list_all is_name_byte round.name ≡ true
  pub is : text ≡ heading k round ++ 10 ∷ below

-- the text of rounds one after another, the first of them round k
pub data AreFairRounds (AreFair : Event → Settings → ℕ → ℕ → List (List Turn) → Type 0) : ℕ → Settings → List ℕ → Type 0 where
  no_round : (k : ℕ) (settings : Settings) → AreFairRounds AreFair k settings []
  another : (k : ℕ) (settings : Settings) (first rest : List ℕ) → IsFairRound AreFair k settings first
      → AreFairRounds AreFair (k + 1) settings rest → AreFairRounds AreFair k settings (first ++ rest)

-- the line of the one scramble of an event, which is fair, on stream 0 and with no minimum; and below it this text
pub record IsFairLine (AreFair : Event → Settings → ℕ → ℕ → List (List Turn) → Type 0) (below : List ℕ) (settings : Settings) (text : List ℕ) : Type 0 where
  pub event : Event
  pub turns : List Turn
  pub fair : AreFair event settings 0 0 (turns ∷ [])
  pub is : text ≡ text_of turns ++ 10 ∷ below

-- What was written is nothing, or such a text for some settings; or a first part of it, where the output failed.
pub record WritesOnly (IsSuch : Settings → List ℕ → Type 0) (out : Change) : Type 0 where
  pub settings : Settings
  pub text : List ℕ
  pub such : (text ≡ []) ⊎ IsSuch settings text
  pub written : Gains out text ⊎ Falters out text

-- What a run on these words writes of scrambles is fair: by `one` a line, by `net` a line with a text below it, by
-- `sheet` rounds.
abbrev pub IsFairRun : (Event → Settings → ℕ → ℕ → List (List Turn) → Type 0) → List (List ℕ) → Change → Type 0
IsFairRun AreFair [] out = Unit {0}
IsFairRun AreFair (command ∷ words) out =
    (command ≡ codes "one" → WritesOnly (IsFairLine AreFair []) out)
    × (command ≡ codes "net" → WritesOnly (λ settings text. (below : List ℕ) × IsFairLine AreFair below settings text) out)
    × (command ≡ codes "sheet" → WritesOnly (AreFairRounds AreFair 0) out)
