-- What a command writes: parts one after another, each the lines of some slots' scrambles.
use Rattle.std.specs.Prelude.{◌≡◌, ℕ, ◌+◌, ◌<◌, List, [], ◌∷◌, ◌++◌, length, codes, slice_index_or, Option, Some, None}
use Rattle.std.specs.Option.{option_map_or}
use Rattle.scr_combinatorics.specs.Play.{play}
use Rattle.scr_notation.specs.declared.event.Event.{Event}
use Rattle.scr_notation.specs.declared.turn.Turn.{Turn}
use Rattle.scr_notation.specs.Spelling.{text_of}
use Rattle.scr_notation.specs.Written.{Written}
use Rattle.scr_words.specs.declared.seed.Seed.{Seed}
use Rattle.scr_list.specs.declared.round.Round.{Round}
use Rattle.scr_command.specs.declared.options.Options.{Options}
use Rattle.scr_net.specs.Nets.{net_after, solved_net}
use Rattle.scr_net.specs.NetText.{net_text}
use Rattle.scr_round.specs.Round.{slots_of, round_text}
use Rattle.scr_round.specs.Made.{turns_of_each}
use Rattle.scr_slots.specs.declared.settings.Settings.{Settings}
use Rattle.scr_slots.specs.Slots.{IsSlotScramble, HasNoScramble, first_stream}
use Rattle.scr_slots.specs.Events.{scrambling_of}

-- what a sheet is made with
abbrev pub settings_of : Seed → Options → Settings
settings_of seed options = record {
  seed = seed;
  attempts = options.attempts;
  effort = record { tries = options.tries; short = options.short };
}

-- A part: slots of an event with one minimum, on streams one after another, and its text with their scrambles.
pub record Part : Type 0 where
  pub event : Event
  pub least : ℕ
  pub first_stream : ℕ
  pub slots : ℕ
  pub text : List (List Turn) → List ℕ

-- round k of a list, counted from 0
abbrev pub round_part : ℕ → Round → Part
round_part k round = record {
  event = round.event;
  least = round.least;
  first_stream = first_stream k;
  slots = slots_of round;
  text = round_text k round;
}

-- the rounds of a list, the first of them round k
abbrev pub round_parts : ℕ → List Round → List Part
round_parts k [] = []
round_parts k (round ∷ rounds) = round_part k round ∷ round_parts (k + 1) rounds

-- the line of a scramble
abbrev pub line_of : List Turn → List ℕ
line_of turns = text_of turns ++ codes "\n"

-- what is shown below it: the net of a solved cube with so many layers after its turns, where one is
abbrev pub shown_net : Option ℕ → List Turn → List ℕ
shown_net None turns = []
shown_net (Some side) turns = option_map_or (net_text side) (play (net_after side) (solved_net side) turns) []

-- one scramble of an event, with no minimum, on stream 0, and the net that is shown of a cube with so many layers
abbrev pub single_part : Event → Option ℕ → Part
single_part event side = record {
  event = event;
  least = 0;
  first_stream = 0;
  slots = 1;
  text = λ scrambles. let turns = slice_index_or scrambles 0 [] in line_of turns ++ shown_net side turns;
}

-- it is so of what slots have, one after another, the first of them on this stream
abbrev pub EachSlot : {X : Type 0} → (ℕ → X → Type 0) → ℕ → List X → Type 0
EachSlot Is stream [] = Unit {0}
EachSlot Is stream (x ∷ xs) = Is stream x × EachSlot Is (stream + 1) xs

-- the scrambles of so many of a part's slots, from the first on
pub record AreScrambles (settings : Settings) (part : Part) (slots : ℕ) (scrambles : List Written) : Type 0 where
  pub each_slot : length scrambles ≡ slots
  pub each : EachSlot (IsSlotScramble (scrambling_of part.event) settings part.least) part.first_stream scrambles

-- the text of a part, each of whose slots has a scramble
pub record IsPartText (settings : Settings) (part : Part) (text : List ℕ) : Type 0 where
  pub scrambles : List Written
  pub all : AreScrambles settings part part.slots scrambles
  pub is : text ≡ part.text (turns_of_each scrambles)

-- It is a text of parts one after another, each of which has such a text.
abbrev pub IsText : (Part → List ℕ → Type 0) → List Part → List ℕ → Type 0
IsText IsOne [] text = text ≡ []
IsText IsOne (part ∷ parts) text =
    (first : List ℕ) × (rest : List ℕ) × IsOne part first × IsText IsOne parts rest × (text ≡ first ++ rest)

-- slot j of a part has no scramble, and is the first such: those before it have theirs
pub record IsFirstWithout (settings : Settings) (part : Part) (j : ℕ) : Type 0 where
  pub below : j < part.slots
  pub nothing : HasNoScramble (scrambling_of part.event) settings part.least (part.first_stream + j)
  pub before : List Written
  pub all_before : AreScrambles settings part j before
