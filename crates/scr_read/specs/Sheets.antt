-- A sheet: rounds one after another, each with its scrambles, and its text.
use Rattle.std.specs.Prelude.{ℕ, ◌≡◌, ◌+◌, ◌≤◌, List, [], ◌∷◌, ◌++◌, length, All}
use Rattle.scr_notation.specs.declared.event.Event.{Event}
use Rattle.scr_notation.specs.declared.turn.Turn.{Turn}
use Rattle.scr_notation.specs.Event.{per_group_of}
use Rattle.scr_notation.specs.Written.{IsWritten}
use Rattle.scr_list.specs.declared.round.Round.{Round}
use Rattle.scr_list.specs.Rounds.{IsRound}
use Rattle.scr_round.specs.Round.{round_text}

-- what a sheet has of a round: its event, its minimum, its name, and the scrambles of each of its groups
pub record SheetRound : Type 0 where
  pub event : Event
  pub least : ℕ
  pub name : List ℕ
  pub groups : List (List (List Turn))

-- the round as lists name it
abbrev pub listed : SheetRound → Round
listed round =
    record { event = round.event; groups = length round.groups; least = round.least; name = round.name }

-- the scrambles of a group: one for each of its slots, each of at most 160 turns of the event
pub record AreGroup (event : Event) (scrambles : List (List Turn)) : Type 0 where
  pub each_slot : length scrambles ≡ per_group_of event + 2
  pub each : All (λ turns. IsWritten (record { event = event; turns = turns })) scrambles

-- a round that lists can name, with the scrambles of its groups
pub record IsSheetRound (round : SheetRound) : Type 0 where
  pub listed : IsRound (listed round)
  pub groups : All (AreGroup round.event) round.groups

-- the scrambles of groups one after another, in the order of the slots
abbrev pub slots_in : List (List (List Turn)) → List (List Turn)
slots_in [] = []
slots_in (group ∷ groups) = group ++ slots_in groups

-- the text of rounds one after another, the first of them round k
abbrev pub text_from : ℕ → List SheetRound → List ℕ
text_from k [] = []
text_from k (round ∷ rounds) = round_text k (listed round) (slots_in round.groups) ++ text_from (k + 1) rounds

-- a text is the sheet of these rounds
pub record IsSheet (text : List ℕ) (rounds : List SheetRound) : Type 0 where
  pub is : text ≡ text_from 0 rounds
  pub each : All IsSheetRound rounds
  pub few : length rounds ≤ 256
