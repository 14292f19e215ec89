-- The command `load`: a list of rounds that follows from a number, and what is told of its sheet. Both are our own
-- choice.
use Rattle.std.specs.Prelude.{ℕ, ◌+◌, ◌*◌, ◌%◌, List, [], ◌∷◌, ◌++◌, codes, length, map, take, replicate}
use Rattle.std.specs.List.{range_with_len, slice_index_or}
use Rattle.std.specs.Int.{w64, to_le_bytes}
use Rattle.std.specs.Fmt.{decimal}
use Rattle.scr_text.specs.Lines.{text_of_lines}
use Rattle.scr_words.specs.declared.seed.Seed.{Seed}
use Rattle.scr_notation.specs.declared.event.Event.{Event}
use Rattle.scr_notation.specs.declared.event.Event.TheVariants.{C222}
use Rattle.scr_notation.specs.Event.{events, usual_of}
use Rattle.scr_list.specs.declared.round.Round.{Round}

-- ---- the list of a number

-- its seed: the number in eight bytes, the least first, and then zeros
abbrev pub load_seed : ℕ → Seed
load_seed number = record { 0 = to_le_bytes w64 number ++ replicate 24 0 }

-- the eleven events of such lists, which stay the same when events are added
abbrev pub load_events : List Event
load_events = take 11 events

-- its round k, counted from 0: the events come in turn, again and again, with numbers of groups from 1 to 8 in steps of
-- five, the event's usual minimum and no name
abbrev pub load_round : ℕ → ℕ → Round
load_round number k =
    let event : Event = slice_index_or load_events ((number + k) % length load_events) C222 in
    record { event = event; groups = 1 + (number + 5 * k) % 8; least = usual_of event; name = [] }

-- its rounds, of which there are 1 to 16
abbrev pub load_rounds : ℕ → List Round
load_rounds number = map (load_round number) (range_with_len 0 (1 + number % 16))

-- the lines on a sheet: how many rounds and slots it has, how many bytes, and what these add up to
abbrev pub load_text : ℕ → ℕ → ℕ → ℕ → List ℕ
load_text rounds scrambles bytes total = text_of_lines (
    (codes "rounds " ++ decimal rounds) ∷
    (codes "scrambles " ++ decimal scrambles) ∷
    (codes "bytes " ++ decimal bytes) ∷
    (codes "sum " ++ decimal total) ∷ [])
