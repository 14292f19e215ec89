-- Which rounds a competition's file names (WCIF, formatVersion 1.0), as a function of its JSON value. How rounds are
-- called is the habit of the WCA; what is refused is our own choice.
use Rattle.std.specs.Prelude.{ℕ, ◌+◌, ◌==◌, nat_lt, Bool, false, ◌||◌, if◌then◌else◌, Option, Some, None, is_some, option_map, option_and_then, ok_or, List, [], ◌∷◌, ◌++◌, codes, Result, Ok, Err}
use Rattle.std.specs.Fmt.{decimal}
use Rattle.std.specs.List.{list_any}
use Rattle.std.specs.Str.{bytes_eq}
use Rattle.json.specs.Json.{Json, Items, no_items, item}
use Rattle.scr_text.specs.Numbers.{number_between}
use Rattle.scr_text.specs.Steps.{and_then}
use Rattle.scr_list.specs.Events.{event_named}
use Rattle.scr_wcif.specs.declared.fault.FileFault.{FileFault}
use Rattle.scr_wcif.specs.declared.fault.FileFault.TheVariants.{NoCompetition, Event, Round}
use Rattle.scr_wcif.specs.declared.fault.EventCause.TheVariants as event
use Rattle.scr_wcif.specs.declared.fault.RoundCause.TheVariants as round
use Rattle.scr_wcif.specs.FileRound.{NamedRound}
use Rattle.scr_wcif.specs.Fields.{text_at, number_at, list_at}

-- ---- a round

-- how round `number` of an event with so many is called: the last is its final, the third, where a fourth follows, its
-- semi-final
abbrev pub name_of_round : ℕ → ℕ → List ℕ
name_of_round count number =
    if number == count then codes "Final" else if number == 3 then codes "Semi-final"
    else if number == 2 then codes "Second round" else codes "First round"

-- the id of a round: its event's, and its number
abbrev pub id_of_round : List ℕ → ℕ → List ℕ
id_of_round id number = id ++ codes "-r" ++ decimal number

-- a text is there, and is this one
abbrev pub is_text : List ℕ → Option (List ℕ) → Bool
is_text wanted None = false
is_text wanted (Some text) = bytes_eq text wanted

-- the number of groups that a round of the file has
abbrev pub group_count : Json → Option ℕ
group_count json = option_and_then (number_between 1 26) (number_at (codes "scrambleSetCount") json)

-- round `number` of an event with this id, which is entry `place` of the events and has so many rounds
abbrev pub round_of_entry : ℕ → List ℕ → ℕ → ℕ → Json → Result NamedRound FileFault
round_of_entry place id count number json =
    if is_text (id_of_round id number) (text_at (codes "id") json)
    then ok_or (option_map (λ groups. record { event = id; number = number; groups = groups; name = name_of_round count number }) (group_count json))
    (Round place number round.Groups)
    else Err (Round place number round.Id)

-- its rounds from this number on
abbrev pub rounds_of_entries : ℕ → List ℕ → ℕ → ℕ → Items → Result (List NamedRound) FileFault
rounds_of_entries place id count number no_items = Ok []
rounds_of_entries place id count number (item json more) =
    and_then (round_of_entry place id count number json) (λ named.
    and_then (rounds_of_entries place id count (number + 1) more) (λ others. Ok (named ∷ others)))

-- ---- an event

-- the events of the WCA that the program hasn't
abbrev pub is_left_out : List ℕ → Bool
is_left_out id =
    bytes_eq id (codes "444") || bytes_eq id (codes "444bf") || bytes_eq id (codes "555bf") || bytes_eq id (codes "333mbf")

abbrev pub is_event : List ℕ → Bool
is_event id = is_some (event_named id) || is_left_out id

abbrev pub count_of : Items → ℕ
count_of no_items = 0
count_of (item json more) = count_of more + 1

abbrev pub stands_in : List (List ℕ) → List ℕ → Bool
stands_in others id = list_any (λ other. bytes_eq other id) others

-- an event of the file: its id, and the entries of its rounds
pub record FileEvent : Type 0 where
  pub id : List ℕ
  pub rounds : Items

-- the event that an entry tells by its `id` and `rounds`
abbrev pub told_event : Json → Option FileEvent
told_event json =
    option_and_then (λ id. option_map (λ rounds. record { id = id; rounds = rounds }) (list_at (codes "rounds") json)) (text_at (codes "id") json)

-- an event of the WCA with at most four rounds, which isn't one of those before it
abbrev pub checked_event : ℕ → List (List ℕ) → FileEvent → Result FileEvent FileFault
checked_event place before told =
    if is_event told.id then
    (if stands_in before told.id then Err (Event place event.Twice)
    else if nat_lt 4 (count_of told.rounds) then Err (Event place event.Rounds) else Ok told)
    else Err (Event place event.Unknown)

-- entry `place` of the events, from 1, behind events with these ids
abbrev pub event_of_entry : ℕ → List (List ℕ) → Json → Result FileEvent FileFault
event_of_entry place before json =
    if nat_lt 17 place then Err (Event place event.Many)
    else and_then (ok_or (told_event json) (Event place event.Shape)) (checked_event place before)

-- the rounds of these entries and of those behind them, each event's after those of the events before it
abbrev pub rounds_of_events : ℕ → List (List ℕ) → Items → Result (List NamedRound) FileFault
rounds_of_events place before no_items = Ok []
rounds_of_events place before (item json more) =
    and_then (event_of_entry place before json) (λ told.
    and_then (rounds_of_entries place told.id (count_of told.rounds) 1 told.rounds) (λ named.
    and_then (rounds_of_events (place + 1) (before ++ told.id ∷ []) more) (λ others. Ok (named ++ others))))

-- ---- a file

-- the rounds that a file names, or the first cause why it names none
unfoldable pub rounds_of_file : Json → Result (List NamedRound) FileFault
rounds_of_file json = and_then (ok_or (list_at (codes "events") json) NoCompetition) (rounds_of_events 1 [])
