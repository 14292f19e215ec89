-- Which sets of a sheet's rounds the rounds of a file get.
use Rattle.std.specs.Prelude.{ℕ, ◌+◌, ◌==◌, Bool, if◌then◌else◌, is_some, List, [], ◌∷◌, filter, length, Result, Ok, Err}
use Rattle.std.specs.Str.{bytes_eq}
use Rattle.scr_text.specs.Steps.{and_then}
use Rattle.scr_notation.specs.Event.{id_of}
use Rattle.scr_list.specs.Events.{event_named}
use Rattle.scr_wcif.specs.declared.fault.FileFault.{FileFault}
use Rattle.scr_wcif.specs.declared.fault.FileFault.TheVariants.{Sheet}
use Rattle.scr_wcif.specs.declared.fault.Difference.TheVariants as difference
use Rattle.scr_wcif.specs.FileRound.{NamedRound}
use Rattle.scr_wcif.specs.FileRounds.{id_of_round}
use Rattle.scr_wcif.specs.Sets.{EventSets, RoundSets}

-- the program has its event
abbrev pub is_known : NamedRound → Bool
is_known named = is_some (event_named named.event)

-- the sets of round `number` of a sheet, under the id of the round that the file has there: it has this event and as
-- many groups
abbrev pub placed_round : ℕ → NamedRound → EventSets → Result RoundSets FileFault
placed_round number named round =
    if bytes_eq (id_of round.event) named.event then
    (if length round.sets == named.groups then Ok (record { id = id_of_round named.event named.number; sets = round.sets })
    else Err (Sheet number difference.Groups)) else Err (Sheet number difference.Event)

-- those of rounds from this number on, or the first that differs
abbrev pub placed_from : ℕ → List NamedRound → List EventSets → Result (List RoundSets) FileFault
placed_from number [] [] = Ok []
placed_from number [] (round ∷ more) = Err (Sheet number difference.More)
placed_from number (named ∷ rest) [] = Err (Sheet number difference.Missing)
placed_from number (named ∷ rest) (round ∷ more) =
    and_then (placed_round number named round) (λ sets. and_then (placed_from (number + 1) rest more) (λ others. Ok (sets ∷ others)))

-- the rounds of a sheet as those of the rounds that a list of these would name
abbrev pub placed_rounds : List NamedRound → List EventSets → Result (List RoundSets) FileFault
placed_rounds named sheet = placed_from 1 (filter is_known named) sheet
