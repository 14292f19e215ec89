-- The rounds of a number are rounds that lists take.
use Rattle.std.proofs.Common.{◌≡◌, ℕ, zero, suc, ◌+◌, ◌*◌, ◌%◌, List, [], length, sym, arith, map, All}
use Rattle.std.proofs.lemmas.List.Elements.{All-nil, All-cons}
use Rattle.std.proofs.lemmas.List.FromFn.{length-map-range_with_len}
use Rattle.std.proofs.lemmas.List.{get_or-take}
use Rattle.std.proofs.lemmas.Nat.{mod_below}
use Rattle.std.specs.List.{range_with_len, slice_index_or}
use Rattle.scr_notation.specs.declared.event.Event.{Event}
use Rattle.scr_notation.specs.declared.event.Event.TheVariants.{C222}
use Rattle.scr_notation.specs.Event.{events, usual_of}
use Rattle.scr_list.specs.ListedRound.{ListedRound}
use Rattle.scr_list.specs.Rounds.{IsRound}
use Rattle.scr_list.specs.RoundLists.{IsRounds}
use Rattle.scr_list.proofs.EventLemmas.{id-IsId}
use Rattle.scr_sheet.specs.Load.{load_events, load_round, load_rounds}

-- round k has some of up to eight groups of an event
load_round-IsRound : (number k : ℕ) → IsRound (load_round number k)
load_round-IsRound number k = grind (arith, mod_below, id-IsId)

-- so many rounds of a number, from one on
rounds_from-IsRound : (number first count : ℕ) → All IsRound (map (load_round number) (range_with_len first count))
rounds_from-IsRound number first zero = All-nil IsRound
rounds_from-IsRound number first (suc count) =
    grind (arith, All-cons, load_round-IsRound, rounds_from-IsRound number (first + 1) count)

pub load_rounds-IsRounds : (number : ℕ) → IsRounds (load_rounds number)
load_rounds-IsRounds number = grind (arith, length-map-range_with_len, mod_below, rounds_from-IsRound)

-- the events of the lists are the first ones of all
in_turn : (number : ℕ)
    → slice_index_or events (number % 11) C222 ≡ slice_index_or load_events (number % length load_events) C222
in_turn number = sym (get_or-take 11 events (number % 11) C222 (mod_below number 11 (omega arith)))

-- so many groups of an event, with its usual minimum and no name
abbrev usual_round : Event → ℕ → ListedRound
usual_round event groups = record { event = event; groups = groups; least = usual_of event; name = [] }

-- a round of them with the usual minimum and no name
pub unnamed : (number k least : ℕ) (name : List ℕ) → least ≡ usual_of (slice_index_or events ((number + k) % 11) C222) → name ≡ []
    → (let made : ListedRound = record {
      event = slice_index_or events ((number + k) % 11) C222;
      groups = 1 + (number + 5 * k) % 8;
      least = least;
      name = name;
    } in made) ≡ load_round number k
unnamed number k least name usual none = grind (arith, in_turn)
