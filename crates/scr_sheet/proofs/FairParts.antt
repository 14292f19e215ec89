-- That the parts of a sheet whose rounds are drawn fairly are.
use Rattle.std.proofs.lemmas.List.{length-map}
use Rattle.std.proofs.lemmas.List.Elements.{All-nil, All-head, All-tail, All-cons, All-weaker, All-contains_itself}
use Rattle.std.proofs.Math.ListN.{get_or-map}
use Rattle.std.proofs.Common.{◌≡◌, ℕ, ◌+◌, ◌≤◌, Bool, List, [], ◌∷◌, refl, ap, ◌∙◌, arith, All}
use Rattle.std.specs.Prelude.{Contains, map, ◌↔◌}
use Rattle.scr_notation.specs.declared.event.Event.{Event}
use Rattle.scr_notation.specs.Event.{greatest_of}
use Rattle.scr_notation.specs.EventSets.{Has}
use Rattle.scr_list.specs.declared.round.Round.{Round}
use Rattle.scr_list.specs.Rounds.{IsRound}
use Rattle.scr_slots.specs.Slots.{IsDrawnFairly}
use Rattle.scr_slots.specs.Events.{scrambling_of}
use Rattle.scr_sheet.specs.Sheet.{Part, round_part, round_parts}

-- the events of a list's parts are those of its rounds
pub events_of_parts : (k : ℕ) (rounds : List Round)
    → map (λ (part : Part). part.event) (round_parts k rounds) ≡ map (λ (round : Round). round.event) rounds
events_of_parts k [] = refl
events_of_parts k (round ∷ rounds) = ap (λ events. round.event ∷ events) (events_of_parts (k + 1) rounds)

-- ---- fairness

-- the event of a part is drawn fairly
abbrev pub IsFairPart : Part → Type 0
IsFairPart part = IsDrawnFairly (scrambling_of part.event) part.least

-- each event of a set is, at each minimum of its range
abbrev pub AreFairEvents : List Bool → Type 0
AreFairEvents events = (event : Event) (least : ℕ) → Has events event → least ≤ greatest_of event → IsDrawnFairly (scrambling_of event) least

round_parts-fair : (events : List Bool) (k : ℕ) (rounds : List Round) → AreFairEvents events → All IsRound rounds
    → All (λ (round : Round). Has events round.event) rounds → All IsFairPart (round_parts k rounds)
round_parts-fair events k [] fair each asked = All-nil IsFairPart
round_parts-fair events k (round ∷ rounds) fair each asked =
    let here = All-head IsRound round rounds each in
    let Asked : Round → Type 0 = λ r. Has events r.event in
    All-cons IsFairPart (round_part k round) (round_parts (k + 1) rounds)
    (fair round.event round.least (All-head Asked round rounds asked) here.least)
    (round_parts-fair events (k + 1) rounds fair (All-tail IsRound round rounds each) (All-tail Asked round rounds asked))

-- what is in a list is in the list of what is made of each
contains_map : {X Y : Type 0} (f : X → Y) (xs : List X) (x : X) → Contains xs x → Contains (map f xs) (f x)
contains_map f xs x (k, below, is) = (k, omega (arith, length-map xs f, below), get_or-map f xs k x ∙ ap f is)

-- the events of a list's rounds are in the set of its events
pub each_asked : (events : List Bool) (rounds : List Round)
    → ((event : Event) → Has events event ↔ Contains (map (λ (round : Round). round.event) rounds) event)
    → All (λ (round : Round). Has events round.event) rounds
each_asked events rounds same =
    All-weaker (Contains rounds) (λ (round : Round). Has events round.event)
    (λ round there. (same round.event).1 (contains_map (λ (r : Round). r.event) rounds round there)) rounds (All-contains_itself rounds)

-- where the events of a list's rounds are drawn fairly, so are the parts of its sheet
pub parts_of_rounds-fair : (events : List Bool) (rounds : List Round) → AreFairEvents events → All IsRound rounds
    → ((event : Event) → Has events event ↔ Contains (map (λ (round : Round). round.event) rounds) event)
    → All IsFairPart (round_parts 0 rounds)
parts_of_rounds-fair events rounds fair each same = round_parts-fair events 0 rounds fair each (each_asked events rounds same)
