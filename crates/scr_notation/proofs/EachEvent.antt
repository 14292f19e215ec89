-- What is so of each event, computed once over all of them.
use Rattle.std.proofs.Common.{◌≡◌, ℕ, ◌+◌, ◌<◌, Bool, true, IsTrue, length, Some, refl, sym, ap, ◌∙◌, zero-add, lit<}
use Rattle.std.specs.Prelude.{◌&&◌, nat_le, map, slice_get}
use Rattle.std.specs.List.{range_with_len}
use Rattle.std.specs.Option.{option_map}
use Rattle.std.proofs.lemmas.Option.{same_Some, slice_get-map, slice_get_within, get_or_from_slice_get}
use Rattle.std.proofs.lemmas.List.FromFn.{get_or-range_with_len}
use Rattle.std.proofs.lemmas.Bool.{leb-true}
use Rattle.scr_notation.specs.declared.event.Event.{Event}
use Rattle.scr_notation.specs.declared.event.Event.TheVariants.{C222, C333, Oh333, C555, C666, C777, Clock, Minx, Pyram, Skewb, Sq1, Bf333, Fm333}
use Rattle.scr_notation.specs.declared.event.Kind.{Kind}
use Rattle.scr_notation.specs.declared.event.Kind.TheVariants.{Faces, Axes, LayersAndTwist, PinSets, WideTurns}
use Rattle.scr_notation.specs.Event.{events, kind_of}
use Rattle.scr_notation.specs.Kinds.{IsKind}
use Rattle.scr_notation.proofs.Below.{and_first, and_second}

-- each event has a number: the one list of events by which proofs tell one from another
pub numbered : (event : Event) → (k : ℕ) × (k < length events) × (slice_get events k ≡ Some event)
numbered C222 = (0, lit< tt, refl)
numbered C333 = (1, lit< tt, refl)
numbered Oh333 = (2, lit< tt, refl)
numbered C555 = (3, lit< tt, refl)
numbered C666 = (4, lit< tt, refl)
numbered C777 = (5, lit< tt, refl)
numbered Clock = (6, lit< tt, refl)
numbered Minx = (7, lit< tt, refl)
numbered Pyram = (8, lit< tt, refl)
numbered Skewb = (9, lit< tt, refl)
numbered Sq1 = (10, lit< tt, refl)
numbered Bf333 = (11, lit< tt, refl)
numbered Fm333 = (12, lit< tt, refl)

-- two functions that agree on the list of the events agree on each event
pub each_alike : {X : Type 0} (f g : Event → X) → map f events ≡ map g events → (event : Event) → f event ≡ g event
each_alike {X = X} f g all event =
    let it = numbered event in
    let here : (h : Event → X) → slice_get (map h events) it.0 ≡ Some (h event) = λ h. slice_get-map h events it.0 ∙ ap (option_map h) it.2 in
    same_Some (f event) (g event) (sym (here f) ∙ ap (λ xs. slice_get xs it.0) all ∙ here g)

-- a test that all events pass is passed by each
pub each_passes : (test : Event → Bool) → map test events ≡ map (λ event. true) events → (event : Event)
    → IsTrue (test event)
each_passes test all event = each_alike test (λ e. true) all event

-- ---- the events differ

number_of : Event → ℕ
number_of event = (numbered event).0

number-at : (n : ℕ) (event : Event) → slice_get events n ≡ Some event → number_of event ≡ n
unfolding number_of numbered
number-at n event at =
    let below : n < length events = slice_get_within events n event at in
    let read : slice_get (range_with_len 0 (length events)) n ≡ Some (number_of event) = slice_get-map number_of events n ∙ ap (option_map number_of) at in
    sym (get_or_from_slice_get (range_with_len 0 (length events)) n (number_of event) 0 read) ∙ get_or-range_with_len 0 (length events) n 0 below ∙ zero-add n

-- no two have one number
pub one_number : (n other : ℕ) (event : Event) → slice_get events n ≡ Some event → slice_get events other ≡ Some event
    → n ≡ other
one_number n other event at there = sym (number-at n event at) ∙ number-at other event there

-- ---- each event's turns are of a kind

is_kind : Kind → Bool
is_kind (Faces near far) = nat_le near 3 && (nat_le far near && nat_le near (far + 1))
is_kind (Axes tips) = true
is_kind LayersAndTwist = true
is_kind PinSets = true
is_kind WideTurns = true

kind_by_test : (kind : Kind) → IsTrue (is_kind kind) → IsKind kind
unfolding is_kind
kind_by_test (Faces near far) h =
    let rest = and_second (nat_le near 3) (nat_le far near && nat_le near (far + 1)) h in
    record {
      few = leb-true near 3 (and_first (nat_le near 3) (nat_le far near && nat_le near (far + 1)) h);
      near_first = leb-true far near (and_first (nat_le far near) (nat_le near (far + 1)) rest);
      at_most_one_more = leb-true near (far + 1) (and_second (nat_le far near) (nat_le near (far + 1)) rest);
    }
kind_by_test (Axes tips) h = tt
kind_by_test LayersAndTwist h = tt
kind_by_test PinSets h = tt
kind_by_test WideTurns h = tt

pub IsKind-kind_of : (event : Event) → IsKind (kind_of event)
unfolding is_kind
IsKind-kind_of event = kind_by_test (kind_of event) (each_passes (λ e. is_kind (kind_of e)) refl event)
