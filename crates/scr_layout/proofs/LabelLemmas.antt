-- The labels of a group's slots, place by place.
use Rattle.std.proofs.Common.{◌≡◌, ℕ, ◌<◌, List, Option, Some, if◌then◌else◌, slice_get, codes, refl, arith}
use Rattle.std.specs.Prelude.{nat_lt}
use Rattle.std.specs.Fmt.{digits}
use Rattle.scr_notation.specs.declared.event.Event.{Event}
use Rattle.scr_notation.specs.Event.{per_group_of}
use Rattle.scr_notation.proofs.EachEvent.{each_alike}
use Rattle.scr_layout.specs.Texts.{labels_of}

pub label-0 : (event : Event) → slice_get (labels_of event) 0 ≡ Some (codes "1.")
unfolding digits
label-0 event = each_alike (λ e. slice_get (labels_of e) 0) (λ e. Some (codes "1.")) refl event

pub label-1 : (event : Event) → slice_get (labels_of event) 1 ≡ Some (codes "2.")
unfolding digits
label-1 event = each_alike (λ e. slice_get (labels_of e) 1) (λ e. Some (codes "2.")) refl event

pub label-2 : (event : Event) → slice_get (labels_of event) 2 ≡ Some (codes "3.")
unfolding digits
label-2 event = each_alike (λ e. slice_get (labels_of e) 2) (λ e. Some (codes "3.")) refl event

-- the label at a place where the event has a scramble of its own, and otherwise the given one
abbrev own_label : ℕ → List ℕ → Event → Option (List ℕ)
own_label place other event = if nat_lt place (per_group_of event) then slice_get (labels_of event) place else Some other

pub label-3 : (event : Event) → 3 < per_group_of event → slice_get (labels_of event) 3 ≡ Some (codes "4.")
unfolding digits
label-3 event more = grind arith

pub label-4 : (event : Event) → 4 < per_group_of event → slice_get (labels_of event) 4 ≡ Some (codes "5.")
unfolding digits
label-4 event more = grind arith
