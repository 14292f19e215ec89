-- Turns taken back and merged (WCA Regulations, article 12).
use Rattle.std.specs.Prelude.{ℕ, ◌+◌, ◌-◌, ◌%◌, ℤ, neg_ℤ, ◌+ℤ◌, Bool, true, false, not, ◌==◌, ◌&&◌, if◌then◌else◌, Option, Some, None}
use Rattle.scr_combinatorics.specs.Tidy.{Merging}
use Rattle.scr_notation.specs.declared.event.Kind.{Kind}
use Rattle.scr_notation.specs.declared.event.Kind.TheVariants.{Faces, Axes, LayersAndTwist, PinSets, WideTurns}
use Rattle.scr_notation.specs.declared.turn.Turn.{Turn}
use Rattle.scr_notation.specs.declared.turn.Turn.TheVariants.{Face, Axis, Tip, Layers, Twist, Pins, Over, Wide}
use Rattle.scr_notation.specs.Layers.{twelfths, are_still}

-- The turn that undoes a turn: by what is left to four quarters of a face, to three thirds of an axis or a tip, or to
-- twelve hours of a Clock; layers and wide turns go the other way; a twist or a turning over is done again.
abbrev pub opposite : Turn → Turn
opposite (Face face depth amount) = Face face depth (4 - amount)
opposite (Axis axis amount) = Axis axis (3 - amount)
opposite (Tip tip amount) = Tip tip (3 - amount)
opposite (Layers top bottom) = Layers (twelfths (neg_ℤ top)) (twelfths (neg_ℤ bottom))
opposite Twist = Twist
opposite (Pins pins amount) = Pins pins ((12 - amount) % 12)
opposite Over = Over
opposite (Wide letter plus) = Wide letter (not plus)

-- Two turns that are merged where they are neighbours: of one face and as many of its layers, of a Square-1's layers,
-- or two twists. The kinds of the other turns have no merging.
abbrev pub are_alike : Turn → Turn → Bool
are_alike (Face face depth amount) (Face other deep more) = (face == other) && (depth == deep)
are_alike (Layers top bottom) (Layers more_top more_bottom) = true
are_alike Twist Twist = true
are_alike _ _ = false

-- a face turned by so many quarters, or nothing where that is none
abbrev pub face_turned : ℕ → ℕ → ℕ → Option Turn
face_turned face depth amount = if amount == 0 then None else Some (Face face depth amount)

-- the layers turned so far, or nothing where neither turns
abbrev pub layers_turned : ℤ → ℤ → Option Turn
layers_turned top bottom = if are_still top bottom then None else Some (Layers top bottom)

-- What two such turns come to: the sum of the quarters modulo 4, the sums of the twelfths modulo 12, and nothing
-- where no turn is left; two twists are nothing.
abbrev pub turns_merged : Turn → Turn → Option Turn
turns_merged (Face face depth amount) (Face other deep more) = face_turned other deep ((amount + more) % 4)
turns_merged (Layers top bottom) (Layers more_top more_bottom) =
    layers_turned (twelfths (top +ℤ more_top)) (twelfths (bottom +ℤ more_bottom))
turns_merged _ _ = None

-- how turns are merged
abbrev pub turn_merging : Merging Turn
turn_merging = record { alike = are_alike; merged = turns_merged }

-- the kinds whose turns are merged
abbrev pub has_merging : Kind → Bool
has_merging (Faces near far) = true
has_merging (Axes tips) = false
has_merging LayersAndTwist = true
has_merging PinSets = false
has_merging WideTurns = false
