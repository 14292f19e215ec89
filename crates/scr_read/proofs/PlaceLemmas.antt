-- The line of a slot, and places as code holds them.
use Rattle.std.proofs.Common.{◌≡◌, ℕ, ◌+◌, List, ◌∷◌, ◌++◌, drop, Some, Err, sym, ap, subst, ◌∙◌, arith, rules}
use Rattle.std.specs.Prelude.{slice_get}
use Rattle.std.proofs.lemmas.List.{append_cancel_left, drop_more}
use Rattle.std.proofs.lemmas.List.Elements.{All-drop}
use Rattle.std.proofs.lemmas.Option.{get_or_from_slice_get, slice_get_within}
use Rattle.scr_notation.specs.declared.event.Event.{Event}
use Rattle.scr_notation.specs.Event.{per_group_of}
use Rattle.scr_notation.specs.Spelling.{text_of}
use Rattle.scr_notation.specs.Written.{Written, IsWritten}
use Rattle.scr_round.specs.Round.{labels_from}
use Rattle.scr_read.specs.declared.fault.SheetCause.TheVariants as cause
use Rattle.scr_read.specs.declared.piece.Piece.{Piece}
use Rattle.scr_read.specs.declared.piece.Piece.TheVariants as piece
use Rattle.scr_read.specs.declared.place.Stand.{Stand}
use Rattle.scr_read.specs.declared.place.Stand.TheVariants as code
use Rattle.scr_read.specs.Reading.{Place, InGroup, IsLine}
use Rattle.scr_read.specs.Faults.{Begins}
use Rattle.scr_read.specs.Places.{place_of, IsStand, ReadsLine}
use Rattle.scr_read.proofs.StepLemmas.{IsFit, labels-fit}

-- the label at a place, and those behind it
labels_at : (labels : List (List ℕ)) (n : ℕ) (label : List ℕ) → slice_get labels n ≡ Some label
    → drop n labels ≡ label ∷ drop (n + 1) labels
labels_at labels n label there =
    drop_more labels n label (slice_get_within labels n label there)
    ∙ ap (λ first. first ∷ drop (n + 1) labels) (get_or_from_slice_get labels n label label there)

-- a line that may stand at a slot begins with its label
slot_line : (rounds : ℕ) (event : Event) (groups : ℕ) (label : List ℕ) (labels : List (List ℕ)) (line : List ℕ) (x : Piece) (next : Place)
    → IsLine (InGroup rounds event groups (label ∷ labels)) line x next
    → (s : Written) × IsWritten s × (s.event ≡ event) × (line ≡ label ++ text_of s.turns)
slot_line rounds event groups label labels line (piece.Slot s) next is = (s, is.0, is.1, is.2)
slot_line rounds event groups label labels line x next is = search

module _ (rounds : ℕ) (event : Event) (groups slot : ℕ) (label : List ℕ)
    (there : slice_get (labels_from 1 (per_group_of event)) slot ≡ Some label) (line : List ℕ) where
  more : List (List ℕ)
  more = drop (slot + 1) (labels_from 1 (per_group_of event))

  pub no_label : (Begins label line → ⊥) → ReadsLine (place_of (code.InGroup rounds event groups slot)) line (Err cause.Label)
  unfolding more
  no_label none =
      subst (λ labels. ReadsLine (InGroup rounds event groups labels) line (Err cause.Label)) (sym (labels_at (labels_from 1 (per_group_of event)) slot label there))
      (none, λ x next is. let it = slot_line rounds event groups label more line x next is in none (text_of it.0.turns, it.3))

  pub no_scramble : (text : List ℕ) → line ≡ label ++ text
      → ((s : Written) → IsWritten s → s.event ≡ event → text_of s.turns ≡ text → ⊥)
      → ReadsLine (place_of (code.InGroup rounds event groups slot)) line (Err cause.Scramble)
  unfolding more
  no_scramble text is none = grind (arith, labels_at, slot_line, more, append_cancel_left)

pub stand_fit : (stand : Stand) → IsStand stand → IsFit (place_of stand)
stand_fit code.Start is = tt
stand_fit (code.Between rounds event groups) is = is
stand_fit (code.InGroup rounds event groups slot) is = search (arith, rules, All-drop, labels-fit)
