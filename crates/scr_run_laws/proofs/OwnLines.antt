-- The lines of a list's sheet have no line feed in them, and the slots of their scrambles are slots of their rounds.
use Rattle.std.proofs.Common.{ℕ, zero, suc, ◌+◌, ◌*◌, ◌<◌, ◌≤◌, List, [], ◌∷◌, ◌++◌, length, refl, arith, leb-true}
use Rattle.std.specs.Prelude.{All, codes, nat_le}
use Rattle.std.proofs.lemmas.List.Elements.{All-nil, All-cons, All-head, All-tail, All-append}
use Rattle.scr_notation.specs.Event.{per_group_of}
use Rattle.scr_notation.proofs.EachEvent.{each_passes}
use Rattle.scr_list.specs.declared.round.Round.{Round}
use Rattle.scr_list.specs.Rounds.{IsRound}
use Rattle.scr_round.specs.Round.{Line, Fixed, Slot, slots_of, labels_from, slot_lines, group_lines, groups_lines, heading, round_lines}
use Rattle.scr_round.proofs.LineLaws.{length-labels_from}
use Rattle.scr_round.proofs.CleanLaws.{IsClean, joined, labels-clean, one-clean, heading-clean}

-- a fixed text, or a label, has no line feed, and the slot is one of so many
abbrev pub IsFit : ℕ → Line → Type 0
IsFit slots (Fixed own) = IsClean own
IsFit slots (Slot label slot) = IsClean label × (slot < slots)

module _ (slots : ℕ) where
  slot_lines-fit : (labels : List (List ℕ)) (slot : ℕ) → All IsClean labels → slot + length labels ≤ slots
      → All (IsFit slots) (slot_lines labels slot)
  slot_lines-fit [] slot all within = All-nil (IsFit slots)
  slot_lines-fit (label ∷ labels) slot all within =
      All-cons (IsFit slots) (Slot label slot) (slot_lines labels (slot + 1))
      (All-head IsClean label labels all, omega (arith, within))
      (slot_lines-fit labels (slot + 1) (All-tail IsClean label labels all) (omega (arith, within)))

  group_lines-fit : (own letter slot : ℕ) → own < 90 → 65 ≤ letter → slot + (own + 2) ≤ slots
      → All (IsFit slots) (group_lines own letter slot)
  group_lines-fit own letter slot few letters within =
      let size = length-labels_from 1 own in
      let of_slots = slot_lines-fit (labels_from 1 own) slot (labels-clean 1 own (omega (arith, few))) (omega (arith, size, within)) in
      let name : IsClean (codes "Group " ++ letter ∷ []) = joined (codes "Group ") (letter ∷ []) refl (one-clean letter (omega (arith, letters))) in
      All-cons (IsFit slots) (Fixed (codes "Group " ++ letter ∷ [])) (slot_lines (labels_from 1 own) slot ++ Fixed [] ∷ []) name
      (All-append (IsFit slots) (slot_lines (labels_from 1 own) slot) (Fixed [] ∷ []) of_slots
      (All-cons (IsFit slots) (Fixed []) [] refl (All-nil (IsFit slots))))

  groups_lines-fit : (own groups letter slot : ℕ) → own < 90 → 65 ≤ letter → slot + groups * (own + 2) ≤ slots
      → All (IsFit slots) (groups_lines own groups letter slot)
  groups_lines-fit own zero letter slot few letters within = All-nil (IsFit slots)
  groups_lines-fit own (suc more) letter slot few letters within =
      let rest : slot + (own + 2) + more * (own + 2) ≤ slots = omega (arith, within) in
      All-append (IsFit slots) (group_lines own letter slot) (groups_lines own more (letter + 1) (slot + (own + 2)))
      (group_lines-fit own letter slot few letters (omega (arith, rest)))
      (groups_lines-fit own more (letter + 1) (slot + (own + 2)) few (omega (arith, letters)) rest)

pub round_lines-fit : (k : ℕ) (round : Round) → k < 256 → IsRound round → All (IsFit (slots_of round)) (round_lines k round)
round_lines-fit k round below is =
    let few = leb-true (per_group_of round.event) 5 (each_passes (λ e. nat_le (per_group_of e) 5) refl round.event) in
    let slots = slots_of round in
    All-cons (IsFit slots) (Fixed (heading k round)) (groups_lines (per_group_of round.event) round.groups 65 0) (heading-clean k round below is)
    (groups_lines-fit slots (per_group_of round.event) round.groups 65 0 (omega (arith, few)) (omega arith) (omega arith))
