-- The lines of a round, by their numbers.
use Rattle.std.proofs.Common.{◌≡◌, ℕ, zero, suc, ◌+◌, ◌-◌, ◌*◌, ◌<◌, Some, List, [], ◌∷◌, ◌++◌, map, drop, length, refl, ap, ◌∙◌, arith, length-append, suc-mul}
use Rattle.std.specs.Prelude.{codes, slice_get}
use Rattle.std.specs.Fmt.{decimal}
use Rattle.scr_text.specs.Lines.{text_of_lines}
use Rattle.scr_text.proofs.WrittenLines.{first_line}
use Rattle.scr_round.specs.Round.{Line, Fixed, Slot, labels_from, slot_lines, group_lines, groups_lines}

-- ---- the text of the lines that are left

pub text_left-next : {X : Type 0} (f : X → List ℕ) (xs : List X) (i : ℕ) (x : X) → slice_get xs i ≡ Some x →
    text_of_lines (map f (drop i xs)) ≡ (f x ++ codes "\n") ++ text_of_lines (map f (drop (i + 1) xs))
text_left-next f [] i x is = cc
text_left-next f (y ∷ xs) zero x is =
    let same : y ≡ x = cc in
    ap (λ z. text_of_lines (f z ∷ map f xs)) same ∙ first_line (f x) (map f xs)
text_left-next f (y ∷ xs) (suc i) x is =
    let same : suc (i + 1) ≡ suc i + 1 = omega arith in
    text_left-next f xs i x is ∙ ap (λ n. (f x ++ codes "\n") ++ text_of_lines (map f (drop n (y ∷ xs)))) same

-- ---- an element of two lists in a row

pub slice_get-left : {X : Type 0} (xs ys : List X) (i : ℕ) → i < length xs → slice_get (xs ++ ys) i ≡ slice_get xs i
slice_get-left [] ys i below = absurd (omega arith)
slice_get-left (x ∷ xs) ys zero below = refl
slice_get-left (x ∷ xs) ys (suc i) below = slice_get-left xs ys i (omega arith)

pub slice_get-right : {X : Type 0} (xs ys : List X) (i n : ℕ) → n ≡ length xs + i
    → slice_get (xs ++ ys) n ≡ slice_get ys i
slice_get-right [] ys i n is = ap (slice_get ys) (let e : n ≡ i = omega arith in e)
slice_get-right (x ∷ xs) ys i zero is = absurd (omega arith)
slice_get-right (x ∷ xs) ys i (suc n) is = slice_get-right xs ys i n (omega arith)

-- ---- labels

pub length-labels_from : (number own : ℕ) → length (labels_from number own) ≡ own + 2
length-labels_from number zero = refl
length-labels_from number (suc own) = let rest = length-labels_from (number + 1) own in omega (arith, rest)

pub labels_from-own : (number own i : ℕ) → i < own
    → slice_get (labels_from number own) i ≡ Some (decimal (number + i) ++ codes ". ")
labels_from-own number zero i below = absurd (omega arith)
labels_from-own number (suc own) zero below = let same : number ≡ number + 0 = omega arith in ap (λ n. Some (decimal n ++ codes ". ")) same
labels_from-own number (suc own) (suc i) below =
    let same : number + 1 + i ≡ number + suc i = omega arith in
    labels_from-own (number + 1) own i (omega arith) ∙ ap (λ n. Some (decimal n ++ codes ". ")) same

-- the two extra ones
pub labels_from-extra : (number own : ℕ) →
    (slice_get (labels_from number own) own ≡ Some (codes "E1. ")) × (slice_get (labels_from number own) (suc own) ≡ Some (codes "E2. "))
labels_from-extra number zero = (refl, refl)
labels_from-extra number (suc own) = labels_from-extra (number + 1) own

-- ---- slots

pub length-slot_lines : (labels : List (List ℕ)) (slot : ℕ) → length (slot_lines labels slot) ≡ length labels
length-slot_lines [] slot = refl
length-slot_lines (label ∷ labels) slot = ap suc (length-slot_lines labels (slot + 1))

slot_lines-at : (labels : List (List ℕ)) (slot i : ℕ) (label : List ℕ) → slice_get labels i ≡ Some label →
    slice_get (slot_lines labels slot) i ≡ Some (Slot label (slot + i))
slot_lines-at [] slot i label is = cc
slot_lines-at (first ∷ labels) slot zero label is =
    let same : slot ≡ slot + 0 = omega arith in
    let one : first ≡ label = cc in
    ap (λ l. Some (Slot l slot)) one ∙ ap (λ n. Some (Slot label n)) same
slot_lines-at (first ∷ labels) slot (suc i) label is =
    let same : slot + 1 + i ≡ slot + suc i = omega arith in
    slot_lines-at labels (slot + 1) i label is ∙ ap (λ n. Some (Slot label n)) same

-- ---- a group

pub length-group_lines : (own letter slot : ℕ) → length (group_lines own letter slot) ≡ own + 4
length-group_lines own letter slot =
    let lines = slot_lines (labels_from 1 own) slot in
    let all = length-append lines (Fixed [] ∷ []) in
    omega (arith, all, length-slot_lines (labels_from 1 own) slot, length-labels_from 1 own)

pub group_lines-slot : (own letter slot i : ℕ) (label : List ℕ) → i < own + 2 → slice_get (labels_from 1 own) i ≡ Some label →
    slice_get (group_lines own letter slot) (suc i) ≡ Some (Slot label (slot + i))
group_lines-slot own letter slot i label below is =
    let size = length-slot_lines (labels_from 1 own) slot in
    let count = length-labels_from 1 own in
    slice_get-left (slot_lines (labels_from 1 own) slot) (Fixed [] ∷ []) i (omega (arith, size, count))
    ∙ slot_lines-at (labels_from 1 own) slot i label is

pub group_lines-last : (own letter slot : ℕ) → slice_get (group_lines own letter slot) (own + 3) ≡ Some (Fixed [])
group_lines-last own letter slot =
    let size = length-slot_lines (labels_from 1 own) slot in
    let count = length-labels_from 1 own in
    let place : own + 3 ≡ suc (own + 2) = omega arith in
    ap (slice_get (group_lines own letter slot)) place
    ∙ slice_get-right (slot_lines (labels_from 1 own) slot) (Fixed [] ∷ []) 0 (own + 2) (omega (arith, size, count))

-- ---- all groups

pub length-groups_lines : (own groups letter slot : ℕ)
    → length (groups_lines own groups letter slot) ≡ groups * (own + 4)
length-groups_lines own zero letter slot = omega arith
length-groups_lines own (suc more) letter slot =
    let all = length-append (group_lines own letter slot) (groups_lines own more (letter + 1) (slot + (own + 2))) in
    let one = length-group_lines own letter slot in
    let rest = length-groups_lines own more (letter + 1) (slot + (own + 2)) in
    let product = suc-mul more (own + 4) in
    omega (arith, all, one, rest, product)

-- a line of one of the groups
pub groups_lines-at : (own groups letter slot group place : ℕ) → group < groups → place < own + 4 →
    slice_get (groups_lines own groups letter slot) (group * (own + 4) + place)
    ≡ slice_get (group_lines own (letter + group) (slot + group * (own + 2))) place
groups_lines-at own zero letter slot group place below within = absurd (omega arith)
groups_lines-at own (suc more) letter slot zero place below within =
    let size = length-group_lines own letter slot in
    let number : 0 * (own + 4) + place ≡ place = omega arith in
    let same_letter : letter ≡ letter + 0 = omega arith in
    let same_slot : slot ≡ slot + 0 * (own + 2) = omega arith in
    ap (slice_get (groups_lines own (suc more) letter slot)) number
    ∙ slice_get-left (group_lines own letter slot) (groups_lines own more (letter + 1) (slot + (own + 2))) place (omega (arith, size))
    ∙ ap (λ l. slice_get (group_lines own l slot) place) same_letter
    ∙ ap (λ s. slice_get (group_lines own (letter + 0) s) place) same_slot
groups_lines-at own (suc more) letter slot (suc group) place below within =
    let size = length-group_lines own letter slot in
    let product = suc-mul group (own + 4) in
    let slots = suc-mul group (own + 2) in
    let same_letter : letter + 1 + group ≡ letter + suc group = omega arith in
    let same_slot : slot + (own + 2) + group * (own + 2) ≡ slot + suc group * (own + 2) = omega (arith, slots) in
    slice_get-right (group_lines own letter slot) (groups_lines own more (letter + 1) (slot + (own + 2))) (group * (own + 4) + place)
    (suc group * (own + 4) + place) (omega (arith, size, product))
    ∙ groups_lines-at own more (letter + 1) (slot + (own + 2)) group place (omega arith) within
    ∙ ap (λ l. slice_get (group_lines own l (slot + (own + 2) + group * (own + 2))) place) same_letter
    ∙ ap (λ s. slice_get (group_lines own (letter + suc group) s) place) same_slot

-- a line of a round behind its head
pub round_lines-at : (own groups group place line : ℕ) (lines : List Line) (head : Line) → ¬ (line ≡ 0) →
    line - 1 ≡ group * (own + 4) + place → group < groups → place < own + 4 →
    lines ≡ head ∷ groups_lines own groups 65 0 → slice_get lines line ≡ slice_get (group_lines own (65 + group) (group * (own + 2))) place
round_lines-at own groups group place line lines head later number below within is =
    let next : line ≡ suc (line - 1) = omega arith in
    let no_slot : 0 + group * (own + 2) ≡ group * (own + 2) = omega arith in
    ap (λ l. slice_get l line) is
    ∙ ap (slice_get (head ∷ groups_lines own groups 65 0)) next
    ∙ ap (slice_get (groups_lines own groups 65 0)) number
    ∙ groups_lines-at own groups 65 0 group place below within
    ∙ ap (λ s. slice_get (group_lines own (65 + group) s) place) no_slot
