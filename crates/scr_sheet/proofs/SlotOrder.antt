-- The scrambles of a round stand in order in its text.
use Rattle.std.proofs.Common.{◌≡◌, ℕ, zero, suc, ◌+◌, ◌*◌, ◌<◌, ◌≤◌, ◌||◌, false, List, [], ◌∷◌, ◌++◌, map, drop, length, refl, sym, ap, subst, ◌∙◌, arith, append_assoc, All}
use Rattle.std.proofs.lemmas.Bool.{ne_eqb, ltb-true}
use Rattle.std.proofs.lemmas.Fmt.{decimal_digit}
use Rattle.std.proofs.lemmas.List.{drop_more, drop_all}
use Rattle.std.proofs.lemmas.List.Folds.{list_any-append}
use Rattle.std.proofs.lemmas.List.Elements.{All-nil, All-head, All-tail, All-cons}
use Rattle.std.specs.Prelude.{codes, slice_index_or}
use Rattle.scr_notation.specs.declared.event.Event.{Event}
use Rattle.scr_notation.specs.declared.turn.Turn.{Turn}
use Rattle.scr_notation.specs.Event.{per_group_of}
use Rattle.scr_notation.specs.Spelling.{text_of}
use Rattle.scr_text.specs.Lines.{text_of_lines}
use Rattle.scr_list.specs.declared.round.Round.{Round}
use Rattle.scr_round.specs.Round.{Line, Fixed, Slot, slots_of, labels_from, slot_lines, group_lines, groups_lines, heading, line_text, round_text}
use Rattle.scr_notation.proofs.EachEvent.{each_passes}
use Rattle.scr_round.proofs.LineLaws.{length-labels_from}
use Rattle.scr_sheet.specs.Headline.{HasNoDot, StandInOrder, no_more, next}

-- two lines with no dot
HasNoDot-line : (line text : List ℕ) → HasNoDot line → HasNoDot text → HasNoDot (line ++ 10 ∷ text)
HasNoDot-line line text no_dot bare = grind (arith, list_any-append)

-- ---- labels

-- a label ends with its one dot and a space
record IsLabel (label : List ℕ) : Type 0 where
  before : List ℕ
  no_dot : HasNoDot before
  is : label ≡ before ++ codes ". "

label_of : (before : List ℕ) → HasNoDot before → IsLabel (before ++ codes ". ")
label_of before no_dot = record { before = before; no_dot = no_dot; is = refl }

-- so does each label of a group, whose numbers have one digit
labels_of : (number own : ℕ) → number + own ≤ 10 → All IsLabel (labels_from number own)
labels_of number zero small =
    All-cons IsLabel (codes "E1. ") (codes "E2. " ∷ []) (label_of (codes "E1") refl)
    (All-cons IsLabel (codes "E2. ") [] (label_of (codes "E2") refl) (All-nil IsLabel))
labels_of number (suc own) small =
    grind (arith, ne_eqb, decimal_digit, All-cons, label_of, labels_of (number + 1) own (omega (arith, small)))

-- those of a round's groups
round-labels : (event : Event) → All IsLabel (labels_from 1 (per_group_of event))
round-labels event = grind (arith, ltb-true, each_passes, labels_of)

-- ---- the lines of a round

-- a line with no dot may stand before
line_before : (line : List ℕ) (scrambles : List (List Turn)) (text : List ℕ) → HasNoDot line
    → StandInOrder scrambles text → StandInOrder scrambles (line ++ 10 ∷ text)
line_before line _ _ no_dot (no_more text bare) = no_more (line ++ 10 ∷ text) (HasNoDot-line line text no_dot bare)
line_before line _ _ no_dot (next before turns scrambles below bare rest) =
    let start = 10 ∷ before in
    let behind = 10 ∷ below in
    let text : line ++ start ++ codes ". " ++ text_of turns ++ behind ≡ line ++ (start ++ codes ". " ++ text_of turns ++ behind) =
    ap (λ t. t ++ text_of turns ++ behind) (append_assoc line start (codes ". "))
    ∙ ap (λ t. t ++ behind) (append_assoc line (start ++ codes ". ") (text_of turns))
    ∙ append_assoc line (start ++ codes ". " ++ text_of turns) behind in
    subst (StandInOrder (turns ∷ scrambles)) text (next (line ++ start) turns scrambles below (HasNoDot-line line before no_dot bare) rest)

module _ (all : List (List Turn)) where
  -- the scrambles from a slot on stand in order in the text of lines
  abbrev From : ℕ → List Line → Type 0
  From place lines = StandInOrder (drop place all) (text_of_lines (map (line_text all) lines))

  From-other : (text : List ℕ) (place : ℕ) (lines : List Line) → HasNoDot text → From place lines
      → From place (Fixed text ∷ lines)
  From-other text place lines no_dot below = line_before text (drop place all) (text_of_lines (map (line_text all) lines)) no_dot below

  From-slot : (label : List ℕ) (place : ℕ) (lines : List Line) → IsLabel label → place < length all
      → From (place + 1) lines → From place (Slot label place ∷ lines)
  From-slot label place lines is within below =
      let turns = slice_index_or all place [] in
      let rest = text_of_lines (map (line_text all) lines) in
      let P : List (List Turn) → List ℕ → Type 0 = λ scrambles text. StandInOrder scrambles text in
      let here = next is.before turns (drop (place + 1) all) rest is.no_dot below in
      let text : is.before ++ codes ". " ++ text_of turns ++ 10 ∷ rest ≡ label ++ text_of turns ++ 10 ∷ rest =
      ap (λ l. l ++ text_of turns ++ 10 ∷ rest) (sym is.is) in
      subst (λ t. P (drop place all) t) text
      (subst (λ s. P s (is.before ++ codes ". " ++ text_of turns ++ 10 ∷ rest)) (sym (drop_more all place [] within)) here)

  -- slots one after another
  From-slots : (labels : List (List ℕ)) (place behind : ℕ) (lines : List Line) → All IsLabel labels
      → behind ≡ place + length labels → behind ≤ length all → From behind lines
      → From place (slot_lines labels place ++ lines)
  From-slots [] place behind lines are follows within below = grind arith
  From-slots (label ∷ labels) place behind lines are follows within below =
      From-slot label place (slot_lines labels (place + 1) ++ lines) (All-head IsLabel label labels are) (omega (arith, follows, within))
      (From-slots labels (place + 1) behind lines (All-tail IsLabel label labels are) (omega (arith, follows)) within below)

  -- a group
  From-group : (own letter place behind : ℕ) (lines : List Line) → All IsLabel (labels_from 1 own) → 65 ≤ letter
      → behind ≡ place + (own + 2) → behind ≤ length all → From behind lines
      → From place (group_lines own letter place ++ lines)
  From-group own letter place behind lines are letters follows within below =
      let slots = slot_lines (labels_from 1 own) place in
      let size = length-labels_from 1 own in
      let inner = From-slots (labels_from 1 own) place behind (Fixed [] ∷ lines) are (omega (arith, follows, size)) within (From-other [] behind lines refl below) in
      let order : slots ++ Fixed [] ∷ lines ≡ (slots ++ Fixed [] ∷ []) ++ lines = sym (append_assoc slots (Fixed [] ∷ []) lines) in
      let no_dot : HasNoDot (codes "Group " ++ letter ∷ []) = ap (λ b. b || false) (ne_eqb letter 46 (λ is. omega (arith, is, letters))) in
      From-other (codes "Group " ++ letter ∷ []) place ((slots ++ Fixed [] ∷ []) ++ lines) no_dot (subst (From place) order inner)

  -- groups one after another, to the last scramble
  From-groups : (own groups letter place : ℕ) → All IsLabel (labels_from 1 own) → 65 ≤ letter
      → length all ≡ place + groups * (own + 2) → From place (groups_lines own groups letter place)
  From-groups own zero letter place are letters all_there =
      subst (λ s. StandInOrder s []) (sym (drop_all place all (omega (arith, all_there)))) (no_more [] refl)
  From-groups own (suc more) letter place are letters all_there =
      let size : length all ≡ place + (own + 2) + more * (own + 2) = omega (arith, all_there) in
      From-group own letter place (place + (own + 2)) (groups_lines own more (letter + 1) (place + (own + 2))) are letters refl (omega (arith, size))
      (From-groups own more (letter + 1) (place + (own + 2)) are (omega (arith, letters)) size)

-- the text of a round is its head, and below it its scrambles in order
pub round-in_order : (k : ℕ) (round : Round) (scrambles : List (List Turn)) → length scrambles ≡ slots_of round
    → (below : List ℕ) × StandInOrder scrambles below × (round_text k round scrambles ≡ heading k round ++ 10 ∷ below)
round-in_order k round scrambles each_slot =
    let lines = groups_lines (per_group_of round.event) round.groups 65 0 in
    let from_start : length scrambles ≡ 0 + round.groups * (per_group_of round.event + 2) = omega (arith, each_slot) in (
      text_of_lines (map (line_text scrambles) lines),
      From-groups scrambles (per_group_of round.event) round.groups 65 0 (round-labels round.event) (omega arith) from_start,
      refl,
    )
