-- The text of a sheet, piece by piece.
use Rattle.std.proofs.Common.{◌≡◌, ℕ, ◌+◌, List, [], ◌∷◌, ◌++◌, length, map, refl, sym, ap, subst, ◌∙◌, arith, append_assoc, length-append}
use Rattle.std.specs.Prelude.{All, codes, slice_index_or}
use Rattle.std.proofs.lemmas.List.Elements.{All-head, All-tail, All-weaker}
use Rattle.scr_notation.specs.declared.event.Event.{Event}
use Rattle.scr_notation.specs.declared.turn.Turn.{Turn}
use Rattle.scr_notation.specs.Event.{per_group_of}
use Rattle.scr_notation.specs.Spelling.{text_of}
use Rattle.scr_text.specs.Lines.{text_of_lines}
use Rattle.scr_round.specs.Round.{Line, Fixed, labels_from, slot_lines, groups_lines, heading, line_text, round_text}
use Rattle.scr_round.proofs.LineLaws.{length-labels_from}
use Rattle.scr_read.specs.Sheets.{SheetRound, listed, AreGroup, slots_in}

-- ---- a text before a rest

-- the lines of slots
abbrev pub slots_text : List (List ℕ) → List (List Turn) → List ℕ → List ℕ
slots_text [] scrambles rest = rest
slots_text (label ∷ labels) [] rest = rest
slots_text (label ∷ labels) (turns ∷ scrambles) rest = (label ++ text_of turns) ++ 10 ∷ slots_text labels scrambles rest

-- the lines of a group with this letter, and of groups
abbrev pub group_text : ℕ → ℕ → List (List Turn) → List ℕ → List ℕ
group_text own letter group rest = (codes "Group " ++ letter ∷ []) ++ 10 ∷ slots_text (labels_from 1 own) group ([] ++ 10 ∷ rest)

abbrev pub groups_text : ℕ → ℕ → List (List (List Turn)) → List ℕ → List ℕ
groups_text own letter [] rest = rest
groups_text own letter (group ∷ groups) rest = group_text own letter group (groups_text own (letter + 1) groups rest)

-- ---- it is that of the layout

at_place : (before after : List (List Turn)) (turns : List Turn) (n : ℕ) → n ≡ length before
    → slice_index_or (before ++ turns ∷ after) n [] ≡ turns
at_place before after turns n is = subst (λ k. slice_index_or (before ++ turns ∷ after) k [] ≡ turns) (sym is) (here before)
  where
    here : (front : List (List Turn)) → slice_index_or (front ++ turns ∷ after) (length front) [] ≡ turns
    here [] = refl
    here (x ∷ front) = here front

slots_lines-text : (scrambles : List (List Turn)) (labels : List (List ℕ)) (group before after : List (List Turn)) (n : ℕ) (tail : List Line)
    (rest : List ℕ) → scrambles ≡ before ++ (group ++ after) → n ≡ length before → length group ≡ length labels
    → text_of_lines (map (line_text scrambles) (slot_lines labels n ++ tail)) ++ rest
    ≡ slots_text labels group (text_of_lines (map (line_text scrambles) tail) ++ rest)
slots_lines-text scrambles [] group before after n tail rest is place size = refl
slots_lines-text scrambles (label ∷ labels) [] before after n tail rest is place size = absurd (omega (arith, size))
slots_lines-text scrambles (label ∷ labels) (turns ∷ group) before after n tail rest is place size =
    let own : slice_index_or scrambles n [] ≡ turns =
    ap (λ s. slice_index_or s n []) is ∙ at_place before (group ++ after) turns n place in
    let whole : scrambles ≡ (before ++ turns ∷ []) ++ (group ++ after) = is ∙ sym (append_assoc before (turns ∷ []) (group ++ after)) in
    let next : n + 1 ≡ length (before ++ turns ∷ []) = omega (arith, place, length-append before (turns ∷ [])) in
    let others = slots_lines-text scrambles labels group (before ++ turns ∷ []) after (n + 1) tail rest whole next (omega (arith, size)) in
    let below = text_of_lines (map (line_text scrambles) (slot_lines labels (n + 1) ++ tail)) in
    append_assoc (label ++ text_of (slice_index_or scrambles n [])) (10 ∷ below) rest
    ∙ ap (λ t. (label ++ text_of t) ++ 10 ∷ (below ++ rest)) own ∙ ap (λ t. (label ++ text_of turns) ++ 10 ∷ t) others

groups_lines-text : (scrambles : List (List Turn)) (own : ℕ) (groups : List (List (List Turn))) (letter : ℕ) (before : List (List Turn)) (n : ℕ)
    (rest : List ℕ) → scrambles ≡ before ++ slots_in groups → n ≡ length before → All (λ group. length group ≡ own + 2) groups
    → text_of_lines (map (line_text scrambles) (groups_lines own (length groups) letter n)) ++ rest ≡ groups_text own letter groups rest
groups_lines-text scrambles own [] letter before n rest is place all = refl
groups_lines-text scrambles own (group ∷ groups) letter before n rest is place all =
    let P : List (List Turn) → Type 0 = λ g. length g ≡ own + 2 in
    let size : length group ≡ own + 2 = All-head P group groups all in
    let labels = labels_from 1 own in
    let name = codes "Group " ++ letter ∷ [] in
    let more = groups_lines own (length groups) (letter + 1) (n + (own + 2)) in
    let whole : scrambles ≡ (before ++ group) ++ slots_in groups = is ∙ sym (append_assoc before group (slots_in groups)) in
    let next : n + (own + 2) ≡ length (before ++ group) = omega (arith, place, size, length-append before group) in
    let others = groups_lines-text scrambles own groups (letter + 1) (before ++ group) (n + (own + 2)) rest whole next (All-tail P group groups all) in
    let here = slots_lines-text scrambles labels group before (slots_in groups) n (Fixed [] ∷ more) rest is place (size ∙ sym (length-labels_from 1 own)) in
    let lines : List Line → List ℕ = λ l. text_of_lines (map (line_text scrambles) l) in
    ap (λ l. lines (Fixed name ∷ l) ++ rest) (append_assoc (slot_lines labels n) (Fixed [] ∷ []) more)
    ∙ append_assoc name (10 ∷ lines (slot_lines labels n ++ Fixed [] ∷ more)) rest
    ∙ ap (λ t. name ++ 10 ∷ t) (here ∙ ap (λ t. slots_text labels group ([] ++ 10 ∷ t)) others)

sizes : (event : Event) (groups : List (List (List Turn))) → All (AreGroup event) groups
    → All (λ group. length group ≡ per_group_of event + 2) groups
sizes event groups all = All-weaker (AreGroup event) (λ group. length group ≡ per_group_of event + 2) (λ group is. is.each_slot) groups all

pub round_text-is : (k : ℕ) (round : SheetRound) (rest : List ℕ) → All (AreGroup round.event) round.groups
    → round_text k (listed round) (slots_in round.groups) ++ rest
    ≡ heading k (listed round) ++ 10 ∷ groups_text (per_group_of round.event) 65 round.groups rest
round_text-is k round rest all =
    let scrambles = slots_in round.groups in
    let own = per_group_of round.event in
    append_assoc (heading k (listed round)) (10 ∷ text_of_lines (map (line_text scrambles) (groups_lines own (length round.groups) 65 0))) rest
    ∙ ap (λ t. heading k (listed round) ++ 10 ∷ t)
    (groups_lines-text scrambles own round.groups 65 [] 0 rest refl refl (sizes round.event round.groups all))
