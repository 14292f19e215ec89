-- The scrambles of a group, one after another.
use Rattle.std.proofs.Common.{◌≡◌, ℕ, zero, suc, ◌+◌, ◌-◌, ◌<◌, ◌≤◌, ◌&&◌, Bool, true, false, Some, slice_get, List, [], ◌∷◌, ◌++◌, length, get_or, take, drop, refl, sym, ap, ◌∙◌, subst, arith}
use Rattle.std.specs.Fmt.{digits}
use Rattle.std.specs.List.{list_all}
use Rattle.std.proofs.lemmas.List.{drop-drop, take_all, take-take, take-append-drop, drop-take}
use Rattle.scr_notation.specs.declared.event.Event.{Event}
use Rattle.scr_notation.specs.declared.event.Event.TheVariants.{C222}
use Rattle.scr_notation.specs.Event.{per_group_of}
use Rattle.scr_notation.specs.Written.{Written}
use Rattle.scr_layout.specs.Group.{Group}
use Rattle.scr_layout.specs.Texts.{labels_of}
use Rattle.scr_text_pages.specs.Slots.{labelled, slot_words, slots_of_group, cut_text_of}
use Rattle.scr_text_pages.specs.Adding.{is_label, slots_between}

-- ---- labels

labels-are : (event : Event) → list_all is_label (labels_of event) ≡ true
unfolding digits
labels-are C222 = refl
labels-are event = refl

labels-few : (event : Event) → length (labels_of event) ≡ per_group_of event + 2
labels-few C222 = refl
labels-few event = refl

parts : (a b : Bool) → (a && b) ≡ true → (a ≡ true) × (b ≡ true)
parts true b is = (refl, is)
parts false b is = cc

passes : (labels : List (List ℕ)) (place : ℕ) (label : List ℕ) → list_all is_label labels ≡ true → slice_get labels place ≡ Some label → is_label label ≡ true
passes [] place label pass is = cc
passes (first ∷ labels) zero label pass is =
    let same : first ≡ label = cc in
    subst (λ l. is_label l ≡ true) same (parts (is_label first) (list_all is_label labels) pass).0
passes (first ∷ labels) (suc place) label pass is = passes labels place label (parts (is_label first) (list_all is_label labels) pass).1 is

pub is-label : (event : Event) (place : ℕ) (label : List ℕ) → slice_get (labels_of event) place ≡ Some label → is_label label ≡ true
is-label event place label is = passes (labels_of event) place label (labels-are event) is

-- ---- one scramble

one-labelled : (pictures : Bool) (of : List ℕ) (labels : List (List ℕ)) (scrambles : List Written) (place : ℕ) (label : List ℕ) (scramble : Written)
    → slice_get labels place ≡ Some label → place < length scrambles → scramble ≡ get_or scrambles place scramble
    → take 1 (drop place (labelled pictures of labels scrambles)) ≡ record { of = of; words = slot_words pictures label scramble } ∷ []
one-labelled pictures of labels [] place label scramble is below at = absurd (omega arith)
one-labelled pictures of [] (s ∷ scrambles) place label scramble is below at = cc
one-labelled pictures of (l ∷ labels) (s ∷ scrambles) zero label scramble is below at =
    let same : l ≡ label = cc in
    ap (λ x. record { of = of; words = slot_words pictures x s } ∷ []) same
    ∙ ap (λ (x : Written). record { of = of; words = slot_words pictures label x } ∷ []) (sym at)
one-labelled pictures of (l ∷ labels) (s ∷ scrambles) (suc place) label scramble is below at =
    one-labelled pictures of labels scrambles place label scramble is (omega arith) at

pub one-slot : (pictures : Bool) (group : Group) (place : ℕ) (label : List ℕ) (scramble : Written) → slice_get (labels_of group.event) place ≡ Some label
    → place < length group.scrambles → scramble ≡ get_or group.scrambles place scramble
    → take 1 (drop place (slots_of_group pictures group)) ≡ record { of = cut_text_of group; words = slot_words pictures label scramble } ∷ []
one-slot pictures group place label scramble is below at = one-labelled pictures (cut_text_of group) (labels_of group.event) group.scrambles place label scramble is below at

-- ---- more and more

-- so many, and those behind them
taken-more : {X : Type 0} (n m : ℕ) (xs : List X) → take n xs ++ take m (drop n xs) ≡ take (n + m) xs
taken-more n m xs =
    sym (ap (λ l. l ++ take m (drop n xs)) (take-take n (n + m) xs (omega arith)))
    ∙ sym (ap (λ l. take n (take (n + m) xs) ++ l) (drop-take n m xs)) ∙ take-append-drop n (take (n + m) xs)

pub between-none : (pictures : Bool) (from : ℕ) (group : Group) → slots_between pictures from from group ≡ []
between-none pictures from group = ap (λ n. take n (drop from (slots_of_group pictures group))) (none from)
  where
    none : (n : ℕ) → n - n ≡ 0
    none n = omega arith

pub between-more : (pictures : Bool) (from place : ℕ) (group : Group) → from ≤ place
    → slots_between pictures from place group ++ take 1 (drop place (slots_of_group pictures group)) ≡ slots_between pictures from (place + 1) group
between-more pictures from place group le =
    let slots = drop from (slots_of_group pictures group) in
    let n = place - from in
    let there : from + n ≡ place = omega arith in
    let next : n + 1 ≡ place + 1 - from = omega (arith, le) in
    ap (λ k. take n slots ++ take 1 (drop k (slots_of_group pictures group))) (sym there)
    ∙ ap (λ l. take n slots ++ take 1 l) (sym (drop-drop n from (slots_of_group pictures group)))
    ∙ taken-more n 1 slots ∙ ap (λ k. take k slots) next

-- those before a place, and those from there to another
pub before-more : (pictures : Bool) (from end : ℕ) (group : Group) → from ≤ end
    → take from (slots_of_group pictures group) ++ slots_between pictures from end group ≡ take end (slots_of_group pictures group)
before-more pictures from end group le =
    let slots = slots_of_group pictures group in
    let all : from + (end - from) ≡ end = omega (arith, le) in
    taken-more from (end - from) slots ∙ ap (λ k. take k slots) all

labelled-few : (pictures : Bool) (of : List ℕ) (labels : List (List ℕ)) (scrambles : List Written) → length (labelled pictures of labels scrambles) ≤ length labels
labelled-few pictures of [] scrambles = omega arith
labelled-few pictures of (l ∷ labels) [] = omega arith
labelled-few pictures of (l ∷ labels) (s ∷ scrambles) = omega (arith, labelled-few pictures of labels scrambles)

pub all-taken : (pictures : Bool) (count : ℕ) (group : Group) → per_group_of group.event + 2 ≤ count → take count (slots_of_group pictures group) ≡ slots_of_group pictures group
all-taken pictures count group enough =
    take_all count (slots_of_group pictures group)
    (omega (arith, enough, labelled-few pictures (cut_text_of group) (labels_of group.event) group.scrambles, labels-few group.event))
