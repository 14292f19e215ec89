-- Slots of a sheet, looked at one after another.
use Rattle.std.proofs.Common.{◌≡◌, ℕ, ◌+◌, ◌-◌, ◌≤◌, Option, Some, None, is_some, false, List, [], ◌∷◌, ◌++◌, length, get_or, take, drop, refl, sym, ap, ◌∙◌, subst, arith, append_assoc, append-nil}
use Rattle.std.specs.Prelude.{All, ◌≢◌}
use Rattle.std.proofs.lemmas.List.Concat.{flat_map-append}
use Rattle.std.proofs.lemmas.List.Elements.{All-nil, All-cons, All-append, All-head, All-tail, All-map}
use Rattle.scr_notation.specs.declared.event.Event.{Event}
use Rattle.scr_notation.specs.declared.event.Puzzle.TheVariants.{Square1}
use Rattle.scr_notation.specs.Event.{puzzle_of}
use Rattle.scr_notation.specs.declared.turn.Turn.{Turn}
use Rattle.scr_notation.specs.Written.{Written}
use Rattle.scr_read.specs.Groups.{GroupOf, scrambles_of}
use Rattle.scr_pages.specs.Slots.{Slot, slots_from, slots_of, slots_of_group}
use Rattle.scr_pages.specs.Refusals.{NoneIs, IsFirst}
use Rattle.scr_pages.specs.Passes.{Passes, IsFound}
use Rattle.scr_pages.proofs.StepLemmas.{split-first}

-- ---- in a list of slots

pub found-first : (Is : Slot → Type 0) (line : ℕ) (scramble : Written) (more : List Written)
    → Is (record { line = line; scramble = scramble }) → IsFound Is (slots_from line (scramble ∷ more)) (Some line)
found-first Is line scramble more is = record {
  before = [];
  slot = record { line = line; scramble = scramble };
  behind = slots_from (line + 1) more;
  slots_are = refl;
  none = All-nil (λ slot. Is slot → ⊥);
  is = is;
  line_is = refl;
}

within : (Is : Slot → Type 0) (front slots behind : List Slot) (line : ℕ) → NoneIs Is front → IsFirst Is slots line
    → IsFirst Is (front ++ (slots ++ behind)) line
within Is front slots behind line none first = record {
  before = front ++ first.before;
  slot = first.slot;
  behind = first.behind ++ behind;
  slots_are =
      ap (λ s. front ++ (s ++ behind)) first.slots_are
      ∙ ap (λ s. front ++ s) (append_assoc first.before (first.slot ∷ first.behind) behind)
      ∙ sym (append_assoc front first.before (first.slot ∷ first.behind ++ behind));
  none = All-append (λ slot. Is slot → ⊥) front first.before none first.none;
  is = first.is;
  line_is = first.line_is;
}

pub found-later : (Is : Slot → Type 0) (line : ℕ) (scramble : Written) (more : List Written) (answer : Option ℕ)
    → (Is (record { line = line; scramble = scramble }) → ⊥) → IsFound Is (slots_from (line + 1) more) answer
    → IsFound Is (slots_from line (scramble ∷ more)) answer
found-later Is line scramble more None not none =
    All-cons (λ slot. Is slot → ⊥) (record { line = line; scramble = scramble }) (slots_from (line + 1) more) not none
found-later Is line scramble more (Some at) not first =
    let one : Slot = record { line = line; scramble = scramble } in
    subst (λ slots. IsFirst Is (one ∷ slots) at) (append-nil (slots_from (line + 1) more))
    (within Is (one ∷ []) (slots_from (line + 1) more) [] at (All-cons (λ slot. Is slot → ⊥) one [] not (All-nil (λ slot. Is slot → ⊥))) first)

-- the same of a list that is cut behind its first
abbrev pub behind_first : List Written → List Written
behind_first scrambles = take (length scrambles - 1) (drop 1 scrambles)

pub first-is : (Is : Slot → Type 0) (line : ℕ) (scrambles : List Written) (first : Written) → 1 ≤ length scrambles
    → first ≡ get_or scrambles 0 first → Is (record { line = line; scramble = first })
    → IsFirst Is (slots_from line scrambles) line
first-is Is line scrambles first some at is =
    subst (λ all. IsFirst Is (slots_from line all) line) (sym (split-first scrambles first some at))
    (found-first Is line first (behind_first scrambles) is)

pub first-is_not : (Is : Slot → Type 0) (line : ℕ) (scrambles : List Written) (first : Written) (answer : Option ℕ) → 1 ≤ length scrambles
    → first ≡ get_or scrambles 0 first → (Is (record { line = line; scramble = first }) → ⊥)
    → IsFound Is (slots_from (line + 1) (behind_first scrambles)) answer → IsFound Is (slots_from line scrambles) answer
first-is_not Is line scrambles first answer some at not found =
    subst (λ all. IsFound Is (slots_from line all) answer) (sym (split-first scrambles first some at))
    (found-later Is line first (behind_first scrambles) answer not found)

pub rest-are : (P : Written → Type 0) (scrambles : List Written) (first : Written) → 1 ≤ length scrambles
    → first ≡ get_or scrambles 0 first → All P scrambles → All P (behind_first scrambles)
rest-are P scrambles first some at all =
    All-tail P first (behind_first scrambles) (subst (All P) (split-first scrambles first some at) all)

pub rest-shorter : (scrambles : List Written) (first : Written) → 1 ≤ length scrambles → first ≡ get_or scrambles 0 first
    → length (behind_first scrambles) + 1 ≡ length scrambles
rest-shorter scrambles first some at = omega (arith, ap length (split-first scrambles first some at))

-- what has nothing is nothing
pub not_some : {X : Type 0} (answer : Option X) → is_some answer ≡ false → answer ≡ None
not_some None is = refl
not_some (Some x) is = cc

pub first-of : (P : Written → Type 0) (scrambles : List Written) (first : Written) → 1 ≤ length scrambles
    → first ≡ get_or scrambles 0 first → All P scrambles → P first
first-of P scrambles first some at all =
    All-head P first (behind_first scrambles) (subst (All P) (split-first scrambles first some at) all)

-- scrambles of turns are of their event
pub events-are : (event : Event) (turns : List (List Turn)) → All (λ (s : Written). s.event ≡ event) (scrambles_of event turns)
events-are event turns = All-map (λ (s : Written). s.event ≡ event) (λ t. record { event = event; turns = t }) turns (λ k d below. refl)

-- ---- in groups

abbrev pub OfSquare1 : (Slot → Type 0) → Type 0
OfSquare1 Is = (slot : Slot) → Is slot → puzzle_of slot.scramble.event ≡ Square1

of_event : (Is : Slot → Type 0) (event : Event) (line : ℕ) (turns : List (List Turn)) → OfSquare1 Is → puzzle_of event ≢ Square1
    → NoneIs Is (slots_from line (scrambles_of event turns))
of_event Is event line [] of other = All-nil (λ slot. Is slot → ⊥)
of_event Is event line (t ∷ turns) of other =
    let one : Slot = record { line = line; scramble = record { event = event; turns = t } } in
    All-cons (λ slot. Is slot → ⊥) one (slots_from (line + 1) (scrambles_of event turns)) (λ is. other (of one is)) (of_event Is event (line + 1) turns of other)

-- a group of another puzzle has no slot that only those of a Square-1 are
pub none-other : (Is : Slot → Type 0) (group : GroupOf) → OfSquare1 Is → puzzle_of group.head.event ≢ Square1 → NoneIs Is (slots_of_group group)
none-other Is group of other = of_event Is group.head.event (group.line + 1) group.scrambles of other

-- those of a Square-1's group are of it
pub of_square_1 : (group : GroupOf) (scrambles : List Written) → scrambles ≡ scrambles_of group.head.event group.scrambles
    → puzzle_of group.head.event ≡ Square1 → All (λ (s : Written). puzzle_of s.event ≡ Square1) scrambles
of_square_1 group scrambles are is =
    subst (λ all. All (λ (s : Written). puzzle_of s.event ≡ Square1) all) (sym are)
    (λ k d below. ap puzzle_of (events-are group.head.event group.scrambles k d below) ∙ is)

next : (done : List GroupOf) (group : GroupOf) → slots_of (done ++ group ∷ []) ≡ slots_of done ++ slots_of_group group
next done group =
    flat_map-append slots_of_group done (group ∷ []) ∙ ap (λ s. slots_of done ++ s) (append-nil (slots_of_group group))

pub passes-one : (Is : Slot → Type 0) (all left after : List GroupOf) (group : GroupOf) → Passes Is all left → left ≡ group ∷ after
    → NoneIs Is (slots_of_group group) → Passes Is all after
passes-one Is all left after group passes given none = record {
  done = passes.done ++ group ∷ [];
  all_is = passes.all_is ∙ ap (λ l. passes.done ++ l) given ∙ sym (append_assoc passes.done (group ∷ []) after);
  none = subst (NoneIs Is) (sym (next passes.done group))
      (All-append (λ slot. Is slot → ⊥) (slots_of passes.done) (slots_of_group group) passes.none none);
}

pub passes-first : (Is : Slot → Type 0) (all left after : List GroupOf) (group : GroupOf) (line : ℕ) → Passes Is all left
    → left ≡ group ∷ after → IsFirst Is (slots_of_group group) line → IsFirst Is (slots_of all) line
passes-first Is all left after group line passes given first =
    subst (λ slots. IsFirst Is slots line)
    (sym (ap slots_of (passes.all_is ∙ ap (λ l. passes.done ++ l) given) ∙ flat_map-append slots_of_group passes.done (group ∷ after)))
    (within Is (slots_of passes.done) (slots_of_group group) (slots_of after) line passes.none first)

-- of groups that are left, those behind the first are as far down
pub lines-left : (left after : List GroupOf) (group : GroupOf) → left ≡ group ∷ after → All (λ (g : GroupOf). g.line ≤ 65536) left
    → All (λ (g : GroupOf). g.line ≤ 65536) after
lines-left left after group given lines =
    All-tail (λ (g : GroupOf). g.line ≤ 65536) group after (subst (λ (l : List GroupOf). All (λ (g : GroupOf). g.line ≤ 65536) l) given lines)
