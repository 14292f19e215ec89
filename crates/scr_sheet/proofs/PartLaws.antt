-- Parts made and written one after another.
use Rattle.std.proofs.Math.Seq.{take-append_seam}
use Rattle.std.proofs.lemmas.List.{length-map, map-append, take-append-drop, length-take-le}
use Rattle.std.proofs.Common.{◌≡◌, ℕ, suc, ◌+◌, ◌<◌, List, [], ◌∷◌, ◌++◌, length, map, take, drop, get_or, Ok, Err, refl, sym, ap, subst, ◌∙◌, append_assoc, append-nil, length-append, drop-cons, add-one, arith, rules}
use Rattle.std.specs.Option.{option_flatten}
use Rattle.std.specs.Prelude.{Option, Some, None, IsSomeAnd, Result, MatchResult, slice_index_or}
use Rattle.scr_notation.specs.Written.{Written}
use Rattle.scr_outside.specs.Change.{Change, Gains, Falters}
use Rattle.scr_outside.proofs.ChangeLemmas.{from_to, Gains-nothing, Gains-append, Falters-after}
use Rattle.scr_check.specs.declared.fault.Missing.{Missing}
use Rattle.scr_list.specs.declared.round.Round.{Round}
use Rattle.scr_slots.specs.declared.settings.Settings.{Settings}
use Rattle.scr_slots.specs.Promised.{Promised}
use Rattle.scr_slots.specs.Slots.{Scrambling, IsSlotAnswer, IsSlotScramble}
use Rattle.scr_slots.specs.Events.{scrambling_of}
use Rattle.scr_fault.specs.declared.fault.Fault.{Fault}
use Rattle.scr_fault.specs.declared.fault.Fault.TheVariants as fault
use Rattle.scr_round.specs.Round.{round_text}
use Rattle.scr_round.specs.Made.{turns_of_each}
use Rattle.scr_workers.specs.Answered.{AreAnswered}
use Rattle.scr_sheet.specs.Making.{AreAnswers, IsFirstNone}
use Rattle.scr_sheet.specs.Sheet.{IsFirstWithout, Part, round_part, round_parts, EachSlot, AreScrambles, IsPartText, IsText}
use Rattle.scr_sheet.specs.Outcome.{IsUnwritten, IsLed, IsStopped, EndsParts}

-- ---- slots one after another

-- the first ones of some, and the one behind them
pub EachSlot-before : {X : Type 0} (Is : ℕ → X → Type 0) (stream : ℕ) (xs ys : List X) → EachSlot Is stream (xs ++ ys)
    → EachSlot Is stream xs
EachSlot-before Is stream [] ys each = tt
EachSlot-before Is stream (x ∷ xs) ys each = (each.0, EachSlot-before Is (stream + 1) xs ys each.1)

pub EachSlot-behind : {X : Type 0} (Is : ℕ → X → Type 0) (stream : ℕ) (xs : List X) (y : X) (ys : List X)
    → EachSlot Is stream (xs ++ y ∷ ys) → Is (stream + length xs) y
EachSlot-behind Is stream [] y ys each = let here : stream ≡ stream + 0 = omega arith in subst (λ s. Is s y) here each.0
EachSlot-behind Is stream (x ∷ xs) y ys each = grind (arith, EachSlot-behind Is (stream + 1) xs y ys each.1)

-- what is so of each is so of what is made of each
pub EachSlot-map : {X Y : Type 0} (Is : ℕ → X → Type 0) (So : ℕ → Y → Type 0) (f : X → Y)
    → ((s : ℕ) (x : X) → Is s x → So s (f x)) → (stream : ℕ) (xs : List X) → EachSlot Is stream xs
    → EachSlot So stream (map f xs)
EachSlot-map Is So f so stream [] each = tt
EachSlot-map Is So f so stream (x ∷ xs) each = (so stream x each.0, EachSlot-map Is So f so (stream + 1) xs each.1)

-- ---- answers and scrambles

-- answers that stand at their places
EachSlot-answered : (Is : ℕ → Option Written → Type 0) (stream : ℕ) (answers : List (Option (Option Written)))
    → AreAnswered (λ slot. Is (stream + slot)) answers → EachSlot Is stream (map option_flatten answers)
EachSlot-answered Is stream [] each = tt
EachSlot-answered Is stream (None ∷ answers) each = absurd (each 0 (omega arith))
EachSlot-answered Is stream (Some answer ∷ answers) each =
    let here : stream + 0 ≡ stream = omega arith in
    let place : (slot : ℕ) → stream + suc slot ≡ stream + 1 + slot = λ slot. omega arith in (
      subst (λ s. Is s answer) here (each 0 (omega arith)),
      EachSlot-answered Is (stream + 1) answers (λ slot within.
          subst (λ s. IsSomeAnd (slice_index_or answers slot None) (Is s)) (place slot) (each (suc slot) (omega arith))),
    )

-- so they are the answers of a part, where they are the first ones of a list that is kept beyond its end
pub AreAnswers-placed : (settings : Settings) (part : Part) (n : ℕ) (answers behind : List (Option (Option Written)))
    → length answers ≡ n → n ≡ part.slots
    → AreAnswered (λ slot. IsSlotAnswer (scrambling_of part.event) settings part.least (part.first_stream + slot)) answers
    → AreAnswers settings part (map option_flatten (take n (answers ++ behind)))
AreAnswers-placed settings part n answers behind as_many slots each =
    grind (arith, take-append_seam, length-map, EachSlot-answered)

-- the first of answers that is none, where those before it are some
pub IsFirstNone-here : (answers : List (Option (Option Written))) (before : List Written) (k : ℕ) (d : Option (Option Written))
    → k < length answers → map Some before ≡ map option_flatten (take k answers) → option_flatten (get_or answers k d) ≡ None
    → IsFirstNone (map option_flatten answers) k
IsFirstNone-here answers before k d there led none =
    let here : drop k answers ≡ get_or answers k d ∷ drop (k + 1) answers = rw add-one (drop-cons answers k d there) in
    let parts : answers ≡ take k answers ++ drop k answers = sym (take-append-drop k answers) in
    let some = length-map before (λ (w : Written). Some w) in
    let mapped = length-map (take k answers) option_flatten in
    let size = length-take-le k answers (omega (arith, there)) in
    let same : length (map Some before) ≡ length (map option_flatten (take k answers)) = ap length led in record {
      before = before;
      behind = map option_flatten (drop (k + 1) answers);
      are = ap (map option_flatten) parts ∙ map-append option_flatten (take k answers) (drop k answers)
          ∙ ap (λ xs. xs ++ map option_flatten (drop k answers)) (sym led)
          ∙ ap (λ xs. map Some before ++ map option_flatten xs) here
          ∙ ap (λ x. map Some before ++ x ∷ map option_flatten (drop (k + 1) answers)) none;
      as_many = omega (arith, some, mapped, size, same);
    }

-- answers that all are scrambles
pub scrambles_of_answers : {promised : Promised} (scrambling : Scrambling promised) (settings : Settings) (least stream : ℕ) (scrambles : List Written)
    → EachSlot (IsSlotAnswer scrambling settings least) stream (map Some scrambles)
    → EachSlot (IsSlotScramble scrambling settings least) stream scrambles
scrambles_of_answers scrambling settings least stream [] each = tt
scrambles_of_answers scrambling settings least stream (scramble ∷ scrambles) each =
    (each.0, scrambles_of_answers scrambling settings least (stream + 1) scrambles each.1)

-- so a part has its scrambles
pub AreScrambles-all : (settings : Settings) (part : Part) (answers : List (Option Written)) (scrambles : List Written)
    → AreAnswers settings part answers → map Some scrambles ≡ answers → AreScrambles settings part part.slots scrambles
AreScrambles-all settings part answers scrambles are same = grind (arith, length-map, scrambles_of_answers)

-- and one of which an answer is none has a first slot without
pub IsFirstWithout-none : (settings : Settings) (part : Part) (answers : List (Option Written)) (place : ℕ)
    → AreAnswers settings part answers → IsFirstNone answers place → IsFirstWithout settings part place
IsFirstWithout-none settings part answers place are first =
    grind (arith, length-map, length-append, EachSlot-behind, scrambles_of_answers, EachSlot-before)

-- so it is with what workers made of them
pub made-slots : (settings : Settings) (part : Part) (answers : List (Option Written)) (scrambles : List Written) (made : Result (Unit {0}) ℕ)
    → AreAnswers settings part answers → MatchResult made (λ _. map Some scrambles ≡ answers) (IsFirstNone answers)
    → MatchResult made (λ _. AreScrambles settings part part.slots scrambles) (IsFirstWithout settings part)
made-slots settings part answers scrambles (Ok u) are same = AreScrambles-all settings part answers scrambles are same
made-slots settings part answers scrambles (Err place) are first = IsFirstWithout-none settings part answers place are first

-- ---- texts

-- the text of one part
pub IsText-one : (IsOne : Part → List ℕ → Type 0) (part : Part) (text : List ℕ) → IsOne part text
    → IsText IsOne (part ∷ []) text
IsText-one IsOne part text is = (text, [], is, refl, sym (append-nil text))

-- the text of parts behind others
pub IsText-append : (IsOne : Part → List ℕ → Type 0) (parts more : List Part) (text next : List ℕ)
    → IsText IsOne parts text → IsText IsOne more next → IsText IsOne (parts ++ more) (text ++ next)
IsText-append IsOne [] more text next none after = subst (λ t. IsText IsOne more (t ++ next)) (sym none) after
IsText-append IsOne (part ∷ parts) more text next before after =
    grind (arith, append_assoc, IsText-append IsOne parts more before.1 next before.3 after)

-- ---- how far the parts of a command are written

-- all parts are written
pub record IsDone (settings : Settings) (parts : List Part) (out : Change) : Type 0 where
  pub text : List ℕ
  pub all : IsText (IsPartText settings) parts text
  pub gained : Gains out text

-- said of leading parts, behind which none is left
abbrev pub IsWhole : Settings → List Part → Change → Type 0
IsWhole settings parts out = IsLed settings parts (Gains out) (λ led rest. rest ≡ [])

pub done-whole : {settings : Settings} {parts : List Part} {out : Change} → IsDone settings parts out
    → IsWhole settings parts out
done-whole {parts = parts} done = grind (arith, append-nil)

pub whole-done : {settings : Settings} {parts : List Part} {out : Change} → IsWhole settings parts out
    → IsDone settings parts out
whole-done {settings = settings} whole = grind (arith, append-nil)

-- all parts are written but the rest, of which the first is part k
pub record IsMadeUpTo (settings : Settings) (parts rest : List Part) (k : ℕ) (out : Change) : Type 0 where
  pub led : List Part
  pub text : List ℕ
  pub are : parts ≡ led ++ rest
  pub has : IsText (IsPartText settings) led text
  pub place : k ≡ length led
  pub gained : Gains out text

-- none is written yet
pub made-none : {settings : Settings} {parts : List Part} {held : Option (List ℕ)} {faults : ℕ} →
    IsMadeUpTo settings parts parts 0 (from_to held faults held faults)
made-none = record { led = []; text = []; are = refl; has = refl; place = refl; gained = Gains-nothing }

-- one more part
pub made-more : {settings : Settings} {parts rest : List Part} {part : Part} {k : ℕ} {held held' held'' : Option (List ℕ)}
    {faults faults' faults'' : ℕ} → IsMadeUpTo settings parts (part ∷ rest) k (from_to held faults held' faults')
    → IsDone settings (part ∷ []) (from_to held' faults' held'' faults'')
    → IsMadeUpTo settings parts rest (k + 1) (from_to held faults held'' faults'')
made-more {settings = settings} {rest = rest} {part = part} made done = record {
  led = made.led ++ part ∷ [];
  text = made.text ++ done.text;
  are = made.are ∙ sym (append_assoc made.led (part ∷ []) rest);
  has = IsText-append (IsPartText settings) made.led (part ∷ []) made.text done.text made.has done.all;
  place = ap (λ n. n + 1) made.place ∙ sym (length-append made.led (part ∷ []));
  gained = Gains-append made.gained done.gained;
}

-- leading parts behind others
IsLed-behind : {settings : Settings} {parts more : List Part} {k : ℕ} {out : Change} {Is Is' : List ℕ → Type 0} {Leaves Leaves' : ℕ → List Part → Type 0}
    (rest : List Part) (made : IsMadeUpTo settings parts (more ++ rest) k out) → ((text : List ℕ) → Is text → Is' (made.text ++ text))
    → ((led : ℕ) (left : List Part) → Leaves led left → Leaves' (k + led) (left ++ rest)) → IsLed settings more Is Leaves
    → IsLed settings parts Is' Leaves'
IsLed-behind {settings} {k = k} {Leaves' = Leaves'} rest made so leaving ends =
    grind (arith, length-append, append_assoc, IsText-append)

-- a slot without a scramble, of the first of some parts, with others behind them
IsStopped-before : (settings : Settings) (missing : Missing) (k k' : ℕ) (left rest : List Part) → k ≡ k'
    → IsStopped settings missing k left → IsStopped settings missing k' (left ++ rest)
IsStopped-before settings missing k k' [] rest same stopped = absurd stopped
IsStopped-before settings missing k k' (failing ∷ left) rest same (j, told, first) = grind arith

-- a part that ends the command
pub made-fault : {settings : Settings} {parts rest : List Part} {part : Part} {k : ℕ} {held held' : Option (List ℕ)}
    {faults faults' : ℕ} (held'' : Option (List ℕ)) (faults'' : ℕ) (f : Fault) → IsMadeUpTo settings parts (part ∷ rest) k (from_to held faults held' faults')
    → EndsParts settings k (part ∷ []) (from_to held' faults' held'' faults'') (Err f)
    → EndsParts settings 0 parts (from_to held faults held'' faults'') (Err f)
made-fault {settings = settings} {rest = rest} {k = k} held'' faults'' (fault.DrawLimit missing) made ends =
    IsLed-behind rest made (λ text. Gains-append made.gained)
    (λ led left. IsStopped-before settings missing (k + led) (0 + (k + led)) left rest (omega arith)) ends
made-fault {rest = rest} held'' faults'' fault.Write made ends =
    IsLed-behind rest made (λ text. Falters-after made.gained) (λ led left u. tt) ends
made-fault held'' faults'' f made ends = absurd ends

-- ---- the rounds of a list

-- the parts of the rounds from one on
round_parts-next : (rounds : List Round) (i : ℕ) (d : Round) → i < length rounds
    → round_parts i (drop i rounds) ≡ round_part i (get_or rounds i d) ∷ round_parts (i + 1) (drop (i + 1) rounds)
round_parts-next rounds i d there = rw (drop-cons rounds i d there, add-one i) refl

-- a round that was written whole
pub round-more : {settings : Settings} {held held' : Option (List ℕ)} {faults faults' : ℕ} (rounds : List Round) (i : ℕ) (round : Round)
    → round ≡ get_or rounds i round → (held'' : Option (List ℕ)) (faults'' : ℕ) → i < length rounds
    → IsMadeUpTo settings (round_parts 0 rounds) (round_parts i (drop i rounds)) i (from_to held faults held' faults')
    → IsWhole settings (round_part i round ∷ []) (from_to held' faults' held'' faults'')
    → IsMadeUpTo settings (round_parts 0 rounds) (round_parts (i + 1) (drop (i + 1) rounds)) (i + 1) (from_to held faults held'' faults'')
round-more {settings} {held} {held'} {faults} {faults'} rounds i round is held'' faults'' there made done =
    grind (arith, from_to, made-more, round_parts-next, whole-done)

-- a round that ends the sheet
pub round-fault : {settings : Settings} {held held' : Option (List ℕ)} {faults faults' : ℕ} (rounds : List Round) (i : ℕ) (round : Round)
    → round ≡ get_or rounds i round → (held'' : Option (List ℕ)) (faults'' : ℕ) (f : Fault) → i < length rounds
    → IsMadeUpTo settings (round_parts 0 rounds) (round_parts i (drop i rounds)) i (from_to held faults held' faults')
    → EndsParts settings i (round_part i round ∷ []) (from_to held' faults' held'' faults'') (Err f)
    → EndsParts settings 0 (round_parts 0 rounds) (from_to held faults held'' faults'') (Err f)
round-fault {settings} {held} {held'} {faults} {faults'} rounds i round is held'' faults'' f there made ends =
    let P : List Part → Type 0 = λ rest. IsMadeUpTo settings (round_parts 0 rounds) rest i (from_to held faults held' faults') in
    let Ends : Round → Type 0 = λ r. EndsParts settings i (round_part i r ∷ []) (from_to held' faults' held'' faults'') (Err f) in
    made-fault held'' faults'' f (subst P (round_parts-next rounds i round there) made) (subst Ends is ends)

-- the text of a round whose slots have their scrambles
pub IsPartText-made : {settings : Settings} {scrambles : List Written} (k : ℕ) (round : Round)
    → AreScrambles settings (round_part k round) (round_part k round).slots scrambles
    → IsPartText settings (round_part k round) (round_text k round (turns_of_each scrambles))
IsPartText-made {scrambles = scrambles} k round all = record { scrambles = scrambles; all = all; is = refl }

-- nothing was written of some parts
IsLed-none : {settings : Settings} {parts : List Part} {out : Change} {Leaves : ℕ → List Part → Type 0} → Leaves 0 parts
    → IsUnwritten out → IsLed settings parts (Gains out) Leaves
IsLed-none {parts = parts} leaves unwritten = grind arith

-- a part that stands alone has a slot without a scramble
pub first-stopped : {settings : Settings} {part : Part} {out : Change} (k : ℕ) (missing : Missing)
    → IsStopped settings missing k (part ∷ []) → IsUnwritten out
    → EndsParts settings k (part ∷ []) out (Err (fault.DrawLimit missing))
first-stopped {settings} {part} k missing stopped = grind (arith, IsLed-none, IsStopped-before)

-- a part that stands alone was written in part
pub first-broken : {settings : Settings} {part : Part} {text : List ℕ} {out : Change} → IsPartText settings part text
    → Falters out text → IsLed settings (part ∷ []) (Falters out) (λ led rest. Unit {0})
first-broken {settings = settings} {part = part} {text = text} is faltered = record {
  led = part ∷ [];
  rest = [];
  are = refl;
  text = text;
  has = IsText-one (IsPartText settings) part text is;
  is = faltered;
  leaves = tt;
}

-- and whole
pub IsWhole-first : {settings : Settings} {part : Part} {text : List ℕ} {out : Change} → IsPartText settings part text
    → Gains out text → IsWhole settings (part ∷ []) out
IsWhole-first {settings = settings} {part = part} {text = text} is gained =
    search (arith, rules, done-whole, IsText-one)
