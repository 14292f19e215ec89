-- A text's first fault is the only one.
use Rattle.std.proofs.Common.{◌≡◌, ℕ, ◌<◌, ◌≤◌, List, [], ◌∷◌, ◌++◌, length, get_or, take, refl, sym, ap, ◌∙◌, subst, arith, ⊎_elim}
use Rattle.std.proofs.Math.Seq.{get_or-append_seam}
use Rattle.std.proofs.lemmas.Bool.{cases_lt}
use Rattle.std.proofs.lemmas.List.{take_at, get_or_append_left}
use Rattle.std.proofs.lemmas.List.Elements.{All-get_or}
use Rattle.scr_notation.specs.declared.event.Event.{Event}
use Rattle.scr_notation.specs.declared.reading.NotationFault.{NotationFault}
use Rattle.scr_notation.specs.declared.reading.NotationFault.TheVariants.{Spelling, TooLong}
use Rattle.scr_notation.specs.Reading.{IsSpelling, IsFault, IsFirstFault}

fault_within : (e : Event) (before : List (List ℕ)) (word : List ℕ) (f : NotationFault) → IsFault e before word f
    → length before ≤ 160
fault_within e before word (Spelling place) h = omega (arith, h.0)
fault_within e before word (TooLong place) h = omega (arith, h.0)

-- a spelling is at fault only as the 161st word
fault_last : (e : Event) (before : List (List ℕ)) (word : List ℕ) (f : NotationFault) → IsFault e before word f
    → IsSpelling e word → length before ≡ 160
fault_last e before word (Spelling place) h s = absurd (h.1 s)
fault_last e before word (TooLong place) h s = h.0

-- so no word before another fault is at fault
not_before : (e : Event) (text : List ℕ) (f g : NotationFault) (a : IsFirstFault e text f) (b : IsFirstFault e text g)
    → length a.before < length b.before → ⊥
not_before e text f g a b l =
    let Q : List ℕ → Type 0 = IsSpelling e in
    let same : a.before ++ a.word ∷ a.behind ≡ b.before ++ b.word ∷ b.behind = sym a.words ∙ b.words in
    let at : get_or b.before (length a.before) [] ≡ a.word =
    sym (get_or_append_left b.before (b.word ∷ b.behind) [] (length a.before) l)
    ∙ ap (λ x. get_or x (length a.before) []) (sym same)
    ∙ get_or-append_seam a.before a.word a.behind [] in
    let s : IsSpelling e a.word = subst Q at (All-get_or Q b.before (length a.before) [] l b.spelled) in
    omega (arith, fault_last e a.before a.word f a.at_fault s, fault_within e b.before b.word g b.at_fault)

same_fault : (e : Event) (before : List (List ℕ)) (word other : List ℕ) (f g : NotationFault) → IsFault e before word f
    → IsFault e before other g → f ≡ g
same_fault e before word other (Spelling p) (Spelling q) h k = ap (λ x. Spelling x) (h.2 ∙ sym k.2)
same_fault e before word other (Spelling p) (TooLong q) h k = absurd (omega (arith, h.0, k.0))
same_fault e before word other (TooLong p) (Spelling q) h k = absurd (omega (arith, h.0, k.0))
same_fault e before word other (TooLong p) (TooLong q) h k = ap (λ x. TooLong x) (h.1 ∙ sym k.1)

same_place : (e : Event) (text : List ℕ) (f g : NotationFault) (a : IsFirstFault e text f) (b : IsFirstFault e text g)
    → length a.before ≡ length b.before → f ≡ g
same_place e text f g a b l =
    let befores : a.before ≡ b.before =
    sym (take_at a.before (a.word ∷ a.behind) (length b.before) l)
    ∙ ap (take (length b.before)) (sym a.words ∙ b.words)
    ∙ take_at b.before (b.word ∷ b.behind) (length b.before) refl in
    let Q : List (List ℕ) → Type 0 = λ x. IsFault e x b.word g in
    same_fault e a.before a.word b.word f g a.at_fault (subst Q (sym befores) b.at_fault)

pub one_fault : (e : Event) (text : List ℕ) (f g : NotationFault) → IsFirstFault e text f → IsFirstFault e text g
    → f ≡ g
one_fault e text f g a b =
    ⊎_elim (λ l. absurd (not_before e text f g a b l))
    (λ l. ⊎_elim (λ m. absurd (not_before e text g f b a m)) (λ m. let n : length a.before ≡ length b.before = omega arith in same_place e text f g a b n) (cases_lt (length b.before) (length a.before)))
    (cases_lt (length a.before) (length b.before))
