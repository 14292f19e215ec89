-- Laws of words over any puzzle.
use Rattle.std.proofs.Common.{◌≡◌, ℕ, ◌+◌, ◌≤◌, List, [], ◌∷◌, ◌++◌, Option, Some, None, refl, sym, ap, subst, ◌∙◌, zero-add, add_assoc, arith}
use Rattle.std.specs.Prelude.{option_and_then}
use Rattle.std.specs.Option.{option_map}
use Rattle.std.proofs.lemmas.Option.{same_Some}
use Rattle.scr_combinatorics.specs.Play.{play, count_in}
use Rattle.scr_combinatorics.specs.Reach.{Puzzle, IsReached, Needs}

-- what two steps that may fail give came from what the first gave
pub and_then-some : {A B : Type 0} (f : A → Option B) (o : Option A) (b : B) → option_and_then f o ≡ Some b
    → (a : A) × (o ≡ Some a) × (f a ≡ Some b)
and_then-some f None b e = absurd (cc)
and_then-some f (Some a) b e = (a, refl, e)

-- what a step gives came from what it was done to
pub map-some : {A B : Type 0} (f : A → B) (o : Option A) (b : B) → option_map f o ≡ Some b
    → (a : A) × (o ≡ Some a) × (f a ≡ b)
map-some f None b e = absurd (cc)
map-some f (Some a) b e = (a, refl, same_Some (f a) b e)

-- the empty word does nothing
pub play-empty : {S T : Type 0} (after : S → T → Option S) (s : S) → play after s [] ≡ Some s
unfolding play
play-empty after s = refl

-- a word's first turn is applied first
pub play-first : {S T : Type 0} (after : S → T → Option S) (s r : S) (t : T) (w : List T) → after s t ≡ Some r
    → play after s (t ∷ w) ≡ play after r w
unfolding play
play-first after s r t w e = ap (option_and_then (λ x. play after x w)) e

-- where a word is defined, its first turn is, and so is its rest
pub play-parts : {S T : Type 0} (after : S → T → Option S) (s q : S) (t : T) (w : List T)
    → play after s (t ∷ w) ≡ Some q → (r : S) × (after s t ≡ Some r) × (play after r w ≡ Some q)
unfolding play
play-parts after s q t w e = and_then-some (λ x. play after x w) (after s t) q e

-- a word of one letter is that turn
pub play-one : {S T : Type 0} (after : S → T → Option S) (s : S) (t : T) → play after s (t ∷ []) ≡ after s t
unfolding play
play-one after s t = elim (after s t) as (λ o. option_and_then (λ x. Some x) o ≡ o) [ None ↦ refl | Some r ↦ refl ]

-- joined words are played one after the other
pub play-append : {S T : Type 0} (after : S → T → Option S) (s r : S) (v w : List T) → play after s v ≡ Some r
    → play after s (v ++ w) ≡ play after r w
unfolding play
play-append after s r [] w e = let same : s ≡ r = cc in ap (λ x. play after x w) same
play-append after s r (t ∷ v) w e =
    let parts = play-parts after s r t v e in
    play-first after s parts.0 t (v ++ w) parts.1 ∙ play-append after parts.0 r v w parts.2

-- counted turns add up over joined words
pub count_in-append : {T : Type 0} (counted : T → ℕ) (v w : List T)
    → count_in counted (v ++ w) ≡ count_in counted v + count_in counted w
unfolding count_in
count_in-append counted [] w = sym (zero-add (count_in counted w))
count_in-append counted (t ∷ v) w = grind (arith, add_assoc, count_in-append counted v w)

-- a property that each turn keeps is kept by words
pub play-keeps : {S T : Type 0} (after : S → T → Option S) (P : S → Type 0)
    → ((s r : S) (t : T) → P s → after s t ≡ Some r → P r) → (s r : S) (w : List T) → P s → play after s w ≡ Some r
    → P r
play-keeps after P keeps s r [] h e = let same : s ≡ r = (let d = play-empty after s in cc) in subst P same h
play-keeps after P keeps s r (t ∷ w) h e =
    let parts = play-parts after s r t w e in
    play-keeps after P keeps parts.0 r w (keeps s parts.0 t h parts.1) parts.2

-- a solved state is reached, by the empty word
pub IsReached-solved : {S : Type 0} (p : Puzzle S) (s : S) → p.IsSolved s → IsReached p s
IsReached-solved p s h = ([], s, h, play-empty p.after s)

-- what a word makes of a reached state is reached
pub IsReached-play : {S : Type 0} (p : Puzzle S) (s r : S) (w : List p.Turn) → IsReached p s → play p.after s w ≡ Some r
    → IsReached p r
IsReached-play p s r w h e = (h.0 ++ w, h.1, h.2, play-append p.after h.1 s h.0 w h.3 ∙ e)

-- a property of solved states that each turn keeps is one of each reached state
pub IsReached-keeps : {S : Type 0} (p : Puzzle S) (P : S → Type 0) → ((s : S) → p.IsSolved s → P s)
    → ((s r : S) (t : p.Turn) → P s → p.after s t ≡ Some r → P r) → (s : S) → IsReached p s → P s
IsReached-keeps p P solved keeps s h = play-keeps p.after P keeps h.1 s h.0 (solved h.1 h.2) h.3

-- each state needs no turn at least
pub Needs-zero : {S : Type 0} (p : Puzzle S) (s : S) → Needs p s 0
Needs-zero p s = λ w end c e g. omega arith

-- a state that needs so many needs fewer too
pub Needs-fewer : {S : Type 0} (p : Puzzle S) (s : S) (least fewer : ℕ) → fewer ≤ least → Needs p s least
    → Needs p s fewer
Needs-fewer p s least fewer le n = λ w end c e g. n w end (omega arith) e g
