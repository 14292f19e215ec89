-- Laws of tidied words over any letters.
use Rattle.std.proofs.Common.{◌≡◌, ◌+◌, ◌≤◌, Bool, true, false, IsTrue, cond, List, [], ◌∷◌, ◌++◌, Option, Some, None, length, refl, sym, ap, subst, arith}
use Rattle.std.specs.Prelude.{All}
use Rattle.std.proofs.lemmas.List.Elements.{All-nil, All-cons, All-head, All-tail}
use Rattle.scr_combinatorics.specs.Tidy.{Merging, word_of, with_turn, tidy, begins_alike, IsTidy}
use Rattle.scr_combinatorics.specs.Lawful.{IsMerging}

-- a turn of the first turn's face is merged with it
pub with_turn-alike : {T : Type 0} (m : Merging T) (t u : T) (w : List T) → IsTrue (m.alike t u)
    → with_turn m t (u ∷ w) ≡ word_of (m.merged t u) ++ w
unfolding with_turn
with_turn-alike m t u w h = ap (λ b. cond b (word_of (m.merged t u) ++ w) (t ∷ u ∷ w)) h

-- and any other is kept
pub with_turn-apart : {T : Type 0} (m : Merging T) (t : T) (w : List T) → begins_alike m t w ≡ false
    → with_turn m t w ≡ t ∷ w
unfolding with_turn begins_alike
with_turn-apart m t [] h = refl
with_turn-apart m t (u ∷ w) h = ap (λ b. cond b (word_of (m.merged t u) ++ w) (t ∷ u ∷ w)) h

-- a tidy word's rest is tidy
pub IsTidy-rest : {T : Type 0} (m : Merging T) (t : T) (w : List T) → IsTidy m (t ∷ w) → IsTidy m w
unfolding IsTidy
IsTidy-rest m t w h = h.1

-- and does not go on with its first turn's face
pub IsTidy-apart : {T : Type 0} (m : Merging T) (t : T) (w : List T) → IsTidy m (t ∷ w) → begins_alike m t w ≡ false
unfolding IsTidy
IsTidy-apart m t w h = h.0

-- a turn before a tidy word past its face is a tidy word
pub IsTidy-cons : {T : Type 0} (m : Merging T) (t : T) (w : List T) → begins_alike m t w ≡ false → IsTidy m w
    → IsTidy m (t ∷ w)
unfolding IsTidy
IsTidy-cons m t w a h = (a, h)

-- a turn goes on as one of its face does
pub begins_alike-first : {T : Type 0} (m : Merging T) (IsTurn : T → Type 0) (l : IsMerging m IsTurn) (t u : T) (w : List T)
    → IsTrue (m.alike t u) → begins_alike m t w ≡ begins_alike m u w
unfolding begins_alike
begins_alike-first m IsTurn l t u [] h = refl
begins_alike-first m IsTurn l t u (v ∷ w) h = l.first t u v h

module _ {T : Type 0} (m : Merging T) (IsTurn : T → Type 0) (l : IsMerging m IsTurn) where
  -- what two turns of one face come to, before a tidy word past their face
  merged_tidy : (t u : T) (w : List T) (o : Option T) → m.merged t u ≡ o → IsTrue (m.alike t u)
      → begins_alike m u w ≡ false → IsTidy m w → IsTidy m (word_of o ++ w)
  unfolding word_of
  merged_tidy t u w None e a b h = h
  merged_tidy t u w (Some v) e a b h = grind (arith, IsTidy-cons, begins_alike-first)

  with_turn_by : (t u : T) (w : List T) (b : Bool) → m.alike t u ≡ b → IsTidy m (u ∷ w)
      → IsTidy m (with_turn m t (u ∷ w))
  unfolding begins_alike
  with_turn_by t u w true e h = grind (arith, with_turn-alike, merged_tidy, IsTidy-apart, IsTidy-rest)
  with_turn_by t u w false e h = grind (arith, with_turn-apart, IsTidy-cons)

  -- a turn before a tidy word leaves a tidy word
  pub IsTidy-with_turn : (t : T) (w : List T) → IsTidy m w → IsTidy m (with_turn m t w)
  unfolding with_turn begins_alike IsTidy
  IsTidy-with_turn t [] h = (refl, tt)
  IsTidy-with_turn t (u ∷ w) h = with_turn_by t u w (m.alike t u) refl h

  -- a tidied word is tidy
  pub IsTidy-tidy : (w : List T) → IsTidy m (tidy m w)
  unfolding IsTidy tidy
  IsTidy-tidy [] = tt
  IsTidy-tidy (t ∷ w) = IsTidy-with_turn t (tidy m w) (IsTidy-tidy w)

-- a tidy word is its own tidied word
pub tidy-own : {T : Type 0} (m : Merging T) (w : List T) → IsTidy m w → tidy m w ≡ w
unfolding tidy
tidy-own m [] h = refl
tidy-own m (t ∷ w) h = grind (arith, IsTidy-rest, with_turn-apart, IsTidy-apart, tidy-own m w (IsTidy-rest m t w h))

-- what holds of each turn, and of the turn that two of one face come to
abbrev pub IsKept : {T : Type 0} → Merging T → (T → Type 0) → Type 0
IsKept {T} m P = (t u v : T) → P t → P u → IsTrue (m.alike t u) → m.merged t u ≡ Some v → P v

module _ {T : Type 0} (m : Merging T) (P : T → Type 0) (k : IsKept m P) where
  merged_all : (t u : T) (w : List T) (o : Option T) → m.merged t u ≡ o → IsTrue (m.alike t u) → P t → P u → All P w
      → All P (word_of o ++ w)
  unfolding word_of
  merged_all t u w None e a p q h = h
  merged_all t u w (Some v) e a p q h = All-cons P v w (k t u v p q a e) h

  with_turn_all : (t u : T) (w : List T) (b : Bool) → m.alike t u ≡ b → P t → All P (u ∷ w)
      → All P (with_turn m t (u ∷ w))
  unfolding begins_alike
  with_turn_all t u w true e p h =
      let Q : List T → Type 0 = λ x. All P x in
      subst Q (sym (with_turn-alike m t u w e)) (merged_all t u w (m.merged t u) refl e p (All-head P u w h) (All-tail P u w h))
  with_turn_all t u w false e p h =
      let Q : List T → Type 0 = λ x. All P x in
      subst Q (sym (with_turn-apart m t (u ∷ w) e)) (All-cons P t (u ∷ w) p h)

  pub All-with_turn : (t : T) (w : List T) → P t → All P w → All P (with_turn m t w)
  unfolding with_turn
  All-with_turn t [] p h = All-cons P t [] p h
  All-with_turn t (u ∷ w) p h = with_turn_all t u w (m.alike t u) refl p h

  -- it holds of each turn of a tidied word, where it holds of those of the word
  pub All-tidy : (w : List T) → All P w → All P (tidy m w)
  unfolding tidy
  All-tidy [] h = All-nil P
  All-tidy (t ∷ w) h = All-with_turn t (tidy m w) (All-head P t w h) (All-tidy w (All-tail P t w h))

merged_length : {T : Type 0} (o : Option T) (w : List T) → length (word_of o ++ w) ≤ length w + 1
unfolding word_of
merged_length None w = omega arith
merged_length (Some v) w = omega arith

with_turn_length : {T : Type 0} (m : Merging T) (t u : T) (w : List T) (b : Bool) → m.alike t u ≡ b
    → length (with_turn m t (u ∷ w)) ≤ length w + 2
unfolding begins_alike
with_turn_length m t u w true e = omega (arith, ap length (with_turn-alike m t u w e), merged_length (m.merged t u) w)
with_turn_length m t u w false e = omega (arith, ap length (with_turn-apart m t (u ∷ w) e))

pub length-with_turn : {T : Type 0} (m : Merging T) (t : T) (w : List T) → length (with_turn m t w) ≤ length w + 1
unfolding with_turn
length-with_turn m t [] = omega arith
length-with_turn m t (u ∷ w) = omega (arith, with_turn_length m t u w (m.alike t u) refl)

-- a tidied word is no longer than the word
pub length-tidy : {T : Type 0} (m : Merging T) (w : List T) → length (tidy m w) ≤ length w
unfolding tidy
length-tidy m [] = omega arith
length-tidy m (t ∷ w) = omega (arith, length-with_turn m t (tidy m w), length-tidy m w)
