-- Tidying a word: neighbouring turns of one face are merged, until there are none. Two merged turns give one turn or
-- none.
use Rattle.std.specs.Prelude.{◌≡◌, Bool, false, IsTrue, if◌then◌else◌, List, [], ◌∷◌, ◌++◌, Option, Some, None}
use Rattle.scr_combinatorics.specs.Play.{play}

-- What a puzzle shows of its turns: which two are of one face, and what two of one face come to together: one turn, or
-- nothing.
pub record Merging (T : Type 0) : Type 0 where
  pub alike : T → T → Bool
  pub merged : T → T → Option T

-- the word of one turn or none
unfoldable pub word_of : {T : Type 0} → Option T → List T
word_of None = []
word_of (Some t) = t ∷ []

-- a turn before a tidy word, merged with the word's first turn if that is of its face
unfoldable pub with_turn : {T : Type 0} → Merging T → T → List T → List T
with_turn m t [] = t ∷ []
with_turn m t (u ∷ w) = if m.alike t u then word_of (m.merged t u) ++ w else t ∷ u ∷ w

-- The tidied word: each turn in its place before the tidied rest.
unfoldable pub tidy : {T : Type 0} → Merging T → List T → List T
tidy m [] = []
tidy m (t ∷ w) = with_turn m t (tidy m w)

-- the word begins with a turn of this turn's face
unfoldable pub begins_alike : {T : Type 0} → Merging T → T → List T → Bool
begins_alike m t [] = false
begins_alike m t (u ∷ w) = m.alike t u

-- no two neighbours are of one face
unfoldable pub IsTidy : {T : Type 0} → Merging T → List T → Type 0
IsTidy m [] = Unit {0}
IsTidy m (t ∷ w) = (begins_alike m t w ≡ false) × IsTidy m w

-- One merge, anywhere in a word: two neighbours of one face become one turn, or vanish.
pub data Merges {T : Type 0} (m : Merging T) : List T → List T → Type 0 where
  here : (t u : T) (w : List T) → IsTrue (m.alike t u) → Merges m (t ∷ u ∷ w) (word_of (m.merged t u) ++ w)
  later : (t : T) (v w : List T) → Merges m v w → Merges m (t ∷ v) (t ∷ w)

-- Merges one after another lead from one word to another.
pub data MergesTo {T : Type 0} (m : Merging T) : List T → List T → Type 0 where
  there : (w : List T) → MergesTo m w w
  then : (u v w : List T) → Merges m u v → MergesTo m v w → MergesTo m u w

-- Wherever a word is defined from a valid state, the tidied word leads to the same state.
abbrev pub IsKeptByTidy : {S T : Type 0} → (S → T → Option S) → Merging T → (S → Type 0) → Type 0
IsKeptByTidy {S} {T} after m IsValid =
    (s r : S) (w : List T) → IsValid s → play after s w ≡ Some r → play after s (tidy m w) ≡ Some r
