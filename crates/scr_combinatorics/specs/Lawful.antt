-- What holds of turns and of their merging, so that words can be taken back and tidied.
use Rattle.std.specs.Prelude.{◌≡◌, IsTrue, Option, Some, None}
use Rattle.scr_combinatorics.specs.Play.{play}
use Rattle.scr_combinatorics.specs.Tidy.{Merging, word_of}

-- Of what turns do with states, those that are valid: they keep them valid, the opposite turn takes a turn back, and
-- two turns of one face do what they come to together.
pub record IsLawful {S T : Type 0} (after : S → T → Option S) (opposite : T → T) (m : Merging T) (IsValid : S → Type 0) : Type 0 where
  pub keeps : (s r : S) (t : T) → IsValid s → after s t ≡ Some r → IsValid r
  pub undoes : (s r : S) (t : T) → IsValid s → after s t ≡ Some r → after r (opposite t) ≡ Some s
  pub merges : (s r q : S) (t u : T) → IsValid s → IsTrue (m.alike t u) → after s t ≡ Some r → after r u ≡ Some q
      → play after s (word_of (m.merged t u)) ≡ Some q

-- what a turn or nothing and then another such come to together
abbrev pub together : {T : Type 0} → Merging T → Option T → Option T → Option T
together m None u = u
together m (Some t) None = Some t
together m (Some t) (Some u) = m.merged t u

-- Of the letters, those that are turns: to be of one face is an equivalence which merging respects, and it doesn't
-- matter which of three neighbours are merged first.
pub record IsMerging {T : Type 0} (m : Merging T) (IsTurn : T → Type 0) : Type 0 where
  pub closed : (t u v : T) → IsTurn t → IsTurn u → IsTrue (m.alike t u) → m.merged t u ≡ Some v → IsTurn v
  pub first : (t u v : T) → IsTrue (m.alike t u) → m.alike t v ≡ m.alike u v
  pub second : (t u v : T) → IsTrue (m.alike t u) → m.alike v t ≡ m.alike v u
  pub alike_first : (t u v : T) → IsTrue (m.alike t u) → m.merged t u ≡ Some v → IsTrue (m.alike v u)
  pub grouped : (t u v : T) → IsTurn t → IsTurn u → IsTurn v → IsTrue (m.alike t u) → IsTrue (m.alike u v)
      → together m (m.merged t u) (Some v) ≡ together m (Some t) (m.merged u v)
