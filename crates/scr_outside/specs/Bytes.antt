-- The bytes that a sink holds and that a source has left: `Some` of them where it tells its bytes, else `None`.
use Rattle.std.specs.Prelude.{ℕ, ◌≡◌, Option, Some, None, List, [], ◌++◌}

-- what a sink holds after these bytes were appended; one that tells no bytes goes on telling none
abbrev pub appended : Option (List ℕ) → List ℕ → Option (List ℕ)
appended None bytes = None
appended (Some held) bytes = Some (held ++ bytes)

-- what a source had left before it gave these bytes
abbrev pub put_back : List ℕ → Option (List ℕ) → Option (List ℕ)
put_back bytes None = None
put_back bytes (Some left) = Some (bytes ++ left)

-- the whole begins with these bytes
pub record IsFirstPart (part whole : List ℕ) : Type 0 where
  pub rest : List ℕ
  pub parts : whole ≡ part ++ rest

-- nothing is left, where that is told
abbrev pub IsSpent : Option (List ℕ) → Type 0
IsSpent None = Unit {0}
IsSpent (Some left) = left ≡ []
