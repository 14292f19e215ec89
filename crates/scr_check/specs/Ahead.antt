-- What a reader holds of its source's bytes.
use Rattle.std.specs.Prelude.{ℕ, Bool, List}

-- So many bytes are read at once, at most. The number is our own choice.
abbrev pub most_ahead : ℕ
most_ahead = 4096

-- the bytes that were read from the source and not yet taken, and whether the source told its end
pub record ReadAhead : Type 0 where
  pub bytes : List ℕ
  pub ended : Bool
