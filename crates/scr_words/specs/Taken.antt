-- What a contract sees of the two sources of words.
use Rattle.std.specs.Prelude.{ℕ, List}

-- a stream of a key of eight words, of which some words were taken
pub record Stream : Type 0 where
  pub key : List ℕ
  pub stream : ℕ
  pub taken : ℕ

-- a list of words, of which some were taken; zeros come after its last word
pub record Listed : Type 0 where
  pub list : List ℕ
  pub taken : ℕ
