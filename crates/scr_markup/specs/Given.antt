-- Attributes as a call gives them.
use Rattle.std.specs.Prelude.{ℕ, List, map}
use Rattle.std.specs.Borrow.{Bor}
use Rattle.scr_markup.specs.Tokens.{Attribute}

-- keys with their values
abbrev pub attribute_of : Bor (List ℕ) × Bor (List ℕ) → Attribute
attribute_of pair = record { key = pair.0.now; value = pair.1.now }

abbrev pub attributes_of : List (Bor (List ℕ) × Bor (List ℕ)) → List Attribute
attributes_of pairs = map attribute_of pairs
