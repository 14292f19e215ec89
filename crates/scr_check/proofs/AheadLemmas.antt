-- What is held between two places of a buffer.
use Rattle.std.proofs.Common.{◌≡◌, ℕ, ◌≤◌, Bool, List, [], take, drop, length, ap, length-take, length-drop, arith}
use Rattle.std.proofs.lemmas.List.{drop_all}
use Rattle.scr_check.specs.Ahead.{ReadAhead}

-- nothing is held only between equal places
pub held-none : (from to : ℕ) (buffer : List ℕ) → from ≤ to → to ≤ length buffer → drop from (take to buffer) ≡ []
    → from ≡ to
held-none from to buffer order within none =
    let count = ap length none in
    omega (arith, length-drop from (take to buffer), length-take to buffer)

abbrev held : List ℕ → Bool → ReadAhead
held bytes ended = record { bytes = bytes; ended = ended }

-- where nothing is held, another buffer changes nothing
pub held-kept : (from to : ℕ) (buffer other : List ℕ) (ended : Bool) (now : ReadAhead) → from ≤ to → to ≤ length buffer →
    record { bytes = drop from (take to buffer); ended = ended } ≡ now → now.bytes ≡ [] →
    record { bytes = drop from (take to other); ended = ended } ≡ now
held-kept from to buffer other ended now order within same empty = grind (arith, held-none, drop_all, length-take)
