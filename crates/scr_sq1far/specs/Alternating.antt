-- Words in which turns of the layers and twists take turns.
use Rattle.std.specs.Prelude.{◌≡◌, ℕ, ◌≤◌, Bool, true, false, not, List, [], ◌∷◌, length, Some}
use Rattle.scr_combinatorics.specs.Play.{play}
use Rattle.scr_notation.specs.declared.turn.Turn.{Turn}
use Rattle.scr_notation.specs.declared.turn.Turn.TheVariants.{Twist}
use Rattle.scr_sq1.specs.Units.{Sq1State, solved_sq1, sq1_after}

-- a turn is a twist
abbrev pub is_twist : Turn → Bool
is_twist Twist = true
is_twist _ = false

-- Each second turn is a twist and the others are not, from the first on, which is a twist or not.
abbrev pub Alternates : Bool → List Turn → Type 0
Alternates twists [] = Unit {0}
Alternates twists (t ∷ w) = (is_twist t ≡ twists) × Alternates (not twists) w

-- Each such word that leads from this state to the solved one has at least so many turns.
abbrev pub NeedsBy : Bool → Sq1State → ℕ → Type 0
NeedsBy twists s least = (w : List Turn) → Alternates twists w → play sq1_after s w ≡ Some solved_sq1 → least ≤ length w
