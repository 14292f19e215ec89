-- Where letters lead a Square-1 nowhere.
use Rattle.std.specs.Prelude.{◌≡◌, ◌⊎◌, false, IsFalse, List, ◌∷◌, ◌++◌, Some}
use Rattle.scr_combinatorics.specs.Play.{play}
use Rattle.scr_notation.specs.declared.event.Event.TheVariants.{Sq1}
use Rattle.scr_notation.specs.declared.turn.Turn.{Turn}
use Rattle.scr_notation.specs.declared.turn.Turn.TheVariants.{Layers}
use Rattle.scr_notation.specs.Turns.{permits}
use Rattle.scr_sq1.specs.Units.{Sq1State, is_open, turned, sq1_after}

-- Layers turned so from a state have a corner across the cut.
abbrev pub TurnsAcross : Sq1State → Turn → Type 0
TurnsAcross s (Layers top bottom) = is_open (turned s top bottom).units ≡ false
TurnsAcross s _ = ⊥

-- One of the letters is barred in its place: those before it lead to a state from which it is no turn of the event, or
-- would turn a corner across the cut.
pub record IsBarredAlong (s : Sq1State) (w : List Turn) : Type 0 where
  pub before : List Turn
  pub letter : Turn
  pub behind : List Turn
  pub state : Sq1State
  pub word : w ≡ before ++ letter ∷ behind
  pub leads : play sq1_after s before ≡ Some state
  pub barred : IsFalse (permits Sq1 letter) ⊎ TurnsAcross state letter
