-- Turns in arrays, as what they make of the solved orbit.
use Rattle.std.specs.Prelude.{◌≡◌, ℕ, List, All, map, length}
use Rattle.scr_orbit.specs.declared.placed.PlaceTurn.{PlaceTurn}
use Rattle.scr_orbit.specs.Orbits.{Orbit}

-- what a turn makes of the solved orbit
abbrev pub made_by : {n : ℕ} → PlaceTurn n → Orbit
made_by turn = record { pieces = turn.places; digits = turn.added }

-- So many turns in arrays are those of a definition, and each is one that is asked for.
pub record IsTurnTable {n : ℕ} (number : ℕ) (IsTurn : Orbit → Type 0) (all : List Orbit) (turns : List (PlaceTurn n)) : Type 0 where
  pub count : length turns ≡ number
  pub defined : map made_by turns ≡ all
  pub valid : All (λ t. IsTurn (made_by t)) turns
