-- What the test of a minimum asks, side by side.
use Rattle.std.specs.Prelude.{◌≡◌, ℕ, ◌-◌, ◌%◌, ◌<◌, Bool, true, false, ◌⊎◌, if◌then◌else◌, List, [], ◌∷◌, slice_index}
use Rattle.scr_clock.specs.Dials.{DialTurn, dials_turned, solved, dial_turn}

-- The pins and the amount of a turn of either side.
pub record Setting : Type 0 where
  pub pins : ℕ
  pub amount : ℕ
  pub some_pin : 0 < pins
  pub four_pins : pins < 16
  pub hours : amount < 12

-- the turn of this side by a setting
abbrev pub turn_by : Bool → Setting → DialTurn
turn_by back s = dial_turn back s.pins s.amount

-- Some turn of this side makes dials of which this is so.
pub record SomeTurn (back : Bool) (dials : List ℕ) (IsSo : List ℕ → Type 0) : Type 0 where
  pub setting : Setting
  pub gives : IsSo (dials_turned dials (turn_by back setting))

-- Some turns, one of each of these sides in order, lead to solved.
abbrev pub SidesLead : List Bool → List ℕ → Type 0
SidesLead [] dials = dials ≡ solved
SidesLead (back ∷ sides) dials = SomeTurn back dials (SidesLead sides)

-- Something is so of each dial that no turn of this side moves: the back's edges and centre for the front, and the
-- front's for the back.
abbrev pub OfOthers : Bool → (ℕ → Type 0) → Type 0
OfOthers false IsSo = IsSo 9 × IsSo 10 × IsSo 11 × IsSo 12 × IsSo 13
OfOthers true IsSo = IsSo 1 × IsSo 3 × IsSo 4 × IsSo 5 × IsSo 7

-- They show 12.
abbrev pub IsOtherSolved : Bool → List ℕ → Type 0
IsOtherSolved back dials = OfOthers back (λ k. slice_index dials k ≡ 0)

-- The amount that brings a side's centre to 12.
unfoldable pub centre_amount : Bool → List ℕ → ℕ
centre_amount back dials = (12 - slice_index dials (if back then 11 else 4)) % 12

-- A dial of the back that a turn of the back alone brought from 12 shows 12 still, or what the back's centre shows.
abbrev pub IsCarried : List ℕ → ℕ → Type 0
IsCarried dials k = (slice_index dials k ≡ 0) ⊎ (slice_index dials k ≡ slice_index dials 11)

-- So do the four edges of the back.
abbrev pub AreBackEdgesCarried : List ℕ → Type 0
AreBackEdgesCarried dials = IsCarried dials 9 × IsCarried dials 10 × IsCarried dials 12 × IsCarried dials 13
