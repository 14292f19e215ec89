-- Laws of a coordinate's turns.
use Rattle.std.proofs.Common.{◌≡◌, ℕ, ◌<◌, Bool, true, Option, Some, None, ap, arith}
use Rattle.std.specs.Prelude.{if◌then◌else◌}
use borrow.Author.Tests.{lt-ltb}
use Rattle.scr_positions.specs.Coordinates.{Coordinate, StaysBelow, moved}

-- what is taken where a test holds
pub taken_where : {A : Type 0} (b : Bool) (o : Option A) (q : A) → (if b then o else None) ≡ Some q
    → (b ≡ true) × (o ≡ Some q)
taken_where b o q h0 = grind arith

-- a turn that leads somewhere is one of the coordinate's, and not barred
pub moved-turn : (c : Coordinate) (p t q : ℕ) → moved c p t ≡ Some q → (t < c.turns) × (c.after p t ≡ Some q)
moved-turn c p t q e = grind arith

-- a turn of the coordinate leads where it does
pub moved-after : (c : Coordinate) (p t : ℕ) → t < c.turns → moved c p t ≡ c.after p t
moved-after c p t turn = ap (λ b. if b then c.after p t else None) (lt-ltb t c.turns turn)

-- and leads from positions to positions
pub moved-below : (c : Coordinate) → StaysBelow c → (p t q : ℕ) → p < c.count → moved c p t ≡ Some q → q < c.count
moved-below c below p t q lt e = grind arith
