-- A turn in space. A point has three coordinates, each from 0 to `last`. A turn moves the points at which the
-- coordinates that it counts have at least a given sum, and leaves the others: so it moves what lies on its side of a
-- plane.
use Rattle.std.specs.Prelude.{ℕ, ◌+◌, ◌-◌, ◌≤◌, nat_le, Bool, if◌then◌else◌}
use Rattle.scr_space.specs.declared.spin.Point.{Point}
use Rattle.scr_space.specs.declared.spin.Spin.{Spin}
use Rattle.scr_space.specs.declared.spin.Coordinate.{Coordinate}
use Rattle.scr_space.specs.declared.spin.Coordinate.TheVariants.{X, Y, Z, MirroredX, MirroredY, MirroredZ}
use Rattle.scr_space.specs.declared.spin.Counted.{Counted}
use Rattle.scr_space.specs.declared.spin.Counted.TheVariants.{One, Three}

pub record IsWithin (last : ℕ) (p : Point) : Type 0 where
  pub x : p.x ≤ last
  pub y : p.y ≤ last
  pub z : p.z ≤ last

-- a coordinate of a point, as it is or mirrored
abbrev pub value : ℕ → Coordinate → Point → ℕ
value last X p = p.x
value last Y p = p.y
value last Z p = p.z
value last MirroredX p = last - p.x
value last MirroredY p = last - p.y
value last MirroredZ p = last - p.z

-- where a turn takes what it moves
abbrev pub rotated : ℕ → Spin → Point → Point
rotated last s p = record { x = value last s.x p; y = value last s.y p; z = value last s.z p }

abbrev pub counted_sum : ℕ → Counted → Point → ℕ
counted_sum last (One a) p = value last a p
counted_sum last (Three a b c) p = value last a p + value last b p + value last c p

abbrev pub is_moved : ℕ → Spin → Point → Bool
is_moved last s p = nat_le s.least (counted_sum last s.counted p)

-- where a point is after a turn
abbrev pub carried : ℕ → Spin → Point → Point
carried last s p = if is_moved last s p then rotated last s p else p
