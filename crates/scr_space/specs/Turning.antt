-- What can be told of turns by their data alone: how often one is done until each point is back, and which two exchange.
use Rattle.std.specs.Prelude.{◌≡◌, ℕ, zero, suc, List, [], ◌∷◌, map}
use Rattle.std.specs.List.Sorted.{IsPermutation}
use Rattle.scr_space.specs.declared.spin.Spin.{Spin}
use Rattle.scr_space.specs.declared.spin.Coordinate.{Coordinate}
use Rattle.scr_space.specs.declared.spin.Coordinate.TheVariants.{X, Y, Z, MirroredX, MirroredY, MirroredZ}
use Rattle.scr_space.specs.declared.spin.Counted.{Counted}
use Rattle.scr_space.specs.declared.spin.Counted.TheVariants.{One, Three}

abbrev pub mirrored : Coordinate → Coordinate
mirrored X = MirroredX
mirrored Y = MirroredY
mirrored Z = MirroredZ
mirrored MirroredX = X
mirrored MirroredY = Y
mirrored MirroredZ = Z

-- which coordinate of a point is this one of the point where a turn takes it
abbrev pub coordinate_before : Spin → Coordinate → Coordinate
coordinate_before s X = s.x
coordinate_before s Y = s.y
coordinate_before s Z = s.z
coordinate_before s MirroredX = mirrored s.x
coordinate_before s MirroredY = mirrored s.y
coordinate_before s MirroredZ = mirrored s.z

-- something done so often
abbrev pub times : {A : Type 0} → ℕ → (A → A) → A → A
times zero f a = a
times (suc n) f a = times n f (f a)

abbrev pub coordinates : Counted → List Coordinate
coordinates (One a) = a ∷ []
coordinates (Three a b c) = a ∷ b ∷ c ∷ []

-- a turn takes the coordinates that are counted to one another, so their sum stays
abbrev pub KeepsCount : Spin → Counted → Type 0
KeepsCount s counted = IsPermutation (map (coordinate_before s) (coordinates counted)) (coordinates counted)

-- n times a turn moves nothing, and each time it moves the same points
pub record HasOrder (n : ℕ) (s : Spin) : Type 0 where
  pub x : times n (coordinate_before s) X ≡ X
  pub y : times n (coordinate_before s) Y ≡ Y
  pub z : times n (coordinate_before s) Z ≡ Z
  pub kept : KeepsCount s s.counted

-- Two turns exchange where their rotations do, as two about one axis, and each keeps the count of the other.
pub record Exchange (s t : Spin) : Type 0 where
  pub x : coordinate_before s t.x ≡ coordinate_before t s.x
  pub y : coordinate_before s t.y ≡ coordinate_before t s.y
  pub z : coordinate_before s t.z ≡ coordinate_before t s.z
  pub first : KeepsCount s t.counted
  pub second : KeepsCount t s.counted
