-- Stickers that are points of a grid, and thirds about its corners.
use Rattle.std.specs.Prelude.{ℕ, Bool, ◌==◌, ◌&&◌, List, map}
use Rattle.scr_space.specs.declared.spin.Point.{Point}
use Rattle.scr_space.specs.declared.spin.Spin.{Spin}
use Rattle.scr_space.specs.declared.spin.Coordinate.{Coordinate}
use Rattle.scr_space.specs.declared.spin.Coordinate.TheVariants.{X, Y, Z, MirroredX, MirroredY, MirroredZ}
use Rattle.scr_space.specs.declared.spin.Counted.TheVariants.{Three}
use Rattle.scr_space.specs.Spins.{carried}
use Rattle.scr_picture.specs.Stickers.{sources}

abbrev pub same_point : Point → Point → Bool
same_point p q = (p.x == q.x) && ((p.y == q.y) && (p.z == q.z))

-- A third about a corner, clockwise as seen from there: where the three new coordinates come from; those that it
-- counts, which are the greater the nearer a point is to the corner; and from which sum of these on it moves.
abbrev pub third : Coordinate → Coordinate → Coordinate → Coordinate → Coordinate → Coordinate → ℕ → Spin
third x y z first second other least =
    record { x = x; y = y; z = z; counted = Three first second other; least = least }

-- The corners of a cube: 0 0 0 is DBL, last last last is URF. About URF, ULB, DRB and DLF, which are those of the
-- tetrahedron in it, and about DBL.
abbrev pub about_urf : ℕ → Spin
about_urf = third Y Z X X Y Z

abbrev pub about_drb : ℕ → Spin
about_drb = third MirroredY Z MirroredX X MirroredY MirroredZ

abbrev pub about_ulb : ℕ → Spin
about_ulb = third MirroredY MirroredZ X MirroredX Y MirroredZ

abbrev pub about_dlf : ℕ → Spin
about_dlf = third Y MirroredZ MirroredX MirroredX MirroredY Z

abbrev pub about_dbl : ℕ → Spin
about_dbl = third Z X Y MirroredX MirroredY MirroredZ

-- what such turns do to stickers at these points
abbrev pub moves_of : ℕ → List Point → List Spin → List (List ℕ)
moves_of last points spins = map (λ spin. sources same_point points (carried last spin)) spins
