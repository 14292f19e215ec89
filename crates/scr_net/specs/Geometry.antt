-- A cube of `last + 1` layers, held with F in front: its points, the stickers at them, and what a quarter turn does to both. A point
-- is where three layers meet: x counts from left to right, y from bottom to top and z from back to front, each from 0 to
-- `last`. A sticker is at a point, on a face. The faces U R F D L B are 0 to 5. (WCA Regulations, article 12.)
use Rattle.std.specs.Prelude.{◌≡◌, ℕ, ◌-◌, ◌+◌, ◌%◌, ◌<◌, ◌==◌, if◌then◌else◌, position, unwrap_or}
use Rattle.std.specs.List.{range_with_len}
use Rattle.scr_space.specs.declared.spin.Point.{Point}
use Rattle.scr_space.specs.declared.spin.Spin.{Spin}
use Rattle.scr_space.specs.declared.spin.Coordinate.{Coordinate}
use Rattle.scr_space.specs.declared.spin.Coordinate.TheVariants.{X, Y, Z, MirroredX, MirroredY, MirroredZ}
use Rattle.scr_space.specs.declared.spin.Counted.TheVariants.{One}
use Rattle.scr_space.specs.Spins.{IsWithin, value, rotated, is_moved}
use Rattle.scr_net.specs.declared.geometry.Sticker.{Sticker}

-- what is said of each face, U R F D L B
abbrev pub by_face : {X : Type 0} → ℕ → X → X → X → X → X → X → X
by_face face u r f d l b =
    if face == 0 then u else (if face == 1 then r else (if face == 2 then f else (
    if face == 3 then d else (if face == 4 then l else b))))

abbrev pub point : ℕ → ℕ → ℕ → Point
point x y z = record { x = x; y = y; z = z }

-- The point at a row and a column of a face. A net shows each face as it is seen from outside: L, F, R and B with U
-- above them, U with F below it and D with F above it.
abbrev pub point_at : ℕ → ℕ → ℕ → ℕ → Point
point_at last face row column = by_face face
    (point column last row) (point last (last - row) (last - column)) (point column (last - row) last)
    (point column 0 (last - row)) (point 0 (last - row) column) (point (last - column) (last - row) 0)

-- the row and the column of a point on a face
abbrev pub row_of : ℕ → ℕ → Point → ℕ
row_of last face p = by_face face p.z (last - p.y) (last - p.y) (last - p.z) (last - p.y) (last - p.y)

abbrev pub column_of : ℕ → ℕ → Point → ℕ
column_of last face p = by_face face p.x (last - p.z) p.x p.x p.z (last - p.x)

-- The coordinate that tells how far out towards a face a point is: on the face it is `last`.
abbrev pub outward : ℕ → Coordinate
outward face = by_face face Y X Z MirroredY MirroredX MirroredZ

-- A quarter turn of so many layers at a face, clockwise as seen from outside.
abbrev pub quarter : ℕ → ℕ → ℕ → Spin
quarter last face depth =
    let turn : Coordinate → Coordinate → Coordinate → Spin =
    λ x y z. record { x = x; y = y; z = z; counted = One (outward face); least = last + 1 - depth } in
    by_face face (turn MirroredZ Y X) (turn X Z MirroredY) (turn Y MirroredX Z)
    (turn Z Y MirroredX) (turn X MirroredZ Y) (turn MirroredY X Z)

-- the face whose middle is at this point of a cube of three layers
abbrev pub face_at : Point → ℕ
face_at p = unwrap_or (position (λ face. value 2 (outward face) p == 2) (range_with_len 0 6)) 0

-- Where a turn takes a sticker that it moves: what is on a face goes where the face's middle goes.
abbrev pub turned_sticker : ℕ → Spin → Sticker → Sticker
turned_sticker last t s = record { point = rotated last t s.point; face = face_at (rotated 2 t (point_at 2 s.face 1 1)) }

-- Where a quarter turn of so many layers at a face takes a sticker.
abbrev pub carried_sticker : ℕ → ℕ → ℕ → Sticker → Sticker
carried_sticker last face depth s =
    let turn = quarter last face depth in if is_moved last turn s.point then turned_sticker last turn s else s

-- Where the sticker that such a turn takes here was before: the other way about a face is clockwise about the opposite
-- one.
abbrev pub brought_from : ℕ → ℕ → ℕ → Sticker → Sticker
brought_from last face depth s = let back = quarter last ((face + 3) % 6) depth in
    if is_moved last (quarter last face depth) s.point then turned_sticker last back s else s

pub record IsSticker (last : ℕ) (s : Sticker) : Type 0 where
  pub within : IsWithin last s.point
  pub face : s.face < 6
  pub on : value last (outward s.face) s.point ≡ last

abbrev pub sticker_at : ℕ → ℕ → ℕ → ℕ → Sticker
sticker_at last face row column = record { point = point_at last face row column; face = face }
