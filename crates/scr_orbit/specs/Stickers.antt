-- Pieces by their stickers, which is where tables of turns come from. A sticker is told by the face that it is on.
use Rattle.std.specs.Prelude.{◌≡◌, ℕ, List, [], ◌++◌, map, take, drop, slice_index_or}
use Rattle.std.specs.List.{zip}
use Rattle.scr_orbit.specs.Orbits.{Orbit}

-- The faces of the stickers of a piece that stands at a place of these faces with this digit.
abbrev pub standing : List ℕ → ℕ → List ℕ
standing faces digit = drop digit faces ++ take digit faces

-- A turn brings to each place a piece whose stickers come to the faces where they are carried to.
abbrev pub IsCarriedBy : (List ℕ → List ℕ) → List (List ℕ) → Orbit → Type 0
IsCarriedBy carried places r =
    map (λ from. carried (slice_index_or places from [])) r.pieces ≡ map (λ p. standing p.0 p.1) (zip places r.digits)
