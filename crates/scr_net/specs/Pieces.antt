-- The nets of a 3x3x3 and of a 2x2x2, by their pieces. A piece has the letters of the faces that meet at its own place,
-- in the order of that place's name: URF has U, R and F.
use Rattle.std.specs.Prelude.{ℕ, ◌==◌, List, [], remove, slice_index, Option, option_and_then, position, unwrap_or}
use Rattle.std.specs.List.{slice_index_or, list_all}
use Rattle.std.specs.Option.{option_map}
use Rattle.scr_orbit.specs.Orbits.{Orbit}
use Rattle.scr_orbit.specs.Stickers.{standing}
use Rattle.scr_combinatorics.specs.Permutations.{place_of}
use Rattle.scr_cube.specs.Cube333.{CubeState}
use Rattle.scr_cube.specs.Held.{HeldState}
use Rattle.scr_cube.specs.Stickers.{corner_faces, edge_faces}
use Rattle.scr_space.specs.declared.spin.Point.{Point}
use Rattle.scr_space.specs.Spins.{value}
use Rattle.scr_net.specs.declared.geometry.Sticker.{Sticker}
use Rattle.scr_net.specs.Geometry.{outward}
use Rattle.scr_net.specs.Nets.{Letters, net_of}

-- Of places that are named by their faces: the one whose faces all meet at a point.
abbrev pub place_at : ℕ → List (List ℕ) → Point → Option ℕ
place_at last places p = position (list_all (λ face. value last (outward face) p == last)) places

-- The letter that the piece at a place has on one of the place's faces. Letter k stands at the place's face k plus the
-- piece's digit, the twist of a corner or the flip of an edge.
abbrev pub piece_letter : List (List ℕ) → Orbit → ℕ → ℕ → Option ℕ
piece_letter places o face place =
    option_map (slice_index (slice_index_or places (slice_index o.pieces place) []))
    (position (λ f. f == face) (standing (slice_index_or places place []) (slice_index o.digits place)))

-- The letter at a sticker, where one of these pieces is.
unfoldable pub letter_of_pieces : ℕ → List (List ℕ) → Orbit → Sticker → Option ℕ
letter_of_pieces last places o s = option_and_then (piece_letter places o s.face) (place_at last places s.point)

-- Corners and edges have their letters, and centres are as on a solved cube.
unfoldable pub cube_letter : CubeState → Sticker → ℕ
cube_letter c s =
    unwrap_or (letter_of_pieces 2 corner_faces c.corners s) (unwrap_or (letter_of_pieces 2 edge_faces c.edges s) s.face)

abbrev pub net_of_cube : CubeState → Letters
net_of_cube c = net_of 3 (cube_letter c)

-- A sticker of a cube that is held any way, as it is on the cube itself: its point is told from the places where the
-- centres R, U and F stand, and its face is that whose centre stands at its place.
abbrev pub seen_from : List ℕ → Sticker → Sticker
seen_from centres s = record {
  point = record {
    x = value 2 (outward (place_of 1 centres)) s.point;
    y = value 2 (outward (place_of 0 centres)) s.point;
    z = value 2 (outward (place_of 2 centres)) s.point;
  };
  face = slice_index centres s.face;
}

-- a held cube shows at each sticker what the cube itself has there
abbrev pub net_of_held : HeldState → Letters
net_of_held h = net_of 3 (λ s. cube_letter h.cube (seen_from h.centres s))

-- the corner places of a 2x2x2, which counts no DBL
abbrev pub corner_faces_222 : List (List ℕ)
corner_faces_222 = remove corner_faces 6

-- The corner DBL is as on a solved cube.
unfoldable pub corners_letter : Orbit → Sticker → ℕ
corners_letter o s = unwrap_or (letter_of_pieces 1 corner_faces_222 o s) s.face

abbrev pub net_of_corners : Orbit → Letters
net_of_corners o = net_of 2 (corners_letter o)
