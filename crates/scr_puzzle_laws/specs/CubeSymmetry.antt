-- What ties the tables of turns to one another: mirror images, and the 2x2x2 as the corners of the 3x3x3.
use Rattle.std.specs.Prelude.{◌≡◌, ℕ, ◌-◌, ◌%◌, ◌==◌, if◌then◌else◌, List, [], ◌∷◌, map, remove, slice_get}
use Rattle.std.specs.List.{filter_map}
use Rattle.scr_combinatorics.specs.Lists.{pick}
use Rattle.scr_orbit.specs.Monoids.{power}
use Rattle.scr_orbit.specs.Orbits.{Orbit}
use Rattle.scr_cube.specs.Cube333.{CubeState, cube_quarters, cube_monoid}

-- A mirror: which corner place, edge place and face shows as which.
pub record Mirror : Type 0 where
  pub corners : List ℕ
  pub edges : List ℕ
  pub faces : List ℕ

-- A turn as a mirror shows it: digits count the other way round.
abbrev pub mirrored : ℕ → List ℕ → Orbit → Orbit
mirrored modulus shown r = record {
  pieces = pick shown (pick r.pieces shown);
  digits = map (λ d. (modulus - d) % modulus) (pick r.digits shown);
}

abbrev pub mirrored_turn : Mirror → CubeState → CubeState
mirrored_turn m r = record { corners = mirrored 3 m.corners r.corners; edges = mirrored 2 m.edges r.edges }

-- The mirror shows each face's quarter turn as a quarter turn the other way, of the face that it shows there.
abbrev pub ShowsTurns : Mirror → Type 0
ShowsTurns m =
    map (mirrored_turn m) cube_quarters
    ≡ map (λ r. power cube_monoid r 3) (filter_map (slice_get cube_quarters) m.faces)

-- Left and right are exchanged; up and down; front and back.
abbrev pub left_right : Mirror
left_right = record {
  corners = 1 ∷ 0 ∷ 3 ∷ 2 ∷ 5 ∷ 4 ∷ 7 ∷ 6 ∷ [];
  edges = 2 ∷ 1 ∷ 0 ∷ 3 ∷ 6 ∷ 5 ∷ 4 ∷ 7 ∷ 9 ∷ 8 ∷ 11 ∷ 10 ∷ [];
  faces = 0 ∷ 4 ∷ 2 ∷ 3 ∷ 1 ∷ 5 ∷ [];
}

abbrev pub up_down : Mirror
up_down = record {
  corners = 4 ∷ 5 ∷ 6 ∷ 7 ∷ 0 ∷ 1 ∷ 2 ∷ 3 ∷ [];
  edges = 4 ∷ 5 ∷ 6 ∷ 7 ∷ 0 ∷ 1 ∷ 2 ∷ 3 ∷ 8 ∷ 9 ∷ 10 ∷ 11 ∷ [];
  faces = 3 ∷ 1 ∷ 2 ∷ 0 ∷ 4 ∷ 5 ∷ [];
}

abbrev pub front_back : Mirror
front_back = record {
  corners = 3 ∷ 2 ∷ 1 ∷ 0 ∷ 7 ∷ 6 ∷ 5 ∷ 4 ∷ [];
  edges = 0 ∷ 3 ∷ 2 ∷ 1 ∷ 4 ∷ 7 ∷ 6 ∷ 5 ∷ 11 ∷ 10 ∷ 9 ∷ 8 ∷ [];
  faces = 0 ∷ 1 ∷ 5 ∷ 3 ∷ 4 ∷ 2 ∷ [];
}

-- A turn of the 3x3x3's corners without place 6, which is DBL's; the 2x2x2 counts the place behind it as 6.
abbrev pub without_dbl : Orbit → Orbit
without_dbl r =
    record { pieces = map (λ k. if k == 7 then 6 else k) (remove r.pieces 6); digits = remove r.digits 6 }
