-- A Pyraminx held another way.
use Rattle.std.specs.Prelude.{◌≡◌, ℕ, List, [], ◌∷◌, map, slice_get}
use Rattle.std.specs.List.{filter_map}
use Rattle.scr_orbit.specs.Orbits.{Orbit, turned_orbit}
use Rattle.scr_tetra.specs.Pyraminx.{at_axes, tetraminx_thirds}

-- The whole puzzle turned in the hand: what this makes of the solved edges and of the solved axial pieces, and where
-- each axis comes.
pub record Hold : Type 0 where
  pub edges : Orbit
  pub axials : Orbit
  pub axes : List ℕ

-- A third about an axis and then the other hold is the other hold and then a third about the axis where that axis
-- comes.
pub record ShowsThirds (h : Hold) : Type 0 where
  pub edges : map (λ r. turned_orbit 2 r.edges h.edges) tetraminx_thirds
      ≡ map (λ r. turned_orbit 2 h.edges r.edges) (filter_map (slice_get tetraminx_thirds) h.axes)
  pub axials : map (λ r. turned_orbit 3 (at_axes r.axials) h.axials) tetraminx_thirds
      ≡ map (λ r. turned_orbit 3 h.axials (at_axes r.axials)) (filter_map (slice_get tetraminx_thirds) h.axes)

-- Turned about U, so that L comes to B, B to R and R to L.
abbrev pub about_up : Hold
about_up = record {
  edges = record { pieces = 1 ∷ 2 ∷ 0 ∷ 5 ∷ 3 ∷ 4 ∷ []; digits = 0 ∷ 0 ∷ 0 ∷ 0 ∷ 1 ∷ 1 ∷ [] };
  axials = record { pieces = 0 ∷ 2 ∷ 3 ∷ 1 ∷ []; digits = 0 ∷ 0 ∷ 0 ∷ 0 ∷ [] };
  axes = 0 ∷ 3 ∷ 1 ∷ 2 ∷ [];
}

-- Turned half round, so that U and L change places, and R and B.
abbrev pub half_round : Hold
half_round = record {
  edges = record { pieces = 0 ∷ 4 ∷ 3 ∷ 2 ∷ 1 ∷ 5 ∷ []; digits = 1 ∷ 1 ∷ 1 ∷ 1 ∷ 1 ∷ 1 ∷ [] };
  axials = record { pieces = 1 ∷ 0 ∷ 3 ∷ 2 ∷ []; digits = 0 ∷ 0 ∷ 0 ∷ 0 ∷ [] };
  axes = 1 ∷ 0 ∷ 3 ∷ 2 ∷ [];
}
