-- What turning a Skewb as a whole does to stickers. The faces U R F D L B are 0 to 5.
use Rattle.std.specs.Prelude.{ℕ, List, [], ◌∷◌, map, slice_index}
use Rattle.scr_orbit.specs.Stickers.{IsCarriedBy}
use Rattle.scr_tetra.specs.Skewb.{SkewbState}

-- The faces at which the stickers of each place of the four are, clockwise, that of U or D first: UFL, UBR, DFR, DBL.
abbrev pub four_faces : List (List ℕ)
four_faces = (0 ∷ 2 ∷ 4 ∷ []) ∷ (0 ∷ 5 ∷ 1 ∷ []) ∷ (3 ∷ 2 ∷ 1 ∷ []) ∷ (3 ∷ 5 ∷ 4 ∷ []) ∷ []

-- The same of the three, ULB, DLF, DRB, and of the centres.
abbrev pub three_faces : List (List ℕ)
three_faces = (0 ∷ 4 ∷ 5 ∷ []) ∷ (3 ∷ 4 ∷ 2 ∷ []) ∷ (3 ∷ 1 ∷ 5 ∷ []) ∷ []

abbrev pub centre_faces : List (List ℕ)
centre_faces = (0 ∷ []) ∷ (1 ∷ []) ∷ (2 ∷ []) ∷ (3 ∷ []) ∷ (4 ∷ []) ∷ (5 ∷ []) ∷ []

-- Where a clockwise turn by one third about UFR of the Skewb as a whole takes what is at each face: U to R, R to F,
-- F to U.
abbrev pub rotated_piece : List ℕ → List ℕ
rotated_piece stickers = map (slice_index (1 ∷ 2 ∷ 0 ∷ 4 ∷ 5 ∷ 3 ∷ [])) stickers

-- So it is with all three kinds of pieces.
pub record CarriesAll (carried : List ℕ → List ℕ) (r : SkewbState) : Type 0 where
  pub four : IsCarriedBy carried four_faces r.four
  pub three : IsCarriedBy carried three_faces r.three
  pub centres : IsCarriedBy carried centre_faces r.centres
