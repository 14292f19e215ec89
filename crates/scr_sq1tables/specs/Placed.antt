-- Moves of pieces, each told by the places from which the places get their pieces; letters that keep states normal and
-- mates together.
use Rattle.std.specs.Prelude.{◌≡◌, ℕ, ◌&&◌, Bool, false, IsTrue, List, [], map}
use Rattle.std.specs.Option.{option_map_or}
use Rattle.scr_combinatorics.specs.Permutations.{IsPermutation}
use Rattle.scr_orbit.specs.Orbits.{Orbit}
use Rattle.scr_combinatorics.specs.Play.{play}
use Rattle.scr_notation.specs.declared.turn.Turn.{Turn}
use Rattle.scr_notation.specs.Ranges.{all_below, same}
use Rattle.scr_sq1.specs.Units.{solved_sq1, sq1_after}
use Rattle.scr_sq1.specs.Numbers.{corners_of, edges_of}
use Rattle.scr_sq1tables.specs.declared.letter_places.Part.{Part}
use Rattle.scr_sq1tables.specs.declared.letter_places.Part.TheVariants.{Corners, Edges}
use Rattle.scr_sq1tables.specs.Stages.{mates}
use Rattle.scr_sq1tables.specs.Tables.{units_after, carried_pairing}
use Rattle.scr_sq1tables.specs.ShapeWords.{is_normal}

-- corners in unit order, or edges
abbrev pub pieces : Part → List ℕ → List ℕ
pieces Corners = corners_of
pieces Edges = edges_of

abbrev pub move_by : List ℕ → Orbit
move_by places = record { pieces = places; digits = [] }

abbrev pub moves_of : List (List ℕ) → List Orbit
moves_of letters = map move_by letters

-- each place gets one piece, and mates that stand opposite to each other stand so again
pub record KeepsMates (places : List ℕ) : Type 0 where
  pub permutation : IsPermutation 8 places
  pub mates_kept : carried_pairing mates places ≡ mates

-- ---- letters

-- All letters of a later stage leave the solved state normal,
unfoldable pub are_normal : (ℕ → List Turn) → Bool
are_normal letter =
    all_below (λ n. option_map_or is_normal (play sq1_after solved_sq1 (letter n)) false) 32

-- and mates opposite to each other.
abbrev pub keeps_mates : (ℕ → List Turn) → ℕ → Bool
keeps_mates letter n =
    same (carried_pairing mates (corners_of (units_after letter n))) mates
    && same (carried_pairing mates (edges_of (units_after letter n))) mates

unfoldable pub keep_mates : (ℕ → List Turn) → Bool
keep_mates letter = all_below (keeps_mates letter) 32

-- So they do to every normal state, and to mates in it.
pub record IsKept (letter : ℕ → List Turn) : Type 0 where
  pub normal : IsTrue (are_normal letter)
  pub opposite : IsTrue (keep_mates letter)
