-- The steps of the loops over pieces.
use Rattle.std.proofs.lemmas.Grind.{common_steps}
use Rattle.std.proofs.Common.{rules}
use Rattle.std.proofs.Common.{◌≡◌, ℕ, ◌+◌, ◌-◌, ◌<◌, ◌≤◌, Bool, true, false, IsTrue, cond, not, List, [], ◌∷◌, ◌++◌, length, take, drop, get_or, set, slice_index, refl, ap, ◌∙◌, arith, eqb-true}
use Rattle.std.proofs.lemmas.Bool.Decides.{nat_tests}
use Rattle.std.specs.Prelude.{◌&&◌, ◌==◌, filter}
use Rattle.std.proofs.lemmas.Bool.{and_parts, cond-true, cond-false, lt-ltb, le-ltb}
use Rattle.std.proofs.lemmas.List.{get_or-take, length-drop, length-set, drop_more, take_more_set, take_all, append-nil, drop_all, append_assoc, at_drop_more}
use Rattle.scr_notation.specs.Ranges.{all_below}
use Rattle.scr_notation.proofs.Below.{at_below}
use Rattle.scr_sq1.specs.declared.numbers.TheConstants.{HALVES}
use Rattle.scr_sq1.specs.Units.{is_corner}
use Rattle.scr_sq1.specs.Shapes.{half_words, half_word, corner_counts, units_among}
use Rattle.scr_sq1.specs.Numbers.{corners_of, edges_of, laid, shape_word}
use Rattle.scr_sq1.proofs.LaidLaws.{Fits, every_second, length-every_second, corners_of-sixteen}
use Rattle.scr_sq1.proofs.HalfWords.{corner_count, same_word, same_word-true}
use Rattle.scr_sq1.proofs.HalfByHalf.{shape_word-cons}
use Rattle.scr_sq1.proofs.ShapeSteps.{IsReadTo, read_room, read_more, read_whole}

-- ---- the words of the halves

known_word : ℕ → Bool
known_word h = (length (half_word h) == 6 - corner_count h) && same_word (take (length (half_word h)) (get_or HALVES h [])) (half_word h)

known_words : IsTrue (all_below known_word 13)
unfolding all_below known_word same_word half_words half_word corner_counts
known_words = refl

pub record IsKnownWord (h : ℕ) : Type 0 where
  pub size : length (half_word h) ≡ 6 - corner_count h
  pub word : take (length (half_word h)) (get_or HALVES h []) ≡ half_word h

pub IsKnownWord-below : (h : ℕ) → h < 13 → IsKnownWord h
unfolding known_word
IsKnownWord-below h lt =
    let w = half_word h in
    let both = and_parts (length w == 6 - corner_count h) (same_word (take (length w) (get_or HALVES h [])) w) (at_below known_word 13 h known_words lt) in
    record { size = eqb-true (length w) (6 - corner_count h) both.0; word = same_word-true (take (length w) (get_or HALVES h [])) w both.1 }

-- ---- the units of a shape's pieces

-- so many units of a shape's pieces are made, and these pieces are left
pub record Laying (unit corner edge : ℕ) (units : List ℕ) (left whole : List Bool) (cs es : List ℕ) : Type 0 where
  pub size : length units ≡ 24
  pub fits : Fits left (drop corner cs) (drop edge es)
  pub units_left : unit + units_among left ≡ 24
  pub made : take unit units ++ laid left (drop corner cs) (drop edge es) ≡ laid whole cs es

module _ (unit corner edge h : ℕ) (units : List ℕ) (whole : List Bool) (cs es : List ℕ) where
  -- the pieces of a first half, and the others
  pub laying_first : (hs : List ℕ) (place : ℕ) → place < length hs → h ≡ slice_index hs place
      → Laying unit corner edge units (shape_word (drop place hs)) whole cs es
      → Laying unit corner edge units (half_word h ++ shape_word (drop (place + 1) hs)) whole cs es
  laying_first hs place lt e = grind (arith, nat_tests, common_steps, at_drop_more, shape_word-cons)

  -- the next of them
  pub laying_next : (piece count : ℕ) (b : Bool) (rest : List Bool) → h < 13 → count ≡ corner_count h → piece < 6 - count
      → get_or (get_or HALVES h []) piece false ≡ b → Laying unit corner edge units (drop piece (half_word h) ++ rest) whole cs es
      → Laying unit corner edge units (b ∷ (drop (piece + 1) (half_word h) ++ rest)) whole cs es
  laying_next piece count b rest low ec lt e =
      let w = half_word h in
      let known = IsKnownWord-below h low in
      let inside : piece < length w = omega (arith, lt, ec, known.size) in grind (arith, nat_tests, drop_more, get_or-take)

  -- none of them
  pub laying_none : (piece count : ℕ) (rest : List Bool) → h < 13 → count ≡ corner_count h → 6 - count ≤ piece
      → Laying unit corner edge units (drop piece (half_word h) ++ rest) whole cs es → Laying unit corner edge units rest whole cs es
  laying_none piece count rest low ec le = search (arith, rules, drop_all, IsKnownWord-below)

pub laying_start : (whole : List Bool) (cs es units : List ℕ) → length units ≡ 24 → Fits whole cs es → units_among whole ≡ 24
    → Laying 0 0 0 units whole whole cs es
laying_start whole cs es units size fits all = record { size = size; fits = fits; units_left = omega (arith, all); made = refl }

module _ (unit corner edge : ℕ) (units : List ℕ) (rest whole : List Bool) (cs es : List ℕ) where
  pub laying_corner_room : Laying unit corner edge units (true ∷ rest) whole cs es → (corner < length cs) × (unit + 1 < 24)
  laying_corner_room l = (omega (arith, l.fits.corners, length-drop corner cs), omega (arith, l.units_left))

  pub laying_corner : (c : ℕ) → c ≡ slice_index cs corner → Laying unit corner edge units (true ∷ rest) whole cs es
      → Laying (unit + 2) (corner + 1) edge (set (set units unit c) (unit + 1) c) rest whole cs es
  laying_corner c e l =
      grind (arith, nat_tests, common_steps, laying_corner_room, drop_more, length-set, take_more_set, append_assoc)

  pub laying_edge_room : Laying unit corner edge units (false ∷ rest) whole cs es → (edge < length es) × (unit < 24)
  laying_edge_room l = (omega (arith, l.fits.edges, length-drop edge es), omega (arith, l.units_left))

  pub laying_edge : (e : ℕ) → e ≡ slice_index es edge → Laying unit corner edge units (false ∷ rest) whole cs es
      → Laying (unit + 1) corner (edge + 1) (set units unit (8 + e)) rest whole cs es
  laying_edge e is l = grind (arith, nat_tests, laying_edge_room, length-set, length-drop, drop_more, take_more_set, append_assoc)

pub laying_end : (unit corner edge place : ℕ) (units hs cs es : List ℕ) → length hs ≤ place
    → Laying unit corner edge units (shape_word (drop place hs)) (shape_word hs) cs es → units ≡ laid (shape_word hs) cs es
unfolding shape_word
laying_end unit corner edge place units hs cs es le l = grind (arith, nat_tests, drop_all, take_all, append-nil)

-- ---- corners and edges of units

filter_corner : (u : ℕ) (us : List ℕ) → u < 8 → filter is_corner (u ∷ us) ≡ u ∷ filter is_corner us
filter_corner u us lt = cond-true (is_corner u) (u ∷ filter is_corner us) (filter is_corner us) (lt-ltb u 8 lt)

filter_edge : (u : ℕ) (us : List ℕ) → 8 ≤ u → filter is_corner (u ∷ us) ≡ filter is_corner us
filter_edge u us le = cond-false (is_corner u) (u ∷ filter is_corner us) (filter is_corner us) (le-ltb u 8 le)

edges_of-corner : (u : ℕ) (us : List ℕ) → u < 8 → edges_of (u ∷ us) ≡ edges_of us
unfolding edges_of
edges_of-corner u us lt = grind (arith, nat_tests, lt-ltb)

edges_of-edge : (u : ℕ) (us : List ℕ) → 8 ≤ u → edges_of (u ∷ us) ≡ (u - 8) ∷ edges_of us
unfolding edges_of
edges_of-edge u us le = grind (arith, nat_tests, le-ltb)

-- so many edges are read
abbrev pub ReadEdges : ℕ → ℕ → List ℕ → List ℕ → Type 0
ReadEdges i found edges units = IsReadTo 8 found edges (edges_of (drop i units)) (edges_of units)

pub edges_start : (units edges : List ℕ) → length edges ≡ 8 → ReadEdges 0 0 edges units
edges_start units edges size = record { size = size; few = omega arith; read = refl }

edge_next : (i : ℕ) (units : List ℕ) → i < length units → 8 ≤ slice_index units i
    → edges_of (drop i units) ≡ (slice_index units i - 8) ∷ edges_of (drop (i + 1) units)
edge_next i units lt edge = at_drop_more edges_of units i 0 lt ∙ edges_of-edge (slice_index units i) (drop (i + 1) units) edge

-- there is room for an edge
pub edges_room : (i found : ℕ) (edges units : List ℕ) → length (edges_of units) ≡ 8 → i < length units
    → 8 ≤ slice_index units i → ReadEdges i found edges units → found < 8
edges_room i found edges units eight lt edge r = read_room 8 found edges _ _ r _ _ eight (edge_next i units lt edge)

pub edges_more : (i found : ℕ) (edges units : List ℕ) → length (edges_of units) ≡ 8 → i < length units
    → 8 ≤ slice_index units i → ReadEdges i found edges units
    → ReadEdges (i + 1) (found + 1) (set edges found (slice_index units i - 8)) units
edges_more i found edges units eight lt edge r = search (arith, rules, read_more, edges_room, edge_next)

pub edges_same : (i found : ℕ) (edges units : List ℕ) → i < length units → slice_index units i < 8
    → ReadEdges i found edges units → ReadEdges (i + 1) found edges units
edges_same i found edges units lt corner = grind (arith, nat_tests, common_steps, at_drop_more, edges_of-corner)

pub edges_end : (i found : ℕ) (edges units : List ℕ) → length (edges_of units) ≡ 8 → length units ≤ i
    → ReadEdges i found edges units → edges ≡ edges_of units
unfolding edges_of
edges_end i found edges units eight le r = read_whole 8 found edges _ _ r eight (ap edges_of (drop_all i units le))

-- so many corners are read, and the next unit of a corner is its second one or not
abbrev corners_left : ℕ → Bool → List ℕ → List ℕ
corners_left i second units = every_second (drop (cond second 1 0) (filter is_corner (drop i units)))

abbrev pub ReadCorners : ℕ → ℕ → Bool → List ℕ → List ℕ → Type 0
ReadCorners i found second corners units = IsReadTo 8 found corners (corners_left i second units) (every_second (filter is_corner units))

pub corners_start : (units corners : List ℕ) → length corners ≡ 8 → ReadCorners 0 0 false corners units
corners_start units corners size = record { size = size; few = omega arith; read = refl }

every_second-cons : (x : ℕ) (xs : List ℕ) → every_second (x ∷ xs) ≡ x ∷ every_second (drop 1 xs)
every_second-cons x [] = refl
every_second-cons x (y ∷ xs) = refl

-- a corner's first unit, its second, and a unit of an edge
first_unit : (i : ℕ) (second : Bool) (units : List ℕ) → i < length units → slice_index units i < 8 → second ≡ false
    → corners_left i second units ≡ slice_index units i ∷ corners_left (i + 1) (not second) units
first_unit i true units lt corner e = absurd (cc)
first_unit i false units lt corner e =
    grind (arith, nat_tests, common_steps, at_drop_more, every_second, filter_corner, every_second-cons)

second_unit : (i : ℕ) (second : Bool) (units : List ℕ) → i < length units → slice_index units i < 8 → second ≡ true
    → corners_left i second units ≡ corners_left (i + 1) (not second) units
second_unit i false units lt corner e = absurd (cc)
second_unit i true units lt corner e = grind (arith, nat_tests, common_steps, at_drop_more, every_second, filter_corner)

edge_unit : (i : ℕ) (second : Bool) (units : List ℕ) → i < length units → 8 ≤ slice_index units i
    → corners_left i second units ≡ corners_left (i + 1) second units
edge_unit i second units lt edge = grind (arith, nat_tests, common_steps, at_drop_more, every_second, filter_edge)

module _ (i found : ℕ) (second : Bool) (corners units : List ℕ) where
  pub corners_room : length (filter is_corner units) ≡ 16 → i < length units → slice_index units i < 8 → second ≡ false
      → ReadCorners i found second corners units → found < 8
  corners_room sixteen lt corner e r =
      read_room 8 found corners _ _ r _ _ (length-every_second 8 (filter is_corner units) sixteen) (first_unit i second units lt corner e)

  pub corners_first : length (filter is_corner units) ≡ 16 → i < length units → slice_index units i < 8 → second ≡ false
      → ReadCorners i found second corners units
      → ReadCorners (i + 1) (found + 1) (not second) (set corners found (slice_index units i)) units
  corners_first sixteen lt corner e r = search (arith, rules, read_more, corners_room, first_unit)

  pub corners_second : i < length units → slice_index units i < 8 → second ≡ true
      → ReadCorners i found second corners units → ReadCorners (i + 1) found (not second) corners units
  corners_second lt corner e = search (arith, rules, every_second, second_unit)

  pub corners_same : i < length units → 8 ≤ slice_index units i
      → ReadCorners i found second corners units → ReadCorners (i + 1) found second corners units
  corners_same lt edge = search (arith, rules, every_second, edge_unit)

  pub corners_end : length (filter is_corner units) ≡ 16 → length units ≤ i
      → ReadCorners i found second corners units → corners ≡ corners_of units
  corners_end sixteen le r =
      search (arith, rules, read_whole, length-every_second, every_second, drop_all, corners_of-sixteen)
