-- The third stage: a state in which mates stand together is told by its index, but for the equator, and so its index
-- goes along with words.
use Rattle.std.proofs.Common.{◌≡◌, ℕ, ◌+◌, ◌*◌, ◌/◌, ◌%◌, ◌<◌, Bool, true, false, List, nat_eq, Option, Some, None, refl, sym, ap, ◌∙◌, arith, lit<}
use Rattle.std.specs.Option.{option_map, option_eq}
use Rattle.scr_combinatorics.specs.Permutations.{parity, inversions}
use Rattle.scr_combinatorics.specs.Play.{play}
use Rattle.scr_combinatorics.proofs.OneLetter.{IsEnding}
use Rattle.scr_positions.specs.Coordinates.{StaysBelow, Coordinate}
use Rattle.scr_positions.specs.SearchSpaces.{positions, Follows, ShowsSame}
use Rattle.scr_notation.specs.declared.turn.Turn.{Turn}
use Rattle.scr_sq1.specs.Units.{Sq1State, IsSq1, solved_sq1, sq1_after}
use Rattle.scr_sq1.specs.Shapes.{shape_of}
use Rattle.scr_sq1.specs.Numbers.{corners_of, edges_of, laid, shape_word}
use Rattle.scr_sq1.proofs.StatePieces.{StatePieces-valid}
use Rattle.scr_sq1.proofs.Lawful.{IsSq1-solved}
use Rattle.scr_sq1tables.specs.declared.letter_places.Part.{Part}
use Rattle.scr_sq1tables.specs.declared.letter_places.Part.TheVariants.{Corners, Edges}
use Rattle.scr_sq1tables.specs.Stages.{oddness, turn_word, quarter_word, pairing_of, home_letter, home_stage, last_stage}
use Rattle.scr_sq1tables.specs.Tables.{code_number, code_at, row_parity, place_in_row, code_in_row, row_place, square_index, square_state, square_coordinate, bits_number, pairs_number, has_number, leads_home, square_numbered}
use Rattle.scr_sq1tables.specs.Spaces.{IsPairedSq1}
use Rattle.scr_sq1tables.specs.SearchTables.{square_table}
use Rattle.scr_sq1tables.proofs.Codes.{IsOpposite, IsCoded-below, IsRowPlace-below, row_parity-lt, row-again, code-lt, codes_one_to_one, parity-code, IsListView-codes}
use Rattle.scr_sq1tables.proofs.Renamed.{flipped, play-flipped}
use Rattle.scr_sq1tables.proofs.Indexed.{IsIndex, Follows-index, StaysBelow-index}
use Rattle.scr_sq1tables.proofs.PairingStage.{pieces-permutation, pieces-paired, IsPaired-after, IsKept-home, IsKept-quarters, IsMovedBy, IsPaired-moved}
use Rattle.scr_sq1tables.proofs.ShapeStage.{oddness-solved, IsSquareOf-lists}
use Rattle.std.specs.Prelude.{IsSome, is_some}
use Rattle.std.proofs.lemmas.Option.{same_Some}
use Rattle.scr_combinatorics.specs.Stages.{by_letters}
use Rattle.scr_combinatorics.proofs.PlayLaws.{map-some}
use Rattle.scr_combinatorics.proofs.StageLaws.{by_letters-played}
use Rattle.scr_sq1tables.specs.declared.stage_letters.StageLetters.{StageLetters}
use Rattle.scr_sq1tables.specs.declared.stage_letters.StageLetters.TheVariants.{Quarters}
use Rattle.scr_sq1tables.specs.Letters.{letter_of}
use Rattle.scr_sq1tables.specs.Codes.{codes_view, codes_coordinate, rows_coordinate}
use Rattle.scr_sq1tables.specs.Placed.{pieces, IsKept}
use Rattle.scr_sq1tables.proofs.Numbers.{letter-after}

-- ---- a position as a code of corners, and a place in their row

-- a place in one of two rows
pub record IsInRow (p odd : ℕ) : Type 0 where
  pub below : p % 192 + 192 * odd < 384
  pub place : (p % 192 + 192 * odd) % 192 ≡ p % 192
  pub row : (p % 192 + 192 * odd) / 192 ≡ odd

pub IsInRow-at : (p odd : ℕ) → odd < 2 → IsInRow p odd
IsInRow-at p odd lt = record { below = omega arith; place = omega arith; row = omega arith }

-- what the index of codes tells
record IsIndexOf (i edges corners : ℕ) : Type 0 where
  below : i < 73728
  place : i % 192 ≡ place_in_row edges
  corners_again : i / 192 ≡ corners

IsIndexOf-codes : (i edges corners : ℕ) → edges < 384 → corners < 384 → i ≡ place_in_row edges + 192 * corners
    → IsIndexOf i edges corners
IsIndexOf-codes i edges corners le lc is = record { below = omega arith; place = omega arith; corners_again = omega arith }

-- ---- the index tells the layers

same_parity : (a b : ℕ) → (a % 2 + b % 2) % 2 ≡ 0 → a % 2 ≡ b % 2
same_parity a b e = omega arith

module _ (s : Sq1State) (h : IsPairedSq1 s) where
  pub opposite : (part : Part) → IsOpposite (pieces part s.units)
  opposite part = record { permutation = pieces-permutation part s h.normal.valid; paired = pieces-paired part s h }

  pub code-below : (part : Part) → code_number (pieces part s.units) < 384
  code-below part = code-lt (pieces part s.units) (pieces-permutation part s h.normal.valid)

  index : IsIndexOf (square_index s) (code_number (edges_of s.units)) (code_number (corners_of s.units))
  unfolding square_index
  index = IsIndexOf-codes (square_index s) (code_number (edges_of s.units)) (code_number (corners_of s.units)) (code-below Edges) (code-below Corners) refl

  -- both lists have one parity
  one_parity : row_parity (code_number (corners_of s.units)) ≡ row_parity (code_number (edges_of s.units))
  unfolding oddness
  one_parity =
      sym (parity-code (corners_of s.units) (opposite Corners))
      ∙ same_parity (inversions (corners_of s.units)) (inversions (edges_of s.units)) h.normal.normal.even
      ∙ parity-code (edges_of s.units) (opposite Edges)

  edges_again : code_in_row (row_place (square_index s)) ≡ code_number (edges_of s.units)
  edges_again =
      ap (λ c. code_in_row (square_index s % 192 + 192 * row_parity c)) index.corners_again
      ∙ ap (λ r. code_in_row (r + 192 * row_parity (code_number (corners_of s.units)))) index.place
      ∙ ap (λ odd. code_in_row (place_in_row (code_number (edges_of s.units)) + 192 * odd)) one_parity
      ∙ row-again (code_number (edges_of s.units)) (code-below Edges)

  units_again : (square_state (square_index s)).units ≡ s.units
  unfolding square_state
  units_again =
      let w = shape_word (shape_of solved_sq1.units) in
      let again = λ (part : Part). codes_one_to_one.state_again (pieces part s.units) (opposite part) in
      ap (λ cs. laid w cs (code_at (code_in_row (row_place (square_index s))))) (ap code_at index.corners_again ∙ again Corners)
      ∙ ap (laid w (corners_of s.units)) (ap code_at edges_again ∙ again Edges)
      ∙ ap (λ hs. laid (shape_word hs) (corners_of s.units) (edges_of s.units)) (sym h.normal.normal.shape)
      ∙ (StatePieces-valid s h.normal.valid).laid_again

pub same_layers : (s r : Sq1State) → IsPairedSq1 s → IsPairedSq1 r → square_index s ≡ square_index r → s.units ≡ r.units
same_layers s r hs hr e = sym (units_again s hs) ∙ ap (λ i. (square_state i).units) e ∙ units_again r hr

-- the index speaks of the layers alone
pub index_by_units : (s r : Sq1State) → s.units ≡ r.units → square_index s ≡ square_index r
unfolding square_index
index_by_units s r e = ap (λ us. let q : Sq1State = record { units = us; equator = false } in square_index q) e

-- and so words do the same
flipped_alike : (o : Option Sq1State) → option_map square_index (option_map flipped o) ≡ option_map square_index o
unfolding square_index
flipped_alike None = refl
flipped_alike (Some r) = refl

level_alike : (us : List ℕ) (b : Bool) (w : List Turn) → (let q : Sq1State = record { units = us; equator = false } in IsSq1 q)
    → option_map square_index (play sq1_after (record { units = us; equator = b }) w)
    ≡ option_map square_index (play sq1_after (record { units = us; equator = false }) w)
level_alike us true w valid =
    let q : Sq1State = record { units = us; equator = false } in
    ap (option_map square_index) (play-flipped q w valid) ∙ flipped_alike (play sq1_after q w)
level_alike us false w valid = refl

square_alike : (s r : Sq1State) (w : List Turn) → IsPairedSq1 s → IsPairedSq1 r → square_index s ≡ square_index r
    → option_map square_index (play sq1_after s w) ≡ option_map square_index (play sq1_after r w)
square_alike s r w hs hr e =
    let v = hs.normal.valid in
    let u = hr.normal.valid in
    level_alike s.units s.equator w (record { size = v.size; pieces = v.pieces; corners = v.corners })
    ∙ ap (λ us. let q : Sq1State = record { units = us; equator = false } in option_map square_index (play sq1_after q w)) (same_layers s r hs hr e)
    ∙ sym (level_alike r.units r.equator w (record { size = u.size; pieces = u.pieces; corners = u.corners }))

-- ---- the states that stand for the indexes

doubled : (k : ℕ) → (k + k) % 2 ≡ 0
doubled k = omega arith

pub record IsSquareState (i : ℕ) : Type 0 where
  pub paired : IsPairedSq1 (square_state i)
  pub index : square_index (square_state i) ≡ i
  pub corners : code_number (corners_of (square_state i).units) ≡ i / 192
  pub edges : code_number (edges_of (square_state i).units) ≡ code_in_row (row_place i)

pub IsSquareState-below : (i : ℕ) → i < 73728 → IsSquareState i
unfolding square_state square_index
IsSquareState-below i lt =
    let at = IsInRow-at i (row_parity (i / 192)) (row_parity-lt (i / 192)) in
    let r = IsRowPlace-below (row_place i) at.below in
    let c = IsCoded-below (i / 192) (omega (arith, lt)) in
    let e = IsCoded-below (code_in_row (row_place i)) r.code in
    let q = IsSquareOf-lists (code_at (i / 192)) (code_at (code_in_row (row_place i))) c.opposite.permutation e.opposite.permutation
    (ap (λ k. (k + parity (code_at (code_in_row (row_place i)))) % 2) c.odd
    ∙ ap (λ k. (row_parity (i / 192) + k) % 2) (e.odd ∙ r.row ∙ at.row) ∙ doubled (row_parity (i / 192))) in
    let corners : code_number (corners_of (square_state i).units) ≡ i / 192 = ap code_number q.corners ∙ c.again in
    let edges : code_number (edges_of (square_state i).units) ≡ code_in_row (row_place i) = ap code_number q.edges ∙ e.again in
    record {
      paired = record { normal = q.normal; paired = (ap pairing_of q.corners ∙ c.opposite.paired, ap pairing_of q.edges ∙ e.opposite.paired) };
      index = ap (λ n. place_in_row n + 192 * code_number (corners_of (square_state i).units)) edges
          ∙ ap (λ n. place_in_row (code_in_row (row_place i)) + 192 * n) corners ∙ ap (λ n. n + 192 * (i / 192)) (r.place ∙ at.place)
          ∙ whole i;
      corners = corners;
      edges = edges;
    }
  where
    whole : (n : ℕ) → n % 192 + 192 * (n / 192) ≡ n
    whole n = omega arith

-- ---- the goal

pub IsPairedSq1-solved : IsPairedSq1 solved_sq1
unfolding corners_of edges_of pairing_of
IsPairedSq1-solved = record {
  normal = record { valid = IsSq1-solved; normal = record { shape = refl; even = oddness-solved } };
  paired = (refl, refl);
}

pub IsEnding-last : IsEnding sq1_after last_stage
unfolding quarter_word turn_word
IsEnding-last = record { bound = refl; some = lit< tt; empty = refl }

pub IsIndex-square : IsIndex IsPairedSq1 73728 square_index square_state home_stage last_stage
IsIndex-square = record {
  valid = λ i lt. (IsSquareState-below i lt).paired;
  again = λ i lt. (IsSquareState-below i lt).index;
  below = λ s h. (index s h).below;
  alike = square_alike;
  kept = IsPaired-after home_letter IsKept-home;
  ending = IsEnding-last;
  ended = λ s r n h lt e. (
    λ home. index_by_units r solved_sq1 home,
    λ same. same_layers r solved_sq1 (IsPaired-after quarter_word IsKept-quarters s r n h (omega (arith, lt)) e) IsPairedSq1-solved same,
  );
}

pub Follows-square : Follows square_table.space (positions square_coordinate) square_index
Follows-square = Follows-index IsIndex-square

pub StaysBelow-square : StaysBelow square_coordinate
StaysBelow-square = StaysBelow-index IsIndex-square

place-lt : (p : ℕ) → row_place p < 384
place-lt p = (IsInRow-at p (row_parity (p / 192)) (row_parity-lt (p / 192))).below

pub StaysBelow-rows : (letter : ℕ → List Turn) (edges : Coordinate) → ShowsSame (codes_coordinate edges_of letter) edges
    → StaysBelow edges → StaysBelow (rows_coordinate letter)
StaysBelow-rows letter edges shows below p t q at turn e =
    let made = map-some place_in_row ((codes_coordinate edges_of letter).after (code_in_row p) t) q e in
    let code = (IsRowPlace-below p at).code in
    let end = below (code_in_row p) t made.0 (omega (arith, shows.count, code)) (omega (arith, shows.turns, turn))
    (shows.after (code_in_row p) t code turn ∙ made.1) in
    place_below made.0 (omega (arith, shows.count, end)) made.2
  where
    place_below : (a : ℕ) → a < 384 → place_in_row a ≡ q → q < 384
    place_below a lt is = omega arith

-- ---- letters

module _ {letter : ℕ → List Turn} (kept : IsKept letter) {corners rows : Coordinate}
    (f : ShowsSame (codes_coordinate corners_of letter) corners) (g : ShowsSame (rows_coordinate letter) rows)
    {p : ℕ} (at : p < 73728) {t : ℕ} (turn : t < 32) where
  from : IsSquareState p
  from = IsSquareState-below p at

  abbrev led : (m : IsMovedBy letter kept.normal (square_state p) t) × IsPairedSq1 m.state
  led = IsPaired-moved letter kept (square_state p) t from.paired turn

  -- the code of the pieces where the letter leads
  abbrev code : Part → ℕ
  code part = code_number (pieces part led.0.state.units)

  code_after : (part : Part) (q : ℕ) → code_number (pieces part (square_state p).units) ≡ q
      → (codes_coordinate (pieces part) letter).after q t ≡ Some (code part)
  code_after part q is =
      ap (λ k. (codes_coordinate (pieces part) letter).after k t) (sym is)
      ∙ letter-after codes_view IsListView-codes (pieces part) letter (pieces part (square_state p).units) (opposite (square_state p) from.paired part) t turn
      ∙ ap (λ ys. Some (code_number ys)) (sym (led.0.moved part))

  index_after : option_map square_index (by_letters sq1_after 32 letter (square_state p) t) ≡ Some (place_in_row (code Edges) + 192 * code Corners)
  unfolding square_index
  index_after = ap (option_map square_index) (by_letters-played sq1_after 32 letter (square_state p) t turn ∙ led.0.played)

  corners-made : corners.after (p / 192) t ≡ Some (code Corners)
  corners-made = f.after (p / 192) t (omega (arith, at)) turn ∙ code_after Corners (p / 192) from.corners

  rows-made : {r : ℕ} → r ≡ row_place p → rows.after r t ≡ Some (place_in_row (code Edges))
  rows-made {r} is =
      ap (λ k. rows.after k t) is ∙ g.after (row_place p) t (place-lt p) turn
      ∙ ap (option_map place_in_row) (code_after Edges (code_in_row (row_place p)) from.edges)

  pub corners-led : IsSome (corners.after (p / 192) t)
  corners-led = ap is_some corners-made

  pub rows-led : {r : ℕ} → r ≡ row_place p → IsSome (rows.after r t)
  rows-led is = ap is_some (rows-made is)

  module _ {cs : ℕ} (a : Some cs ≡ corners.after (p / 192) t) where
    row : cs ≡ code Corners
    row = same_Some cs (code Corners) (a ∙ corners-made)

    pub made : {low n r : ℕ} → r ≡ row_place p → Some low ≡ rows.after r t → n ≡ low + 192 * cs
        → Some n ≡ option_map square_index (by_letters sq1_after 32 letter (square_state p) t)
    made {low} {n} {r} is b e =
        let place : low ≡ place_in_row (code Edges) = same_Some low (place_in_row (code Edges)) (b ∙ rows-made is) in
        ap Some {x = n} {y = place_in_row (code Edges) + 192 * code Corners} (omega (arith, e, row, place)) ∙ sym index_after

-- what the index after a turn by quarters tells
pub quarter-tested : (l : StageLetters) (p n : ℕ) → l ≡ Quarters → n < 32
    → leads_home square_numbered last_stage p n ≡ has_number 0 (option_map square_index (by_letters sq1_after 32 (letter_of l) (square_state p) n))
unfolding square_index code_number bits_number pairs_number corners_of edges_of
quarter-tested l p n is lt =
    ap (λ o. has_number 0 (option_map square_index o)) (sym (by_letters-played sq1_after 32 quarter_word (square_state p) n lt))
    ∙ ap (λ k. has_number 0 (option_map square_index (by_letters sq1_after 32 (letter_of k) (square_state p) n))) (sym is)

-- whether it is the first one
pub is_first-tested : (o : Option ℕ) → has_number 0 o ≡ option_eq nat_eq o (Some 0)
is_first-tested None = refl
is_first-tested (Some n) = refl
