-- The corners and the edges of valid states, in unit order, are permutations; and permutations laid by a shape are a
-- valid state.
use Rattle.std.proofs.Common.{◌≡◌, ℕ, zero, suc, ◌+◌, ◌*◌, ◌<◌, eqb, Bool, List, [], ◌∷◌, map, length, refl, sym, ap, ◌∙◌, subst, arith}
use Rattle.std.specs.Prelude.{All, filter}
use Rattle.std.proofs.lemmas.Bool.Decides.{nat_tests}
use Rattle.std.proofs.lemmas.List.Elements.{All-head, All-tail}
use Rattle.scr_combinatorics.specs.Lists.{total, occurrences, lesser_count}
use Rattle.scr_combinatorics.specs.Permutations.{IsPermutation}
use Rattle.scr_combinatorics.proofs.Counts.{one_if, one_if-other, lesser_count-zero, lesser_count-suc, lesser_count-all, occurrences-above}
use Rattle.scr_combinatorics.proofs.PermutationLaws.{All-permutation}
use Rattle.scr_sq1.specs.Units.{Sq1State, IsSq1, is_corner}
use Rattle.scr_sq1.specs.Shapes.{half_word, corners_among, shape_of, IsShape, units_among}
use Rattle.scr_sq1.specs.Numbers.{corners_of, edges_of, laid, shape_word}
use Rattle.scr_sq1.proofs.InHalves.{InHalves, InHalves-valid, IsSq1-halves}
use Rattle.scr_sq1.proofs.LaidLaws.{Fits, corners_among-append, edges_among-append, length-laid, occurrences-laid, length-corner_units, corners_of-laid, edges_of-laid}
use Rattle.scr_sq1.proofs.HalfWords.{corner_count, IsKnownHalf-below, halves_in, shape_of-halves}
use Rattle.scr_sq1.proofs.HalfByHalf.{ArePaired-in_halves, HalfPieces-paired, ShapeUnits-laid}

-- ---- edges as pieces

abbrev pub raised : List ℕ → List ℕ
raised es = map (λ e. 8 + e) es

one_if-raised : (x q : ℕ) → one_if (eqb (8 + x) (8 + q)) ≡ one_if (eqb x q)
one_if-raised x q = grind (arith, nat_tests)

occurrences-raised : (q : ℕ) (es : List ℕ) → occurrences (8 + q) (raised es) ≡ occurrences q es
occurrences-raised q [] = refl
occurrences-raised q (e ∷ es) = omega (arith, one_if-raised e q, occurrences-raised q es)

occurrences-raised_low : (p : ℕ) (es : List ℕ) → p < 8 → occurrences p (raised es) ≡ 0
occurrences-raised_low p [] lt = refl
occurrences-raised_low p (e ∷ es) lt = omega (arith, one_if-other (8 + e) p (λ same. omega arith), occurrences-raised_low p es lt)

-- ---- permutations

-- numbers below n, each of which stands once, are n numbers
lesser_count-once : (n : ℕ) (xs : List ℕ) → ((k : ℕ) → k < n → occurrences k xs ≡ 1) → lesser_count n xs ≡ n
lesser_count-once zero xs once = lesser_count-zero xs
lesser_count-once (suc n) xs once = omega (arith, lesser_count-suc n xs, lesser_count-once n xs (λ k lt. once k (omega arith)), once n (omega arith))

pub IsPermutation-once : (n : ℕ) (xs : List ℕ) → All (λ x. x < n) xs → ((k : ℕ) → k < n → occurrences k xs ≡ 1)
    → IsPermutation n xs
IsPermutation-once n xs below once = record { size = sym (lesser_count-all n xs below) ∙ lesser_count-once n xs once; once = once }

-- ---- the pieces of a valid state

pub record StatePieces (units : List ℕ) : Type 0 where
  pub corner_units : length (filter is_corner units) ≡ 16
  pub corners : IsPermutation 8 (corners_of units)
  pub edges : IsPermutation 8 (edges_of units)
  pub shape : IsShape (shape_of units)
  pub laid_again : laid (shape_word (shape_of units)) (corners_of units) (edges_of units) ≡ units

pub StatePieces-halves : (units : List ℕ) → InHalves units → StatePieces units
StatePieces-halves units h =
    let p = HalfPieces-paired 4 units (ArePaired-in_halves units h) in
    let w = shape_word (halves_in 4 units) in
    let cs = p.corners in
    let es = p.edges in
    let fits = p.are.fits in
    let counted = λ (v : ℕ). ap (occurrences v) p.are.is ∙ occurrences-laid v w cs es fits in
    let corners : IsPermutation 8 cs =
    IsPermutation-once 8 cs p.are.below (λ k lt. omega (arith, counted k, h.corners k lt, occurrences-raised_low k es lt)) in
    let filled : 2 * length cs + length es ≡ 24 =
    omega (arith, ap length p.are.is, length-laid w cs es fits, fits.corners, fits.edges, h.size) in
    let edges : IsPermutation 8 es = record {
      size = omega (arith, filled, corners.size);
      once = λ k lt. omega (
        arith,
        counted (8 + k),
        h.edges (8 + k) (omega arith) (omega arith),
        occurrences-above 8 cs p.are.below (8 + k) (omega arith),
        occurrences-raised k es,
      );
    } in
    let own_corners : corners_of units ≡ cs = ap corners_of p.are.is ∙ corners_of-laid w cs es fits p.are.below corners.size in
    let own_edges : edges_of units ≡ es = ap edges_of p.are.is ∙ edges_of-laid w cs es fits p.are.below in grind (arith, nat_tests, length-corner_units, shape_of-halves, halves_in)

pub StatePieces-valid : (s : Sq1State) → IsSq1 s → StatePieces s.units
StatePieces-valid s h = StatePieces-halves s.units (InHalves-valid s h)

-- the same of units as they are read
pub StatePieces-read : (s : Sq1State) (units : List ℕ) → units ≡ s.units → IsSq1 s → StatePieces units
StatePieces-read s units e h = subst StatePieces (sym e) (StatePieces-valid s h)

-- ---- the units of pieces

-- how many corners and how many units the pieces of some halves have
pub record AreCounted (hs : List ℕ) : Type 0 where
  pub corners : corners_among (shape_word hs) ≡ total (map corner_count hs)
  pub units : units_among (shape_word hs) ≡ 6 * length hs

pub AreCounted-halves : (hs : List ℕ) → All (λ h. h < 13) hs → AreCounted hs
unfolding shape_word
AreCounted-halves [] below = record { corners = refl; units = refl }
AreCounted-halves (h ∷ hs) below =
    let known = IsKnownHalf-below h (All-head (λ x. x < 13) h hs below) in
    let others = AreCounted-halves hs (All-tail (λ x. x < 13) h hs below) in
    let corners = corners_among-append (half_word h) (shape_word hs) in
    let edges = edges_among-append (half_word h) (shape_word hs) in omega (arith)

-- the state of a shape with these corners and these edges in unit order
pub record LaidState (hs cs es : List ℕ) : Type 0 where
  pub fits : Fits (shape_word hs) cs es
  pub valid : (equator : Bool) → IsSq1 (record { units = laid (shape_word hs) cs es; equator = equator })
  pub shape_again : shape_of (laid (shape_word hs) cs es) ≡ hs
  pub corners_again : corners_of (laid (shape_word hs) cs es) ≡ cs
  pub edges_again : edges_of (laid (shape_word hs) cs es) ≡ es

pub LaidState-pieces : (hs cs es : List ℕ) → IsShape hs → IsPermutation 8 cs → IsPermutation 8 es → LaidState hs cs es
LaidState-pieces hs cs es shape corners edges =
    let w = shape_word hs in
    let counted = AreCounted-halves hs shape.below in
    let all_corners : corners_among w ≡ 8 = counted.corners ∙ shape.corners in
    let all_units : units_among w ≡ 24 = omega (arith, counted.units, shape.size) in
    let fits : Fits w cs es = record { corners = all_corners ∙ sym corners.size; edges = omega (arith, all_corners, all_units, edges.size) } in
    let below = All-permutation 8 cs corners in
    let units = ShapeUnits-laid hs cs es shape.below below fits in
    record {
      fits = fits;
      valid = IsSq1-halves (laid w cs es) (grind (arith, nat_tests, length-laid, occurrences-laid, occurrences-raised_low, occurrences-above, occurrences-raised));
      shape_again = shape_of-halves (laid w cs es) ∙ ap (λ n. halves_in n (laid w cs es)) (sym shape.size) ∙ units.halves;
      corners_again = corners_of-laid w cs es fits below corners.size;
      edges_again = edges_of-laid w cs es fits below;
    }
