-- Units half by half: those whose corners lie in halves are the pieces of a shape, and the other way round.
use Rattle.std.proofs.Common.{◌≡◌, ℕ, zero, suc, ◌+◌, ◌-◌, ◌*◌, ◌<◌, inl, inr, List, [], ◌∷◌, ◌++◌, length, take, drop, slice_index, refl, sym, ap, ◌∙◌, subst, arith}
use Rattle.std.proofs.lemmas.Bool.Decides.{nat_tests}
use Rattle.std.specs.Prelude.{All}
use Rattle.std.proofs.lemmas.Bool.{cases_lt}
use Rattle.std.proofs.lemmas.List.{take-append-drop, length-take-le, length-drop, get_or-take, get_or-drop, get_or_append_left, get_or-append-add, take_at, drop_at, length-append, nil_from_length}
use Rattle.std.proofs.lemmas.List.Elements.{All-nil, All-cons, All-head, All-tail, All-take, All-drop}
use Rattle.scr_combinatorics.specs.Permutations.{place_of}
use Rattle.scr_sq1.specs.Shapes.{half_word, corners_among, half_of, AreHalves, edges_among, units_among}
use Rattle.scr_sq1.specs.Numbers.{laid, shape_word}
use Rattle.scr_sq1.proofs.InHalves.{HasPartner, InHalves, no_third}
use Rattle.scr_sq1.proofs.LaidLaws.{Fits, corners_among-append, edges_among-append, length-laid, laid-append, corner_bits-laid, FillsNext, FillsNext-laid, IsLaid, IsLaid-none, IsLaid-append, IsWhole, LaidPieces-whole}
use Rattle.scr_sq1.proofs.HalfWords.{corner_count, corner_bits, half_bits, half_of_word, IsHalf-word, IsKnownHalf-below, half_of-bits, halves_in}

pub shape_word-cons : (h : ℕ) (hs : List ℕ) → shape_word (h ∷ hs) ≡ half_word h ++ shape_word hs
unfolding shape_word
shape_word-cons h hs = refl

-- n halves, in each of which corners have their two units side by side
pub record ArePaired (n : ℕ) (us : List ℕ) : Type 0 where
  pub size : length us ≡ 6 * n
  pub partners : (k : ℕ) → k < 6 * n → slice_index us k < 8 → HasPartner us k
  pub no_third : (k : ℕ) → suc (suc k) < 6 * n → slice_index us k < 8 → slice_index us (suc k) ≡ slice_index us k
      → slice_index us (suc (suc k)) ≡ slice_index us k → ⊥

pub ArePaired-in_halves : (us : List ℕ) → InHalves us → ArePaired 4 us
ArePaired-in_halves us h = grind (arith, nat_tests, no_third)

module _ (n : ℕ) (us : List ℕ) (h : ArePaired (suc n) us) where
  first_size : length (take 6 us) ≡ 6
  first_size = length-take-le 6 us (omega (arith, h.size))

  first_half : IsWhole (take 6 us)
  first_half =
      let at = λ (k : ℕ) (lt : k < 6). get_or-take 6 us k 0 lt in grind (arith, nat_tests, first_size, no_third)

  other_halves : ArePaired n (drop 6 us)
  other_halves =
      let at = λ (k : ℕ). get_or-drop 6 us k 0 in
      let later : (k : ℕ) → slice_index us (6 + suc k) ≡ slice_index us (suc (6 + k)) = λ k. ap (λ i. slice_index us i) (omega arith) in grind (arith, nat_tests, length-drop, no_third)

-- ---- the pieces of such units

-- such units are the pieces of their halves
pub record HalfPieces (n : ℕ) (us : List ℕ) : Type 0 where
  pub corners : List ℕ
  pub edges : List ℕ
  pub are : IsLaid us (shape_word (halves_in n us)) corners edges
  pub halves : AreHalves n (length corners) (halves_in n us)

-- the pieces of the first half, with its number
record FirstPieces (us : List ℕ) : Type 0 where
  corners : List ℕ
  edges : List ℕ
  below : half_of (take 6 us) < 13
  are : IsLaid (take 6 us) (half_word (half_of (take 6 us))) corners edges
  counted : corner_count (half_of (take 6 us)) ≡ length corners

first_pieces : (n : ℕ) (us : List ℕ) → ArePaired (suc n) us → FirstPieces us
first_pieces n us h =
    let first : List ℕ = take 6 us in
    let p = LaidPieces-whole first (first_half n us h) in
    let six : units_among p.word ≡ 6 =
    sym (length-laid p.word p.corners p.edges p.are.fits) ∙ ap length (sym p.are.is) ∙ first_size n us h in
    let number : half_of first ≡ half_of_word p.word =
    half_of-bits first (first_size n us h)
    ∙ ap (λ bits. place_of bits half_bits) (ap corner_bits p.are.is ∙ corner_bits-laid p.word p.corners p.edges p.are.fits p.are.below) in
    let half = IsHalf-word p.word six in
    let word : p.word ≡ half_word (half_of first) = sym half.again ∙ ap half_word (sym number) in
    let low : half_of first < 13 = omega (arith, number, half.below) in grind (arith, nat_tests, IsKnownHalf-below)

pub HalfPieces-paired : (n : ℕ) (us : List ℕ) → ArePaired n us → HalfPieces n us
unfolding halves_in shape_word
HalfPieces-paired zero us h = grind (arith, nat_tests, nil_from_length, IsLaid-none, All-nil)
HalfPieces-paired (suc n) us h =
    let p = first_pieces n us h in
    let q = HalfPieces-paired n (drop 6 us) (other_halves n us h) in
    let first : ℕ = half_of (take 6 us) in
    let others : List ℕ = halves_in n (drop 6 us) in
    record {
      corners = p.corners ++ q.corners;
      edges = p.edges ++ q.edges;
      are = subst (λ vs. IsLaid vs (half_word first ++ shape_word others) (p.corners ++ q.corners) (p.edges ++ q.edges)) (take-append-drop 6 us)
          (IsLaid-append (take 6 us) (drop 6 us) (half_word first) (shape_word others) p.corners q.corners p.edges q.edges p.are q.are);
      halves = grind (arith, nat_tests, All-cons, length-append);
    }

-- ---- the units of a shape's pieces

-- the corners and the edges of a first half, and of those behind it
record Parted (h : ℕ) (hs : List ℕ) (cs es : List ℕ) : Type 0 where
  first : Fits (half_word h) (take (corners_among (half_word h)) cs) (take (edges_among (half_word h)) es)
  others : Fits (shape_word hs) (drop (corners_among (half_word h)) cs) (drop (edges_among (half_word h)) es)
  units : laid (shape_word (h ∷ hs)) cs es
      ≡ laid (half_word h) (take (corners_among (half_word h)) cs) (take (edges_among (half_word h)) es)
      ++ laid (shape_word hs) (drop (corners_among (half_word h)) cs) (drop (edges_among (half_word h)) es)

Parted-fits : (h : ℕ) (hs cs es : List ℕ) → Fits (shape_word (h ∷ hs)) cs es → Parted h hs cs es
Parted-fits h hs cs es f =
    let w = half_word h in
    let v = shape_word hs in
    let c : ℕ = corners_among w in
    let e : ℕ = edges_among w in
    let all_corners : c + corners_among v ≡ length cs = sym (ap corners_among (shape_word-cons h hs) ∙ corners_among-append w v) ∙ f.corners in
    let all_edges : e + edges_among v ≡ length es = sym (ap edges_among (shape_word-cons h hs) ∙ edges_among-append w v) ∙ f.edges in
    let here : Fits w (take c cs) (take e es) = grind (arith, nat_tests, length-take-le) in
    record {
      first = here;
      others = record { corners = omega (arith, length-drop c cs); edges = omega (arith, length-drop e es) };
      units = ap (λ x. laid x cs es) (shape_word-cons h hs)
          ∙ ap (λ xs. laid (w ++ v) xs es) (sym (take-append-drop c cs))
          ∙ ap (λ xs. laid (w ++ v) (take c cs ++ drop c cs) xs) (sym (take-append-drop e es))
          ∙ laid-append w v (take c cs) (drop c cs) (take e es) (drop e es) here;
    }

-- units behind six others
HasPartner-later : (us vs : List ℕ) (k : ℕ) → length us ≡ 6 → HasPartner vs k → HasPartner (us ++ vs) (6 + k)
HasPartner-later us vs k six h = grind (arith, nat_tests, get_or-append-add)

-- the first six
HasPartner-first : (us vs : List ℕ) (k : ℕ) → length us ≡ 6 → k < 6 → FillsNext us k → HasPartner (us ++ vs) k
HasPartner-first us vs k six lt h = grind (arith, nat_tests, get_or_append_left)

-- what is read of a shape's pieces
pub record ShapeUnits (hs cs es : List ℕ) : Type 0 where
  pub partners : (k : ℕ) → k < 6 * length hs → slice_index (laid (shape_word hs) cs es) k < 8
      → HasPartner (laid (shape_word hs) cs es) k
  pub halves : halves_in (length hs) (laid (shape_word hs) cs es) ≡ hs

pub ShapeUnits-laid : (hs cs es : List ℕ) → All (λ h. h < 13) hs → All (λ c. c < 8) cs → Fits (shape_word hs) cs es
    → ShapeUnits hs cs es
unfolding halves_in
ShapeUnits-laid [] cs es low below f = record { partners = λ k lt. absurd (omega arith); halves = refl }
ShapeUnits-laid (h ∷ hs) cs es low below f =
    let w = half_word h in
    let c : ℕ = corners_among w in
    let e : ℕ = edges_among w in
    let parts = Parted-fits h hs cs es f in
    let known = IsKnownHalf-below h (All-head (λ x. x < 13) h hs low) in
    let us : List ℕ = laid w (take c cs) (take e es) in
    let vs : List ℕ = laid (shape_word hs) (drop c cs) (drop e es) in
    let six : length us ≡ 6 = length-laid w (take c cs) (take e es) parts.first ∙ known.six in
    let first_below : All (λ x. x < 8) (take c cs) = All-take (λ x. x < 8) c cs below in
    let rest = ShapeUnits-laid hs (drop c cs) (drop e es) (All-tail (λ x. x < 13) h hs low) (All-drop (λ x. x < 8) c cs below) parts.others in
    record {
      partners = λ k lt corner. subst (λ xs. HasPartner xs k) (sym parts.units)
          (elim (cases_lt k 6) [
            | inl inside ↦ (grind (arith, nat_tests, HasPartner-first, FillsNext-laid, get_or_append_left))
            | inr behind ↦
                let j : ℕ = k - 6 in
                let is : 6 + j ≡ k = omega arith in
                subst (HasPartner (us ++ vs)) is (HasPartner-later us vs j six (rest.partners j (omega arith)
                (omega (arith, ap (λ xs. slice_index xs k) parts.units, ap (λ i. slice_index (us ++ vs) i) is, ap (λ n. slice_index (us ++ vs) (n + j)) six, get_or-append-add us vs j 0))))
          ]);
      halves = ap (λ xs. half_of (take 6 xs) ∷ halves_in (length hs) (drop 6 xs)) parts.units
          ∙ ap (λ xs. half_of xs ∷ halves_in (length hs) (drop 6 (us ++ vs))) (take_at us vs 6 six)
          ∙ ap (λ xs. half_of us ∷ halves_in (length hs) xs) (drop_at us vs 6 six)
          ∙ ap (λ x. x ∷ halves_in (length hs) vs)
          (half_of-bits us six ∙ ap (λ bits. place_of bits half_bits) (corner_bits-laid w (take c cs) (take e es) parts.first first_below) ∙ known.number)
          ∙ ap (λ xs. h ∷ xs) rest.halves;
    }
