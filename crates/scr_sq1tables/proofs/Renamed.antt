-- States whose pieces are called otherwise: turns move the pieces alike, whatever they are called. A valid state is the
-- state of its shape whose pieces are in order, with its pieces called otherwise. So what a word does to a state is told
-- by its shape: it moves the lists of corners and of edges of all states of a shape by the same places. It does the same
-- whatever the equator, and so the stages that solve the layers have the same words.
use Rattle.std.proofs.Common.{◌≡◌, ℕ, ◌+◌, ◌*◌, ◌-◌, ◌%◌, ◌<◌, ◌≤◌, Bool, true, false, cond, List, [], ◌∷◌, map, length, slice_index, take, drop, Option, Some, None, refl, sym, ap, ◌∙◌, arith, lit<, ltb-true, IsTrue, subst}
use Rattle.std.specs.Prelude.{if◌then◌else◌, not, ◌&&◌, ◌==◌, nat_lt, All, filter, option_and_then, pos, ◌↔◌}
use Rattle.std.specs.List.{position_or_len}
use Rattle.std.specs.Option.{option_map}
use Rattle.std.specs.Str.{bytes_eq}
use Rattle.std.proofs.Math.Nat.{add-sub_cancel_left}
use Rattle.std.proofs.lemmas.Bool.{cases_lt, cases_eq, lt-ltb, le-ltb, eq-eqb, ne_eqb, cond-true, cond-false, and_left, not-true}
use Rattle.std.proofs.lemmas.List.{get_or-map, take-map, drop-map}
use Rattle.std.proofs.lemmas.List.Elements.{All-head, All-tail, filter_passes}
use Rattle.scr_combinatorics.specs.Lists.{numbers_from, pick}
use Rattle.scr_combinatorics.specs.Permutations.{IsPermutation, parity}
use Rattle.scr_combinatorics.specs.Play.{play}
use Rattle.scr_combinatorics.proofs.Parities.{parity-pick}
use Rattle.scr_combinatorics.proofs.Picks.{length-pick, pick-in_order}
use Rattle.scr_combinatorics.proofs.PermutationLaws.{All-permutation, IsPermutation-numbers_from, at-permutation, injective-permutation}
use Rattle.scr_combinatorics.proofs.PlayLaws.{play-keeps, play-empty, play-first}
use Rattle.scr_notation.specs.declared.turn.Turn.{Turn}
use Rattle.scr_notation.specs.declared.turn.Turn.TheVariants.{Layers, Twist}
use Rattle.scr_notation.specs.Layers.{is_layer_turn}
use Rattle.scr_notation.proofs.Below.{All-from_test}
use Rattle.scr_sq1.specs.Units.{Sq1State, IsSq1, is_corner, are_of_one_corner, is_open, clockwise, turn_places, twist_places, turned, after_layers, twisted, sq1_after}
use Rattle.scr_sq1.specs.Shapes.{half_words, IsShape, half_of, shape_of}
use Rattle.scr_sq1.specs.Numbers.{corners_of, edges_of, laid, shape_word}
use Rattle.scr_sq1.proofs.InHalves.{is_open-layers, is_open-valid}
use Rattle.scr_sq1.proofs.HalfWords.{letters_of}
use Rattle.scr_sq1.proofs.LaidLaws.{by_pieces, Fits}
use Rattle.scr_sq1.proofs.Places.{IsTurnTable-turn, IsPermutation-twist_places}
use Rattle.scr_sq1.proofs.Clockwise.{clockwise-lt}
use Rattle.scr_sq1.proofs.StatePieces.{StatePieces, StatePieces-valid, LaidState, LaidState-pieces}
use Rattle.scr_sq1.proofs.Lawful.{IsLawful-sq1, sq1_after-by_layers, pick_nothing}
use Rattle.scr_sq1tables.specs.Stages.{oddness, squaring_stage, last_stage, layer_stages, equator_word}
use Rattle.scr_combinatorics.specs.Stages.{Stage, by_letters, IsStageWord, HasStageWord, spelled, IsSolution}
use Rattle.scr_combinatorics.proofs.StageLaws.{by_letters-parts, play-stage_word, solution_step}
use Rattle.scr_positions.specs.SearchSpaces.{Follows, FindsTheSame}
use Rattle.scr_positions.proofs.SearchLaws.{FindsTheSame-follows}
use Rattle.scr_table.specs.StageSpaces.{stage_space}

-- ---- what goes along with turns

-- where a test holds
pub map_where : {S R : Type 0} (f : S → R) (b : Bool) (o : Option R) (p : Option S) → (b ≡ true → o ≡ option_map f p)
    → (let q : Option R = cond b o None in q) ≡ option_map f (cond b p None)
map_where f b o p h0 = grind arith

pub keeps_sq1 : (s r : Sq1State) (w : List Turn) → IsSq1 s → play sq1_after s w ≡ Some r → IsSq1 r
keeps_sq1 = play-keeps sq1_after IsSq1 IsLawful-sq1.keeps

-- it goes along with words
module _ (f : Sq1State → Sq1State) (along : (s : Sq1State) (t : Turn) → IsSq1 s → sq1_after (f s) t ≡ option_map f (sq1_after s t)) where
  rest_along : (w : List Turn) (o : Option Sq1State)
      → ((r : Sq1State) → o ≡ Some r → play sq1_after (f r) w ≡ option_map f (play sq1_after r w))
      → option_and_then (λ r. play sq1_after r w) (option_map f o) ≡ option_map f (option_and_then (λ r. play sq1_after r w) o)
  rest_along w o h0 = grind arith

  pub play-along : (s : Sq1State) (w : List Turn) → IsSq1 s → play sq1_after (f s) w ≡ option_map f (play sq1_after s w)
  unfolding play
  play-along s [] valid = refl
  play-along s (t ∷ w) valid =
      ap (option_and_then (λ r. play sq1_after r w)) (along s t valid)
      ∙ rest_along w (sq1_after s t) (λ r e. play-along r w (IsLawful-sq1.keeps s r t valid e))

-- ---- other names

-- other names for the corners and for the edges, and whether the equator stands otherwise
pub record Names : Type 0 where
  pub corners : List ℕ
  pub edges : List ℕ
  pub equator : Bool

pub record AreNames (n : Names) : Type 0 where
  pub corners : IsPermutation 8 n.corners
  pub edges : IsPermutation 8 n.edges

abbrev pub named : Names → ℕ → ℕ
named n piece = if is_corner piece then slice_index n.corners piece else 8 + slice_index n.edges (piece - 8)

abbrev other_if : Bool → Bool → Bool
other_if true b = not b
other_if false b = b

abbrev pub renamed : Names → Sq1State → Sq1State
renamed n s = record { units = map (named n) s.units; equator = other_if n.equator s.equator }

other_if-not : (b c : Bool) → other_if b (not c) ≡ not (other_if b c)
other_if-not b c = grind arith

pub pick-map : (f : ℕ → ℕ) (xs ks : List ℕ) → All (λ k. k < length xs) ks → pick (map f xs) ks ≡ map f (pick xs ks)
pick-map f xs [] below = refl
pick-map f xs (k ∷ ks) below =
    ap (λ x. x ∷ pick (map f xs) ks) (get_or-map f xs k 0 0 (All-head (λ z. z < length xs) k ks below))
    ∙ ap (λ ys. f (slice_index xs k) ∷ ys) (pick-map f xs ks (All-tail (λ z. z < length xs) k ks below))

map_kept : (f : ℕ → ℕ) (b : Bool) (x : ℕ) (xs : List ℕ)
    → (let ys : List ℕ = cond b (f x ∷ map f xs) (map f xs) in ys) ≡ map f (cond b (x ∷ xs) xs)
map_kept f b x xs = grind arith

-- what is kept by a test that tells alike what things are called
filter-map : (test : ℕ → Bool) (f : ℕ → ℕ) → ((x : ℕ) → test (f x) ≡ test x) → (xs : List ℕ)
    → filter test (map f xs) ≡ map f (filter test xs)
filter-map test f same [] = refl
filter-map test f same (x ∷ xs) = grind (arith, map_kept, filter-map test f same xs)

-- functions that agree make the same of a list
map-same : (f g : ℕ → ℕ) → ((x : ℕ) → f x ≡ g x) → (xs : List ℕ) → map f xs ≡ map g xs
map-same f g h0 xs = grind arith

module _ (n : Names) (h : AreNames n) where
  named-corner : (p : ℕ) → p < 8 → named n p ≡ slice_index n.corners p
  named-corner p lt = cond-true (is_corner p) _ _ (lt-ltb p 8 lt)

  named-edge : (p : ℕ) → 8 ≤ p → named n p ≡ 8 + slice_index n.edges (p - 8)
  named-edge p le = cond-false (is_corner p) _ _ (le-ltb p 8 le)

  corner-below : (p : ℕ) → p < 8 → named n p < 8
  corner-below p lt = omega (arith, named-corner p lt, at-permutation 8 n.corners h.corners p lt)

  is_corner-named : (p : ℕ) → is_corner (named n p) ≡ is_corner p
  is_corner-named p = grind (arith, cases_lt, lt-ltb, corner-below, le-ltb, named-edge)

  -- a piece has the name of a corner exactly where it is that corner
  same_corner : (p q : ℕ) → p < 8 → (named n q == named n p) ≡ (q == p)
  same_corner p q lt =
      grind (arith, cases_eq, eq-eqb, ne_eqb, cases_lt, injective-permutation, named-corner, named-edge, corner-below)

  one_corner-named : (p q : ℕ) → (is_corner (named n p) && (named n q == named n p)) ≡ (is_corner p && (q == p))
  one_corner-named p q = grind (arith, is_corner-named, cases_lt, same_corner, and_left, le-ltb)

  -- ---- turns

  is_open-named : (units : List ℕ) → length units ≡ 24 → is_open (map (named n) units) ≡ is_open units
  is_open-named units size =
      let of = are_of_one_corner (map (named n) units) in
      let at = are_of_one_corner units in
      is_open-layers (map (named n) units)
      ∙ ap (λ b. (not b && not (of 5 6)) && (not (of 23 12) && not (of 17 18))) (one 11 0 (lit< tt) (lit< tt))
      ∙ ap (λ b. (not (at 11 0) && not b) && (not (of 23 12) && not (of 17 18))) (one 5 6 (lit< tt) (lit< tt))
      ∙ ap (λ b. (not (at 11 0) && not (at 5 6)) && (not b && not (of 17 18))) (one 23 12 (lit< tt) (lit< tt))
      ∙ ap (λ b. (not (at 11 0) && not (at 5 6)) && (not (at 23 12) && not b)) (one 17 18 (lit< tt) (lit< tt))
      ∙ sym (is_open-layers units)
    where
      unit : (k : ℕ) → k < 24 → slice_index (map (named n) units) k ≡ named n (slice_index units k)
      unit k lt = get_or-map (named n) units k 0 0 (omega arith)

      one : (j k : ℕ) → j < 24 → k < 24 → are_of_one_corner (map (named n) units) j k ≡ are_of_one_corner units j k
      one j k jt kt =
          ap (λ x. is_corner x && (slice_index (map (named n) units) k == x)) (unit j jt)
          ∙ ap (λ x. is_corner (named n (slice_index units j)) && (x == named n (slice_index units j))) (unit k kt)
          ∙ one_corner-named (slice_index units j) (slice_index units k)

  moved_units : (s : Sq1State) (places : List ℕ) → length s.units ≡ 24 → IsPermutation 24 places
      → pick (map (named n) s.units) places ≡ map (named n) (pick s.units places)
  moved_units s places size p = grind (arith, All-permutation, pick-map)

  sq1_after-renamed : (s : Sq1State) (t : Turn) → IsSq1 s → sq1_after (renamed n s) t ≡ option_map (renamed n) (sq1_after s t)
  unfolding sq1_after after_layers turned twisted
  sq1_after-renamed s (Layers x y) valid =
      let t = (IsTurnTable-turn (clockwise x) (clockwise y) (clockwise-lt x) (clockwise-lt y)).permutation in
      let moved : List ℕ = pick s.units (turn_places (clockwise x) (clockwise y)) in
      let state : List ℕ → Sq1State = λ us. record { units = us; equator = other_if n.equator s.equator } in
      map_where (renamed n) (is_layer_turn (Layers x y)) (after_layers (renamed n s) x y) (after_layers s x y) (λ on.
      ap (λ us. let o : Option Sq1State = cond (is_open us) (Some (state us)) None in o) (moved_units s (turn_places (clockwise x) (clockwise y)) valid.size t)
      ∙ ap (λ b. let o : Option Sq1State = cond b (Some (state (map (named n) moved))) None in o)
      (is_open-named moved (length-pick s.units (turn_places (clockwise x) (clockwise y)) ∙ t.size))
      ∙ map_where (renamed n) (is_open moved) (Some (state (map (named n) moved))) (Some (turned s x y)) (λ on. refl))
  sq1_after-renamed s Twist valid = grind (arith, moved_units, IsPermutation-twist_places, other_if-not)
  sq1_after-renamed s _ valid = refl

  pub play-renamed : (s : Sq1State) (w : List Turn) → IsSq1 s
      → play sq1_after (renamed n s) w ≡ option_map (renamed n) (play sq1_after s w)
  play-renamed = play-along (renamed n) sq1_after-renamed

  -- ---- what is read of units whose pieces are called otherwise

  named-corners : (cs : List ℕ) → All (λ c. c < 8) cs → map (named n) cs ≡ pick n.corners cs
  named-corners [] low = refl
  named-corners (c ∷ cs) low =
      ap (λ x. x ∷ map (named n) cs) (named-corner c (All-head (λ z. z < 8) c cs low))
      ∙ ap (λ xs. slice_index n.corners c ∷ xs) (named-corners cs (All-tail (λ z. z < 8) c cs low))

  named-edges : (es : List ℕ) → All (λ p. is_corner p ≡ false) es → map (λ p. p - 8) (map (named n) es) ≡ pick n.edges (map (λ p. p - 8) es)
  named-edges [] high = refl
  named-edges (e ∷ es) high =
      let is : named n e ≡ 8 + slice_index n.edges (e - 8) = cond-false (is_corner e) _ _ (All-head (λ z. is_corner z ≡ false) e es high) in
      ap (λ x. (x - 8) ∷ map (λ p. p - 8) (map (named n) es)) is
      ∙ ap (λ x. x ∷ map (λ p. p - 8) (map (named n) es)) (add-sub_cancel_left 8 (slice_index n.edges (e - 8)))
      ∙ ap (λ xs. slice_index n.edges (e - 8) ∷ xs) (named-edges es (All-tail (λ z. is_corner z ≡ false) e es high))

  module _ (us : List ℕ) where
    pub corners_of-named : StatePieces us → corners_of (map (named n) us) ≡ pick n.corners (corners_of us)
    unfolding corners_of
    corners_of-named p =
        let evens : List ℕ = 0 ∷ 2 ∷ 4 ∷ 6 ∷ 8 ∷ 10 ∷ 12 ∷ 14 ∷ [] in
        let low = All-from_test (λ k. nat_lt k 16) (λ k. k < 16) (λ k. ltb-true k 16) evens refl in
        ap (λ xs. pick xs evens) (filter-map is_corner (named n) is_corner-named us)
        ∙ pick-map (named n) (filter is_corner us) evens (λ k d lt. omega (arith, p.corner_units, low k d lt))
        ∙ named-corners (corners_of us) (All-permutation 8 (corners_of us) p.corners)

    pub edges_of-named : edges_of (map (named n) us) ≡ pick n.edges (edges_of us)
    unfolding edges_of
    edges_of-named =
        ap (map (λ p. p - 8)) (filter-map (λ p. not (is_corner p)) (named n) (λ p. ap not (is_corner-named p)) us)
        ∙ named-edges (filter (λ p. not (is_corner p)) us) (not_corners us)
      where
        not_corners : (ps : List ℕ) → All (λ p. is_corner p ≡ false) (filter (λ p. not (is_corner p)) ps)
        not_corners ps = λ k d lt. not-true _ (filter_passes (λ p. not (is_corner p)) ps k d lt)

  letters-named : (us : List ℕ) → letters_of (map (named n) us) ≡ letters_of us
  letters-named [] = refl
  letters-named (u ∷ us) = grind (arith, letters_of, is_corner-named, letters-named us)

  pub shape_of-named : (us : List ℕ) → shape_of (map (named n) us) ≡ shape_of us
  unfolding shape_of half_of
  shape_of-named us =
      let f = named n in
      let half : List ℕ → ℕ = λ letters. position_or_len (bytes_eq letters) half_words in
      map-same (λ k. half (letters_of (take 6 (drop (6 * k) (map f us))))) (λ k. half (letters_of (take 6 (drop (6 * k) us)))) (λ k.
      ap (λ xs. half (letters_of (take 6 xs))) (drop-map f (6 * k) us)
      ∙ ap (λ xs. half (letters_of xs)) (take-map f 6 (drop (6 * k) us)) ∙ ap half (letters-named (take 6 (drop (6 * k) us)))) (numbers_from 0 4)

  -- the list of corners and that of edges together are as odd as they and the names
  pub oddness-renamed : (s : Sq1State) → IsSq1 s → oddness (renamed n s) ≡ (parity n.corners + parity n.edges + oddness s) % 2
  unfolding oddness
  oddness-renamed s valid =
      let p = StatePieces-valid s valid in
      omega (
        arith,
        ap parity (corners_of-named s.units p) ∙ parity-pick 8 n.corners (corners_of s.units) h.corners p.corners,
        ap parity (edges_of-named s.units) ∙ parity-pick 8 n.edges (edges_of s.units) h.edges p.edges,
      )

  laid-named : (w : List Bool) (ks js : List ℕ) → Fits w ks js → All (λ k. k < 8) ks
      → laid w (pick n.corners ks) (pick n.edges js) ≡ map (named n) (laid w ks js)
  laid-named =
      by_pieces (λ w ks js. All (λ k. k < 8) ks → laid w (pick n.corners ks) (pick n.edges js) ≡ map (named n) (laid w ks js)) (λ low. refl)
      (λ w k ks js f rest low.
      let is : slice_index n.corners k ≡ named n k = sym (named-corner k (All-head (λ x. x < 8) k ks low)) in
      ap (λ x. x ∷ x ∷ laid w (pick n.corners ks) (pick n.edges js)) is
      ∙ ap (λ us. named n k ∷ named n k ∷ us) (rest (All-tail (λ x. x < 8) k ks low)))
      (λ w j ks js f rest low.
      let is : 8 + slice_index n.edges j ≡ named n (8 + j) =
      sym (named-edge (8 + j) (omega arith) ∙ ap (λ e. 8 + slice_index n.edges e) (add-sub_cancel_left 8 j)) in
      ap (λ x. x ∷ laid w (pick n.corners ks) (pick n.edges js)) is
      ∙ ap (λ us. named n (8 + j) ∷ us) (rest low))

-- ---- the state of a shape

-- pieces in order
abbrev pub in_order : List ℕ
in_order = numbers_from 0 8

-- the state of a shape whose corners and edges are in order
abbrev pub base_of : List ℕ → Sq1State
base_of hs = record { units = laid (shape_word hs) in_order in_order; equator = false }

abbrev pub names_of : Sq1State → Names
names_of s = record { corners = corners_of s.units; edges = edges_of s.units; equator = s.equator }

pub AreNames-valid : (s : Sq1State) → IsSq1 s → AreNames (names_of s)
AreNames-valid s h = let p = StatePieces-valid s h in record { corners = p.corners; edges = p.edges }

pub LaidState-base : (hs : List ℕ) → IsShape hs → LaidState hs in_order in_order
LaidState-base hs shape = let p = IsPermutation-numbers_from 8 in LaidState-pieces hs in_order in_order shape p p

pub pick-order : (xs : List ℕ) → IsPermutation 8 xs → pick xs in_order ≡ xs
pick-order xs p = ap (λ k. pick xs (numbers_from 0 k)) (sym p.size) ∙ pick-in_order xs

renamed-base : (s : Sq1State) → IsSq1 s → renamed (names_of s) (base_of (shape_of s.units)) ≡ s
renamed-base s valid =
    let p = StatePieces-valid s valid in
    let n : Names = names_of s in
    let w = shape_word (shape_of s.units) in
    let l = LaidState-base (shape_of s.units) p.shape in
    let units : map (named n) (laid w in_order in_order) ≡ s.units =
    sym (laid-named n (AreNames-valid s valid) w in_order in_order l.fits (All-permutation 8 in_order (IsPermutation-numbers_from 8)))
    ∙ ap (λ xs. laid w xs (pick n.edges in_order)) (pick-order n.corners p.corners) ∙ ap (laid w n.corners) (pick-order n.edges p.edges)
    ∙ p.laid_again in
    ap (λ us. let r : Sq1State = record { units = us; equator = other_if s.equator false } in r) units
    ∙ ap (λ b. let r : Sq1State = record { units = s.units; equator = b } in r) (other_if-false s.equator)
  where
    other_if-false : (b : Bool) → other_if b false ≡ b
    other_if-false true = refl
    other_if-false false = refl

-- What a word makes of a state is told by what it makes of the state of its shape.
pub play-base : (s : Sq1State) (w : List Turn) → IsSq1 s
    → play sq1_after s w ≡ option_map (renamed (names_of s)) (play sq1_after (base_of (shape_of s.units)) w)
play-base s w valid =
    let b = LaidState-base (shape_of s.units) (StatePieces-valid s valid).shape in
    ap (λ r. play sq1_after r w) (sym (renamed-base s valid))
    ∙ play-renamed (names_of s) (AreNames-valid s valid) (base_of (shape_of s.units)) w (b.valid false)

-- the state with the equator turned
abbrev pub flipped : Sq1State → Sq1State
flipped s = record { units = s.units; equator = not s.equator }

-- ---- the word

-- half a turn of the top brings its halves to each other's places, and so bars nothing
swapped : (a b c : Bool) → IsTrue ((a && b) && c) → IsTrue ((b && a) && c)
swapped a b c h0 = grind arith

half_open : (us : List ℕ) → IsTrue (is_open us) → IsTrue (is_open (pick us (turn_places 6 0)))
unfolding turn_places
half_open us h = grind arith

-- a twist, and then half a turn of the top
both : Sq1State → Sq1State
both s = turned (twisted s) (pos 6) (pos 0)

play-both : (s : Sq1State) (w : List Turn) → IsSq1 s
    → play sq1_after s (Twist ∷ Layers (pos 6) (pos 0) ∷ w) ≡ play sq1_after (both s) w
unfolding both sq1_after turned
play-both s w valid =
    play-first sq1_after s (twisted s) Twist (Layers (pos 6) (pos 0) ∷ w) refl
    ∙ play-first sq1_after (twisted s) (both s) (Layers (pos 6) (pos 0)) w
    (sq1_after-by_layers (twisted s) (pos 6) (pos 0) refl
    (half_open (twisted s).units (is_open-valid (twisted s) (IsLawful-sq1.keeps s (twisted s) Twist valid refl))))

valid_both : (s : Sq1State) → IsSq1 s → IsSq1 (both s)
valid_both s valid =
    keeps_sq1 s (both s) (Twist ∷ Layers (pos 6) (pos 0) ∷ []) valid (play-both s [] valid ∙ play-empty sq1_after (both s))

-- thrice, that is nothing but the equator turned
not_thrice : (b : Bool) → not (not (not b)) ≡ not b
not_thrice b = grind arith

thrice : (s : Sq1State)
    → both (both (both s)) ≡ record { units = pick s.units (numbers_from 0 24); equator = not (not (not s.equator)) }
unfolding both turned twisted turn_places twist_places
thrice s = refl

pub play-equator : (s : Sq1State) → IsSq1 s → play sq1_after s equator_word ≡ Some (flipped s)
play-equator s valid = grind (arith, valid_both, play-both, both, play-empty, thrice, pick_nothing, not_thrice)

-- ---- words

valid_flipped : (s : Sq1State) → IsSq1 s → IsSq1 (flipped s)
valid_flipped s valid = record { size = valid.size; pieces = valid.pieces; corners = valid.corners }

pub play-flipped : (s : Sq1State) (w : List Turn) → IsSq1 s
    → play sq1_after (flipped s) w ≡ option_map flipped (play sq1_after s w)
unfolding sq1_after after_layers turned twisted
play-flipped = play-along flipped after
  where
    after : (s : Sq1State) (t : Turn) → IsSq1 s → sq1_after (flipped s) t ≡ option_map flipped (sq1_after s t)
    after s (Layers x y) valid =
        map_where flipped (is_layer_turn (Layers x y)) (after_layers (flipped s) x y) (after_layers s x y) (λ on.
        map_where flipped (is_open (turned s x y).units) (Some (flipped (turned s x y))) (Some (turned s x y)) (λ on. refl))
    after s Twist valid = refl
    after s _ valid = refl

-- ---- stages

-- The goal says nothing of the equator.
abbrev IsLevel : Stage Sq1State Turn → Type 0
IsLevel stage = (s : Sq1State) → IsSq1 s → stage.IsGoal s ↔ stage.IsGoal (flipped s)

module _ (stage : Stage Sq1State Turn) (level : IsLevel stage) where
  finds : FindsTheSame (stage_space sq1_after stage IsSq1) (stage_space sq1_after stage IsSq1) flipped
  unfolding by_letters
  finds = FindsTheSame-follows (stage_space sq1_after stage IsSq1) (stage_space sq1_after stage IsSq1) flipped follows
    where
      follows : Follows (stage_space sq1_after stage IsSq1) (stage_space sq1_after stage IsSq1) flipped
      follows = record {
        kept = λ s r n v e. keeps_sq1 s r (stage.letter n) v (by_letters-parts sq1_after stage.letters stage.letter s r n e).1;
        valid = valid_flipped;
        turned = λ s n v.
            map_where flipped (nat_lt n stage.letters) (play sq1_after (flipped s) (stage.letter n)) (play sq1_after s (stage.letter n))
            (λ on. play-flipped s (stage.letter n) v);
        goals = level;
      }

  IsStageWord-flipped : (s : Sq1State) (w : List ℕ) → IsSq1 s
      → IsStageWord sq1_after stage s w ↔ IsStageWord sq1_after stage (flipped s) w
  IsStageWord-flipped s w v = (
    λ is. record { first = (finds.first_words s w v).0 is.first; within = is.within },
    λ is. record { first = (finds.first_words s w v).1 is.first; within = is.within },
  )

  has_word-flipped : (s : Sq1State) → IsSq1 s
      → HasStageWord sq1_after stage s ↔ HasStageWord sq1_after stage (flipped s)
  has_word-flipped s v = (
    λ found. (found.0, (IsStageWord-flipped s found.0 v).0 found.1),
    λ found. (found.0, (IsStageWord-flipped s found.0 v).1 found.1),
  )

unfoldable AreLevel : List (Stage Sq1State Turn) → Type 0
AreLevel [] = Unit {0}
AreLevel (stage ∷ rest) = IsLevel stage × AreLevel rest

solution-flipped : (some : List (Stage Sq1State Turn)) → AreLevel some → (s : Sq1State) (w : List Turn) → IsSq1 s
    → IsSolution sq1_after some s w → IsSolution sq1_after some (flipped s) w
unfolding AreLevel
solution-flipped [] level s w v a = a
solution-flipped (stage ∷ rest) level s w v a =
    let leads = a.2.first.leads in
    let played = (finds stage level.0).played s a.0 v ∙ ap (option_map flipped) leads.played in
    let valid = keeps_sq1 s leads.end (spelled stage.letter a.0) v (play-stage_word sq1_after stage s a.0 a.2) in
    subst (IsSolution sq1_after (stage ∷ rest) (flipped s)) (sym a.4)
    (solution_step sq1_after stage (flipped s) (flipped leads.end) a.0 ((IsStageWord-flipped stage level.0 s a.0 v).0 a.2) played rest a.1
    (solution-flipped rest level.1 leads.end a.1 valid a.3))

pub layers-flipped : (s : Sq1State) (w : List Turn) → IsSq1 s → IsSolution sq1_after layer_stages s w
    → IsSolution sq1_after layer_stages (flipped s) w
unfolding AreLevel oddness
layers-flipped =
    let squaring : IsLevel squaring_stage = grind arith in
    let last : IsLevel last_stage = λ s v. (λ home. home, λ home. home) in
    solution-flipped layer_stages
    (has_word-flipped squaring_stage squaring, (squaring, ((λ s v. (λ paired. paired, λ paired. paired)), (has_word-flipped last_stage last, (last, tt)))))
