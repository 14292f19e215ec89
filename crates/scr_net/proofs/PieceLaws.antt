-- Nets by pieces: a quarter turn of the pieces is one of the net. What it takes for that is tested sticker by sticker.
use Rattle.std.proofs.Common.{◌≡◌, ℕ, zero, suc, ◌+◌, ◌-◌, ◌%◌, ◌<◌, Bool, true, false, List, [], ◌∷◌, Option, Some, None, length, get_or, refl, sym, ap, ◌∙◌, subst, inl, inr, lit<, arith, eqb-true, ltb-true}
use Rattle.std.specs.Prelude.{◌==◌, ◌&&◌, nat_lt, All, position, unwrap_or, option_and_then, slice_index}
use Rattle.std.specs.List.{list_all, range_with_len}
use Rattle.std.specs.Option.{option_map}
use Rattle.std.proofs.lemmas.List.{get_or_past, get_or_default}
use Rattle.std.proofs.lemmas.Bool.{cases_lt, and_parts}
use Rattle.std.proofs.lemmas.List.FromFn.{get_or-range_with_len, length-range_with_len}
use Rattle.std.proofs.lemmas.List.Sums.{AllPass-from_list_all}
use Rattle.scr_combinatorics.specs.Lists.{pick}
use Rattle.scr_combinatorics.proofs.PermutationLaws.{All-permutation}
use Rattle.scr_combinatorics.proofs.PlayLaws.{and_then-some, map-some}
use Rattle.scr_combinatorics.proofs.Picks.{length-pick, pick-at}
use Rattle.scr_orbit.specs.Orbits.{Orbit, IsZeroSumOrbit, turned_orbit}
use Rattle.scr_orbit.specs.Stickers.{standing}
use Rattle.scr_orbit.proofs.DigitLaws.{added_digits-at}
use Rattle.scr_cube.specs.Cube333.{CubeState}
use Rattle.scr_cube.specs.Stickers.{corner_faces, edge_faces}
use Rattle.scr_net.specs.declared.geometry.Sticker.{Sticker}
use Rattle.scr_net.specs.Geometry.{sticker_at}
use Rattle.scr_net.specs.Pieces.{corner_faces_222, corners_letter, cube_letter, letter_of_pieces, piece_letter, place_at}

-- ---- tests of all stickers

-- what passes for each number below n
pub passes : (p : ℕ → Bool) (n : ℕ) → list_all p (range_with_len 0 n) ≡ true → (k : ℕ) → k < n → p k ≡ true
passes p n h k lt =
    let here : get_or (range_with_len 0 n) k 0 ≡ k = get_or-range_with_len 0 n k 0 lt ∙ omega arith in
    ap p (sym here) ∙ AllPass-from_list_all p (range_with_len 0 n) h k 0 (omega (arith, length-range_with_len 0 n))

abbrev pub each_sticker : ℕ → (Sticker → Bool) → Bool
each_sticker side p =
    list_all (λ face. list_all (λ row. list_all (λ column. p (sticker_at (side - 1) face row column)) (range_with_len 0 side)) (range_with_len 0 side)) (range_with_len 0 6)

pub each_sticker-at : (side : ℕ) (p : Sticker → Bool) → each_sticker side p ≡ true
    → (face row column : ℕ) → face < 6 → row < side → column < side → p (sticker_at (side - 1) face row column) ≡ true
each_sticker-at side p h face row column lf lr lc =
    passes (λ column. p (sticker_at (side - 1) face row column)) side
    (passes (λ row. list_all (λ column. p (sticker_at (side - 1) face row column)) (range_with_len 0 side)) side
    (passes (λ face. list_all (λ row. list_all (λ column. p (sticker_at (side - 1) face row column)) (range_with_len 0 side)) (range_with_len 0 side)) 6 h face lf)
    row lr) column lc

-- ---- one kind of pieces

-- both are the same place
abbrev pub same_place : Option ℕ → Option ℕ → Bool
same_place (Some k) (Some j) = k == j
same_place _ _ = false

pub same_place-same : (a b : Option ℕ) → same_place a b ≡ true → (k : ℕ) × (a ≡ Some k) × (b ≡ Some k)
same_place-same None b h = absurd (cc)
same_place-same (Some k) None h = absurd (cc)
same_place-same (Some k) (Some j) h = (k, refl, ap Some (sym (eqb-true k j h)))

-- A place has names for its stickers: the faces that they are on, or their numbers. Which of a piece's stickers stands at
-- the one of this name, where it stands with this digit.
abbrev pub number_at : List (List ℕ) → ℕ → ℕ → ℕ → Option ℕ
number_at places name place digit = position (λ n. n == name) (standing (get_or places place []) digit)

-- A turn brings to a sticker of a place what stood at another's: the piece comes from there, and whatever its digit was,
-- its sticker that is here now was there. Where no such piece is, the rest tells.
abbrev pub comes_from : ℕ → ℕ → List (List ℕ) → Orbit → ℕ → ℕ → Bool → Option ℕ → Option ℕ → Bool
comes_from n modulus places r face from rest None None = rest
comes_from n modulus places r face from rest (Some k) (Some j) =
    (nat_lt k n && (slice_index r.pieces k == j))
    && list_all (λ d. same_place (number_at places face k ((d + slice_index r.digits k) % modulus)) (number_at places from j d)) (range_with_len 0 modulus)
comes_from n modulus places r face from rest _ _ = false

digit-below : (modulus : ℕ) (ds : List ℕ) (k : ℕ) → 0 < modulus → All (λ d. d < modulus) ds → slice_index ds k < modulus
digit-below modulus ds k some each = elim (cases_lt k (length ds)) [
  | inl lt ↦ each k 0 lt
  | inr le ↦ subst (λ d. d < modulus) (sym (get_or_past ds k 0 le)) some
]

module _ (n modulus : ℕ) (places : List (List ℕ)) (o r : Orbit) (some : 0 < modulus)
    (below : All (λ d. d < modulus) o.digits) (size : length r.pieces ≡ n) (added : length r.digits ≡ n) where
  -- what stands at a place after a turn
  piece-turned : (k : ℕ) → k < n
      → slice_index (turned_orbit modulus o r).pieces k ≡ slice_index o.pieces (slice_index r.pieces k)
  unfolding turned_orbit
  piece-turned k lt = pick-at o.pieces r.pieces k (omega (arith, size))

  digit-turned : (k : ℕ) → k < n
      → slice_index (turned_orbit modulus o r).digits k ≡ (slice_index o.digits (slice_index r.pieces k) + slice_index r.digits k) % modulus
  unfolding turned_orbit
  digit-turned k lt =
      added_digits-at modulus (pick o.digits r.pieces) r.digits k (omega (arith, length-pick o.digits r.pieces, size, added)) (omega (arith, length-pick o.digits r.pieces, size))
      ∙ ap (λ d. (d + slice_index r.digits k) % modulus) (pick-at o.digits r.pieces k (omega (arith, size)))

  -- what shows at a place's sticker
  letter-turned : (face from k j : ℕ) → comes_from n modulus places r face from false (Some k) (Some j) ≡ true
      → (x : ℕ) × (piece_letter places (turned_orbit modulus o r) face k ≡ Some x) × (piece_letter places o from j ≡ Some x)
  letter-turned face from k j h =
      let numbers : Bool = list_all (λ d. same_place (number_at places face k ((d + slice_index r.digits k) % modulus)) (number_at places from j d)) (range_with_len 0 modulus) in
      let both = and_parts (nat_lt k n && (slice_index r.pieces k == j)) numbers h in
      let first = and_parts (nat_lt k n) (slice_index r.pieces k == j) both.0 in
      let lt : k < n = ltb-true k n first.0 in
      let there : slice_index r.pieces k ≡ j = eqb-true (slice_index r.pieces k) j first.1 in
      let d : ℕ = slice_index o.digits j in
      let same =
      same_place-same (number_at places face k ((d + slice_index r.digits k) % modulus)) (number_at places from j d)
      (passes (λ d. same_place (number_at places face k ((d + slice_index r.digits k) % modulus)) (number_at places from j d)) modulus both.1 d (digit-below modulus o.digits j some below)) in
      let digit : slice_index (turned_orbit modulus o r).digits k ≡ (d + slice_index r.digits k) % modulus = digit-turned k lt ∙ ap (λ i. (slice_index o.digits i + slice_index r.digits k) % modulus) there in
      let piece : slice_index (turned_orbit modulus o r).pieces k ≡ slice_index o.pieces j = piece-turned k lt ∙ ap (slice_index o.pieces) there in
      let letters : List ℕ = get_or places (slice_index o.pieces j) [] in (
        slice_index letters same.0,
        ap (λ i. option_map (slice_index (get_or places i [])) (number_at places face k (slice_index (turned_orbit modulus o r).digits k))) piece
            ∙ ap (λ i. option_map (slice_index letters) (number_at places face k i)) digit
            ∙ ap (option_map (slice_index letters)) same.1,
        ap (option_map (slice_index letters)) same.2,
      )

  -- what shows at a sticker, if a piece of this kind does, or the rest
  pub shown-turned : (face from x y : ℕ) (rest : Bool) (a b : Option ℕ) → (rest ≡ true → x ≡ y)
      → comes_from n modulus places r face from rest a b ≡ true
      → unwrap_or (option_and_then (piece_letter places (turned_orbit modulus o r) face) a) x ≡ unwrap_or (option_and_then (piece_letter places o from) b) y
  shown-turned face from x y rest None None other h = other h
  shown-turned face from x y rest None (Some j) other h = absurd (cc)
  shown-turned face from x y rest (Some k) None other h = absurd (cc)
  shown-turned face from x y rest (Some k) (Some j) other h =
      let letter = letter-turned face from k j h in
      ap (λ o. unwrap_or o x) letter.1 ∙ sym (ap (λ o. unwrap_or o y) letter.2)

  -- the letter at a sticker, or the rest
  pub letter_of_pieces-turned : (last x y : ℕ) (s t : Sticker) (rest : Bool) → (rest ≡ true → x ≡ y)
      → comes_from n modulus places r s.face t.face rest (place_at last places s.point) (place_at last places t.point) ≡ true
      → unwrap_or (letter_of_pieces last places (turned_orbit modulus o r) s) x ≡ unwrap_or (letter_of_pieces last places o t) y
  unfolding letter_of_pieces
  letter_of_pieces-turned last x y s t rest other h =
      shown-turned s.face t.face x y rest (place_at last places s.point) (place_at last places t.point) other h

-- ---- letters as they are looked for

module _ (last : ℕ) (places : List (List ℕ)) (pieces digits : List ℕ) (s : Sticker) where
  abbrev letter : Option ℕ
  letter = letter_of_pieces last places (record { pieces = pieces; digits = digits }) s

  pub letter-nowhere : place_at last places s.point ≡ None → letter ≡ None
  unfolding letter_of_pieces
  letter-nowhere e = ap (option_and_then (piece_letter places (record { pieces = pieces; digits = digits }) s.face)) e

  -- by the number at which the face stands, at a place that was found
  by_number : (place : ℕ) (faces : List ℕ) (number : Option ℕ) → place < length places
      → faces ≡ get_or places place faces → place_at last places s.point ≡ Some place
      → position (λ f. f == s.face) (standing faces (slice_index digits place)) ≡ number
      → letter ≡ option_map (slice_index (get_or places (slice_index pieces place) [])) number
  unfolding letter_of_pieces
  by_number place faces number lt same found e =
      let there : get_or places place [] ≡ faces = get_or_default places place [] faces lt ∙ sym same in
      ap (option_and_then (piece_letter places (record { pieces = pieces; digits = digits }) s.face)) found
      ∙ ap (λ fs. option_map (slice_index (get_or places (slice_index pieces place) [])) (position (λ f. f == s.face) (standing fs (slice_index digits place)))) there
      ∙ ap (option_map (slice_index (get_or places (slice_index pieces place) []))) e

  pub letter-unnumbered : (place : ℕ) (faces : List ℕ) → place < length places → faces ≡ get_or places place faces
      → place_at last places s.point ≡ Some place
      → position (λ f. f == s.face) (standing faces (slice_index digits place)) ≡ None → letter ≡ None
  letter-unnumbered place faces lt same found e = by_number place faces None lt same found e

  pub letter-found : (place number : ℕ) (faces : List ℕ) → place < length places → faces ≡ get_or places place faces
      → place_at last places s.point ≡ Some place
      → position (λ f. f == s.face) (standing faces (slice_index digits place)) ≡ Some number
      → letter ≡ Some (slice_index (get_or places (slice_index pieces place) []) number)
  letter-found place number faces lt same found e = by_number place faces (Some number) lt same found e

-- ---- letters are of faces

abbrev are_faces : List (List ℕ) → Bool
are_faces places = list_all (list_all (λ x. nat_lt x 6)) places

face-below : (xs : List ℕ) (k : ℕ) → list_all (λ x. nat_lt x 6) xs ≡ true → slice_index xs k < 6
face-below [] k h = lit< tt
face-below (x ∷ xs) zero h = ltb-true x 6 (and_parts (nat_lt x 6) (list_all (λ x. nat_lt x 6) xs) h).0
face-below (x ∷ xs) (suc k) h = face-below xs k (and_parts (nat_lt x 6) (list_all (λ x. nat_lt x 6) xs) h).1

faces-below : (places : List (List ℕ)) (place k : ℕ) → are_faces places ≡ true
    → slice_index (get_or places place []) k < 6
faces-below [] place k h = lit< tt
faces-below (fs ∷ places) zero k h = face-below fs k (and_parts (list_all (λ x. nat_lt x 6) fs) (are_faces places) h).0
faces-below (fs ∷ places) (suc place) k h = faces-below places place k (and_parts (list_all (λ x. nat_lt x 6) fs) (are_faces places) h).1

pub letter-below : (last : ℕ) (places : List (List ℕ)) (o : Orbit) (s : Sticker) (x : ℕ) → are_faces places ≡ true
    → x < 6 → unwrap_or (letter_of_pieces last places o s) x < 6
unfolding letter_of_pieces
letter-below last places o s x faces low = by (letter_of_pieces last places o s) refl
  where
    by : (l : Option ℕ) → letter_of_pieces last places o s ≡ l → unwrap_or l x < 6
    by None e = low
    by (Some y) e =
        let place = and_then-some (piece_letter places o s.face) (place_at last places s.point) y e in
        let letters : List ℕ = get_or places (slice_index o.pieces place.0) [] in
        let number =
        map-some (slice_index letters) (position (λ f. f == s.face) (standing (get_or places place.0 []) (slice_index o.digits place.0))) y place.2 in
        subst (λ v. v < 6) number.2 (faces-below places (slice_index o.pieces place.0) number.0 faces)

-- ---- both cubes

-- the lists of a valid orbit, over as many places
pub valid_lists : (n modulus : ℕ) (places : List (List ℕ)) (o : Orbit) (pieces digits : List ℕ) → length places ≡ n
    → IsZeroSumOrbit n modulus o → pieces ≡ o.pieces → digits ≡ o.digits
    → (length pieces ≡ length places) × ((length digits ≡ length places) × (All (λ k. k < length places) pieces × All (λ d. d < modulus) digits))
valid_lists n modulus places o pieces digits size own a b =
    let below : All (λ k. k < length places) o.pieces = subst (λ m. All (λ k. k < m) o.pieces) (sym size) (All-permutation n o.pieces own.pieces) in (
      ap length a ∙ own.pieces.size ∙ sym size,
      (
        ap length b ∙ own.digits.size ∙ sym size,
        (subst (All (λ k. k < length places)) (sym a) below, subst (All (λ d. d < modulus)) (sym b) own.digits.below),
      ),
    )

pub cube_letter-is : (c : CubeState) (s : Sticker) (corners twists edges flips : List ℕ) (corner edge : Option ℕ)
    → corners ≡ c.corners.pieces → twists ≡ c.corners.digits → edges ≡ c.edges.pieces → flips ≡ c.edges.digits
    → corner ≡ letter_of_pieces 2 corner_faces (record { pieces = corners; digits = twists }) s
    → edge ≡ letter_of_pieces 2 edge_faces (record { pieces = edges; digits = flips }) s
    → unwrap_or corner (unwrap_or edge s.face) ≡ cube_letter c s
unfolding cube_letter
cube_letter-is c s corners twists edges flips corner edge a b d e first second =
    ap (λ l. unwrap_or l (unwrap_or edge s.face))
    (first ∙ ap (λ xs. letter_of_pieces 2 corner_faces (record { pieces = xs; digits = twists }) s) a
    ∙ ap (λ xs. letter_of_pieces 2 corner_faces (record { pieces = c.corners.pieces; digits = xs }) s) b)
    ∙ ap (λ l. unwrap_or (letter_of_pieces 2 corner_faces c.corners s) (unwrap_or l s.face))
    (second ∙ ap (λ xs. letter_of_pieces 2 edge_faces (record { pieces = xs; digits = flips }) s) d
    ∙ ap (λ xs. letter_of_pieces 2 edge_faces (record { pieces = c.edges.pieces; digits = xs }) s) e)

pub cube_letter-below : (c : CubeState) (s : Sticker) → s.face < 6 → cube_letter c s < 6
unfolding cube_letter
cube_letter-below c s low =
    letter-below 2 corner_faces c.corners s (unwrap_or (letter_of_pieces 2 edge_faces c.edges s) s.face) refl (letter-below 2 edge_faces c.edges s s.face refl low)

pub corners_letter-is : (o : Orbit) (s : Sticker) (corners twists : List ℕ) (corner : Option ℕ) → corners ≡ o.pieces
    → twists ≡ o.digits → corner ≡ letter_of_pieces 1 corner_faces_222 (record { pieces = corners; digits = twists }) s
    → unwrap_or corner s.face ≡ corners_letter o s
unfolding corners_letter
corners_letter-is o s corners twists corner a b first =
    ap (λ l. unwrap_or l s.face)
    (first ∙ ap (λ xs. letter_of_pieces 1 corner_faces_222 (record { pieces = xs; digits = twists }) s) a
    ∙ ap (λ xs. letter_of_pieces 1 corner_faces_222 (record { pieces = o.pieces; digits = xs }) s) b)

pub corners_letter-below : (o : Orbit) (s : Sticker) → s.face < 6 → corners_letter o s < 6
unfolding corners_letter
corners_letter-below o s low = letter-below 1 corner_faces_222 o s s.face refl low
