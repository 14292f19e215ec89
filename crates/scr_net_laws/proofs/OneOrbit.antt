-- An orbit is told by what its pieces show, where no two of them show the same at a place; this is tested.
use Rattle.std.proofs.Common.{◌≡◌, ℕ, ◌<◌, Bool, true, List, [], ◌∷◌, Option, Some, None, length, get_or, refl, sym, ap, ◌∙◌, arith, eqb-true}
use Rattle.std.specs.Prelude.{◌==◌, ◌&&◌, All, map, position, unwrap_or, option_and_then, is_some, slice_index}
use Rattle.std.specs.List.{list_all, list_any, range_with_len}
use Rattle.std.specs.Option.{option_map}
use Rattle.std.specs.Str.{bytes_eq}
use Rattle.std.proofs.lemmas.Bool.{and_parts, false≢true}
use Rattle.std.proofs.lemmas.Grind.{same_number_lists}
use Rattle.scr_orbit.specs.Orbits.{Orbit}
use Rattle.scr_net.specs.Pieces.{piece_letter}
use Rattle.scr_net.proofs.PieceLaws.{number_at, passes, same_place, same_place-same}

map-same : (f g : ℕ → ℕ) (test : ℕ → Bool) (xs : List ℕ) → list_all test xs ≡ true
    → ((x : ℕ) → test x ≡ true → f x ≡ g x) → map f xs ≡ map g xs
map-same f g test [] h same = refl
map-same f g test (x ∷ xs) h same =
    let both = and_parts (test x) (list_all test xs) h in
    let first = same x both.0 in
    let rest = map-same f g test xs both.1 same in
    cc

some-unwrapped : (f : ℕ → ℕ) (o : Option ℕ) (y z : ℕ) → is_some o ≡ true
    → unwrap_or (option_map f o) y ≡ unwrap_or (option_map f o) z
some-unwrapped f None y z h = absurd (false≢true h)
some-unwrapped f (Some x) y z h = refl

-- The pieces show letters: each of its stickers, of a name at its own place, has one.
module _ (n m : ℕ) (places : List (List ℕ)) (letter : ℕ → ℕ) where
  abbrev names : ℕ → List ℕ
  names k = get_or places k []

  -- the name of the sticker that a piece with a digit has at a sticker of a place
  abbrev pub at : ℕ → ℕ → ℕ → ℕ → ℕ
  at k p d name = unwrap_or (option_map (slice_index (names p)) (number_at places name k d)) 0

  -- the letters that it shows there
  abbrev pub seen : ℕ → ℕ → ℕ → List ℕ
  seen k p d = map (λ name. letter (at k p d name)) (names k)

  -- which piece shows these letters at a place, and its digit
  abbrev pub piece_seen : ℕ → List ℕ → ℕ
  piece_seen k letters =
      unwrap_or (position (λ p. list_any (λ d. bytes_eq letters (seen k p d)) (range_with_len 0 m)) (range_with_len 0 n)) 0

  abbrev pub digit_seen : ℕ → List ℕ → ℕ
  digit_seen k letters =
      unwrap_or (position (λ d. list_any (λ p. bytes_eq letters (seen k p d)) (range_with_len 0 n)) (range_with_len 0 m)) 0

  abbrev pub all_tell : Bool
  all_tell =
      list_all (λ k. list_all (λ p. list_all (λ d. (piece_seen k (seen k p d) == p) && (digit_seen k (seen k p d) == d)) (range_with_len 0 m)) (range_with_len 0 n)) (range_with_len 0 n)

  -- what is looked at, at a place and a name, shows an orbit
  pub record Shows (look : ℕ → ℕ → ℕ) (o : Orbit) : Type 0 where
    pub pieces_size : length o.pieces ≡ n
    pub digits_size : length o.digits ≡ n
    pub pieces : All (λ p. p < n) o.pieces
    pub digits : All (λ d. d < m) o.digits
    pub seen_at : (k : ℕ) → k < n → map (look k) (names k) ≡ seen k (slice_index o.pieces k) (slice_index o.digits k)

  read : all_tell ≡ true → (look : ℕ → ℕ → ℕ) (o : Orbit) → Shows look o → (k : ℕ) → k < n
      → (piece_seen k (map (look k) (names k)) ≡ slice_index o.pieces k) × (digit_seen k (map (look k) (names k)) ≡ slice_index o.digits k)
  read all look o h k lt =
      let p : ℕ = slice_index o.pieces k in
      let d : ℕ = slice_index o.digits k in
      let lp : p < n = h.pieces k 0 (omega (arith, lt, h.pieces_size)) in
      let ld : d < m = h.digits k 0 (omega (arith, lt, h.digits_size)) in
      let told = passes (λ d. (piece_seen k (seen k p d) == p) && (digit_seen k (seen k p d) == d)) m
      (passes (λ p. list_all (λ d. (piece_seen k (seen k p d) == p) && (digit_seen k (seen k p d) == d)) (range_with_len 0 m)) n
      (passes (λ k. list_all (λ p. list_all (λ d. (piece_seen k (seen k p d) == p) && (digit_seen k (seen k p d) == d)) (range_with_len 0 m)) (range_with_len 0 n)) n all k lt)
      p lp) d ld in
      let both = and_parts (piece_seen k (seen k p d) == p) (digit_seen k (seen k p d) == d) told in (
        ap (piece_seen k) (h.seen_at k lt) ∙ eqb-true (piece_seen k (seen k p d)) p both.0,
        ap (digit_seen k) (h.seen_at k lt) ∙ eqb-true (digit_seen k (seen k p d)) d both.1,
      )

  pub one_orbit : all_tell ≡ true → (look : ℕ → ℕ → ℕ) (o r : Orbit) → Shows look o → Shows look r → o ≡ r
  one_orbit all look o r h f =
      let pieces = same_number_lists o.pieces r.pieces (h.pieces_size ∙ sym f.pieces_size) (λ k lt0.
      let lt : k < n = omega (arith, lt0, h.pieces_size) in sym (read all look o h k lt).0 ∙ (read all look r f k lt).0) in
      let digits = same_number_lists o.digits r.digits (h.digits_size ∙ sym f.digits_size) (λ k lt0.
      let lt : k < n = omega (arith, lt0, h.digits_size) in sym (read all look o h k lt).1 ∙ (read all look r f k lt).1) in
      ap (λ ps. record { pieces = ps; digits = o.digits }) pieces ∙ ap (λ ds. record { pieces = r.pieces; digits = ds }) digits

  -- ---- what shows an orbit

  -- A place's own stickers are at that place, pass a test, and are reached by each digit.
  abbrev pub is_own : (ℕ → ℕ → Option ℕ) → (ℕ → ℕ → Bool) → ℕ → ℕ → Bool
  is_own place test k name =
      (same_place (place k name) (Some k) && test k name) && list_all (λ d. is_some (number_at places name k d)) (range_with_len 0 m)

  abbrev pub all_own : (ℕ → ℕ → Option ℕ) → (ℕ → ℕ → Bool) → Bool
  all_own place test = list_all (λ k. list_all (is_own place test k) (names k)) (range_with_len 0 n)

  own-name : (o : Orbit) (k name y : ℕ) (a : Option ℕ) → slice_index o.digits k < m → same_place a (Some k) ≡ true
      → list_all (λ d. is_some (number_at places name k d)) (range_with_len 0 m) ≡ true
      → unwrap_or (option_and_then (piece_letter places o name) a) y ≡ at k (slice_index o.pieces k) (slice_index o.digits k) name
  own-name o k name y a low same some =
      let found = same_place-same a (Some k) same in
      let here : a ≡ Some k = found.1 ∙ sym found.2 in
      ap (λ a. unwrap_or (option_and_then (piece_letter places o name) a) y) here
      ∙ some-unwrapped (slice_index (get_or places (slice_index o.pieces k) [])) (number_at places name k (slice_index o.digits k)) y 0
      (passes (λ d. is_some (number_at places name k d)) m some (slice_index o.digits k) low)

  -- where the pieces of an orbit are looked at, which the test tells, or the rest
  pub seen-by : (place : ℕ → ℕ → Option ℕ) (test : ℕ → ℕ → Bool) (look rest : ℕ → ℕ → ℕ) (o : Orbit) → all_own place test ≡ true
      → length o.digits ≡ n → All (λ d. d < m) o.digits
      → ((k name : ℕ) → test k name ≡ true → look k name ≡ letter (unwrap_or (option_and_then (piece_letter places o name) (place k name)) (rest k name)))
      → (k : ℕ) → k < n → map (look k) (names k) ≡ seen k (slice_index o.pieces k) (slice_index o.digits k)
  seen-by place test look rest o own size digits told k lt =
      map-same (look k) (λ name. letter (at k (slice_index o.pieces k) (slice_index o.digits k) name)) (is_own place test k) (names k)
      (passes (λ k. list_all (is_own place test k) (names k)) n own k lt) (λ name h.
      let numbers : Bool = list_all (λ d. is_some (number_at places name k d)) (range_with_len 0 m) in
      let both = and_parts (same_place (place k name) (Some k) && test k name) numbers h in
      let here = and_parts (same_place (place k name) (Some k)) (test k name) both.0 in
      told k name here.1
      ∙ ap letter (own-name o k name (rest k name) (place k name) (digits k 0 (omega (arith, lt, size))) here.0 both.1))
