-- The stickers of an orbit's pieces: where a turn brings them from, which is tested sticker by sticker, and that they
-- tell the orbit.
use Rattle.std.proofs.Common.{◌≡◌, ℕ, ◌<◌, Bool, true, List, Option, Some, None, length, refl, sym, ap, ◌∙◌, subst, arith, ltb-true}
use Rattle.std.specs.Prelude.{◌&&◌, nat_lt, All, map, is_none, unwrap_or, option_and_then, slice_index}
use Rattle.std.specs.List.{list_all, range_with_len}
use Rattle.std.proofs.lemmas.Bool.{and_parts, false≢true}
use Rattle.std.proofs.lemmas.Grind.{same_number_lists}
use Rattle.std.proofs.lemmas.List.FromFn.{get_or-map-range_with_len, length-map-range_with_len}
use Rattle.scr_combinatorics.specs.Lists.{pick}
use Rattle.scr_combinatorics.proofs.Picks.{length-pick, pick-at}
use Rattle.scr_orbit.specs.Orbits.{Orbit, turned_orbit}
use Rattle.scr_net.specs.Pieces.{piece_letter}
use Rattle.scr_net.proofs.PieceLaws.{comes_from, passes, shown-turned}
use Rattle.scr_net_laws.proofs.OneOrbit.{Shows, all_own, all_tell, one_orbit, seen-by}
use Rattle.scr_picture.specs.Pieces.{place_with, sticker_of}

-- ---- after a turn

abbrev pub is_brought : ℕ → ℕ → List (List ℕ) → Orbit → ℕ → ℕ → Bool → Bool
is_brought n modulus places r i from rest =
    comes_from n modulus places r i from rest (place_with places i) (place_with places from)

-- the sticker that stands at a sticker, or the rest
pub sticker-turned : (n modulus : ℕ) (places : List (List ℕ)) (o r : Orbit) → 0 < modulus
    → All (λ d. d < modulus) o.digits → length r.pieces ≡ n → length r.digits ≡ n
    → (i from x y : ℕ) (rest : Bool) → (rest ≡ true → x ≡ y) → is_brought n modulus places r i from rest ≡ true
    → unwrap_or (sticker_of places (turned_orbit modulus o r) i) x ≡ unwrap_or (sticker_of places o from) y
unfolding sticker_of
sticker-turned n modulus places o r some below size added i from x y rest other h =
    shown-turned n modulus places o r some below size added i from x y rest (place_with places i) (place_with places from) other h

-- letters that stickers have by a rule go where the rule says
pub picked : (n : ℕ) (letter other : ℕ → ℕ) (from : List ℕ) (test : ℕ → Bool) → length from ≡ n
    → list_all (λ i. nat_lt (slice_index from i) n && test i) (range_with_len 0 n) ≡ true
    → ((i : ℕ) → i < n → test i ≡ true → letter (slice_index from i) ≡ other i)
    → pick (map letter (range_with_len 0 n)) from ≡ map other (range_with_len 0 n)
picked n letter other from test size h same =
    same_number_lists (pick (map letter (range_with_len 0 n)) from) (map other (range_with_len 0 n))
    (omega (arith, length-pick (map letter (range_with_len 0 n)) from, size, length-map-range_with_len other 0 n)) (λ i lt0.
    let lt : i < n = omega (arith, lt0, length-pick (map letter (range_with_len 0 n)) from, size) in
    let both = and_parts (nat_lt (slice_index from i) n) (test i) (passes (λ i. nat_lt (slice_index from i) n && test i) n h i lt) in
    pick-at (map letter (range_with_len 0 n)) from i (omega (arith, lt, size))
    ∙ get_or-map-range_with_len letter 0 n (slice_index from i) (slice_index from i) 0 (ltb-true (slice_index from i) n both.0) (omega arith)
    ∙ same i lt both.1
    ∙ sym (get_or-map-range_with_len other 0 n i i 0 lt (omega arith)))

-- ---- what they tell

-- where no piece of an orbit is, the rest tells
pub elsewhere : (places : List (List ℕ)) (o : Orbit) (i y : ℕ) → is_none (place_with places i) ≡ true
    → unwrap_or (sticker_of places o i) y ≡ y
unfolding sticker_of
elsewhere places o i y h = by (place_with places i) h
  where
    by : (a : Option ℕ) → is_none a ≡ true → unwrap_or (option_and_then (piece_letter places o i) a) y ≡ y
    by None h = refl
    by (Some k) h = absurd (false≢true h)

module _ (n m : ℕ) (places : List (List ℕ)) (solved : List ℕ) where
  -- a picture shows an orbit
  abbrev pub ShowsOrbit : List ℕ → Orbit → Type 0
  ShowsOrbit letters o = Shows n m places (slice_index solved) (λ k. slice_index letters) o

  abbrev pub is_shown : ℕ → (ℕ → Bool) → Bool
  is_shown count first = all_own n m places (slice_index solved) (λ k. place_with places) (λ k i. nat_lt i count && first i)

  -- as that of stickers does, where no piece of another orbit comes first
  pub shows : (count : ℕ) (first : ℕ → Bool) (sticker rest : ℕ → ℕ) (o : Orbit) → is_shown count first ≡ true
      → length o.pieces ≡ n → All (λ p. p < n) o.pieces → length o.digits ≡ n → All (λ d. d < m) o.digits
      → ((i : ℕ) → first i ≡ true → sticker i ≡ unwrap_or (sticker_of places o i) (rest i))
      → ShowsOrbit (map (λ i. slice_index solved (sticker i)) (range_with_len 0 count)) o
  unfolding sticker_of
  shows count first sticker rest o shown pieces_size pieces digits_size digits told = record {
    pieces_size = pieces_size;
    digits_size = digits_size;
    pieces = pieces;
    digits = digits;
    seen_at = seen-by n m places (slice_index solved) (λ k. place_with places) (λ k i. nat_lt i count && first i)
        (λ k. slice_index (map (λ i. slice_index solved (sticker i)) (range_with_len 0 count))) (λ k. rest) o shown digits_size digits
        (λ k i h.
        let both = and_parts (nat_lt i count) (first i) h in
        get_or-map-range_with_len (λ i. slice_index solved (sticker i)) 0 count i i 0 (ltb-true i count both.0) (omega arith)
        ∙ ap (slice_index solved) (told i both.1));
  }

  -- two orbits that one picture shows are one
  pub same_orbit : all_tell n m places (slice_index solved) ≡ true → (letters other : List ℕ) (o r : Orbit) → letters ≡ other
      → ShowsOrbit letters o → ShowsOrbit other r → o ≡ r
  same_orbit tell letters other o r e h f =
      one_orbit n m places (slice_index solved) tell (λ k. slice_index letters) o r h (subst (λ x. ShowsOrbit x r) (sym e) f)
