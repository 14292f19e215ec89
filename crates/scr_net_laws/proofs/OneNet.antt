-- A 3x3x3, also one that is held any way, and a 2x2x2 are told by their nets.
use Rattle.std.proofs.Common.{◌≡◌, ℕ, ◌-◌, ◌<◌, Bool, true, List, [], Option, None, Some, get_or, length, refl, sym, ap, ◌∙◌, subst, lit<, arith}
use Rattle.std.specs.Prelude.{◌==◌, ◌&&◌, if◌then◌else◌, Contains, is_none, option_and_then, slice_index, unwrap_or}
use Rattle.std.specs.List.{list_any}
use Rattle.std.proofs.lemmas.Bool.{and_parts, false≢true}
use Rattle.std.proofs.lemmas.Grind.{same_number_lists}
use Rattle.scr_combinatorics.specs.Permutations.{place_of}
use Rattle.scr_combinatorics.proofs.PermutationLaws.{All-permutation}
use Rattle.scr_orbit.specs.Orbits.{Orbit, IsZeroSumOrbit}
use Rattle.scr_cube.specs.Cube333.{CubeState, IsCube}
use Rattle.scr_cube.specs.Cube222.{IsCorners222}
use Rattle.scr_cube.specs.Held.{HeldState, IsHeld, holds}
use Rattle.scr_cube.specs.Stickers.{corner_faces, edge_faces}
use Rattle.scr_cube.proofs.Laws333.{same_cube}
use Rattle.scr_cube.proofs.HeldLaws.{same_held}
use Rattle.scr_cube.proofs.Holds.{at_both, at_each, centre-lt, of_holds}
use Rattle.scr_space.specs.Spins.{value}
use Rattle.scr_net.specs.declared.geometry.Sticker.{Sticker}
use Rattle.scr_net.specs.Geometry.{IsSticker, outward, point, sticker_at}
use Rattle.scr_net.specs.Nets.{IsNet, Letters, cell, letter_at, net_of}
use Rattle.scr_net.specs.Pieces.{corner_faces_222, corners_letter, cube_letter, letter_of_pieces, net_of_corners, net_of_cube, net_of_held, piece_letter, place_at, seen_from}
use Rattle.scr_net.proofs.StickerLaws.{each_face, is_sticker, IsSticker-at, IsSticker-tested}
use Rattle.scr_net.proofs.NetLaws.{IsNet-net_of, cell-net_of, letter_at-net_of, net_of-same}
use Rattle.scr_net_laws.proofs.HeldNets.{at_sticker, listed, over_stickers}
use Rattle.scr_net.proofs.PieceLaws.{corners_letter-below, cube_letter-below}
use Rattle.scr_net_laws.proofs.OneOrbit.{Shows, all_own, one_orbit, seen-by}

-- ---- pieces of one kind

-- where no piece of a kind is, the rest tells
elsewhere : (last : ℕ) (places : List (List ℕ)) (o : Orbit) (s : Sticker) (y : ℕ) → is_none (place_at last places s.point) ≡ true
    → unwrap_or (letter_of_pieces last places o s) y ≡ y
unfolding letter_of_pieces
elsewhere last places o s y h = by (place_at last places s.point) h
  where
    by : (a : Option ℕ) → is_none a ≡ true → unwrap_or (option_and_then (piece_letter places o s.face) a) y ≡ y
    by None h = refl
    by (Some k) h = absurd (false≢true h)

module _ (side n m : ℕ) (places : List (List ℕ)) (some : 0 < side) where
  -- the point where the faces of a place meet, and the stickers there
  abbrev between : List ℕ → ℕ → ℕ → ℕ
  between faces low high =
      if list_any (λ f. f == high) faces then side - 1 else (if list_any (λ f. f == low) faces then 0 else 1)

  abbrev own_sticker : ℕ → ℕ → Sticker
  own_sticker k face =
      let faces = get_or places k [] in
      record { point = point (between faces 4 1) (between faces 3 0) (between faces 5 2); face = face }

  abbrev pub look : Letters → ℕ → ℕ → ℕ
  look net k face = letter_at side net (own_sticker k face)

  abbrev pub is_shown : (Sticker → Bool) → Bool
  is_shown first =
      all_own n m places (λ x. x) (λ k face. place_at (side - 1) places (own_sticker k face).point)
      (λ k face. is_sticker (side - 1) (own_sticker k face) && first (own_sticker k face))

  -- a net shows the pieces of an orbit, where no piece of another kind comes first
  pub shows : (first : Sticker → Bool) (letter rest : Sticker → ℕ) (o : Orbit) → is_shown first ≡ true → IsZeroSumOrbit n m o
      → ((s : Sticker) → first s ≡ true → letter s ≡ unwrap_or (letter_of_pieces (side - 1) places o s) (rest s))
      → Shows n m places (λ x. x) (look (net_of side letter)) o
  unfolding letter_of_pieces
  shows first letter rest o shown own told = record {
    pieces_size = own.pieces.size;
    digits_size = own.digits.size;
    pieces = All-permutation n o.pieces own.pieces;
    digits = own.digits.below;
    seen_at = seen-by n m places (λ x. x) (λ k face. place_at (side - 1) places (own_sticker k face).point)
        (λ k face. is_sticker (side - 1) (own_sticker k face) && first (own_sticker k face)) (look (net_of side letter))
        (λ k face. rest (own_sticker k face)) o shown own.digits.size own.digits.below
        (λ k face h.
        let both = and_parts (is_sticker (side - 1) (own_sticker k face)) (first (own_sticker k face)) h in
        letter_at-net_of side letter (own_sticker k face) some (IsSticker-tested (side - 1) (own_sticker k face) both.0)
        ∙ told (own_sticker k face) both.1);
  }

-- ---- the 3x3x3

any : Sticker → Bool
any s = true

no_corner : Sticker → Bool
no_corner s = is_none (place_at 2 corner_faces s.point)

shows-corners : (c : CubeState) → IsCube c → Shows 8 3 corner_faces (λ x. x) (look 3 8 3 corner_faces (lit< tt) (net_of_cube c)) c.corners
unfolding cube_letter any
shows-corners c own =
    shows 3 8 3 corner_faces (lit< tt) any (cube_letter c) (λ s. unwrap_or (letter_of_pieces 2 edge_faces c.edges s) s.face) c.corners refl own.corners
    (λ s h. refl)

shows-edges : (c : CubeState) → IsCube c → Shows 12 2 edge_faces (λ x. x) (look 3 12 2 edge_faces (lit< tt) (net_of_cube c)) c.edges
unfolding cube_letter no_corner
shows-edges c own =
    shows 3 12 2 edge_faces (lit< tt) no_corner (cube_letter c) (λ s. s.face) c.edges refl own.edges
    (λ s h. elsewhere 2 corner_faces c.corners s (unwrap_or (letter_of_pieces 2 edge_faces c.edges s) s.face) h)

pub one_cube : (c d : CubeState) → IsCube c → IsCube d → net_of_cube c ≡ net_of_cube d → c ≡ d
one_cube c d own other e =
    same_cube c d
    (one_orbit 8 3 corner_faces (λ x. x) refl (look 3 8 3 corner_faces (lit< tt) (net_of_cube c)) c.corners d.corners (shows-corners c own)
    (subst (λ net. Shows 8 3 corner_faces (λ x. x) (look 3 8 3 corner_faces (lit< tt) net) d.corners) (sym e) (shows-corners d other)))
    (one_orbit 12 2 edge_faces (λ x. x) refl (look 3 12 2 edge_faces (lit< tt) (net_of_cube c)) c.edges d.edges (shows-edges c own)
    (subst (λ net. Shows 12 2 edge_faces (λ x. x) (look 3 12 2 edge_faces (lit< tt) net) d.edges) (sym e) (shows-edges d other)))

-- ---- the 2x2x2

shows-orbit : (o : Orbit) → IsCorners222 o → Shows 7 3 corner_faces_222 (λ x. x) (look 2 7 3 corner_faces_222 (lit< tt) (net_of_corners o)) o
unfolding corners_letter any
shows-orbit o own = shows 2 7 3 corner_faces_222 (lit< tt) any (corners_letter o) (λ s. s.face) o refl own (λ s h. refl)

pub one_corners : (o r : Orbit) → IsCorners222 o → IsCorners222 r → net_of_corners o ≡ net_of_corners r → o ≡ r
one_corners o r own other e =
    one_orbit 7 3 corner_faces_222 (λ x. x) refl (look 2 7 3 corner_faces_222 (lit< tt) (net_of_corners o)) o r (shows-orbit o own)
    (subst (λ net. Shows 7 3 corner_faces_222 (λ x. x) (look 2 7 3 corner_faces_222 (lit< tt) net) r) (sym e) (shows-orbit r other))

-- ---- the 3x3x3 as it is held

-- where a sticker of the cube itself is, where the centres stand so
abbrev held_sticker : List ℕ → Sticker → Sticker
held_sticker centres s = record {
  point = point (value 2 (outward (slice_index centres 1)) s.point) (value 2 (outward (slice_index centres 0)) s.point)
      (value 2 (outward (slice_index centres 2)) s.point);
  face = place_of s.face centres;
}

seen-held : (s : Sticker) → IsSticker 2 s → (centres : List ℕ) → Contains holds centres
    → seen_from centres (held_sticker centres s) ≡ s
seen-held s h =
    of_holds (λ centres. seen_from centres (held_sticker centres s) ≡ s) (λ hold lt.
    at_sticker (λ s. seen_from (listed hold) (held_sticker (listed hold) s)) (λ s. s)
    (at_each (λ hold. over_stickers (λ s. seen_from (listed hold) (held_sticker (listed hold) s))) (λ hold. over_stickers (λ s. s)) 24 refl hold lt) s h)

IsSticker-held : (s : Sticker) → IsSticker 2 s → (centres : List ℕ) → Contains holds centres → IsSticker 2 (held_sticker centres s)
IsSticker-held s h =
    of_holds (λ centres. IsSticker 2 (held_sticker centres s)) (λ hold lt.
    IsSticker-tested 2 (held_sticker (listed hold) s)
    (at_sticker (λ s. is_sticker 2 (held_sticker (listed hold) s)) (λ s. true)
    (at_each (λ hold. over_stickers (λ s. is_sticker 2 (held_sticker (listed hold) s))) (λ hold. over_stickers (λ s. true)) 24 refl hold lt) s h))

-- the letter there is the cube's own
letter-held : (r : HeldState) (s : Sticker) → IsHeld r → IsSticker 2 s
    → letter_at 3 (net_of_held r) (held_sticker r.centres s) ≡ cube_letter r.cube s
letter-held r s own h =
    letter_at-net_of 3 (λ s. cube_letter r.cube (seen_from r.centres s)) (held_sticker r.centres s) (lit< tt) (IsSticker-held s h r.centres own.centres)
    ∙ ap (cube_letter r.cube) (seen-held s h r.centres own.centres)

-- in the middle of each face is the letter of its centre
middle : (c : CubeState) (face : ℕ) → face < 6 → cube_letter c (sticker_at 2 face 1 1) ≡ face
unfolding cube_letter letter_of_pieces
middle c = each_face (λ face. cube_letter c (sticker_at 2 face 1 1) ≡ face) refl refl refl refl refl refl

seen-middle : (face : ℕ) → face < 6 → (centres : List ℕ) → Contains holds centres
    → seen_from centres (sticker_at 2 face 1 1) ≡ sticker_at 2 (slice_index centres face) 1 1
seen-middle face low =
    of_holds (λ centres. seen_from centres (sticker_at 2 face 1 1) ≡ sticker_at 2 (slice_index centres face) 1 1)
    (λ hold lt. at_both (λ hold face. seen_from (listed hold) (sticker_at 2 face 1 1)) (λ hold face. sticker_at 2 (slice_index (listed hold) face) 1 1) 24 6 refl hold face lt low)

six_centres : (centres : List ℕ) → Contains holds centres → length centres ≡ 6
six_centres = of_holds (λ centres. length centres ≡ 6) (at_each (λ hold. length (listed hold)) (λ hold. 6) 24 refl)

cell-middle : (r : HeldState) (face : ℕ) → IsHeld r → face < 6 → cell (net_of_held r) face 1 1 ≡ slice_index r.centres face
cell-middle r face own low =
    cell-net_of 3 (λ s. cube_letter r.cube (seen_from r.centres s)) face 1 1 low (lit< tt) (lit< tt)
    ∙ ap (cube_letter r.cube) (seen-middle face low r.centres own.centres)
    ∙ middle r.cube (slice_index r.centres face) (centre-lt face low r.centres own.centres)

pub one_held : (r q : HeldState) → IsHeld r → IsHeld q → net_of_held r ≡ net_of_held q → r ≡ q
one_held r q own other e =
    let centres : r.centres ≡ q.centres =
    same_number_lists r.centres q.centres (six_centres r.centres own.centres ∙ sym (six_centres q.centres other.centres)) (λ k lt0.
    let lt : k < 6 = omega (arith, lt0, six_centres r.centres own.centres) in
    sym (cell-middle r k own lt) ∙ ap (λ net. cell net k 1 1) e ∙ cell-middle q k other lt) in
    let nets : net_of_cube r.cube ≡ net_of_cube q.cube =
    net_of-same 3 (cube_letter r.cube) (cube_letter q.cube) (λ face row column lf lr lc.
    let s : Sticker = sticker_at 2 face row column in
    let is : IsSticker 2 s = IsSticker-at 2 face row column lf (omega arith) (omega arith) in
    sym (letter-held r s own is) ∙ ap (λ net. letter_at 3 net (held_sticker r.centres s)) e
    ∙ ap (λ k. letter_at 3 (net_of_held q) (held_sticker k s)) centres ∙ letter-held q s other is) in
    same_held r q (one_cube r.cube q.cube own.cube other.cube nets) centres

-- ---- their letters are of faces

pub IsNet-cube : (c : CubeState) → IsNet 3 (net_of_cube c)
IsNet-cube c = IsNet-net_of 3 (cube_letter c) (cube_letter-below c)

pub IsNet-corners : (o : Orbit) → IsNet 2 (net_of_corners o)
IsNet-corners o = IsNet-net_of 2 (corners_letter o) (corners_letter-below o)

pub IsNet-held : (r : HeldState) → IsHeld r → IsNet 3 (net_of_held r)
IsNet-held r own =
    IsNet-net_of 3 (λ s. cube_letter r.cube (seen_from r.centres s))
    (λ s lt. cube_letter-below r.cube (seen_from r.centres s) (centre-lt s.face lt r.centres own.centres))
