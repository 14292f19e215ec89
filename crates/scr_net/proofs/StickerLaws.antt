-- Laws of stickers: each is at a row and a column of its face, and quarter turns take stickers to stickers and back.
use Rattle.std.proofs.Common.{◌≡◌, ℕ, zero, suc, ◌+◌, ◌%◌, ◌<◌, ◌≤◌, Bool, true, false, cond, leb, List, [], ◌∷◌, get_or, refl, ap, ◌∙◌, lit<, arith, eqb-true, leb-true, ltb-true}
use Rattle.std.specs.Prelude.{◌==◌, ◌&&◌, nat_le, nat_lt}
use Rattle.std.proofs.lemmas.Bool.{and_parts}
use Rattle.scr_space.specs.declared.spin.Point.{Point}
use Rattle.scr_space.specs.Spins.{IsWithin, value, rotated, is_moved}
use Rattle.scr_space.specs.Turning.{KeepsCount}
use Rattle.scr_space.proofs.SpinLaws.{same_point, IsWithin-rotated, sum-rotated}
use Rattle.scr_net.specs.declared.geometry.Sticker.{Sticker}
use Rattle.scr_net.specs.Geometry.{point_at, row_of, column_of, outward, quarter, face_at, turned_sticker, carried_sticker, brought_from, IsSticker, sticker_at}

-- what holds of each face
pub each_face : (P : ℕ → Type 0) → P 0 → P 1 → P 2 → P 3 → P 4 → P 5 → (face : ℕ) → face < 6 → P face
each_face P u r f d l b zero lt = u
each_face P u r f d l b (suc zero) lt = r
each_face P u r f d l b (suc (suc zero)) lt = f
each_face P u r f d l b (suc (suc (suc zero))) lt = d
each_face P u r f d l b (suc (suc (suc (suc zero)))) lt = l
each_face P u r f d l b (suc (suc (suc (suc (suc zero))))) lt = b
each_face P u r f d l b (suc (suc (suc (suc (suc (suc n)))))) lt = absurd (omega arith)

pub same_sticker : (s t : Sticker) → s.point ≡ t.point → s.face ≡ t.face → s ≡ t
same_sticker s t a b =
    let first : s ≡ record { point = t.point; face = s.face } = ap (λ p. record { point = p; face = s.face }) a in
    first ∙ ap (λ f. record { point = t.point; face = f }) b

-- ---- stickers by rows and columns

pub IsSticker-at : (last face row column : ℕ) → face < 6 → row ≤ last → column ≤ last
    → IsSticker last (sticker_at last face row column)
IsSticker-at last face row column lt lr lc =
    each_face (λ face. IsSticker last (sticker_at last face row column))
    (record { within = record { x = omega arith; y = omega arith; z = omega arith }; face = lit< tt; on = omega arith })
    (record { within = record { x = omega arith; y = omega arith; z = omega arith }; face = lit< tt; on = omega arith })
    (record { within = record { x = omega arith; y = omega arith; z = omega arith }; face = lit< tt; on = omega arith })
    (record { within = record { x = omega arith; y = omega arith; z = omega arith }; face = lit< tt; on = omega arith })
    (record { within = record { x = omega arith; y = omega arith; z = omega arith }; face = lit< tt; on = omega arith })
    (record { within = record { x = omega arith; y = omega arith; z = omega arith }; face = lit< tt; on = omega arith })
    face lt

pub row_of-at : (last face row column : ℕ) → face < 6 → row ≤ last
    → row_of last face (point_at last face row column) ≡ row
row_of-at last face row column lt lr =
    each_face (λ face. row_of last face (point_at last face row column) ≡ row)
    (omega arith) (omega arith) (omega arith) (omega arith) (omega arith) (omega arith) face lt

pub column_of-at : (last face row column : ℕ) → face < 6 → column ≤ last
    → column_of last face (point_at last face row column) ≡ column
column_of-at last face row column lt lc =
    each_face (λ face. column_of last face (point_at last face row column) ≡ column)
    (omega arith) (omega arith) (omega arith) (omega arith) (omega arith) (omega arith) face lt

pub row_of-le : (last face : ℕ) (p : Point) → face < 6 → IsWithin last p → row_of last face p ≤ last
row_of-le last face p lt w =
    each_face (λ face. row_of last face p ≤ last)
    (omega arith) (omega arith) (omega arith) (omega arith) (omega arith) (omega arith) face lt

pub column_of-le : (last face : ℕ) (p : Point) → face < 6 → IsWithin last p → column_of last face p ≤ last
column_of-le last face p lt w =
    each_face (λ face. column_of last face p ≤ last)
    (omega arith) (omega arith) (omega arith) (omega arith) (omega arith) (omega arith) face lt

point_at-of : (last face : ℕ) (p : Point) → face < 6 → IsWithin last p → value last (outward face) p ≡ last
    → point_at last face (row_of last face p) (column_of last face p) ≡ p
point_at-of last face p lt w =
    each_face (λ face. value last (outward face) p ≡ last → point_at last face (row_of last face p) (column_of last face p) ≡ p)
    (λ on. same_point _ p (omega arith) (omega arith) (omega arith))
    (λ on. same_point _ p (omega arith) (omega arith) (omega arith))
    (λ on. same_point _ p (omega arith) (omega arith) (omega arith))
    (λ on. same_point _ p (omega arith) (omega arith) (omega arith))
    (λ on. same_point _ p (omega arith) (omega arith) (omega arith))
    (λ on. same_point _ p (omega arith) (omega arith) (omega arith))
    face lt

pub sticker_at-of : (last : ℕ) (s : Sticker) → IsSticker last s
    → sticker_at last s.face (row_of last s.face s.point) (column_of last s.face s.point) ≡ s
sticker_at-of last s h = same_sticker _ s (point_at-of last s.face s.point h.face h.within h.on) refl

-- by a test
abbrev pub is_sticker : ℕ → Sticker → Bool
is_sticker last s =
    (nat_le s.point.x last && (nat_le s.point.y last && nat_le s.point.z last))
    && (nat_lt s.face 6 && (value last (outward s.face) s.point == last))

pub IsSticker-tested : (last : ℕ) (s : Sticker) → is_sticker last s ≡ true → IsSticker last s
IsSticker-tested last s e =
    let parts = and_parts (nat_le s.point.x last && (nat_le s.point.y last && nat_le s.point.z last)) (nat_lt s.face 6 && (value last (outward s.face) s.point == last)) e in
    let x = and_parts (nat_le s.point.x last) (nat_le s.point.y last && nat_le s.point.z last) parts.0 in
    let yz = and_parts (nat_le s.point.y last) (nat_le s.point.z last) x.1 in
    let on = and_parts (nat_lt s.face 6) (value last (outward s.face) s.point == last) parts.1 in
    record {
      within = record { x = leb-true s.point.x last x.0; y = leb-true s.point.y last yz.0; z = leb-true s.point.z last yz.1 };
      face = ltb-true s.face 6 on.0;
      on = eqb-true (value last (outward s.face) s.point) last on.1;
    }

-- ---- turns

abbrev pub opposite_face : ℕ → ℕ
opposite_face face = (face + 3) % 6

pub opposite_face-below : (face : ℕ) → opposite_face face < 6
opposite_face-below face = omega arith

-- a quarter turn leaves its own layers
pub KeepsCount-quarter : (last face depth : ℕ) → face < 6
    → KeepsCount (quarter last face depth) (quarter last face depth).counted
KeepsCount-quarter last face depth lt =
    each_face (λ face. KeepsCount (quarter last face depth) (quarter last face depth).counted)
    (record { moves = []; below = tt; is = refl })
    (record { moves = []; below = tt; is = refl })
    (record { moves = []; below = tt; is = refl })
    (record { moves = []; below = tt; is = refl })
    (record { moves = []; below = tt; is = refl })
    (record { moves = []; below = tt; is = refl })
    face lt

-- where it takes what is on a face
abbrev pub turned_face : ℕ → ℕ → ℕ → ℕ → ℕ
turned_face last face depth from = face_at (rotated 2 (quarter last face depth) (point_at 2 from 1 1))

-- the same, row by row
abbrev pub turned_faces : List (List ℕ)
turned_faces =
    (0 ∷ 2 ∷ 4 ∷ 3 ∷ 5 ∷ 1 ∷ [])
    ∷ (5 ∷ 1 ∷ 0 ∷ 2 ∷ 4 ∷ 3 ∷ [])
    ∷ (1 ∷ 3 ∷ 2 ∷ 4 ∷ 0 ∷ 5 ∷ [])
    ∷ (0 ∷ 5 ∷ 1 ∷ 3 ∷ 2 ∷ 4 ∷ [])
    ∷ (2 ∷ 1 ∷ 3 ∷ 5 ∷ 4 ∷ 0 ∷ [])
    ∷ (4 ∷ 0 ∷ 2 ∷ 1 ∷ 3 ∷ 5 ∷ []) ∷ []

pub turned_faces-at : (last depth face from : ℕ) → face < 6 → from < 6
    → get_or (get_or turned_faces face []) from 0 ≡ turned_face last face depth from
turned_faces-at last depth face from lt lf =
    each_face (λ face. get_or (get_or turned_faces face []) from 0 ≡ turned_face last face depth from)
    (each_face (λ from. get_or (get_or turned_faces 0 []) from 0 ≡ turned_face last 0 depth from) refl refl refl refl refl refl from lf)
    (each_face (λ from. get_or (get_or turned_faces 1 []) from 0 ≡ turned_face last 1 depth from) refl refl refl refl refl refl from lf)
    (each_face (λ from. get_or (get_or turned_faces 2 []) from 0 ≡ turned_face last 2 depth from) refl refl refl refl refl refl from lf)
    (each_face (λ from. get_or (get_or turned_faces 3 []) from 0 ≡ turned_face last 3 depth from) refl refl refl refl refl refl from lf)
    (each_face (λ from. get_or (get_or turned_faces 4 []) from 0 ≡ turned_face last 4 depth from) refl refl refl refl refl refl from lf)
    (each_face (λ from. get_or (get_or turned_faces 5 []) from 0 ≡ turned_face last 5 depth from) refl refl refl refl refl refl from lf)
    face lt

module _ (last depth : ℕ) where
  pub turned_face-below : (face from : ℕ) → face < 6 → from < 6 → turned_face last face depth from < 6
  turned_face-below face from lt =
      each_face (λ face. from < 6 → turned_face last face depth from < 6)
      (each_face (λ from. turned_face last 0 depth from < 6) (lit< tt) (lit< tt) (lit< tt) (lit< tt) (lit< tt) (lit< tt) from)
      (each_face (λ from. turned_face last 1 depth from < 6) (lit< tt) (lit< tt) (lit< tt) (lit< tt) (lit< tt) (lit< tt) from)
      (each_face (λ from. turned_face last 2 depth from < 6) (lit< tt) (lit< tt) (lit< tt) (lit< tt) (lit< tt) (lit< tt) from)
      (each_face (λ from. turned_face last 3 depth from < 6) (lit< tt) (lit< tt) (lit< tt) (lit< tt) (lit< tt) (lit< tt) from)
      (each_face (λ from. turned_face last 4 depth from < 6) (lit< tt) (lit< tt) (lit< tt) (lit< tt) (lit< tt) (lit< tt) from)
      (each_face (λ from. turned_face last 5 depth from < 6) (lit< tt) (lit< tt) (lit< tt) (lit< tt) (lit< tt) (lit< tt) from)
      face lt

  -- the turn of the opposite face takes back
  face-back : (face from : ℕ) → face < 6 → from < 6
      → turned_face last (opposite_face face) depth (turned_face last face depth from) ≡ from
  face-back face from lt =
      each_face (λ face. from < 6 → turned_face last (opposite_face face) depth (turned_face last face depth from) ≡ from)
      (each_face (λ from. turned_face last 3 depth (turned_face last 0 depth from) ≡ from) refl refl refl refl refl refl from)
      (each_face (λ from. turned_face last 4 depth (turned_face last 1 depth from) ≡ from) refl refl refl refl refl refl from)
      (each_face (λ from. turned_face last 5 depth (turned_face last 2 depth from) ≡ from) refl refl refl refl refl refl from)
      (each_face (λ from. turned_face last 0 depth (turned_face last 3 depth from) ≡ from) refl refl refl refl refl refl from)
      (each_face (λ from. turned_face last 1 depth (turned_face last 4 depth from) ≡ from) refl refl refl refl refl refl from)
      (each_face (λ from. turned_face last 2 depth (turned_face last 5 depth from) ≡ from) refl refl refl refl refl refl from)
      face lt

module _ (last depth : ℕ) (p : Point) (w : IsWithin last p) where
  -- what is on a face is on the face to which that goes
  abbrev IsKept : ℕ → ℕ → Type 0
  IsKept face from =
      value last (outward (turned_face last face depth from)) (rotated last (quarter last face depth) p) ≡ value last (outward from) p

  outward-turned : (face from : ℕ) → face < 6 → from < 6 → IsKept face from
  outward-turned face from lt =
      each_face (λ face. from < 6 → IsKept face from)
      (each_face (IsKept 0) (omega arith) (omega arith) (omega arith) (omega arith) (omega arith) (omega arith) from)
      (each_face (IsKept 1) (omega arith) (omega arith) (omega arith) (omega arith) (omega arith) (omega arith) from)
      (each_face (IsKept 2) (omega arith) (omega arith) (omega arith) (omega arith) (omega arith) (omega arith) from)
      (each_face (IsKept 3) (omega arith) (omega arith) (omega arith) (omega arith) (omega arith) (omega arith) from)
      (each_face (IsKept 4) (omega arith) (omega arith) (omega arith) (omega arith) (omega arith) (omega arith) from)
      (each_face (IsKept 5) (omega arith) (omega arith) (omega arith) (omega arith) (omega arith) (omega arith) from)
      face lt

  is_moved-turned : (face : ℕ) → face < 6
      → is_moved last (quarter last face depth) (rotated last (quarter last face depth) p) ≡ is_moved last (quarter last face depth) p
  is_moved-turned face lt =
      let turn = quarter last face depth in
      ap (λ n. leb turn.least n) (sum-rotated last turn turn.counted p w (KeepsCount-quarter last face depth lt))

  point-back : (face : ℕ) → face < 6
      → rotated last (quarter last (opposite_face face) depth) (rotated last (quarter last face depth) p) ≡ p
  point-back face lt =
      each_face (λ face. rotated last (quarter last (opposite_face face) depth) (rotated last (quarter last face depth) p) ≡ p)
      (same_point _ p (omega arith) (omega arith) (omega arith))
      (same_point _ p (omega arith) (omega arith) (omega arith))
      (same_point _ p (omega arith) (omega arith) (omega arith))
      (same_point _ p (omega arith) (omega arith) (omega arith))
      (same_point _ p (omega arith) (omega arith) (omega arith))
      (same_point _ p (omega arith) (omega arith) (omega arith))
      face lt

IsSticker-turned : (last face depth : ℕ) (s : Sticker) → face < 6 → IsSticker last s
    → IsSticker last (turned_sticker last (quarter last face depth) s)
IsSticker-turned last face depth s lt h = record {
  within = IsWithin-rotated last (quarter last face depth) s.point h.within;
  face = turned_face-below last depth face s.face lt h.face;
  on = outward-turned last depth s.point h.within face s.face lt h.face ∙ h.on;
}

-- stickers go to stickers, and come from stickers
by_layer : (P : Sticker → Type 0) (b : Bool) (s t : Sticker) → P s → P t → P (cond b s t)
by_layer P true s t a c = a
by_layer P false s t a c = c

pub IsSticker-carried : (last face depth : ℕ) (s : Sticker) → face < 6 → IsSticker last s
    → IsSticker last (carried_sticker last face depth s)
IsSticker-carried last face depth s lt h =
    by_layer (IsSticker last) (is_moved last (quarter last face depth) s.point) _ s (IsSticker-turned last face depth s lt h) h

pub IsSticker-brought : (last face depth : ℕ) (s : Sticker) → IsSticker last s
    → IsSticker last (brought_from last face depth s)
IsSticker-brought last face depth s h =
    by_layer (IsSticker last) (is_moved last (quarter last face depth) s.point) _ s
    (IsSticker-turned last (opposite_face face) depth s (opposite_face-below face) h) h

-- a sticker comes from where it was
pub brought_from-carried : (last face depth : ℕ) (s : Sticker) → face < 6 → IsSticker last s
    → brought_from last face depth (carried_sticker last face depth s) ≡ s
brought_from-carried last face depth s lt h = in_layer (is_moved last (quarter last face depth) s.point) refl
  where
    in_layer : (b : Bool) → is_moved last (quarter last face depth) s.point ≡ b
        → brought_from last face depth (carried_sticker last face depth s) ≡ s
    in_layer true e =
        let turn = quarter last face depth in
        let back = quarter last (opposite_face face) depth in
        ap (λ b. brought_from last face depth (cond b (turned_sticker last turn s) s)) e
        ∙ ap (λ b. cond b (turned_sticker last back (turned_sticker last turn s)) (turned_sticker last turn s))
        (is_moved-turned last depth s.point h.within face lt ∙ e)
        ∙ same_sticker _ s (point-back last depth s.point h.within face lt) (face-back last depth face s.face lt h.face)
    in_layer false e =
        let turn = quarter last face depth in
        let back = quarter last (opposite_face face) depth in
        ap (λ b. brought_from last face depth (cond b (turned_sticker last turn s) s)) e
        ∙ ap (λ b. cond b (turned_sticker last back s) s) e
