-- Laws of nets: letters by rules, and turns that take letters along.
use Rattle.std.proofs.Common.{◌≡◌, ℕ, ◌-◌, ◌<◌, ◌≤◌, List, [], map, length, get_or, sym, ap, ◌∙◌, subst, inl, inr, lit<, arith}
use Rattle.std.specs.Prelude.{slice_index}
use Rattle.std.specs.List.{range_with_len}
use Rattle.std.proofs.lemmas.List.{get_or_past}
use Rattle.std.proofs.lemmas.Bool.{cases_lt}
use Rattle.std.proofs.lemmas.List.FromFn.{get_or-map-range_with_len, length-map-range_with_len, fill_by_all}
use Rattle.scr_net.specs.declared.geometry.Sticker.{Sticker}
use Rattle.scr_net.specs.Geometry.{row_of, column_of, carried_sticker, brought_from, IsSticker, sticker_at}
use Rattle.scr_net.specs.Nets.{Letters, cell, letter_at, net_of, quarter_net, HasShape, IsNet}
use Rattle.scr_net.proofs.StickerLaws.{IsSticker-carried, brought_from-carried, row_of-le, column_of-le, sticker_at-of}

-- ---- a net by a rule

module _ (side : ℕ) (letter : Sticker → ℕ) where
  abbrev letter_of : ℕ → ℕ → ℕ → ℕ
  letter_of face row column = letter (sticker_at (side - 1) face row column)

  abbrev row_by : ℕ → ℕ → List ℕ
  row_by face row = map (letter_of face row) (range_with_len 0 side)

  abbrev face_by : ℕ → List (List ℕ)
  face_by face = map (row_by face) (range_with_len 0 side)

  pub cell-net_of : (face row column : ℕ) → face < 6 → row < side → column < side
      → cell (net_of side letter) face row column ≡ letter_of face row column
  unfolding net_of
  cell-net_of face row column lf lr lc =
      ap (λ rows. slice_index (get_or rows row []) column) (get_or-map-range_with_len face_by 0 6 face face [] lf (omega arith))
      ∙ ap (λ letters. slice_index letters column) (get_or-map-range_with_len (row_by face) 0 side row row [] lr (omega arith))
      ∙ get_or-map-range_with_len (letter_of face row) 0 side column column 0 lc (omega arith)

  -- what has these letters is that net
  pub net-same : (net : Letters) → HasShape side net
      → ((face row column : ℕ) → face < 6 → row < side → column < side → cell net face row column ≡ letter_of face row column)
      → net ≡ net_of side letter
  unfolding net_of
  net-same net h each =
      fill_by_all face_by net 6 [] h.faces (λ face lf.
      fill_by_all (row_by face) (get_or net face []) side [] (h.rows face lf) (λ row lr.
      fill_by_all (letter_of face row) (get_or (get_or net face []) row []) side 0 (h.columns face row lf lr) (λ column lc. each face row column lf lr lc)))

  pub HasShape-net_of : HasShape side (net_of side letter)
  unfolding net_of
  HasShape-net_of = record {
    faces = length-map-range_with_len face_by 0 6;
    rows = λ face lf.
        ap length (get_or-map-range_with_len face_by 0 6 face face [] lf (omega arith)) ∙ length-map-range_with_len (row_by face) 0 side;
    columns = λ face row lf lr.
        ap (λ rows. length (get_or rows row [])) (get_or-map-range_with_len face_by 0 6 face face [] lf (omega arith))
        ∙ ap length (get_or-map-range_with_len (row_by face) 0 side row row [] lr (omega arith))
        ∙ length-map-range_with_len (letter_of face row) 0 side;
  }

  -- the letter at a sticker
  pub letter_at-net_of : (s : Sticker) → 0 < side → IsSticker (side - 1) s
      → letter_at side (net_of side letter) s ≡ letter s
  letter_at-net_of s some h =
      let row = row_of-le (side - 1) s.face s.point h.face h.within in
      let column = column_of-le (side - 1) s.face s.point h.face h.within in
      cell-net_of s.face (row_of (side - 1) s.face s.point) (column_of (side - 1) s.face s.point) h.face (omega arith) (omega arith)
      ∙ ap letter (sticker_at-of (side - 1) s h)

-- one letter for each sticker is one net
pub net_of-same : (side : ℕ) (letter other : Sticker → ℕ)
    → ((face row column : ℕ) → face < 6 → row < side → column < side → letter (sticker_at (side - 1) face row column) ≡ other (sticker_at (side - 1) face row column))
    → net_of side letter ≡ net_of side other
net_of-same side letter other same =
    net-same side other (net_of side letter) (HasShape-net_of side letter) (λ face row column lf lr lc.
    cell-net_of side letter face row column lf lr lc ∙ same face row column lf lr lc)

-- letters of faces wherever there are letters, and 0 elsewhere
pub letters-below : (side : ℕ) (net : Letters) → HasShape side net
    → ((face row column : ℕ) → face < 6 → row < side → column < side → cell net face row column < 6)
    → (face row column : ℕ) → cell net face row column < 6
letters-below side net h each face row column = face_case
  where
    past : (xs : List ℕ) → length xs ≤ column → slice_index xs column < 6
    past xs le = subst (λ x. x < 6) (sym (get_or_past xs column 0 le)) (lit< tt)

    column_case : face < 6 → row < side → cell net face row column < 6
    column_case lf lr = elim (cases_lt column side) [
      | inl lc ↦ each face row column lf lr lc
      | inr le ↦ past (get_or (get_or net face []) row []) (omega (arith, h.columns face row lf lr))
    ]

    row_case : face < 6 → cell net face row column < 6
    row_case lf = elim (cases_lt row side) [
      | inl lr ↦ column_case lf lr
      | inr le ↦ subst (λ xs. slice_index xs column < 6) (sym (get_or_past (get_or net face []) row [] (omega (arith, h.rows face lf)))) (past [] (omega arith))
    ]

    face_case : cell net face row column < 6
    face_case = elim (cases_lt face 6) [
      | inl lf ↦ row_case lf
      | inr le ↦ subst (λ rows. slice_index (get_or rows row []) column < 6) (sym (get_or_past net face [] (omega (arith, h.faces)))) (past [] (omega arith))
    ]

pub IsNet-net_of : (side : ℕ) (letter : Sticker → ℕ) → ((s : Sticker) → s.face < 6 → letter s < 6)
    → IsNet side (net_of side letter)
IsNet-net_of side letter low =
    let shape = HasShape-net_of side letter in
    record {
      shape = shape;
      letters = letters-below side (net_of side letter) shape (λ face row column lf lr lc.
          subst (λ x. x < 6) (sym (cell-net_of side letter face row column lf lr lc)) (low (sticker_at (side - 1) face row column) lf));
    }

-- ---- a quarter turn

pub letter_at-quarter : (side face depth : ℕ) (net : Letters) (s : Sticker) → 0 < side → IsSticker (side - 1) s
    → letter_at side (quarter_net side face depth net) s ≡ letter_at side net (brought_from (side - 1) face depth s)
unfolding quarter_net
letter_at-quarter side face depth net s some h = letter_at-net_of side (λ s. letter_at side net (brought_from (side - 1) face depth s)) s some h

-- takes each letter along with its sticker
pub letter_at-carried : (side face depth : ℕ) (net : Letters) (s : Sticker) → 0 < side → face < 6
    → IsSticker (side - 1) s
    → letter_at side (quarter_net side face depth net) (carried_sticker (side - 1) face depth s) ≡ letter_at side net s
letter_at-carried side face depth net s some lf h =
    letter_at-quarter side face depth net (carried_sticker (side - 1) face depth s) some (IsSticker-carried (side - 1) face depth s lf h)
    ∙ ap (letter_at side net) (brought_from-carried (side - 1) face depth s lf h)
