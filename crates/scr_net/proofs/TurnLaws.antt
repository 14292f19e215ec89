-- Laws of turns of any cube: four quarters are none, and turns about one axis exchange.
use Rattle.std.proofs.Common.{◌≡◌, ℕ, zero, suc, ◌+◌, ◌-◌, ◌<◌, ◌≤◌, ◌⊎◌, Bool, true, false, cond, IsTrue, List, [], ◌∷◌, ◌++◌, Some, None, refl, sym, ap, ◌∙◌, subst, inl, inr, lit<, arith}
use Rattle.std.specs.Prelude.{◌==◌, All, nat_lt, slice_index}
use Rattle.std.proofs.lemmas.Bool.{eqb-false, le-leb}
use Rattle.std.specs.List.{AllPass, slice_index_or}
use Rattle.std.proofs.lemmas.Option.{same_Some}
use Rattle.std.proofs.lemmas.List.Elements.{All-head, All-tail}
use Rattle.scr_combinatorics.specs.Play.{play}
use Rattle.scr_combinatorics.specs.Back.{back}
use Rattle.scr_combinatorics.proofs.PlayLaws.{play-empty, play-parts, play-append, play-one}
use Rattle.scr_combinatorics.proofs.BackLaws.{back-first}
use Rattle.scr_combinatorics.proofs.PlayedWhere.{played-turns}
use Rattle.scr_notation.specs.declared.event.Event.{Event}
use Rattle.scr_notation.specs.declared.turn.Turn.{Turn}
use Rattle.scr_notation.specs.declared.turn.Turn.TheVariants.{Face, Axis, Tip, Layers, Twist, Pins, Over, Wide}
use Rattle.scr_notation.specs.Event.{kind_of}
use Rattle.scr_notation.specs.Turns.{permits}
use Rattle.scr_notation.specs.Turning.{opposite}
use Rattle.scr_space.specs.declared.spin.Spin.{Spin}
use Rattle.scr_space.specs.Spins.{rotated, is_moved, carried}
use Rattle.scr_space.specs.Turning.{times, HasOrder, Exchange}
use Rattle.scr_space.proofs.SpinLaws.{is_moved-carried, carried-back, carried-exchange, times-after}
use Rattle.scr_net.specs.declared.geometry.Sticker.{Sticker}
use Rattle.scr_net.specs.Geometry.{quarter, point_at, column_of, brought_from, carried_sticker, IsSticker, sticker_at}
use Rattle.scr_net.specs.Nets.{Letters, HasShape, cell, letter_at, net_after, net_of, quarter_net, solved_net, turned_net, turns_layers}
use Rattle.scr_net.proofs.StickerLaws.{each_face, same_sticker, opposite_face, turned_face, brought_from-carried, IsSticker-at, IsSticker-brought, IsSticker-carried, row_of-at, column_of-at}
use Rattle.scr_net.proofs.NetLaws.{cell-net_of, net-same, net_of-same, letter_at-net_of, HasShape-net_of}
use Rattle.scr_net.proofs.LayerTurns.{TellsTurns-net, face_turn}

-- ---- where stickers come from, as turns in space

-- a turn's layers, turned the other way
abbrev pub way_back : ℕ → ℕ → ℕ → Spin
way_back last face depth =
    let turn = quarter last face depth in
    let back = quarter last (opposite_face face) depth in
    record { x = back.x; y = back.y; z = back.z; counted = turn.counted; least = turn.least }

abbrev pub face_back : ℕ → ℕ → ℕ → ℕ → ℕ
face_back last face depth from = turned_face last (opposite_face face) depth from

way_back-order : (last face depth : ℕ) → face < 6 → HasOrder 4 (way_back last face depth)
way_back-order last face depth lt =
    each_face (λ face. HasOrder 4 (way_back last face depth))
    (record { x = refl; y = refl; z = refl; kept = record { moves = []; below = tt; is = refl } })
    (record { x = refl; y = refl; z = refl; kept = record { moves = []; below = tt; is = refl } })
    (record { x = refl; y = refl; z = refl; kept = record { moves = []; below = tt; is = refl } })
    (record { x = refl; y = refl; z = refl; kept = record { moves = []; below = tt; is = refl } })
    (record { x = refl; y = refl; z = refl; kept = record { moves = []; below = tt; is = refl } })
    (record { x = refl; y = refl; z = refl; kept = record { moves = []; below = tt; is = refl } })
    face lt

face_back-order : (last face depth from : ℕ) → face < 6 → from < 6 → times 4 (face_back last face depth) from ≡ from
face_back-order last face depth from lt =
    each_face (λ face. from < 6 → times 4 (face_back last face depth) from ≡ from)
    (each_face (λ from. times 4 (face_back last 0 depth) from ≡ from) refl refl refl refl refl refl from)
    (each_face (λ from. times 4 (face_back last 1 depth) from ≡ from) refl refl refl refl refl refl from)
    (each_face (λ from. times 4 (face_back last 2 depth) from ≡ from) refl refl refl refl refl refl from)
    (each_face (λ from. times 4 (face_back last 3 depth) from ≡ from) refl refl refl refl refl refl from)
    (each_face (λ from. times 4 (face_back last 4 depth) from ≡ from) refl refl refl refl refl refl from)
    (each_face (λ from. times 4 (face_back last 5 depth) from ≡ from) refl refl refl refl refl refl from)
    face lt

module _ (last face depth : ℕ) where
  abbrev spin : Spin
  spin = way_back last face depth

  abbrev pub is_turned : Sticker → Bool
  is_turned s = is_moved last spin s.point

  abbrev brought : Sticker → Sticker
  brought = brought_from last face depth

  abbrev turned : Sticker → Sticker
  turned s = record { point = rotated last spin s.point; face = face_back last face depth s.face }

  pub point-brought : (s : Sticker) → (brought s).point ≡ carried last spin s.point
  point-brought s = by (is_turned s)
    where
      by : (b : Bool) → (cond b (turned s) s).point ≡ cond b (rotated last spin s.point) s.point
      by true = refl
      by false = refl

  pub face-brought : (s : Sticker) → (brought s).face ≡ cond (is_turned s) (face_back last face depth s.face) s.face
  face-brought s = by (is_turned s)
    where
      by : (b : Bool) → (cond b (turned s) s).face ≡ cond b (face_back last face depth s.face) s.face
      by true = refl
      by false = refl

  module _ (lt : face < 6) where
    still : (s : Sticker) → IsSticker last s → is_turned (brought s) ≡ is_turned s
    still s h =
        ap (is_moved last spin) (point-brought s)
        ∙ is_moved-carried last spin spin s.point h.within (way_back-order last face depth lt).kept

    point-times : (n : ℕ) (s : Sticker) → (times n brought s).point ≡ times n (carried last spin) s.point
    point-times zero s = refl
    point-times (suc n) s = point-times n (brought s) ∙ ap (times n (carried last spin)) (point-brought s)

    face-times : (n : ℕ) (s : Sticker) → IsSticker last s
        → (times n brought s).face ≡ cond (is_turned s) (times n (face_back last face depth) s.face) s.face
    face-times zero s h = by (is_turned s)
      where
        by : (b : Bool) → s.face ≡ cond b s.face s.face
        by true = refl
        by false = refl
    face-times (suc n) s h =
        face-times n (brought s) (IsSticker-brought last face depth s h)
        ∙ ap (λ b. cond b (times n (face_back last face depth) (brought s).face) (brought s).face) (still s h)
        ∙ ap (λ f. cond (is_turned s) (times n (face_back last face depth) f) f) (face-brought s)
        ∙ by (is_turned s)
      where
        by : (b : Bool) → cond b (times n (face_back last face depth) (cond b (face_back last face depth s.face) s.face)) (cond b (face_back last face depth s.face) s.face)
            ≡ cond b (times n (face_back last face depth) (face_back last face depth s.face)) s.face
        by true = refl
        by false = refl

    -- after four quarters a sticker is back
    pub brought-order : (s : Sticker) → IsSticker last s → times 4 brought s ≡ s
    brought-order s h =
        same_sticker (times 4 brought s) s
        (point-times 4 s ∙ carried-back last 4 spin s.point (way_back-order last face depth lt) h.within)
        (face-times 4 s h ∙ ap (λ f. cond (is_turned s) f s.face) (face_back-order last face depth s.face lt h.face) ∙ by (is_turned s))
      where
        by : (b : Bool) → cond b s.face s.face ≡ s.face
        by true = refl
        by false = refl

pub IsSticker-times : (last face depth n : ℕ) (s : Sticker) → IsSticker last s
    → IsSticker last (times n (brought_from last face depth) s)
IsSticker-times last face depth zero s h = h
IsSticker-times last face depth (suc n) s h =
    IsSticker-times last face depth n (brought_from last face depth s) (IsSticker-brought last face depth s h)

-- ---- turns about one axis

-- at one face, or at opposite ones
abbrev pub about_one_axis : ℕ → ℕ → Type 0
about_one_axis face other = (other ≡ face) ⊎ (other ≡ opposite_face face)

each_axis : (P : ℕ → ℕ → Type 0) → P 0 0 → P 0 3 → P 1 1 → P 1 4 → P 2 2 → P 2 5 → P 3 3 → P 3 0 → P 4 4 → P 4 1 → P 5 5 → P 5 2
    → (face other : ℕ) → face < 6 → about_one_axis face other → P face other
each_axis P a b c d e f g h i j k l face other lt axis = elim axis as (λ _. P face other) [
  | inl e' ↦ subst (P face) (sym e') (each_face (λ x. P x x) a c e g i k face lt)
  | inr e' ↦ subst (P face) (sym e') (each_face (λ x. P x (opposite_face x)) b d f h j l face lt)
]

way_back-exchange : (last face other depth deep : ℕ) → face < 6 → about_one_axis face other
    → Exchange (way_back last face depth) (way_back last other deep)
way_back-exchange last face other depth deep lt axis =
    each_axis (λ face other. Exchange (way_back last face depth) (way_back last other deep))
    (record { x = refl; y = refl; z = refl; first = record { moves = []; below = tt; is = refl }; second = record { moves = []; below = tt; is = refl } })
    (record { x = refl; y = refl; z = refl; first = record { moves = []; below = tt; is = refl }; second = record { moves = []; below = tt; is = refl } })
    (record { x = refl; y = refl; z = refl; first = record { moves = []; below = tt; is = refl }; second = record { moves = []; below = tt; is = refl } })
    (record { x = refl; y = refl; z = refl; first = record { moves = []; below = tt; is = refl }; second = record { moves = []; below = tt; is = refl } })
    (record { x = refl; y = refl; z = refl; first = record { moves = []; below = tt; is = refl }; second = record { moves = []; below = tt; is = refl } })
    (record { x = refl; y = refl; z = refl; first = record { moves = []; below = tt; is = refl }; second = record { moves = []; below = tt; is = refl } })
    (record { x = refl; y = refl; z = refl; first = record { moves = []; below = tt; is = refl }; second = record { moves = []; below = tt; is = refl } })
    (record { x = refl; y = refl; z = refl; first = record { moves = []; below = tt; is = refl }; second = record { moves = []; below = tt; is = refl } })
    (record { x = refl; y = refl; z = refl; first = record { moves = []; below = tt; is = refl }; second = record { moves = []; below = tt; is = refl } })
    (record { x = refl; y = refl; z = refl; first = record { moves = []; below = tt; is = refl }; second = record { moves = []; below = tt; is = refl } })
    (record { x = refl; y = refl; z = refl; first = record { moves = []; below = tt; is = refl }; second = record { moves = []; below = tt; is = refl } })
    (record { x = refl; y = refl; z = refl; first = record { moves = []; below = tt; is = refl }; second = record { moves = []; below = tt; is = refl } })
    face other lt axis

faces-exchange : (last face other depth deep from : ℕ) → face < 6 → about_one_axis face other → from < 6
    → face_back last face depth (face_back last other deep from) ≡ face_back last other deep (face_back last face depth from)
faces-exchange last face other depth deep from lt axis below =
    each_axis
    (λ face other. (from : ℕ) → from < 6 → face_back last face depth (face_back last other deep from) ≡ face_back last other deep (face_back last face depth from))
    (each_face (λ from. face_back last 0 depth (face_back last 0 deep from) ≡ face_back last 0 deep (face_back last 0 depth from)) refl refl refl refl refl refl)
    (each_face (λ from. face_back last 0 depth (face_back last 3 deep from) ≡ face_back last 3 deep (face_back last 0 depth from)) refl refl refl refl refl refl)
    (each_face (λ from. face_back last 1 depth (face_back last 1 deep from) ≡ face_back last 1 deep (face_back last 1 depth from)) refl refl refl refl refl refl)
    (each_face (λ from. face_back last 1 depth (face_back last 4 deep from) ≡ face_back last 4 deep (face_back last 1 depth from)) refl refl refl refl refl refl)
    (each_face (λ from. face_back last 2 depth (face_back last 2 deep from) ≡ face_back last 2 deep (face_back last 2 depth from)) refl refl refl refl refl refl)
    (each_face (λ from. face_back last 2 depth (face_back last 5 deep from) ≡ face_back last 5 deep (face_back last 2 depth from)) refl refl refl refl refl refl)
    (each_face (λ from. face_back last 3 depth (face_back last 3 deep from) ≡ face_back last 3 deep (face_back last 3 depth from)) refl refl refl refl refl refl)
    (each_face (λ from. face_back last 3 depth (face_back last 0 deep from) ≡ face_back last 0 deep (face_back last 3 depth from)) refl refl refl refl refl refl)
    (each_face (λ from. face_back last 4 depth (face_back last 4 deep from) ≡ face_back last 4 deep (face_back last 4 depth from)) refl refl refl refl refl refl)
    (each_face (λ from. face_back last 4 depth (face_back last 1 deep from) ≡ face_back last 1 deep (face_back last 4 depth from)) refl refl refl refl refl refl)
    (each_face (λ from. face_back last 5 depth (face_back last 5 deep from) ≡ face_back last 5 deep (face_back last 5 depth from)) refl refl refl refl refl refl)
    (each_face (λ from. face_back last 5 depth (face_back last 2 deep from) ≡ face_back last 2 deep (face_back last 5 depth from)) refl refl refl refl refl refl)
    face other lt axis from below

module _ (last face other depth deep : ℕ) (lt : face < 6) (axis : about_one_axis face other) (s : Sticker) (h : IsSticker last s) where
  abbrev here : Spin
  here = way_back last face depth

  abbrev there : Spin
  there = way_back last other deep

  exchange : Exchange here there
  exchange = way_back-exchange last face other depth deep lt axis

  both : (a b : Bool)
      → cond a (face_back last face depth (cond b (face_back last other deep s.face) s.face)) (cond b (face_back last other deep s.face) s.face)
      ≡ cond b (face_back last other deep (cond a (face_back last face depth s.face) s.face)) (cond a (face_back last face depth s.face) s.face)
  both true true = faces-exchange last face other depth deep s.face lt axis h.face
  both true false = refl
  both false true = refl
  both false false = refl

  pub brought-exchange : brought_from last face depth (brought_from last other deep s) ≡ brought_from last other deep (brought_from last face depth s)
  brought-exchange =
      let first = brought_from last face depth s in
      let second = brought_from last other deep s in
      same_sticker _ _
      (point-brought last face depth second ∙ ap (carried last here) (point-brought last other deep s)
      ∙ carried-exchange last here there s.point exchange h.within
      ∙ sym (point-brought last other deep first ∙ ap (carried last there) (point-brought last face depth s)))
      (face-brought last face depth second
      ∙ ap (λ b. cond b (face_back last face depth second.face) second.face) (ap (is_moved last here) (point-brought last other deep s) ∙ is_moved-carried last here there s.point h.within exchange.second)
      ∙ ap (λ f. cond (is_turned last face depth s) (face_back last face depth f) f) (face-brought last other deep s)
      ∙ both (is_turned last face depth s) (is_turned last other deep s)
      ∙ sym (face-brought last other deep first
      ∙ ap (λ b. cond b (face_back last other deep first.face) first.face) (ap (is_moved last there) (point-brought last face depth s) ∙ is_moved-carried last there here s.point h.within exchange.first)
      ∙ ap (λ f. cond (is_turned last other deep s) (face_back last other deep f) f) (face-brought last face depth s)))

-- so often, and so often
exchange-once : (last face other depth deep n : ℕ) → face < 6 → about_one_axis face other → (s : Sticker) → IsSticker last s
    → times n (brought_from last face depth) (brought_from last other deep s) ≡ brought_from last other deep (times n (brought_from last face depth) s)
exchange-once last face other depth deep zero lt axis s h = refl
exchange-once last face other depth deep (suc n) lt axis s h =
    ap (times n (brought_from last face depth)) (brought-exchange last face other depth deep lt axis s h)
    ∙ exchange-once last face other depth deep n lt axis (brought_from last face depth s) (IsSticker-brought last face depth s h)

exchange-often : (last face other depth deep n m : ℕ) → face < 6 → about_one_axis face other → (s : Sticker) → IsSticker last s
    → times n (brought_from last face depth) (times m (brought_from last other deep) s) ≡ times m (brought_from last other deep) (times n (brought_from last face depth) s)
exchange-often last face other depth deep n zero lt axis s h = refl
exchange-often last face other depth deep n (suc m) lt axis s h =
    exchange-often last face other depth deep n m lt axis (brought_from last other deep s) (IsSticker-brought last other deep s h)
    ∙ ap (times m (brought_from last other deep)) (exchange-once last face other depth deep n lt axis s h)

-- ---- nets

module _ (side : ℕ) (some : 0 < side) where
  -- a net is by its letters
  pub net-letters : (net : Letters) → HasShape side net → net ≡ net_of side (letter_at side net)
  net-letters net shape =
      net-same side (letter_at side net) net shape (λ face row column lf lr lc.
      sym (ap (λ r. slice_index (slice_index_or (slice_index_or net face []) r []) (column_of (side - 1) face (point_at (side - 1) face row column))) (row_of-at (side - 1) face row column lf (omega arith))
      ∙ ap (λ c. slice_index (slice_index_or (slice_index_or net face []) row []) c) (column_of-at (side - 1) face row column lf (omega arith))))

  pub turned-net_of : (face depth amount : ℕ) (letter : Sticker → ℕ)
      → turned_net side face depth amount (net_of side letter) ≡ net_of side (λ s. letter (times amount (brought_from (side - 1) face depth) s))
  unfolding turned_net quarter_net
  turned-net_of face depth zero letter = refl
  turned-net_of face depth (suc amount) letter =
      ap (turned_net side face depth amount) (net_of-same side (λ s. letter_at side (net_of side letter) (brought_from (side - 1) face depth s)) (λ s. letter (brought_from (side - 1) face depth s)) (λ f row column lf lr lc.
      let s : Sticker = sticker_at (side - 1) f row column in
      letter_at-net_of side letter (brought_from (side - 1) face depth s) some (IsSticker-brought (side - 1) face depth s (IsSticker-at (side - 1) f row column lf (omega arith) (omega arith)))))
      ∙ turned-net_of face depth amount (λ s. letter (brought_from (side - 1) face depth s))
      ∙ net_of-same side _ _ (λ f row column lf lr lc. ap letter (sym (times-after amount (brought_from (side - 1) face depth) (sticker_at (side - 1) f row column))))

  same_at : (letter : Sticker → ℕ) (f g : Sticker → Sticker) → ((s : Sticker) → IsSticker (side - 1) s → f s ≡ g s)
      → net_of side (λ s. letter (f s)) ≡ net_of side (λ s. letter (g s))
  same_at letter f g same =
      net_of-same side (λ s. letter (f s)) (λ s. letter (g s)) (λ face row column lf lr lc.
      ap letter (same (sticker_at (side - 1) face row column) (IsSticker-at (side - 1) face row column lf (omega arith) (omega arith))))

  -- four quarters give the net back
  pub turned_net-order : (face depth : ℕ) (net : Letters) → face < 6 → HasShape side net
      → turned_net side face depth 4 net ≡ net
  turned_net-order face depth net lt shape =
      ap (turned_net side face depth 4) (net-letters net shape)
      ∙ turned-net_of face depth 4 (letter_at side net)
      ∙ same_at (letter_at side net) (times 4 (brought_from (side - 1) face depth)) (λ s. s) (brought-order (side - 1) face depth lt)
      ∙ sym (net-letters net shape)

  -- three quarters are one the other way, which brings stickers from where a quarter takes them
  pub turned_net-three : (face depth : ℕ) (net : Letters) → face < 6
      → turned_net side face depth 3 net ≡ net_of side (λ s. letter_at side net (carried_sticker (side - 1) face depth s))
  unfolding turned_net quarter_net
  turned_net-three face depth net lt =
      let brought = brought_from (side - 1) face depth in
      let carried = carried_sticker (side - 1) face depth in
      turned-net_of face depth 2 (λ s. letter_at side net (brought s))
      ∙ same_at (letter_at side net) (λ s. brought (times 2 brought s)) carried (λ s h.
      sym (times-after 2 brought s) ∙ ap (times 3 brought) (sym (brought_from-carried (side - 1) face depth s lt h))
      ∙ brought-order (side - 1) face depth lt (carried s) (IsSticker-carried (side - 1) face depth s lt h))

  -- Fewer don't so to the solved net: a sticker on the face beside, in the outermost layer, goes to other faces.
  record IsBeside (face depth : ℕ) : Type 0 where
    on : ℕ
    row : ℕ
    column : ℕ
    low : on < 6
    row_in : row < side
    column_in : column < side
    turned : is_turned (side - 1) face depth (sticker_at (side - 1) on row column) ≡ true
    once : (face_back (side - 1) face depth on == on) ≡ false
    twice : (times 2 (face_back (side - 1) face depth) on == on) ≡ false
    thrice : (times 3 (face_back (side - 1) face depth) on == on) ≡ false

  beside : (face depth : ℕ) → face < 6 → 0 < depth → IsBeside face depth
  beside face depth lt deep =
      each_face (λ face. IsBeside face depth)
      (record { on = 2; row = 0; column = 0; low = lit< tt; row_in = some; column_in = some; turned = le-leb _ _ (omega arith); once = refl; twice = refl; thrice = refl })
      (record { on = 2; row = 0; column = side - 1; low = lit< tt; row_in = some; column_in = omega arith; turned = le-leb _ _ (omega arith); once = refl; twice = refl; thrice = refl })
      (record { on = 0; row = side - 1; column = 0; low = lit< tt; row_in = omega arith; column_in = some; turned = le-leb _ _ (omega arith); once = refl; twice = refl; thrice = refl })
      (record { on = 2; row = side - 1; column = 0; low = lit< tt; row_in = omega arith; column_in = some; turned = le-leb _ _ (omega arith); once = refl; twice = refl; thrice = refl })
      (record { on = 2; row = 0; column = 0; low = lit< tt; row_in = some; column_in = some; turned = le-leb _ _ (omega arith); once = refl; twice = refl; thrice = refl })
      (record { on = 0; row = 0; column = 0; low = lit< tt; row_in = some; column_in = some; turned = le-leb _ _ (omega arith); once = refl; twice = refl; thrice = refl })
      face lt

  on-kept : (face depth amount : ℕ) → face < 6 → turned_net side face depth amount (solved_net side) ≡ solved_net side
      → (b : IsBeside face depth) → times amount (face_back (side - 1) face depth) b.on ≡ b.on
  on-kept face depth amount lt e b =
      let s : Sticker = sticker_at (side - 1) b.on b.row b.column in
      let is : IsSticker (side - 1) s = IsSticker-at (side - 1) b.on b.row b.column b.low (omega (arith, b.row_in)) (omega (arith, b.column_in)) in
      sym (ap (λ t. cond t (times amount (face_back (side - 1) face depth) b.on) b.on) b.turned)
      ∙ sym (face-times (side - 1) face depth lt amount s is)
      ∙ sym (cell-net_of side (λ s. (times amount (brought_from (side - 1) face depth) s).face) b.on b.row b.column b.low b.row_in b.column_in)
      ∙ ap (λ net. cell net b.on b.row b.column) (sym (turned-net_of face depth amount (λ s. s.face)) ∙ e)
      ∙ cell-net_of side (λ s. s.face) b.on b.row b.column b.low b.row_in b.column_in

  pub turned_net-fewer : (face depth amount : ℕ) → face < 6 → 0 < depth → 0 < amount → amount < 4
      → turned_net side face depth amount (solved_net side) ≡ solved_net side → ⊥
  turned_net-fewer face depth amount lt deep more few e = by amount more few (on-kept face depth amount lt e b)
    where
      b : IsBeside face depth
      b = beside face depth lt deep

      by : (n : ℕ) → 0 < n → n < 4 → times n (face_back (side - 1) face depth) b.on ≡ b.on → ⊥
      by zero more few same = absurd (omega arith)
      by (suc zero) more few same = eqb-false _ b.on b.once same
      by (suc (suc zero)) more few same = eqb-false _ b.on b.twice same
      by (suc (suc (suc zero))) more few same = eqb-false _ b.on b.thrice same
      by (suc (suc (suc (suc n)))) more few same = absurd (omega arith)

  -- turns about one axis exchange
  pub turned_net-exchange : (face other depth deep amount more : ℕ) (net : Letters) → face < 6 → about_one_axis face other
      → HasShape side net
      → turned_net side face depth amount (turned_net side other deep more net) ≡ turned_net side other deep more (turned_net side face depth amount net)
  turned_net-exchange face other depth deep amount more net lt axis shape =
      let letter = letter_at side net in
      let here = times amount (brought_from (side - 1) face depth) in
      let there = times more (brought_from (side - 1) other deep) in
      ap (λ n. turned_net side face depth amount (turned_net side other deep more n)) (net-letters net shape)
      ∙ ap (turned_net side face depth amount) (turned-net_of other deep more letter)
      ∙ turned-net_of face depth amount (λ s. letter (there s))
      ∙ same_at letter (λ s. there (here s)) (λ s. here (there s)) (λ s h. sym (exchange-often (side - 1) face other depth deep amount more lt axis s h))
      ∙ sym (ap (λ n. turned_net side other deep more (turned_net side face depth amount n)) (net-letters net shape)
      ∙ ap (turned_net side other deep more) (turned-net_of face depth amount letter)
      ∙ turned-net_of other deep more (λ s. letter (here s)))

  -- ---- words taken back

  HasShape-turned : (face depth amount : ℕ) (net : Letters) → HasShape side net
      → HasShape side (turned_net side face depth amount net)
  unfolding turned_net quarter_net
  HasShape-turned face depth zero net shape = shape
  HasShape-turned face depth (suc amount) net shape =
      HasShape-turned face depth amount (quarter_net side face depth net)
      (HasShape-net_of side (λ s. letter_at side net (brought_from (side - 1) face depth s)))

  turned-both : (face depth amount more : ℕ) (net : Letters)
      → turned_net side face depth more (turned_net side face depth amount net) ≡ turned_net side face depth (amount + more) net
  unfolding turned_net
  turned-both face depth zero more net =
      let none : more ≡ zero + more = omega arith in ap (λ n. turned_net side face depth n net) none
  turned-both face depth (suc amount) more net =
      let joined : suc (amount + more) ≡ suc amount + more = omega arith in
      turned-both face depth amount more (quarter_net side face depth net) ∙ ap (λ n. turned_net side face depth n net) joined

  -- one letter
  abbrev IsUndone : Letters → Letters → Turn → Type 0
  IsUndone s r t = HasShape side r × (net_after side r (opposite t) ≡ Some s)

  undone-face : (face depth amount : ℕ) (s r : Letters) → face < 6 → amount ≤ 3 → HasShape side s
      → net_after side s (Face face depth amount) ≡ Some r → IsUndone s r (Face face depth amount)
  undone-face face depth amount s r lt few shape = by (nat_lt depth side)
    where
      by : (b : Bool) → cond b (Some (turned_net side face depth amount s)) None ≡ Some r
          → HasShape side r × (cond b (Some (turned_net side face depth (4 - amount) r)) None ≡ Some s)
      by false e = absurd (cc)
      by true e =
          let made : turned_net side face depth amount s ≡ r = same_Some (turned_net side face depth amount s) r e in
          let whole : amount + (4 - amount) ≡ 4 = omega arith in (
            subst (HasShape side) made (HasShape-turned face depth amount s shape),
            ap (λ n. Some (turned_net side face depth (4 - amount) n)) (sym made)
                ∙ ap Some (turned-both face depth amount (4 - amount) s ∙ ap (λ n. turned_net side face depth n s) whole ∙ turned_net-order face depth s lt shape),
          )

  undone : (event : Event) (t : Turn) (s r : Letters) → IsTrue (permits event t) → HasShape side s
      → net_after side s t ≡ Some r → IsUndone s r t
  undone event (Face face depth amount) s r permitted shape e =
      let parts = (face_turn (kind_of event) face depth amount permitted).2 in
      undone-face face depth amount s r parts.face_below (omega (arith, parts.no_whole)) shape e
  undone event (Axis axis amount) s r permitted shape e = absurd (cc)
  undone event (Tip tip amount) s r permitted shape e = absurd (cc)
  undone event (Layers top bottom) s r permitted shape e = absurd (cc)
  undone event Twist s r permitted shape e = absurd (cc)
  undone event (Pins pins amount) s r permitted shape e = absurd (cc)
  undone event Over s r permitted shape e = absurd (cc)
  undone event (Wide letter plus) s r permitted shape e = absurd (cc)

  abbrev IsWord : Event → List Turn → Type 0
  IsWord event w = All (λ t. IsTrue (permits event t)) w

  word-undone : (event : Event) (w : List Turn) (s r : Letters) → IsWord event w → HasShape side s
      → play (net_after side) s w ≡ Some r → play (net_after side) r (back opposite w) ≡ Some s
  word-undone event [] s r permitted shape e =
      let d = play-empty (net_after side) s in let f = play-empty (net_after side) r in let same : s ≡ r = cc in f ∙ ap Some (sym same)
  word-undone event (t ∷ w) s r permitted shape e =
      let parts = play-parts (net_after side) s r t w e in
      let first = undone event t s parts.0 (All-head (λ u. IsTrue (permits event u)) t w permitted) shape parts.1 in
      ap (play (net_after side) r) (back-first opposite t w)
      ∙ play-append (net_after side) r parts.0 (back opposite w) (opposite t ∷ [])
      (word-undone event w parts.0 r (All-tail (λ u. IsTrue (permits event u)) t w permitted) first.0 parts.2)
      ∙ play-one (net_after side) parts.0 (opposite t) ∙ first.1

  pub taken-back : (event : Event) (w : List Turn) (net : Letters) → IsWord event w → AllPass (turns_layers side) w
      → HasShape side net → play (net_after side) net (w ++ back opposite w) ≡ Some net
  taken-back event w net permitted layers shape =
      let played = played-turns (TellsTurns-net side) net w tt layers in
      play-append (net_after side) net played.0 w (back opposite w) played.1
      ∙ word-undone event w net played.0 permitted shape played.1
