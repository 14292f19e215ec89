-- The tests of an event's turns tell which letters are powers of its puzzle's generators.
use Rattle.std.proofs.Common.{◌≡◌, ℕ, ◌+◌, ◌*◌, ◌<◌, ◌≤◌, inl, inr, Bool, true, false, IsTrue, cond, Some, refl, ap, ◌∙◌, subst, arith, leb, ltb, le-leb, leb-true, lt-ltb, ltb-true, le-ltb}
use Rattle.std.specs.Prelude.{◌&&◌}
use Rattle.std.proofs.lemmas.Bool.{false≢true, cases_lt, cond-true, cond-false}
use Rattle.scr_combinatorics.specs.PowerLetters.{Power}
use Rattle.scr_combinatorics.proofs.PowerLetterLaws.{TellsPowers}
use Rattle.scr_notation.specs.declared.turn.Turn.{Turn}
use Rattle.scr_notation.specs.declared.turn.Turn.TheVariants.{Face, Axis, Tip}
use Rattle.scr_notation.specs.Amounts.{is_amount}
use Rattle.scr_notation.specs.Axes.{is_axis_turn}
use Rattle.scr_notation.specs.Faces.{is_face_turn, depths_of}
use Rattle.scr_notation.specs.AxisLetters.{thirds_of}
use Rattle.scr_notation.specs.FaceLetters.{quarters_of}
use Rattle.scr_notation.proofs.Below.{and_first, and_second, and_true}
use Rattle.scr_notation.proofs.AxisLaws.{IsThirdsOf-read, thirds_of-axis, thirds_of-tip}
use Rattle.scr_notation.proofs.FaceLaws.{IsQuartersOf-read, quarters_of-face}

-- ---- turns of faces: of three faces of a small cube, of six where the far ones turn too

outer_face : (far face depth : ℕ) → far ≤ 1 → 1 ≤ depth → depth ≤ depths_of 1 far face
    → (depth ≡ 1) × (face < 3 + 3 * far)
outer_face far face depth small some few =
    elim (cases_lt face 3) [
      | inl near ↦ (let most : depths_of 1 far face ≡ 1 = cond-true (ltb face 3) _ _ (lt-ltb face 3 near) in (omega arith, omega arith))
      | inr le ↦
          let others : depths_of 1 far face ≡ cond (ltb face 6) far 0 = cond-false (ltb face 3) _ _ (le-ltb face 3 le) in
          elim (cases_lt face 6) [
            | inl lt ↦ (let most : depths_of 1 far face ≡ far = others ∙ cond-true (ltb face 6) _ _ (lt-ltb face 6 lt) in (omega arith, omega arith))
            | inr past ↦ (let most : depths_of 1 far face ≡ 0 = others ∙ cond-false (ltb face 6) _ _ (le-ltb face 6 past) in absurd (omega arith))
          ]
    ]

outer_depth : (far face : ℕ) → far ≤ 1 → face < 3 + 3 * far → 1 ≤ depths_of 1 far face
outer_depth far face small lt =
    elim (cases_lt face 3) [
      | inl near ↦ (let most : depths_of 1 far face ≡ 1 = cond-true (ltb face 3) _ _ (lt-ltb face 3 near) in omega arith)
      | inr le ↦
          let most : depths_of 1 far face ≡ far =
          cond-false (ltb face 3) _ _ (le-ltb face 3 le) ∙ cond-true (ltb face 6) _ _ (lt-ltb face 6 (omega arith)) in
          omega arith
    ]

amount_range : (order amount : ℕ) → IsTrue (is_amount order amount) → (0 < amount) × (amount < order)
amount_range order amount h =
    (ltb-true 0 amount (and_first (ltb 0 amount) (ltb amount order) h), ltb-true amount order (and_second (ltb 0 amount) (ltb amount order) h))

amount_from : (order amount : ℕ) → 0 < amount → amount < order → IsTrue (is_amount order amount)
amount_from order amount some few = and_true (ltb 0 amount) (ltb amount order) (lt-ltb 0 amount some) (lt-ltb amount order few)

module _ (far : ℕ) (small : far ≤ 1) where
  face_power : (face depth amount : ℕ) → IsTrue (is_face_turn 1 far (Face face depth amount))
      → (p : Power) × (quarters_of (Face face depth amount) ≡ Some p) × (p.generator < 3 + 3 * far)
  face_power face depth amount h =
      let most = depths_of 1 far face in
      let deep = and_first (leb 1 depth && leb depth most) (is_amount 4 amount) h in
      let range = amount_range 4 amount (and_second (leb 1 depth && leb depth most) (is_amount 4 amount) h) in
      let outer =
      outer_face far face depth small (leb-true 1 depth (and_first (leb 1 depth) (leb depth most) deep)) (leb-true depth most (and_second (leb 1 depth) (leb depth most) deep)) in
      (record { generator = face; exponent = amount }, ap (λ d. quarters_of (Face face d amount)) outer.0 ∙ quarters_of-face face amount range.0 range.1, outer.1)

  face_powers_of : (t : Turn) → IsTrue (is_face_turn 1 far t)
      → (p : Power) × (quarters_of t ≡ Some p) × (p.generator < 3 + 3 * far)
  face_powers_of (Face face depth amount) h = face_power face depth amount h
  face_powers_of _ h = absurd (false≢true h)

  pub tells_faces : TellsPowers quarters_of (3 + 3 * far) (is_face_turn 1 far)
  tells_faces = record {
    powers = face_powers_of;
    only = λ t p e lt.
        let a = IsQuartersOf-read t p e in
        let most = depths_of 1 far p.generator in
        ap (is_face_turn 1 far) a.is
        ∙ and_true (leb 1 1 && leb 1 most) (is_amount 4 p.exponent)
        (and_true (leb 1 1) (leb 1 most) refl (le-leb 1 most (outer_depth far p.generator small lt))) (amount_from 4 p.exponent a.some a.few);
  }

-- ---- turns about axes, and of tips where there are tips

axis_power : (axis amount count : ℕ) → 4 ≤ count → IsTrue (ltb axis 4 && is_amount 3 amount)
    → (p : Power) × (thirds_of (Axis axis amount) ≡ Some p) × (p.generator < count)
axis_power axis amount count four h =
    let there = ltb-true axis 4 (and_first (ltb axis 4) (is_amount 3 amount) h) in
    let range = amount_range 3 amount (and_second (ltb axis 4) (is_amount 3 amount) h) in
    (record { generator = axis; exponent = amount }, thirds_of-axis axis amount there range.0 range.1, omega (arith, there))

tip_power : (tip amount : ℕ) → IsTrue (ltb tip 4 && is_amount 3 amount)
    → (p : Power) × (thirds_of (Tip tip amount) ≡ Some p) × (p.generator < 8)
tip_power tip amount h =
    let there = ltb-true tip 4 (and_first (ltb tip 4) (is_amount 3 amount) h) in
    let range = amount_range 3 amount (and_second (ltb tip 4) (is_amount 3 amount) h) in
    (record { generator = 4 + tip; exponent = amount }, thirds_of-tip tip amount there range.0 range.1, omega (arith, there))

axis_powers_of : (tips : Bool) (t : Turn) → IsTrue (is_axis_turn tips t)
    → (p : Power) × (thirds_of t ≡ Some p) × (p.generator < cond tips 8 4)
axis_powers_of false (Axis axis amount) h = axis_power axis amount 4 (omega arith) h
axis_powers_of true (Axis axis amount) h = axis_power axis amount 8 (omega arith) h
axis_powers_of true (Tip tip amount) h = tip_power tip amount h
axis_powers_of tips _ h = absurd (false≢true h)

are_tips : (tips : Bool) (tip : ℕ) → 4 + tip < cond tips 8 4 → tips ≡ true
are_tips true tip lt = refl
are_tips false tip lt = absurd (omega (arith, lt))

-- with tips and without
pub tells_axes : (tips : Bool) → TellsPowers thirds_of (cond tips 8 4) (is_axis_turn tips)
tells_axes tips = record {
  powers = axis_powers_of tips;
  only = λ t p e lt.
      let h = IsThirdsOf-read t p e in
      let range = amount_from 3 p.exponent h.some h.few in
      elim h.is [
        | inl a ↦ ap (is_axis_turn tips) a.1 ∙ and_true (ltb p.generator 4) (is_amount 3 p.exponent) (lt-ltb p.generator 4 a.0) range
        | inr b ↦
            ap (is_axis_turn tips) b.3
            ∙ and_true tips (ltb b.0 4 && is_amount 3 p.exponent) (are_tips tips b.0 (subst (λ g. g < cond tips 8 4) b.2 lt))
            (and_true (ltb b.0 4) (is_amount 3 p.exponent) (lt-ltb b.0 4 b.1) range)
      ];
}
