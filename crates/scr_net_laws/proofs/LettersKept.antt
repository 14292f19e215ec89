-- A turn rearranges the stickers, so a net has each letter as often after it as before.
use Rattle.std.proofs.Common.{◌≡◌, ℕ, zero, suc, ◌+◌, ◌-◌, ◌<◌, ◌≤◌, Bool, true, false, cond, List, [], ◌∷◌, ◌++◌, map, eqb, refl, sym, ap, ◌∙◌, subst, arith, eqb-true, eq-eqb}
use Rattle.std.specs.Prelude.{◌&&◌}
use Rattle.std.specs.List.{flat_map, range_with_len}
use Rattle.std.proofs.lemmas.Bool.{and_parts}
use Rattle.scr_combinatorics.specs.Lists.{occurrences}
use Rattle.scr_space.specs.Turning.{times}
use Rattle.scr_space.proofs.SpinLaws.{times-after}
use Rattle.scr_net.specs.declared.geometry.Sticker.{Sticker}
use Rattle.scr_net.specs.Geometry.{row_of, column_of, point_at, brought_from, IsSticker, sticker_at}
use Rattle.scr_net.specs.Nets.{Letters, HasShape, letter_at, letters_of, net_of, turned_net}
use Rattle.scr_net.proofs.StickerLaws.{IsSticker-at, IsSticker-brought, row_of-at, column_of-at, row_of-le, column_of-le, sticker_at-of}
use Rattle.scr_net.proofs.TurnLaws.{brought-order, IsSticker-times, net-letters, turned-net_of}

-- ---- sums over lists

abbrev sum_over : {A : Type 0} → (A → ℕ) → List A → ℕ
sum_over f [] = 0
sum_over f (x ∷ xs) = f x + sum_over f xs

-- a number where a test passes, else 0
abbrev only : Bool → ℕ → ℕ
only b n = cond b n 0

sum-append : {A : Type 0} (f : A → ℕ) (xs ys : List A) → sum_over f (xs ++ ys) ≡ sum_over f xs + sum_over f ys
sum-append f [] ys = omega arith
sum-append f (x ∷ xs) ys = omega (arith, sum-append f xs ys)

sum-flat_map : {A B : Type 0} (f : B → ℕ) (k : A → List B) (xs : List A)
    → sum_over f (flat_map k xs) ≡ sum_over (λ x. sum_over f (k x)) xs
sum-flat_map f k [] = refl
sum-flat_map f k (x ∷ xs) = omega (arith, sum-append f (k x) (flat_map k xs), sum-flat_map f k xs)

sum-map : {A B : Type 0} (f : B → ℕ) (k : A → B) (xs : List A) → sum_over f (map k xs) ≡ sum_over (λ x. f (k x)) xs
sum-map f k [] = refl
sum-map f k (x ∷ xs) = ap (λ n. f (k x) + n) (sum-map f k xs)

sum-zero : {A : Type 0} (xs : List A) → sum_over (λ (x : A). 0) xs ≡ 0
sum-zero [] = refl
sum-zero (x ∷ xs) = omega (arith, sum-zero xs)

sum-both : {A : Type 0} (f g : A → ℕ) (xs : List A) → sum_over (λ x. f x + g x) xs ≡ sum_over f xs + sum_over g xs
sum-both f g [] = refl
sum-both f g (x ∷ xs) = omega (arith, sum-both f g xs)

sum-swap : {A B : Type 0} (f : A → B → ℕ) (xs : List A) (ys : List B)
    → sum_over (λ x. sum_over (f x) ys) xs ≡ sum_over (λ y. sum_over (λ x. f x y) xs) ys
sum-swap f [] ys = sym (sum-zero ys)
sum-swap f (x ∷ xs) ys =
    ap (λ n. sum_over (f x) ys + n) (sum-swap f xs ys) ∙ sym (sum-both (f x) (λ y. sum_over (λ x. f x y) xs) ys)

sum-only : {A : Type 0} (b : Bool) (f : A → ℕ) (xs : List A) → sum_over (λ x. only b (f x)) xs ≡ only b (sum_over f xs)
sum-only true f xs = refl
sum-only false f xs = sum-zero xs

-- ---- sums over the numbers of a range

sum-range : (f g : ℕ → ℕ) (a n : ℕ) → ((k : ℕ) → a ≤ k → k < a + n → f k ≡ g k)
    → sum_over f (range_with_len a n) ≡ sum_over g (range_with_len a n)
sum-range f g a zero same = refl
sum-range f g a (suc n) same =
    let rest = sum-range f g (a + 1) n (λ k le lt. same k (omega arith) (omega arith)) in
    let first : f a ≡ g a = same a (omega arith) (omega arith) in
    ap (λ m. m + sum_over f (range_with_len (a + 1) n)) first ∙ ap (λ m. g a + m) rest

only-other : (k j v : ℕ) → (k ≡ j → ⊥) → only (eqb k j) v ≡ 0
only-other k j v other = by (eqb k j) refl
  where
    by : (b : Bool) → eqb k j ≡ b → only b v ≡ 0
    by true e = absurd (other (eqb-true k j e))
    by false e = refl

sum-none : (g : ℕ → ℕ) (j a n : ℕ) → j < a → sum_over (λ k. only (eqb k j) (g k)) (range_with_len a n) ≡ 0
sum-none g j a zero lt = refl
sum-none g j a (suc n) lt =
    let rest = sum-none g j (a + 1) n (omega arith) in
    let first : only (eqb a j) (g a) ≡ 0 = only-other a j (g a) (λ e. omega arith) in
    omega (arith, first, rest)

-- the term of one number
sum-one : (g : ℕ → ℕ) (j a n : ℕ) → a ≤ j → j < a + n
    → sum_over (λ k. only (eqb k j) (g k)) (range_with_len a n) ≡ g j
sum-one g j a zero le lt = absurd (omega arith)
sum-one g j a (suc n) le lt = by (eqb a j) refl (λ differs. sum-one g j (a + 1) n (omega (arith, differs)) (omega arith))
  where
    by : (b : Bool) → eqb a j ≡ b → ((a ≡ j → ⊥) → sum_over (λ k. only (eqb k j) (g k)) (range_with_len (a + 1) n) ≡ g j)
        → only b (g a) + sum_over (λ k. only (eqb k j) (g k)) (range_with_len (a + 1) n) ≡ g j
    by true e later =
        let same : a ≡ j = eqb-true a j e in
        let none = sum-none g j (a + 1) n (omega arith) in
        let first : g a ≡ g j = ap g same in
        omega (arith, none, first)
    by false e later =
        let differs : a ≡ j → ⊥ = λ same. (let yes = eq-eqb a j same in absurd (cc)) in
        let other = later differs in
        omega (arith, other)

-- ---- sums over stickers

module _ (side : ℕ) (some : 0 < side) where
  abbrev last : ℕ
  last = side - 1

  abbrev range : List ℕ
  range = range_with_len 0 side

  abbrev of_row : ℕ → ℕ → List Sticker
  of_row face row = map (sticker_at last face row) range

  abbrev of_face : ℕ → List Sticker
  of_face face = flat_map (of_row face) range

  abbrev stickers : List Sticker
  stickers = flat_map of_face (range_with_len 0 6)

  sum-stickers : (f : Sticker → ℕ)
      → sum_over f stickers ≡ sum_over (λ face. sum_over (λ row. sum_over (λ column. f (sticker_at last face row column)) range) range) (range_with_len 0 6)
  sum-stickers f =
      sum-flat_map f of_face (range_with_len 0 6)
      ∙ sum-range (λ face. sum_over f (of_face face)) (λ face. sum_over (λ row. sum_over (λ column. f (sticker_at last face row column)) range) range) 0 6 (λ face le lt.
      sum-flat_map f (of_row face) range
      ∙ sum-range (λ row. sum_over f (of_row face row)) (λ row. sum_over (λ column. f (sticker_at last face row column)) range) 0 side (λ row le lt.
      sum-map f (sticker_at last face row) range))

  -- by the faces, rows and columns that there are
  sum-grid : (f g : ℕ → ℕ → ℕ → ℕ)
      → ((face row column : ℕ) → face < 6 → row < side → column < side → f face row column ≡ g face row column)
      → sum_over (λ face. sum_over (λ row. sum_over (f face row) range) range) (range_with_len 0 6)
      ≡ sum_over (λ face. sum_over (λ row. sum_over (g face row) range) range) (range_with_len 0 6)
  sum-grid f g same =
      sum-range _ _ 0 6 (λ face le lf.
      sum-range (λ row. sum_over (f face row) range) (λ row. sum_over (g face row) range) 0 side (λ row le lr.
      sum-range (f face row) (g face row) 0 side (λ column le lc. same face row column (omega arith) (omega arith) (omega arith))))

  sum-same : (f g : Sticker → ℕ) → ((s : Sticker) → IsSticker last s → f s ≡ g s) → sum_over f stickers ≡ sum_over g stickers
  sum-same f g same =
      sum-stickers f
      ∙ sum-grid (λ face row column. f (sticker_at last face row column)) (λ face row column. g (sticker_at last face row column)) (λ face row column lf lr lc.
      same (sticker_at last face row column) (IsSticker-at last face row column lf (omega arith) (omega arith)))
      ∙ sym (sum-stickers g)

  -- two stickers are one
  abbrev is : Sticker → Sticker → Bool
  is s u = eqb s.face u.face && (eqb (row_of last s.face s.point) (row_of last u.face u.point) && eqb (column_of last s.face s.point) (column_of last u.face u.point))

  is-same : (s u : Sticker) → s ≡ u → is s u ≡ true
  is-same s u e =
      let P : Sticker → Type 0 = λ v. is s v ≡ true in
      subst P e (ap (λ b. b && (eqb (row_of last s.face s.point) (row_of last s.face s.point) && eqb (column_of last s.face s.point) (column_of last s.face s.point))) (eq-eqb s.face s.face refl)
      ∙ ap (λ b. b && eqb (column_of last s.face s.point) (column_of last s.face s.point)) (eq-eqb (row_of last s.face s.point) (row_of last s.face s.point) refl)
      ∙ eq-eqb (column_of last s.face s.point) (column_of last s.face s.point) refl)

  same-is : (s u : Sticker) → IsSticker last s → IsSticker last u → is s u ≡ true → s ≡ u
  same-is s u h k e =
      let first = and_parts (eqb s.face u.face) (eqb (row_of last s.face s.point) (row_of last u.face u.point) && eqb (column_of last s.face s.point) (column_of last u.face u.point)) e in
      let second = and_parts (eqb (row_of last s.face s.point) (row_of last u.face u.point)) (eqb (column_of last s.face s.point) (column_of last u.face u.point)) first.1 in
      sym (sticker_at-of last s h)
      ∙ ap (λ face. sticker_at last face (row_of last s.face s.point) (column_of last s.face s.point)) (eqb-true s.face u.face first.0)
      ∙ ap (λ row. sticker_at last u.face row (column_of last s.face s.point)) (eqb-true (row_of last s.face s.point) (row_of last u.face u.point) second.0)
      ∙ ap (sticker_at last u.face (row_of last u.face u.point)) (eqb-true (column_of last s.face s.point) (column_of last u.face u.point) second.1)
      ∙ sticker_at-of last u k

  only-three : (a b c : Bool) (v : ℕ) → only (a && (b && c)) v ≡ only a (only b (only c v))
  only-three true true c v = refl
  only-three true false c v = refl
  only-three false b c v = refl

  -- the term of one sticker
  sum-sticker : (v : Sticker → ℕ) (u : Sticker) → IsSticker last u → sum_over (λ s. only (is s u) (v s)) stickers ≡ v u
  sum-sticker v u h =
      let low = row_of-le last u.face u.point h.face h.within in
      let left = column_of-le last u.face u.point h.face h.within in
      let f : ℕ = u.face in
      let r : ℕ = row_of last u.face u.point in
      let c : ℕ = column_of last u.face u.point in
      sum-stickers (λ s. only (is s u) (v s))
      ∙ sum-grid (λ face row column. only (is (sticker_at last face row column) u) (v (sticker_at last face row column)))
      (λ face row column. only (eqb face f) (only (eqb row r) (only (eqb column c) (v (sticker_at last face row column))))) (λ face row column lf lr lc.
      only-three (eqb face f) (eqb (row_of last face (point_at last face row column)) r) (eqb (column_of last face (point_at last face row column)) c) (v (sticker_at last face row column))
      ∙ ap (λ x. only (eqb face f) (only (eqb x r) (only (eqb (column_of last face (point_at last face row column)) c) (v (sticker_at last face row column))))) (row_of-at last face row column lf (omega arith))
      ∙ ap (λ x. only (eqb face f) (only (eqb row r) (only (eqb x c) (v (sticker_at last face row column))))) (column_of-at last face row column lf (omega arith)))
      ∙ sum-range _ (λ face. only (eqb face f) (v (sticker_at last face r c))) 0 6 (λ face le lf.
      sum-range _ (λ row. only (eqb face f) (only (eqb row r) (v (sticker_at last face row c)))) 0 side (λ row le' lr.
      sum-only (eqb face f) (λ column. only (eqb row r) (only (eqb column c) (v (sticker_at last face row column)))) range
      ∙ ap (only (eqb face f)) (sum-only (eqb row r) (λ column. only (eqb column c) (v (sticker_at last face row column))) range
      ∙ ap (only (eqb row r)) (sum-one (λ column. v (sticker_at last face row column)) c 0 side (omega arith) (omega arith))))
      ∙ sum-only (eqb face f) (λ row. only (eqb row r) (v (sticker_at last face row c))) range
      ∙ ap (only (eqb face f)) (sum-one (λ row. v (sticker_at last face row c)) r 0 side (omega arith) (omega arith)))
      ∙ sum-one (λ face. v (sticker_at last face r c)) f 0 6 (omega arith) (omega (arith, h.face))
      ∙ ap v (sticker_at-of last u h)

  module _ (face depth : ℕ) (lf : face < 6) where
    abbrev brought : Sticker → Sticker
    brought = brought_from last face depth

    -- three quarters more are the way back
    abbrev back : Sticker → Sticker
    back = times 3 brought

    is-back : (s t : Sticker) → IsSticker last s → IsSticker last t → is t (brought s) ≡ is s (back t)
    is-back s t h k = by (is t (brought s)) (is s (back t)) refl refl
      where
        by : (a b : Bool) → is t (brought s) ≡ a → is s (back t) ≡ b → a ≡ b
        by true true e f = refl
        by false false e f = refl
        by true false e f =
            let there : t ≡ brought s = same-is t (brought s) k (IsSticker-brought last face depth s h) e in
            let here : s ≡ back t = sym (ap back there ∙ brought-order last face depth lf s h) in
            sym (is-same s (back t) here) ∙ f
        by false true e f =
            let here : s ≡ back t = same-is s (back t) h (IsSticker-times last face depth 3 t k) f in
            let there : t ≡ brought s = sym (ap brought here ∙ sym (times-after 3 brought t) ∙ brought-order last face depth lf t k) in
            sym e ∙ is-same t (brought s) there

    -- a sum over all stickers is one over the stickers that come to their places
    sum-brought : (g : Sticker → ℕ) → sum_over (λ s. g (brought s)) stickers ≡ sum_over g stickers
    sum-brought g =
        sum-same (λ s. g (brought s)) (λ s. sum_over (λ t. only (is t (brought s)) (g t)) stickers) (λ s h. sym (sum-sticker g (brought s) (IsSticker-brought last face depth s h)))
        ∙ sum-swap (λ s t. only (is t (brought s)) (g t)) stickers stickers
        ∙ sum-same (λ t. sum_over (λ s. only (is t (brought s)) (g t)) stickers) g (λ t k.
        sum-same (λ s. only (is t (brought s)) (g t)) (λ s. only (is s (back t)) (g t)) (λ s h. ap (λ b. only b (g t)) (is-back s t h k))
        ∙ sum-sticker (λ s. g t) (back t) (IsSticker-times last face depth 3 t k))

    sum-often : (n : ℕ) (g : Sticker → ℕ) → sum_over (λ s. g (times n brought s)) stickers ≡ sum_over g stickers
    sum-often zero g = refl
    sum-often (suc n) g = sum-brought (λ s. g (times n brought s)) ∙ sum-often n g

  -- ---- letters

  occurrences-append : (x : ℕ) (xs ys : List ℕ) → occurrences x (xs ++ ys) ≡ occurrences x xs + occurrences x ys
  occurrences-append x [] ys = omega arith
  occurrences-append x (y ∷ xs) ys = omega (arith, occurrences-append x xs ys)

  occurrences-flat_map : {A : Type 0} (x : ℕ) (k : A → List ℕ) (items : List A)
      → occurrences x (flat_map k items) ≡ sum_over (λ a. occurrences x (k a)) items
  occurrences-flat_map x k [] = refl
  occurrences-flat_map x k (a ∷ items) = omega (arith, occurrences-append x (k a) (flat_map k items), occurrences-flat_map x k items)

  occurrences-map : (x : ℕ) (k : ℕ → ℕ) (ns : List ℕ) → occurrences x (map k ns) ≡ sum_over (λ n. only (eqb (k n) x) 1) ns
  occurrences-map x k [] = refl
  occurrences-map x k (n ∷ ns) = ap (λ m. only (eqb (k n) x) 1 + m) (occurrences-map x k ns)

  -- how often a letter is in a net by a rule
  occurrences-net_of : (x : ℕ) (letter : Sticker → ℕ)
      → occurrences x (letters_of (net_of side letter)) ≡ sum_over (λ s. only (eqb (letter s) x) 1) stickers
  unfolding net_of
  occurrences-net_of x letter =
      let in_row : ℕ → ℕ → List ℕ = λ face row. map (λ column. letter (sticker_at last face row column)) range in
      let in_face : ℕ → List (List ℕ) = λ face. map (in_row face) range in
      occurrences-flat_map x (λ rows. flat_map (λ row. row) rows) (map in_face (range_with_len 0 6))
      ∙ sum-map (λ rows. occurrences x (flat_map (λ row. row) rows)) in_face (range_with_len 0 6)
      ∙ sum-range (λ face. occurrences x (flat_map (λ row. row) (in_face face))) (λ face. sum_over (λ row. sum_over (λ column. only (eqb (letter (sticker_at last face row column)) x) 1) range) range) 0 6 (λ face le lt.
      occurrences-flat_map x (λ row. row) (in_face face)
      ∙ sum-map (occurrences x) (in_row face) range
      ∙ sum-range (λ row. occurrences x (in_row face row)) (λ row. sum_over (λ column. only (eqb (letter (sticker_at last face row column)) x) 1) range) 0 side (λ row le' lt'.
      occurrences-map x (λ column. letter (sticker_at last face row column)) range))
      ∙ sym (sum-stickers (λ s. only (eqb (letter s) x) 1))

  pub letters-kept : (face depth amount : ℕ) (net : Letters) (x : ℕ) → face < 6 → HasShape side net
      → occurrences x (letters_of (turned_net side face depth amount net)) ≡ occurrences x (letters_of net)
  letters-kept face depth amount net x lf shape =
      let letter = letter_at side net in
      let is_net = net-letters side some net shape in
      ap (λ n. occurrences x (letters_of (turned_net side face depth amount n))) is_net
      ∙ ap (λ n. occurrences x (letters_of n)) (turned-net_of side some face depth amount letter)
      ∙ occurrences-net_of x (λ s. letter (times amount (brought_from last face depth) s))
      ∙ sum-often face depth lf amount (λ s. only (eqb (letter s) x) 1)
      ∙ sym (ap (λ n. occurrences x (letters_of n)) is_net ∙ occurrences-net_of x letter)
