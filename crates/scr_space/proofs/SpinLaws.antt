-- Laws of turns in space.
use Rattle.std.proofs.Common.{◌≡◌, ℕ, zero, suc, ◌-◌, ◌<◌, ◌≤◌, leb, Bool, true, false, cond, map, refl, sym, ap, ◌∙◌, arith}
use Rattle.std.specs.Prelude.{sum_by}
use Rattle.std.proofs.lemmas.List.Sorted.{sum_by-IsPermutation}
use Rattle.scr_space.specs.declared.spin.Point.{Point}
use Rattle.scr_space.specs.declared.spin.Spin.{Spin}
use Rattle.scr_space.specs.declared.spin.Coordinate.{Coordinate}
use Rattle.scr_space.specs.declared.spin.Coordinate.TheVariants.{X, Y, Z, MirroredX, MirroredY, MirroredZ}
use Rattle.scr_space.specs.declared.spin.Counted.{Counted}
use Rattle.scr_space.specs.declared.spin.Counted.TheVariants.{One, Three}
use Rattle.scr_space.specs.Spins.{IsWithin, value, rotated, counted_sum, is_moved, carried}
use Rattle.scr_space.specs.Turning.{mirrored, coordinate_before, times, coordinates, KeepsCount, HasOrder, Exchange}

abbrev pub point : ℕ → ℕ → ℕ → Point
point x y z = record { x = x; y = y; z = z }

pub same_point : (p q : Point) → p.x ≡ q.x → p.y ≡ q.y → p.z ≡ q.z → p ≡ q
same_point p q a b c = ap (λ x. point x p.y p.z) a ∙ ap (λ y. point q.x y p.z) b ∙ ap (λ z. point q.x q.y z) c

-- ---- coordinates

pub value-le : (last : ℕ) (c : Coordinate) (p : Point) → IsWithin last p → value last c p ≤ last
value-le last X p w = w.x
value-le last Y p w = w.y
value-le last Z p w = w.z
value-le last MirroredX p w = omega arith
value-le last MirroredY p w = omega arith
value-le last MirroredZ p w = omega arith

value-mirrored : (last : ℕ) (c : Coordinate) (p : Point) → IsWithin last p
    → value last (mirrored c) p ≡ last - value last c p
value-mirrored last X p w = refl
value-mirrored last Y p w = refl
value-mirrored last Z p w = refl
value-mirrored last MirroredX p w = omega arith
value-mirrored last MirroredY p w = omega arith
value-mirrored last MirroredZ p w = omega arith

module _ (last : ℕ) (s : Spin) (p : Point) (w : IsWithin last p) where
  pub value-rotated : (c : Coordinate) → value last c (rotated last s p) ≡ value last (coordinate_before s c) p
  value-rotated X = refl
  value-rotated Y = refl
  value-rotated Z = refl
  value-rotated MirroredX = sym (value-mirrored last s.x p w)
  value-rotated MirroredY = sym (value-mirrored last s.y p w)
  value-rotated MirroredZ = sym (value-mirrored last s.z p w)

  pub IsWithin-rotated : IsWithin last (rotated last s p)
  IsWithin-rotated = record { x = value-le last s.x p w; y = value-le last s.y p w; z = value-le last s.z p w }

  pub IsWithin-carried : IsWithin last (carried last s p)
  IsWithin-carried = by (is_moved last s p)
    where
      by : (b : Bool) → IsWithin last (cond b (rotated last s p) p)
      by true = IsWithin-rotated
      by false = w

-- ---- sums

sum-coordinates : (last : ℕ) (counted : Counted) (p : Point)
    → counted_sum last counted p ≡ sum_by (λ c. value last c p) (coordinates counted)
sum-coordinates last (One a) p = omega arith
sum-coordinates last (Three a b c) p = omega arith

sum-before : (last : ℕ) (s : Spin) (counted : Counted) (p : Point) → IsWithin last p
    → counted_sum last counted (rotated last s p) ≡ sum_by (λ c. value last c p) (map (coordinate_before s) (coordinates counted))
sum-before last s (One a) p w = omega (arith, value-rotated last s p w a)
sum-before last s (Three a b c) p w =
    omega (arith, value-rotated last s p w a, value-rotated last s p w b, value-rotated last s p w c)

-- a rotation keeps the sum, and so which points are moved
pub sum-rotated : (last : ℕ) (s : Spin) (counted : Counted) (p : Point) → IsWithin last p → KeepsCount s counted
    → counted_sum last counted (rotated last s p) ≡ counted_sum last counted p
sum-rotated last s counted p w kept =
    sum-before last s counted p w
    ∙ sym (sum_by-IsPermutation (λ c. value last c p) (map (coordinate_before s) (coordinates counted)) (coordinates counted) kept)
    ∙ sym (sum-coordinates last counted p)

pub sum-carried : (last : ℕ) (s : Spin) (counted : Counted) (p : Point) → IsWithin last p → KeepsCount s counted
    → counted_sum last counted (carried last s p) ≡ counted_sum last counted p
sum-carried last s counted p w kept = by (is_moved last s p)
  where
    by : (b : Bool) → counted_sum last counted (cond b (rotated last s p) p) ≡ counted_sum last counted p
    by true = sum-rotated last s counted p w kept
    by false = refl

pub is_moved-carried : (last : ℕ) (s t : Spin) (p : Point) → IsWithin last p → KeepsCount t s.counted
    → is_moved last s (carried last t p) ≡ is_moved last s p
is_moved-carried last s t p w kept = ap (λ n. leb s.least n) (sum-carried last t s.counted p w kept)

-- ---- turns done often

pub times-after : {A : Type 0} (n : ℕ) (f : A → A) (a : A) → times n f (f a) ≡ f (times n f a)
times-after zero f a = refl
times-after (suc n) f a = times-after n f (f a)

value-times : (last n : ℕ) (s : Spin) (c : Coordinate) (p : Point) → IsWithin last p
    → value last c (times n (rotated last s) p) ≡ value last (times n (coordinate_before s) c) p
value-times last zero s c p w = refl
value-times last (suc n) s c p w =
    value-times last n s c (rotated last s p) (IsWithin-rotated last s p w)
    ∙ value-rotated last s p w (times n (coordinate_before s) c)
    ∙ ap (λ d. value last d p) (sym (times-after n (coordinate_before s) c))

times-rotated : (last n : ℕ) (s : Spin) (p : Point) → HasOrder n s → IsWithin last p
    → times n (rotated last s) p ≡ p
times-rotated last n s p h w =
    same_point (times n (rotated last s) p) p
    (value-times last n s X p w ∙ ap (λ c. value last c p) h.x)
    (value-times last n s Y p w ∙ ap (λ c. value last c p) h.y)
    (value-times last n s Z p w ∙ ap (λ c. value last c p) h.z)

times-moved : (last n : ℕ) (s : Spin) (p : Point) → KeepsCount s s.counted → IsWithin last p
    → is_moved last s p ≡ true → times n (carried last s) p ≡ times n (rotated last s) p
times-moved last zero s p kept w e = refl
times-moved last (suc n) s p kept w e =
    let next : carried last s p ≡ rotated last s p = ap (λ b. cond b (rotated last s p) p) e in
    let still : is_moved last s (rotated last s p) ≡ true = ap (is_moved last s) (sym next) ∙ is_moved-carried last s s p w kept ∙ e in
    ap (times n (carried last s)) next ∙ times-moved last n s (rotated last s p) kept (IsWithin-rotated last s p w) still

times-unmoved : (last n : ℕ) (s : Spin) (p : Point) → is_moved last s p ≡ false → times n (carried last s) p ≡ p
times-unmoved last zero s p e = refl
times-unmoved last (suc n) s p e =
    ap (times n (carried last s)) (ap (λ b. cond b (rotated last s p) p) e) ∙ times-unmoved last n s p e

pub carried-back : (last n : ℕ) (s : Spin) (p : Point) → HasOrder n s → IsWithin last p
    → times n (carried last s) p ≡ p
carried-back last n s p h w = by (is_moved last s p) refl
  where
    by : (b : Bool) → is_moved last s p ≡ b → times n (carried last s) p ≡ p
    by true e = times-moved last n s p h.kept w e ∙ times-rotated last n s p h w
    by false e = times-unmoved last n s p e

pub carried-one_to_one : (last n : ℕ) (s : Spin) (p q : Point) → 0 < n → HasOrder n s → IsWithin last p
    → IsWithin last q → carried last s p ≡ carried last s q → p ≡ q
carried-one_to_one last zero s p q some h w v e = absurd (omega arith)
carried-one_to_one last (suc n) s p q some h w v e =
    sym (carried-back last (suc n) s p h w) ∙ ap (times n (carried last s)) e ∙ carried-back last (suc n) s q h v

-- ---- two turns

module _ (last : ℕ) (s t : Spin) (p : Point) (h : Exchange s t) (w : IsWithin last p) where
  rotated-exchange : rotated last s (rotated last t p) ≡ rotated last t (rotated last s p)
  rotated-exchange =
      same_point (rotated last s (rotated last t p)) (rotated last t (rotated last s p))
      (value-rotated last t p w s.x ∙ ap (λ c. value last c p) (sym h.x) ∙ sym (value-rotated last s p w t.x))
      (value-rotated last t p w s.y ∙ ap (λ c. value last c p) (sym h.y) ∙ sym (value-rotated last s p w t.y))
      (value-rotated last t p w s.z ∙ ap (λ c. value last c p) (sym h.z) ∙ sym (value-rotated last s p w t.z))

  both : (a b : Bool)
      → cond a (rotated last s (cond b (rotated last t p) p)) (cond b (rotated last t p) p)
      ≡ cond b (rotated last t (cond a (rotated last s p) p)) (cond a (rotated last s p) p)
  both true true = rotated-exchange
  both true false = refl
  both false true = refl
  both false false = refl

  pub carried-exchange : carried last s (carried last t p) ≡ carried last t (carried last s p)
  carried-exchange =
      ap (λ a. cond a (rotated last s (carried last t p)) (carried last t p)) (is_moved-carried last s t p w h.second)
      ∙ both (is_moved last s p) (is_moved last t p)
      ∙ sym (ap (λ b. cond b (rotated last t (carried last s p)) (carried last s p)) (is_moved-carried last t s p w h.first))
