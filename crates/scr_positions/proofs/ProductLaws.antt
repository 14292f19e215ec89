-- Products: their positions, and that they go along with turns where their parts do.
use Rattle.std.proofs.Common.{◌≡◌, ℕ, ◌+◌, ◌-◌, ◌*◌, ◌/◌, ◌%◌, ◌<◌, ◌≤◌, Bool, true, false, cond, IsTrue, Option, Some, None, refl, sym, ap, ◌∙◌, subst, arith}
use Rattle.std.specs.Prelude.{nat_lt, ◌&&◌}
use Rattle.std.specs.Option.{option_map}
use Rattle.std.proofs.Math.Nat.{add-mul-mod_self_left, div-add-mod, div-lt_iff_lt-mul, mod-eq_of_lt, mul-le-mul_right}
use Rattle.std.proofs.lemmas.Bool.{and_parts}
use Rattle.std.proofs.lemmas.Nat.{mul-add-lt, div-mul-add}
use Rattle.std.proofs.lemmas.Grind.{div_ceil_times}
use Rattle.std.specs.Int.{div_ceil}
use Rattle.std.specs.Cmp.Derive.{both_true}
use Rattle.scr_positions.specs.Coordinates.{Coordinate}
use Rattle.scr_positions.specs.Products.{side_by_side, product_coordinate}
use Rattle.scr_positions.specs.SearchSpaces.{positions, Follows, ShowsSame}
use Rattle.scr_positions.proofs.StaysBelowLaws.{part_below}

-- ---- the parts of a position

pub part-low : (n a b : ℕ) → a < n → (a + n * b) % n ≡ a
part-low n a b lt = add-mul-mod_self_left a n b ∙ mod-eq_of_lt lt

pub part-high : (n a b : ℕ) → a < n → (a + n * b) / n ≡ b
part-high n a b lt = ap (λ k. k / n) (omega arith) ∙ div-mul-add b n a lt

-- The positions of a row: those with one high part.
pub row_at : (n h p : ℕ) → h * n ≤ p → p < h * n + n → (p % n ≡ p - h * n) × (p / n ≡ h)
row_at n h p from to =
    let at : p ≡ p - h * n + n * h = omega arith in
    let low : p - h * n < n = omega arith in
    (ap (λ k. k % n) at ∙ part-low n (p - h * n) h low, ap (λ k. k / n) at ∙ part-high n (p - h * n) h low)

pub row_of : (n m h p : ℕ) → p < n * m → p / n ≡ h → (h * n ≤ p) × (p < h * n + n)
row_of n m h p lt e =
    let parts = part_below n m p lt in
    let at : p ≡ n * (p / n) + p % n = sym (div-add-mod p n) in
    let row : n * (p / n) ≡ h * n = ap (λ k. n * k) e ∙ omega arith in
    (omega (arith, at, row), omega (arith, at, row, parts.0))

-- the positions below an end lie in the rows that it reaches
pub row_below : (n p end : ℕ) → 0 < n → p < end → p / n < div_ceil end n
row_below n p end some lt = (div-lt_iff_lt-mul {k = n} {x = p} {y = div_ceil end n} some).1 (omega (arith, (div_ceil_times end n some).0))

-- and those are the rows that end behind the first position and begin before the end
pub row_reached : (n m h start size : ℕ) → 0 < size → start + size ≤ n * m → start / n ≤ h
    → h < div_ceil (start + size) n → (start < (h + 1) * n) × (h * n < start + size)
row_reached n m h start size some fits from to =
    let pos : 0 < n = omega (arith, (part_below n m start (omega arith)).0) in (
      (div-lt_iff_lt-mul {k = n} {x = start} {y = h + 1} pos).0 (omega arith),
      omega (arith, (div_ceil_times (start + size) n pos).1, mul-le-mul_right {m = h + 1} {n = div_ceil (start + size) n} n (omega arith)),
    )

-- where a turn leads from a position of a row
pub row_after : (low high : Coordinate) (h p t : ℕ) → h * low.count ≤ p → p < h * low.count + low.count
    → (product_coordinate low high).after p t ≡ side_by_side low.count (low.after (p - h * low.count) t) (high.after h t)
row_after low high h p t from to =
    let parts = row_at low.count h p from to in
    ap (λ k. side_by_side low.count (low.after k t) (high.after (p / low.count) t)) parts.0
    ∙ ap (λ k. side_by_side low.count (low.after (p - h * low.count) t) (high.after k t)) parts.1

-- ---- products of coordinates that show the same

pub ShowsSame-product : (low high shown_low shown_high : Coordinate) → high.turns ≡ low.turns → ShowsSame low shown_low
    → ShowsSame high shown_high → ShowsSame (product_coordinate low high) (product_coordinate shown_low shown_high)
ShowsSame-product low high shown_low shown_high turns f g = record {
  count = ap (λ n. n * shown_high.count) f.count ∙ ap (λ n. low.count * n) g.count;
  turns = f.turns;
  after = λ p t at turn.
      let parts = part_below low.count high.count p at in
      let turn' : t < high.turns = omega arith in
      ap (λ n. side_by_side n (shown_low.after (p % n) t) (shown_high.after (p / n) t)) f.count
      ∙ ap (λ o. side_by_side low.count o (shown_high.after (p / low.count) t)) (f.after (p % low.count) t parts.0 turn)
      ∙ ap (λ o. side_by_side low.count (low.after (p % low.count) t) o) (g.after (p / low.count) t parts.1 turn');
  is_goal = λ p at.
      let parts = part_below low.count high.count p at in
      ap (λ n. shown_low.is_goal (p % n) && shown_high.is_goal (p / n)) f.count
      ∙ ap (λ b. b && shown_high.is_goal (p / low.count)) (f.is_goal (p % low.count) parts.0)
      ∙ ap (λ b. low.is_goal (p % low.count) && b) (g.is_goal (p / low.count) parts.1);
}

-- ---- products go along with turns

pair_map : {S : Type 0} (n : ℕ) (v u : S → ℕ) (o : Option S)
    → side_by_side n (option_map v o) (option_map u o) ≡ option_map (λ s. v s + n * u s) o
pair_map n v u None = refl
pair_map n v u (Some s) = refl

pair_moved : {S : Type 0} (n : ℕ) (v u : S → ℕ) (o : Option S) (low high : Option ℕ) (b : Bool)
    → cond b low None ≡ option_map v o → cond b high None ≡ option_map u o
    → cond b (side_by_side n low high) None ≡ option_map (λ s. v s + n * u s) o
pair_moved n v u o low high true e f = ap (λ x. side_by_side n x high) e ∙ ap (λ x. side_by_side n (option_map v o) x) f ∙ pair_map n v u o
pair_moved n v u None low high false e f = refl
pair_moved n v u (Some s) low high false e f = absurd (cc)

-- Where two coordinates of the same states go along with turns, so does their product.
pub Follows-product : {S : Type 0} (IsValid IsLowGoal IsHighGoal : S → Type 0) (after : S → ℕ → Option S) (low high : Coordinate) (v u : S → ℕ)
    → high.turns ≡ low.turns
    → Follows (record { IsValid = IsValid; after = after; IsGoal = IsLowGoal }) (positions low) v
    → Follows (record { IsValid = IsValid; after = after; IsGoal = IsHighGoal }) (positions high) u
    → Follows (record { IsValid = IsValid; after = after; IsGoal = λ s. IsLowGoal s × IsHighGoal s }) (positions (product_coordinate low high))
    (λ s. v s + low.count * u s)
Follows-product IsValid IsLowGoal IsHighGoal after low high v u turns f g =
    let n = low.count in
    record {
      kept = f.kept;
      valid = λ s h. omega (arith, mul-add-lt (u s) n (v s) high.count (g.valid s h) (f.valid s h));
      turned = λ s t h.
          let a : (v s + n * u s) % n ≡ v s = part-low n (v s) (u s) (f.valid s h) in
          let b : (v s + n * u s) / n ≡ u s = part-high n (v s) (u s) (f.valid s h) in
          ap (λ k. cond (nat_lt t low.turns) (side_by_side n (low.after k t) (high.after ((v s + n * u s) / n) t)) None) a
          ∙ ap (λ k. cond (nat_lt t low.turns) (side_by_side n (low.after (v s) t) (high.after k t)) None) b
          ∙ pair_moved n v u (after s t) (low.after (v s) t) (high.after (u s) t) (nat_lt t low.turns) (f.turned s t h)
          (ap (λ k. cond (nat_lt t k) (high.after (u s) t) None) (sym turns) ∙ g.turned s t h);
      goals = λ s h.
          let a : (v s + n * u s) % n ≡ v s = part-low n (v s) (u s) (f.valid s h) in
          let b : (v s + n * u s) / n ≡ u s = part-high n (v s) (u s) (f.valid s h) in
          let same = ap (λ k. low.is_goal k && high.is_goal ((v s + n * u s) / n)) a ∙ ap (λ k. low.is_goal (v s) && high.is_goal k) b in (
            λ goals. subst IsTrue (sym same) (both_true ((f.goals s h).0 goals.0) ((g.goals s h).0 goals.1)),
            λ both.
                let parts = and_parts (low.is_goal (v s)) (high.is_goal (u s)) (subst IsTrue same both) in
                ((f.goals s h).1 parts.0, (g.goals s h).1 parts.1),
          );
    }
