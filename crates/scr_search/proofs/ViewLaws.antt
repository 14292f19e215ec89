-- What the tables of a part see of a cube goes along with its turns.
use Rattle.std.proofs.Common.{◌≡◌, ℕ, ◌+◌, ◌*◌, ◌/◌, ◌%◌, ◌^◌, ◌<◌, Bool, true, false, length, get_or, Some, sym, ap, ◌∙◌, arith}
use Rattle.std.proofs.lemmas.Bool.{lt-ltb}
use Rattle.scr_positions.specs.Coordinates.{Coordinate, IsGoal}
use Rattle.scr_positions.specs.SearchSpaces.{Follows, ShowsSame, positions}
use Rattle.scr_positions.proofs.ProductLaws.{Follows-product, part-low}
use Rattle.scr_cube.specs.Cube333.{CubeState}
use Rattle.scr_cube.specs.ListedTurns.{cube_space, after_of}
use Rattle.scr_search.specs.declared.position.Extent.{Extent}
use Rattle.scr_search.specs.Orderly.{after_turn}
use Rattle.scr_search.specs.declared.position.PartPosition.{PartPosition}
use Rattle.scr_search.specs.Views.{AreViews, Sees, Shows, View, Views, index_beside, part_number, view_beside}
use Rattle.scr_search.proofs.Leads.{after_of-place}

-- ---- views

-- A view that goes along with turns to a goal, which the end of the part has.
pub Sees-follows : (v : Views) (IsEnd : CubeState → Type 0) (view : View) → view.coordinate.turns ≡ length v.turns
    → Follows (cube_space v.IsSeen v.turns IsEnd) (positions view.coordinate) view.number
    → ((c : CubeState) → v.IsSeen c → v.ends c ≡ true → IsEnd c) → Sees v view
Sees-follows v IsEnd view turns f ends = record {
  turns = turns;
  along = record { kept = f.kept; valid = f.valid; turned = f.turned; goals = λ c h. (λ at. at, λ at. at) };
  ends = λ c h end. (f.goals c h).0 (ends c h end);
}

-- two side by side
Sees-product : {v : Views} {low high : View} → Sees v low → Sees v high → Sees v (view_beside false low high)
Sees-product {v = v} {low = low} {high = high} a b =
    Sees-follows v (λ c. IsGoal low.coordinate (low.number c) × IsGoal high.coordinate (high.number c)) (view_beside false low high) a.turns
    (Follows-product v.IsSeen (λ c. IsGoal low.coordinate (low.number c)) (λ c. IsGoal high.coordinate (high.number c)) (after_of v.turns) low.coordinate high.coordinate low.number high.number (b.turns ∙ sym a.turns) a.along b.along)
    (λ c h end. (a.ends c h end, b.ends c h end))

pub Sees-beside : {v : Views} {own middle : View} (first : Bool) → Sees v own → Sees v middle
    → Sees v (view_beside first own middle)
Sees-beside false a b = Sees-product a b
Sees-beside true a b = Sees-product b a

module _ (v : Views) (view : View) (s : Sees v view) where
  -- turns keep what the part goes through
  pub seen-turned : (c d : CubeState) (place : ℕ) → v.IsSeen c → place < length v.turns
      → after_turn c (get_or v.turns place 0) ≡ Some d → v.IsSeen d
  seen-turned c d place h lt to = s.along.kept c d place h (after_of-place v.turns c place lt ∙ to)

  -- where a turn leads in moves that show it
  pub shown-turned : (moves : Coordinate) → ShowsSame view.coordinate moves → (c d : CubeState) (p place : ℕ)
      → v.IsSeen c → p ≡ view.number c → place < length v.turns → after_turn c (get_or v.turns place 0) ≡ Some d
      → moves.after p place ≡ Some (view.number d)
  shown-turned moves same c d p place h at lt to = grind (arith, lt-ltb, after_of-place)

-- ---- numbers

module _ (v : Views) (e : Extent) (are : AreViews v e) (c : CubeState) (h : v.IsSeen c) where
  -- that in a block
  abbrev pub low_part : ℕ
  low_part = v.one.number c + v.one.coordinate.count * v.other.number c

  low_part-lt : low_part < 2 ^ 32
  low_part-lt =
      let few : v.one.coordinate.count * v.other.coordinate.count ≡ e.ones * e.others =
      ap (λ k. k * v.other.coordinate.count) are.counts.0 ∙ ap (λ k. e.ones * k) are.counts.1 in
      grind arith

  pub number-low : part_number v c % 2 ^ 32 ≡ low_part
  number-low = let few = low_part-lt in omega (arith, few)

  pub number-block : part_number v c / 2 ^ 32 ≡ v.middle.number c
  number-block = let few = low_part-lt in omega (arith, few)

  pub block-lt : part_number v c / 2 ^ 32 < e.middles
  block-lt = omega (arith, number-block, are.middle.along.valid c h, are.counts.2)

  pub low-one : (k : ℕ) → k ≡ low_part → k % e.ones ≡ v.one.number c
  low-one k is = grind (arith, part-low)

  pub low-other : (k : ℕ) → k ≡ low_part → k / e.ones ≡ v.other.number c
  low-other k is = grind arith

  -- as it is made of both
  pub low-made : (one other : ℕ) → one ≡ v.one.number c → other ≡ v.other.number c
      → (other * e.ones % 2 ^ 32 + one) % 2 ^ 32 ≡ low_part
  low-made one other a b = grind (arith, low_part-lt)

-- ---- positions in pruning tables

index-shown : (b : Bool) (own middle : View) (c : CubeState) (owns middles i j k : ℕ) → own.coordinate.count ≡ owns
    → middle.coordinate.count ≡ middles → i ≡ own.number c → j ≡ middle.number c → k ≡ index_beside b owns middles i j
    → k ≡ (view_beside b own middle).number c
index-shown b own middle c owns middles i j k few few_middle one other is = grind arith

module _ {v : Views} {e : Extent} (are : AreViews v e) {c : CubeState} {at : PartPosition} (h : Shows v c at) where
  pub one-shown : (k : ℕ) → k ≡ index_beside e.middle_first e.ones e.middles at.one at.middle
      → k ≡ (view_beside e.middle_first v.one v.middle).number c
  one-shown k is = index-shown e.middle_first v.one v.middle c e.ones e.middles at.one at.middle k are.counts.0 are.counts.2 h.one h.middle is

  pub other-shown : (k : ℕ) → k ≡ index_beside e.middle_first e.others e.middles at.other at.middle
      → k ≡ (view_beside e.middle_first v.other v.middle).number c
  other-shown k is = index-shown e.middle_first v.other v.middle c e.others e.middles at.other at.middle k are.counts.1 are.counts.2 h.other h.middle is
