-- One answer put in its place.
use Rattle.std.proofs.Common.{◌≡◌, ◌≢◌, ◌⊎◌, ℕ, ◌<◌, List, [], ◌∷◌, ◌++◌, map, length, set, Some}
use Rattle.std.proofs.Common.{⊎_elim, sym, subst, arith, length-set, get_or-set_same, get_or-set_other}
use Rattle.std.specs.Prelude.{Option, All}
use Rattle.std.proofs.lemmas.List.Elements.{All-pop}
use Rattle.std.proofs.lemmas.Bool.Decides.{nat_tests}
use Rattle.std.proofs.lemmas.List.{map-append}
use Rattle.scr_workers.specs.Answered.{HasAnswer}
use Rattle.scr_workers.specs.Gather.{HasSlotAnswer, only, times}
use Rattle.scr_workers.specs.Work.{slot_of}
use Rattle.scr_workers.proofs.Keeps.{weigh-append}

pub only-other : (x y : ℕ) → y ≢ x → only x y ≡ 0
only-other x y other = grind (arith, nat_tests)

pub only-same : (x : ℕ) → only x x ≡ 1
only-same x = grind (arith, nat_tests)

-- what holds of each element of a list holds of its last, and of those before it
pub All-push' : {X : Type 0} (P : X → Type 0) (xs ys : List X) (y : X) → xs ≡ ys ++ y ∷ [] → All P xs → All P ys × P y
All-push' P xs ys y is all = let r = All-pop P xs ys (Some y) is all in (r.0, r.1)

module _ {T : Type 0} (IsAnswer : ℕ → T → Type 0) where
  -- the place of a slot has the answer that was put there
  pub placed_set-here : (out : List (Option T)) (slot : ℕ) (a : T) → slot < length out → IsAnswer slot a
      → HasAnswer IsAnswer (set out slot (Some a)) slot
  placed_set-here out slot a within is = grind (arith, get_or-set_same)

  -- a place with an answer keeps one
  pub kept_set : (out : List (Option T)) (slot : ℕ) (a : T) → slot < length out → IsAnswer slot a
      → (k : ℕ) → HasAnswer IsAnswer out k → HasAnswer IsAnswer (set out slot (Some a)) k
  kept_set out slot a within is k before = grind (arith, placed_set-here, get_or-set_other)

  -- a slot that stood in a list, or whose place had an answer, does so after its last entry is put in its place
  pub placed_set : (before after : List (ℕ × T)) (out : List (Option T)) (slot : ℕ) (a : T)
      → before ≡ after ++ (slot, a) ∷ [] → slot < length out → IsAnswer slot a
      → (k : ℕ) → (0 < times k (map slot_of before)) ⊎ HasAnswer IsAnswer out k
      → (0 < times k (map slot_of after)) ⊎ HasAnswer IsAnswer (set out slot (Some a)) k
  placed_set before after out slot a within_list within is k known =
      grind (arith, placed_set-here, ⊎_elim, map-append, weigh-append, only-other, kept_set)

  -- What has come of placing a list's answers: those that are left are of slots, places that had an answer have one,
  -- and so has the place of each slot of the list that isn't left.
  pub record ArePlaced (list : List (ℕ × T)) (start : List (Option T)) (left : List (ℕ × T)) (out : List (Option T)) : Type 0 where
    pub mine : All (HasSlotAnswer (length out) IsAnswer) left
    pub kept : (k : ℕ) → HasAnswer IsAnswer start k → HasAnswer IsAnswer out k
    pub placed : (k : ℕ) → 0 < times k (map slot_of list) → (0 < times k (map slot_of left)) ⊎ HasAnswer IsAnswer out k

  -- one more
  pub ArePlaced-more : (list : List (ℕ × T)) (start : List (Option T)) (before after : List (ℕ × T)) (out : List (Option T))
      (slot : ℕ) (a : T) → before ≡ after ++ (slot, a) ∷ [] → ArePlaced list start before out
      → ArePlaced list start after (set out slot (Some a))
  ArePlaced-more list start before after out slot a popped are =
      let all = All-push' (HasSlotAnswer (length out) IsAnswer) before after (slot, a) popped are.mine in
      record {
        mine = subst (λ n. All (HasSlotAnswer n IsAnswer) after) (sym (length-set out slot (Some a))) all.0;
        kept = λ k h. kept_set out slot a all.1.0 all.1.1 k (are.kept k h);
        placed = λ k h. placed_set before after out slot a popped all.1.0 all.1.1 k (are.placed k h);
      }
