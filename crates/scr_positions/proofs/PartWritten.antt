-- The entries of a list after a part of it was written anew.
use Rattle.std.proofs.Common.{◌≡◌, ℕ, ◌+◌, ◌-◌, ◌<◌, ◌≤◌, List, ◌++◌, take, drop, ◌⊎◌, inl, inr, length, get_or, ap, ◌∙◌, arith}
use Rattle.std.proofs.lemmas.List.{length-take-le, get_or-take, get_or-drop, get_or_append_left, get_or-append_right}
use borrow.Rule.Slice.PartMut.{put_mid, post_of}

module _ (start size : ℕ) (entries part : List ℕ) (inside : start + size ≤ length entries) (long : length part ≡ size) where
  before : length (take start entries) ≡ start
  before = length-take-le start entries (omega arith)

  pub in_part : (k : ℕ) → start ≤ k → k < start + size
      → get_or (put_mid start size entries part) k 0 ≡ get_or part (k - start) 0
  in_part k from to =
      get_or-append_right (take start entries) (part ++ post_of start size entries) start k 0 before from
      ∙ get_or_append_left part (post_of start size entries) 0 (k - start) (omega arith)

  pub beside_part : (k : ℕ) → (k < start) ⊎ (start + size ≤ k)
      → get_or (put_mid start size entries part) k 0 ≡ get_or entries k 0
  beside_part k (inl less) =
      get_or_append_left (take start entries) (part ++ post_of start size entries) 0 k (omega (arith, before))
      ∙ get_or-take start entries k 0 less
  beside_part k (inr more) =
      get_or-append_right (take start entries) (part ++ post_of start size entries) start k 0 before (omega arith)
      ∙ get_or-append_right part (post_of start size entries) size (k - start) 0 long (omega arith)
      ∙ get_or-drop size (drop start entries) (k - start - size) 0 ∙ get_or-drop start entries (size + (k - start - size)) 0
      ∙ ap (λ j. get_or entries j 0) (omega arith)
