-- A source over borrowed bytes as contracts see it.
use Rattle.std.specs.Prelude.{ℕ, Some, List, drop}
use Rattle.scr_outside.specs.Change.{Change, intake_of}
use Rattle.scr_outside.specs.Faults.{ends_told}

-- the bytes that it has left, and how often it told its end
pub record SliceLeft : Type 0 where
  pub left : List ℕ
  pub ends : ℕ

-- what a call changed at it: it never fails
abbrev pub slice_change : SliceLeft → SliceLeft → Change
slice_change = intake_of (λ s. Some s.left) (λ _. 0) (λ s. s.ends)

-- after a read that gave its next n bytes
abbrev pub slice_after : SliceLeft → ℕ → SliceLeft
slice_after s n = record { left = drop n s.left; ends = ends_told n s.ends }
