-- What contracts see of an adapter: the reader or writer inside, how often it failed, and how often it told its end,
-- which a writer never does.
use Rattle.std.specs.Prelude.{ℕ, None}
use Rattle.scr_outside.specs.Change.{Change, change_of, intake_of}

pub record Adapted (X : Type 0) : Type 0 where
  pub inner : X
  pub faults : ℕ
  pub ends : ℕ

-- what a call changed at an adapter, which tells no bytes: of a reader, and of a writer
abbrev pub reader_change : {X : Type 0} → Adapted X → Adapted X → Change
reader_change = intake_of (λ _. None) (λ adapter. adapter.faults) (λ adapter. adapter.ends)

abbrev pub writer_change : {X : Type 0} → Adapted X → Adapted X → Change
writer_change = change_of (λ _. None) (λ adapter. adapter.faults)
