-- What a call changed outside, at a sink or a source: a contract says it in one of these words.
use Rattle.std.specs.Prelude.{ℕ, ◌≡◌, ◌≤◌, Option, List, Result, Ok, Err}
use Rattle.scr_outside.specs.Bytes.{appended, put_back, IsFirstPart, IsSpent}
use Rattle.scr_outside.specs.Faults.{Rose, raised}

-- the bytes that a sink holds, or that a source has left, before and after a call, where it tells them; its count of
-- faults; and how often it told its end, which a sink never does
pub record Change : Type 0 where
  pub bytes_before : Option (List ℕ)
  pub bytes_after : Option (List ℕ)
  pub faults_before : ℕ
  pub faults_after : ℕ
  pub ends_before : ℕ
  pub ends_after : ℕ

-- the change between two states of a source, by what they tell of bytes, of faults and of ends
abbrev pub intake_of : {X : Type 0} → (X → Option (List ℕ)) → (X → ℕ) → (X → ℕ) → X → X → Change
intake_of left faults ends before after = record {
  bytes_before = left before;
  bytes_after = left after;
  faults_before = faults before;
  faults_after = faults after;
  ends_before = ends before;
  ends_after = ends after;
}

-- of a sink, by what they tell of bytes and of faults
abbrev pub change_of : {X : Type 0} → (X → Option (List ℕ)) → (X → ℕ) → X → X → Change
change_of held faults = intake_of held faults (λ sink. 0)

-- nothing was changed
pub record IsUnchanged (change : Change) : Type 0 where
  pub bytes : change.bytes_after ≡ change.bytes_before
  pub faults : change.faults_after ≡ change.faults_before
  pub ends : change.ends_after ≡ change.ends_before

-- the sink gained just these bytes, without a fault
pub record Gains (change : Change) (bytes : List ℕ) : Type 0 where
  pub gained : change.bytes_after ≡ appended change.bytes_before bytes
  pub no_fault : change.faults_after ≡ change.faults_before

-- the sink gained a first part of these bytes, and then its count of faults rose
pub record Falters (change : Change) (bytes : List ℕ) : Type 0 where
  pub part : List ℕ
  pub first : IsFirstPart part bytes
  pub gained : change.bytes_after ≡ appended change.bytes_before part
  pub rose : Rose change.faults_before change.faults_after
  pub never_falls : change.faults_before ≤ change.faults_after

-- the source gave just these bytes, without a fault
pub record Gives (change : Change) (bytes : List ℕ) : Type 0 where
  pub given : change.bytes_before ≡ put_back bytes change.bytes_after
  pub no_fault : change.faults_after ≡ change.faults_before

-- the source told its end, once, and has nothing left, where that is told
pub record TellsEnd (change : Change) : Type 0 where
  pub spent : IsSpent change.bytes_after
  pub once : change.ends_after ≡ raised change.ends_before

-- the count of faults rose, no byte was written or read, and no end was told
pub record Fails (change : Change) : Type 0 where
  pub bytes : change.bytes_after ≡ change.bytes_before
  pub rose : Rose change.faults_before change.faults_after
  pub never_falls : change.faults_before ≤ change.faults_after
  pub no_end : change.ends_after ≡ change.ends_before

-- a text was written, or a first part of it, where the sink failed
abbrev pub Writes : {E : Type 0} → Change → List ℕ → Result (Unit {0}) E → Type 0
Writes change text (Ok _) = Gains change text
Writes change text (Err _) = Falters change text
