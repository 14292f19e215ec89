-- What a call that reads a whole input took from its source.
use Rattle.std.specs.Prelude.{ℕ, ◌≡◌, ◌<◌, ◌≤◌, ◌⊎◌, List, length, Result, Ok, Err}
use Rattle.scr_outside.specs.Bytes.{put_back}
use Rattle.scr_outside.specs.Change.{Change, IsUnchanged, Gives, TellsEnd}
use Rattle.scr_outside.specs.Faults.{Rose}
use Rattle.scr_host.specs.declared.fault.Fault.{Fault}
use Rattle.scr_host.specs.declared.fault.Fault.TheVariants as fault

-- an input has at most so many bytes
abbrev pub most_bytes : ℕ
most_bytes = 67108864

-- The source was read to its end, which it told once, and gave these bytes, as many as an input may have.
pub record GivesInput (source : Change) (bytes : List ℕ) : Type 0 where
  pub gives : Gives source bytes
  pub end : TellsEnd source
  pub few : length bytes ≤ most_bytes

-- it gave some bytes, for which this holds, and told no end
pub record GivesSome (source : Change) (Are : List ℕ → Type 0) : Type 0 where
  pub bytes : List ℕ
  pub gives : Gives source bytes
  pub no_end : source.ends_after ≡ source.ends_before
  pub are : Are bytes

-- it gave some bytes, as many as an input may have, and then it failed, before any end
pub record BreaksOff (source : Change) : Type 0 where
  pub bytes : List ℕ
  pub given : source.bytes_before ≡ put_back bytes source.bytes_after
  pub few : length bytes ≤ most_bytes
  pub no_end : source.ends_after ≡ source.ends_before
  pub rose : Rose source.faults_before source.faults_after
  pub never_falls : source.faults_before ≤ source.faults_after

-- the input wasn't read whole, for this cause
abbrev pub GivesNoInput : {Own : Type 0} → Change → Fault Own → Type 0
GivesNoInput source fault.TooLong = GivesSome source (λ bytes. most_bytes < length bytes)
GivesNoInput source fault.Read = BreaksOff source
GivesNoInput source fault.NoMemory = GivesSome source (λ bytes. Unit {0})
GivesNoInput source other = ⊥

-- an input was read, by what the call answers
abbrev pub ReadsInput : {Own : Type 0} → Change → Result (List ℕ) (Fault Own) → Type 0
ReadsInput source (Ok bytes) = GivesInput source bytes
ReadsInput source (Err why) = GivesNoInput source why

-- How a run ends that reads its input: it was read whole, and this comes of it; or it wasn't, and nothing was written.
abbrev pub EndsReading : {X Own : Type 0} → (List ℕ → Change → Result X (Fault Own) → Type 0) → Change → Change
    → Result X (Fault Own) → Type 0
EndsReading {Own = Own} Comes source out ended =
    ((bytes : List ℕ) × GivesInput source bytes × Comes bytes out ended)
    ⊎ ((why : Fault Own) × (ended ≡ Err why) × GivesNoInput source why × IsUnchanged out)
