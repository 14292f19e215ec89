-- What a call that reads a round list took from its source.
use Rattle.std.specs.Prelude.{ℕ, ◌≡◌, ◌≤◌, ◌+◌, List, length, Result, Ok, Err}
use Rattle.arrayvec.specs.ArrayVec.{ArrayVec}
use Rattle.scr_outside.specs.Bytes.{put_back}
use Rattle.scr_outside.specs.Change.{Change, Gives, TellsEnd}
use Rattle.scr_outside.specs.Faults.{Rose}
use Rattle.scr_list.specs.declared.round.Round.{Round}
use Rattle.scr_list.specs.declared.fault.ListFault.{ListFault}
use Rattle.scr_list.specs.declared.fault.ListFault.TheVariants.{TooLong, Line, Read}
use Rattle.scr_list.specs.Versions.{version_of}
use Rattle.scr_list.specs.Rounds.{rounds_of}

-- the rounds of an answer as a list
abbrev pub listed : Result (ArrayVec Round) ListFault → Result (List Round) ListFault
listed (Ok rounds) = Ok rounds.items
listed (Err fault) = Err fault

-- at so many bytes the reading of a list of their version ends: one more than it may have
abbrev pub most_read : List ℕ → ℕ
most_read bytes = (version_of bytes).most_bytes + 1

-- The source was read to the end of input, which it told once, and no read failed: its bytes are a list that says this.
pub record ReadsList (change : Change) (answer : Result (List Round) ListFault) : Type 0 where
  pub bytes : List ℕ
  pub gives : Gives change bytes
  pub end : TellsEnd change
  pub says : rounds_of bytes ≡ answer

-- as many bytes were read as tell that a list of their version, which may have so many, is too long, before any end and
-- without a fault
pub record ReadsTooMany (change : Change) (limit : ℕ) : Type 0 where
  pub bytes : List ℕ
  pub gives : Gives change bytes
  pub no_end : change.ends_after ≡ change.ends_before
  pub most : limit ≡ (version_of bytes).most_bytes
  pub many : length bytes ≡ limit + 1

-- some bytes were read, so many at most, and then the source failed, before any end
pub record ReadsInPart (change : Change) (most : List ℕ → ℕ) : Type 0 where
  pub bytes : List ℕ
  pub given : change.bytes_before ≡ put_back bytes change.bytes_after
  pub few : length bytes ≤ most bytes
  pub no_end : change.ends_after ≡ change.ends_before
  pub rose : Rose change.faults_before change.faults_after
  pub never_falls : change.faults_before ≤ change.faults_after

-- why no list was read
abbrev pub ReadsNoList : Change → ListFault → Type 0
ReadsNoList change (TooLong limit) = ReadsTooMany change limit
ReadsNoList change (Line number cause) = ReadsList change (Err (Line number cause))
ReadsNoList change Read = ReadsInPart change most_read
