-- Sources and sinks in memory. Calls are numbered from 1 on, and some numbers stand in a list of calls that fail.
use Rattle.std.specs.Prelude.{ℕ, ◌≤◌, ◌⊎◌, Some, List, drop, length, Contains}
use Rattle.scr_outside.specs.Change.{Change, change_of, intake_of}
use Rattle.scr_outside.specs.Faults.{raised, ends_told}

-- the calls of a source or a sink: which fail, how many there were, and how many failed; both counts stay at 2 ^ 64 - 1
pub record CallsMade : Type 0 where
  pub fails : List ℕ
  pub made : ℕ
  pub faults : ℕ

-- no call so far
abbrev pub no_calls : List ℕ → CallsMade
no_calls fails = record { fails = fails; made = 0; faults = 0 }

-- one call more
abbrev pub one_more : CallsMade → CallsMade
one_more calls = record calls { made = raised calls.made }

-- one that failed
abbrev pub failed : CallsMade → CallsMade
failed calls = record calls { faults = raised calls.faults }

-- the next call is one of those that fail
abbrev pub NextFails : CallsMade → Type 0
NextFails calls = Contains calls.fails (raised calls.made)

-- a source: the bytes that it has left, at most how many it gives at once, how often it told its end, and its calls
pub record SourceMemory : Type 0 where
  pub left : List ℕ
  pub most : ℕ
  pub ends : ℕ
  pub calls : CallsMade

-- a sink: the bytes that it holds, for how many it has room, at most how many it takes at once, and its calls
pub record SinkMemory : Type 0 where
  pub held : List ℕ
  pub room : ℕ
  pub most : ℕ
  pub calls : CallsMade

-- what a call changed at a source, and at a sink
abbrev pub source_change : SourceMemory → SourceMemory → Change
source_change = intake_of (λ s. Some s.left) (λ s. s.calls.faults) (λ s. s.ends)

abbrev pub sink_change : SinkMemory → SinkMemory → Change
sink_change = change_of (λ s. Some s.held) (λ s. s.calls.faults)

-- the next read fails
abbrev pub ReadFails : SourceMemory → Type 0
ReadFails s = NextFails s.calls

-- the next write fails
abbrev pub WriteFails : SinkMemory → Type 0
WriteFails s = NextFails s.calls ⊎ (s.room ≤ length s.held)

-- a source after a read that gave its next n bytes
abbrev pub after_read : SourceMemory → ℕ → SourceMemory
after_read s n = record s { left = drop n s.left; ends = ends_told n s.ends; calls = one_more s.calls }

-- a source after a read that failed
abbrev pub after_failed_read : SourceMemory → SourceMemory
after_failed_read s = record s { calls = failed (one_more s.calls) }

-- a sink after a write, with these bytes
abbrev pub after_write : SinkMemory → List ℕ → SinkMemory
after_write s held = record s { held = held; calls = one_more s.calls }

-- a sink after a write that failed
abbrev pub after_failed_write : SinkMemory → SinkMemory
after_failed_write s = record s { calls = failed (one_more s.calls) }
