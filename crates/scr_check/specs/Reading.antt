-- What a reader of single bytes has taken from its source.
use Rattle.std.specs.Prelude.{ℕ, Bool, true, false, ◌≡◌, ◌≤◌, Option, Some, None, List, [], ◌∷◌}
use Rattle.scr_outside.specs.Bytes.{put_back}
use Rattle.scr_outside.specs.Change.{Change, intake_of, Gives, TellsEnd}
use Rattle.scr_outside.specs.Faults.{Rose}
use Rattle.scr_check.specs.declared.reader.ByteReader.{ByteReader}

-- the bytes that a reader has read ahead, whether its source told its end, and the source
pub record Reading (S : Type 0) : Type 0 where
  pub ahead : List ℕ
  pub ended : Bool
  pub source : S

-- how a reader stands
abbrev pub reading : {S : Type 0} → ByteReader S → Reading S
reading reader = record { ahead = reader.ahead.bytes; ended = reader.ahead.ended; source = reader.source.now }

-- which source it is
abbrev pub source_name : {S : Type 0} → ByteReader S → ℕ
source_name reader = reader.source.ghost_name

-- a reader of which nothing was asked yet
abbrev pub fresh : {S : Type 0} → S → Reading S
fresh source = record { ahead = []; ended = false; source = source }

-- the byte that a call gave, if it gave one
abbrev pub byte_given : Option ℕ → List ℕ
byte_given None = []
byte_given (Some byte) = byte ∷ []

module _ {S : Type 0} (left : S → Option (List ℕ)) (faults ends : S → ℕ) where
  -- the bytes still to come, where the source tells its bytes: those read ahead, and then those that the source has
  -- left
  abbrev pub to_come : Reading S → Option (List ℕ)
  to_come reader = put_back reader.ahead (left reader.source)

  -- what a call changed at a reader
  abbrev pub reading_change : Reading S → Reading S → Change
  reading_change = intake_of to_come (λ reader. faults reader.source) (λ reader. ends reader.source)

  -- The reader gave just these bytes, without a fault. It met the end of input where it says so: the source told it
  -- then, once, or had told it before, and then nothing changed.
  pub record Takes (before after : Reading S) (bytes : List ℕ) : Type 0 where
    pub gives : Gives (reading_change before after) bytes
    pub no_end : after.ended ≡ false → ends after.source ≡ ends before.source
    pub end : before.ended ≡ false → after.ended ≡ true → TellsEnd (reading_change before after) × (after.ahead ≡ [])
    pub nothing_behind : before.ended ≡ true → (after ≡ before) × (bytes ≡ [])

  -- The reader gave these bytes, and then the source failed; the end of input wasn't met.
  pub record StopsShort (before after : Reading S) (bytes : List ℕ) : Type 0 where
    pub gave : to_come before ≡ put_back bytes (to_come after)
    pub rose : Rose (faults before.source) (faults after.source)
    pub never_falls : faults before.source ≤ faults after.source
    pub no_end : ends after.source ≡ ends before.source
    pub open_before : before.ended ≡ false
    pub open_after : after.ended ≡ false
