-- What the calls took from their reader. Each answer but that of a fault says what is so of the bytes that were taken
-- and of all that may follow them.
use Rattle.std.specs.Prelude.{ℕ, Bool, true, ◌≡◌, ◌≤◌, ◌<◌, ◌+◌, Option, Some, None, List, [], ◌∷◌, ◌++◌, length, take}
use Rattle.std.specs.Prelude.{Result, Ok, Err}
use Rattle.scr_check.specs.declared.fault.Missing.{Missing}
use Rattle.scr_check.specs.declared.fault.CheckFault.{CheckFault}
use Rattle.scr_check.specs.declared.fault.CheckFault.TheVariants.{Differs, Limit, Read}
use Rattle.scr_check.specs.Lines.{CutLine, cut_lines, line_end, IsPlain}
use Rattle.scr_check.specs.Parts.{list_part, sheet_part, list_room}
use Rattle.scr_check.specs.Reading.{Reading, Takes, StopsShort}
use Rattle.scr_check.specs.Agreement.{ExpectedLines, most_bytes, LineAgrees, AllAgree, line_at, ComesTo}

-- these bytes may follow those that were taken: none, where the end of input was met
abbrev pub CanFollow : Bool → List ℕ → Type 0
CanFollow ended rest = ended ≡ true → rest ≡ []

-- This is the list part of an input, or its first bytes where it has more than are given; and where it has fewer, this
-- is the sheet part.
pub record IsSplit (input list sheet : List ℕ) : Type 0 where
  pub list_is : take list_room (list_part input) ≡ list
  pub sheet_is : length list < list_room → sheet_part input ≡ sheet

-- bytes of one line, so many at most: a line feed stands among them as the last byte only
pub record AreOfOneLine (most : ℕ) (bytes : List ℕ) : Type 0 where
  pub text : List ℕ
  pub ended : Bool
  pub plain : IsPlain text
  pub parts : bytes ≡ text ++ line_end ended
  pub few : length bytes ≤ most

-- lines that agree were taken, and at most so many bytes of the line after them
pub record AreTakenByLines (expected : ExpectedLines) (most : ℕ) (bytes : List ℕ) : Type 0 where
  pub whole : List ℕ
  pub part : List ℕ
  pub parts : bytes ≡ whole ++ part
  pub agree : AllAgree expected (cut_lines whole)
  pub one_line : AreOfOneLine most part

-- its slot is missing
abbrev pub IsMissing : ExpectedLines → ℕ → CutLine → Missing → Type 0
IsMissing expected i line missing = expected.IsAnswer i line.bytes (Err missing)

-- what a check of line i comes to, where the sheet has this in its place
abbrev pub LineComesTo : ExpectedLines → ℕ → Option CutLine → CheckFault → Type 0
LineComesTo expected i None fault = fault ≡ Differs i
LineComesTo expected i (Some line) (Differs j) =
    (j ≡ i) × (LineAgrees expected i line → ⊥) × ((missing : Missing) → IsMissing expected i line missing → ⊥)
LineComesTo expected i (Some line) (Limit missing) = IsMissing expected i line missing
LineComesTo expected i (Some line) Read = ⊥

module _ {S : Type 0} (left : S → Option (List ℕ)) (faults ends : S → ℕ) where
  -- this list part was taken
  pub record TakesListPart (before after : Reading S) (list : List ℕ) : Type 0 where
    pub bytes : List ℕ
    pub takes : Takes left faults ends before after bytes
    pub split : (rest : List ℕ) → CanFollow after.ended rest → IsSplit (bytes ++ rest) list rest

  -- some bytes were taken, and then the source failed
  pub record StopsInPart (before after : Reading S) : Type 0 where
    pub bytes : List ℕ
    pub stops : StopsShort left faults ends before after bytes

  -- ---- a line

  -- a line was taken which agrees
  pub record TakesGoodLine (before after : Reading S) (expected : ExpectedLines) (i : ℕ) : Type 0 where
    pub text : List ℕ
    pub takes : Takes left faults ends before after (text ++ 10 ∷ [])
    pub plain : IsPlain text
    pub agrees : expected.IsAnswer i text (Ok true)

  -- as much of a line was taken as tells that it is at fault
  pub record TakesBadLine (before after : Reading S) (expected : ExpectedLines) (i : ℕ) (fault : CheckFault) : Type 0 where
    pub bytes : List ℕ
    pub takes : Takes left faults ends before after bytes
    pub one_line : AreOfOneLine (most_bytes + 1) bytes
    pub comes_to : (rest : List ℕ) → CanFollow after.ended rest →
        LineComesTo expected i (line_at (cut_lines (bytes ++ rest)) 1) fault

  -- a part of a line was taken, and then the source failed
  pub record StopsInLine (before after : Reading S) : Type 0 where
    pub bytes : List ℕ
    pub stops : StopsShort left faults ends before after bytes
    pub one_line : AreOfOneLine (most_bytes + 1) bytes

  abbrev pub ChecksLine : Reading S → Reading S → ExpectedLines → ℕ → Result (Unit {0}) CheckFault → Type 0
  ChecksLine before after expected i (Ok _) = TakesGoodLine before after expected i
  ChecksLine before after expected i (Err (Differs j)) = TakesBadLine before after expected i (Differs j)
  ChecksLine before after expected i (Err (Limit missing)) = TakesBadLine before after expected i (Limit missing)
  ChecksLine before after expected i (Err Read) = StopsInLine before after

  -- ---- a sheet

  -- as much of a sheet was taken as tells that a check of it comes to this
  pub record TakesSheet (before after : Reading S) (expected : ExpectedLines) (answer : Result (Unit {0}) CheckFault) : Type 0 where
    pub bytes : List ℕ
    pub takes : Takes left faults ends before after bytes
    pub by_lines : AreTakenByLines expected (most_bytes + 1) bytes
    pub comes_to : (rest : List ℕ) → CanFollow after.ended rest → ComesTo expected (cut_lines (bytes ++ rest)) answer

  -- a part of a sheet was taken, and then the source failed
  pub record StopsInSheet (before after : Reading S) (expected : ExpectedLines) : Type 0 where
    pub bytes : List ℕ
    pub stops : StopsShort left faults ends before after bytes
    pub by_lines : AreTakenByLines expected (most_bytes + 1) bytes

  -- what a check took: all that there is, where it found no line at fault
  abbrev pub ChecksSheet : Reading S → Reading S → ExpectedLines → Result (Unit {0}) CheckFault → Type 0
  ChecksSheet before after expected (Ok done) = TakesSheet before after expected (Ok done) × (after.ended ≡ true)
  ChecksSheet before after expected (Err (Differs i)) = TakesSheet before after expected (Err (Differs i))
  ChecksSheet before after expected (Err (Limit missing)) = TakesSheet before after expected (Err (Limit missing))
  ChecksSheet before after expected (Err Read) = StopsInSheet before after expected
