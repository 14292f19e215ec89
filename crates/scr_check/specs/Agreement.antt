-- When a sheet agrees with what is expected, and which line is the first at fault.
use Rattle.std.specs.Prelude.{ℕ, zero, suc, Bool, true, ◌≡◌, ◌<◌, ◌≤◌, Option, Some, None, List}
use Rattle.std.specs.Prelude.{Result, Ok, Err, length, slice_get, MatchOption, IsSomeAnd}
use Rattle.scr_check.specs.declared.fault.Missing.{Missing}
use Rattle.scr_check.specs.declared.fault.CheckFault.{CheckFault}
use Rattle.scr_check.specs.declared.fault.CheckFault.TheVariants.{Differs, Limit, Read}
use Rattle.scr_check.specs.Lines.{CutLine}

-- No text that agrees with a line has more bytes. The number is our own choice.
abbrev pub most_bytes : ℕ
most_bytes = 1300

-- how many lines are expected, and what is an answer for a line, from 1, and a text: whether they agree, or that the
-- line is that of a slot which is missing
pub record ExpectedLines : Type 1 where
  pub count : ℕ
  pub IsAnswer : ℕ → List ℕ → Result Bool Missing → Type 0

-- line i is expected
abbrev pub IsExpected : ExpectedLines → ℕ → Type 0
IsExpected expected i = (1 ≤ i) × (i ≤ expected.count)

-- What must hold of the lines that are expected: a line and a text have one answer at most; no long text agrees; and
-- whether a slot is missing, and which, depends on the line alone.
pub record AreLawful (expected : ExpectedLines) : Type 0 where
  pub one : (i : ℕ) (text : List ℕ) (one other : Result Bool Missing) →
      expected.IsAnswer i text one → expected.IsAnswer i text other → one ≡ other
  pub short : (i : ℕ) (text : List ℕ) → expected.IsAnswer i text (Ok true) → length text ≤ most_bytes
  pub by_line : (i : ℕ) (text other : List ℕ) (missing : Missing) →
      expected.IsAnswer i text (Err missing) → expected.IsAnswer i other (Err missing)

-- each line that is expected has an answer for each text
abbrev pub HaveAnswers : ExpectedLines → Type 0
HaveAnswers expected =
    (i : ℕ) (text : List ℕ) → IsExpected expected i → (answer : Result Bool Missing) × expected.IsAnswer i text answer

-- line i of a sheet, counted from 1
abbrev pub line_at : List CutLine → ℕ → Option CutLine
line_at lines zero = None
line_at lines (suc i) = slice_get lines i

-- a line of a sheet agrees with line i: a line feed ends it, and its bytes agree
abbrev pub LineAgrees : ExpectedLines → ℕ → CutLine → Type 0
LineAgrees expected i line = (line.ended ≡ true) × expected.IsAnswer i line.bytes (Ok true)

-- each of a sheet's lines agrees with that of its number
abbrev pub AllAgree : ExpectedLines → List CutLine → Type 0
AllAgree expected lines = (i : ℕ) (line : CutLine) → line_at lines i ≡ Some line → LineAgrees expected i line

-- both have a line i, and it is that of this slot, which is missing
abbrev pub Lacks : ExpectedLines → List CutLine → ℕ → Missing → Type 0
Lacks expected lines i missing =
    IsExpected expected i × IsSomeAnd (line_at lines i) (λ line. expected.IsAnswer i line.bytes (Err missing))

-- Line i is in order: neither of the two has it; or both have it, they agree, and its slot isn't missing.
abbrev pub IsInOrder : ExpectedLines → List CutLine → ℕ → Type 0
IsInOrder expected lines i =
    MatchOption (line_at lines i) (IsExpected expected i → ⊥) (λ l. IsExpected expected i × LineAgrees expected i l
    × ((missing : Missing) → expected.IsAnswer i l.bytes (Err missing) → ⊥))

-- line i is the first at fault: it isn't in order, and those before it are
pub record IsFirstAtFault (expected : ExpectedLines) (lines : List CutLine) (i : ℕ) : Type 0 where
  pub at_fault : IsInOrder expected lines i → ⊥
  pub none_before : (j : ℕ) → j < i → IsInOrder expected lines j

-- What a check of a sheet's lines comes to: nothing where no line is at fault, and else what the first such line tells,
-- which is that its slot is missing, where that is so, or that it differs.
abbrev pub ComesTo : ExpectedLines → List CutLine → Result (Unit {0}) CheckFault → Type 0
ComesTo expected lines (Ok _) = (i : ℕ) → IsInOrder expected lines i
ComesTo expected lines (Err (Differs i)) =
    IsFirstAtFault expected lines i × ((missing : Missing) → Lacks expected lines i missing → ⊥)
ComesTo expected lines (Err (Limit missing)) =
    (i : ℕ) × IsFirstAtFault expected lines i × Lacks expected lines i missing
ComesTo expected lines (Err Read) = ⊥
