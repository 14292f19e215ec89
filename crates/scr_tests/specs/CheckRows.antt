-- The sheets that the tests expect: each line is `ab`, but the last, which is empty; the slot of one may be missing.
use Rattle.std.specs.Prelude.{ℕ, ◌≡◌, Bool, true, false, cond, nat_eq, List, [], codes, Result, Ok, Err, bytes_eq}
use Rattle.scr_check.specs.declared.fault.Missing.{Missing}
use Rattle.scr_check.specs.Agreement.{ExpectedLines}

-- the text of a line, where so many lines are expected
abbrev pub wanted : ℕ → ℕ → List ℕ
wanted count line = cond (nat_eq line count) [] (codes "ab")

-- what is answered where a slot is missing, or else whether a text agrees
abbrev pub answered : Bool → ℕ → Bool → Result Bool Missing
answered true line agrees = Err (record { round = 1; slot = line; words = 3 })
answered false line agrees = Ok agrees

-- what is answered for a line and a text, where the slot of this line is missing
abbrev pub row_answer : ℕ → ℕ → ℕ → List ℕ → Result Bool Missing
row_answer count missing line text = answered (nat_eq line missing) line (bytes_eq text (wanted count line))

-- so many lines, where the slot of this one is missing
abbrev pub row_lines : ℕ → ℕ → ExpectedLines
row_lines count missing = record {
  count = count;
  IsAnswer = λ line text answer. answer ≡ row_answer count missing line text;
}
