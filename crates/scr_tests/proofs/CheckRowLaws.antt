-- What holds of the sheets that the tests expect.
use Rattle.std.proofs.Common.{ℕ, ◌≡◌, ◌≤◌, ◌∙◌, Bool, true, false, cond, List, [], length, Ok, Err, sym, arith}
use Rattle.std.specs.Prelude.{nat_eq, codes, bytes_eq}
use Rattle.std.proofs.lemmas.Slice.Eq.{bytes_eq-Decides}
use Rattle.scr_check.specs.declared.fault.Missing.{Missing}
use Rattle.scr_check.specs.Agreement.{AreLawful}
use Rattle.scr_tests.specs.CheckRows.{wanted, answered, row_lines}

short : (last : Bool) → length (cond last [] (codes "ab")) ≤ 1300
short true = omega arith
short false = omega arith

-- no long text agrees
short-by : (count line : ℕ) (text : List ℕ) (there : Bool)
    → Ok true ≡ answered there line (bytes_eq text (wanted count line)) → length text ≤ 1300
short-by count line text true agrees = absurd (cc)
short-by count line text false agrees =
    let same : bytes_eq text (wanted count line) ≡ true = cc in
    rw ((bytes_eq-Decides text (wanted count line)).0 same) (short (nat_eq line count))

-- whether the slot is missing depends on the line alone
by-line-by : (count line : ℕ) (text other : List ℕ) (there : Bool) (missing : Missing) →
    Err missing ≡ answered there line (bytes_eq text (wanted count line)) → Err missing ≡ answered there line (bytes_eq other (wanted count line))
by-line-by count line text other true missing lacks = lacks
by-line-by count line text other false missing lacks = absurd (cc)

pub rows-lawful : (count missing : ℕ) → AreLawful (row_lines count missing)
rows-lawful count missing = record {
  one = λ line text one other is also. is ∙ sym also;
  short = λ line text agrees. short-by count line text (nat_eq line missing) agrees;
  by_line = λ line text other lacking is. by-line-by count line text other (nat_eq line missing) lacking is;
}
