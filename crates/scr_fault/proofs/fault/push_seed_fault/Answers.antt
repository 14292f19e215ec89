use Rattle.std.proofs.Common.{append_assoc}
use Rattle.scr_fault.proofs.fault.push_seed_fault.Goals as goal

pub returns-in-Length-clause-bytes : goal.returns-in-Length-clause-bytes
returns-in-Length-clause-bytes c =
    rw (
      c.push_str-in-Length-2.ensures.bytes,
      c.push_str-in-Length.ensures.bytes,
      c.push_str.ensures.bytes,
      c.as_str.ensures.value,
      c.decimal.ensures.bytes,
      c.in-Length.is,
    ) (simp append_assoc)

pub returns-in-Digit-clause-bytes : goal.returns-in-Digit-clause-bytes
returns-in-Digit-clause-bytes c =
    rw (
      c.push_str-in-Digit-2.ensures.bytes,
      c.push_str-in-Digit.ensures.bytes,
      c.as_str-in-Digit.ensures.value,
      c.decimal-in-Digit.ensures.bytes,
      c.in-Digit.is,
    ) (simp append_assoc)
