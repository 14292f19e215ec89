use Rattle.std.proofs.Common.{append_assoc}
use Rattle.scr_fault.proofs.fault.push_list.Goals as goal

pub returns-in-TooLong-clause-bytes : goal.returns-in-TooLong-clause-bytes
returns-in-TooLong-clause-bytes c =
    rw (
      c.push_str-in-TooLong-3.ensures.bytes,
      c.push_str-in-TooLong-2.ensures.bytes,
      c.push_str-in-TooLong.ensures.bytes,
      c.as_str.ensures.value,
      c.decimal.ensures.bytes,
      c.in-TooLong.is,
    ) (simp append_assoc)
