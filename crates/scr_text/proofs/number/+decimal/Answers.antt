use Rattle.std.proofs.Common.{◌≡◌, ◌%◌, ◌+◌, ◌≤◌, arith, ap, sym, length}
use Rattle.std.proofs.lemmas.Fmt.{decimal_digit}
use Rattle.std.proofs.lemmas.Str.{encode_ascii}
use Rattle.arrayvec.specs.ArrayString.{array_string_len}
use Rattle.scr_text.proofs.NumberLaws.{length-decimal, decimal-more, length-decimal-more}
use Rattle.scr_text.proofs.number.+decimal.Goals.{then-number-lt10, else-number-lt10}
use Rattle.scr_text.proofs.number.+decimal.Goals as goal

pub push-requires : goal.push-requires
push-requires t c =
    let room : array_string_len c.if-number-lt10.digits ≤ 9 = elim c.if-number-lt10.branch [
      | then-number-lt10 w ↦ rw (w.digits-is, w.new-digits.ensures) (omega arith)
      | else-number-lt10 w ↦ rw w.digits-is (omega (arith, ap length w.decimal-digits.ensures.bytes, length-decimal c.args.number (omega arith), length-decimal-more c.args.number (omega arith) (omega arith)))
    ] in
    rw (encode_ascii (48 + c.args.number % 10) (omega arith)) (omega (arith, room))

pub returns-clause-bytes : goal.returns-clause-bytes
returns-clause-bytes t c = elim c.if-number-lt10.branch [
  | then-number-lt10 w ↦
      let last : c.args.number % 10 ≡ c.args.number = omega (arith, w.if-number-lt10.true) in
      rw (c.push.ensures.ascii (omega arith), w.digits-is, w.new-digits.ensures, last) (sym (decimal_digit c.args.number (omega arith)))
  | else-number-lt10 w ↦ rw (c.push.ensures.ascii (omega arith), w.digits-is, w.decimal-digits.ensures.bytes) (sym (decimal-more c.args.number (omega arith) (omega arith)))
]

pub returns-clause-at_most_ten : goal.returns-clause-at_most_ten
returns-clause-at_most_ten t c = rw (returns-clause-bytes t c) (length-decimal c.args.number (omega arith))
