use Rattle.std.proofs.Common.{◌≡◌, ℕ, ◌<◌, ◌≤◌, length, get_or, sum, arith, rules}
use Rattle.std.proofs.iter.runs.Sources.{sums}
use Rattle.std.proofs.lemmas.List.Elements.{All-from_get_or}
use Rattle.std.proofs.lemmas.List.Sums.{sum_by-le}
use Rattle.scr_sheet.proofs.load.sum_of.Goals as goal

pub sum-requires-clause-fits : goal.sum-requires-clause-fits
sum-requires-clause-fits c = search (rules, sums)

pub returns-clause-low : goal.returns-clause-low
returns-clause-low c =
    let bytes = c.args.bytes.now in
    let added : c.sum.result ≡ sum bytes = search (rules, sums) in
    let byte : (i : ℕ) → i < length bytes → get_or bytes i 0 ≤ 255 = λ i there. let fits = c.type_inv.bytes i in omega (arith, fits) in
    let low = sum_by-le (λ b. b) 255 bytes (All-from_get_or (λ b. b ≤ 255) bytes 0 byte) in
    omega (arith, added, low)
