use Rattle.std.proofs.Common.{◌≡◌, ◌++◌, ◌∙◌, List, ℕ, length, length-append, refl, ap, sum, arith}
use Rattle.std.specs.Prelude.{codes}
use Rattle.std.proofs.lemmas.List.Sums.{sum_by-append}
use Rattle.scr_sheet.proofs.load.size_of.Goals as goal

pub returns-clause-size : goal.returns-clause-size
returns-clause-size c =
    let label : List ℕ = c.args.label.now in
    let text : List ℕ = c.args.text.now in
    let end : List ℕ = codes "\n" in
    let size = length-append (label ++ text) end in
    let size' = length-append label text in
    let one : length end ≡ 1 = refl in
    let added = sum_by-append (λ x. x) (label ++ text) end in
    let added' = sum_by-append (λ x. x) label text in
    let last : sum end ≡ 10 = refl in
    let first : c.sum_of.result ≡ sum label = c.sum_of.ensures.sum ∙ ap sum c.as_bytes.ensures.value in
    let second : c.sum_of-2.result ≡ sum text = c.sum_of-2.ensures.sum ∙ ap sum c.as_bytes-2.ensures.value in
    let feed = c.from.ensures in
    record { counted = omega (arith, size, size', one); added = omega (arith, added, added', last, first, second, feed) }
