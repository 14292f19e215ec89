use Rattle.std.proofs.Common.{◌≡◌, ℕ, List, [], ◌∷◌, ◌++◌, length}
use Rattle.std.specs.Prelude.{codes, sum_by}
use Rattle.scr_round.specs.Round.{slots_of}
use Rattle.std.specs.Fmt.{decimal}
use Rattle.std.proofs.lemmas.Result.{err_from_is_err_and}
use Rattle.scr_outside.proofs.ChangeLemmas.{written-none, written-more, written-part, written-last, written-at}
use Rattle.scr_text.specs.Lines.{text_of_lines}
use Rattle.scr_text.proofs.WrittenLines.{first_line}
use Rattle.scr_sheet.proofs.load.write_size.Goals as goal

-- the last line, the last two, the last three
abbrev sum_line : ℕ → List (List ℕ)
sum_line total = (codes "sum " ++ decimal total) ∷ []

abbrev bytes_lines : ℕ → ℕ → List (List ℕ)
bytes_lines bytes total = (codes "bytes " ++ decimal bytes) ∷ sum_line total

abbrev scrambles_lines : ℕ → ℕ → ℕ → List (List ℕ)
scrambles_lines scrambles bytes total = (codes "scrambles " ++ decimal scrambles) ∷ bytes_lines bytes total

-- a line of a number before others
line_first : (label : List ℕ) (number : ℕ) (others : List (List ℕ))
    → text_of_lines ((label ++ decimal number) ∷ others) ≡ ((label ++ decimal number) ++ codes "\n") ++ text_of_lines others
line_first label number others = first_line (label ++ decimal number) others

pub returns-in_err-write_number : goal.returns-in_err-write_number
returns-in_err-write_number g c = λ sheet amounts.
    let rounds = length c.args.rounds.now in
    let scrambles = sum_by slots_of c.args.rounds.now in
    let p = err_from_is_err_and c.from_residual.result c.from_residual.ensures.1 in
    let one = line_first (codes "rounds ") rounds (scrambles_lines scrambles c.args.size.bytes c.args.size.sum) in
    rw (p.1, ← amounts.counted, ← amounts.added) (written-part _ (written-at one written-none) c.in_err-write_number.ensures)

pub returns-in_err-write_number-2 : goal.returns-in_err-write_number-2
returns-in_err-write_number-2 g c = λ sheet amounts.
    let rounds = length c.args.rounds.now in
    let scrambles = c.slots_of_all.result in
    let p = err_from_is_err_and c.from_residual-in_err-write_number-2.result c.from_residual-in_err-write_number-2.ensures.1 in
    let one = line_first (codes "rounds ") rounds (scrambles_lines scrambles c.args.size.bytes c.args.size.sum) in
    let two = line_first (codes "scrambles ") scrambles (bytes_lines c.args.size.bytes c.args.size.sum) in
    rw (p.1, ← amounts.counted, ← amounts.added, ← c.slots_of_all.ensures)
    (written-part _ (written-at two (written-more (written-at one written-none) c.in_ok-write_number.ensures)) c.in_err-write_number-2.ensures)

pub returns-in_err-write_number-3 : goal.returns-in_err-write_number-3
returns-in_err-write_number-3 g c = λ sheet amounts.
    let rounds = length c.args.rounds.now in
    let scrambles = c.slots_of_all.result in
    let p = err_from_is_err_and c.from_residual-in_err-write_number-3.result c.from_residual-in_err-write_number-3.ensures.1 in
    let one = line_first (codes "rounds ") rounds (scrambles_lines scrambles c.args.size.bytes c.args.size.sum) in
    let two = line_first (codes "scrambles ") scrambles (bytes_lines c.args.size.bytes c.args.size.sum) in
    let three = line_first (codes "bytes ") c.args.size.bytes (sum_line c.args.size.sum) in
    let before = written-more (written-at one written-none) c.in_ok-write_number.ensures in
    rw (p.1, ← amounts.counted, ← amounts.added, ← c.slots_of_all.ensures)
    (written-part _ (written-at three (written-more (written-at two before) c.in_ok-write_number-2.ensures)) c.in_err-write_number-3.ensures)

pub returns : goal.returns
returns g c = λ sheet amounts.
    let rounds = length c.args.rounds.now in
    let scrambles = c.slots_of_all.result in
    let one = line_first (codes "rounds ") rounds (scrambles_lines scrambles c.args.size.bytes c.args.size.sum) in
    let two = line_first (codes "scrambles ") scrambles (bytes_lines c.args.size.bytes c.args.size.sum) in
    let three = line_first (codes "bytes ") c.args.size.bytes (sum_line c.args.size.sum) in
    let before = written-more (written-at one written-none) c.in_ok-write_number.ensures in
    rw (← amounts.counted, ← amounts.added, ← c.slots_of_all.ensures)
    (written-last _ _ c.write_number-4.result
    (written-more (written-at three (written-more (written-at two before) c.in_ok-write_number-2.ensures)) c.in_ok-write_number-3.ensures)
    c.write_number-4.ensures)
