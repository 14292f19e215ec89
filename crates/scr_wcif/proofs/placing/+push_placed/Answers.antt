use Rattle.std.proofs.Common.{◌-◌, take, drop, length}
use Rattle.std.proofs.Common.{rules}
use Rattle.std.specs.Prelude.{All}
use Rattle.scr_wcif.specs.Sets.{RoundHasNumbers, SetsHaveNumbers}
use Rattle.scr_wcif.proofs.StepLemmas.{all-added, all-rest}
use Rattle.scr_wcif.proofs.placing.+push_placed.Goals as goal

pub push_placed-requires-in-len1-up-sheet : goal.push_placed-requires-in-len1-up-sheet
push_placed-requires-in-len1-up-sheet t c =
    let sheet = c.args.sheet.now in
    let numbers : All RoundHasNumbers (take (length sheet - 1) (drop 1 sheet)) = all-rest RoundHasNumbers sheet c.in-len1-up-sheet.len_at_least c.requires.numbers in
    let so_far : All SetsHaveNumbers c.add.new.items.items =
    all-added SetsHaveNumbers c.args.placed.now.items c.add.new.items.items c.in_ok-sets-in-len1-up-sheet.sets
    c.in_ok-sets-in-len1-up-sheet.ensures.numbers c.requires.so_far c.in_ok-add-in-len1-up-sheet.ensures in
    search rules
