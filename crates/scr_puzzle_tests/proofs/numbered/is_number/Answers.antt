use Rattle.std.proofs.Common.{sym, subst}
use Rattle.scr_puzzle_tests.proofs.numbered.is_number.Goals as goal

pub number_of-requires : goal.number_of-requires
number_of-requires g c =
    let numbers = c.args.numbers.now in
    subst (g.N.NumberedStates.numbered numbers).IsValid (sym c.state_at-shown.ensures)
    (c.count.ensures.numbering.one_to_one.valid c.args.number c.requires)
