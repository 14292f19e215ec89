use Rattle.std.proofs.Common.{sym, ap, ◌∙◌, arith}
use Rattle.scr_combinatorics.proofs.PowerLetterLaws.{letter_is, barred_generator}
use Rattle.scr_notation.proofs.turned.after.Goals as goal

pub returns-then-generator-GENERATORS : goal.returns-then-generator-GENERATORS
returns-then-generator-GENERATORS g c =
    let letter = letter_is g.S.Kind.Letters.letters c.are_numbered.ensures c.args.letter c.in_ok-generator.generator c.in_ok-generator.exponent c.in_ok-generator.ensures.exact in
    sym (ap (g.S.PowerTurned.after c.args.state.now) (sym letter) ∙ c.turn.ensures)

pub returns-else-generator-GENERATORS : goal.returns-else-generator-GENERATORS
returns-else-generator-GENERATORS g c =
    sym (g.met.S.PowerTurned.generators.barred c.args.state.now c.args.letter
    (barred_generator g.S.Kind.Letters.letters c.args.letter c.in_ok-generator.generator c.in_ok-generator.exponent
    g.S.PowerTurned.GENERATORS c.in_ok-generator.ensures.exact (omega arith)))
