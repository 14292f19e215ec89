use Rattle.std.proofs.Common.{sym, subst}
use Rattle.scr_wcif.specs.declared.command.Command.{Command}
use Rattle.scr_wcif.specs.Outcome.{ComesTo, ComesToNothing}
use Rattle.scr_wcif.specs.Made.{Makes}
use Rattle.scr_wcif.proofs.made.made_of.Goals as goal

pub returns-in-List : goal.returns-in-List
returns-in-List c =
    let input = c.args.input.now in
    let P : Command → Type 0 = λ command. Makes (ComesTo command input) (ComesToNothing command input) c.list_of_bytes.result in
    subst P (sym c.in-List.is) c.list_of_bytes.ensures

pub returns-in-Fill : goal.returns-in-Fill
returns-in-Fill c =
    let input = c.args.input.now in
    let P : Command → Type 0 = λ command. Makes (ComesTo command input) (ComesToNothing command input) c.filled_text.result in
    subst P (sym c.in-Fill.is) c.filled_text.ensures
