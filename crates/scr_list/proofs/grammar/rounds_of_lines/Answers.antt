use Rattle.std.proofs.Common.{Ok, Some, ap, ◌∙◌, arith}
use Rattle.scr_list.proofs.RoundFacts.{round_of_line-IsPlaced}
use Rattle.scr_list.proofs.RoundLemmas.{read_on-start, read_on-none, read_on-round, read_on-fault, left_of, left_of-few, left_of-shorter, at_line, at_end, named_at}
use Rattle.scr_list.proofs.grammar.rounds_of_lines.Goals as goal
use Rattle.scr_list.proofs.grammar.rounds_of_lines.Goals.{in-Some-named, in_default-named}

pub lines-init : goal.lines-init
lines-init c = grind (arith, read_on-start, left_of-few)

pub push-requires : goal.push-requires
push-requires c =
    let named =
    named_at c.args.version c.lines.rounds.items c.len.result c.split_line.result.0.now c.round_of_line.result (Ok (Some c.in-Some-named.round))
    c.len.ensures.value c.round_of_line.ensures (c.in-Ok.is ∙ ap Ok c.in-Some-named.is)
    in
    let few = (round_of_line-IsPlaced c.args.version _ _ c.in-Some-named.round named).few in
    omega (arith, few, c.requires.room)

pub returns-in-Err : goal.returns-in-Err
returns-in-Err c = grind (arith, named_at, at_line, read_on-fault)

pub lines-preserved : goal.lines-preserved
lines-preserved c =
    grind (
      arith,
      at_line,
      named_at,
      in-Some-named,
      read_on-round,
      in_default-named,
      read_on-none,
      left_of-shorter,
      left_of,
    )

pub returns : goal.returns
returns c = grind (arith, at_end)
