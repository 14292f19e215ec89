use Rattle.std.proofs.Common.{sym, ◌∙◌, arith}
use Rattle.std.specs.Prelude.{option_copied}
use Rattle.scr_text.specs.Parts.{more_lines}
use Rattle.scr_list.proofs.RoundFacts.{most_rounds-le, most_bytes-le, answer-IsRounds, answer-not_Read}
use Rattle.scr_list.proofs.RoundLemmas.{rounds_of-long, rounds_of-told, rounds_of-untold, left-few}
use Rattle.scr_list.proofs.grammar.rounds_of.Goals as goal

pub returns-then-bytes-version-clause-answer : goal.returns-then-bytes-version-clause-answer
returns-then-bytes-version-clause-answer c = grind (arith, rounds_of-long)

pub rounds_of_lines-requires-clause-room : goal.rounds_of_lines-requires-clause-room
rounds_of_lines-requires-clause-room c = grind (arith, most_rounds-le)

pub rounds_of_lines-requires-clause-short : goal.rounds_of_lines-requires-clause-short
rounds_of_lines-requires-clause-short c = grind (arith, most_bytes-le, left-few)

pub rounds_of_lines-requires-else-version-clause-room : goal.rounds_of_lines-requires-else-version-clause-room
rounds_of_lines-requires-else-version-clause-room c = grind (arith, most_rounds-le)

pub rounds_of_lines-requires-else-version-clause-short : goal.rounds_of_lines-requires-else-version-clause-short
rounds_of_lines-requires-else-version-clause-short c = grind (arith, most_bytes-le)

pub returns-then-version : goal.returns-then-version
returns-then-version c =
    let answer =
    c.rounds_of_lines.ensures
    ∙ sym
    (rounds_of-told c.args.bytes.now c.version_of-version.result _ (more_lines (option_copied c.split_line.result.1)) (sym c.version_of-version.ensures)
    (omega arith) c.if-version.true c.split_line.ensures.lines)
    in
    record {
      answer = answer;
      rounds = answer-IsRounds c.args.bytes.now c.rounds_of_lines.result answer;
      no_read = answer-not_Read c.args.bytes.now c.rounds_of_lines.result answer;
    }

pub returns-else-version : goal.returns-else-version
returns-else-version c =
    let answer =
    c.rounds_of_lines-else-version.ensures
    ∙ sym (rounds_of-untold c.args.bytes.now c.version_of-version.result (sym c.version_of-version.ensures) (omega arith) c.if-version.false)
    in
    record {
      answer = answer;
      rounds = answer-IsRounds c.args.bytes.now c.rounds_of_lines-else-version.result answer;
      no_read = answer-not_Read c.args.bytes.now c.rounds_of_lines-else-version.result answer;
    }
