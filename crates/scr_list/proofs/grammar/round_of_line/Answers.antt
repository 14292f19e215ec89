use Rattle.std.proofs.Common.{refl, arith, rules}
use Rattle.std.specs.Prelude.{option_copied}
use Rattle.std.proofs.lemmas.Result.{err_from_is_err_and}
use Rattle.scr_list.proofs.RoundLemmas.{round_of_words-by, round_of_words-named}
use Rattle.scr_list.proofs.grammar.round_of_line.Goals as goal

pub returns-in-None : goal.returns-in-None
returns-in-None c = grind (arith, round_of_words-by)

pub returns-in-Some-name : goal.returns-in-Some-name
returns-in-Some-name c = grind (arith, round_of_words-by)

pub returns-in_default-word_at : goal.returns-in_default-word_at
returns-in_default-word_at c = grind (arith, round_of_words-by)

pub returns-in-Some-word_at-2 : goal.returns-in-Some-word_at-2
returns-in-Some-word_at-2 c = grind (arith, round_of_words-by)

pub returns-in_err-round : goal.returns-in_err-round
returns-in_err-round c =
    let p = err_from_is_err_and c.from_residual.result c.from_residual.ensures.1 in
    let line = round_of_words-named c.args.version.most_rounds c.args.before (option_copied c.parted.result.1) _ _ _ _ _ _ _
    c.word_at.ensures c.word_at-2.ensures c.word_at-3.ensures c.word_at-least.ensures c.in-Some.is c.in-Some-word_at.is c.in_default-word_at-2.is in
    rw (p.1, ← c.parted.ensures.told, ← c.parted.ensures.name, line, ← c.named.ensures, c.in_err-round.was, p.2) refl

pub returns-then-before-version : goal.returns-then-before-version
returns-then-before-version c =
    let line = round_of_words-named c.args.version.most_rounds c.args.before (option_copied c.parted.result.1) _ _ _ _ _ _ _
    c.word_at.ensures c.word_at-2.ensures c.word_at-3.ensures c.word_at-least.ensures c.in-Some.is c.in-Some-word_at.is c.in_default-word_at-2.is in
    rw (← c.parted.ensures.told, ← c.parted.ensures.name, line, ← c.named.ensures, c.in_ok-round.was) (search rules)

pub returns-else-before-version : goal.returns-else-before-version
returns-else-before-version c =
    let line = round_of_words-named c.args.version.most_rounds c.args.before (option_copied c.parted.result.1) _ _ _ _ _ _ _
    c.word_at.ensures c.word_at-2.ensures c.word_at-3.ensures c.word_at-least.ensures c.in-Some.is c.in-Some-word_at.is c.in_default-word_at-2.is in
    rw (← c.parted.ensures.told, ← c.parted.ensures.name, line, ← c.named.ensures, c.in_ok-round.was) (search rules)
