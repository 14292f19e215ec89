use Rattle.std.proofs.Common.{◌∙◌, sym, arith}
use Rattle.scr_options.proofs.Ordinary.{bare_at, one_more_ordinary}
use Rattle.scr_options.proofs.splitting.has_bare_hyphens.Goals as goal

pub returns-then-is_bare-clause-found : goal.returns-then-is_bare-clause-found
returns-then-is_bare-clause-found c =
    λ _. bare_at c.args.words.now c.loop-word.word-index _ c.loop-word-test.true (sym c.is_bare.ensures.bare ∙ c.if-is_bare.true)

pub loop-word-preserved : goal.loop-word-preserved
loop-word-preserved c =
    one_more_ordinary c.args.words.now c.loop-word.word-index _ c.loop-word-test.true c.loop-word.invariant
    (c.is_bare.ensures.text, sym c.is_bare.ensures.bare ∙ c.if-is_bare.false)

pub returns-clause-none : goal.returns-clause-none
returns-clause-none c = λ _ k d lt. c.loop-word.invariant k d (omega arith)
