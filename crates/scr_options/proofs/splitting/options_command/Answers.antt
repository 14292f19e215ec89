use Rattle.std.proofs.Common.{ap, ◌∙◌}
use Rattle.clap.specs.Words.{with_rule}
use Rattle.scr_options.proofs.Parsed.{next_option}
use Rattle.scr_options.proofs.splitting.options_command.Goals as goal

pub loop-form-preserved : goal.loop-form-preserved
loop-form-preserved c =
    next_option c.args.forms.now c.loop-form.form-index _ _ _ c.loop-form-test.true c.loop-form.invariant (c.in_ok-command.ensures.shape c.option_arg.ensures.local ∙ ap (with_rule _) c.option_arg.ensures.rule)
