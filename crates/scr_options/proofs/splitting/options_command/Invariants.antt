use Rattle.std.proofs.Common.{◌≡◌, take}
use Rattle.clap.specs.Words.{app_of}
use Rattle.scr_options.specs.OptionsCommand.{options_app}
use Rattle.scr_options.specs.Words.{forms_of}
use Rattle.scr_options.proofs.splitting.options_command.Given as goal

-- the command has the options before this one
abbrev pub invariant-loop-form : goal.invariant-loop-form
invariant-loop-form l = app_of l.command ≡ options_app (forms_of (take l.form-index l.forms))
