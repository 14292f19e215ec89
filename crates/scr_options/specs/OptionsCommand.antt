-- The command that splits the words of options, as the parser's definitions see it.
use Rattle.std.specs.Prelude.{true, List, map, [], Some, codes, if◌then◌else◌}
use Rattle.clap.specs.Walk.{Rule}
use Rattle.clap.specs.Simple.{App, Shape, new_rule, new_shape}
use Rattle.clap.specs.declared.builder.action.ArgAction.TheVariants.{Set, SetTrue}
use Rattle.scr_options.specs.OptionWords.{Form}

-- an option whose long name is its id
abbrev pub raw_rule : Form → Rule
raw_rule form = record (new_rule form.name) {
  long = Some form.name;
  action = Some (if form.has_value then Set else SetTrue);
}

-- the command with these options
abbrev pub shape_with : List Rule → Shape
shape_with rules = record (new_shape (codes "options")) {
  rules = rules;
  no_binary_name = true;
  disable_help_flag = true;
  disable_version_flag = true;
}

abbrev pub app_with : List Rule → App
app_with rules = record { top = shape_with rules; subs = [] }

abbrev pub options_app : List Form → App
options_app forms = app_with (map raw_rule forms)
