-- Words and options, as code holds them.
use Rattle.std.specs.Prelude.{List, map}
use Rattle.std.specs.Borrow.{Bor}
use Rattle.scr_options.specs.declared.splitting.OptionForm.{OptionForm}
use Rattle.scr_options.specs.OptionWords.{Form, Text}

-- the texts behind references
abbrev pub texts : List (Bor Text) → List Text
texts = map (λ word. word.now)

abbrev pub form_of : OptionForm → Form
form_of form = record { name = form.name.now; has_value = form.has_value }

abbrev pub forms_of : List OptionForm → List Form
forms_of = map form_of
