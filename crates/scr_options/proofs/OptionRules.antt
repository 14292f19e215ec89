-- The command that splits the words, as it is built, and what its rules come to.
use Rattle.std.proofs.Common.{arith, ◌≡◌, ◌∙◌, refl, sym, ap, cond, ℕ, map, List, [], ◌∷◌, Bool, true, false, ◌||◌, Option, None, option_map, codes}
use Rattle.std.specs.List.{find, list_all, list_any}
use Rattle.std.specs.Str.{bytes_eq}
use Rattle.scr_options.specs.OptionWords.{Form, Text, flag, valued}
use Rattle.scr_options.specs.OptionsCommand.{raw_rule, options_app, shape_with}
use Rattle.scr_options.proofs.WordForms.{form_spelled}
use Rattle.clap.proofs.WalkLemmas.{find-map}
use Rattle.clap.specs.Walk.{Row, Rule, arg_by_id, arg_by_index, arg_by_long, arg_by_short, has_row, is_early_multiple, used, with_values, without}
use Rattle.clap.specs.Simple.{Shape, built, filled, filled_from, is_simple}
use Rattle.clap.specs.Kinds.{Kinds}
use Rattle.clap.specs.Faults.{check_fault, is_free_app, is_simple_and_free, use_fault}
use Rattle.clap.specs.declared.error.kind.ErrorKind.TheVariants as kind
use Rattle.clap.specs.declared.builder.value_parser.Reading.TheVariants as reading
use Rattle.clap.specs.declared.parser.matches.ValueSource.TheVariants.{CommandLine}

-- ---- the command as it is built

unfoldable pub rule_for : Form → Rule
rule_for form = filled (raw_rule form)

abbrev pub rules_for : List Form → List Rule
rules_for forms = map rule_for forms

abbrev pub shape : List Form → Shape
shape forms = record (shape_with (rules_for forms)) { is_built = true; disable_help_subcommand = true }

filled_is : (i : ℕ) (forms : List Form) → filled_from i (map raw_rule forms) ≡ rules_for forms
unfolding rule_for
filled_is i [] = refl
filled_is i (form ∷ forms) = ap (λ rs. rule_for form ∷ rs) (filled_is i forms)

pub built_is : (forms : List Form) → built (options_app forms) ≡ record { top = shape forms; subs = [] }
built_is forms = ap (λ rs. record { top = record (shape_with rs) { is_built = true; disable_help_subcommand = true }; subs = [] }) (filled_is 1 forms)

-- ---- tests of all rules

all_pass : (p : Rule → Bool) (rule : Form → Rule) (forms : List Form) → ((form : Form) → p (rule form) ≡ true)
    → list_all p (map rule forms) ≡ true
all_pass p rule [] each = refl
all_pass p rule (form ∷ forms) each = rw (each form, all_pass p rule forms each) refl

none_passes : (p : Rule → Bool) (rule : Form → Rule) (forms : List Form) → ((form : Form) → p (rule form) ≡ false)
    → list_any p (map rule forms) ≡ false
none_passes p rule [] each = refl
none_passes p rule (form ∷ forms) each = rw (each form, none_passes p rule forms each) refl

none_found : (p : Rule → Bool) (rule : Form → Rule) (forms : List Form) → ((form : Form) → p (rule form) ≡ false)
    → find p (map rule forms) ≡ None
none_found p rule [] each = refl
none_found p rule (form ∷ forms) each = rw (each form, none_found p rule forms each) refl

-- ---- the rule of an option

abbrev pub form_named : List Form → Text → Option Form
form_named forms name = find (λ form. bytes_eq form.name name) forms

pub by_id : (forms : List Form) (name : Text) → arg_by_id (rules_for forms) name ≡ option_map rule_for (form_named forms name)
unfolding rule_for
by_id forms name = sym (find-map (λ a. bytes_eq a.id name) rule_for forms)

or_false : (b : Bool) → (b || false) ≡ b
or_false true = refl
or_false false = refl

pub by_long : (forms : List Form) (name : Text)
    → arg_by_long (rules_for forms) name ≡ option_map rule_for (form_spelled forms (45 ∷ 45 ∷ name))
unfolding rule_for
by_long [] name = refl
by_long (form ∷ forms) name = go (bytes_eq form.name name) refl (by_long forms name)
  where
    go : (t : Bool) → bytes_eq form.name name ≡ t
        → arg_by_long (rules_for forms) name ≡ option_map rule_for (form_spelled forms (45 ∷ 45 ∷ name))
        → arg_by_long (rules_for (form ∷ forms)) name ≡ option_map rule_for (form_spelled (form ∷ forms) (45 ∷ 45 ∷ name))
    go true e rest = rw e refl
    go false e rest = rw e rest

pub by_short : (forms : List Form) (c : ℕ) → arg_by_short (rules_for forms) c ≡ None
unfolding rule_for
by_short forms c = none_found _ rule_for forms (λ form. refl)

pub no_positional : (forms : List Form) → arg_by_index (rules_for forms) 1 ≡ None
unfolding rule_for
no_positional forms = none_found _ rule_for forms (λ form. refl)

-- none is required
pub none_required : (forms : List Form) (rows : List Row) → check_fault (shape forms) rows false ≡ []
unfolding rule_for
none_required forms rows = ap (λ b. cond b (kind.MissingRequiredArgument ∷ []) []) (none_passes _ rule_for forms (λ form. refl))

-- ---- a use of an option

-- what an option's row has after a use that gives it this value
abbrev pub with_row : Text → Text → List Row → List Row
with_row name value rows = with_values name reading.AsWritten CommandLine (value ∷ []) (without name rows)

-- a second use is a fault
abbrev pub repeated : Text → List Row → Kinds
repeated name rows = cond (has_row name rows) (kind.ArgumentConflict ∷ []) []

module _ (name : Text) (rows : List Row) where
  pub value_used : (v : Text) → used (rule_for (valued name)) (v ∷ []) rows ≡ with_row name v rows
  unfolding rule_for
  value_used v = refl

  pub flag_used : used (rule_for (flag name)) [] rows ≡ with_row name (codes "true") rows
  unfolding rule_for
  flag_used = refl

  pub value_fault : (v : Text) → use_fault false (rule_for (valued name)) (v ∷ []) rows ≡ repeated name rows
  unfolding rule_for
  value_fault v = go (has_row name rows) refl
    where
      go : (t : Bool) → has_row name rows ≡ t → use_fault false (rule_for (valued name)) (v ∷ []) rows ≡ repeated name rows
      go true e = rw e refl
      go false e = rw e refl

  pub flag_fault : use_fault false (rule_for (flag name)) [] rows ≡ repeated name rows
  unfolding rule_for
  flag_fault = go (has_row name rows) refl
    where
      go : (t : Bool) → has_row name rows ≡ t → use_fault false (rule_for (flag name)) [] rows ≡ repeated name rows
      go true e = rw e refl
      go false e = rw e refl

  -- a use without a value is a fault
  pub no_value_fault : use_fault false (rule_for (valued name)) [] rows ≡ kind.InvalidValue ∷ []
  unfolding rule_for
  no_value_fault = refl

-- ---- the command is one of which the parser's definitions speak

module _ (forms : List Form) where
  plain_rules : list_all (λ a. a.is_simple) (rules_for forms) ≡ true
  unfolding rule_for
  plain_rules = all_pass (λ a. a.is_simple) rule_for forms (λ form. refl)

  free_rules : list_all (λ a. a.is_free) (rules_for forms) ≡ true
  unfolding rule_for
  free_rules = all_pass (λ a. a.is_free) rule_for forms (λ form. refl)

  in_order : (n : ℕ) → list_any (is_early_multiple n) (rules_for forms) ≡ false
  unfolding rule_for
  in_order n = none_passes (is_early_multiple n) rule_for forms (λ form. refl)

  pub is_ready : is_simple (options_app forms) ≡ true
  is_ready = grind (arith, all_pass, built_is, plain_rules, in_order)

  pub is_ready_and_free : is_simple_and_free (options_app forms) ≡ true
  is_ready_and_free = rw is_ready (ap is_free_app (built_is forms) ∙ rw free_rules refl)
