-- The parser's rows hold the values so far.
use Rattle.std.proofs.Common.{arith, ◌≡◌, ◌∙◌, refl, sym, ap, cond, List, [], ◌∷◌, ◌++◌, Bool, true, false, ◌||◌, Option, Some, None, is_some, append-nil, fold, codes}
use Rattle.std.specs.Prelude.{option_and_then, slice_get}
use Rattle.std.specs.List.{find}
use Rattle.std.specs.Str.{bytes_eq}
use Rattle.std.proofs.lemmas.Slice.Eq.{bytes_eq-Decides}
use Rattle.scr_options.specs.OptionWords.{Form, Text, Values}
use Rattle.scr_options.specs.Split.{given}
use Rattle.scr_options.proofs.OptionRules.{rule_for, rules_for, with_row}
use Rattle.scr_options.proofs.Steps.{no_values, with_value}
use Rattle.clap.specs.Walk.{Row, at_row, has_row, more_values, with_default}
use Rattle.clap.specs.Faults.{default_fault, defaults_fault}
use Rattle.clap.specs.declared.parser.matches.ValueSource.{ValueSource}
use Rattle.clap.specs.declared.parser.matches.ValueSource.TheVariants.{CommandLine, DefaultValue}
use Rattle.clap.specs.declared.builder.value_parser.Reading.TheVariants as reading

-- ---- the row of an option

abbrev pub row_under : Text → List Row → Option Row
row_under name rows = find (λ r. bytes_eq r.id name) rows

-- the value that words gave by a row
abbrev pub row_value : Option Row → Option Text
row_value row = given (option_and_then (λ r. r.source) row) (option_and_then (λ r. slice_get r.values 0) row)

abbrev pub new_row : Text → ValueSource → Text → Row
new_row name source value = record {
  id = name;
  values = value ∷ [];
  count = None;
  source = Some source;
  reading = reading.AsWritten;
}

neither : (a b : Bool) → (a || b) ≡ false → (a ≡ false) × (b ≡ false)
neither true b h = cc
neither false b h = (refl, h)

at_row-none : (id : Text) (change : Row → List Row) (missing rows : List Row) → has_row id rows ≡ false
    → at_row id change missing rows ≡ rows ++ missing
at_row-none id change missing [] h = refl
at_row-none id change missing (r ∷ rows) h =
    let both = neither (bytes_eq r.id id) (has_row id rows) h in
    rw both.0 (ap (λ rs. r ∷ rs) (at_row-none id change missing rows both.1))

has_row-row_under : (name : Text) (rows : List Row) → has_row name rows ≡ is_some (row_under name rows)
has_row-row_under name [] = refl
has_row-row_under name (r ∷ rows) = go (bytes_eq r.id name) (has_row-row_under name rows)
  where
    go : (t : Bool) → has_row name rows ≡ is_some (row_under name rows)
        → (t || has_row name rows) ≡ is_some (cond t (Some r) (row_under name rows))
    go true h = refl
    go false h = h

-- the first of two rows
abbrev first_row : Option Row → Option Row → Option Row
first_row (Some r) other = Some r
first_row None other = other

row_under-push : (name : Text) (rows : List Row) (r : Row)
    → row_under name (rows ++ r ∷ []) ≡ first_row (row_under name rows) (cond (bytes_eq r.id name) (Some r) None)
row_under-push name [] r = refl
row_under-push name (x ∷ rows) r = go (bytes_eq x.id name) (row_under-push name rows r)
  where
    go : (t : Bool)
        → row_under name (rows ++ r ∷ []) ≡ first_row (row_under name rows) (cond (bytes_eq r.id name) (Some r) None)
        → cond t (Some x) (row_under name (rows ++ r ∷ [])) ≡ first_row (cond t (Some x) (row_under name rows)) (cond (bytes_eq r.id name) (Some r) None)
    go true h = refl
    go false h = h

-- ---- the values so far

pub record Holds (rows : List Row) (values : Values) (name : Text) : Type 0 where
  pub value : row_value (row_under name rows) ≡ values name
  pub has_row : has_row name rows ≡ is_some (values name)

abbrev pub RowsHold : List Row → Values → Type 0
RowsHold rows values = (name : Text) → Holds rows values name

pub no_rows_hold : RowsHold [] no_values
no_rows_hold name = record { value = refl; has_row = refl }

-- a first use adds a row
first_use : (name value : Text) (rows : List Row) → has_row name rows ≡ false
    → with_row name value rows ≡ rows ++ new_row name CommandLine value ∷ []
first_use name value rows h = grind (arith, at_row-none, append-nil, value)

-- a first use gives the option its value
pub first_use_holds : (rows : List Row) (values : Values) (name value : Text) → RowsHold rows values → values name ≡ None
    → RowsHold (with_row name value rows) (with_value name value values)
first_use_holds rows values name value holds free other =
    let absent : has_row name rows ≡ false = (holds name).has_row ∙ ap is_some free in
    let row : Row = new_row name CommandLine value in
    let is : row_under other (with_row name value rows) ≡ first_row (row_under other rows) (cond (bytes_eq name other) (Some row) None) =
    ap (row_under other) (first_use name value rows absent) ∙ row_under-push other rows row in
    let found = go (bytes_eq name other) refl in
    record {
      value = ap row_value is ∙ found.0;
      has_row = has_row-row_under other (with_row name value rows) ∙ ap is_some is ∙ found.1;
    }
  where
    own : (o : Option Row) → is_some o ≡ false → first_row o (Some (new_row name CommandLine value)) ≡ Some (new_row name CommandLine value)
    own None none = refl
    own (Some r) none = cc

    rest : (o : Option Row) → first_row o None ≡ o
    rest None = refl
    rest (Some r) = refl

    go : (t : Bool) → bytes_eq name other ≡ t
        → (row_value (first_row (row_under other rows) (cond t (Some (new_row name CommandLine value)) None)) ≡ cond t (Some value) (values other))
        × (is_some (first_row (row_under other rows) (cond t (Some (new_row name CommandLine value)) None)) ≡ is_some (cond t (Some value) (values other)))
    go true e =
        let same : name ≡ other = (bytes_eq-Decides name other).0 e in
        let none : is_some (row_under other rows) ≡ false =
        sym (has_row-row_under other rows) ∙ (holds other).has_row ∙ ap (λ n. is_some (values n)) (sym same) ∙ ap is_some free in
        let mine = own (row_under other rows) none in
        (ap row_value mine, ap is_some mine)
    go false e =
        let same = rest (row_under other rows) in
        (ap row_value same ∙ (holds other).value, ap is_some same ∙ sym (has_row-row_under other rows) ∙ (holds other).has_row)

-- ---- defaults, which are no values that words gave

false_row : (name other : Text) (rows : List Row)
    → row_value (row_under other (rows ++ new_row name DefaultValue (codes "false") ∷ [])) ≡ row_value (row_under other rows)
false_row name other rows =
    ap row_value (row_under-push other rows (new_row name DefaultValue (codes "false"))) ∙ go (row_under other rows) (bytes_eq name other)
  where
    go : (o : Option Row) (t : Bool)
        → row_value (first_row o (cond t (Some (new_row name DefaultValue (codes "false"))) None)) ≡ row_value o
    go (Some r) t = refl
    go None true = refl
    go None false = refl

module _ (name : Text) (rows : List Row) where
  pub one_default : (has_value : Bool) (other : Text)
      → row_value (row_under other (with_default rows (rule_for (record { name = name; has_value = has_value })))) ≡ row_value (row_under other rows)
  unfolding rule_for
  one_default has_value other = go has_value (has_row name rows) refl
    where
      go : (v t : Bool) → has_row name rows ≡ t
          → row_value (row_under other (with_default rows (rule_for (record { name = name; has_value = v })))) ≡ row_value (row_under other rows)
      go true true e = rw e refl
      go true false e = rw e refl
      go false true e = rw e refl
      go false false e =
          rw e (ap (λ rs. row_value (row_under other rs)) (at_row-none name (more_values DefaultValue (codes "false" ∷ [])) (new_row name DefaultValue (codes "false") ∷ []) rows e)
          ∙ false_row name other rows)

  pub default_passes : (has_value : Bool) → default_fault rows (rule_for (record { name = name; has_value = has_value })) ≡ []
  unfolding rule_for
  default_passes has_value = go has_value (has_row name rows) refl
    where
      go : (v t : Bool) → has_row name rows ≡ t → default_fault rows (rule_for (record { name = name; has_value = v })) ≡ []
      go true true e = rw e refl
      go true false e = rw e refl
      go false true e = rw e refl
      go false false e = rw e refl

pub defaults_keep : (forms : List Form) (rows : List Row) (other : Text)
    → row_value (row_under other (fold with_default rows (rules_for forms))) ≡ row_value (row_under other rows)
defaults_keep [] rows other = refl
defaults_keep (form ∷ forms) rows other =
    defaults_keep forms (with_default rows (rule_for form)) other ∙ one_default form.name rows form.has_value other

pub defaults_pass : (forms : List Form) (rows : List Row) → defaults_fault rows (rules_for forms) ≡ []
unfolding defaults_fault
defaults_pass [] rows = refl
defaults_pass (form ∷ forms) rows =
    rw (default_passes form.name rows form.has_value) (defaults_pass forms (with_default rows (rule_for form)))
