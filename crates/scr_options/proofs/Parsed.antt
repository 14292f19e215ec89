-- What the parser's answer says of the words.
use Rattle.std.proofs.Common.{arith, ◌≡◌, ◌∙◌, refl, sym, ap, ℕ, ◌+◌, ◌<◌, List, [], ◌∷◌, ◌++◌, length, map, take, get_or, add-one, false, Option, Some, None, option_map}
use Rattle.std.specs.Prelude.{option_and_then}
use Rattle.std.proofs.Math.Seq.{take-suc}
use Rattle.std.proofs.lemmas.List.{map-append}
use Rattle.scr_options.specs.declared.splitting.OptionForm.{OptionForm}
use Rattle.scr_options.specs.OptionWords.{Form, Text, options_of}
use Rattle.scr_options.specs.OptionsCommand.{app_with, options_app, raw_rule}
use Rattle.scr_options.specs.Split.{found_values, given}
use Rattle.scr_options.specs.Words.{form_of, forms_of}
use Rattle.scr_options.proofs.OptionRules.{built_is, rules_for, shape}
use Rattle.scr_options.proofs.Rows.{no_rows_hold, row_under, row_value}
use Rattle.scr_options.proofs.Steps.{from_start}
use Rattle.scr_options.proofs.Walked.{AreLeft, agrees, values_by}
use Rattle.clap.proofs.WalkLemmas.{first_value-rows, find_row}
use Rattle.clap.specs.declared.parser.matches.Found.{Found}
use Rattle.clap.specs.Facts.{Entry}
use Rattle.clap.specs.Matches.{matched_of}
use Rattle.clap.specs.Walk.{Row, row_of, rows_of, nothing_held, rows_after}
use Rattle.clap.specs.Simple.{App, matches_of, names_of, with_rule}
use Rattle.clap.specs.Faults.{built_fault, fault_of, level_fault}
use Rattle.clap.specs.Kinds.{IsAmong, Kinds}
use Rattle.clap.specs.declared.error.kind.ErrorKind.{ErrorKind}
use Rattle.clap.proofs.FaultLemmas.{leaf_fault}
use Rattle.std.specs.List.{find}
use Rattle.std.specs.Str.{bytes_eq}

-- one option more
pub next_option : (forms : List OptionForm) (i : ℕ) (d : OptionForm) (before after : App) → i < length forms → before ≡ options_app (forms_of (take i forms))
    → after ≡ with_rule before (raw_rule (form_of (get_or forms i d))) → after ≡ options_app (forms_of (take (i + 1) forms))
next_option forms i d before after below is more =
    let one : take (i + 1) forms ≡ take i forms ++ get_or forms i d ∷ [] = ap (λ n. take n forms) (add-one i) ∙ take-suc forms i d below in
    let rules : map raw_rule (forms_of (take (i + 1) forms)) ≡ map raw_rule (forms_of (take i forms)) ++ raw_rule (form_of (get_or forms i d)) ∷ [] =
    ap (λ fs. map raw_rule (forms_of fs)) one ∙ ap (map raw_rule) (map-append form_of (take i forms) (get_or forms i d ∷ []))
    ∙ map-append raw_rule (forms_of (take i forms)) (form_of (get_or forms i d) ∷ []) in
    more ∙ ap (λ app. with_rule app (raw_rule (form_of (get_or forms i d)))) is ∙ ap app_with (sym rules)

-- the values that the rows have are those that were found
source_rows : (f : Found) (name : Text)
    → option_and_then (λ a. a.source) (matched_of f name) ≡ option_and_then (λ r. r.source) (row_under name (rows_of f))
source_rows f name = go (find (λ e. bytes_eq e.0.now name) f.entries.items) ∙ ap (option_and_then (λ (r : Row). r.source)) (sym (find_row f.entries.items name))
  where
    go : (o : Option Entry) → option_and_then (λ a. a.source) (option_map (λ e. e.1) o) ≡ option_and_then (λ (r : Row). r.source) (option_map row_of o)
    go None = refl
    go (Some e) = refl

found_rows : (f : Found) (name : Text) → found_values f name ≡ row_value (row_under name (rows_of f))
found_rows f name = (λ i. given (source_rows f name i) (first_value-rows f name i))

module _ (forms : List Form) (words : List Text) where
  fault_is : fault_of (options_app forms) words ≡ level_fault (shape forms) [] nothing_held words false []
  fault_is = ap (λ a. built_fault a nothing_held words) (built_is forms) ∙ leaf_fault (record { top = shape forms; subs = [] }) nothing_held words refl

  matches_are : matches_of (options_app forms) words ≡ rows_after (rules_for forms) [] words
  matches_are = ap (λ (a : App). rows_after a.top.rules (names_of a) words) (built_is forms)

  -- the parser gives the values that the grammar does
  parser_agrees : AreLeft words → values_by (fault_of (options_app forms) words) (matches_of (options_app forms) words) ≡ options_of forms words
  parser_agrees left =
      (λ i. values_by (fault_is i) (matches_are i))
      ∙ agrees forms words left None nothing_held _ tt refl refl no_rows_hold
      ∙ from_start forms words

  -- a fault is a word or a use outside of the grammar
  pub fault_refused : (kind : ErrorKind) → AreLeft words → IsAmong kind (fault_of (options_app forms) words) → options_of forms words ≡ None
  fault_refused kind left among = sym (parser_agrees left) ∙ go (fault_of (options_app forms) words) among
    where
      go : (ks : Kinds) → IsAmong kind ks → values_by ks (matches_of (options_app forms) words) ≡ None
      go [] h = absurd h
      go (k ∷ ks) h = refl

  -- and without one the matches have the values
  pub matches_give : (f : Found) → AreLeft words → fault_of (options_app forms) words ≡ [] → rows_of f ≡ matches_of (options_app forms) words
      → options_of forms words ≡ Some (found_values f)
  matches_give f left none rows = grind (arith, parser_agrees, values_by, found_rows)
