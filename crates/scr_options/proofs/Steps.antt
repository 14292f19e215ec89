-- The grammar of options word by word.
use Rattle.std.proofs.Common.{arith, ◌≡◌, ◌∙◌, refl, sym, ap, cond, List, [], ◌∷◌, Bool, true, false, Option, Some, None}
use Rattle.std.specs.Prelude.{if◌then◌else◌, option_and_then}
use Rattle.std.specs.Str.{bytes_eq}
use Rattle.scr_options.specs.OptionWords.{Form, Text, Values, begins_with_hyphen, give, options_of, options_read, spelled_form}
use Rattle.scr_options.proofs.WordForms.{attached_value, plain-cons, plain-hyphen, plain_words, values-attached, values_beside}

abbrev pub no_values : Values
no_values name = None

-- one value more
abbrev pub with_value : Text → Text → Values → Values
with_value name value values other = if bytes_eq name other then Some value else values other

-- what is read where no word stands before it
abbrev pub if_none : {X : Type 0} → List Text → Option X → Option X
if_none [] o = o
if_none (word ∷ words) o = None

none_then : {X Y : Type 0} (o : Option X) → option_and_then {U = Y} (λ x. None) o ≡ None
none_then None = refl
none_then (Some x) = refl

module _ (forms : List Form) where
  -- what a word that begins with a hyphen comes to, by what is attached to it and by the option that it spells
  abbrev pub option_read : Values → List Text → Option Text → Option Form → Option Values
  option_read s rest attached o =
      option_and_then (λ form. option_and_then (λ more. options_read forms more rest) (give form.name (values_beside form.has_value attached (plain_words rest)) s)) o

  pub hyphen_read : (s : Values) (word : Text) (rest : List Text) → begins_with_hyphen word ≡ true
      → options_read forms s (word ∷ rest) ≡ option_read s rest (attached_value word) (spelled_form forms word)
  unfolding options_read
  hyphen_read s word rest h = grind (arith, values-attached)

  -- any other word is gone past
  pub plain_skipped : (s : Values) (word : Text) (rest : List Text) → begins_with_hyphen word ≡ false
      → options_read forms s (word ∷ rest) ≡ options_read forms s rest
  unfolding options_read
  plain_skipped s word rest h = grind arith

  -- ---- where no option waits for its value, the first word is an option's

  abbrev pub idle_read : Values → List Text → Option Values
  idle_read s words = if_none (plain_words words) (options_read forms s words)

  pub idle_hyphen : (s : Values) (word : Text) (rest : List Text) → begins_with_hyphen word ≡ true
      → idle_read s (word ∷ rest) ≡ option_read s rest (attached_value word) (spelled_form forms word)
  idle_hyphen s word rest h = ap (λ p. if_none p (options_read forms s (word ∷ rest))) (plain-hyphen word rest h) ∙ hyphen_read s word rest h

  pub idle_plain : (s : Values) (word : Text) (rest : List Text) → begins_with_hyphen word ≡ false → idle_read s (word ∷ rest) ≡ None
  idle_plain s word rest h = ap (λ p. if_none p (options_read forms s (word ∷ rest))) (plain-cons word rest h)

  pub from_start : (words : List Text) → idle_read no_values words ≡ options_of forms words
  unfolding options_read
  from_start [] = refl
  from_start (word ∷ rest) = go (begins_with_hyphen word) refl
    where
      go : (t : Bool) → begins_with_hyphen word ≡ t → idle_read no_values (word ∷ rest) ≡ options_of forms (word ∷ rest)
      go true h =
          ap (λ p. if_none p (options_read forms no_values (word ∷ rest))) (plain-hyphen word rest h)
          ∙ ap (λ t. cond t (options_read forms no_values (word ∷ rest)) None) (sym h)
      go false h = idle_plain no_values word rest h ∙ ap (λ t. cond t (options_read forms no_values (word ∷ rest)) None) (sym h)

  -- what words come to after a use that gives this value
  abbrev pub given_then : Values → Text → Text → List Text → Option Values
  given_then s name value rest = option_and_then (λ more. idle_read more rest) (give name (value ∷ []) s)

  -- a value is the only one where no other word stands behind it
  pub one_value : (s : Values) (name value : Text) (rest : List Text)
      → option_and_then (λ more. options_read forms more rest) (give name (value ∷ plain_words rest) s) ≡ given_then s name value rest
  one_value s name value rest = go (plain_words rest)
    where
      go : (p : List Text)
          → option_and_then (λ more. options_read forms more rest) (give name (value ∷ p) s)
          ≡ option_and_then (λ more. if_none p (options_read forms more rest)) (give name (value ∷ []) s)
      go [] = refl
      go (word ∷ p) = sym (none_then (give name (value ∷ []) s))
