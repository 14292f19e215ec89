-- What the parser makes of one word.
use Rattle.std.proofs.Common.{arith, length, ◌≡◌, ◌∙◌, refl, ap, cond, ℕ, ◌==◌, List, [], ◌∷◌, Bool, true, false, Option, Some, None}
use Rattle.std.specs.Prelude.{drop, encode_utf8, slice_get}
use Rattle.std.specs.Option.{option_map_or}
use Rattle.std.specs.Str.{bytes_eq, chars}
use Rattle.std.proofs.lemmas.Slice.Eq.{bytes_eq-Decides}
use Rattle.scr_options.specs.OptionWords.{Form, Text, begins_with_hyphen, flag, valued}
use Rattle.scr_options.proofs.WordForms.{attached_value, spelling_in}
use Rattle.scr_options.proofs.OptionRules.{by_short, no_positional, rule_for, rules_for, shape}
use Rattle.clap.specs.Lexer.{long_of, short_of}
use Rattle.clap.specs.Walk.{long_or_other, long_word as clap_long, short_or_plain, trailing, Held, Rule, Step, Waiting, Walk, after_flag, after_step, arg_by_id, arg_by_long, idle, long_met, option, positional, reacted, settled, used, used_by_id, walked}
use Rattle.clap.specs.Kinds.{Kinds, or_else}
use Rattle.clap.specs.Faults.{bundle_fault, flags_fault, flag_word_fault, long_fault, settle_fault, step_fault, turn_fault, use_fault}
use Rattle.clap.specs.declared.error.kind.ErrorKind.TheVariants as kind

-- the walk before a word: no word was met that ends it
abbrev pub at_word : Held → Waiting → Walk
at_word h waiting =
    record { held = h; waiting = waiting; position = 1; is_trailing = false; stopped = None }

or_else-nil : (a : Kinds) → or_else a [] ≡ a
or_else-nil [] = refl
or_else-nil (k ∷ ks) = refl

-- an option with its values so far
abbrev pub pending : Text → List Text → Held → Held
pending name values h = record h { pending = Some (name, values) }

abbrev are_dashes : Text → Bool
are_dashes word = bytes_eq word (45 ∷ 45 ∷ [])

plain_facts : (word : Text) → begins_with_hyphen word ≡ false
    → (are_dashes word ≡ false) × (long_of word ≡ None) × (short_of word ≡ None)
plain_facts [] e = (refl, refl, refl)
plain_facts (c ∷ rest) e = (rw e refl, rw e refl, rw e refl)

abbrev short_word : ℕ → Text → Text
short_word c rest = 45 ∷ c ∷ rest

short_facts : (c : ℕ) (rest : Text) → (c == 45) ≡ false
    → (are_dashes (short_word c rest) ≡ false) × (long_of (short_word c rest) ≡ None) × (short_of (short_word c rest) ≡ Some (c ∷ rest))
short_facts c rest e =
    (rw e refl, rw e refl, rw e refl)

abbrev long_word : ℕ → Text → Text
long_word c rest = 45 ∷ 45 ∷ c ∷ rest

module _ (forms : List Form) where
  -- the option is one of those, and has a value
  abbrev pub IsValued : Text → Type 0
  IsValued name = arg_by_id (rules_for forms) name ≡ Some (rule_for (valued name))

  pub pending_fault : (name : Text) (values : List Text) (h : Held) → IsValued name
      → settle_fault (rules_for forms) false (pending name values h) ≡ use_fault false (rule_for (valued name)) values h.rows
  pending_fault name values h is = ap (λ o. option_map_or (λ a. use_fault false a values h.rows) o []) is

  pub pending_settled : (name : Text) (values : List Text) (h : Held) → IsValued name
      → (settled (rules_for forms) (pending name values h)).rows ≡ used (rule_for (valued name)) values h.rows
  pending_settled name values h is = ap (λ o. used_by_id o values h.rows) is

  -- ---- a word that doesn't begin with two hyphens

  abbrev other_step : Bool → Option (Text × Option Text) → Option Text → Waiting → Text → Held → Held × Step
  other_step true l s waiting word h = (h, trailing 1)
  other_step false (Some p) s waiting word h = clap_long (rules_for forms) waiting word p.0 p.1 h
  other_step false None s waiting word h = short_or_plain (rules_for forms) waiting word s h

  abbrev other_word : Bool → Option (Text × Option Text) → Option Text → Held → Kinds
  other_word true l s h = []
  other_word false (Some p) s h = long_fault (rules_for forms) false (arg_by_long (rules_for forms) p.0) p.1 h
  other_word false None s h = option_map_or (λ flags. bundle_fault (rules_for forms) false flags h) s []

  abbrev other_turn : Bool → Option (Text × Option Text) → Option Text → Waiting → Text → Held → Kinds
  other_turn dashes l s waiting word h =
      or_else (other_word dashes l s h) (step_fault (shape forms) 1 (other_step dashes l s waiting word h).0 (other_step dashes l s waiting word h).1)

  abbrev other_walked : Bool → Option (Text × Option Text) → Option Text → Waiting → Text → Held → Walk
  other_walked dashes l s waiting word h =
      after_step (rules_for forms) word (at_word h waiting) (other_step dashes l s waiting word h).0 (other_step dashes l s waiting word h).1

  any_turn : (waiting : Waiting) (h : Held) (word : Text)
      → turn_fault (shape forms) [] (at_word h waiting) word ≡ other_turn (are_dashes word) (long_of word) (short_of word) waiting word h
  any_turn waiting h word = go waiting
    where
      parts : (waiting : Waiting) (t : Bool) (l : Option (Text × Option Text))
          → or_else (cond t [] (flag_word_fault (rules_for forms) false l word h))
          (step_fault (shape forms) 1 (cond t (h, trailing 1) (long_or_other (rules_for forms) waiting word l h)).0 (cond t (h, trailing 1) (long_or_other (rules_for forms) waiting word l h)).1)
          ≡ other_turn t l (short_of word) waiting word h
      parts waiting true l = refl
      parts waiting false None = refl
      parts waiting false (Some p) = refl

      go : (waiting : Waiting)
          → turn_fault (shape forms) [] (at_word h waiting) word ≡ other_turn (are_dashes word) (long_of word) (short_of word) waiting word h
      go idle = parts idle (are_dashes word) (long_of word)
      go (option id) = parts (option id) (are_dashes word) (long_of word)
      go positional = parts positional (are_dashes word) (long_of word)

  waiting_walked : (id : Text) (h : Held) (word : Text)
      → walked (rules_for forms) [] (at_word h (option id)) word ≡ other_walked (are_dashes word) (long_of word) (short_of word) (option id) word h
  unfolding walked
  waiting_walked id h word = go (are_dashes word) (long_of word)
    where
      go : (t : Bool) (l : Option (Text × Option Text))
          → after_step (rules_for forms) word (at_word h (option id)) (cond t (h, trailing 1) (long_or_other (rules_for forms) (option id) word l h)).0
          (cond t (h, trailing 1) (long_or_other (rules_for forms) (option id) word l h)).1
          ≡ other_walked t l (short_of word) (option id) word h
      go true l = refl
      go false None = refl
      go false (Some p) = refl

  stray_turn : (h : Held) (word : Text) → other_turn false None None idle word h ≡ kind.UnknownArgument ∷ []
  stray_turn h word = grind (arith, rules_for, no_positional)

  -- where no option waits it is refused
  pub stray_word : (h : Held) (word : Text) → begins_with_hyphen word ≡ false
      → turn_fault (shape forms) [] (at_word h idle) word ≡ kind.UnknownArgument ∷ []
  stray_word h word e =
      let f = plain_facts word e in
      any_turn idle h word ∙ (λ i. other_turn (f.0 i) (f.1 i) (f.2 i) idle word h) ∙ stray_turn h word

  value_walked : (name : Text) (h : Held) (word : Text) → IsValued name
      → other_walked false None None (option name) word (pending name [] h) ≡ at_word (pending name (word ∷ []) h) idle
  unfolding rule_for
  value_walked name h word is = rw (is, (bytes_eq-Decides name name).1 refl) refl

  -- where one waits it is its value
  pub value_word : (name : Text) (h : Held) (word : Text) → IsValued name → begins_with_hyphen word ≡ false
      → (turn_fault (shape forms) [] (at_word (pending name [] h) (option name)) word ≡ [])
      × (walked (rules_for forms) [] (at_word (pending name [] h) (option name)) word ≡ at_word (pending name (word ∷ []) h) idle)
  value_word name h word is e = grind (arith, plain_facts, any_turn, waiting_walked, value_walked)

  abbrev after : ℕ → Text → Text
  after x flags = drop (length (encode_utf8 x)) flags

  -- a word of one hyphen and more has a letter, which is no option
  bundle_refused : (h : Held) (c x : ℕ) (rest : Text) → h.skip ≡ 0 → slice_get (chars (c ∷ rest)) 0 ≡ Some x
      → bundle_fault (rules_for forms) false (c ∷ rest) h ≡ kind.UnknownArgument ∷ []
  unfolding flags_fault
  bundle_refused h c x rest zero first = grind (arith, rules_for, by_short)

  pub short_refused : (waiting : Waiting) (h : Held) (c x : ℕ) (rest : Text) → (c == 45) ≡ false → h.skip ≡ 0
      → slice_get (chars (c ∷ rest)) 0 ≡ Some x
      → turn_fault (shape forms) [] (at_word h waiting) (short_word c rest) ≡ kind.UnknownArgument ∷ []
  short_refused waiting h c x rest e zero first = grind (arith, short_facts, any_turn, shape, bundle_refused)

  -- ---- a word of two hyphens and more

  abbrev long_step : Option Rule → Option Text → Waiting → Text → Held → Held × Step
  long_step o v waiting word h =
      after_flag (rules_for forms) waiting word (long_met (rules_for forms) o v h).0 (long_met (rules_for forms) o v h).1

  abbrev long_turn : Option Rule → Option Text → Waiting → Text → Held → Kinds
  long_turn o v waiting word h =
      or_else (long_fault (rules_for forms) false o v h) (step_fault (shape forms) 1 (long_step o v waiting word h).0 (long_step o v waiting word h).1)

  abbrev long_walked : Option Rule → Option Text → Waiting → Text → Held → Walk
  long_walked o v waiting word h =
      after_step (rules_for forms) word (at_word h waiting) (long_step o v waiting word h).0 (long_step o v waiting word h).1

  turn_is : (waiting : Waiting) (h : Held) (c : ℕ) (rest : Text)
      → turn_fault (shape forms) [] (at_word h waiting) (long_word c rest) ≡ long_turn (arg_by_long (rules_for forms) (spelling_in (c ∷ rest))) (attached_value (c ∷ rest)) waiting (long_word c rest) h
  turn_is idle h c rest = refl
  turn_is (option id) h c rest = refl
  turn_is positional h c rest = refl

  walked_is : (waiting : Waiting) (h : Held) (c : ℕ) (rest : Text)
      → walked (rules_for forms) [] (at_word h waiting) (long_word c rest) ≡ long_walked (arg_by_long (rules_for forms) (spelling_in (c ∷ rest))) (attached_value (c ∷ rest)) waiting (long_word c rest) h
  unfolding walked
  walked_is idle h c rest = refl
  walked_is (option id) h c rest = refl
  walked_is positional h c rest = refl

  module _ (waiting : Waiting) (h : Held) (c : ℕ) (rest : Text) where
    -- no option of that name
    pub unknown_option : arg_by_long (rules_for forms) (spelling_in (c ∷ rest)) ≡ None
        → turn_fault (shape forms) [] (at_word h waiting) (long_word c rest) ≡ kind.UnknownArgument ∷ []
    unknown_option none = turn_is waiting h c rest ∙ ap (λ o. long_turn o (attached_value (c ∷ rest)) waiting (long_word c rest) h) none

    -- what the word comes to, by its option and what stands after `=`
    module _ (o : Option Rule) (v : Option Text) (found : arg_by_long (rules_for forms) (spelling_in (c ∷ rest)) ≡ o) (has : attached_value (c ∷ rest) ≡ v) where
      turn_by : turn_fault (shape forms) [] (at_word h waiting) (long_word c rest) ≡ long_turn o v waiting (long_word c rest) h
      turn_by = turn_is waiting h c rest ∙ (λ i. long_turn (found i) (has i) waiting (long_word c rest) h)

      walked_by : walked (rules_for forms) [] (at_word h waiting) (long_word c rest) ≡ long_walked o v waiting (long_word c rest) h
      walked_by = walked_is waiting h c rest ∙ (λ i. long_walked (found i) (has i) waiting (long_word c rest) h)

    abbrev Reacts : Rule → List Text → Type 0
    Reacts rule values =
        (turn_fault (shape forms) [] (at_word h waiting) (long_word c rest) ≡ or_else (settle_fault (rules_for forms) false h) (use_fault false rule values (settled (rules_for forms) h).rows))
        × (walked (rules_for forms) [] (at_word h waiting) (long_word c rest) ≡ at_word (reacted (rules_for forms) rule values h) idle)

    -- an option with its value
    pub given_option : (name v : Text) → arg_by_long (rules_for forms) (spelling_in (c ∷ rest)) ≡ Some (rule_for (valued name))
        → attached_value (c ∷ rest) ≡ Some v → Reacts (rule_for (valued name)) (v ∷ [])
    unfolding rule_for
    given_option name v found has = (turn_by _ _ found has ∙ or_else-nil _, walked_by _ _ found has)

    -- a flag
    pub given_flag : (name : Text) → arg_by_long (rules_for forms) (spelling_in (c ∷ rest)) ≡ Some (rule_for (flag name))
        → attached_value (c ∷ rest) ≡ None → Reacts (rule_for (flag name)) []
    unfolding rule_for
    given_flag name found has = (turn_by _ _ found has ∙ or_else-nil _, walked_by _ _ found has)

    -- a flag with something after `=`
    pub unneeded_value : (name v : Text) → arg_by_long (rules_for forms) (spelling_in (c ∷ rest)) ≡ Some (rule_for (flag name))
        → attached_value (c ∷ rest) ≡ Some v
        → turn_fault (shape forms) [] (at_word h waiting) (long_word c rest) ≡ kind.TooManyValues ∷ []
    unfolding rule_for
    unneeded_value name v found has = turn_by _ _ found has

    -- an option that waits for its value
    pub waiting_option : (name : Text) → arg_by_long (rules_for forms) (spelling_in (c ∷ rest)) ≡ Some (rule_for (valued name))
        → attached_value (c ∷ rest) ≡ None
        → (turn_fault (shape forms) [] (at_word h waiting) (long_word c rest) ≡ settle_fault (rules_for forms) false h)
        × (walked (rules_for forms) [] (at_word h waiting) (long_word c rest) ≡ at_word (pending name [] (settled (rules_for forms) h)) (option name))
    unfolding rule_for
    waiting_option name found has = (turn_by _ _ found has ∙ or_else-nil _, walked_by _ _ found has)
