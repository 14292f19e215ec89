-- The parser on all the words: it gives the values that the grammar does.
use Rattle.std.proofs.Common.{arith, ◌≡◌, ◌∙◌, ◌⊎◌, inl, inr, refl, sym, ap, subst, cond, ℕ, ◌==◌, List, [], ◌∷◌, Bool, true, false, Option, Some, None, option_map, is_some, codes}
use Rattle.std.specs.Prelude.{option_and_then, slice_get}
use Rattle.std.specs.Str.{bytes_eq, chars}
use Rattle.std.specs.List.{fold}
use Rattle.std.proofs.lemmas.Slice.Eq.{bytes_eq-Decides}
use Rattle.scr_options.specs.OptionWords.{Form, Text, Values, begins_with_hyphen, flag, give, options_read, spelled_form, valued}
use Rattle.scr_options.proofs.OptionRules.{by_id, by_long, flag_fault, flag_used, no_value_fault, none_required, repeated, rule_for, rules_for, shape, value_fault, value_used, with_row}
use Rattle.scr_options.proofs.Rows.{RowsHold, defaults_keep, defaults_pass, first_use_holds, row_under, row_value}
use Rattle.scr_options.proofs.WordForms.{attached_value, find-passes, form_spelled, long_attached, long_spelling, plain-cons, plain-hyphen, plain_words, short_spelling, spelling_in}
use Rattle.scr_options.proofs.Steps.{given_then, idle_hyphen, idle_plain, idle_read, one_value, option_read, plain_skipped, with_value}
use Rattle.scr_options.proofs.Turns.{IsValued, at_word, given_flag, given_option, pending, pending_fault, pending_settled, short_refused, stray_word, unknown_option, unneeded_value, value_word, waiting_option}
use Rattle.clap.specs.Walk.{Held, Row, Rule, Waiting, Walk, arg_by_long, finished, idle, option, reacted, settled, walked}
use Rattle.clap.specs.Kinds.{Kinds, or_else}
use Rattle.clap.specs.Faults.{check_fault, defaults_fault, settle_fault, turn_fault, use_fault, walk_fault}
use Rattle.clap.specs.declared.error.kind.ErrorKind.{ErrorKind}
use Rattle.clap.specs.declared.error.kind.ErrorKind.TheVariants as kind

-- what the parser gives, by its faults and its rows
abbrev pub values_by : Kinds → List Row → Option Values
values_by [] rows = Some (λ name. row_value (row_under name rows))
values_by (k ∷ ks) rows = None

abbrev IsFault : Kinds → Type 0
IsFault ks = (k : ErrorKind) × (rest : Kinds) × (ks ≡ k ∷ rest)

fault_first : (a b : Kinds) → IsFault a → IsFault (or_else a b)
fault_first a b f = (f.0, f.1, rw f.2 refl)

refused_by : (ks : Kinds) (rows : List Row) → IsFault ks → values_by ks rows ≡ None
refused_by ks rows f = rw f.2 refl

-- ---- the forms of words that are left to the parser

abbrev IsLong : Text → Type 0
IsLong word = (c : ℕ) × (rest : Text) × (word ≡ 45 ∷ 45 ∷ c ∷ rest)

-- one hyphen, and a text that begins with a letter
abbrev IsShort : Text → Type 0
IsShort word = (c : ℕ) × (rest : Text) × (x : ℕ) × (word ≡ 45 ∷ c ∷ rest) × ((c == 45) ≡ false) × (slice_get (chars (c ∷ rest)) 0 ≡ Some x)

abbrev pub IsLeft : Text → Type 0
IsLeft word = (begins_with_hyphen word ≡ false) ⊎ (IsLong word ⊎ IsShort word)

abbrev pub AreLeft : List Text → Type 0
AreLeft [] = Unit {0}
AreLeft (word ∷ rest) = IsLeft word × AreLeft rest

module _ (forms : List Form) where
  abbrev pub rules : List Rule
  rules = rules_for forms

  abbrev walk_from : Walk → List Text → Walk
  walk_from w words = fold (walked rules []) w words

  abbrev pub end_fault : Held → Kinds
  end_fault h = or_else (settle_fault rules false h) (or_else (defaults_fault (settled rules h).rows rules) (check_fault (shape forms) (finished rules h) false))

  -- what the parser gives for the words from here on
  abbrev pub parsed_from : Walk → List Text → Option Values
  parsed_from w words =
      values_by (or_else (walk_fault (shape forms) [] w words) (end_fault (walk_from w words).held)) (finished rules (walk_from w words).held)

  -- a word with a fault
  fails_at : (w : Walk) (word : Text) (rest : List Text) → IsFault (turn_fault (shape forms) [] w word)
      → parsed_from w (word ∷ rest) ≡ None
  unfolding walk_fault
  fails_at w word rest f = refused_by _ _ (fault_first _ _ (fault_first _ _ f))

  -- a word with none
  goes_on : (w v : Walk) (word : Text) (rest : List Text) → turn_fault (shape forms) [] w word ≡ [] → walked rules [] w word ≡ v
      → parsed_from w (word ∷ rest) ≡ parsed_from v rest
  unfolding walk_fault
  goes_on w v word rest none is = grind (arith, shape)

  no_words : (w : Walk) → parsed_from w [] ≡ values_by (end_fault w.held) (finished rules w.held)
  unfolding walk_fault
  no_words w = refl

  -- ---- words that spell options

  abbrev spelled : Text → Option Form
  spelled rest = spelled_form forms (45 ∷ 45 ∷ rest)

  found_is : (t : Text) (o : Option Form) → spelled t ≡ o → arg_by_long rules (spelling_in t) ≡ option_map rule_for o
  found_is t o e = by_long forms (spelling_in t) ∙ ap (λ s. option_map rule_for (form_spelled forms s)) (sym (long_spelling t)) ∙ ap (option_map rule_for) e

  -- its spelling names an option
  named_is : (t : Text) (name : Text) → spelled t ≡ Some (valued name) → IsValued forms name
  named_is t name e =
      let here : form_spelled forms (45 ∷ 45 ∷ spelling_in t) ≡ Some (valued name) = ap (form_spelled forms) (sym (long_spelling t)) ∙ e in
      let same : name ≡ spelling_in t =
      (bytes_eq-Decides name (spelling_in t)).0 (find-passes (λ form. bytes_eq (45 ∷ 45 ∷ form.name) (45 ∷ 45 ∷ spelling_in t)) forms (valued name) here) in
      by_id forms name ∙ ap (λ n. option_map rule_for (form_spelled forms (45 ∷ 45 ∷ n))) same ∙ ap (option_map rule_for) here

  -- a fault of what is pending comes first, at any option
  long_fails : (waiting : Waiting) (h : Held) (c : ℕ) (t : Text) → IsFault (settle_fault rules false h)
      → IsFault (turn_fault (shape forms) [] (at_word h waiting) (45 ∷ 45 ∷ c ∷ t))
  long_fails waiting h c t f = go (spelled (c ∷ t)) (attached_value (c ∷ t)) refl refl
    where
      by : (name : Text) (has_value : Bool) (v : Option Text) → spelled (c ∷ t) ≡ Some (record { name = name; has_value = has_value })
          → attached_value (c ∷ t) ≡ v → IsFault (turn_fault (shape forms) [] (at_word h waiting) (45 ∷ 45 ∷ c ∷ t))
      by name true (Some v) e a = (f.0, f.1, (given_option forms waiting h c t name v (found_is (c ∷ t) _ e) a).0 ∙ rw f.2 refl)
      by name true None e a = (f.0, f.1, (waiting_option forms waiting h c t name (found_is (c ∷ t) _ e) a).0 ∙ f.2)
      by name false (Some v) e a = (kind.TooManyValues, [], unneeded_value forms waiting h c t name v (found_is (c ∷ t) _ e) a)
      by name false None e a = (f.0, f.1, (given_flag forms waiting h c t name (found_is (c ∷ t) _ e) a).0 ∙ rw f.2 refl)

      go : (o : Option Form) (v : Option Text) → spelled (c ∷ t) ≡ o → attached_value (c ∷ t) ≡ v
          → IsFault (turn_fault (shape forms) [] (at_word h waiting) (45 ∷ 45 ∷ c ∷ t))
      go None v e a = (kind.UnknownArgument, [], unknown_option forms waiting h c t (found_is (c ∷ t) None e))
      go (Some form) v e a = by form.name form.has_value v e a

  short_fails : (waiting : Waiting) (h : Held) (word : Text) → h.skip ≡ 0 → IsShort word
      → IsFault (turn_fault (shape forms) [] (at_word h waiting) word)
  short_fails waiting h word zero short =
      subst (λ w. IsFault (turn_fault (shape forms) [] (at_word h waiting) w)) (sym short.3)
      (kind.UnknownArgument, [], short_refused forms waiting h short.0 short.2 short.1 short.4 zero short.5)

  pending_fails : (words : List Text) (h : Held) → AreLeft words → h.skip ≡ 0 → IsFault (settle_fault rules false h)
      → parsed_from (at_word h idle) words ≡ None
  pending_fails [] h left zero f = no_words (at_word h idle) ∙ refused_by _ _ (fault_first _ _ f)
  pending_fails (word ∷ rest) h left zero f = elim left.0 [
    | inl plain ↦ fails_at (at_word h idle) word rest (kind.UnknownArgument, [], stray_word forms h word plain)
    | inr (inr short) ↦ fails_at (at_word h idle) word rest (short_fails idle h word zero short)
    | inr (inl long) ↦ fails_at (at_word h idle) word rest (subst (λ w. IsFault (turn_fault (shape forms) [] (at_word h idle) w)) (sym long.2) (long_fails idle h long.0 long.1 f))
  ]

  -- ---- the walk and the grammar side by side

  abbrev walk_at : Option Text → Held → Walk
  walk_at None h = at_word h idle
  walk_at (Some name) h = at_word (pending name [] (settled rules h)) (option name)

  -- what waits for its value is an option that has one
  abbrev IsWaiting : Option Text → Type 0
  IsWaiting None = Unit {0}
  IsWaiting (Some name) = IsValued forms name

  -- what the grammar gives for the words from here on: where an option waits, the first of them are to be its value
  abbrev read_at : Values → Option Text → List Text → Option Values
  read_at s None words = idle_read forms s words
  read_at s (Some name) words = option_and_then (λ more. options_read forms more words) (give name (plain_words words) s)

  abbrev Agrees : List Text → Type 0
  Agrees words = (waiting : Option Text) (h : Held) (s : Values) → IsWaiting waiting → h.skip ≡ 0 → settle_fault rules false h ≡ []
      → RowsHold (settled rules h).rows s → parsed_from (walk_at waiting h) words ≡ read_at s waiting words

  module _ (h : Held) (s : Values) (zero : h.skip ≡ 0) (passes : settle_fault rules false h ≡ []) (holds : RowsHold (settled rules h).rows s) where
    idle_end : parsed_from (walk_at None h) [] ≡ read_at s None []
    unfolding options_read
    idle_end =
        let rows = (settled rules h).rows in
        no_words (walk_at None h)
        ∙ (λ i. values_by (or_else (passes i) (or_else (defaults_pass forms rows i) (none_required forms (finished rules h) i))) (finished rules h))
        ∙ (λ i. Some (λ name. (defaults_keep forms rows name ∙ (holds name).value) i))

    no_value_yet : (name : Text) → IsValued forms name → IsFault (settle_fault rules false (pending name [] (settled rules h)))
    no_value_yet name is = (kind.InvalidValue, [], pending_fault forms name [] (settled rules h) is ∙ no_value_fault name (settled rules h).rows)

    waiting_end : (name : Text) → IsValued forms name → parsed_from (walk_at (Some name) h) [] ≡ read_at s (Some name) []
    waiting_end name is = no_words (walk_at (Some name) h) ∙ refused_by _ _ (fault_first _ _ (no_value_yet name is))

    -- a second use of an option is a fault, and a first one isn't
    repeat_is : (name : Text) (o : Option Text) → s name ≡ o
        → repeated name (settled rules h).rows ≡ cond (is_some o) (kind.ArgumentConflict ∷ []) []
    repeat_is name o e = ap (λ t. cond t (kind.ArgumentConflict ∷ []) []) ((holds name).has_row ∙ ap is_some e)

    module _ (rest : List Text) (agrees : Agrees rest) where
      -- a use of an option in a word of its own, with these values as the parser has them
      used_in_word : (rule : Rule) (values : List Text) (name value word : Text)
          → use_fault false rule values (settled rules h).rows ≡ repeated name (settled rules h).rows
          → (reacted rules rule values h).rows ≡ with_row name value (settled rules h).rows
          → turn_fault (shape forms) [] (at_word h idle) word ≡ or_else (settle_fault rules false h) (use_fault false rule values (settled rules h).rows)
          → walked rules [] (at_word h idle) word ≡ at_word (reacted rules rule values h) idle
          → parsed_from (walk_at None h) (word ∷ rest) ≡ given_then forms s name value rest
      used_in_word rule values name value word fault rows turn walk = go (s name) refl
        where
          turn_is : (o : Option Text) → s name ≡ o
              → turn_fault (shape forms) [] (at_word h idle) word ≡ cond (is_some o) (kind.ArgumentConflict ∷ []) []
          turn_is o e = turn ∙ (λ i. or_else (passes i) ((fault ∙ repeat_is name o e) i))

          go : (o : Option Text) → s name ≡ o → parsed_from (walk_at None h) (word ∷ rest) ≡ given_then forms s name value rest
          go (Some u) full = fails_at (at_word h idle) word rest (kind.ArgumentConflict, [], turn_is (Some u) full) ∙ rw full refl
          go None free =
              goes_on (at_word h idle) (walk_at None (reacted rules rule values h)) word rest (turn_is None free) walk
              ∙ agrees None (reacted rules rule values h) (with_value name value s) tt zero refl
              (subst (λ rows. RowsHold rows (with_value name value s)) (sym rows) (first_use_holds (settled rules h).rows s name value holds free))
              ∙ rw free refl

      -- an option where none waits
      idle_long : (c : ℕ) (t : Text)
          → parsed_from (walk_at None h) ((45 ∷ 45 ∷ c ∷ t) ∷ rest) ≡ read_at s None ((45 ∷ 45 ∷ c ∷ t) ∷ rest)
      idle_long c t =
          go (spelled (c ∷ t)) (attached_value (c ∷ t)) refl refl
          ∙ ap (λ v. option_read forms s rest v (spelled (c ∷ t))) (sym (long_attached (c ∷ t)))
          ∙ sym (idle_hyphen forms s (45 ∷ 45 ∷ c ∷ t) rest refl)
        where
          by : (name : Text) (has_value : Bool) (v : Option Text) → spelled (c ∷ t) ≡ Some (record { name = name; has_value = has_value })
              → attached_value (c ∷ t) ≡ v
              → parsed_from (walk_at None h) ((45 ∷ 45 ∷ c ∷ t) ∷ rest)
              ≡ option_read forms s rest v (Some (record { name = name; has_value = has_value }))
          by name true (Some v) e a =
              let turn = given_option forms idle h c t name v (found_is (c ∷ t) _ e) a in
              used_in_word (rule_for (valued name)) (v ∷ []) name v _ (value_fault name (settled rules h).rows v) (value_used name (settled rules h).rows v) turn.0 turn.1
              ∙ sym (one_value forms s name v rest)
          by name true None e a =
              let turn = waiting_option forms idle h c t name (found_is (c ∷ t) _ e) a in
              goes_on (at_word h idle) (walk_at (Some name) h) _ rest (turn.0 ∙ passes) turn.1
              ∙ agrees (Some name) h s (named_is (c ∷ t) name e) zero passes holds
          by name false (Some v) e a =
              fails_at (at_word h idle) _ rest (kind.TooManyValues, [], unneeded_value forms idle h c t name v (found_is (c ∷ t) _ e) a)
          by name false None e a =
              let turn = given_flag forms idle h c t name (found_is (c ∷ t) _ e) a in
              used_in_word (rule_for (flag name)) [] name (codes "true") _ (flag_fault name (settled rules h).rows) (flag_used name (settled rules h).rows) turn.0 turn.1
              ∙ sym (one_value forms s name (codes "true") rest)

          go : (o : Option Form) (v : Option Text) → spelled (c ∷ t) ≡ o → attached_value (c ∷ t) ≡ v
              → parsed_from (walk_at None h) ((45 ∷ 45 ∷ c ∷ t) ∷ rest) ≡ option_read forms s rest v o
          go None v e a = fails_at (at_word h idle) _ rest (kind.UnknownArgument, [], unknown_option forms idle h c t (found_is (c ∷ t) None e))
          go (Some form) v e a = by form.name form.has_value v e a

      -- a word that spells none
      idle_other : (word : Text) → begins_with_hyphen word ≡ false
          → parsed_from (walk_at None h) (word ∷ rest) ≡ read_at s None (word ∷ rest)
      idle_other word plain =
          fails_at (at_word h idle) word rest (kind.UnknownArgument, [], stray_word forms h word plain)
          ∙ sym (idle_plain forms s word rest plain)

      idle_short : (word : Text) → IsShort word
          → parsed_from (walk_at None h) (word ∷ rest) ≡ read_at s None (word ∷ rest)
      idle_short word short =
          let hyphen : begins_with_hyphen word ≡ true = ap begins_with_hyphen short.3 in
          let none : spelled_form forms word ≡ None = subst (λ w. spelled_form forms w ≡ None) (sym short.3) (short_spelling forms short.0 short.1 short.4) in
          fails_at (at_word h idle) word rest (short_fails idle h word zero short)
          ∙ ap (option_read forms s rest (attached_value word)) (sym none)
          ∙ sym (idle_hyphen forms s word rest hyphen)

      module _ (name : Text) (is : IsValued forms name) where
        waiting_short : (word : Text) → IsShort word
            → parsed_from (walk_at (Some name) h) (word ∷ rest) ≡ read_at s (Some name) (word ∷ rest)
        waiting_short word short =
            let hyphen : begins_with_hyphen word ≡ true = ap begins_with_hyphen short.3 in
            fails_at (walk_at (Some name) h) word rest (short_fails (option name) (pending name [] (settled rules h)) word zero short)
            ∙ ap (λ p. option_and_then (λ more. options_read forms more (word ∷ rest)) (give name p s)) (sym (plain-hyphen word rest hyphen))

        waiting_long : (c : ℕ) (t : Text)
            → parsed_from (walk_at (Some name) h) ((45 ∷ 45 ∷ c ∷ t) ∷ rest) ≡ read_at s (Some name) ((45 ∷ 45 ∷ c ∷ t) ∷ rest)
        waiting_long c t = fails_at (walk_at (Some name) h) _ rest (long_fails (option name) (pending name [] (settled rules h)) c t (no_value_yet name is))

        waiting_plain : (word : Text) → AreLeft rest → begins_with_hyphen word ≡ false
            → parsed_from (walk_at (Some name) h) (word ∷ rest) ≡ read_at s (Some name) (word ∷ rest)
        waiting_plain word left plain =
            let turn = value_word forms name (settled rules h) word is plain in
            goes_on (walk_at (Some name) h) (at_word (pending name (word ∷ []) (settled rules h)) idle) word rest turn.0 turn.1
            ∙ taken (s name) refl ∙ sym (one_value forms s name word rest)
            ∙ sym (λ i. option_and_then (λ more. plain_skipped forms more word rest plain i) (give name (plain-cons word rest plain i) s))
          where
            fault_is : (o : Option Text) → s name ≡ o
                → settle_fault rules false (pending name (word ∷ []) (settled rules h)) ≡ cond (is_some o) (kind.ArgumentConflict ∷ []) []
            fault_is o e =
                pending_fault forms name (word ∷ []) (settled rules h) is ∙ value_fault name (settled rules h).rows word ∙ repeat_is name o e

            taken : (o : Option Text) → s name ≡ o
                → parsed_from (at_word (pending name (word ∷ []) (settled rules h)) idle) rest ≡ given_then forms s name word rest
            taken (Some u) full =
                pending_fails rest (pending name (word ∷ []) (settled rules h)) left zero (kind.ArgumentConflict, [], fault_is (Some u) full)
                ∙ rw full refl
            taken None free =
                let rows = pending_settled forms name (word ∷ []) (settled rules h) is ∙ value_used name (settled rules h).rows word in
                agrees None (pending name (word ∷ []) (settled rules h)) (with_value name word s) tt zero (fault_is None free)
                (subst (λ rs. RowsHold rs (with_value name word s)) (sym rows) (first_use_holds (settled rules h).rows s name word holds free))
                ∙ rw free refl

  -- the parser agrees with the grammar, from wherever the walk stands
  pub agrees : (words : List Text) → AreLeft words → Agrees words
  agrees [] left None h s is zero passes holds = idle_end h s zero passes holds
  agrees [] left (Some name) h s is zero passes holds = waiting_end h s zero passes holds name is
  agrees (word ∷ rest) left None h s is zero passes holds =
      let later = agrees rest left.1 in
      elim left.0 [
        | inl plain ↦ idle_other h s zero passes holds rest later word plain
        | inr (inr short) ↦ idle_short h s zero passes holds rest later word short
        | inr (inl long) ↦
            subst (λ w. parsed_from (walk_at None h) (w ∷ rest) ≡ read_at s None (w ∷ rest)) (sym long.2) (idle_long h s zero passes holds rest later long.0 long.1)
      ]
  agrees (word ∷ rest) left (Some name) h s is zero passes holds =
      let later = agrees rest left.1 in
      elim left.0 [
        | inl plain ↦ waiting_plain h s zero passes holds rest later name is word left.1 plain
        | inr (inr short) ↦ waiting_short h s zero passes holds rest later name is word short
        | inr (inl long) ↦
            subst (λ w. parsed_from (walk_at (Some name) h) (w ∷ rest) ≡ read_at s (Some name) (w ∷ rest)) (sym long.2) (waiting_long h s zero passes holds rest later name is long.0 long.1)
      ]
