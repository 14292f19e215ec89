-- Options are read back from however they are written, and words that are read are a way to write options.
use Rattle.std.proofs.Common.{◌≡◌, ◌∙◌, refl, sym, ap, ℕ, List, [], ◌∷◌, ◌++◌, Bool, true, false, Option, Some, None, codes, arith}
use Rattle.std.specs.Prelude.{option_and_then, unwrap_or}
use Rattle.std.specs.Str.{bytes_eq}
use Rattle.std.proofs.lemmas.Bool.Decides.{nat_tests}
use Rattle.std.proofs.lemmas.Slice.Eq.{bytes_eq-Decides}
use Rattle.scr_options.specs.OptionWords.{Form, Text, Values, begins_with_hyphen, flag, give, is_equals, options_of, options_read, spelled_form, valued}
use Rattle.scr_laws.specs.Spelling.{Written, Flagged, Joined, Apart, AreWritten, IsOption, IsWritten, ReadsBack, ReadsNothingElse, name_of, value_of, words_of, written_values, written_words}
use Rattle.scr_options.proofs.WordForms.{attached-cons, attached_value, find-passes, form_spelled, plain-cons, plain-hyphen, plain_words, spelling-cons, spelling-equals, spelling_in, values_beside}
use Rattle.scr_options.proofs.Steps.{from_start, hyphen_read, if_none, no_values, option_read, plain_skipped}

-- ---- a word by its first `=`

-- what stands before the first `=` has none
spelling_twice : (word : Text) → spelling_in (spelling_in word) ≡ spelling_in word
spelling_twice [] = refl
spelling_twice (c ∷ rest) = go (is_equals c) refl (spelling_twice rest)
  where
    go : (t : Bool) → is_equals c ≡ t → spelling_in (spelling_in rest) ≡ spelling_in rest
        → spelling_in (spelling_in (c ∷ rest)) ≡ spelling_in (c ∷ rest)
    go true e later = ap spelling_in (spelling-equals c rest e) ∙ sym (spelling-equals c rest e)
    go false e later =
        ap spelling_in (spelling-cons c rest e) ∙ spelling-cons c (spelling_in rest) e ∙ ap (λ t. c ∷ t) later ∙ sym (spelling-cons c rest e)

-- where the whole of a text stands before it, the rest does so of the rest
whole_rest : (c : ℕ) (rest : Text) → spelling_in (c ∷ rest) ≡ c ∷ rest → (is_equals c ≡ false) × (spelling_in rest ≡ rest)
whole_rest c rest h = go (is_equals c) refl
  where
    go : (t : Bool) → is_equals c ≡ t → (is_equals c ≡ false) × (spelling_in rest ≡ rest)
    go true e =
        let none : [] ≡ c ∷ rest = sym (spelling-equals c rest e) ∙ h in
        let no : ⊥ = cc in
        absurd no
    go false e =
        let same : c ∷ spelling_in rest ≡ c ∷ rest = sym (spelling-cons c rest e) ∙ h in
        let is : spelling_in rest ≡ rest = cc in
        (e, is)

-- nothing is attached to such a text
none_attached : (word : Text) → spelling_in word ≡ word → attached_value word ≡ None
none_attached [] h = refl
none_attached (c ∷ rest) h =
    let it = whole_rest c rest h in
    attached-cons c rest it.0 ∙ none_attached rest it.1

-- and what is joined to it by an `=` is
joined : (text value : Text) → spelling_in text ≡ text
    → (spelling_in (text ++ 61 ∷ value) ≡ text) × (attached_value (text ++ 61 ∷ value) ≡ Some value)
joined [] value h = (refl, refl)
joined (c ∷ rest) value h =
    let it = whole_rest c rest h in
    let later = joined rest value it.1 in (
      spelling-cons c (rest ++ 61 ∷ value) it.0 ∙ ap (λ t. c ∷ t) later.0,
      attached-cons c (rest ++ 61 ∷ value) it.0 ∙ later.1,
    )

-- a word is what stands before its first `=`, and that and what stands after it
whole_word : (word : Text) → attached_value word ≡ None → word ≡ spelling_in word
whole_word [] h = refl
whole_word (c ∷ rest) h = go (is_equals c) refl (whole_word rest)
  where
    go : (t : Bool) → is_equals c ≡ t → (attached_value rest ≡ None → rest ≡ spelling_in rest) → c ∷ rest ≡ spelling_in (c ∷ rest)
    go true e later =
        let some : attached_value (c ∷ rest) ≡ Some rest = rw e refl in
        cc
    go false e later = ap (λ t. c ∷ t) (later (sym (attached-cons c rest e) ∙ h)) ∙ sym (spelling-cons c rest e)

split_word : (word v : Text) → attached_value word ≡ Some v → word ≡ spelling_in word ++ 61 ∷ v
split_word [] v h = cc
split_word (c ∷ rest) v h = go (is_equals c) refl (split_word rest v)
  where
    go : (t : Bool) → is_equals c ≡ t → (attached_value rest ≡ Some v → rest ≡ spelling_in rest ++ 61 ∷ v)
        → c ∷ rest ≡ spelling_in (c ∷ rest) ++ 61 ∷ v
    go true e later =
        let some : attached_value (c ∷ rest) ≡ Some rest = rw e refl in
        let same : Some rest ≡ Some v = sym some ∙ h in
        let byte : c ≡ 61 = grind (arith, nat_tests) in
        (λ i. byte i ∷ unwrap_or (same i) rest) ∙ ap (λ t. t ++ 61 ∷ v) (sym (spelling-equals c rest e))
    go false e later = ap (λ t. c ∷ t) (later (sym (attached-cons c rest e) ∙ h)) ∙ ap (λ t. t ++ 61 ∷ v) (sym (spelling-cons c rest e))

-- ---- the option that a word spells

module _ (forms : List Form) where
  spelled_by : (word : Text) (form : Form) → spelled_form forms word ≡ Some form → codes "--" ++ form.name ≡ spelling_in word
  spelled_by word form e =
      (bytes_eq-Decides (45 ∷ 45 ∷ form.name) (spelling_in word)).0 (find-passes (λ f. bytes_eq (45 ∷ 45 ∷ f.name) (spelling_in word)) forms form e)

  -- its own spelling spells it too
  own_spelling : (word : Text) (form : Form) → spelled_form forms word ≡ Some form → IsOption forms form
  own_spelling word form e = ap (form_spelled forms) (ap spelling_in (spelled_by word form e) ∙ spelling_twice word) ∙ e

  -- and its name has no `=`
  whole_spelling : (form : Form) → IsOption forms form → spelling_in (codes "--" ++ form.name) ≡ codes "--" ++ form.name
  whole_spelling form is = sym (spelled_by (codes "--" ++ form.name) form is)

-- ---- read back

plain_written : (ws : List Written) → plain_words (written_words ws) ≡ []
plain_written [] = refl
plain_written (Flagged name ∷ ws) = refl
plain_written (Joined name value ∷ ws) = refl
plain_written (Apart name value ∷ ws) = refl

module _ (forms : List Form) where
  first_read : (w : Written) (rest : List Text) (s : Values) → IsWritten forms w → plain_words rest ≡ []
      → options_read forms s (words_of w ++ rest) ≡ option_and_then (λ more. options_read forms more rest) (give (name_of w) (value_of w ∷ []) s)
  first_read (Flagged name) rest s is none =
      hyphen_read forms s (codes "--" ++ name) rest refl
      ∙ (λ i. option_read forms s rest (none_attached (codes "--" ++ name) (whole_spelling forms (flag name) is) i) (is i))
      ∙ ap (λ p. option_and_then (λ more. options_read forms more rest) (give name (codes "true" ∷ p) s)) none
  first_read (Joined name value) rest s is none =
      let it = joined (codes "--" ++ name) value (whole_spelling forms (valued name) is) in
      let spelled : spelled_form forms (codes "--" ++ name ++ 61 ∷ value) ≡ Some (valued name) =
      ap (form_spelled forms) (it.0 ∙ sym (whole_spelling forms (valued name) is)) ∙ is in
      hyphen_read forms s (codes "--" ++ name ++ 61 ∷ value) rest refl
      ∙ (λ i. option_read forms s rest (it.1 i) (spelled i))
      ∙ ap (λ p. option_and_then (λ more. options_read forms more rest) (give name (value ∷ p) s)) none
  first_read (Apart name value) rest s is none =
      hyphen_read forms s (codes "--" ++ name) (value ∷ rest) refl
      ∙ (λ i. option_read forms s (value ∷ rest) (none_attached (codes "--" ++ name) (whole_spelling forms (valued name) is.0) i) (is.0 i))
      ∙ (λ i. option_and_then (λ more. plain_skipped forms more value rest is.1 i) (give name ((plain-cons value rest is.1 ∙ ap (λ p. value ∷ p) none) i) s))

  written_read : (ws : List Written) (s : Values) → AreWritten forms ws → options_read forms s (written_words ws) ≡ written_values s ws
  unfolding options_read
  written_read [] s are = refl
  written_read (w ∷ ws) s are =
      first_read w (written_words ws) s are.0 (plain_written ws)
      ∙ (λ i. option_and_then (λ more. written_read ws more are.1 i) (give (name_of w) (value_of w ∷ []) s))

pub reads_back : ReadsBack
reads_back forms words values it =
    ap (options_of forms) (sym it.words_are) ∙ sym (from_start forms (written_words it.written))
    ∙ ap (λ p. if_none p (options_read forms no_values (written_words it.written))) (plain_written it.written)
    ∙ written_read forms it.written no_values it.are_options ∙ it.values_are

-- ---- the other way

-- words behind those that are no option's are a way to write options, with these values after those so far
record Read (forms : List Form) (s : Values) (words : List Text) (values : Values) : Type 0 where
  written : List Written
  are_options : AreWritten forms written
  words_are : plain_words words ++ written_words written ≡ words
  values_are : written_values s written ≡ Some values

no_value : {X Y : Type 0} (y : Y) → None ≡ Some y → X
no_value y h =
    let no : ⊥ = cc in
    absurd no

plain_first : (rest : List Text) (v : Text) (vs : List Text) → plain_words rest ≡ v ∷ vs → begins_with_hyphen v ≡ false
plain_first [] v vs h =
    let none : [] ≡ v ∷ vs = h in
    cc
plain_first (word ∷ rest) v vs h = go (begins_with_hyphen word) refl
  where
    go : (t : Bool) → begins_with_hyphen word ≡ t → begins_with_hyphen v ≡ false
    go true e =
        let none : [] ≡ v ∷ vs = sym (plain-hyphen word rest e) ∙ h in
        cc
    go false e =
        let same : word ∷ plain_words rest ≡ v ∷ vs = sym (plain-cons word rest e) ∙ h in
        let is : word ≡ v = cc in
        ap begins_with_hyphen (sym is) ∙ e

module _ (forms : List Form) where
  abbrev ReadsLater : List Text → Values → Type 0
  ReadsLater rest values = (more : Values) → options_read forms more rest ≡ Some values → Read forms more rest values

  -- one option more, before words that are read
  with_first : (w : Written) (word : Text) (rest : List Text) (s values : Values) → IsWritten forms w → begins_with_hyphen word ≡ true
      → ((words : List Text) → plain_words rest ++ words ≡ rest → words_of w ++ words ≡ word ∷ rest) → ReadsLater rest values
      → option_and_then (λ more. options_read forms more rest) (give (name_of w) (value_of w ∷ []) s) ≡ Some values
      → Read forms s (word ∷ rest) values
  with_first w word rest s values is hyphen words later h = go (give (name_of w) (value_of w ∷ []) s) refl h
    where
      go : (o : Option Values) → give (name_of w) (value_of w ∷ []) s ≡ o
          → option_and_then (λ more. options_read forms more rest) o ≡ Some values → Read forms s (word ∷ rest) values
      go None e h = no_value values h
      go (Some more) e h =
          let it = later more h in
          record {
            written = w ∷ it.written;
            are_options = (is, it.are_options);
            words_are = ap (λ p. p ++ (words_of w ++ written_words it.written)) (plain-hyphen word rest hyphen) ∙ words (written_words it.written) it.words_are;
            values_are = ap (option_and_then (λ m. written_values m it.written)) e ∙ it.values_are;
          }

  module _ (word : Text) (rest : List Text) (s values : Values) (hyphen : begins_with_hyphen word ≡ true) (later : ReadsLater rest values) where
    -- the words behind those that stand right behind the option
    behind : (p words : List Text) → plain_words rest ≡ p → plain_words rest ++ words ≡ rest → p ++ words ≡ rest
    behind p words q are = ap (λ vs. vs ++ words) (sym q) ∙ are

    -- by the option that the word spells, what is attached to it, and what stands right behind it
    by_parts : (name : Text) (has_value : Bool) (v : Option Text) (p : List Text)
        → spelled_form forms word ≡ Some (record { name = name; has_value = has_value }) → attached_value word ≡ v → plain_words rest ≡ p
        → option_and_then (λ more. options_read forms more rest) (give name (values_beside has_value v p) s) ≡ Some values
        → Read forms s (word ∷ rest) values
    by_parts name true (Some v) [] e a q h =
        let is : codes "--" ++ name ++ 61 ∷ v ≡ word = ap (λ t. t ++ 61 ∷ v) (spelled_by forms word (valued name) e) ∙ sym (split_word word v a) in
        with_first (Joined name v) word rest s values (own_spelling forms word (valued name) e) hyphen (λ words are i. is i ∷ behind [] words q are i) later h
    by_parts name true None (v ∷ []) e a q h =
        let is : codes "--" ++ name ≡ word = spelled_by forms word (valued name) e ∙ sym (whole_word word a) in
        with_first (Apart name v) word rest s values (own_spelling forms word (valued name) e, plain_first rest v [] q) hyphen (λ words are i. is i ∷ behind (v ∷ []) words q are i) later h
    by_parts name false None [] e a q h =
        let is : codes "--" ++ name ≡ word = spelled_by forms word (flag name) e ∙ sym (whole_word word a) in
        with_first (Flagged name) word rest s values (own_spelling forms word (flag name) e) hyphen (λ words are i. is i ∷ behind [] words q are i) later h
    by_parts name true (Some v) (x ∷ p) e a q h = no_value values h
    by_parts name true None [] e a q h = no_value values h
    by_parts name true None (v ∷ x ∷ p) e a q h = no_value values h
    by_parts name false (Some v) p e a q h = no_value values h
    by_parts name false None (x ∷ p) e a q h = no_value values h

    by_option : (o : Option Form) → spelled_form forms word ≡ o → option_read forms s rest (attached_value word) o ≡ Some values
        → Read forms s (word ∷ rest) values
    by_option None e h = no_value values h
    by_option (Some form) e h = by_parts form.name form.has_value (attached_value word) (plain_words rest) e refl refl h

  read_first : (word : Text) (rest : List Text) (s values : Values) → ReadsLater rest values
      → options_read forms s (word ∷ rest) ≡ Some values → Read forms s (word ∷ rest) values
  read_first word rest s values later h = go (begins_with_hyphen word) refl
    where
      go : (t : Bool) → begins_with_hyphen word ≡ t → Read forms s (word ∷ rest) values
      go true e = by_option word rest s values e later (spelled_form forms word) refl (sym (hyphen_read forms s word rest e) ∙ h)
      go false e =
          let it = later s (sym (plain_skipped forms s word rest e) ∙ h) in
          record {
            written = it.written;
            are_options = it.are_options;
            words_are = ap (λ p. p ++ written_words it.written) (plain-cons word rest e) ∙ ap (λ ws. word ∷ ws) it.words_are;
            values_are = it.values_are;
          }

  reads : (words : List Text) (s values : Values) → options_read forms s words ≡ Some values → Read forms s words values
  unfolding options_read
  reads [] s values h = record { written = []; are_options = tt; words_are = refl; values_are = h }
  reads (word ∷ rest) s values h = read_first word rest s values (λ more. reads rest more values) h

none_before : {X : Type 0} (p : List Text) (o : Option X) (x : X) → if_none p o ≡ Some x → (p ≡ []) × (o ≡ Some x)
none_before [] o x h = (refl, h)
none_before (word ∷ p) o x h = no_value x h

pub reads_nothing_else : ReadsNothingElse
reads_nothing_else forms words values h =
    let start = none_before (plain_words words) (options_read forms no_values words) values (from_start forms words ∙ h) in
    let it = reads forms words no_values values start.1 in
    record {
      written = it.written;
      are_options = it.are_options;
      words_are = ap (λ p. p ++ written_words it.written) (sym start.0) ∙ it.words_are;
      values_are = it.values_are;
    }
