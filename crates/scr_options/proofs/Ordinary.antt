-- The words that are left to the parser, and those that are refused before it.
use Rattle.std.proofs.Common.{◌≡◌, ◌∙◌, inl, inr, refl, sym, ap, subst, cond, ℕ, zero, suc, ◌==◌, ◌||◌, ◌<◌, ◌+◌, List, [], ◌∷◌, ◌++◌, Bool, true, false, Option, Some, None, codes, length, arith, slice_index_or}
use Rattle.std.specs.Prelude.{encode_utf8_all, option_and_then, slice_get}
use Rattle.std.proofs.lemmas.Slice.Eq.{bytes_eq-Decides}
use Rattle.std.specs.Borrow.{Bor}
use Rattle.std.specs.List.{list_any}
use Rattle.std.specs.Str.{IsUtf8, bytes_eq, chars}
use Rattle.std.proofs.lemmas.Bool.{cases_lt}
use Rattle.std.proofs.lemmas.List.{get_or_default}
use Rattle.std.proofs.lemmas.Bool.Decides.{nat_tests}
use Rattle.std.proofs.lemmas.Str.{IsUtf8-past_char, encode_ascii, encodes-chars}
use Rattle.scr_options.specs.Hyphens.{IsOrdinary, is_bare, is_empty, is_nameless}
use Rattle.scr_options.specs.OptionWords.{Form, Text, Values, begins_with_hyphen, give, options_of, options_read, spelled_form, values_with}
use Rattle.scr_options.specs.Words.{texts}
use Rattle.scr_options.proofs.WordForms.{form_spelled}
use Rattle.scr_options.proofs.Steps.{no_values}
use Rattle.scr_options.proofs.Walked.{AreLeft, IsLeft}

is_byte : (c : ℕ) → (c == 45) ≡ true → c ≡ 45
is_byte c e = grind (arith, nat_tests)

-- a text that isn't empty has a first character
first_char : (c : ℕ) (rest : Text) → IsUtf8 (c ∷ rest) → (x : ℕ) × (slice_get (chars (c ∷ rest)) 0 ≡ Some x)
first_char c rest u = go (chars (c ∷ rest)) refl (encodes-chars (c ∷ rest) u)
  where
    go : (cs : List ℕ) → chars (c ∷ rest) ≡ cs → encode_utf8_all (chars (c ∷ rest)) ≡ c ∷ rest
        → (x : ℕ) × (slice_get (chars (c ∷ rest)) 0 ≡ Some x)
    go [] e spells =
        let none : [] ≡ c ∷ rest = rw e at spells in
        cc
    go (x ∷ cs) e spells = (x, rw e refl)

past_hyphen : (rest : Text) → IsUtf8 (45 ∷ rest) → IsUtf8 rest
past_hyphen rest u = IsUtf8-past_char (45 ∷ rest) rest 45 u (ap (λ t. t ++ rest) (sym (encode_ascii 45 (omega arith))))

left_of : (word : Text) → IsOrdinary word → IsLeft word
left_of [] h = inl refl
left_of (c ∷ rest) h = go (c == 45) refl
  where
    second : (rest : Text) → c ≡ 45 → IsUtf8 (c ∷ rest) → is_bare (c ∷ rest) ≡ false → IsLeft (c ∷ rest)
    second [] e u bare =
        let yes : is_bare (c ∷ []) ≡ true = rw e refl in
        cc
    second (d ∷ rest) e u bare = third (d == 45) refl rest u bare
      where
        third : (t : Bool) → (d == 45) ≡ t → (rest : Text) → IsUtf8 (c ∷ d ∷ rest) → is_bare (c ∷ d ∷ rest) ≡ false
            → IsLeft (c ∷ d ∷ rest)
        third false f rest u bare =
            let first = first_char d rest (past_hyphen (d ∷ rest) (subst (λ n. IsUtf8 (n ∷ d ∷ rest)) e u)) in
            inr (inr (d, rest, first.0, ap (λ n. n ∷ d ∷ rest) e, f, first.1))
        third true f [] u bare =
            let yes : is_bare (c ∷ d ∷ []) ≡ true = rw (e, is_byte d f) refl in
            cc
        third true f (x ∷ rest) u bare = inr (inl (x, rest, (λ i. e i ∷ is_byte d f i ∷ x ∷ rest)))

    go : (t : Bool) → (c == 45) ≡ t → IsLeft (c ∷ rest)
    go false e = inl e
    go true e = second rest (is_byte c e) h.0 h.1

pub all_left : (words : List (Bor Text))
    → ((k : ℕ) (d : Bor Text) → k < length words → IsOrdinary (slice_index_or words k d).now) → AreLeft (texts words)
all_left [] h = tt
all_left (w ∷ words) h = (left_of w.now (h 0 w (omega arith)), all_left words (λ k d lt. h (suc k) d (omega arith)))

-- none of them is a lone hyphen or two
pub none_bare : (words : List (Bor Text))
    → ((k : ℕ) (d : Bor Text) → k < length words → IsOrdinary (slice_index_or words k d).now)
    → list_any is_bare (texts words) ≡ false
none_bare [] h = refl
none_bare (w ∷ words) h =
    ap (λ b. b || list_any is_bare (texts words)) (h 0 w (omega arith)).1
    ∙ none_bare words (λ k d lt. h (suc k) d (omega arith))

-- ---- a lone hyphen or two are never in the grammar

one_spells : (forms : List Form) → form_spelled forms (codes "-") ≡ None
one_spells [] = refl
one_spells (form ∷ forms) = one_spells forms

-- the head of a list of options isn't spelled by two hyphens, since it has a name
named_head : (form : Form) (name : Text) (b : Bool) (rest : Option Form) → (is_empty name || b) ≡ false → (b ≡ false → rest ≡ None)
    → cond (bytes_eq (45 ∷ 45 ∷ name) (45 ∷ 45 ∷ [])) (Some form) rest ≡ None
named_head form [] b rest h none = cc
named_head form (c ∷ name) b rest h none = none h

two_spell : (forms : List Form) → list_any is_nameless forms ≡ false → form_spelled forms (codes "--") ≡ None
two_spell [] h = refl
two_spell (form ∷ forms) h = named_head form form.name (list_any is_nameless forms) (form_spelled forms (codes "--")) h (two_spell forms)

module _ (forms : List Form) (named : list_any is_nameless forms ≡ false) where
  bare_word : (word : Text) → is_bare word ≡ true → (begins_with_hyphen word ≡ true) × (spelled_form forms word ≡ None)
  bare_word word h = go (bytes_eq word (codes "-")) refl
    where
      one : word ≡ codes "-" → (begins_with_hyphen word ≡ true) × (spelled_form forms word ≡ None)
      one e = subst (λ w. (begins_with_hyphen w ≡ true) × (spelled_form forms w ≡ None)) (sym e) (refl, one_spells forms)

      two : word ≡ codes "--" → (begins_with_hyphen word ≡ true) × (spelled_form forms word ≡ None)
      two e = subst (λ w. (begins_with_hyphen w ≡ true) × (spelled_form forms w ≡ None)) (sym e) (refl, two_spell forms named)

      go : (t : Bool) → bytes_eq word (codes "-") ≡ t → (begins_with_hyphen word ≡ true) × (spelled_form forms word ≡ None)
      go true e = one ((bytes_eq-Decides word (codes "-")).0 e)
      go false e = two ((bytes_eq-Decides word (codes "--")).0 (ap (λ t. t || bytes_eq word (codes "--")) (sym e) ∙ h))

  -- what a word that begins with a hyphen comes to
  abbrev option_here : Values → Text → List Text → Option Form → Option Values
  option_here s word rest o =
      option_and_then (λ form. option_and_then (λ more. options_read forms more rest) (give form.name (values_with form word rest) s)) o

  refused_later : (s : Values) (word : Text) (rest : List Text) → ((more : Values) → options_read forms more rest ≡ None)
      → (o : Option Form) → option_here s word rest o ≡ None
  refused_later s word rest later None = refl
  refused_later s word rest later (Some form) = go (give form.name (values_with form word rest) s)
    where
      go : (o : Option Values) → option_and_then (λ more. options_read forms more rest) o ≡ None
      go None = refl
      go (Some more) = later more

  none_read : (words : List Text) → list_any is_bare words ≡ true → (s : Values) → options_read forms s words ≡ None
  unfolding options_read
  none_read [] h s = cc
  none_read (word ∷ rest) h s = go (is_bare word) refl (none_read rest)
    where
      go : (t : Bool) → is_bare word ≡ t → (list_any is_bare rest ≡ true → (more : Values) → options_read forms more rest ≡ None)
          → cond (begins_with_hyphen word) (option_here s word rest (spelled_form forms word)) (options_read forms s rest) ≡ None
      go true e later =
          let bare = bare_word word e in
          (λ i. cond (bare.0 i) (option_here s word rest (bare.1 i)) (options_read forms s rest))
      go false e later = by (begins_with_hyphen word) (later (ap (λ t. t || list_any is_bare rest) (sym e) ∙ h))
        where
          by : (t : Bool) → ((more : Values) → options_read forms more rest ≡ None)
              → cond t (option_here s word rest (spelled_form forms word)) (options_read forms s rest) ≡ None
          by true none = refused_later s word rest none (spelled_form forms word)
          by false none = none s

  pub none_given : (words : List Text) → list_any is_bare words ≡ true → options_of forms words ≡ None
  none_given [] h = cc
  none_given (word ∷ rest) h = go (begins_with_hyphen word) (none_read (word ∷ rest) h no_values)
    where
      go : (t : Bool) → options_read forms no_values (word ∷ rest) ≡ None → cond t (options_read forms no_values (word ∷ rest)) None ≡ None
      go true none = none
      go false none = refl

-- ---- the loop that looks for them

pub bare_at : (words : List (Bor Text)) (i : ℕ) (d : Bor Text) → i < length words
    → is_bare (slice_index_or words i d).now ≡ true → list_any is_bare (texts words) ≡ true
bare_at [] i d lt h = absurd (omega arith)
bare_at (w ∷ words) zero d lt h = rw h refl
bare_at (w ∷ words) (suc i) d lt h = go (is_bare w.now) (bare_at words i d (omega arith) h)
  where
    go : (t : Bool) → list_any is_bare (texts words) ≡ true → (t || list_any is_bare (texts words)) ≡ true
    go true e = refl
    go false e = e

pub one_more_ordinary : (words : List (Bor Text)) (i : ℕ) (d : Bor Text) → i < length words
    → ((k : ℕ) (e : Bor Text) → k < i → IsOrdinary (slice_index_or words k e).now)
    → IsOrdinary (slice_index_or words i d).now → (k : ℕ) (e : Bor Text) → k < i + 1
    → IsOrdinary (slice_index_or words k e).now
one_more_ordinary words i d lt before here k e below = elim (cases_lt k i) [
  | inl under ↦ before k e under
  | inr over ↦
      let same : i ≡ k = omega arith in
      subst (λ n. IsOrdinary (slice_index_or words n e).now) same (subst (λ w. IsOrdinary w.now) (get_or_default words i d e lt) here)
]
