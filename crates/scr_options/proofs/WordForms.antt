-- What a word is to the grammar and to the parser.
use Rattle.std.proofs.Common.{◌≡◌, ◌∙◌, refl, ap, cond, ℕ, ◌==◌, List, [], ◌∷◌, ◌++◌, Bool, true, false, Option, Some, None, codes, arith}
use Rattle.std.specs.List.{after_first, before_first, find, list_any}
use Rattle.std.specs.Str.{bytes_eq}
use Rattle.std.proofs.lemmas.Bool.Decides.{nat_tests}
use Rattle.scr_options.specs.OptionWords.{Form, Text, begins_with_hyphen, is_equals, spelled_form, values_with}

-- what stands before the first `=` of a word, or all of it
abbrev pub spelling_in : Text → Text
spelling_in word = before_first is_equals word

-- what stands after the first `=` of a word, if it has one
abbrev pub attached_value : Text → Option Text
attached_value word = cond (list_any is_equals word) (Some (after_first is_equals word)) None

-- the option whose spelling a text is
abbrev pub form_spelled : List Form → Text → Option Form
form_spelled forms text = find (λ form. bytes_eq (45 ∷ 45 ∷ form.name) text) forms

-- what a search finds passes its test
passes-at : {X : Type 0} (p : X → Bool) (ys : List X) (x y : X) (b : Bool) → p y ≡ b → cond b (Some y) (find p ys) ≡ Some x
    → (find p ys ≡ Some x → p x ≡ true) → p x ≡ true
passes-at p ys x y true here found rest = cc
passes-at p ys x y false here found rest = rest found

pub find-passes : {X : Type 0} (p : X → Bool) (xs : List X) (x : X) → find p xs ≡ Some x → p x ≡ true
find-passes p [] x found = cc
find-passes p (y ∷ ys) x found = passes-at p ys x y (p y) refl found (find-passes p ys x)

-- ---- what stands before the first of a kind

before-stop : {X : Type 0} (p : X → Bool) (x : X) (xs : List X) → p x ≡ true → before_first p (x ∷ xs) ≡ []
before-stop p x xs h = rw h refl

before-cons : {X : Type 0} (p : X → Bool) (x : X) (xs : List X) → p x ≡ false → before_first p (x ∷ xs) ≡ x ∷ before_first p xs
before-cons p x xs h = grind arith

pub spelling-equals : (c : ℕ) (rest : Text) → is_equals c ≡ true → spelling_in (c ∷ rest) ≡ []
spelling-equals c rest h = before-stop is_equals c rest h

pub spelling-cons : (c : ℕ) (rest : Text) → is_equals c ≡ false → spelling_in (c ∷ rest) ≡ c ∷ spelling_in rest
spelling-cons c rest h = before-cons is_equals c rest h

pub attached-cons : (c : ℕ) (rest : Text) → is_equals c ≡ false → attached_value (c ∷ rest) ≡ attached_value rest
attached-cons c rest h = grind arith

-- a word of two hyphens and a text
pub long_spelling : (rest : Text) → spelling_in (45 ∷ 45 ∷ rest) ≡ 45 ∷ 45 ∷ spelling_in rest
long_spelling rest = spelling-cons 45 (45 ∷ rest) refl ∙ ap (λ t. 45 ∷ t) (spelling-cons 45 rest refl)

pub long_attached : (rest : Text) → attached_value (45 ∷ 45 ∷ rest) ≡ attached_value rest
long_attached rest = attached-cons 45 (45 ∷ rest) refl ∙ attached-cons 45 rest refl

-- ---- a word that begins with a single hyphen spells no option

other_byte : (c : ℕ) → (c == 45) ≡ false → (45 == c) ≡ false
other_byte c h = grind (arith, nat_tests)

one_hyphen : (forms : List Form) → form_spelled forms (45 ∷ []) ≡ None
one_hyphen [] = refl
one_hyphen (form ∷ forms) = one_hyphen forms

other_second : (forms : List Form) (c : ℕ) (rest : Text) → (c == 45) ≡ false → form_spelled forms (45 ∷ c ∷ rest) ≡ None
other_second [] c rest h = refl
other_second (form ∷ forms) c rest h = rw (other_byte c h) (other_second forms c rest h)

pub short_spelling : (forms : List Form) (c : ℕ) (rest : Text) → (c == 45) ≡ false → spelled_form forms (45 ∷ c ∷ rest) ≡ None
short_spelling forms c rest h = ap (form_spelled forms) (spelling-cons 45 (c ∷ rest) refl) ∙ go (is_equals c) refl
  where
    go : (t : Bool) → is_equals c ≡ t → form_spelled forms (45 ∷ spelling_in (c ∷ rest)) ≡ None
    go true e = ap (λ text. form_spelled forms (45 ∷ text)) (spelling-equals c rest e) ∙ one_hyphen forms
    go false e = ap (λ text. form_spelled forms (45 ∷ text)) (spelling-cons c rest e) ∙ other_second forms c (spelling_in rest) h

-- ---- the words behind an option, up to the next

abbrev pub plain_words : List Text → List Text
plain_words words = before_first begins_with_hyphen words

pub plain-hyphen : (word : Text) (rest : List Text) → begins_with_hyphen word ≡ true → plain_words (word ∷ rest) ≡ []
plain-hyphen word rest h = before-stop begins_with_hyphen word rest h

pub plain-cons : (word : Text) (rest : List Text) → begins_with_hyphen word ≡ false → plain_words (word ∷ rest) ≡ word ∷ plain_words rest
plain-cons word rest h = before-cons begins_with_hyphen word rest h

-- ---- what stands as the value of an option, by what is attached to its word

abbrev pub held : Option Text → List Text
held None = []
held (Some value) = value ∷ []

abbrev pub values_beside : Bool → Option Text → List Text → List Text
values_beside has_value attached plain = cond has_value [] (codes "true" ∷ []) ++ held attached ++ plain

pub values-attached : (form : Form) (word : Text) (rest : List Text)
    → values_with form word rest ≡ values_beside form.has_value (attached_value word) (plain_words rest)
values-attached form word rest = ap (λ vs. cond form.has_value [] (codes "true" ∷ []) ++ vs ++ plain_words rest) (go (list_any is_equals word))
  where
    go : (t : Bool) → cond t (after_first is_equals word ∷ []) [] ≡ held (cond t (Some (after_first is_equals word)) None)
    go true = refl
    go false = refl
