-- Lists with an item between at which they are split.
use Rattle.std.proofs.Common.{◌≡◌, ℕ, ◌≤◌, Bool, true, false, IsTrue, subst, List, [], ◌∷◌, ◌++◌, length, refl, sym, ap, ◌∙◌, arith}
use Rattle.std.specs.Prelude.{All, flat_map}
use Rattle.std.specs.List.{slice_split, onto_first}
use Rattle.std.proofs.lemmas.List.Concat.{flat_map-append}
use Rattle.std.proofs.lemmas.List.Elements.{All-nil, All-cons, All-append}
use Rattle.std.proofs.lemmas.List.Splits.{slice_split-cons_yes, slice_split-cons_no, slice_split_none, length-slice_split}
use Rattle.scr_text.specs.Lines.{has_bytes, lines_of}
use Rattle.scr_text_pages.specs.Reading.{slots_of_page, slots_of_text, is_form_feed, first_line, AreNamed}

onto_first-append : {X : Type 0} (x : X) (parts more : List (List X)) → 1 ≤ length parts
    → onto_first x (parts ++ more) ≡ onto_first x parts ++ more
onto_first-append x [] more some = absurd (omega arith)
onto_first-append x (part ∷ parts) more some = refl

-- two lists with an item between that passes are split apart there
pub split-between : {X : Type 0} (p : X → Bool) (y : X) → p y ≡ true → (xs ys : List X)
    → slice_split p (xs ++ y ∷ ys) ≡ slice_split p xs ++ slice_split p ys
split-between p y passes [] ys =
    slice_split-cons_yes p y ys passes ∙ sym (ap (λ l. l ++ slice_split p ys) (slice_split_none p [] (All-nil (λ x. p x ≡ false))))
split-between {X} p y passes (x ∷ xs) ys = by_first (p x) refl (split-between p y passes xs ys)
  where
    by_first : (b : Bool) → p x ≡ b → slice_split p (xs ++ y ∷ ys) ≡ slice_split p xs ++ slice_split p ys
        → slice_split p ((x ∷ xs) ++ y ∷ ys) ≡ slice_split p (x ∷ xs) ++ slice_split p ys
    by_first true is more =
        slice_split-cons_yes p x (xs ++ y ∷ ys) is ∙ ap (λ l. [] ∷ l) more
        ∙ sym (ap (λ l. l ++ slice_split p ys) (slice_split-cons_yes p x xs is))
    by_first false is more =
        slice_split-cons_no p x (xs ++ y ∷ ys) is ∙ ap (onto_first x) more
        ∙ onto_first-append x (slice_split p xs) (slice_split p ys) (omega (arith, length-slice_split p xs))
        ∙ sym (ap (λ l. l ++ slice_split p ys) (slice_split-cons_no p x xs is))

pub pages-between : (has_name : Bool) (pages others : List ℕ)
    → slots_of_text has_name (pages ++ 12 ∷ others) ≡ slots_of_text has_name pages ++ slots_of_text has_name others
pages-between has_name pages others =
    ap (flat_map (slots_of_page has_name)) (split-between is_form_feed 12 refl pages others)
    ∙ flat_map-append (slots_of_page has_name) (slice_split is_form_feed pages) (slice_split is_form_feed others)

pub no_pages : (has_name : Bool) → slots_of_text has_name [] ≡ []
unfolding lines_of
no_pages true = refl
no_pages false = refl

-- ---- names

abbrev pub IsNamed : List ℕ → List ℕ → Type 0
IsNamed name page = IsTrue (has_bytes page) → first_line page ≡ name

pub named-one : (name page : List ℕ) → All (λ byte. is_form_feed byte ≡ false) page → (IsTrue (has_bytes name) → IsNamed name page)
    → AreNamed name page
named-one name page none is = λ some.
    subst (λ (pages : List (List ℕ)). All (IsNamed name) pages) (sym (slice_split_none is_form_feed page none))
    (All-cons (IsNamed name) page [] (is some) (All-nil (IsNamed name)))

pub named-none : (name : List ℕ) → AreNamed name []
named-none name = named-one name [] (All-nil (λ byte. is_form_feed byte ≡ false)) (λ some. nothing)
  where
    nothing : IsNamed name []
    nothing is = cc

pub named-between : (name pages others : List ℕ) → AreNamed name pages → AreNamed name others → AreNamed name (pages ++ 12 ∷ others)
named-between name pages others first second = λ some.
    subst (λ (parts : List (List ℕ)). All (IsNamed name) parts) (sym (split-between is_form_feed 12 refl pages others))
    (All-append (IsNamed name) (slice_split is_form_feed pages) (slice_split is_form_feed others) (first some) (second some))
