-- A name letter by letter.
use Rattle.std.proofs.Common.{◌≡◌, ℕ, ◌+◌, ◌-◌, ◌<◌, ◌≤◌, Bool, true, false, not, if◌then◌else◌, nat_le, List, [], ◌∷◌, ◌++◌, length, drop, get_or, refl, sym, ap, ◌∙◌, arith, append_assoc, chars, encode_utf8, encode_utf8_all, IsUtf8}
use Rattle.std.specs.Prelude.{All, codes}
use Rattle.std.specs.List.{list_all}
use Rattle.std.proofs.lemmas.Bool.{false≢true}
use Rattle.std.proofs.lemmas.Bool.Decides.{nat_tests}
use Rattle.std.proofs.lemmas.List.{drop_more, drop_all, length_push}
use Rattle.std.proofs.lemmas.List.Elements.{All-nil, All-cons, All-append, All-head, All-tail}
use Rattle.std.proofs.lemmas.Str.{chars_from_encodes, encodes-append, encode_ascii}
use Rattle.scr_layout.specs.Shown.{IsNoControl, HasNoControl}
use Rattle.scr_layout.specs.Name.{is_blank, gap, spaced, wide, width, first_wide, fitted, fitting}
use Rattle.scr_layout.proofs.LetterLemmas.{bytes_of_letter}

abbrev pub IsLetterAt : List ℕ → ℕ → ℕ → Type 0
IsLetterAt letters n letter = (n < length letters) × (letter ≡ get_or letters n letter)

-- the letter at a place, and those behind it
at_letter : (letters : List ℕ) (n letter : ℕ) → IsLetterAt letters n letter → drop n letters ≡ letter ∷ drop (n + 1) letters
at_letter letters n letter h = drop_more letters n letter h.0 ∙ ap (λ c. c ∷ drop (n + 1) letters) (sym h.1)

-- ---- spaces

-- what is still to be written of a name whose other letters are these: whether some were written, and a space waits
pub ahead : Bool → Bool → List ℕ → List ℕ
ahead false waits rest = spaced rest
ahead true false rest = gap rest ++ spaced rest
ahead true true rest = (if not (list_all is_blank rest) then 32 ∷ [] else []) ++ spaced rest

pub ahead-all : (letters : List ℕ) → ahead false false letters ≡ spaced letters
unfolding ahead
ahead-all letters = refl

ahead-none : (begun waits : Bool) → ahead begun waits [] ≡ []
unfolding spaced ahead
ahead-none begun waits = grind arith

pub ahead-end : (begun waits : Bool) (letters : List ℕ) (n : ℕ) → n ≡ length letters → ahead begun waits (drop n letters) ≡ []
ahead-end begun waits letters n all = ap (ahead begun waits) (drop_all n letters (omega (arith, all))) ∙ ahead-none begun waits

blank-first : (begun waits : Bool) (letter : ℕ) (rest : List ℕ) → is_blank letter ≡ true → (waits ≡ true → begun ≡ true)
    → ahead begun waits (letter ∷ rest) ≡ ahead begun begun rest
unfolding spaced ahead
blank-first begun waits letter rest is begun' = grind arith

pub ahead-blank : (begun waits : Bool) (letters yielded : List ℕ) (letter : ℕ) → IsLetterAt letters (length yielded) letter
    → is_blank letter ≡ true → (waits ≡ true → begun ≡ true)
    → ahead begun begun (drop (length (yielded ++ letter ∷ [])) letters) ≡ ahead begun waits (drop (length yielded) letters)
ahead-blank begun waits letters yielded letter at is waiting =
    grind (arith, ahead, length_push, at_letter, blank-first)

letter-first : (begun waits : Bool) (letter : ℕ) (rest : List ℕ) → is_blank letter ≡ false → (waits ≡ true → begun ≡ true)
    → ahead begun waits (letter ∷ rest) ≡ (if waits then 32 ∷ [] else []) ++ letter ∷ ahead true false rest
unfolding spaced ahead
letter-first begun waits letter rest is begun' = grind arith

space-written : (waits : Bool) (letters : List ℕ)
    → (if waits then 32 ∷ [] else []) ++ encode_utf8_all letters ≡ encode_utf8_all ((if waits then 32 ∷ [] else []) ++ letters)
space-written waits letters = grind (arith, encode_utf8_all, encode_ascii)

pub ahead-letter : (begun waits : Bool) (letters yielded : List ℕ) (letter : ℕ) (text new : List ℕ)
    → IsLetterAt letters (length yielded) letter → is_blank letter ≡ false → (waits ≡ true → begun ≡ true)
    → new ≡ text ++ (if waits then 32 ∷ [] else []) ++ encode_utf8 letter
    → new ++ encode_utf8_all (ahead true false (drop (length (yielded ++ letter ∷ [])) letters))
    ≡ text ++ encode_utf8_all (ahead begun waits (drop (length yielded) letters))
ahead-letter begun waits letters yielded letter text new at is waiting new_is =
    let n = length yielded in
    let space : List ℕ = if waits then 32 ∷ [] else [] in
    let more = ahead true false (drop (n + 1) letters) in
    ap (λ k. new ++ encode_utf8_all (ahead true false (drop k letters))) (length_push yielded letter)
    ∙ ap (λ t. t ++ encode_utf8_all more) new_is
    ∙ append_assoc (text ++ space) (encode_utf8 letter) (encode_utf8_all more)
    ∙ append_assoc text space (encode_utf8 letter ++ encode_utf8_all more)
    ∙ ap (λ t. text ++ t) (space-written waits (letter ∷ more))
    ∙ ap (λ r. text ++ encode_utf8_all r)
    (sym (ap (ahead begun waits) (at_letter letters n letter at) ∙ letter-first begun waits letter (drop (n + 1) letters) is waiting))

-- ---- width

fits : (m n : ℕ) → m ≤ n → nat_le m n ≡ true
fits m n h = grind (arith, nat_tests)

too_wide : (m n : ℕ) → n < m → nat_le m n ≡ false
too_wide m n h = grind (arith, nat_tests)

pub width-next : (letters : List ℕ) (n letter : ℕ) → IsLetterAt letters n letter
    → width (drop n letters) ≡ wide letter + width (drop (n + 1) letters)
unfolding width
width-next letters n letter at = ap width (at_letter letters n letter at)

pub width-end : (letters : List ℕ) (n : ℕ) → n ≡ length letters → width (drop n letters) ≡ 0
unfolding width
width-end letters n all = ap width (drop_all n letters (omega (arith, all)))

first-fits : (left letter : ℕ) (rest : List ℕ) → wide letter ≤ left
    → first_wide left (letter ∷ rest) ≡ letter ∷ first_wide (left - wide letter) rest
unfolding first_wide
first-fits left letter rest h = rw (fits (wide letter) left h) refl

first-too_wide : (left letter : ℕ) (rest : List ℕ) → left < wide letter → first_wide left (letter ∷ rest) ≡ []
unfolding first_wide
first-too_wide left letter rest h = rw (too_wide (wide letter) left h) refl

pub first-full : (left : ℕ) (letters : List ℕ) (n letter : ℕ) → IsLetterAt letters n letter → left < wide letter
    → first_wide left (drop n letters) ≡ []
first-full left letters n letter at full = grind (arith, at_letter, first-too_wide)

pub first-end : (left : ℕ) (letters : List ℕ) (n : ℕ) → n ≡ length letters → first_wide left (drop n letters) ≡ []
unfolding first_wide
first-end left letters n all = ap (first_wide left) (drop_all n letters (omega (arith, all)))

pub first-next : (left takes : ℕ) (letters yielded : List ℕ) (letter : ℕ) (text new : List ℕ)
    → IsLetterAt letters (length yielded) letter → takes ≡ wide letter → takes ≤ left → new ≡ text ++ encode_utf8 letter
    → new ++ encode_utf8_all (first_wide (left - takes) (drop (length (yielded ++ letter ∷ [])) letters))
    ≡ text ++ encode_utf8_all (first_wide left (drop (length yielded) letters))
first-next left takes letters yielded letter text new at is within new_is =
    grind (arith, encode_utf8_all, length_push, append_assoc, encode_utf8, at_letter, first-fits)

-- ---- the whole name, or its first letters

pub whole : (most : ℕ) (name shown : List ℕ) (within : Bool) → IsUtf8 shown → shown ≡ encode_utf8_all (spaced (chars name))
    → within ≡ nat_le (width (chars shown)) most → within ≡ true → shown ≡ fitting most name
unfolding fitted
whole most name shown within utf8 shown_is is fit_is = grind (arith, chars_from_encodes, chars, nat_le)

dots : encode_utf8_all (codes "...") ≡ codes "..."
dots = rw (encode_ascii 46 (omega arith)) refl

pub cut_off : (most : ℕ) (name shown cut new : List ℕ) (within : Bool) → IsUtf8 shown → shown ≡ encode_utf8_all (spaced (chars name))
    → within ≡ nat_le (width (chars shown)) most → within ≡ false
    → cut ≡ encode_utf8_all (first_wide (most - 3) (chars shown)) → new ≡ cut ++ codes "..." → new ≡ fitting most name
unfolding fitted
cut_off most name shown cut new within utf8 shown_is is fit_is cut_is new_is =
    grind (arith, chars_from_encodes, chars, nat_le, encode_utf8_all, dots, encodes-append)

-- ---- no control stands in it

plain_letter : (letter : ℕ) → is_blank letter ≡ false → IsNoControl letter
plain_letter letter h = (grind (arith, nat_tests), λ e. false≢true (sym h ∙ ap is_blank e))

gap-plain : (rest : List ℕ) → All IsNoControl (gap rest)
gap-plain rest = grind arith

spaced-first : (letter : ℕ) (rest : List ℕ) (is : Bool) → is_blank letter ≡ is → All IsNoControl (spaced rest)
    → All IsNoControl (spaced (letter ∷ rest))
unfolding spaced
spaced-first letter rest is h all = grind (arith, All-cons, plain_letter, All-append, gap-plain)

spaced-plain : (letters : List ℕ) → All IsNoControl (spaced letters)
unfolding spaced
spaced-plain [] = All-nil IsNoControl
spaced-plain (letter ∷ rest) = spaced-first letter rest (is_blank letter) refl (spaced-plain rest)

first-first : (most letter : ℕ) (rest : List ℕ) (is : Bool) → nat_le (wide letter) most ≡ is → IsNoControl letter
    → All IsNoControl (first_wide (most - wide letter) rest) → All IsNoControl (first_wide most (letter ∷ rest))
unfolding first_wide
first-first most letter rest is h one all = grind arith

first-plain : (most : ℕ) (letters : List ℕ) → All IsNoControl letters → All IsNoControl (first_wide most letters)
unfolding first_wide
first-plain most [] all = All-nil IsNoControl
first-plain most (letter ∷ rest) all =
    first-first most letter rest (nat_le (wide letter) most) refl (All-head IsNoControl letter rest all)
    (first-plain (most - wide letter) rest (All-tail IsNoControl letter rest all))

dots-plain : All IsNoControl (codes "...")
dots-plain = grind arith

fitted-plain : (most : ℕ) (name : List ℕ) (is : Bool) → nat_le (width (spaced name)) most ≡ is → All IsNoControl (fitted most name)
unfolding fitted
fitted-plain most name true h = rw h (spaced-plain name)
fitted-plain most name false h =
    rw h (All-append IsNoControl (first_wide (most - 3) (spaced name)) (codes "...") (first-plain (most - 3) (spaced name) (spaced-plain name)) dots-plain)

bytes_of_letters : (letters : List ℕ) → All IsNoControl letters → HasNoControl (encode_utf8_all letters)
bytes_of_letters [] all = All-nil IsNoControl
bytes_of_letters (letter ∷ rest) all =
    All-append IsNoControl (encode_utf8 letter) (encode_utf8_all rest) (bytes_of_letter letter (All-head IsNoControl letter rest all))
    (bytes_of_letters rest (All-tail IsNoControl letter rest all))

-- A name that fits a line stands in one.
pub in_one_line : (most : ℕ) (name : List ℕ) → HasNoControl (fitting most name)
in_one_line most name = grind (arith, bytes_of_letters, chars, fitted-plain, nat_le)
