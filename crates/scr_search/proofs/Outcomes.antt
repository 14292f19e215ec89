-- A search for the first word that gives something, where some of the words are left to try, and then the others.
use Rattle.std.proofs.Common.{◌≡◌, ℕ, zero, suc, ◌-◌, ◌<◌, Bool, true, false, cond, List, [], ◌∷◌, ◌++◌, length, take, Option, Some, None, refl, sym, ap, ◌∙◌, arith}
use Rattle.std.specs.Prelude.{slice_get}
use Rattle.std.specs.List.{filter_map, cons_option, flat_map}
use Rattle.std.specs.Option.{option_or}
use Rattle.std.proofs.lemmas.List.{length-append}
use Rattle.std.proofs.lemmas.List.Elements.{filter_map-append}
use Rattle.scr_search.specs.Search.{first_given, IsSearched}

take-append : {X : Type 0} (n : ℕ) (xs ys : List X) → take n (xs ++ ys) ≡ take n xs ++ take (n - length xs) ys
take-append zero [] ys = refl
take-append (suc n) [] ys = let all : suc n ≡ suc n - 0 = omega arith in ap (λ m. take m ys) all
take-append zero (x ∷ xs) ys = let none : 0 - suc (length xs) ≡ 0 = omega arith in ap (λ m. take m ys) (sym none)
take-append (suc n) (x ∷ xs) ys = grind (arith, take-append n xs ys)

first-append : {X : Type 0} (xs ys : List X) → slice_get (xs ++ ys) 0 ≡ option_or (slice_get xs 0) (slice_get ys 0)
first-append [] ys = refl
first-append (x ∷ xs) ys = refl

first-option : {X : Type 0} (o : Option X) (xs : List X) → xs ≡ [] → slice_get (cons_option o xs) 0 ≡ o
first-option o xs h0 = grind arith

none-given : (gives : List ℕ → Option (List ℕ)) (tries : ℕ) → filter_map gives (take tries []) ≡ []
none-given gives tries = grind arith

-- some words, and then others with the tries that are left
first_given-append : (gives : List ℕ → Option (List ℕ)) (tries : ℕ) (some others : List (List ℕ))
    → first_given gives tries (some ++ others) ≡ option_or (first_given gives tries some) (first_given gives (tries - length some) others)
unfolding first_given
first_given-append gives tries some others = grind (arith, take-append, filter_map-append, first-append)

module _ {gives : List ℕ → Option (List ℕ)} where
  -- no word is looked at once all tries are made, and of no words none gives anything
  pub IsSearched-spent : {words : List (List ℕ)} {tries : ℕ} {word : List ℕ} → tries ≡ 0
      → IsSearched gives words tries word false word tries
  unfolding first_given
  IsSearched-spent {words} {tries} e = record { given = ap (λ n. first_given gives n words) e; same = λ f. refl; tried = λ f. omega arith }

  pub IsSearched-none : {words : List (List ℕ)} {tries : ℕ} {word : List ℕ} → words ≡ []
      → IsSearched gives words tries word false word tries
  unfolding first_given
  IsSearched-none {words} {tries} e = record {
    given = ap (first_given gives tries) e ∙ ap (λ ws. slice_get ws 0) (none-given gives tries);
    same = λ f. refl;
    tried = λ f. omega (arith, ap length e);
  }

  -- one that is tried
  pub IsSearched-one : {words : List (List ℕ)} {tries left : ℕ} {word after : List ℕ} {found : Bool} → words ≡ word ∷ []
      → 0 < tries → gives word ≡ cond found (Some after) None → (found ≡ false → after ≡ word) → left ≡ tries - 1
      → IsSearched gives words tries word found after left
  unfolding first_given
  IsSearched-one {words} {tries} {left} {word} e some given same tried = grind (arith, first-option, none-given)

-- Of all words, of which so many are tried, those by some keys are left to try, and so many tries.
pub record IsLeft (gives : List ℕ → Option (List ℕ)) (all : List (List ℕ)) (tries : ℕ) (by : ℕ → List (List ℕ)) (keys : List ℕ) (left : ℕ) : Type 0 where
  pub given : first_given gives tries all ≡ first_given gives left (flat_map by keys)
  pub used : tries - length all ≡ left - length (flat_map by keys)

module _ {gives : List ℕ → Option (List ℕ)} {all : List (List ℕ)} {tries : ℕ} {by : ℕ → List (List ℕ)} where
  -- at the begin all are
  pub IsLeft-all : {keys : List ℕ} → all ≡ flat_map by keys → IsLeft gives all tries by keys tries
  IsLeft-all e = record { given = ap (first_given gives tries) e; used = ap (λ ws. tries - length ws) e }

  module _ {keys others : List ℕ} {key left : ℕ} {some : List (List ℕ)} (e : keys ≡ key ∷ others) (is : some ≡ by key) (h : IsLeft gives all tries by keys left) where
    parts : flat_map by keys ≡ some ++ flat_map by others
    parts = ap (flat_map by) e ∙ ap (λ ws. ws ++ flat_map by others) (sym is)

    first : {now : ℕ} {before after : List ℕ} (found : Bool) → IsSearched gives some left before found after now
        → first_given gives tries all ≡ option_or (cond found (Some after) None) (first_given gives (left - length some) (flat_map by others))
    first found s = grind (arith, parts, first_given-append)

    -- those by the first key were tried, and none of them gave anything
    pub IsLeft-passed : {now : ℕ} {before after : List ℕ} → IsSearched gives some left before false after now → IsLeft gives all tries by others now
    IsLeft-passed s = record {
      given = first false s ∙ ap (λ n. first_given gives n (flat_map by others)) (sym (s.tried refl));
      used = omega (arith, h.used, ap length parts, length-append some (flat_map by others), s.tried refl);
    }

    -- one of them did
    pub IsLeft-found : {now : ℕ} {before after word : List ℕ} → IsSearched gives some left before true after now
        → IsSearched gives all tries word true after now
    IsLeft-found s = record { given = first true s; same = λ f. absurd (cc); tried = λ f. absurd (cc) }

  -- at the end none did
  pub IsLeft-none : {keys word after : List ℕ} {left : ℕ} → keys ≡ [] → after ≡ word → IsLeft gives all tries by keys left
      → IsSearched gives all tries word false after left
  IsLeft-none {word = word} e same h =
      let none = IsSearched-none {word = word} (ap (flat_map by) e) in
      record { given = h.given ∙ none.given; same = λ f. same; tried = λ f. none.tried refl ∙ sym h.used }
