-- What stays as it was where a file is filled.
use Rattle.std.proofs.Common.{◌≡◌, ℕ, ◌++◌, Bool, true, false, cond, List, [], ◌∷◌, map, Option, Some, None, refl, sym, ap, subst, ◌∙◌, inl, inr, ◌⊎◌, arith}
use Rattle.std.specs.Prelude.{◌≢◌, All, codes, option_and_then}
use Rattle.std.specs.Str.{bytes_eq}
use Rattle.std.proofs.lemmas.Bool.{false≢true, cases_Bool}
use Rattle.std.proofs.lemmas.List.Elements.{All-cons, All-nil}
use Rattle.std.proofs.lemmas.List.Kept.{AllPairs-cons}
use Rattle.std.proofs.lemmas.List.Quantifiers.{all_pairs_push}
use Rattle.std.proofs.lemmas.Slice.Eq.{bytes_eq-Decides}
use Rattle.json.specs.Json.{Json, string, array, object, Items, no_items, item, Members, no_members, member}
use Rattle.json.specs.Value.{items_of}
use Rattle.json.specs.Strict.{keys, AreDistinct, HasUniqueKeys, ItemsHaveUniqueKeys, MembersHaveUniqueKeys}
use Rattle.scr_wcif.specs.Fields.{text_at}
use Rattle.scr_wcif.specs.Sets.{ScrambleSet, RoundSets}
use Rattle.scr_wcif.specs.Filling.{set_of, sets_of, with_member, with_field, sets_at, with_sets, filled_round, changed_items, each_item, changed_members, changed_at, changed_along, filled}
use Rattle.scr_wcif.specs.Kept.{without_member, without_field, without_sets}

-- ---- a change that another one takes back

module _ (f g : Json → Json) (same : (j : Json) → g (f j) ≡ g j) where
  again-items : (js : Items) → changed_items g (changed_items f js) ≡ changed_items g js
  again-items no_items = refl
  again-items (item j js) = ap (λ k. item k (changed_items g (changed_items f js))) (same j) ∙ ap (item (g j)) (again-items js)

  again-each : (j : Json) → each_item g (each_item f j) ≡ each_item g j
  again-each (array js) = ap array (again-items js)
  again-each j = refl

  again-where : (b : Bool) (j : Json) → cond b (each_item g (cond b (each_item f j) j)) (cond b (each_item f j) j) ≡ cond b (each_item g j) j
  again-where true j = again-each j
  again-where false j = refl

  again-members : (key : List ℕ) (ms : Members) → changed_members key g (changed_members key f ms) ≡ changed_members key g ms
  again-members key no_members = refl
  again-members key (member k j ms) =
      ap (λ v. member k v (changed_members key g (changed_members key f ms))) (again-where (bytes_eq k key) j)
      ∙ ap (member k (cond (bytes_eq k key) (each_item g j) j)) (again-members key ms)

  pub again-at : (key : List ℕ) (j : Json) → changed_at key g (changed_at key f j) ≡ changed_at key g j
  again-at key (object ms) = ap object (again-members key ms)
  again-at key j = refl

again-along : (keys : List (List ℕ)) (f g : Json → Json) → ((j : Json) → g (f j) ≡ g j) →
    (j : Json) → changed_along keys g (changed_along keys f j) ≡ changed_along keys g j
again-along [] f g same j = same j
again-along (key ∷ keys) f g same j = again-at (changed_along keys f) (changed_along keys g) (again-along keys f g same) key j

-- what was put at a key is taken away with it
without-with_member : (key : List ℕ) (new : Json) (ms : Members) → without_member key (with_member key new ms) ≡ without_member key ms
without-with_member key new no_members = ap (λ b. cond b no_members (member key new no_members)) ((bytes_eq-Decides key key).1 refl)
without-with_member key new (member k j ms) = at (cases_Bool (bytes_eq k key)) (without-with_member key new ms)
  where
    at : (bytes_eq k key ≡ true) ⊎ (bytes_eq k key ≡ false) → without_member key (with_member key new ms) ≡ without_member key ms
        → without_member key (with_member key new (member k j ms)) ≡ without_member key (member k j ms)
    at (inl is) more =
        ap (λ b. without_member key (cond b (member k new ms) (member k j (with_member key new ms)))) is
        ∙ ap (λ b. cond b (without_member key ms) (member k new (without_member key ms))) is
        ∙ sym (ap (λ b. cond b (without_member key ms) (member k j (without_member key ms))) is)
    at (inr other) more =
        ap (λ b. without_member key (cond b (member k new ms) (member k j (with_member key new ms)))) other
        ∙ ap (λ b. cond b (without_member key (with_member key new ms)) (member k j (without_member key (with_member key new ms)))) other
        ∙ ap (member k j) more
        ∙ sym (ap (λ b. cond b (without_member key ms) (member k j (without_member key ms))) other)

without-with_field : (key : List ℕ) (new : Json) (j : Json) → without_field key (with_field key new j) ≡ without_field key j
without-with_field key new (object ms) = ap object (without-with_member key new ms)
without-with_field key new j = refl

without-filled_round : (rounds : List RoundSets) (j : Json) → without_field (codes "scrambleSets") (filled_round rounds j) ≡ without_field (codes "scrambleSets") j
without-filled_round rounds j = with (option_and_then (sets_at rounds) (text_at (codes "id") j))
  where
    with : (o : Option (List ScrambleSet)) → without_field (codes "scrambleSets") (with_sets o j) ≡ without_field (codes "scrambleSets") j
    with None = refl
    with (Some sets) = without-with_field (codes "scrambleSets") (sets_of sets) j

pub without-filled : (rounds : List RoundSets) (file : Json) → without_sets (filled rounds file) ≡ without_sets file
without-filled rounds file =
    again-along (codes "events" ∷ codes "rounds" ∷ []) (filled_round rounds) (without_field (codes "scrambleSets")) (without-filled_round rounds) file

-- ---- keys stay unique

module _ (f : Json → Json) (kept : (j : Json) → HasUniqueKeys j → HasUniqueKeys (f j)) where
  unique-items : (js : Items) → ItemsHaveUniqueKeys js → ItemsHaveUniqueKeys (changed_items f js)
  unique-items no_items all = tt
  unique-items (item j js) all = (kept j all.0, unique-items js all.1)

  unique-each : (j : Json) → HasUniqueKeys j → HasUniqueKeys (each_item f j)
  unique-each (array js) all = unique-items js all
  unique-each j all = all

  unique-where : (b : Bool) (j : Json) → HasUniqueKeys j → HasUniqueKeys (cond b (each_item f j) j)
  unique-where true j all = unique-each j all
  unique-where false j all = all

  unique-members : (key : List ℕ) (ms : Members) → MembersHaveUniqueKeys ms → MembersHaveUniqueKeys (changed_members key f ms)
  unique-members key no_members all = tt
  unique-members key (member k j ms) all = (unique-where (bytes_eq k key) j all.0, unique-members key ms all.1)

  same-keys : (key : List ℕ) (ms : Members) → keys (changed_members key f ms) ≡ keys ms
  same-keys key no_members = refl
  same-keys key (member k j ms) = ap (λ ks. k ∷ ks) (same-keys key ms)

  pub unique-at : (key : List ℕ) (j : Json) → HasUniqueKeys j → HasUniqueKeys (changed_at key f j)
  unique-at key (object ms) all = (subst AreDistinct (sym (same-keys key ms)) all.0, unique-members key ms all.1)
  unique-at key j all = all

unique-along : (ks : List (List ℕ)) (f : Json → Json) → ((j : Json) → HasUniqueKeys j → HasUniqueKeys (f j)) →
    (j : Json) → HasUniqueKeys j → HasUniqueKeys (changed_along ks f j)
unique-along [] f kept j all = kept j all
unique-along (key ∷ ks) f kept j all = unique-at (changed_along ks f) (unique-along ks f kept) key j all

-- texts that a test tells apart
apart : (a b : List ℕ) → bytes_eq a b ≡ false → a ≢ b
apart a b other is = false≢true (sym other ∙ (bytes_eq-Decides a b).1 is)

-- the keys of members with one more, or with one in its place
keys-with_member : (key : List ℕ) (new : Json) (ms : Members) →
    (keys (with_member key new ms) ≡ keys ms)
    ⊎ ((keys (with_member key new ms) ≡ keys ms ++ key ∷ []) × All (λ k. k ≢ key) (keys ms))
keys-with_member key new no_members = inr (refl, All-nil (λ k. k ≢ key))
keys-with_member key new (member k j ms) = at (cases_Bool (bytes_eq k key)) (keys-with_member key new ms)
  where
    at : (bytes_eq k key ≡ true) ⊎ (bytes_eq k key ≡ false) →
        (keys (with_member key new ms) ≡ keys ms) ⊎ ((keys (with_member key new ms) ≡ keys ms ++ key ∷ []) × All (λ k. k ≢ key) (keys ms)) →
        (keys (with_member key new (member k j ms)) ≡ k ∷ keys ms)
        ⊎ ((keys (with_member key new (member k j ms)) ≡ k ∷ (keys ms ++ key ∷ [])) × All (λ k. k ≢ key) (k ∷ keys ms))
    at (inl is) more = inl (ap (λ b. keys (cond b (member k new ms) (member k j (with_member key new ms)))) is)
    at (inr other) (inl same) =
        inl (ap (λ b. keys (cond b (member k new ms) (member k j (with_member key new ms)))) other ∙ ap (λ ks. k ∷ ks) same)
    at (inr other) (inr (more, all)) = inr (
      ap (λ b. keys (cond b (member k new ms) (member k j (with_member key new ms)))) other ∙ ap (λ ks. k ∷ ks) more,
      All-cons (λ k. k ≢ key) k (keys ms) (apart k key other) all,
    )

distinct-with_member : (key : List ℕ) (new : Json) (ms : Members) → AreDistinct (keys ms) → AreDistinct (keys (with_member key new ms))
distinct-with_member key new ms pairs = at (keys-with_member key new ms)
  where
    at : (keys (with_member key new ms) ≡ keys ms) ⊎ ((keys (with_member key new ms) ≡ keys ms ++ key ∷ []) × All (λ k. k ≢ key) (keys ms)) →
        AreDistinct (keys (with_member key new ms))
    at (inl same) = subst AreDistinct (sym same) pairs
    at (inr (more, all)) =
        subst AreDistinct (sym more) (all_pairs_push (λ a b. a ≢ b) (keys ms) key pairs (λ k d low. all k d low))

unique-with_member : (key : List ℕ) (new : Json) (ms : Members) → HasUniqueKeys new → MembersHaveUniqueKeys ms
    → MembersHaveUniqueKeys (with_member key new ms)
unique-with_member key new no_members it all = (it, tt)
unique-with_member key new (member k j ms) it all = at (bytes_eq k key) (unique-with_member key new ms it all.1)
  where
    at : (b : Bool) → MembersHaveUniqueKeys (with_member key new ms)
        → MembersHaveUniqueKeys (cond b (member k new ms) (member k j (with_member key new ms)))
    at true more = (it, all.1)
    at false more = (all.0, more)

unique-with_field : (key : List ℕ) (new : Json) (j : Json) → HasUniqueKeys new → HasUniqueKeys j
    → HasUniqueKeys (with_field key new j)
unique-with_field key new (object ms) it all = (distinct-with_member key new ms all.0, unique-with_member key new ms it all.1)
unique-with_field key new j it all = all

unique-texts : (texts : List (List ℕ)) → ItemsHaveUniqueKeys (items_of (map string texts))
unique-texts [] = tt
unique-texts (text ∷ texts) = (tt, unique-texts texts)

-- the keys of a set
set-keys : AreDistinct (codes "id" ∷ codes "scrambles" ∷ codes "extraScrambles" ∷ [])
set-keys =
    let R : List ℕ → List ℕ → Type 0 = λ a b. a ≢ b in
    AllPairs-cons R (codes "id") (codes "scrambles" ∷ codes "extraScrambles" ∷ [])
    (All-cons (R (codes "id")) (codes "scrambles") (codes "extraScrambles" ∷ []) (apart (codes "id") (codes "scrambles") refl)
    (All-cons (R (codes "id")) (codes "extraScrambles") [] (apart (codes "id") (codes "extraScrambles") refl) (All-nil (R (codes "id")))))
    (AllPairs-cons R (codes "scrambles") (codes "extraScrambles" ∷ [])
    (All-cons (R (codes "scrambles")) (codes "extraScrambles") [] (apart (codes "scrambles") (codes "extraScrambles") refl) (All-nil (R (codes "scrambles"))))
    (AllPairs-cons R (codes "extraScrambles") [] (All-nil (R (codes "extraScrambles"))) (λ i j d less low. absurd (omega arith))))

unique-sets : (sets : List ScrambleSet) → ItemsHaveUniqueKeys (items_of (map set_of sets))
unique-sets [] = tt
unique-sets (set ∷ sets) = ((set-keys, (tt, (unique-texts set.scrambles, (unique-texts set.extras, tt)))), unique-sets sets)

unique-round : (rounds : List RoundSets) (j : Json) → HasUniqueKeys j → HasUniqueKeys (filled_round rounds j)
unique-round rounds j all = with (option_and_then (sets_at rounds) (text_at (codes "id") j))
  where
    with : (o : Option (List ScrambleSet)) → HasUniqueKeys (with_sets o j)
    with None = all
    with (Some sets) = unique-with_field (codes "scrambleSets") (sets_of sets) j (unique-sets sets) all

pub unique-filled : (rounds : List RoundSets) (file : Json) → HasUniqueKeys file → HasUniqueKeys (filled rounds file)
unique-filled rounds file all =
    unique-along (codes "events" ∷ codes "rounds" ∷ []) (filled_round rounds) (unique-round rounds) file all
