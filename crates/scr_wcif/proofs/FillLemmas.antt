-- What a file with the sets of its rounds is, part by part.
use Rattle.std.proofs.Common.{◌≡◌, ℕ, suc, ◌+◌, ◌≤◌, max, Bool, true, false, List, [], ◌∷◌, ◌++◌, map, Option, Some, None, refl, sym, ap, ◌∙◌, arith, Bor, Global, Result, Ok, Err}
use Rattle.std.specs.Prelude.{◌<◌, All, IfOk, IfSome, cond, codes, nat_lt, length, position, slice_set, option_and_then}
use Rattle.std.specs.Str.{bytes_eq}
use Rattle.std.proofs.lemmas.List.Elements.{All-head, All-tail}
use Rattle.std.specs.List.{position_or_len}
use Rattle.std.proofs.Common.{zero, get_or, ◌-◌, take, drop}
use borrow.Author.Tests.{lt-ltb, ltb-true}
use Rattle.json.specs.declared.value.Value.{Value}
use Rattle.std.proofs.lemmas.List.{take_all}
use Rattle.json.specs.Print.{IsNumber}
use Rattle.json.specs.Json.{Json, string, array, object, Items, no_items, item, Members, no_members, member}
use Rattle.json.specs.Value.{value_view, members_view, items_of, members_of}
use Rattle.json.specs.Tree.{depth, items_depth, members_depth, HasNumbers, ItemsHaveNumbers, MembersHaveNumbers}
use Rattle.scr_wcif.specs.Sets.{ScrambleSet, RoundSets, HaveNumbers}
use Rattle.scr_wcif.specs.Fields.{text_at}
use Rattle.scr_wcif.specs.Filling.{set_of, sets_of, with_member, with_field, sets_at, with_sets, filled_round, changed_items, each_item, changed_members, changed_at, changed_along, filled}

-- ---- lists, as code holds them

pub changed_items-of : (f : Json → Json) (js : List Json) → changed_items f (items_of js) ≡ items_of (map f js)
changed_items-of f [] = refl
changed_items-of f (j ∷ js) = ap (item (f j)) (changed_items-of f js)

-- a member with what stands at a key changed
abbrev pub changed_member : List ℕ → (Json → Json) → (Bor (List ℕ) × Json) → Bor (List ℕ) × Json
changed_member key f m = (m.0, cond (bytes_eq m.0.now key) (each_item f m.1) m.1)

pub changed_members-of : (key : List ℕ) (f : Json → Json) (ms : List (Bor (List ℕ) × Json)) →
    changed_members key f (members_of ms) ≡ members_of (map (changed_member key f) ms)
changed_members-of key f [] = refl
changed_members-of key f (m ∷ ms) =
    ap (member m.0.now (cond (bytes_eq m.0.now key) (each_item f m.1) m.1)) (changed_members-of key f ms)

pub map-same : {X : Type 0} (xs : List X) → map (λ x. x) xs ≡ xs
map-same [] = refl
map-same (x ∷ xs) = ap (λ l. x ∷ l) (map-same xs)

-- the texts behind references
abbrev pub texts_now : List (Bor (List ℕ)) → List (List ℕ)
texts_now texts = map (λ (text : Bor (List ℕ)). text.now) texts

-- an object changed along keys, of which the first is taken off
pub along-object : (keys : List (Bor (List ℕ))) (d : Bor (List ℕ)) (f : Json → Json) (j : Json) (ms : Members) → 1 ≤ length keys → j ≡ object ms →
    object (changed_members (get_or keys 0 d).now (changed_along (texts_now (take (length keys - 1) (drop 1 keys))) f) ms) ≡ changed_along (texts_now keys) f j
along-object [] d f j ms some is = absurd (omega arith)
along-object (key ∷ keys) d f j ms some is =
    ap (λ rest. object (changed_members key.now (changed_along (texts_now rest) f) ms)) (take_all (length (key ∷ keys) - 1) keys (omega arith))
    ∙ ap (changed_along (texts_now (key ∷ keys)) f) (sym is)

-- a member as it is seen
abbrev pub member_view : (Bor (List ℕ) × Value Global) → Bor (List ℕ) × Json
member_view m = (m.0, value_view m.1)

map-snoc : {X Y : Type 0} (f : X → Y) (xs : List X) (x : X) → map f (xs ++ x ∷ []) ≡ map f xs ++ f x ∷ []
map-snoc f [] x = refl
map-snoc f (y ∷ ys) x = ap (λ l. f y ∷ l) (map-snoc f ys x)

-- one more item, whose view is what the change makes of the view of the next
pub changed-step : {V W Y : Type 0} (view : V → Y) (seen : W → Y) (f : Y → Y) (old new : List V) (v : V) (xs : List W) (x : W) →
    new ≡ old ++ v ∷ [] → view v ≡ f (seen x) → map view old ≡ map f (map seen xs) →
    map view new ≡ map f (map seen (xs ++ x ∷ []))
changed-step view seen f old new v xs x is step so_far =
    ap (map view) is ∙ map-snoc view old v ∙ ap (λ l. l ++ view v ∷ []) so_far
    ∙ ap (λ y. map f (map seen xs) ++ y ∷ []) step ∙ sym (map-snoc f (map seen xs) (seen x))
    ∙ ap (map f) (sym (map-snoc seen xs x))

pub ok-weaker : {X E : Type 0} (P Q : X → Type 0) (result : Result X E) → ((x : X) → P x → Q x) → IfOk result P → IfOk result Q
ok-weaker P Q (Ok x) weaker is = weaker x is
ok-weaker P Q (Err why) weaker is = is

-- ---- a member in its place, or behind the others

abbrev pub has_key : List ℕ → (Bor (List ℕ) × Value Global) → Bool
has_key key m = bytes_eq m.0.now key

pub replaced : (key : List ℕ) (new : Value Global) (d : Bor (List ℕ) × Value Global) (ms : List (Bor (List ℕ) × Value Global)) (i : ℕ) →
    i < length ms → has_key key (get_or ms i d) ≡ true → ((k : ℕ) → k < i → has_key key (get_or ms k d) ≡ false) → d ≡ get_or ms i d →
    members_view (slice_set ms i (d.0, new)) ≡ with_member key (value_view new) (members_view ms)
replaced key new d [] i low here none is = absurd (omega arith)
replaced key new d (m ∷ ms) zero low here none is =
    ap (λ (x : Bor (List ℕ) × Value Global). member x.0.now (value_view new) (members_view ms)) is
    ∙ ap (λ b. cond b (member m.0.now (value_view new) (members_view ms)) (member m.0.now (value_view m.1) (with_member key (value_view new) (members_view ms)))) (sym here)
replaced key new d (m ∷ ms) (suc i) low here none is =
    ap (member m.0.now (value_view m.1)) (replaced key new d ms i (omega arith) here (λ k h. none (suc k) (omega arith)) is)
    ∙ ap (λ b. cond b (member m.0.now (value_view new) (members_view ms)) (member m.0.now (value_view m.1) (with_member key (value_view new) (members_view ms)))) (sym (none 0 (omega arith)))

absent-first : {X : Type 0} (p : X → Bool) (x : X) (xs : List X) (b : Bool) → p x ≡ b → position p (x ∷ xs) ≡ None → p x ≡ false
absent-first p x xs false is none = is
absent-first p x xs true is none =
    let first : nat_lt 0 (suc (length xs)) ≡ true = lt-ltb 0 (suc (length xs)) (omega arith) in
    let there : position p (x ∷ xs) ≡ Some 0 = rw (is, first) refl in
    cc

absent-rest : {X : Type 0} (p : X → Bool) (x : X) (xs : List X) (b : Bool) → nat_lt (position_or_len p xs) (length xs) ≡ b → p x ≡ false → position p (x ∷ xs) ≡ None
    → position p xs ≡ None
absent-rest p x xs false is other none = rw is refl
absent-rest p x xs true is other none =
    let low : position_or_len p xs < length xs = ltb-true (position_or_len p xs) (length xs) is in
    let later : nat_lt (1 + position_or_len p xs) (suc (length xs)) ≡ true = lt-ltb (1 + position_or_len p xs) (suc (length xs)) (omega arith) in
    let there : position p (x ∷ xs) ≡ Some (1 + position_or_len p xs) = rw (other, later) refl in
    cc

pub appended : (key : List ℕ) (new : Value Global) (name : Bor (List ℕ)) (ms : List (Bor (List ℕ) × Value Global)) → position (has_key key) ms ≡ None → name.now ≡ key →
    members_view (ms ++ (name, new) ∷ []) ≡ with_member key (value_view new) (members_view ms)
appended key new name [] none is = ap (λ k. member k (value_view new) no_members) is
appended key new name (m ∷ ms) none is =
    let other = absent-first (has_key key) m ms (has_key key m) refl none in
    ap (member m.0.now (value_view m.1))
    (appended key new name ms (absent-rest (has_key key) m ms (nat_lt (position_or_len (has_key key) ms) (length ms)) refl other none) is)
    ∙ ap (λ b. cond b (member m.0.now (value_view new) (members_view ms)) (member m.0.now (value_view m.1) (with_member key (value_view new) (members_view ms)))) (sym other)

pub round-filled : (rounds : List RoundSets) (j new : Json) (sets : List ScrambleSet) → Some sets ≡ option_and_then (sets_at rounds) (text_at (codes "id") j) →
    new ≡ sets_of sets → with_field (codes "scrambleSets") new j ≡ filled_round rounds j
round-filled rounds j new sets found is = ap (λ n. with_field (codes "scrambleSets") n j) is ∙ ap (λ o. with_sets o j) found

-- ---- numbers stay numbers

module _ (f : Json → Json) (kept : (j : Json) → HasNumbers j → HasNumbers (f j)) where
  numbers-items : (js : Items) → ItemsHaveNumbers js → ItemsHaveNumbers (changed_items f js)
  numbers-items no_items all = tt
  numbers-items (item j js) all = (kept j all.0, numbers-items js all.1)

  numbers-each : (j : Json) → HasNumbers j → HasNumbers (each_item f j)
  numbers-each (array js) all = numbers-items js all
  numbers-each j all = all

  numbers-where : (b : Bool) (j : Json) → HasNumbers j → HasNumbers (cond b (each_item f j) j)
  numbers-where true j all = numbers-each j all
  numbers-where false j all = all

  numbers-members : (key : List ℕ) (ms : Members) → MembersHaveNumbers ms → MembersHaveNumbers (changed_members key f ms)
  numbers-members key no_members all = tt
  numbers-members key (member k j ms) all = (numbers-where (bytes_eq k key) j all.0, numbers-members key ms all.1)

  pub numbers-at : (key : List ℕ) (j : Json) → HasNumbers j → HasNumbers (changed_at key f j)
  numbers-at key (object ms) all = numbers-members key ms all
  numbers-at key j all = all

pub numbers-along : (keys : List (List ℕ)) (f : Json → Json) → ((j : Json) → HasNumbers j → HasNumbers (f j)) →
    (j : Json) → HasNumbers j → HasNumbers (changed_along keys f j)
numbers-along [] f kept j all = kept j all
numbers-along (key ∷ keys) f kept j all = numbers-at (changed_along keys f) (numbers-along keys f kept) key j all

numbers-with_member : (key : List ℕ) (new : Json) (ms : Members) → HasNumbers new → MembersHaveNumbers ms
    → MembersHaveNumbers (with_member key new ms)
numbers-with_member key new no_members it all = (it, tt)
numbers-with_member key new (member k j ms) it all = at (bytes_eq k key) (numbers-with_member key new ms it all.1)
  where
    at : (b : Bool) → MembersHaveNumbers (with_member key new ms)
        → MembersHaveNumbers (cond b (member k new ms) (member k j (with_member key new ms)))
    at true more = (it, all.1)
    at false more = (all.0, more)

numbers-with_field : (key : List ℕ) (new : Json) (j : Json) → HasNumbers new → HasNumbers j
    → HasNumbers (with_field key new j)
numbers-with_field key new (object ms) it all = numbers-with_member key new ms it all
numbers-with_field key new j it all = all

numbers-texts : (texts : List (List ℕ)) → ItemsHaveNumbers (items_of (map string texts))
numbers-texts [] = tt
numbers-texts (text ∷ texts) = (tt, numbers-texts texts)

numbers-sets : (sets : List ScrambleSet) → HaveNumbers sets → ItemsHaveNumbers (items_of (map set_of sets))
numbers-sets [] all = tt
numbers-sets (set ∷ sets) all = (
  (All-head (λ (s : ScrambleSet). IsNumber s.number) set sets all, (numbers-texts set.scrambles, (numbers-texts set.extras, tt))),
  numbers-sets sets (All-tail (λ (s : ScrambleSet). IsNumber s.number) set sets all),
)

found-numbers : (rounds : List RoundSets) (id : List ℕ) → All (λ round. HaveNumbers round.sets) rounds
    → IfSome (sets_at rounds id) HaveNumbers
found-numbers [] id all = tt
found-numbers (round ∷ more) id all =
    at (bytes_eq round.id id) (found-numbers more id (All-tail (λ (r : RoundSets). HaveNumbers r.sets) round more all))
  where
    at : (b : Bool) → IfSome (sets_at more id) HaveNumbers → IfSome (cond b (Some round.sets) (sets_at more id)) HaveNumbers
    at true later = All-head (λ (r : RoundSets). HaveNumbers r.sets) round more all
    at false later = later

pub numbers-round : (rounds : List RoundSets) → All (λ round. HaveNumbers round.sets) rounds → (j : Json) → HasNumbers j
    → HasNumbers (filled_round rounds j)
numbers-round rounds them j all = at (text_at (codes "id") j)
  where
    with : (o : Option (List ScrambleSet)) → IfSome o HaveNumbers → HasNumbers (with_sets o j)
    with None it = all
    with (Some sets) it = numbers-with_field (codes "scrambleSets") (sets_of sets) j (numbers-sets sets it) all

    at : (o : Option (List ℕ)) → HasNumbers (with_sets (option_and_then (sets_at rounds) o) j)
    at None = all
    at (Some id) = with (sets_at rounds id) (found-numbers rounds id them)

-- ---- how deep it nests

module _ (n : ℕ) (f : Json → Json) (kept : (j : Json) → depth (f j) ≤ max (depth j) n) where
  depth-items : (js : Items) → items_depth (changed_items f js) ≤ max (items_depth js) n
  depth-items no_items = omega arith
  depth-items (item j js) = omega (arith, kept j, depth-items js)

  depth-each : (j : Json) → depth (each_item f j) ≤ max (depth j) (suc n)
  depth-each (array js) = omega (arith, depth-items js)
  depth-each j = omega arith

  depth-where : (b : Bool) (j : Json) → depth (cond b (each_item f j) j) ≤ max (depth j) (suc n)
  depth-where true j = depth-each j
  depth-where false j = omega arith

  depth-members : (key : List ℕ) (ms : Members) → members_depth (changed_members key f ms) ≤ max (members_depth ms) (suc n)
  depth-members key no_members = omega arith
  depth-members key (member k j ms) = omega (arith, depth-where (bytes_eq k key) j, depth-members key ms)

  pub depth-at : (key : List ℕ) (j : Json) → depth (changed_at key f j) ≤ max (depth j) (suc (suc n))
  depth-at key (object ms) = omega (arith, depth-members key ms)
  depth-at key j = omega arith

depth-with_member : (key : List ℕ) (new : Json) (ms : Members) → members_depth (with_member key new ms) ≤ max (members_depth ms) (depth new)
depth-with_member key new no_members = omega arith
depth-with_member key new (member k j ms) = at (bytes_eq k key) (depth-with_member key new ms)
  where
    at : (b : Bool) → members_depth (with_member key new ms) ≤ max (members_depth ms) (depth new) → members_depth (cond b (member k new ms) (member k j (with_member key new ms)))
        ≤ max (max (depth j) (members_depth ms)) (depth new)
    at true more = omega arith
    at false more = omega arith

depth-with_field : (key : List ℕ) (new : Json) (j : Json) → depth (with_field key new j) ≤ max (depth j) (suc (depth new))
depth-with_field key new (object ms) = omega (arith, depth-with_member key new ms)
depth-with_field key new j = omega arith

depth-texts : (texts : List (List ℕ)) → items_depth (items_of (map string texts)) ≤ 0
depth-texts [] = omega arith
depth-texts (text ∷ texts) = omega (arith, depth-texts texts)

depth-sets : (sets : List ScrambleSet) → items_depth (items_of (map set_of sets)) ≤ 2
depth-sets [] = omega arith
depth-sets (set ∷ sets) = omega (arith, depth-texts set.scrambles, depth-texts set.extras, depth-sets sets)

pub depth-round : (rounds : List RoundSets) (j : Json) → depth (filled_round rounds j) ≤ max (depth j) 4
depth-round rounds j = with (option_and_then (sets_at rounds) (text_at (codes "id") j))
  where
    with : (o : Option (List ScrambleSet)) → depth (with_sets o j) ≤ max (depth j) 4
    with None = omega arith
    with (Some sets) = omega (arith, depth-sets sets, depth-with_field (codes "scrambleSets") (sets_of sets) j)

pub depth-filled : (rounds : List RoundSets) (j : Json) → depth (filled rounds j) ≤ max (depth j) 8
depth-filled rounds j =
    depth-at 6 (changed_along (codes "rounds" ∷ []) (filled_round rounds))
    (depth-at 4 (filled_round rounds) (depth-round rounds) (codes "rounds")) (codes "events") j
