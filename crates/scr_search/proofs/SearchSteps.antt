-- Which turns keep the words of a part that go on from a word, and what the words by these turns are.
use Rattle.std.proofs.Common.{◌≡◌, ℕ, zero, suc, ◌+◌, ◌-◌, ◌^◌, ◌<◌, ◌≤◌, Bool, true, false, cond, List, [], ◌∷◌, ◌++◌, length, map, get_or, Some, inl, inr, refl, sym, ap, ◌∙◌, subst, append_assoc, arith}
use Rattle.std.specs.Prelude.{All, Contains, filter, ◌&&◌, ◌==◌}
use Rattle.std.specs.List.{flat_map}
use Rattle.std.proofs.lemmas.Bool.{and_parts, and_from, cases_lt, false≢true}
use Rattle.std.proofs.lemmas.List.{get_or_default}
use Rattle.std.proofs.lemmas.List.Elements.{All-head, All-tail}
use Rattle.std.proofs.lemmas.Nat.Bits.{bit_at_above}
use Rattle.scr_combinatorics.specs.Lists.{numbers_from, pick}
use Rattle.scr_combinatorics.proofs.Picks.{pick-in_order, numbers_from-at, length-numbers_from}
use Rattle.scr_cube.specs.Cube333.{CubeState}
use Rattle.scr_combinatorics.specs.Words.{words_behind, words_of, words_within}
use Rattle.scr_table.proofs.WordLists.{flat_map-kept, lengths_from, words_behind-end, words_behind-none, words_behind-turns, words_behind-within, words_of-none}
use Rattle.scr_search.specs.declared.position.PartPosition.{PartPosition}
use Rattle.scr_search.specs.TurnSets.{contains_turn, turns_in}
use Rattle.scr_search.specs.Near.{LeavesNear}
use Rattle.scr_search.specs.Orderly.{after_turn, ends_with, is_orderly, leads, may_end}
use Rattle.scr_search.specs.Search.{IsAt, KeepsWays, MayFollow}
use Rattle.scr_search.specs.Views.{Shows, Views, is_whole}
use Rattle.scr_search.proofs.Leads.{leads-behind, leads-played, not_so, turn_leads, played_more}
use Rattle.std.specs.Option.{option_map_or}
use Rattle.scr_search.proofs.Orderly.{is_orderly-push, last-push, may_end-orderly}

-- ---- turns, told by their places

flat_map-picked : {X : Type 0} (f : ℕ → List X) (xs ks : List ℕ)
    → flat_map f (pick xs ks) ≡ flat_map (λ k. f (get_or xs k 0)) ks
flat_map-picked f xs [] = refl
flat_map-picked f xs (k ∷ ks) = ap (λ ys. f (get_or xs k 0) ++ ys) (flat_map-picked f xs ks)

pub flat_map-places : {X : Type 0} (f : ℕ → List X) (xs : List ℕ)
    → flat_map f xs ≡ flat_map (λ k. f (get_or xs k 0)) (numbers_from 0 (length xs))
flat_map-places f xs = ap (flat_map f) (sym (pick-in_order xs)) ∙ flat_map-picked f xs (numbers_from 0 (length xs))

-- where all that pass are below a number, more numbers add nothing
filter-more : (test : ℕ → Bool) (low n all : ℕ) → n ≤ all → ((k : ℕ) → low + n ≤ k → test k ≡ false)
    → filter test (numbers_from low all) ≡ filter test (numbers_from low n)
filter-more test low zero zero le none = refl
filter-more test low (suc n) zero le none = absurd (omega arith)
filter-more test low zero (suc all) le none =
    ap (λ b. cond b (low ∷ filter test (numbers_from (suc low) all)) (filter test (numbers_from (suc low) all))) (none low (omega arith))
    ∙ filter-more test (suc low) zero all (omega arith) (λ k from. none k (omega arith))
filter-more test low (suc n) (suc all) le none =
    ap (λ xs. cond (test low) (low ∷ xs) xs) (filter-more test (suc low) n all (omega arith) (λ k from. none k (omega arith)))

-- the turns of a set, all of which are below a number
turns_in-below : (bits n : ℕ) → bits < 2 ^ 18 → ((k : ℕ) → n ≤ k → contains_turn bits k ≡ false)
    → turns_in bits ≡ filter (contains_turn bits) (numbers_from 0 n)
unfolding turns_in
turns_in-below bits n small none =
    elim (cases_lt n 18) [
      | inl few ↦ filter-more (contains_turn bits) 0 n 18 (omega arith) (λ k le. none k (omega arith))
      | inr many ↦ sym (filter-more (contains_turn bits) 0 18 n many (λ k le. ap (λ b. b == 1) (bit_at_above bits 18 k small (omega arith))))
    ]

pub below_count : (bits n place : ℕ) → bits < 2 ^ n → contains_turn bits place ≡ true → place < n
below_count bits n place small is = grind (arith, cases_lt, false≢true, bit_at_above)

-- what is below a limit at each place of a list is so at any number
pub any_place : (limit : ℕ) (xs : List ℕ) (k : ℕ) → 0 < limit → All (λ x. x < limit) xs → get_or xs k 0 < limit
any_place limit [] k some h = some
any_place limit (x ∷ xs) zero some h = All-head (λ y. y < limit) x xs h
any_place limit (x ∷ xs) (suc k) some h = any_place limit xs k some (All-tail (λ y. y < limit) x xs h)

-- ---- whole words

whole-parts : (v : Views) (c : CubeState) (word : List ℕ) → is_whole v c word ≡ true
    → (is_orderly word ≡ true) × (ends_with v.is_last word ≡ true) × (leads v.ends c word ≡ true)
unfolding is_whole
whole-parts v c word e = grind arith

-- a word that may be the last is whole where it leads to an end
pub whole-at : {v : Views} {c : CubeState} {word : List ℕ} {at : PartPosition} (h : IsAt v c word at) (b : Bool)
    → ends_with v.is_last word ≡ true → v.ends h.there ≡ b
    → words_behind v.turns (is_whole v c) word 0 ≡ cond b (word ∷ []) []
unfolding is_whole
whole-at {v} {c} {word} h b last e = grind (arith, words_behind-end, leads-played)

-- ---- the turns that keep the ways

-- a set has each turn with which some word of so many leads from a cube to an end
abbrev pub LeavesWays : Views → CubeState → ℕ → ℕ → Type 0
LeavesWays v c left bits =
    (place : ℕ) (w : List ℕ) → place < length v.turns → Contains (words_of v.turns (left - 1)) w
    → leads v.ends c (get_or v.turns place 0 ∷ w) ≡ true → contains_turn bits place ≡ true

module _ {v : Views} {c : CubeState} {word : List ℕ} {at : PartPosition} (h : IsAt v c word at) where
  way_on : (w : List ℕ) → is_whole v c (word ++ w) ≡ true → leads v.ends h.there w ≡ true
  way_on w whole = sym (leads-behind v.ends c h.there word w h.played) ∙ (whole-parts v c (word ++ w) whole).2

  -- where no word of so many turns leads on, none goes on from the word
  pub none_behind : (n : ℕ) → ((w : List ℕ) → Contains (words_of v.turns n) w → leads v.ends h.there w ≡ false)
      → words_behind v.turns (is_whole v c) word n ≡ []
  none_behind n none =
      words_behind-none v.turns (is_whole v c) word n (λ w listed.
      not_so (is_whole v c (word ++ w)) (λ whole. false≢true (sym (none w listed) ∙ way_on w whole)))

  module _ {left bits : ℕ} where
    -- the turns that may stand behind the word
    pub KeepsWays-behind : bits < 2 ^ length v.turns
        → ((place : ℕ) → place < length v.turns → contains_turn bits place ≡ may_end word (get_or v.turns place 0))
        → KeepsWays v c word left bits
    KeepsWays-behind small may = record {
      kept = λ place w lt listed whole.
          may place lt ∙ may_end-orderly word (get_or v.turns place 0) w (whole-parts v c (word ++ get_or v.turns place 0 ∷ w) whole).0;
      follow = λ place is. let lt = below_count bits (length v.turns) place small is in record { below = lt; orderly = sym (may place lt) ∙ is };
    }

    -- of turns that keep the ways those with which a near set leaves them
    pub KeepsWays-near : {near more : ℕ} → left - 1 ≡ more → LeavesNear v.turns v.ends h.there more bits near → KeepsWays v c word left bits
        → KeepsWays v c word left near
    KeepsWays-near one_less leaves keeps = record {
      kept = λ place w lt listed whole. leaves.left place w lt (subst (λ n. Contains (words_of v.turns n) w) one_less listed) (way_on (get_or v.turns place 0 ∷ w) whole) (keeps.kept place w lt listed whole);
      follow = λ place is. keeps.follow place (leaves.among place is);
    }

    -- those that are in another set too
    module _ (other : ℕ) {both : ℕ} (and : (place : ℕ) → contains_turn both place ≡ (contains_turn bits place && contains_turn other place)) (keeps : KeepsWays v c word left bits) where
      within : ((place : ℕ) (w : List ℕ) → place < length v.turns → Contains (words_of v.turns (left - 1)) w → is_whole v c (word ++ get_or v.turns place 0 ∷ w) ≡ true → contains_turn other place ≡ true)
          → KeepsWays v c word left both
      within kept = record {
        kept = λ place w lt listed whole.
            and place ∙ and_from (contains_turn bits place) (contains_turn other place) (keeps.kept place w lt listed whole) (kept place w lt listed whole);
        follow = λ place is. keeps.follow place (and_parts (contains_turn bits place) (contains_turn other place) (sym (and place) ∙ is)).0;
      }

      -- which leaves the ways
      pub KeepsWays-and : LeavesWays v h.there left other → KeepsWays v c word left both
      KeepsWays-and leaves = within (λ place w lt listed whole. leaves place w lt listed (way_on (get_or v.turns place 0 ∷ w) whole))

      -- or, where one turn is left, has those that may be the last
      pub KeepsWays-last : left ≡ 1 → ((place : ℕ) → place < length v.turns → contains_turn other place ≡ v.is_last (get_or v.turns place 0))
          → KeepsWays v c word left both
      KeepsWays-last one is_last =
          within (λ place w lt listed whole.
          let t : ℕ = get_or v.turns place 0 in
          let none : w ≡ [] = words_of-none v.turns w (subst (λ n. Contains (words_of v.turns n) w) (omega (arith, one)) listed) in
          is_last place lt ∙ sym (ap (λ o. option_map_or v.is_last o true) (last-push word t)) ∙ ap (λ u. ends_with v.is_last (word ++ t ∷ u)) (sym none)
          ∙ (whole-parts v c (word ++ t ∷ w) whole).1)

-- ---- words by the turns of a set

-- the words of a part that go on from a word by a turn and then more
abbrev pub words_by : Views → CubeState → List ℕ → ℕ → ℕ → List (List ℕ)
words_by v c word more place = words_behind v.turns (is_whole v c) (word ++ get_or v.turns place 0 ∷ []) more

-- all whole words that go on from a word by at most so many turns
abbrev pub words_from : Views → CubeState → List ℕ → ℕ → List (List ℕ)
words_from v c word most = filter (is_whole v c) (map (λ w. word ++ w) (words_within v.turns most))

-- are those by so many turns each, from a number on of which no fewer lead on
pub words_from-least : (v : Views) (c : CubeState) (word : List ℕ) (most least : ℕ)
    → ((n : ℕ) → n < least → words_behind v.turns (is_whole v c) word n ≡ [])
    → words_from v c word most ≡ flat_map (words_behind v.turns (is_whole v c) word) (numbers_from least (most + 1 - least))
words_from-least v c word most least none = grind (arith, words_behind-within, lengths_from)

-- Where a set keeps the ways, these are all of the words.
pub words_kept : (v : Views) (c : CubeState) (word : List ℕ) (left bits : ℕ) → 0 < left → bits < 2 ^ 18
    → KeepsWays v c word left bits
    → words_behind v.turns (is_whole v c) word left ≡ flat_map (words_by v c word (left - 1)) (turns_in bits)
words_kept v c word left bits some small keeps =
    let test = is_whole v c in
    let f = λ (t : ℕ). words_behind v.turns test (word ++ t ∷ []) (left - 1) in
    let n : ℕ = length v.turns in
    let one : left ≡ suc (left - 1) = omega arith in
    ap (words_behind v.turns test word) one ∙ words_behind-turns v.turns test word (left - 1)
    ∙ flat_map-places f v.turns
    ∙ flat_map-kept (λ k. f (get_or v.turns k 0)) (contains_turn bits) (numbers_from 0 n) (λ j d lt out.
    let k : ℕ = get_or (numbers_from 0 n) j d in
    let inside : j < n = omega (arith, lt, length-numbers_from 0 n) in
    let is : k ≡ j = get_or_default (numbers_from 0 n) j d 0 lt ∙ numbers_from-at 0 n j inside ∙ omega arith in
    let below : k < n = omega (arith, is, inside) in
    let t : ℕ = get_or v.turns k 0 in
    words_behind-none v.turns test (word ++ t ∷ []) (left - 1) (λ w there.
    not_so (test ((word ++ t ∷ []) ++ w)) (λ passes.
    false≢true (sym out ∙ keeps.kept k w below there (ap test (sym (append_assoc word (t ∷ []) w)) ∙ passes)))))
    ∙ ap (flat_map (λ k. f (get_or v.turns k 0)))
    (sym (turns_in-below bits n small (λ k le. not_so (contains_turn bits k) (λ e. omega (arith, le, (keeps.follow k e).below)))))

-- one turn more
pub IsAt-turned : (v : Views) (c : CubeState) (word : List ℕ) (at next : PartPosition) (place : ℕ)
    → get_or v.turns place 0 < 18 → IsAt v c word at → MayFollow v word place
    → ((d e : CubeState) → Shows v d at → after_turn d (get_or v.turns place 0) ≡ Some e → Shows v e next)
    → IsAt v c (word ++ get_or v.turns place 0 ∷ []) next
IsAt-turned v c word at next place lt h may f =
    let t : ℕ = get_or v.turns place 0 in
    let to = turn_leads h.there t lt in
    record {
      there = to.0;
      played = played_more c h.there to.0 word t h.played to.1;
      shows = f h.there to.0 h.shows to.1;
      orderly = is_orderly-push word t h.orderly may.orderly;
    }
