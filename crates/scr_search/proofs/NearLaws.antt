-- Near sets have the numbers that they should, and what they leave of a set of turns keeps the ways.
use Rattle.std.proofs.Common.{◌≡◌, ◌⊎◌, ℕ, suc, ◌+◌, ◌/◌, ◌%◌, ◌^◌, ◌<◌, ◌≤◌, Bool, true, List, [], ◌∷◌, ◌++◌, length, get_or, Some, inl, inr, refl, sym, ap, ◌∙◌, subst, ne_eqb, eq-eqb, eqb-true, arith}
use Rattle.std.specs.Prelude.{Contains, IfOk, IsSomeAnd, None, slice_get, slice_index_or, ◌&&◌, ◌||◌, ◌==◌, not}
use Rattle.std.proofs.lemmas.Bool.{and_parts, and_from, cases_eq, cases_lt, false≢true, or_cases, or_left, or_right}
use Rattle.std.proofs.lemmas.List.{get_or_append_left, get_or-append-add, get_or_default}
use Rattle.std.proofs.lemmas.List.Elements.{All-head, All-tail}
use Rattle.std.proofs.lemmas.Nat.Bits.{bit_at-zero}
use Rattle.std.proofs.lemmas.Option.{get_or_from_slice_get, slice_get_within}
use Rattle.scr_combinatorics.proofs.PlayLaws.{play-empty}
use Rattle.scr_cube.specs.Cube333.{CubeState}
use Rattle.scr_workers.specs.Answered.{AreAnswered}
use Rattle.scr_combinatorics.specs.Words.{words_of}
use Rattle.scr_table.proofs.ListedWords.{Contains-words_of, IsListed-listed}
use Rattle.scr_table.proofs.WordLists.{words_of-none}
use Rattle.scr_search.specs.declared.near_set.NearBlock.{NearBlock}
use Rattle.scr_search.specs.declared.near_set.NearSet.{NearSet}
use Rattle.scr_search.specs.declared.position.Extent.{Extent}
use Rattle.scr_search.specs.declared.position.PartPosition.{PartPosition}
use Rattle.scr_search.specs.Near.{HasBits, IsInSet, IsNear, LeavesNear}
use Rattle.scr_search.specs.Spread.{IsListed, IsSpread, IsThere, Listed, numbers_in}
use Rattle.scr_search.specs.TurnSets.{contains_turn}
use Rattle.scr_search.specs.Orderly.{after_turn, leads}
use Rattle.scr_search.specs.Views.{AreViews, Shows, Views, part_number}
use Rattle.scr_search.proofs.Leads.{leads-played, step_of}

-- ---- words by their first turns

-- a word begins with one of these turns, and the others are so many
pub record BeginsWith (turns : List ℕ) (more : ℕ) (word : List ℕ) : Type 0 where
  pub place : ℕ
  pub below : place < length turns
  pub others : List ℕ
  pub listed : Contains (words_of turns more) others
  pub is : word ≡ get_or turns place 0 ∷ others

begins : (turns : List ℕ) (more : ℕ) (word : List ℕ) → Contains (words_of turns (suc more)) word
    → BeginsWith turns more word
begins turns more [] there = absurd (omega (arith, (IsListed-listed turns (suc more) [] there).size))
begins turns more (t ∷ others) there =
    let listed = IsListed-listed turns (suc more) (t ∷ others) there in
    grind (
      arith,
      Contains-words_of turns more others (omega (arith, listed.size)) (All-tail (Contains turns) t others listed.each),
      get_or_default turns (All-head (Contains turns) t others listed.each).0 t 0 (All-head (Contains turns) t others listed.each).1,
    )

-- ---- level by level

-- one more at the end of a list
pub each-pushed : {X : Type 0} (P : ℕ → X → Type 0) (xs : List X) (x d : X)
    → ((k : ℕ) → k < length xs → P k (get_or xs k d)) → P (length xs) x → (k : ℕ) → k < length xs + 1
    → P k (get_or (xs ++ x ∷ []) k d)
each-pushed P xs x d before here = grind (arith, get_or-append-add xs (x ∷ []) 0 d, get_or_append_left)

-- what a worker found, where it did
found_there : (P : List ℕ → Type 0) (found : Listed) → IsSomeAnd found (λ out. IfOk out (λ list. P list.items))
    → IsThere found → P (numbers_in found)
found_there P found h0 h1 = grind arith

module _ (v : Views) where
  -- the set of all numbers
  pub IsNear-all : (most : ℕ) (Has : ℕ → Type 0) → ((n : ℕ) → Has n) → IsNear v most Has
  IsNear-all most Has all = record { near = λ c n w seen le there way. all (part_number v c) }

  -- no turn
  pub IsNear-end : (end : ℕ) (Has : ℕ → Type 0)
      → ((c : CubeState) → v.IsSeen c → v.ends c ≡ (part_number v c == end))
      → ((c : CubeState) → v.IsSeen c → end ≡ part_number v c → Has end) → IsNear v 0 Has
  IsNear-end end Has ends has = record {
    near = λ c n w seen le there way.
        let none : n ≡ 0 = omega (arith, le) in
        let empty : w ≡ [] = words_of-none v.turns w (subst (λ m. Contains (words_of v.turns m) w) none there) in
        let passes : v.ends c ≡ true = sym (leads-played v.ends c c [] (play-empty after_turn c)) ∙ ap (leads v.ends c) (sym empty) ∙ way in
        let is : end ≡ part_number v c = sym (eqb-true (part_number v c) end (sym (ends c seen) ∙ passes)) in
        subst Has is (has c seen is);
  }

  -- a set that has more
  pub IsSpread-wider : (lists : List Listed) (block : ℕ) (Has More : ℕ → Type 0) → ((n : ℕ) → Has n → More n)
      → IsSpread v lists block Has → IsSpread v lists block More
  IsSpread-wider lists block Has More wider h = record {
    here = λ c seen at listed. wider (part_number v c % 2 ^ 32) (h.here c seen at listed);
    there = λ c d place seen at lt to listed. wider (part_number v c % 2 ^ 32) (h.there c d place seen at lt to listed);
  }

module _ (v : Views) (e : Extent) (are : AreViews v e) where
  -- one turn more, of a block
  near_in_block : (most : ℕ) (lists : List Listed) (block : ℕ) (Has : ℕ → Type 0) → IsNear v most (IsListed lists)
      → IsSpread v lists block Has → (c : CubeState) (n : ℕ) (w : List ℕ) → v.IsSeen c
      → part_number v c / 2 ^ 32 ≡ block → n ≤ most + 1 → Contains (words_of v.turns n) w → leads v.ends c w ≡ true
      → Has (part_number v c % 2 ^ 32)
  near_in_block most lists block Has h spread c n w seen at le there way =
      elim (cases_lt most n) [
        | inl more ↦
            let one : n ≡ suc most = omega (arith, le, more) in
            let first = begins v.turns most w (subst (λ m. Contains (words_of v.turns m) w) one there) in
            let step = step_of v.ends c (get_or v.turns first.place 0) first.others (ap (leads v.ends c) (sym first.is) ∙ way) in
            let seen_there = are.taken_back.seen c step.there first.place seen first.below step.to in
            spread.there c step.there first.place seen at first.below step.to (h.near step.there most first.others seen_there (omega arith) first.listed step.way)
        | inr few ↦ spread.here c seen at (h.near c n w seen few there way)
      ]

  -- of all blocks, as workers list them
  pub IsNear-listed : (most : ℕ) (lists next : List Listed)
      → ((c : CubeState) → v.IsSeen c → part_number v c / 2 ^ 32 < length next)
      → AreAnswered (λ block out. IfOk out (λ list. IsSpread v lists block (Contains list.items))) next
      → ((k : ℕ) → k < length next → IsThere (slice_index_or next k None)) → IsNear v most (IsListed lists)
      → IsNear v (most + 1) (IsListed next)
  IsNear-listed most lists next below answered all h = record {
    near = λ c n w seen le there way.
        let block : ℕ = part_number v c / 2 ^ 32 in
        let lt = below c seen in
        let spread = found_there (λ xs. IsSpread v lists block (Contains xs)) (slice_index_or next block None) (answered block lt) (all block lt) in
        near_in_block most lists block (Contains (numbers_in (slice_index_or next block None))) h spread c n w seen refl le there way;
  }

  -- and as they enter them into a near set
  pub IsNear-entered : (most : ℕ) (lists : List Listed) (blocks : List NearBlock) (set : NearSet)
      → set.blocks.items ≡ blocks
      → ((k : ℕ) (d : NearBlock) → k < length blocks → IsSpread v lists k (HasBits (slice_index_or blocks k d).words))
      → IsNear v most (IsListed lists) → IsNear v (most + 1) (IsInSet set)
  IsNear-entered most lists blocks set is spread h = record {
    near = λ c n w seen le there way. record {
      bits = λ block at.
          let k : ℕ = part_number v c / 2 ^ 32 in
          let stands : slice_get blocks k ≡ Some block = ap (λ bs. slice_get bs k) (sym is) ∙ at in
          let Spread : NearBlock → Type 0 = λ b. IsSpread v lists k (HasBits b.words) in
          let here = subst Spread (get_or_from_slice_get blocks k block block stands) (spread k block (slice_get_within blocks k block stands)) in
          near_in_block most lists k (HasBits block.words) h here c n w seen refl le there way;
    };
  }

-- ---- turns into a near set

none_in : (t : ℕ) → contains_turn 0 t ≡ true → ⊥
none_in t h = false≢true (sym (ap (λ b. b == 1) (bit_at-zero t)) ∙ h)

module _ (v : Views) (at : PartPosition) (Has : ℕ → Type 0) (all : ℕ) where
  -- a turn that leads to what the set has is in
  abbrev IsIn : ℕ → ℕ → Type 0
  IsIn into t =
      (c d : CubeState) → Shows v c at → after_turn c (get_or v.turns t 0) ≡ Some d → Has (part_number v d) → contains_turn into t ≡ true

  -- Of all turns some are still to look at; of the others those are in that lead to what the set has.
  pub record AreLookedAt (others into : ℕ) : Type 0 where
    pub few_others : others < 2 ^ 18
    pub few_into : into < 2 ^ 18
    pub others_among : (t : ℕ) → contains_turn others t ≡ true → contains_turn all t ≡ true
    pub into_among : (t : ℕ) → contains_turn into t ≡ true → contains_turn all t ≡ true
    pub each : (t : ℕ) → contains_turn all t ≡ true → (contains_turn others t ≡ true) ⊎ IsIn into t

  pub AreLookedAt-begin : all < 2 ^ 18 → AreLookedAt all 0
  AreLookedAt-begin few = record {
    few_others = few;
    few_into = omega arith;
    others_among = λ t h. h;
    into_among = λ t h. absurd (none_in t h);
    each = λ t h. inl h;
  }

  module _ (others into : ℕ) (h : AreLookedAt others into) where
    pub AreLookedAt-next : (place left more : ℕ) (add : Bool) → contains_turn others place ≡ true
        → ((t : ℕ) → contains_turn left t ≡ (contains_turn others t && not (t == place))) → left < 2 ^ 18
        → ((t : ℕ) → contains_turn more t ≡ (contains_turn into t || (add && (t == place)))) → more < 2 ^ 18
        → ((c d : CubeState) → Shows v c at → after_turn c (get_or v.turns place 0) ≡ Some d → Has (part_number v d) → add ≡ true)
        → AreLookedAt left more
    AreLookedAt-next place left more add taken rest few_left with few_more has = record {
      few_others = few_left;
      few_into = few_more;
      others_among = λ t is. h.others_among t (and_parts (contains_turn others t) (not (t == place)) (sym (rest t) ∙ is)).0;
      into_among = λ t is.
          elim (or_cases (contains_turn into t) (add && (t == place)) (sym (with t) ∙ is)) [
            | inl before ↦ h.into_among t before
            | inr now ↦
                let same : t ≡ place = eqb-true t place (and_parts add (t == place) now).1 in
                h.others_among t (ap (contains_turn others) same ∙ taken)
          ];
      each = λ t is.
          elim (h.each t is) [
            | inl still ↦
                elim (cases_eq t place) [
                  | inl same ↦
                      inr (λ c d shown to there.
                      let here = has c d shown (ap (λ u. after_turn c (get_or v.turns u 0)) (sym same) ∙ to) there in
                      with t ∙ or_right (contains_turn into t) (add && (t == place)) (and_from add (t == place) here (eq-eqb t place same)))
                  | inr other ↦ inl (rest t ∙ and_from (contains_turn others t) (not (t == place)) still (ap not (ne_eqb t place other)))
                ]
            | inr in_it ↦
                inr (λ c d shown to there. with t ∙ or_left (contains_turn into t) (add && (t == place)) (in_it c d shown to there))
          ];
    }

    pub LeavesNear-looked : (e : Extent) → AreViews v e → (c : CubeState) (more : ℕ) → others ≡ 0 → IsNear v more Has
        → Shows v c at → LeavesNear v.turns v.ends c more all into
    LeavesNear-looked e are c more none near shown = record {
      among = h.into_among;
      left = λ place w lt listed way is.
          let step = step_of v.ends c (get_or v.turns place 0) w way in
          let there = near.near step.there more w (are.taken_back.seen c step.there place shown.seen lt step.to) (omega arith) listed step.way in
          elim (h.each place is) [
            | inl still ↦ absurd (none_in place (ap (λ b. contains_turn b place) (sym none) ∙ still))
            | inr in_it ↦ in_it c step.there shown step.to there
          ];
    }
