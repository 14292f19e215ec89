-- What is stored in blocks and in the list of deep positions.
use Rattle.std.proofs.Common.{◌≡◌, ◌≢◌, ℕ, zero, suc, ◌+◌, ◌<◌, ◌≤◌, min, cond, leb, List, [], ◌∷◌, ◌++◌, length, get_or, refl, sym, ap, ◌∙◌, subst, arith, inl, inr, add-one}
use Rattle.std.proofs.lemmas.Bool.{cases_eq, cases_lt, le-leb, lt-leb, lt-ltb, eq-eqb, ne_eqb}
use Rattle.std.proofs.lemmas.List.{append-nil, ext_get_or, get_or_append_left, get_or_push, length-append}
use Rattle.scr_positions.proofs.MoveLaws.{each_below-at, length-each_below}
use Rattle.scr_table.specs.Halves.{AreBlocksOf, AreRising, AreStored, Deep, StandsAt, deep_at, deep_below, deep_distance, deep_of, distance_at, half_byte_at, stored}

-- what holds at each place of a list, and of one more at its end, holds at each place then
pub each_pushed : {X : Type 0} (P : ℕ → X → Type 0) (xs : List X) (x d : X)
    → ((i : ℕ) → i < length xs → P i (get_or xs i d)) → P (length xs) x
    → (i : ℕ) → i < length (xs ++ x ∷ []) → P i (get_or (xs ++ x ∷ []) i d)
each_pushed P xs x d before here i lt = grind (arith, cases_lt, get_or_append_left, length-append, get_or_push)

-- ---- the list of deep positions

pub deep_below-none : (ds : List ℕ) → deep_below ds 0 ≡ []
unfolding deep_below
deep_below-none ds = refl

pub deep_below-more : (ds : List ℕ) (n : ℕ) → 14 ≤ get_or ds n 0
    → deep_below ds (n + 1) ≡ deep_below ds n ++ (n, get_or ds n 0) ∷ []
unfolding deep_below
deep_below-more ds n deep = rw add-one (rw le-leb refl)

pub deep_below-same : (ds : List ℕ) (n : ℕ) → get_or ds n 0 < 14 → deep_below ds (n + 1) ≡ deep_below ds n
unfolding deep_below
deep_below-same ds n other = rw add-one (rw lt-leb (append-nil _))

-- a list of deep positions that rise, below n
record AreBelow (n : ℕ) (deep : List Deep) : Type 0 where
  below : (i : ℕ) → i < length deep → (deep_at deep i).0 < n
  rising : AreRising deep

AreBelow-more : (n d : ℕ) (deep : List Deep) → AreBelow n deep → AreBelow (n + 1) (deep ++ (n, d) ∷ [])
AreBelow-more n d deep h = record {
  below = each_pushed (λ _ entry. entry.0 < n + 1) deep (n, d) (0, 0) (λ i lt. omega (arith, h.below i lt)) (omega arith);
  rising = λ i j before lt.
      let kept = λ (at : i < length deep). ap (λ (e : Deep). e.0) (get_or_append_left deep ((n, d) ∷ []) (0, 0) i at) in
      each_pushed (λ k entry. i < k → (deep_at (deep ++ (n, d) ∷ []) i).0 < entry.0) deep (n, d) (0, 0)
      (λ k inside lower. omega (arith, kept (omega arith), h.rising i k lower inside))
      (λ lower. omega (arith, kept lower, h.below i lower)) j lt before;
}

AreBelow-deep : (ds : List ℕ) (n : ℕ) → AreBelow n (deep_below ds n)
AreBelow-deep ds zero = grind (arith, deep_below-none)
AreBelow-deep ds (suc n) =
    let h = AreBelow-deep ds n in
    rw (sym (add-one n)) (elim (cases_lt (get_or ds n 0) 14) [
      | inl other ↦ rw deep_below-same (record { below = λ i lt. omega (arith, h.below i lt); rising = h.rising })
      | inr deep ↦ rw deep_below-more (AreBelow-more n (get_or ds n 0) (deep_below ds n) h)
    ])

pub AreRising-deep : (ds : List ℕ) → AreRising (deep_of ds)
AreRising-deep ds = (AreBelow-deep ds (length ds)).rising

-- each deep position stands in the list, with its distance
found : (ds : List ℕ) (n p : ℕ) → p < n → 14 ≤ get_or ds p 0
    → (i : ℕ) × (i < length (deep_below ds n)) × (deep_at (deep_below ds n) i ≡ (p, get_or ds p 0))
unfolding deep_below
found ds zero p lt deep = absurd (omega arith)
found ds (suc n) p lt deep =
    let before : List Deep = deep_below ds n in
    let more : List Deep = cond (leb 14 (get_or ds n 0)) ((n, get_or ds n 0) ∷ []) [] in
    elim (cases_eq p n) [
      | inl last ↦
          let one : more ≡ (p, get_or ds p 0) ∷ [] = rw (sym last) (rw le-leb refl) in
          rw one (length before, omega (arith, length-append before ((p, get_or ds p 0) ∷ [])), get_or_push before _ _ _ refl)
      | inr other ↦
          grind (arith, length-append, get_or_append_left, found ds n p (omega arith) deep)
    ]

-- the distance in a list of deep positions that rise is that beside the position
deep_distance-rising : (deep : List Deep) (p i : ℕ) → AreRising deep → StandsAt deep i p
    → deep_distance deep p ≡ (deep_at deep i).1
unfolding deep_distance
deep_distance-rising [] p i rising at = absurd (omega (arith, at.0))
deep_distance-rising (entry ∷ rest) p zero rising at = let here : entry.0 ≡ p = at.1 in rw eq-eqb refl
deep_distance-rising (entry ∷ rest) p (suc i) rising at =
    let other : entry.0 ≢ p = omega (arith, rising 0 (suc i) (omega arith) at.0, at.1) in
    let behind : AreRising rest = λ j k before lt. rising (suc j) (suc k) (omega arith) (omega arith) in
    rw ne_eqb (deep_distance-rising rest p i behind (omega (arith, at.0), at.1))

module _ (ds : List ℕ) (blocks : List (List ℕ)) (deep : List Deep) (halves : AreBlocksOf ds blocks) (is : deep ≡ deep_of ds)
    (p : ℕ) (inside : p < length ds) where
  half_is : half_byte_at blocks p ≡ min 14 (get_or ds p 0)
  half_is = halves.halves p (omega (arith, halves.count)) ∙ (rw lt-ltb refl)

  -- a position whose half byte is the mark stands in the list, with its distance
  found_by_half : half_byte_at blocks p ≡ 14 → (i : ℕ) × (i < length deep) × (deep_at deep i ≡ (p, get_or ds p 0))
  found_by_half marked = rw is (found ds (length ds) p inside (omega (arith, half_is)))

  distance_is : distance_at blocks deep p ≡ get_or ds p 0
  distance_is =
      elim (cases_lt (get_or ds p 0) 14) [
        | inl small ↦
            grind (arith, half_is, ne_eqb)
        | inr large ↦
            let marked : half_byte_at blocks p ≡ 14 = omega (arith, half_is) in
            let (i, lt, at) = found_by_half marked in
            let here = deep_distance-rising deep p i (rw is (AreRising-deep ds)) (lt, ap (λ (e : Deep). e.0) at) in
            rw (eq-eqb (half_byte_at blocks p) 14 marked) (here ∙ ap (λ (e : Deep). e.1) at)
      ]

-- What blocks and a list of deep positions store is the distances that they are of.
pub stored_is : (ds : List ℕ) (blocks : List (List ℕ)) (deep : List Deep) → AreBlocksOf ds blocks → deep ≡ deep_of ds
    → stored (length ds) blocks deep ≡ ds
stored_is ds blocks deep halves is =
    let distance = distance_at blocks deep in
    let count = length-each_below distance (length ds) in
    ext_get_or 0 _ ds count
    (λ p lt. each_below-at distance (length ds) p 0 (omega arith) ∙ distance_is ds blocks deep halves is p (omega arith))

pub AreStored-stored : (ds : List ℕ) (blocks : List (List ℕ)) (deep : List Deep) → AreBlocksOf ds blocks
    → deep ≡ deep_of ds → AreStored (stored (length ds) blocks deep) (length ds) blocks deep
AreStored-stored ds blocks deep halves is = grind (arith, stored_is)

-- what a reader of a slice of blocks and a slice of deep positions finds at a position whose half byte is the mark
pub found_stored : (s ds : List ℕ) (n p half : ℕ) (blocks read : List (List ℕ)) (deep listed : List Deep)
    → AreStored s n blocks deep → s ≡ ds → p < length ds → read ≡ blocks → half ≡ half_byte_at read p → half ≡ 14
    → listed ≡ deep → (i : ℕ) × (i < length listed) × (deep_at listed i ≡ (p, get_or ds p 0))
found_stored s ds n p half blocks read deep listed h view inside same is marked lists =
    let h : AreStored ds n blocks deep = subst (λ s. AreStored s n blocks deep) view h in
    let at : half_byte_at blocks p ≡ 14 = ap (λ b. half_byte_at b p) (sym same) ∙ sym is ∙ marked in
    rw lists (found_by_half ds blocks deep h.in_blocks h.deep_ones p inside at)
