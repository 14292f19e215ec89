-- Places in pairs: how many pairings there are, their numbers and their order.
use Rattle.std.proofs.lemmas.Grind.{common_steps}
use Rattle.std.proofs.Common.{rules, ◌≡◌, ℕ, zero, suc, ◌+◌, ◌-◌, ◌*◌, ◌/◌, ◌%◌, ◌<◌, ◌≤◌, inl, inr, List, [], ◌∷◌, map, length, slice_index, refl, sym, ap, ◌∙◌, subst, arith}
use Rattle.std.specs.List.{insert, remove}
use Rattle.std.proofs.lemmas.Bool.{cases_eq, cases_lt, cases_order}
use Rattle.std.proofs.lemmas.Bool.Decides.{nat_tests}
use Rattle.std.proofs.lemmas.List.{length-map, get_or-map, ext_get_or, nil_from_length}
use Rattle.std.proofs.lemmas.List.Edits.{length-insert, get_or-insert_below, get_or-insert_at, get_or-insert_above, length-remove, get_or-remove_below, get_or-remove_above}
use Rattle.std.proofs.lemmas.Nat.{div_below, mod_below, div-add-mod', div-mul-add, mod-mul-add}
use Rattle.std.proofs.Math.Nat.{mul-le-mul_right}
use Rattle.scr_combinatorics.specs.Lists.{ComesBefore}
use Rattle.scr_combinatorics.specs.Pairings.{IsPairing, pairing_count, other_place, place_among_others, with_first_pair, without_first_pair, pairing_number, pairing_at}
use Rattle.scr_combinatorics.specs.Numbering.{IsOneToOne}
use Rattle.scr_combinatorics.proofs.Orders.{ComesBefore-irrefl, ComesBefore-asymmetric}

pub pairing_count-pos : (pairs : ℕ) → 0 < pairing_count pairs
pairing_count-pos zero = omega arith
pairing_count-pos (suc pairs) = omega (arith, pairing_count-pos pairs)

-- ---- the others

other_place-low : (x j : ℕ) → j < x → other_place x j ≡ suc j
other_place-low x j lt = grind (arith, nat_tests)

other_place-high : (x j : ℕ) → x ≤ j → other_place x j ≡ suc (suc j)
other_place-high x j le = grind (arith, nat_tests)

place_among_others-low : (x k : ℕ) → k ≤ x → place_among_others x k ≡ k - 1
place_among_others-low x k le = grind (arith, nat_tests)

place_among_others-high : (x k : ℕ) → x < k → place_among_others x k ≡ k - 2
place_among_others-high x k lt = grind (arith, nat_tests)

pub other_place-apart : (x j : ℕ) → other_place x j ≡ suc x → ⊥
other_place-apart x j e = grind (arith, nat_tests)

pub other_place-among : (x j : ℕ) → place_among_others x (other_place x j) ≡ j
other_place-among x j =
    grind (arith, cases_lt, other_place-low, place_among_others-low, other_place-high, place_among_others-high)

other_place-rises : (x i j : ℕ) → i < j → other_place x i < other_place x j
other_place-rises x i j lt = grind (arith, nat_tests)

pub other_place-lt : (n x j : ℕ) → j < n → other_place x j < suc (suc n)
other_place-lt n x j lt = grind (arith, nat_tests)

-- a place that is neither the first one nor its partner
pub record IsOther (n x k : ℕ) : Type 0 where
  pub place : ℕ
  pub below : place < n
  pub is : other_place x place ≡ k

is_other : (n x k : ℕ) → x ≤ n → k < suc (suc n) → (k ≡ 0 → ⊥) → (k ≡ suc x → ⊥) → IsOther n x k
is_other n x k le lt first partner =
    elim (cases_lt k (suc x)) [
      | inl low ↦ record { place = k - 1; below = omega arith; is = other_place-low x (k - 1) (omega arith) ∙ omega arith }
      | inr high ↦ record { place = k - 2; below = omega arith; is = other_place-high x (k - 2) (omega arith) ∙ omega arith }
    ]

-- each place is the first one, or its partner, or another
module _ (P : ℕ → Type 0) (n x : ℕ) (le : x ≤ n) (first : P 0) (partner : P (suc x)) (others : (j : ℕ) → j < n → P (other_place x j)) where
  pub by_places : (k : ℕ) → k < suc (suc n) → P k
  by_places k lt =
      elim (cases_eq k 0) [
        | inl none ↦ subst P (sym none) first
        | inr some ↦ elim (cases_eq k (suc x)) [
          | inl same ↦ subst P (sym same) partner
          | inr apart ↦ let o = is_other n x k le lt some apart in subst P o.is (others o.place o.below)
        ]
      ]

-- ---- a pairing with a first pair more

pub length-with_first_pair : (x : ℕ) (rest : List ℕ) → x ≤ length rest
    → length (with_first_pair x rest) ≡ suc (suc (length rest))
length-with_first_pair x rest le = grind (arith, length-map, length-insert)

module _ (x : ℕ) (rest : List ℕ) (le : x ≤ length rest) where
  pub with_first_pair-partner : slice_index (with_first_pair x rest) (suc x) ≡ 0
  with_first_pair-partner = grind (arith, length-map, get_or-insert_at)

  pub with_first_pair-other : (j : ℕ) → j < length rest
      → slice_index (with_first_pair x rest) (other_place x j) ≡ other_place x (slice_index rest j)
  with_first_pair-other j lt =
      grind (arith, common_steps, length-map, get_or-map, cases_lt, other_place-low, get_or-insert_below, other_place-high, get_or-insert_above)

  with_first_pair-again : without_first_pair x (insert (map (other_place x) rest) x 0) ≡ rest
  with_first_pair-again =
      let raised : List ℕ = map (other_place x) rest in
      let size : length raised ≡ length rest = length-map rest (other_place x) in
      let more : List ℕ = insert raised x 0 in
      let more_size : length more ≡ length raised + 1 = length-insert raised x 0 (omega arith) in
      let less : List ℕ = remove more x in
      let less_size : length less + 1 ≡ length more = length-remove more x (omega arith) in
      ext_get_or 0 (map (place_among_others x) less) rest (omega (arith, length-map less (place_among_others x))) (λ j lt.
      let low : j < length rest = omega (arith, length-map less (place_among_others x)) in
      let there : slice_index less j ≡ slice_index raised j =
      elim (cases_lt j x) [
        | inl before ↦ get_or-remove_below more x 0 j before (omega arith) ∙ get_or-insert_below raised x 0 0 j before (omega arith)
        | inr behind ↦ get_or-remove_above more x 0 j behind (omega arith) ∙ get_or-insert_above raised x 0 0 j behind (omega arith)
      ] in
      get_or-map (place_among_others x) less j 0 0 (omega arith)
      ∙ ap (place_among_others x) (there ∙ get_or-map (other_place x) rest j 0 0 low)
      ∙ other_place-among x (slice_index rest j))

-- a first pair more
pub IsPairing-with_first_pair : (n x : ℕ) (rest : List ℕ) → x ≤ n → IsPairing n rest
    → IsPairing (suc (suc n)) (with_first_pair x rest)
IsPairing-with_first_pair n x rest le h =
    let xs : List ℕ = with_first_pair x rest in
    let room : x ≤ length rest = omega (arith, h.size) in
    let at_partner : slice_index xs (suc x) ≡ 0 = with_first_pair-partner x rest room in
    let at_other = λ (j : ℕ) (lt : j < n). with_first_pair-other x rest room j (omega (arith, h.size)) in
    record {
      size = length-with_first_pair x rest room ∙ ap (λ m. suc (suc m)) h.size;
      below = by_places (λ k. slice_index xs k < suc (suc n)) n x le (omega arith) (omega arith) (λ j lt.
          omega (arith, at_other j lt, other_place-lt n x (slice_index rest j) (h.below j lt)));
      apart = by_places (λ k. slice_index xs k ≡ k → ⊥) n x le (λ e. omega arith) (λ e. omega arith) (λ j lt e.
          h.apart j lt (sym (other_place-among x (slice_index rest j)) ∙ ap (place_among_others x) (sym (at_other j lt) ∙ e) ∙ other_place-among x j));
      both = by_places (λ k. slice_index xs (slice_index xs k) ≡ k) n x le at_partner (ap (λ k. slice_index xs k) at_partner) (λ j lt.
          ap (λ k. slice_index xs k) (at_other j lt) ∙ at_other (slice_index rest j) (h.below j lt) ∙ ap (other_place x) (h.both j lt));
    }

-- ---- a pairing without its first pair

-- a pairing of two places more, whose first place has the partner x + 1
module _ (n x : ℕ) (xs : List ℕ) (h : IsPairing (suc (suc n)) (suc x ∷ xs)) where
  partner_le : x ≤ n
  partner_le = omega (arith, h.below 0 (omega arith))

  at_partner : slice_index (suc x ∷ xs) (suc x) ≡ 0
  at_partner = h.both 0 (omega arith)

  -- the partner of another place is another place
  other_partner : (j : ℕ) → j < n → IsOther n x (slice_index (suc x ∷ xs) (other_place x j))
  other_partner j lt =
      let k : ℕ = other_place x j in
      let q : ℕ = slice_index (suc x ∷ xs) k in
      let low : k < suc (suc n) = other_place-lt n x j lt in
      let again : slice_index (suc x ∷ xs) q ≡ k = h.both k low in
      is_other n x q partner_le (h.below k low)
      (λ e. other_place-apart x j (sym again ∙ ap (λ z. slice_index (suc x ∷ xs) z) e))
      (λ e. let none : k ≡ 0 = sym again ∙ ap (λ z. slice_index (suc x ∷ xs) z) e ∙ at_partner in omega arith)

  length-remove_partner : length (remove xs x) ≡ n
  length-remove_partner = omega (arith, h.size, partner_le, length-remove xs x (omega (arith, h.size, partner_le)))

  pub length-without : length (without_first_pair x xs) ≡ n
  length-without = length-map (remove xs x) (place_among_others x) ∙ length-remove_partner

  pub without-at : (j : ℕ) → j < n
      → slice_index (without_first_pair x xs) j ≡ place_among_others x (slice_index (suc x ∷ xs) (other_place x j))
  without-at j lt =
      let room : x < length xs = omega (arith, partner_le, h.size) in
      get_or-map (place_among_others x) (remove xs x) j 0 0 (omega (arith, length-remove_partner))
      ∙ ap (place_among_others x) (elim (cases_lt j x) [
        | inl before ↦
            get_or-remove_below xs x 0 j before room ∙ ap (λ k. slice_index (suc x ∷ xs) k) (sym (other_place-low x j before))
        | inr behind ↦
            get_or-remove_above xs x 0 j behind room
            ∙ ap (λ k. slice_index (suc x ∷ xs) k) {x = suc (j + 1)} {y = other_place x j} (omega (arith, other_place-high x j behind))
      ])

  -- the partner of another place, counted among the others
  without-other : (j : ℕ) → j < n
      → other_place x (slice_index (without_first_pair x xs) j) ≡ slice_index (suc x ∷ xs) (other_place x j)
  without-other j lt =
      let o = other_partner j lt in
      ap (other_place x) (without-at j lt ∙ ap (place_among_others x) (sym o.is) ∙ other_place-among x o.place) ∙ o.is

  without-lt : (j : ℕ) → j < n → slice_index (without_first_pair x xs) j < n
  without-lt j lt =
      let o = other_partner j lt in
      omega (arith, o.below, without-at j lt ∙ ap (place_among_others x) (sym o.is) ∙ other_place-among x o.place)

  IsPairing-without : IsPairing n (without_first_pair x xs)
  IsPairing-without =
      let rest : List ℕ = without_first_pair x xs in
      record {
        size = length-without;
        below = without-lt;
        apart = λ j lt e.
            h.apart (other_place x j) (other_place-lt n x j lt) (sym (without-other j lt) ∙ ap (other_place x) e);
        both = λ j lt.
            sym (other_place-among x (slice_index rest (slice_index rest j)))
            ∙ ap (place_among_others x) (without-other (slice_index rest j) (without-lt j lt)
            ∙ ap (λ k. slice_index (suc x ∷ xs) k) (without-other j lt)
            ∙ h.both (other_place x j) (other_place-lt n x j lt))
            ∙ other_place-among x j;
      }

  -- the pairing is made again of its first pair and the others
  without-again : with_first_pair x (without_first_pair x xs) ≡ suc x ∷ xs
  without-again =
      let rest : List ℕ = without_first_pair x xs in
      let room : x ≤ length rest = omega (arith, length-without, partner_le) in
      let size : length (with_first_pair x rest) ≡ suc (suc n) = length-with_first_pair x rest room ∙ ap (λ m. suc (suc m)) length-without in
      ext_get_or 0 (with_first_pair x rest) (suc x ∷ xs) (size ∙ sym h.size) (λ k lt.
      by_places (λ k. slice_index (with_first_pair x rest) k ≡ slice_index (suc x ∷ xs) k) n x partner_le refl
      (with_first_pair-partner x rest room ∙ sym at_partner)
      (λ j low. with_first_pair-other x rest room j (omega (arith, length-without)) ∙ without-other j low) k (omega arith))

-- a pairing of some places has a first pair
pub record HasFirstPair (n : ℕ) (xs : List ℕ) : Type 0 where
  pub partner : ℕ
  pub others : List ℕ
  pub is : xs ≡ suc partner ∷ others
  pub low : partner ≤ n
  pub rest : IsPairing n (without_first_pair partner others)
  pub again : with_first_pair partner (without_first_pair partner others) ≡ xs

pub first_pair : (n : ℕ) (xs : List ℕ) → IsPairing (suc (suc n)) xs → HasFirstPair n xs
first_pair n [] h = absurd (omega (arith, h.size))
first_pair n (zero ∷ xs) h = absurd (h.apart 0 (omega arith) refl)
first_pair n (suc x ∷ xs) h = search (arith, rules, partner_le, IsPairing-without, without-again)

-- ---- the numbers

-- so many pairs and one more
two_more : (pairs : ℕ) → 2 * suc pairs ≡ suc (suc (2 * pairs))
two_more pairs = omega arith

pub pairing_first : (pairs : ℕ) (xs : List ℕ) → IsPairing (2 * suc pairs) xs → HasFirstPair (2 * pairs) xs
pairing_first pairs xs h = first_pair (2 * pairs) xs (subst (λ n. IsPairing n xs) (two_more pairs) h)

pub pairing_number-first : (pairs : ℕ) (xs : List ℕ) (f : HasFirstPair (2 * pairs) xs)
    → pairing_number (suc pairs) xs ≡ f.partner * pairing_count pairs + pairing_number pairs (without_first_pair f.partner f.others)
unfolding pairing_number
pairing_number-first pairs xs f = ap (pairing_number (suc pairs)) f.is

-- one of so many choices, and what is left
chosen_below : (x n number count : ℕ) → x ≤ n → number < count → x * count + number < (n + 1) * count
chosen_below x n number count le lt = let more : suc x ≤ n + 1 = omega arith in omega (arith, mul-le-mul_right count more)

pub pairing_number-lt : (pairs : ℕ) (xs : List ℕ) → IsPairing (2 * pairs) xs
    → pairing_number pairs xs < pairing_count pairs
unfolding pairing_number
pairing_number-lt zero xs h = omega arith
pairing_number-lt (suc pairs) xs h =
    let f = pairing_first pairs xs h in
    let count : ℕ = pairing_count pairs in
    omega (
      arith,
      pairing_number-first pairs xs f,
      chosen_below f.partner (2 * pairs) (pairing_number pairs (without_first_pair f.partner f.others)) count f.low
          (pairing_number-lt pairs (without_first_pair f.partner f.others) f.rest),
    )

-- the partner of the first place in the pairing with a number
first_choice : (pairs r : ℕ) → r < pairing_count (suc pairs) → r / pairing_count pairs ≤ 2 * pairs
first_choice pairs r lt = grind (arith, div_below, pairing_count-pos)

pub IsPairing-at : (pairs r : ℕ) → r < pairing_count pairs → IsPairing (2 * pairs) (pairing_at pairs r)
unfolding pairing_at
IsPairing-at zero r lt = search (arith, rules)
IsPairing-at (suc pairs) r lt =
    search (arith, rules, two_more, IsPairing-with_first_pair, first_choice, mod_below, pairing_count-pos, IsPairing-at pairs)

pub pairing_number-at : (pairs r : ℕ) → r < pairing_count pairs → pairing_number pairs (pairing_at pairs r) ≡ r
unfolding pairing_number pairing_at
pairing_number-at zero r lt = omega arith
pairing_number-at (suc pairs) r lt =
    grind (arith, mod_below, pairing_count-pos, IsPairing-at, with_first_pair-again, first_choice, div-add-mod', pairing_number-at pairs)

pub pairing_at-number : (pairs : ℕ) (xs : List ℕ) → IsPairing (2 * pairs) xs
    → pairing_at pairs (pairing_number pairs xs) ≡ xs
unfolding pairing_at
pairing_at-number zero xs h = sym (nil_from_length xs h.size)
pairing_at-number (suc pairs) xs h =
    let f = pairing_first pairs xs h in
    let count : ℕ = pairing_count pairs in
    let rest : List ℕ = without_first_pair f.partner f.others in
    let number : ℕ = pairing_number pairs rest in
    let low : number < count = pairing_number-lt pairs rest f.rest in
    ap (pairing_at (suc pairs)) (pairing_number-first pairs xs f)
    ∙ ap (λ x. with_first_pair x (pairing_at pairs ((f.partner * count + number) % count))) (div-mul-add f.partner count number low)
    ∙ ap (λ r. with_first_pair f.partner (pairing_at pairs r)) (mod-mul-add f.partner count number low)
    ∙ ap (with_first_pair f.partner) (pairing_at-number pairs rest f.rest)
    ∙ f.again

-- pairings are numbered by the numbers below their count
pub pairings_one_to_one : (pairs : ℕ)
    → IsOneToOne (pairing_count pairs) (pairing_at pairs) (pairing_number pairs) (IsPairing (2 * pairs))
pairings_one_to_one pairs =
    grind (arith, common_steps, IsPairing-at, pairing_number-lt, pairing_number-at, pairing_at-number)

-- ---- the order

ComesBefore-map : (f : ℕ → ℕ) → ((i j : ℕ) → i < j → f i < f j) → (xs ys : List ℕ) → ComesBefore xs ys
    → ComesBefore (map f xs) (map f ys)
ComesBefore-map f rises [] ys h = absurd h
ComesBefore-map f rises (x ∷ xs) [] h = absurd h
ComesBefore-map f rises (x ∷ xs) (y ∷ ys) (inl lt) = inl (rises x y lt)
ComesBefore-map f rises (x ∷ xs) (y ∷ ys) (inr both) = inr (ap f both.0, ComesBefore-map f rises xs ys both.1)

ComesBefore-insert : (i z : ℕ) (xs ys : List ℕ) → ComesBefore xs ys → ComesBefore (insert xs i z) (insert ys i z)
ComesBefore-insert zero z xs ys h = inr (refl, h)
ComesBefore-insert (suc i) z [] ys h = absurd h
ComesBefore-insert (suc i) z (x ∷ xs) [] h = absurd h
ComesBefore-insert (suc i) z (x ∷ xs) (y ∷ ys) (inl lt) = inl lt
ComesBefore-insert (suc i) z (x ∷ xs) (y ∷ ys) (inr both) = inr (both.0, ComesBefore-insert i z xs ys both.1)

-- of two pairings, the one with the lower number comes first
ComesBefore-at : (pairs r s : ℕ) → s < pairing_count pairs → r < s
    → ComesBefore (pairing_at pairs r) (pairing_at pairs s)
unfolding pairing_at
ComesBefore-at zero r s low lt = absurd (omega arith)
ComesBefore-at (suc pairs) r s low lt =
    let count : ℕ = pairing_count pairs in
    let pos : 0 < count = pairing_count-pos pairs in
    elim (cases_order (r / count) (s / count)) [
      | inl same ↦
          inr (
            ap suc same,
            subst (λ x. ComesBefore (insert (map (other_place x) (pairing_at pairs (r % count))) x 0) (insert (map (other_place (s / count)) (pairing_at pairs (s % count))) (s / count) 0)) (sym same)
                (ComesBefore-insert (s / count) 0 _ _ (ComesBefore-map (other_place (s / count)) (other_place-rises (s / count)) _ _
                (ComesBefore-at pairs (r % count) (s % count) (mod_below s count pos) (omega (arith, div-add-mod' r count, div-add-mod' s count, ap (λ q. q * count) same))))),
          )
      | inr (inl less) ↦ inl (omega arith)
      | inr (inr more) ↦ absurd (omega (arith, div-add-mod' r count, div-add-mod' s count, mod_below s count pos, mul-le-mul_right count more))
    ]

pub pairing_number-order : (pairs : ℕ) (xs ys : List ℕ) → IsPairing (2 * pairs) xs → IsPairing (2 * pairs) ys
    → ComesBefore xs ys → pairing_number pairs xs < pairing_number pairs ys
pairing_number-order pairs xs ys p q before =
    let r : ℕ = pairing_number pairs xs in
    let s : ℕ = pairing_number pairs ys in
    let xs_again = pairing_at-number pairs xs p in
    let ys_again = pairing_at-number pairs ys q in
    elim (cases_order r s) [
      | inl same ↦ absurd (ComesBefore-irrefl ys (subst (λ zs. ComesBefore zs ys) (sym xs_again ∙ ap (pairing_at pairs) same ∙ ys_again) before))
      | inr (inl less) ↦ less
      | inr (inr more) ↦
          absurd (ComesBefore-asymmetric xs ys before (subst (λ zs. ComesBefore zs xs) ys_again (subst (ComesBefore (pairing_at pairs s)) xs_again
          (ComesBefore-at pairs s r (pairing_number-lt pairs xs p) more))))
    ]
