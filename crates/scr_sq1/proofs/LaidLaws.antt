-- Pieces that lie one behind the other, and what is read of them.
use Rattle.std.proofs.lemmas.Grind.{common_steps}
use Rattle.std.proofs.Common.{rules}
use Rattle.std.proofs.Common.{◌≡◌, ℕ, zero, suc, ◌+◌, ◌-◌, ◌*◌, ◌<◌, ◌≤◌, ◌⊎◌, inl, inr, Bool, true, false, not, List, [], ◌∷◌, ◌++◌, map, length, slice_index, IsTrue, refl, sym, ap, ◌∙◌, arith}
use Rattle.std.proofs.lemmas.Bool.Decides.{nat_tests}
use Rattle.std.specs.Prelude.{◌==◌, All, filter}
use Rattle.std.proofs.lemmas.Bool.{cases_lt, lt-ltb, le-ltb}
use Rattle.std.proofs.lemmas.List.Elements.{All-append, All-nil, All-cons, All-head, All-tail}
use Rattle.std.proofs.lemmas.List.{length-append, ext_get_or}
use Rattle.scr_combinatorics.specs.Lists.{occurrences, pick}
use Rattle.scr_combinatorics.proofs.Picks.{pick-at}
use Rattle.scr_notation.specs.Ranges.{all_below}
use Rattle.scr_notation.proofs.Below.{at_below}
use Rattle.scr_sq1.specs.Units.{is_corner}
use Rattle.scr_sq1.specs.Shapes.{corners_among, edges_among, units_among}
use Rattle.scr_sq1.specs.Numbers.{corners_of, edges_of, laid}
use Rattle.scr_sq1.proofs.HalfWords.{word_bits, corner_bits}

-- a word has as many corners and edges as there are
pub record Fits (w : List Bool) (cs es : List ℕ) : Type 0 where
  pub corners : corners_among w ≡ length cs
  pub edges : edges_among w ≡ length es

pub corners_among-append : (v w : List Bool) → corners_among (v ++ w) ≡ corners_among v + corners_among w
corners_among-append [] w = omega arith
corners_among-append (true ∷ v) w = omega (arith, corners_among-append v w)
corners_among-append (false ∷ v) w = corners_among-append v w

pub edges_among-append : (v w : List Bool) → edges_among (v ++ w) ≡ edges_among v + edges_among w
edges_among-append [] w = omega arith
edges_among-append (true ∷ v) w = edges_among-append v w
edges_among-append (false ∷ v) w = omega (arith, edges_among-append v w)

-- ---- laid pieces, one by one

-- what holds of each word with its corners and edges
module _ (P : List Bool → List ℕ → List ℕ → Type 0) (none : P [] [] [])
    (corner : (w : List Bool) (c : ℕ) (cs es : List ℕ) → Fits w cs es → P w cs es → P (true ∷ w) (c ∷ cs) es)
    (edge : (w : List Bool) (e : ℕ) (cs es : List ℕ) → Fits w cs es → P w cs es → P (false ∷ w) cs (e ∷ es)) where
  pub by_pieces : (w : List Bool) (cs es : List ℕ) → Fits w cs es → P w cs es
  by_pieces [] [] [] f = none
  by_pieces (true ∷ w) (c ∷ cs) es f =
      let rest : Fits w cs es = record { corners = omega (arith, f.corners); edges = f.edges } in
      corner w c cs es rest (by_pieces w cs es rest)
  by_pieces (false ∷ w) cs (e ∷ es) f =
      let rest : Fits w cs es = record { corners = f.corners; edges = omega (arith, f.edges) } in
      edge w e cs es rest (by_pieces w cs es rest)
  by_pieces _ cs es f = absurd (omega (arith, f.corners, f.edges))

pub length-laid : (w : List Bool) (cs es : List ℕ) → Fits w cs es → length (laid w cs es) ≡ units_among w
length-laid =
    by_pieces (λ w cs es. length (laid w cs es) ≡ units_among w) refl
    (λ w c cs es f h. omega (arith, h)) (λ w e cs es f h. omega (arith, h))

pub laid-append : (v w : List Bool) (cs ds es fs : List ℕ) → Fits v cs es
    → laid (v ++ w) (cs ++ ds) (es ++ fs) ≡ laid v cs es ++ laid w ds fs
laid-append v w cs ds es fs =
    by_pieces (λ v cs es. laid (v ++ w) (cs ++ ds) (es ++ fs) ≡ laid v cs es ++ laid w ds fs) refl
    (λ v c cs es f h. ap (λ us. c ∷ c ∷ us) h) (λ v e cs es f h. ap (λ us. (8 + e) ∷ us) h) v cs es

pub occurrences-laid : (p : ℕ) (w : List Bool) (cs es : List ℕ) → Fits w cs es
    → occurrences p (laid w cs es) ≡ 2 * occurrences p cs + occurrences p (map (λ e. 8 + e) es)
occurrences-laid p =
    by_pieces (λ w cs es. occurrences p (laid w cs es) ≡ 2 * occurrences p cs + occurrences p (map (λ e. 8 + e) es)) refl
    (λ w c cs es f h. omega (arith, h)) (λ w e cs es f h. omega (arith, h))

-- ---- what is read of them

-- every second element, from the first one on
abbrev pub every_second : List ℕ → List ℕ
every_second [] = []
every_second (x ∷ []) = x ∷ []
every_second (x ∷ (y ∷ xs)) = x ∷ every_second xs

every_second-at : (xs : List ℕ) (i : ℕ) → slice_index (every_second xs) i ≡ slice_index xs (2 * i)
every_second-at [] i = refl
every_second-at (x ∷ []) zero = refl
every_second-at (x ∷ []) (suc i) = ap (λ k. slice_index (x ∷ []) k) {x = suc (suc (2 * i))} {y = 2 * suc i} (omega arith)
every_second-at (x ∷ (y ∷ xs)) zero = refl
every_second-at (x ∷ (y ∷ xs)) (suc i) =
    every_second-at xs i ∙ ap (λ k. slice_index (x ∷ (y ∷ xs)) k) {x = suc (suc (2 * i))} {y = 2 * suc i} (omega arith)

pub length-every_second : (n : ℕ) (xs : List ℕ) → length xs ≡ 2 * n → length (every_second xs) ≡ n
length-every_second zero [] e = refl
length-every_second (suc n) (x ∷ (y ∷ xs)) e = ap suc (length-every_second n xs (omega (arith, e)))
length-every_second _ _ e = absurd (omega (arith, e))

abbrev pub even_places : List ℕ
even_places = 0 ∷ 2 ∷ 4 ∷ 6 ∷ 8 ∷ 10 ∷ 12 ∷ 14 ∷ []

even_tested : IsTrue (all_below (λ k. slice_index even_places k == 2 * k) 8)
unfolding all_below
even_tested = refl

pick-even : (xs : List ℕ) → length xs ≡ 16 → pick xs even_places ≡ every_second xs
pick-even xs size =
    grind (arith, nat_tests, ext_get_or, length-every_second, pick-at, at_below, even_tested, every_second-at)

pub corners_of-sixteen : (units : List ℕ) → length (filter is_corner units) ≡ 16
    → corners_of units ≡ every_second (filter is_corner units)
unfolding corners_of
corners_of-sixteen units size = pick-even (filter is_corner units) size

pub length-corner_units : (w : List Bool) (cs es : List ℕ) → Fits w cs es → All (λ c. c < 8) cs
    → length (filter is_corner (laid w cs es)) ≡ 2 * length cs
length-corner_units =
    by_pieces (λ w cs es. All (λ c. c < 8) cs → length (filter is_corner (laid w cs es)) ≡ 2 * length cs) (λ low. refl)
    (λ w c cs es f h low.
    grind (arith, nat_tests, lt-ltb, All-head (λ x. x < 8) c cs low, h (All-tail (λ x. x < 8) c cs low)))
    (λ w e cs es f h low. grind (arith, nat_tests, le-ltb, h low))

pub filter-corners : (w : List Bool) (cs es : List ℕ) → Fits w cs es → All (λ c. c < 8) cs
    → every_second (filter is_corner (laid w cs es)) ≡ cs
filter-corners =
    by_pieces (λ w cs es. All (λ c. c < 8) cs → every_second (filter is_corner (laid w cs es)) ≡ cs) (λ low. refl)
    (λ w c cs es f h low.
    grind (arith, nat_tests, lt-ltb, All-head (λ x. x < 8) c cs low, h (All-tail (λ x. x < 8) c cs low)))
    (λ w e cs es f h low. grind (arith, nat_tests, le-ltb, h low))

pub filter-edges : (w : List Bool) (cs es : List ℕ) → Fits w cs es → All (λ c. c < 8) cs
    → map (λ piece. piece - 8) (filter (λ piece. not (is_corner piece)) (laid w cs es)) ≡ es
filter-edges =
    by_pieces
    (λ w cs es. All (λ c. c < 8) cs
    → map (λ piece. piece - 8) (filter (λ piece. not (is_corner piece)) (laid w cs es)) ≡ es)
    (λ low. refl)
    (λ w c cs es f h low.
    grind (arith, nat_tests, lt-ltb, All-head (λ x. x < 8) c cs low, h (All-tail (λ x. x < 8) c cs low)))
    (λ w e cs es f h low. grind (arith, nat_tests, le-ltb, h low))

pub corners_of-laid : (w : List Bool) (cs es : List ℕ) → Fits w cs es → All (λ c. c < 8) cs → length cs ≡ 8
    → corners_of (laid w cs es) ≡ cs
corners_of-laid w cs es f low eight = search (arith, rules, corners_of-sixteen, length-corner_units, filter-corners)

pub edges_of-laid : (w : List Bool) (cs es : List ℕ) → Fits w cs es → All (λ c. c < 8) cs → edges_of (laid w cs es) ≡ es
unfolding edges_of
edges_of-laid = filter-edges

pub corner_bits-laid : (w : List Bool) (cs es : List ℕ) → Fits w cs es → All (λ c. c < 8) cs
    → corner_bits (laid w cs es) ≡ word_bits w
corner_bits-laid =
    by_pieces (λ w cs es. All (λ c. c < 8) cs → corner_bits (laid w cs es) ≡ word_bits w) (λ low. refl)
    (λ w c cs es f h low.
    grind (arith, nat_tests, lt-ltb, All-head (λ x. x < 8) c cs low, h (All-tail (λ x. x < 8) c cs low)))
    (λ w e cs es f h low. grind (arith, nat_tests, le-ltb, h low))

-- ---- neighbours

-- a unit whose corner fills the unit behind it or the one before
abbrev pub FillsNext : List ℕ → ℕ → Type 0
FillsNext us i =
    ((suc i < length us) × (slice_index us (suc i) ≡ slice_index us i))
    ⊎ ((j : ℕ) × (suc j ≡ i) × (slice_index us j ≡ slice_index us i))

-- the same behind some units more
FillsNext-later : (u : ℕ) (us : List ℕ) (i : ℕ) → FillsNext us i → FillsNext (u ∷ us) (suc i)
FillsNext-later u us i (inl p) = inl (omega (arith, p.0), p.1)
FillsNext-later u us i (inr p) = inr (suc p.0, ap suc p.1, p.2)

pub FillsNext-laid : (w : List Bool) (cs es : List ℕ) → Fits w cs es → (i : ℕ) → i < length (laid w cs es)
    → slice_index (laid w cs es) i < 8 → FillsNext (laid w cs es) i
FillsNext-laid =
    by_pieces (λ w cs es. (i : ℕ) → i < length (laid w cs es) → slice_index (laid w cs es) i < 8 → FillsNext (laid w cs es) i)
    (λ i lt corner. absurd (omega arith)) behind_corner behind_edge
  where
    behind_corner : (w : List Bool) (c : ℕ) (cs es : List ℕ) → Fits w cs es
        → ((i : ℕ) → i < length (laid w cs es) → slice_index (laid w cs es) i < 8 → FillsNext (laid w cs es) i)
        → (i : ℕ) → i < length (laid (true ∷ w) (c ∷ cs) es) → slice_index (laid (true ∷ w) (c ∷ cs) es) i < 8
        → FillsNext (laid (true ∷ w) (c ∷ cs) es) i
    behind_corner w c cs es f h zero lt corner = inl (omega arith, refl)
    behind_corner w c cs es f h (suc zero) lt corner = inr (0, refl, refl)
    behind_corner w c cs es f h (suc (suc i)) lt corner =
        FillsNext-later c (c ∷ laid w cs es) (suc i) (FillsNext-later c (laid w cs es) i (h i (omega arith) corner))

    behind_edge : (w : List Bool) (e : ℕ) (cs es : List ℕ) → Fits w cs es
        → ((i : ℕ) → i < length (laid w cs es) → slice_index (laid w cs es) i < 8 → FillsNext (laid w cs es) i)
        → (i : ℕ) → i < length (laid (false ∷ w) cs (e ∷ es)) → slice_index (laid (false ∷ w) cs (e ∷ es)) i < 8
        → FillsNext (laid (false ∷ w) cs (e ∷ es)) i
    behind_edge w e cs es f h zero lt corner = absurd (omega arith)
    behind_edge w e cs es f h (suc i) lt corner = FillsNext-later (8 + e) (laid w cs es) i (h i (omega arith) corner)

-- ---- units that are whole pieces

-- pieces that lie as these units
pub record IsLaid (us : List ℕ) (w : List Bool) (cs es : List ℕ) : Type 0 where
  pub fits : Fits w cs es
  pub below : All (λ c. c < 8) cs
  pub is : us ≡ laid w cs es

pub IsLaid-none : IsLaid [] [] [] []
IsLaid-none = record { fits = record { corners = refl; edges = refl }; below = All-nil (λ c. c < 8); is = refl }

pub IsLaid-append : (us vs : List ℕ) (v w : List Bool) (cs ds es fs : List ℕ) → IsLaid us v cs es → IsLaid vs w ds fs
    → IsLaid (us ++ vs) (v ++ w) (cs ++ ds) (es ++ fs)
IsLaid-append us vs v w cs ds es fs p q =
    grind (arith, nat_tests, common_steps, corners_among-append, length-append, edges_among-append, All-append, laid-append)

-- units each of whose corners fills just two units, side by side
pub record IsWhole (us : List ℕ) : Type 0 where
  pub partners : (i : ℕ) → i < length us → slice_index us i < 8 → FillsNext us i
  pub no_third : (i : ℕ) → suc (suc i) < length us → slice_index us i < 8 → slice_index us (suc i) ≡ slice_index us i
      → slice_index us (suc (suc i)) ≡ slice_index us i → ⊥

pub record LaidPieces (us : List ℕ) : Type 0 where
  pub word : List Bool
  pub corners : List ℕ
  pub edges : List ℕ
  pub are : IsLaid us word corners edges

-- an edge first
with_edge : (u : ℕ) (us : List ℕ) → 8 ≤ u → LaidPieces us → LaidPieces (u ∷ us)
with_edge u us high p = record {
  word = false ∷ p.word;
  corners = p.corners;
  edges = (u - 8) ∷ p.edges;
  are = grind (arith, nat_tests);
}

-- a corner first
with_corner : (u v : ℕ) (us : List ℕ) → u < 8 → v ≡ u → LaidPieces us → LaidPieces (u ∷ v ∷ us)
with_corner u v us low e p = record {
  word = true ∷ p.word;
  corners = u ∷ p.corners;
  edges = p.edges;
  are = grind (arith, nat_tests, All-cons);
}

IsWhole-behind_edge : (u v : ℕ) (us : List ℕ) → 8 ≤ u → IsWhole (u ∷ v ∷ us) → IsWhole (v ∷ us)
IsWhole-behind_edge u v us high h = record {
  partners = behind;
  no_third = λ i lt corner e f. h.no_third (suc i) (omega arith) corner e f;
}
  where
    behind : (i : ℕ) → i < length (v ∷ us) → slice_index (v ∷ us) i < 8 → FillsNext (v ∷ us) i
    behind zero lt corner = elim (h.partners 1 (omega arith) corner) [
      | inl p ↦ inl (omega (arith, p.0), p.1)
      | inr p ↦ let first : slice_index (u ∷ v ∷ us) p.0 ≡ u = ap (λ i. slice_index (u ∷ v ∷ us) i) {x = p.0} {y = 0} (omega (arith, p.1)) in
          absurd (omega (arith, p.2))
    ]
    behind (suc i) lt corner = elim (h.partners (suc (suc i)) (omega arith) corner) [
      | inl p ↦ inl (omega (arith, p.0), p.1)
      | inr p ↦ inr (i, refl, ap (λ j. slice_index (u ∷ v ∷ us) j) {x = suc i} {y = p.0} (omega (arith, p.1)) ∙ p.2)
    ]

IsWhole-behind_corner : (u v : ℕ) (us : List ℕ) → u < 8 → v ≡ u → IsWhole (u ∷ v ∷ us) → IsWhole us
IsWhole-behind_corner u v us low same h = record {
  partners = behind;
  no_third = λ i lt corner e f. h.no_third (suc (suc i)) (omega arith) corner e f;
}
  where
    behind : (i : ℕ) → i < length us → slice_index us i < 8 → FillsNext us i
    behind zero lt corner = elim (h.partners 2 (omega arith) corner) [
      | inl p ↦ inl (omega (arith, p.0), p.1)
      | inr p ↦
          let second : slice_index (u ∷ v ∷ us) p.0 ≡ v = ap (λ i. slice_index (u ∷ v ∷ us) i) {x = p.0} {y = 1} (omega (arith, p.1)) in
          absurd (h.no_third 0 (omega arith) low same (sym p.2 ∙ second ∙ same))
    ]
    behind (suc i) lt corner = elim (h.partners (suc (suc (suc i))) (omega arith) corner) [
      | inl p ↦ inl (omega (arith, p.0), p.1)
      | inr p ↦ inr (i, refl, ap (λ j. slice_index (u ∷ v ∷ us) j) {x = suc (suc i)} {y = p.0} (omega (arith, p.1)) ∙ p.2)
    ]

-- a corner is not the last unit alone
second_unit : (u v : ℕ) (us : List ℕ) → u < 8 → IsWhole (u ∷ v ∷ us) → v ≡ u
second_unit u v us low h = elim (h.partners 0 (omega arith) low) [ inl p ↦ p.1 | inr p ↦ absurd (omega (arith, p.1)) ]

only_unit : (u : ℕ) → u < 8 → IsWhole (u ∷ []) → ⊥
only_unit u low h = elim (h.partners 0 (omega arith) low) [ inl p ↦ omega (arith, p.0) | inr p ↦ omega (arith, p.1) ]

-- such units are pieces that lie one behind the other
pub LaidPieces-whole : (us : List ℕ) → IsWhole us → LaidPieces us
LaidPieces-whole [] h = record { word = []; corners = []; edges = []; are = IsLaid-none }
LaidPieces-whole (u ∷ []) h = grind (arith, nat_tests, only_unit, with_edge, IsLaid-none)
LaidPieces-whole (u ∷ (v ∷ us)) h =
    elim (cases_lt u 8) [
      | inl low ↦
          let same = second_unit u v us low h in
          with_corner u v us low same (LaidPieces-whole us (IsWhole-behind_corner u v us low same h))
      | inr high ↦ with_edge u (v ∷ us) high (LaidPieces-whole (v ∷ us) (IsWhole-behind_edge u v us high h))
    ]
