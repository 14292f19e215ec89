-- Keys tell valid states apart.
use Rattle.std.proofs.Common.{◌≡◌, ℕ, zero, suc, ◌+◌, ◌-◌, ◌*◌, ◌^◌, ◌<◌, ◌≤◌, Bool, true, false, cond, List, [], ◌∷◌, length, drop, get_or, refl, sym, ap, ◌∙◌, subst, arith, lit<}
use Rattle.std.specs.Prelude.{All}
use Rattle.std.proofs.lemmas.List.{length-drop, drop_more, drop_all}
use Rattle.std.proofs.lemmas.List.Elements.{All-head, All-tail, All-cons, All-nil, All-drop, All-get_or}
use Rattle.std.proofs.Math.Nat.{pow-suc}
use Rattle.scr_combinatorics.proofs.PermutationLaws.{All-permutation}
use Rattle.scr_sq1.specs.Units.{Sq1State, IsSq1}
use Rattle.scr_sq1.specs.Shapes.{shape_of}
use Rattle.scr_sq1.specs.Numbers.{corners_of, edges_of, laid, shape_word}
use Rattle.scr_sq1.proofs.StatePieces.{StatePieces-valid}
use Rattle.scr_sq1far.specs.Levels.{units_key, key_of}

abbrev Sixteen : ℕ → Type 0
Sixteen u = u < 16

abbrev Eight : ℕ → Type 0
Eight u = u < 8

laid-below : (w : List Bool) (cs es : List ℕ) → All Eight cs → All Eight es → All Sixteen (laid w cs es)
laid-below [] cs es hc he = All-nil Sixteen
laid-below (true ∷ w) [] es hc he = All-nil Sixteen
laid-below (true ∷ w) (c ∷ cs) es hc he =
    let low : c < 8 = All-head Eight c cs hc in
    All-cons Sixteen c (c ∷ laid w cs es) (omega arith)
    (All-cons Sixteen c (laid w cs es) (omega arith) (laid-below w cs es (All-tail Eight c cs hc) he))
laid-below (false ∷ w) cs [] hc he = All-nil Sixteen
laid-below (false ∷ w) cs (e ∷ es) hc he =
    let low : e < 8 = All-head Eight e es he in
    All-cons Sixteen (8 + e) (laid w cs es) (omega arith) (laid-below w cs es hc (All-tail Eight e es he))

pub units-below : (s : Sq1State) → IsSq1 s → All (λ u. u < 16) s.units
units-below s valid =
    let p = StatePieces-valid s valid in
    subst (All Sixteen) p.laid_again
    (laid-below (shape_word (shape_of s.units)) (corners_of s.units) (edges_of s.units)
    (All-permutation 8 (corners_of s.units) p.corners) (All-permutation 8 (edges_of s.units) p.edges))

sixteen_pos : (n : ℕ) → 0 < 16 ^ n
sixteen_pos zero = lit< tt
sixteen_pos (suc n) = omega (arith, pow-suc 16 n, sixteen_pos n)

pub units_key-lt : (n : ℕ) (us : List ℕ) → All (λ u. u < 16) us → length us ≤ n → units_key us < 16 ^ n
unfolding units_key
units_key-lt n [] below le = omega (arith, sixteen_pos n)
units_key-lt zero (u ∷ us) below le = absurd (omega arith)
units_key-lt (suc n) (u ∷ us) below le =
    omega (arith, All-head Sixteen u us below, units_key-lt n us (All-tail Sixteen u us below) (omega arith), pow-suc 16 n)

units_key-same : (us vs : List ℕ) → All Sixteen us → All Sixteen vs → length us ≡ length vs → units_key us ≡ units_key vs
    → us ≡ vs
unfolding units_key
units_key-same [] [] hu hv size e = refl
units_key-same [] (v ∷ vs) hu hv size e = absurd (omega arith)
units_key-same (u ∷ us) [] hu hv size e = absurd (omega arith)
units_key-same (u ∷ us) (v ∷ vs) hu hv size e =
    let lu : u < 16 = All-head Sixteen u us hu in
    let lv : v < 16 = All-head Sixteen v vs hv in
    let first : u ≡ v = omega arith in
    let rest = units_key-same us vs (All-tail Sixteen u us hu) (All-tail Sixteen v vs hv) (omega arith) (omega arith) in
    ap (λ x. x ∷ us) first ∙ ap (λ xs. v ∷ xs) rest

same_bit : (b c : Bool) → (let x : ℕ = cond b 1 0 in let y : ℕ = cond c 1 0 in x ≡ y) → b ≡ c
same_bit true true e = refl
same_bit true false e = absurd (omega arith)
same_bit false true e = absurd (omega arith)
same_bit false false e = refl

bit-lt : (b : Bool) → (let x : ℕ = cond b 1 0 in x < 2)
bit-lt true = omega arith
bit-lt false = omega arith

pub key-same : (s r : Sq1State) → IsSq1 s → IsSq1 r → key_of s ≡ key_of r → s ≡ r
unfolding key_of
key-same s r vs vr e =
    let ls = bit-lt s.equator in
    let lr = bit-lt r.equator in
    let units : s.units ≡ r.units =
    units_key-same s.units r.units (units-below s vs) (units-below r vr) (vs.size ∙ sym vr.size) (omega arith) in
    let equator : s.equator ≡ r.equator = same_bit s.equator r.equator (omega arith) in
    ap (λ us. let q : Sq1State = record { units = us; equator = s.equator } in q) units
    ∙ ap (λ b. let q : Sq1State = record { units = r.units; equator = b } in q) equator

-- ---- the key, unit by unit from the last one on

module _ (s : Sq1State) (valid : IsSq1 s) (units : List ℕ) (same : units ≡ s.units) where
  size : length units ≡ 24
  size = ap length same ∙ valid.size

  below : All Sixteen units
  below = subst (All Sixteen) (sym same) (units-below s valid)

  pub key-start : 0 ≡ units_key (drop 24 units)
  unfolding units_key
  key-start = sym (ap units_key (drop_all 24 units (omega (arith, size))))

  pub key-low : (place n key : ℕ) → key ≡ units_key (drop place units) → 24 ≤ place + n → key < 16 ^ n
  key-low place n key e le =
      omega (arith, e, units_key-lt n (drop place units) (All-drop Sixteen place units below) (omega (arith, length-drop place units, size)))

  pub unit-low : (place : ℕ) → place < 24 → get_or units place 0 < 16
  unit-low place lt = All-get_or Sixteen units place 0 (omega (arith, size)) below

  pub key-step : (place key : ℕ) → key ≡ units_key (drop place units) → 0 < place → place ≤ 24
      → 16 * key + get_or units (place - 1) 0 ≡ units_key (drop (place - 1) units)
  unfolding units_key
  key-step place key e some le =
      let here : drop (place - 1) units ≡ get_or units (place - 1) 0 ∷ drop (place - 1 + 1) units =
      drop_more units (place - 1) 0 (omega (arith, size)) in
      let next : drop (place - 1 + 1) units ≡ drop place units = ap (λ k. drop k units) {x = place - 1 + 1} {y = place} (omega arith) in
      omega (arith, e, ap units_key here, ap units_key next)

  pub key-made : (key bit : ℕ) (b : Bool) → key ≡ units_key (drop 0 units) → s.equator ≡ b
      → (let n : ℕ = cond b 1 0 in bit ≡ n) → 2 * key + bit ≡ key_of s
  unfolding key_of
  key-made key bit b e equator is =
      ap (λ k. 2 * k + bit) (e ∙ ap units_key same)
      ∙ ap (λ i. 2 * units_key s.units + i) (is ∙ ap (λ x. let n : ℕ = cond x 1 0 in n) (sym equator))
