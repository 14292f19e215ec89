-- Turns of faces are powers of quarter turns, opposite and merged as powers are, and each has its number.
use Rattle.std.proofs.Common.{◌≡◌, ℕ, ◌+◌, ◌-◌, ◌*◌, ◌/◌, ◌%◌, ◌<◌, ◌≤◌, Bool, true, false, IsTrue, cond, Some, None, refl, sym, ap, ◌∙◌, subst, arith, eqb, ltb, eqb-true, ltb-true, lt-ltb, ne_eqb}
use Rattle.std.specs.Prelude.{◌&&◌}
use Rattle.std.specs.Cmp.Derive.{both_true}
use Rattle.std.proofs.lemmas.Bool.{eqb-false}
use Rattle.std.proofs.lemmas.Option.{cond_some}
use Rattle.scr_combinatorics.specs.PowerLetters.{Power, AreNumbered}
use Rattle.scr_combinatorics.proofs.PowerLetterLaws.{ArePowers, merged_power}
use Rattle.scr_notation.specs.declared.turn.Turn.{Turn}
use Rattle.scr_notation.specs.declared.turn.Turn.TheVariants.{Face}
use Rattle.scr_notation.specs.Turning.{opposite, are_alike, turns_merged, turn_merging}
use Rattle.scr_notation.specs.Amounts.{is_amount}
use Rattle.scr_notation.specs.TurnNumbers.{face_turn_at}
use Rattle.scr_notation.specs.FaceLetters.{quarters_of, letters_of_faces}
use Rattle.scr_notation.proofs.Below.{and_first, and_second}

-- a letter that is a power is a turn of the outer layer, by one to three quarters
pub record IsQuartersOf (t : Turn) (p : Power) : Type 0 where
  pub is : t ≡ Face p.generator 1 p.exponent
  pub some : 0 < p.exponent
  pub few : p.exponent < 4

face_read : (face depth amount : ℕ) (p : Power) → quarters_of (Face face depth amount) ≡ Some p
    → IsQuartersOf (Face face depth amount) p
face_read face depth amount p e =
    let low : Bool = ltb 0 amount && ltb amount 4 in
    let read = cond_some (eqb depth 1 && low) (record { generator = face; exponent = amount }) p e in
    let outer : depth ≡ 1 = eqb-true depth 1 (and_first (eqb depth 1) low read.0) in
    let range : low ≡ true = and_second (eqb depth 1) low read.0 in
    let P : Power → Type 0 = IsQuartersOf (Face face depth amount) in
    subst P read.1 (record {
      is = ap (λ d. Face face d amount) outer;
      some = ltb-true 0 amount (and_first (ltb 0 amount) (ltb amount 4) range);
      few = ltb-true amount 4 (and_second (ltb 0 amount) (ltb amount 4) range);
    })

pub IsQuartersOf-read : (t : Turn) (p : Power) → quarters_of t ≡ Some p → IsQuartersOf t p
IsQuartersOf-read (Face face depth amount) p e = face_read face depth amount p e
IsQuartersOf-read _ p e = absurd (cc)

-- and each such turn is
pub quarters_of-face : (face amount : ℕ) → 0 < amount → amount < 4
    → quarters_of (Face face 1 amount) ≡ Some (record { generator = face; exponent = amount })
quarters_of-face face amount some few =
    ap (λ b. cond b (Some (record { generator = face; exponent = amount })) None) (both_true (lt-ltb 0 amount some) (lt-ltb amount 4 few))

-- two turns of one face come to the sum of their quarters
merged_by : (face amount more : ℕ) (b : Bool) → eqb ((amount + more) % 4) 0 ≡ b
    → merged_power quarters_of face (turns_merged (Face face 1 amount) (Face face 1 more)) ≡ Some (record { generator = face; exponent = (amount + more) % 4 })
merged_by face amount more true e =
    ap (λ b. merged_power quarters_of face (cond b None (Some (Face face 1 ((amount + more) % 4))))) e
    ∙ ap (λ n. Some (record { generator = face; exponent = n })) (sym (eqb-true ((amount + more) % 4) 0 e))
merged_by face amount more false e =
    ap (λ b. merged_power quarters_of face (cond b None (Some (Face face 1 ((amount + more) % 4))))) e
    ∙ quarters_of-face face ((amount + more) % 4) (omega (arith, eqb-false ((amount + more) % 4) 0 e)) (omega arith)

same_face : (t u : Turn) (p q : Power) → IsTrue (are_alike t u) → IsQuartersOf t p → IsQuartersOf u q
    → p.generator ≡ q.generator
same_face t u p q alike a b =
    let whole : IsTrue (are_alike (Face p.generator 1 p.exponent) (Face q.generator 1 q.exponent)) =
    ap (λ v. are_alike v (Face q.generator 1 q.exponent)) (sym a.is) ∙ ap (are_alike t) (sym b.is) ∙ alike in
    eqb-true p.generator q.generator (and_first (eqb p.generator q.generator) true whole)

pub face_powers : ArePowers 4 quarters_of opposite turn_merging
face_powers = record {
  below = λ t p e. let a = IsQuartersOf-read t p e in (a.some, a.few);
  opposites = λ t p e.
      let a = IsQuartersOf-read t p e in
      ap (λ u. quarters_of (opposite u)) a.is ∙ quarters_of-face p.generator (4 - p.exponent) (omega arith) (omega arith);
  same = λ t u p q alike e f. same_face t u p q alike (IsQuartersOf-read t p e) (IsQuartersOf-read u q f);
  merges = λ t u p q alike e f.
      let a = IsQuartersOf-read t p e in
      let b = IsQuartersOf-read u q f in
      let other : u ≡ Face p.generator 1 q.exponent = b.is ∙ ap (λ g. Face g 1 q.exponent) (sym (same_face t u p q alike a b)) in
      ap (λ v. merged_power quarters_of p.generator (turns_merged v u)) a.is
      ∙ ap (λ v. merged_power quarters_of p.generator (turns_merged (Face p.generator 1 p.exponent) v)) other
      ∙ merged_by p.generator p.exponent q.exponent (eqb ((p.exponent + q.exponent) % 4) 0) refl;
}

-- ---- numbers

-- the first eighteen turns are of outer layers
outer : (n : ℕ) → n < 18 → face_turn_at n ≡ Face (n / 3) 1 (n % 3 + 1)
unfolding face_turn_at
outer n l =
    let face : n / 3 % 6 ≡ n / 3 = omega arith in
    let depth : n / 18 + 1 ≡ 1 = omega arith in
    cc

-- and the others are none
inner : (n : ℕ) → 18 ≤ n → quarters_of (face_turn_at n) ≡ None
unfolding face_turn_at
inner n l =
    let amount : ℕ = n % 3 + 1 in
    ap (λ b. cond (b && is_amount 4 amount) (Some (record { generator = n / 3 % 6; exponent = amount })) None) (ne_eqb (n / 18 + 1) 1 (λ q. omega arith))

face_turn_at-number : (n face amount : ℕ) → n ≡ 3 * face + (amount - 1) → face < 6 → 0 < amount → amount < 4
    → face_turn_at n ≡ Face face 1 amount
face_turn_at-number n face amount number there some few =
    let which : n / 3 ≡ face = omega arith in
    let much : n % 3 + 1 ≡ amount = omega arith in
    outer n (omega arith) ∙ ap (λ f. Face f 1 (n % 3 + 1)) which ∙ ap (λ a. Face face 1 a) much

pub faces_numbered : AreNumbered letters_of_faces
faces_numbered = record {
  read = λ p h. quarters_of-face p.generator p.exponent h.some h.few;
  only = λ t p e. sym (IsQuartersOf-read t p e).is;
  some = λ t p e. (IsQuartersOf-read t p e).some;
  few = λ t p e. (IsQuartersOf-read t p e).few;
  numbered = λ p h. face_turn_at-number _ p.generator p.exponent refl h.generator h.some h.few;
  no_more = inner;
}
