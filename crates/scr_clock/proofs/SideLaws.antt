-- Turns of one side and of two: what they leave alone, and by how much they must turn.
use Rattle.std.proofs.Common.{◌≡◌, ℕ, zero, suc, ◌<◌, ◌↔◌, ◌⊎◌, inl, inr, Bool, true, false, cond, eqb, ltb, ltb-true, IsTrue, List, [], ◌∷◌, length, replicate, get_or, refl, sym, ap, ◌∙◌, subst, arith}
use Rattle.std.specs.Prelude.{bit_and}
use Rattle.std.proofs.lemmas.Bool.{false≢true, cond-false, ne_eqb, cases_cond, agree_below_at}
use Rattle.scr_clock.specs.Dials.{IsClock, gain_at, dials_turned, solved, dial_turn}
use Rattle.scr_clock.specs.Least.{turns_lead}
use Rattle.scr_clock.specs.Sides.{Setting, turn_by, SomeTurn, SidesLead, OfOthers, IsOtherSolved, centre_amount, AreBackEdgesCarried}
use Rattle.scr_clock.proofs.TurnLaws.{hour_at, IsClock-turned}
use Rattle.scr_clock.proofs.DialTurns.{turned-at, turned_swap}
use Rattle.scr_clock.proofs.LeastLaws.{solved_from_all_twelve, turns_lead-from, turns_lead-gives}

-- ---- what a turn of one side leaves alone

-- a turn gives no such dial anything
none_gained : (back : Bool) (p a : ℕ) → OfOthers back (λ k. IsTrue (ltb k 14) × (gain_at (dial_turn back p a) k ≡ 0))
unfolding gain_at
none_gained true p a = ((refl, refl), (refl, refl), (refl, refl), (refl, refl), (refl, refl))
none_gained false p a = ((refl, refl), (refl, refl), (refl, refl), (refl, refl), (refl, refl))

OfOthers-both : (back : Bool) (P Q R : ℕ → Type 0) → ((k : ℕ) → P k → Q k → R k) → OfOthers back P → OfOthers back Q
    → OfOthers back R
OfOthers-both true P Q R f p q = (f 1 p.0 q.0, f 3 p.1 q.1, f 4 p.2 q.2, f 5 p.3 q.3, f 7 p.4 q.4)
OfOthers-both false P Q R f p q = (f 9 p.0 q.0, f 10 p.1 q.1, f 11 p.2 q.2, f 12 p.3 q.3, f 13 p.4 q.4)

left_alone : (back : Bool) (dials : List ℕ) (p a : ℕ) → IsClock dials
    → IsOtherSolved back (dials_turned dials (dial_turn back p a)) → IsOtherSolved back dials
left_alone back dials p a c =
    let t = dial_turn back p a in
    OfOthers-both back (λ k. IsTrue (ltb k 14) × (gain_at t k ≡ 0)) (λ k. get_or (dials_turned dials t) k 0 ≡ 0) (λ k. get_or dials k 0 ≡ 0)
    (λ k none after. let l : k < 14 = ltb-true k 14 none.0 in omega (arith, turned-at dials t k l, hour_at dials k c l, none.1, after))
    (none_gained back p a)

IsOtherSolved-solved : (back : Bool) → IsOtherSolved back solved
IsOtherSolved-solved true = (refl, refl, refl, refl, refl)
IsOtherSolved-solved false = (refl, refl, refl, refl, refl)

-- turns of one side lead to solved only where the dials that they leave alone show 12
pub IsOtherSolved-led : (n : ℕ) (back : Bool) (dials : List ℕ) → IsClock dials → SidesLead (replicate n back) dials
    → IsOtherSolved back dials
IsOtherSolved-led zero back dials c e = subst (λ (d : List ℕ). IsOtherSolved back d) (sym e) (IsOtherSolved-solved back)
IsOtherSolved-led (suc n) back dials c s =
    let t = turn_by back s.setting in
    left_alone back dials s.setting.pins s.setting.amount c (IsOtherSolved-led n back (dials_turned dials t) (IsClock-turned dials t) s.gives)

-- ---- by how much the centre must turn

-- a centre has all four pins next to it, and so gains by each turn
all_turn : (p a : ℕ) → 0 < p → p < 16 → cond (eqb (bit_and 15 p) 0) 0 a ≡ a
all_turn p a pos l =
    let same = agree_below_at (λ n. eqb (bit_and 15 n) 0) (λ n. eqb n 0) 16 p refl l in
    cond-false (eqb (bit_and 15 p) 0) 0 a (same ∙ ne_eqb p 0 (λ e. omega arith))

abbrev centre_at : Bool → ℕ
centre_at back = cond back 11 4

centre_in : (back : Bool) → centre_at back < 14
centre_in true = omega arith
centre_in false = omega arith

centre_gain : (back : Bool) (s : Setting) → gain_at (turn_by back s) (centre_at back) ≡ s.amount
unfolding gain_at
centre_gain true s = all_turn s.pins s.amount s.some_pin s.four_pins
centre_gain false s = all_turn s.pins s.amount s.some_pin s.four_pins

-- a turn after which the side's centre shows 12 is by that amount
amount_by_centre : (back : Bool) (dials : List ℕ) (s : Setting) → IsClock dials
    → get_or (dials_turned dials (turn_by back s)) (centre_at back) 0 ≡ 0 → s.amount ≡ centre_amount back dials
unfolding centre_amount
amount_by_centre back dials s c e =
    let low = centre_in back in
    omega (arith, turned-at dials (turn_by back s) (centre_at back) low, hour_at dials (centre_at back) c low, centre_gain back s, s.hours, e)

centre_solved : (back : Bool) → get_or solved (centre_at back) 0 ≡ 0
centre_solved true = refl
centre_solved false = refl

-- what is so after a turn is so after the turn by an equal amount
pub by_amount : (back : Bool) (dials : List ℕ) (IsSo : List ℕ → Type 0) (s : Setting) (a : ℕ) → s.amount ≡ a
    → IsSo (dials_turned dials (turn_by back s))
    → IsSo (dials_turned dials (dial_turn back s.pins a))
by_amount back dials IsSo s a e h = subst (λ (n : ℕ). IsSo (dials_turned dials (dial_turn back s.pins n))) e h

-- one turn to solved is by the amount of its side's centre
pub amount_of_last : (back : Bool) (dials : List ℕ) → IsClock dials → (s : SidesLead (back ∷ []) dials)
    → s.setting.amount ≡ centre_amount back dials
amount_of_last back dials c s = amount_by_centre back dials s.setting c (ap (λ d. get_or d (centre_at back) 0) s.gives ∙ centre_solved back)

-- ---- a turn of the back, and then one of the front

back_solved : (dials : List ℕ) → (s : SidesLead (true ∷ false ∷ []) dials)
    → IsOtherSolved false (dials_turned dials (turn_by true s.setting))
back_solved dials s =
    IsOtherSolved-led 1 false (dials_turned dials (turn_by true s.setting)) (IsClock-turned dials (turn_by true s.setting)) s.gives

-- the turn of the back is by the amount of its centre
pub amount_of_back : (dials : List ℕ) → IsClock dials → (s : SidesLead (true ∷ false ∷ []) dials)
    → s.setting.amount ≡ centre_amount true dials
amount_of_back dials c s = amount_by_centre true dials s.setting c (back_solved dials s).2

-- and it brings the back's edges to 12
pub back_edges_carried : (dials : List ℕ) → IsClock dials → SidesLead (true ∷ false ∷ []) dials
    → AreBackEdgesCarried dials
unfolding gain_at centre_amount
back_edges_carried dials c s =
    let r = back_solved dials s in (
      carried 9 (omega arith) (cases_cond _ 0 s.setting.amount _ refl) r.0,
      carried 10 (omega arith) (cases_cond _ 0 s.setting.amount _ refl) r.1,
      carried 12 (omega arith) (cases_cond _ 0 s.setting.amount _ refl) r.3,
      carried 13 (omega arith) (cases_cond _ 0 s.setting.amount _ refl) r.4,
    )
  where
    carried : (k : ℕ) → k < 14
        → (gain_at (turn_by true s.setting) k ≡ 0) ⊎ (gain_at (turn_by true s.setting) k ≡ s.setting.amount)
        → get_or (dials_turned dials (turn_by true s.setting)) k 0 ≡ 0
        → (get_or dials k 0 ≡ 0) ⊎ (get_or dials k 0 ≡ get_or dials 11 0)
    carried k l g e =
        let sum = turned-at dials (turn_by true s.setting) k l in
        let low = hour_at dials k c l in
        let centre = hour_at dials 11 c (omega arith) in
        elim g [
          | inl z ↦ inl (omega (arith, sum, low, e, z))
          | inr z ↦ inr (omega (arith, sum, low, centre, e, z, amount_of_back dials c s))
        ]

-- ---- turns of any sides

-- no turn leads to solved from there alone
pub none_by_sides : (dials : List ℕ) → IsClock dials → IsTrue (turns_lead 0 dials) ↔ (dials ≡ solved)
unfolding turns_lead
none_by_sides dials c = (solved_from_all_twelve dials c, turns_lead-from [] dials)

-- one turn is of the front or of the back
pub one_by_sides : (dials : List ℕ) → IsClock dials
    → IsTrue (turns_lead 1 dials) ↔ (SidesLead (false ∷ []) dials ⊎ SidesLead (true ∷ []) dials)
one_by_sides dials c = (
  λ h. (let led = turns_lead-gives 1 dials c h in by_side led.0 led.1 led.2),
  λ h. elim h [ inl s ↦ turns_lead-from (false ∷ []) dials s | inr s ↦ turns_lead-from (true ∷ []) dials s ],
)
  where
    by_side : (sides : List Bool) → length sides ≡ 1 → SidesLead sides dials
        → SidesLead (false ∷ []) dials ⊎ SidesLead (true ∷ []) dials
    by_side (false ∷ []) e s = inl s
    by_side (true ∷ []) e s = inr s
    by_side _ e s = absurd (omega (arith, e))

-- two turns are both of the front, or both of the back, or one of the back and then one of the front
abbrev pub LeadByTwo : List ℕ → Type 0
LeadByTwo dials =
    (SidesLead (false ∷ false ∷ []) dials ⊎ SidesLead (true ∷ true ∷ []) dials) ⊎ SidesLead (true ∷ false ∷ []) dials

pub two_by_sides : (dials : List ℕ) → IsClock dials → IsTrue (turns_lead 2 dials) ↔ LeadByTwo dials
two_by_sides dials c = (
  λ h. (let led = turns_lead-gives 2 dials c h in by_sides led.0 led.1 led.2),
  λ h. elim h [
    | inl one ↦ elim one [ inl s ↦ turns_lead-from (false ∷ false ∷ []) dials s | inr s ↦ turns_lead-from (true ∷ true ∷ []) dials s ]
    | inr s ↦ turns_lead-from (true ∷ false ∷ []) dials s
  ],
)
  where
    exchanged : SidesLead (false ∷ true ∷ []) dials → SidesLead (true ∷ false ∷ []) dials
    exchanged s = record {
      setting = s.gives.setting;
      gives = record {
        setting = s.setting;
        gives = turned_swap dials (turn_by true s.gives.setting) (turn_by false s.setting)
            ∙ s.gives.gives;
      };
    }

    by_sides : (sides : List Bool) → length sides ≡ 2 → SidesLead sides dials → LeadByTwo dials
    by_sides (false ∷ (false ∷ [])) e s = inl (inl s)
    by_sides (true ∷ (true ∷ [])) e s = inl (inr s)
    by_sides (true ∷ (false ∷ [])) e s = inr s
    by_sides (false ∷ (true ∷ [])) e s = inr (exchanged s)
    by_sides _ e s = absurd (omega (arith, e))

-- ---- tests

-- a test that is false tells what isn't so
pub untrue : {P : Type 0} → (P → ⊥) → IsTrue false ↔ P
untrue n = (λ h. absurd (false≢true h), λ h. absurd (n h))

-- a test that is true tells that a turn was found
pub found : (back : Bool) (dials after : List ℕ) (IsSo : List ℕ → Type 0) (p a : ℕ) → 0 < p → p < 16 → a < 12
    → after ≡ dials_turned dials (dial_turn back p a) → IsSo after → IsTrue true ↔ SomeTurn back dials IsSo
found back dials after IsSo p a pos l h e so =
    let s : Setting = record { pins = p; amount = a; some_pin = pos; four_pins = l; hours = h } in
    (λ _. record { setting = s; gives = subst IsSo e so }, λ _. refl)

-- two tests that tell the same are the same
pub same_tests : (a b : Bool) (P : Type 0) → IsTrue a ↔ P → IsTrue b ↔ P → a ≡ b
same_tests true b P f g = sym (g.1 (f.0 refl))
same_tests false true P f g = f.1 (g.0 refl)
same_tests false false P f g = refl
