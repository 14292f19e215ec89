-- The test of a minimum tells exactly what the minimum says.
use Rattle.std.proofs.Common.{◌≡◌, ℕ, zero, suc, ◌+◌, ◌-◌, ◌<◌, ◌≤◌, ◌↔◌, ◌⊎◌, inl, inr, Bool, true, false, not, eqb, List, [], ◌∷◌, ◌++◌, length, replicate, get_or, length-append, ext_get_or, ◌==◌, Some, refl, sym, ap, ◌∙◌, subst, arith, lit<}
use Rattle.std.proofs.lemmas.Bool.{false≢true, or_cases, or_left, or_right, eqb-true, cases_eq, cases_Bool, both_ways, not-true, cond-true, cond-false, eq-eqb, ne_eqb}
use Rattle.std.proofs.lemmas.List.{get_or-replicate, length-replicate}
use Rattle.std.proofs.lemmas.List.Sums.{AllPass-from_list_all}
use Rattle.scr_combinatorics.specs.Play.{play, count_in}
use Rattle.scr_combinatorics.specs.Reach.{Needs}
use Rattle.scr_combinatorics.proofs.PlayLaws.{play-empty, play-first, play-parts}
use Rattle.scr_clock.specs.Dials.{IsClock, DialTurn, dials_turned, solved, counted, dials_after, clock_puzzle, dial_turn}
use Rattle.scr_clock.specs.Least.{some_below, some_on, some_turn, all_twelve, turns_lead, needs_test_clock}
use Rattle.scr_clock.specs.Sides.{Setting, turn_by, SidesLead}
use Rattle.scr_clock.proofs.TurnLaws.{is_turn-from, setting_of, dials_after-turn, dials_after-parts, IsClock-turned, turned-none}

-- ---- some number, some turn

some_below-from : (n : ℕ) (passes : ℕ → Bool) (k : ℕ) → k < n → passes k ≡ true → some_below n passes ≡ true
unfolding some_below
some_below-from zero passes k l h = absurd (omega (arith, l))
some_below-from (suc n) passes k l h = grind (arith, or_left, or_right, some_below-from n passes k)

some_below-gives : (n : ℕ) (passes : ℕ → Bool) → some_below n passes ≡ true → (k : ℕ) × (k < n) × (passes k ≡ true)
unfolding some_below
some_below-gives zero passes h = absurd (false≢true h)
some_below-gives (suc n) passes h =
    elim (or_cases (passes n) (some_below n passes) h) [
      | inl e ↦ (n, omega arith, e)
      | inr e ↦ (let r = some_below-gives n passes e in (r.0, omega (arith, r.1), r.2))
    ]

module _ (dials : List ℕ) (passes : List ℕ → Bool) where
  some_on-from : (back : Bool) (s : Setting) → passes (dials_turned dials (turn_by back s)) ≡ true
      → some_on back (λ t. passes (dials_turned dials t)) ≡ true
  unfolding some_on
  some_on-from back s h =
      let pins : s.pins - 1 + 1 ≡ s.pins = omega (arith, s.some_pin) in
      some_below-from 15 (λ p. some_below 12 (λ a. passes (dials_turned dials (dial_turn back (p + 1) a)))) (s.pins - 1)
      (omega (arith, s.some_pin, s.four_pins))
      (some_below-from 12 (λ a. passes (dials_turned dials (dial_turn back (s.pins - 1 + 1) a))) s.amount s.hours
      (ap (λ p. passes (dials_turned dials (dial_turn back p s.amount))) pins ∙ h))

  some_on-gives : (back : Bool) → some_on back (λ t. passes (dials_turned dials t)) ≡ true
      → (s : Setting) × (passes (dials_turned dials (turn_by back s)) ≡ true)
  unfolding some_on
  some_on-gives back h =
      let p = some_below-gives 15 _ h in
      let a = some_below-gives 12 _ p.2 in
      (record { pins = p.0 + 1; amount = a.0; some_pin = omega arith; four_pins = omega (arith, p.1); hours = a.1 }, a.2)

  some_turn-from : (back : Bool) (s : Setting) → passes (dials_turned dials (turn_by back s)) ≡ true
      → some_turn (λ t. passes (dials_turned dials t)) ≡ true
  unfolding some_turn
  some_turn-from true s h = or_right (some_on false (λ t. passes (dials_turned dials t))) _ (some_on-from true s h)
  some_turn-from false s h = or_left _ (some_on true (λ t. passes (dials_turned dials t))) (some_on-from false s h)

  some_turn-gives : some_turn (λ t. passes (dials_turned dials t)) ≡ true
      → (back : Bool) × (s : Setting) × (passes (dials_turned dials (turn_by back s)) ≡ true)
  unfolding some_turn
  some_turn-gives h =
      elim (or_cases (some_on false (λ t. passes (dials_turned dials t))) (some_on true (λ t. passes (dials_turned dials t))) h) [
        | inl e ↦ (let r = some_on-gives false e in (false, r.0, r.1))
        | inr e ↦ (let r = some_on-gives true e in (true, r.0, r.1))
      ]

-- ---- turns of some sides that lead to solved

-- so many turns, of whatever sides, lead to solved
abbrev pub Leads : ℕ → List ℕ → Type 0
Leads n dials = (sides : List Bool) × (length sides ≡ n) × SidesLead sides dials

pub solved_from_all_twelve : (dials : List ℕ) → IsClock dials → all_twelve dials ≡ true → dials ≡ solved
unfolding all_twelve
solved_from_all_twelve dials c h =
    ext_get_or 0 dials solved c.fourteen
    (λ k l. eqb-true (get_or dials k 0) 0 (AllPass-from_list_all (λ d. d == 0) dials h k 0 l)
    ∙ sym (get_or-replicate 14 k 0 0 (omega (arith, c.fourteen))))

pub turns_lead-from : (sides : List Bool) (dials : List ℕ) → SidesLead sides dials
    → turns_lead (length sides) dials ≡ true
unfolding turns_lead all_twelve
turns_lead-from [] dials e = ap all_twelve e
turns_lead-from (back ∷ sides) dials s =
    some_turn-from dials (turns_lead (length sides)) back s.setting (turns_lead-from sides (dials_turned dials (turn_by back s.setting)) s.gives)

pub turns_lead-gives : (n : ℕ) (dials : List ℕ) → IsClock dials → turns_lead n dials ≡ true → Leads n dials
unfolding turns_lead
turns_lead-gives zero dials c h = ([], refl, solved_from_all_twelve dials c h)
turns_lead-gives (suc n) dials c h =
    let r = some_turn-gives dials (turns_lead n) h in
    let t = turn_by r.0 r.1 in
    let rest = turns_lead-gives n (dials_turned dials t) (IsClock-turned dials t) r.2 in
    (r.0 ∷ rest.0, ap suc rest.1, record { setting = r.1; gives = rest.2 })

-- ---- words that lead to solved

-- a turn by nothing counts nothing, and any other once
counted-cases : (t : DialTurn) → ((t.amount ≡ 0) × (counted t ≡ 0)) ⊎ (counted t ≡ 1)
unfolding counted
counted-cases t =
    elim (cases_eq t.amount 0) [
      | inl e ↦ inl (e, cond-true (eqb t.amount 0) 0 1 (eq-eqb t.amount 0 e))
      | inr n ↦ inr (cond-false (eqb t.amount 0) 0 1 (ne_eqb t.amount 0 n))
    ]

counted-most : (t : DialTurn) → counted t ≤ 1
counted-most t = elim (counted-cases t) [ inl e ↦ omega (arith, e.1) | inr e ↦ omega (arith, e) ]

-- the turns of some sides are a word
word_of_sides : (sides : List Bool) (dials : List ℕ) → SidesLead sides dials
    → (w : List DialTurn) × (count_in counted w ≤ length sides) × (play dials_after dials w ≡ Some solved)
unfolding count_in
word_of_sides [] dials e = ([], omega arith, play-empty dials_after dials ∙ ap Some e)
word_of_sides (back ∷ sides) dials s =
    let t = turn_by back s.setting in
    let rest = word_of_sides sides (dials_turned dials t) s.gives in (
      t ∷ rest.0,
      omega (arith, counted-most t, rest.1),
      play-first dials_after dials (dials_turned dials t) t rest.0 (dials_after-turn dials t (is_turn-from back s.setting)) ∙ rest.2,
    )

-- a word is its counted turns of some sides
sides_of_word : (w : List DialTurn) (dials : List ℕ) → IsClock dials → play dials_after dials w ≡ Some solved
    → Leads (count_in counted w) dials
unfolding count_in
sides_of_word [] dials c e = let f : Some dials ≡ Some solved = sym (play-empty dials_after dials) ∙ e in ([], refl, (cc))
sides_of_word (t ∷ w) dials c e =
    let parts = play-parts dials_after dials solved t w e in
    let turn = dials_after-parts dials parts.0 t parts.1 in
    let rest = sides_of_word w (dials_turned dials t) (IsClock-turned dials t) (ap (λ d. play dials_after d w) turn.1 ∙ parts.2) in
    elim (counted-cases t) [
      | inl none ↦ (rest.0, omega (arith, rest.1, none.1), subst (λ (d : List ℕ). SidesLead rest.0 d) (turned-none dials t c none.0) rest.2)
      | inr once ↦ (t.back ∷ rest.0, omega (arith, rest.1, once), record { setting = setting_of t turn.0; gives = rest.2 })
    ]

-- turns by 0 may stand before others
with_none : (n : ℕ) (sides : List Bool) (dials : List ℕ) → IsClock dials → SidesLead sides dials
    → SidesLead (replicate n false ++ sides) dials
with_none zero sides dials c s = s
with_none (suc n) sides dials c s =
    let by_none : Setting = record { pins = 1; amount = 0; some_pin = lit< tt; four_pins = lit< tt; hours = lit< tt } in
    record {
      setting = by_none;
      gives = subst (λ (d : List ℕ). SidesLead (replicate n false ++ sides) d)
          (sym (turned-none dials (turn_by false by_none) c refl)) (with_none n sides dials c s);
    }

-- the test is true exactly where the minimum says so
pub needs_test-iff : (dials : List ℕ) (least : ℕ) → IsClock dials
    → (needs_test_clock dials least ≡ true) ↔ Needs clock_puzzle dials least
unfolding needs_test_clock
needs_test-iff dials zero c = (λ _ w end less e s. omega (arith, less), λ _. refl)
needs_test-iff dials (suc n) c = (
  λ h w end less e s.
      let own = sides_of_word w dials c (e ∙ ap Some s) in
      let more = n - count_in counted w in
      let long : length (replicate more false ++ own.0) ≡ n = omega
      (arith, own.1, less, length-append (replicate more false) own.0, length-replicate more false) in
      both_ways (turns_lead n dials) (not-true (turns_lead n dials) h)
      (ap (λ k. turns_lead k dials) (sym long)
      ∙ turns_lead-from (replicate more false ++ own.0) dials (with_none more own.0 dials c own.2)),
  λ needs. elim (cases_Bool (turns_lead n dials)) [
    | inl e ↦ (let led = turns_lead-gives n dials c e in
        let w = word_of_sides led.0 dials led.2 in absurd (needs w.0 solved (omega (arith, w.1, led.1)) w.2 refl))
    | inr e ↦ ap not e
  ],
)
