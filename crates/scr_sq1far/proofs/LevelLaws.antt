-- Levels that are found one after another.
use Rattle.std.proofs.Common.{◌≡◌, ℕ, zero, suc, ◌+◌, ◌<◌, ◌≤◌, List, [], ◌∷◌, length, Some, Option, refl, sym, ap, ◌∙◌, subst, arith}
use Rattle.std.specs.Prelude.{slice_index_or, nat_le}
use Rattle.std.proofs.Common.{None, IsTrue, Bool, true, false, cond, ◌++◌, eqb-true}
use Rattle.std.specs.Prelude.{◌==◌}
use Rattle.std.specs.Option.{is_some}
use Rattle.std.proofs.Math.ListN.{get_or-append}
use Rattle.std.proofs.Math.Seq.{get_or-append_seam}
use Rattle.std.proofs.lemmas.List.{length-append, get_or_default}
use Rattle.scr_combinatorics.specs.Reach.{Needs}
use Rattle.std.proofs.Common.{inl, inr, Result, Ok, Err, OnOk}
use Rattle.std.specs.Result.{is_err}
use Rattle.std.proofs.lemmas.Bool.{cases_lt, le-leb, leb-true, false≢true}
use Rattle.scr_combinatorics.specs.Play.{play}
use Rattle.scr_combinatorics.proofs.PlayLaws.{play-empty, play-parts, Needs-zero}
use Rattle.scr_notation.specs.declared.turn.Turn.{Turn}
use Rattle.scr_notation.specs.Turning.{opposite}
use Rattle.scr_notation.specs.TurnNumbers.{layer_turn_at}
use Rattle.scr_sq1.specs.Units.{Sq1State, IsSq1, solved_sq1, sq1_after, sq1_puzzle}
use Rattle.scr_sq1.proofs.Lawful.{IsLawful-sq1}
use Rattle.scr_sq1.proofs.NumberedTurns.{number-after}
use Rattle.scr_sq1far.proofs.Counted.{count_once}
use Rattle.scr_sq1far.specs.Within.{IsWithin}
use Rattle.scr_sq1far.specs.Levels.{key_of, is_at_least, TellNeeds, HasLevel, AreTold, AreLevels, IsListed, AreListed, Grows, AreTurnsListed}
use Rattle.scr_sq1far.proofs.KeyLaws.{key-same}
use Rattle.scr_sq1far.proofs.WithinLaws.{IsWithin-more, Needs-iff}

pub Grows-same : (f : ℕ → Option ℕ) (states : List Sq1State) → Grows f states f states
Grows-same f states = record { kept = λ key level e. e; longer = omega arith; same = λ k lt. refl }

pub Grows-both : (f g h : ℕ → Option ℕ) (xs ys zs : List Sq1State) → Grows f xs g ys → Grows g ys h zs → Grows f xs h zs
Grows-both f g h xs ys zs a b = record {
  kept = λ key level e. b.kept key level (a.kept key level e);
  longer = omega (arith, a.longer, b.longer);
  same = λ k lt. b.same k (omega (arith, a.longer, lt)) ∙ a.same k lt;
}

pub HasLevel-kept : (most : ℕ) (f g : ℕ → Option ℕ) (key : ℕ)
    → ((k level : ℕ) → f k ≡ Some level → g k ≡ Some level) → HasLevel most f key → HasLevel most g key
HasLevel-kept most f g key kept h = (h.0, h.1, kept key h.0 h.2)

-- a state that has a level stands in the list
pub listed-state : (most level : ℕ) (f : ℕ → Option ℕ) (states : List Sq1State) (s : Sq1State) → AreListed most f states
    → IsSq1 s → f (key_of s) ≡ Some level
    → (k : ℕ) × (k < length states) × (slice_index_or states k solved_sq1 ≡ s) × IsWithin sq1_puzzle s level
listed-state most level f states s listed valid e =
    let l = listed.keys (key_of s) level e in
    let same = key-same (slice_index_or states l.place solved_sq1) s l.valid valid l.is in
    (l.place, l.inside, same, subst (λ q. IsWithin sq1_puzzle q level) same l.within)

-- the list may have more
pub IsListed-more : (most more key level : ℕ) (f g : ℕ → Option ℕ) (xs ys : List Sq1State) → most ≤ more
    → Grows f xs g ys → IsListed most key level xs → IsListed more key level ys
IsListed-more most more key level f g xs ys le grows l =
    let same = sym (grows.same l.place l.inside) in
    record {
      place = l.place;
      inside = omega (arith, l.inside, grows.longer);
      valid = subst IsSq1 same l.valid;
      is = subst (λ q. key_of q ≡ key) same l.is;
      within = subst (λ q. IsWithin sq1_puzzle q level) same l.within;
      low = omega (arith, l.low);
    }

pub AreListed-later : (most more : ℕ) (f : ℕ → Option ℕ) (xs : List Sq1State) → most ≤ more → AreListed most f xs
    → AreListed more f xs
AreListed-later most more f xs le h = record {
  keys = λ key level e. IsListed-more most more key level f f xs xs le (Grows-same f xs) (h.keys key level e);
  near = λ k lt. IsWithin-more sq1_puzzle (slice_index_or xs k solved_sq1) most more le (h.near k lt);
}

-- no key has a level, and no state is listed
pub AreListed-none : (most : ℕ) (f : ℕ → Option ℕ) (xs : List Sq1State) → ((key : ℕ) → f key ≡ None) → length xs ≡ 0
    → AreListed most f xs
AreListed-none most f xs none size = record {
  keys = λ key level e. absurd (let same : None ≡ Some level = sym (none key) ∙ e in cc);
  near = λ k lt. absurd (omega arith);
}

-- ---- turn by turn, and state by state

pub AreTurnsListed-more : (most : ℕ) (f g : ℕ → Option ℕ) (s : Sq1State) (turn : ℕ)
    → ((key level : ℕ) → f key ≡ Some level → g key ≡ Some level) → AreTurnsListed most f s turn
    → ((r : Sq1State) → sq1_after s (layer_turn_at turn) ≡ Some r → HasLevel most g (key_of r))
    → AreTurnsListed most g s (turn + 1)
AreTurnsListed-more most f g s turn kept h here = λ n r lt e. elim (cases_lt n turn) [
  | inl less ↦ HasLevel-kept most f g (key_of r) kept (h n r less e)
  | inr le ↦
      let is : n ≡ turn = omega arith in
      here r (ap (λ k. sq1_after s (layer_turn_at k)) (sym is) ∙ e)
]

pub each_state-more : (most : ℕ) (f g : ℕ → Option ℕ) (xs : List Sq1State) (s : Sq1State) (place : ℕ)
    → ((key level : ℕ) → f key ≡ Some level → g key ≡ Some level)
    → ((k : ℕ) → k < place → AreTurnsListed most f (slice_index_or xs k solved_sq1) 144)
    → s ≡ slice_index_or xs place solved_sq1 → AreTurnsListed most g s 144
    → (k : ℕ) → k < place + 1 → AreTurnsListed most g (slice_index_or xs k solved_sq1) 144
each_state-more most f g xs s place kept h is here = λ k lt. elim (cases_lt k place) [
  | inl less ↦ λ n r few e. HasLevel-kept most f g (key_of r) kept (h k less n r few e)
  | inr le ↦
      let same : place ≡ k = omega arith in
      subst (λ q. AreTurnsListed most g q 144) (is ∙ ap (λ i. slice_index_or xs i solved_sq1) same) here
]

-- a state of a list that grew
pub state-kept : (f g : ℕ → Option ℕ) (xs ys : List Sq1State) (s : Sq1State) (place : ℕ) → Grows f xs g ys
    → place < length xs → s ≡ slice_index_or ys place s → s ≡ slice_index_or xs place solved_sq1
state-kept f g xs ys s place grows lt is =
    is ∙ get_or_default ys place s solved_sq1 (omega (arith, grows.longer)) ∙ grows.same place lt

-- ---- the next level

-- Each state to which a turn leads from one that was listed has a level now: so there is one for each state that is one
-- turn further away.
pub AreLevels-next : (most next : ℕ) (f g : ℕ → Option ℕ) (xs ys : List Sq1State) → next ≡ suc most → AreLevels most f
    → AreListed most f xs → Grows f xs g ys → AreListed next g ys
    → ((k : ℕ) → k < length xs → AreTurnsListed next g (slice_index_or xs k solved_sq1) 144) → AreLevels next g
AreLevels-next most next f g xs ys is levels listed grows now each = record {
  sound = λ s level valid e. (listed-state next level g ys s now valid e).3;
  least = least;
}
  where
    far : (s : Sq1State) (w : List Turn) (end : Sq1State) → IsSq1 s → length w ≤ next → play sq1_after s w ≡ Some end
        → end ≡ solved_sq1 → HasLevel next g (key_of s)
    far s [] end valid le e home =
        let h : HasLevel 0 f (key_of s) = levels.least s 0 valid (omega arith) ([], end, omega arith, e, home) in
        (h.0, omega (arith, h.1), grows.kept (key_of s) h.0 h.2)
    far s (t ∷ w) end valid le e home =
        let parts = play-parts sq1_after s end t w e in
        let r : Sq1State = parts.0 in
        let vr = IsLawful-sq1.keeps s r t valid parts.1 in
        let near : HasLevel most f (key_of r) = levels.least r most vr (omega arith) (w, end, omega arith, parts.2, home) in
        let at = listed-state most near.0 f xs r listed vr near.2 in
        let back : sq1_after r (opposite t) ≡ Some s = IsLawful-sq1.undoes s r t valid parts.1 in
        let n = number-after r s (opposite t) back in
        each at.0 at.1 n.0 s n.1 (ap (λ q. sq1_after q (layer_turn_at n.0)) at.2 ∙ ap (sq1_after r) n.2 ∙ back)

    least : (s : Sq1State) (few : ℕ) → IsSq1 s → few ≤ next → IsWithin sq1_puzzle s few → HasLevel few g (key_of s)
    least s few valid le h = elim (cases_lt most few) [
      | inl lt ↦
          let all = far s h.0 h.1 valid (omega (arith, h.2)) h.3 h.4 in
          (all.0, omega (arith, all.1), all.2)
      | inr short ↦ HasLevel-kept few f g (key_of s) grows.kept (levels.least s few valid short h)
    ]

-- the first level is that of solved
pub AreLevels-first : (f : ℕ → Option ℕ) (xs : List Sq1State) → AreListed 0 f xs → HasLevel 0 f (key_of solved_sq1)
    → AreLevels 0 f
AreLevels-first f xs listed h = record {
  sound = λ s level valid e. (listed-state 0 level f xs s listed valid e).3;
  least = λ s few valid le within. home s few within.0 within.1 (omega (arith, within.2)) within.3 within.4;
}
  where
    home : (s : Sq1State) (few : ℕ) (w : List Turn) (end : Sq1State) → length w ≤ 0 → play sq1_after s w ≡ Some end
        → end ≡ solved_sq1 → HasLevel few f (key_of s)
    home s few [] end none e is =
        let same : s ≡ end = (let d = play-empty sq1_after s in cc) in
        (h.0, omega (arith, h.1), ap (λ q. f (key_of q)) (same ∙ is) ∙ h.2)
    home s few (t ∷ w) end none e is = absurd (omega arith)

-- ---- what levels tell

too_low : (most level : ℕ) → IsTrue (nat_le (suc most) level) → level ≤ most → ⊥
too_low most level t low = let high = leb-true (suc most) level t in omega arith

high_enough : (s : Sq1State) (least : ℕ) (o : Option ℕ) → ((level : ℕ) → o ≡ Some level → IsWithin sq1_puzzle s level)
    → Needs sq1_puzzle s least → IsTrue (is_at_least least o)
high_enough s least None sound needs = refl
high_enough s least (Some level) sound needs = elim (cases_lt level least) [
  | inl lt ↦
      let within = sound level refl in
      absurd (needs within.0 within.1 (omega (arith, lt, within.2, count_once within.0)) within.3 within.4)
  | inr ge ↦ le-leb least level ge
]

needed : (reach : ℕ) (f : ℕ → Option ℕ) (s : Sq1State) (least : ℕ) → AreLevels reach f → IsSq1 s → least ≤ suc reach
    → IsTrue (is_at_least least (f (key_of s))) → Needs sq1_puzzle s least
needed reach f s zero levels valid le t = Needs-zero sq1_puzzle s
needed reach f s (suc most) levels valid le t =
    (Needs-iff s (suc most) most refl).1
    (λ within.
    let h = levels.least s most valid (omega arith) within in
    too_low most h.0 (subst (λ o. IsTrue (is_at_least (suc most) o)) h.2 t) h.1)

pub TellNeeds-levels : (reach : ℕ) (f : ℕ → Option ℕ) → AreLevels reach f → TellNeeds (suc reach) f
TellNeeds-levels reach f levels = λ s least valid le. (
  λ t. needed reach f s least levels valid le t,
  λ needs. high_enough s least (f (key_of s)) (λ level e. levels.sound s level valid e) needs,
)

-- ---- a state that is added

Grows-pushed : (f : ℕ → Option ℕ) (xs : List Sq1State) (s : Sq1State) → Grows f xs f (xs ++ s ∷ [])
Grows-pushed f xs s = record {
  kept = λ key level e. e;
  longer = omega (arith, length-append xs (s ∷ []));
  same = λ k lt. get_or-append xs (s ∷ []) solved_sq1 k lt;
}

-- where it has a level already
pub HasLevel-listed : (most : ℕ) (f : ℕ → Option ℕ) (xs : List Sq1State) (key k : ℕ) → AreListed most f xs → k ≡ key
    → IsTrue (is_some (f k)) → HasLevel most f key
HasLevel-listed most f xs key k listed same some =
    of_level most f xs key listed (f key) refl (subst (λ i. IsTrue (is_some (f i))) same some)
  where
    of_level : (most : ℕ) (f : ℕ → Option ℕ) (xs : List Sq1State) (key : ℕ) → AreListed most f xs → (o : Option ℕ)
        → f key ≡ o → IsTrue (is_some o) → HasLevel most f key
    of_level most f xs key listed None e h = absurd (false≢true h)
    of_level most f xs key listed (Some level) e h = (level, (listed.keys key level e).low, e)

-- and where it gets one
pub AreListed-added : (most : ℕ) (f g : ℕ → Option ℕ) (xs : List Sq1State) (s : Sq1State) → AreListed most f xs → IsSq1 s
    → IsWithin sq1_puzzle s most
    → ((key : ℕ) → g key ≡ cond (key_of s == key) (Some most) (f key)) → AreListed most g (xs ++ s ∷ [])
AreListed-added most f g xs s listed valid near is = record {
  keys = λ key level e. of_key key level (key_of s == key) refl (sym (is key) ∙ e);
  near = λ k lt. elim (cases_lt k (length xs)) [
    | inl less ↦
        subst (λ q. IsWithin sq1_puzzle q most) (sym (get_or-append xs (s ∷ []) solved_sq1 k less)) (listed.near k less)
    | inr le ↦
        let last : length xs ≡ k = omega (arith, length-append xs (s ∷ [])) in
        subst (λ q. IsWithin sq1_puzzle q most) (sym own ∙ ap (λ i. slice_index_or (xs ++ s ∷ []) i solved_sq1) last) near
  ];
}
  where
    own : slice_index_or (xs ++ s ∷ []) (length xs) solved_sq1 ≡ s
    own = get_or-append_seam xs s [] solved_sq1

    of_key : (key level : ℕ) (b : Bool) → (key_of s == key) ≡ b
        → (let o : Option ℕ = cond b (Some most) (f key) in o ≡ Some level) → IsListed most key level (xs ++ s ∷ [])
    of_key key level true same e =
        let value : most ≡ level = cc in
        record {
          place = length xs;
          inside = omega (arith, length-append xs (s ∷ []));
          valid = subst IsSq1 (sym own) valid;
          is = ap key_of own ∙ eqb-true (key_of s) key same;
          within = subst (λ q. IsWithin sq1_puzzle q level) (sym own) (subst (IsWithin sq1_puzzle s) value near);
          low = omega arith;
        }
    of_key key level false other e = IsListed-more most most key level f f xs (xs ++ s ∷ []) (omega arith) (Grows-pushed f xs s) (listed.keys key level e)

-- ---- results

pub of_on_ok : {A E P : Type 0} (r : Result A E) → is_err r ≡ false → OnOk r P → P
of_on_ok (Ok v) e h = h
of_on_ok (Err x) e h = absurd (cc)

pub on_ok-map : {A E P Q : Type 0} (r : Result A E) → (P → Q) → OnOk r P → OnOk r Q
on_ok-map (Ok v) f h = f h
on_ok-map (Err x) f h = tt

pub on_ok-both : {A E : Type 0} (P Q : Type 0) (r : Result A E) → OnOk r P → OnOk r Q → OnOk r (P × Q)
on_ok-both P Q (Ok v) p q = (p, q)
on_ok-both P Q (Err x) p q = tt

-- more levels tell as much
pub AreTold-kept : (reach few : ℕ) (f g : ℕ → Option ℕ) → few ≤ reach → ((k level : ℕ) → f k ≡ Some level → g k ≡ Some level)
    → AreTold reach f → AreTold few g
AreTold-kept reach few f g le kept told s most valid low within =
    HasLevel-kept most f g (key_of s) kept (told s most valid (omega arith) within)
