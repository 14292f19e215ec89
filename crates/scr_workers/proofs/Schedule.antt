-- Each slot of a complete schedule is claimed exactly once.
use Rattle.std.proofs.Common.{◌≡◌, ◌≢◌, ℕ, zero, suc, ◌+◌, ◌<◌, ◌≤◌, List, [], ◌∷◌, length, refl, sym, ap, ◌∙◌, subst}
use Rattle.std.proofs.Common.{arith, Bool, true, false}
use Rattle.std.specs.Prelude.{All, cond, nat_eq}
use Rattle.std.proofs.lemmas.Bool.Decides.{nat_tests}
use Rattle.std.proofs.lemmas.List.Elements.{All-head, All-tail, All-nil, All-cons, All-weaker}
use mathlib.Core.Logic.{dite}
use native.Mathlib.Decide.{ℕ_discrete}
use Rattle.scr_workers.specs.Rule.{weigh_below}
use Rattle.scr_workers.specs.Gather.{only, times}
use Rattle.scr_workers.specs.Schedules.{claims_from, claims_of, EachIsClaimedOnce}
use Rattle.scr_workers.proofs.Places.{only-same, only-other, All-push'}

weigh_below-same : (f g : ℕ → ℕ) (w : ℕ) → ((s : ℕ) → f s ≡ g s) → weigh_below f w ≡ weigh_below g w
weigh_below-same f g zero same = refl
weigh_below-same f g (suc w) same = let r = weigh_below-same f g w same in let e = same w in omega arith

weigh_below-add : (f g : ℕ → ℕ) (w : ℕ) → weigh_below (λ s. f s + g s) w ≡ weigh_below f w + weigh_below g w
weigh_below-add f g zero = refl
weigh_below-add f g (suc w) = let r = weigh_below-add f g w in omega arith

weigh_below-none : (w : ℕ) → weigh_below (λ s. 0) w ≡ 0
weigh_below-none zero = refl
weigh_below-none (suc w) = let r = weigh_below-none w in omega arith

-- a for one seat alone
abbrev at : ℕ → ℕ → ℕ → ℕ
at s a seat = cond (nat_eq s seat) a 0

at-same : (s a : ℕ) → at s a s ≡ a
at-same s a = grind (arith, nat_tests)

at-other : (s a seat : ℕ) → s ≢ seat → at s a seat ≡ 0
at-other s a seat other = grind (arith, nat_tests)

weigh_below-past : (s a w : ℕ) → w ≤ s → weigh_below (at s a) w ≡ 0
weigh_below-past s a zero past = refl
weigh_below-past s a (suc w) past = grind (arith, at-other, weigh_below-past s a w (omega arith))

weigh_below-at : (s a w : ℕ) → s < w → weigh_below (at s a) w ≡ a
weigh_below-at s a zero below = absurd (omega arith)
weigh_below-at s a (suc w) below =
    dite (ℕ_discrete s w)
    (λ is. let r = weigh_below-past s a w (omega arith) in
    let e : at s a w ≡ a = subst (λ j. at s a j ≡ a) is (at-same s a) in omega arith)
    (λ other. let r = weigh_below-at s a w (omega arith) in let e = at-other s a w other in omega arith)

times-claims : (slot k seat s : ℕ) (ss : List ℕ)
    → times slot (claims_from k seat (s ∷ ss)) ≡ at s (only slot k) seat + times slot (claims_from (suc k) seat ss)
times-claims slot k seat s ss = by (nat_eq s seat)
  where
    by : (b : Bool)
        → times slot (cond b (k ∷ claims_from (suc k) seat ss) (claims_from (suc k) seat ss))
        ≡ cond b (only slot k) 0 + times slot (claims_from (suc k) seat ss)
    by true = refl
    by false = omega arith

abbrev together : ℕ → ℕ → ℕ → List ℕ → ℕ
together w slot k ss = weigh_below (λ seat. times slot (claims_from k seat ss)) w

together-cons : (w slot k s : ℕ) (ss : List ℕ) → s < w
    → together w slot k (s ∷ ss) ≡ only slot k + together w slot (suc k) ss
together-cons w slot k s ss below =
    weigh_below-same (λ seat. times slot (claims_from k seat (s ∷ ss)))
    (λ seat. at s (only slot k) seat + times slot (claims_from (suc k) seat ss)) w (λ seat. times-claims slot k seat s ss)
    ∙ (weigh_below-add (at s (only slot k)) (λ seat. times slot (claims_from (suc k) seat ss)) w
    ∙ ap (λ n. n + together w slot (suc k) ss) (weigh_below-at s (only slot k) w below))

passed : (w slot k : ℕ) (ss : List ℕ) → All (λ s. s < w) ss → slot < k → together w slot k ss ≡ 0
passed w slot k [] seats past = weigh_below-none w
passed w slot k (s ∷ ss) seats past =
    let more = passed w slot (suc k) ss (All-tail (λ s. s < w) s ss seats) (omega arith) in
    grind (arith, together-cons, All-head, All-tail, only-other)

comes : (w slot k : ℕ) (ss : List ℕ) → All (λ s. s < w) ss → k ≤ slot → slot < k + length ss → together w slot k ss ≡ 1
comes w slot k [] seats from to = absurd (omega arith)
comes w slot k (s ∷ ss) seats from to =
    let cons = together-cons w slot k s ss (All-head (λ s. s < w) s ss seats) in
    let others = All-tail (λ s. s < w) s ss seats in
    dite (ℕ_discrete k slot)
    (λ is. let r = passed w slot (suc k) ss others (omega arith) in
    let e : only slot k ≡ 1 = subst (λ j. only slot j ≡ 1) (sym is) (only-same slot) in omega arith)
    (λ other. let r = comes w slot (suc k) ss others (omega arith) (omega arith) in
    let e = only-other slot k other in omega arith)

within-cons : (k n : ℕ) (rest : List ℕ) → All (λ x. x < suc k + n) rest → (b : Bool)
    → All (λ x. x < k + suc n) (cond b (k ∷ rest) rest)
within-cons k n rest below true = grind (arith, All-weaker, All-cons)
within-cons k n rest below false = All-weaker (λ x. x < suc k + n) (λ x. x < k + suc n) (λ x h. omega arith) rest below

-- a claim is a place of the schedule
within : (k seat : ℕ) (ss : List ℕ) → All (λ x. x < k + length ss) (claims_from k seat ss)
within k seat [] = All-nil (λ x. x < k + 0)
within k seat (s ∷ ss) = grind (arith, within-cons, within (suc k) seat ss)

pub each_once : EachIsClaimedOnce
each_once w n schedule is ended slot below =
    let end = ended 0 is.some_seat in
    let Within : ℕ → Type 0 = λ x. x < 0 + length schedule in
    let all = within 0 0 schedule in
    let last = (All-push' Within (claims_of 0 schedule) end.earlier end.last end.claims_are all).1 in
    let past = end.last_is in
    comes w slot 0 schedule is.seats (omega arith) (omega arith)
