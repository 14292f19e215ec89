use Rattle.std.proofs.Common.{zero, suc, ◌<◌, [], ◌∷◌, refl, arith, lit<, lit≤}
use Rattle.std.proofs.lemmas.List.Elements.{All-nil, All-cons}
use Rattle.scr_workers.specs.Schedules.{IsComplete}
use Rattle.scr_workers.proofs.laws.known_schedules.Goals as goal

complete-one : IsComplete 1 1 (0 ∷ 0 ∷ [])
complete-one zero below = record {
  earlier = 0 ∷ [];
  last = 1;
  claims_are = refl;
  last_is = lit≤ tt;
  below = All-cons (λ number. number < 1) 0 [] (lit< tt) (All-nil (λ number. number < 1));
}
complete-one (suc seat) below = absurd (omega arith)

complete-two : IsComplete 2 2 (0 ∷ 1 ∷ 1 ∷ 0 ∷ [])
complete-two zero below = record {
  earlier = 0 ∷ [];
  last = 3;
  claims_are = refl;
  last_is = lit≤ tt;
  below = All-cons (λ number. number < 2) 0 [] (lit< tt) (All-nil (λ number. number < 2));
}
complete-two (suc zero) below = record {
  earlier = 1 ∷ [];
  last = 2;
  claims_are = refl;
  last_is = lit≤ tt;
  below = All-cons (λ number. number < 2) 1 [] (lit< tt) (All-nil (λ number. number < 2));
}
complete-two (suc (suc seat)) below = absurd (omega arith)

pub returns-clause-of_one : goal.returns-clause-of_one
returns-clause-of_one c = complete-one

pub returns-clause-of_two : goal.returns-clause-of_two
returns-clause-of_two c = complete-two
