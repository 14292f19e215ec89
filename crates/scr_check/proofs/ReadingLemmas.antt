-- One call of a reader after another.
use Rattle.std.proofs.Common.{◌≡◌, ℕ, true, false, Option, List, [], ◌++◌, sym, ap, ◌∙◌, inl, inr, ◌⊎◌, arith}
use Rattle.std.proofs.lemmas.Bool.{false≢true, cases_Bool}
use Rattle.scr_outside.specs.Change.{TellsEnd}
use Rattle.scr_outside.proofs.BytesLemmas.{put_back-append}
use Rattle.scr_outside.proofs.ChangeLemmas.{Gives-nothing, Gives-append}
use Rattle.scr_check.specs.Reading.{Reading, reading_change, Takes, StopsShort}

module _ {S : Type 0} (left : S → Option (List ℕ)) (faults ends : S → ℕ) where
  pub Takes-none : (reader : Reading S) → Takes left faults ends reader reader []
  Takes-none reader = grind (arith, Gives-nothing, false≢true)

  no_end-append : (a b c : Reading S) (xs ys : List ℕ) → Takes left faults ends a b xs → Takes left faults ends b c ys →
      c.ended ≡ false → (b.ended ≡ true) ⊎ (b.ended ≡ false) → ends c.source ≡ ends a.source
  no_end-append a b c xs ys first second unended (inl ended) =
      absurd (false≢true (sym unended ∙ ap (λ (r : Reading S). r.ended) (second.nothing_behind ended).0 ∙ ended))
  no_end-append a b c xs ys first second unended (inr before) = second.no_end unended ∙ first.no_end before

  end-append : (a b c : Reading S) (xs ys : List ℕ) → Takes left faults ends a b xs → Takes left faults ends b c ys →
      a.ended ≡ false → c.ended ≡ true → (b.ended ≡ true) ⊎ (b.ended ≡ false) →
      TellsEnd (reading_change left faults ends a c) × (c.ahead ≡ [])
  end-append a b c xs ys first second unended ended (inl earlier) = grind arith
  end-append a b c xs ys first second unended ended (inr before) = grind arith

  nothing-append : (a b c : Reading S) (xs ys : List ℕ) → Takes left faults ends a b xs → Takes left faults ends b c ys →
      a.ended ≡ true → (c ≡ a) × (xs ++ ys ≡ [])
  nothing-append a b c xs ys first second ended = grind arith

  pub Takes-append : {a b c : Reading S} {xs ys : List ℕ} → Takes left faults ends a b xs → Takes left faults ends b c ys →
      Takes left faults ends a c (xs ++ ys)
  Takes-append {a} {b} {c} {xs} {ys} first second = record {
    gives = Gives-append first.gives second.gives;
    no_end = λ unended. no_end-append a b c xs ys first second unended (cases_Bool b.ended);
    end = λ unended ended. end-append a b c xs ys first second unended ended (cases_Bool b.ended);
    nothing_behind = λ ended. nothing-append a b c xs ys first second ended;
  }

  open-before : (a b : Reading S) (xs : List ℕ) → Takes left faults ends a b xs → b.ended ≡ false →
      (a.ended ≡ true) ⊎ (a.ended ≡ false) → a.ended ≡ false
  open-before a b xs takes unended (inl ended) =
      absurd (false≢true (sym unended ∙ ap (λ (r : Reading S). r.ended) (takes.nothing_behind ended).0 ∙ ended))
  open-before a b xs takes unended (inr before) = before

  pub StopsShort-after : {a b c : Reading S} {xs ys : List ℕ} → Takes left faults ends a b xs →
      StopsShort left faults ends b c ys → StopsShort left faults ends a c (xs ++ ys)
  StopsShort-after {a} {b} {c} {xs} {ys} first second = grind (arith, put_back-append, open-before, cases_Bool)
