-- It makes no difference by which listing of numbered states these are drawn.
use Rattle.std.proofs.Common.{◌≡◌, ℕ, zero, suc, ◌*◌, ◌%◌, ◌<◌, ◌≤◌, Bool, true, false, ◌&&◌, List, Option, Some, None, refl, sym, ap, ◌∙◌, subst, arith}
use Rattle.std.proofs.lemmas.Bool.{ltb-true}
use Rattle.std.proofs.Math.Nat.{mul-zero}
use Rattle.std.specs.Prelude.{IsTrue, ◌↔◌, if◌then◌else◌}
use Rattle.scr_combinatorics.specs.Numbered.{Numbered, Numbers, numbers_of}
use Rattle.scr_combinatorics.specs.Numbering.{IsOneToOne, IsNumbering}
use Rattle.scr_combinatorics.specs.Reach.{Puzzle, Needs, IsPermitted}
use Rattle.scr_combinatorics.proofs.Numberings.{only_one}
use Rattle.scr_draw.specs.Attempt.{is_accepted, quotient}
use Rattle.scr_draw.specs.Drawn.{drawn, hit}
use Rattle.scr_draw.specs.Fair.{IsFair}
use Rattle.scr_draw.specs.StateSpace.{StateSpace, space_of, TellsNeed, Draws, IsFairFor}
use Rattle.scr_draw.proofs.Outcomes.{Draws-one}
use Rattle.scr_slots.specs.Slots.{ByListing}
use Rattle.scr_slots.specs.Outcomes.{HaveOneListing}

-- no number is below a multiple of 0
some_below : (q count v : ℕ) → v < q * count → 0 < count
some_below q zero v below = let none = mul-zero q in absurd (omega (arith, none, below))
some_below q (suc count) v below = omega arith

module _ {S : Type 0} (n : Numbers S) (puzzle : Puzzle S) where
  abbrev listed : (ℕ → S) → StateSpace S
  listed state_at = record { count = n.count; state_at = state_at; puzzle = puzzle }

  abbrev IsListing : (ℕ → S) → Type 0
  IsListing state_at = IsOneToOne n.count state_at n.number_of n.IsValid

  module _ (one other : ℕ → S) (first : IsListing one) (second : IsListing other) where
    pub listings-alike : (i : ℕ) → i < n.count → one i ≡ other i
    listings-alike i below = sym (only_one second i (other i) (one i) refl (first.valid i below) (first.number_again i below))

    accepted-alike : (v : ℕ) → IsTrue (is_accepted n.count v) → one (v % n.count) ≡ other (v % n.count)
    accepted-alike v accepted =
        let some = some_below (quotient n.count) n.count v (ltb-true v (quotient n.count * n.count) accepted) in
        listings-alike (v % n.count) (omega arith)

    -- numbers hit alike
    hit_by : (test : S → Bool) (v : ℕ) (accepted : Bool) → is_accepted n.count v ≡ accepted
        → hit n.count one test v ≡ hit n.count other test v
    hit_by test v true e = ap (λ s. if is_accepted n.count v && test s then Some s else None) (accepted-alike v e)
    hit_by test v false e = rw e refl

    hits-alike : (test : S → Bool) → hit n.count one test ≡ hit n.count other test
    hits-alike test = λ i. λ v. hit_by test v (is_accepted n.count v) refl i

    tells-alike : (least : ℕ) (test : S → Bool) → TellsNeed (listed one) least test
        → TellsNeed (listed other) least test
    tells-alike least test tells =
        λ i below. subst (λ s. IsTrue (test s) ↔ Needs puzzle s least) (listings-alike i below) (tells i below)

    pub Draws-alike : (least : ℕ) (values : List ℕ) (outcome : Option S) → Draws (listed one) least values outcome
        → Draws (listed other) least values outcome
    Draws-alike least values outcome draws = record {
      test = draws.test;
      tells = tells-alike least draws.test draws.tells;
      drawn_is = ap (λ hits. drawn hits values) (sym (hits-alike draws.test)) ∙ draws.drawn_is;
    }

    pub IsFairFor-alike : (least : ℕ) → IsFairFor (listed one) least → IsFairFor (listed other) least
    IsFairFor-alike least fair =
        let P : (ℕ → Option S) → Type 0 = λ hits. IsFair n.count one hits (IsPermitted puzzle least) in
        let same = subst P (hits-alike fair.test) fair.fair in
        record {
          test = fair.test;
          tells = tells-alike least fair.test fair.tells;
          fair = record {
            some = same.some;
            equally = λ s permitted.
                let all = same.equally s permitted in record {
                  test = all.test;
                  tells = λ v below. (
                    λ h. let parts = (all.tells v below).0 h in (parts.0, sym (accepted-alike v parts.0) ∙ parts.1),
                    λ h. (all.tells v below).1 (h.0, accepted-alike v h.0 ∙ h.1),
                  );
                  counted = all.counted;
                };
            hit_equally = same.hit_equally;
            permitted = same.permitted;
            misses = same.misses;
            missed = same.missed;
            same_ways = same.same_ways;
          };
        }

  -- So numbers have one outcome.
  abbrev pub IsOutcome : ℕ → List ℕ → Option S → Type 0
  IsOutcome least values outcome = ByListing n puzzle (λ space. Draws space least values outcome)

  pub one-outcome : (least : ℕ) → 1 ≤ n.count → (values : List ℕ) (some other : Option S) → IsOutcome least values some
      → IsOutcome least values other → some ≡ other
  one-outcome least count values some other first second =
      Draws-one (listed second.state_at) least count values some other
      (Draws-alike first.state_at second.state_at first.listing second.listing least values some first.is) second.is

-- what is so by a numbering's own listing
pub by-numbering : {S : Type 0} {n : Numbered S} {puzzle : Puzzle S} {Is : StateSpace S → Type 0} → IsNumbering n
    → Is (space_of n puzzle) → ByListing (numbers_of n) puzzle Is
by-numbering {n = n} numbering is = record { state_at = n.state_at; listing = numbering.one_to_one; is = is }

-- And states that are numbered one to one have one listing.
pub HaveOneListing-numbered : {S : Type 0} (n : Numbered S) (puzzle : Puzzle S) → IsNumbering n
    → HaveOneListing (numbers_of n) puzzle
HaveOneListing-numbered n puzzle numbering = record {
  some = by-numbering numbering tt;
  alike = λ one first other second. listings-alike (numbers_of n) puzzle one other first second;
  draws = λ least values outcome by other second.
      Draws-alike (numbers_of n) puzzle by.state_at other by.listing second least values outcome by.is;
  fair = λ least by other second. IsFairFor-alike (numbers_of n) puzzle by.state_at other by.listing second least by.is;
}
