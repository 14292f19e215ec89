-- Words that meet in the middle, where turns can be taken back.
use Rattle.std.proofs.Common.{◌≡◌, ℕ, zero, suc, ◌+◌, ◌≤◌, List, [], ◌∷◌, ◌++◌, length, Option, Some, ◌∙◌, arith}
use Rattle.std.specs.Prelude.{◌↔◌, map}
use Rattle.std.proofs.lemmas.List.{length-map, length-append, length-reverse}
use Rattle.scr_combinatorics.specs.Play.{play}
use Rattle.scr_combinatorics.specs.Back.{back, IsTakenBack}
use Rattle.scr_combinatorics.specs.Reach.{Puzzle}
use Rattle.scr_combinatorics.proofs.PlayLaws.{play-empty, play-first, play-parts, play-append}
use Rattle.scr_sq1far.specs.Within.{IsWithin, MeetsInTheMiddle}

length-back : {T : Type 0} (opposite : T → T) (w : List T) → length (back opposite w) ≡ length w
length-back opposite w = length-reverse (map opposite w) ∙ length-map w opposite

-- a word in two parts, of which the first has at most so many turns
record IsSplit {S T : Type 0} (after : S → T → Option S) (s end : S) (few more : ℕ) : Type 0 where
  pub first : List T
  pub rest : List T
  pub middle : S
  pub short : length first ≤ few
  pub others : length rest ≤ more
  pub leads : play after s first ≡ Some middle
  pub ends : play after middle rest ≡ Some end

split : {S T : Type 0} (after : S → T → Option S) (s end : S) (w : List T) (few more : ℕ) → length w ≤ few + more
    → play after s w ≡ Some end → IsSplit after s end few more
split after s end w zero more le e =
    record { first = []; rest = w; middle = s; short = omega arith; others = omega arith; leads = play-empty after s; ends = e }
split after s end [] (suc few) more le e =
    record { first = []; rest = []; middle = s; short = omega arith; others = omega arith; leads = play-empty after s; ends = e }
split after s end (t ∷ w) (suc few) more le e =
    let parts = play-parts after s end t w e in
    let h = split after parts.0 end w few more (omega arith) parts.2 in
    record {
      first = t ∷ h.first;
      rest = h.rest;
      middle = h.middle;
      short = omega (arith, h.short);
      others = h.others;
      leads = play-first after s parts.0 t h.first parts.1 ∙ h.leads;
      ends = h.ends;
    }

module _ {S : Type 0} (p : Puzzle S) (opposite : p.Turn → p.Turn) (IsValid : S → Type 0)
    (keeps : (s r : S) (w : List p.Turn) → IsValid s → play p.after s w ≡ Some r → IsValid r)
    (home : (s : S) → p.IsSolved s → IsValid s) (back_again : IsTakenBack p.after opposite IsValid) where
  pub meeting : (s : S) (a b : ℕ) → IsValid s → IsWithin p s (a + b) ↔ MeetsInTheMiddle p s a b
  meeting s a b valid = (
    λ h.
        let two = split p.after s h.1 h.0 a b h.2 h.3 in
        let word = back opposite two.rest in
        (two.first, two.middle, two.short, two.leads, (word, h.1, omega (arith, two.others, length-back opposite two.rest), back_again two.middle h.1 two.rest (keeps s two.middle two.first valid two.leads) two.ends, h.4)),
    λ m.
        let r = m.4 in
        let word = back opposite r.0 in
        (m.0 ++ word, r.1, omega (arith, m.2, r.2, length-append m.0 word, length-back opposite r.0), play-append p.after s m.1 m.0 word m.3 ∙ back_again r.1 m.1 r.0 (home r.1 r.4) r.3, r.4),
  )
