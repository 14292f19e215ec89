-- Where words are defined, if a test tells which letters do something to valid states.
use Rattle.std.proofs.Common.{◌≡◌, ◌↔◌, Bool, IsTrue, IsSome, List, [], ◌∷◌, Option, Some, None, refl, sym, ◌∙◌, subst}
use Rattle.std.specs.List.{AllPass}
use Rattle.std.proofs.lemmas.Bool.{false≢true}
use Rattle.std.proofs.lemmas.List.Elements.{All-nil, All-cons, All-head, All-tail}
use Rattle.scr_combinatorics.specs.Play.{play}
use Rattle.scr_combinatorics.proofs.PlayLaws.{play-empty, play-first, play-parts}

-- A test tells which letters do something to valid states, and these keep states valid.
pub record TellsTurns {S T : Type 0} (after : S → T → Option S) (IsValid : S → Type 0) (test : T → Bool) : Type 0 where
  pub does : (s : S) (t : T) → IsValid s → IsTrue (test t) → (r : S) × (after s t ≡ Some r)
  pub only : (s r : S) (t : T) → IsValid s → after s t ≡ Some r → IsTrue (test t)
  pub keeps : (s r : S) (t : T) → IsValid s → after s t ≡ Some r → IsValid r

module _ {S T : Type 0} {after : S → T → Option S} {IsValid : S → Type 0} {test : T → Bool} (tells : TellsTurns after IsValid test) where
  -- words of such letters are defined
  pub played-turns : (s : S) (w : List T) → IsValid s → AllPass test w → (r : S) × (play after s w ≡ Some r)
  played-turns s [] valid all = (s, play-empty after s)
  played-turns s (t ∷ w) valid all =
      let first = tells.does s t valid (All-head (λ u. IsTrue (test u)) t w all) in
      let rest = played-turns first.0 w (tells.keeps s first.0 t valid first.1) (All-tail (λ u. IsTrue (test u)) t w all) in
      (rest.0, play-first after s first.0 t w first.1 ∙ rest.1)

  -- and no others
  pub turns-played : (s r : S) (w : List T) → IsValid s → play after s w ≡ Some r → AllPass test w
  turns-played s r [] valid e = All-nil (λ t. IsTrue (test t))
  turns-played s r (t ∷ w) valid e =
      let parts = play-parts after s r t w e in
      All-cons (λ u. IsTrue (test u)) t w (tells.only s parts.0 t valid parts.1)
      (turns-played parts.0 r w (tells.keeps s parts.0 t valid parts.1) parts.2)

  pub played-iff : (s : S) (w : List T) → IsValid s → IsSome (play after s w) ↔ AllPass test w
  played-iff s w valid = (
    λ some. turns (play after s w) refl some,
    λ all. (let r = played-turns s w valid all in subst IsSome (sym r.1) refl),
  )
    where
      turns : (o : Option S) → play after s w ≡ o → IsSome o → AllPass test w
      turns None e some = absurd (false≢true some)
      turns (Some r) e some = turns-played s r w valid e
