-- Laws of what few turns lead to.
use Rattle.std.proofs.Common.{◌≡◌, ℕ, suc, ◌-◌, ◌≤◌, ◌<◌, [], ◌∷◌, Some, refl, ◌∙◌, arith}
use Rattle.std.specs.Prelude.{◌↔◌}
use Rattle.scr_combinatorics.specs.Reach.{Puzzle, Needs}
use Rattle.scr_combinatorics.proofs.PlayLaws.{play-empty, play-first}
use Rattle.scr_notation.specs.Turning.{opposite}
use Rattle.scr_notation.specs.declared.turn.Turn.{Turn}
use Rattle.scr_sq1.specs.Units.{Sq1State, IsSq1, solved_sq1, sq1_after, sq1_puzzle}
use Rattle.scr_sq1.proofs.Lawful.{IsLawful-sq1}
use Rattle.scr_sq1far.proofs.Counted.{count_once}
use Rattle.scr_sq1far.specs.Within.{IsWithin}

pub IsWithin-more : {S : Type 0} (p : Puzzle S) (s : S) (few most : ℕ) → few ≤ most → IsWithin p s few → IsWithin p s most
IsWithin-more p s few most le h = (h.0, h.1, omega (arith, h.2), h.3, h.4)

pub IsWithin-solved : (most : ℕ) → IsWithin sq1_puzzle solved_sq1 most
IsWithin-solved most = ([], solved_sq1, omega arith, play-empty sq1_after solved_sq1, refl)

pub IsWithin-first : (s r : Sq1State) (t : Turn) (most : ℕ) → sq1_after s t ≡ Some r → IsWithin sq1_puzzle r most
    → IsWithin sq1_puzzle s (suc most)
IsWithin-first s r t most e h =
    (t ∷ h.0, h.1, omega (arith, h.2), play-first sq1_after s r t h.0 e ∙ h.3, h.4)

-- what a turn makes of a state is one turn further away at most
pub IsWithin-behind : (s r : Sq1State) (t : Turn) (most : ℕ) → IsSq1 s → sq1_after s t ≡ Some r
    → IsWithin sq1_puzzle s most → IsWithin sq1_puzzle r (suc most)
IsWithin-behind s r t most valid e h =
    IsWithin-first r s (opposite t) most (IsLawful-sq1.undoes s r t valid e) h

pub IsWithin-next : (s r : Sq1State) (t : Turn) (level : ℕ) → 0 < level → IsSq1 s → sq1_after s t ≡ Some r
    → IsWithin sq1_puzzle s (level - 1) → IsWithin sq1_puzzle r level
IsWithin-next s r t level some valid e h =
    IsWithin-more sq1_puzzle r (suc (level - 1)) level (omega arith) (IsWithin-behind s r t (level - 1) valid e h)

pub Needs-iff : (s : Sq1State) (least most : ℕ) → least ≡ suc most
    → Needs sq1_puzzle s least ↔ (IsWithin sq1_puzzle s most → ⊥)
Needs-iff s least most is = (
  λ needs. λ h. needs h.0 h.1 (omega (arith, count_once h.0, h.2)) h.3 h.4,
  λ none. λ w end few plays solved. none (w, end, omega (arith, count_once w, few), plays, solved),
)
