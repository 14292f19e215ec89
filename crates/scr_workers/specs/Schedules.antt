-- Schedules of claims.
use Rattle.std.specs.Prelude.{◌≡◌, ℕ, suc, ◌<◌, ◌≤◌, cond, nat_eq, List, [], ◌∷◌, ◌++◌, All}
use Rattle.scr_workers.specs.Rule.{weigh_below}
use Rattle.scr_workers.specs.Gather.{times}

-- A schedule of w seats is a list of seats below w: the entry at place k gives number k to its seat.
pub record IsSchedule (w : ℕ) (schedule : List ℕ) : Type 0 where
  pub some_seat : 1 ≤ w
  pub seats : All (λ seat. seat < w) schedule

-- the places at which a seat stands, in order, where the list begins at place k
abbrev pub claims_from : ℕ → ℕ → List ℕ → List ℕ
claims_from k seat [] = []
claims_from k seat (entry ∷ entries) =
    cond (nat_eq entry seat) (k ∷ claims_from (suc k) seat entries) (claims_from (suc k) seat entries)

-- what a seat claims
abbrev pub claims_of : ℕ → List ℕ → List ℕ
claims_of seat schedule = claims_from 0 seat schedule

-- a seat has a claim, its last is not below n, and all its earlier ones are
pub record HasEnded (n : ℕ) (claims : List ℕ) : Type 0 where
  pub earlier : List ℕ
  pub last : ℕ
  pub claims_are : claims ≡ earlier ++ last ∷ []
  pub last_is : n ≤ last
  pub below : All (λ number. number < n) earlier

-- a schedule is complete for n slots where each of its seats has ended
abbrev pub IsComplete : ℕ → ℕ → List ℕ → Type 0
IsComplete w n schedule = (seat : ℕ) → seat < w → HasEnded n (claims_of seat schedule)

-- how often the seats claim a number, all together
abbrev pub times_claimed : ℕ → ℕ → List ℕ → ℕ
times_claimed w slot schedule = weigh_below (λ seat. times slot (claims_of seat schedule)) w

-- Each slot of a complete schedule is claimed exactly once.
abbrev pub EachIsClaimedOnce : Type 0
EachIsClaimedOnce = (w n : ℕ) (schedule : List ℕ) → IsSchedule w schedule → IsComplete w n schedule
    → (slot : ℕ) → slot < n → times_claimed w slot schedule ≡ 1
