use Rattle.std.proofs.Common.{ℕ, zero, suc, ◌<◌, Bool, List, slice_index_or, lit<, arith}
use Rattle.scr_sq1.specs.Units.{IsSq1}
use Rattle.scr_puzzle_laws.specs.Sq1Known.{impossible_units}
use Rattle.scr_puzzle_laws.proofs.sq1.refused_units.Goals as goal

of_no_state : (k : ℕ) (d : List ℕ) → k < 4 → (equator : Bool)
    → IsSq1 (record { units = slice_index_or impossible_units k d; equator = equator }) → ⊥
of_no_state zero d lt equator h = omega (arith, h.pieces 8 (lit< tt))
of_no_state (suc zero) d lt equator h = omega (arith, (h.corners 0 (lit< tt)).1)
of_no_state (suc (suc zero)) d lt equator h = omega (arith, (h.corners 0 (lit< tt)).1)
of_no_state (suc (suc (suc zero))) d lt equator h = omega (arith, h.size)
of_no_state (suc (suc (suc (suc k)))) d lt equator h = omega arith

pub returns-clause-no_other_state : goal.returns-clause-no_other_state
returns-clause-no_other_state c = of_no_state
