-- A lamp that is switched twice is as it was.
use Rattle.std.proofs.Common.{◌≡◌, ℕ, zero, suc, Bool, true, false, ◌∙◌, [], Some, None, sym, eqb-true, arith}
use Rattle.std.specs.Prelude.{not, ◌&&◌, ◌==◌, if◌then◌else◌}
use Rattle.scr_combinatorics.proofs.PlayLaws.{play-empty}
use Rattle.scr_table.specs.Moves.{MoveSet, after_move}
use Rattle.scr_table.proofs.MovesLaws.{turned-turn}
use Rattle.scr_tests.proofs.table.LampsMoves.is_idle.Goals as goal

abbrev lamps : MoveSet (Bool × Bool)
lamps = record {
  count = 2;
  after = λ s t. if t == 0 then Some (not s.0, s.1) else if s.0 then None else Some (s.0, not s.1);
  is_solved = λ s. not s.0 && not s.1;
}

-- a turn and then itself, from where each is not refused
back_again : (t : ℕ) (a b : Bool) (r q : Bool × Bool) → after_move lamps (a, b) t ≡ Some r
    → after_move lamps r t ≡ Some q → Some (a, b) ≡ Some q
back_again zero true b r q e f = let there : r ≡ (false, b) = cc in rw there at f
back_again zero false b r q e f = let there : r ≡ (true, b) = cc in rw there at f
back_again (suc zero) true b r q e f = absurd (cc)
back_again (suc zero) false true r q e f = let there : r ≡ (false, false) = cc in rw there at f
back_again (suc zero) false false r q e f = let there : r ≡ (false, true) = cc in rw there at f
back_again (suc (suc t)) a b r q e f = absurd (omega (arith, (turned-turn lamps (a, b) r (suc (suc t)) e).0))

pub returns : goal.returns
returns c = λ same s r q e f.
    let alike : c.args.second ≡ c.args.first = sym (eqb-true c.args.first c.args.second same) in
    ([], omega arith, play-empty (after_move lamps) s ∙ back_again c.args.first s.0 s.1 r q e (rw alike at f))
