use Rattle.std.proofs.Common.{◌≡◌, length, sym, ap, subst, arith}
use Rattle.std.specs.Prelude.{nat_eq}
use Rattle.std.specs.HashMap.{get}
use Rattle.std.specs.Map.{lookup}
use Rattle.scr_sq1.specs.Units.{sq1_puzzle}
use Rattle.scr_sq1far.specs.Within.{IsWithin}
use Rattle.scr_sq1far.specs.Found.{level_in}
use Rattle.scr_sq1far.specs.Levels.{AreLevels, HasLevel, key_of}
use Rattle.scr_sq1far.proofs.LevelLaws.{AreListed-none, AreLevels-first, TellNeeds-levels}
use Rattle.scr_sq1far.proofs.WithinLaws.{IsWithin-solved}
use Rattle.scr_sq1far.proofs.levels.Levels.build.Goals as goal

pub add-requires-clause-near : goal.add-requires-clause-near
add-requires-clause-near c = subst (λ q. IsWithin sq1_puzzle q 0) (sym c.solved-solved.ensures) (IsWithin-solved 0)

pub add-requires-clause-listed : goal.add-requires-clause-listed
add-requires-clause-listed c =
    AreListed-none 0 (get nat_eq c.new.result) c.new-2.result.items
    (λ key. ap (lookup (nat_eq key)) c.new.ensures.empty) (ap length c.new-2.ensures.items)

pub loop-level-init : goal.loop-level-init
loop-level-init c = record {
  listed = c.in_ok-add.ensures.found.listed;
  exact = AreLevels-first (level_in c.add.new.self) c.add.new.self.states.items c.in_ok-add.ensures.found.listed
      (subst (λ q. HasLevel 0 (level_in c.add.new.self) (key_of q)) c.solved-solved.ensures c.in_ok-add.ensures.added);
}

pub invariant_of-result : goal.invariant_of-result
invariant_of-result c =
    let six : c.loop-level.level ≡ 6 = omega arith in
    record {
      exact = TellNeeds-levels 6 (level_in c.loop-level.found) (subst (λ n. AreLevels n (level_in c.loop-level.found)) six c.loop-level.invariant.exact);
    }
