use Rattle.std.proofs.Common.{◌+◌, ◌-◌, ◌<◌, length, sym, subst, arith}
use Rattle.scr_sq1.specs.Units.{sq1_puzzle}
use Rattle.scr_sq1far.specs.Within.{IsWithin}
use Rattle.scr_sq1far.specs.Found.{level_in}
use Rattle.scr_sq1far.proofs.WithinLaws.{IsWithin-more}
use Rattle.scr_sq1far.proofs.LevelLaws.{AreTold-kept, AreListed-later, AreLevels-next, each_state-more, state-kept}
use Rattle.scr_sq1far.proofs.FoundLaws.{FindsMore-none, FindsMore-both}
use Rattle.scr_sq1far.proofs.levels.Found.add_level.Goals as goal

pub loop-place-init : goal.loop-place-init
loop-place-init c = record {
  found = FindsMore-none (c.args.level + 1) c.args.self.now
      (AreListed-later c.args.level (c.args.level + 1) (level_in c.args.self.now) c.args.self.now.states.items (omega arith) c.requires.listed);
  each = λ k lt. absurd (omega arith);
}

pub index-requires : goal.index-requires
index-requires c = omega (arith, c.loop-place.invariant.found.grows.longer, c.len-end.ensures, c.loop-place-test.true)

pub add_neighbours-requires-clause-near : goal.add_neighbours-requires-clause-near
add_neighbours-requires-clause-near c =
    let lt : c.loop-place.place < length c.args.self.now.states.items = omega arith in
    let is =
    state-kept (level_in c.args.self.now) (level_in c.loop-place.self) c.args.self.now.states.items c.loop-place.self.states.items c.index.result.now
    c.loop-place.place c.loop-place.invariant.found.grows lt c.index.ensures in
    IsWithin-more sq1_puzzle c.index.result.now c.args.level (c.args.level + 1 - 1) (omega arith)
    (subst (λ q. IsWithin sq1_puzzle q c.args.level) (sym is) (c.requires.listed.near c.loop-place.place lt))

pub add_neighbours-requires-clause-told : goal.add_neighbours-requires-clause-told
add_neighbours-requires-clause-told c =
    AreTold-kept c.args.level (c.args.level + 1 - 1) (level_in c.args.self.now) (level_in c.loop-place.self) (omega arith)
    c.loop-place.invariant.found.grows.kept c.requires.exact.least

pub loop-place-preserved : goal.loop-place-preserved
loop-place-preserved c =
    let more = c.in_ok-add_neighbours.ensures in
    let lt : c.loop-place.place < length c.args.self.now.states.items = omega arith in
    let is =
    state-kept (level_in c.args.self.now) (level_in c.loop-place.self) c.args.self.now.states.items c.loop-place.self.states.items c.index.result.now
    c.loop-place.place c.loop-place.invariant.found.grows lt c.index.ensures in
    record {
      found = FindsMore-both (c.args.level + 1) c.args.self.now c.loop-place.self c.add_neighbours.new.self c.loop-place.invariant.found more.found;
      each = each_state-more (c.args.level + 1) (level_in c.loop-place.self) (level_in c.add_neighbours.new.self) c.args.self.now.states.items
          c.index.result.now c.loop-place.place more.found.grows.kept c.loop-place.invariant.each is more.turns;
    }

pub returns-clause-exact : goal.returns-clause-exact
returns-clause-exact c =
    AreLevels-next c.args.level (c.args.level + 1) (level_in c.args.self.now) (level_in c.loop-place.self) c.args.self.now.states.items
    c.loop-place.self.states.items (omega arith) c.requires.exact c.requires.listed c.loop-place.invariant.found.grows c.loop-place.invariant.found.listed
    (λ k lt. c.loop-place.invariant.each k (omega arith))
