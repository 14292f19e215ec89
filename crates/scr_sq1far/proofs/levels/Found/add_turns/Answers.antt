use Rattle.std.proofs.Common.{◌≡◌, ◌+◌, Some, sym, ◌∙◌, subst, arith}
use Rattle.std.proofs.lemmas.Option.{same_Some}
use Rattle.scr_notation.specs.TurnNumbers.{layer_turn_at}
use Rattle.scr_sq1.specs.Units.{Sq1State, sq1_after}
use Rattle.scr_sq1far.specs.Found.{FindsMore, level_in}
use Rattle.scr_sq1far.specs.Levels.{AreTurnsListed, HasLevel, key_of}
use Rattle.scr_sq1far.proofs.LevelLaws.{AreTurnsListed-more}
use Rattle.scr_sq1far.proofs.WithinLaws.{IsWithin-next}
use Rattle.scr_sq1far.proofs.FoundLaws.{FindsMore-none, FindsMore-both}
use Rattle.scr_sq1far.proofs.levels.Found.add_turns.Goals as goal
use Rattle.scr_sq1far.proofs.levels.Found.add_turns.Goals.{in-Some+in_ok-add, in_default}

pub loop-turn-init : goal.loop-turn-init
loop-turn-init c = record {
  found = FindsMore-none c.args.level c.args.self.now c.requires.listed;
  turns = λ n r lt e. absurd (omega arith);
}

pub add-requires-clause-near : goal.add-requires-clause-near
add-requires-clause-near c =
    IsWithin-next c.args.state.now c.in-Some.next (layer_turn_at c.loop-turn.turn) c.args.level c.requires.level c.in-Some.ensures.valid (sym c.in-Some.ensures.after) c.requires.near

pub loop-turn-preserved : goal.loop-turn-preserved
loop-turn-preserved c =
    let l = c.loop-turn in
    let level = c.args.level in
    let state = c.args.state.now in
    elim c.match-turn_at.branch [
      | in-Some+in_ok-add w ↦
          let more = w.in_ok-add.ensures in
          let next : (r : Sq1State) → sq1_after state (layer_turn_at l.turn) ≡ Some r → HasLevel level (level_in w.add.new.self) (key_of r) = λ r e.
          subst (λ q. HasLevel level (level_in w.add.new.self) (key_of q)) (same_Some w.in-Some.next r (w.in-Some.ensures.after ∙ e)) more.added in
          record {
            found = subst (FindsMore level c.args.self.now) (sym w.self-is) (FindsMore-both level c.args.self.now l.self w.add.new.self l.invariant.found more.found);
            turns = subst (λ f. AreTurnsListed level (level_in f) state (l.turn + 1)) (sym w.self-is)
                (AreTurnsListed-more level (level_in l.self) (level_in w.add.new.self) state l.turn more.found.grows.kept l.invariant.turns next);
          }
      | in_default w ↦ record {
        found = subst (FindsMore level c.args.self.now) (sym w.self-is) l.invariant.found;
        turns = subst (λ f. AreTurnsListed level (level_in f) state (l.turn + 1)) (sym w.self-is)
            (AreTurnsListed-more level (level_in l.self) (level_in l.self) state l.turn (λ key n e. e) l.invariant.turns
            (λ r e. absurd (w.in_default.not-Some r (c.turn_at.ensures.after ∙ e))));
      }
    ]

pub returns-clause-turns : goal.returns-clause-turns
returns-clause-turns c = λ n r lt e. c.loop-turn.invariant.turns n r (omega arith) e
