use Rattle.scr_table.proofs.FilledLaws.{AreMarked-known}
use Rattle.scr_table.proofs.fill.early_levels.Goals as goal

pub push_levels-requires-clause-marked : goal.push_levels-requires-clause-marked
push_levels-requires-clause-marked g c = AreMarked-known _ _ _ c.mark_goals.ensures

pub returns-in_default-clause-marked : goal.returns-in_default-clause-marked
returns-in_default-clause-marked g c = AreMarked-known _ _ _ c.mark_goals.ensures

pub returns-in_default-2-clause-marked : goal.returns-in_default-2-clause-marked
returns-in_default-2-clause-marked g c = AreMarked-known _ _ _ c.mark_goals.ensures
