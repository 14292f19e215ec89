-- What is found step by step.
use Rattle.std.proofs.Common.{ℕ}
use Rattle.scr_sq1far.specs.declared.levels.Found.{Found}
use Rattle.scr_sq1far.specs.Found.{AreFound, FindsMore, level_in}
use Rattle.scr_sq1far.proofs.LevelLaws.{Grows-same, Grows-both}

pub FindsMore-none : (most : ℕ) (found : Found) → AreFound most found → FindsMore most found found
FindsMore-none most found h = record { listed = h; grows = Grows-same (level_in found) found.states.items }

pub FindsMore-both : (most : ℕ) (f g h : Found) → FindsMore most f g → FindsMore most g h → FindsMore most f h
FindsMore-both most f g h first then = record {
  listed = then.listed;
  grows = Grows-both (level_in f) (level_in g) (level_in h) f.states.items g.states.items h.states.items first.grows then.grows;
}
