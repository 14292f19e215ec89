use Rattle.scr_run_laws.proofs.MemoryLaws.{memory-alike, memory-few, memory-unwritten}
use Rattle.scr_run_laws.proofs.want_of_memory.Goals as goal

pub returns : goal.returns
returns c = record { seed = memory-alike; nothing = memory-unwritten; unjudged = memory-few }
