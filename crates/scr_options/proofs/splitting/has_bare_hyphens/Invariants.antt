use Rattle.std.proofs.Common.{ℕ, ◌<◌, slice_index_or}
use Rattle.std.specs.Borrow.{Bor}
use Rattle.scr_options.specs.Hyphens.{IsOrdinary}
use Rattle.scr_options.specs.OptionWords.{Text}
use Rattle.scr_options.proofs.splitting.has_bare_hyphens.Given as goal

-- the words before this one are ordinary
abbrev pub invariant-loop-word : goal.invariant-loop-word
invariant-loop-word l = (k : ℕ) (d : Bor Text) → k < l.word-index → IsOrdinary (slice_index_or l.words k d).now
