use Rattle.std.proofs.Common.{◌≡◌, ℕ, true, ◌<◌, slice_index}
use Rattle.scr_markup.specs.Tokens.{is_plain}
use Rattle.scr_markup.proofs.escaping.plain_len.Given as goal

abbrev pub invariant-loop-i : goal.invariant-loop-i
invariant-loop-i l = (k : ℕ) → k < l.i → is_plain (slice_index l.text k) ≡ true
