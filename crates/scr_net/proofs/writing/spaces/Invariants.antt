use Rattle.std.proofs.Common.{◌≡◌}
use Rattle.std.specs.Prelude.{replicate}
use Rattle.arrayvec.specs.ArrayString.{array_string_len}
use Rattle.scr_net.proofs.writing.spaces.Given as goal

abbrev pub invariant-loop-space : goal.invariant-loop-space
invariant-loop-space l = record {
  bytes : l.text.bytes ≡ replicate l._space 32;
  len : array_string_len l.text ≡ l._space;
}
