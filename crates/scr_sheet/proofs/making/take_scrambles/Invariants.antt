use Rattle.std.proofs.Common.{◌≡◌, ℕ, ◌≤◌, map, take, slice_index_or, Some}
use Rattle.std.specs.Option.{option_flatten}
use Rattle.std.specs.Vec.{vec_capacity}
use Rattle.scr_sheet.proofs.making.take_scrambles.Given as goal

abbrev pub invariant-loop-k : goal.invariant-loop-k
invariant-loop-k l = record {
  taken : map Some l.scrambles.items ≡ map option_flatten (take l.k l.initial.answers);
  left : (i : ℕ) (d : _) → l.k ≤ i → slice_index_or l.answers i d ≡ slice_index_or l.initial.answers i d;
  room : vec_capacity l.scrambles ≡ vec_capacity l.fn.scrambles;
}
