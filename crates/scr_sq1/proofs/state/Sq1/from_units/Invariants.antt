use Rattle.std.proofs.Common.{◌≡◌, ℕ, ◌+◌, ◌<◌, ◌≤◌, drop}
use Rattle.scr_combinatorics.specs.Lists.{occurrences}
use Rattle.scr_combinatorics.specs.Permutations.{place_of}
use Rattle.scr_sq1.proofs.InHalves.{FillsItsUnits}
use Rattle.scr_sq1.proofs.state.Sq1.from_units.Given as goal

abbrev pub invariant-loop-piece : goal.invariant-loop-piece
invariant-loop-piece l = (p : ℕ) → p < l.piece → FillsItsUnits p l.units

abbrev pub invariant-loop-unit : goal.invariant-loop-unit
invariant-loop-unit l = record {
  counted : l.filled ≡ occurrences l.piece (drop l.unit l.units);
  first : 0 < l.filled → l.first ≡ l.unit + place_of l.piece (drop l.unit l.units);
  low : l.first < 24;
  few : l.filled + l.unit ≤ 24;
}
