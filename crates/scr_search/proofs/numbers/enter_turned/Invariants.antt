use Rattle.std.proofs.Common.{◌≡◌, ℕ, ◌%◌, ◌^◌, ◌<◌, Some, get_or}
use Rattle.scr_cube.specs.Cube333.{CubeState}
use Rattle.scr_search.specs.Orderly.{after_turn}
use Rattle.scr_search.specs.Views.{part_number}
use Rattle.scr_search.proofs.numbers.enter_turned.Given as goal

abbrev pub invariant-loop-number : goal.invariant-loop-number
invariant-loop-number g l =
    let v = g.P.Part.views in
    let Has = g.N.Numbers.Has in
    ((n : ℕ) → Has l.initial.into n → Has l.into n)
    × ((k : ℕ) (c d : CubeState) → k < l.number-index → v.IsSeen c → get_or l.numbers k 0 ≡ part_number v c % 2 ^ 32
    → after_turn c (get_or v.turns l.place 0) ≡ Some d → Has l.into (part_number v d % 2 ^ 32))
