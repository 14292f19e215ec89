use Rattle.std.proofs.Common.{◌≤◌, ◌<◌, ◌/◌, ◌^◌, length}
use Rattle.scr_cube.specs.Cube333.{CubeState}
use Rattle.scr_search.specs.Near.{IsNear}
use Rattle.scr_search.specs.Spread.{IsListed}
use Rattle.scr_search.specs.Views.{part_number}
use Rattle.scr_search.proofs.numbers.numbers_within.Given as goal

abbrev pub invariant-loop-turn : goal.invariant-loop-turn
invariant-loop-turn g l =
    let v = g.P.Part.views in
    (length l.all.items ≤ 2 ^ 16)
    × ((c : CubeState) → v.IsSeen c → part_number v c / 2 ^ 32 < length l.all.items)
    × IsNear v l._turn (IsListed l.all.items)
