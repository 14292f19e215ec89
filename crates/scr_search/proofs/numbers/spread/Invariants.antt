use Rattle.std.proofs.Common.{◌≡◌, ℕ, ◌/◌, ◌%◌, ◌^◌, ◌<◌, Some, get_or}
use Rattle.scr_cube.specs.Cube333.{CubeState}
use Rattle.scr_search.specs.Spread.{IsListed}
use Rattle.scr_search.specs.Orderly.{after_turn}
use Rattle.scr_search.specs.Views.{part_number}
use Rattle.scr_search.proofs.numbers.spread.Given as goal

abbrev pub invariant-loop-place : goal.invariant-loop-place
invariant-loop-place g l =
    let v = g.P.Part.views in
    let Has = g.N.Numbers.Has in
    ((c : CubeState) → v.IsSeen c → part_number v c / 2 ^ 32 ≡ l.block → IsListed l.lists (part_number v c) → Has l.into (part_number v c % 2 ^ 32))
    × ((c d : CubeState) (place : ℕ) → v.IsSeen c → part_number v c / 2 ^ 32 ≡ l.block → place < l.place → after_turn c (get_or v.turns place 0) ≡ Some d
    → IsListed l.lists (part_number v d) → Has l.into (part_number v c % 2 ^ 32))
