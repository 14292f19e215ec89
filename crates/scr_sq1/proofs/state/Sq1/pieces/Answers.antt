use Rattle.std.proofs.Common.{◌≡◌, ◌<◌, length, sym, ap, ◌∙◌, subst, arith}
use Rattle.scr_combinatorics.specs.Permutations.{IsPermutation}
use Rattle.scr_sq1.specs.Numbers.{corners_of, edges_of}
use Rattle.scr_sq1.proofs.PieceSteps.{corners_room, corners_first, corners_second, corners_same, corners_end, edges_room, edges_more, edges_same, edges_end}
use Rattle.scr_sq1.proofs.StatePieces.{StatePieces, StatePieces-read, StatePieces-valid}
use Rattle.scr_sq1.proofs.state.Sq1.pieces.Goals as goal
use Rattle.scr_sq1.proofs.state.Sq1.pieces.Goals.{After-units-units, then-unit-ge8, else-unit-ge8, then-not-is_second, else-not-is_second}

pieces : (c : After-units-units) → StatePieces c.units-units.result
pieces c = StatePieces-read c.args.self.now c.units-units.result c.units-units.ensures.same c.units-units.ensures.valid

size : (c : After-units-units) → length c.units-units.result ≡ 24
size c = ap length c.units-units.ensures.same ∙ c.units-units.ensures.valid.size

pub bounds-edges-edge : goal.bounds-edges-edge
bounds-edges-edge c =
    let l = c.loop-unit in
    let a = (goal.at.bounds-edges-edge c).After-units-units in
    edges_room l.unit-index l.edge l.edges c.units-units.result (pieces a).edges.size (omega (arith, size a)) c.if-unit-ge8.true l.invariant.edges

pub bounds-corners-corner : goal.bounds-corners-corner
bounds-corners-corner c =
    let l = c.loop-unit in
    let a = (goal.at.bounds-corners-corner c).After-units-units in
    corners_room l.unit-index l.corner l.is_second l.corners c.units-units.result (pieces a).corner_units (omega (arith, size a)) c.if-unit-ge8.false c.if-not-is_second.true l.invariant.corners

pub loop-unit-preserved : goal.loop-unit-preserved
loop-unit-preserved c =
    let l = c.loop-unit in
    let units = c.units-units.result in
    let a = (goal.at.loop-unit-preserved c).After-units-units in
    let lt : l.unit-index < length units = omega (arith, size a) in
    elim c.if-unit-ge8.branch [
      | then-unit-ge8 w ↦
          let e = edges_more l.unit-index l.edge l.edges units (pieces a).edges.size lt w.if-unit-ge8.true l.invariant.edges in
          let k = corners_same l.unit-index l.corner l.is_second l.corners units lt w.if-unit-ge8.true l.invariant.corners in
          record {
            corners = record { size = cc; few = omega arith; read = cc };
            edges = record { size = cc; few = omega arith; read = cc };
          }
      | else-unit-ge8 w ↦
          let e = edges_same l.unit-index l.edge l.edges units lt w.if-unit-ge8.false l.invariant.edges in
          elim w.if-not-is_second.branch [
            | then-not-is_second v ↦
                let k = corners_first l.unit-index l.corner l.is_second l.corners units (pieces a).corner_units lt w.if-unit-ge8.false v.if-not-is_second.true l.invariant.corners in
                record {
                  corners = record { size = cc; few = omega arith; read = cc };
                  edges = record { size = cc; few = omega arith; read = cc };
                }
            | else-not-is_second v ↦
                let k = corners_second l.unit-index l.corner l.is_second l.corners units lt w.if-unit-ge8.false v.if-not-is_second.false l.invariant.corners in
                record {
                  corners = record { size = cc; few = omega arith; read = cc };
                  edges = record { size = cc; few = omega arith; read = cc };
                }
          ]
    ]

pub returns : goal.returns
returns c =
    let l = c.loop-unit in
    let units = c.units-units.result in
    let s = c.args.self.now in
    let a = (goal.at.returns c).After-units-units in
    let p = StatePieces-valid s c.units-units.ensures.valid in
    let corners : l.corners ≡ corners_of s.units =
    corners_end l.unit-index l.corner l.is_second l.corners units (pieces a).corner_units (omega (arith, size a, c.loop-unit-test.false)) l.invariant.corners ∙ ap corners_of c.units-units.ensures.same in
    let edges : l.edges ≡ edges_of s.units =
    edges_end l.unit-index l.edge l.edges units (pieces a).edges.size (omega (arith, size a, c.loop-unit-test.false)) l.invariant.edges ∙ ap edges_of c.units-units.ensures.same in
    record {
      corners = corners;
      edges = edges;
      corner_list = subst (IsPermutation 8) (sym corners) p.corners;
      edge_list = subst (IsPermutation 8) (sym edges) p.edges;
      valid = c.units-units.ensures.valid;
    }
