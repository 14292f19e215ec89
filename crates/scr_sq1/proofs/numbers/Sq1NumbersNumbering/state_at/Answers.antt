use Rattle.std.proofs.Common.{◌+◌, ◌<◌, true, false, nat_eq, slice_index_or, refl, sym, ap, ◌∙◌, subst, arith}
use Rattle.std.proofs.lemmas.List.Elements.{All-get_or}
use Rattle.scr_combinatorics.specs.Digits.{mixed_digits}
use Rattle.scr_combinatorics.specs.Permutations.{permutation_at}
use Rattle.scr_combinatorics.proofs.PermutationLaws.{at-permutation}
use Rattle.scr_sq1.specs.Units.{Sq1State, IsSq1}
use Rattle.scr_sq1.specs.Shapes.{IsShape, shape_at}
use Rattle.scr_sq1.specs.Numbers.{laid, shape_word, sq1_of_digits}
use Rattle.scr_sq1.proofs.PieceSteps.{laying_start, laying_first, laying_next, laying_none, laying_corner_room, laying_corner, laying_edge_room, laying_edge, laying_end}
use Rattle.scr_sq1.proofs.ShapeSteps.{corners_table-at}
use Rattle.scr_sq1.proofs.StatePieces.{LaidState, LaidState-pieces, AreCounted-halves}
use Rattle.scr_sq1.proofs.numbers.Sq1NumbersNumbering.state_at.Goals as goal
use Rattle.scr_sq1.proofs.numbers.Sq1NumbersNumbering.state_at.Goals.{After-unrank-edges, In-loop-place, Then-half-piece, Else-half-piece, then-half-piece, else-half-piece}

shape : (c : After-unrank-edges) → IsShape c.halves-halves.result
shape c = subst IsShape (sym c.halves-halves.ensures.same) c.halves-halves.ensures.valid

pieces : (c : After-unrank-edges) → LaidState c.halves-halves.result c.unrank-corners.result c.unrank-edges.result
pieces c =
    LaidState-pieces c.halves-halves.result c.unrank-corners.result c.unrank-edges.result (shape c) c.unrank-corners.ensures.valid c.unrank-edges.ensures.valid

low : (c : In-loop-place) → slice_index_or c.halves-halves.result c.loop-place.place 0 < 13
low c =
    let s = shape ((goal.at.In-loop-place c).After-unrank-edges) in
    All-get_or (λ h. h < 13) c.halves-halves.result c.loop-place.place 0 (omega (arith, s.size, c.loop-place-test.true)) s.below

-- there is room for a corner that is laid
corner_room : (c : Then-half-piece) → (c.loop-piece.corner < 8) × (c.loop-piece.unit + 1 < 24)
corner_room c =
    let l = c.loop-piece in
    let cs = c.unrank-corners.result in
    let es = c.unrank-edges.result in
    let next = laying_next l.unit l.corner l.edge c.from-half.result l.units _ cs es l.piece _ true _
    (omega (arith, low ((goal.at.Then-half-piece c).In-loop-place), c.from-half.ensures)) (corners_table-at c.from-half.result) c.loop-piece-test.true c.if-half-piece.true l.invariant in
    let room = laying_corner_room l.unit l.corner l.edge l.units _ _ cs es next in
    (omega (arith, room.0, c.unrank-corners.ensures.valid.size), room.1)

-- and for an edge
edge_room : (c : Else-half-piece) → (c.loop-piece.edge < 8) × (c.loop-piece.unit < 24)
edge_room c =
    let l = c.loop-piece in
    let cs = c.unrank-corners.result in
    let es = c.unrank-edges.result in
    let next = laying_next l.unit l.corner l.edge c.from-half.result l.units _ cs es l.piece _ false _
    (omega (arith, low ((goal.at.Else-half-piece c).In-loop-place), c.from-half.ensures)) (corners_table-at c.from-half.result) c.loop-piece-test.true c.if-half-piece.false l.invariant in
    let room = laying_edge_room l.unit l.corner l.edge l.units _ _ cs es next in
    (omega (arith, room.0, c.unrank-edges.ensures.valid.size), room.1)

pub loop-place-init : goal.loop-place-init
loop-place-init c =
    let p = pieces c in
    laying_start (shape_word c.halves-halves.result) c.unrank-corners.result c.unrank-edges.result _ refl p.fits
    (omega (arith, (AreCounted-halves c.halves-halves.result (shape c).below).units, (shape c).size))

pub loop-piece-init : goal.loop-piece-init
loop-piece-init c =
    let l = c.loop-place in
    let a = (goal.at.loop-piece-init c).After-unrank-edges in
    laying_first l.unit l.corner l.edge c.from-half.result l.units _ c.unrank-corners.result c.unrank-edges.result c.halves-halves.result l.place
    (omega (arith, (shape a).size, c.loop-place-test.true)) c.from-half.ensures l.invariant

pub bounds-corners-corner : goal.bounds-corners-corner
bounds-corners-corner c = (corner_room c).0

pub bounds-units-unit : goal.bounds-units-unit
bounds-units-unit c = omega (arith, (corner_room c).1)

pub bounds-corners-corner-then-half-piece : goal.bounds-corners-corner-then-half-piece
bounds-corners-corner-then-half-piece c = (corner_room c).0

pub bounds-units-unit-then-half-piece : goal.bounds-units-unit-then-half-piece
bounds-units-unit-then-half-piece c = (corner_room c).1

pub overflow_add-corner : goal.overflow_add-corner
overflow_add-corner c = omega (arith, (corner_room c).0)

pub bounds-edges-edge : goal.bounds-edges-edge
bounds-edges-edge c =
    let l = c.loop-piece in
    let next = laying_next l.unit l.corner l.edge c.from-half.result l.units _ c.unrank-corners.result c.unrank-edges.result l.piece _ false _
    (omega (arith, low ((goal.at.bounds-edges-edge c).In-loop-place), c.from-half.ensures)) (corners_table-at c.from-half.result) c.loop-piece-test.true c.if-half-piece.false l.invariant in
    omega (arith, c.unrank-edges.ensures.valid.size, (laying_edge_room l.unit l.corner l.edge l.units _ _ c.unrank-corners.result c.unrank-edges.result next).0)

pub overflow_add-units-else-half-piece : goal.overflow_add-units-else-half-piece
overflow_add-units-else-half-piece c =
    let room = edge_room c in
    omega (arith, at-permutation 8 c.unrank-edges.result c.unrank-edges.ensures.valid c.loop-piece.edge room.0)

pub bounds-units-unit-else-half-piece : goal.bounds-units-unit-else-half-piece
bounds-units-unit-else-half-piece c = (edge_room c).1

pub overflow_add-edge : goal.overflow_add-edge
overflow_add-edge c = omega (arith, (edge_room c).0)

pub loop-piece-preserved : goal.loop-piece-preserved
loop-piece-preserved c =
    let l = c.loop-piece in
    let a = (goal.at.loop-piece-preserved c).In-loop-place in
    let below = low a in
    elim c.if-half-piece.branch [
      | then-half-piece w ↦
          let next = laying_next l.unit l.corner l.edge c.from-half.result l.units _ c.unrank-corners.result c.unrank-edges.result l.piece _ true _
          (omega (arith, below, c.from-half.ensures)) (corners_table-at c.from-half.result) c.loop-piece-test.true w.if-half-piece.true l.invariant in
          let next_one = laying_corner l.unit l.corner l.edge l.units _ _ c.unrank-corners.result c.unrank-edges.result _ refl next in
          record {
            size = cc;
            fits = record { corners = cc; edges = cc };
            units_left = cc;
            made = cc;
          }
      | else-half-piece w ↦
          let next = laying_next l.unit l.corner l.edge c.from-half.result l.units _ c.unrank-corners.result c.unrank-edges.result l.piece _ false _
          (omega (arith, below, c.from-half.ensures)) (corners_table-at c.from-half.result) c.loop-piece-test.true w.if-half-piece.false l.invariant in
          let next_one = laying_edge l.unit l.corner l.edge l.units _ _ c.unrank-corners.result c.unrank-edges.result _ refl next in
          record {
            size = cc;
            fits = record { corners = cc; edges = cc };
            units_left = cc;
            made = cc;
          }
    ]

pub loop-place-preserved : goal.loop-place-preserved
loop-place-preserved c =
    let l = c.loop-piece in
    laying_none l.unit l.corner l.edge c.from-half.result l.units _ c.unrank-corners.result c.unrank-edges.result l.piece _ _
    (omega (arith, low ((goal.at.loop-place-preserved c).In-loop-place), c.from-half.ensures)) (corners_table-at c.from-half.result) c.loop-piece-test.false l.invariant

pub invariant_of-result : goal.invariant_of-result
invariant_of-result c =
    let l = c.loop-place in
    let a = (goal.at.invariant_of-result c).After-unrank-edges in
    subst (λ us. let s : Sq1State = record { units = us; equator = nat_eq (slice_index_or c.unrank.result 0 0) 1 } in IsSq1 s)
    (sym (laying_end l.unit l.corner l.edge l.place l.units c.halves-halves.result c.unrank-corners.result c.unrank-edges.result
    (omega (arith, (shape a).size, c.loop-place-test.false)) l.invariant))
    ((pieces a).valid (nat_eq (slice_index_or c.unrank.result 0 0) 1))

pub returns : goal.returns
unfolding sq1_of_digits
returns c =
    let l = c.loop-place in
    let a = (goal.at.returns c).After-unrank-edges in
    let hs = c.halves-halves.ensures.same ∙ c.shape_at.ensures.shape in
    let equator = nat_eq (slice_index_or c.unrank.result 0 0) 1 in
    ap (λ us. let s : Sq1State = record { units = us; equator = equator } in s)
    (laying_end l.unit l.corner l.edge l.place l.units c.halves-halves.result c.unrank-corners.result c.unrank-edges.result
    (omega (arith, (shape a).size, c.loop-place-test.false)) l.invariant
    ∙ ap (λ h. laid (shape_word h) c.unrank-corners.result c.unrank-edges.result) hs
    ∙ ap (λ xs. laid (shape_word (shape_at (slice_index_or c.unrank.result 3 0))) xs c.unrank-edges.result) c.unrank-corners.ensures.list
    ∙ ap (λ xs. laid (shape_word (shape_at (slice_index_or c.unrank.result 3 0))) (permutation_at 8 (slice_index_or c.unrank.result 1 0)) xs) c.unrank-edges.ensures.list)
    ∙ ap sq1_of_digits (c.unrank.ensures.list ∙ ap (λ bases. mixed_digits bases c.args.number) c.new.ensures)
