use Rattle.std.proofs.Common.{[], ◌∷◌, ◌∙◌, sym, subst, arith}
use Rattle.std.specs.Prelude.{All, IfErr}
use Rattle.std.proofs.lemmas.List.Elements.{All-cons, All-nil}
use Rattle.scr_table.specs.Causes.{IsCauseOf}
use Rattle.scr_table.specs.Lines.{HasNoGap}
use Rattle.scr_table.proofs.LineLaws.{IfErr-cause, no_gap, no_gaps-line}
use Rattle.scr_search.specs.Near.{IsInSet}
use Rattle.scr_search.specs.Outlooks.{IsPruningTable}
use Rattle.scr_search.specs.Views.{lines_of, one_line, other_line}
use Rattle.scr_search.proofs.BuiltLaws.{fits-beside}
use Rattle.scr_search.proofs.NearLaws.{IsNear-all}
use Rattle.scr_search.proofs.search_tables.SearchTables.build.Goals as goal

pub beside-requires : goal.beside-requires
beside-requires g c =
    let are = c.extent-extent.ensures.views in
    let fits = fits-beside _ _ _ _ _ _ _ are.one.turns are.middle.turns are.counts.0 are.counts.2 c.in_ok-one.ensures c.in_ok-middle.ensures are.slices.0 in
    record { turns = fits.0; fits = fits.1 }

pub beside-requires-2 : goal.beside-requires-2
beside-requires-2 g c =
    let are = c.extent-extent.ensures.views in
    let fits = fits-beside _ _ _ _ _ _ _ are.other.turns are.middle.turns are.counts.1 are.counts.2 c.in_ok-other.ensures c.in_ok-middle.ensures are.slices.1 in
    record { turns = fits.0; fits = fits.1 }

pub build-requires-clause-bound : goal.build-requires-clause-bound
build-requires-clause-bound g c = λ κs lives. c.extent-extent.ensures.views.few.1

pub build-requires-clause-turns : goal.build-requires-clause-turns
build-requires-clause-turns g c = λ κs lives. omega (arith, c.beside.ensures.turns, c.in_ok-one.ensures.turns, c.extent-extent.ensures.views.one.turns, c.extent-extent.ensures.views.few.0)

pub build-requires-2-clause-bound : goal.build-requires-2-clause-bound
build-requires-2-clause-bound g c = λ κs lives. c.extent-extent.ensures.views.few.1

pub build-requires-2-clause-turns : goal.build-requires-2-clause-turns
build-requires-2-clause-turns g c = λ κs lives. omega (arith, c.beside-2.ensures.turns, c.in_ok-other.ensures.turns, c.extent-extent.ensures.views.other.turns, c.extent-extent.ensures.views.few.0)

pub returns-in_err-one_slice-clause-cause : goal.returns-in_err-one_slice-clause-cause
returns-in_err-one_slice-clause-cause g c =
    let v = g.P.Part.views in
    let e = c.extent-extent.result.now in
    let are = c.extent-extent.ensures.views in
    let r = c.from_residual-in_err-one_slice.result in
    subst (λ x. IfErr r (IsCauseOf (lines_of v x))) c.extent-extent.ensures.same
    (IfErr-cause [] (one_line v e) (other_line v e ∷ []) (All-nil HasNoGap) c.in_err-one_slice.field-0.0 r c.from_residual-in_err-one_slice.ensures.1
    (c.in_err-one_slice.ensures.cause _ (c.beside.ensures.shows v.one.coordinate v.middle.coordinate (are.middle.turns ∙ sym are.one.turns) c.in_ok-one.ensures c.in_ok-middle.ensures)))

pub returns-in_err-other_slice-clause-cause : goal.returns-in_err-other_slice-clause-cause
returns-in_err-other_slice-clause-cause g c =
    let v = g.P.Part.views in
    let e = c.extent-extent.result.now in
    let are = c.extent-extent.ensures.views in
    let r = c.from_residual-in_err-other_slice.result in
    let first = c.in_ok-one_slice.ensures.table _ (c.beside.ensures.shows v.one.coordinate v.middle.coordinate (are.middle.turns ∙ sym are.one.turns) c.in_ok-one.ensures c.in_ok-middle.ensures) in
    subst (λ x. IfErr r (IsCauseOf (lines_of v x))) c.extent-extent.ensures.same
    (IfErr-cause (one_line v e ∷ []) (other_line v e) [] (no_gaps-line (one_line v e) (no_gap (one_line v e) c.in_ok-one_slice.one_slice.distances first.distances))
    c.in_err-other_slice.field-0.0 r c.from_residual-in_err-other_slice.ensures.1
    (c.in_err-other_slice.ensures.cause _ (c.beside-2.ensures.shows v.other.coordinate v.middle.coordinate (are.middle.turns ∙ sym are.other.turns) c.in_ok-other.ensures c.in_ok-middle.ensures)))

pub invariant_of-result : goal.invariant_of-result
invariant_of-result g c =
    let v = g.P.Part.views in
    let e = c.extent-extent.result.now in
    let are = c.extent-extent.ensures.views in
    record {
      one_shown = c.in_ok-one.ensures;
      other_shown = c.in_ok-other.ensures;
      middle_shown = c.in_ok-middle.ensures;
      one_is = subst (λ x. IsPruningTable (one_line v x) c.in_ok-one_slice.one_slice) c.extent-extent.ensures.same
          (c.in_ok-one_slice.ensures.table _ (c.beside.ensures.shows v.one.coordinate v.middle.coordinate (are.middle.turns ∙ sym are.one.turns) c.in_ok-one.ensures c.in_ok-middle.ensures));
      other_is = subst (λ x. IsPruningTable (other_line v x) c.in_ok-other_slice.other_slice) c.extent-extent.ensures.same
          (c.in_ok-other_slice.ensures.table _ (c.beside-2.ensures.shows v.other.coordinate v.middle.coordinate (are.middle.turns ∙ sym are.other.turns) c.in_ok-other.ensures c.in_ok-middle.ensures));
      near_is = IsNear-all v 7 (IsInSet (record { blocks = c.new.result })) (λ number. record { bits = λ block is. let at = rw c.new.ensures.items at is in cc });
    }

pub returns-clause-whole : goal.returns-clause-whole
returns-clause-whole g c =
    let v = g.P.Part.views in
    let e = c.extent-extent.result.now in
    let are = c.extent-extent.ensures.views in
    let one = c.in_ok-one_slice.ensures.table _ (c.beside.ensures.shows v.one.coordinate v.middle.coordinate (are.middle.turns ∙ sym are.one.turns) c.in_ok-one.ensures c.in_ok-middle.ensures) in
    let other = c.in_ok-other_slice.ensures.table _ (c.beside-2.ensures.shows v.other.coordinate v.middle.coordinate (are.middle.turns ∙ sym are.other.turns) c.in_ok-other.ensures c.in_ok-middle.ensures) in
    subst (λ x. All HasNoGap (lines_of v x)) c.extent-extent.ensures.same
    (All-cons HasNoGap (one_line v e) (other_line v e ∷ []) (no_gap (one_line v e) c.in_ok-one_slice.one_slice.distances one.distances)
    (no_gaps-line (other_line v e) (no_gap (other_line v e) c.in_ok-other_slice.other_slice.distances other.distances)))
