use Rattle.std.proofs.Common.{◌≡◌, [], ◌∷◌, refl}
use Rattle.std.specs.Prelude.{Result, IfErr, IsErrAnd}
use Rattle.std.proofs.lemmas.List.Elements.{All-nil}
use Rattle.scr_table.specs.declared.fault.BuildFault.{BuildFault}
use Rattle.scr_table.specs.Causes.{IsCause, IsCauseOf}
use Rattle.scr_table.specs.Lines.{TableLine, HasNoGap}
use Rattle.scr_table.proofs.LineLaws.{IfErr-cause, no_gaps-line}
use Rattle.scr_small.specs.Puzzles.{corners_line, pyramid_line, skewb_line}
use Rattle.scr_small.proofs.tables.SmallTables.build.Goals.{in-C222+in_ok-build-in-C222, in-Pyram+in_ok-build-in-Pyram}
use Rattle.scr_small.proofs.tables.SmallTables.build.Goals.{in-Skewb+in_ok-build-in-Skewb}
use Rattle.scr_small.proofs.tables.SmallTables.build.Goals as goal

-- a fault of the one table has a cause
caused : {A : Type 0} (line : TableLine) (fault : BuildFault) (r : Result A BuildFault) → IsErrAnd r (λ f. f ≡ fault)
    → IsCause line.name line.coordinate line.bound fault → IfErr r (IsCauseOf (line ∷ []))
caused line = IfErr-cause [] line [] (All-nil HasNoGap)

pub returns-in_err-build-in-C222-clause-cause : goal.returns-in_err-build-in-C222-clause-cause
returns-in_err-build-in-C222-clause-cause g c =
    rw c.in-C222.is
    (caused corners_line c.in_err-build-in-C222.field-0.0 c.from_residual.result c.from_residual.ensures.1 c.in_err-build-in-C222.ensures.cause)

pub returns-in_err-build-in-Pyram-clause-cause : goal.returns-in_err-build-in-Pyram-clause-cause
returns-in_err-build-in-Pyram-clause-cause g c =
    let given = c.from_residual-in_err-build-in-Pyram in
    let fault = c.in_err-build-in-Pyram in
    rw c.in-Pyram.is (caused pyramid_line fault.field-0.0 given.result given.ensures.1 fault.ensures.cause)

pub returns-in_err-build-in-Skewb-clause-cause : goal.returns-in_err-build-in-Skewb-clause-cause
returns-in_err-build-in-Skewb-clause-cause g c =
    let given = c.from_residual-in_err-build-in-Skewb in
    let fault = c.in_err-build-in-Skewb in
    rw c.in-Skewb.is (caused skewb_line fault.field-0.0 given.result given.ensures.1 fault.ensures.cause)

pub returns-clause-table : goal.returns-clause-table
returns-clause-table g c =
    elim c.match-event.branch [
      | in-C222+in_ok-build-in-C222 w ↦
          rw w.held-is (record { line = corners_line; of_event = refl; table = w.in_ok-build-in-C222.ensures.table })
      | in-Pyram+in_ok-build-in-Pyram w ↦
          rw w.held-is (record { line = pyramid_line; of_event = refl; table = w.in_ok-build-in-Pyram.ensures.table })
      | in-Skewb+in_ok-build-in-Skewb w ↦
          rw w.held-is (record { line = skewb_line; of_event = refl; table = w.in_ok-build-in-Skewb.ensures.table })
    ]

pub returns-clause-whole : goal.returns-clause-whole
returns-clause-whole g c =
    elim c.match-event.branch [
      | in-C222+in_ok-build-in-C222 w ↦
          rw w.in-C222.is (no_gaps-line corners_line w.in_ok-build-in-C222.ensures.no_gap)
      | in-Pyram+in_ok-build-in-Pyram w ↦
          rw w.in-Pyram.is (no_gaps-line pyramid_line w.in_ok-build-in-Pyram.ensures.no_gap)
      | in-Skewb+in_ok-build-in-Skewb w ↦
          rw w.in-Skewb.is (no_gaps-line skewb_line w.in_ok-build-in-Skewb.ensures.no_gap)
    ]
