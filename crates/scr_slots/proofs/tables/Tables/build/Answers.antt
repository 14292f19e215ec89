use Rattle.std.proofs.Common.{[], ◌∷◌, rules}
use Rattle.std.proofs.lemmas.Option.{IfSome_then}
use Rattle.scr_notation.specs.declared.event.Family.TheVariants.{Cube222, Cube333, Pyraminx, Skewb, Square1}
use Rattle.scr_slots.proofs.BuildCauses.{event_list, AreWhole-of, cause-handed, HoldsTables-asked}
use Rattle.scr_slots.proofs.tables.Tables.build.Goals as goal

pub returns-in_err-of_222-clause-cause : goal.returns-in_err-of_222-clause-cause
returns-in_err-of_222-clause-cause g c =
    cause-handed (event_list c.args.rounds.now) c.in_err-of_222.field-0.0 c.from_residual.result c.from_residual.ensures.1
    [] Cube222 (Cube333 ∷ Pyraminx ∷ Skewb ∷ Square1 ∷ []) tt c.in_err-of_222.ensures.cause

pub returns-in_err-of_333-clause-cause : goal.returns-in_err-of_333-clause-cause
returns-in_err-of_333-clause-cause g c =
    cause-handed (event_list c.args.rounds.now) c.in_err-of_333.field-0.0 c.from_residual-in_err-of_333.result c.from_residual-in_err-of_333.ensures.1
    (Cube222 ∷ []) Cube333 (Pyraminx ∷ Skewb ∷ Square1 ∷ []) (c.in_ok-of_222.ensures.whole, tt) c.in_err-of_333.ensures.cause

pub returns-in_err-of_pyram-clause-cause : goal.returns-in_err-of_pyram-clause-cause
returns-in_err-of_pyram-clause-cause g c =
    cause-handed (event_list c.args.rounds.now) c.in_err-of_pyram.field-0.0 c.from_residual-in_err-of_pyram.result c.from_residual-in_err-of_pyram.ensures.1
    (Cube222 ∷ Cube333 ∷ []) Pyraminx (Skewb ∷ Square1 ∷ []) (c.in_ok-of_222.ensures.whole, (c.in_ok-of_333.ensures.whole, tt))
    c.in_err-of_pyram.ensures.cause

pub returns-in_err-of_skewb-clause-cause : goal.returns-in_err-of_skewb-clause-cause
returns-in_err-of_skewb-clause-cause g c =
    cause-handed (event_list c.args.rounds.now) c.in_err-of_skewb.field-0.0 c.from_residual-in_err-of_skewb.result c.from_residual-in_err-of_skewb.ensures.1
    (Cube222 ∷ Cube333 ∷ Pyraminx ∷ []) Skewb (Square1 ∷ [])
    (c.in_ok-of_222.ensures.whole, (c.in_ok-of_333.ensures.whole, (c.in_ok-of_pyram.ensures.whole, tt)))
    c.in_err-of_skewb.ensures.cause

pub returns-in_err-of_sq1-clause-cause : goal.returns-in_err-of_sq1-clause-cause
returns-in_err-of_sq1-clause-cause g c =
    cause-handed (event_list c.args.rounds.now) c.in_err-of_sq1.field-0.0 c.from_residual-in_err-of_sq1.result c.from_residual-in_err-of_sq1.ensures.1
    (Cube222 ∷ Cube333 ∷ Pyraminx ∷ Skewb ∷ []) Square1 []
    (c.in_ok-of_222.ensures.whole, (c.in_ok-of_333.ensures.whole, (c.in_ok-of_pyram.ensures.whole, (c.in_ok-of_skewb.ensures.whole, tt))))
    c.in_err-of_sq1.ensures.cause

pub returns-clause-no_gap : goal.returns-clause-no_gap
returns-clause-no_gap g c =
    AreWhole-of (event_list c.args.rounds.now) (Cube222 ∷ Cube333 ∷ Pyraminx ∷ Skewb ∷ Square1 ∷ []) (
      c.in_ok-of_222.ensures.whole,
      (c.in_ok-of_333.ensures.whole, (c.in_ok-of_pyram.ensures.whole, (c.in_ok-of_skewb.ensures.whole, (c.in_ok-of_sq1.ensures.whole, tt)))),
    )

pub invariant_of-tables : goal.invariant_of-tables
invariant_of-tables g c =
    let events = event_list c.args.rounds.now in
    let set = c.events_of.result in
    let has = c.events_of.ensures in (
      (HoldsTables-asked events set Cube222 c.in_ok-of_222.of_222 has c.in_ok-of_222.ensures.built, IfSome_then c.in_ok-of_222.of_222 c.in_ok-of_222.ensures.made (λ built made. search rules)),
      HoldsTables-asked events set Cube333 c.in_ok-of_333.of_333 has c.in_ok-of_333.ensures.built,
      (HoldsTables-asked events set Pyraminx c.in_ok-of_pyram.of_pyram has c.in_ok-of_pyram.ensures.built, IfSome_then c.in_ok-of_pyram.of_pyram c.in_ok-of_pyram.ensures.made (λ built made. search rules)),
      (HoldsTables-asked events set Skewb c.in_ok-of_skewb.of_skewb has c.in_ok-of_skewb.ensures.built, IfSome_then c.in_ok-of_skewb.of_skewb c.in_ok-of_skewb.ensures.made (λ built made. search rules)),
      HoldsTables-asked events set Square1 c.in_ok-of_sq1.of_sq1 has c.in_ok-of_sq1.ensures.built,
    )
