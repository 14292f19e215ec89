use Rattle.scr_draw.proofs.Outcomes.{IsFairFor-random, HasOneOutcome-random}
use Rattle.scr_draw.proofs.laws.drawn_fairly.Goals as goal

pub returns : goal.returns
returns g c =
    let event = c.args.event.now in
    record {
      fair = λ least range.
          IsFairFor-random _ _ least c.count.ensures.numbering (λ s. g.P.Permit.needs event s least)
          (λ s valid. g.met.P.Permit.exact event s least c.count.ensures.told range valid) c.requires.reached;
      one_outcome = λ least range.
          HasOneOutcome-random _ _ least c.count.ensures.numbering (λ s. g.P.Permit.needs event s least)
          (λ s valid. g.met.P.Permit.exact event s least c.count.ensures.told range valid) c.requires.reached;
    }
