use Rattle.std.proofs.Common.{ℕ, subst}
use Rattle.scr_read.specs.Groups.{groups_of}
use Rattle.scr_pages.specs.Slots.{slots_of}
use Rattle.scr_pages.specs.Refusals.{HasGroup, MeetsRegulations}
use Rattle.scr_pages.proofs.CheckLemmas.{meets, not-asked}
use Rattle.scr_pages.proofs.checking.checked_sheet.Goals as goal
use Rattle.scr_pages.proofs.checking.checked_sheet.Goals.{then-asked+in_ok-look_at, else-asked}

pub returns-clause-ok : goal.returns-clause-ok
returns-clause-ok c =
    let surveyed = c.in_ok-survey.ensures.ok in
    let wanted = c.in_ok-wanted.ensures.ok in
    let slots = slots_of (groups_of surveyed.rounds) in
    let met : MeetsRegulations c.args.asked.now.regulations slots = elim c.if-asked.branch [
      | then-asked+in_ok-look_at w ↦
          meets c.args.asked.now.regulations slots w.if-asked.true (w.in_ok-look_at.ensures.far surveyed.rounds surveyed.sheet)
      | else-asked w ↦ not-asked c.args.asked.now.regulations slots w.if-asked.false
    ] in
    record {
      surveyed = surveyed;
      wanted = wanted;
      pages = record {
        none_barred = surveyed.played;
        has_group = subst (λ (n : ℕ). HasGroup c.args.asked.now.group n) surveyed.count wanted.has;
        regulations = met;
      };
    }
