use Rattle.scr_pages.proofs.CheckLemmas.{sheet-few, surveyed-is}
use Rattle.scr_pages.proofs.checking.survey_of.Goals as goal

pub surveyed-requires : goal.surveyed-requires
surveyed-requires c =
    let sheet = c.in_ok-groups.ensures.groups in
    sheet-few c.args.bytes.now c.in_ok-groups.groups sheet.0 sheet.1 sheet.2

pub returns-clause-ok : goal.returns-clause-ok
returns-clause-ok c =
    let sheet = c.in_ok-groups.ensures.groups in
    surveyed-is c.args.bytes.now c.in_ok-groups.groups sheet.0 c.surveyed.result sheet.1 sheet.2 c.surveyed.ensures.marks c.surveyed.ensures.count
    c.surveyed.ensures.played
