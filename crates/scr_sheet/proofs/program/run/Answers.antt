use Rattle.scr_sheet.proofs.HeadlineLaws.{fair-run}
use Rattle.scr_sheet.proofs.program.run.Goals as goal

pub returns : goal.returns
returns g c = record {
  whole = record {
    ended = c.perform-ended.result;
    performed = c.perform-ended.ensures;
    answer = c.of.ensures;
    tells = c.tell.ensures;
  };
  headline = fair-run _ _ _ c.perform-ended.result c.perform-ended.ensures;
}
