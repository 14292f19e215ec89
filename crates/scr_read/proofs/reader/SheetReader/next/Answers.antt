use Rattle.scr_read.specs.Places.{place_of}
use Rattle.scr_read.proofs.NextLemmas.{given, refused, unread}
use Rattle.scr_read.proofs.PlaceLemmas.{stand_fit}
use Rattle.scr_read.proofs.reader.SheetReader.next.Goals as goal

pub returns-in-Ok-clause-each : goal.returns-in-Ok-clause-each
returns-in-Ok-clause-each c =
    given c.args.self.now (place_of c.self.inside.stand) c.self.inside.rest.now c.in-Some.text.now c.in-Some.behind.now c.self.inside.lines
    _ c.in-Ok.step.piece (place_of c.in-Ok.step.next) c.self.view_is (stand_fit c.self.inside.stand c.self.invariant.0) c.in-Some.ensures.0
    c.in-Ok.ensures.0

pub returns-in-Err-clause-reads : goal.returns-in-Err-clause-reads
returns-in-Err-clause-reads c =
    refused c.args.self.now (place_of c.self.inside.stand) c.self.inside.rest.now c.in-Some.text.now c.in-Some.behind.now c.self.inside.lines
    c.self.view_is (stand_fit c.self.inside.stand c.self.invariant.0) c.in-Some.ensures.1 c.in-Some.ensures.0 c.in-Err.cause c.in-Err.ensures.0
    c.in-Err.ensures.1

pub returns-in-Err-clause-each : goal.returns-in-Err-clause-each
returns-in-Err-clause-each c = λ pieces read. absurd (
    unread c.args.self.now (place_of c.self.inside.stand) c.self.inside.rest.now c.in-Some.text.now c.in-Some.behind.now c.self.inside.lines
    c.self.view_is (stand_fit c.self.inside.stand c.self.invariant.0) c.in-Some.ensures.1 c.in-Some.ensures.0 c.in-Err.cause c.in-Err.ensures.0
    c.in-Err.ensures.1 pieces read)
