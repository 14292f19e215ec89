use Rattle.std.proofs.Common.{take, length-take-le}
use Rattle.scr_list.proofs.ReadLemmas.{read-answer}
use Rattle.scr_list.proofs.read.read_rounds.Goals as goal

pub returns : goal.returns
returns g c =
    let n = c.in_ok-filled.filled in
    let buffer = c.read_list.new.buffer in
    let answer =
    read-answer _ (take n buffer) n c.rounds_of.result (length-take-le n buffer c.in_ok-filled.ensures.within) c.in_ok-filled.ensures.most
    c.in_ok-filled.ensures.taken c.in_ok-filled.ensures.end c.in_ok-filled.ensures.no_end c.rounds_of.ensures.answer
    in
    record { read = answer.0; rounds = c.rounds_of.ensures.rounds; fault = answer.1 }
