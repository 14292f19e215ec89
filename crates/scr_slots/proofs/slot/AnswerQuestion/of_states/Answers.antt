use Rattle.scr_slots.proofs.Listings.{by-numbering}
use Rattle.scr_slots.proofs.slot.AnswerQuestion.of_states.Goals as goal

pub returns-in-Ok : goal.returns-in-Ok
returns-in-Ok g c = record {
  event = c.scramble-scramble.ensures.of_event;
  written = c.turns-turns.ensures.valid;
  turns = by-numbering c.count-numbering.ensures.numbering (record {
    of_state = record {
      state = c.in-Ok.state;
      draws = rw (c.new-words.ensures.words, c.new-words.ensures.none_taken) at c.in-Ok.ensures.draws;
      permitted = ((c.is_reached.ensures c.in-Ok.state).0 c.in-Ok.ensures.valid, c.in-Ok.ensures.needs);
      gives = c.scramble-scramble.ensures.gives;
      within = c.scramble-scramble.ensures.within;
    };
    scramble = c.scramble-scramble.ensures.scramble;
  });
}

pub returns-in-Err : goal.returns-in-Err
returns-in-Err g c =
    by-numbering c.count-numbering.ensures.numbering (rw (c.new-words.ensures.words, c.new-words.ensures.none_taken) at c.in-Err.ensures.draws)
