use Rattle.scr_sq1solve.proofs.ShortestLaws.{IsShortScramble-one}
use Rattle.scr_sq1solve.proofs.solving.scramble_sq1.Goals as goal

pub returns : goal.returns
returns c =
    let short = c.scramble_sq1_short.ensures.the_scramble in
    let s = c.args.state.now in
    record {
      of_event = short.of_event;
      scramble = (IsShortScramble-one s _ c.is_valid.ensures).0 short.scramble;
      only = λ turns other. short.only turns ((IsShortScramble-one s turns c.is_valid.ensures).1 other);
      within = short.within;
      gives = short.gives;
    }
