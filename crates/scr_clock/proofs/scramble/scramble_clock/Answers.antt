use Rattle.std.proofs.Common.{◌≡◌, length, ap, sym, ◌∙◌, arith, rules}
use Rattle.scr_clock.specs.Dials.{solved}
use Rattle.scr_clock.specs.Held.{clock_after}
use Rattle.scr_clock.specs.Written.{written}
use Rattle.scr_clock.proofs.ScrambleLaws.{front_pushed, all_written, length-written}
use Rattle.scr_clock.proofs.scramble.scramble_clock.Goals as goal

pub returns-clause-promised : goal.returns-clause-promised
returns-clause-promised c =
    let amounts = c.solve-amounts in
    let are : c.push_pins-2.new.scramble.turns ≡ written amounts.result = grind (arith, front_pushed, all_written) in
    record {
      of_event = search rules;
      scramble = record {
        amounts = amounts.result;
        hours = amounts.ensures.amounts;
        turns_are = are;
        gives = ap (clock_after solved) are ∙ amounts.ensures.gives;
      };
      only = λ turns other.
          other.turns_are
          ∙ ap written (amounts.ensures.only other.amounts other.hours (sym (ap (clock_after solved) other.turns_are) ∙ other.gives)) ∙ sym are;
      within = omega (arith, ap length are ∙ length-written amounts.result amounts.ensures.amounts);
      gives = ap (clock_after solved) are ∙ amounts.ensures.gives;
    }
