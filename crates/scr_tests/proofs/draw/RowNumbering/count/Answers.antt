use Rattle.std.proofs.Common.{lit≤, refl}
use Rattle.scr_tests.proofs.draw.RowNumbering.count.Goals as goal

pub returns-clause-numbering : goal.returns-clause-numbering
returns-clause-numbering c = record {
  some = lit≤ tt;
  fits = lit≤ tt;
  one_to_one = record {
    valid = λ i h. h;
    below = λ s h. h;
    number_again = λ i h. refl;
    state_again = λ s h. refl;
  };
}
