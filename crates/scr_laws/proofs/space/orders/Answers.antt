use Rattle.scr_space.proofs.SpinLaws.{IsWithin-carried, is_moved-carried, carried-back, carried-one_to_one}
use Rattle.scr_laws.proofs.space.orders.Goals as goal

pub returns : goal.returns
returns c = record {
  within = IsWithin-carried;
  moved = λ last n s p h w. is_moved-carried last s s p w h.kept;
  back = carried-back;
  one_to_one = carried-one_to_one;
}
