use Rattle.scr_slots.specs.Events.{promised_as, scrambled_as}
use Rattle.scr_slots.proofs.asking.ask.Goals as goal

pub returns-in-Cube222 : goal.returns-in-Cube222
unfolding promised_as scrambled_as
returns-in-Cube222 g c = rw c.in-Cube222.is c.of_states.ensures

pub returns-in-Cube333 : goal.returns-in-Cube333
unfolding promised_as scrambled_as
returns-in-Cube333 g c = rw c.in-Cube333.is c.of_states-in-Cube333.ensures

pub returns-in-Held333 : goal.returns-in-Held333
unfolding promised_as scrambled_as
returns-in-Held333 g c = rw c.in-Held333.is c.of_states-in-Held333.ensures

pub returns-in-Fewest333 : goal.returns-in-Fewest333
unfolding promised_as scrambled_as
returns-in-Fewest333 g c = rw c.in-Fewest333.is c.of_states-in-Fewest333.ensures

pub returns-in-Cube555 : goal.returns-in-Cube555
unfolding promised_as scrambled_as
returns-in-Cube555 g c = rw c.in-Cube555.is c.of_moves.ensures

pub returns-in-Cube666 : goal.returns-in-Cube666
unfolding promised_as scrambled_as
returns-in-Cube666 g c = rw c.in-Cube666.is c.of_moves-in-Cube666.ensures

pub returns-in-Cube777 : goal.returns-in-Cube777
unfolding promised_as scrambled_as
returns-in-Cube777 g c = rw c.in-Cube777.is c.of_moves-in-Cube777.ensures

pub returns-in-Clock : goal.returns-in-Clock
unfolding promised_as scrambled_as
returns-in-Clock g c = rw c.in-Clock.is c.of_states-in-Clock.ensures

pub returns-in-Megaminx : goal.returns-in-Megaminx
unfolding promised_as scrambled_as
returns-in-Megaminx g c = rw c.in-Megaminx.is c.of_moves-in-Megaminx.ensures

pub returns-in-Pyraminx : goal.returns-in-Pyraminx
unfolding promised_as scrambled_as
returns-in-Pyraminx g c = rw c.in-Pyraminx.is c.of_states-in-Pyraminx.ensures

pub returns-in-Skewb : goal.returns-in-Skewb
unfolding promised_as scrambled_as
returns-in-Skewb g c = rw c.in-Skewb.is c.of_states-in-Skewb.ensures

pub returns-in-Square1 : goal.returns-in-Square1
unfolding promised_as scrambled_as
returns-in-Square1 g c = rw c.in-Square1.is c.of_states-in-Square1.ensures
