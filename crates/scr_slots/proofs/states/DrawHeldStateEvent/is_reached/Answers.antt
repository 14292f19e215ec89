use Rattle.scr_slots.proofs.states.DrawHeldStateEvent.is_reached.Goals as goal

-- a state is reached where its cube is
pub returns : goal.returns
returns c = λ s. (
  λ valid. (c.held_cubes.ensures.reached s).1 (valid, (c.reached.ensures s.cube).0 valid.cube),
  λ reached. ((c.held_cubes.ensures.reached s).0 reached).0,
)
