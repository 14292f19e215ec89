-- A round as a list names it.
use Rattle.std.specs.Prelude.{ℕ, List}
use Rattle.scr_notation.specs.declared.event.Event.{Event}

-- its event, how many groups of competitors it has, how many turns from solved each of its states is at least, and its
-- name, which is empty where it has none
pub record ListedRound : Type 0 where
  pub event : Event
  pub groups : ℕ
  pub least : ℕ
  pub name : List ℕ
