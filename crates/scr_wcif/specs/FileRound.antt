-- A round as a competition's file names it.
use Rattle.std.specs.Prelude.{ℕ, ◌≤◌, List}
use Rattle.scr_list.specs.Names.{IsName}

-- the id of its event, which round of the event it is, from 1, how many groups it has, and how it is called
pub record NamedRound : Type 0 where
  pub event : List ℕ
  pub number : ℕ
  pub groups : ℕ
  pub name : List ℕ

-- its groups and its name are such as a list can give
pub record IsNamed (groups : ℕ) (name : List ℕ) : Type 0 where
  pub some : 1 ≤ groups
  pub few : groups ≤ 26
  pub name_is : IsName name
