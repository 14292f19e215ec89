-- The memory for rounds, as they are made in it.
use Rattle.std.proofs.Common.{◌≡◌, ◌+◌, ◌<◌, ℕ, zero, suc, ◌≤◌, List, length, suc, get_or, sym, subst, arith, add-one}
use Rattle.std.specs.Prelude.{All}
use Rattle.std.specs.Vec.{vec_len, vec_capacity}
use Rattle.scr_workers.specs.Boards.{HasRoom}
use Rattle.scr_list.specs.declared.round.Round.{Round}
use Rattle.scr_round.specs.Round.{slots_of}
use Rattle.scr_sheet.specs.declared.room.Room.{Room}
use Rattle.scr_sheet.specs.Room.{IsRoom, IsRoomFor, SpendsOne}

-- a round was made: a word is gone, and the lists are what they were
pub spends-one : (before after : Room) → vec_len after.words + 1 ≡ vec_len before.words → vec_len after.lanes ≡ vec_len before.lanes
    → ((slots : ℕ) → All (HasRoom slots) before.lanes.items → All (HasRoom slots) after.lanes.items)
    → vec_len after.answers ≡ vec_len before.answers → vec_capacity after.scrambles ≡ vec_capacity before.scrambles
    → SpendsOne before after
spends-one before after words lanes kept answers list = record {
  left = λ rounds is. record {
    words = omega (arith, words, is.words);
    some_lane = omega (arith, lanes, is.some_lane);
    few_lanes = omega (arith, lanes, is.few_lanes);
    lanes = kept (vec_len after.answers) (subst (λ n. All (HasRoom n) before.lanes.items) (sym answers) is.lanes);
    scrambles = omega (arith, answers, list, is.scrambles);
  };
  places = answers;
}

-- it has room for the rounds of a list from one on
pub record IsRoomFrom (rounds : List Round) (i : ℕ) (room : Room) : Type 0 where
  pub each : All (λ round. slots_of round ≤ vec_len room.answers) rounds
  pub left : ℕ
  pub left_is : left + i ≡ length rounds
  pub is : IsRoom left room

pub room-first : (rounds : List Round) (room : Room) → IsRoomFor rounds room → IsRoomFrom rounds 0 room
room-first rounds room is = record { each = is.each; left = length rounds; left_is = omega arith; is = is.is }

-- for the one, and then for those behind it
pub room-one : (rounds : List Round) (i : ℕ) (room : Room) → IsRoomFrom rounds i room → i < length rounds → IsRoom 1 room
room-one rounds i room from below = grind arith

pub room-fits : (rounds : List Round) (i : ℕ) (room : Room) (round : Round) → IsRoomFrom rounds i room → i < length rounds
    → round ≡ get_or rounds i round → slots_of round ≤ vec_len room.answers
room-fits rounds i room round from below is = subst (λ r. slots_of r ≤ vec_len room.answers) (sym is) (from.each i round below)

pub room-next : (rounds : List Round) (i : ℕ) (before after : Room) → IsRoomFrom rounds i before → i < length rounds
    → SpendsOne before after → IsRoomFrom rounds (i + 1) after
room-next rounds i before after from below spends = at from.left from.left_is from.is
  where
    at : (left : ℕ) → left + i ≡ length rounds → IsRoom left before → IsRoomFrom rounds (i + 1) after
    at zero place is = absurd (omega (arith, place, below))
    at (suc left) place is = record {
      each = subst (λ n. All (λ round. slots_of round ≤ n) rounds) (sym spends.places) from.each;
      left = left;
      left_is = omega (arith, place);
      is = spends.left left (subst (λ n. IsRoom n before) (sym (add-one left)) is);
    }

-- room that was taken for a list
pub taken-for : (rounds : List Round) (count slots : ℕ) (room : Room) → count ≡ length rounds → vec_len room.answers ≡ slots
    → All (λ round. slots_of round ≤ slots) rounds → IsRoom count room → IsRoomFor rounds room
taken-for rounds count slots room same places each is = grind arith
