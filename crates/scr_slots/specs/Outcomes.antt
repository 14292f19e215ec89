-- What laws say of slots besides.
use Rattle.std.specs.Prelude.{◌≡◌, ℕ, ◌<◌, List, Option}
use Rattle.scr_combinatorics.specs.Numbered.{Numbers}
use Rattle.scr_combinatorics.specs.Numbering.{IsOneToOne}
use Rattle.scr_combinatorics.specs.Reach.{Puzzle}
use Rattle.scr_draw.specs.StateSpace.{StateSpace, Draws, IsFairFor}
use Rattle.scr_notation.specs.Written.{Written}
use Rattle.scr_slots.specs.declared.settings.Settings.{Settings}
use Rattle.scr_slots.specs.Promised.{Promised, States, Moves}
use Rattle.scr_slots.specs.Slots.{Scrambling, ByState, ByMoves, ByListing, IsSlotAnswer}

-- A slot has one answer: one scramble at most, and either that or none.
abbrev pub HasOneAnswer : {promised : Promised} → Scrambling promised → ℕ → Type 0
HasOneAnswer scrambling least =
    (settings : Settings) (stream : ℕ) (answer other : Option Written) → IsSlotAnswer scrambling settings least stream answer
    → IsSlotAnswer scrambling settings least stream other → answer ≡ other

-- It is so of what is drawn from, by whatever listing of the states.
abbrev pub ByEachListing : {S : Type 0} → Numbers S → Puzzle S → (StateSpace S → Type 0) → Type 0
ByEachListing {S} numbers puzzle Is =
    (state_at : ℕ → S) → IsOneToOne numbers.count state_at numbers.number_of numbers.IsValid
    → Is (record { count = numbers.count; state_at = state_at; puzzle = puzzle })

-- States have a listing, and it makes no difference which: all are alike below the count, and what is drawn by one is
-- drawn by each, as fairly.
pub record HaveOneListing {S : Type 0} (numbers : Numbers S) (puzzle : Puzzle S) : Type 0 where
  pub some : ByListing numbers puzzle (λ space. Unit {0})
  pub alike : ByEachListing numbers puzzle (λ one.
      ByEachListing numbers puzzle (λ other. (i : ℕ) → i < numbers.count → one.state_at i ≡ other.state_at i))
  pub draws : (least : ℕ) (values : List ℕ) (outcome : Option S) → ByListing numbers puzzle (λ space. Draws space least values outcome)
      → ByEachListing numbers puzzle (λ space. Draws space least values outcome)
  pub fair : (least : ℕ) → ByListing numbers puzzle (λ space. IsFairFor space least)
      → ByEachListing numbers puzzle (λ space. IsFairFor space least)

-- so of the states of an event
abbrev pub HasOneListing : {promised : Promised} → Scrambling promised → Type 0
HasOneListing {promised = States S drawn} (ByState event numbers IsScramble) = HaveOneListing numbers drawn.puzzle
HasOneListing {promised = Moves random} (ByMoves event) = Unit {0}
