-- Scrambles that are fair by states are fair in pictures.
use Rattle.std.proofs.Common.{◌≡◌, ℕ, ◌+◌, Bool, true, false, List, [], ◌∷◌, Option, Some, None}
use Rattle.std.specs.Prelude.{if◌then◌else◌}
use Rattle.scr_combinatorics.specs.Play.{play}
use Rattle.scr_draw.specs.StateSpace.{IsFairFor}
use Rattle.scr_notation.specs.declared.event.Event.{Event}
use Rattle.scr_notation.specs.declared.event.Puzzle.{Puzzle}
use Rattle.scr_notation.specs.declared.event.Puzzle.TheVariants as puzzle
use Rattle.scr_notation.specs.Event.{puzzle_of}
use Rattle.scr_notation.specs.Written.{at_most}
use Rattle.scr_notation.specs.declared.turn.Turn.{Turn}
use Rattle.scr_cube.specs.Cube333.{CubeState}
use Rattle.scr_twophase.specs.Fewest.{is_framed}
use Rattle.scr_slots.specs.declared.settings.Settings.{Settings}
use Rattle.scr_slots.specs.Promised.{DrawnPuzzle, drawn_puzzle, GivesDrawn, States, slot_numbers}
use Rattle.scr_slots.specs.Events.{promised_as, promised_of}
use Rattle.scr_sheet.specs.Sheet.{EachSlot}
use Rattle.scr_sheet.specs.Headline.{AreFairScrambles}
use Rattle.scr_picture_laws.specs.Pictured.{pictures_333}
use Rattle.scr_picture_laws.specs.FairPictures.{AreFairPictures, AreFairPicturesOf}
use Rattle.scr_picture_laws.proofs.TwoModels.{TwoModels, states, pictures, IsPermitted-shown}
use Rattle.scr_picture_laws.proofs.FairShown.{picture_at, picture_space, IsFairFor-shown, Draws-shown}
use Rattle.scr_picture_laws.proofs.ByWords.{EventModels, moved, follows, one_solved}
use Rattle.scr_picture_laws.proofs.EachPuzzle.{corners, cubes, pyraminxes, skewbs}
use Rattle.scr_picture_laws.proofs.HeldPictures.{helds, held_cubes}

module _ {S Q : Type 0} (m : TwoModels S Q Turn) (played : List Turn → Option S) (shown : List Turn → Option Q) (IsWithin : List Turn → Type 0)
    (shows : (w : List Turn) (s : S) → played w ≡ Some s → shown w ≡ Some (m.show s)) where
  abbrev by_states : DrawnPuzzle S
  by_states = drawn_puzzle (states m) played IsWithin

  abbrev by_pictures : DrawnPuzzle Q
  by_pictures = drawn_puzzle (pictures m) shown IsWithin

  module _ (settings : Settings) (least : ℕ) (count : ℕ) (state_at : ℕ → S)
      (fair : IsFairFor (record { count = count; state_at = state_at; puzzle = states m }) least) where
    given : (numbers : List ℕ) (turns : List Turn)
        → GivesDrawn by_states (record { count = count; state_at = state_at; puzzle = states m }) least numbers turns
        → GivesDrawn by_pictures (picture_space m count state_at least fair) least numbers turns
    given numbers turns g = record {
      state = m.show g.state;
      draws = Draws-shown m count state_at least fair numbers g.state g.draws;
      permitted = IsPermitted-shown m g.state least g.permitted;
      gives = shows turns g.state g.gives;
      within = g.within;
    }

    each_given : (stream : ℕ) (scrambles : List (List Turn))
        → EachSlot (λ s turns. GivesDrawn by_states (record { count = count; state_at = state_at; puzzle = states m }) least (slot_numbers settings s) turns) stream scrambles
        → EachSlot (λ s turns. GivesDrawn by_pictures (picture_space m count state_at least fair) least (slot_numbers settings s) turns) stream scrambles
    each_given stream [] each = tt
    each_given stream (turns ∷ scrambles) each =
        (given (slot_numbers settings stream) turns each.0, each_given (stream + 1) scrambles each.1)

  pub fair_shown : (settings : Settings) (least stream : ℕ) (scrambles : List (List Turn))
      → AreFairScrambles (States S by_states) settings least stream scrambles
      → AreFairScrambles (States Q by_pictures) settings least stream scrambles
  fair_shown settings least stream scrambles h =
      (h.0, picture_at m h.0 h.1 least h.2.0, (IsFairFor-shown m h.0 h.1 least h.2.0, each_given settings least h.0 h.1 h.2.0 stream scrambles h.2.1))

-- where one state is solved
one_fair : {S Q : Type 0} (e : EventModels S Q) (most : ℕ) (settings : Settings) (least stream : ℕ) (scrambles : List (List Turn))
    → AreFairScrambles (States S (drawn_puzzle (states (one_solved e)) (play e.after e.solved) (at_most most))) settings least stream scrambles
    → AreFairScrambles (States Q (drawn_puzzle (pictures (one_solved e)) (play (moved e) e.solved_picture) (at_most most))) settings least stream scrambles
one_fair e most = fair_shown (one_solved e) (play e.after e.solved) (play (moved e) e.solved_picture) (at_most most) (follows e)

framed : (w : List Turn) (s : CubeState) (b : Bool) → (if b then play cubes.after cubes.solved w else None) ≡ Some s
    → (if b then pictures_333.played w else None) ≡ Some (cubes.show s)
framed w s true e = follows cubes w s e
framed w s false e = absurd (cc)

fair_by_puzzle : (what : Puzzle) (settings : Settings) (least stream : ℕ) (scrambles : List (List Turn))
    → AreFairScrambles (promised_as what) settings least stream scrambles
    → AreFairPicturesOf what settings least stream scrambles
unfolding promised_as
fair_by_puzzle puzzle.Cube222 = one_fair corners 11
fair_by_puzzle puzzle.Cube333 = one_fair cubes 52
fair_by_puzzle puzzle.Held333 = fair_shown held_cubes (play helds.after helds.solved) (play (moved helds) helds.solved_picture) (at_most 54) (follows helds)
fair_by_puzzle puzzle.Fewest333 =
    fair_shown (one_solved cubes) (λ w. if is_framed w then play cubes.after cubes.solved w else None)
    (λ w. if is_framed w then pictures_333.played w else None) (at_most 58) (λ w s. framed w s (is_framed w))
fair_by_puzzle puzzle.Cube555 = λ settings least stream scrambles h. tt
fair_by_puzzle puzzle.Cube666 = λ settings least stream scrambles h. tt
fair_by_puzzle puzzle.Cube777 = λ settings least stream scrambles h. tt
fair_by_puzzle puzzle.Clock = λ settings least stream scrambles h. h
fair_by_puzzle puzzle.Megaminx = λ settings least stream scrambles h. tt
fair_by_puzzle puzzle.Pyraminx = one_fair pyraminxes 15
fair_by_puzzle puzzle.Skewb = one_fair skewbs 11
fair_by_puzzle puzzle.Square1 = λ settings least stream scrambles h. h

pub fair_pictures : (event : Event) (settings : Settings) (least stream : ℕ) (scrambles : List (List Turn))
    → AreFairScrambles (promised_of event) settings least stream scrambles
    → AreFairPictures event settings least stream scrambles
fair_pictures event = fair_by_puzzle (puzzle_of event)
