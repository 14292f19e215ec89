-- The states of each puzzle, and its pictures.
use Rattle.std.proofs.Common.{◌≡◌, ◌↔◌, ℕ, true, false, List, [], Some, IsSome, ap, sym, ◌∙◌, subst, refl, lit≤, lit<}
use Rattle.std.specs.List.{AllPass}
use Rattle.std.specs.Option.{option_map}
use Rattle.scr_orbit.specs.Orbits.{Orbit}
use Rattle.scr_orbit.specs.PowerPuzzles.{after_letter}
use Rattle.scr_orbit.proofs.PlayedTurns.{plays_turns}
use Rattle.scr_combinatorics.specs.Play.{play}
use Rattle.scr_notation.specs.declared.event.Event.TheVariants.{C222, C333, Pyram, Skewb}
use Rattle.scr_notation.specs.declared.turn.Turn.{Turn}
use Rattle.scr_notation.specs.Turns.{permits}
use Rattle.scr_notation.proofs.TellsPowers.{tells_axes, tells_faces}
use Rattle.scr_cube.specs.Cube222.{IsCorners222, powers_222, solved_222}
use Rattle.scr_cube.specs.Cube333.{CubeState, cube_powers, solved_cube}
use Rattle.scr_cube.proofs.Laws222.{lawful_222}
use Rattle.scr_cube.proofs.Laws333.{lawful_cube}
use Rattle.scr_tetra.specs.Skewb.{SkewbState, skewb_powers, solved_skewb}
use Rattle.scr_tetra.specs.Pyraminx.{PyramState, IsPyram, pyram_powers, solved_pyram}
use Rattle.scr_tetra.proofs.SkewbLaws.{lawful_skewb}
use Rattle.scr_tetra.proofs.PyramLaws.{lawful_pyram}
use Rattle.scr_net.specs.Nets.{Letters, net_after, solved_net}
use Rattle.scr_net.specs.Pieces.{net_of_corners, net_of_cube}
use Rattle.scr_net_laws.proofs.PlayedNets.{corners_nets, cube_nets}
use Rattle.scr_picture.specs.Stickers.{stickers_after}
use Rattle.scr_picture.specs.Skewb.{skewb_moves, solved_skewb_picture}
use Rattle.scr_picture.specs.Pyraminx.{pyram_moves, solved_pyram_picture}
use Rattle.scr_picture.specs.Pieces.{pyram_shown, skewb_shown}
use Rattle.scr_picture.specs.Pictures.{net_letters}
use Rattle.scr_picture.proofs.ShownSkewb.{skewb_played}
use Rattle.scr_picture.proofs.ShownPyram.{pyram_played}
use Rattle.scr_picture.proofs.OneSkewb.{one_skewb_shown}
use Rattle.scr_picture.proofs.OnePyram.{one_pyram_shown}
use Rattle.scr_picture.proofs.OneCube.{one_corners_shown, one_cube_shown}
use Rattle.scr_picture_laws.proofs.ByWords.{EventModels}

-- ---- the Skewb

pub skewb_plays : (w : List Turn) → IsSome (play (after_letter skewb_powers) solved_skewb w) ↔ AllPass (permits Skewb) w
skewb_plays w = plays_turns skewb_powers (permits Skewb) (tells_axes false) lawful_skewb solved_skewb w lawful_skewb.lawful.joined.solved

pub one_skewb : (w v : List Turn) (s r : SkewbState) → play (after_letter skewb_powers) solved_skewb w ≡ Some s
    → play (after_letter skewb_powers) solved_skewb v ≡ Some r → skewb_shown s ≡ skewb_shown r → s ≡ r
one_skewb w v s r e f same = one_skewb_shown w v s r e f (cc)

abbrev pub skewbs : EventModels SkewbState (List ℕ)
skewbs = record {
  event = Skewb;
  after = after_letter skewb_powers;
  solved = solved_skewb;
  turned = stickers_after skewb_moves;
  solved_picture = solved_skewb_picture;
  show = skewb_shown;
  text = λ letters. letters;
  plays = skewb_plays;
  followed = skewb_played;
  one = one_skewb;
}

-- ---- the Pyraminx

pub pyram_plays : (w : List Turn) → IsSome (play (after_letter pyram_powers) solved_pyram w) ↔ AllPass (permits Pyram) w
pyram_plays w = plays_turns pyram_powers (permits Pyram) (tells_axes true) lawful_pyram solved_pyram w lawful_pyram.lawful.joined.solved

pub one_pyram : (w v : List Turn) (s r : PyramState) → play (after_letter pyram_powers) solved_pyram w ≡ Some s
    → play (after_letter pyram_powers) solved_pyram v ≡ Some r → pyram_shown s ≡ pyram_shown r → s ≡ r
one_pyram w v s r e f same = one_pyram_shown w v s r e f (cc)

abbrev pub pyraminxes : EventModels PyramState (List ℕ)
pyraminxes = record {
  event = Pyram;
  after = after_letter pyram_powers;
  solved = solved_pyram;
  turned = stickers_after pyram_moves;
  solved_picture = solved_pyram_picture;
  show = pyram_shown;
  text = λ letters. letters;
  plays = pyram_plays;
  followed = pyram_played;
  one = one_pyram;
}

-- ---- the 2x2x2

pub corners_plays : (w : List Turn) → IsSome (play (after_letter powers_222) solved_222 w) ↔ AllPass (permits C222) w
corners_plays w = plays_turns powers_222 (permits C222) (tells_faces 0 (lit≤ tt)) lawful_222 solved_222 w lawful_222.lawful.joined.solved

pub corners_played : (w : List Turn) (o : Orbit) → play (after_letter powers_222) solved_222 w ≡ Some o
    → play (net_after 2) (solved_net 2) w ≡ Some (net_of_corners o)
corners_played w o e = corners_nets w (subst IsSome (sym e) refl) ∙ ap (option_map net_of_corners) e

abbrev pub corners : EventModels Orbit Letters
corners = record {
  event = C222;
  after = after_letter powers_222;
  solved = solved_222;
  turned = net_after 2;
  solved_picture = solved_net 2;
  show = net_of_corners;
  text = net_letters 2;
  plays = corners_plays;
  followed = corners_played;
  one = one_corners_shown;
}

-- ---- the 3x3x3

pub cube_plays : (w : List Turn) → IsSome (play (after_letter cube_powers) solved_cube w) ↔ AllPass (permits C333) w
cube_plays w = plays_turns cube_powers (permits C333) (tells_faces 1 (lit≤ tt)) lawful_cube solved_cube w lawful_cube.lawful.joined.solved

pub cube_played : (w : List Turn) (c : CubeState) → play (after_letter cube_powers) solved_cube w ≡ Some c
    → play (net_after 3) (solved_net 3) w ≡ Some (net_of_cube c)
cube_played w c e = cube_nets w (subst IsSome (sym e) refl) ∙ ap (option_map net_of_cube) e

abbrev pub cubes : EventModels CubeState Letters
cubes = record {
  event = C333;
  after = after_letter cube_powers;
  solved = solved_cube;
  turned = net_after 3;
  solved_picture = solved_net 3;
  show = net_of_cube;
  text = net_letters 3;
  plays = cube_plays;
  followed = cube_played;
  one = one_cube_shown;
}
