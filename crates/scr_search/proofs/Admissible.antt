-- No pruning table says that a goal is farther than it is.
use Rattle.std.proofs.Common.{◌≡◌, ℕ, ◌<◌, ◌≤◌, true, List, length, get_or, Some, refl, sym, ap, ◌∙◌, subst, arith}
use Rattle.std.specs.Prelude.{Contains}
use Rattle.std.specs.Option.{option_map}
use Rattle.std.proofs.lemmas.List.Elements.{All-contains}
use Rattle.scr_combinatorics.specs.FirstWord.{IsDistance}
use Rattle.scr_combinatorics.specs.Play.{play}
use Rattle.scr_combinatorics.proofs.FirstWordLaws.{IsDistance-step}
use Rattle.scr_combinatorics.proofs.PlayLaws.{play-keeps}
use Rattle.scr_positions.specs.Coordinates.{moved, IsGoal}
use Rattle.scr_positions.specs.SearchSpaces.{positions}
use Rattle.scr_positions.proofs.SearchLaws.{FindsTheSame-follows}
use Rattle.scr_cube.specs.Cube333.{CubeState, IsCube}
use Rattle.scr_cube.proofs.Laws333.{lawful_cube}
use Rattle.scr_notation.specs.TurnNumbers.{face_turn_at}
use Rattle.scr_cube.specs.ListedTurns.{cube_space, after_of}
use Rattle.scr_combinatorics.specs.Words.{words_of}
use Rattle.scr_table.proofs.WordLists.{IsWordOf, words_of-each}
use Rattle.scr_table.specs.Distances.{Distances, Measures}
use Rattle.scr_search.specs.Orderly.{after_turn, leads}
use Rattle.scr_search.specs.Outlooks.{HasNearer}
use Rattle.scr_search.specs.Views.{Sees, View, Views}
use Rattle.scr_search.proofs.Leads.{leads-parts, after_of-place, play-places, step_of}
use Rattle.scr_search.proofs.SearchSteps.{LeavesWays}

-- a turn keeps cubes valid
pub IsCube-turned : (c d : CubeState) (t : ℕ) → IsCube c → after_turn c t ≡ Some d → IsCube d
IsCube-turned c d t h e = lawful_cube.lawful.kept c d (face_turn_at t) h e

module _ {v : Views} {view : View} {table : Distances} (s : Sees v view) (is : Measures view.coordinate table) where
  exact : (c : CubeState) (p : ℕ) → v.IsSeen c → p ≡ view.number c
      → IsDistance (moved view.coordinate) (IsGoal view.coordinate) p (get_or table.distances p 0)
  exact c p h at = is.exact p (subst (λ k. k < view.coordinate.count) (sym at) (s.along.valid c h))

  -- No word of fewer turns than stand at a cube's position leads to an end of the part.
  pub near-way : (c : CubeState) (p : ℕ) {n : ℕ} (w : List ℕ) → v.IsSeen c → p ≡ view.number c
      → Contains (words_of v.turns n) w → leads v.ends c w ≡ true → get_or table.distances p 0 ≤ n
  near-way c p {n} w h at there way =
      let to = leads-parts v.ends c w way in
      let word = All-contains (IsWordOf v.turns n) (words_of v.turns n) w (words_of-each v.turns n) there in
      let played : play (after_of v.turns) c word.places ≡ Some to.0 =
      play-places v.turns c word.places word.below ∙ ap (play after_turn c) (sym word.is) ∙ to.1 in
      let seen = play-keeps (after_of v.turns) v.IsSeen s.along.kept c to.0 word.places h played in
      let space = cube_space v.IsSeen v.turns (λ d. IsGoal view.coordinate (view.number d)) in
      let viewed = ((FindsTheSame-follows space (positions view.coordinate) view.number s.along).words c word.places h).0
      (record { end = to.0; played = played; goal = s.ends to.0 seen to.2 }) in
      omega (arith, (exact c (view.number c) h refl).least word.places viewed, ap (λ k. get_or table.distances k 0) at, word.size)

  -- A turn with which a word leads there is in a set of those that lead nearer.
  pub LeavesWays-table : {c : CubeState} {p left bits : ℕ} → length v.turns ≤ 18 → v.IsSeen c → p ≡ view.number c → 0 < left
      → HasNearer view.coordinate table.distances p left bits → LeavesWays v c left bits
  LeavesWays-table {c} {p} {left} few h at some nearer = λ place w lt there way.
      let step = step_of v.ends c (get_or v.turns place 0) w way in
      let d = step.there in
      let q : ℕ = view.number d in
      let to : after_of v.turns c place ≡ Some d = after_of-place v.turns c place lt ∙ step.to in
      let seen = s.along.kept c d place h to in
      let near = near-way d q w seen refl there step.way in
      let moves : moved view.coordinate p place ≡ Some q =
      ap (λ k. moved view.coordinate k place) at ∙ s.along.turned c place h ∙ ap (option_map view.number) to in
      let here = IsDistance-step (moved view.coordinate) (IsGoal view.coordinate) p q place (get_or table.distances p 0)
      (get_or table.distances q 0) moves (exact c p h at) (exact d q seen refl) in
      nearer.kept place q (omega (arith, lt, few)) moves (omega (arith, here, near, some)) (omega (arith, near, some))
