-- Words played letter by letter, as a loop over them plays.
use Rattle.std.proofs.Common.{◌≡◌, ℕ, suc, ◌+◌, ◌<◌, ◌≤◌, List, [], ◌∷◌, Option, Some, None, length, get_or, take, drop, sym, ap, ◌∙◌, add-one, take-append-drop, drop-cons}
use Rattle.std.specs.Prelude.{option_and_then}
use Rattle.std.proofs.Math.Seq.{take-suc}
use Rattle.std.proofs.lemmas.List.{take_all}
use Rattle.scr_combinatorics.specs.Play.{play}
use Rattle.scr_combinatorics.proofs.PlayLaws.{play-append, play-one}

module _ {S T : Type 0} (after : S → T → Option S) (s r : S) (w : List T) (k : ℕ) (played : play after s (take k w) ≡ Some r) where
  -- one letter more
  pub play-more : (d : T) → k < length w → play after s (take (k + 1) w) ≡ after r (get_or w k d)
  play-more d lt =
      ap (λ n. play after s (take n w)) (add-one k)
      ∙ ap (play after s) (take-suc w k d lt)
      ∙ play-append after s r (take k w) (get_or w k d ∷ []) played
      ∙ play-one after r (get_or w k d)

  -- a letter that is barred
  pub play-barred : (d : T) → k < length w → after r (get_or w k d) ≡ None → play after s w ≡ None
  unfolding play
  play-barred d lt barred =
      ap (play after s) (sym (take-append-drop k w))
      ∙ play-append after s r (take k w) (drop k w) played
      ∙ ap (play after r) (drop-cons w k d lt)
      ∙ ap (option_and_then (λ x. play after x (drop (suc k) w))) barred

  -- all letters
  pub play-whole : length w ≤ k → play after s w ≡ Some r
  play-whole le = ap (play after s) (sym (take_all k w le)) ∙ played
