use Rattle.std.proofs.Common.{◌++◌, Option, Some, None, refl, sym, subst, ◌∙◌}
use Rattle.std.specs.Prelude.{IsSome, IsTrue, find}
use Rattle.std.specs.Option.{option_map}
use Rattle.scr_combinatorics.proofs.PlayLaws.{map-some}
use Rattle.scr_combinatorics.specs.Words.{words_within}
use Rattle.scr_table.proofs.ListedWords.{Contains-words_within, IsWithin, IsWithin-each, IsSome-find, found}
use Rattle.scr_table.proofs.WordLists.{find-made}
use Rattle.scr_stages.specs.Stages.{domino_turns}
use Rattle.scr_twophase.specs.TwoParts.{is_solution, joined}
use Rattle.scr_solver_laws.proofs.twophase.second_parts.Goals as goal

pub returns-clause-such : goal.returns-clause-such
unfolding joined
returns-clause-such c = λ cube first both e.
    let words = words_within domino_turns 10 in
    let made = map-some (λ v. first ++ v) (find (λ v. is_solution cube (first ++ v)) words) both (find-made (λ v. first ++ v) (is_solution cube) words ∙ e) in
    let h = found (λ v. is_solution cube (first ++ v)) (IsWithin domino_turns 10) words made.0 (IsWithin-each domino_turns 10) made.1 in
    (made.0, sym made.2, h.0.size, h.0.each, subst (λ w. IsTrue (is_solution cube w)) made.2 h.1)

kept : {X Y : Type 0} (f : X → Y) (o : Option X) → IsSome o → IsSome (option_map f o)
kept f None h = h
kept f (Some x) h = refl

pub returns-clause-some : goal.returns-clause-some
unfolding joined
returns-clause-some c = λ cube first w le each solves.
    let words = words_within domino_turns 10 in
    let some = IsSome-find (λ v. is_solution cube (first ++ v)) words w (Contains-words_within domino_turns 10 w le each) solves in
    subst IsSome (find-made (λ v. first ++ v) (is_solution cube) words) (kept (λ v. first ++ v) (find (λ v. is_solution cube (first ++ v)) words) some)
