-- The picture of a Pyraminx is that of its pieces.
use Rattle.std.proofs.Common.{◌≡◌, ℕ, ◌+◌, ◌%◌, Bool, true, List, [], ◌∷◌, Some, length, refl, sym, ap, ◌∙◌, lit<, eqb-true, add_comm}
use Rattle.std.specs.Prelude.{◌==◌, All, unwrap_or}
use Rattle.std.proofs.lemmas.List.Elements.{All-from_recursion}
use Rattle.scr_combinatorics.specs.Lists.{numbers_from, pick}
use Rattle.scr_combinatorics.specs.Play.{play}
use Rattle.scr_combinatorics.proofs.Picks.{pick-in_order}
use Rattle.scr_orbit.specs.InPlace.{AreDigitsInPlace}
use Rattle.scr_orbit.specs.Orbits.{added_digits, turned_orbit}
use Rattle.scr_orbit.specs.PowerPuzzles.{after_letter}
use Rattle.scr_orbit.proofs.DigitLaws.{added_digits-assoc}
use Rattle.scr_orbit.proofs.InPlaceLaws.{in_place_laws}
use Rattle.scr_orbit.proofs.Parts.{ap_both}
use Rattle.scr_notation.specs.declared.turn.Turn.{Turn}
use Rattle.scr_notation.specs.declared.turn.Turn.TheVariants.{Axis, Tip}
use Rattle.scr_tetra.specs.Pyraminx.{PyramState, IsPyram, at_axes, pyram_monoid, pyram_powers, pyram_thirds, solved_pyram}
use Rattle.scr_tetra.proofs.PyramLaws.{lawful_pyram}
use Rattle.scr_tetra.proofs.PyramLiterals.{pyram_on_literals}
use Rattle.scr_picture.specs.declared.tables.TheConstants.{PYRAM_MOVES}
use Rattle.scr_picture.specs.Stickers.{sources, stickers_after}
use Rattle.scr_picture.specs.Pyraminx.{pyram_moves, solved_pyram_picture}
use Rattle.scr_picture.specs.Pieces.{edge_stickers, axial_stickers, tip_stickers, tips_of, sticker_of, pyram_sticker, pyram_shown}
use Rattle.scr_picture.proofs.OrbitStickers.{is_brought, sticker-turned}
use Rattle.scr_picture.proofs.Followed.{are_moved, shown-played}

-- ---- pieces that stay at their axes

added_digits-comm : (m : ℕ) (ds es : List ℕ) → added_digits m ds es ≡ added_digits m es ds
unfolding added_digits
added_digits-comm m [] [] = refl
added_digits-comm m [] (e ∷ es) = refl
added_digits-comm m (d ∷ ds) [] = refl
added_digits-comm m (d ∷ ds) (e ∷ es) =
    ap (λ x. x % m ∷ added_digits m ds es) (add_comm d e) ∙ ap (λ xs. (e + d) % m ∷ xs) (added_digits-comm m ds es)

-- what is added to two lists is added to their sum
added-both : (a b c d : List ℕ)
    → added_digits 3 (added_digits 3 a c) (added_digits 3 b d) ≡ added_digits 3 (added_digits 3 a b) (added_digits 3 c d)
added-both a b c d =
    added_digits-assoc 3 a c (added_digits 3 b d)
    ∙ ap (added_digits 3 a) (sym (added_digits-assoc 3 c b d) ∙ ap (λ x. added_digits 3 x d) (added_digits-comm 3 c b) ∙ added_digits-assoc 3 b c d)
    ∙ sym (added_digits-assoc 3 a b (added_digits 3 c d))

at_axes-turned : (ds es : List ℕ) → length ds ≡ 4 → turned_orbit 3 (at_axes ds) (at_axes es) ≡ at_axes (added_digits 3 ds es)
unfolding turned_orbit
at_axes-turned ds es e = ap (λ xs. at_axes (added_digits 3 xs es)) (ap (λ n. pick ds (numbers_from 0 n)) (sym e) ∙ pick-in_order ds)

pub tips-in_place : (s : PyramState) → IsPyram s → AreDigitsInPlace 4 3 (tips_of s)
tips-in_place s own = (in_place_laws 4 3 (lit< tt)).kept s.body.axials s.tips own.body.axials own.tips

-- ---- stickers

tip_comes : PyramState → ℕ → ℕ → Bool
tip_comes q i from = is_brought 4 3 tip_stickers (at_axes (tips_of q)) i from (from == i)

axial_comes : PyramState → ℕ → ℕ → Bool
axial_comes q i from = is_brought 4 3 axial_stickers (at_axes q.body.axials) i from (tip_comes q i from)

comes : PyramState → ℕ → ℕ → Bool
comes q i from = is_brought 6 2 edge_stickers q.body.edges i from (axial_comes q i from)

sticker-after : (s q : PyramState) (i from : ℕ) → IsPyram s → IsPyram q → comes q i from ≡ true
    → pyram_sticker s from ≡ pyram_sticker (pyram_monoid.turned s q) i
unfolding pyram_sticker comes axial_comes tip_comes
sticker-after s q i from own turn h =
    let tips = tips-in_place s own in
    let axials_turned = at_axes-turned s.body.axials q.body.axials own.body.axials.size in
    let tips_turned = at_axes-turned (tips_of s) (tips_of q) tips.size ∙ ap at_axes (sym (added-both s.body.axials s.tips q.body.axials q.tips)) in
    sym (ap_both (λ axials tips. unwrap_or (sticker_of edge_stickers (turned_orbit 2 s.body.edges q.body.edges) i)
    (unwrap_or (sticker_of axial_stickers axials i) (unwrap_or (sticker_of tip_stickers tips i) i))) (sym axials_turned) (sym tips_turned)
    ∙ sticker-turned 6 2 edge_stickers s.body.edges q.body.edges (lit< tt) own.body.edges.digits.below turn.body.edges.pieces.size turn.body.edges.digits.size i from _ _ (axial_comes q i from)
    (λ axial. sticker-turned 4 3 axial_stickers (at_axes s.body.axials) (at_axes q.body.axials) (lit< tt) own.body.axials.below refl turn.body.axials.size i from _ _ (tip_comes q i from)
    (λ tip. sticker-turned 4 3 tip_stickers (at_axes (tips_of s)) (at_axes (tips_of q)) (lit< tt) tips.below refl (tips-in_place q turn).size i from i from (from == i)
    (λ same. sym (eqb-true from i same)) tip) axial) h)

thirds_valid : All IsPyram pyram_thirds
unfolding pyram_on_literals
thirds_valid =
    let turns = lawful_pyram.lawful.turns in
    All-from_recursion IsPyram pyram_thirds
    (turns (Axis 0 1) _ refl, (turns (Axis 1 1) _ refl, (turns (Axis 2 1) _ refl, (turns (Axis 3 1) _ refl, (turns (Tip 0 1) _ refl, (turns (Tip 1 1) _ refl, (turns (Tip 2 1) _ refl, (turns (Tip 3 1) _ refl, tt))))))))

moved : are_moved 36 comes pyram_thirds PYRAM_MOVES ≡ true
unfolding comes axial_comes tip_comes pyram_on_literals
moved = refl

solved_shown : pyram_shown solved_pyram ≡ solved_pyram_picture
unfolding pyram_shown pyram_sticker sticker_of pyram_on_literals solved_pyram_picture
solved_shown = refl

the_moves : PYRAM_MOVES ≡ pyram_moves
unfolding pyram_moves sources
the_moves = refl

pub pyram_played : (w : List Turn) (s : PyramState) → play (after_letter pyram_powers) solved_pyram w ≡ Some s
    → play (stickers_after pyram_moves) solved_pyram_picture w ≡ Some (pyram_shown s)
unfolding pyram_shown
pyram_played w s e =
    ap (λ m. play (stickers_after m) solved_pyram_picture w) (sym the_moves)
    ∙ ap (λ p. play (stickers_after PYRAM_MOVES) p w) (sym solved_shown)
    ∙ shown-played pyram_monoid IsPyram lawful_pyram.lawful.joined pyram_thirds thirds_valid PYRAM_MOVES solved_pyram_picture 36 pyram_sticker comes
    sticker-after moved w solved_pyram s lawful_pyram.lawful.joined.solved e
