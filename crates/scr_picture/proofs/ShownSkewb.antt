-- The picture of a Skewb is that of its pieces.
use Rattle.std.proofs.Common.{◌≡◌, ℕ, Bool, true, List, Some, refl, sym, ap, ◌∙◌, lit<, eqb-true}
use Rattle.std.specs.Prelude.{◌==◌, All}
use Rattle.std.proofs.lemmas.List.Elements.{All-from_recursion}
use Rattle.scr_combinatorics.specs.Play.{play}
use Rattle.scr_orbit.specs.PowerPuzzles.{after_letter}
use Rattle.scr_notation.specs.declared.turn.Turn.{Turn}
use Rattle.scr_notation.specs.declared.turn.Turn.TheVariants.{Axis}
use Rattle.scr_tetra.specs.Skewb.{SkewbState, IsSkewb, skewb_monoid, skewb_powers, skewb_thirds, solved_skewb}
use Rattle.scr_tetra.proofs.SkewbLaws.{lawful_skewb}
use Rattle.scr_tetra.proofs.SkewbOnLiterals.{skewb_on_literals}
use Rattle.scr_picture.specs.declared.tables.TheConstants.{SKEWB_MOVES}
use Rattle.scr_picture.specs.Stickers.{sources, stickers_after}
use Rattle.scr_picture.specs.Skewb.{skewb_moves, solved_skewb_picture}
use Rattle.scr_picture.specs.Pieces.{four_stickers, three_stickers, centre_stickers, sticker_of, skewb_sticker, skewb_shown}
use Rattle.scr_picture.proofs.OrbitStickers.{is_brought, sticker-turned}
use Rattle.scr_picture.proofs.Followed.{are_moved, shown-played}

centre_comes : SkewbState → ℕ → ℕ → Bool
centre_comes q i from = is_brought 6 1 centre_stickers q.centres i from (from == i)

three_comes : SkewbState → ℕ → ℕ → Bool
three_comes q i from = is_brought 3 3 three_stickers q.three i from (centre_comes q i from)

comes : SkewbState → ℕ → ℕ → Bool
comes q i from = is_brought 4 3 four_stickers q.four i from (three_comes q i from)

sticker-after : (s q : SkewbState) (i from : ℕ) → IsSkewb s → IsSkewb q → comes q i from ≡ true
    → skewb_sticker s from ≡ skewb_sticker (skewb_monoid.turned s q) i
unfolding skewb_sticker comes three_comes centre_comes
sticker-after s q i from own turn h =
    sym (sticker-turned 4 3 four_stickers s.four q.four (lit< tt) own.four.below turn.four.pieces.size turn.four.size i from _ _ (three_comes q i from)
    (λ three. sticker-turned 3 3 three_stickers s.three q.three (lit< tt) own.three.below turn.three.pieces.size turn.three.size i from _ _ (centre_comes q i from)
    (λ centre. sticker-turned 6 1 centre_stickers s.centres q.centres (lit< tt) own.centres.below turn.centres.pieces.size turn.centres.size i from i from (from == i)
    (λ same. sym (eqb-true from i same)) centre) three) h)

thirds_valid : All IsSkewb skewb_thirds
unfolding skewb_on_literals
thirds_valid =
    let turns = lawful_skewb.lawful.turns in
    All-from_recursion IsSkewb skewb_thirds
    (turns (Axis 0 1) _ refl, (turns (Axis 1 1) _ refl, (turns (Axis 2 1) _ refl, (turns (Axis 3 1) _ refl, tt))))

moved : are_moved 30 comes skewb_thirds SKEWB_MOVES ≡ true
unfolding comes three_comes centre_comes skewb_on_literals
moved = refl

solved_shown : skewb_shown solved_skewb ≡ solved_skewb_picture
unfolding skewb_shown skewb_sticker sticker_of skewb_on_literals solved_skewb_picture
solved_shown = refl

the_moves : SKEWB_MOVES ≡ skewb_moves
unfolding skewb_moves sources
the_moves = refl

pub skewb_played : (w : List Turn) (s : SkewbState) → play (after_letter skewb_powers) solved_skewb w ≡ Some s
    → play (stickers_after skewb_moves) solved_skewb_picture w ≡ Some (skewb_shown s)
unfolding skewb_shown
skewb_played w s e =
    ap (λ m. play (stickers_after m) solved_skewb_picture w) (sym the_moves)
    ∙ ap (λ p. play (stickers_after SKEWB_MOVES) p w) (sym solved_shown)
    ∙ shown-played skewb_monoid IsSkewb lawful_skewb.lawful.joined skewb_thirds thirds_valid SKEWB_MOVES solved_skewb_picture 30 skewb_sticker comes
    sticker-after moved w solved_skewb s lawful_skewb.lawful.joined.solved e
