use Rattle.std.proofs.Common.{◌≡◌, ℕ, ◌-◌, Some, false, refl, sym, ap, ◌∙◌, subst, arith}
use Rattle.std.specs.Option.{is_some}
use Rattle.scr_notation.specs.TurnNumbers.{layer_turn_at}
use Rattle.scr_sq1.specs.Units.{twisted}
use Rattle.scr_sq1.proofs.NumberedTurns.{after-twist}
use Rattle.scr_sq1far.specs.Found.{level_in}
use Rattle.scr_sq1far.specs.Levels.{HasLevel, key_of}
use Rattle.scr_sq1far.proofs.LayersLaws.{AreTurnsListed-twist}
use Rattle.scr_sq1far.proofs.LevelLaws.{on_ok-map, on_ok-both}
use Rattle.scr_sq1far.proofs.WithinLaws.{IsWithin-next}
use Rattle.scr_sq1far.proofs.levels.Found.add_neighbours.Goals as goal

pub add-requires-clause-near : goal.add-requires-clause-near
add-requires-clause-near c =
    IsWithin-next c.args.state.now c.twist-twisted.result (layer_turn_at 65) c.args.level c.requires.level c.twist-twisted.ensures.valid
    (sym (after-twist c.args.state.now c.twist-twisted.result 65 refl c.twist-twisted.ensures.value)) c.requires.near

pub returns-clause-turns : goal.returns-clause-turns
returns-clause-turns c =
    let s = c.args.state.now in
    let f = level_in c.args.self.now in
    let g = level_in c.add.new.self in
    let fresh : is_some (f (key_of (twisted s))) ≡ false =
    ap (λ q. is_some (f (key_of q))) (sym c.twist-twisted.ensures.value) ∙ ap (λ k. is_some (f k)) (sym c.key_of.ensures.key)
    ∙ sym c.contains_key.ensures ∙ c.if-contains_key.false in
    on_ok-map c.add.result
    (λ (h : ((key n : ℕ) → f key ≡ Some n → g key ≡ Some n) × HasLevel c.args.level g (key_of c.twist-twisted.result)).
    AreTurnsListed-twist s (c.args.level - 1) c.args.level f g c.twist-twisted.ensures.valid (omega arith) (omega arith) c.requires.near
    c.requires.told fresh h.0 (subst (λ q. HasLevel c.args.level g (key_of q)) c.twist-twisted.ensures.value h.1))
    (on_ok-both ((key n : ℕ) → f key ≡ Some n → g key ≡ Some n) (HasLevel c.args.level g (key_of c.twist-twisted.result)) c.add.result
    (on_ok-map c.add.result (λ h. h.grows.kept) c.add.ensures.found) c.add.ensures.added)
