-- Turns of the layers lead no farther from a state before which no twist can be the first turn to solved.
use Rattle.std.proofs.Common.{◌≡◌, ℕ, suc, ◌<◌, ◌≤◌, true, false, List, [], ◌∷◌, length, Option, Some, None, refl, sym, ap, ◌∙◌, subst, arith}
use Rattle.std.specs.Prelude.{ℤ}
use Rattle.std.specs.Option.{is_some}
use Rattle.scr_combinatorics.specs.Play.{play}
use Rattle.scr_combinatorics.specs.Tidy.{word_of}
use Rattle.scr_combinatorics.proofs.PlayLaws.{play-parts, play-append}
use Rattle.scr_notation.specs.declared.turn.Turn.{Turn}
use Rattle.scr_notation.specs.declared.turn.Turn.TheVariants.{Layers, Twist}
use Rattle.scr_notation.specs.TurnNumbers.{layer_turn_at}
use Rattle.scr_notation.specs.Turning.{opposite, turn_merging}
use Rattle.scr_sq1.specs.Units.{Sq1State, IsSq1, solved_sq1, twisted, sq1_after, sq1_puzzle}
use Rattle.scr_sq1.proofs.Lawful.{IsLawful-sq1, sq1_after-twist}
use Rattle.scr_sq1far.specs.Levels.{key_of, HasLevel, AreTold, AreTurnsListed}
use Rattle.scr_sq1far.specs.Within.{IsWithin}
use Rattle.scr_sq1far.proofs.WithinLaws.{IsWithin-more, IsWithin-behind}

-- one turn or none, and a word behind it
merged-within : (r p end : Sq1State) (o : Option Turn) (v : List Turn) (most : ℕ) → play sq1_after r (word_of o) ≡ Some p
    → suc (length v) ≤ most → play sq1_after p v ≡ Some end → end ≡ solved_sq1 → IsWithin sq1_puzzle r most
unfolding word_of
merged-within r p end None v most made le plays home =
    (v, end, omega arith, play-append sq1_after r p [] v made ∙ plays, home)
merged-within r p end (Some t) v most made le plays home =
    (t ∷ v, end, omega arith, play-append sq1_after r p (t ∷ []) v made ∙ plays, home)

layers-within : (s r : Sq1State) (x y : ℤ) (most : ℕ) → IsSq1 s → 0 < most → sq1_after s (Layers x y) ≡ Some r
    → (IsWithin sq1_puzzle (twisted s) most → ⊥) → (w : List Turn) (end : Sq1State) → length w ≤ most
    → play sq1_after s w ≡ Some end → end ≡ solved_sq1 → IsWithin sq1_puzzle r most
unfolding sq1_after
layers-within s r x y most valid some e none [] end le plays home =
    IsWithin-more sq1_puzzle r 1 most (omega arith)
    (IsWithin-behind s r (Layers x y) 0 valid e ([], end, omega arith, plays, home))
layers-within s r x y most valid some e none (Twist ∷ v) end le plays home =
    let parts = play-parts sq1_after s end Twist v plays in
    absurd (none (v, end, omega arith, subst (λ q. play sq1_after q v ≡ Some end) (sq1_after-twist s parts.0 parts.1) parts.2, home))
layers-within s r x y most valid some e none (Layers z u ∷ v) end le plays home =
    let parts = play-parts sq1_after s end (Layers z u) v plays in
    let t = opposite (Layers x y) in
    let made =
    IsLawful-sq1.merges r s parts.0 t (Layers z u) (IsLawful-sq1.keeps s r (Layers x y) valid e) refl
    (IsLawful-sq1.undoes s r (Layers x y) valid e) parts.1 in
    merged-within r parts.0 end (turn_merging.merged t (Layers z u)) v most made (omega arith) parts.2 home
layers-within s r x y most valid some e none (u ∷ v) end le plays home =
    absurd (cc (play-parts sq1_after s end u v plays).1)

no_level : (level_of : ℕ → Option ℕ) (key most : ℕ) → is_some (level_of key) ≡ false → HasLevel most level_of key → ⊥
no_level level_of key most e h = absurd (let some : is_some (level_of key) ≡ true = ap is_some h.2 in cc)

-- So all turns from it are listed where the twist is.
module _ (s : Sq1State) (most level : ℕ) (f g : ℕ → Option ℕ) (valid : IsSq1 s) (some : 0 < most) (le : most ≤ level)
    (within : IsWithin sq1_puzzle s most) (told : AreTold most f) (fresh : is_some (f (key_of (twisted s))) ≡ false)
    (kept : (key n : ℕ) → f key ≡ Some n → g key ≡ Some n) (last : HasLevel level g (key_of (twisted s))) where
  none : IsWithin sq1_puzzle (twisted s) most → ⊥
  unfolding sq1_after
  none h =
      no_level f (key_of (twisted s)) most fresh
      (told (twisted s) most (IsLawful-sq1.keeps s (twisted s) Twist valid refl) (omega arith) h)

  turn_listed : (t : Turn) (r : Sq1State) → sq1_after s t ≡ Some r → HasLevel level g (key_of r)
  unfolding sq1_after
  turn_listed (Layers x y) r e =
      let h : HasLevel most f (key_of r) =
      told r most (IsLawful-sq1.keeps s r (Layers x y) valid e) (omega arith)
      (layers-within s r x y most valid some e none within.0 within.1 within.2 within.3 within.4) in
      (h.0, omega (arith, h.1), kept (key_of r) h.0 h.2)
  turn_listed Twist r e = subst (λ q. HasLevel level g (key_of q)) (sym (sq1_after-twist s r e)) last
  turn_listed _ r e = absurd (cc)

  pub AreTurnsListed-twist : AreTurnsListed level g s 144
  AreTurnsListed-twist n r lt e = turn_listed (layer_turn_at n) r e
