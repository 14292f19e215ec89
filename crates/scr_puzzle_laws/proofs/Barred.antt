-- Letters lead nowhere exactly where one of them is barred in its place.
use Rattle.std.proofs.Common.{arith, ◌≡◌, ◌⊎◌, inl, inr, ◌↔◌, Bool, true, false, cond, List, [], ◌∷◌, Option, Some, None, refl, sym, ap, ◌∙◌}
use Rattle.std.proofs.lemmas.Bool.Decides.{nat_tests}
use Rattle.std.specs.Prelude.{IsFalse, option_and_then}
use Rattle.scr_combinatorics.specs.Play.{play}
use Rattle.scr_combinatorics.proofs.PlayLaws.{play-empty, play-first, play-append}
use Rattle.scr_notation.specs.declared.event.Event.TheVariants.{Sq1}
use Rattle.scr_notation.specs.declared.turn.Turn.{Turn}
use Rattle.scr_notation.specs.declared.turn.Turn.TheVariants.{Layers, Twist}
use Rattle.scr_notation.specs.Layers.{is_layer_turn}
use Rattle.scr_notation.specs.Turns.{permits}
use Rattle.scr_puzzle_laws.specs.Barred.{TurnsAcross, IsBarredAlong}
use Rattle.scr_sq1.specs.Units.{Sq1State, is_open, turned, after_layers, sq1_after}

-- ---- one letter

none_of : {X : Type 0} (b : Bool) (o : Option X) → (cond b o None ≡ None) ↔ ((b ≡ false) ⊎ (o ≡ None))
none_of true o = (inr, λ h. elim h [ inl off ↦ absurd (cc) | inr none ↦ none ])
none_of false o = (λ h. inl refl, λ h. refl)

some_or_none : {X : Type 0} (b : Bool) (x : X) → (let o : Option X = cond b (Some x) None in o ≡ None) ↔ (b ≡ false)
some_or_none true x = (λ h. absurd (cc), λ h. absurd (cc))
some_or_none false x = (λ h. refl, λ h. refl)

barred_letter : (s : Sq1State) (t : Turn) → sq1_after s t ≡ None → IsFalse (permits Sq1 t) ⊎ TurnsAcross s t
unfolding sq1_after after_layers
barred_letter s (Layers x y) e = grind (arith, nat_tests, none_of, some_or_none)
barred_letter s Twist e = absurd (cc)
barred_letter s _ e = inl refl

letter_barred : (s : Sq1State) (t : Turn) → IsFalse (permits Sq1 t) ⊎ TurnsAcross s t → sq1_after s t ≡ None
unfolding sq1_after after_layers
letter_barred s (Layers x y) h =
    (none_of (is_layer_turn (Layers x y)) (after_layers s x y)).1
    (elim h [ inl off ↦ inl off | inr across ↦ inr ((some_or_none (is_open (turned s x y).units) (turned s x y)).1 across) ])
letter_barred s Twist h = elim h [ inl off ↦ absurd (cc) | inr across ↦ absurd across ]
letter_barred s _ h = refl

-- ---- letters one after another

first_or_later : (s : Sq1State) (t : Turn) (w : List Turn)
    → ((r : Sq1State) → play sq1_after r w ≡ None → IsBarredAlong r w) → (o : Option Sq1State) → sq1_after s t ≡ o
    → play sq1_after s (t ∷ w) ≡ None → IsBarredAlong s (t ∷ w)
first_or_later s t w later None h e =
    record { before = []; letter = t; behind = w; state = s; word = refl; leads = play-empty sq1_after s; barred = barred_letter s t h }
first_or_later s t w later (Some r) h e =
    let rest = later r (sym (play-first sq1_after s r t w h) ∙ e) in
    record {
      before = t ∷ rest.before;
      letter = rest.letter;
      behind = rest.behind;
      state = rest.state;
      word = ap (λ v. t ∷ v) rest.word;
      leads = play-first sq1_after s r t rest.before h ∙ rest.leads;
      barred = rest.barred;
    }

barred_along : (w : List Turn) (s : Sq1State) → play sq1_after s w ≡ None → IsBarredAlong s w
barred_along [] s e = let empty = play-empty sq1_after s in absurd (cc)
barred_along (t ∷ w) s e = first_or_later s t w (barred_along w) (sq1_after s t) refl e

leads_nowhere : (w : List Turn) (s : Sq1State) → IsBarredAlong s w → play sq1_after s w ≡ None
unfolding play
leads_nowhere w s h =
    ap (play sq1_after s) h.word
    ∙ play-append sq1_after s h.state h.before (h.letter ∷ h.behind) h.leads
    ∙ ap (option_and_then (λ r. play sq1_after r h.behind)) (letter_barred h.state h.letter h.barred)

pub barred-iff : (s : Sq1State) (w : List Turn) → (play sq1_after s w ≡ None) ↔ IsBarredAlong s w
barred-iff s w = (barred_along w s, leads_nowhere w s)
