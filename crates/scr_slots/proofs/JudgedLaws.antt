-- What a text is judged to be, by the state that a slot draws and by what the text is read as.
use Rattle.std.proofs.Common.{◌≡◌, ℕ, ◌≤◌, Bool, false, List, IsTrue, sym, ap, ◌∙◌}
use Rattle.std.specs.Prelude.{Option, Some, None, ◌↔◌}
use Rattle.std.specs.Str.{bytes_eq}
use Rattle.std.proofs.lemmas.Option.{same_Some}
use Rattle.std.proofs.lemmas.Slice.Eq.{bytes_eq-Decides}
use Rattle.scr_combinatorics.specs.Numbered.{Numbers}
use Rattle.scr_combinatorics.specs.Reach.{Puzzle}
use Rattle.scr_notation.specs.declared.event.Event.{Event}
use Rattle.scr_notation.specs.declared.turn.Turn.{Turn}
use Rattle.scr_notation.specs.Reading.{IsParsed}
use Rattle.scr_notation.specs.Spelling.{text_of}
use Rattle.scr_notation.specs.Written.{Written, IsWritten}
use Rattle.scr_notation.proofs.ReadLaws.{one-scramble}
use Rattle.scr_slots.specs.declared.settings.Settings.{Settings}
use Rattle.scr_slots.specs.Promised.{RandomMoves, Moves, slot_numbers}
use Rattle.scr_slots.specs.Slots.{ByMoves, ByListing, IsSlotAnswer}
use Rattle.scr_slots.specs.Agreement.{LeadToDrawn, IsTextOf, IsTold, IsJudged}
use Rattle.scr_slots.proofs.Listings.{IsOutcome, one-outcome}

module _ {S : Type 0} (event : Event) (n : Numbers S) (puzzle : Puzzle S) (played : List Turn → Option S) (settings : Settings)
    (least stream : ℕ) (text : List ℕ) (some : 1 ≤ n.count) (state : S)
    (draws : IsOutcome n puzzle least (slot_numbers settings stream) (Some state)) where
  abbrev pub IsVerdict : Option Bool → Type 0
  IsVerdict = IsTold (IsOutcome n puzzle least (slot_numbers settings stream) None)
      (IsTextOf event (λ turns. ByListing n puzzle (LeadToDrawn played settings least stream turns)) text)

  drawn_some : IsOutcome n puzzle least (slot_numbers settings stream) None → ⊥
  drawn_some none = let same = one-outcome n puzzle least some (slot_numbers settings stream) None (Some state) none draws in cc

  -- a text that is no scramble's doesn't agree
  pub judged-unread : IsParsed event text None → IsVerdict (Some false)
  judged-unread none = (drawn_some, (λ is. cc, λ it. absurd (none it.scramble it.written it.event_is it.is)))

  -- and that of a scramble agrees where the scramble leads to the state
  pub judged-read : (s : Written) → IsParsed event text (Some s) → (told : Bool)
      → IsTrue told ↔ played s.turns ≡ Some state → IsVerdict (Some told)
  judged-read s read told leads = (
    drawn_some,
    (
      λ is. record {
        scramble = s;
        written = read.0;
        event_is = read.1;
        is = read.2;
        agree = record {
          state_at = draws.state_at;
          listing = draws.listing;
          is = record { state = state; draws = draws.is; lead = leads.0 is };
        };
      },
      λ it.
          let same : s ≡ it.scramble = one-scramble s it.scramble read.0 it.written (it.event_is ∙ sym read.1) (it.is ∙ sym read.2) in
          let other : IsOutcome n puzzle least (slot_numbers settings stream) (Some it.agree.is.state) =
          record { state_at = it.agree.state_at; listing = it.agree.listing; is = it.agree.is.draws } in
          let reached : state ≡ it.agree.is.state =
          same_Some state it.agree.is.state (one-outcome n puzzle least some (slot_numbers settings stream) (Some state) (Some it.agree.is.state) draws other) in
          leads.1 (ap (λ (w : Written). played w.turns) same ∙ it.agree.is.lead ∙ ap Some (sym reached)),
    ),
  )

-- What is told of a text and random moves, of which there are some.
pub judged-moves : (event : Event) (random : RandomMoves) (settings : Settings) (least stream : ℕ) (text : List ℕ) (s : Written)
    → IsWritten s → IsSlotAnswer {promised = Moves random} (ByMoves event) settings least stream (Some s)
    → IsJudged {promised = Moves random} (ByMoves event) settings least stream text (Some (bytes_eq (text_of s.turns) text))
judged-moves event random settings least stream text s written has = (
  λ none. let same : Some s.turns ≡ None = sym has.turns ∙ none in cc,
  (
    λ is. record {
      scramble = s;
      written = written;
      event_is = has.event;
      is = (bytes_eq-Decides (text_of s.turns) text).0 is;
      agree = has.turns;
    },
    λ it.
        let same : s.turns ≡ it.scramble.turns = same_Some s.turns it.scramble.turns (sym has.turns ∙ it.agree) in
        (bytes_eq-Decides (text_of s.turns) text).1 (ap text_of same ∙ it.is),
  ),
)
