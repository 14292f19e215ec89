-- What a run writes is fair in pictures, since it is fair by states: whatever follows from what is said of scrambles may be
-- said of them in its place.
use Rattle.std.proofs.Common.{◌≡◌, ◌⊎◌, inl, inr, ℕ, ◌+◌, List, [], ◌∷◌}
use Rattle.scr_outside.specs.Change.{Change}
use Rattle.scr_notation.specs.declared.event.Event.{Event}
use Rattle.scr_notation.specs.declared.turn.Turn.{Turn}
use Rattle.scr_slots.specs.declared.settings.Settings.{Settings}
use Rattle.scr_slots.specs.Slots.{first_stream}
use Rattle.scr_slots.specs.Events.{promised_of}
use Rattle.scr_sheet.specs.Headline.{AreFairScrambles, IsFairRound, AreFairRounds, no_round, another, IsFairLine, WritesOnly, IsFairRun}
use Rattle.scr_picture_laws.specs.FairPictures.{AreFairPictures}
use Rattle.scr_picture_laws.proofs.FairScrambles.{fair_pictures}

module _ (Are Other : Event → Settings → ℕ → ℕ → List (List Turn) → Type 0)
    (follows : (event : Event) (settings : Settings) (least stream : ℕ) (scrambles : List (List Turn)) → Are event settings least stream scrambles → Other event settings least stream scrambles) where
  round : (k : ℕ) (settings : Settings) (text : List ℕ) → IsFairRound Are k settings text → IsFairRound Other k settings text
  round k settings text h = record {
    round = h.round;
    scrambles = h.scrambles;
    few_groups = h.few_groups;
    each_slot = h.each_slot;
    fair = follows h.round.event settings h.round.least (first_stream k) h.scrambles h.fair;
    below = h.below;
    in_order = h.in_order;
    one_line = h.one_line;
    is = h.is;
  }

  rounds : (k : ℕ) (settings : Settings) (text : List ℕ) → AreFairRounds Are k settings text → AreFairRounds Other k settings text
  rounds _ _ _ (no_round k settings) = no_round k settings
  rounds _ _ _ (another k settings first rest is others) =
      another k settings first rest (round k settings first is) (rounds (k + 1) settings rest others)

  line : (below : List ℕ) (settings : Settings) (text : List ℕ) → IsFairLine Are below settings text → IsFairLine Other below settings text
  line below settings text h = record {
    event = h.event;
    turns = h.turns;
    fair = follows h.event settings 0 0 (h.turns ∷ []) h.fair;
    is = h.is;
  }

writes : (Is Other : Settings → List ℕ → Type 0) (out : Change) → ((settings : Settings) (text : List ℕ) → Is settings text → Other settings text)
    → WritesOnly Is out → WritesOnly Other out
writes Is Other out other h = record {
  settings = h.settings;
  text = h.text;
  such = elim h.such as (λ _. (h.text ≡ []) ⊎ Other h.settings h.text) [ inl none ↦ inl none | inr is ↦ inr (other h.settings h.text is) ];
  written = h.written;
}

-- what the headline says of an event's scrambles
abbrev AreFair : Event → Settings → ℕ → ℕ → List (List Turn) → Type 0
AreFair event = AreFairScrambles (promised_of event)

pub run_pictured : (words : List (List ℕ)) (out : Change) → IsFairRun AreFair words out → IsFairRun AreFairPictures words out
run_pictured [] out h = tt
run_pictured (command ∷ words) out h = (
  λ e. writes (IsFairLine AreFair []) (IsFairLine AreFairPictures []) out (line AreFair AreFairPictures fair_pictures []) (h.0 e),
  λ e. writes (λ settings text. (below : List ℕ) × IsFairLine AreFair below settings text) (λ settings text. (below : List ℕ) × IsFairLine AreFairPictures below settings text) out
      (λ settings text is. (is.0, line AreFair AreFairPictures fair_pictures is.0 settings text is.1)) (h.1 e),
  λ e. writes (AreFairRounds AreFair 0) (AreFairRounds AreFairPictures 0) out (rounds AreFair AreFairPictures fair_pictures 0) (h.2 e),
)
