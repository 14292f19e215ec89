-- The program's own sheet agrees with what a checker expects of it.
use Rattle.std.proofs.Common.{◌≡◌, ℕ, zero, suc, ◌+◌, ◌-◌, ◌<◌, ◌≤◌, true, false, Bool, List, [], ◌∷◌, ◌++◌, length, map, Ok, Err, inl, inr, ◌⊎◌, refl, sym, ap, subst, ◌∙◌, arith, lit≤}
use Rattle.std.specs.Prelude.{All, Option, Some, None, Result, MatchOption, slice_get, slice_index_or, take, ◌==◌, if◌then◌else◌}
use Rattle.std.specs.List.{list_any}
use Rattle.std.proofs.lemmas.List.{take_all}
use Rattle.std.proofs.lemmas.List.Elements.{All-head, All-tail}
use Rattle.std.proofs.lemmas.Option.{same_Some, slice_get_within}
use Rattle.std.proofs.lemmas.Slice.Eq.{bytes_eq-Decides}
use Rattle.scr_check.specs.declared.fault.Missing.{Missing}
use Rattle.scr_check.specs.Agreement.{ExpectedLines, IsExpected, IsInOrder, LineAgrees}
use Rattle.scr_check.specs.Lines.{CutLine, cut_lines, IsPlain}
use Rattle.scr_check.specs.Parts.{sheet_part, list_part, list_room}
use Rattle.scr_check.proofs.CutLemmas.{cut-none, cut-ended}
use Rattle.scr_notation.specs.declared.event.Event.{Event}
use Rattle.scr_notation.specs.Spelling.{text_of}
use Rattle.scr_notation.specs.Written.{Written}
use Rattle.scr_text.specs.Lines.{text_of_lines}
use Rattle.scr_text.proofs.WrittenLines.{text_of_lines-append}
use Rattle.scr_words.specs.declared.seed.Seed.{Seed}
use Rattle.scr_list.specs.declared.fault.ListFault.{ListFault}
use Rattle.scr_list.specs.declared.round.Round.{Round}
use Rattle.scr_list.specs.Rounds.{IsRound, rounds_of}
use Rattle.scr_list.specs.Versions.{version_1, version_2, version_of, begins_with_version_line}
use Rattle.scr_list.proofs.RoundLemmas.{TellsLength, rounds_of-TellsLength}
use Rattle.scr_command.specs.declared.options.Options.{Options}
use Rattle.scr_round.specs.Round.{Line, Fixed, Slot, slots_of, round_lines, line_text}
use Rattle.scr_round.specs.Made.{turns_of_each}
use Rattle.scr_slots.specs.declared.settings.Settings.{Settings}
use Rattle.scr_slots.specs.Agreement.{TextAgrees}
use Rattle.scr_slots.specs.Events.{scrambling_of}
use Rattle.scr_slots.specs.Outcomes.{HasOneAnswer}
use Rattle.scr_slots.specs.Promised.{Promised, States, Moves}
use Rattle.scr_slots.specs.Slots.{Scrambling, ByState, ByMoves, IsSlotScramble, HasNoScramble, first_stream}
use Rattle.scr_sheet.specs.Check.{ListLine, list_lines, IsLineAnswer, IsAnswerAt, expected_lines, check_settings, rounds_in, InputComesTo}
use Rattle.scr_sheet.specs.Sheet.{settings_of, round_part, round_parts, EachSlot, AreScrambles, IsPartText, IsText}
use Rattle.scr_run_laws.proofs.CheckRuns.{named-rounds}
use Rattle.scr_round.proofs.CleanLaws.{IsClean, either, joined, text-clean}
use Rattle.scr_run_laws.proofs.OwnLines.{IsFit, round_lines-fit}

-- ---- a slot

-- Whether a text agrees with a slot doesn't depend on how much work its scramble took.
text-agrees : {promised : Promised} (scrambling : Scrambling promised) (seed : Seed) (options : Options) (least stream : ℕ) (s : Written)
    → IsSlotScramble scrambling (settings_of seed options) least stream s
    → TextAgrees scrambling (check_settings seed options.attempts) least stream (text_of s.turns)
text-agrees {promised = States S drawn} (ByState event numbers IsScramble) seed options least stream s is = record {
  scramble = s;
  written = is.written;
  event_is = is.event;
  is = refl;
  agree = record {
    state_at = is.turns.state_at;
    listing = is.turns.listing;
    is = record { state = is.turns.is.of_state.state; draws = is.turns.is.of_state.draws; lead = is.turns.is.of_state.gives };
  };
}
text-agrees {promised = Moves random} (ByMoves event) seed options least stream s is =
    record { scramble = s; written = is.written; event_is = is.event; is = refl; agree = is.turns }

-- And a slot that has a scramble is one that has some for the check.
never-none : {promised : Promised} (scrambling : Scrambling promised) (seed : Seed) (options : Options) (least stream : ℕ) (s : Written)
    → HasOneAnswer scrambling least → IsSlotScramble scrambling (settings_of seed options) least stream s
    → HasNoScramble scrambling (check_settings seed options.attempts) least stream → ⊥
never-none {promised = States S drawn} (ByState event numbers IsScramble) seed options least stream s one is none =
    let same = one (settings_of seed options) stream (Some s) None is none in
    cc
never-none {promised = Moves random} (ByMoves event) seed options least stream s one is none =
    let same = one (settings_of seed options) stream (Some s) None is none in
    cc

-- the scramble of a slot of some
record StandsAt (Is : ℕ → Written → Type 0) (stream : ℕ) (scrambles : List Written) (slot : ℕ) : Type 0 where
  scramble : Written
  there : slice_index_or (turns_of_each scrambles) slot [] ≡ scramble.turns
  is : Is (stream + slot) scramble

slot-stands : (Is : ℕ → Written → Type 0) (stream : ℕ) (scrambles : List Written) (slot : ℕ) → EachSlot Is stream scrambles
    → slot < length scrambles → StandsAt Is stream scrambles slot
slot-stands Is stream [] slot each below = absurd (omega (arith, below))
slot-stands Is stream (s ∷ scrambles) zero each below =
    let place : stream ≡ stream + 0 = omega arith in
    record { scramble = s; there = refl; is = subst (λ n. Is n s) place each.0 }
slot-stands Is stream (s ∷ scrambles) (suc slot) each below =
    let fewer : slot < length scrambles = omega (arith, below) in
    let place : stream + 1 + slot ≡ stream + suc slot = omega arith in
    let it = slot-stands Is (stream + 1) scrambles slot each.1 fewer in
    record { scramble = it.scramble; there = it.there; is = subst (λ n. Is n it.scramble) place it.is }

-- each slot has one answer
abbrev pub HaveOneAnswer : Type 0
HaveOneAnswer = (event : Event) (least : ℕ) → HasOneAnswer (scrambling_of event) least

-- ---- a line

-- A text has no line feed, it agrees with this line, and the line's slot isn't missing.
record IsOwn (settings : Settings) (line : ListLine) (text : List ℕ) : Type 0 where
  clean : IsClean text
  agrees : IsLineAnswer settings line.k line.round line.line text (Ok true)
  there : (missing : Missing) → IsLineAnswer settings line.k line.round line.line text (Err missing) → ⊥

module _ (one : HaveOneAnswer) (seed : Seed) (options : Options) (k : ℕ) (round : Round) (scrambles : List Written)
    (are : AreScrambles (settings_of seed options) (round_part k round) (slots_of round) scrambles) where
  abbrev listed : Line → ListLine
  listed line = record { k = k; round = round; line = line }

  abbrev shown : Line → List ℕ
  shown = line_text (turns_of_each scrambles)

  own-line : (line : Line) → IsFit (slots_of round) line → IsOwn (check_settings seed options.attempts) (listed line) (shown line)
  own-line (Fixed own) fit = record {
    clean = fit;
    agrees = ap Ok (sym ((bytes_eq-Decides own own).1 refl));
    there = λ missing is. cc;
  }
  own-line (Slot label slot) fit =
      let size = are.each_slot in
      let it = slot-stands (IsSlotScramble (scrambling_of round.event) (settings_of seed options) round.least) (first_stream k) scrambles slot
      are.each (omega (arith, size, fit.1)) in
      let some = never-none (scrambling_of round.event) seed options round.least (first_stream k + slot) it.scramble
      (one round.event round.least) it.is in
      record {
        clean = joined label (text_of (slice_index_or (turns_of_each scrambles) slot [])) fit.0 (text-clean _);
        agrees = (
          some,
          (
            λ yes. record {
              behind = text_of it.scramble.turns;
              is = ap (λ turns. label ++ text_of turns) it.there;
              agrees = text-agrees (scrambling_of round.event) seed options round.least (first_stream k + slot) it.scramble it.is;
            },
            λ so. refl,
          ),
        );
        there = λ missing is. some is.0;
      }

-- ---- lines one after another

-- these are such texts of these lines
abbrev AreOwn : Settings → List ListLine → List (List ℕ) → Type 0
AreOwn settings [] [] = Unit {0}
AreOwn settings [] (text ∷ texts) = ⊥
AreOwn settings (line ∷ lines) [] = ⊥
AreOwn settings (line ∷ lines) (text ∷ texts) = IsOwn settings line text × AreOwn settings lines texts

AreOwn-append : (settings : Settings) (lines more : List ListLine) (texts others : List (List ℕ)) → AreOwn settings lines texts
    → AreOwn settings more others → AreOwn settings (lines ++ more) (texts ++ others)
AreOwn-append settings [] more [] others own rest = rest
AreOwn-append settings [] more (text ∷ texts) others own rest = absurd own
AreOwn-append settings (line ∷ lines) more [] others own rest = absurd own
AreOwn-append settings (line ∷ lines) more (text ∷ texts) others own rest = (own.0, AreOwn-append settings lines more texts others own.1 rest)

AreOwn-map : (settings : Settings) (at : Line → ListLine) (text : Line → List ℕ) (P : Line → Type 0)
    → ((line : Line) → P line → IsOwn settings (at line) (text line)) → (lines : List Line) → All P lines
    → AreOwn settings (map at lines) (map text lines)
AreOwn-map settings at text P each [] all = tt
AreOwn-map settings at text P each (line ∷ lines) all =
    (each line (All-head P line lines all), AreOwn-map settings at text P each lines (All-tail P line lines all))

-- ---- the text of a list's sheet

record HasLines (settings : Settings) (lines : List ListLine) (text : List ℕ) : Type 0 where
  texts : List (List ℕ)
  is : text ≡ text_of_lines texts
  own : AreOwn settings lines texts

own-text : (one : HaveOneAnswer) (seed : Seed) (options : Options) (k : ℕ) (rounds : List Round) (text : List ℕ) → k + length rounds ≤ 256
    → All IsRound rounds → IsText (IsPartText (settings_of seed options)) (round_parts k rounds) text
    → HasLines (check_settings seed options.attempts) (list_lines k rounds) text
own-text one seed options k [] text few each is = record { texts = []; is = is; own = tt }
own-text one seed options k (round ∷ rounds) text few each is =
    let checked = check_settings seed options.attempts in
    let part = is.2 in
    let fit = round_lines-fit k round (omega (arith, few)) (All-head IsRound round rounds each) in
    let f : Line → ListLine = λ line. record { k = k; round = round; line = line } in
    let g : Line → List ℕ = line_text (turns_of_each part.scrambles) in
    let here = AreOwn-map checked f g (IsFit (slots_of round)) (own-line one seed options k round part.scrambles part.all) (round_lines k round) fit in
    let behind = own-text one seed options (k + 1) rounds is.1 (omega (arith, few)) (All-tail IsRound round rounds each) is.3 in
    let texts = map g (round_lines k round) in
    record {
      texts = texts ++ behind.texts;
      is =
          is.4 ∙ ap (λ t. t ++ is.1) part.is ∙ ap (λ t. text_of_lines texts ++ t) behind.is
          ∙ sym (text_of_lines-append texts behind.texts);
      own = AreOwn-append checked (map f (round_lines k round)) (list_lines (k + 1) rounds) texts behind.texts here behind.own;
    }

-- ---- a check of it

plain-of : (text : List ℕ) → IsClean text → IsPlain text
unfolding IsPlain
plain-of [] clean = tt
plain-of (byte ∷ text) clean =
    let parts = either (byte == 10) (list_any (λ x. x == 10) text) clean in
    (parts.0, plain-of text parts.1)

abbrev ended : List ℕ → CutLine
ended text = record { bytes = text; ended = true }

module _ (settings : Settings) where
  cut-own : (lines : List ListLine) (texts : List (List ℕ)) → AreOwn settings lines texts
      → cut_lines (text_of_lines texts) ≡ map ended texts
  cut-own [] [] own = cut-none
  cut-own [] (text ∷ texts) own = absurd own
  cut-own (line ∷ lines) [] own = absurd own
  cut-own (line ∷ lines) (text ∷ texts) own =
      cut-ended text (text_of_lines texts) (plain-of text own.0.clean) ∙ ap (λ x. ended text ∷ x) (cut-own lines texts own.1)

  -- a line and its text, with the same number
  record Meet (lines : List ListLine) (texts : List (List ℕ)) (j : ℕ) : Type 0 where
    line : ListLine
    text : List ℕ
    line_there : slice_get lines j ≡ Some line
    text_there : slice_get (map ended texts) j ≡ Some (ended text)
    own : IsOwn settings line text

  meet : (lines : List ListLine) (texts : List (List ℕ)) (j : ℕ) → AreOwn settings lines texts
      → ((slice_get (map ended texts) j ≡ None) × (length lines ≤ j)) ⊎ Meet lines texts j
  meet [] [] j own = inl (refl, omega arith)
  meet [] (text ∷ texts) j own = absurd own
  meet (line ∷ lines) [] j own = absurd own
  meet (line ∷ lines) (text ∷ texts) zero own =
      inr (record { line = line; text = text; line_there = refl; text_there = refl; own = own.0 })
  meet (line ∷ lines) (text ∷ texts) (suc j) own = elim (meet lines texts j own.1) [
    | inl none ↦ inl (none.0, omega (arith, none.1))
    | inr it ↦ inr (record { line = it.line; text = it.text; line_there = it.line_there; text_there = it.text_there; own = it.own })
  ]

  abbrev expected : List ListLine → ExpectedLines
  expected lines = record { count = length lines; IsAnswer = IsAnswerAt settings lines }

  abbrev InOrder : List ListLine → ℕ → Option CutLine → Type 0
  InOrder lines i found =
      MatchOption found (IsExpected (expected lines) i → ⊥) (λ l. IsExpected (expected lines) i × LineAgrees (expected lines) i l
      × ((missing : Missing) → (expected lines).IsAnswer i l.bytes (Err missing) → ⊥))

  meet-order : (lines : List ListLine) (texts : List (List ℕ)) (j : ℕ) (it : Meet lines texts j)
      → InOrder lines (suc j) (Some (ended it.text))
  meet-order lines texts j it =
      let before : suc j - 1 ≡ j = omega arith in
      let there : slice_get lines (suc j - 1) ≡ Some it.line = ap (slice_get lines) before ∙ it.line_there in
      let below = slice_get_within lines j it.line it.line_there in (
        (omega arith, omega (arith, below)),
        (refl, record { line = it.line; there = there; answered = it.own.agrees }),
        λ missing is.
            let same : is.line ≡ it.line = same_Some is.line it.line (sym is.there ∙ there) in
            let P : ListLine → Type 0 = λ l. IsLineAnswer settings l.k l.round l.line it.text (Err missing) in
            it.own.there missing (subst P same is.answered),
      )

  in-order : (lines : List ListLine) (texts : List (List ℕ)) → AreOwn settings lines texts → (i : ℕ)
      → IsInOrder (expected lines) (map ended texts) i
  in-order lines texts own zero = λ is. let no : ⊥ = omega (arith, is.0) in no
  in-order lines texts own (suc j) = elim (meet lines texts j own) [
    | inl none ↦
        subst (InOrder lines (suc j)) (sym none.0) (λ is. let past = none.1 in let within = is.1 in let no : ⊥ = omega (arith, past, within) in no)
    | inr it ↦ subst (InOrder lines (suc j)) (sym it.text_there) (meet-order lines texts j it)
  ]

-- a check of an input whose sheet part is the sheet of the rounds that its list part names
pub own-agrees : HaveOneAnswer → (seed : Seed) (options : Options) (rounds : List Round) (input : List ℕ) → rounds_in input ≡ Ok rounds
    → IsText (IsPartText (settings_of seed options)) (round_parts 0 rounds) (sheet_part input)
    → InputComesTo (check_settings seed options.attempts) (rounds_in input) input (Ok tt)
own-agrees one seed options rounds input named is =
    let checked = check_settings seed options.attempts in
    let valid = named-rounds (take list_room (list_part input)) rounds named in
    let it = own-text one seed options 0 rounds (sheet_part input) (let few = valid.few in omega (arith, few)) valid.each is in
    let lines = ap cut_lines it.is ∙ cut-own checked (list_lines 0 rounds) it.texts it.own in
    let P : Result (List Round) ListFault → Type 0 = λ r. InputComesTo checked r input (Ok tt) in
    subst P (sym named) (
      Ok tt,
      λ i. subst (λ l. IsInOrder (expected_lines checked rounds) l i) (sym lines) (in-order checked (list_lines 0 rounds) it.texts it.own i),
      refl,
    )

-- ---- a list, a line that separates, and its sheet

most-room : (test : Bool) → (if test then version_2 else version_1).most_bytes ≤ 16384
most-room true = lit≤ tt
most-room false = lit≤ tt

-- a list that names rounds is no longer than is read of it
list-short : (list : List ℕ) (rounds : List Round) → rounds_of list ≡ Ok rounds → length list ≤ list_room
unfolding version_of
list-short list rounds named =
    let short = subst (TellsLength (version_of list).most_bytes list) named (rounds_of-TellsLength list) in
    let most = most-room (begins_with_version_line list) in
    omega (arith, short, most)

-- where those are the parts of an input
pub own-agrees-in : HaveOneAnswer → (seed : Seed) (options : Options) (rounds : List Round) (list text input : List ℕ)
    → list_part input ≡ list → sheet_part input ≡ text → rounds_of list ≡ Ok rounds
    → IsText (IsPartText (settings_of seed options)) (round_parts 0 rounds) text
    → InputComesTo (check_settings seed options.attempts) (rounds_in input) input (Ok tt)
own-agrees-in one seed options rounds list text input list_is text_is named is =
    let short = take_all list_room list (list-short list rounds named) in
    own-agrees one seed options rounds input (ap (λ l. rounds_of (take list_room l)) list_is ∙ ap rounds_of short ∙ named)
    (subst (IsText (IsPartText (settings_of seed options)) (round_parts 0 rounds)) (sym text_is) is)
