-- What is written of scrambles is fair.
use Rattle.std.proofs.Common.{◌≡◌, ◌∙◌, ℕ, ◌+◌, ◌⊎◌, Bool, true, false, cond, List, [], ◌∷◌, ◌++◌, length, Ok, Err, inl, inr, refl, sym, subst, append-nil, append_assoc, arith, All}
use Rattle.std.proofs.lemmas.List.{length-map}
use Rattle.std.proofs.lemmas.List.Elements.{All-head, All-tail}
use Rattle.std.specs.Prelude.{Result, Option, Some, None, is_some, not, ok_or, codes}
use Rattle.std.specs.Result.{result_map_both}
use Rattle.scr_outside.specs.Change.{Change, Gains, Falters}
use Rattle.scr_notation.specs.Written.{Written}
use Rattle.scr_notation.specs.declared.event.Event.{Event}
use Rattle.scr_notation.specs.Event.{net_side_of}
use Rattle.scr_notation.specs.declared.turn.Turn.{Turn}
use Rattle.scr_words.specs.declared.seed.Seed.{Seed}
use Rattle.scr_words.specs.declared.seed.SeedFault.{SeedFault}
use Rattle.scr_words.specs.Seed.{seed_of}
use Rattle.scr_command.specs.declared.command.Command.{Command}
use Rattle.scr_command.specs.declared.command.Command.TheVariants.{One, Sheet, Net}
use Rattle.scr_command.specs.declared.command.UsageFault.{UsageFault}
use Rattle.scr_command.specs.declared.command.UsageFault.TheVariants.{Grammar, NoSeed}
use Rattle.scr_command.specs.declared.options.Options.{Options}
use Rattle.scr_command.specs.OptionTable.{sheet_options}
use Rattle.scr_options.specs.OptionWords.{Values, options_of}
use Rattle.scr_text.specs.Steps.{and_then}
use Rattle.scr_command.specs.Command.{command_of, event_for, seeded, sheet_of}
use Rattle.scr_list.specs.declared.round.Round.{Round}
use Rattle.scr_list.specs.Rounds.{IsRound}
use Rattle.scr_list.proofs.NameLemmas.{name-bytes}
use Rattle.scr_list.proofs.RoundFacts.{rounds_of-IsRounds}
use Rattle.scr_round.specs.Made.{turns_of_each}
use Rattle.scr_slots.specs.declared.settings.Settings.{Settings}
use Rattle.scr_slots.specs.Promised.{Promised, States, Moves, slot_numbers}
use Rattle.scr_slots.specs.Slots.{Scrambling, ByState, ByMoves, IsSlotScramble, IsDrawnFairly}
use Rattle.scr_slots.specs.Events.{promised_of}
use Rattle.scr_slots.proofs.Listings.{Draws-alike}
use Rattle.scr_fault.specs.declared.fault.Fault.{Fault}
use Rattle.scr_fault.specs.declared.fault.Fault.TheVariants as fault
use Rattle.scr_sheet.specs.Sheet.{Part, round_part, round_parts, single_part, line_of, shown_net, EachSlot, IsPartText, IsText}
use Rattle.scr_sheet.specs.Outcome.{IsLed, EndsParts, EndsMaking, Ends, IsPerformed, IsUnwritten}
use Rattle.scr_sheet.specs.Headline.{AreFairScrambles, IsFairRound, AreFairRounds, no_round, another, IsFairLine, WritesOnly, IsFairRun}
use Rattle.scr_sheet.proofs.SlotOrder.{round-in_order}
use Rattle.scr_sheet.proofs.PartLaws.{EachSlot-map}
use Rattle.scr_sheet.proofs.FairParts.{IsFairPart}

-- what the headline says of an event's scrambles
abbrev AreFair : Event → Settings → ℕ → ℕ → List (List Turn) → Type 0
AreFair event = AreFairScrambles (promised_of event)

-- the scrambles of slots of an event that is drawn fairly
fair_scrambles : {promised : Promised} (scrambling : Scrambling promised) (settings : Settings) (least stream : ℕ) (scrambles : List Written)
    → IsDrawnFairly scrambling least → EachSlot (IsSlotScramble scrambling settings least) stream scrambles
    → AreFairScrambles promised settings least stream (turns_of_each scrambles)
fair_scrambles {promised = States S drawn} (ByState event numbers IsScramble) settings least stream scrambles fair each = (
  numbers.count,
  fair.state_at,
  (
    fair.is,
    EachSlot-map _ _ (λ (w : Written). w.turns)
        (λ s w is.
        let given = is.turns.is.of_state in record {
          state = given.state;
          draws = Draws-alike numbers drawn.puzzle is.turns.state_at fair.state_at is.turns.listing fair.listing
              least (slot_numbers settings s) (Some given.state) given.draws;
          permitted = given.permitted;
          gives = given.gives;
          within = given.within;
        }) stream scrambles each,
  ),
)
fair_scrambles {promised = Moves random} (ByMoves event) settings least stream scrambles fair each =
    (fair, EachSlot-map _ _ (λ (w : Written). w.turns) (λ s w is. is.turns) stream scrambles each)

-- ---- parts

-- the text of a part's scrambles, one for each slot, which are fair
record IsFairText (settings : Settings) (part : Part) (text : List ℕ) : Type 0 where
  scrambles : List (List Turn)
  each_slot : length scrambles ≡ part.slots
  fair : AreFairScrambles (promised_of part.event) settings part.least part.first_stream scrambles
  is : text ≡ part.text scrambles

-- so is the text of a part that is drawn fairly
fair_text : (settings : Settings) (part : Part) (text : List ℕ) → IsFairPart part → IsPartText settings part text
    → IsFairText settings part text
fair_text settings part text fair is = grind (arith, length-map, fair_scrambles)

-- and of leading parts
fair_texts : (settings : Settings) (led rest : List Part) (text : List ℕ) → All IsFairPart (led ++ rest)
    → IsText (IsPartText settings) led text → IsText (IsFairText settings) led text
fair_texts settings [] rest text fair is = is
fair_texts settings (part ∷ led) rest text fair is =
    let more = fair_texts settings led rest is.1 (All-tail IsFairPart part (led ++ rest) fair) is.3 in
    grind (arith, fair_text, All-head, All-tail)

-- what was written of parts is the text of the first of them, which are fair, or a first part of that text
record IsFairlyLed (settings : Settings) (parts : List Part) (out : Change) : Type 0 where
  led : List Part
  rest : List Part
  are : parts ≡ led ++ rest
  text : List ℕ
  fair : IsText (IsFairText settings) led text
  written : Gains out text ⊎ Falters out text

fair-led : (settings : Settings) (parts : List Part) (out : Change) (Is : List ℕ → Type 0) (Leaves : ℕ → List Part → Type 0)
    → All IsFairPart parts → ((text : List ℕ) → Is text → Gains out text ⊎ Falters out text)
    → IsLed settings parts Is Leaves → IsFairlyLed settings parts out
fair-led settings parts out Is Leaves fair writes ends = record {
  led = ends.led;
  rest = ends.rest;
  are = ends.are;
  text = ends.text;
  fair = fair_texts settings ends.led ends.rest ends.text (subst (All IsFairPart) ends.are fair) ends.has;
  written = writes ends.text ends.is;
}

-- so it is however parts end
fair-parts : (settings : Settings) (k : ℕ) (parts : List Part) (out : Change) (ended : Result (Unit {0}) Fault)
    → All IsFairPart parts → EndsParts settings k parts out ended → IsFairlyLed settings parts out
fair-parts settings k parts out (Ok u) fair ends =
    fair-led settings parts out (Gains out) _ fair (λ text. inl) ends
fair-parts settings k parts out (Err (fault.DrawLimit missing)) fair ends =
    fair-led settings parts out (Gains out) _ fair (λ text. inl) ends
fair-parts settings k parts out (Err fault.Write) fair ends =
    fair-led settings parts out (Falters out) _ fair (λ text. inr) ends
fair-parts settings k parts out (Err why) fair ends = absurd ends

fair-making : (settings : Settings) (parts : List Part) (out : Change) (ended : Result (Unit {0}) Fault)
    → EndsMaking settings parts out ended → IsFairlyLed settings parts out
fair-making settings parts out ended making = grind (arith, fair-parts)

-- ---- one line

-- of one part its text was written, or nothing
led-one : (settings : Settings) (part : Part) (led rest : List Part) (text : List ℕ) → part ∷ [] ≡ led ++ rest
    → IsText (IsFairText settings) led text → (text ≡ []) ⊎ IsFairText settings part text
led-one settings part [] rest text are fair = inl fair
led-one settings part (first ∷ []) rest text are fair = grind (arith, append-nil)
led-one settings part (first ∷ second ∷ led) rest text are fair = grind arith

-- the one scramble of a part, and what is written of it
record IsFairSingle (settings : Settings) (event : Event) (side : Option ℕ) (text : List ℕ) : Type 0 where
  turns : List Turn
  fair : AreFairScrambles (promised_of event) settings 0 0 (turns ∷ [])
  is : text ≡ line_of turns ++ shown_net side turns

fair-single : (settings : Settings) (event : Event) (side : Option ℕ) (text : List ℕ)
    → IsFairText settings (single_part event side) text → IsFairSingle settings event side text
fair-single settings event side text it = of_scrambles it.scrambles it.each_slot it.fair it.is
  where
    of_scrambles : (scrambles : List (List Turn)) → length scrambles ≡ 1
        → AreFairScrambles (promised_of event) settings 0 0 scrambles → text ≡ (single_part event side).text scrambles
        → IsFairSingle settings event side text
    of_scrambles [] size fair is = absurd (omega (arith, size))
    of_scrambles (turns ∷ []) size fair is = record { turns = turns; fair = fair; is = is }
    of_scrambles (turns ∷ other ∷ others) size fair is = absurd (omega (arith, size))

-- what a command of one scramble writes
single-writes : (Is : Settings → List ℕ → Type 0) (settings : Settings) (event : Event) (side : Option ℕ) (out : Change)
    (ended : Result (Unit {0}) Fault) → ((text : List ℕ) → IsFairSingle settings event side text → Is settings text)
    → EndsMaking settings (single_part event side ∷ []) out ended → WritesOnly Is out
single-writes Is settings event side out ended so making =
    let led = fair-making settings (single_part event side ∷ []) out ended making in
    let text = led-one settings (single_part event side) led.led led.rest led.text led.are led.fair in
    record {
      settings = settings;
      text = led.text;
      such = elim text [ inl none ↦ inl none | inr it ↦ inr (so led.text (fair-single settings event side led.text it)) ];
      written = led.written;
    }

-- ---- rounds

fair-round : (settings : Settings) (k : ℕ) (round : Round) (text : List ℕ) → IsRound round
    → IsFairText settings (round_part k round) text → IsFairRound AreFair k settings text
fair-round settings k round text is_round it =
    let order = round-in_order k round it.scrambles it.each_slot in
    record {
      round = round;
      scrambles = it.scrambles;
      few_groups = is_round.few_groups;
      each_slot = it.each_slot;
      fair = it.fair;
      below = order.0;
      in_order = order.1;
      one_line = name-bytes round.name is_round.name;
      is = it.is ∙ order.2;
    }

-- the first of a list's parts are rounds
fair-rounds : (settings : Settings) (k : ℕ) (rounds : List Round) (led rest : List Part) (text : List ℕ)
    → All IsRound rounds → round_parts k rounds ≡ led ++ rest → IsText (IsFairText settings) led text
    → AreFairRounds AreFair k settings text
fair-rounds settings k rounds [] rest text each are fair = subst (AreFairRounds AreFair k settings) (sym fair) (no_round k settings)
fair-rounds settings k [] (part ∷ led) rest text each are fair = grind arith
fair-rounds settings k (round ∷ rounds) (part ∷ led) rest text each are fair =
    let same : part ≡ round_part k round = cc in
    let others : round_parts (k + 1) rounds ≡ led ++ rest = cc in
    let behind = fair-rounds settings (k + 1) rounds led rest fair.1 (All-tail IsRound round rounds each) others fair.3 in
    let here = fair-round settings k round fair.0 (All-head IsRound round rounds each) (subst (λ p. IsFairText settings p fair.0) same fair.2) in
    subst (AreFairRounds AreFair k settings) (sym fair.4) (another k settings fair.0 fair.1 here behind)

-- ---- the commands that write scrambles

-- where nothing is written, any settings will do
nothing-written : (Is : Settings → List ℕ → Type 0) (out : Change) → IsUnwritten out → WritesOnly Is out
nothing-written Is out none = record {
  settings = record { seed = record { 0 = [] }; attempts = 0; effort = record { tries = 0; short = 1 } };
  text = [];
  such = inl refl;
  written = inl none;
}

-- what words ask for is such a command, if it is one
abbrev IsAsked : (Command → Type 0) → Result Command UsageFault → Type 0
IsAsked Is (Ok command) = Is command
IsAsked Is (Err usage) = Unit {0}

abbrev IsOne : Command → Type 0
IsOne command = (event : Event) × (seed : Seed) × (command ≡ One event seed)

abbrev IsNet : Command → Type 0
IsNet command = (event : Event) × (seed : Seed) × (command ≡ Net event seed)

abbrev IsSheet : Command → Type 0
IsSheet command = (seed : Seed) × (options : Options) × (command ≡ Sheet seed options)

and_then-asked : {X : Type 0} (Is : Command → Type 0) (read : Result X UsageFault) (next : X → Result Command UsageFault)
    → ((part : X) → IsAsked Is (next part)) → IsAsked Is (and_then read next)
and_then-asked Is (Ok part) next each = each part
and_then-asked Is (Err fault) next each = tt

seeded-asked : (Is : Command → Type 0) (make : Seed → Command) → ((seed : Seed) → Is (make seed)) → (word : List ℕ)
    → IsAsked Is (seeded make word)
seeded-asked Is make makes word = by_seed (seed_of word)
  where
    by_seed : (read : Result Seed SeedFault) → IsAsked Is (result_map_both make NoSeed read)
    by_seed (Ok seed) = makes seed
    by_seed (Err fault) = tt

one-asked : (words : List (List ℕ)) → IsAsked IsOne (command_of (codes "one" ∷ words))
one-asked (event ∷ seed ∷ []) = and_then-asked IsOne (event_for event) _ (λ e. seeded-asked IsOne (One e) (λ s. (e, s, refl)) seed)
one-asked words = tt

net-asked : (words : List (List ℕ)) → IsAsked IsNet (command_of (codes "net" ∷ words))
net-asked (event ∷ seed ∷ []) = and_then-asked IsNet (event_for event) _ (λ e. by_side e (not (is_some (net_side_of e))))
  where
    by_side : (e : Event) (bare : Bool) → IsAsked IsNet (cond bare (Err Grammar) (seeded (Net e) seed))
    by_side e true = tt
    by_side e false = seeded-asked IsNet (Net e) (λ s. (e, s, refl)) seed
net-asked words = tt

sheet_of-asked : (values : Values) → IsAsked IsSheet (sheet_of values)
sheet_of-asked values = grind (arith, and_then-asked, seeded-asked)

sheet-words-asked : (words : List (List ℕ)) → IsAsked IsSheet (command_of (codes "sheet" ∷ words))
sheet-words-asked words = and_then-asked IsSheet (ok_or (options_of sheet_options words) Grammar) sheet_of sheet_of-asked

-- ---- what they write

abbrev IsBelow : Settings → List ℕ → Type 0
IsBelow settings text = (below : List ℕ) × IsFairLine AreFair below settings text

-- the line of a scramble, and what is shown below it
fair-line : (settings : Settings) (event : Event) (side : Option ℕ) (text : List ℕ) (it : IsFairSingle settings event side text)
    → IsFairLine AreFair (shown_net side it.turns) settings text
fair-line settings event side text it = grind (arith, append_assoc)

one-writes : (source out : Change) (ended : Result (Unit {0}) Fault) (asked : Result Command UsageFault)
    → IsAsked IsOne asked → Ends asked source out ended → WritesOnly (IsFairLine AreFair []) out
one-writes source out ended (Err usage) asks ends = nothing-written (IsFairLine AreFair []) out ends.1.1
one-writes source out ended (Ok command) (event, seed, is) ends =
    let making = (subst (λ c. Ends (Ok c) source out ended) is ends).1 in
    single-writes (IsFairLine AreFair []) _ event None out ended (fair-line _ event None) making

net-writes : (source out : Change) (ended : Result (Unit {0}) Fault) (asked : Result Command UsageFault)
    → IsAsked IsNet asked → Ends asked source out ended → WritesOnly IsBelow out
net-writes source out ended (Err usage) asks ends = nothing-written IsBelow out ends.1.1
net-writes source out ended (Ok command) (event, seed, is) ends =
    let making = (subst (λ c. Ends (Ok c) source out ended) is ends).1 in
    single-writes IsBelow _ event (net_side_of event) out ended (λ text it. (_, fair-line _ event (net_side_of event) text it)) making

rounds-write : (settings : Settings) (rounds : List Round) → All IsRound rounds
    → (out : Change) (ended : Result (Unit {0}) Fault) → EndsMaking settings (round_parts 0 rounds) out ended
    → WritesOnly (AreFairRounds AreFair 0) out
rounds-write settings rounds each out ended making =
    let led = fair-making settings (round_parts 0 rounds) out ended making in
    record {
      settings = settings;
      text = led.text;
      such = inr (fair-rounds settings 0 rounds led.led led.rest led.text each led.are led.fair);
      written = led.written;
    }

sheet-writes : (source out : Change) (ended : Result (Unit {0}) Fault) (asked : Result Command UsageFault)
    → IsAsked IsSheet asked → Ends asked source out ended → WritesOnly (AreFairRounds AreFair 0) out
sheet-writes source out ended (Err usage) asks ends = nothing-written (AreFairRounds AreFair 0) out ends.1.1
sheet-writes source out ended (Ok command) (seed, options, is) ends =
    grind (arith, rounds-write, rounds_of-IsRounds, nothing-written)

-- a run whose first word is this one, where each end of its command has written only such a text
word-writes : (Is : Settings → List ℕ → Type 0) (name word : List ℕ) (words : List (List ℕ)) (source out : Change)
    (ended : Result (Unit {0}) Fault) → IsPerformed (word ∷ words) source out ended
    → (Ends (command_of (name ∷ words)) source out ended → WritesOnly Is out) → word ≡ name → WritesOnly Is out
word-writes Is name word words source out ended performed so is = grind (arith, nothing-written)

-- whatever a run writes of scrambles is fair
pub fair-run : (words : List (List ℕ)) (source out : Change) (ended : Result (Unit {0}) Fault)
    → IsPerformed words source out ended → IsFairRun AreFair words out
fair-run [] source out ended performed = tt
fair-run (word ∷ words) source out ended performed = (
  word-writes (IsFairLine AreFair []) (codes "one") word words source out ended performed (one-writes source out ended _ (one-asked words)),
  word-writes IsBelow (codes "net") word words source out ended performed (net-writes source out ended _ (net-asked words)),
  word-writes (AreFairRounds AreFair 0) (codes "sheet") word words source out ended performed (sheet-writes source out ended _ (sheet-words-asked words)),
)
