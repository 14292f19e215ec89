-- What runs must end with, and that a list has one sheet.
use Rattle.std.proofs.lemmas.List.Elements.{All-nil, All-head, All-tail, All-cons}
use Rattle.std.proofs.lemmas.Option.{same_Some}
use Rattle.std.proofs.Common.{◌≡◌, ◌⊎◌, ℕ, zero, suc, ◌+◌, ◌<◌, List, [], ◌∷◌, ◌++◌, length, Ok, Err, inl, inr, refl, sym, ap, subst, ◌∙◌, arith, All}
use Rattle.std.specs.Prelude.{Result, Some, None, map}
use Rattle.scr_outside.specs.Change.{Change}
use Rattle.scr_check.specs.declared.fault.Missing.{Missing}
use Rattle.scr_outside.specs.Faults.{Rose}
use Rattle.scr_notation.specs.declared.event.Event.{Event}
use Rattle.scr_notation.specs.Written.{Written}
use Rattle.scr_list.specs.declared.fault.ListFault.{ListFault}
use Rattle.scr_list.specs.declared.fault.ListFault.TheVariants as list
use Rattle.scr_list.specs.declared.round.Round.{Round}
use Rattle.scr_list.specs.Reading.{ReadsList, ReadsNoList}
use Rattle.scr_list.specs.Rounds.{rounds_of}
use Rattle.scr_list.proofs.ReadLemmas.{too_many-refused}
use Rattle.scr_command.specs.declared.command.Command.{Command}
use Rattle.scr_command.specs.declared.command.Command.TheVariants.{One, Sheet, Tables, Load, Net, Check}
use Rattle.scr_command.specs.declared.command.UsageFault.{UsageFault}
use Rattle.scr_table.specs.declared.fault.BuildFault.{BuildFault}
use Rattle.scr_table.specs.declared.fault.BuildFault.TheVariants as build
use Rattle.scr_round.specs.Made.{turns_of_each}
use Rattle.scr_slots.specs.declared.settings.Settings.{Settings}
use Rattle.scr_slots.specs.Promised.{Promised}
use Rattle.scr_slots.specs.Slots.{Scrambling, IsSlotScramble}
use Rattle.scr_slots.specs.Outcomes.{HasOneAnswer}
use Rattle.scr_slots.specs.Events.{scrambling_of}
use Rattle.scr_fault.specs.declared.fault.Fault.{Fault}
use Rattle.scr_fault.specs.declared.fault.Fault.TheVariants as fault
use Rattle.scr_fault.specs.declared.status.Status.{Status}
use Rattle.scr_fault.specs.declared.status.Status.TheVariants as status
use Rattle.scr_sheet.specs.Sheet.{Part, round_parts, EachSlot, IsPartText, IsText, IsFirstWithout}
use Rattle.scr_fault.specs.Status.{status_of}
use Rattle.scr_sheet.specs.Outcome.{IsStopped, EndsParts, EndsMaking, EndsTables, EndsTelling, Ends, IsUnwritten, gaining}
use Rattle.scr_sheet.proofs.PartLaws.{done-whole, whole-done}
use Rattle.scr_fault.specs.Faults.{fault_of_build}
use Rattle.scr_sheet.specs.Causes.{LacksTables}
use Rattle.scr_run_laws.specs.Task.{IsTask, IsUnhindered, LacksScramble, EndsWith}

-- ---- one text

-- a slot of the part has one answer
abbrev pub IsDecided : Part → Type 0
IsDecided part = HasOneAnswer (scrambling_of part.event) part.least

module _ (settings : Settings) {promised : Promised} (scrambling : Scrambling promised) (least : ℕ) (decided : HasOneAnswer scrambling least) where
  EachSlot-one : (stream : ℕ) (some other : List Written) → length some ≡ length other
      → EachSlot (IsSlotScramble scrambling settings least) stream some
      → EachSlot (IsSlotScramble scrambling settings least) stream other → some ≡ other
  EachSlot-one stream [] [] size first second = refl
  EachSlot-one stream [] (y ∷ ys) size first second = absurd (omega (arith, size))
  EachSlot-one stream (x ∷ xs) [] size first second = absurd (omega (arith, size))
  EachSlot-one stream (x ∷ xs) (y ∷ ys) size first second =
      let same : x ≡ y = same_Some x y (decided settings stream (Some x) (Some y) first.0 second.0) in
      let fewer : length xs ≡ length ys = omega (arith, size) in
      let others : xs ≡ ys = EachSlot-one (stream + 1) xs ys fewer first.1 second.1 in
      cc

IsPartText-one : (settings : Settings) (part : Part) (text other : List ℕ) → IsDecided part
    → IsPartText settings part text → IsPartText settings part other → text ≡ other
IsPartText-one settings part text other decided first second =
    let same =
    EachSlot-one settings (scrambling_of part.event) part.least decided part.first_stream first.scrambles second.scrambles
    (first.all.each_slot ∙ sym second.all.each_slot) first.all.each second.all.each in
    first.is ∙ ap (λ scrambles. part.text (turns_of_each scrambles)) same ∙ sym second.is

pub IsText-one_text : (settings : Settings) (parts : List Part) (text other : List ℕ) → All IsDecided parts
    → IsText (IsPartText settings) parts text → IsText (IsPartText settings) parts other → text ≡ other
IsText-one_text settings [] text other decided first second = first ∙ sym second
IsText-one_text settings (part ∷ parts) text other decided first second =
    let here = IsPartText-one settings part first.0 second.0 (All-head IsDecided part parts decided) first.2 second.2 in
    let rest = IsText-one_text settings parts first.1 second.1 (All-tail IsDecided part parts decided) first.3 second.3 in
    first.4 ∙ ap (λ t. t ++ first.1) here ∙ ap (λ t. second.0 ++ t) rest ∙ sym second.4

-- each event has decided slots
abbrev pub AreDecided : Type 0
AreDecided = (event : Event) (least : ℕ) → HasOneAnswer (scrambling_of event) least

-- and so has each part
pub all_decided : AreDecided → (parts : List Part) → All IsDecided parts
all_decided decided [] = All-nil IsDecided
all_decided decided (part ∷ parts) = All-cons IsDecided part parts (decided part.event part.least) (all_decided decided parts)

-- ---- the ends of parts

-- a slot of some has its own
EachSlot-at : {X : Type 0} (Is : ℕ → X → Type 0) (stream : ℕ) (xs : List X) (j : ℕ) → EachSlot Is stream xs
    → j < length xs → (x : X) × Is (stream + j) x
EachSlot-at Is stream [] j each below = absurd (omega (arith, below))
EachSlot-at Is stream (x ∷ xs) zero each below =
    let place : stream ≡ stream + 0 = omega arith in
    (x, subst (λ s. Is s x) place each.0)
EachSlot-at Is stream (x ∷ xs) (suc j) each below =
    let fewer : j < length xs = omega (arith, below) in
    let place : stream + 1 + j ≡ stream + suc j = omega arith in
    let there = EachSlot-at Is (stream + 1) xs j each.1 fewer in
    (there.0, subst (λ s. Is s there.0) place there.1)

-- a part with a text lacks no scramble
IsPartText-apart : (settings : Settings) (part : Part) (text : List ℕ) (j : ℕ) → IsDecided part
    → IsPartText settings part text → IsFirstWithout settings part j → ⊥
IsPartText-apart settings part text j decided is lacks =
    let size = is.all.each_slot in
    let below : j < length is.scrambles = omega (arith, size, lacks.below) in
    let there = EachSlot-at (IsSlotScramble (scrambling_of part.event) settings part.least) part.first_stream is.scrambles j is.all.each below in
    let none = decided settings (part.first_stream + j) (Some there.0) None there.1 lacks.nothing in
    cc

IsText-apart : (settings : Settings) (led : List Part) (part : Part) (rest : List Part) (text : List ℕ) (j : ℕ)
    → All IsDecided (led ++ part ∷ rest) → IsText (IsPartText settings) (led ++ part ∷ rest) text
    → IsFirstWithout settings part j → ⊥
IsText-apart settings [] part rest text j decided is lacks = IsPartText-apart settings part is.0 j (All-head IsDecided part rest decided) is.2 lacks
IsText-apart settings (other ∷ led) part rest text j decided is lacks = IsText-apart settings led part rest is.1 j (All-tail IsDecided other (led ++ part ∷ rest) decided) is.3 lacks

-- where one of them has none
LacksScramble-stopped : (settings : Settings) (parts : List Part) (missing : Missing) (k : ℕ) (led rest : List Part)
    → parts ≡ led ++ rest → IsStopped settings missing k rest → LacksScramble settings parts
LacksScramble-stopped settings parts missing k led [] are stopped = absurd stopped
LacksScramble-stopped settings parts missing k led (failing ∷ rest) are (j, told, first) =
    record { led = led; part = failing; rest = rest; are = are; slot = j; first = first }

-- parts whose slots all have scrambles, where the output doesn't fail
EndsParts-done : (settings : Settings) (parts : List Part) (out : Change) (ended : Result (Unit {0}) Fault)
    → EndsParts settings 0 parts out ended → ¬ (Rose out.faults_before out.faults_after)
    → ¬ (LacksScramble settings parts) → EndsWith (status_of ended) status.Done
EndsParts-done settings parts out (Ok u) ends written each = inl refl
EndsParts-done settings parts out (Err (fault.Usage usage)) ends written each = absurd ends
EndsParts-done settings parts out (Err (fault.List list)) ends written each = absurd ends
EndsParts-done settings parts out (Err (fault.DrawLimit missing)) ends written each =
    absurd (each (LacksScramble-stopped settings parts missing (0 + length ends.led) ends.led ends.rest ends.are ends.leaves))
EndsParts-done settings parts out (Err fault.Write) ends written each = absurd (written ends.is.rose)
EndsParts-done settings parts out (Err fault.NoMemory) ends written each = absurd ends
EndsParts-done settings parts out (Err (fault.Gap table index)) ends written each = absurd ends
EndsParts-done settings parts out (Err (fault.Differs line)) ends written each = absurd ends

-- parts of which one lacks a scramble
EndsParts-limit : (settings : Settings) (parts : List Part) (out : Change) (ended : Result (Unit {0}) Fault)
    → EndsParts settings 0 parts out ended → ¬ (Rose out.faults_before out.faults_after) → All IsDecided parts
    → LacksScramble settings parts → EndsWith (status_of ended) status.DrawLimit
EndsParts-limit settings parts out (Ok u) ends written decided lacks =
    let done = whole-done ends in
    absurd (IsText-apart settings lacks.led lacks.part lacks.rest done.text lacks.slot (subst (All IsDecided) lacks.are decided)
    (subst (λ p. IsText (IsPartText settings) p done.text) lacks.are done.all) lacks.first)
EndsParts-limit settings parts out (Err (fault.Usage usage)) ends written decided lacks = absurd ends
EndsParts-limit settings parts out (Err (fault.List list)) ends written decided lacks = absurd ends
EndsParts-limit settings parts out (Err (fault.DrawLimit missing)) ends written decided lacks = inl refl
EndsParts-limit settings parts out (Err fault.Write) ends written decided lacks = absurd (written ends.is.rose)
EndsParts-limit settings parts out (Err fault.NoMemory) ends written decided lacks = absurd ends
EndsParts-limit settings parts out (Err (fault.Gap table index)) ends written decided lacks = absurd ends
EndsParts-limit settings parts out (Err (fault.Differs line)) ends written decided lacks = absurd ends

-- ---- the ends of runs that nothing hinders

-- a list that was read to its end
abbrev pub ReadWhole : Type 0
ReadWhole = (change : Change) (list : List ℕ) (answer : Result (List Round) ListFault) → ReadsList change answer
    → change.bytes_before ≡ Some list → (rounds_of list ≡ answer) × (change.bytes_after ≡ Some [])

-- a list of rounds is no list that is refused
IsList-read : (source : Change) (bytes : List ℕ) (rounds : List Round) (refusal : ListFault) → ReadWhole
    → rounds_of bytes ≡ Ok rounds → source.bytes_before ≡ Some bytes → ¬ (Rose source.faults_before source.faults_after)
    → ReadsNoList source refusal → ⊥
IsList-read source bytes rounds (list.TooLong limit) whole is input read refused =
    let again : rounds_of bytes ≡ Err (list.TooLong limit) = too_many-refused source limit bytes refused input in
    let none : ⊥ = cc in
    absurd none
IsList-read source bytes rounds (list.Line number cause) whole is input read refused =
    let again = (whole source bytes (Err (list.Line number cause)) refused input).0 in
    let none : ⊥ = cc in absurd none
IsList-read source bytes rounds list.Read whole is input read refused = absurd (read refused.rose)

-- tables that could not be built
LacksTables-ends : (events : List Event) (ended : Result (Unit {0}) Fault) (wanted : Status) → LacksTables events ended
    → EndsWith (status_of ended) wanted
LacksTables-ends events ended wanted lacks = at lacks.0 lacks.2
  where
    at : (why : BuildFault) → ended ≡ Err (fault_of_build why) → EndsWith (status_of ended) wanted
    at build.NoMemory is = inr (inl (ap status_of is))
    at (build.Gap table index) is = inr (inr (ap status_of is))

-- parts of these events were not made: tables could not be built, or memory was wanting for the rounds
abbrev IsUnready : List Event → Result (Unit {0}) Fault → Type 0
IsUnready events ended = LacksTables events ended ⊎ (ended ≡ Err fault.NoMemory)

IsUnready-ends : (events : List Event) (ended : Result (Unit {0}) Fault) (wanted : Status) → IsUnready events ended
    → EndsWith (status_of ended) wanted
IsUnready-ends events ended wanted (inl lacks) = LacksTables-ends events ended wanted lacks
IsUnready-ends events ended wanted (inr is) = inr (inl (ap status_of is))

-- A run ended as the making of its parts did, or as tables that were not built, for a sink that didn't fail.
record IsWell (settings : Settings) (parts : List Part) (ended : Result (Unit {0}) Fault) : Type 0 where
  sink : Change
  made : Result (Unit {0}) Fault
  making : EndsParts settings 0 parts sink made ⊎ ((events : List Event) × IsUnready events made)
  whole : ¬ (Rose sink.faults_before sink.faults_after)
  same : ended ≡ made

-- parts that are made
made_parts : (settings : Settings) (parts : List Part) (out : Change) (ended : Result (Unit {0}) Fault)
    → EndsMaking settings parts out ended
    → EndsParts settings 0 parts out ended ⊎ ((events : List Event) × IsUnready events ended)
made_parts settings parts out ended making =
    elim making [ inl making ↦ inl making.1 | inr lacks ↦ inr (map (λ (part : Part). part.event) parts, lacks.0) ]

-- parts that are written
IsWell-written : (settings : Settings) (parts : List Part) (out : Change) (ended : Result (Unit {0}) Fault)
    → ¬ (Rose out.faults_before out.faults_after) → EndsMaking settings parts out ended → IsWell settings parts ended
IsWell-written settings parts out ended written making = record {
  sink = out;
  made = ended;
  making = made_parts settings parts out ended making;
  whole = written;
  same = refl;
}

-- a sheet that is told of and not written
pub EndsTelling-same : (made : Result (Unit {0}) Fault) (lines : List ℕ) (out : Change) (ended : Result (Unit {0}) Fault)
    → ¬ (Rose out.faults_before out.faults_after) → EndsTelling made lines out ended → ended ≡ made
EndsTelling-same (Ok u) lines out (Ok v) written told = refl
EndsTelling-same (Ok u) lines out (Err f) written told = absurd (written told.1.rose)
EndsTelling-same (Err f) lines out ended written told = told.0

pub not_risen : ¬ (Rose 0 0)
not_risen (inl higher) = absurd (omega (arith, higher))
not_risen (inr last) = absurd (omega (arith, last))

-- tables are told with no parts at all
tables_as_parts : (settings : Settings) (event : Event) (out : Change) (ended : Result (Unit {0}) Fault)
    → ¬ (Rose out.faults_before out.faults_after)
    → EndsTables event out ended ⊎ (LacksTables (event ∷ []) ended × IsUnwritten out) → IsWell settings [] ended
tables_as_parts settings event out (Ok u) written (inl ends) = record {
  sink = gaining [];
  made = Ok u;
  making = inl (done-whole (record { text = []; all = refl; gained = record { gained = refl; no_fault = refl } }));
  whole = not_risen;
  same = refl;
}
tables_as_parts settings event out (Err why) written (inl ends) = absurd (written ends.2.1.rose)
tables_as_parts settings event out ended written (inr lacks) = record {
  sink = out;
  made = ended;
  making = inr (event ∷ [], inl lacks.0);
  whole = written;
  same = refl;
}

Ends-parts : (command : Command) (settings : Settings) (parts : List Part) (source out : Change)
    (ended : Result (Unit {0}) Fault) → ReadWhole → IsTask command source settings parts
    → ¬ (Rose source.faults_before source.faults_after) → ¬ (Rose out.faults_before out.faults_after)
    → Ends (Ok command) source out ended → IsWell settings parts ended
Ends-parts (One event seed) settings parts source out ended whole task read written ends =
    IsWell-written settings parts out ended written (rw (task.0, task.1) ends.1)
Ends-parts (Sheet seed options) settings parts source out ended whole task read written (inl ends) =
    let is = task.3 in
    let again = (whole source task.0 (Ok ends.0) ends.1 task.2).0 in
    let same : ends.0 ≡ task.1 = cc in
    let same_parts : parts ≡ round_parts 0 ends.0 = task.5 ∙ ap (round_parts 0) (sym same) in
    IsWell-written settings parts out ended written (rw (task.4, same_parts) ends.2)
Ends-parts (Sheet seed options) settings parts source out ended whole task read written (inr refused) =
    absurd (IsList-read source task.0 task.1 refused.0 whole task.3 task.2 read refused.1)
Ends-parts (Tables event) settings parts source out ended whole task read written ends =
    rw task (tables_as_parts settings event out ended written ends.1)
Ends-parts (Load number) settings parts source out ended whole task read written ends = record {
  sink = gaining ends.1.sheet;
  made = ends.1.made;
  making = rw (task.0, task.1) (made_parts _ _ (gaining ends.1.sheet) ends.1.made ends.1.making);
  whole = not_risen;
  same = EndsTelling-same ends.1.made _ out ended written ends.1.told;
}
Ends-parts (Net event seed) settings parts source out ended whole task read written ends =
    IsWell-written settings parts out ended written (rw (task.0, task.1) ends.1)
Ends-parts (Check seed attempts) settings parts source out ended whole task read written ends = absurd task

IsUnhindered-ends : {words : List (List ℕ)} {outcome : Status} {source out err : Change} {settings : Settings} {parts : List Part}
    → ReadWhole → (run : IsUnhindered words outcome source out err settings parts)
    → IsWell settings parts run.run.ended ⊎ (run.run.ended ≡ Err fault.NoMemory)
IsUnhindered-ends {source = source} {out = out} {settings = settings} {parts = parts} whole run =
    elim run.run.performed.ends [
      | inl ends ↦
          let P : Result Command UsageFault → Type 0 = λ asked. Ends asked source out run.run.ended in
          inl (Ends-parts run.command settings parts source out run.run.ended whole run.task run.read run.written
          (subst P run.asks ends))
      | inr wanting ↦ inr wanting.1.0
    ]

-- the end of a run that nothing hindered, where this follows from its making
unhindered-with : {words : List (List ℕ)} {outcome : Status} {source out err : Change} {settings : Settings} {parts : List Part} (wanted : Status)
    → ReadWhole → IsUnhindered words outcome source out err settings parts
    → ((sink : Change) (made : Result (Unit {0}) Fault) → EndsParts settings 0 parts sink made → ¬ (Rose sink.faults_before sink.faults_after) → EndsWith (status_of made) wanted)
    → EndsWith outcome wanted
unhindered-with {parts = parts} wanted whole run each =
    rw run.run.answer
    (elim (IsUnhindered-ends whole run) [
      | inl well ↦
          rw well.same
          (elim well.making [
            | inl ends ↦ each well.sink well.made ends well.whole
            | inr unready ↦ IsUnready-ends unready.0 well.made wanted unready.1
          ])
      | inr wanting ↦ inr (inl (ap status_of wanting))
    ])

-- where each slot has its scramble
pub IsUnhindered-done : {words : List (List ℕ)} {outcome : Status} {source out err : Change} {settings : Settings} {parts : List Part}
    → ReadWhole → IsUnhindered words outcome source out err settings parts → ¬ (LacksScramble settings parts)
    → EndsWith outcome status.Done
IsUnhindered-done {settings = settings} {parts = parts} whole run each =
    unhindered-with status.Done whole run (λ sink made ends written. EndsParts-done settings parts sink made ends written each)

-- and where one has none
pub IsUnhindered-limit : {words : List (List ℕ)} {outcome : Status} {source out err : Change} {settings : Settings} {parts : List Part}
    → ReadWhole → IsUnhindered words outcome source out err settings parts → All IsDecided parts
    → LacksScramble settings parts → EndsWith outcome status.DrawLimit
IsUnhindered-limit {settings = settings} {parts = parts} whole run decided lacks =
    unhindered-with status.DrawLimit whole run (λ sink made ends written. EndsParts-limit settings parts sink made ends written decided lacks)
