-- The commands that write one scramble.
use Rattle.std.proofs.Common.{◌≡◌, ℕ, ◌*◌, List, [], ◌∷◌, ◌++◌, Ok, Err, inl, refl, arith, rules}
use Rattle.std.specs.Prelude.{Result, Option}
use Rattle.std.proofs.lemmas.List.Elements.{All-nil, All-cons}
use Rattle.scr_outside.specs.Change.{Change, Gains, Falters, Writes}
use Rattle.scr_outside.proofs.ChangeLemmas.{from_to, Gains-append, Falters-after}
use Rattle.scr_check.specs.declared.fault.Missing.{Missing}
use Rattle.scr_notation.specs.declared.event.Event.{Event}
use Rattle.scr_notation.specs.declared.turn.Turn.{Turn}
use Rattle.scr_notation.specs.Written.{Written}
use Rattle.scr_slots.specs.declared.settings.Settings.{Settings}
use Rattle.scr_slots.specs.Slots.{IsDrawnFairly, IsSlotScramble, HasNoScramble}
use Rattle.scr_slots.specs.Events.{scrambling_of}
use Rattle.scr_fault.specs.declared.fault.Fault.{Fault}
use Rattle.scr_fault.specs.declared.fault.Fault.TheVariants as fault
use Rattle.scr_sheet.specs.Sheet.{Part, IsPartText, single_part, line_of, shown_net}
use Rattle.scr_sheet.specs.Outcome.{EndsMaking, EndsParts, IsUnwritten}
use Rattle.scr_sheet.proofs.PartLaws.{first-stopped, first-broken, IsWhole-first}

-- a part is drawn fairly
abbrev Fair : Part → Type 0
Fair part = IsDrawnFairly (scrambling_of part.event) part.least

-- what is written of turns
abbrev single_text : Option ℕ → List Turn → List ℕ
single_text side turns = line_of turns ++ shown_net side turns

module _ {settings : Settings} {event : Event} (side : Option ℕ) where
  -- what is written of one scramble
  written : (scramble : Written) → IsSlotScramble (scrambling_of event) settings 0 0 scramble
      → IsPartText settings (single_part event side) (single_text side scramble.turns)
  written scramble slot = record {
    scrambles = scramble ∷ [];
    all = record { each_slot = refl; each = (slot, tt) };
    is = refl;
  }

  -- it was written whole
  pub single-done : {out : Change} (scramble : Written) → IsSlotScramble (scrambling_of event) settings 0 0 scramble
      → Gains out (single_text side scramble.turns) → EndsParts settings 0 (single_part event side ∷ []) out (Ok tt)
  single-done scramble slot gains = search (arith, rules, IsWhole-first, written)

  -- it was written in part
  pub single-broken : {out : Change} (scramble : Written) → IsSlotScramble (scrambling_of event) settings 0 0 scramble
      → Falters out (single_text side scramble.turns)
      → EndsParts settings 0 (single_part event side ∷ []) out (Err fault.Write)
  single-broken scramble slot falters = search (arith, rules, first-broken, written)

  -- there is none
  pub single-limit : {out : Change} (missing : Missing) → HasNoScramble (scrambling_of event) settings 0 0
      → missing ≡ record { round = 1; slot = 1; words = 3 * settings.attempts } → IsUnwritten out
      → EndsParts settings 0 (single_part event side ∷ []) out (Err (fault.DrawLimit missing))
  single-limit missing none told = grind (arith, first-stopped)

-- the one part is drawn fairly, however it ends
pub single-making : (settings : Settings) (event : Event) (side : Option ℕ) {out : Change} {ended : Result (Unit {0}) Fault}
    → IsDrawnFairly (scrambling_of event) 0 → EndsParts settings 0 (single_part event side ∷ []) out ended
    → EndsMaking settings (single_part event side ∷ []) out ended
single-making settings event side fair ends = inl (All-cons Fair (single_part event side) [] fair (All-nil Fair), ends)

-- a text behind one that was written
pub Writes-behind : {E : Type 0} (held held' held'' : Option (List ℕ)) (faults faults' faults'' : ℕ) (text more : List ℕ) (ended : Result (Unit {0}) E)
    → Gains (from_to held faults held' faults') text → Writes (from_to held' faults' held'' faults'') more ended
    → Writes (from_to held faults held'' faults'') (text ++ more) ended
Writes-behind held held' held'' faults faults' faults'' text more (Ok u) gains writes = Gains-append gains writes
Writes-behind held held' held'' faults faults' faults'' text more (Err e) gains writes = Falters-after gains writes
