-- What runs show that end for want of memory.
use Rattle.std.proofs.Common.{◌≡◌, ◌⊎◌, ◌≤◌, ℕ, List, [], ◌∷◌, ◌++◌, Ok, Err, inl, inr, refl, sym, subst}
use Rattle.std.specs.Prelude.{Result, None, codes, length, sum, sum_by}
use Rattle.scr_round.specs.Round.{slots_of}
use Rattle.scr_sheet.specs.Load.{load_rounds, load_text}
use Rattle.scr_outside.specs.Change.{Change, IsUnchanged}
use Rattle.scr_check.specs.Parts.{sheet_part}
use Rattle.scr_words.specs.declared.seed.Seed.{Seed}
use Rattle.scr_check.specs.declared.fault.CheckFault.TheVariants as check
use Rattle.scr_list.specs.declared.fault.ListFault.{ListFault}
use Rattle.scr_list.specs.declared.round.Round.{Round}
use Rattle.scr_command.specs.declared.command.Command.{Command}
use Rattle.scr_command.specs.declared.command.Command.TheVariants.{One, Sheet, Tables, Load, Net, Check}
use Rattle.scr_command.specs.declared.command.UsageFault.{UsageFault}
use Rattle.scr_command.specs.Command.{command_of, usual_options}
use Rattle.scr_notation.specs.Event.{net_side_of}
use Rattle.scr_slots.specs.declared.settings.Settings.{Settings}
use Rattle.scr_fault.specs.declared.fault.Fault.{Fault}
use Rattle.scr_fault.specs.declared.fault.Fault.TheVariants as fault
use Rattle.scr_fault.specs.declared.status.Status.TheVariants as status
use Rattle.scr_sheet.specs.Check.{InputComesTo, ReadsInput, EndsChecking, check_settings, rounds_in}
use Rattle.scr_sheet.specs.Sheet.{Part, settings_of, single_part, round_parts}
use Rattle.scr_sheet.specs.Outcome.{Ends, EndsMaking, EndsTelling, IsRun, IsUnwritten, TakesMemory}
use Rattle.scr_run_laws.specs.Task.{with_seed}
use Rattle.scr_run_laws.proofs.CheckLaws.{told-fault}
use Rattle.scr_run_laws.proofs.StatusLaws.{end-of}

abbrev End : Type 0
End = Result (Unit {0}) Fault

abbrev wanting : End
wanting = Err fault.NoMemory

-- parts that wanted memory wanted it before they were made, whatever they are made with
making-alike : (settings others : Settings) (parts : List Part) (out : Change) → EndsMaking settings parts out wanting
    → EndsMaking others parts out wanting
making-alike settings others parts out (inl made) = absurd made.1
making-alike settings others parts out (inr unready) = inr unready

-- and a check before it judged anything
comes-otherwise : (settings : Settings) (rounds : Result (List Round) ListFault) (input : List ℕ)
    → InputComesTo settings rounds input wanting → ⊥
comes-otherwise settings (Err list) input is = cc
comes-otherwise settings (Ok rounds) input (Ok u, comes, is) = cc
comes-otherwise settings (Ok rounds) input (Err (check.Differs line), comes, is) = cc
comes-otherwise settings (Ok rounds) input (Err (check.Limit missing), comes, is) = cc
comes-otherwise settings (Ok rounds) input (Err check.Read, comes, is) = cc

checking-alike : (settings others : Settings) (source : Change) → EndsChecking settings source wanting
    → EndsChecking others source wanting
checking-alike settings others source (inl reads) =
    absurd (comes-otherwise settings _ (reads.bytes ++ []) (reads.tells [] (λ ended. refl)))
checking-alike settings others source (inr (inl lacks)) = inr (inl lacks)
checking-alike settings others source (inr (inr unread)) = let same = unread.0 in cc

-- of the sheet part it had read few bytes
abbrev ReadsFew : Change → Type 0
ReadsFew source =
    (named : List Round) × (read : ReadsInput source (λ input. rounds_in input ≡ Ok named)) × (length (sheet_part read.bytes) ≤ 4096)

checking-few : (settings : Settings) (source : Change) → EndsChecking settings source wanting → ReadsFew source
checking-few settings source (inl reads) =
    absurd (comes-otherwise settings _ (reads.bytes ++ []) (reads.tells [] (λ ended. refl)))
checking-few settings source (inr (inl lacks)) = (lacks.0, lacks.1, lacks.2)
checking-few settings source (inr (inr unread)) = let same = unread.0 in cc

pub memory-few : (words : List (List ℕ)) (seed : Seed) (attempts : ℕ) (source out err : Change)
    → command_of words ≡ Ok (Check seed attempts) → IsRun words status.NoMemory source out err → IsUnchanged source ⊎ ReadsFew source
memory-few words seed attempts source out err asks run =
    let wants : run.ended ≡ wanting = end-of status.NoMemory run.ended (sym run.answer) in
    elim run.performed.ends [
      | inl ends ↦
          let here = subst (λ asked. Ends asked source out run.ended) asks ends in
          inr (few (subst (Ends (Ok (Check seed attempts)) source out) wants here))
      | inr none ↦ inl none.0
    ]
  where
    few : Ends (Ok (Check seed attempts)) source out wanting → ReadsFew source
    few (answer, checked, told) =
        let same : answer ≡ wanting = told-fault answer (codes "agrees\n") out fault.NoMemory (λ is. cc) told in
        checking-few (check_settings seed attempts) source (subst (EndsChecking (check_settings seed attempts) source) same checked)

-- a command with another seed
ends-alike : (seed : Seed) (command : Command) (source out : Change) → Ends (Ok command) source out wanting
    → Ends (Ok (with_seed seed command)) source out wanting
ends-alike seed (One event other) source out ends = (
  ends.0,
  making-alike (settings_of other usual_options) (settings_of seed usual_options) (single_part event None ∷ []) out ends.1,
)
ends-alike seed (Sheet other options) source out (inl ends) = inl (
  ends.0,
  ends.1,
  making-alike (settings_of other options) (settings_of seed options) (round_parts 0 ends.0) out ends.2,
)
ends-alike seed (Sheet other options) source out (inr refused) = let same = refused.2.0 in cc
ends-alike seed (Tables event) source out ends = ends
ends-alike seed (Load number) source out ends = ends
ends-alike seed (Net event other) source out ends = (
  ends.0,
  making-alike (settings_of other usual_options) (settings_of seed usual_options) (single_part event (net_side_of event) ∷ []) out ends.1,
)
ends-alike seed (Check other attempts) source out (answer, checked, told) =
    let same : answer ≡ wanting = told-fault answer (codes "agrees\n") out fault.NoMemory (λ is. cc) told in
    let here = subst (EndsChecking (check_settings other attempts) source) same checked in
    let there = checking-alike (check_settings other attempts) (check_settings seed attempts) source here in
    (answer, subst (EndsChecking (check_settings seed attempts) source) (sym same) there, told)

takes-alike : (seed : Seed) (command : Command) → TakesMemory (Ok command) → TakesMemory (Ok (with_seed seed command))
takes-alike seed (One event other) takes = takes
takes-alike seed (Sheet other options) takes = takes
takes-alike seed (Tables event) takes = takes
takes-alike seed (Load number) takes = takes
takes-alike seed (Net event other) takes = takes
takes-alike seed (Check other attempts) takes = takes

pub memory-alike : (first : List ℕ) (words other : List (List ℕ)) (command : Command) (seed : Seed) (source out err : Change)
    → command_of (first ∷ words) ≡ Ok command → command_of (first ∷ other) ≡ Ok (with_seed seed command)
    → IsRun (first ∷ words) status.NoMemory source out err → IsRun (first ∷ other) status.NoMemory source out err
memory-alike first words other command seed source out err asks asks' run =
    let wants : run.ended ≡ wanting = end-of status.NoMemory run.ended (sym run.answer) in
    record {
      ended = run.ended;
      performed = record {
        ends = elim run.performed.ends [
          | inl ends ↦
              let here = subst (λ asked. Ends asked source out run.ended) asks ends in
              let there = ends-alike seed command source out (subst (Ends (Ok command) source out) wants here) in
              inl (rw asks' (subst (Ends (Ok (with_seed seed command)) source out) (sym wants) there))
          | inr none ↦ inr none
        ];
        memory = λ is. elim (run.performed.memory is) [
          | inl options ↦ inl options
          | inr takes ↦ inr (rw asks' (takes-alike seed command (subst TakesMemory asks takes)))
        ];
      };
      answer = run.answer;
      tells = run.tells;
    }

-- and nothing was written
making-unwritten : (settings : Settings) (parts : List Part) (out : Change) → EndsMaking settings parts out wanting → IsUnwritten out
making-unwritten settings parts out (inl made) = absurd made.1
making-unwritten settings parts out (inr unready) = unready.1

telling-unwritten : (made : End) (lines : List ℕ) (out : Change) → EndsTelling made lines out wanting → IsUnwritten out
telling-unwritten (Ok u) lines out told = let same = told.0 in cc
telling-unwritten (Err why) lines out told = told.1

ends-unwritten : (asked : Result Command UsageFault) (source out : Change) → Ends asked source out wanting → IsUnwritten out
ends-unwritten (Err usage) source out ends = ends.1.1
ends-unwritten (Ok (One event seed)) source out ends =
    making-unwritten (settings_of seed usual_options) (single_part event None ∷ []) out ends.1
ends-unwritten (Ok (Sheet seed options)) source out (inl ends) =
    making-unwritten (settings_of seed options) (round_parts 0 ends.0) out ends.2
ends-unwritten (Ok (Sheet seed options)) source out (inr refused) = refused.2.1
ends-unwritten (Ok (Tables event)) source out (same, inl ends) = telling-unwritten (Ok tt) ends.0 out ends.2
ends-unwritten (Ok (Tables event)) source out (same, inr lacks) = lacks.1
ends-unwritten (Ok (Load number)) source out ends = telling-unwritten ends.1.made (load_text (length (load_rounds number)) (sum_by slots_of (load_rounds number)) (length ends.1.sheet) (sum ends.1.sheet)) out ends.1.told
ends-unwritten (Ok (Net event seed)) source out ends =
    making-unwritten (settings_of seed usual_options) (single_part event (net_side_of event) ∷ []) out ends.1
ends-unwritten (Ok (Check seed attempts)) source out ends = telling-unwritten ends.0 (codes "agrees\n") out ends.2

pub memory-unwritten : (words : List (List ℕ)) (source out err : Change) → IsRun words status.NoMemory source out err → IsUnwritten out
memory-unwritten words source out err run =
    let wants : run.ended ≡ wanting = end-of status.NoMemory run.ended (sym run.answer) in
    elim run.performed.ends [
      | inl ends ↦ ends-unwritten (command_of words) source out (subst (Ends (command_of words) source out) wants ends)
      | inr none ↦ none.1.1
    ]
