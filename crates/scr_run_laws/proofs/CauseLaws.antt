-- What the statuses of refused words, of refused lists and of faults tell.
use Rattle.std.proofs.Common.{◌≡◌, ◌⊎◌, ℕ, List, [], ◌∷◌, Ok, Err, inl, inr, refl, sym, subst}
use Rattle.std.specs.Prelude.{◌≢◌, None, Result}
use Rattle.scr_outside.specs.Change.{Change}
use Rattle.scr_outside.specs.Faults.{Rose}
use Rattle.scr_notation.specs.Event.{net_side_of}
use Rattle.scr_list.specs.declared.fault.ListFault.{ListFault}
use Rattle.scr_list.specs.declared.fault.ListFault.TheVariants as list
use Rattle.scr_list.specs.Reading.{ReadsNoList}
use Rattle.scr_command.specs.declared.command.Command.{Command}
use Rattle.scr_command.specs.declared.command.Command.TheVariants.{One, Sheet, Tables, Load, Net, Check}
use Rattle.scr_command.specs.declared.command.UsageFault.{UsageFault}
use Rattle.scr_command.specs.Command.{command_of, usual_options}
use Rattle.scr_table.specs.declared.fault.BuildFault.{BuildFault}
use Rattle.scr_table.specs.declared.fault.BuildFault.TheVariants as build
use Rattle.scr_slots.specs.declared.settings.Settings.{Settings}
use Rattle.scr_fault.specs.declared.fault.Fault.{Fault}
use Rattle.scr_fault.specs.declared.fault.Fault.TheVariants as fault
use Rattle.scr_fault.specs.declared.status.Status.{Status}
use Rattle.scr_fault.specs.declared.status.Status.TheVariants as status
use Rattle.scr_sheet.specs.Sheet.{Part, settings_of, round_parts, single_part}
use Rattle.scr_fault.specs.Faults.{fault_of_build}
use Rattle.scr_sheet.specs.Check.{ReadsInput, rounds_in}
use Rattle.scr_sheet.specs.Outcome.{EndsMaking, EndsTelling, Ends, IsRun, gaining}
use Rattle.scr_run_laws.proofs.RunLaws.{not_risen}
use Rattle.scr_run_laws.proofs.StatusLaws.{end-of}
use Rattle.scr_run_laws.proofs.CheckLaws.{ReadsNoListPart, check-usage, check-list, check-write}

-- ---- tables and parts end with no fault of words or lists, and with a fault of the output only where it failed

-- a run that ends with a fault ends with that of tables that could not be built
abbrev Fails : Fault → BuildFault → Type 0
Fails f why = (let ended : Result (Unit {0}) Fault = Err f in ended) ≡ Err (fault_of_build why)

build-usage : (usage : UsageFault) (why : BuildFault) → Fails (fault.Usage usage) why → ⊥
build-usage usage build.NoMemory is = cc
build-usage usage (build.Gap table index) is = cc

build-list : (refusal : ListFault) (why : BuildFault) → Fails (fault.List refusal) why → ⊥
build-list refusal build.NoMemory is = cc
build-list refusal (build.Gap table index) is = cc

build-write : (why : BuildFault) → Fails fault.Write why → ⊥
build-write build.NoMemory is = cc
build-write (build.Gap table index) is = cc

making-usage : (settings : Settings) (parts : List Part) (out : Change) (usage : UsageFault)
    → EndsMaking settings parts out (Err (fault.Usage usage)) → ⊥
making-usage settings parts out usage (inl made) = made.1
making-usage settings parts out usage (inr (inl lacks, none)) = build-usage usage lacks.0 lacks.2
making-usage settings parts out usage (inr (inr is, none)) = cc

making-list : (settings : Settings) (parts : List Part) (out : Change) (refusal : ListFault)
    → EndsMaking settings parts out (Err (fault.List refusal)) → ⊥
making-list settings parts out refusal (inl made) = made.1
making-list settings parts out refusal (inr (inl lacks, none)) = build-list refusal lacks.0 lacks.2
making-list settings parts out refusal (inr (inr is, none)) = cc

making-write : (settings : Settings) (parts : List Part) (out : Change)
    → EndsMaking settings parts out (Err fault.Write) → Rose out.faults_before out.faults_after
making-write settings parts out (inl made) = made.1.is.rose
making-write settings parts out (inr (inl lacks, none)) = absurd (build-write lacks.0 lacks.2)
making-write settings parts out (inr (inr is, none)) = cc

-- a sheet that is told of
telling-usage : (settings : Settings) (parts : List Part) (sheet lines : List ℕ) (made : Result (Unit {0}) Fault) (out : Change) (usage : UsageFault)
    → EndsMaking settings parts (gaining sheet) made → EndsTelling made lines out (Err (fault.Usage usage)) → ⊥
telling-usage settings parts sheet lines (Ok u) out usage making told = let same = told.0 in cc
telling-usage settings parts sheet lines (Err why) out usage making told =
    making-usage settings parts (gaining sheet) usage (subst (λ e. EndsMaking settings parts (gaining sheet) e) (sym told.0) making)

telling-list : (settings : Settings) (parts : List Part) (sheet lines : List ℕ) (made : Result (Unit {0}) Fault) (out : Change) (refusal : ListFault)
    → EndsMaking settings parts (gaining sheet) made → EndsTelling made lines out (Err (fault.List refusal)) → ⊥
telling-list settings parts sheet lines (Ok u) out refusal making told = let same = told.0 in cc
telling-list settings parts sheet lines (Err why) out refusal making told =
    making-list settings parts (gaining sheet) refusal (subst (λ e. EndsMaking settings parts (gaining sheet) e) (sym told.0) making)

telling-write : (settings : Settings) (parts : List Part) (sheet lines : List ℕ) (made : Result (Unit {0}) Fault) (out : Change)
    → EndsMaking settings parts (gaining sheet) made → EndsTelling made lines out (Err fault.Write)
    → Rose out.faults_before out.faults_after
telling-write settings parts sheet lines (Ok u) out making told = told.1.rose
telling-write settings parts sheet lines (Err why) out making told =
    absurd (not_risen (making-write settings parts (gaining sheet) (subst (λ e. EndsMaking settings parts (gaining sheet) e) (sym told.0) making)))

-- ---- commands

words-usage : (asked : Result Command UsageFault) (source out : Change) (usage : UsageFault)
    → Ends asked source out (Err (fault.Usage usage)) → asked ≡ Err usage
words-usage (Err other) source out usage ends = let same = ends.1.0 in cc
words-usage (Ok (One event seed)) source out usage ends = absurd (making-usage (settings_of seed usual_options) (single_part event None ∷ []) out usage ends.1)
words-usage (Ok (Sheet seed options)) source out usage (inl ends) = absurd (making-usage (settings_of seed options) (round_parts 0 ends.0) out usage ends.2)
words-usage (Ok (Sheet seed options)) source out usage (inr refused) = let same = refused.2.0 in cc
words-usage (Ok (Tables event)) source out usage (same, inl ends) = let other = ends.2.0 in cc
words-usage (Ok (Tables event)) source out usage (same, inr lacks) = absurd (build-usage usage lacks.0.0 lacks.0.2)
words-usage (Ok (Load number)) source out usage ends = absurd (telling-usage _ _ ends.1.sheet _ ends.1.made out usage ends.1.making ends.1.told)
words-usage (Ok (Net event seed)) source out usage ends = absurd (making-usage (settings_of seed usual_options) (single_part event (net_side_of event) ∷ []) out usage ends.1)
words-usage (Ok (Check seed attempts)) source out usage ends = absurd (check-usage _ source out usage ends)

-- a list that is refused, or the list part of a sheet that is checked
abbrev pub IsListRefused : Change → ListFault → Type 0
IsListRefused source refusal = ReadsNoList source refusal ⊎ ReadsNoListPart source refusal

words-list : (asked : Result Command UsageFault) (source out : Change) (refusal : ListFault)
    → Ends asked source out (Err (fault.List refusal)) → IsListRefused source refusal
words-list (Err usage) source out refusal ends = let same = ends.1.0 in cc
words-list (Ok (One event seed)) source out refusal ends = absurd (making-list (settings_of seed usual_options) (single_part event None ∷ []) out refusal ends.1)
words-list (Ok (Sheet seed options)) source out refusal (inl ends) = absurd (making-list (settings_of seed options) (round_parts 0 ends.0) out refusal ends.2)
words-list (Ok (Sheet seed options)) source out refusal (inr refused) =
    let is = refused.2.0 in
    let same : refused.0 ≡ refusal = cc in inl (subst (ReadsNoList source) same refused.1)
words-list (Ok (Tables event)) source out refusal (same, inl ends) = let other = ends.2.0 in cc
words-list (Ok (Tables event)) source out refusal (same, inr lacks) = absurd (build-list refusal lacks.0.0 lacks.0.2)
words-list (Ok (Load number)) source out refusal ends = absurd (telling-list _ _ ends.1.sheet _ ends.1.made out refusal ends.1.making ends.1.told)
words-list (Ok (Net event seed)) source out refusal ends = absurd (making-list (settings_of seed usual_options) (single_part event (net_side_of event) ∷ []) out refusal ends.1)
words-list (Ok (Check seed attempts)) source out refusal ends = inr (check-list _ source out refusal ends)

words-write : (asked : Result Command UsageFault) (source out : Change) → Ends asked source out (Err fault.Write)
    → Rose out.faults_before out.faults_after
words-write (Err usage) source out ends = let same = ends.1.0 in cc
words-write (Ok (One event seed)) source out ends = making-write (settings_of seed usual_options) (single_part event None ∷ []) out ends.1
words-write (Ok (Sheet seed options)) source out (inl ends) = making-write (settings_of seed options) (round_parts 0 ends.0) out ends.2
words-write (Ok (Sheet seed options)) source out (inr refused) = let same = refused.2.0 in cc
words-write (Ok (Tables event)) source out (same, inl ends) = ends.2.1.rose
words-write (Ok (Tables event)) source out (same, inr lacks) = absurd (build-write lacks.0.0 lacks.0.2)
words-write (Ok (Load number)) source out ends = telling-write _ _ ends.1.sheet _ ends.1.made out ends.1.making ends.1.told
words-write (Ok (Net event seed)) source out ends = making-write (settings_of seed usual_options) (single_part event (net_side_of event) ∷ []) out ends.1
words-write (Ok (Check seed attempts)) source out ends = check-write _ source out ends

-- ---- runs

-- a run that ended so, and not for want of memory before anything was read
ends-so : (words : List (List ℕ)) (outcome : Status) (source out err : Change) (why : Fault)
    → (run : IsRun words outcome source out err) → run.ended ≡ Err why → why ≢ fault.NoMemory
    → Ends (command_of words) source out (Err why)
ends-so words outcome source out err why run is other =
    elim run.performed.ends [
      | inl ends ↦ subst (λ e. Ends (command_of words) source out e) is ends
      | inr wanting ↦ let same = wanting.1.0 in let none : why ≡ fault.NoMemory = cc in absurd (other none)
    ]

pub usage-cause : (words : List (List ℕ)) (source out err : Change) → IsRun words status.Usage source out err
    → (usage : UsageFault) × (command_of words ≡ Err usage)
usage-cause words source out err run =
    let end = end-of status.Usage run.ended (sym run.answer) in
    (end.0, words-usage (command_of words) source out end.0 (ends-so words status.Usage source out err (fault.Usage end.0) run end.1 (λ same. cc)))

-- a list part that is no list tells so, and where it could not be read the count of faults rose
no_list-told : (source : Change) (refusal : ListFault) → (refusal ≢ list.Read) → IsListRefused source refusal
    → ReadsNoList source refusal ⊎ ReadsInput source (λ input. rounds_in input ≡ Err refusal)
no_list-told source refusal other (inl refused) = inl refused
no_list-told source list.Read other (inr refused) = absurd (other refl)
no_list-told source (list.TooLong limit) other (inr refused) = inr refused
no_list-told source (list.Line number cause) other (inr refused) = inr refused

pub list-cause : (words : List (List ℕ)) (source out err : Change) → IsRun words status.List source out err
    → (refusal : ListFault) × (refusal ≢ list.Read) × (ReadsNoList source refusal ⊎ ReadsInput source (λ input. rounds_in input ≡ Err refusal))
list-cause words source out err run =
    let end = end-of status.List run.ended (sym run.answer) in
    let refused = words-list (command_of words) source out end.0 (ends-so words status.List source out err (fault.List end.0) run end.1 (λ same. cc)) in
    (end.0, end.2, no_list-told source end.0 end.2 refused)

read_rose : (source : Change) → IsListRefused source list.Read → Rose source.faults_before source.faults_after
read_rose source (inl refused) = refused.rose
read_rose source (inr refused) = refused.rose

pub input-cause : (words : List (List ℕ)) (source out err : Change) → IsRun words status.ReadFault source out err
    → Rose source.faults_before source.faults_after
input-cause words source out err run =
    let end = end-of status.ReadFault run.ended (sym run.answer) in
    read_rose source (words-list (command_of words) source out list.Read (ends-so words status.ReadFault source out err (fault.List list.Read) run end (λ same. cc)))

pub output-cause : (words : List (List ℕ)) (source out err : Change) → IsRun words status.WriteFault source out err
    → Rose out.faults_before out.faults_after
output-cause words source out err run =
    let end = end-of status.WriteFault run.ended (sym run.answer) in
    words-write (command_of words) source out (ends-so words status.WriteFault source out err fault.Write run end (λ same. cc))
