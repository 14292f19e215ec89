-- What the ends of a check tell.
use Rattle.std.proofs.Common.{◌≡◌, ℕ, ◌<◌, List, [], ◌++◌, length, Ok, Err, inl, inr, refl, sym, ap, subst, ◌∙◌, arith}
use Rattle.std.specs.Prelude.{Result, codes}
use Rattle.scr_outside.specs.Change.{Change}
use Rattle.scr_outside.specs.Faults.{Rose}
use Rattle.scr_check.specs.declared.fault.CheckFault.TheVariants as check
use Rattle.scr_list.specs.declared.fault.ListFault.{ListFault}
use Rattle.scr_list.specs.declared.fault.ListFault.TheVariants as list
use Rattle.scr_list.specs.declared.round.Round.{Round}
use Rattle.scr_list.specs.Reading.{ReadsInPart}
use Rattle.scr_list.proofs.RoundFacts.{answer-not_Read}
use Rattle.scr_command.specs.declared.command.UsageFault.{UsageFault}
use Rattle.scr_table.specs.declared.fault.BuildFault.{BuildFault}
use Rattle.scr_table.specs.declared.fault.BuildFault.TheVariants as build
use Rattle.scr_slots.specs.declared.settings.Settings.{Settings}
use Rattle.scr_fault.specs.declared.fault.Fault.{Fault}
use Rattle.scr_fault.specs.declared.fault.Fault.TheVariants as fault
use Rattle.scr_fault.specs.declared.status.Status.TheVariants as status
use Rattle.scr_fault.specs.Faults.{fault_of_build}
use Rattle.scr_sheet.specs.Check.{InputComesTo, ReadsInput, EndsChecking, rounds_in}
use Rattle.scr_fault.specs.Status.{status_of}
use Rattle.scr_sheet.specs.Outcome.{EndsTelling}

-- A list part is no list, or could not be read.
abbrev pub ReadsNoListPart : Change → ListFault → Type 0
ReadsNoListPart source list.Read = ReadsInPart source (λ bytes. length bytes)
ReadsNoListPart source (list.TooLong limit) = ReadsInput source (λ input. rounds_in input ≡ Err (list.TooLong limit))
ReadsNoListPart source (list.Line number cause) = ReadsInput source (λ input. rounds_in input ≡ Err (list.Line number cause))

-- ---- what inputs come to

-- with which faults an input can be told
abbrev IsOfInput : Result (List Round) ListFault → Fault → Type 0
IsOfInput rounds (fault.List refusal) = rounds ≡ Err refusal
IsOfInput rounds (fault.DrawLimit missing) = Unit {0}
IsOfInput rounds (fault.Differs line) = Unit {0}
IsOfInput rounds _ = ⊥

input-fault : (settings : Settings) (rounds : Result (List Round) ListFault) (input : List ℕ) (why : Fault)
    → InputComesTo settings rounds input (Err why) → IsOfInput rounds why
input-fault settings (Err refusal) input why is =
    let same : why ≡ fault.List refusal = cc in
    subst (IsOfInput (Err refusal)) (sym same) refl
input-fault settings (Ok rounds) input why (Ok u, comes, is) = cc
input-fault settings (Ok rounds) input why (Err (check.Differs line), comes, is) =
    let same : why ≡ fault.Differs line = cc in
    subst (IsOfInput (Ok rounds)) (sym same) tt
input-fault settings (Ok rounds) input why (Err (check.Limit missing), comes, is) =
    let same : why ≡ fault.DrawLimit missing = cc in
    subst (IsOfInput (Ok rounds)) (sym same) tt
input-fault settings (Ok rounds) input why (Err check.Read, comes, is) = absurd comes

-- and of what was read of an input, where nothing follows
read-fault : (settings : Settings) (source : Change) (why : Fault)
    → (reads : ReadsInput source (λ input. InputComesTo settings (rounds_in input) input (Err why)))
    → IsOfInput (rounds_in (reads.bytes ++ [])) why
read-fault settings source why reads = input-fault settings _ _ why (reads.tells [] (λ ended. refl))

-- ---- what a check ends with

-- a run that ends with a fault ends with that of tables that could not be built
abbrev Fails : Fault → BuildFault → Type 0
Fails f why = (let ended : Result (Unit {0}) Fault = Err f in ended) ≡ Err (fault_of_build why)

checking-usage : (settings : Settings) (source : Change) (usage : UsageFault)
    → EndsChecking settings source (Err (fault.Usage usage)) → ⊥
checking-usage settings source usage (inl reads) = read-fault settings source (fault.Usage usage) reads
checking-usage settings source usage (inr (inl lacks)) = at lacks.3.0 lacks.3.2
  where
    at : (why : BuildFault) → Fails (fault.Usage usage) why → ⊥
    at build.NoMemory is = cc
    at (build.Gap table index) is = cc
checking-usage settings source usage (inr (inr unread)) = let same = unread.0 in cc

checking-write : (settings : Settings) (source : Change) → EndsChecking settings source (Err fault.Write) → ⊥
checking-write settings source (inl reads) = read-fault settings source fault.Write reads
checking-write settings source (inr (inl lacks)) = at lacks.3.0 lacks.3.2
  where
    at : (why : BuildFault) → Fails fault.Write why → ⊥
    at build.NoMemory is = cc
    at (build.Gap table index) is = cc
checking-write settings source (inr (inr unread)) = let same = unread.0 in cc

no_list-read : (settings : Settings) (source : Change) (refusal : ListFault)
    → ReadsInput source (λ input. InputComesTo settings (rounds_in input) input (Err (fault.List refusal)))
    → ReadsNoListPart source refusal
no_list-read settings source list.Read reads =
    absurd (answer-not_Read _ (Err list.Read) (sym (read-fault settings source (fault.List list.Read) reads)) refl)
no_list-read settings source (list.TooLong limit) reads = record {
  bytes = reads.bytes;
  ended = reads.ended;
  gives = reads.gives;
  end = reads.end;
  no_end = reads.no_end;
  tells = λ rest follows. input-fault settings _ _ (fault.List (list.TooLong limit)) (reads.tells rest follows);
}
no_list-read settings source (list.Line number cause) reads = record {
  bytes = reads.bytes;
  ended = reads.ended;
  gives = reads.gives;
  end = reads.end;
  no_end = reads.no_end;
  tells = λ rest follows. input-fault settings _ _ (fault.List (list.Line number cause)) (reads.tells rest follows);
}

checking-list : (settings : Settings) (source : Change) (refusal : ListFault)
    → EndsChecking settings source (Err (fault.List refusal)) → ReadsNoListPart source refusal
checking-list settings source refusal (inl reads) = no_list-read settings source refusal reads
checking-list settings source refusal (inr (inl lacks)) = absurd (at lacks.3.0 lacks.3.2)
  where
    at : (why : BuildFault) → Fails (fault.List refusal) why → ⊥
    at build.NoMemory is = cc
    at (build.Gap table index) is = cc
checking-list settings source refusal (inr (inr unread)) =
    let is = unread.0 in
    let same : list.Read ≡ refusal = cc in
    subst (ReadsNoListPart source) same unread.1

-- ---- the command

-- how a check ends: where all agrees, it is said so
abbrev pub EndsCheck : Settings → Change → Change → Result (Unit {0}) Fault → Type 0
EndsCheck settings source out ended =
    (answer : Result (Unit {0}) Fault) × EndsChecking settings source answer × EndsTelling answer (codes "agrees\n") out ended

-- where it told a fault that isn't the output's, the check ended with it
pub told-fault : (answer : Result (Unit {0}) Fault) (lines : List ℕ) (out : Change) (why : Fault) → (why ≡ fault.Write → ⊥)
    → EndsTelling answer lines out (Err why) → answer ≡ Err why
told-fault (Ok u) lines out why other told = absurd (other told.0)
told-fault (Err found) lines out why other told = sym told.0

pub check-usage : (settings : Settings) (source out : Change) (usage : UsageFault)
    → EndsCheck settings source out (Err (fault.Usage usage)) → ⊥
check-usage settings source out usage ends =
    checking-usage settings source usage
    (subst (EndsChecking settings source) (told-fault ends.0 _ out (fault.Usage usage) (λ same. cc) ends.2) ends.1)

pub check-list : (settings : Settings) (source out : Change) (refusal : ListFault)
    → EndsCheck settings source out (Err (fault.List refusal)) → ReadsNoListPart source refusal
check-list settings source out refusal ends =
    checking-list settings source refusal
    (subst (EndsChecking settings source) (told-fault ends.0 _ out (fault.List refusal) (λ same. cc) ends.2) ends.1)

pub check-write : (settings : Settings) (source out : Change) → EndsCheck settings source out (Err fault.Write)
    → Rose out.faults_before out.faults_after
check-write settings source out ends = at ends.0 _ ends.1 ends.2
  where
    at : (answer : Result (Unit {0}) Fault) (lines : List ℕ) → EndsChecking settings source answer
        → EndsTelling answer lines out (Err fault.Write) → Rose out.faults_before out.faults_after
    at (Ok u) lines checked told = told.1.rose
    at (Err found) lines checked told = absurd (checking-write settings source (subst (EndsChecking settings source) (sym told.0) checked))

-- a source that failed ends the check for just that
pub check-input : (settings : Settings) (source out : Change) (ended : Result (Unit {0}) Fault)
    → EndsCheck settings source out ended → source.faults_before < source.faults_after
    → status_of ended ≡ status.ReadFault
check-input settings source out ended ends rose = at ends.1
  where
    stays : {P : List ℕ → Type 0} → ReadsInput source P → ⊥
    stays reads = let same = reads.gives.no_fault in omega (arith, same, rose)

    told : (answer : Result (Unit {0}) Fault) (lines : List ℕ) → answer ≡ Err (fault.List list.Read)
        → EndsTelling answer lines out ended → ended ≡ Err (fault.List list.Read)
    told (Ok u) lines is tells = cc
    told (Err found) lines is tells = tells.0 ∙ is

    at : EndsChecking settings source ends.0 → status_of ended ≡ status.ReadFault
    at (inl reads) = absurd (stays reads)
    at (inr (inl lacks)) = absurd (stays lacks.1)
    at (inr (inr unread)) = ap status_of (told ends.0 _ unread.0 ends.2)
