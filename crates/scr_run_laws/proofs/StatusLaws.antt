-- Which end each status has.
use Rattle.std.proofs.Common.{◌≡◌, Ok, Err, refl, subst}
use Rattle.std.specs.Prelude.{◌≢◌, Result}
use Rattle.scr_list.specs.declared.fault.ListFault.{ListFault}
use Rattle.scr_list.specs.declared.fault.ListFault.TheVariants as list
use Rattle.scr_command.specs.declared.command.UsageFault.{UsageFault}
use Rattle.scr_fault.specs.declared.fault.Fault.{Fault}
use Rattle.scr_fault.specs.declared.fault.Fault.TheVariants as fault
use Rattle.scr_fault.specs.declared.status.Status.{Status}
use Rattle.scr_fault.specs.declared.status.Status.TheVariants as status
use Rattle.scr_fault.specs.Status.{status_of}

abbrev pub End : Type 0
End = Result (Unit {0}) Fault

-- a run that has this status ended so
abbrev pub IsEndOf : Status → End → Type 0
IsEndOf status.Done ended = ended ≡ Ok tt
IsEndOf status.Usage ended = (usage : UsageFault) × (ended ≡ Err (fault.Usage usage))
IsEndOf status.List ended = (refusal : ListFault) × (ended ≡ Err (fault.List refusal)) × (refusal ≢ list.Read)
IsEndOf status.ReadFault ended = ended ≡ Err (fault.List list.Read)
IsEndOf status.WriteFault ended = ended ≡ Err fault.Write
IsEndOf status.NoMemory ended = ended ≡ Err fault.NoMemory
IsEndOf _ ended = Unit {0}

own_status : (ended : End) → IsEndOf (status_of ended) ended
own_status (Ok u) = refl
own_status (Err (fault.Usage usage)) = (usage, refl)
own_status (Err (fault.List list.Read)) = refl
own_status (Err (fault.List (list.TooLong limit))) = (list.TooLong limit, refl, λ same. cc)
own_status (Err (fault.List (list.Line number cause))) = (list.Line number cause, refl, λ same. cc)
own_status (Err (fault.DrawLimit missing)) = tt
own_status (Err fault.Write) = refl
own_status (Err fault.NoMemory) = refl
own_status (Err (fault.Gap table index)) = tt
own_status (Err (fault.Differs line)) = tt

pub end-of : (outcome : Status) (ended : End) → status_of ended ≡ outcome → IsEndOf outcome ended
end-of outcome ended is = subst (λ s. IsEndOf s ended) is (own_status ended)
