-- What words ask for, by the values that they give.
use Rattle.std.proofs.Common.{◌≡◌, ◌∙◌, refl, sym, ap, subst, List, false, Option, Some, None, Result, IfOk, IfErr, option_map}
use Rattle.std.specs.Prelude.{ok_or, option_and_then}
use Rattle.std.specs.List.{list_any}
use Rattle.scr_options.specs.Hyphens.{is_bare}
use Rattle.scr_options.specs.OptionWords.{Text, Values, options_of}
use Rattle.scr_options.specs.declared.splitting.OptionsFault.{OptionsFault}
use Rattle.scr_options.specs.declared.splitting.OptionsFault.TheVariants as options
use Rattle.scr_pages.specs.declared.asked.Asked.{Asked as Held}
use Rattle.scr_host.specs.declared.fault.Fault.TheVariants as fault
use Rattle.scr_pages.specs.Faults.{RunFault as Fault}
use Rattle.scr_pages.specs.Asked.{asked_for, asked_in, page_options}
use Rattle.scr_pages.specs.Words.{RefusesWords, asked_of, fault_of_options}

-- words that weren't split weren't read
pub not_split : (words : List Text) (why : OptionsFault) (told : Fault) → told ≡ fault_of_options why
    → (why ≡ options.Usage → options_of page_options words ≡ None) → (why ≡ options.NoMemory → list_any is_bare words ≡ false)
    → RefusesWords words told
not_split words options.Usage told is usage memory = subst (RefusesWords words) (sym is) (ap (option_and_then asked_in) (usage refl))
not_split words options.NoMemory told is usage memory = subst (RefusesWords words) (sym is) (memory refl)

-- and those that were are read by the values of their options
pub split_asks : (words : List Text) (values : Values) (asked : Option Held) (r : Result Held Fault) → options_of page_options words ≡ Some values
    → option_map asked_of asked ≡ asked_in values → r ≡ ok_or asked fault.Usage
    → IfOk r (λ held. asked_for words ≡ Some (asked_of held)) × IfErr r (RefusesWords words)
split_asks words values None r given is ends =
    subst (λ e. IfOk e (λ held. asked_for words ≡ Some (asked_of held)) × IfErr e (RefusesWords words)) (sym ends)
    (tt, ap (option_and_then asked_in) given ∙ sym is)
split_asks words values (Some held) r given is ends =
    subst (λ e. IfOk e (λ held. asked_for words ≡ Some (asked_of held)) × IfErr e (RefusesWords words)) (sym ends)
    (ap (option_and_then asked_in) given ∙ sym is, tt)
