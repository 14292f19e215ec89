use Rattle.std.proofs.Common.{◌∙◌, ⊎_elim, ap, sym, subst}
use Rattle.clap.specs.Words.{IsAmong, kind_of, found_of, fault_of, is_simple, is_simple_and_free, matches_of}
use Rattle.scr_options.specs.Words.{forms_of, texts}
use Rattle.scr_options.proofs.OptionRules.{is_ready, is_ready_and_free}
use Rattle.scr_options.proofs.Ordinary.{all_left, none_bare, none_given}
use Rattle.scr_options.proofs.Parsed.{fault_refused, matches_give}
use Rattle.scr_options.proofs.splitting.split_options.Goals as goal

pub returns-then-has_bare_hyphens-clause-usage : goal.returns-then-has_bare_hyphens-clause-usage
returns-then-has_bare_hyphens-clause-usage c =
    λ _. none_given (forms_of c.args.forms.now) c.requires (texts c.args.words.now) (c.has_bare_hyphens.ensures.found c.if-has_bare_hyphens.true)

pub returns-in_default-clause-memory : goal.returns-in_default-clause-memory
returns-in_default-clause-memory c = λ _. none_bare c.args.words.now (c.has_bare_hyphens.ensures.none c.if-has_bare_hyphens.false)

pub returns-in-Ok-try_get_matches_from-clause-ok : goal.returns-in-Ok-try_get_matches_from-clause-ok
returns-in-Ok-try_get_matches_from-clause-ok c =
    let forms = forms_of c.args.forms.now in
    let words = texts c.args.words.now in
    let left = all_left c.args.words.now (c.has_bare_hyphens.ensures.none c.if-has_bare_hyphens.false) in
    let is = c.in-Ok.ensures in
    let parse = c.in-Ok-try_get_matches_from in
    let kinds = parse.ensures.kinds (ap is_simple_and_free is ∙ is_ready_and_free forms) in
    let rows = parse.ensures.matches (ap is_simple is ∙ is_ready forms) in
    matches_give forms words (found_of parse.matches) left (sym (ap (λ a. fault_of a words) is) ∙ kinds) (rows.0 ∙ ap (λ a. matches_of a words) is)

pub returns-in-OutOfMemory-clause-memory : goal.returns-in-OutOfMemory-clause-memory
returns-in-OutOfMemory-clause-memory c = λ _. none_bare c.args.words.now (c.has_bare_hyphens.ensures.none c.if-has_bare_hyphens.false)

pub returns-clause-usage : goal.returns-clause-usage
returns-clause-usage c =
    let forms = forms_of c.args.forms.now in
    let words = texts c.args.words.now in
    let left = all_left c.args.words.now (c.has_bare_hyphens.ensures.none c.if-has_bare_hyphens.false) in
    let is = c.in-Ok.ensures in
    let among = c.in-Err.ensures.kinds (ap is_simple_and_free is ∙ is_ready_and_free forms) in
    λ _. ⊎_elim (λ memory. absurd (c.in_default-kind.not-OutOfMemory (c.kind.ensures ∙ memory)))
    (λ one. fault_refused forms words _ left (subst (IsAmong (kind_of c.in-Err.error)) (ap (λ a. fault_of a words) is) one)) among

pub returns-clause-memory : goal.returns-clause-memory
returns-clause-memory c = λ memory. cc
