use Rattle.std.proofs.Common.{Some, None, lit<}
use Rattle.std.proofs.lemmas.Str.Pattern.{split_once_first}
use Rattle.scr_layout.proofs.WordLemmas.{found, not_found}
use Rattle.scr_layout.proofs.words.first_word.Goals as goal

pub returns-in-Some : goal.returns-in-Some
returns-in-Some c =
    let parts = split_once_first 32 c.args.text.now (Some (c.in-Some.word, c.in-Some.behind)) c.in-Some.ensures.cases (lit< tt) in
    λ event turn turns are is. found event turn turns c.args.text.now c.in-Some.word.now c.in-Some.behind.now are is parts.1 parts.2 parts.0

pub returns-in-None : goal.returns-in-None
returns-in-None c =
    let all = split_once_first 32 c.args.text.now None c.in-None.ensures.cases (lit< tt) in
    λ event turn turns are is. not_found event turn turns c.args.text.now are is all
