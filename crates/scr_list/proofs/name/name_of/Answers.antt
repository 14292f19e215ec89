use Rattle.std.proofs.Common.{sym, ◌∙◌, arith}
use Rattle.scr_list.proofs.NameLemmas.{is_name-HasNameBytes, is_name-IsUtf8}
use Rattle.scr_list.proofs.name.name_of.Goals as goal

pub returns-then-not-is_name : goal.returns-then-not-is_name
returns-then-not-is_name c = grind arith

pub unreachable-requires : goal.unreachable-requires
unreachable-requires c = c.in-Err.ensures.cases.0 (is_name-IsUtf8 c.args.text.now (sym c.is_name.ensures ∙ c.if-not-is_name.false))

pub push_str-requires : goal.push_str-requires
push_str-requires c = grind (arith, is_name-HasNameBytes)

pub returns : goal.returns
returns c = grind arith
