use Rattle.std.proofs.Common.{arith, rules, string_bytes}
use Rattle.scr_markup.proofs.EscapedLemmas.{page_ends, page_goes_on, ascii_if_named}
use Rattle.std.proofs.lemmas.Str.{IsCharBoundary-after_ascii}
use Rattle.scr_markup.proofs.escaping.push_escaped.Goals as goal

pub returns-then-plain-rest : goal.returns-then-plain-rest
returns-then-plain-rest c =
    page_ends c.plain_len-plain.result c.loop-page.rest.now (string_bytes c.loop-page.page) c.range.result.now _ _ c.if-plain-rest.true
    (search rules) c.in_ok-push_str.ensures.bytes (search rules) c.loop-page.invariant.1

pub range_from-rest-requires : goal.range_from-rest-requires
range_from-rest-requires c some =
    IsCharBoundary-after_ascii c.loop-page.rest.now c.plain_len-plain.result (search rules) (omega arith) (ascii_if_named _ (search rules))

pub loop-page-preserved : goal.loop-page-preserved
loop-page-preserved c = (
  search rules,
  page_goes_on c.plain_len-plain.result c.loop-page.rest.now (string_bytes c.loop-page.page) c.range.result.now _
      c.name_of.result.now _ c.range_from-rest.result.now _ (omega arith) (search rules) c.in_ok-push_str.ensures.bytes (search rules)
      c.in_ok-push_str-2.ensures.bytes (search rules) (search rules) c.loop-page.invariant.1,
)
