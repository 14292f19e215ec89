use Rattle.std.proofs.Common.{string_bytes, ap, ◌∙◌}
use Rattle.scr_notation.specs.Event.{name_of}
use Rattle.scr_layout.specs.Texts.{tag_of}
use Rattle.scr_text_pages.proofs.CutLemmas.{cut-made, five-pushed}
use Rattle.scr_text_pages.proofs.cutting.write_cut.Goals as goal

pub returns : goal.returns
returns c =
    cut-made c.args.group.now (string_bytes c.args.text.now) (string_bytes c.write_dashes.new.text) (string_bytes c.push_str-5.new.self)
    c.event.ensures.valid c.in_ok-write_dashes.ensures
    (five-pushed (string_bytes c.write_dashes.new.text) (string_bytes c.push_str.new.self) (string_bytes c.push_str-2.new.self)
    (string_bytes c.push_str-3.new.self) (string_bytes c.push_str-4.new.self) (string_bytes c.push_str-5.new.self)
    c.name-name.result.now (name_of c.args.group.now.event) c.as_str.result.now (tag_of c.args.group.now)
    c.in_ok-push_str.ensures.bytes c.in_ok-push_str-2.ensures.bytes c.in_ok-push_str-3.ensures.bytes c.in_ok-push_str-4.ensures.bytes
    c.in_ok-push_str-5.ensures.bytes
    (c.name-name.ensures ∙ ap name_of c.event.ensures.value) (c.as_str.ensures.value ∙ c.tag-tag.ensures))
