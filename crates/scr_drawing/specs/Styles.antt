-- What a style may hold, by tests that compute.
use Rattle.std.specs.Prelude.{Bool, ◌&&◌, not}
use Rattle.std.specs.List.{list_all}
use Rattle.scr_markup.specs.Tokens.{Attribute, is_name, is_class}
use Rattle.scr_markup.specs.Given.{attribute_of}
use Rattle.scr_drawing.specs.declared.style.Element.{Element}
use Rattle.scr_drawing.specs.declared.style.Ink.{Ink}
use Rattle.scr_drawing.specs.declared.style.Style.{Style}
use Rattle.scr_drawing.specs.Outlines.{is_line, is_steps}

abbrev pub is_ink : Ink → Bool
is_ink ink = is_line ink.0.now && (is_steps ink.1.now && is_line ink.2.now)

-- an attribute that is no class
abbrev pub is_free_attribute : Attribute → Bool
is_free_attribute attribute = is_name attribute.key && (is_line attribute.value && not (is_class attribute))

abbrev pub is_free : Element → Bool
is_free element =
    is_name element.0.now
    && (list_all (λ pair. is_free_attribute (attribute_of pair)) element.1.now && is_line element.2.now)

abbrev pub is_style : Style → Bool
is_style style =
    is_line style.view_box.now && is_line style.width.now && is_line style.line.now && is_line style.mark_line.now
    && list_all is_free style.under.now && list_all is_ink style.inks.now
