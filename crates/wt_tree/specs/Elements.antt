-- The elements that stand for a plain view where it is written as elements alone, as in a group: a text at
-- the top is in a `span`, and where nothing is shown there is one empty `span`.
use Rattle.std.specs.Prelude.{None, []}
use Rattle.wt_tree.specs.declared.kind.Kind.TheVariants as kind
use Rattle.wt_span.specs.declared.tag_name.TagName.TheVariants as tag
use Rattle.wt_tree.specs.Plain.{Face, Plain, text, element, Plains, ended, along}

-- the element round a text, and round nothing
abbrev pub span : Face
span = record { kind = kind.Tag tag.Span; attrs = []; mw = None }

abbrev pub as_element : Plain → Plain
as_element (text bs) = element span (along (text bs) ended)
as_element (element f qs) = element f qs

abbrev pub as_elements : Plains → Plains
as_elements ended = ended
as_elements (along p ps) = along (as_element p) (as_elements ps)

abbrev pub or_empty_span : Plains → Plains
or_empty_span ended = along (element span ended) ended
or_empty_span (along p ps) = along p ps
