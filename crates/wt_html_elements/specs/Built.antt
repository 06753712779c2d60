-- What contracts see in what is built.
use Rattle.std.specs.Prelude.{◌≡◌, Option, Some, None, List, [], ◌∷◌, map, reverse}
use Rattle.wt_html_grammar.specs.Markup.{Pair, Markup, Markups, text, node, empty, more}
use Rattle.wt_html_grammar.specs.Events.{Frame, Building}
use Rattle.wt_html_elements.specs.declared.content.Attribute.{Attribute}
use Rattle.wt_html_elements.specs.declared.content.Content.{Content, fold-Content}
use Rattle.wt_html_elements.specs.declared.content.Content.TheOpen.{Content-F}
use Rattle.wt_html_elements.specs.declared.content.OpenElement.{OpenElement}
use Rattle.wt_html_elements.specs.declared.tag.OpenTag.{OpenTag}
use Rattle.wt_html_elements.specs.declared.builder.Builder.{Builder}
use Rattle.wt_html_elements.specs.Attributes.{pairs_in}

abbrev pub markups : List Markup → Markups
markups [] = empty
markups (t ∷ ts) = more t (markups ts)

abbrev pub pair : Attribute → Pair
pair a = (a.name.items, a.value.items)

abbrev pub pairs : List Attribute → List Pair
pairs xs = map pair xs

-- the text or element that a content stands for
abbrev pub content_step : Content-F Markup → Markup
content_step (Content-F.Text bytes) = text bytes.items
content_step (Content-F.Element name attributes contents) = node name.items (pairs attributes.items) (markups contents.items)

abbrev pub view_content : Content → Markup
view_content = fold-Content Markup content_step

abbrev pub views : List Content → Markups
views cs = markups (map view_content cs)

abbrev pub frame : OpenElement → Frame
frame e = record { name = e.name.items; attributes = pairs e.attributes.items; items = views e.contents.items; run = e.run.items }

abbrev pub frames : Option OpenElement → List OpenElement → List Frame
frames None others = []
frames (Some e) others = frame e ∷ reverse (map frame others)

-- nothing is left of a tag
abbrev pub IsEmptyTag : OpenTag → Type 0
IsEmptyTag t = (t.name.items ≡ []) × (pairs_in t.attributes ≡ []) × (t.key.items ≡ []) × (t.value.items ≡ [])

-- the start tag that is read, among the open elements and the root
abbrev pub tagged : OpenTag → List Frame → Markups → Building
tagged t fs root = record {
  opened = fs;
  name = t.name.items;
  attributes = pairs_in t.attributes;
  key = t.key.items;
  value = t.value.items;
  root = root;
}

abbrev pub building : Builder → Building
building b = tagged b.tag (frames b.inner b.outer.items) (views b.root.items)
