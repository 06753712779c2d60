-- What the elements of tiles carry: links, attributes and the names of switches. Each by the items of its tile.
use Rattle.std.specs.Prelude.{ℕ, ◌+◌, ◌==◌, not, Option, Some, None, List, [], ◌∷◌, ◌++◌, map, take, drop, slice_index, codes, if◌then◌else◌}
use Rattle.std.specs.List.{flat_map, prefix_len}
use Rattle.std.specs.Option.{option_map}
use Rattle.std.specs.Str.{bytes_eq}
use Rattle.wt_tree.specs.declared.kind.Kind.{Kind}
use Rattle.wt_tree.specs.declared.kind.Kind.TheVariants as kind
use Rattle.wt_span.specs.declared.tag_name.TagName.{TagName}
use Rattle.wt_span.specs.declared.tag_name.TagName.TheVariants as name
use Rattle.wt_tree.specs.declared.kind.AttrName.{AttrName}
use Rattle.wt_tree.specs.declared.kind.AttrName.TheVariants as attr
use Rattle.wt_span.specs.Bytes.{is_blank}
use Rattle.wt_span.specs.Items.{Item, sources}
use Rattle.wt_span.specs.Characters as byte
use Rattle.wt_names.specs.Written.{link_to}
use Rattle.wt_attributes.specs.Attributes.{attributes}
use Rattle.wt_tiles.specs.declared.glyph.Glyph.{Glyph}
use Rattle.wt_tiles.specs.declared.tag.Name.{Name}
use Rattle.wt_tiles.specs.declared.tag.Name.TheVariants.{Paired, Break, Island}
use Rattle.wt_tiles.specs.declared.tag.Tag.{Tag}
use Rattle.wt_tiles.specs.declared.target.Target.{Target}
use Rattle.wt_tiles.specs.declared.glyph.GlyphClass.TheVariants as class
use Rattle.wt_tiles.specs.Glyphs.{glyph_of, run_len}
use Rattle.wt_tiles.specs.Tags.{tag_at, name_len}
use Rattle.wt_tiles.specs.Links.{target_len, target_of, has_pipe, to_close}
use Rattle.wt_inline.specs.Carried.{shown_item, typeof, placeholder_typeof}
use Rattle.wt_inline.specs.ItemTree.{Head, with_attrs}
use Rattle.wt_context.specs.Chunks.{visible}

abbrev pub glyphs : List Item → List Glyph
glyphs xs = map glyph_of xs

abbrev pub with_href : Kind → List ℕ → Head
with_href k href = with_attrs k ((attr.Href, href) ∷ [])

-- what is kept and not read into
unfoldable pub placeholder : Head
placeholder = with_attrs kind.Island (typeof placeholder_typeof)

-- ---- links and categories

abbrev pub or_none : Option ℕ → ℕ
or_none None = 0
or_none (Some n) = n

-- how many items the target takes, which comes after the `[[`
unfoldable pub target_size : List Glyph → ℕ
target_size gs = or_none (target_len (drop 2 gs))

unfoldable pub target : List Glyph → Option Target
target gs = target_of (take (target_size gs) (drop 2 gs))

abbrev pub href_to : Option Target → List ℕ
href_to None = []
href_to (Some t) = link_to t.title

unfoldable pub link_head : List Item → Head
link_head xs = with_href kind.WikiLink (href_to (target (glyphs xs)))

-- the source of items, marks left out
abbrev pub visible_source : List Item → List ℕ
visible_source xs = sources (visible xs)

-- what is between the `|` after so many items and the `]]`
unfoldable pub key_after : ℕ → List Item → Option (List ℕ)
key_after n xs = option_map (λ k. visible_source (take k (drop (n + 1) xs))) (to_close (drop (n + 1) (glyphs xs)))

-- a category's key: the source after the first `|`
unfoldable pub key : List Item → Option (List ℕ)
key xs = let n = 2 + target_size (glyphs xs) in if has_pipe n (glyphs xs) then key_after n xs else None

-- it leads to the title with the key in place of a fragment
abbrev pub href_with : Option Target → Option (List ℕ) → List ℕ
href_with None k = []
href_with (Some t) k = link_to (record { ns = t.title.ns; name = t.title.name; fragment = k })

unfoldable pub category_head : List Item → Head
category_head xs = with_href kind.Category (href_with (target (glyphs xs)) (key xs))

-- ---- external links

-- the text of items: characters and entities
abbrev pub text_of : List Item → List ℕ
text_of xs = flat_map shown_item xs

abbrev pub behind_bracket : List ℕ → List ℕ
behind_bracket bs = if slice_index bs 0 == byte.opening_bracket then drop 1 bs else bs

abbrev pub before_blank : List ℕ → List ℕ
before_blank bs = take (prefix_len (λ b. not (is_blank b)) bs) bs

-- of an open delimiter, `[`, the URL and blanks: the URL
abbrev pub bracketed_url : List ℕ → List ℕ
bracketed_url bs = before_blank (behind_bracket bs)

unfoldable pub ext_link_head : List Item → Head
ext_link_head opening = with_href kind.ExtLink (bracketed_url (text_of opening))

unfoldable pub bare_url_head : List Item → Head
bare_url_head xs = with_href kind.ExtLink (text_of xs)

-- ---- tags

-- how many items there are up to the end of the tag's name
unfoldable pub name_end : List Glyph → ℕ
name_end gs = let n = name_len (drop 1 gs) in if n == 0 then 0 else 1 + n

-- of an opening tag: what is between its name and the `>`
unfoldable pub attribute_items : List Item → List Item
attribute_items opening =
    let n = name_end (glyphs opening) in
    take (run_len class.Tag (drop n (glyphs opening))) (drop n opening)

abbrev pub span_attributes : List Item → List (AttrName × List ℕ)
span_attributes opening = attributes (attribute_items opening)

-- a span alone has attributes
abbrev pub attributes_of : TagName → List Item → List (AttrName × List ℕ)
attributes_of name.Sup opening = []
attributes_of name.Sub opening = []
attributes_of name.Small opening = []
attributes_of name.S opening = []
attributes_of name.U opening = []
attributes_of name.Code opening = []
attributes_of name.Span opening = span_attributes opening

abbrev pub pair_by_name : Name → List Item → Head
pair_by_name (Paired m) opening = with_attrs (kind.Tag m) (attributes_of m opening)
pair_by_name Break opening = placeholder
pair_by_name Island opening = placeholder

abbrev pub pair_by : Option Tag → List Item → Head
pair_by None opening = placeholder
pair_by (Some t) opening = pair_by_name t.name opening

unfoldable pub pair_head : List Item → Head
pair_head opening = pair_by (tag_at (glyphs opening)) opening

-- ---- switches

-- the names of switches, as they are written and as they are named
unfoldable pub switch_names : List (List ℕ × List ℕ)
switch_names =
    (codes "__NOTOC__", codes "notoc") ∷ (codes "__FORCETOC__", codes "forcetoc") ∷ (codes "__TOC__", codes "toc")
    ∷ (codes "__NOEDITSECTION__", codes "noeditsection") ∷ (codes "__NEWSECTIONLINK__", codes "newsectionlink")
    ∷ (codes "__HIDDENCAT__", codes "hiddencat") ∷ (codes "__NOGALLERY__", codes "nogallery")
    ∷ (codes "__INDEX__", codes "index") ∷ (codes "__NOINDEX__", codes "noindex") ∷ []

abbrev pub named : List (List ℕ × List ℕ) → List ℕ → List ℕ
named [] bs = []
named ((written, told) ∷ names) bs = if bytes_eq bs written then told else named names bs

unfoldable pub switch_property : List ℕ → List ℕ
switch_property bs = codes "mw:PageProp/" ++ named switch_names bs

unfoldable pub switch_head : List Item → Head
switch_head xs = with_attrs kind.Switch ((attr.Property, switch_property (sources xs)) ∷ [])
