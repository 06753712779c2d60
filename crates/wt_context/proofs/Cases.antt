-- Worked cases of the inside of a line, each computed.
use Rattle.std.proofs.Common.{◌≡◌, ℕ, None, List, [], ◌∷◌, ◌++◌, map, refl}
use Rattle.std.specs.Prelude.{codes}
use Rattle.std.specs.Str.{is_utf8, chars as chars_of}
use Rattle.wt_tree.specs.declared.kind.Kind.{Kind}
use Rattle.wt_tree.specs.declared.kind.Kind.TheVariants as kind
use Rattle.wt_span.specs.declared.tag_name.TagName.TheVariants as tag
use Rattle.wt_tree.specs.declared.kind.AttrName.{AttrName}
use Rattle.wt_tree.specs.declared.kind.AttrName.TheVariants as attr
use Rattle.wt_span.specs.declared.form.ItemForm.TheVariants as form
use Rattle.wt_span.specs.Tags.{opening_tag as raw_opening_tag, closing_tag as raw_closing_tag, tag_after as raw_tag_after}
use Rattle.wt_span.specs.Items.{Item, char, whole}
use Rattle.wt_names.specs.Namespace.{namespace_named, is_called, name_of, image, prefix_of, full_name_of}
use Rattle.wt_names.specs.Reading.{whole_in, cut_namespace, title_in}
use Rattle.wt_names.specs.Good.{read_text, is_good, is_allowed, is_forbidden, has_signature, is_step, begins_with_step, holds_step, ends_with_step}
use Rattle.wt_names.specs.Written.{stays_in_link, link_text, link_to}
use Rattle.wt_attributes.specs.Attributes.{begins_any_case, name_at, quoted, bare, value_at, past_blanks, assigned, attribute_at, attributes}
use Rattle.wt_quotes.specs.Runs.{place_of}
use Rattle.wt_quotes.specs.Toggles.{toggle_at, toggles_of}
use Rattle.wt_quotes.specs.Turns.{since, next, bold_ends_later, effect_on, is_bold_outside_at, turn_at}
use Rattle.wt_quotes.specs.Styles.{style_tree_of}
use Rattle.wt_tiles.specs.Tags.{name_of as tag_name_of, live_name, is_island_name, is_style_name, is_phrase_name, is_block_name, is_list_name, is_table_name, is_include_name, tag_after, opening_tag, closing_tag, tag_at}
use Rattle.wt_tiles.specs.Partners.{bracket_turn}
use Rattle.wt_tiles.specs.Links.{target_of, link_in, link_at}
use Rattle.wt_tiles.specs.Urls.{scheme_len, is_url_char, is_dropped, kept_len, ext_link_at, bare_url_at}
use Rattle.wt_tiles.specs.Tiles.{tag_tile, switch_names as switch_words, switch_at, link_or_url, form_at, closed, shapes, tiles}
use Rattle.wt_inline.specs.ItemTree.{ItemTree, plain, inner, forest}
use Rattle.wt_inline.specs.Parts.{loose_leaf, form_leaf, children, nowiki}
use Rattle.wt_inline.specs.Carried.{placeholder_typeof}
use Rattle.wt_inline.specs.declared.loose.Loose.TheVariants.{Text}
use Rattle.wt_context.specs.Segments.{loose_segments}
use Rattle.wt_context.specs.Chunks.{chunks}
use Rattle.wt_context.specs.Styled.{with_styles}
use Rattle.wt_context.specs.Heads.{placeholder, target_size, target, link_head, key_after, key, category_head, ext_link_head, bare_url_head, name_end, attribute_items, pair_head, switch_names, switch_property, switch_head}
use Rattle.wt_context.specs.Nodes.{bare_url, nested_tree, segments}
use Rattle.wt_context.specs.Line.{context_parts, line_trees}

-- characters of the page
abbrev page : List ℕ → List Item
page bs = map (char None) bs

-- the trees of a line
abbrev read : List ℕ → List ItemTree
read bs = line_trees (page bs)

abbrev text : List ℕ → ItemTree
text bs = loose_leaf Text (page bs)

-- a node with these delimiters
abbrev round : Kind → List ℕ → List ItemTree → List ℕ → ItemTree
round k opening ts closing = inner (plain k) (page opening) (forest ts) (page closing)

abbrev with_attrs : Kind → List (AttrName × List ℕ) → List ℕ → List ItemTree → List ℕ → ItemTree
with_attrs k attrs opening ts closing = inner (record { kind = k; shown = []; attrs = attrs; mw = None }) (page opening) (forest ts) (page closing)

abbrev linked : Kind → List ℕ → List ℕ → List ItemTree → List ℕ → ItemTree
linked k href opening ts closing = with_attrs k ((attr.Href, href) ∷ []) opening ts closing

abbrev bold : List ℕ → List ItemTree → List ℕ → ItemTree
bold opening ts closing = round kind.Bold opening ts closing

abbrev italic : List ℕ → List ItemTree → List ℕ → ItemTree
italic opening ts closing = round kind.Italic opening ts closing

abbrev two : List ℕ
two = codes "''"

abbrev three : List ℕ
three = codes "'''"

-- letters behind a link join it, and its close delimiter is then a node
link_with_trail : read (codes "[[a|b]]s c")
    ≡ linked kind.WikiLink (codes "./A") (codes "[[a|") (text (codes "b") ∷ round kind.Skip (codes "]]") ([]) [] ∷ text (codes "s") ∷ []) [] ∷
    text (codes " c") ∷ []
unfolding context_parts line_trees segments bare_url nested_tree placeholder target_size target link_head key_after key category_head ext_link_head
    bare_url_head name_end attribute_items pair_head switch_names switch_property switch_head with_styles chunks loose_segments children nowiki
    placeholder_typeof style_tree_of turn_at is_bold_outside_at effect_on bold_ends_later next since toggles_of toggle_at place_of attributes
    attribute_at assigned past_blanks value_at bare quoted name_at begins_any_case link_to link_text stays_in_link tiles shapes
    closed form_at link_or_url tag_tile switch_at switch_words bare_url_at kept_len is_dropped ext_link_at is_url_char scheme_len link_at link_in
    target_of bracket_turn tag_at closing_tag opening_tag tag_after raw_opening_tag raw_closing_tag raw_tag_after tag_name_of live_name is_island_name
    is_style_name is_phrase_name is_block_name is_list_name is_table_name is_include_name read_text is_good is_allowed is_forbidden has_signature
    is_step begins_with_step holds_step ends_with_step title_in cut_namespace whole_in namespace_named is_called name_of image prefix_of full_name_of
    is_utf8 chars_of lib.Utf8.encode
link_with_trail = refl

-- without them it is a delimiter
link : read (codes "[[a]]S")
    ≡ linked kind.WikiLink (codes "./A") (codes "[[") (text (codes "a") ∷ []) (codes "]]") ∷ text (codes "S") ∷ []
unfolding context_parts line_trees segments bare_url nested_tree placeholder target_size target link_head key_after key category_head ext_link_head
    bare_url_head name_end attribute_items pair_head switch_names switch_property switch_head with_styles chunks loose_segments children nowiki
    placeholder_typeof style_tree_of turn_at is_bold_outside_at effect_on bold_ends_later next since toggles_of toggle_at place_of attributes
    attribute_at assigned past_blanks value_at bare quoted name_at begins_any_case link_to link_text stays_in_link tiles shapes
    closed form_at link_or_url tag_tile switch_at switch_words bare_url_at kept_len is_dropped ext_link_at is_url_char scheme_len link_at link_in
    target_of bracket_turn tag_at closing_tag opening_tag tag_after raw_opening_tag raw_closing_tag raw_tag_after tag_name_of live_name is_island_name
    is_style_name is_phrase_name is_block_name is_list_name is_table_name is_include_name read_text is_good is_allowed is_forbidden has_signature
    is_step begins_with_step holds_step ends_with_step title_in cut_namespace whole_in namespace_named is_called name_of image prefix_of full_name_of
    is_utf8 chars_of lib.Utf8.encode
link = refl

-- the key of a category stands in place of a fragment
category_with_key : read (codes "x[[Category:X|k]]")
    ≡ text (codes "x") ∷ linked kind.Category (codes "./Category:X#k") (codes "[[Category:X|k]]") ([]) [] ∷ []
unfolding context_parts line_trees segments bare_url nested_tree placeholder target_size target link_head key_after key category_head ext_link_head
    bare_url_head name_end attribute_items pair_head switch_names switch_property switch_head with_styles chunks loose_segments children nowiki
    placeholder_typeof style_tree_of turn_at is_bold_outside_at effect_on bold_ends_later next since toggles_of toggle_at place_of attributes
    attribute_at assigned past_blanks value_at bare quoted name_at begins_any_case link_to link_text stays_in_link tiles shapes
    closed form_at link_or_url tag_tile switch_at switch_words bare_url_at kept_len is_dropped ext_link_at is_url_char scheme_len link_at link_in
    target_of bracket_turn tag_at closing_tag opening_tag tag_after raw_opening_tag raw_closing_tag raw_tag_after tag_name_of live_name is_island_name
    is_style_name is_phrase_name is_block_name is_list_name is_table_name is_include_name read_text is_good is_allowed is_forbidden has_signature
    is_step begins_with_step holds_step ends_with_step title_in cut_namespace whole_in namespace_named is_called name_of image prefix_of full_name_of
    is_utf8 chars_of lib.Utf8.encode
category_with_key = refl

-- which it else has not
category_with_fragment : read (codes "[[Category:X#f]]")
    ≡ linked kind.Category (codes "./Category:X") (codes "[[Category:X#f]]") ([]) [] ∷ []
unfolding context_parts line_trees segments bare_url nested_tree placeholder target_size target link_head key_after key category_head ext_link_head
    bare_url_head name_end attribute_items pair_head switch_names switch_property switch_head with_styles chunks loose_segments children nowiki
    placeholder_typeof style_tree_of turn_at is_bold_outside_at effect_on bold_ends_later next since toggles_of toggle_at place_of attributes
    attribute_at assigned past_blanks value_at bare quoted name_at begins_any_case link_to link_text stays_in_link tiles shapes
    closed form_at link_or_url tag_tile switch_at switch_words bare_url_at kept_len is_dropped ext_link_at is_url_char scheme_len link_at link_in
    target_of bracket_turn tag_at closing_tag opening_tag tag_after raw_opening_tag raw_closing_tag raw_tag_after tag_name_of live_name is_island_name
    is_style_name is_phrase_name is_block_name is_list_name is_table_name is_include_name read_text is_good is_allowed is_forbidden has_signature
    is_step begins_with_step holds_step ends_with_step title_in cut_namespace whole_in namespace_named is_called name_of image prefix_of full_name_of
    is_utf8 chars_of lib.Utf8.encode
category_with_fragment = refl

-- a bare URL has no delimiter, and neither a dot nor a parenthesis that closes none at its end
bare_url_before_signs : read (codes "http://x).")
    ≡ linked kind.ExtLink (codes "http://x") [] (text (codes "http://x") ∷ []) [] ∷ text (codes ").") ∷ []
unfolding context_parts line_trees segments bare_url nested_tree placeholder target_size target link_head key_after key category_head ext_link_head
    bare_url_head name_end attribute_items pair_head switch_names switch_property switch_head with_styles chunks loose_segments children nowiki
    placeholder_typeof style_tree_of turn_at is_bold_outside_at effect_on bold_ends_later next since toggles_of toggle_at place_of attributes
    attribute_at assigned past_blanks value_at bare quoted name_at begins_any_case link_to link_text stays_in_link tiles shapes
    closed form_at link_or_url tag_tile switch_at switch_words bare_url_at kept_len is_dropped ext_link_at is_url_char scheme_len link_at link_in
    target_of bracket_turn tag_at closing_tag opening_tag tag_after raw_opening_tag raw_closing_tag raw_tag_after tag_name_of live_name is_island_name
    is_style_name is_phrase_name is_block_name is_list_name is_table_name is_include_name read_text is_good is_allowed is_forbidden has_signature
    is_step begins_with_step holds_step ends_with_step title_in cut_namespace whole_in namespace_named is_called name_of image prefix_of full_name_of
    is_utf8 chars_of lib.Utf8.encode
bare_url_before_signs = refl

-- but one that closes one
bare_url_with_parentheses : read (codes "http://x(y)")
    ≡ linked kind.ExtLink (codes "http://x(y)") [] (text (codes "http://x(y)") ∷ []) [] ∷ []
unfolding context_parts line_trees segments bare_url nested_tree placeholder target_size target link_head key_after key category_head ext_link_head
    bare_url_head name_end attribute_items pair_head switch_names switch_property switch_head with_styles chunks loose_segments children nowiki
    placeholder_typeof style_tree_of turn_at is_bold_outside_at effect_on bold_ends_later next since toggles_of toggle_at place_of attributes
    attribute_at assigned past_blanks value_at bare quoted name_at begins_any_case link_to link_text stays_in_link tiles shapes
    closed form_at link_or_url tag_tile switch_at switch_words bare_url_at kept_len is_dropped ext_link_at is_url_char scheme_len link_at link_in
    target_of bracket_turn tag_at closing_tag opening_tag tag_after raw_opening_tag raw_closing_tag raw_tag_after tag_name_of live_name is_island_name
    is_style_name is_phrase_name is_block_name is_list_name is_table_name is_include_name read_text is_good is_allowed is_forbidden has_signature
    is_step begins_with_step holds_step ends_with_step title_in cut_namespace whole_in namespace_named is_called name_of image prefix_of full_name_of
    is_utf8 chars_of lib.Utf8.encode
bare_url_with_parentheses = refl

-- the blanks behind the URL belong to the open delimiter
link_with_url : read (codes "[http://a b]")
    ≡ linked kind.ExtLink (codes "http://a") (codes "[http://a ") (text (codes "b") ∷ []) (codes "]") ∷ []
unfolding context_parts line_trees segments bare_url nested_tree placeholder target_size target link_head key_after key category_head ext_link_head
    bare_url_head name_end attribute_items pair_head switch_names switch_property switch_head with_styles chunks loose_segments children nowiki
    placeholder_typeof style_tree_of turn_at is_bold_outside_at effect_on bold_ends_later next since toggles_of toggle_at place_of attributes
    attribute_at assigned past_blanks value_at bare quoted name_at begins_any_case link_to link_text stays_in_link tiles shapes
    closed form_at link_or_url tag_tile switch_at switch_words bare_url_at kept_len is_dropped ext_link_at is_url_char scheme_len link_at link_in
    target_of bracket_turn tag_at closing_tag opening_tag tag_after raw_opening_tag raw_closing_tag raw_tag_after tag_name_of live_name is_island_name
    is_style_name is_phrase_name is_block_name is_list_name is_table_name is_include_name read_text is_good is_allowed is_forbidden has_signature
    is_step begins_with_step holds_step ends_with_step title_in cut_namespace whole_in namespace_named is_called name_of image prefix_of full_name_of
    is_utf8 chars_of lib.Utf8.encode
link_with_url = refl

-- of no text nothing is made
link_with_url_alone : read (codes "[http://a ]")
    ≡ linked kind.ExtLink (codes "http://a") (codes "[http://a ") ([]) (codes "]") ∷ []
unfolding context_parts line_trees segments bare_url nested_tree placeholder target_size target link_head key_after key category_head ext_link_head
    bare_url_head name_end attribute_items pair_head switch_names switch_property switch_head with_styles chunks loose_segments children nowiki
    placeholder_typeof style_tree_of turn_at is_bold_outside_at effect_on bold_ends_later next since toggles_of toggle_at place_of attributes
    attribute_at assigned past_blanks value_at bare quoted name_at begins_any_case link_to link_text stays_in_link tiles shapes
    closed form_at link_or_url tag_tile switch_at switch_words bare_url_at kept_len is_dropped ext_link_at is_url_char scheme_len link_at link_in
    target_of bracket_turn tag_at closing_tag opening_tag tag_after raw_opening_tag raw_closing_tag raw_tag_after tag_name_of live_name is_island_name
    is_style_name is_phrase_name is_block_name is_list_name is_table_name is_include_name read_text is_good is_allowed is_forbidden has_signature
    is_step begins_with_step holds_step ends_with_step title_in cut_namespace whole_in namespace_named is_called name_of image prefix_of full_name_of
    is_utf8 chars_of lib.Utf8.encode
link_with_url_alone = refl

-- a pair of tags
pair : read (codes "<s>a</s>b")
    ≡ round (kind.Tag tag.S) (codes "<s>") (text (codes "a") ∷ []) (codes "</s>") ∷ text (codes "b") ∷ []
unfolding context_parts line_trees segments bare_url nested_tree placeholder target_size target link_head key_after key category_head ext_link_head
    bare_url_head name_end attribute_items pair_head switch_names switch_property switch_head with_styles chunks loose_segments children nowiki
    placeholder_typeof style_tree_of turn_at is_bold_outside_at effect_on bold_ends_later next since toggles_of toggle_at place_of attributes
    attribute_at assigned past_blanks value_at bare quoted name_at begins_any_case link_to link_text stays_in_link tiles shapes
    closed form_at link_or_url tag_tile switch_at switch_words bare_url_at kept_len is_dropped ext_link_at is_url_char scheme_len link_at link_in
    target_of bracket_turn tag_at closing_tag opening_tag tag_after raw_opening_tag raw_closing_tag raw_tag_after tag_name_of live_name is_island_name
    is_style_name is_phrase_name is_block_name is_list_name is_table_name is_include_name read_text is_good is_allowed is_forbidden has_signature
    is_step begins_with_step holds_step ends_with_step title_in cut_namespace whole_in namespace_named is_called name_of image prefix_of full_name_of
    is_utf8 chars_of lib.Utf8.encode
pair = refl

-- the attributes of a span, in the order in which they are written
span : read (codes "<span lang=en class=\"x\">a</span>")
    ≡ with_attrs (kind.Tag tag.Span) ((attr.Class, codes "x") ∷ (attr.Lang, codes "en") ∷ []) (codes "<span lang=en class=\"x\">") (text (codes "a") ∷ [])
    (codes "</span>") ∷ []
unfolding context_parts line_trees segments bare_url nested_tree placeholder target_size target link_head key_after key category_head ext_link_head
    bare_url_head name_end attribute_items pair_head switch_names switch_property switch_head with_styles chunks loose_segments children nowiki
    placeholder_typeof style_tree_of turn_at is_bold_outside_at effect_on bold_ends_later next since toggles_of toggle_at place_of attributes
    attribute_at assigned past_blanks value_at bare quoted name_at begins_any_case link_to link_text stays_in_link tiles shapes
    closed form_at link_or_url tag_tile switch_at switch_words bare_url_at kept_len is_dropped ext_link_at is_url_char scheme_len link_at link_in
    target_of bracket_turn tag_at closing_tag opening_tag tag_after raw_opening_tag raw_closing_tag raw_tag_after tag_name_of live_name is_island_name
    is_style_name is_phrase_name is_block_name is_list_name is_table_name is_include_name read_text is_good is_allowed is_forbidden has_signature
    is_step begins_with_step holds_step ends_with_step title_in cut_namespace whole_in namespace_named is_called name_of image prefix_of full_name_of
    is_utf8 chars_of lib.Utf8.encode
span = refl

-- a tag alone is kept
tag_alone : read (codes "a</s>")
    ≡ text (codes "a") ∷ with_attrs kind.Island ((attr.Typeof, codes "mw:Placeholder") ∷ []) (codes "</s>") [] [] ∷ []
unfolding context_parts line_trees segments bare_url nested_tree placeholder target_size target link_head key_after key category_head ext_link_head
    bare_url_head name_end attribute_items pair_head switch_names switch_property switch_head with_styles chunks loose_segments children nowiki
    placeholder_typeof style_tree_of turn_at is_bold_outside_at effect_on bold_ends_later next since toggles_of toggle_at place_of attributes
    attribute_at assigned past_blanks value_at bare quoted name_at begins_any_case link_to link_text stays_in_link tiles shapes
    closed form_at link_or_url tag_tile switch_at switch_words bare_url_at kept_len is_dropped ext_link_at is_url_char scheme_len link_at link_in
    target_of bracket_turn tag_at closing_tag opening_tag tag_after raw_opening_tag raw_closing_tag raw_tag_after tag_name_of live_name is_island_name
    is_style_name is_phrase_name is_block_name is_list_name is_table_name is_include_name read_text is_good is_allowed is_forbidden has_signature
    is_step begins_with_step holds_step ends_with_step title_in cut_namespace whole_in namespace_named is_called name_of image prefix_of full_name_of
    is_utf8 chars_of lib.Utf8.encode
tag_alone = refl

-- a switch
switch : read (codes "__NOTOC__")
    ≡ with_attrs kind.Switch ((attr.Property, codes "mw:PageProp/notoc") ∷ []) (codes "__NOTOC__") [] [] ∷ []
unfolding context_parts line_trees segments bare_url nested_tree placeholder target_size target link_head key_after key category_head ext_link_head
    bare_url_head name_end attribute_items pair_head switch_names switch_property switch_head with_styles chunks loose_segments children nowiki
    placeholder_typeof style_tree_of turn_at is_bold_outside_at effect_on bold_ends_later next since toggles_of toggle_at place_of attributes
    attribute_at assigned past_blanks value_at bare quoted name_at begins_any_case link_to link_text stays_in_link tiles shapes
    closed form_at link_or_url tag_tile switch_at switch_words bare_url_at kept_len is_dropped ext_link_at is_url_char scheme_len link_at link_in
    target_of bracket_turn tag_at closing_tag opening_tag tag_after raw_opening_tag raw_closing_tag raw_tag_after tag_name_of live_name is_island_name
    is_style_name is_phrase_name is_block_name is_list_name is_table_name is_include_name read_text is_good is_allowed is_forbidden has_signature
    is_step begins_with_step holds_step ends_with_step title_in cut_namespace whole_in namespace_named is_called name_of image prefix_of full_name_of
    is_utf8 chars_of lib.Utf8.encode
switch = refl

-- a line break
line_break : read (codes "a<br />b")
    ≡ text (codes "a") ∷ round kind.Br (codes "<br />") ([]) [] ∷ text (codes "b") ∷ []
unfolding context_parts line_trees segments bare_url nested_tree placeholder target_size target link_head key_after key category_head ext_link_head
    bare_url_head name_end attribute_items pair_head switch_names switch_property switch_head with_styles chunks loose_segments children nowiki
    placeholder_typeof style_tree_of turn_at is_bold_outside_at effect_on bold_ends_later next since toggles_of toggle_at place_of attributes
    attribute_at assigned past_blanks value_at bare quoted name_at begins_any_case link_to link_text stays_in_link tiles shapes
    closed form_at link_or_url tag_tile switch_at switch_words bare_url_at kept_len is_dropped ext_link_at is_url_char scheme_len link_at link_in
    target_of bracket_turn tag_at closing_tag opening_tag tag_after raw_opening_tag raw_closing_tag raw_tag_after tag_name_of live_name is_island_name
    is_style_name is_phrase_name is_block_name is_list_name is_table_name is_include_name read_text is_good is_allowed is_forbidden has_signature
    is_step begins_with_step holds_step ends_with_step title_in cut_namespace whole_in namespace_named is_called name_of image prefix_of full_name_of
    is_utf8 chars_of lib.Utf8.encode
line_break = refl

-- a pair in the text of a link, but no link there
pair_in_link : read (codes "[[a|<s>http://b</s>]]")
    ≡ linked kind.WikiLink (codes "./A")
    (codes "[[a|") (round (kind.Tag tag.S) (codes "<s>") (text (codes "http://b") ∷ []) (codes "</s>") ∷ []) (codes "]]") ∷ []
unfolding context_parts line_trees segments bare_url nested_tree placeholder target_size target link_head key_after key category_head ext_link_head
    bare_url_head name_end attribute_items pair_head switch_names switch_property switch_head with_styles chunks loose_segments children nowiki
    placeholder_typeof style_tree_of turn_at is_bold_outside_at effect_on bold_ends_later next since toggles_of toggle_at place_of attributes
    attribute_at assigned past_blanks value_at bare quoted name_at begins_any_case link_to link_text stays_in_link tiles shapes
    closed form_at link_or_url tag_tile switch_at switch_words bare_url_at kept_len is_dropped ext_link_at is_url_char scheme_len link_at link_in
    target_of bracket_turn tag_at closing_tag opening_tag tag_after raw_opening_tag raw_closing_tag raw_tag_after tag_name_of live_name is_island_name
    is_style_name is_phrase_name is_block_name is_list_name is_table_name is_include_name read_text is_good is_allowed is_forbidden has_signature
    is_step begins_with_step holds_step ends_with_step title_in cut_namespace whole_in namespace_named is_called name_of image prefix_of full_name_of
    is_utf8 chars_of lib.Utf8.encode
pair_in_link = refl

-- a run of two
italic_text : read (codes "''a''s")
    ≡ italic two (text (codes "a") ∷ []) two ∷ text (codes "s") ∷ []
unfolding context_parts line_trees segments bare_url nested_tree placeholder target_size target link_head key_after key category_head ext_link_head
    bare_url_head name_end attribute_items pair_head switch_names switch_property switch_head with_styles chunks loose_segments children nowiki
    placeholder_typeof style_tree_of turn_at is_bold_outside_at effect_on bold_ends_later next since toggles_of toggle_at place_of attributes
    attribute_at assigned past_blanks value_at bare quoted name_at begins_any_case link_to link_text stays_in_link tiles shapes
    closed form_at link_or_url tag_tile switch_at switch_words bare_url_at kept_len is_dropped ext_link_at is_url_char scheme_len link_at link_in
    target_of bracket_turn tag_at closing_tag opening_tag tag_after raw_opening_tag raw_closing_tag raw_tag_after tag_name_of live_name is_island_name
    is_style_name is_phrase_name is_block_name is_list_name is_table_name is_include_name read_text is_good is_allowed is_forbidden has_signature
    is_step begins_with_step holds_step ends_with_step title_in cut_namespace whole_in namespace_named is_called name_of image prefix_of full_name_of
    is_utf8 chars_of lib.Utf8.encode
italic_text = refl

-- a run of three
bold_text : read (codes "a'''b'''")
    ≡ text (codes "a") ∷ bold three (text (codes "b") ∷ []) three ∷ []
unfolding context_parts line_trees segments bare_url nested_tree placeholder target_size target link_head key_after key category_head ext_link_head
    bare_url_head name_end attribute_items pair_head switch_names switch_property switch_head with_styles chunks loose_segments children nowiki
    placeholder_typeof style_tree_of turn_at is_bold_outside_at effect_on bold_ends_later next since toggles_of toggle_at place_of attributes
    attribute_at assigned past_blanks value_at bare quoted name_at begins_any_case link_to link_text stays_in_link tiles shapes
    closed form_at link_or_url tag_tile switch_at switch_words bare_url_at kept_len is_dropped ext_link_at is_url_char scheme_len link_at link_in
    target_of bracket_turn tag_at closing_tag opening_tag tag_after raw_opening_tag raw_closing_tag raw_tag_after tag_name_of live_name is_island_name
    is_style_name is_phrase_name is_block_name is_list_name is_table_name is_include_name read_text is_good is_allowed is_forbidden has_signature
    is_step begins_with_step holds_step ends_with_step title_in cut_namespace whole_in namespace_named is_called name_of image prefix_of full_name_of
    is_utf8 chars_of lib.Utf8.encode
bold_text = refl

-- a run of four is a character and a run of three
run_of_four : read (codes "''''a'''")
    ≡ text (codes "'") ∷ bold three (text (codes "a") ∷ []) three ∷ []
unfolding context_parts line_trees segments bare_url nested_tree placeholder target_size target link_head key_after key category_head ext_link_head
    bare_url_head name_end attribute_items pair_head switch_names switch_property switch_head with_styles chunks loose_segments children nowiki
    placeholder_typeof style_tree_of turn_at is_bold_outside_at effect_on bold_ends_later next since toggles_of toggle_at place_of attributes
    attribute_at assigned past_blanks value_at bare quoted name_at begins_any_case link_to link_text stays_in_link tiles shapes
    closed form_at link_or_url tag_tile switch_at switch_words bare_url_at kept_len is_dropped ext_link_at is_url_char scheme_len link_at link_in
    target_of bracket_turn tag_at closing_tag opening_tag tag_after raw_opening_tag raw_closing_tag raw_tag_after tag_name_of live_name is_island_name
    is_style_name is_phrase_name is_block_name is_list_name is_table_name is_include_name read_text is_good is_allowed is_forbidden has_signature
    is_step begins_with_step holds_step ends_with_step title_in cut_namespace whole_in namespace_named is_called name_of image prefix_of full_name_of
    is_utf8 chars_of lib.Utf8.encode
run_of_four = refl

-- of two styles that begin in one run the one that ends later is outside
both_at_once : read (codes "'''''a''b'''")
    ≡ bold three (italic two (text (codes "a") ∷ []) two ∷ text (codes "b") ∷ []) three ∷ []
unfolding context_parts line_trees segments bare_url nested_tree placeholder target_size target link_head key_after key category_head ext_link_head
    bare_url_head name_end attribute_items pair_head switch_names switch_property switch_head with_styles chunks loose_segments children nowiki
    placeholder_typeof style_tree_of turn_at is_bold_outside_at effect_on bold_ends_later next since toggles_of toggle_at place_of attributes
    attribute_at assigned past_blanks value_at bare quoted name_at begins_any_case link_to link_text stays_in_link tiles shapes
    closed form_at link_or_url tag_tile switch_at switch_words bare_url_at kept_len is_dropped ext_link_at is_url_char scheme_len link_at link_in
    target_of bracket_turn tag_at closing_tag opening_tag tag_after raw_opening_tag raw_closing_tag raw_tag_after tag_name_of live_name is_island_name
    is_style_name is_phrase_name is_block_name is_list_name is_table_name is_include_name read_text is_good is_allowed is_forbidden has_signature
    is_step begins_with_step holds_step ends_with_step title_in cut_namespace whole_in namespace_named is_called name_of image prefix_of full_name_of
    is_utf8 chars_of lib.Utf8.encode
both_at_once = refl

-- where both end in one run, italic is outside
both_in_one_run : read (codes "'''''a'''''")
    ≡ italic two (bold three (text (codes "a") ∷ []) three ∷ []) two ∷ []
unfolding context_parts line_trees segments bare_url nested_tree placeholder target_size target link_head key_after key category_head ext_link_head
    bare_url_head name_end attribute_items pair_head switch_names switch_property switch_head with_styles chunks loose_segments children nowiki
    placeholder_typeof style_tree_of turn_at is_bold_outside_at effect_on bold_ends_later next since toggles_of toggle_at place_of attributes
    attribute_at assigned past_blanks value_at bare quoted name_at begins_any_case link_to link_text stays_in_link tiles shapes
    closed form_at link_or_url tag_tile switch_at switch_words bare_url_at kept_len is_dropped ext_link_at is_url_char scheme_len link_at link_in
    target_of bracket_turn tag_at closing_tag opening_tag tag_after raw_opening_tag raw_closing_tag raw_tag_after tag_name_of live_name is_island_name
    is_style_name is_phrase_name is_block_name is_list_name is_table_name is_include_name read_text is_good is_allowed is_forbidden has_signature
    is_step begins_with_step holds_step ends_with_step title_in cut_namespace whole_in namespace_named is_called name_of image prefix_of full_name_of
    is_utf8 chars_of lib.Utf8.encode
both_in_one_run = refl

-- where both end with the line, bold is
both_to_the_end : read (codes "'''''a")
    ≡ bold three (italic two (text (codes "a") ∷ []) [] ∷ []) [] ∷ []
unfolding context_parts line_trees segments bare_url nested_tree placeholder target_size target link_head key_after key category_head ext_link_head
    bare_url_head name_end attribute_items pair_head switch_names switch_property switch_head with_styles chunks loose_segments children nowiki
    placeholder_typeof style_tree_of turn_at is_bold_outside_at effect_on bold_ends_later next since toggles_of toggle_at place_of attributes
    attribute_at assigned past_blanks value_at bare quoted name_at begins_any_case link_to link_text stays_in_link tiles shapes
    closed form_at link_or_url tag_tile switch_at switch_words bare_url_at kept_len is_dropped ext_link_at is_url_char scheme_len link_at link_in
    target_of bracket_turn tag_at closing_tag opening_tag tag_after raw_opening_tag raw_closing_tag raw_tag_after tag_name_of live_name is_island_name
    is_style_name is_phrase_name is_block_name is_list_name is_table_name is_include_name read_text is_good is_allowed is_forbidden has_signature
    is_step begins_with_step holds_step ends_with_step title_in cut_namespace whole_in namespace_named is_called name_of image prefix_of full_name_of
    is_utf8 chars_of lib.Utf8.encode
both_to_the_end = refl

-- a style that ends with another is broken there
broken_bold : read (codes "''a'''b''c'''")
    ≡ italic two (text (codes "a") ∷ bold three (text (codes "b") ∷ []) [] ∷ []) two ∷ bold [] (text (codes "c") ∷ []) three ∷ []
unfolding context_parts line_trees segments bare_url nested_tree placeholder target_size target link_head key_after key category_head ext_link_head
    bare_url_head name_end attribute_items pair_head switch_names switch_property switch_head with_styles chunks loose_segments children nowiki
    placeholder_typeof style_tree_of turn_at is_bold_outside_at effect_on bold_ends_later next since toggles_of toggle_at place_of attributes
    attribute_at assigned past_blanks value_at bare quoted name_at begins_any_case link_to link_text stays_in_link tiles shapes
    closed form_at link_or_url tag_tile switch_at switch_words bare_url_at kept_len is_dropped ext_link_at is_url_char scheme_len link_at link_in
    target_of bracket_turn tag_at closing_tag opening_tag tag_after raw_opening_tag raw_closing_tag raw_tag_after tag_name_of live_name is_island_name
    is_style_name is_phrase_name is_block_name is_list_name is_table_name is_include_name read_text is_good is_allowed is_forbidden has_signature
    is_step begins_with_step holds_step ends_with_step title_in cut_namespace whole_in namespace_named is_called name_of image prefix_of full_name_of
    is_utf8 chars_of lib.Utf8.encode
broken_bold = refl

-- so it may be left empty
empty_bold : read (codes "''a'''b''")
    ≡ italic two (text (codes "a") ∷ bold three (text (codes "b") ∷ []) [] ∷ []) two ∷ bold [] ([]) [] ∷ []
unfolding context_parts line_trees segments bare_url nested_tree placeholder target_size target link_head key_after key category_head ext_link_head
    bare_url_head name_end attribute_items pair_head switch_names switch_property switch_head with_styles chunks loose_segments children nowiki
    placeholder_typeof style_tree_of turn_at is_bold_outside_at effect_on bold_ends_later next since toggles_of toggle_at place_of attributes
    attribute_at assigned past_blanks value_at bare quoted name_at begins_any_case link_to link_text stays_in_link tiles shapes
    closed form_at link_or_url tag_tile switch_at switch_words bare_url_at kept_len is_dropped ext_link_at is_url_char scheme_len link_at link_in
    target_of bracket_turn tag_at closing_tag opening_tag tag_after raw_opening_tag raw_closing_tag raw_tag_after tag_name_of live_name is_island_name
    is_style_name is_phrase_name is_block_name is_list_name is_table_name is_include_name read_text is_good is_allowed is_forbidden has_signature
    is_step begins_with_step holds_step ends_with_step title_in cut_namespace whole_in namespace_named is_called name_of image prefix_of full_name_of
    is_utf8 chars_of lib.Utf8.encode
empty_bold = refl

-- where both are odd, a run of three is one character and a run of two
exchange : read (codes "'''x''")
    ≡ text (codes "'") ∷ italic two (text (codes "x") ∷ []) two ∷ []
unfolding context_parts line_trees segments bare_url nested_tree placeholder target_size target link_head key_after key category_head ext_link_head
    bare_url_head name_end attribute_items pair_head switch_names switch_property switch_head with_styles chunks loose_segments children nowiki
    placeholder_typeof style_tree_of turn_at is_bold_outside_at effect_on bold_ends_later next since toggles_of toggle_at place_of attributes
    attribute_at assigned past_blanks value_at bare quoted name_at begins_any_case link_to link_text stays_in_link tiles shapes
    closed form_at link_or_url tag_tile switch_at switch_words bare_url_at kept_len is_dropped ext_link_at is_url_char scheme_len link_at link_in
    target_of bracket_turn tag_at closing_tag opening_tag tag_after raw_opening_tag raw_closing_tag raw_tag_after tag_name_of live_name is_island_name
    is_style_name is_phrase_name is_block_name is_list_name is_table_name is_include_name read_text is_good is_allowed is_forbidden has_signature
    is_step begins_with_step holds_step ends_with_step title_in cut_namespace whole_in namespace_named is_called name_of image prefix_of full_name_of
    is_utf8 chars_of lib.Utf8.encode
exchange = refl

-- the first behind one letter
exchange_behind_one_letter : read (codes "a'''b c'''d'''e''")
    ≡ text (codes "a") ∷ bold three (text (codes "b c'") ∷ italic two (text (codes "d") ∷ []) [] ∷ []) three ∷ italic [] (text (codes "e") ∷ []) two ∷ []
unfolding context_parts line_trees segments bare_url nested_tree placeholder target_size target link_head key_after key category_head ext_link_head
    bare_url_head name_end attribute_items pair_head switch_names switch_property switch_head with_styles chunks loose_segments children nowiki
    placeholder_typeof style_tree_of turn_at is_bold_outside_at effect_on bold_ends_later next since toggles_of toggle_at place_of attributes
    attribute_at assigned past_blanks value_at bare quoted name_at begins_any_case link_to link_text stays_in_link tiles shapes
    closed form_at link_or_url tag_tile switch_at switch_words bare_url_at kept_len is_dropped ext_link_at is_url_char scheme_len link_at link_in
    target_of bracket_turn tag_at closing_tag opening_tag tag_after raw_opening_tag raw_closing_tag raw_tag_after tag_name_of live_name is_island_name
    is_style_name is_phrase_name is_block_name is_list_name is_table_name is_include_name read_text is_good is_allowed is_forbidden has_signature
    is_step begins_with_step holds_step ends_with_step title_in cut_namespace whole_in namespace_named is_called name_of image prefix_of full_name_of
    is_utf8 chars_of lib.Utf8.encode
exchange_behind_one_letter = refl

-- apostrophes of a text of a link are its own
apostrophes_in_link : read (codes "[[a|''b]]''")
    ≡ linked kind.WikiLink (codes "./A") (codes "[[a|") (italic two (text (codes "b") ∷ []) [] ∷ []) (codes "]]") ∷ italic two ([]) [] ∷ []
unfolding context_parts line_trees segments bare_url nested_tree placeholder target_size target link_head key_after key category_head ext_link_head
    bare_url_head name_end attribute_items pair_head switch_names switch_property switch_head with_styles chunks loose_segments children nowiki
    placeholder_typeof style_tree_of turn_at is_bold_outside_at effect_on bold_ends_later next since toggles_of toggle_at place_of attributes
    attribute_at assigned past_blanks value_at bare quoted name_at begins_any_case link_to link_text stays_in_link tiles shapes
    closed form_at link_or_url tag_tile switch_at switch_words bare_url_at kept_len is_dropped ext_link_at is_url_char scheme_len link_at link_in
    target_of bracket_turn tag_at closing_tag opening_tag tag_after raw_opening_tag raw_closing_tag raw_tag_after tag_name_of live_name is_island_name
    is_style_name is_phrase_name is_block_name is_list_name is_table_name is_include_name read_text is_good is_allowed is_forbidden has_signature
    is_step begins_with_step holds_step ends_with_step title_in cut_namespace whole_in namespace_named is_called name_of image prefix_of full_name_of
    is_utf8 chars_of lib.Utf8.encode
apostrophes_in_link = refl

-- and so are those outside it
apostrophes_before_link : read (codes "''[[a|b'']]")
    ≡ italic two (linked kind.WikiLink (codes "./A") (codes "[[a|") (text (codes "b") ∷ italic two ([]) [] ∷ []) (codes "]]") ∷ []) [] ∷ []
unfolding context_parts line_trees segments bare_url nested_tree placeholder target_size target link_head key_after key category_head ext_link_head
    bare_url_head name_end attribute_items pair_head switch_names switch_property switch_head with_styles chunks loose_segments children nowiki
    placeholder_typeof style_tree_of turn_at is_bold_outside_at effect_on bold_ends_later next since toggles_of toggle_at place_of attributes
    attribute_at assigned past_blanks value_at bare quoted name_at begins_any_case link_to link_text stays_in_link tiles shapes
    closed form_at link_or_url tag_tile switch_at switch_words bare_url_at kept_len is_dropped ext_link_at is_url_char scheme_len link_at link_in
    target_of bracket_turn tag_at closing_tag opening_tag tag_after raw_opening_tag raw_closing_tag raw_tag_after tag_name_of live_name is_island_name
    is_style_name is_phrase_name is_block_name is_list_name is_table_name is_include_name read_text is_good is_allowed is_forbidden has_signature
    is_step begins_with_step holds_step ends_with_step title_in cut_namespace whole_in namespace_named is_called name_of image prefix_of full_name_of
    is_utf8 chars_of lib.Utf8.encode
apostrophes_before_link = refl

-- a style round a link
link_in_style : read (codes "''[[a]]''s")
    ≡ italic two (linked kind.WikiLink (codes "./A") (codes "[[") (text (codes "a") ∷ []) (codes "]]") ∷ []) two ∷ text (codes "s") ∷ []
unfolding context_parts line_trees segments bare_url nested_tree placeholder target_size target link_head key_after key category_head ext_link_head
    bare_url_head name_end attribute_items pair_head switch_names switch_property switch_head with_styles chunks loose_segments children nowiki
    placeholder_typeof style_tree_of turn_at is_bold_outside_at effect_on bold_ends_later next since toggles_of toggle_at place_of attributes
    attribute_at assigned past_blanks value_at bare quoted name_at begins_any_case link_to link_text stays_in_link tiles shapes
    closed form_at link_or_url tag_tile switch_at switch_words bare_url_at kept_len is_dropped ext_link_at is_url_char scheme_len link_at link_in
    target_of bracket_turn tag_at closing_tag opening_tag tag_after raw_opening_tag raw_closing_tag raw_tag_after tag_name_of live_name is_island_name
    is_style_name is_phrase_name is_block_name is_list_name is_table_name is_include_name read_text is_good is_allowed is_forbidden has_signature
    is_step begins_with_step holds_step ends_with_step title_in cut_namespace whole_in namespace_named is_called name_of image prefix_of full_name_of
    is_utf8 chars_of lib.Utf8.encode
link_in_style = refl

-- a category in a style
category_in_style : read (codes "'''a[[Category:X]]b'''")
    ≡ bold three (text (codes "a") ∷ linked kind.Category (codes "./Category:X") (codes "[[Category:X]]") ([]) [] ∷ text (codes "b") ∷ []) three ∷ []
unfolding context_parts line_trees segments bare_url nested_tree placeholder target_size target link_head key_after key category_head ext_link_head
    bare_url_head name_end attribute_items pair_head switch_names switch_property switch_head with_styles chunks loose_segments children nowiki
    placeholder_typeof style_tree_of turn_at is_bold_outside_at effect_on bold_ends_later next since toggles_of toggle_at place_of attributes
    attribute_at assigned past_blanks value_at bare quoted name_at begins_any_case link_to link_text stays_in_link tiles shapes
    closed form_at link_or_url tag_tile switch_at switch_words bare_url_at kept_len is_dropped ext_link_at is_url_char scheme_len link_at link_in
    target_of bracket_turn tag_at closing_tag opening_tag tag_after raw_opening_tag raw_closing_tag raw_tag_after tag_name_of live_name is_island_name
    is_style_name is_phrase_name is_block_name is_list_name is_table_name is_include_name read_text is_good is_allowed is_forbidden has_signature
    is_step begins_with_step holds_step ends_with_step title_in cut_namespace whole_in namespace_named is_called name_of image prefix_of full_name_of
    is_utf8 chars_of lib.Utf8.encode
category_in_style = refl

-- apostrophes end a URL
url_before_apostrophes : read (codes "http://p''q''")
    ≡ linked kind.ExtLink (codes "http://p") [] (text (codes "http://p") ∷ []) [] ∷ italic two (text (codes "q") ∷ []) two ∷ []
unfolding context_parts line_trees segments bare_url nested_tree placeholder target_size target link_head key_after key category_head ext_link_head
    bare_url_head name_end attribute_items pair_head switch_names switch_property switch_head with_styles chunks loose_segments children nowiki
    placeholder_typeof style_tree_of turn_at is_bold_outside_at effect_on bold_ends_later next since toggles_of toggle_at place_of attributes
    attribute_at assigned past_blanks value_at bare quoted name_at begins_any_case link_to link_text stays_in_link tiles shapes
    closed form_at link_or_url tag_tile switch_at switch_words bare_url_at kept_len is_dropped ext_link_at is_url_char scheme_len link_at link_in
    target_of bracket_turn tag_at closing_tag opening_tag tag_after raw_opening_tag raw_closing_tag raw_tag_after tag_name_of live_name is_island_name
    is_style_name is_phrase_name is_block_name is_list_name is_table_name is_include_name read_text is_good is_allowed is_forbidden has_signature
    is_step begins_with_step holds_step ends_with_step title_in cut_namespace whole_in namespace_named is_called name_of image prefix_of full_name_of
    is_utf8 chars_of lib.Utf8.encode
url_before_apostrophes = refl

-- a switch in a style
switch_in_style : read (codes "''__TOC__''")
    ≡ italic two (with_attrs kind.Switch ((attr.Property, codes "mw:PageProp/toc") ∷ []) (codes "__TOC__") [] [] ∷ []) two ∷ []
unfolding context_parts line_trees segments bare_url nested_tree placeholder target_size target link_head key_after key category_head ext_link_head
    bare_url_head name_end attribute_items pair_head switch_names switch_property switch_head with_styles chunks loose_segments children nowiki
    placeholder_typeof style_tree_of turn_at is_bold_outside_at effect_on bold_ends_later next since toggles_of toggle_at place_of attributes
    attribute_at assigned past_blanks value_at bare quoted name_at begins_any_case link_to link_text stays_in_link tiles shapes
    closed form_at link_or_url tag_tile switch_at switch_words bare_url_at kept_len is_dropped ext_link_at is_url_char scheme_len link_at link_in
    target_of bracket_turn tag_at closing_tag opening_tag tag_after raw_opening_tag raw_closing_tag raw_tag_after tag_name_of live_name is_island_name
    is_style_name is_phrase_name is_block_name is_list_name is_table_name is_include_name read_text is_good is_allowed is_forbidden has_signature
    is_step begins_with_step holds_step ends_with_step title_in cut_namespace whole_in namespace_named is_called name_of image prefix_of full_name_of
    is_utf8 chars_of lib.Utf8.encode
switch_in_style = refl

-- a mark parts apostrophes
parted_apostrophes : line_trees (page (codes "'") ++ ((whole form.Comment None (codes "<!-- c -->") ∷ []) ++ page (codes "'a''")))
    ≡ text (codes "'") ∷ form_leaf form.Comment None (codes "<!-- c -->") ∷ text (codes "'a") ∷ italic two ([]) [] ∷ []
unfolding context_parts line_trees segments bare_url nested_tree placeholder target_size target link_head key_after key category_head ext_link_head
    bare_url_head name_end attribute_items pair_head switch_names switch_property switch_head with_styles chunks loose_segments children nowiki
    placeholder_typeof style_tree_of turn_at is_bold_outside_at effect_on bold_ends_later next since toggles_of toggle_at place_of attributes
    attribute_at assigned past_blanks value_at bare quoted name_at begins_any_case link_to link_text stays_in_link tiles shapes
    closed form_at link_or_url tag_tile switch_at switch_words bare_url_at kept_len is_dropped ext_link_at is_url_char scheme_len link_at link_in
    target_of bracket_turn tag_at closing_tag opening_tag tag_after raw_opening_tag raw_closing_tag raw_tag_after tag_name_of live_name is_island_name
    is_style_name is_phrase_name is_block_name is_list_name is_table_name is_include_name read_text is_good is_allowed is_forbidden has_signature
    is_step begins_with_step holds_step ends_with_step title_in cut_namespace whole_in namespace_named is_called name_of image prefix_of full_name_of
    is_utf8 chars_of lib.Utf8.encode
parted_apostrophes = refl

-- and so does a `nowiki`
nowiki_in_apostrophes : line_trees (page (codes "''") ++ ((whole form.Nowiki None (codes "<nowiki/>") ∷ []) ++ page (codes "''a'")))
    ≡ italic two (nowiki None (codes "<nowiki/>") ∷ []) two ∷ text (codes "a'") ∷ []
unfolding context_parts line_trees segments bare_url nested_tree placeholder target_size target link_head key_after key category_head ext_link_head
    bare_url_head name_end attribute_items pair_head switch_names switch_property switch_head with_styles chunks loose_segments children nowiki
    placeholder_typeof style_tree_of turn_at is_bold_outside_at effect_on bold_ends_later next since toggles_of toggle_at place_of attributes
    attribute_at assigned past_blanks value_at bare quoted name_at begins_any_case link_to link_text stays_in_link tiles shapes
    closed form_at link_or_url tag_tile switch_at switch_words bare_url_at kept_len is_dropped ext_link_at is_url_char scheme_len link_at link_in
    target_of bracket_turn tag_at closing_tag opening_tag tag_after raw_opening_tag raw_closing_tag raw_tag_after tag_name_of live_name is_island_name
    is_style_name is_phrase_name is_block_name is_list_name is_table_name is_include_name read_text is_good is_allowed is_forbidden has_signature
    is_step begins_with_step holds_step ends_with_step title_in cut_namespace whole_in namespace_named is_called name_of image prefix_of full_name_of
    is_utf8 chars_of lib.Utf8.encode
nowiki_in_apostrophes = refl

-- an apostrophe behind a mark is the last item before the run, and the space before the mark the one before it
letter_behind_mark : line_trees (page (codes "k'''m '") ++ ((whole form.Comment None (codes "<!--c-->") ∷ []) ++ page (codes "'''n'''o''")))
    ≡ text (codes "k") ∷ bold three
    (text (codes "m '") ∷ form_leaf form.Comment None (codes "<!--c-->") ∷ text (codes "'") ∷ italic two (text (codes "n") ∷ []) [] ∷ []) three ∷
    italic [] (text (codes "o") ∷ []) two ∷ []
unfolding context_parts line_trees segments bare_url nested_tree placeholder target_size target link_head key_after key category_head ext_link_head
    bare_url_head name_end attribute_items pair_head switch_names switch_property switch_head with_styles chunks loose_segments children nowiki
    placeholder_typeof style_tree_of turn_at is_bold_outside_at effect_on bold_ends_later next since toggles_of toggle_at place_of attributes
    attribute_at assigned past_blanks value_at bare quoted name_at begins_any_case link_to link_text stays_in_link tiles shapes
    closed form_at link_or_url tag_tile switch_at switch_words bare_url_at kept_len is_dropped ext_link_at is_url_char scheme_len link_at link_in
    target_of bracket_turn tag_at closing_tag opening_tag tag_after raw_opening_tag raw_closing_tag raw_tag_after tag_name_of live_name is_island_name
    is_style_name is_phrase_name is_block_name is_list_name is_table_name is_include_name read_text is_good is_allowed is_forbidden has_signature
    is_step begins_with_step holds_step ends_with_step title_in cut_namespace whole_in namespace_named is_called name_of image prefix_of full_name_of
    is_utf8 chars_of lib.Utf8.encode
letter_behind_mark = refl

-- what stands in `nowiki` is not read
nowiki_alone : line_trees ((whole form.Nowiki None (codes "<nowiki>''</nowiki>") ∷ []) ++ page (codes "''a''"))
    ≡ nowiki None (codes "<nowiki>''</nowiki>") ∷ italic two (text (codes "a") ∷ []) two ∷ []
unfolding context_parts line_trees segments bare_url nested_tree placeholder target_size target link_head key_after key category_head ext_link_head
    bare_url_head name_end attribute_items pair_head switch_names switch_property switch_head with_styles chunks loose_segments children nowiki
    placeholder_typeof style_tree_of turn_at is_bold_outside_at effect_on bold_ends_later next since toggles_of toggle_at place_of attributes
    attribute_at assigned past_blanks value_at bare quoted name_at begins_any_case link_to link_text stays_in_link tiles shapes
    closed form_at link_or_url tag_tile switch_at switch_words bare_url_at kept_len is_dropped ext_link_at is_url_char scheme_len link_at link_in
    target_of bracket_turn tag_at closing_tag opening_tag tag_after raw_opening_tag raw_closing_tag raw_tag_after tag_name_of live_name is_island_name
    is_style_name is_phrase_name is_block_name is_list_name is_table_name is_include_name read_text is_good is_allowed is_forbidden has_signature
    is_step begins_with_step holds_step ends_with_step title_in cut_namespace whole_in namespace_named is_called name_of image prefix_of full_name_of
    is_utf8 chars_of lib.Utf8.encode
nowiki_alone = refl
