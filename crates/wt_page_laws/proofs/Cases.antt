-- Worked cases of lists, preformatted text and tables as trees, each computed. The items of the delimiters tell the ranges.
use Rattle.std.proofs.Common.{◌≡◌, ℕ, None, List, [], ◌∷◌, ◌++◌, map, refl}
use Rattle.std.specs.Prelude.{codes}
use Rattle.std.specs.Str.{is_utf8, chars as chars_of}
use Rattle.wt_span.specs.Tags.{opening_tag as raw_opening_tag, closing_tag as raw_closing_tag, tag_after as raw_tag_after}
use Rattle.wt_names.specs.Namespace.{namespace_named, is_called, name_of, image, prefix_of as namespace_prefix, full_name_of}
use Rattle.wt_names.specs.Reading.{whole_in, cut_namespace, title_in}
use Rattle.wt_names.specs.Good.{read_text, is_good, is_allowed, is_forbidden, has_signature, is_step, begins_with_step, holds_step, ends_with_step}
use Rattle.wt_names.specs.Written.{stays_in_link, link_text, link_to}
use Rattle.wt_attributes.specs.Attributes.{begins_any_case, name_at, quoted, bare, value_at, past_blanks, assigned, attribute_at, attributes}
use Rattle.wt_quotes.specs.Runs.{place_of}
use Rattle.wt_quotes.specs.Toggles.{toggle_at, toggles_of}
use Rattle.wt_quotes.specs.Turns.{since, next, bold_ends_later, effect_on, is_bold_outside_at, turn_at}
use Rattle.wt_quotes.specs.Styles.{style_tree_of}
use Rattle.wt_tiles.specs.Tags.{name_of as tag_name_of, live_name, is_island_name, is_style_name, is_phrase_name, is_block_name, is_list_name, is_table_name, is_include_name, tag_after, opening_tag, closing_tag, tag_at}
use Rattle.wt_tiles.specs.Partners.{bracket_turn}
use Rattle.wt_tiles.specs.Links.{target_of, link_in, link_at}
use Rattle.wt_tiles.specs.Urls.{scheme_len, is_url_char, is_dropped, kept_len, ext_link_at, bare_url_at}
use Rattle.wt_tiles.specs.Tiles.{tag_tile, switch_names as switch_words, switch_at, link_or_url, form_at, closed, shapes, tiles}
use Rattle.wt_inline.specs.Carried.{placeholder_typeof}
use Rattle.wt_inline.specs.declared.loose.Loose.TheVariants.{Text}
use Rattle.wt_context.specs.Segments.{loose_segments}
use Rattle.wt_context.specs.Chunks.{chunks}
use Rattle.wt_context.specs.Styled.{with_styles}
use Rattle.wt_context.specs.Heads.{placeholder, target_size, target, link_head, key_after, key, category_head, ext_link_head, bare_url_head, name_end, attribute_items, pair_head, switch_names, switch_property, switch_head}
use Rattle.wt_context.specs.Nodes.{bare_url, nested_tree, segments}
use Rattle.wt_context.specs.Line.{context_parts, line_trees}
use Rattle.wt_tree.specs.declared.kind.Kind.{Kind}
use Rattle.wt_tree.specs.declared.kind.Kind.TheVariants as kind
use Rattle.wt_tree.specs.declared.kind.AttrName.TheVariants as attr
use Rattle.wt_span.specs.declared.form.ItemForm.TheVariants as form
use Rattle.wt_span.specs.Items.{Item, char, whole}
use Rattle.wt_lines.specs.Kinds.{kind_of_signs}
use Rattle.wt_blocks.specs.Nesting.{nested}
use Rattle.wt_tables.specs.Cells.{single_at, bar_at, cell_of, table_attributes, row_attributes}
use Rattle.wt_tables.specs.Extents.{inner_len}
use Rattle.wt_inline.specs.ItemTree.{ItemTree, plain, leaf, inner, forest}
use Rattle.wt_inline.specs.Parts.{loose_leaf, form_leaf, children, nowiki}
use Rattle.wt_inline.specs.declared.loose.Loose.TheVariants.{Sep}
use Rattle.wt_page.specs.Rows.{rows}
use Rattle.wt_page.specs.Texts.{para, pre, rule}
use Rattle.wt_page.specs.Lists.{colon_at, line_item, lists}
use Rattle.wt_page.specs.Tables.{cell_stretches, row_stretches, table_by}
use Rattle.wt_page.specs.Body.{blocks, meaning}

-- characters of the page
abbrev page : List ℕ → List Item
page bs = map (char None) bs

abbrev text : List ℕ → ItemTree
text bs = loose_leaf Text (page bs)

-- line breaks and blanks between what stands in a node
abbrev sep : List ℕ → ItemTree
sep bs = loose_leaf Sep (page bs)

-- a node with these delimiters
abbrev round : Kind → List ℕ → List ItemTree → List ℕ → ItemTree
round k opening ts closing = inner (plain k) (page opening) (forest ts) (page closing)

-- a node that closes with what it holds
abbrev opened : Kind → List ℕ → List ItemTree → ItemTree
opened k opening ts = round k opening ts []

abbrev body : List ItemTree → ItemTree
body ts = opened kind.Body [] ts

abbrev read : List ℕ → ItemTree
read bs = meaning (page bs)

abbrev comment : Item
comment = whole form.Comment None (codes "<!--c-->")

-- an empty line between two lists stands in the body, and in neither list nor item
lists_apart : read (codes "* a" ++ ((10 ∷ []) ++ ((10 ∷ []) ++ (codes "* b"))))
    ≡ body (opened kind.Ul [] (opened kind.Li (codes "* ") (text (codes "a") ∷ []) ∷ []) ∷ sep (10 ∷ 10 ∷ [])
    ∷ opened kind.Ul [] (opened kind.Li (codes "* ") (text (codes "b") ∷ []) ∷ []) ∷ [])
unfolding context_parts line_trees segments bare_url nested_tree placeholder target_size target link_head key_after key category_head ext_link_head bare_url_head name_end attribute_items pair_head switch_names switch_property switch_head with_styles chunks loose_segments children nowiki placeholder_typeof style_tree_of turn_at is_bold_outside_at effect_on bold_ends_later next since toggles_of toggle_at place_of attributes attribute_at assigned past_blanks value_at bare quoted name_at begins_any_case link_to link_text stays_in_link tiles shapes closed form_at link_or_url tag_tile switch_at switch_words bare_url_at kept_len is_dropped ext_link_at is_url_char scheme_len link_at link_in target_of bracket_turn tag_at closing_tag opening_tag tag_after raw_opening_tag raw_closing_tag raw_tag_after tag_name_of live_name is_island_name is_style_name is_phrase_name is_block_name is_list_name is_table_name is_include_name read_text is_good is_allowed is_forbidden has_signature is_step begins_with_step holds_step ends_with_step title_in cut_namespace whole_in namespace_named is_called name_of image namespace_prefix full_name_of is_utf8 chars_of lib.Utf8.encode meaning blocks rows kind_of_signs nested inner_len single_at bar_at cell_of table_attributes row_attributes para pre rule colon_at line_item lists cell_stretches row_stretches table_by
lists_apart = refl

-- lists in an item: `ul` and then `ol`, by the second sign
lists_in_an_item : read (codes "** a" ++ ((10 ∷ []) ++ (codes "*# b" ++ ((10 ∷ []) ++ (codes "* c")))))
    ≡ body (opened kind.Ul [] (opened kind.Li [] (opened kind.Ul [] (opened kind.Li (codes "** ") (text (codes "a") ∷ []) ∷ []) ∷ sep (10 ∷ [])
    ∷ opened kind.Ol [] (opened kind.Li (codes "*# ") (text (codes "b") ∷ []) ∷ []) ∷ [])
    ∷ sep (10 ∷ []) ∷ opened kind.Li (codes "* ") (text (codes "c") ∷ []) ∷ []) ∷ [])
unfolding context_parts line_trees segments bare_url nested_tree placeholder target_size target link_head key_after key category_head ext_link_head bare_url_head name_end attribute_items pair_head switch_names switch_property switch_head with_styles chunks loose_segments children nowiki placeholder_typeof style_tree_of turn_at is_bold_outside_at effect_on bold_ends_later next since toggles_of toggle_at place_of attributes attribute_at assigned past_blanks value_at bare quoted name_at begins_any_case link_to link_text stays_in_link tiles shapes closed form_at link_or_url tag_tile switch_at switch_words bare_url_at kept_len is_dropped ext_link_at is_url_char scheme_len link_at link_in target_of bracket_turn tag_at closing_tag opening_tag tag_after raw_opening_tag raw_closing_tag raw_tag_after tag_name_of live_name is_island_name is_style_name is_phrase_name is_block_name is_list_name is_table_name is_include_name read_text is_good is_allowed is_forbidden has_signature is_step begins_with_step holds_step ends_with_step title_in cut_namespace whole_in namespace_named is_called name_of image namespace_prefix full_name_of is_utf8 chars_of lib.Utf8.encode meaning blocks rows kind_of_signs nested inner_len single_at bar_at cell_of table_attributes row_attributes para pre rule colon_at line_item lists cell_stretches row_stretches table_by
lists_in_an_item = refl

-- a term ends at the first colon, and the second is text of the definition
first_colon : read (codes "; a : b : c")
    ≡ body (opened kind.Dl [] (opened kind.Dt (codes "; ") (text (codes "a ") ∷ []) ∷ opened kind.Dd (codes ": ") (text (codes "b : c") ∷ []) ∷ []) ∷ [])
unfolding context_parts line_trees segments bare_url nested_tree placeholder target_size target link_head key_after key category_head ext_link_head bare_url_head name_end attribute_items pair_head switch_names switch_property switch_head with_styles chunks loose_segments children nowiki placeholder_typeof style_tree_of turn_at is_bold_outside_at effect_on bold_ends_later next since toggles_of toggle_at place_of attributes attribute_at assigned past_blanks value_at bare quoted name_at begins_any_case link_to link_text stays_in_link tiles shapes closed form_at link_or_url tag_tile switch_at switch_words bare_url_at kept_len is_dropped ext_link_at is_url_char scheme_len link_at link_in target_of bracket_turn tag_at closing_tag opening_tag tag_after raw_opening_tag raw_closing_tag raw_tag_after tag_name_of live_name is_island_name is_style_name is_phrase_name is_block_name is_list_name is_table_name is_include_name read_text is_good is_allowed is_forbidden has_signature is_step begins_with_step holds_step ends_with_step title_in cut_namespace whole_in namespace_named is_called name_of image namespace_prefix full_name_of is_utf8 chars_of lib.Utf8.encode meaning blocks rows kind_of_signs nested inner_len single_at bar_at cell_of table_attributes row_attributes para pre rule colon_at line_item lists cell_stretches row_stretches table_by
first_colon = refl

-- a term with its definition
term_and_definition : read (codes "; a : b")
    ≡ body (opened kind.Dl [] (opened kind.Dt (codes "; ") (text (codes "a ") ∷ []) ∷ opened kind.Dd (codes ": ") (text (codes "b") ∷ []) ∷ []) ∷ [])
unfolding context_parts line_trees segments bare_url nested_tree placeholder target_size target link_head key_after key category_head ext_link_head bare_url_head name_end attribute_items pair_head switch_names switch_property switch_head with_styles chunks loose_segments children nowiki placeholder_typeof style_tree_of turn_at is_bold_outside_at effect_on bold_ends_later next since toggles_of toggle_at place_of attributes attribute_at assigned past_blanks value_at bare quoted name_at begins_any_case link_to link_text stays_in_link tiles shapes closed form_at link_or_url tag_tile switch_at switch_words bare_url_at kept_len is_dropped ext_link_at is_url_char scheme_len link_at link_in target_of bracket_turn tag_at closing_tag opening_tag tag_after raw_opening_tag raw_closing_tag raw_tag_after tag_name_of live_name is_island_name is_style_name is_phrase_name is_block_name is_list_name is_table_name is_include_name read_text is_good is_allowed is_forbidden has_signature is_step begins_with_step holds_step ends_with_step title_in cut_namespace whole_in namespace_named is_called name_of image namespace_prefix full_name_of is_utf8 chars_of lib.Utf8.encode meaning blocks rows kind_of_signs nested inner_len single_at bar_at cell_of table_attributes row_attributes para pre rule colon_at line_item lists cell_stretches row_stretches table_by
term_and_definition = refl

-- the first space is the delimiter, and that of the second line is skipped
skipped_space : read (codes " a" ++ ((10 ∷ []) ++ (codes " b")))
    ≡ body (opened kind.Pre (codes " ") (text (codes "a" ++ (10 ∷ [])) ∷ leaf (plain kind.Skip) (page (codes " ")) ∷ text (codes "b") ∷ []) ∷ [])
unfolding context_parts line_trees segments bare_url nested_tree placeholder target_size target link_head key_after key category_head ext_link_head bare_url_head name_end attribute_items pair_head switch_names switch_property switch_head with_styles chunks loose_segments children nowiki placeholder_typeof style_tree_of turn_at is_bold_outside_at effect_on bold_ends_later next since toggles_of toggle_at place_of attributes attribute_at assigned past_blanks value_at bare quoted name_at begins_any_case link_to link_text stays_in_link tiles shapes closed form_at link_or_url tag_tile switch_at switch_words bare_url_at kept_len is_dropped ext_link_at is_url_char scheme_len link_at link_in target_of bracket_turn tag_at closing_tag opening_tag tag_after raw_opening_tag raw_closing_tag raw_tag_after tag_name_of live_name is_island_name is_style_name is_phrase_name is_block_name is_list_name is_table_name is_include_name read_text is_good is_allowed is_forbidden has_signature is_step begins_with_step holds_step ends_with_step title_in cut_namespace whole_in namespace_named is_called name_of image namespace_prefix full_name_of is_utf8 chars_of lib.Utf8.encode meaning blocks rows kind_of_signs nested inner_len single_at bar_at cell_of table_attributes row_attributes para pre rule colon_at line_item lists cell_stretches row_stretches table_by
skipped_space = refl

-- a line of header cells before the first row, and a row with two cells
header_and_cells : read (codes "{|" ++ ((10 ∷ []) ++ (codes "! x !! y" ++ ((10 ∷ []) ++ (codes "|-" ++ ((10 ∷ []) ++ (codes "| a || b" ++ ((10 ∷ []) ++ (codes "|}")))))))))
    ≡ body (round kind.Table (codes "{|") (sep (10 ∷ []) ∷ opened kind.Tbody [] (
    opened kind.Tr [] (opened kind.Th (codes "! ") (text (codes "x ") ∷ []) ∷ opened kind.Th (codes "!! ") (text (codes "y") ∷ []) ∷ []) ∷ sep (10 ∷ [])
    ∷ opened kind.Tr (codes "|-") (sep (10 ∷ []) ∷ opened kind.Td (codes "| ") (text (codes "a ") ∷ []) ∷ opened kind.Td (codes "|| ") (text (codes "b") ∷ []) ∷ []) ∷ [])
    ∷ sep (10 ∷ []) ∷ []) (codes "|}") ∷ [])
unfolding context_parts line_trees segments bare_url nested_tree placeholder target_size target link_head key_after key category_head ext_link_head bare_url_head name_end attribute_items pair_head switch_names switch_property switch_head with_styles chunks loose_segments children nowiki placeholder_typeof style_tree_of turn_at is_bold_outside_at effect_on bold_ends_later next since toggles_of toggle_at place_of attributes attribute_at assigned past_blanks value_at bare quoted name_at begins_any_case link_to link_text stays_in_link tiles shapes closed form_at link_or_url tag_tile switch_at switch_words bare_url_at kept_len is_dropped ext_link_at is_url_char scheme_len link_at link_in target_of bracket_turn tag_at closing_tag opening_tag tag_after raw_opening_tag raw_closing_tag raw_tag_after tag_name_of live_name is_island_name is_style_name is_phrase_name is_block_name is_list_name is_table_name is_include_name read_text is_good is_allowed is_forbidden has_signature is_step begins_with_step holds_step ends_with_step title_in cut_namespace whole_in namespace_named is_called name_of image namespace_prefix full_name_of is_utf8 chars_of lib.Utf8.encode meaning blocks rows kind_of_signs nested inner_len single_at bar_at cell_of table_attributes row_attributes para pre rule colon_at line_item lists cell_stretches row_stretches table_by
header_and_cells = refl

-- a term without a colon, and a definition without a term
terms_alone : read (codes "; a" ++ ((10 ∷ []) ++ (codes ": b")))
    ≡ body (opened kind.Dl [] (opened kind.Dt (codes "; ") (text (codes "a") ∷ []) ∷ sep (10 ∷ []) ∷ opened kind.Dd (codes ": ") (text (codes "b") ∷ []) ∷ []) ∷ [])
unfolding context_parts line_trees segments bare_url nested_tree placeholder target_size target link_head key_after key category_head ext_link_head bare_url_head name_end attribute_items pair_head switch_names switch_property switch_head with_styles chunks loose_segments children nowiki placeholder_typeof style_tree_of turn_at is_bold_outside_at effect_on bold_ends_later next since toggles_of toggle_at place_of attributes attribute_at assigned past_blanks value_at bare quoted name_at begins_any_case link_to link_text stays_in_link tiles shapes closed form_at link_or_url tag_tile switch_at switch_words bare_url_at kept_len is_dropped ext_link_at is_url_char scheme_len link_at link_in target_of bracket_turn tag_at closing_tag opening_tag tag_after raw_opening_tag raw_closing_tag raw_tag_after tag_name_of live_name is_island_name is_style_name is_phrase_name is_block_name is_list_name is_table_name is_include_name read_text is_good is_allowed is_forbidden has_signature is_step begins_with_step holds_step ends_with_step title_in cut_namespace whole_in namespace_named is_called name_of image namespace_prefix full_name_of is_utf8 chars_of lib.Utf8.encode meaning blocks rows kind_of_signs nested inner_len single_at bar_at cell_of table_attributes row_attributes para pre rule colon_at line_item lists cell_stretches row_stretches table_by
terms_alone = refl

-- a colon in a link ends no term
colon_in_a_link : read (codes "; [[a:b]] : c")
    ≡ body (opened kind.Dl [] (opened kind.Dt (codes "; ") (inner (record { kind = kind.WikiLink; shown = []; attrs = (attr.Href, codes "./A:b") ∷ []; mw = None })
    (page (codes "[[")) (forest (text (codes "a:b") ∷ [])) (page (codes "]]")) ∷ text (codes " ") ∷ []) ∷ opened kind.Dd (codes ": ") (text (codes "c") ∷ []) ∷ []) ∷ [])
unfolding context_parts line_trees segments bare_url nested_tree placeholder target_size target link_head key_after key category_head ext_link_head bare_url_head name_end attribute_items pair_head switch_names switch_property switch_head with_styles chunks loose_segments children nowiki placeholder_typeof style_tree_of turn_at is_bold_outside_at effect_on bold_ends_later next since toggles_of toggle_at place_of attributes attribute_at assigned past_blanks value_at bare quoted name_at begins_any_case link_to link_text stays_in_link tiles shapes closed form_at link_or_url tag_tile switch_at switch_words bare_url_at kept_len is_dropped ext_link_at is_url_char scheme_len link_at link_in target_of bracket_turn tag_at closing_tag opening_tag tag_after raw_opening_tag raw_closing_tag raw_tag_after tag_name_of live_name is_island_name is_style_name is_phrase_name is_block_name is_list_name is_table_name is_include_name read_text is_good is_allowed is_forbidden has_signature is_step begins_with_step holds_step ends_with_step title_in cut_namespace whole_in namespace_named is_called name_of image namespace_prefix full_name_of is_utf8 chars_of lib.Utf8.encode meaning blocks rows kind_of_signs nested inner_len single_at bar_at cell_of table_attributes row_attributes para pre rule colon_at line_item lists cell_stretches row_stretches table_by
colon_in_a_link = refl

-- an item with nothing on its line begins with its line break, since that stands between its delimiter and the list in it
empty_item : read (codes "*" ++ ((10 ∷ []) ++ (codes "** a")))
    ≡ body (opened kind.Ul [] (opened kind.Li (codes "*") (sep (10 ∷ []) ∷ opened kind.Ul [] (opened kind.Li (codes "** ") (text (codes "a") ∷ []) ∷ []) ∷ []) ∷ []) ∷ [])
unfolding context_parts line_trees segments bare_url nested_tree placeholder target_size target link_head key_after key category_head ext_link_head bare_url_head name_end attribute_items pair_head switch_names switch_property switch_head with_styles chunks loose_segments children nowiki placeholder_typeof style_tree_of turn_at is_bold_outside_at effect_on bold_ends_later next since toggles_of toggle_at place_of attributes attribute_at assigned past_blanks value_at bare quoted name_at begins_any_case link_to link_text stays_in_link tiles shapes closed form_at link_or_url tag_tile switch_at switch_words bare_url_at kept_len is_dropped ext_link_at is_url_char scheme_len link_at link_in target_of bracket_turn tag_at closing_tag opening_tag tag_after raw_opening_tag raw_closing_tag raw_tag_after tag_name_of live_name is_island_name is_style_name is_phrase_name is_block_name is_list_name is_table_name is_include_name read_text is_good is_allowed is_forbidden has_signature is_step begins_with_step holds_step ends_with_step title_in cut_namespace whole_in namespace_named is_called name_of image namespace_prefix full_name_of is_utf8 chars_of lib.Utf8.encode meaning blocks rows kind_of_signs nested inner_len single_at bar_at cell_of table_attributes row_attributes para pre rule colon_at line_item lists cell_stretches row_stretches table_by
empty_item = refl

-- a caption stands in the table, and a cell before the first row in one without a delimiter
caption_and_row : read (codes "{|" ++ ((10 ∷ []) ++ (codes "|+ c" ++ ((10 ∷ []) ++ (codes "| a" ++ ((10 ∷ []) ++ (codes "|}")))))))
    ≡ body (round kind.Table (codes "{|") (sep (10 ∷ []) ∷ opened kind.Caption (codes "|+ ") (text (codes "c") ∷ []) ∷ sep (10 ∷ [])
    ∷ opened kind.Tbody [] (opened kind.Tr [] (opened kind.Td (codes "| ") (text (codes "a") ∷ []) ∷ []) ∷ []) ∷ sep (10 ∷ []) ∷ []) (codes "|}") ∷ [])
unfolding context_parts line_trees segments bare_url nested_tree placeholder target_size target link_head key_after key category_head ext_link_head bare_url_head name_end attribute_items pair_head switch_names switch_property switch_head with_styles chunks loose_segments children nowiki placeholder_typeof style_tree_of turn_at is_bold_outside_at effect_on bold_ends_later next since toggles_of toggle_at place_of attributes attribute_at assigned past_blanks value_at bare quoted name_at begins_any_case link_to link_text stays_in_link tiles shapes closed form_at link_or_url tag_tile switch_at switch_words bare_url_at kept_len is_dropped ext_link_at is_url_char scheme_len link_at link_in target_of bracket_turn tag_at closing_tag opening_tag tag_after raw_opening_tag raw_closing_tag raw_tag_after tag_name_of live_name is_island_name is_style_name is_phrase_name is_block_name is_list_name is_table_name is_include_name read_text is_good is_allowed is_forbidden has_signature is_step begins_with_step holds_step ends_with_step title_in cut_namespace whole_in namespace_named is_called name_of image namespace_prefix full_name_of is_utf8 chars_of lib.Utf8.encode meaning blocks rows kind_of_signs nested inner_len single_at bar_at cell_of table_attributes row_attributes para pre rule colon_at line_item lists cell_stretches row_stretches table_by
caption_and_row = refl

-- a mark before the first sign of a list stands before the list, and one before a further item between the two
mark_before_a_list : meaning (comment ∷ page (codes "* a" ++ (10 ∷ [])) ++ (comment ∷ page (codes "* b")))
    ≡ body (form_leaf form.Comment None (codes "<!--c-->") ∷ opened kind.Ul [] (opened kind.Li (codes "* ") (text (codes "a") ∷ []) ∷ sep (10 ∷ [])
    ∷ form_leaf form.Comment None (codes "<!--c-->") ∷ opened kind.Li (codes "* ") (text (codes "b") ∷ []) ∷ []) ∷ [])
unfolding context_parts line_trees segments bare_url nested_tree placeholder target_size target link_head key_after key category_head ext_link_head bare_url_head name_end attribute_items pair_head switch_names switch_property switch_head with_styles chunks loose_segments children nowiki placeholder_typeof style_tree_of turn_at is_bold_outside_at effect_on bold_ends_later next since toggles_of toggle_at place_of attributes attribute_at assigned past_blanks value_at bare quoted name_at begins_any_case link_to link_text stays_in_link tiles shapes closed form_at link_or_url tag_tile switch_at switch_words bare_url_at kept_len is_dropped ext_link_at is_url_char scheme_len link_at link_in target_of bracket_turn tag_at closing_tag opening_tag tag_after raw_opening_tag raw_closing_tag raw_tag_after tag_name_of live_name is_island_name is_style_name is_phrase_name is_block_name is_list_name is_table_name is_include_name read_text is_good is_allowed is_forbidden has_signature is_step begins_with_step holds_step ends_with_step title_in cut_namespace whole_in namespace_named is_called name_of image namespace_prefix full_name_of is_utf8 chars_of lib.Utf8.encode meaning blocks rows kind_of_signs nested inner_len single_at bar_at cell_of table_attributes row_attributes para pre rule colon_at line_item lists cell_stretches row_stretches table_by
mark_before_a_list = refl
