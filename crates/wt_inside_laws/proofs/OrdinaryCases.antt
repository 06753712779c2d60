-- Worked case: an ordinary page, a heading, a paragraph with bold and a link, a list and a table, where a letter is typed in the place of the first of the
-- paragraph. That is what is marked, the marked block is ordinary (`IsOrdinaryOn`), and no check refuses what is sent.
use Rattle.std.proofs.Common.{◌≡◌, ℕ, Bool, true, false, None, List, [], ◌∷◌, refl, sym, ap, ◌∙◌, subst}
use Rattle.std.specs.Prelude.{codes, not, ◌&&◌}
use Rattle.std.specs.List.{AllByRecursion, list_all}
use Rattle.std.specs.Str.{is_utf8, chars}
use Rattle.std.specs.Str.Lossy.{utf8_valid_len}
use lib.Utf8.{encode}
use Rattle.wt_span.specs.Comments.{comment_len, comment_line_len}
use Rattle.wt_span.specs.Entities.{entity_at, named_entity, decimal_entity, hex_entity, entity_names}
use Rattle.wt_span.specs.Tags.{raw_len, opening_tag, tag_after, closing_tag, with_inside, is_extension, include_at}
use Rattle.wt_span.specs.Items.{Item}
use Rattle.wt_span.specs.Lexemes.{sign_word, form_at, closed, words}
use Rattle.wt_span.specs.Origins.{Expanded}
use Rattle.wt_tree.specs.declared.kind.Kind.TheVariants as kind
use Rattle.wt_tree.specs.declared.kind.Mark.TheVariants as marks
use Rattle.wt_tree.specs.Kinds.{spelling}
use Rattle.wt_tree.specs.Source.{flat}
use Rattle.wt_tree.specs.Tree.{Tree, tree, Trees, more, label}
use Rattle.wt_lines.specs.Kinds.{kind_of_signs}
use Rattle.wt_lines.specs.Lines.{full_lines}
use Rattle.wt_blocks.specs.Headings.{level, opening, inside, closing}
use Rattle.wt_blocks.specs.Nesting.{nested}
use Rattle.wt_attributes.specs.Attributes.{attributes}
use Rattle.wt_tables.specs.Cells.{single_at, bar_at, cell_of, cells, table_attributes, row_attributes}
use Rattle.wt_tables.specs.Extents.{inner_len}
use Rattle.wt_names.specs.Good.{is_forbidden, is_allowed, has_signature, is_step, begins_with_step, holds_step, ends_with_step, is_good, read_text}
use Rattle.wt_names.specs.Namespace.{name_of, image, is_called, namespace_named, prefix_of, full_name_of}
use Rattle.wt_names.specs.Reading.{whole_in, cut_namespace, title_in}
use Rattle.wt_names.specs.Written.{link_to, link_text, stays_in_link}
use Rattle.wt_inline.specs.Parts.{children}
use Rattle.wt_tiles.specs.Links.{link_at, link_in, target_of}
use Rattle.wt_tiles.specs.Urls.{scheme_len, kept_len, ext_link_at, bare_url_at}
use Rattle.wt_tiles.specs.Tags.{tag_at, opening_tag as opens_tag, closing_tag as closes_tag}
use Rattle.wt_tiles.specs.Tiles.{tag_tile, switch_at, link_or_url, form_at as tile_at, closed as closes, shapes, tiles}
use Rattle.wt_quotes.specs.Runs.{place_of}
use Rattle.wt_quotes.specs.Toggles.{toggle_at, toggles_of}
use Rattle.wt_quotes.specs.Turns.{turn_at, is_bold_outside_at, since, bold_ends_later, next, effect_on}
use Rattle.wt_quotes.specs.Styles.{style_tree_of}
use Rattle.wt_context.specs.Segments.{loose_segments}
use Rattle.wt_context.specs.Chunks.{chunks}
use Rattle.wt_context.specs.Styled.{with_styles}
use Rattle.wt_context.specs.Heads.{link_head}
use Rattle.wt_context.specs.Nodes.{segments, nested_tree}
use Rattle.wt_context.specs.Line.{context_parts, line_trees}
use Rattle.wt_page.specs.Headings.{heading}
use Rattle.wt_page.specs.Lists.{lists, line_item}
use Rattle.wt_page.specs.Rows.{rows}
use Rattle.wt_page.specs.Tables.{cell_stretches, row_stretches, table_by}
use Rattle.wt_page.specs.Texts.{para}
use Rattle.wt_page.specs.Body.{blocks, meaning}
use Rattle.wt_annotated.specs.Annotated.{annotated}
use Rattle.wt_annotated.specs.GroupData.{group_data}
use Rattle.wt_annotated.specs.Labels.{label_at}
use Rattle.wt_expand.specs.PageCalls.{expanded_page}
use Rattle.wt_expand.specs.PageItems.{page_items}
use Rattle.wt_expand.specs.Work.{Pages}
use Rattle.wt_page_round_trip.specs.PageTree.{expanded_tree}
use Rattle.wt_original.specs.Kept.{kept_with}
use Rattle.wt_checks.specs.Checked.{checked}
use Rattle.wt_checks.specs.Alike.{same_kind, same_data}
use Rattle.wt_checks.specs.Marks.{is_children}
use Rattle.wt_checks.specs.Places.{Place, places}
use Rattle.wt_checks.specs.Kept.{children as nodes_in}
use Rattle.wt_link_spelling.specs.Spelling.{children_of}
use Rattle.wt_slices.specs.Changes.{Pair, marked, AllStay}
use Rattle.wt_part_laws.specs.Standing.{standing}
use Rattle.wt_text_edit_laws.specs.LonePages.{page_chars, of_items}
use Rattle.wt_text_edit_laws.specs.NoCalls.{CallsNothing}
use Rattle.wt_text_edit_laws.specs.TextBlocks.{a_paragraph, a_heading, block_tree}
use Rattle.wt_text_edit_laws.proofs.Between.NoCalls.{calm_expanded}
use Rattle.wt_beside_laws.specs.EndedNodes.{AreEndedNodes}
use Rattle.wt_beside_laws.specs.FlatBlocks.{signs_in}
use Rattle.wt_beside_laws.specs.NodeItems.{node_items}
use Rattle.wt_beside_laws.specs.OpenTags.{EndTags}
use Rattle.wt_called_edit_laws.specs.AllTold.{IsExcepted}
use Rattle.wt_called_edit_laws.specs.CallingTold.{untold}
use Rattle.wt_called_edit_laws.specs.SentAsIs.{as_sent, all_as_sent}
use Rattle.wt_called_edit_laws.proofs.AllTold.CalmPages.{calm_excepted}
use Rattle.wt_called_edit_laws.proofs.AllTold.CalmCalls.{AreUnsigned, none_signed_at}
use Rattle.wt_called_edit_laws.proofs.AllTold.PlaceStarts.{standing_source}
use Rattle.wt_called_edit_laws.proofs.Beside.EndCases.{nth}
use Rattle.wt_called_edit_laws.proofs.Cells.PageCases.{is_free, are_free, free_node}
use Rattle.wt_inside_laws.specs.ToldEdits.{HasEndedNodes, IsOrdinary, IsOrdinaryOn}
use Rattle.wt_inside_laws.proofs.InsidesCases.{text, inner}

-- ---- the page

abbrev page : List ℕ
page = codes "== a ==\nb '''c''' [[d]]\n* e\n{|\n| f\n|}"

abbrev items : List Item
items = page_chars page

are_items : page_items page ≡ items
unfolding page_items words closed form_at comment_len comment_line_len raw_len opening_tag tag_after closing_tag with_inside is_extension include_at entity_at
    named_entity decimal_entity hex_entity entity_names sign_word
are_items = refl

calm : CallsNothing (page_items page)
calm = subst (λ (xs : List Item). CallsNothing xs) (sym are_items) tt

abbrev expanded : Expanded
expanded = of_items items

expanded_is : (pages : Pages) → expanded_page pages page ≡ expanded
expanded_is pages = calm_expanded pages page calm ∙ ap of_items are_items

none_signed : AreUnsigned 0 (full_lines items)
unfolding kind_of_signs level opening inside closing single_at bar_at cell_of cells table_attributes row_attributes inner_len
none_signed = (((λ z u. absurd (cc)), (λ z u. absurd (cc))), (((λ z u. absurd (cc)), (λ z u. absurd (cc))), (((λ z u. absurd (cc)), (λ z u. absurd (cc))), (((λ z u. absurd (cc)), (λ z u. absurd (cc))), (((λ z u. absurd (cc)), (λ z u. absurd (cc))), (((λ z u. absurd (cc)), (λ z u. absurd (cc))), tt))))))

none_excepted : (pages : Pages) (t : Tree) → IsExcepted pages page t → ⊥
none_excepted pages t x =
    let r = calm_excepted pages page t calm x in
    none_signed_at (full_lines (expanded_page pages page).items) _ (subst (λ (e : Expanded). AreUnsigned 0 (full_lines e.items)) (sym (expanded_is pages)) none_signed)
    (untold r.1)

-- ---- its tree, and what is sent

abbrev old : Tree
old = expanded_tree expanded

abbrev nodes : Trees
nodes = nodes_in (annotated expanded.outer (group_data expanded.outer) (meaning items))

abbrev block : Tree
block = nth 2 nodes

-- all else as it is
abbrev with_third : Tree → Trees → Trees
with_third u (more a (more b (more c ts))) = more (as_sent a) (more (as_sent b) (more u (all_as_sent ts)))
with_third u ts = ts

abbrev sent : Tree
sent = inner kind.Para (label block).id [] (text (codes "g ") ∷ as_sent (nth 1 (children_of block)) ∷ as_sent (nth 2 (children_of block)) ∷ as_sent (nth 3 (children_of block)) ∷ []) []

abbrev new_block : Tree
new_block = tree (record (label sent) { mark = marks.Content }) (children_of sent)

abbrev new : Tree
new = tree (label (inner kind.Body 0 [] [] [])) (with_third new_block nodes)

abbrev pair : Pair
pair = record { old = block; new = new_block }

-- ---- the marked block

block_source : flat block ≡ codes "b '''c''' [[d]]"
unfolding kind_of_signs annotated group_data label_at meaning rows blocks children para
    heading level opening inside closing line_trees cell_stretches row_stretches table_by single_at bar_at cell_of cells table_attributes row_attributes inner_len
    context_parts segments tiles shapes closes tile_at link_or_url link_at ext_link_at bare_url_at scheme_len kept_len
    tag_tile tag_at opens_tag closes_tag switch_at loose_segments chunks with_styles style_tree_of toggles_of toggle_at chars encode
    lists nested line_item link_in target_of is_utf8 utf8_valid_len read_text is_allowed is_forbidden is_good title_in cut_namespace whole_in full_name_of prefix_of
    has_signature is_step begins_with_step holds_step ends_with_step name_of image is_called namespace_named link_to link_text stays_in_link
    turn_at is_bold_outside_at since bold_ends_later next effect_on place_of nested_tree link_head
block_source = refl

ungrouped_by : is_free block ≡ true
unfolding is_free are_free kind_of_signs annotated group_data label_at meaning rows blocks children para
    heading level opening inside closing line_trees cell_stretches row_stretches table_by single_at bar_at cell_of cells table_attributes row_attributes inner_len
    context_parts segments tiles shapes closes tile_at link_or_url link_at ext_link_at bare_url_at scheme_len kept_len
    tag_tile tag_at opens_tag closes_tag switch_at loose_segments chunks with_styles style_tree_of toggles_of toggle_at chars encode
    lists nested line_item link_in target_of is_utf8 utf8_valid_len read_text is_allowed is_forbidden is_good title_in cut_namespace whole_in full_name_of prefix_of
    has_signature is_step begins_with_step holds_step ends_with_step name_of image is_called namespace_named link_to link_text stays_in_link
    turn_at is_bold_outside_at since bold_ends_later next effect_on place_of nested_tree link_head
ungrouped_by = refl

block_kind : (label block).kind ≡ kind.Para
unfolding kind_of_signs annotated group_data label_at meaning rows blocks children para
    heading level opening inside closing line_trees cell_stretches row_stretches table_by single_at bar_at cell_of cells table_attributes row_attributes inner_len
    context_parts segments tiles shapes closes tile_at link_or_url link_at ext_link_at bare_url_at scheme_len kept_len
    tag_tile tag_at opens_tag closes_tag switch_at loose_segments chunks with_styles style_tree_of toggles_of toggle_at chars encode
    lists nested line_item link_in target_of is_utf8 utf8_valid_len read_text is_allowed is_forbidden is_good title_in cut_namespace whole_in full_name_of prefix_of
    has_signature is_step begins_with_step holds_step ends_with_step name_of image is_called namespace_named link_to link_text stays_in_link
    turn_at is_bold_outside_at since bold_ends_later next effect_on place_of nested_tree link_head
block_kind = refl

pub marked_is : marked old new ≡ pair ∷ []
unfolding kind_of_signs annotated group_data label_at meaning rows blocks children para
    heading level opening inside closing line_trees cell_stretches row_stretches table_by single_at bar_at cell_of cells table_attributes row_attributes inner_len
    context_parts segments tiles shapes closes tile_at link_or_url link_at ext_link_at bare_url_at scheme_len kept_len
    tag_tile tag_at opens_tag closes_tag switch_at loose_segments chunks with_styles style_tree_of toggles_of toggle_at chars encode
    lists nested line_item link_in target_of is_utf8 utf8_valid_len read_text is_allowed is_forbidden is_good title_in cut_namespace whole_in full_name_of prefix_of
    has_signature is_step begins_with_step holds_step ends_with_step name_of image is_called namespace_named link_to link_text stays_in_link
    turn_at is_bold_outside_at since bold_ends_later next effect_on place_of nested_tree link_head
    spelling kept_with
marked_is = refl

pub checks : checked false old new ≡ None
unfolding kind_of_signs annotated group_data label_at meaning rows blocks children para
    heading level opening inside closing line_trees cell_stretches row_stretches table_by single_at bar_at cell_of cells table_attributes row_attributes inner_len
    context_parts segments tiles shapes closes tile_at link_or_url link_at ext_link_at bare_url_at scheme_len kept_len
    tag_tile tag_at opens_tag closes_tag switch_at loose_segments chunks with_styles style_tree_of toggles_of toggle_at chars encode
    lists nested line_item link_in target_of is_utf8 utf8_valid_len read_text is_allowed is_forbidden is_good title_in cut_namespace whole_in full_name_of prefix_of
    has_signature is_step begins_with_step holds_step ends_with_step name_of image is_called namespace_named link_to link_text stays_in_link
    turn_at is_bold_outside_at since bold_ends_later next effect_on place_of nested_tree link_head
    spelling kept_with checked same_kind same_data attributes
checks = refl

-- no mark is `children`
stay_so : (ps : List Place) → list_all (λ p. not (is_children (label p.node).mark)) ps ≡ true → AllByRecursion (λ p. is_children (label p.node).mark ≡ false) ps
stay_so [] e = tt
stay_so (p ∷ ps) e = by (is_children (label p.node).mark) refl e (λ f. stay_so ps f)
  where
    by : (v : Bool) → is_children (label p.node).mark ≡ v → (not v && list_all (λ q. not (is_children (label q.node).mark)) ps) ≡ true
        → (list_all (λ q. not (is_children (label q.node).mark)) ps ≡ true → AllByRecursion (λ q. is_children (label q.node).mark ≡ false) ps)
        → AllByRecursion (λ q. is_children (label q.node).mark ≡ false) (p ∷ ps)
    by true w h rest = let no : false ≡ true = h in absurd (cc)
    by false w h rest = (w, rest h)

all_stay : list_all (λ p. not (is_children (label p.node).mark)) (places new) ≡ true
unfolding kind_of_signs annotated group_data label_at meaning rows blocks children para
    heading level opening inside closing line_trees cell_stretches row_stretches table_by single_at bar_at cell_of cells table_attributes row_attributes inner_len
    context_parts segments tiles shapes closes tile_at link_or_url link_at ext_link_at bare_url_at scheme_len kept_len
    tag_tile tag_at opens_tag closes_tag switch_at loose_segments chunks with_styles style_tree_of toggles_of toggle_at chars encode
    lists nested line_item link_in target_of is_utf8 utf8_valid_len read_text is_allowed is_forbidden is_good title_in cut_namespace whole_in full_name_of prefix_of
    has_signature is_step begins_with_step holds_step ends_with_step name_of image is_called namespace_named link_to link_text stays_in_link
    turn_at is_bold_outside_at since bold_ends_later next effect_on place_of nested_tree link_head
    spelling kept_with
all_stay = refl

pub stays : AllStay new
stays = stay_so (places new) all_stay

-- ---- the block is ordinary

nodes_end : AreEndedNodes (signs_in a_paragraph (codes "b '''c''' [[d]]"))
unfolding page_items words closed form_at comment_len comment_line_len raw_len opening_tag tag_after closing_tag with_inside is_extension include_at entity_at
    named_entity decimal_entity hex_entity entity_names sign_word kind_of_signs annotated group_data label_at meaning rows blocks children para
    heading level opening inside closing line_trees cell_stretches row_stretches table_by single_at bar_at cell_of cells table_attributes row_attributes inner_len
    context_parts segments tiles shapes closes tile_at link_or_url link_at ext_link_at bare_url_at scheme_len kept_len
    tag_tile tag_at opens_tag closes_tag switch_at loose_segments chunks with_styles style_tree_of toggles_of toggle_at chars encode
    lists nested line_item link_in target_of is_utf8 utf8_valid_len read_text is_allowed is_forbidden is_good title_in cut_namespace whole_in full_name_of prefix_of
    has_signature is_step begins_with_step holds_step ends_with_step name_of image is_called namespace_named link_to link_text stays_in_link
    turn_at is_bold_outside_at since bold_ends_later next effect_on place_of nested_tree link_head
    spelling kept_with
nodes_end = ((refl, (refl, (refl, refl))), tt)

tags_end : EndTags (signs_in a_paragraph (codes "b '''c''' [[d]]"))
unfolding page_items words closed form_at comment_len comment_line_len raw_len opening_tag tag_after closing_tag with_inside is_extension include_at entity_at
    named_entity decimal_entity hex_entity entity_names sign_word kind_of_signs annotated group_data label_at meaning rows blocks children para
    heading level opening inside closing line_trees cell_stretches row_stretches table_by single_at bar_at cell_of cells table_attributes row_attributes inner_len
    context_parts segments tiles shapes closes tile_at link_or_url link_at ext_link_at bare_url_at scheme_len kept_len
    tag_tile tag_at opens_tag closes_tag switch_at loose_segments chunks with_styles style_tree_of toggles_of toggle_at chars encode
    lists nested line_item link_in target_of is_utf8 utf8_valid_len read_text is_allowed is_forbidden is_good title_in cut_namespace whole_in full_name_of prefix_of
    has_signature is_step begins_with_step holds_step ends_with_step name_of image is_called namespace_named link_to link_text stays_in_link
    turn_at is_bold_outside_at since bold_ends_later next effect_on place_of nested_tree link_head
    spelling kept_with node_items
tags_end = tt

ended_nodes : HasEndedNodes a_paragraph (codes "b '''c''' [[d]]")
ended_nodes = record { ended = nodes_end; tags = tags_end }

ordinary : IsOrdinary pair
unfolding label_at
ordinary a_paragraph q s =
    let same : codes "b '''c''' [[d]]" ≡ q = sym block_source ∙ ap flat s.is ∙ standing_source a_paragraph q s.number s.before in
    subst (HasEndedNodes a_paragraph) same ended_nodes
ordinary (a_heading z) q s = absurd (no_heading (sym block_kind ∙ ap (λ (t : Tree). (label t).kind) s.is))
  where
    no_heading : kind.Para ≡ (label (standing s.number s.before (block_tree (a_heading z) q))).kind → ⊥
    no_heading e = let wrong : kind.Para ≡ kind.Heading z.level = e in absurd (cc)

pub is_ordinary : (pages : Pages) → IsOrdinaryOn pages page pair
is_ordinary pages = record { ungrouped = free_node block ungrouped_by; ordinary = ordinary; told = none_excepted pages block }
