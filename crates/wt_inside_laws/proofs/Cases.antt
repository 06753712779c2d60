-- Worked cases by computing: by what the tree of the new page differs from that of the old one.
use Rattle.std.proofs.Common.{◌≡◌, ℕ, List, [], ◌∷◌, codes, None, map, refl}
use Rattle.std.specs.Fmt.{digits}
use Rattle.wt_tree.specs.Kinds.{spelling}
use Rattle.wt_span.specs.Comments.{comment_len, comment_line_len}
use Rattle.wt_span.specs.Entities.{entity_at, named_entity, decimal_entity, hex_entity, entity_names}
use Rattle.wt_span.specs.Tags.{raw_len, opening_tag, tag_after, closing_tag, with_inside as tag_inside, is_extension, include_at}
use Rattle.wt_span.specs.Lexemes.{sign_word, form_at, closed, words}
use Rattle.wt_lines.specs.Kinds.{kind_of_signs}
use Rattle.wt_expand.specs.PageItems.{page_items}
use Rattle.wt_inline.specs.Carried.{extension_typeof, noinclude_typeof, onlyinclude_typeof, includeonly_typeof, extension_data}
use Rattle.wt_inline.specs.Parts.{children, nowiki}
use Rattle.wt_tiles.specs.Links.{link_at}
use Rattle.wt_tiles.specs.Urls.{scheme_len, kept_len, ext_link_at, bare_url_at}
use Rattle.wt_tiles.specs.Tags.{tag_at, opening_tag as tile_opening_tag, closing_tag as tile_closing_tag}
use Rattle.wt_tiles.specs.Tiles.{tag_tile, switch_at, link_or_url, form_at as tile_form_at, closed as tiles_closed, shapes, tiles}
use Rattle.wt_quotes.specs.Toggles.{toggle_at, toggles_of}
use Rattle.wt_quotes.specs.Styles.{style_tree_of}
use Rattle.wt_context.specs.Segments.{loose_segments}
use Rattle.wt_context.specs.Chunks.{chunks}
use Rattle.wt_context.specs.Styled.{with_styles}
use Rattle.wt_context.specs.Nodes.{segments}
use Rattle.wt_context.specs.Line.{context_parts, line_trees}
use Rattle.wt_page.specs.Headings.{heading as page_heading}
use Rattle.wt_page.specs.Texts.{para, rule}
use Rattle.wt_page.specs.Rows.{rows as rows_of}
use Rattle.wt_blocks.specs.Headings.{level, opening, inside, closing}
use Rattle.wt_page.specs.Body.{blocks, meaning}
use Rattle.wt_page.specs.Lists.{lists, line_item}
use Rattle.wt_blocks.specs.Nesting.{nested}
use Rattle.wt_annotated.specs.WithoutCalls.{annotated}
use Rattle.wt_annotated.specs.Labels.{label_at}
use Rattle.std.specs.Str.{chars}
use Rattle.wt_tree.specs.declared.kind.Kind.TheVariants as kind
use Rattle.wt_tree.specs.declared.kind.Mark.TheVariants as marks
use Rattle.wt_tree.specs.Tree.{Label, Tree, tree, none}
use Rattle.wt_guards.specs.Guards.{nowiki as guard, is_guarded, is_between_guard, is_start_guard, is_end_guard, is_blank_guard}
use Rattle.wt_text_edit_laws.specs.TypedHeadings.{spaced}
use Rattle.wt_text_edit_laws.specs.TextBlocks.{a_paragraph, a_heading}
use Rattle.wt_text_edit_laws.specs.BlockEdits.{types, keeps, BlockEdit}
use Rattle.wt_inside_laws.specs.Replaced.{Edit}
use Rattle.wt_inside_laws.specs.TextsReplaced.{Place, replaced_by, all_replaced}

abbrev free : Label
free = record {
  kind = kind.Text;
  id = 0;
  ranges = None;
  opening = [];
  closing = [];
  own = [];
  shown = [];
  attrs = [];
  origin = None;
  mark = marks.Nothing;
  mw = None;
}

-- what is kept has no part in the new page's source
abbrev node : Tree
node = tree free none

abbrev figures : Edit → List ℕ
figures e = e.number ∷ e.old_end ∷ e.new_end ∷ e.old_last ∷ e.new_last ∷ []

-- a heading, a list and an empty line stand before the paragraph
abbrev here : Place
here = record { spots = []; before = codes "== h ==\n* a\n\n" }

-- `[c]` typed in place of `b`: the paragraph has the number 4 and ends ten bytes later, and two references in it have numbers
typed : figures (replaced_by here a_paragraph (codes "b") (codes "&#91;c&#93;")) ≡ 4 ∷ 14 ∷ 24 ∷ 4 ∷ 6 ∷ []
unfolding page_items words closed form_at comment_len comment_line_len raw_len opening_tag tag_after closing_tag tag_inside
    is_extension include_at entity_at named_entity decimal_entity hex_entity entity_names sign_word annotated label_at meaning
    rows_of blocks kind_of_signs children para page_heading level opening inside closing nowiki
    line_trees context_parts segments tiles shapes tiles_closed tile_form_at link_or_url link_at ext_link_at bare_url_at scheme_len kept_len
    tag_tile tag_at tile_opening_tag tile_closing_tag switch_at loose_segments chunks with_styles style_tree_of toggles_of toggle_at
    extension_typeof noinclude_typeof onlyinclude_typeof includeonly_typeof extension_data digits lib.Utf8.encode spelling lists nested line_item
typed = refl

-- where a heading stands first, and a paragraph, behind a rule, is emptied: the heading is replaced by itself
abbrev emptied : BlockEdit
emptied = record {
  spots = record { spot = record { before = []; block = a_heading (spaced 2); text = codes "a" }; others = []; typing = keeps node }
      ∷ record { spot = record { before = codes "\n\n----\n\n"; block = a_paragraph; text = codes "b" }; others = node ∷ node ∷ node ∷ []; typing = types free free [] }
      ∷ [];
  behind = codes "\n";
  others = node ∷ [];
}

both : map figures (all_replaced emptied) ≡ (1 ∷ 7 ∷ 7 ∷ 1 ∷ 1 ∷ []) ∷ (3 ∷ 16 ∷ 24 ∷ 3 ∷ 4 ∷ []) ∷ []
unfolding page_items words closed form_at comment_len comment_line_len raw_len opening_tag tag_after closing_tag tag_inside
    is_extension include_at entity_at named_entity decimal_entity hex_entity entity_names sign_word annotated label_at meaning
    rows_of blocks kind_of_signs children para page_heading level opening inside closing nowiki
    line_trees context_parts segments tiles shapes tiles_closed tile_form_at link_or_url link_at ext_link_at bare_url_at scheme_len kept_len
    tag_tile tag_at tile_opening_tag tile_closing_tag switch_at loose_segments chunks with_styles style_tree_of toggles_of toggle_at
    extension_typeof noinclude_typeof onlyinclude_typeof includeonly_typeof extension_data digits lib.Utf8.encode spelling is_guarded is_between_guard is_start_guard
    is_end_guard is_blank_guard guard chars rule
both = refl
