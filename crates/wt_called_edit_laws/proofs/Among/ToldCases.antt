-- Worked case: a page with a call, told by nothing but the lines of the expanded page: of a heading, and of a paragraph in a cell.
use Rattle.std.proofs.Common.{arith, ◌≡◌, inl, ℕ, ◌+◌, None, Some, List, [], ◌∷◌, ◌++◌, length, map, refl, sym, ap, ◌∙◌, subst}
use Rattle.std.specs.Prelude.{codes}
use Rattle.std.specs.Str.{is_utf8, chars, IsUtf8}
use Rattle.std.specs.Str.Lossy.{utf8_valid_len}
use lib.Utf8.{encode}
use Rattle.wt_span.specs.Comments.{comment_len, comment_line_len}
use Rattle.wt_span.specs.Entities.{entity_at, named_entity, decimal_entity, hex_entity, entity_names}
use Rattle.wt_span.specs.Items.{Item, char, sources}
use Rattle.wt_span.specs.Origins.{OuterCall, Span}
use Rattle.wt_span.specs.Tags.{raw_len, opening_tag, tag_after, closing_tag, with_inside, is_extension, include_at}
use Rattle.wt_span.specs.Lexemes.{sign_word, form_at, closed, words}
use Rattle.wt_span.specs.Braces.{rewritten, reduced, parts_of}
use Rattle.wt_lines.specs.Kinds.{kind_of_signs}
use Rattle.wt_lines.specs.Lines.{full_lines, content}
use Rattle.wt_names.specs.Good.{is_forbidden, is_allowed, has_signature, is_step, begins_with_step, holds_step, ends_with_step, is_good, read_text}
use Rattle.wt_names.specs.Namespace.{name_of, image, is_called, namespace_named, prefix_of, full_name_of}
use Rattle.wt_names.specs.Reading.{whole_in, cut_namespace, title_in}
use Rattle.wt_names.specs.Written.{link_to}
use Rattle.wt_tables.specs.Parts.{joined}
use Rattle.wt_annotated.specs.Seams.{text_from}
use Rattle.wt_page.specs.Lines.{ending}
use Rattle.wt_blocks.specs.Headings.{level, opening, inside, closing}
use Rattle.wt_inline.specs.Parts.{children}
use Rattle.wt_tiles.specs.Links.{link_at}
use Rattle.wt_tiles.specs.Urls.{scheme_len, kept_len, ext_link_at, bare_url_at}
use Rattle.wt_tiles.specs.Tags.{tag_at, opening_tag as tile_opening_tag, closing_tag as tile_closing_tag, tag_after as tile_tag_after, name_of as tag_name_of, live_name}
use Rattle.wt_tiles.specs.Tiles.{tag_tile, switch_at, link_or_url, form_at as tile_form_at, closed as tiles_closed, shapes, tiles}
use Rattle.wt_quotes.specs.Toggles.{toggle_at, toggles_of}
use Rattle.wt_quotes.specs.Styles.{style_tree_of}
use Rattle.wt_context.specs.Segments.{loose_segments}
use Rattle.wt_context.specs.Chunks.{chunks}
use Rattle.wt_context.specs.Styled.{with_styles}
use Rattle.wt_context.specs.Nodes.{segments}
use Rattle.wt_context.specs.Line.{context_parts}
use Rattle.wt_annotated.specs.Labels.{label_at}
use Rattle.wt_expand.specs.PageItems.{page_items}
use Rattle.wt_expand.specs.Texts.{trimmed, trimmed_items, name_text}
use Rattle.wt_expand.specs.Targets.{title_in_target, title_of_target, is_function, called}
use Rattle.wt_expand.specs.Templates.{begins_only, ends_only, template_text}
use Rattle.wt_expand.specs.Expansion.{text_members, most_templates, absent_text, loop_text, depth_text}
use Rattle.wt_expand.specs.PageCalls.{page_stretches, expanded_page}
use Rattle.wt_text_edit_laws.specs.BlockSpots.{BlockSpot}
use Rattle.wt_text_edit_laws.specs.LonePages.{page_chars, of_items}
use Rattle.wt_text_edit_laws.specs.PageCuts.{IsFreeBlock, EndClosed, AreFree}
use Rattle.wt_text_edit_laws.specs.TextBlocks.{a_paragraph, a_heading}
use Rattle.wt_text_edit_laws.specs.TypedHeadings.{spaced}
use Rattle.wt_called_edit_laws.specs.Covered.{AreInNoGroup}
use Rattle.wt_called_edit_laws.specs.Groups.{called_tree}
use Rattle.wt_called_edit_laws.specs.LinedAmong.{spots_of_lines, end_of_lines, AreOfPage, AreOwnLines, AreLed, AreUntouched}
use Rattle.wt_called_edit_laws.specs.PlacedLines.{LinedBlock, all_lines, lead_of}
use Rattle.wt_called_edit_laws.specs.ToldAmong.{IsToldAmong}
use Rattle.wt_called_edit_laws.specs.ToldLines.{Told, a_paragraph_of, a_heading_on, lined, AreTold}
use Rattle.wt_called_edit_laws.proofs.Cells.ClassCases.{a_word, a_title, in_a_cell, whole_page, in_class}

-- the call gives a word, which is a line with the line break behind it
abbrev told : List Told
told =
    a_heading_on ((char (Some 0) 98 ∷ char None 10 ∷ []) ∷ (char None 10 ∷ []) ∷ []) [] (page_chars (codes "== h ==\n"))
    ∷ a_paragraph_of (page_chars (codes "{|\n") ∷ page_chars (codes "|\n") ∷ []) [] [] (page_chars (codes "x<br>y\n")) []
    ∷ []

abbrev last_lines : List (List Item)
last_lines = page_chars (codes "|}") ∷ []

-- ---- the expanded page

abbrev items : List Item
items = char (Some 0) 98 ∷ page_chars (codes "\n\n== h ==\n{|\n|\nx<br>y\n|}")

are_items : (expanded_page a_word whole_page).items ≡ items
unfolding words closed form_at comment_len comment_line_len raw_len opening_tag tag_after closing_tag with_inside is_extension
    include_at entity_at named_entity decimal_entity hex_entity entity_names sign_word reduced rewritten parts_of text_members trimmed
    trimmed_items name_text called most_templates is_function title_of_target title_in_target read_text is_allowed is_forbidden
    is_good has_signature is_step begins_with_step holds_step ends_with_step name_of image is_called namespace_named prefix_of
    full_name_of whole_in cut_namespace title_in template_text begins_only ends_only loop_text depth_text absent_text
    utf8_valid_len is_utf8 chars encode link_to page_stretches expanded_page
are_items = refl

lines_are : full_lines items ≡ all_lines (map lined told) last_lines
lines_are = refl

no_text_calls : (expanded_page a_word whole_page).text_calls ≡ []
unfolding words closed form_at comment_len comment_line_len raw_len opening_tag tag_after closing_tag with_inside is_extension
    include_at entity_at named_entity decimal_entity hex_entity entity_names sign_word reduced rewritten parts_of text_members trimmed
    trimmed_items name_text called most_templates is_function title_of_target title_in_target read_text is_allowed is_forbidden
    is_good has_signature is_step begins_with_step holds_step ends_with_step name_of image is_called namespace_named prefix_of
    full_name_of whole_in cut_namespace title_in template_text begins_only ends_only loop_text depth_text absent_text
    utf8_valid_len is_utf8 chars encode link_to page_stretches expanded_page
no_text_calls = refl

spots_are : spots_of_lines a_word whole_page (map lined told) ≡ a_title ∷ in_a_cell ∷ []
unfolding words closed form_at comment_len comment_line_len raw_len opening_tag tag_after closing_tag with_inside is_extension
    include_at entity_at named_entity decimal_entity hex_entity entity_names sign_word reduced rewritten parts_of text_members trimmed
    trimmed_items name_text called most_templates is_function title_of_target title_in_target read_text is_allowed is_forbidden
    is_good has_signature is_step begins_with_step holds_step ends_with_step name_of image is_called namespace_named prefix_of
    full_name_of whole_in cut_namespace title_in template_text begins_only ends_only loop_text depth_text absent_text
    utf8_valid_len is_utf8 chars encode link_to page_stretches expanded_page level opening inside closing
spots_are = refl

untouched_by_none : (calls : List OuterCall) (bs : List LinedBlock) (at : ℕ) (es : List Item) → AreUntouched calls [] at es bs
untouched_by_none calls [] at es = tt
untouched_by_none calls (b ∷ bs) at es =
    let from : ℕ = at + length (text_from calls None ((es ++ joined b.before) ++ lead_of b)) in
    let own : List Item = joined (b.first ∷ b.more) in
    (tt, untouched_by_none calls bs (from + length (sources (content own))) (ending own))

-- ---- its lines

told_here : AreTold told last_lines
unfolding kind_of_signs level opening inside closing
told_here = (
  record {
    sign = tt;
    unclosed = tt;
    are_marks = refl;
    some = omega arith;
    in_cells = tt;
    apart = tt;
    own = record { is_heading = refl; first = refl };
  },
  (
    tt,
    record { sign = tt; unclosed = tt; are_marks = refl; some = omega arith; in_cells = (refl, tt); apart = refl; own = ((refl, tt), refl) },
    refl,
  ),
)

own_chars : (q : List ℕ) → AreOfPage (page_chars q)
own_chars [] = tt
own_chars (b ∷ bs) = (refl, tt, own_chars bs)

own_lines : AreOwnLines (map lined told)
own_lines = (own_chars (codes "== h ==\n"), tt, (own_chars (codes "x<br>y\n"), tt, tt))

-- ---- its blocks

free_title : IsFreeBlock (a_heading (spaced 2)) (codes "h")
unfolding page_items words closed form_at comment_len comment_line_len raw_len opening_tag tag_after closing_tag with_inside is_extension include_at
    entity_at named_entity decimal_entity hex_entity entity_names sign_word level opening inside closing label_at children
    context_parts segments tiles shapes tiles_closed tile_form_at link_or_url link_at ext_link_at bare_url_at scheme_len kept_len
    tag_tile tag_at tile_opening_tag tile_closing_tag tile_tag_after tag_name_of live_name switch_at loose_segments chunks with_styles style_tree_of
    toggles_of toggle_at
free_title = record {
  full = ((refl, tt), tt);
  untangled = record { items = of_items []; page = []; number = 0; before = []; untangled = refl };
}

free_cell : IsFreeBlock a_paragraph (codes "x<br>y")
unfolding page_items words closed form_at comment_len comment_line_len raw_len opening_tag tag_after closing_tag with_inside is_extension include_at
    entity_at named_entity decimal_entity hex_entity entity_names sign_word level opening inside closing label_at children
    context_parts segments tiles shapes tiles_closed tile_form_at link_or_url link_at ext_link_at bare_url_at scheme_len kept_len
    tag_tile tag_at tile_opening_tag tile_closing_tag tile_tag_after tag_name_of live_name switch_at loose_segments chunks with_styles style_tree_of
    toggles_of toggle_at
free_cell = record {
  full = ((refl, tt), ((refl, tt), ((refl, tt), tt)));
  untangled = record { items = of_items []; page = []; number = 0; before = []; untangled = refl };
}

-- ---- the page

is_of_utf8 : IsUtf8 whole_page
unfolding encode
is_of_utf8 = (whole_page, (refl, refl))

pub told_page : IsToldAmong a_word whole_page told last_lines
told_page = record {
  utf8 = is_of_utf8;
  closed = subst (λ (ss : List BlockSpot). EndClosed ss (end_of_lines a_word whole_page (map lined told) last_lines)) (sym spots_are) (tt, (tt, tt));
  are = ap full_lines are_items ∙ lines_are;
  told = told_here;
  own = own_lines;
  led = subst AreLed (sym spots_are) (inl refl, (inl refl, tt));
  free = subst AreFree (sym spots_are) (free_title, (free_cell, tt));
  untouched = subst (λ (ss : List Span). AreUntouched (expanded_page a_word whole_page).outer ss 0 [] (map lined told)) (sym no_text_calls)
      (untouched_by_none (expanded_page a_word whole_page).outer (map lined told) 0 []);
  unrefused = in_class.unrefused;
  in_no_group = subst (λ (ss : List BlockSpot). AreInNoGroup 0 ss (called_tree a_word whole_page)) (sym spots_are) in_class.in_no_group;
}
