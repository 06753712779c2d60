-- Worked cases by computing: an ordinary page, told by its lines, no block of which is excepted; and pages that end with a comment.
use Rattle.std.proofs.Common.{arith, length, ◌≡◌, ℕ, true, false, None, List, [], ◌∷◌, ◌++◌, map, refl, sym, ap, ◌∙◌, subst}
use Rattle.std.specs.Prelude.{codes}
use Rattle.std.specs.Str.{IsUtf8}
use lib.Utf8.{encode}
use Rattle.wt_span.specs.Comments.{comment_len, comment_line_len}
use Rattle.wt_span.specs.Entities.{named_entity, entity_names, decimal_entity, hex_entity, entity_at}
use Rattle.wt_span.specs.Items.{Item, char, whole, sources}
use Rattle.wt_span.specs.declared.form.ItemForm.TheVariants as form
use Rattle.wt_span.specs.Lexemes.{sign_word, form_at, closed, words}
use Rattle.wt_span.specs.Tags.{opening_tag, closing_tag, tag_after, with_inside, is_extension, raw_len, include_at}
use Rattle.wt_lines.specs.Kinds.{kind_of_signs}
use Rattle.wt_lines.specs.Lines.{content, full_lines}
use Rattle.wt_blocks.specs.Headings.{level, opening, inside, closing}
use Rattle.wt_tables.specs.Cells.{single_at, bar_at, cell_of, cells, table_attributes, row_attributes}
use Rattle.wt_tables.specs.Extents.{inner_len}
use Rattle.wt_inline.specs.Parts.{children}
use Rattle.wt_tiles.specs.Links.{link_at}
use Rattle.wt_tiles.specs.Urls.{scheme_len, kept_len, ext_link_at, bare_url_at}
use Rattle.wt_tiles.specs.Tags.{tag_at, opening_tag as tile_opening_tag, closing_tag as tile_closing_tag}
use Rattle.wt_tiles.specs.Tiles.{tag_tile, switch_at, link_or_url, form_at as tile_form_at, closed as tiles_closed, shapes, tiles}
use Rattle.wt_quotes.specs.Toggles.{toggle_at, toggles_of}
use Rattle.wt_quotes.specs.Styles.{style_tree_of}
use Rattle.wt_context.specs.Segments.{loose_segments}
use Rattle.wt_context.specs.Chunks.{chunks}
use Rattle.wt_context.specs.Styled.{with_styles}
use Rattle.wt_context.specs.Nodes.{segments}
use Rattle.wt_context.specs.Line.{context_parts, line_trees}
use Rattle.wt_page.specs.Headings.{heading}
use Rattle.wt_page.specs.Rows.{rows}
use Rattle.wt_page.specs.Tables.{cell_stretches, row_stretches, table_by}
use Rattle.wt_page.specs.Texts.{para}
use Rattle.wt_page.specs.Body.{blocks, meaning}
use Rattle.wt_annotated.specs.Annotated.{annotated}
use Rattle.wt_annotated.specs.GroupData.{group_data}
use Rattle.wt_annotated.specs.Labels.{label_at}
use Rattle.wt_expand.specs.PageItems.{page_items}
use Rattle.wt_text_edit_laws.specs.LonePages.{page_chars}
use Rattle.wt_text_edit_laws.specs.NoCalls.{CallsNothing}
use Rattle.wt_text_edit_laws.specs.Parts.{part_tree}
use Rattle.wt_called_edit_laws.specs.PlacedLines.{all_lines, spots_by}
use Rattle.wt_called_edit_laws.specs.PlacedSpots.{AreShut}
use Rattle.wt_called_edit_laws.specs.ToldLines.{Told, a_paragraph_of, a_heading_on, lined, AreTold, IsToldPage}
use Rattle.wt_called_edit_laws.proofs.Cells.PageCases.{is_free, are_free, free_node}
use Rattle.wt_span.specs.Origins.{Expanded}
use Rattle.wt_tree.specs.Tree.{Tree}
use Rattle.wt_page.specs.Lines.{kind_at}
use Rattle.wt_page.specs.Rows.{is_unseen}
use Rattle.wt_lines.specs.declared.kind.LineKind.TheVariants as line
use Rattle.wt_tables.specs.Extents.{behind}
use Rattle.wt_tables.specs.Parts.{joined}
use Rattle.wt_text_edit_laws.specs.ParagraphBetween.{tables_behind}
use Rattle.wt_text_edit_laws.specs.ReadContents.{BeginsUnclosed}
use Rattle.wt_expand.specs.PageCalls.{expanded_page}
use Rattle.wt_expand.specs.Work.{Pages}
use Rattle.wt_text_edit_laws.specs.PageCuts.{EndsClosed}
use Rattle.wt_text_edit_laws.proofs.Between.NoCalls.{calm_expanded}
use Rattle.wt_called_edit_laws.specs.AllTold.{IsExceptedAt, text_on_a_rule, a_brace_on_an_end, IsExcepted}
use Rattle.wt_called_edit_laws.specs.RowBlocks.{past_end, past_rule}
use Rattle.wt_called_edit_laws.proofs.AllTold.CalmPages.{calm_excepted}
use Rattle.wt_called_edit_laws.proofs.AllTold.SignBlocks.{end_text}

-- ---- an ordinary page: a heading, two paragraphs, with bold and a link in the first, a list, a table with a caption and two cells, and a paragraph on the
-- line of the table's end

abbrev page : List ℕ
page = codes "== a ==\nb '''c''' [[d]]\n\ne\n* f\n{|\n|+ g\n|\nh\n|\ni\n|}j"

abbrev items : List Item
items = page_chars page

abbrev line_of : List ℕ → List Item
line_of bs = page_chars bs

abbrev told : List Told
told =
    a_heading_on [] [] (line_of (codes "== a ==\n"))
    ∷ a_paragraph_of [] [] [] (line_of (codes "b '''c''' [[d]]\n")) []
    ∷ a_paragraph_of (line_of (codes "\n") ∷ []) [] [] (line_of (codes "e\n")) []
    ∷ a_paragraph_of (line_of (codes "* f\n") ∷ line_of (codes "{|\n") ∷ line_of (codes "|+ g\n") ∷ line_of (codes "|\n") ∷ []) [] [] (line_of (codes "h\n")) []
    ∷ a_paragraph_of (line_of (codes "|\n") ∷ []) [] [] (line_of (codes "i\n")) []
    ∷ a_paragraph_of [] (line_of (codes "|}")) [] (line_of (codes "j")) []
    ∷ []

are_items : page_items page ≡ items
unfolding page_items words closed form_at comment_len comment_line_len raw_len opening_tag tag_after closing_tag with_inside is_extension include_at entity_at
    named_entity decimal_entity hex_entity entity_names sign_word
are_items = refl

lines_are : full_lines items ≡ all_lines (map lined told) []
lines_are = refl

told_here : AreTold told []
unfolding kind_of_signs level opening inside closing
told_here = (
  record { sign = tt; unclosed = tt; are_marks = refl; some = omega arith; in_cells = tt; apart = tt; own = record { is_heading = refl; first = refl } },
  (
    tt,
    record { sign = tt; unclosed = tt; are_marks = refl; some = omega arith; in_cells = tt; apart = tt; own = ((refl, tt), refl) },
    (
      refl,
      record { sign = tt; unclosed = tt; are_marks = refl; some = omega arith; in_cells = tt; apart = refl; own = ((refl, tt), refl) },
      (
        refl,
        record { sign = tt; unclosed = tt; are_marks = refl; some = omega arith; in_cells = (refl, tt); apart = refl; own = ((refl, tt), refl) },
        (
          refl,
          record { sign = tt; unclosed = tt; are_marks = refl; some = omega arith; in_cells = (refl, tt); apart = refl; own = ((refl, tt), refl) },
          (
            refl,
            record {
              sign = (
                record {
                  lead = [];
                  bar = char None 124;
                  brace = char None 125;
                  is = refl;
                  idle = tt;
                  is_bar = refl;
                  bar_goes = refl;
                  is_brace = refl;
                  brace_goes = refl;
                },
                omega arith,
              );
              unclosed = refl;
              are_marks = refl;
              some = omega arith;
              in_cells = tt;
              apart = refl;
              own = ((refl, tt), refl);
            },
            tt,
          ),
        ),
      ),
    ),
  ),
)

-- the last of them ends the page
last_closed : EndsClosed (codes "j") []
unfolding page_items words closed form_at comment_len comment_line_len raw_len opening_tag tag_after closing_tag with_inside is_extension include_at entity_at
    named_entity decimal_entity hex_entity entity_names sign_word
last_closed = refl

calm : CallsNothing (page_items page)
calm = subst (λ (xs : List Item). CallsNothing xs) (sym are_items) tt

-- ---- no block of it is excepted

-- of no rule, and what is behind a table's end on its line begins with no `}`
abbrev IsQuiet : ℕ → List Item → Type 0
IsQuiet n l =
    (kind_at n l ≡ line.Rule → is_unseen (past_rule l) ≡ false → ⊥)
    × (kind_at n l ≡ line.TableEnd → is_unseen (past_end l) ≡ false → (others : List (List Item)) → BeginsUnclosed (end_text l others))

abbrev AreQuiet : ℕ → List (List Item) → Type 0
AreQuiet n [] = Unit {0}
AreQuiet n (l ∷ ls) = IsQuiet n l × AreQuiet (behind n (kind_at n l)) ls

quiet_at : (n : ℕ) (before : List (List Item)) (l : List Item) (ls : List (List Item)) → AreQuiet n (before ++ l ∷ ls) → IsQuiet (tables_behind n before) l
quiet_at n [] l ls h = h.0
quiet_at n (k ∷ before) l ls h = quiet_at (behind n (kind_at n k)) before l ls h.1

none_excepted_at : (ls : List (List Item)) (at : ℕ) → AreQuiet 0 ls → IsExceptedAt ls at → ⊥
none_excepted_at ls at h (text_on_a_rule before own after are k seen e) = (quiet_at 0 before own after (subst (AreQuiet 0) are h)).0 k seen
none_excepted_at ls at h (a_brace_on_an_end before own others after are k seen f e) =
    f ((quiet_at 0 before own (others ++ after) (subst (AreQuiet 0) are h)).1 k seen others)

last_unclosed : (others : List (List Item)) → BeginsUnclosed (end_text (line_of (codes "|}j")) others)
last_unclosed others = by (joined others)
  where
    by : (xs : List Item) → BeginsUnclosed (sources (content (line_of (codes "j") ++ xs)))
    by [] = refl
    by (x ∷ xs) = refl

all_quiet : AreQuiet 0 (full_lines items)
unfolding kind_of_signs level opening inside closing single_at bar_at cell_of cells table_attributes row_attributes inner_len
all_quiet = (
  ((λ z u. absurd (cc)), (λ z u others. absurd (cc))),
  (
    ((λ z u. absurd (cc)), (λ z u others. absurd (cc))),
    (
      ((λ z u. absurd (cc)), (λ z u others. absurd (cc))),
      (
        ((λ z u. absurd (cc)), (λ z u others. absurd (cc))),
        (
          ((λ z u. absurd (cc)), (λ z u others. absurd (cc))),
          (
            ((λ z u. absurd (cc)), (λ z u others. absurd (cc))),
            (
              ((λ z u. absurd (cc)), (λ z u others. absurd (cc))),
              (
                ((λ z u. absurd (cc)), (λ z u others. absurd (cc))),
                (
                  ((λ z u. absurd (cc)), (λ z u others. absurd (cc))),
                  (
                    ((λ z u. absurd (cc)), (λ z u others. absurd (cc))),
                    (
                      ((λ z u. absurd (cc)), (λ z u others. absurd (cc))),
                      (
                        ((λ z u. absurd (cc)), (λ z u others. last_unclosed others)),
                        tt,
                      ),
                    ),
                  ),
                ),
              ),
            ),
          ),
        ),
      ),
    ),
  ),
)

none_excepted : (pages : Pages) (t : Tree) → IsExcepted pages page t → ⊥
none_excepted pages t x =
    let r = calm_excepted pages page t calm x in
    let is : (expanded_page pages page).items ≡ items = ap (λ (e : Expanded). e.items) (calm_expanded pages page calm) ∙ are_items in
    none_excepted_at (full_lines (expanded_page pages page).items) _ (subst (λ (xs : List Item). AreQuiet 0 (full_lines xs)) (sym is) all_quiet) r.1

-- ---- a page that ends with a line of comments, of which a line break behind it makes one line break less

abbrev ended : List ℕ
ended = codes "a\n<!--c-->"

abbrev comment : Item
comment = whole form.Comment None (codes "<!--c-->")

ended_items : page_items ended ≡ page_chars (codes "a\n") ++ comment ∷ []
unfolding page_items words closed form_at comment_len comment_line_len raw_len opening_tag tag_after closing_tag with_inside is_extension include_at entity_at
    named_entity decimal_entity hex_entity entity_names sign_word
ended_items = refl

ended_utf8 : IsUtf8 ended
unfolding encode
ended_utf8 = (ended, (refl, refl))

ended_free : is_free (part_tree ended) ≡ true
unfolding is_free are_free page_items words closed form_at comment_len comment_line_len raw_len opening_tag tag_after closing_tag with_inside is_extension include_at
    entity_at named_entity decimal_entity hex_entity entity_names sign_word kind_of_signs annotated group_data label_at meaning rows blocks children para
    heading level opening inside closing line_trees cell_stretches row_stretches table_by single_at bar_at cell_of cells table_attributes row_attributes inner_len
    context_parts segments tiles shapes tiles_closed tile_form_at link_or_url link_at ext_link_at bare_url_at scheme_len kept_len
    tag_tile tag_at tile_opening_tag tile_closing_tag switch_at loose_segments chunks with_styles style_tree_of toggles_of toggle_at
ended_free = refl

abbrev ended_told : List Told
ended_told = a_paragraph_of [] [] [] (page_chars (codes "a\n")) [] ∷ []

ended_here : AreTold ended_told ((comment ∷ []) ∷ [])
unfolding kind_of_signs level opening inside closing
ended_here = (
  record { sign = tt; unclosed = tt; are_marks = refl; some = omega arith; in_cells = tt; apart = tt; own = ((refl, tt), refl) },
  refl,
)

ended_shut : AreShut (spots_by [] (map lined ended_told))
unfolding page_items words closed form_at comment_len comment_line_len raw_len opening_tag tag_after closing_tag with_inside is_extension include_at
    entity_at named_entity decimal_entity hex_entity entity_names sign_word level opening inside closing label_at children
    context_parts segments tiles shapes tiles_closed tile_form_at link_or_url link_at ext_link_at bare_url_at scheme_len kept_len
    tag_tile tag_at tile_opening_tag tile_closing_tag switch_at loose_segments chunks with_styles style_tree_of toggles_of toggle_at
ended_shut = (refl, tt)

ended_lines : full_lines (page_chars (codes "a\n") ++ comment ∷ []) ≡ all_lines (map lined ended_told) ((comment ∷ []) ∷ [])
ended_lines = refl

ended_page : IsToldPage ended ended_told ((comment ∷ []) ∷ [])
ended_page = record {
  utf8 = ended_utf8;
  calls_nothing = subst (λ (xs : List Item). CallsNothing xs) (sym ended_items) tt;
  ungrouped = free_node (part_tree ended) ended_free;
  closed = (tt, tt);
  are = ap full_lines ended_items ∙ ended_lines;
  told = ended_here;
  shut = ended_shut;
}

not_closed : EndsClosed ended [] → ⊥
unfolding page_items words closed form_at comment_len comment_line_len raw_len opening_tag tag_after closing_tag with_inside is_extension include_at entity_at
    named_entity decimal_entity hex_entity entity_names sign_word
not_closed e = absurd (omega (arith, ap length e))
