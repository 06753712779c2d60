-- Worked cases of the definitions, each computed: the nodes of a page in preorder, with their numbers and ranges.
use Rattle.std.proofs.Common.{◌≡◌, ℕ, List, [], ◌∷◌, ◌++◌, Option, Some, None, map, refl}
use Rattle.std.specs.Prelude.{codes}
use Rattle.wt_tree.specs.declared.kind.Kind.{Kind}
use Rattle.wt_tree.specs.declared.kind.Kind.TheVariants as kind
use Rattle.wt_tree.specs.declared.kind.Ranges.{Ranges}
use Rattle.wt_tree.specs.Look.{rows}
use Rattle.wt_span.specs.declared.form.ItemForm.TheVariants as form
use Rattle.wt_span.specs.Tags.{opening_tag, closing_tag, tag_after}
use Rattle.wt_span.specs.Entities.{entity_at, named_entity, entity_names, decimal_entity, hex_entity}
use Rattle.wt_span.specs.Items.{Item, char, whole}
use Rattle.wt_lines.specs.Kinds.{kind_of_signs}
use Rattle.wt_inline.specs.Parts.{children, nowiki}
use Rattle.wt_tiles.specs.Links.{link_at}
use Rattle.wt_tiles.specs.Urls.{scheme_len, kept_len, ext_link_at, bare_url_at}
use Rattle.wt_tiles.specs.Tags.{tag_at, opening_tag as tile_opening_tag, closing_tag as tile_closing_tag}
use Rattle.wt_tiles.specs.Tiles.{tag_tile, switch_at, link_or_url, form_at, closed, shapes, tiles}
use Rattle.wt_quotes.specs.Toggles.{toggle_at, toggles_of}
use Rattle.wt_quotes.specs.Runs.{place_of}
use Rattle.wt_quotes.specs.Turns.{since, next, bold_ends_later, effect_on, is_bold_outside_at, turn_at}
use Rattle.wt_quotes.specs.Styles.{style_tree_of}
use Rattle.wt_context.specs.Segments.{loose_segments}
use Rattle.wt_context.specs.Chunks.{chunks}
use Rattle.wt_context.specs.Styled.{with_styles}
use Rattle.wt_context.specs.Nodes.{segments}
use Rattle.wt_context.specs.Line.{context_parts, line_trees}
use Rattle.wt_blocks.specs.Headings.{level, opening, inside, closing}
use Rattle.wt_page.specs.Headings.{heading}
use Rattle.wt_page.specs.Texts.{para}
use Rattle.wt_page.specs.Rows.{rows as rows_of}
use Rattle.wt_page.specs.Body.{blocks, meaning}
use Rattle.wt_annotated.specs.Labels.{label_at}
use Rattle.wt_annotated.specs.WithoutCalls.{annotated}

abbrev page : List ℕ → List Item
page bs = map (char None) bs

abbrev Line : Type 0
Line = ℕ × Kind × Option Ranges

abbrev line : ℕ → Kind → ℕ → ℕ → ℕ → ℕ → Line
line id k s e o c = (id, k, Some (record { start = s; end = e; open_w = o; close_w = c }))

comment_line : rows (annotated (meaning (page (codes "a\n") ++ (whole form.Comment None (codes "<!-- c -->\n") ∷ page (codes "b")))))
    ≡ line 0 kind.Body 0 14 0 0 ∷ line 1 kind.Para 0 14 0 0 ∷ line 0 kind.Text 0 2 0 0 ∷ line 2 kind.Comment 2 13 11 0 ∷ line 0 kind.Text 13 14 0 0 ∷ []
unfolding annotated label_at meaning rows_of blocks kind_of_signs children para heading level opening inside closing nowiki
    line_trees context_parts segments tiles shapes closed form_at link_or_url link_at ext_link_at bare_url_at scheme_len kept_len
    tag_tile tag_at tile_opening_tag tile_closing_tag switch_at loose_segments chunks with_styles style_tree_of toggles_of toggle_at
comment_line = refl

five_signs : rows (annotated (meaning (page (codes "====="))))
    ≡ line 0 kind.Body 0 5 0 0 ∷ line 1 (kind.Heading 2) 0 5 2 2 ∷ line 0 kind.Text 2 3 0 0 ∷ []
unfolding annotated label_at meaning rows_of blocks kind_of_signs children para heading level opening inside closing nowiki
    line_trees context_parts segments tiles shapes closed form_at link_or_url link_at ext_link_at bare_url_at scheme_len kept_len
    tag_tile tag_at tile_opening_tag tile_closing_tag switch_at loose_segments chunks with_styles style_tree_of toggles_of toggle_at
five_signs = refl

uneven : rows (annotated (meaning (page (codes "=== x =="))))
    ≡ line 0 kind.Body 0 8 0 0 ∷ line 1 (kind.Heading 2) 0 8 2 3 ∷ line 0 kind.Text 2 5 0 0 ∷ []
unfolding annotated label_at meaning rows_of blocks kind_of_signs children para heading level opening inside closing nowiki
    line_trees context_parts segments tiles shapes closed form_at link_or_url link_at ext_link_at bare_url_at scheme_len kept_len
    tag_tile tag_at tile_opening_tag tile_closing_tag switch_at loose_segments chunks with_styles style_tree_of toggles_of toggle_at
uneven = refl

parted_sign : rows (annotated (meaning (page (codes "=") ++ (whole form.Comment None (codes "<!-- -->") ∷ page (codes "=")))))
    ≡ line 0 kind.Body 0 10 0 0 ∷ line 1 (kind.Heading 1) 0 10 1 1 ∷ line 2 kind.Comment 1 9 8 0 ∷ []
unfolding annotated label_at meaning rows_of blocks kind_of_signs children para heading level opening inside closing nowiki
    line_trees context_parts segments tiles shapes closed form_at link_or_url link_at ext_link_at bare_url_at scheme_len kept_len
    tag_tile tag_at tile_opening_tag tile_closing_tag switch_at loose_segments chunks with_styles style_tree_of toggles_of toggle_at
parted_sign = refl

raw : rows (annotated (meaning (whole (form.Entity 60) None (codes "&lt;") ∷ whole form.Nowiki None (codes "<nowiki>''x''</nowiki>") ∷ [])))
    ≡ line 0 kind.Body 0 26 0 0 ∷ line 1 kind.Para 0 26 0 0 ∷ line 2 kind.Entity 0 4 4 0 ∷ line 3 kind.Nowiki 4 26 8 9 ∷ line 0 kind.Text 12 17 0 0 ∷ []
unfolding annotated label_at meaning rows_of blocks kind_of_signs children para heading level opening inside closing
    line_trees context_parts segments tiles shapes closed form_at link_or_url link_at ext_link_at bare_url_at scheme_len kept_len
    tag_tile tag_at tile_opening_tag tile_closing_tag switch_at loose_segments chunks with_styles style_tree_of toggles_of toggle_at
    nowiki opening_tag closing_tag tag_after entity_at named_entity entity_names decimal_entity hex_entity
raw = refl

raw_alone : rows (annotated (meaning (whole form.Nowiki None (codes "<nowiki/>") ∷ [])))
    ≡ line 0 kind.Body 0 9 0 0 ∷ line 1 kind.Para 0 9 0 0 ∷ line 2 kind.Nowiki 0 9 9 0 ∷ []
unfolding annotated label_at meaning rows_of blocks kind_of_signs children para heading level opening inside closing
    line_trees context_parts segments tiles shapes closed form_at link_or_url link_at ext_link_at bare_url_at scheme_len kept_len
    tag_tile tag_at tile_opening_tag tile_closing_tag switch_at loose_segments chunks with_styles style_tree_of toggles_of toggle_at
    nowiki opening_tag closing_tag tag_after entity_at named_entity entity_names decimal_entity hex_entity
raw_alone = refl

raw_entity : rows (annotated (meaning (whole form.Nowiki None (codes "<nowiki>a&lt;b</nowiki>") ∷ [])))
    ≡ line 0 kind.Body 0 23 0 0 ∷ line 1 kind.Para 0 23 0 0 ∷ line 2 kind.Nowiki 0 23 8 9 ∷ line 0 kind.Text 8 9 0 0
    ∷ line 3 kind.Entity 9 13 4 0 ∷ line 0 kind.Text 13 14 0 0 ∷ []
unfolding annotated label_at meaning rows_of blocks kind_of_signs children para heading level opening inside closing
    line_trees context_parts segments tiles shapes closed form_at link_or_url link_at ext_link_at bare_url_at scheme_len kept_len
    tag_tile tag_at tile_opening_tag tile_closing_tag switch_at loose_segments chunks with_styles style_tree_of toggles_of toggle_at
    nowiki opening_tag closing_tag tag_after entity_at named_entity entity_names decimal_entity hex_entity
raw_entity = refl

included : rows (annotated (meaning (whole form.Include None (codes "<noinclude>")
    ∷ (page (codes "a") ++ (whole form.Include None (codes "</noinclude>")
    ∷ whole form.Hidden None (codes "<includeonly>b</includeonly>") ∷ [])))))
    ≡ line 0 kind.Body 0 52 0 0 ∷ line 1 kind.Include 0 11 11 0 ∷ line 2 kind.Para 11 52 0 0 ∷ line 0 kind.Text 11 12 0 0
    ∷ line 3 kind.Include 12 24 12 0 ∷ line 4 kind.Include 24 52 28 0 ∷ []
unfolding annotated label_at meaning rows_of blocks kind_of_signs children para heading level opening inside closing nowiki
    line_trees context_parts segments tiles shapes closed form_at link_or_url link_at ext_link_at bare_url_at scheme_len kept_len
    tag_tile tag_at tile_opening_tag tile_closing_tag switch_at loose_segments chunks with_styles style_tree_of toggles_of toggle_at
included = refl

-- two line breaks are one separator; one of a call and those of the page are three
separators : rows (annotated (meaning (page (codes "a\n\n== b ==\n") ++ (char (Some 0) 10 ∷ page (codes "\nc")))))
    ≡ line 0 kind.Body 0 14 0 0
    ∷ line 1 kind.Para 0 1 0 0 ∷ line 0 kind.Text 0 1 0 0
    ∷ line 0 kind.Sep 1 3 0 0
    ∷ line 2 (kind.Heading 2) 3 10 3 3 ∷ line 0 kind.Text 6 7 0 0
    ∷ line 0 kind.Sep 10 11 0 0 ∷ line 0 kind.Sep 11 12 0 0 ∷ line 0 kind.Sep 12 13 0 0
    ∷ line 3 kind.Para 13 14 0 0 ∷ line 0 kind.Text 13 14 0 0 ∷ []
unfolding annotated label_at meaning rows_of blocks kind_of_signs children para heading level opening inside closing nowiki
    line_trees context_parts segments tiles shapes closed form_at link_or_url link_at ext_link_at bare_url_at scheme_len kept_len
    tag_tile tag_at tile_opening_tag tile_closing_tag switch_at loose_segments chunks with_styles style_tree_of toggles_of toggle_at
separators = refl

-- an extension's island, and what it carries
extension : rows (annotated (meaning (whole form.Extension None (codes "<REF>y</Ref>") ∷ [])))
    ≡ line 0 kind.Body 0 12 0 0 ∷ line 1 kind.Para 0 12 0 0 ∷ line 2 kind.Island 0 12 12 0 ∷ []
unfolding annotated label_at meaning rows_of blocks kind_of_signs children para heading level opening inside closing nowiki
    line_trees context_parts segments tiles shapes closed form_at link_or_url link_at ext_link_at bare_url_at scheme_len kept_len
    tag_tile tag_at tile_opening_tag tile_closing_tag switch_at loose_segments chunks with_styles style_tree_of toggles_of toggle_at
extension = refl

-- a bold style that was opened inside an italic one goes on behind it, and holds nothing there
empty_style : rows (annotated (meaning (page (codes "''a'''b''"))))
    ≡ line 0 kind.Body 0 9 0 0 ∷ line 1 kind.Para 0 9 0 0 ∷ line 2 kind.Italic 0 9 2 2 ∷ line 0 kind.Text 2 3 0 0
    ∷ line 3 kind.Bold 3 7 3 0 ∷ line 0 kind.Text 6 7 0 0 ∷ line 4 kind.Bold 9 9 0 0 ∷ []
unfolding annotated label_at meaning rows_of blocks kind_of_signs children para heading level opening inside closing nowiki
    line_trees context_parts segments tiles shapes closed form_at link_or_url link_at ext_link_at bare_url_at scheme_len kept_len
    tag_tile tag_at tile_opening_tag tile_closing_tag switch_at loose_segments chunks with_styles style_tree_of toggles_of toggle_at
    place_of since next bold_ends_later effect_on is_bold_outside_at turn_at
empty_style = refl

-- three apostrophes alone are a bold style up to the end of the line
lone_run : rows (annotated (meaning (page (codes "'''\nb"))))
    ≡ line 0 kind.Body 0 5 0 0 ∷ line 1 kind.Para 0 5 0 0 ∷ line 2 kind.Bold 0 3 3 0 ∷ line 0 kind.Text 3 5 0 0 ∷ []
unfolding annotated label_at meaning rows_of blocks kind_of_signs children para heading level opening inside closing nowiki
    line_trees context_parts segments tiles shapes closed form_at link_or_url link_at ext_link_at bare_url_at scheme_len kept_len
    tag_tile tag_at tile_opening_tag tile_closing_tag switch_at loose_segments chunks with_styles style_tree_of toggles_of toggle_at
    place_of since next bold_ends_later effect_on is_bold_outside_at turn_at
lone_run = refl

-- the empty page
empty : rows (annotated (meaning [])) ≡ line 0 kind.Body 0 0 0 0 ∷ []
unfolding annotated label_at meaning rows_of blocks kind_of_signs children para heading level opening inside closing nowiki
    line_trees context_parts segments tiles shapes closed form_at link_or_url link_at ext_link_at bare_url_at scheme_len kept_len
    tag_tile tag_at tile_opening_tag tile_closing_tag switch_at loose_segments chunks with_styles style_tree_of toggles_of toggle_at
empty = refl
