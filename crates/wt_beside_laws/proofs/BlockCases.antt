-- Worked cases: lines with and without a style, and a paragraph of the page by its line.
use Rattle.std.proofs.Common.{◌≡◌, true, [], ◌∷◌, refl, arith}
use Rattle.std.specs.Prelude.{codes}
use Rattle.std.specs.Str.{chars}
use Rattle.wt_tree.specs.declared.kind.Kind.TheVariants as kind
use Rattle.wt_tree.specs.Tree.{tree, none}
use Rattle.wt_inline.specs.Parts.{children}
use Rattle.wt_tiles.specs.Contexts.{in_line}
use Rattle.wt_tiles.specs.Links.{link_at}
use Rattle.wt_tiles.specs.Tags.{tag_at, opening_tag, closing_tag}
use Rattle.wt_tiles.specs.Tiles.{form_at, link_or_url, tag_tile, switch_at, shapes, closed, tiles}
use Rattle.wt_tiles.specs.Urls.{scheme_len, ext_link_at, bare_url_at}
use Rattle.wt_context.specs.Chunks.{chunks}
use Rattle.wt_context.specs.Line.{context_parts}
use Rattle.wt_context.specs.Nodes.{segments}
use Rattle.wt_context.specs.RunCuts.{has_run}
use Rattle.wt_context.specs.Segments.{loose_segments}
use Rattle.wt_context.specs.Styled.{with_styles}
use Rattle.wt_annotated.specs.Labels.{label_at}
use Rattle.wt_quotes.specs.Styles.{style_tree_of}
use Rattle.wt_quotes.specs.Toggles.{toggle_at, toggles_of}
use Rattle.wt_text_edit_laws.specs.LonePages.{page_chars, whole_label, whole_node}
use Rattle.wt_typed_blocks.specs.Sent.{paragraph}
use Rattle.wt_beside_laws.specs.PageBlocks.{AreUnstyled, IsBlockOfLines}

-- one apostrophe is a character
one_apostrophe : AreUnstyled (page_chars (codes "a'b") ∷ [])
unfolding segments loose_segments tiles shapes closed form_at link_or_url link_at ext_link_at bare_url_at scheme_len tag_tile tag_at opening_tag closing_tag switch_at
one_apostrophe = (refl, tt)

-- two begin a style
two_apostrophes : has_run (segments context_parts in_line (page_chars (codes "a''b"))) ≡ true
unfolding segments loose_segments tiles shapes closed form_at link_or_url link_at ext_link_at bare_url_at scheme_len tag_tile tag_at opening_tag closing_tag switch_at
two_apostrophes = refl

-- the paragraph of the page `ab`
lone_block : IsBlockOfLines (page_chars (codes "ab") ∷ []) (whole_node kind.Para 1 2 (tree (whole_label kind.Text 0 2 (codes "ab")) none))
unfolding label_at children context_parts with_styles style_tree_of toggles_of toggle_at chunks segments loose_segments tiles shapes closed form_at link_or_url link_at ext_link_at bare_url_at scheme_len tag_tile tag_at opening_tag closing_tag switch_at chars
lone_block = record {
  number = 1;
  before = [];
  form = paragraph;
  opening = [];
  closing = [];
  some = omega arith;
  is = refl;
  ungrouped = (refl, ((refl, tt), tt));
  marks = tt;
}
