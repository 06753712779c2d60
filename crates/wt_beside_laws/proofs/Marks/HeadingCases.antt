-- Worked case: in the heading `== <!--c-->Title ==` the comment is first and stays, and `Titles` is typed behind it.
use Rattle.std.proofs.Common.{◌≡◌, ℕ, zero, suc, None, List, [], ◌∷◌, map, refl, sym, subst}
use Rattle.std.specs.Prelude.{codes}
use Rattle.std.specs.Str.{IsUtf8, chars}
use Rattle.std.proofs.Math.Utf8.{encode}
use Rattle.wt_span.specs.Comments.{comment_len, comment_line_len}
use Rattle.wt_span.specs.Entities.{entity_at, named_entity, entity_names, decimal_entity, hex_entity}
use Rattle.wt_span.specs.declared.form.ItemForm.TheVariants as form
use Rattle.wt_span.specs.Items.{Item, whole}
use Rattle.wt_span.specs.Lexemes.{form_at as word_at, sign_word, words, closed as words_closed}
use Rattle.wt_span.specs.Tags.{raw_len, include_at, opening_tag as opening_word, closing_tag as closing_word, tag_after as word_after, with_inside, is_extension}
use Rattle.wt_tree.specs.declared.kind.Kind.TheVariants as kind
use Rattle.wt_tree.specs.declared.kind.Mark.TheVariants as marks
use Rattle.wt_tree.specs.Tree.{Label, Tree, tree, Trees, none, more}
use Rattle.wt_original.specs.Kept.{kept_with}
use Rattle.wt_expand.specs.PageItems.{page_items}
use Rattle.wt_inline.specs.Parts.{children}
use Rattle.wt_tiles.specs.declared.glyph.Glyph.TheVariants as glyph
use Rattle.wt_tiles.specs.Glyphs.{glyph_of}
use Rattle.wt_tiles.specs.Tags.{tag_at, opening_tag, closing_tag, tag_after, name_of, live_name}
use Rattle.wt_tiles.specs.Tiles.{form_at, link_or_url, tag_tile, switch_at, shapes, closed, tiles}
use Rattle.wt_tiles.specs.Links.{link_at}
use Rattle.wt_tiles.specs.Urls.{scheme_len, ext_link_at, bare_url_at}
use Rattle.wt_context.specs.Chunks.{chunks}
use Rattle.wt_context.specs.Line.{context_parts}
use Rattle.wt_context.specs.Nodes.{segments}
use Rattle.wt_context.specs.Segments.{loose_segments}
use Rattle.wt_context.specs.Styled.{with_styles}
use Rattle.wt_quotes.specs.Styles.{style_tree_of}
use Rattle.wt_quotes.specs.Toggles.{toggle_at, toggles_of}
use Rattle.wt_annotated.specs.Labels.{label_at}
use Rattle.wt_link_spelling.specs.Spelling.{children_of}
use Rattle.wt_part_laws.specs.Standing.{standing}
use Rattle.wt_typed_blocks.specs.Edited.{Pieces, no_pieces, gone, written, kept}
use Rattle.wt_text_edit_laws.specs.LonePages.{page_chars}
use Rattle.wt_text_edit_laws.specs.TextBlocks.{a_heading, block_tree}
use Rattle.wt_text_edit_laws.specs.TypedHeadings.{spaced, heading_round}
use Rattle.wt_beside_laws.specs.FlatBlocks.{IsFlatEditOf, sent_for}
use Rattle.wt_beside_laws.specs.NodeItems.{node_items}
use Rattle.wt_beside_laws.specs.Nodes.{OpensNoPair}
use Rattle.wt_beside_laws.specs.Styled.{signs_in}
use Rattle.wt_beside_laws.proofs.OpenTags.{untagged_closed, closed_keeps}

abbrev own : List ℕ
own = codes "<!--c-->Title"

abbrev remark : List ℕ
remark = codes "<!--c-->"

abbrev own_items : List Item
own_items = whole form.Comment None remark ∷ page_chars (codes "Title")

items_are : page_items own ≡ own_items
unfolding page_items words words_closed word_at comment_len comment_line_len raw_len include_at opening_word closing_word word_after with_inside is_extension entity_at named_entity entity_names decimal_entity hex_entity sign_word
items_are = refl

remark_alone : node_items remark ≡ whole form.Comment None remark ∷ []
unfolding node_items page_items words words_closed word_at comment_len comment_line_len raw_len include_at opening_word closing_word word_after with_inside is_extension entity_at named_entity entity_names decimal_entity hex_entity sign_word
remark_alone = refl

remark_closed : OpensNoPair (map glyph_of (node_items remark))
remark_closed = subst (λ (xs : List Item). OpensNoPair (map glyph_of xs)) (sym remark_alone) (untagged_closed (glyph.Mark ∷ []) refl)

-- ---- what is typed

abbrev block_by : List Item → Tree
block_by xs = standing 1 [] (heading_round (spaced 2) xs)

abbrev block : Tree
block = block_by own_items

abbrev a_label : Label
a_label = record { id = 0; kind = kind.Text; attrs = []; mw = None; shown = []; mark = marks.Nothing; ranges = None; opening = []; closing = []; own = []; origin = None }

abbrev nth : ℕ → Trees → Tree
nth n none = tree a_label none
nth zero (more t us) = t
nth (suc n) (more t us) = nth n us

abbrev edit : Pieces
edit =
    kept (nth 0 (children_of block)) (nth 0 (children_of block))
    (gone (nth 1 (children_of block)) (written a_label (codes "Titles") no_pieces))

are_letters : IsUtf8 (codes "Titles")
unfolding encode
are_letters = (codes "Titles", (refl, refl))

edit_of : IsFlatEditOf (a_heading (spaced 2)) block edit
unfolding kept_with label_at context_parts with_styles style_tree_of toggles_of toggle_at chunks segments loose_segments tiles shapes closed form_at link_or_url link_at ext_link_at bare_url_at scheme_len tag_tile tag_at opening_tag closing_tag tag_after name_of live_name switch_at chars encode children
edit_of = record {
  old = refl;
  stay = ((record { kind = refl; id = refl; attrs = refl; mw = refl; shown = λ e. refl; unmarked = refl }, tt), tt);
  are = (tt, (are_letters, tt));
  fit = (refl, tt);
  plain = tt;
  led = record { first = refl; others = ((λ e. refl), tt) };
  unclosed = closed_keeps (signs_in (sent_for block edit)) (remark_closed, tt);
}

typed_behind_a_first_comment : IsFlatEditOf (a_heading (spaced 2)) (standing 1 [] (block_tree (a_heading (spaced 2)) own)) edit
typed_behind_a_first_comment = subst (λ (xs : List Item). IsFlatEditOf (a_heading (spaced 2)) (block_by xs) edit) (sym items_are) edit_of
