-- Worked case: in the paragraph `''x''<br>y` other letters are typed in the italic node, which stays, as the line break does, and `y` is made bold.
use Rattle.std.proofs.Common.{ℕ, zero, suc, true, false, List, [], map, refl, sym, subst, inl, inr}
use Rattle.std.specs.Prelude.{None, codes}
use Rattle.std.specs.Str.{IsUtf8, chars}
use Rattle.std.proofs.Math.Utf8.{encode}
use Rattle.wt_span.specs.Items.{Item}
use Rattle.wt_tree.specs.declared.kind.Kind.TheVariants as kind
use Rattle.wt_tree.specs.declared.kind.Mark.TheVariants as marks
use Rattle.wt_tree.specs.Tree.{Label, Tree, tree, Trees, none, more, label}
use Rattle.wt_original.specs.Kept.{kept_with}
use Rattle.wt_lines.specs.Lines.{lines}
use Rattle.wt_inline.specs.Parts.{children}
use Rattle.wt_tiles.specs.Glyphs.{glyph_of, byte_glyphs}
use Rattle.wt_tiles.specs.Tags.{tag_at, opening_tag, closing_tag, tag_after, name_of, live_name}
use Rattle.wt_tiles.specs.Tiles.{form_at, link_or_url, tag_tile, switch_at, shapes, closed, tiles}
use Rattle.wt_tiles.specs.Links.{link_at}
use Rattle.wt_tiles.specs.Urls.{scheme_len, ext_link_at, bare_url_at}
use Rattle.wt_context.specs.Chunks.{chunks}
use Rattle.wt_context.specs.Line.{context_parts}
use Rattle.wt_context.specs.Nodes.{segments}
use Rattle.wt_context.specs.Segments.{loose_segments}
use Rattle.wt_context.specs.Styled.{with_styles}
use Rattle.wt_quotes.specs.Styles.{style_tree_of}
use Rattle.wt_quotes.specs.Runs.{place_of}
use Rattle.wt_quotes.specs.Toggles.{toggle_at, toggles_of}
use Rattle.wt_quotes.specs.Turns.{since, next, bold_ends_later, effect_on, is_bold_outside_at, turn_at}
use Rattle.wt_annotated.specs.Labels.{label_at}
use Rattle.wt_link_spelling.specs.Spelling.{children_of}
use Rattle.wt_part_laws.specs.Standing.{standing}
use Rattle.wt_typed_blocks.specs.Edited.{Pieces, no_pieces, gone, written, kept, around, new_style}
use Rattle.wt_text_edit_laws.specs.LonePages.{page_chars}
use Rattle.wt_text_edit_laws.specs.ParagraphParts.{joined_parts, para_with}
use Rattle.wt_text_edit_laws.specs.TextBlocks.{a_paragraph, block_tree}
use Rattle.wt_beside_laws.specs.FlatBlocks.{sent_for}
use Rattle.wt_beside_laws.specs.NodeItems.{node_items}
use Rattle.wt_beside_laws.specs.Nodes.{OpensNoPair}
use Rattle.wt_beside_laws.specs.Styled.{signs_in}
use Rattle.wt_beside_laws.specs.StyledIn.{IsStyledEditOf}
use Rattle.wt_beside_laws.proofs.Edits.Cases.{break_node}
use Rattle.wt_beside_laws.proofs.OpenTags.{closed_keeps}
use Rattle.wt_beside_laws.proofs.Styled.StyledNodes.{mark_closed}
use Rattle.wt_beside_laws.proofs.Styled.InCases.{own, items_are}

-- the block, by the items of its lines
abbrev block_by : List Item → Tree
block_by xs = standing 1 [] (para_with (joined_parts (lines xs)))

abbrev block : Tree
block = block_by (page_chars own)

-- its nodes
abbrev a_label : Label
a_label = record { id = 0; kind = kind.Text; attrs = []; mw = None; shown = []; mark = marks.Nothing; ranges = None; opening = []; closing = []; own = []; origin = None }

abbrev nth : ℕ → Trees → Tree
nth n none = tree a_label none
nth zero (more t us) = t
nth (suc n) (more t us) = nth n us

abbrev italic_node : Tree
italic_node = nth 0 (children_of block)

-- `a` in the place of `x`, and `y` in bold
abbrev edit : Pieces
edit =
    around (label italic_node) (label italic_node) (gone (nth 0 (children_of italic_node)) (written a_label (codes "a") no_pieces))
    (kept (nth 1 (children_of block)) (nth 1 (children_of block))
    (gone (nth 2 (children_of block)) (new_style (record a_label { kind = kind.Bold }) (written a_label (codes "y") no_pieces) no_pieces)))

are_letters : IsUtf8 (codes "a") × IsUtf8 (codes "y")
unfolding encode
are_letters = ((codes "a", (refl, refl)), (codes "y", (refl, refl)))

-- no node is a tag that opens a pair
own_closed : OpensNoPair (byte_glyphs (codes "<br>"))
unfolding tag_at opening_tag closing_tag tag_after name_of live_name
own_closed = λ e. tt

break_closed : OpensNoPair (map glyph_of (node_items (codes "<br>")))
break_closed = subst (λ (xs : List Item). OpensNoPair (map glyph_of xs)) (sym break_node) own_closed

edit_of : IsStyledEditOf a_paragraph block edit
unfolding kept_with label_at context_parts with_styles style_tree_of toggles_of toggle_at chunks segments loose_segments tiles shapes closed form_at link_or_url link_at ext_link_at bare_url_at scheme_len tag_tile tag_at opening_tag closing_tag tag_after name_of live_name switch_at chars encode children place_of since next bold_ends_later effect_on is_bold_outside_at turn_at
edit_of = record {
  old = refl;
  stay = (
    inr refl,
    record { kind = refl; id = refl; attrs = refl; mw = refl; shown = λ e. refl; unmarked = refl },
    tt,
    ((record { kind = refl; id = refl; attrs = refl; mw = refl; shown = λ e. refl; unmarked = refl }, tt), (inl refl, tt, tt)),
  );
  are = ((are_letters.0, tt), (tt, ((are_letters.1, tt), tt)));
  led = record { first = λ e. absurd (cc); others = ((λ e. absurd (cc)), ((λ e. absurd (cc)), ((λ e. absurd (cc)), ((λ e. absurd (cc)), ((λ e. absurd (cc)), tt))))) };
  unclosed = closed_keeps (signs_in (sent_for block edit)) (mark_closed false, (mark_closed false, (break_closed, (mark_closed true, (mark_closed true, tt)))));
  fit = tt;
  new = (((λ e. refl), tt), (refl, refl, ((λ e. refl), tt), tt));
}

-- so it is of the page's block
typed_in_italic_and_made_bold : IsStyledEditOf a_paragraph (standing 1 [] (block_tree a_paragraph own)) edit
typed_in_italic_and_made_bold = subst (λ (xs : List Item). IsStyledEditOf a_paragraph (block_by xs) edit) (sym items_are) edit_of
