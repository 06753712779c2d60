-- Worked case: in the paragraph of the lines `x`, `<!--c-->` and `y` the comment is a line of comments, the paragraph is flat, and other letters are typed in both texts.
use Rattle.std.proofs.Common.{◌≡◌, ℕ, zero, suc, None, List, [], ◌∷◌, ◌++◌, map, refl, sym, subst, inl, inr}
use Rattle.std.specs.Prelude.{codes}
use Rattle.std.specs.Str.{IsUtf8, chars}
use Rattle.std.proofs.Math.Utf8.{encode}
use Rattle.std.proofs.lemmas.List.Elements.{All-nil, All-cons}
use Rattle.wt_span.specs.Comments.{comment_len, comment_line_len}
use Rattle.wt_span.specs.Entities.{entity_at, named_entity, entity_names, decimal_entity, hex_entity}
use Rattle.wt_span.specs.declared.form.ItemForm.TheVariants as form
use Rattle.wt_span.specs.Items.{Item, char, whole}
use Rattle.wt_span.specs.Lexemes.{form_at as word_at, sign_word, words, closed as words_closed}
use Rattle.wt_span.specs.Tags.{raw_len, include_at, opening_tag as opening_word, closing_tag as closing_word, tag_after as word_after, with_inside, is_extension}
use Rattle.wt_tree.specs.declared.kind.Kind.TheVariants as kind
use Rattle.wt_tree.specs.declared.kind.Mark.TheVariants as marks
use Rattle.wt_tree.specs.Tree.{Label, Tree, tree, Trees, none, more}
use Rattle.wt_original.specs.Kept.{kept_with}
use Rattle.wt_expand.specs.PageItems.{page_items}
use Rattle.wt_lines.specs.Kinds.{kind_of_signs}
use Rattle.wt_lines.specs.Lines.{lines}
use Rattle.wt_inline.specs.Parts.{children}
use Rattle.wt_tiles.specs.declared.glyph.Glyph.TheVariants as glyph
use Rattle.wt_tiles.specs.Glyphs.{glyph_of}
use Rattle.wt_tiles.specs.Tags.{tag_at, opening_tag, closing_tag, tag_after, name_of, live_name}
use Rattle.wt_tiles.specs.Tiles.{form_at, link_or_url, tag_tile, switch_at, shapes, closed, tiles}
use Rattle.wt_tiles.specs.Links.{link_at}
use Rattle.wt_tiles.specs.Urls.{scheme_len, ext_link_at, bare_url_at}
use Rattle.wt_context.specs.Chunks.{chunks}
use Rattle.wt_context.specs.Line.{context_parts}
use Rattle.wt_context.specs.Nodes.{segments}
use Rattle.wt_context.specs.Segments.{loose_segments}
use Rattle.wt_context.specs.Styled.{with_styles}
use Rattle.wt_quotes.specs.Styles.{style_tree_of}
use Rattle.wt_quotes.specs.Toggles.{toggle_at, toggles_of}
use Rattle.wt_annotated.specs.Labels.{label_at}
use Rattle.wt_link_spelling.specs.Spelling.{children_of}
use Rattle.wt_part_laws.specs.Standing.{standing}
use Rattle.wt_typed_blocks.specs.Edited.{Pieces, no_pieces, gone, written, kept}
use Rattle.wt_text_edit_laws.specs.ParagraphParts.{joined_parts, para_with}
use Rattle.wt_text_edit_laws.specs.Paragraphs.{IsSeenLine}
use Rattle.wt_text_edit_laws.specs.TextBlocks.{a_paragraph, block_tree}
use Rattle.wt_text_edit_laws.specs.NoCalls.{AreUnpaired}
use Rattle.wt_beside_laws.specs.Calm.{IsCalm}
use Rattle.wt_beside_laws.specs.Commented.{IsCommentLine}
use Rattle.wt_beside_laws.specs.FlatBlocks.{IsFlatEditOf, sent_for}
use Rattle.wt_beside_laws.specs.Lines.{IsLineOfText}
use Rattle.wt_beside_laws.specs.NodeItems.{node_items}
use Rattle.wt_beside_laws.specs.Nodes.{OpensNoPair}
use Rattle.wt_beside_laws.specs.Styled.{signs_in}
use Rattle.wt_beside_laws.specs.StyledIn.{IsFlatIn}
use Rattle.wt_beside_laws.proofs.Edits.Cases.{AreFlat}
use Rattle.wt_beside_laws.proofs.Made.Cases.{AreBlockItems, paragraph_by}
use Rattle.wt_beside_laws.proofs.Marks.Shown.{line_node}
use Rattle.wt_beside_laws.proofs.OpenTags.{untagged_closed, closed_keeps}

-- ---- the line of comments

abbrev remark : List ℕ
remark = codes "<!--c-->\n"

remark_line : IsCommentLine remark
unfolding comment_len comment_line_len
remark_line = record {
  first = 60;
  others = codes "!--c-->\n";
  is = refl;
  len = λ rest. refl;
  ends = refl;
  before = codes "<!--c--";
  behind = codes "\n";
  closed = refl;
  untagged = (refl, tt);
}

abbrev remark_item : Item
remark_item = whole form.Comment None remark

-- by itself a comment and a line break, and one item where a line begins
remark_behind : node_items remark ≡ remark_item ∷ []
remark_behind = line_node remark remark_line

remark_alone : page_items remark ≡ whole form.Comment None (codes "<!--c-->") ∷ char None 10 ∷ []
unfolding page_items words words_closed word_at comment_len comment_line_len raw_len include_at opening_word closing_word word_after with_inside is_extension entity_at named_entity entity_names decimal_entity hex_entity sign_word
remark_alone = refl

remark_closed : OpensNoPair (map glyph_of (node_items remark))
remark_closed = subst (λ (xs : List Item). OpensNoPair (map glyph_of xs)) (sym remark_behind) (untagged_closed (glyph.Mark ∷ []) refl)

remark_calm : IsCalm remark
unfolding encode
remark_calm = record { utf8 = (remark, (refl, refl)); unpaired = subst AreUnpaired (sym remark_behind) refl }

-- ---- the paragraph

abbrev own : List ℕ
own = codes "x\n<!--c-->\ny"

abbrev later_line : List Item
later_line = remark_item ∷ char None 121 ∷ []

abbrev own_items : List Item
own_items = char None 120 ∷ char None 10 ∷ later_line

items_are : page_items own ≡ own_items
unfolding page_items words words_closed word_at comment_len comment_line_len raw_len include_at opening_word closing_word word_after with_inside is_extension entity_at named_entity entity_names decimal_entity hex_entity sign_word
items_are = refl

before_break_are : page_items (own ++ 10 ∷ []) ≡ own_items ++ char None 10 ∷ []
unfolding page_items words words_closed word_at comment_len comment_line_len raw_len include_at opening_word closing_word word_after with_inside is_extension entity_at named_entity entity_names decimal_entity hex_entity sign_word
before_break_are = refl

own_flat : AreFlat own own_items
unfolding kind_of_signs context_parts with_styles style_tree_of toggles_of toggle_at chunks segments loose_segments tiles shapes closed form_at link_or_url link_at ext_link_at bare_url_at scheme_len tag_tile tag_at opening_tag closing_tag tag_after name_of live_name switch_at chars encode children
own_flat = record {
  utf8 = (own, (refl, refl));
  some = λ e. absurd (cc);
  calls_nothing = tt;
  text = (refl, All-cons (IsLineOfText 0) (char None 120 ∷ []) (later_line ∷ []) refl (All-cons (IsLineOfText 0) later_line [] refl (All-nil (IsLineOfText 0))));
  flat = ((refl, tt), ((120 ∷ [], (refl, refl)), tt), ((tt, (refl, tt)), (record { alone = remark_behind }, ((121 ∷ [], (refl, refl)), tt)), tt));
  unstyled = (refl, (refl, tt));
  kept = ((inr (inr (inl remark_line)), refl), tt);
  calm = (remark_calm, tt);
  shut = (refl, tt);
  full = (refl, (refl, ((refl, tt, refl), (refl, tt))));
}

own_block : AreBlockItems own_items
unfolding kind_of_signs context_parts with_styles style_tree_of toggles_of toggle_at chunks segments loose_segments tiles shapes closed form_at link_or_url link_at ext_link_at bare_url_at scheme_len tag_tile tag_at opening_tag closing_tag tag_after name_of live_name switch_at chars encode children
own_block = record {
  seen = All-cons IsSeenLine (char None 120 ∷ []) (later_line ∷ []) refl (All-cons IsSeenLine later_line [] refl (All-nil IsSeenLine));
  unled = refl;
  has_items = ((refl, tt), ((refl, tt), ((refl, tt), tt)));
}

with_a_line_of_comments : IsFlatIn a_paragraph own
with_a_line_of_comments = paragraph_by own own_items items_are before_break_are own_flat own_block

-- ---- `a` and `b` are typed in the place of `x` and `y`

abbrev block_by : List Item → Tree
block_by xs = standing 1 [] (para_with (joined_parts (lines xs)))

abbrev block : Tree
block = block_by own_items

abbrev a_label : Label
a_label = record { id = 0; kind = kind.Text; attrs = []; mw = None; shown = []; mark = marks.Nothing; ranges = None; opening = []; closing = []; own = []; origin = None }

abbrev nth : ℕ → Trees → Tree
nth n none = tree a_label none
nth zero (more t us) = t
nth (suc n) (more t us) = nth n us

abbrev edit : Pieces
edit =
    gone (nth 0 (children_of block)) (written a_label (codes "a\n")
    (kept (nth 1 (children_of block)) (nth 1 (children_of block)) (gone (nth 2 (children_of block)) (written a_label (codes "b") no_pieces))))

are_letters : IsUtf8 (codes "a\n") × IsUtf8 (codes "b")
unfolding encode
are_letters = ((codes "a\n", (refl, refl)), (codes "b", (refl, refl)))

edit_of : IsFlatEditOf a_paragraph block edit
unfolding kept_with label_at context_parts with_styles style_tree_of toggles_of toggle_at chunks segments loose_segments tiles shapes closed form_at link_or_url link_at ext_link_at bare_url_at scheme_len tag_tile tag_at opening_tag closing_tag tag_after name_of live_name switch_at chars encode children
edit_of = record {
  old = refl;
  stay = ((record { kind = refl; id = refl; attrs = refl; mw = refl; shown = λ e. refl; unmarked = refl }, tt), tt);
  are = (are_letters.0, (tt, (are_letters.1, tt)));
  fit = tt;
  plain = tt;
  led = record { first = tt; others = ((λ e. refl), tt) };
  unclosed = closed_keeps (signs_in (sent_for block edit)) (remark_closed, tt);
}

typed_round_a_comment : IsFlatEditOf a_paragraph (standing 1 [] (block_tree a_paragraph own)) edit
typed_round_a_comment = subst (λ (xs : List Item). IsFlatEditOf a_paragraph (block_by xs) edit) (sym items_are) edit_of
