-- Worked case: the page `x<br>y` is a flat page.
use Rattle.std.proofs.Common.{◌≡◌, ℕ, List, [], ◌∷◌, refl, sym, ◌∙◌, subst, inl}
use Rattle.std.specs.Prelude.{codes}
use Rattle.std.specs.Str.{IsUtf8, chars}
use Rattle.std.proofs.Math.Utf8.{encode}
use Rattle.std.proofs.lemmas.List.Elements.{All-nil, All-cons}
use Rattle.wt_span.specs.Comments.{comment_len}
use Rattle.wt_span.specs.Entities.{entity_at, named_entity, entity_names, decimal_entity, hex_entity}
use Rattle.wt_span.specs.Items.{Item}
use Rattle.wt_span.specs.Lexemes.{form_at as word_at, sign_word}
use Rattle.wt_span.specs.Tags.{raw_len, include_at, opening_tag as opening_word, closing_tag as closing_word, tag_after as word_after, with_inside, is_extension}
use Rattle.wt_tree.specs.Tiling.{HasNoGroup}
use Rattle.wt_expand.specs.PageItems.{page_items}
use Rattle.wt_lines.specs.Kinds.{kind_of_signs}
use Rattle.wt_lines.specs.Lines.{lines}
use Rattle.wt_tiles.specs.Tags.{tag_at, opening_tag, closing_tag, tag_after, name_of, live_name}
use Rattle.wt_tiles.specs.Tiles.{form_at, link_or_url, tag_tile, switch_at, shapes, closed, tiles}
use Rattle.wt_tiles.specs.Links.{link_at}
use Rattle.wt_tiles.specs.Urls.{scheme_len, ext_link_at, bare_url_at}
use Rattle.wt_context.specs.Chunks.{chunks}
use Rattle.wt_context.specs.Line.{context_parts}
use Rattle.wt_context.specs.Nodes.{segments}
use Rattle.wt_context.specs.Segments.{loose_segments}
use Rattle.wt_context.specs.Styled.{with_styles}
use Rattle.wt_quotes.specs.Styles.{style_tree_of}
use Rattle.wt_quotes.specs.Toggles.{toggle_at, toggles_of}
use Rattle.wt_page.specs.Body.{meaning}
use Rattle.wt_text_edit_laws.specs.LonePages.{page_chars}
use Rattle.wt_text_edit_laws.specs.NoCalls.{CallsNothing, AreUnpaired}
use Rattle.wt_text_edit_laws.specs.Parts.{HasNoGroups}
use Rattle.wt_text_edit_laws.specs.ParagraphBetween.{body_with}
use Rattle.wt_text_edit_laws.proofs.Between.NoCalls.{calm_expanded, calm_unrefused}
use Rattle.wt_beside_laws.specs.Calm.{IsCalm, AreCalm}
use Rattle.wt_beside_laws.specs.Content.{AreKept}
use Rattle.wt_beside_laws.specs.Kept.{characters, sign, IsKept}
use Rattle.wt_beside_laws.specs.Lines.{IsLineOfText, AreLinesOfText}
use Rattle.wt_beside_laws.specs.PageBlocks.{AreUnstyled, AreShut}
use Rattle.wt_text_edit_laws.specs.ParagraphParts.{joined_parts}
use Rattle.wt_beside_laws.specs.PageSigns.{signs_of_lines, AreFlatLines, HasNoBreak}
use Rattle.wt_beside_laws.proofs.Firm.{alone_as, parts_read}
use Rattle.wt_beside_laws.proofs.FlatLines.{lines_meaning}
use Rattle.wt_beside_laws.specs.FlatPages.{lines_of, paragraph_of, IsFlatPage}
use Rattle.wt_beside_laws.proofs.Edits.OldPages.{IsOneBlock, one_tree, one_ungrouped}
use Rattle.wt_beside_laws.proofs.Edits.FullTrees.{AreFullParts, para_plain}
use Rattle.wt_beside_laws.proofs.Edits.NewPages.{means_source}
use Rattle.wt_beside_laws.specs.Commented.{IsHeld}
use Rattle.wt_beside_laws.specs.NodeItems.{node_items}
use Rattle.wt_beside_laws.proofs.Marks.Shown.{kept_node}

-- ---- a page whose nodes are full has no groups

none_grouped : (q : List ℕ) → IsUtf8 q → CallsNothing (page_items q) → AreLinesOfText 0 (lines_of q) → AreFullParts (joined_parts (lines_of q)) → (q ≡ [] → ⊥)
    → HasNoGroups q
none_grouped q u calm text full some =
    let means : meaning (page_items q) ≡ body_with (paragraph_of q ∷ []) = lines_meaning q text in
    let one : IsOneBlock q (paragraph_of q) = record {
      utf8 = u;
      expanded = λ pages. calm_expanded pages q calm;
      unrefused = λ pages. calm_unrefused pages q calm;
      means = means;
      plain = para_plain (joined_parts (lines_of q)) q full (means_source q (paragraph_of q) means) some;
    } in
    subst HasNoGroup (sym (one_tree q (paragraph_of q) one)) (refl, one_ungrouped q (paragraph_of q) one)

-- what its items have to be
pub record AreFlat (q : List ℕ) (xs : List Item) : Type 0 where
  pub utf8 : IsUtf8 q
  pub some : q ≡ [] → ⊥
  pub calls_nothing : CallsNothing xs
  pub text : AreLinesOfText 0 (lines xs)
  pub flat : AreFlatLines (lines xs)
  pub unstyled : AreUnstyled (lines xs)
  pub kept : AreKept (signs_of_lines 0 (lines xs))
  pub calm : AreCalm (signs_of_lines 0 (lines xs))
  pub shut : AreShut (signs_of_lines 0 (lines xs))
  pub full : AreFullParts (joined_parts (lines xs))

flat_page_by : (q : List ℕ) (xs : List Item) → page_items q ≡ xs → AreFlat q xs → IsFlatPage q
flat_page_by q xs is given =
    let h : AreFlat q (page_items q) = subst (AreFlat q) (sym is) given in
    record {
      utf8 = h.utf8;
      calls_nothing = h.calls_nothing;
      text = h.text;
      flat = h.flat;
      unstyled = h.unstyled;
      kept = h.kept;
      calm = h.calm;
      shut = h.shut;
      ungrouped = none_grouped q h.utf8 h.calls_nothing h.text h.full h.some;
    }

-- ---- `x<br>y`

pub items_are : page_items (codes "x<br>y") ≡ page_chars (codes "x<br>y")
unfolding word_at comment_len raw_len include_at opening_word closing_word word_after with_inside is_extension entity_at named_entity entity_names decimal_entity hex_entity sign_word
items_are =
    alone_as (codes "x<br>y") (page_chars (codes "x<br>y"))
    (parts_read (characters (codes "x") ∷ sign 60 (codes "br>y") ∷ [])
    ((refl, tt), ((record { none = λ rest. refl; uncommented = λ rest. refl }, (refl, (refl, (refl, (refl, tt))))), tt)))

pub break_alone : page_items (codes "<br>") ≡ page_chars (codes "<br>")
unfolding word_at comment_len raw_len include_at opening_word closing_word word_after with_inside is_extension entity_at named_entity entity_names decimal_entity hex_entity sign_word
break_alone =
    alone_as (codes "<br>") (page_chars (codes "<br>"))
    (parts_read (sign 60 (codes "br>") ∷ []) ((record { none = λ rest. refl; uncommented = λ rest. refl }, (refl, (refl, (refl, tt)))), tt))

pub break_kept : IsKept (codes "<br>")
unfolding word_at comment_len raw_len include_at opening_word closing_word word_after with_inside is_extension entity_at named_entity entity_names decimal_entity hex_entity sign_word
break_kept = record {
  parts = sign 60 (codes "br>") ∷ [];
  are = ((record { none = λ rest. refl; uncommented = λ rest. refl }, (refl, (refl, (refl, tt)))), tt);
  is = refl;
}

pub break_node : node_items (codes "<br>") ≡ page_chars (codes "<br>")
break_node = kept_node (codes "<br>") break_kept ∙ break_alone

pub break_held : IsHeld (codes "<br>")
break_held = inl (break_kept, subst HasNoBreak (sym break_alone) (refl, (refl, (refl, (refl, tt)))))

pub break_calm : IsCalm (codes "<br>")
unfolding encode
break_calm = record { utf8 = (codes "<br>", (refl, refl)); unpaired = subst AreUnpaired (sym break_node) refl }

pub break_flat : AreFlat (codes "x<br>y") (page_chars (codes "x<br>y"))
unfolding kind_of_signs context_parts with_styles style_tree_of toggles_of toggle_at chunks segments loose_segments tiles shapes closed form_at link_or_url link_at ext_link_at bare_url_at scheme_len tag_tile tag_at opening_tag closing_tag tag_after name_of live_name switch_at chars encode
break_flat = record {
  utf8 = (codes "x<br>y", (refl, refl));
  some = λ e. absurd (cc);
  calls_nothing = tt;
  text = (refl, All-cons (IsLineOfText 0) (page_chars (codes "x<br>y")) [] refl (All-nil (IsLineOfText 0)));
  flat = (
    (refl, (refl, (refl, (refl, (refl, (refl, tt)))))),
    ((120 ∷ [], (refl, refl)), (record { alone = break_node }, ((121 ∷ [], (refl, refl)), tt))),
    tt,
  );
  unstyled = (refl, tt);
  kept = ((break_held, tt), tt);
  calm = (break_calm, tt);
  shut = (refl, tt);
  full = (refl, ((refl, tt, refl), (refl, tt)));
}

with_a_break : IsFlatPage (codes "x<br>y")
with_a_break = flat_page_by (codes "x<br>y") (page_chars (codes "x<br>y")) items_are break_flat
