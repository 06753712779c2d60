-- Worked case: the paragraph `''x''<br>y` holds a content with styles.
use Rattle.std.proofs.Common.{◌≡◌, None, List, [], ◌∷◌, ◌++◌, refl, sym, ap, ◌∙◌, subst, All}
use Rattle.std.specs.Prelude.{ℕ, codes}
use Rattle.std.specs.Str.{IsUtf8, chars}
use Rattle.std.proofs.Math.Utf8.{encode}
use Rattle.std.proofs.lemmas.List.Elements.{All-nil, All-cons}
use Rattle.wt_span.specs.Comments.{comment_len}
use Rattle.wt_span.specs.Entities.{entity_at, named_entity, entity_names, decimal_entity, hex_entity}
use Rattle.wt_span.specs.Items.{Item, char}
use Rattle.wt_span.specs.Lexemes.{form_at as word_at, sign_word}
use Rattle.wt_span.specs.Tags.{raw_len, include_at, opening_tag as opening_word, closing_tag as closing_word, tag_after as word_after, with_inside, is_extension}
use Rattle.wt_expand.specs.PageItems.{page_items}
use Rattle.wt_lines.specs.Kinds.{kind_of_signs}
use Rattle.wt_lines.specs.Lines.{lines}
use Rattle.wt_inline.specs.ItemTree.{forest}
use Rattle.wt_inline.specs.Parts.{children}
use Rattle.wt_tiles.specs.Tags.{tag_at, opening_tag, closing_tag, tag_after, name_of, live_name}
use Rattle.wt_tiles.specs.Tiles.{form_at, link_or_url, tag_tile, switch_at, shapes, closed, tiles}
use Rattle.wt_tiles.specs.Links.{link_at}
use Rattle.wt_tiles.specs.Urls.{scheme_len, ext_link_at, bare_url_at}
use Rattle.wt_context.specs.Chunks.{chunks}
use Rattle.wt_context.specs.Line.{context_parts}
use Rattle.wt_context.specs.Nodes.{segments}
use Rattle.wt_context.specs.Segments.{loose_segments}
use Rattle.wt_context.specs.Styled.{with_styles}
use Rattle.wt_quotes.specs.Styles.{style_tree_of}
use Rattle.wt_quotes.specs.Runs.{place_of}
use Rattle.wt_quotes.specs.Toggles.{toggle_at, toggles_of}
use Rattle.wt_quotes.specs.Turns.{since, next, bold_ends_later, effect_on, is_bold_outside_at, turn_at}
use Rattle.wt_page.specs.Rows.{marks_len}
use Rattle.wt_part_laws.specs.Rounded.{AllHaveItems}
use Rattle.wt_text_edit_laws.specs.LonePages.{page_chars}
use Rattle.wt_text_edit_laws.specs.NoCalls.{CallsNothing}
use Rattle.wt_text_edit_laws.specs.ParagraphParts.{joined_parts}
use Rattle.wt_text_edit_laws.specs.Paragraphs.{IsSeenLine}
use Rattle.wt_text_edit_laws.specs.TextBlocks.{a_paragraph}
use Rattle.wt_beside_laws.specs.Calm.{AreCalm}
use Rattle.wt_beside_laws.specs.Content.{AreKept}
use Rattle.wt_beside_laws.specs.Kept.{characters, sign}
use Rattle.wt_beside_laws.specs.PageBlocks.{AreShut}
use Rattle.wt_beside_laws.specs.PageSigns.{signs_of_lines, AreFlatLines}
use Rattle.wt_beside_laws.specs.StyledIn.{IsStyledIn}
use Rattle.wt_beside_laws.proofs.CalmContents.{calm_utf8}
use Rattle.wt_beside_laws.proofs.Firm.{alone_as, parts_read}
use Rattle.wt_beside_laws.proofs.Edits.Cases.{break_node, break_held, break_calm}

abbrev pub own : List ℕ
own = codes "''x''<br>y"

pub items_are : page_items own ≡ page_chars own
unfolding word_at comment_len raw_len include_at opening_word closing_word word_after with_inside is_extension entity_at named_entity entity_names decimal_entity hex_entity sign_word
items_are =
    alone_as own (page_chars own)
    (parts_read (characters (codes "''x''") ∷ sign 60 (codes "br>y") ∷ [])
    ((refl, (refl, (refl, (refl, (refl, tt))))), ((record { none = λ rest. refl; uncommented = λ rest. refl }, (refl, (refl, (refl, (refl, tt))))), tt)))

before_break_are : page_items (own ++ 10 ∷ []) ≡ page_chars (own ++ 10 ∷ [])
unfolding word_at comment_len raw_len include_at opening_word closing_word word_after with_inside is_extension entity_at named_entity entity_names decimal_entity hex_entity sign_word
before_break_are =
    alone_as (own ++ 10 ∷ []) (page_chars (own ++ 10 ∷ []))
    (parts_read (characters (codes "''x''") ∷ sign 60 (codes "br>y\n") ∷ [])
    ((refl, (refl, (refl, (refl, (refl, tt))))), ((record { none = λ rest. refl; uncommented = λ rest. refl }, (refl, (refl, (refl, (refl, (refl, tt)))))), tt)))

-- what its items have to be
record AreStyledItems (xs : List Item) : Type 0 where
  pub seen : All IsSeenLine (lines xs)
  pub unled : marks_len xs ≡ 0
  pub calls_nothing : CallsNothing xs
  pub has_items : AllHaveItems (forest (children (joined_parts (lines xs))))
  pub flat : AreFlatLines (lines xs)
  pub kept : AreKept (signs_of_lines 0 (lines xs))
  pub calm : AreCalm (signs_of_lines 0 (lines xs))
  pub shut : AreShut (signs_of_lines 0 (lines xs))

-- an italic node with a text in it, a line break and a text
own_items : AreStyledItems (page_chars own)
unfolding kind_of_signs context_parts with_styles style_tree_of toggles_of toggle_at chunks segments loose_segments tiles shapes closed form_at link_or_url link_at ext_link_at bare_url_at scheme_len tag_tile tag_at opening_tag closing_tag tag_after name_of live_name switch_at chars encode children place_of since next bold_ends_later effect_on is_bold_outside_at turn_at
own_items = record {
  seen = All-cons IsSeenLine (page_chars own) [] refl (All-nil IsSeenLine);
  unled = refl;
  calls_nothing = tt;
  has_items = ((refl, ((refl, tt), tt)), ((refl, tt), ((refl, tt), tt)));
  flat = (
    (refl, (refl, (refl, (refl, (refl, (refl, (refl, (refl, (refl, (refl, tt)))))))))),
    ((codes "''x''", (refl, refl)), (record { alone = break_node }, ((121 ∷ [], (refl, refl)), tt))),
    tt,
  );
  kept = ((break_held, tt), tt);
  calm = (break_calm, tt);
  shut = (refl, tt);
}

own_utf8 : IsUtf8 own
unfolding encode
own_utf8 = (own, (refl, refl))

pub italic_and_break : IsStyledIn a_paragraph own
italic_and_break =
    let h : AreStyledItems (page_items own) = subst AreStyledItems (sym items_are) own_items in
    record {
      utf8 = own_utf8;
      ended = before_break_are ∙ ap (λ (ys : List Item). ys ++ char None 10 ∷ []) (sym items_are);
      unended = refl;
      is = record { seen = h.seen; unled = h.unled };
      calls_nothing = h.calls_nothing;
      has_items = h.has_items;
      flat = h.flat;
      kept = h.kept;
      nodes_utf8 = calm_utf8 (signs_of_lines 0 (lines (page_items own))) h.calm;
      shut = h.shut;
    }
