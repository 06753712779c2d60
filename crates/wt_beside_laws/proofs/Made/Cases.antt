-- Worked cases: `x<br>y` is flat as a paragraph, and between `== ` and ` ==` as a heading.
use Rattle.std.proofs.Common.{arith, ◌≡◌, inl, ℕ, None, List, [], ◌∷◌, ◌++◌, refl, sym, ap, ◌∙◌, subst, All}
use Rattle.std.specs.Prelude.{codes}
use Rattle.std.specs.Str.{IsUtf8, chars}
use Rattle.std.proofs.Math.Utf8.{encode}
use Rattle.std.proofs.lemmas.List.Elements.{All-nil, All-cons}
use Rattle.wt_span.specs.Comments.{comment_len, comment_line_len}
use Rattle.wt_span.specs.Entities.{entity_at, named_entity, entity_names, decimal_entity, hex_entity}
use Rattle.wt_span.specs.Items.{Item, char}
use Rattle.wt_span.specs.Lexemes.{form_at as word_at, sign_word, words, closed as words_closed}
use Rattle.wt_span.specs.Tags.{raw_len, include_at, opening_tag as opening_word, closing_tag as closing_word, tag_after as word_after, with_inside, is_extension}
use Rattle.wt_expand.specs.PageItems.{page_items}
use Rattle.wt_lines.specs.Kinds.{kind_of_signs}
use Rattle.wt_lines.specs.Lines.{lines}
use Rattle.wt_inline.specs.ItemTree.{forest}
use Rattle.wt_inline.specs.Parts.{children}
use Rattle.wt_tiles.specs.Tags.{tag_at, opening_tag, closing_tag, tag_after, name_of, live_name}
use Rattle.wt_tiles.specs.Tiles.{form_at, link_or_url, tag_tile, switch_at, shapes, closed, tiles}
use Rattle.wt_tiles.specs.Links.{link_at}
use Rattle.wt_tiles.specs.Urls.{scheme_len, ext_link_at, bare_url_at}
use Rattle.wt_context.specs.Chunks.{chunks}
use Rattle.wt_context.specs.Line.{context_parts, line_parts}
use Rattle.wt_context.specs.Nodes.{segments}
use Rattle.wt_context.specs.Segments.{loose_segments}
use Rattle.wt_context.specs.Styled.{with_styles}
use Rattle.wt_quotes.specs.Styles.{style_tree_of}
use Rattle.wt_quotes.specs.Toggles.{toggle_at, toggles_of}
use Rattle.wt_blocks.specs.Headings.{level}
use Rattle.wt_part_laws.specs.Rounded.{AllHaveItems}
use Rattle.wt_text_edit_laws.specs.LonePages.{page_chars}
use Rattle.wt_text_edit_laws.specs.NoCalls.{CallsNothing}
use Rattle.wt_text_edit_laws.specs.ParagraphParts.{joined_parts}
use Rattle.wt_text_edit_laws.specs.Paragraphs.{IsSeenLine}
use Rattle.wt_text_edit_laws.specs.TextBlocks.{a_paragraph, a_heading, source_of, IsFrame}
use Rattle.wt_text_edit_laws.specs.TypedHeadings.{spaced, heading_line, IsHeadingInside, IsOfLevel}
use Rattle.wt_beside_laws.specs.Calm.{AreCalm}
use Rattle.wt_beside_laws.specs.Content.{AreKept}
use Rattle.wt_beside_laws.specs.Kept.{characters, sign}
use Rattle.wt_beside_laws.specs.PageBlocks.{AreUnstyled, AreShut}
use Rattle.wt_beside_laws.specs.PageSigns.{signs_of_lines, AreFlatLines}
use Rattle.wt_beside_laws.specs.StyledIn.{IsFlatIn}
use Rattle.wt_beside_laws.proofs.CalmContents.{calm_utf8}
use Rattle.wt_beside_laws.proofs.Firm.{alone_as, parts_read}
use Rattle.wt_beside_laws.proofs.Edits.Cases.{AreFlat, items_are, break_held, break_calm, break_flat}
use Rattle.wt_page.specs.Rows.{marks_len}

-- ---- as a paragraph

-- what else its items have to be
pub record AreBlockItems (xs : List Item) : Type 0 where
  pub seen : All IsSeenLine (lines xs)
  pub unled : marks_len xs ≡ 0
  pub has_items : AllHaveItems (forest (children (joined_parts (lines xs))))

pub paragraph_by : (q : List ℕ) (xs : List Item) → page_items q ≡ xs → page_items (q ++ 10 ∷ []) ≡ xs ++ char None 10 ∷ []
    → AreFlat q xs → AreBlockItems xs → IsFlatIn a_paragraph q
paragraph_by q xs is ended given more =
    let h : AreFlat q (page_items q) = subst (AreFlat q) (sym is) given in
    let b : AreBlockItems (page_items q) = subst AreBlockItems (sym is) more in
    record {
      styled = record {
        utf8 = h.utf8;
        ended = ended ∙ ap (λ (ys : List Item). ys ++ char None 10 ∷ []) (sym is);
        unended = refl;
        is = record { seen = b.seen; unled = b.unled };
        calls_nothing = h.calls_nothing;
        has_items = b.has_items;
        flat = h.flat;
        kept = h.kept;
        nodes_utf8 = calm_utf8 (signs_of_lines 0 (lines (page_items q))) h.calm;
        shut = h.shut;
      };
      unstyled = h.unstyled;
    }

before_break_are : page_items (codes "x<br>y\n") ≡ page_chars (codes "x<br>y\n")
unfolding word_at comment_len raw_len include_at opening_word closing_word word_after with_inside is_extension entity_at named_entity entity_names decimal_entity hex_entity sign_word
before_break_are =
    alone_as (codes "x<br>y\n") (page_chars (codes "x<br>y\n"))
    (parts_read (characters (codes "x") ∷ sign 60 (codes "br>y\n") ∷ [])
    ((refl, tt), ((record { none = λ rest. refl; uncommented = λ rest. refl }, (refl, (refl, (refl, (refl, (refl, tt)))))), tt)))

break_items : AreBlockItems (page_chars (codes "x<br>y"))
unfolding kind_of_signs context_parts with_styles style_tree_of toggles_of toggle_at chunks segments loose_segments tiles shapes closed form_at link_or_url link_at ext_link_at bare_url_at scheme_len tag_tile tag_at opening_tag closing_tag tag_after name_of live_name switch_at chars children
break_items = record {
  seen = All-cons IsSeenLine (page_chars (codes "x<br>y")) [] refl (All-nil IsSeenLine);
  unled = refl;
  has_items = ((refl, tt), ((refl, tt), ((refl, tt), tt)));
}

pub as_paragraph : IsFlatIn a_paragraph (codes "x<br>y")
as_paragraph = paragraph_by (codes "x<br>y") (page_chars (codes "x<br>y")) items_are before_break_are break_flat break_items

-- ---- as a heading

abbrev words_as_heading : List ℕ
words_as_heading = codes "== x<br>y =="

heading_are : page_items words_as_heading ≡ page_chars words_as_heading
unfolding word_at comment_len raw_len include_at opening_word closing_word word_after with_inside is_extension entity_at named_entity entity_names decimal_entity hex_entity sign_word
heading_are =
    alone_as words_as_heading (page_chars words_as_heading)
    (parts_read (characters (codes "== x") ∷ sign 60 (codes "br>y ==") ∷ [])
    ((refl, (refl, (refl, (refl, tt)))), ((record { none = λ rest. refl; uncommented = λ rest. refl }, (refl, (refl, (refl, (refl, (refl, (refl, (refl, tt)))))))), tt)))

ended_heading_are : page_items (words_as_heading ++ 10 ∷ []) ≡ page_chars (words_as_heading ++ 10 ∷ [])
unfolding word_at comment_len raw_len include_at opening_word closing_word word_after with_inside is_extension entity_at named_entity entity_names decimal_entity hex_entity sign_word
ended_heading_are =
    alone_as (words_as_heading ++ 10 ∷ []) (page_chars (words_as_heading ++ 10 ∷ []))
    (parts_read (characters (codes "== x") ∷ sign 60 (codes "br>y ==\n") ∷ [])
    ((refl, (refl, (refl, (refl, tt)))), ((record { none = λ rest. refl; uncommented = λ rest. refl }, (refl, (refl, (refl, (refl, (refl, (refl, (refl, (refl, tt))))))))), tt)))

frame : IsFrame (spaced 2)
unfolding page_items words words_closed word_at comment_len comment_line_len raw_len opening_word closing_word include_at entity_at named_entity decimal_entity hex_entity entity_names sign_word encode
frame = record {
  sides = record { some = omega arith; most = omega arith; lead = (refl, tt); trail = (refl, tt); rest = tt };
  utf8 = ([], (refl, refl));
  stands = record { ends = refl; has_ends = (refl, refl) };
  ended = refl;
}

-- what its items have to be, where these are those of its line
pub record AreHeadingItems (all xs : List Item) : Type 0 where
  pub line : heading_line (spaced 2) xs ≡ all
  pub calls_nothing : CallsNothing (heading_line (spaced 2) xs)
  pub inside : IsHeadingInside xs
  pub of_level : IsOfLevel (spaced 2) xs
  pub has_items : AllHaveItems (forest (children (line_parts xs)))
  pub flat : AreFlatLines (xs ∷ [])
  pub unstyled : AreUnstyled (xs ∷ [])
  pub kept : AreKept (signs_of_lines 3 (xs ∷ []))
  pub calm : AreCalm (signs_of_lines 3 (xs ∷ []))
  pub shut : AreShut (signs_of_lines 3 (xs ∷ []))

pub heading_by : (q : List ℕ) (all xs : List Item) → page_items (source_of (a_heading (spaced 2)) q) ≡ all
    → page_items (source_of (a_heading (spaced 2)) q ++ 10 ∷ []) ≡ all ++ char None 10 ∷ [] → page_items q ≡ xs → IsUtf8 q → AreHeadingItems all xs
    → IsFlatIn (a_heading (spaced 2)) q
heading_by q all xs alone before_break is utf8 given =
    let h : AreHeadingItems all (page_items q) = subst (AreHeadingItems all) (sym is) given in
    record {
      styled = record {
        utf8 = utf8;
        ended = before_break ∙ ap (λ (ys : List Item). ys ++ char None 10 ∷ []) (sym h.line);
        unended = alone ∙ sym h.line;
        is = record { frame = frame; inside = inl h.inside; of_level = h.of_level };
        calls_nothing = h.calls_nothing;
        has_items = h.has_items;
        flat = h.flat;
        kept = h.kept;
        nodes_utf8 = calm_utf8 (signs_of_lines 3 (page_items q ∷ [])) h.calm;
        shut = h.shut;
      };
      unstyled = h.unstyled;
    }

heading_items : AreHeadingItems (page_chars words_as_heading) (page_chars (codes "x<br>y"))
unfolding page_items words words_closed level kind_of_signs context_parts with_styles style_tree_of toggles_of toggle_at chunks segments loose_segments tiles shapes closed form_at link_or_url link_at ext_link_at bare_url_at scheme_len tag_tile tag_at opening_tag closing_tag tag_after name_of live_name switch_at chars children
heading_items = record {
  line = refl;
  calls_nothing = tt;
  inside = record { unbroken = (refl, (refl, (refl, (refl, (refl, (refl, tt)))))); begins = refl; ends = refl };
  of_level = refl;
  has_items = ((refl, tt), ((refl, tt), ((refl, tt), tt)));
  flat = break_flat.flat;
  unstyled = break_flat.unstyled;
  kept = ((break_held, tt), tt);
  calm = (break_calm, tt);
  shut = (refl, tt);
}

pub as_heading : IsFlatIn (a_heading (spaced 2)) (codes "x<br>y")
as_heading =
    heading_by (codes "x<br>y") (page_chars words_as_heading) (page_chars (codes "x<br>y")) heading_are ended_heading_are items_are break_flat.utf8 heading_items
