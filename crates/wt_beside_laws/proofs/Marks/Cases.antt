-- Worked cases: `<!--c-->` is a comment whatever is behind it, and the paragraphs `x<noinclude>y` and `x<!--c-->y`, in which a mark is within its line, are flat, as
-- `x<!--c-->y` is in a heading.
use Rattle.std.proofs.Common.{◌≡◌, ℕ, None, List, [], ◌∷◌, ◌++◌, refl, sym, subst, inl, inr}
use Rattle.std.specs.Prelude.{codes}
use Rattle.std.specs.Str.{chars}
use Rattle.std.proofs.Math.Utf8.{encode}
use Rattle.std.proofs.lemmas.List.Elements.{All-nil, All-cons}
use Rattle.wt_span.specs.Comments.{comment_len, comment_line_len}
use Rattle.wt_span.specs.Entities.{entity_at, named_entity, entity_names, decimal_entity, hex_entity}
use Rattle.wt_span.specs.declared.form.ItemForm.TheVariants as form
use Rattle.wt_span.specs.declared.form.LexKind.TheVariants.{Include}
use Rattle.wt_span.specs.Items.{Item, char, whole}
use Rattle.wt_span.specs.Lexemes.{form_at as word_at, sign_word, words, closed as words_closed}
use Rattle.wt_span.specs.Tags.{raw_len, include_at, opening_tag as opening_word, closing_tag as closing_word, tag_after as word_after, with_inside, is_extension}
use Rattle.wt_expand.specs.PageItems.{page_items}
use Rattle.wt_lines.specs.Kinds.{kind_of_signs}
use Rattle.wt_inline.specs.Parts.{children}
use Rattle.wt_tiles.specs.Tags.{tag_at, opening_tag, closing_tag, tag_after, name_of, live_name}
use Rattle.wt_tiles.specs.Tiles.{form_at, link_or_url, tag_tile, switch_at, shapes, closed, tiles}
use Rattle.wt_tiles.specs.Links.{link_at}
use Rattle.wt_tiles.specs.Urls.{scheme_len, ext_link_at, bare_url_at}
use Rattle.wt_context.specs.Chunks.{chunks}
use Rattle.wt_context.specs.Line.{context_parts}
use Rattle.wt_context.specs.Nodes.{segments}
use Rattle.wt_context.specs.Segments.{loose_segments}
use Rattle.wt_context.specs.Styled.{with_styles}
use Rattle.wt_quotes.specs.Styles.{style_tree_of}
use Rattle.wt_quotes.specs.Toggles.{toggle_at, toggles_of}
use Rattle.wt_text_edit_laws.specs.Paragraphs.{IsSeenLine}
use Rattle.wt_text_edit_laws.specs.TextBlocks.{a_paragraph, a_heading}
use Rattle.wt_text_edit_laws.specs.TypedHeadings.{spaced}
use Rattle.wt_blocks.specs.Headings.{level}
use Rattle.wt_text_edit_laws.specs.NoCalls.{AreUnpaired}
use Rattle.wt_beside_laws.specs.Calm.{IsCalm}
use Rattle.wt_beside_laws.specs.Commented.{IsComment, IsHeld}
use Rattle.wt_beside_laws.proofs.Marks.Shown.{comment_node}
use Rattle.wt_beside_laws.proofs.NodeItems.{node_as}
use Rattle.wt_beside_laws.specs.NodeItems.{node_items}
use Rattle.wt_beside_laws.specs.Lines.{IsLineOfText}
use Rattle.wt_beside_laws.specs.StyledIn.{IsFlatIn}
use Rattle.wt_beside_laws.specs.Kept.{characters, lexeme, IsPart, IsKept}
use Rattle.wt_beside_laws.proofs.Firm.{ReadsAs, alone_as, parts_read}
use Rattle.wt_beside_laws.proofs.Edits.Cases.{AreFlat}
use Rattle.wt_beside_laws.proofs.Made.Cases.{AreBlockItems, paragraph_by, AreHeadingItems, heading_by}
use Rattle.wt_beside_laws.specs.PageSigns.{HasNoBreak}

comment : IsComment (codes "!--c-->")
unfolding comment_len
comment = record { len = λ rest. refl; ends = refl }

abbrev own : List ℕ
own = codes "x<noinclude>y"

abbrev tag_item : Item
tag_item = whole form.Include None (codes "<noinclude>")

abbrev own_items : List Item
own_items = char None 120 ∷ tag_item ∷ char None 121 ∷ []

tag_part : IsPart (lexeme Include 60 (codes "noinclude>"))
unfolding word_at comment_len raw_len include_at opening_word closing_word word_after with_inside is_extension entity_at named_entity entity_names decimal_entity hex_entity sign_word
tag_part = record { form = λ rest. refl; uncommented = λ rest. refl; begins = refl; ends = refl }

items_are : page_items own ≡ own_items
items_are =
    alone_as own own_items (parts_read (characters (codes "x") ∷ lexeme Include 60 (codes "noinclude>") ∷ characters (codes "y") ∷ []) ((refl, tt), (tag_part, ((refl, tt), tt))))

before_break_are : page_items (own ++ 10 ∷ []) ≡ own_items ++ char None 10 ∷ []
before_break_are =
    alone_as (own ++ 10 ∷ []) (own_items ++ char None 10 ∷ [])
    (parts_read (characters (codes "x") ∷ lexeme Include 60 (codes "noinclude>") ∷ characters (codes "y\n") ∷ []) ((refl, tt), (tag_part, ((refl, (refl, tt)), tt))))

tag_reads : ReadsAs (codes "<noinclude>") (tag_item ∷ [])
tag_reads = parts_read (lexeme Include 60 (codes "noinclude>") ∷ []) (tag_part, tt)

tag_page : page_items (codes "<noinclude>") ≡ tag_item ∷ []
tag_page = alone_as (codes "<noinclude>") (tag_item ∷ []) tag_reads

tag_alone : node_items (codes "<noinclude>") ≡ tag_item ∷ []
tag_alone = node_as (codes "<noinclude>") (tag_item ∷ []) tag_reads

tag_kept : IsKept (codes "<noinclude>")
tag_kept = record { parts = lexeme Include 60 (codes "noinclude>") ∷ []; are = (tag_part, tt); is = refl }

tag_calm : IsCalm (codes "<noinclude>")
unfolding encode
tag_calm = record { utf8 = (codes "<noinclude>", (refl, refl)); unpaired = subst AreUnpaired (sym tag_alone) refl }

tag_flat : AreFlat own own_items
unfolding kind_of_signs context_parts with_styles style_tree_of toggles_of toggle_at chunks segments loose_segments tiles shapes closed form_at link_or_url link_at ext_link_at bare_url_at scheme_len tag_tile tag_at opening_tag closing_tag tag_after name_of live_name switch_at chars encode children
tag_flat = record {
  utf8 = (own, (refl, refl));
  some = λ e. absurd (cc);
  calls_nothing = tt;
  text = (refl, All-cons (IsLineOfText 0) own_items [] refl (All-nil (IsLineOfText 0)));
  flat = ((refl, (tt, (refl, tt))), ((120 ∷ [], (refl, refl)), (record { alone = tag_alone }, ((121 ∷ [], (refl, refl)), tt))), tt);
  unstyled = (refl, tt);
  kept = ((inl (tag_kept, subst HasNoBreak (sym tag_page) (tt, tt)), refl), tt);
  calm = (tag_calm, tt);
  shut = (refl, tt);
  full = (refl, ((refl, tt, refl), (refl, tt)));
}

tag_items : AreBlockItems own_items
unfolding kind_of_signs context_parts with_styles style_tree_of toggles_of toggle_at chunks segments loose_segments tiles shapes closed form_at link_or_url link_at ext_link_at bare_url_at scheme_len tag_tile tag_at opening_tag closing_tag tag_after name_of live_name switch_at chars encode children
tag_items = record {
  seen = All-cons IsSeenLine own_items [] refl (All-nil IsSeenLine);
  unled = refl;
  has_items = ((refl, tt), ((refl, tt), ((refl, tt), tt)));
}

with_a_tag : IsFlatIn a_paragraph own
with_a_tag = paragraph_by own own_items items_are before_break_are tag_flat tag_items

-- ---- a comment

abbrev remarked : List ℕ
remarked = codes "x<!--c-->y"

abbrev comment_item : Item
comment_item = whole form.Comment None (codes "<!--c-->")

abbrev remarked_items : List Item
remarked_items = char None 120 ∷ comment_item ∷ char None 121 ∷ []

remarked_are : page_items remarked ≡ remarked_items
unfolding page_items words words_closed word_at comment_len comment_line_len raw_len include_at opening_word closing_word word_after with_inside is_extension entity_at named_entity entity_names decimal_entity hex_entity sign_word
remarked_are = refl

remarked_before : page_items (remarked ++ 10 ∷ []) ≡ remarked_items ++ char None 10 ∷ []
unfolding page_items words words_closed word_at comment_len comment_line_len raw_len include_at opening_word closing_word word_after with_inside is_extension entity_at named_entity entity_names decimal_entity hex_entity sign_word
remarked_before = refl

comment_held : IsHeld (codes "<!--c-->")
comment_held = inr (inl (record { others = codes "!--c-->"; is = refl; comment = comment }))

comment_by_itself : node_items (codes "<!--c-->") ≡ comment_item ∷ []
comment_by_itself = comment_node (codes "!--c-->") comment

comment_calm : IsCalm (codes "<!--c-->")
unfolding encode
comment_calm = record { utf8 = (codes "<!--c-->", (refl, refl)); unpaired = subst AreUnpaired (sym comment_by_itself) refl }

comment_flat : AreFlat remarked remarked_items
unfolding kind_of_signs context_parts with_styles style_tree_of toggles_of toggle_at chunks segments loose_segments tiles shapes closed form_at link_or_url link_at ext_link_at bare_url_at scheme_len tag_tile tag_at opening_tag closing_tag tag_after name_of live_name switch_at chars encode children
comment_flat = record {
  utf8 = (remarked, (refl, refl));
  some = λ e. absurd (cc);
  calls_nothing = tt;
  text = (refl, All-cons (IsLineOfText 0) remarked_items [] refl (All-nil (IsLineOfText 0)));
  flat = ((refl, (tt, (refl, tt))), ((120 ∷ [], (refl, refl)), (record { alone = comment_by_itself }, ((121 ∷ [], (refl, refl)), tt))), tt);
  unstyled = (refl, tt);
  kept = ((comment_held, refl), tt);
  calm = (comment_calm, tt);
  shut = (refl, tt);
  full = (refl, ((refl, tt, refl), (refl, tt)));
}

comment_items : AreBlockItems remarked_items
unfolding kind_of_signs context_parts with_styles style_tree_of toggles_of toggle_at chunks segments loose_segments tiles shapes closed form_at link_or_url link_at ext_link_at bare_url_at scheme_len tag_tile tag_at opening_tag closing_tag tag_after name_of live_name switch_at chars encode children
comment_items = record {
  seen = All-cons IsSeenLine remarked_items [] refl (All-nil IsSeenLine);
  unled = refl;
  has_items = ((refl, tt), ((refl, tt), ((refl, tt), tt)));
}

with_a_comment : IsFlatIn a_paragraph remarked
with_a_comment =
    paragraph_by remarked remarked_items remarked_are remarked_before comment_flat comment_items

-- ---- in a heading

abbrev remarked_heading : List ℕ
remarked_heading = codes "== x<!--c-->y =="

abbrev heading_items : List Item
heading_items =
    char None 61 ∷ char None 61 ∷ char None 32 ∷ char None 120 ∷ comment_item ∷ char None 121 ∷ char None 32 ∷ char None 61 ∷ char None 61 ∷ []

heading_are : page_items remarked_heading ≡ heading_items
unfolding page_items words words_closed word_at comment_len comment_line_len raw_len include_at opening_word closing_word word_after with_inside is_extension entity_at named_entity entity_names decimal_entity hex_entity sign_word
heading_are = refl

heading_before : page_items (remarked_heading ++ 10 ∷ []) ≡ heading_items ++ char None 10 ∷ []
unfolding page_items words words_closed word_at comment_len comment_line_len raw_len include_at opening_word closing_word word_after with_inside is_extension entity_at named_entity entity_names decimal_entity hex_entity sign_word
heading_before = refl

comment_in_heading : AreHeadingItems heading_items remarked_items
unfolding page_items words words_closed level kind_of_signs context_parts with_styles style_tree_of toggles_of toggle_at chunks segments loose_segments tiles shapes closed form_at link_or_url link_at ext_link_at bare_url_at scheme_len tag_tile tag_at opening_tag closing_tag tag_after name_of live_name switch_at chars children
comment_in_heading = record {
  line = refl;
  calls_nothing = tt;
  inside = record { unbroken = (refl, (refl, (refl, tt))); begins = refl; ends = refl };
  of_level = refl;
  has_items = ((refl, tt), ((refl, tt), ((refl, tt), tt)));
  flat = comment_flat.flat;
  unstyled = comment_flat.unstyled;
  kept = ((comment_held, refl), tt);
  calm = (comment_calm, tt);
  shut = (refl, tt);
}

with_a_comment_in_a_heading : IsFlatIn (a_heading (spaced 2)) remarked
with_a_comment_in_a_heading = heading_by remarked heading_items remarked_items heading_are heading_before remarked_are comment_flat.utf8 comment_in_heading
