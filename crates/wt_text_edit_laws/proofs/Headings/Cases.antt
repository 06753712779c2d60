-- Worked cases of headings with a text, by computing.
use Rattle.std.proofs.Common.{◌≡◌, [], refl}
use Rattle.std.specs.Prelude.{codes, map}
use Rattle.wt_span.specs.Comments.{comment_len, comment_line_len}
use Rattle.wt_span.specs.Entities.{named_entity, entity_names, decimal_entity, hex_entity, entity_at}
use Rattle.wt_span.specs.Items.{sign}
use Rattle.wt_span.specs.Lexemes.{sign_word, form_at, closed, words}
use Rattle.wt_span.specs.Tags.{tag_after, opening_tag, closing_tag, with_inside, is_extension, raw_len, include_at}
use Rattle.wt_lines.specs.declared.kind.LineKind.TheVariants as line
use Rattle.wt_lines.specs.Kinds.{kind_of_signs, line_kind}
use Rattle.wt_tiles.specs.Links.{link_at}
use Rattle.wt_tiles.specs.Urls.{scheme_len, kept_len, ext_link_at, bare_url_at}
use Rattle.wt_tiles.specs.Tags.{tag_at, opening_tag as tile_opening_tag, closing_tag as tile_closing_tag}
use Rattle.wt_tiles.specs.Tiles.{tag_tile, switch_at, link_or_url, form_at as tile_form_at, closed as tiles_closed, shapes, tiles}
use Rattle.wt_quotes.specs.Toggles.{toggle_at, toggles_of}
use Rattle.wt_quotes.specs.Styles.{style_tree_of}
use Rattle.wt_context.specs.Segments.{loose_segments}
use Rattle.wt_context.specs.Chunks.{chunks}
use Rattle.wt_context.specs.Styled.{with_styles}
use Rattle.wt_context.specs.Nodes.{segments}
use Rattle.wt_context.specs.Line.{context_parts}
use Rattle.wt_blocks.specs.Headings.{level, closing}
use Rattle.wt_expand.specs.PageItems.{page_items}
use Rattle.wt_span.specs.Bytes.{is_blank}
use Rattle.wt_text_edit_laws.specs.LonePages.{page_chars}
use Rattle.wt_text_edit_laws.specs.TypedHeadings.{Sides, spaced, AreIdle, closing_items, heading_line, NoBreaks, BeginsWithout, EndsWithout, IsHeadingText, IsOfLevel, StandsApart}

second_level : heading_line (spaced 2) (page_chars (codes "a b")) ≡ page_chars (codes "== a b ==")
unfolding page_items words closed form_at comment_len comment_line_len raw_len tag_after opening_tag closing_tag with_inside is_extension include_at
    entity_at named_entity decimal_entity hex_entity entity_names sign_word
second_level = refl

-- without spaces, and with a space behind it and a tab behind the last `=`
abbrev bare : Sides
bare = record { level = 3; lead = []; trail = []; rest = [] }

abbrev uneven : Sides
uneven = record { level = 2; lead = []; trail = codes " "; rest = codes "\t" }

third_level : heading_line bare (page_chars (codes "a b")) ≡ page_chars (codes "===a b===")
unfolding page_items words closed form_at comment_len comment_line_len raw_len tag_after opening_tag closing_tag with_inside is_extension include_at
    entity_at named_entity decimal_entity hex_entity entity_names sign_word
third_level = refl

one_space : heading_line uneven (page_chars (codes "a b")) ≡ page_chars (codes "==a b ==\t")
unfolding page_items words closed form_at comment_len comment_line_len raw_len tag_after opening_tag closing_tag with_inside is_extension include_at
    entity_at named_entity decimal_entity hex_entity entity_names sign_word
one_space = refl

its_level : level (heading_line uneven (page_chars (codes "a b"))) ≡ 2
unfolding level page_items words closed form_at comment_len comment_line_len raw_len tag_after opening_tag closing_tag with_inside is_extension include_at
    entity_at named_entity decimal_entity hex_entity entity_names sign_word
its_level = refl

-- a comment behind the last `=`, and an include tag
abbrev commented : Sides
commented = record { level = 2; lead = codes " "; trail = codes " "; rest = codes " <!-- c --><noinclude>" }

its_rest : AreIdle (map sign (page_items commented.rest))
unfolding page_items words closed form_at comment_len comment_line_len raw_len tag_after opening_tag closing_tag with_inside is_extension include_at
    entity_at named_entity decimal_entity hex_entity entity_names sign_word
its_rest = (refl, (refl, (refl, tt)))

its_kind : line_kind 0 (heading_line commented (page_chars (codes "a"))) ≡ line.Heading
unfolding page_items words closed form_at comment_len comment_line_len raw_len tag_after opening_tag closing_tag with_inside is_extension include_at
    entity_at named_entity decimal_entity hex_entity entity_names sign_word kind_of_signs
its_kind = refl

behind_it : closing (heading_line commented (page_chars (codes "a"))) ≡ closing_items commented
unfolding page_items words closed form_at comment_len comment_line_len raw_len tag_after opening_tag closing_tag with_inside is_extension include_at
    entity_at named_entity decimal_entity hex_entity entity_names sign_word closing
behind_it = refl

-- a letter there makes the line no heading
its_letter : AreIdle (map sign (page_items (codes " <!-- c -->b"))) → ⊥
unfolding page_items words closed form_at comment_len comment_line_len raw_len tag_after opening_tag closing_tag with_inside is_extension include_at
    entity_at named_entity decimal_entity hex_entity entity_names sign_word
its_letter h = let e = h.1.1.0 in absurd (cc)

-- a `=` at an end would be one more of the delimiter
apart : StandsApart bare (page_chars (codes "a b"))
apart = record { first = refl; last = refl }

not_apart : StandsApart bare (page_chars (codes "=a")) → ⊥
not_apart h = let e = h.first in absurd (cc)

-- on one side alone it isn't, since the shorter run tells the level
uneven_level : IsOfLevel bare (page_chars (codes "=a"))
unfolding level page_items words closed form_at comment_len comment_line_len raw_len tag_after opening_tag closing_tag with_inside is_extension include_at
    entity_at named_entity decimal_entity hex_entity entity_names sign_word
uneven_level = refl

other_level : IsOfLevel bare (page_chars (codes "=a=")) → ⊥
unfolding level page_items words closed form_at comment_len comment_line_len raw_len tag_after opening_tag closing_tag with_inside is_extension include_at
    entity_at named_entity decimal_entity hex_entity entity_names sign_word
other_level h = absurd (cc)

spaced_apart : StandsApart (spaced 3) (page_chars (codes "=a"))
spaced_apart = record { first = refl; last = refl }

two_words : IsHeadingText (page_chars (codes "a b"))
unfolding context_parts segments tiles shapes tiles_closed tile_form_at link_or_url link_at ext_link_at bare_url_at scheme_len kept_len
    tag_tile tag_at tile_opening_tag tile_closing_tag switch_at loose_segments chunks with_styles style_tree_of toggles_of toggle_at
two_words = record { is_one = refl; unbroken = (refl, (refl, (refl, tt))); begins = refl; ends = refl }

-- no link begins at a bracket before a blank
bracket : IsHeadingText (page_chars (codes "a [ b"))
unfolding context_parts segments tiles shapes tiles_closed tile_form_at link_or_url link_at ext_link_at bare_url_at scheme_len kept_len
    tag_tile tag_at tile_opening_tag tile_closing_tag switch_at loose_segments chunks with_styles style_tree_of toggles_of toggle_at
bracket = record { is_one = refl; unbroken = (refl, (refl, (refl, (refl, (refl, tt))))); begins = refl; ends = refl }

-- a blank at an end would be a part of the delimiter, and a line break would end the heading
blank_first : BeginsWithout is_blank (codes " a") → ⊥
blank_first h = absurd (cc)

blank_last : EndsWithout is_blank (codes "a ") → ⊥
blank_last h = absurd (cc)

two_lines : NoBreaks (page_chars (codes "a\nb")) → ⊥
two_lines h = let e = h.1.0 in absurd (cc)
