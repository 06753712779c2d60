-- Worked cases of what may come before a text and after it, by computing.
use Rattle.std.proofs.Common.{arith, refl}
use Rattle.std.specs.Prelude.{[], codes}
use Rattle.wt_span.specs.Comments.{comment_len, comment_line_len}
use Rattle.wt_span.specs.Entities.{named_entity, entity_names, decimal_entity, hex_entity, entity_at}
use Rattle.wt_span.specs.Lexemes.{sign_word, form_at, closed, words}
use Rattle.wt_span.specs.Tags.{tag_after, opening_tag, closing_tag, with_inside, is_extension, raw_len, include_at}
use Rattle.wt_expand.specs.PageItems.{page_items}
use Rattle.wt_text_edit_laws.specs.NoCalls.{CallsNothing}
use Rattle.wt_text_edit_laws.specs.SignParts.{AreSigned}
use Rattle.wt_text_edit_laws.specs.TextBetween.{AreWholeLines, HasEnds, HasEndsBefore, BeginsShown, StandsBefore, StandsBehind}

-- ---- before a text

-- the page's start
start : StandsBefore []
start = record { ends = tt; has_ends = refl }

-- a list item with a link
item : StandsBefore (codes "* [[a|b]]\n")
unfolding comment_len comment_line_len named_entity entity_names decimal_entity hex_entity entity_at sign_word form_at closed words opening_tag closing_tag raw_len include_at
item = record {
  ends = refl;
  has_ends = (refl, (refl, (refl, (refl, (refl, (refl, (refl, (refl, refl))))))));
}

-- tags that show their inside are characters of the page, and so is a `<` that begins no tag, and a closing tag alone
bold : StandsBefore (codes "<b>c</b>\n")
unfolding comment_len comment_line_len named_entity entity_names decimal_entity hex_entity entity_at sign_word form_at closed words tag_after opening_tag closing_tag with_inside is_extension raw_len include_at
bold = record { ends = refl; has_ends = (refl, (refl, (refl, (refl, (refl, (refl, (refl, (refl, (refl, refl))))))))) }

break : HasEnds (codes "a<br>\n")
unfolding comment_len comment_line_len named_entity entity_names decimal_entity hex_entity entity_at sign_word form_at closed words tag_after opening_tag closing_tag with_inside is_extension raw_len include_at
break = (refl, (refl, (refl, (refl, (refl, (refl, refl))))))

less_than : HasEnds (codes "a < b\n")
unfolding comment_len comment_line_len named_entity entity_names decimal_entity hex_entity entity_at sign_word form_at closed words tag_after opening_tag closing_tag with_inside is_extension raw_len include_at
less_than = (refl, (refl, (refl, (refl, (refl, (refl, refl))))))

closing : HasEnds (codes "</p>\n")
unfolding comment_len comment_line_len named_entity entity_names decimal_entity hex_entity entity_at sign_word form_at closed words tag_after opening_tag closing_tag with_inside is_extension raw_len include_at
closing = (refl, (refl, (refl, (refl, (refl, refl)))))

-- a tag of an extension is one lexeme with its inside
footnote : StandsBefore (codes "a<ref>b</ref>\n")
unfolding comment_len comment_line_len named_entity entity_names decimal_entity hex_entity entity_at sign_word form_at closed words tag_after opening_tag closing_tag with_inside is_extension raw_len include_at
footnote = record { ends = refl; has_ends = (refl, (refl, (refl, refl))) }

-- what is inside of another lexeme counts for nothing
nowiki : StandsBefore (codes "<nowiki><!--{{</nowiki>\n")
unfolding comment_len comment_line_len named_entity entity_names decimal_entity hex_entity entity_at sign_word form_at closed words tag_after opening_tag closing_tag with_inside is_extension raw_len include_at
nowiki = record { ends = refl; has_ends = (refl, (refl, refl)) }

hidden : HasEnds (codes "<includeonly>a\n</includeonly>\n")
unfolding comment_len comment_line_len named_entity entity_names decimal_entity hex_entity entity_at sign_word form_at closed words tag_after opening_tag closing_tag with_inside is_extension raw_len include_at
hidden = (refl, (refl, refl))

-- a comment in a line, one over lines, and one alone in its line
in_line : StandsBefore (codes "a<!-- c -->b\n")
unfolding comment_len comment_line_len named_entity entity_names decimal_entity hex_entity entity_at sign_word form_at closed words tag_after opening_tag closing_tag with_inside is_extension raw_len include_at
in_line = record { ends = refl; has_ends = (refl, (refl, (refl, (refl, refl)))) }

over_lines : StandsBefore (codes "<!--\n* a\n-->\n")
unfolding comment_len comment_line_len named_entity entity_names decimal_entity hex_entity entity_at sign_word form_at closed words tag_after opening_tag closing_tag with_inside is_extension raw_len include_at
over_lines = record { ends = refl; has_ends = (refl, (refl, refl)) }

alone : StandsBefore (codes "a\n <!-- c --> <!-- d -->\n")
unfolding comment_len comment_line_len named_entity entity_names decimal_entity hex_entity entity_at sign_word form_at closed words tag_after opening_tag closing_tag with_inside is_extension raw_len include_at
alone = record { ends = refl; has_ends = (refl, (refl, (refl, refl))) }

-- and behind the lines a comment and an include tag
marked : StandsBefore (codes "a\n<!-- c --><noinclude>")
unfolding comment_len comment_line_len named_entity entity_names decimal_entity hex_entity entity_at sign_word form_at closed words tag_after opening_tag closing_tag with_inside is_extension raw_len include_at
marked = record { ends = refl; has_ends = (refl, (refl, (refl, (refl, refl)))) }

-- what follows these is something visible, or the page's end, and no line of comments and blanks
seen : BeginsShown (codes " a\n")
unfolding comment_len
seen = refl

blank_line : BeginsShown (codes " <!-- c -->\n") → ⊥
unfolding comment_len
blank_line h = absurd (cc)

-- a line that doesn't end
unended : AreWholeLines (codes "a") → ⊥
unended h = absurd (cc)

-- braces are characters, unless the page pairs them
open_call : StandsBefore (codes "{{a\n")
unfolding comment_len comment_line_len named_entity entity_names decimal_entity hex_entity entity_at sign_word form_at closed words opening_tag closing_tag raw_len include_at
open_call = record { ends = refl; has_ends = (refl, (refl, (refl, refl))) }

-- what doesn't end in the part may end in the text
open_comment : HasEnds (codes "<!-- a\n") → ⊥
unfolding comment_len comment_line_len named_entity entity_names decimal_entity hex_entity entity_at sign_word form_at closed words tag_after opening_tag closing_tag with_inside is_extension raw_len include_at
open_comment h = let e = h.0 in absurd (cc)

open_nowiki : HasEnds (codes "<nowiki>a\n") → ⊥
unfolding comment_len comment_line_len named_entity entity_names decimal_entity hex_entity entity_at sign_word form_at closed words tag_after opening_tag closing_tag with_inside is_extension raw_len include_at
open_nowiki h = let e = h.0 in absurd (cc)

open_footnote : HasEnds (codes "<!-- c --><ref>a\n") → ⊥
unfolding comment_len comment_line_len named_entity entity_names decimal_entity hex_entity entity_at sign_word form_at closed words tag_after opening_tag closing_tag with_inside is_extension raw_len include_at
open_footnote h = let e = h.1.0 in absurd (cc)

open_hidden : HasEnds (codes "<includeonly>a\n") → ⊥
unfolding comment_len comment_line_len named_entity entity_names decimal_entity hex_entity entity_at sign_word form_at closed words tag_after opening_tag closing_tag with_inside is_extension raw_len include_at
open_hidden h = let e = h.0 in absurd (cc)

-- but where nothing that follows closes it either, it is characters
left_open : HasEndsBefore (codes "b\n") (codes "* <ref>a\n")
unfolding comment_len comment_line_len named_entity entity_names decimal_entity hex_entity entity_at sign_word form_at closed words tag_after opening_tag closing_tag with_inside is_extension raw_len include_at
left_open = (refl, (refl, (refl, (refl, (refl, (refl, (refl, (refl, (refl, refl)))))))))

closed_behind : HasEndsBefore (codes "b</ref>\n") (codes "<ref>a\n") → ⊥
unfolding comment_len comment_line_len named_entity entity_names decimal_entity hex_entity entity_at sign_word form_at closed words tag_after opening_tag closing_tag with_inside is_extension raw_len include_at
closed_behind h = let e = h.0 in absurd (cc)

-- a comment and a hidden part that don't end go on to the end of the page
comment_left_open : HasEndsBefore (codes "b\n") (codes "<!-- a\n") → ⊥
unfolding comment_len comment_line_len named_entity entity_names decimal_entity hex_entity entity_at sign_word form_at closed words tag_after opening_tag closing_tag with_inside is_extension raw_len include_at
comment_left_open h = let e = h.0 in absurd (cc)

hidden_left_open : HasEndsBefore (codes "b\n") (codes "<includeonly>a\n") → ⊥
unfolding comment_len comment_line_len named_entity entity_names decimal_entity hex_entity entity_at sign_word form_at closed words tag_after opening_tag closing_tag with_inside is_extension raw_len include_at
hidden_left_open h = let e = h.0 in absurd (cc)

-- ---- behind a text

-- the page's end
end : StandsBehind []
end = record { uncommented = refl }

-- a line of a comment, and one that never ends
commented : StandsBehind (codes "\n<!-- c -->\n* a<!-- d")
unfolding comment_len comment_line_len named_entity entity_names decimal_entity hex_entity entity_at sign_word form_at closed words tag_after opening_tag closing_tag with_inside is_extension raw_len include_at
commented = record { uncommented = refl }

-- a comment in the text's own last line
beside : StandsBehind (codes " <!-- c -->\n") → ⊥
unfolding comment_len comment_line_len named_entity entity_names decimal_entity hex_entity entity_at sign_word form_at closed words tag_after opening_tag closing_tag with_inside is_extension raw_len include_at
beside h = let e = h.uncommented in absurd (cc)

-- ---- braces

-- two that close before two that open, and two that nothing closes behind a comment with a call in it
unpaired : CallsNothing (page_items (codes "}} a {{ b } <!-- {{c}} -->"))
unfolding page_items comment_len comment_line_len named_entity entity_names decimal_entity hex_entity entity_at sign_word form_at closed words tag_after opening_tag closing_tag with_inside is_extension raw_len include_at
unpaired = tt

-- two that open before two that close
paired : CallsNothing (page_items (codes "{{ a }}")) → ⊥
unfolding page_items comment_len comment_line_len named_entity entity_names decimal_entity hex_entity entity_at sign_word form_at closed words tag_after opening_tag closing_tag with_inside is_extension raw_len include_at
paired h = h

-- ---- the sign of a table's end or a rule, and the end of a call

table_end : AreSigned (codes "{|\n|a\n\t|}")
table_end = record { some = omega arith; sign = refl; unopened = refl }

rule : AreSigned (codes "<!-- c -->-----")
rule = record { some = omega arith; sign = refl; unopened = refl }

call : AreSigned (codes "a\n{{Box|<b>x</b>|y=&amp;}}")
call = record { some = omega arith; sign = refl; unopened = refl }
