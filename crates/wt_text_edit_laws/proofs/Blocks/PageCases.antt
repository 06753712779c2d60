-- Worked cases of pages with a heading, a list and a table round a paragraph, and of what may stand behind one, by computing.
use Rattle.std.proofs.Common.{◌≡◌, None, [], ◌∷◌, refl}
use Rattle.std.specs.Prelude.{codes}
use Rattle.std.specs.Fmt.{digits}
use Rattle.std.specs.Str.{chars}
use Rattle.wt_tree.specs.declared.kind.Kind.TheVariants as kind
use Rattle.wt_tree.specs.declared.kind.Mark.TheVariants as marks
use Rattle.wt_tree.specs.Tree.{Label, Tree, tree, none}
use Rattle.wt_span.specs.Comments.{comment_len, comment_line_len}
use Rattle.wt_span.specs.Entities.{named_entity, entity_names, decimal_entity, hex_entity, entity_at}
use Rattle.wt_span.specs.Lexemes.{sign_word, form_at, closed, words}
use Rattle.wt_span.specs.Tags.{opening_tag, closing_tag, raw_len, include_at}
use Rattle.wt_lines.specs.Kinds.{kind_of_signs}
use Rattle.wt_guards.specs.Guards.{nowiki, is_guarded, is_between_guard, is_start_guard, is_end_guard, is_blank_guard, is_parted}
use Rattle.wt_guards.specs.Letters.{is_escaped, reference}
use Rattle.wt_guards.specs.Table.{hazard, line_start_hazard}
use Rattle.wt_expand.specs.PageItems.{page_items}
use Rattle.wt_typed_blocks.specs.Sent.{paragraph}
use Rattle.wt_text_edit_laws.specs.TextBlocks.{a_paragraph, BeginsBetween}
use Rattle.wt_text_edit_laws.specs.BlockEdits.{BlockEdit, types, keeps, retyped, kept, old_page, new_page, sendings}

abbrev free : Label
free = record {
  kind = kind.Text;
  id = 0;
  ranges = None;
  opening = [];
  closing = [];
  own = [];
  shown = [];
  attrs = [];
  origin = None;
  mark = marks.Nothing;
  mw = None;
}

-- what is kept has no part in the new page's source
abbrev node : Tree
node = tree free none

-- `[c]` is typed in the paragraph `b`. Before it stand a heading, a line break, a list and line breaks, and behind it line breaks, a table
-- and a line break.
abbrev typed : BlockEdit
typed = record {
  spots = record {
    spot = record { before = codes "== h ==\n* a\n\n"; block = a_paragraph; text = codes "b" };
    others = node ∷ node ∷ node ∷ node ∷ [];
    typing = types free free (codes "[c]");
  } ∷ [];
  behind = codes "\n\n{|\n| d\n|}\n";
  others = node ∷ node ∷ node ∷ [];
}

was : old_page typed ≡ codes "== h ==\n* a\n\nb\n\n{|\n| d\n|}\n"
was = refl

-- brackets are references; the other blocks and all line breaks are what they were
now : new_page typed ≡ codes "== h ==\n* a\n\n&#91;c&#93;\n\n{|\n| d\n|}\n"
unfolding is_guarded is_between_guard is_start_guard is_end_guard is_blank_guard is_parted hazard line_start_hazard nowiki is_escaped reference digits chars lib.Utf8.encode
now = refl

sent : sendings typed ≡ kept node ∷ kept node ∷ kept node ∷ kept node ∷ retyped paragraph free free (codes "[c]") ∷ kept node ∷ kept node ∷ kept node ∷ []
sent = refl

-- where a paragraph stands first, and another one behind it is emptied
abbrev emptied : BlockEdit
emptied = record {
  spots = record { spot = record { before = []; block = a_paragraph; text = codes "a" }; others = []; typing = keeps node }
      ∷ record {
        spot = record { before = codes "\n\n----\n\n"; block = a_paragraph; text = codes "b" };
        others = node ∷ node ∷ node ∷ [];
        typing = types free free [];
      }
      ∷ [];
  behind = codes "\n";
  others = node ∷ [];
}

emptied_now : new_page emptied ≡ codes "a\n\n----\n\n<nowiki/>\n"
unfolding is_guarded is_between_guard is_start_guard is_end_guard is_blank_guard nowiki chars
emptied_now = refl

-- ---- what may stand between two paragraphs

-- a table directly behind the first, and more
table_apart : BeginsBetween a_paragraph a_paragraph (page_items (codes "\n{|\n|}\n\n== h ==\n"))
unfolding page_items words closed form_at comment_len comment_line_len raw_len opening_tag closing_tag include_at entity_at named_entity decimal_entity
    hex_entity entity_names sign_word kind_of_signs
table_apart = (refl, (record { whole = refl; closed = refl }), refl)

-- but no line of text
text_behind : BeginsBetween a_paragraph a_paragraph (page_items (codes "\na\n")) → ⊥
unfolding page_items words closed form_at comment_len comment_line_len raw_len opening_tag closing_tag include_at entity_at named_entity decimal_entity
    hex_entity entity_names sign_word kind_of_signs
text_behind h = let e = h.2 in absurd (cc)
