-- Worked cases of the items of a page, each computed.
use Rattle.std.proofs.Common.{◌≡◌, None, [], ◌∷◌, map, refl}
use Rattle.std.specs.Prelude.{codes}
use Rattle.wt_span.specs.declared.form.ItemForm.TheVariants as form
use Rattle.wt_span.specs.Comments.{comment_len, comment_line_len}
use Rattle.wt_span.specs.Entities.{entity_at, named_entity, decimal_entity, hex_entity, entity_names}
use Rattle.wt_span.specs.Tags.{raw_len, opening_tag, tag_after, closing_tag, with_inside, is_extension, include_at}
use Rattle.wt_span.specs.Lexemes.{sign_word, form_at, closed, words}
use Rattle.wt_span.specs.Items.{char, whole}
use Rattle.wt_expand.specs.PageItems.{page_items}

-- signs and runs of braces are characters, each byte an item
signs : page_items (codes "a{{b|[[=") ≡ map (char None) (codes "a{{b|[[=")
unfolding page_items words closed form_at comment_len comment_line_len raw_len opening_tag tag_after closing_tag with_inside
    is_extension include_at entity_at named_entity decimal_entity hex_entity entity_names sign_word
signs = refl

-- a comment, a comment line with its line break, and an entity
remarks : page_items (codes "a<!--b-->\n<!--c-->\n&lt;") ≡ char None 97 ∷ whole form.Comment None (codes "<!--b-->")
    ∷ char None 10 ∷ whole form.Comment None (codes "<!--c-->\n") ∷ whole (form.Entity 60) None (codes "&lt;") ∷ []
unfolding page_items words closed form_at comment_len comment_line_len raw_len opening_tag tag_after closing_tag with_inside
    is_extension include_at entity_at named_entity decimal_entity hex_entity entity_names sign_word
remarks = refl

-- raw tags by their names, an include tag and a hidden part
tags : page_items (codes "<Nowiki>''</nowiki><ref/></noinclude><includeonly>x")
    ≡ whole form.Nowiki None (codes "<Nowiki>''</nowiki>") ∷ whole form.Extension None (codes "<ref/>")
    ∷ whole form.Include None (codes "</noinclude>") ∷ whole form.Hidden None (codes "<includeonly>x") ∷ []
unfolding page_items words closed form_at comment_len comment_line_len raw_len opening_tag tag_after closing_tag with_inside
    is_extension include_at entity_at named_entity decimal_entity hex_entity entity_names sign_word
tags = refl
