-- Worked case: the link `[[a<!--c-->b]]` is a node with a comment in it, which is one item.
use Rattle.std.proofs.Common.{◌≡◌, ℕ, None, List, [], ◌∷◌, ◌++◌, refl, sym, ap, ◌∙◌, subst, inr}
use Rattle.std.specs.Prelude.{codes}
use Rattle.wt_span.specs.Comments.{comment_len, comment_line_len}
use Rattle.wt_span.specs.Entities.{entity_at, named_entity, entity_names, decimal_entity, hex_entity}
use Rattle.wt_span.specs.declared.form.ItemForm.TheVariants as form
use Rattle.wt_span.specs.Items.{Item, whole}
use Rattle.wt_span.specs.Lexemes.{form_at as word_at, sign_word, words, closed as words_closed}
use Rattle.wt_span.specs.Tags.{raw_len, include_at, opening_tag as opening_word, closing_tag as closing_word, tag_after as word_after, with_inside, is_extension}
use Rattle.wt_expand.specs.PageItems.{page_items}
use Rattle.wt_text_edit_laws.specs.LonePages.{page_chars}
use Rattle.wt_beside_laws.specs.Commented.{IsComment, LexemesEnd, BeginsShown, IsHeld}
use Rattle.wt_beside_laws.specs.Kept.{AreFirm}
use Rattle.wt_beside_laws.specs.NodeItems.{node_items}
use Rattle.wt_beside_laws.specs.PageSigns.{HasNoBreak}
use Rattle.wt_beside_laws.proofs.Marks.InLine.{InLineAs, both_in, firm_in, comment_in, line_reads}
use Rattle.wt_beside_laws.proofs.Marks.Shown.{nothing_read}

abbrev front : List ℕ
front = codes "[[a"

abbrev behind : List ℕ
behind = codes "b]]"

front_firm : AreFirm front
front_firm = (refl, (refl, (refl, tt)))

behind_firm : AreFirm behind
behind_firm = (refl, (refl, (refl, tt)))

comment : IsComment (codes "!--c-->")
unfolding comment_len
comment = record { len = λ rest. refl; ends = refl }

abbrev link_items : List Item
link_items = page_chars front ++ (whole form.Comment None (codes "<!--c-->") ∷ page_chars behind)

link_in : InLineAs (codes "[[a<!--c-->b]]") link_items
link_in =
    both_in front (codes "<!--c-->b]]") (page_chars front) (whole form.Comment None (codes "<!--c-->") ∷ page_chars behind)
    (firm_in front front_firm (refl, (refl, (refl, tt))))
    (both_in (codes "<!--c-->") behind (whole form.Comment None (codes "<!--c-->") ∷ []) (page_chars behind) (comment_in (codes "!--c-->") comment)
    (firm_in behind behind_firm (refl, (refl, (refl, tt)))))

link_read : page_items (codes "[[a<!--c-->b]]") ≡ link_items
link_read = line_reads (codes "[[a<!--c-->b]]") link_items link_in [] ∙ ap (λ (xs : List Item). link_items ++ xs) nothing_read

link_held : IsHeld (codes "[[a<!--c-->b]]")
link_held =
    inr (inr (inr (record {
      reads = λ rest j. line_reads (codes "[[a<!--c-->b]]") link_items link_in rest ∙ ap (λ (xs : List Item). xs ++ page_items rest) (sym link_read);
      begins = subst BeginsShown (sym link_read) (refl, refl);
      unbroken = subst HasNoBreak (sym link_read) (refl, (refl, (refl, (tt, (refl, (refl, (refl, tt)))))));
      ends = subst LexemesEnd (sym link_read) (refl, tt);
    })))

link_alone : node_items (codes "[[a<!--c-->b]]") ≡ link_items
unfolding node_items page_items words words_closed word_at comment_len comment_line_len raw_len include_at opening_word closing_word word_after with_inside is_extension entity_at named_entity entity_names decimal_entity hex_entity sign_word
link_alone = refl
