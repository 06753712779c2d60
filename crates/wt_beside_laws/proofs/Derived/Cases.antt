-- A worked case: a page is cut at its second paragraph, `x<br>y`, by its items.
use Rattle.std.proofs.Common.{◌≡◌, inl, None, [], ◌∷◌, ◌++◌, refl, All}
use Rattle.std.specs.Prelude.{codes}
use Rattle.std.proofs.lemmas.List.Elements.{All-nil, All-cons}
use Rattle.wt_span.specs.Comments.{comment_len}
use Rattle.wt_span.specs.Entities.{entity_at, named_entity, entity_names, decimal_entity, hex_entity}
use Rattle.wt_span.specs.Items.{char}
use Rattle.wt_span.specs.Lexemes.{form_at, sign_word}
use Rattle.wt_span.specs.Tags.{raw_len, include_at, opening_tag, closing_tag, tag_after, with_inside, is_extension}
use Rattle.wt_expand.specs.PageItems.{page_items}
use Rattle.wt_lines.specs.Kinds.{kind_of_signs}
use Rattle.wt_text_edit_laws.specs.BlockSpots.{BlockSpot}
use Rattle.wt_text_edit_laws.specs.LonePages.{page_chars}
use Rattle.wt_text_edit_laws.specs.PageCuts.{AreTextItems, IsSpotCut, AreCuts}
use Rattle.wt_text_edit_laws.specs.Paragraphs.{IsSeenLine}
use Rattle.wt_text_edit_laws.specs.TextBlocks.{a_paragraph}
use Rattle.wt_beside_laws.specs.Kept.{characters, sign}
use Rattle.wt_beside_laws.proofs.Firm.{alone_as, parts_read}

abbrev second : BlockSpot
second = record { before = codes "z\n\n"; block = a_paragraph; text = codes "x<br>y" }

ended : page_items (codes "x<br>y\n") ≡ page_chars (codes "x<br>y\n")
unfolding form_at comment_len raw_len include_at opening_tag closing_tag tag_after with_inside is_extension entity_at named_entity entity_names decimal_entity hex_entity sign_word
ended =
    alone_as (codes "x<br>y\n") (page_chars (codes "x<br>y\n"))
    (parts_read (characters (codes "x") ∷ sign 60 (codes "br>y\n") ∷ [])
    ((refl, tt), ((record { none = λ rest. refl; uncommented = λ rest. refl }, (refl, (refl, (refl, (refl, (refl, tt)))))), tt)))

unended : page_items (codes "x<br>y") ≡ page_chars (codes "x<br>y")
unfolding form_at comment_len raw_len include_at opening_tag closing_tag tag_after with_inside is_extension entity_at named_entity entity_names decimal_entity hex_entity sign_word
unended =
    alone_as (codes "x<br>y") (page_chars (codes "x<br>y"))
    (parts_read (characters (codes "x") ∷ sign 60 (codes "br>y") ∷ [])
    ((refl, tt), ((record { none = λ rest. refl; uncommented = λ rest. refl }, (refl, (refl, (refl, (refl, tt))))), tt)))

whole : page_items (codes "z\n\nx<br>y") ≡ page_chars (codes "z\n\nx<br>y")
unfolding form_at comment_len raw_len include_at opening_tag closing_tag tag_after with_inside is_extension entity_at named_entity entity_names decimal_entity hex_entity sign_word
whole =
    alone_as (codes "z\n\nx<br>y") (page_chars (codes "z\n\nx<br>y"))
    (parts_read (characters (codes "z\n\nx") ∷ sign 60 (codes "br>y") ∷ [])
    ((refl, (refl, (refl, (refl, tt)))), ((record { none = λ rest. refl; uncommented = λ rest. refl }, (refl, (refl, (refl, (refl, tt))))), tt)))

text : AreTextItems (codes "x<br>y") (page_chars (codes "x<br>y"))
unfolding kind_of_signs
text = record {
  source = refl;
  seen = All-cons IsSeenLine (page_chars (codes "x<br>y")) [] refl (All-nil IsSeenLine);
  unled = refl;
}

is_cut : IsSpotCut second (page_items (codes "z\n\nx<br>y"))
is_cut = record { before = page_chars (codes "z\n\n"); own = page_chars (codes "x<br>y"); rest = []; is = whole; source = refl; block = text }

closed : page_items (codes "x<br>y\n") ≡ page_items (codes "x<br>y") ++ char None 10 ∷ []
closed = rw unended ended

cut : AreCuts (second ∷ []) []
cut = (is_cut, inl refl, closed, tt)
