-- Worked cases: sources that stand so whatever is written behind them, and links and URLs with what is read behind them.
use Rattle.std.proofs.Common.{◌≡◌, ℕ, Bool, true, false, Some, List, [], ◌∷◌, refl}
use Rattle.std.specs.Prelude.{◌&&◌, codes}
use Rattle.std.specs.List.{list_all}
use Rattle.wt_span.specs.declared.form.LexKind.TheVariants.{Raw, Entity}
use Rattle.wt_span.specs.Comments.{comment_len}
use Rattle.wt_span.specs.Entities.{entity_at, named_entity, entity_names, decimal_entity, hex_entity}
use Rattle.wt_span.specs.Lexemes.{form_at, sign_word}
use Rattle.wt_span.specs.Tags.{raw_len, include_at, opening_tag, closing_tag, tag_after, with_inside, is_extension}
use Rattle.wt_beside_laws.specs.NodeItems.{node_items}
use Rattle.wt_text_edit_laws.specs.LonePages.{page_chars}
use Rattle.wt_tiles.specs.Glyphs.{byte_glyphs}
use Rattle.wt_tiles.specs.Urls.{scheme_len, is_url_char, is_dropped, kept_len, bare_shape, bare_url_at}
use Rattle.wt_beside_laws.specs.Kept.{is_firm, AreFirm, characters, sign, lexeme, IsKept}
use Rattle.wt_beside_laws.proofs.Firm.{parts_read}
use Rattle.wt_beside_laws.proofs.NodeItems.{node_as}

both_true : (u v : Bool) → (u && v) ≡ true → (u ≡ true) × (v ≡ true)
both_true true v e = (refl, e)
both_true false v e = cc

firm : (bs : List ℕ) → list_all is_firm bs ≡ true → AreFirm bs
firm [] e = tt
firm (b ∷ bs) e = let s = both_true (is_firm b) (list_all is_firm bs) e in (s.0, firm bs s.1)

link : IsKept (codes "[[a|b]]")
link = record { parts = characters (codes "[[a|b]]") ∷ []; are = (firm (codes "[[a|b]]") refl, tt); is = refl }

address : IsKept (codes "http://k")
address = record { parts = characters (codes "http://k") ∷ []; are = (firm (codes "http://k") refl, tt); is = refl }

quotes : IsKept (codes "'''")
quotes = record { parts = characters (codes "'''") ∷ []; are = (firm (codes "'''") refl, tt); is = refl }

entity : IsKept (codes "&amp;")
unfolding form_at comment_len raw_len include_at opening_tag closing_tag entity_at named_entity entity_names decimal_entity hex_entity sign_word
entity = record {
  parts = lexeme (Entity 38) 38 (codes "amp;") ∷ [];
  are = (record { form = λ rest. refl; uncommented = λ rest. refl; begins = refl; ends = refl }, tt);
  is = refl;
}

empty_nowiki : IsKept (codes "<nowiki/>")
unfolding form_at comment_len raw_len opening_tag tag_after with_inside is_extension
empty_nowiki = record {
  parts = lexeme Raw 60 (codes "nowiki/>") ∷ [];
  are = (record { form = λ rest. refl; uncommented = λ rest. refl; begins = refl; ends = refl }, tt);
  is = refl;
}

-- a tag, of which no lexeme is made
bold_tag : IsKept (codes "<b>")
unfolding form_at comment_len raw_len include_at opening_tag closing_tag tag_after with_inside is_extension entity_at named_entity entity_names decimal_entity hex_entity sign_word
bold_tag = record {
  parts = sign 60 (codes "b>") ∷ [];
  are = ((record { none = λ rest. refl; uncommented = λ rest. refl }, firm (codes "b>") refl), tt);
  is = refl;
}

-- by itself it is read as its characters
pub break_alone : node_items (codes "<br>") ≡ page_chars (codes "<br>")
unfolding form_at comment_len raw_len include_at opening_tag closing_tag tag_after with_inside is_extension entity_at named_entity entity_names decimal_entity hex_entity sign_word
break_alone =
    node_as (codes "<br>") (page_chars (codes "<br>"))
    (parts_read (sign 60 (codes "br>") ∷ []) ((record { none = λ rest. refl; uncommented = λ rest. refl }, firm (codes "br>") refl), tt))

footnote : IsKept (codes "<ref name=\"n\"/>")
unfolding form_at comment_len raw_len opening_tag tag_after with_inside is_extension
footnote = record {
  parts = lexeme Raw 60 (codes "ref name=\"n\"/>") ∷ [];
  are = (record { form = λ rest. refl; uncommented = λ rest. refl; begins = refl; ends = refl }, tt);
  is = refl;
}

-- with a reference in its text
link_with_entity : IsKept (codes "[[a|&amp;b]]")
unfolding form_at comment_len raw_len include_at opening_tag closing_tag entity_at named_entity entity_names decimal_entity hex_entity sign_word
link_with_entity = record {
  parts = characters (codes "[[a|") ∷ lexeme (Entity 38) 38 (codes "amp;") ∷ characters (codes "b]]") ∷ [];
  are = (firm (codes "[[a|") refl, (record { form = λ rest. refl; uncommented = λ rest. refl; begins = refl; ends = refl }, (firm (codes "b]]") refl, tt)));
  is = refl;
}

-- a full stop behind a URL isn't of it, and a letter is
ends_before_stop : bare_url_at false (byte_glyphs (codes "http://k.")) ≡ Some (bare_shape 8)
unfolding bare_url_at scheme_len is_url_char is_dropped kept_len
ends_before_stop = refl

goes_on : bare_url_at false (byte_glyphs (codes "http://kx")) ≡ Some (bare_shape 9)
unfolding bare_url_at scheme_len is_url_char is_dropped kept_len
goes_on = refl
