-- Worked cases: two lines, and a line with a URL in it.
use Rattle.std.proofs.Common.{◌≡◌, false, None, List, [], ◌∷◌, ◌++◌, map, refl, sym, subst, inl}
use Rattle.std.specs.Prelude.{codes}
use Rattle.std.proofs.Math.Utf8.{encode}
use Rattle.wt_tree.specs.Plain.{text, ended, along}
use Rattle.wt_span.specs.declared.form.ItemForm.TheVariants as form
use Rattle.wt_span.specs.Items.{Item, char, whole}
use Rattle.wt_tree.specs.declared.edit_shape.Place.TheVariants.{Paragraph}
use Rattle.wt_guards.specs.declared.role.Role.TheVariants.{Bare}
use Rattle.wt_guards.specs.Content.{Thing, letter, thing}
use Rattle.wt_guards.specs.Guards.{Setting, nowiki, is_guarded, is_between_guard, is_start_guard, is_end_guard, is_blank_guard}
use Rattle.wt_guards.specs.Letters.{is_escaped, reference}
use Rattle.wt_guards.specs.Table.{hazard, line_start_hazard}
use Rattle.wt_lines.specs.Lines.{IsUnbroken}
use Rattle.wt_tiles.specs.declared.glyph.Glyph.{Glyph}
use Rattle.wt_tiles.specs.Glyphs.{glyph_of, byte_glyphs}
use Rattle.wt_tiles.specs.Urls.{scheme_len, is_url_char, is_dropped, kept_len, bare_shape, bare_url_at}
use Rattle.wt_text_edit_laws.specs.LonePages.{page_chars}
use Rattle.wt_inline.specs.declared.loose.Loose.TheVariants.{Text}
use Rattle.wt_inline.specs.Parts.{loose}
use Rattle.wt_context.specs.Line.{line_parts}
use Rattle.wt_beside_laws.specs.Cuts.{own_glyphs}
use Rattle.wt_beside_laws.specs.Flat.{IsFlatContent, content_parts, line_content}
use Rattle.wt_beside_laws.specs.Glyphs.{line_glyphs}
use Rattle.wt_beside_laws.specs.Kept.{AreFirm, characters}
use Rattle.wt_beside_laws.specs.Lines.{content_lines}
use Rattle.wt_beside_laws.specs.Nodes.{IsBareNode, IsOpenBefore}
use Rattle.wt_beside_laws.specs.Shown.{content_shown}
use Rattle.wt_beside_laws.proofs.Firm.{alone_as, firm_read}
use Rattle.wt_beside_laws.specs.PageSigns.{HasNoBreak}
use Rattle.wt_beside_laws.specs.NodeItems.{node_items}
use Rattle.wt_expand.specs.PageItems.{page_items}
use Rattle.wt_beside_laws.proofs.NodeItems.{node_as}
use Rattle.wt_beside_laws.proofs.OpenTags.{untagged_open}

abbrev in_paragraph : Setting
in_paragraph = record { within = false; place = Paragraph; source = [] }

abbrev url : Thing
url = record { role = Bare false; source = codes "http://k"; place = None }

-- `x`, a line break and `=y`: `<nowiki/>` is put before the `=`
two_lines : content_lines in_paragraph (letter 120 ∷ letter 10 ∷ letter 61 ∷ letter 121 ∷ [])
    ≡ (char None 120 ∷ []) ∷ (whole form.Nowiki None nowiki ∷ char None 61 ∷ char None 121 ∷ []) ∷ []
unfolding is_guarded is_between_guard is_start_guard is_end_guard is_blank_guard hazard line_start_hazard is_escaped encode
two_lines = refl

-- `<` at the end of a content is a reference, and before a line break it isn't
ends_apart : content_lines in_paragraph (letter 60 ∷ letter 10 ∷ letter 60 ∷ []) ≡ (char None 60 ∷ []) ∷ (whole (form.Entity 60) None (reference 60) ∷ []) ∷ []
unfolding is_guarded is_between_guard is_start_guard is_end_guard is_blank_guard hazard line_start_hazard is_escaped encode
ends_apart = refl

-- a blank, a URL, a line break and `x`
url_between : content_parts in_paragraph (letter 120 ∷ []) (letter 32 ∷ thing url ∷ letter 10 ∷ letter 120 ∷ [])
    ≡ loose Text None 32 ∷ (line_parts (node_items (codes "http://k")) ++ loose Text None 10 ∷ loose Text None 120 ∷ [])
unfolding is_guarded is_between_guard is_start_guard is_end_guard is_blank_guard hazard line_start_hazard is_escaped encode
url_between = refl

-- and its first line
url_last : line_content in_paragraph (letter 120 ∷ []) (letter 32 ∷ thing url ∷ letter 10 ∷ letter 120 ∷ [])
    ≡ loose Text None 32 ∷ (line_parts (node_items (codes "http://k")) ++ [])
unfolding is_guarded is_between_guard is_start_guard is_end_guard is_blank_guard hazard line_start_hazard is_escaped encode
url_last = refl

-- `x`, `<` at the content's end and `=` at a line's start show as they were typed
typed_shown : content_shown (letter 120 ∷ letter 10 ∷ letter 61 ∷ letter 60 ∷ []) ended ≡ along (text (120 ∷ 10 ∷ 61 ∷ 60 ∷ [])) ended
unfolding encode
typed_shown = refl

-- ---- `x`, a blank, a URL, a line break and `=` are such a content

scheme_firm : AreFirm (codes "http://k")
scheme_firm = (refl, (refl, (refl, (refl, (refl, (refl, (refl, (refl, tt))))))))

url_items : node_items (codes "http://k") ≡ page_chars (codes "http://k")
url_items = node_as (codes "http://k") (page_chars (codes "http://k")) (firm_read (codes "http://k") scheme_firm)

url_open : (behind : List Glyph) → IsOpenBefore (own_glyphs url) behind
url_open behind = subst (λ (xs : List Item). IsOpenBefore (map glyph_of xs) behind) (sym url_items) (untagged_open (byte_glyphs (codes "http://k")) behind refl)

url_page : page_items (codes "http://k") ≡ page_chars (codes "http://k")
url_page = alone_as (codes "http://k") (page_chars (codes "http://k")) (firm_read (codes "http://k") scheme_firm)

url_node : IsBareNode (byte_glyphs (codes "http://k"))
unfolding bare_url_at scheme_len is_url_char is_dropped kept_len
url_node = record { shape = bare_shape 8; first = 104; others = byte_glyphs (codes "ttp://k"); is = refl; unbracketed = refl; url = refl; whole = refl }

flat_lines : IsFlatContent in_paragraph (letter 120 ∷ letter 32 ∷ thing url ∷ letter 10 ∷ letter 61 ∷ [])
unfolding is_guarded is_between_guard is_start_guard is_end_guard is_blank_guard hazard line_start_hazard
flat_lines = record {
  of_block = refl;
  characters = (refl, (refl, (refl, (refl, tt))));
  kept = ((inl (record { parts = characters (codes "http://k") ∷ []; are = (scheme_firm, tt); is = refl }, subst HasNoBreak (sym url_page) (refl, (refl, (refl, (refl, (refl, (refl, (refl, (refl, tt))))))))), tt), tt);
  nodes = (subst (λ xs. IsBareNode (map glyph_of xs)) (sym url_items) url_node, tt);
  unbroken = (subst IsUnbroken (sym url_items) (refl, (refl, (refl, (refl, (refl, (refl, (refl, (refl, tt)))))))), tt);
  flat = (tt, tt);
  led = record { first = tt; others = ((λ e. absurd (cc)), tt) };
  meet = (tt, tt, (tt, tt, (tt, url_open (line_glyphs in_paragraph (thing url ∷ letter 32 ∷ letter 120 ∷ []) (letter 10 ∷ letter 61 ∷ [])), (tt, tt, (tt, tt, tt)))));
}
