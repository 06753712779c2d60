-- What such a text means as a page: a body that holds one paragraph, which holds one text.
use Rattle.std.proofs.Common.{◌≡◌, ℕ, true, false, List, [], ◌∷◌, refl, sym, ap, ◌∙◌, subst, All}
use Rattle.std.specs.List.{list_all}
use Rattle.std.specs.Prelude.{codes}
use Rattle.wt_span.specs.Items.{Item}
use Rattle.wt_tree.specs.declared.edit_shape.Place.TheVariants as place
use Rattle.wt_guards.specs.Content.{letters}
use Rattle.wt_guards.specs.Guards.{Setting, spelled}
use Rattle.wt_lines.specs.declared.kind.LineKind.TheVariants as line
use Rattle.wt_lines.specs.Lines.{lines}
use Rattle.wt_lines.specs.Kinds.{line_kind}
use Rattle.wt_expand.specs.PageItems.{page_items}
use Rattle.wt_typed_blocks.specs.Reading.{stands}
use Rattle.wt_typed_blocks.proofs.Signs.{no_styles, no_switches, no_addresses}
use Rattle.wt_typed_blocks.proofs.TextKinds.{lines_are_text}
use Rattle.wt_page.specs.Body.{meaning}
use Rattle.wt_text_edit_laws.specs.PlainTexts.{is_plain, IsPlainText}
use Rattle.wt_text_edit_laws.specs.LonePages.{page_chars, lone_body}
use Rattle.wt_text_edit_laws.proofs.Texts.PlainBytes.{plain_bytes}
use Rattle.wt_text_edit_laws.proofs.Texts.PlainPages.{plain_items}
use Rattle.wt_text_edit_laws.specs.StillItems.{StillItems}
use Rattle.wt_text_edit_laws.proofs.Texts.StillLines.{still_bytes}
use Rattle.wt_text_edit_laws.proofs.Texts.PlainRows.{meaning_by}
use Rattle.wt_text_edit_laws.proofs.Texts.PlainSpelling.{plain_spelled}

abbrev IsText : List Item → Type 0
IsText l = line_kind 0 l ≡ line.Text

-- by the signs that stand nowhere in what is spelled
still_text : (text : List ℕ) → IsPlainText text → StillItems (page_chars text)
still_text text h =
    let s : Setting = record { within = false; place = place.Paragraph; source = [] } in
    let is : spelled s (letters text) ≡ text = plain_spelled [] text h in
    still_bytes text (plain_bytes text h) (sym (ap (stands (codes "''")) is) ∙ no_styles s text) (sym (ap (stands (codes "__")) is) ∙ no_switches s text)
    (sym (ap (stands (codes "://")) is) ∙ no_addresses s text)

pub meaning_is : (b : ℕ) (bs : List ℕ) → IsPlainText (b ∷ bs) → meaning (page_chars (b ∷ bs)) ≡ lone_body (page_chars (b ∷ bs))
meaning_is b bs h =
    let s : Setting = record { within = false; place = place.Paragraph; source = [] } in
    let plain : list_all is_plain (b ∷ bs) ≡ true = plain_bytes (b ∷ bs) h in
    let items : page_items (spelled s (letters (b ∷ bs))) ≡ page_chars (b ∷ bs) = ap page_items (plain_spelled [] (b ∷ bs) h) ∙ plain_items b bs plain in
    meaning_by b bs (still_text (b ∷ bs) h) (subst (λ xs. All IsText (lines xs)) items (lines_are_text s (b ∷ bs) 0 h.utf8 refl))
