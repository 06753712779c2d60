-- A page that calls nothing, with a paragraph of its body as the page has it: its content may be edited.
use Rattle.std.proofs.Common.{◌≡◌, ℕ, Bool, List, [], ◌∷◌, ◌++◌, length, All, refl, sym, ap, ◌∙◌, subst, append_assoc, inl}
use Rattle.std.proofs.lemmas.Grind.{flat_map-append}
use Rattle.wt_span.specs.Items.{Item, source, sources}
use Rattle.wt_expand.specs.PageItems.{page_items}
use Rattle.wt_expand.specs.Work.{Pages}
use Rattle.wt_lines.specs.Lines.{lines}
use Rattle.wt_page.specs.Rows.{Row}
use Rattle.wt_part_laws.specs.Slots.{AllTrue}
use Rattle.wt_text_edit_laws.specs.BlockSpots.{AreRead}
use Rattle.wt_text_edit_laws.specs.BodyParagraphs.{IsParagraphAt, spot_at, IsFreeParagraph}
use Rattle.wt_text_edit_laws.specs.ParagraphBetween.{EndsApart, EndsParagraph}
use Rattle.wt_text_edit_laws.specs.Paragraphs.{IsTextLine}
use Rattle.wt_text_edit_laws.specs.Parts.{HasNoGroups}
use Rattle.wt_text_edit_laws.specs.TextBlocks.{a_paragraph}
use Rattle.wt_text_edit_laws.proofs.Paragraphs.SeenLines.{lines_seen}
use Rattle.wt_text_edit_laws.proofs.Cuts.ItemCuts.{front_alone, behind_alone}
use Rattle.wt_beside_laws.proofs.Derived.BlockContents.{there_begins}
use Rattle.wt_beside_laws.proofs.Derived.BodyRead.{there_so, parts_are, body_read}
use Rattle.wt_called_edit_laws.specs.AnyBlocks.{open_behind_part, LeadsInto, EndsAfter}
use Rattle.wt_called_edit_laws.specs.CalledContents.{StayText}
use Rattle.wt_called_edit_laws.specs.CalledPages.{IsCalledPage}
use Rattle.wt_called_edit_laws.specs.ItemSpots.{AreContentSpots}
use Rattle.wt_called_edit_laws.proofs.CalmPages.{calm_contents}
use Rattle.wt_called_edit_laws.proofs.Cells.ContentItems.{content_items}
use Rattle.wt_called_edit_laws.proofs.Cells.PlacedBlocks.{own_alone}
use Rattle.wt_called_edit_laws.proofs.Cells.BodyPages.{none_open, last_ends}

leads : (xs : List Item) → EndsApart xs → LeadsInto a_paragraph [] xs
leads xs h = record {
  whole = inl h.are_closed.whole;
  in_cells = subst AllTrue (sym (none_open xs h.are_closed)) tt;
  apart = h.apart;
}

stays : (xs own : List Item) → EndsApart xs → All IsTextLine (lines own) → StayText a_paragraph (length (open_behind_part [] xs)) own
stays xs own h texts = subst (λ (bs : List Bool). StayText a_paragraph (length bs) own) (sym (none_open xs h.are_closed)) texts

ends : (xs ys : List Item) → EndsApart xs → EndsParagraph ys → EndsAfter a_paragraph (length (open_behind_part [] xs)) ys
ends xs ys h e = subst (λ (bs : List Bool). EndsAfter a_paragraph (length bs) ys) (sym (none_open xs h.are_closed)) (last_ends a_paragraph ys e)

pub body_spots_are : (page : List ℕ) (r : Row) (rs : List Row) (p : IsParagraphAt (page_items page) r rs) → IsFreeParagraph page p.own p.rest
    → AreContentSpots (spot_at p.before p.own ∷ []) (sources p.rest)
body_spots_are page r rs p f =
    let sb : List ℕ = sources p.before in
    let so : List ℕ = sources p.own in
    let sr : List ℕ = sources p.rest in
    let same : sb ++ (so ++ sr) ≡ page = parts_are page p.before p.own p.rest p.is in
    let read : AreRead (spot_at p.before p.own ∷ []) sr = body_read page r rs p f in
    let all : page_items (sb ++ (so ++ sr)) ≡ p.before ++ (p.own ++ p.rest) = ap page_items same ∙ p.is in
    let front : page_items sb ≡ p.before = front_alone sb (so ++ sr) p.before (p.own ++ p.rest) all refl in
    let joined : page_items ((sb ++ so) ++ sr) ≡ (p.before ++ p.own) ++ p.rest =
    ap page_items (append_assoc sb so sr) ∙ all ∙ sym (append_assoc p.before p.own p.rest) in
    let mine : page_items so ≡ p.own = own_alone p.before p.own p.rest all (record { seen = lines_seen p.own p.text.seen; unled = p.text.unled }) in
    let last : page_items sr ≡ p.rest =
    behind_alone (sb ++ so) sr (p.before ++ p.own) p.rest (there_begins sr (there_so p.rest p.ends)) joined (flat_map-append source p.before p.own) in
    let apart : EndsApart (page_items sb) = subst EndsApart (sym front) p.apart in
    let ended : EndsParagraph (page_items sr) = subst EndsParagraph (sym last) p.ends in
    record {
      read = read;
      placed = (
        (content_items a_paragraph so read.0.block, leads (page_items sb) apart, inl (stays (page_items sb) (page_items so) apart (subst (λ (ys : List Item). All IsTextLine (lines ys)) (sym mine) p.lines_are))),
        ends (page_items sb) (page_items sr) apart ended,
      );
      ungrouped = subst HasNoGroups (sym same) f.ungrouped;
    }

pub body_called : (pages : Pages) (page : List ℕ) (r : Row) (rs : List Row) (p : IsParagraphAt (page_items page) r rs) → IsFreeParagraph page p.own p.rest
    → IsCalledPage pages (spot_at p.before p.own ∷ []) (sources p.rest)
body_called pages page r rs p f =
    calm_contents pages (spot_at p.before p.own ∷ []) (sources p.rest) (body_spots_are page r rs p f)
