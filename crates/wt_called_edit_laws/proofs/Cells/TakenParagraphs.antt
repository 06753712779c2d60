-- Paragraphs of the body as the page has them: texts and contents are taken in them.
use Rattle.std.proofs.Common.{◌≡◌, ℕ, List, [], ◌∷◌, ◌++◌, sym, ap, ◌∙◌, subst, append_assoc}
use Rattle.std.proofs.lemmas.Grind.{flat_map-append}
use Rattle.wt_span.specs.Items.{Item, source, sources}
use Rattle.wt_expand.specs.PageItems.{page_items}
use Rattle.wt_expand.specs.Work.{Pages}
use Rattle.wt_lines.specs.Lines.{lines}
use Rattle.wt_page.specs.Rows.{Row}
use Rattle.wt_text_edit_laws.specs.BlockSpots.{spots_source, AreRead}
use Rattle.wt_text_edit_laws.specs.BodyParagraphs.{IsParagraphAt, spot_at, IsFreeParagraph}
use Rattle.wt_text_edit_laws.specs.NoCalls.{CallsNothing}
use Rattle.wt_text_edit_laws.specs.TextBlocks.{a_paragraph}
use Rattle.wt_text_edit_laws.proofs.Paragraphs.SeenLines.{lines_seen}
use Rattle.wt_text_edit_laws.proofs.Cuts.ItemCuts.{behind_alone}
use Rattle.wt_beside_laws.specs.Calm.{AreUtf8Nodes}
use Rattle.wt_beside_laws.specs.Content.{AreKept}
use Rattle.wt_beside_laws.specs.FlatBlocks.{lines_in}
use Rattle.wt_beside_laws.specs.HeldLines.{AreHeldLines}
use Rattle.wt_beside_laws.specs.PageSigns.{signs_of_lines}
use Rattle.wt_beside_laws.specs.StyledIn.{IsStyledIn}
use Rattle.wt_beside_laws.proofs.Derived.BlockContents.{there_begins, first_unbraced, calm_between}
use Rattle.wt_beside_laws.proofs.Derived.BodyRead.{there_so, parts_are, body_read}
use Rattle.wt_beside_laws.proofs.Styled.OldShut.{content_styled}
use Rattle.wt_called_edit_laws.specs.CalledTexts.{TakesTextsAmong}
use Rattle.wt_called_edit_laws.specs.ContentsTaken.{TakesContents}
use Rattle.wt_called_edit_laws.proofs.CallsTake.{contents_taken}
use Rattle.wt_called_edit_laws.proofs.Cells.OwnParagraphs.{body_called}
use Rattle.wt_called_edit_laws.proofs.Cells.PlacedBlocks.{own_alone}
use Rattle.wt_called_edit_laws.proofs.TextsTaken.{texts_taken}

-- ---- what is taken in it

pub body_whole : (page : List ℕ) (r : Row) (rs : List Row) (p : IsParagraphAt (page_items page) r rs)
    → spots_source (spot_at p.before p.own ∷ []) (sources p.rest) ≡ page
body_whole page r rs p = parts_are page p.before p.own p.rest p.is

pub body_texts : (pages : Pages) (page : List ℕ) (r : Row) (rs : List Row) (p : IsParagraphAt (page_items page) r rs) → IsFreeParagraph page p.own p.rest
    → TakesTextsAmong pages (spot_at p.before p.own ∷ []) (sources p.rest)
body_texts pages page r rs p f = texts_taken pages (spot_at p.before p.own ∷ []) (sources p.rest) (body_called pages page r rs p f)

pub body_contents : (pages : Pages) (page : List ℕ) (r : Row) (rs : List Row) (p : IsParagraphAt (page_items page) r rs) → IsFreeParagraph page p.own p.rest
    → TakesContents pages (spot_at p.before p.own ∷ []) (sources p.rest)
body_contents pages page r rs p f = contents_taken pages (spot_at p.before p.own ∷ []) (sources p.rest) (body_called pages page r rs p f)

-- ---- nodes of it stay

record OwnItems (own rest : List Item) : Type 0 where
  alone : page_items (sources own) ≡ own
  behind : page_items (sources rest) ≡ rest

own_items : (page : List ℕ) (r : Row) (rs : List Row) (p : IsParagraphAt (page_items page) r rs) → OwnItems p.own p.rest
own_items page r rs p =
    let sb : List ℕ = sources p.before in
    let so : List ℕ = sources p.own in
    let sr : List ℕ = sources p.rest in
    let all : page_items (sb ++ (so ++ sr)) ≡ p.before ++ (p.own ++ p.rest) = ap page_items (parts_are page p.before p.own p.rest p.is) ∙ p.is in
    let joined : page_items ((sb ++ so) ++ sr) ≡ (p.before ++ p.own) ++ p.rest =
    ap page_items (append_assoc sb so sr) ∙ all ∙ sym (append_assoc p.before p.own p.rest) in
    record {
      alone = own_alone p.before p.own p.rest all (record { seen = lines_seen p.own p.text.seen; unled = p.text.unled });
      behind = behind_alone (sb ++ so) sr (p.before ++ p.own) p.rest (there_begins sr (there_so p.rest p.ends)) joined (flat_map-append source p.before p.own);
    }

pub body_styled : (page : List ℕ) (r : Row) (rs : List Row) (p : IsParagraphAt (page_items page) r rs) → IsFreeParagraph page p.own p.rest
    → AreHeldLines (lines p.own) → AreKept (signs_of_lines 0 (lines p.own)) → AreUtf8Nodes (signs_of_lines 0 (lines p.own)) → IsStyledIn a_paragraph (sources p.own)
body_styled page r rs p f held kept utf8 =
    let so : List ℕ = sources p.own in
    let read : AreRead (spot_at p.before p.own ∷ []) (sources p.rest) = body_read page r rs p f in
    let items : OwnItems p.own p.rest = own_items page r rs p in
    let whole : CallsNothing (p.before ++ (p.own ++ p.rest)) = subst CallsNothing p.is f.calls_nothing in
    let own : CallsNothing p.own =
    calm_between p.before p.own p.rest (first_unbraced (sources p.rest) p.rest (there_so p.rest p.ends) items.behind) whole in
    let same : lines_in a_paragraph so ≡ lines p.own = ap lines items.alone in
    content_styled a_paragraph so read.0.block (subst CallsNothing (sym items.alone) own)
    (subst AreHeldLines (sym same) held)
    (subst (λ (ls : List (List Item)). AreKept (signs_of_lines 0 ls)) (sym same) kept)
    (subst (λ (ls : List (List Item)). AreUtf8Nodes (signs_of_lines 0 ls)) (sym same) utf8)
