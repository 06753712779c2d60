-- A heading beside calls and styles, as it is written, is a content in a folder, and a new one in the place of another one whose nodes it has; it holds its
-- calls, and shows what was sent.
use Rattle.std.proofs.Common.{◌≡◌, inl, inr, ℕ, false, None, List, [], ◌∷◌, ◌++◌, ap, append-nil, refl, subst, sym, ◌∙◌}
use Rattle.wt_span.specs.Items.{Item, char}
use Rattle.wt_span.specs.Origins.{OuterCall}
use Rattle.wt_tree.specs.Plain.{Plains, along, element, ended, plain_before}
use Rattle.wt_guards.specs.Content.{ContentSign, Thing}
use Rattle.wt_guards.specs.Guards.{Setting, spelled}
use Rattle.wt_context.specs.Line.{line_parts}
use Rattle.wt_annotated.specs.CutTexts.{cut_texts}
use Rattle.wt_expand.specs.PageCalls.{expanded_page}
use Rattle.wt_expand.specs.PageItems.{page_items}
use Rattle.wt_expand.specs.Work.{Entry, Pages}
use Rattle.wt_part_laws.specs.Expanded.{part_items}
use Rattle.wt_part_laws.specs.HeldCalls.{HoldsItsCalls, block_in}
use Rattle.wt_part_laws.specs.MovedCalls.{AreMoved}
use Rattle.wt_text_edit_laws.proofs.Between.ClosingTags.{Unclosed}
use Rattle.wt_text_edit_laws.proofs.Blocks.BlockReading.{firm_before, framed_front}
use Rattle.wt_text_edit_laws.proofs.Prose.InFront.{read_items, reads_nothing}
use Rattle.wt_text_edit_laws.specs.ReadContents.{IsFirmlyRead, IsReadContent}
use Rattle.wt_text_edit_laws.specs.TextBlocks.{IsFrame, a_heading, source_of}
use Rattle.wt_text_edit_laws.specs.TypedHeadings.{AreSides, Sides, heading_line, heading_round}
use Rattle.wt_beside_laws.proofs.Each.{Each}
use Rattle.wt_beside_laws.proofs.Made.Closes.{content_closes}
use Rattle.wt_beside_laws.proofs.Made.OldBlocks.{face_of}
use Rattle.wt_beside_laws.proofs.StyledGroups.Headings.{styled_heading_holds, styled_heading_parts, styled_heading_shows, styled_inside, styled_level}
use Rattle.wt_beside_laws.specs.Called.{AllSeenIn, items_with, owns_in}
use Rattle.wt_beside_laws.specs.Stood.{things}
use Rattle.wt_beside_laws.specs.Styled.{StyledContent, signs_in}
use Rattle.wt_beside_laws.specs.StyledCalls.{IsStyledCalledHeading, styled_with}
use Rattle.wt_called_edit_laws.proofs.Parts.LessBraces.{none_less}
use Rattle.wt_called_edit_laws.proofs.Headings.Framed.{framed_written}
use Rattle.wt_called_edit_laws.proofs.Headings.Held.{head_holds}
use Rattle.wt_called_edit_laws.proofs.Headings.Letters.{a_head, b_head}
use Rattle.wt_called_edit_laws.proofs.Headings.NewContents.{head_over}
use Rattle.wt_called_edit_laws.proofs.MovedOuters.{calls_after}
use Rattle.wt_called_edit_laws.proofs.Styles.Lined.{calls_put, open_page, open_put, signs_calls, work_put}
use Rattle.wt_called_edit_laws.proofs.Styles.Put.{put_seen}
use Rattle.wt_called_edit_laws.proofs.Styles.Shown.{folder_shown, shown_as}
use Rattle.wt_called_edit_laws.proofs.Styles.Things.{AreAmongPut}
use Rattle.wt_called_edit_laws.proofs.Styles.Whole.{groups_of}
use Rattle.wt_called_edit_laws.proofs.Styles.Written.{IsStyledInHeading, all_read, all_sealed, all_utf8, heading_in, signs_give}
use Rattle.wt_called_edit_laws.proofs.Written.FromPage.{by_sources, stay_both}
use Rattle.wt_called_edit_laws.proofs.Written.InPieces.{open_pieces, pieces_items, pieces_written}
use Rattle.wt_called_edit_laws.proofs.Written.Letters.{begun, rest_of, same_stay, sources_spread, sources_things, spelled_a, spelled_b, spread}
use Rattle.wt_called_edit_laws.proofs.Written.NewContents.{OpenAt, break_read, calls_by, calls_of, calls_stay, each_stays, from_utf8, open_nodes, turned, work_by, work_of, work_stays}
use Rattle.wt_called_edit_laws.proofs.Written.Reads.{called_firm}
use Rattle.wt_called_edit_laws.specs.CalledContents.{AreHeadingItems, tree_round}
use Rattle.wt_called_edit_laws.specs.CallingBlocks.{IsContentIn, IsNewContentIn}
use Rattle.wt_called_edit_laws.specs.CallingEdits.{TakesLetters}
use Rattle.wt_called_edit_laws.specs.InPieces.{AreInPieces, pieces_source}
use Rattle.wt_called_edit_laws.specs.PageThings.{ArePageThings, ThingsStay, thing_sources}
use Rattle.wt_called_edit_laws.specs.Parts.{left_of, work_in}
use Rattle.wt_called_edit_laws.specs.Retyped.{AreSomeOf}
use Rattle.wt_called_edit_laws.specs.WholeContents.{IsWholeIn}
use Rattle.wt_called_edit_laws.specs.Written.{IsWrittenAs, written_calls, written_items, written_work}
use Rattle.wt_called_edit_laws.specs.WrittenAnew.{HoldsAnywhere, IsWrittenInHeading, StayButForOthers, node_sources}

-- ---- what is last in each

pub seen_among : (pages : Pages) (fs news : List Thing) → AreAmongPut fs news → AllSeenIn pages fs → AllSeenIn pages news
seen_among pages fs [] a h = tt
seen_among pages fs (d ∷ ds) a h = elim a [
  | inl p ↦ (put_seen pages d p.0, seen_among pages fs ds p.1 h)
  | inr q ↦ let own : AllSeenIn pages (d ∷ q.0) = subst (AllSeenIn pages) q.1 h in (own.0, seen_among pages q.0 ds q.2 own.1)
]

-- ---- it is read by itself

firm_so : (pages : Pages) (s : Setting) (t : StyledContent) (w : Sides) → IsStyledInHeading pages s t → IsFirmlyRead (a_heading w) (spelled s (signs_in t))
firm_so pages s t w h = called_firm (a_heading w) s (signs_in t) h.of_block (all_read pages (signs_in t) h.each)

head_read : (pages : Pages) (s : Setting) (t : StyledContent) (w : Sides) → IsFrame w → IsStyledInHeading pages s t
    → IsReadContent (a_heading w) (spelled s (signs_in t))
head_read pages s t w f h =
    let q : List ℕ = spelled s (signs_in t) in
    let line : List ℕ = source_of (a_heading w) q in
    let own : List Item = heading_line w (page_items q) in
    record {
      utf8 = from_utf8 s [] (signs_in t) h.characters (all_utf8 pages (signs_in t) h.each);
      ended = read_items (line ++ 10 ∷ []) (own ++ char None 10 ∷ [])
          (framed_front w q (10 ∷ []) (char None 10 ∷ []) f (firm_before (a_heading w) q (firm_so pages s t w h)) refl break_read);
      unended = ap page_items (sym (append-nil line))
          ∙ read_items (line ++ []) (own ++ []) (framed_front w q [] [] f (firm_before (a_heading w) q (firm_so pages s t w h)) tt reads_nothing)
          ∙ append-nil own;
      begins = f;
    }

-- ---- and is a heading's content, by what its calls give

own_written : (pages : Pages) (s : Setting) (t : StyledContent) → IsStyledInHeading pages s t
    → IsWrittenAs pages (spelled s (signs_in t)) (λ i. written_items pages s i [] (signs_in t)) (written_calls pages (signs_in t)) (written_work pages (signs_in t))
own_written pages s t h = signs_calls pages s (signs_in t) h.of_block h.each

pub styled_head_written : (pages : Pages) (s : Setting) (t : StyledContent) (w : Sides) → IsFrame w → IsStyledInHeading pages s t
    → IsWrittenAs pages (source_of (a_heading w) (spelled s (signs_in t))) (λ i. heading_line w (written_items pages s i [] (signs_in t))) (written_calls pages (signs_in t))
    (written_work pages (signs_in t))
styled_head_written pages s t w f h =
    framed_written pages w (spelled s (signs_in t)) (λ i. written_items pages s i [] (signs_in t)) (written_calls pages (signs_in t)) (written_work pages (signs_in t))
    (head_read pages s t w f h) (own_written pages s t h)

head_gives : (pages : Pages) (i : ℕ) (s : Setting) (t : StyledContent) → IsStyledInHeading pages s t
    → part_items pages i (spelled s (signs_in t)) ≡ items_with s [] (signs_in t) (owns_in pages i (signs_in t))
head_gives pages i s t h = signs_give pages i s (signs_in t) h.of_block h.each

head_is : (s : Setting) (t : StyledContent) (owns : List (List Item)) (w : Sides) → IsFrame w → IsStyledCalledHeading s t owns
    → AreHeadingItems w (items_with s [] (signs_in t) owns)
head_is s t owns w f h = record { sides = f.sides; inside = inl (styled_inside s t owns h); of_level = styled_level s t owns w h f.sides }

head_content : (pages : Pages) (s : Setting) (t : StyledContent) (w : Sides) → IsFrame w → IsStyledInHeading pages s t
    → IsContentIn pages (a_heading w) (spelled s (signs_in t))
head_content pages s t w f h =
    let all = styled_head_written pages s t w f h in
    let own = own_written pages s t h in
    let part = all.part in
    record {
      read = head_read pages s t w f h;
      anywhere = part.anywhere;
      items = λ i. all.items_are i ∙ ap (heading_line w) (sym (own.items_are i));
      is = λ i. subst (AreHeadingItems w) (sym (head_gives pages i s t h))
          (head_is s t (owns_in pages i (signs_in t)) w f (heading_in pages i s t h));
    }

-- ---- in the place of any content that has the calls and the work of nodes that it holds

styled_head_over : (pages : Pages) (w : Sides) (q : List ℕ) (bs : List (List ℕ)) (items : ℕ → List Item) (s : Setting) (t : StyledContent) (fs : List Thing)
    → IsReadContent (a_heading w) q → IsWrittenAs pages q items (calls_of pages bs) (work_of pages bs)
    → ((name us : List ℕ) → Unclosed name (q ++ us) → Each (OpenAt name) bs) → IsStyledInHeading pages s t → AreAmongPut fs (things (signs_in t))
    → StayButForOthers pages bs (thing_sources fs) → IsNewContentIn pages (a_heading w) q (spelled s (signs_in t))
styled_head_over pages w q bs items s t fs read was opens h a e =
    let f : IsFrame w = read.begins in
    let signs : List ContentSign = signs_in t in
    let line : List ℕ = source_of (a_heading w) q in
    let r : List ℕ = source_of (a_heading w) (spelled s signs) in
    let old = framed_written pages w q items (calls_of pages bs) (work_of pages bs) read was in
    let b = styled_head_written pages s t w f h in
    let part = b.part in
    let same : node_sources signs ≡ thing_sources (things signs) = sources_things signs in
    let calls : calls_of pages bs ≡ written_calls pages signs =
    calls_stay pages bs (thing_sources fs) e ∙ sym (calls_by pages signs ∙ ap (calls_of pages) same ∙ calls_put pages fs (things signs) a) in
    let now_work : work_in pages r ≡ work_of pages (thing_sources fs) = b.work_is ∙ work_by pages signs ∙ ap (work_of pages) same ∙ work_put pages fs (things signs) a in
    let new : AreMoved (calls_of pages bs) (expanded_page pages r).outer =
    subst (λ (cs : List OuterCall). AreMoved cs (expanded_page pages r).outer) (sym calls) b.calls_are in
    record {
      part = record {
        read = record {
          read = head_read pages s t w f h;
          firm = firm_so pages s t w h;
          closes = λ name us vs o v.
              content_closes s [] signs name vs (open_put name fs (things signs) a (each_stays (OpenAt name) pages bs (thing_sources fs) e (opens name us o)))
              (all_sealed pages signs h.each) v;
        };
        anywhere = part.anywhere;
        left = none_less (left_of r) (left_of line) part.left;
        undeep = λ i. part.undeep;
        work = subst (λ (es : List Entry). AreSomeOf es (work_in pages line)) (sym now_work)
            (subst (λ (es : List Entry). AreSomeOf (work_of pages (thing_sources fs)) es) (sym old.work_is) (work_stays pages bs (thing_sources fs) e));
      };
      content = head_content pages s t w f h;
      calls = calls_after (expanded_page pages line).outer (calls_of pages bs) (expanded_page pages r).outer
          (turned (calls_of pages bs) (expanded_page pages line).outer old.calls_are) new;
      stays = λ i n. tt;
    }

-- in the place of the page's
pub styled_head_takes : (pages : Pages) (w : Sides) (bs : List (List ℕ)) (olds fs : List Thing) (s : Setting) (t : StyledContent)
    → IsReadContent (a_heading w) (pieces_source bs) → AreInPieces pages bs → StayButForOthers pages bs (thing_sources olds) → ThingsStay pages olds fs
    → IsStyledInHeading pages s t → AreAmongPut fs (things (signs_in t)) → IsNewContentIn pages (a_heading w) (pieces_source bs) (spelled s (signs_in t))
styled_head_takes pages w bs olds fs s t r p q k h a =
    styled_head_over pages w (pieces_source bs) bs (λ i. pieces_items pages i bs) s t fs r (pieces_written pages bs p) (λ name us o. open_pieces name us bs o) h a
    (stay_both pages bs (thing_sources olds) (thing_sources fs) q (by_sources pages olds fs k))

-- ---- letters may be typed in its place

pub styled_head_letters : (pages : Pages) (s : Setting) (t : StyledContent) (w : Sides) (fs : List Thing) → IsFrame w → IsStyledInHeading pages s t
    → AreAmongPut fs (things (signs_in t)) → ArePageThings pages fs → AllSeenIn pages fs → TakesLetters pages (a_heading w) (spelled s (signs_in t))
styled_head_letters pages s t w fs f h a own seen =
    let signs : List ContentSign = signs_in t in
    let q : List ℕ = spelled s signs in
    let items : ℕ → List Item = λ i. written_items pages s i [] signs in
    let same : node_sources signs ≡ thing_sources (things signs) = sources_things signs in
    let calls : written_calls pages signs ≡ calls_of pages (thing_sources fs) = calls_by pages signs ∙ ap (calls_of pages) same ∙ calls_put pages fs (things signs) a in
    let work : written_work pages signs ≡ work_of pages (thing_sources fs) = work_by pages signs ∙ ap (work_of pages) same ∙ work_put pages fs (things signs) a in
    let was : IsWrittenAs pages q items (calls_of pages (thing_sources fs)) (work_of pages (thing_sources fs)) =
    subst (λ (cs : List OuterCall). IsWrittenAs pages q items cs (work_of pages (thing_sources fs))) calls
    (subst (λ (es : List Entry). IsWrittenAs pages q items (written_calls pages signs) es) work (own_written pages s t h)) in
    let opens : (name us : List ℕ) → Unclosed name (q ++ us) → Each (OpenAt name) (thing_sources fs) =
    λ name us o. open_page name fs (things signs) a (subst (Each (OpenAt name)) same (open_nodes s [] signs name us o)) in
    let stay : StayButForOthers pages (thing_sources fs) (node_sources (spread fs)) =
    subst (StayButForOthers pages (thing_sources fs)) (sym (sources_spread fs)) (same_stay pages (thing_sources fs)) in
    let read : IsReadContent (a_heading w) q = head_read pages s t w f h in
    let one : IsWrittenInHeading pages s (begun 97 fs) = a_head pages s fs h.of_block h.of_heading own seen in
    let other : IsWrittenInHeading pages s (begun 98 fs) = b_head pages s fs h.of_block h.of_heading own seen in
    record {
      rest = rest_of s fs;
      one = subst (IsNewContentIn pages (a_heading w) q) (spelled_a s fs)
          (head_over pages w q (thing_sources fs) items s (begun 97 fs) read was opens one stay);
      other = subst (IsNewContentIn pages (a_heading w) q) (spelled_b s fs)
          (head_over pages w q (thing_sources fs) items s (begun 98 fs) read was opens other stay);
      one_holds = subst (HoldsAnywhere pages (a_heading w)) (spelled_a s fs) (head_holds pages s (begun 97 fs) w f.sides one);
      other_holds = subst (HoldsAnywhere pages (a_heading w)) (spelled_b s fs) (head_holds pages s (begun 98 fs) w f.sides other);
    }

-- ---- it can be read by itself, holds its calls, and shows what was sent

pub styled_head_whole : (pages : Pages) (s : Setting) (t : StyledContent) (w : Sides) → IsFrame w → IsStyledInHeading pages s t
    → IsWholeIn pages (a_heading w) (spelled s (signs_in t))
styled_head_whole pages s t w f h =
    let signs : List ContentSign = signs_in t in
    let b = styled_head_written pages s t w f h in
    inr (
    groups_of pages (a_heading w) s t h.each h.nested (λ i. let own = heading_in pages i s t h in own.own) (λ i. head_gives pages i s t h)
    (λ i. ap line_parts (head_gives pages i s t h) ∙ styled_heading_parts s t (owns_in pages i signs) (heading_in pages i s t h)) b.calls_are
    )

pub styled_head_anywhere : (pages : Pages) (s : Setting) (t : StyledContent) (w : Sides) → AreSides w → IsStyledInHeading pages s t
    → HoldsAnywhere pages (a_heading w) (spelled s (signs_in t))
styled_head_anywhere pages s t w a h = λ i.
    subst (λ (xs : List Item). HoldsItsCalls (heading_round w xs)) (sym (head_gives pages i s t h))
    (styled_heading_holds s t (owns_in pages i (signs_in t)) w (heading_in pages i s t h) a)

pub styled_head_shows : (pages : Pages) (calls : List OuterCall) (i : ℕ) (s : Setting) (t : StyledContent) (w : Sides) (rest : Plains) → AreSides w
    → IsStyledInHeading pages s t
    → plain_before (cut_texts (block_in calls (tree_round (a_heading w) (part_items pages i (spelled s (signs_in t)))))) rest
    ≡ along (element (face_of (a_heading w)) (folder_shown pages i t ended)) rest
styled_head_shows pages calls i s t w rest a h =
    ap (λ (xs : List Item). plain_before (cut_texts (block_in calls (heading_round w xs))) rest) (head_gives pages i s t h)
    ∙ styled_heading_shows calls s t (owns_in pages i (signs_in t)) w rest (heading_in pages i s t h) a
    ∙ ap (λ (qs : Plains). along (element (face_of (a_heading w)) qs) rest) (shown_as pages i t [] ended)
