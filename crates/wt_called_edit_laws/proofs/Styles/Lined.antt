-- A paragraph beside calls and styles, as it is written, is a content in a folder, and a new one in the place of another one whose nodes it has; those that
-- don't call may go.
use Rattle.std.proofs.Common.{◌≡◌, inl, inr, ℕ, Bool, true, false, None, List, [], ◌∷◌, ◌++◌, ap, append-nil, refl, subst, sym, ◌∙◌}
use Rattle.wt_span.specs.Items.{Item, char}
use Rattle.wt_span.specs.Origins.{OuterCall}
use Rattle.wt_guards.specs.Content.{ContentSign, Thing, letter, thing}
use Rattle.wt_guards.specs.Guards.{Setting, is_guarded, spelled}
use Rattle.wt_guards.specs.Letters.{is_escaped}
use Rattle.wt_guards.specs.declared.role.Role.TheVariants.{Toggle}
use Rattle.wt_expand.specs.PageCalls.{expanded_page}
use Rattle.wt_expand.specs.PageItems.{page_items}
use Rattle.wt_expand.specs.Work.{Entry, Pages}
use Rattle.wt_part_laws.specs.Expanded.{part_items}
use Rattle.wt_part_laws.specs.MovedCalls.{AreMoved}
use Rattle.wt_typed_blocks.proofs.Lines.{unguarded_begins}
use Rattle.wt_lines.specs.Lines.{lines}
use Rattle.wt_text_edit_laws.proofs.Cuts.Seen.{stands_begins}
use Rattle.wt_text_edit_laws.proofs.Paragraphs.SeenLines.{texts_seen}
use Rattle.wt_text_edit_laws.proofs.Between.ClosingTags.{Unclosed}
use Rattle.wt_text_edit_laws.proofs.Prose.InFront.{read_items}
use Rattle.wt_text_edit_laws.specs.ReadContents.{BeginsParagraph, IsFirmlyRead, IsReadContent, begins_shown}
use Rattle.wt_text_edit_laws.specs.TextBetween.{StandsBehind}
use Rattle.wt_text_edit_laws.specs.TextBlocks.{a_paragraph}
use Rattle.wt_beside_laws.proofs.Each.{Each}
use Rattle.wt_beside_laws.proofs.Groups.CalledLines.{items_own}
use Rattle.wt_beside_laws.proofs.LineKinds.{guard_opens, letter_opens}
use Rattle.wt_beside_laws.proofs.Made.Closes.{OpenFor, content_closes}
use Rattle.wt_beside_laws.proofs.StyledGroups.Paragraphs.{given_lines, given_unled}
use Rattle.wt_beside_laws.specs.Called.{AreGiven, HasUncalled, items_with, owns_in}
use Rattle.wt_beside_laws.specs.Content.{content_items, guard_items, letter_items}
use Rattle.wt_beside_laws.specs.Lines.{AreCharacters}
use Rattle.wt_beside_laws.specs.NodeItems.{node_items}
use Rattle.wt_beside_laws.specs.Stood.{things}
use Rattle.wt_beside_laws.specs.Styled.{StyledContent, delimiter, finished, mark_source, sign, signs_before, signs_in, styled}
use Rattle.wt_beside_laws.specs.StyledNodes.{IsPut}
use Rattle.wt_called_edit_laws.proofs.Parts.LessBraces.{none_less}
use Rattle.wt_called_edit_laws.proofs.MovedOuters.{calls_after}
use Rattle.wt_called_edit_laws.proofs.Styles.Put.{put_open, put_outer, put_source, put_work}
use Rattle.wt_called_edit_laws.proofs.Styles.Things.{AreAmongPut, AreStyledThings}
use Rattle.wt_called_edit_laws.proofs.Styles.Written.{IsStyledWritten, all_given, all_parts, all_read, all_sealed, all_utf8, styled_gives}
use Rattle.wt_called_edit_laws.proofs.Written.FromPage.{by_sources, stay_both}
use Rattle.wt_called_edit_laws.proofs.Written.InPieces.{open_pieces, pieces_written}
use Rattle.wt_called_edit_laws.proofs.Written.Letters.{a_beside, b_beside, begun, same_stay, sources_spread, sources_things, spread, takes}
use Rattle.wt_called_edit_laws.proofs.Written.NewContents.{OpenAt, break_read, break_stands, calls_by, calls_of, calls_stay, each_stays, from_utf8, nothing_stands, open_nodes, opens_shown, thing_shown, turned, work_by, work_of, work_stays, written_over}
use Rattle.wt_called_edit_laws.proofs.Written.Reads.{called_alone, called_firm}
use Rattle.wt_called_edit_laws.proofs.Written.Signs.{content_written}
use Rattle.wt_called_edit_laws.specs.CalledContents.{AreTextItems}
use Rattle.wt_called_edit_laws.specs.CallingBlocks.{IsContentIn, IsNewContentIn}
use Rattle.wt_called_edit_laws.specs.CallingEdits.{TakesLetters}
use Rattle.wt_called_edit_laws.specs.InCells.{AreTextLines}
use Rattle.wt_called_edit_laws.specs.InPieces.{AreInPieces, pieces_source}
use Rattle.wt_called_edit_laws.specs.PageThings.{ArePageThings, ThingsStay, thing_sources}
use Rattle.wt_called_edit_laws.specs.Parts.{left_of, work_in}
use Rattle.wt_called_edit_laws.specs.Retyped.{AreSomeOf}
use Rattle.wt_called_edit_laws.specs.Written.{AreReadThings, IsReadThing, IsWrittenAs, written_calls, written_items, written_work}
use Rattle.wt_called_edit_laws.specs.WrittenAnew.{IsWrittenBeside, StayButForOthers, node_sources}

-- ---- its first line isn't blank

thing_first : (s : Setting) (x : Thing) (after : List ContentSign) → s.within ≡ false → IsReadThing x → begins_shown (content_items s [] (thing x ∷ after)) ≡ true
thing_first s x after w r = by (is_guarded s [] (thing x ∷ after)) refl
  where
    by : (u : Bool) → is_guarded s [] (thing x ∷ after) ≡ u → begins_shown (guard_items u ++ (node_items x.source ++ content_items s (thing x ∷ []) after)) ≡ true
    by true g =
        let more : List Item = node_items x.source ++ content_items s (thing x ∷ []) after in
        opens_shown (guard_items true ++ more) (guard_opens true more (λ e. let no : true ≡ false = e in absurd (cc)))
    by false g = thing_shown s x after (content_items s (thing x ∷ []) after) w g r

first_shown : (s : Setting) (t : StyledContent) → s.within ≡ false → AreCharacters (signs_in t) → AreReadThings (signs_in t) → HasUncalled s [] (signs_in t)
    → begins_shown (content_items s [] (signs_in t)) ≡ true
first_shown s finished w v r b = ap (λ (u : Bool). begins_shown (guard_items u)) b
first_shown s (sign (letter c) t) w v r b =
    let after : List ContentSign = signs_in t in
    let e : Bool = is_escaped s.within s.place [] c after in
    let more : List Item = content_items s (letter c ∷ []) after in
    let u : Bool = is_guarded s [] (letter c ∷ after) in
    opens_shown (guard_items u ++ (letter_items e c ++ more))
    (guard_opens u (letter_items e c ++ more) (λ g. letter_opens s [] c after more e refl v.0 (unguarded_begins s [] c after w refl refl g)))
first_shown s (sign (thing x) t) w v r b = thing_first s x (signs_in t) w r.0
first_shown s (styled kind opening closing inside t) w v r b =
    thing_first s (record { role = Toggle; source = mark_source kind; place = opening }) (signs_before inside (delimiter kind closing ∷ signs_in t)) w r.0

-- ---- it is read by itself

ended_so : (pages : Pages) (s : Setting) (t : StyledContent) → IsStyledWritten pages s t
    → page_items (spelled s (signs_in t) ++ 10 ∷ []) ≡ page_items (spelled s (signs_in t)) ++ char None 10 ∷ []
ended_so pages s t h =
    let signs : List ContentSign = signs_in t in
    let f : IsFirmlyRead a_paragraph (spelled s signs) = called_firm a_paragraph s signs h.of_block (all_read pages signs h.each) in
    f.firm (10 ∷ []) break_stands refl refl ∙ ap (λ (xs : List Item). page_items (spelled s signs) ++ xs) (read_items (10 ∷ []) (char None 10 ∷ []) break_read)

begins_so : (pages : Pages) (s : Setting) (t : StyledContent) → IsStyledWritten pages s t → BeginsParagraph (spelled s (signs_in t))
begins_so pages s t h =
    let signs : List ContentSign = signs_in t in
    let f : IsFirmlyRead a_paragraph (spelled s signs) = called_firm a_paragraph s signs h.of_block (all_read pages signs h.each) in
    stands_begins (spelled s signs) (subst StandsBehind (append-nil (spelled s signs)) (f.uncommented [] nothing_stands tt tt))
    (f.uncommented (10 ∷ []) break_stands refl refl) (ended_so pages s t h)
    (subst (λ (xs : List Item). begins_shown xs ≡ true) (sym (called_alone s signs h.of_block (all_read pages signs h.each)))
    (first_shown s t h.of_block h.characters (all_read pages signs h.each) h.some))

styled_read : (pages : Pages) (s : Setting) (t : StyledContent) → IsStyledWritten pages s t → IsReadContent a_paragraph (spelled s (signs_in t))
styled_read pages s t h =
    let signs : List ContentSign = signs_in t in
    record {
      utf8 = from_utf8 s [] signs h.characters (all_utf8 pages signs h.each);
      ended = ended_so pages s t h;
      unended = refl;
      begins = begins_so pages s t h;
    }

-- ---- and is lines of text, by what its calls give

pub signs_calls : (pages : Pages) (s : Setting) (signs : List ContentSign) → s.within ≡ false → AreStyledThings pages signs
    → IsWrittenAs pages (spelled s signs) (λ i. written_items pages s i [] signs) (written_calls pages signs) (written_work pages signs)
signs_calls pages s signs w h = content_written pages s signs w (all_read pages signs h) (all_parts pages signs h)

pub own_calls : (pages : Pages) (s : Setting) (t : StyledContent) → IsStyledWritten pages s t
    → IsWrittenAs pages (spelled s (signs_in t)) (λ i. written_items pages s i [] (signs_in t)) (written_calls pages (signs_in t)) (written_work pages (signs_in t))
own_calls pages s t h = signs_calls pages s (signs_in t) h.of_block h.each

text_items : (pages : Pages) (i : ℕ) (s : Setting) (t : StyledContent) → IsStyledWritten pages s t → AreTextItems (part_items pages i (spelled s (signs_in t)))
text_items pages i s t h =
    let signs : List ContentSign = signs_in t in
    let owns : List (List Item) = owns_in pages i (signs_in t) in
    let v : AreCharacters signs = h.characters in
    let g : AreGiven signs owns = all_given pages i (signs_in t) h.each in
    subst AreTextItems (sym (styled_gives pages i s t h))
    (record { seen = texts_seen 0 (lines (items_with s [] signs owns)) (given_lines 0 s signs owns h.of_block v g); unled = given_unled s signs owns h.of_block v g; own_breaks = items_own s [] signs owns g })

styled_content : (pages : Pages) (s : Setting) (t : StyledContent) → IsStyledWritten pages s t → IsContentIn pages a_paragraph (spelled s (signs_in t))
styled_content pages s t h =
    let w = own_calls pages s t h in
    let part = w.part in
    record { read = styled_read pages s t h; anywhere = part.anywhere; items = λ i. refl; is = λ i. text_items pages i s t h }

stays_so : (pages : Pages) (i n : ℕ) (s : Setting) (t : StyledContent) → IsStyledWritten pages s t → AreTextLines n (part_items pages i (spelled s (signs_in t)))
stays_so pages i n s t h =
    let signs : List ContentSign = signs_in t in
    let owns : List (List Item) = owns_in pages i (signs_in t) in
    subst (AreTextLines n) (sym (styled_gives pages i s t h)) (given_lines n s signs owns h.of_block (h.characters) (all_given pages i (signs_in t) h.each))

-- ---- the nodes of the page among what is put

put_calls : (pages : Pages) (x : Thing) → IsPut x → (expanded_page pages x.source).outer ≡ []
put_calls pages x p = put_outer pages x.source (put_source x p)

pub calls_put : (pages : Pages) (fs news : List Thing) → AreAmongPut fs news → calls_of pages (thing_sources news) ≡ calls_of pages (thing_sources fs)
calls_put pages fs [] a = sym (ap (λ (xs : List Thing). calls_of pages (thing_sources xs)) a)
calls_put pages fs (d ∷ ds) a = elim a [
  | inl p ↦ ap (λ (cs : List OuterCall). cs ++ calls_of pages (thing_sources ds)) (put_calls pages d p.0) ∙ calls_put pages fs ds p.1
  | inr q ↦
      ap (λ (cs : List OuterCall). (expanded_page pages d.source).outer ++ cs) (calls_put pages q.0 ds q.2)
      ∙ sym (ap (λ (xs : List Thing). calls_of pages (thing_sources xs)) q.1)
]

pub work_put : (pages : Pages) (fs news : List Thing) → AreAmongPut fs news → work_of pages (thing_sources news) ≡ work_of pages (thing_sources fs)
work_put pages fs [] a = sym (ap (λ (xs : List Thing). work_of pages (thing_sources xs)) a)
work_put pages fs (d ∷ ds) a = elim a [
  | inl p ↦ ap (λ (es : List Entry). es ++ work_of pages (thing_sources ds)) (put_work pages d.source (put_source d p.0)) ∙ work_put pages fs ds p.1
  | inr q ↦
      ap (λ (es : List Entry). work_in pages d.source ++ es) (work_put pages q.0 ds q.2)
      ∙ sym (ap (λ (xs : List Thing). work_of pages (thing_sources xs)) q.1)
]

pub open_put : (name : List ℕ) (fs news : List Thing) → AreAmongPut fs news → Each (OpenAt name) (thing_sources fs) → Each (OpenFor name) news
open_put name fs [] a h = tt
open_put name fs (d ∷ ds) a h = elim a [
  | inl p ↦ (put_open name d.source (put_source d p.0), open_put name fs ds p.1 h)
  | inr q ↦
      let own : Each (OpenAt name) (thing_sources (d ∷ q.0)) = subst (λ (xs : List Thing). Each (OpenAt name) (thing_sources xs)) q.1 h in
      (own.0, open_put name q.0 ds q.2 own.1)
]

-- and back
pub open_page : (name : List ℕ) (fs news : List Thing) → AreAmongPut fs news → Each (OpenAt name) (thing_sources news) → Each (OpenAt name) (thing_sources fs)
open_page name fs [] a h = subst (λ (xs : List Thing). Each (OpenAt name) (thing_sources xs)) (sym a) tt
open_page name fs (d ∷ ds) a h = elim a [
  | inl p ↦ open_page name fs ds p.1 h.1
  | inr q ↦ subst (λ (xs : List Thing). Each (OpenAt name) (thing_sources xs)) (sym q.1) (h.0, open_page name q.0 ds q.2 h.1)
]

-- ---- in the place of any content that has the calls and the work of nodes that it holds

pub styled_over : (pages : Pages) (q : List ℕ) (bs : List (List ℕ)) (s : Setting) (t : StyledContent) (fs : List Thing) → AreMoved (calls_of pages bs) (expanded_page pages q).outer
    → work_in pages q ≡ work_of pages bs → ((name us : List ℕ) → Unclosed name (q ++ us) → Each (OpenAt name) bs) → IsStyledWritten pages s t
    → AreAmongPut fs (things (signs_in t)) → StayButForOthers pages bs (thing_sources fs) → IsNewContentIn pages a_paragraph q (spelled s (signs_in t))
styled_over pages q bs s t fs old was_work opens h a e =
    let signs : List ContentSign = signs_in t in
    let r : List ℕ = spelled s signs in
    let b = own_calls pages s t h in
    let part = b.part in
    let same : node_sources signs ≡ thing_sources (things signs) = sources_things signs in
    let calls : calls_of pages bs ≡ written_calls pages signs =
    calls_stay pages bs (thing_sources fs) e ∙ sym (calls_by pages signs ∙ ap (calls_of pages) same ∙ calls_put pages fs (things signs) a) in
    let now_work : work_in pages r ≡ work_of pages (thing_sources fs) = b.work_is ∙ work_by pages signs ∙ ap (work_of pages) same ∙ work_put pages fs (things signs) a in
    let new : AreMoved (calls_of pages bs) (expanded_page pages r).outer =
    subst (λ (cs : List OuterCall). AreMoved cs (expanded_page pages r).outer) (sym calls) b.calls_are in
    record {
      part = record {
        read = record {
          read = styled_read pages s t h;
          firm = called_firm a_paragraph s signs h.of_block (all_read pages signs h.each);
          closes = λ name us vs o v.
              content_closes s [] signs name vs (open_put name fs (things signs) a (each_stays (OpenAt name) pages bs (thing_sources fs) e (opens name us o)))
              (all_sealed pages signs h.each) v;
        };
        anywhere = part.anywhere;
        left = none_less (left_of r) (left_of q) part.left;
        undeep = λ i. part.undeep;
        work = subst (λ (es : List Entry). AreSomeOf es (work_in pages q)) (sym now_work)
            (subst (λ (es : List Entry). AreSomeOf (work_of pages (thing_sources fs)) es) (sym was_work) (work_stays pages bs (thing_sources fs) e));
      };
      content = styled_content pages s t h;
      calls = calls_after (expanded_page pages q).outer (calls_of pages bs) (expanded_page pages r).outer (turned (calls_of pages bs) (expanded_page pages q).outer old) new;
      stays = λ i n. stays_so pages i n s t h;
    }

-- in the place of the page's
pub styled_takes : (pages : Pages) (bs : List (List ℕ)) (olds fs : List Thing) (s : Setting) (t : StyledContent) → AreInPieces pages bs
    → StayButForOthers pages bs (thing_sources olds) → ThingsStay pages olds fs → IsStyledWritten pages s t → AreAmongPut fs (things (signs_in t))
    → IsNewContentIn pages a_paragraph (pieces_source bs) (spelled s (signs_in t))
styled_takes pages bs olds fs s t p q k h a =
    let w = pieces_written pages bs p in
    styled_over pages (pieces_source bs) bs s t fs w.calls_are w.work_is (λ name us o. open_pieces name us bs o) h a
    (stay_both pages bs (thing_sources olds) (thing_sources fs) q (by_sources pages olds fs k))

-- ---- letters may be typed in its place

pub styled_letters : (pages : Pages) (s : Setting) (t : StyledContent) (fs : List Thing) → IsStyledWritten pages s t → AreAmongPut fs (things (signs_in t))
    → ArePageThings pages fs → TakesLetters pages a_paragraph (spelled s (signs_in t))
styled_letters pages s t fs h a own =
    let signs : List ContentSign = signs_in t in
    let q : List ℕ = spelled s signs in
    let b = own_calls pages s t h in
    let same : node_sources signs ≡ thing_sources (things signs) = sources_things signs in
    let calls : written_calls pages signs ≡ calls_of pages (thing_sources fs) = calls_by pages signs ∙ ap (calls_of pages) same ∙ calls_put pages fs (things signs) a in
    let work : work_in pages q ≡ work_of pages (thing_sources fs) = b.work_is ∙ work_by pages signs ∙ ap (work_of pages) same ∙ work_put pages fs (things signs) a in
    let moved : AreMoved (calls_of pages (thing_sources fs)) (expanded_page pages q).outer =
    subst (λ (cs : List OuterCall). AreMoved cs (expanded_page pages q).outer) calls b.calls_are in
    let opens : (name us : List ℕ) → Unclosed name (q ++ us) → Each (OpenAt name) (thing_sources fs) =
    λ name us o. open_page name fs (things signs) a (subst (Each (OpenAt name)) same (open_nodes s [] signs name us o)) in
    let stay : StayButForOthers pages (thing_sources fs) (node_sources (spread fs)) =
    subst (StayButForOthers pages (thing_sources fs)) (sym (sources_spread fs)) (same_stay pages (thing_sources fs)) in
    let one : IsWrittenBeside pages s (begun 97 fs) = a_beside pages s fs h.of_block own in
    let other : IsWrittenBeside pages s (begun 98 fs) = b_beside pages s fs h.of_block own in
    takes pages q s fs one other (written_over pages q (thing_sources fs) s (begun 97 fs) moved work opens one stay)
    (written_over pages q (thing_sources fs) s (begun 98 fs) moved work opens other stay)
