-- A heading of texts beside calls, as it is written, is a content in a folder, and a new one in the place of another one whose nodes it has; those that don't call may go.
use Rattle.std.proofs.Common.{◌≡◌, inl, ℕ, List, [], ◌∷◌, ◌++◌, None, refl, sym, ap, ◌∙◌, subst, append-nil}
use Rattle.wt_span.specs.Items.{Item, char}
use Rattle.wt_span.specs.Origins.{OuterCall}
use Rattle.wt_guards.specs.Content.{ContentSign}
use Rattle.wt_guards.specs.Guards.{Setting, spelled}
use Rattle.wt_expand.specs.PageItems.{page_items}
use Rattle.wt_expand.specs.PageCalls.{expanded_page}
use Rattle.wt_expand.specs.Work.{Pages, Entry}
use Rattle.wt_part_laws.specs.MovedCalls.{AreMoved}
use Rattle.wt_text_edit_laws.specs.ReadContents.{IsReadContent, IsFirmlyRead}
use Rattle.wt_text_edit_laws.specs.TextBlocks.{a_heading, source_of, IsFrame}
use Rattle.wt_text_edit_laws.specs.TypedHeadings.{Sides, heading_line}
use Rattle.wt_text_edit_laws.proofs.Between.ClosingTags.{Unclosed}
use Rattle.wt_text_edit_laws.proofs.Blocks.BlockReading.{framed_front, firm_before}
use Rattle.wt_text_edit_laws.proofs.Prose.InFront.{reads_nothing, read_items}
use Rattle.wt_beside_laws.specs.Called.{items_with, owns_in, IsCalledHeading, IsCalledInHeading}
use Rattle.wt_beside_laws.proofs.Each.{Each}
use Rattle.wt_beside_laws.proofs.Groups.CalledHeadings.{heading_inside, heading_level}
use Rattle.wt_beside_laws.proofs.Groups.Folders.{heading_in}
use Rattle.wt_beside_laws.proofs.Made.Closes.{content_closes}
use Rattle.wt_called_edit_laws.specs.CalledContents.{AreHeadingItems}
use Rattle.wt_called_edit_laws.specs.CallingBlocks.{IsContentIn, IsNewContentIn}
use Rattle.wt_called_edit_laws.specs.Parts.{left_of, work_in}
use Rattle.wt_called_edit_laws.specs.Retyped.{AreSomeOf}
use Rattle.wt_called_edit_laws.specs.Written.{written_items, written_calls, written_work, IsWrittenAs}
use Rattle.wt_called_edit_laws.specs.WrittenAnew.{node_sources, StayButForOthers, IsWrittenInHeading}
use Rattle.wt_called_edit_laws.proofs.Parts.LessBraces.{none_less}
use Rattle.wt_called_edit_laws.proofs.MovedOuters.{calls_after}
use Rattle.wt_called_edit_laws.proofs.Headings.Framed.{framed_written}
use Rattle.wt_called_edit_laws.proofs.Headings.Held.{head_items}
use Rattle.wt_called_edit_laws.proofs.Written.NewContents.{from_utf8, break_read, OpenAt, open_things, each_stays, open_nodes, calls_of, work_of, calls_by, work_by, calls_stay, work_stays, turned}
use Rattle.wt_called_edit_laws.proofs.Written.Reads.{called_firm}
use Rattle.wt_called_edit_laws.proofs.Written.Signs.{content_written}

-- ---- it is read by itself

firm_so : (pages : Pages) (s : Setting) (signs : List ContentSign) (w : Sides) → IsWrittenInHeading pages s signs → IsFirmlyRead (a_heading w) (spelled s signs)
firm_so pages s signs w h = let c : IsCalledInHeading pages s signs = h.called in called_firm (a_heading w) s signs c.of_block h.read

pub head_read : (pages : Pages) (s : Setting) (signs : List ContentSign) (w : Sides) → IsFrame w → IsWrittenInHeading pages s signs
    → IsReadContent (a_heading w) (spelled s signs)
head_read pages s signs w f h =
    let c : IsCalledInHeading pages s signs = h.called in
    let q : List ℕ = spelled s signs in
    let line : List ℕ = source_of (a_heading w) q in
    let own : List Item = heading_line w (page_items q) in
    record {
      utf8 = from_utf8 s [] signs c.characters h.utf8;
      ended = read_items (line ++ 10 ∷ []) (own ++ char None 10 ∷ [])
          (framed_front w q (10 ∷ []) (char None 10 ∷ []) f (firm_before (a_heading w) q (firm_so pages s signs w h)) refl break_read);
      unended = ap page_items (sym (append-nil line))
          ∙ read_items (line ++ []) (own ++ []) (framed_front w q [] [] f (firm_before (a_heading w) q (firm_so pages s signs w h)) tt reads_nothing)
          ∙ append-nil own;
      begins = f;
    }

-- ---- and is a heading's content, by what its calls give

own_written : (pages : Pages) (s : Setting) (signs : List ContentSign) → IsWrittenInHeading pages s signs
    → IsWrittenAs pages (spelled s signs) (λ i. written_items pages s i [] signs) (written_calls pages signs) (written_work pages signs)
own_written pages s signs h = let c : IsCalledInHeading pages s signs = h.called in content_written pages s signs c.of_block h.read h.parts

pub head_written : (pages : Pages) (s : Setting) (signs : List ContentSign) (w : Sides) → IsFrame w → IsWrittenInHeading pages s signs
    → IsWrittenAs pages (source_of (a_heading w) (spelled s signs)) (λ i. heading_line w (written_items pages s i [] signs)) (written_calls pages signs) (written_work pages signs)
head_written pages s signs w f h =
    framed_written pages w (spelled s signs) (λ i. written_items pages s i [] signs) (written_calls pages signs) (written_work pages signs)
    (head_read pages s signs w f h) (own_written pages s signs h)

head_is : (s : Setting) (signs : List ContentSign) (owns : List (List Item)) (w : Sides) → IsFrame w → IsCalledHeading s signs owns
    → AreHeadingItems w (items_with s [] signs owns)
head_is s signs owns w f h = record { sides = f.sides; inside = inl (heading_inside s signs owns h); of_level = heading_level s signs owns w h f.sides }

pub head_content : (pages : Pages) (s : Setting) (signs : List ContentSign) (w : Sides) → IsFrame w → IsWrittenInHeading pages s signs
    → IsContentIn pages (a_heading w) (spelled s signs)
head_content pages s signs w f h =
    let all = head_written pages s signs w f h in
    let own = own_written pages s signs h in
    let part = all.part in
    record {
      read = head_read pages s signs w f h;
      anywhere = part.anywhere;
      items = λ i. all.items_are i ∙ ap (heading_line w) (sym (own.items_are i));
      is = λ i. subst (AreHeadingItems w) (sym (head_items pages i s signs h))
          (head_is s signs (owns_in pages i signs) w f (heading_in pages i s signs h.called));
    }

-- ---- in the place of any content that has the calls and the work of nodes that it holds

pub head_over : (pages : Pages) (w : Sides) (q : List ℕ) (bs : List (List ℕ)) (items : ℕ → List Item) (s : Setting) (signs : List ContentSign)
    → IsReadContent (a_heading w) q → IsWrittenAs pages q items (calls_of pages bs) (work_of pages bs)
    → ((name us : List ℕ) → Unclosed name (q ++ us) → Each (OpenAt name) bs) → IsWrittenInHeading pages s signs → StayButForOthers pages bs (node_sources signs)
    → IsNewContentIn pages (a_heading w) q (spelled s signs)
head_over pages w q bs items s signs read was opens h e =
    let f : IsFrame w = read.begins in
    let line : List ℕ = source_of (a_heading w) q in
    let r : List ℕ = source_of (a_heading w) (spelled s signs) in
    let old = framed_written pages w q items (calls_of pages bs) (work_of pages bs) read was in
    let b = head_written pages s signs w f h in
    let part = b.part in
    let calls : calls_of pages bs ≡ written_calls pages signs = calls_stay pages bs (node_sources signs) e ∙ sym (calls_by pages signs) in
    let now_work : work_in pages r ≡ work_of pages (node_sources signs) = b.work_is ∙ work_by pages signs in
    let new : AreMoved (calls_of pages bs) (expanded_page pages r).outer =
    subst (λ (cs : List OuterCall). AreMoved cs (expanded_page pages r).outer) (sym calls) b.calls_are in
    record {
      part = record {
        read = record {
          read = head_read pages s signs w f h;
          firm = firm_so pages s signs w h;
          closes = λ name us vs o v.
              content_closes s [] signs name vs (open_things name signs (each_stays (OpenAt name) pages bs (node_sources signs) e (opens name us o))) h.sealed v;
        };
        anywhere = part.anywhere;
        left = none_less (left_of r) (left_of line) part.left;
        undeep = λ i. part.undeep;
        work = subst (λ (es : List Entry). AreSomeOf es (work_in pages line)) (sym now_work)
            (subst (λ (es : List Entry). AreSomeOf (work_of pages (node_sources signs)) es) (sym old.work_is) (work_stays pages bs (node_sources signs) e));
      };
      content = head_content pages s signs w f h;
      calls = calls_after (expanded_page pages line).outer (calls_of pages bs) (expanded_page pages r).outer
          (turned (calls_of pages bs) (expanded_page pages line).outer old.calls_are) new;
      stays = λ i n. tt;
    }

pub head_anew : (pages : Pages) (w : Sides) (s₀ s : Setting) (olds signs : List ContentSign) → IsFrame w → IsWrittenInHeading pages s₀ olds
    → IsWrittenInHeading pages s signs → StayButForOthers pages (node_sources olds) (node_sources signs)
    → IsNewContentIn pages (a_heading w) (spelled s₀ olds) (spelled s signs)
head_anew pages w s₀ s olds signs f k h e =
    let was : IsWrittenAs pages (spelled s₀ olds) (λ i. written_items pages s₀ i [] olds) (calls_of pages (node_sources olds)) (work_of pages (node_sources olds)) =
    subst (λ (cs : List OuterCall). IsWrittenAs pages (spelled s₀ olds) (λ i. written_items pages s₀ i [] olds) cs (work_of pages (node_sources olds))) (calls_by pages olds)
    (subst (λ (es : List Entry). IsWrittenAs pages (spelled s₀ olds) (λ i. written_items pages s₀ i [] olds) (written_calls pages olds) es) (work_by pages olds)
    (own_written pages s₀ olds k)) in
    head_over pages w (spelled s₀ olds) (node_sources olds) (λ i. written_items pages s₀ i [] olds) s signs (head_read pages s₀ olds w f k) was
    (λ name us o. open_nodes s₀ [] olds name us o) h e
