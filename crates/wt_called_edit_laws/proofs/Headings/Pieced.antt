-- A heading of the page in pieces, whoever wrote it: it is a content in a folder and holds its calls.
use Rattle.std.proofs.Common.{ℕ, false, List, [], refl, sym, ap, ◌∙◌, subst}
use Rattle.wt_span.specs.Items.{Item}
use Rattle.wt_tree.specs.declared.kind.Kind.TheVariants as kind
use Rattle.wt_tree.specs.declared.edit_shape.Place.TheVariants as place
use Rattle.wt_guards.specs.Content.{Thing}
use Rattle.wt_guards.specs.Guards.{Setting}
use Rattle.wt_expand.specs.PageCalls.{expanded_page}
use Rattle.wt_expand.specs.Work.{Pages}
use Rattle.wt_inline.specs.ItemTree.{plain}
use Rattle.wt_context.specs.Line.{line_parts}
use Rattle.wt_part_laws.specs.Expanded.{part_items}
use Rattle.wt_part_laws.proofs.HeldBlocks.{given_hold}
use Rattle.wt_text_edit_laws.specs.LonePages.{page_chars}
use Rattle.wt_text_edit_laws.specs.ReadContents.{IsReadContent}
use Rattle.wt_text_edit_laws.specs.TextBlocks.{a_heading, source_of, IsFrame}
use Rattle.wt_text_edit_laws.specs.TypedHeadings.{Sides, opening, closing_items, heading_line}
use Rattle.wt_beside_laws.proofs.Groups.CalledHeadings.{round_given}
use Rattle.wt_called_edit_laws.specs.CallingBlocks.{IsContentIn, IsNewContentIn}
use Rattle.wt_called_edit_laws.specs.CallingEdits.{TakesLetters}
use Rattle.wt_called_edit_laws.specs.EditableBlocks.{HoldsCalls}
use Rattle.wt_called_edit_laws.specs.InPieces.{pieces_source}
use Rattle.wt_called_edit_laws.specs.PiecedParagraphs.{IsHeadingInPieces}
use Rattle.wt_called_edit_laws.specs.Written.{IsWrittenAs}
use Rattle.wt_called_edit_laws.specs.WrittenAnew.{IsWrittenInHeading, HoldsAnywhere}
use Rattle.wt_called_edit_laws.proofs.Headings.Framed.{framed_written}
use Rattle.wt_called_edit_laws.proofs.Headings.FromPage.{head_takes}
use Rattle.wt_called_edit_laws.proofs.Headings.Held.{head_holds}
use Rattle.wt_called_edit_laws.proofs.Headings.Letters.{a_head, b_head}
use Rattle.wt_called_edit_laws.proofs.Whole.Contents.{moved_shut}
use Rattle.wt_called_edit_laws.proofs.Whole.PartsIn.{parts_pieces}
use Rattle.wt_called_edit_laws.proofs.Whole.SourcesAt.{sources_somewhere}
use Rattle.wt_called_edit_laws.proofs.Whole.Pieced.{pieces_shut}
use Rattle.wt_called_edit_laws.proofs.Written.InPieces.{pieces_items, pieces_written}
use Rattle.wt_called_edit_laws.proofs.Written.Letters.{begun, rest_of, spelled_a, spelled_b, stay_spread}
use Rattle.wt_called_edit_laws.proofs.Written.NewContents.{calls_of, work_of}

own_written : (pages : Pages) (s : Sides) (q : List ℕ) (h : IsHeadingInPieces pages s q)
    → IsWrittenAs pages q (λ i. pieces_items pages i h.pieces) (calls_of pages h.pieces) (work_of pages h.pieces)
own_written pages s q h =
    subst (λ (bs : List ℕ). IsWrittenAs pages bs (λ i. pieces_items pages i h.pieces) (calls_of pages h.pieces) (work_of pages h.pieces)) h.is
    (pieces_written pages h.pieces h.parts)

all_written : (pages : Pages) (s : Sides) (q : List ℕ) (h : IsHeadingInPieces pages s q)
    → IsWrittenAs pages (source_of (a_heading s) q) (λ i. heading_line s (pieces_items pages i h.pieces)) (calls_of pages h.pieces) (work_of pages h.pieces)
all_written pages s q h =
    framed_written pages s q (λ i. pieces_items pages i h.pieces) (calls_of pages h.pieces) (work_of pages h.pieces) h.read (own_written pages s q h)

pub pieced_heading : (pages : Pages) (s : Sides) (q : List ℕ) → IsHeadingInPieces pages s q → IsContentIn pages (a_heading s) q
pieced_heading pages s q h =
    let own = own_written pages s q h in
    let all = all_written pages s q h in
    let part = all.part in
    record { read = h.read; anywhere = part.anywhere; items = λ i. all.items_are i ∙ ap (heading_line s) (sym (own.items_are i)); is = h.line }

-- ---- texts may be typed before its calls

abbrev in_heading : Setting
in_heading = record { within = false; place = place.Heading; source = [] }

page_letters : (pages : Pages) (s : Sides) (q : List ℕ) → IsHeadingInPieces pages s q → TakesLetters pages (a_heading s) q
page_letters pages s q h =
    let f : IsFrame s = (let r : IsReadContent (a_heading s) q = h.read in r.begins) in
    let ts : List Thing = h.nodes in
    let read : IsReadContent (a_heading s) (pieces_source h.pieces) = subst (IsReadContent (a_heading s)) (sym h.is) h.read in
    let a : IsWrittenInHeading pages in_heading (begun 97 ts) = a_head pages in_heading ts refl refl h.things h.seen in
    let b : IsWrittenInHeading pages in_heading (begun 98 ts) = b_head pages in_heading ts refl refl h.things h.seen in
    let letters : TakesLetters pages (a_heading s) (pieces_source h.pieces) = record {
      rest = rest_of in_heading ts;
      one = subst (IsNewContentIn pages (a_heading s) (pieces_source h.pieces)) (spelled_a in_heading ts)
          (head_takes pages s h.pieces ts in_heading (begun 97 ts) read h.parts h.among a (stay_spread pages ts));
      other = subst (IsNewContentIn pages (a_heading s) (pieces_source h.pieces)) (spelled_b in_heading ts)
          (head_takes pages s h.pieces ts in_heading (begun 98 ts) read h.parts h.among b (stay_spread pages ts));
      one_holds = subst (HoldsAnywhere pages (a_heading s)) (spelled_a in_heading ts) (head_holds pages in_heading (begun 97 ts) s f.sides a);
      other_holds = subst (HoldsAnywhere pages (a_heading s)) (spelled_b in_heading ts) (head_holds pages in_heading (begun 98 ts) s f.sides b);
    } in
    subst (TakesLetters pages (a_heading s)) h.is letters

pub pieced_heading_holds : (pages : Pages) (s : Sides) (q : List ℕ) → IsHeadingInPieces pages s q → HoldsCalls pages (a_heading s) q
pieced_heading_holds pages s q h =
    let r : IsReadContent (a_heading s) q = h.read in
    let f : IsFrame s = r.begins in
    let all = all_written pages s q h in
    let part = all.part in
    record {
      holds = λ i.
          let xs : List Item = part_items pages i q in
          let there = sources_somewhere i (expanded_page pages (source_of (a_heading s) q)).outer in
          given_hold (plain (kind.Heading s.level)) (page_chars (opening s)) (line_parts xs) (closing_items s)
          (round_given (line_parts xs) s (parts_pieces 2 there.0 xs (line_parts xs) (h.texts there.0 i there.1)) f.sides);
      letters = page_letters pages s q h;
      texts = part.texts;
      whole = record {
        parts = h.texts;
        groups = h.groups;
        shut = h.shut;
        shut_calls = moved_shut (calls_of pages h.pieces) (expanded_page pages (source_of (a_heading s) q)).outer all.calls_are
            (pieces_shut pages h.pieces h.nodes h.among h.things);
      };
    }
