-- HTML that makes a text edit of a page is answered by the new page.
use Rattle.std.proofs.Common.{◌≡◌, ℕ, ◌≤◌, Bool, Option, Some, List, [], ◌∷◌, length, ap, ◌∙◌}
use Rattle.std.specs.Prelude.{if◌then◌else◌}
use Rattle.std.specs.List.{AllByRecursion}
use Rattle.std.specs.Str.{IsUtf8}
use Rattle.wt_span.specs.declared.limits.TheConstants.{HTML_BYTES, PAGE_BYTES}
use Rattle.wt_span.specs.Items.{Item}
use Rattle.wt_tree.specs.Tree.{Tree}
use Rattle.wt_utf8.specs.Places.{not_utf8_place}
use Rattle.wt_utf8.proofs.PlaceLaws.{no_place}
use Rattle.wt_expand.specs.PageCalls.{expanded_page}
use Rattle.wt_expand.specs.Work.{Pages}
use Rattle.wt_link_spelling.specs.Spelling.{children_of}
use Rattle.wt_page_round_trip.specs.PageTree.{page_tree}
use Rattle.wt_schema.specs.Read.{page as as_page, read}
use Rattle.wt_slices.specs.BodySlices.{slices}
use Rattle.wt_slices.specs.Changes.{Pair, marked}
use Rattle.wt_splice.specs.Splice.{spliced}
use Rattle.wt_visible.specs.SameNodes.{same_node}
use Rattle.wt_commands.specs.declared.refusal.Refusal.TheVariants.{TooLong, InputTooLong}
use Rattle.wt_commands.specs.Answers.{Answer, done, refused, text_answer, title_answer, edited_answer, input_answer, edit_of, edit_to}
use Rattle.wt_text_edit_laws.proofs.Prose.ProseTakes.{not_longer}
use Rattle.wt_called_edit_laws.specs.ContentsTaken.{TakesContents}
use Rattle.wt_called_edit_laws.specs.LinedAmong.{spots_of_lines, end_of_lines, IsLinedAmong}
use Rattle.wt_called_edit_laws.specs.PlacedLines.{LinedBlock}
use Rattle.wt_inside_laws.specs.HtmlEdits.{IsHtmlEdit}
use Rattle.wt_inside_laws.specs.RetypedPieces.{AreRead, AreUtf8}
use Rattle.wt_inside_laws.specs.ToldEdits.{IsReadBlock, IsToldEdit}
use Rattle.wt_inside_laws.proofs.ReadSent.{read_for, read_blocks}
use Rattle.wt_inside_laws.proofs.ToldEdits.{lined_edit_done}

-- of what is under a title, to an input
pub edit_is : (pages : Pages) (page new input : List ℕ) (u : Tree) (unsourced : Option ℕ) → IsUtf8 page → length page ≤ PAGE_BYTES → length input ≤ HTML_BYTES
    → read input ≡ as_page u unsourced → edit_to pages page u ≡ done new → edit_of pages (Some page) input ≡ done new
unfolding title_answer input_answer edited_answer
edit_is pages page new input u unsourced utf8 short small is made =
    let at : List ℕ → Answer = λ page. input_answer (edited_answer pages page) input in
    ap (λ (v : Bool). if v then refused TooLong else text_answer page at (not_utf8_place page)) (not_longer (length page) PAGE_BYTES short)
    ∙ ap (text_answer page at) (no_place page utf8)
    ∙ ap (λ (v : Bool). if v then refused InputTooLong else edited_answer pages page (read input)) (not_longer (length input) HTML_BYTES small)
    ∙ ap (edited_answer pages page) is
    ∙ made

pub blocks_read : (ps : List Pair) → AllByRecursion (λ p. AreRead (children_of p.new) × AreUtf8 (children_of p.new)) ps → AllByRecursion IsReadBlock ps
blocks_read [] h = tt
blocks_read (p ∷ ps) h = (record { read = h.0.0; utf8 = h.0.1 }, blocks_read ps h.1)

pub html_lined : (pages : Pages) (page input : List ℕ) (bs : List LinedBlock) (rest : List (List Item)) (paths : List (List ℕ)) (new : Tree) (unsourced : Option ℕ)
    → IsLinedAmong pages page bs rest → IsHtmlEdit pages page input paths new unsourced → IsToldEdit pages page paths new
html_lined pages page input bs rest paths new unsourced h e = record {
  short = e.short;
  edit = e.edit;
  read = read_for pages page input new unsourced h.utf8 e.short h.unrefused e.reads e.edit.checks;
  blocks =
      blocks_read (marked (page_tree pages page) new)
      (read_blocks same_node (expanded_page pages page) page pages page input new unsourced h.utf8 e.short h.unrefused e.reads e.edit.checks e.edit.blocks);
  ordinary = e.ordinary;
  among = e.among;
}

pub html_edit_done : (pages : Pages) (page input : List ℕ) (bs : List LinedBlock) (rest : List (List Item)) (new : Tree) (unsourced : Option ℕ)
    → IsLinedAmong pages page bs rest → (c : TakesContents pages (spots_of_lines pages page bs) (end_of_lines pages page bs rest))
    → IsHtmlEdit pages page input c.paths new unsourced
    → edit_of pages (Some page) input ≡ done (spliced page (slices same_node (page_tree pages page) new))
html_edit_done pages page input bs rest new unsourced h c e =
    edit_is pages page (spliced page (slices same_node (page_tree pages page) new)) input new unsourced h.utf8 e.short e.within e.reads
    (lined_edit_done pages page bs rest new h c (html_lined pages page input bs rest c.paths new unsourced h e))
