-- Each block that is told alone by the lines of an expanded page is one of all that are.
use Rattle.std.proofs.Common.{arith, ◌≡◌, ℕ, ◌+◌, None, List, [], ◌∷◌, ◌++◌, length, subst}
use Rattle.std.specs.Str.{IsUtf8}
use Rattle.wt_span.specs.Items.{sources}
use Rattle.wt_annotated.specs.Seams.{text_from}
use Rattle.wt_expand.specs.PageCalls.{expanded_page}
use Rattle.wt_expand.specs.Work.{Pages}
use Rattle.wt_commands.specs.Answers.{refusal_of_page}
use Rattle.wt_tables.specs.Parts.{joined}
use Rattle.wt_part_laws.specs.Standing.{standing}
use Rattle.wt_text_edit_laws.specs.TextBlocks.{TextBlock, block_tree}
use Rattle.wt_beside_laws.proofs.Made.OldBlocks.{no_group}
use Rattle.wt_called_edit_laws.specs.AnyBlocks.{open_after}
use Rattle.wt_called_edit_laws.specs.Covered.{NoGroupAt}
use Rattle.wt_called_edit_laws.specs.Groups.{called_tree}
use Rattle.wt_called_edit_laws.specs.LinedAmong.{AreBeside}
use Rattle.wt_called_edit_laws.specs.PlacedLines.{lead_of}
use Rattle.wt_called_edit_laws.specs.ToldAmong.{IsToldAmong}
use Rattle.wt_called_edit_laws.specs.ToldLines.{Told, lined, rows_before, IsToldAt}
use Rattle.wt_called_edit_laws.specs.ToldTogether.{AreAllTold}
use Rattle.wt_called_edit_laws.proofs.Told.FreeNodes.{tree_untangled, untangled_shut}
use Rattle.wt_called_edit_laws.proofs.AllTold.Alone.{IsAloneTold, IsAloneHere, alone_here, IsAloneRead, alone_read, content_closed}
use Rattle.wt_called_edit_laws.proofs.AllTold.Chosen.{IsChosen}
use Rattle.wt_called_edit_laws.proofs.AllTold.LineKinds.{Lines}
use Rattle.wt_called_edit_laws.proofs.AllTold.NodeTexts.{told_content}
use Rattle.wt_called_edit_laws.proofs.AllTold.Together.{AreAllChosen, chosen_together, told_by_all}

alone_of : (pages : Pages) (page : List ℕ) (t : Told) (rest : Lines) → IsToldAmong pages page (t ∷ []) rest → IsAloneTold pages page t rest
alone_of pages page t rest h =
    let n : ℕ = length (text_from (expanded_page pages page).outer None (joined (lined t).before ++ lead_of (lined t))) in
    let z : 0 + n ≡ n = omega arith in
    let at : IsToldAt [] t = h.told.0 in
    record {
      utf8 = h.utf8;
      closed = h.closed;
      are = h.are;
      told = h.told;
      place = record {
        own = h.own.0;
        some = told_content t (length (open_after [] (rows_before [] t))) at.some at.own;
        calm = h.own.1;
        led = h.led.0;
        beside = subst (λ (m : ℕ). AreBeside m (m + length (sources (joined ((lined t).first ∷ (lined t).more)))) (expanded_page pages page).text_calls) z h.untouched.0;
      };
    }

chosen_of : (pages : Pages) (page : List ℕ) (t : Told) (rest : Lines) → IsToldAmong pages page (t ∷ []) rest → IsChosen pages page (joined (lined t).before) t
chosen_of pages page t rest h =
    let k : TextBlock = (lined t).block in
    let q : List ℕ = (lined t).text in
    let alone : IsAloneTold pages page t rest = alone_of pages page t rest h in
    let here : IsAloneHere pages page t rest = alone_here pages page t rest alone in
    let n : ℕ = length (text_from (expanded_page pages page).outer None (joined (lined t).before ++ lead_of (lined t))) in
    let z : 0 + n ≡ n = omega arith in
    let r : IsAloneRead pages page t = alone_read pages page t rest alone here (λ a e. h.free.0) in
    record {
      place = alone.place;
      outside = subst (λ (m : ℕ). NoGroupAt m (called_tree pages page)) z h.in_no_group.0;
      free = (
        h.free.0.full,
        tree_untangled (standing 0 [] (block_tree k q)) (no_group k q 0 [] r.read.utf8 r.read.is r.read.unended r.read.calm) (untangled_shut k q h.free.0.untangled),
      );
      closed = content_closed k q r.is_content;
    }

pub all_alone : (pages : Pages) (page : List ℕ) → IsUtf8 page → refusal_of_page pages page ≡ None → AreAllTold pages page
all_alone pages page u r =
    let a : AreAllChosen pages page = chosen_together pages page u r in
    record {
      ts = a.ts;
      behind = a.behind;
      told = told_by_all pages page u r a;
      all = λ t rest h. a.all t rest h.are h.told (chosen_of pages page t rest h);
    }
