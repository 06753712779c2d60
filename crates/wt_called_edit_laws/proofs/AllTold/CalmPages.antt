-- On a page that calls nothing no block is excepted for a call.
use Rattle.std.proofs.Common.{◌≡◌, ℕ, ◌+◌, None, List, [], ◌∷◌, ◌++◌, length, sym, ap, ◌∙◌, subst}
use Rattle.wt_span.specs.Items.{Item, sources}
use Rattle.wt_span.specs.Origins.{Expanded, Span}
use Rattle.wt_span.specs.Runs.{AreRuns}
use Rattle.wt_tree.specs.Tree.{Tree}
use Rattle.wt_annotated.specs.Seams.{text_from}
use Rattle.wt_expand.specs.PageCalls.{expanded_page}
use Rattle.wt_expand.specs.PageItems.{page_items}
use Rattle.wt_expand.specs.Work.{Pages}
use Rattle.wt_lines.specs.Lines.{content, goes_on, full_lines}
use Rattle.wt_page.specs.Lines.{ending}
use Rattle.wt_page.proofs.Ends.{content_ending}
use Rattle.wt_tables.specs.Parts.{joined}
use Rattle.wt_text_edit_laws.specs.LonePages.{of_items}
use Rattle.wt_text_edit_laws.specs.NoCalls.{CallsNothing}
use Rattle.wt_text_edit_laws.specs.SignParts.{IsLedTo}
use Rattle.wt_text_edit_laws.proofs.Between.NoCalls.{calm_expanded}
use Rattle.wt_text_edit_laws.proofs.Cuts.TextLines.{joined_is}
use Rattle.wt_called_edit_laws.specs.AllTold.{IsBesideNoCall, AreNoFunctions, IsBesideTexts, IsExceptedAt, IsExceptedIn, by_its_lines, beside_a_call, holds_a_function, IsExcepted}
use Rattle.wt_called_edit_laws.specs.LinedAmong.{AreOfPage, AreBeside, AreOwnLines}
use Rattle.wt_called_edit_laws.specs.PlacedLines.{LinedBlock, all_lines, lead_of}
use Rattle.wt_called_edit_laws.specs.RowBlocks.{opened_len, StandsIn}
use Rattle.wt_called_edit_laws.specs.ToldLines.{Told, lined, AreTold}
use Rattle.wt_called_edit_laws.proofs.Among.CalmLines.{page_of, page_runs, own_all}
use Rattle.wt_called_edit_laws.proofs.Among.LinedParts.{of_behind, of_front}
use Rattle.wt_called_edit_laws.proofs.Among.OwnItems.{from_page}
use Rattle.wt_called_edit_laws.proofs.Cells.PlacedLines.{own_items, lines_joined, page_led}
use Rattle.wt_called_edit_laws.proofs.PartTexts.{own_text}

no_functions : (xs : List Item) → AreOfPage xs → AreNoFunctions xs
no_functions [] h = tt
no_functions (x ∷ xs) h = (h.1, no_functions xs h.2)

-- what is asked of lines beside calls holds
record IsCalm (e : Expanded) (t : Told) : Type 0 where
  beside : IsBesideNoCall e (joined (lined t).before) t
  functions : AreNoFunctions (content (own_items (lined t)))
  texts : IsBesideTexts e (joined (lined t).before) t

calm_lines : (pages : Pages) (page : List ℕ) (t : Told) (behind : List (List Item)) → CallsNothing (page_items page)
    → full_lines (expanded_page pages page).items ≡ all_lines (lined t ∷ []) behind → AreTold (t ∷ []) behind → IsCalm (expanded_page pages page) t
calm_lines pages page t behind c are told =
    let e : Expanded = expanded_page pages page in
    let b : LinedBlock = lined t in
    let xs : List Item = page_items page in
    let expanded : e ≡ of_items xs = calm_expanded pages page c in
    let here : full_lines xs ≡ all_lines (b ∷ []) behind = ap (λ (x : Expanded). full_lines x.items) (sym expanded) ∙ are in
    let runs : AreRuns goes_on (all_lines (b ∷ []) behind) xs = page_runs page (b ∷ []) behind here in
    let all : xs ≡ joined (all_lines (b ∷ []) behind) = joined_is goes_on (all_lines (b ∷ []) behind) xs runs in
    let own : AreOwnLines (b ∷ []) =
    own_all [] (b ∷ []) behind xs runs (subst AreOfPage all (page_of page)) (subst CallsNothing all c) (told.0.some, tt) in
    let parts : AreOfPage (content (own_items b) ++ ending (own_items b)) = subst AreOfPage (sym (content_ending (own_items b))) own.0 in
    let front : List Item = joined b.before ++ lead_of b in
    let before : AreOfPage front = of_front front (own_items b ++ joined behind) (subst AreOfPage (all ∙ lines_joined b behind) (page_of page)) in
    let before_is : text_from e.outer None front ≡ sources front = own_text e.outer None front (from_page front before) in
    let from : ℕ = length (text_from e.outer None front) in
    record {
      beside = record {
        led = subst (λ (bs : List ℕ). IsLedTo bs b.block b.text) (sym before_is)
            (page_led page 0 b behind runs told.0.sign told.0.unclosed told.0.are_marks told.0.some);
        ending = of_behind (content (own_items b)) (ending (own_items b)) parts;
      };
      functions = no_functions (content (own_items b)) (of_front (content (own_items b)) (ending (own_items b)) parts);
      texts = subst (λ (ss : List Span). AreBeside from (from + length (sources (own_items b))) ss) (sym (ap (λ (x : Expanded). x.text_calls) expanded)) tt;
    }

pub calm_excepted : (pages : Pages) (page : List ℕ) (t : Tree) → CallsNothing (page_items page) → IsExcepted pages page t
    → (s : StandsIn pages page t) × IsExceptedAt (full_lines (expanded_page pages page).items) (opened_len s.before)
calm_excepted pages page t c x = (x.stands, by x.begins_so)
  where
    e : Expanded
    e = expanded_page pages page

    by : IsExceptedIn e (opened_len x.stands.before) → IsExceptedAt (full_lines e.items) (opened_len x.stands.before)
    by (by_its_lines l) = l
    by (beside_a_call o behind are told at f) = absurd (f (calm_lines pages page o behind c are told).beside)
    by (holds_a_function o behind are told at f) = absurd (f (calm_lines pages page o behind c are told).functions)
