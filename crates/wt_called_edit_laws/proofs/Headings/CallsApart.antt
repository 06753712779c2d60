-- So it is in headings.
use Rattle.std.proofs.Common.{arith, ◌≡◌, ℕ, ◌+◌, ◌<◌, true, false, List, length, refl, sym, ap, ◌∙◌, subst}
use Rattle.wt_tree.specs.declared.kind.Kind.TheVariants as kind
use Rattle.wt_tree.specs.Kinds.{is_leaf}
use Rattle.wt_tree.specs.Tree.{Tree, Trees, label}
use Rattle.wt_span.specs.Items.{Item, sources}
use Rattle.wt_span.specs.Origins.{OuterCall}
use Rattle.wt_inline.specs.ItemTree.{plain}
use Rattle.wt_inline.specs.Parts.{Part}
use Rattle.wt_checks.specs.Kept.{children as nodes_in}
use Rattle.wt_annotated.specs.CutTexts.{cut_texts, all_cut_texts}
use Rattle.wt_annotated.specs.Numbering.{next_after}
use Rattle.wt_expand.specs.Work.{Pages}
use Rattle.wt_original.specs.Kept.{kept_nodes, found_in}
use Rattle.wt_original.specs.Numbers.{counts_up}
use Rattle.wt_link_spelling.specs.Spelling.{children_of}
use Rattle.wt_part_laws.specs.CallPieces.{CallPiece, pieces_in_page}
use Rattle.wt_part_laws.proofs.CallPieces.{as_pieces}
use Rattle.wt_part_laws.specs.Expanded.{part_items}
use Rattle.wt_part_laws.specs.HeldCalls.{block_in}
use Rattle.wt_part_laws.proofs.HeldBlocks.{given_block_is}
use Rattle.wt_text_edit_laws.specs.Contents.{content_parts_of}
use Rattle.wt_text_edit_laws.specs.LonePages.{page_chars}
use Rattle.wt_text_edit_laws.specs.ReadContents.{IsReadContent}
use Rattle.wt_text_edit_laws.specs.TextBlocks.{a_heading, IsFrame}
use Rattle.wt_text_edit_laws.specs.TypedHeadings.{Sides, opening, closing_items}
use Rattle.wt_beside_laws.specs.StyledBlocks.{all_numbers, things_with}
use Rattle.wt_beside_laws.proofs.Groups.CalledHeadings.{round_given}
use Rattle.wt_beside_laws.proofs.OwnSigns.{Every, Finds}
use Rattle.wt_called_edit_laws.specs.CalledContents.{tree_round}
use Rattle.wt_called_edit_laws.specs.CalledEdits.{page_things}
use Rattle.wt_called_edit_laws.specs.PageThings.{AllMeetLater}
use Rattle.wt_called_edit_laws.specs.PiecedParagraphs.{AreCallsApart, IsHeadingOfCalls}
use Rattle.wt_called_edit_laws.specs.Settled.{settled, all_settled}
use Rattle.wt_called_edit_laws.proofs.Beside.Counts.{block_bare, settled_counts}
use Rattle.wt_called_edit_laws.proofs.Whole.Blocks.{nodes_are}
use Rattle.wt_called_edit_laws.proofs.Whole.CallsApart.{apart_from}
use Rattle.wt_called_edit_laws.proofs.Whole.TextAndCalls.{nodes_from, same_nodes, block_finds}

pub heading_apart : (pages : Pages) (s : Sides) (q : List ℕ) (block : Tree) (n at i : ℕ) (calls : List OuterCall) → 0 < n
    → block ≡ settled n at (cut_texts (block_in calls (tree_round (a_heading s) (part_items pages i q)))) → (h : IsHeadingOfCalls pages s q)
    → AreCallsApart pages h.pieces → AllMeetLater pages (page_things block)
heading_apart pages s q block n at i calls some is h apart =
    let bs : List (List ℕ) = h.pieces in
    let r : IsReadContent (a_heading s) q = h.read in
    let f : IsFrame s = r.begins in
    let o : List Item = page_chars (opening s) in
    let c : List Item = closing_items s in
    let ps : List Part = content_parts_of (a_heading s) (part_items pages i q) in
    let m : ℕ = next_after (kind.Heading s.level) n in
    let a : ℕ = at + length (sources o) in
    let v : Tree = cut_texts (block_in calls (tree_round (a_heading s) (part_items pages i q))) in
    let round = round_given ps s (as_pieces ps (h.texts i)) f.sides in
    let nodes : children_of block ≡ nodes_from pages calls i m a bs =
    ap children_of is ∙ same_nodes (settled n at v)
    ∙ ap (λ (u : Tree). nodes_in (settled n at (cut_texts u))) (given_block_is calls (plain (kind.Heading s.level)) o ps c round)
    ∙ nodes_are calls n at (plain (kind.Heading s.level)) o ps c refl refl
    ∙ ap (λ (us : List CallPiece). all_settled m a (all_cut_texts (pieces_in_page calls us))) (h.nodes i) in
    let more_than : 0 < m = omega (arith, some) in
    let counts : counts_up n (kept_nodes block) ≡ true =
    subst (λ (t : Tree). counts_up n (kept_nodes t) ≡ true) (sym is)
    (settled_counts n at v some (block_bare calls (tree_round (a_heading s) (part_items pages i q)))) in
    let leaf : is_leaf (label block).kind ≡ false = ap (λ (t : Tree). is_leaf (label t).kind) is in
    let x : ℕ = 0 + length (label block).opening in
    let finds : Every (Finds block) (found_in x x (nodes_from pages calls i m a bs)) =
    subst (λ (us : Trees). Every (Finds block) (found_in x x us)) nodes (block_finds block n some counts leaf) in
    let there = apart_from pages calls block i m a x x bs more_than h.each apart finds in
    subst (λ (us : Trees). AllMeetLater pages (things_with (kept_nodes block) (all_numbers us))) (sym nodes) there.1
