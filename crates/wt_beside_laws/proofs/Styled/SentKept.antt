-- What is sent for a block has some of the block's nodes, in their order, and others that are put.
use Rattle.std.proofs.Common.{◌≡◌, ℕ, List, sym, ap, ◌∙◌, subst}
use Rattle.wt_span.specs.Items.{Item}
use Rattle.wt_tree.specs.Tiling.{HasNoGroup, NoneIsGroup}
use Rattle.wt_tree.specs.Tree.{Tree, tree, Trees}
use Rattle.wt_original.specs.Kept.{kept_nodes}
use Rattle.wt_link_spelling.specs.Spelling.{children_of}
use Rattle.wt_typed_blocks.specs.Edited.{Pieces, page_pieces, sent_pieces, PiecesStay}
use Rattle.wt_text_edit_laws.specs.TextBlocks.{TextBlock}
use Rattle.wt_beside_laws.specs.FlatBlocks.{lines_in, signs_in as signs_of, sent_for}
use Rattle.wt_beside_laws.specs.PageBlocks.{IsBlockOfLines}
use Rattle.wt_beside_laws.specs.PageSigns.{signs_of_lines}
use Rattle.wt_beside_laws.specs.Stood.{things}
use Rattle.wt_beside_laws.specs.Styled.{StyledContent, signs_in}
use Rattle.wt_beside_laws.specs.StyledBlocks.{all_numbers, things_with, AreSomeOf}
use Rattle.wt_beside_laws.specs.StyledIn.{IsStyledIn}
use Rattle.wt_beside_laws.specs.StyledNodes.{AreSomeAndPut}
use Rattle.wt_beside_laws.proofs.Made.Making.{known}
use Rattle.wt_beside_laws.proofs.Made.OldBlocks.{IsIn, block_begins}
use Rattle.wt_beside_laws.proofs.Styled.BlockStyles.{styled_nodes}
use Rattle.wt_beside_laws.proofs.Styled.OldStyled.{styled_of_lines}
use Rattle.wt_beside_laws.proofs.Styled.SentAmong.{some_of, things_among, sent_some}
use Rattle.wt_beside_laws.proofs.Styled.SentWhole.{some_numbers}

none_in : (t : Tree) → HasNoGroup t → NoneIsGroup (children_of t)
none_in (tree l ts) h = h.1

pub nodes_among : (k : TextBlock) (q : List ℕ) (block : Tree) (ps : Pieces) → IsStyledIn k q → IsIn k q block → page_pieces ps ≡ children_of block → PiecesStay ps
    → AreSomeAndPut (things (signs_in (sent_for block ps))) (things (signs_of k q))
nodes_among k q block ps h i old stay =
    let us : Trees = sent_pieces ps in
    let t : StyledContent = sent_for block ps in
    let ls : List (List Item) = lines_in k q in
    let b : IsBlockOfLines ls block = styled_of_lines k q block h i in
    let none : NoneIsGroup (page_pieces ps) = subst NoneIsGroup (sym old) (none_in block b.ungrouped) in
    let some : AreSomeOf (all_numbers us) (all_numbers (children_of block)) =
    subst (λ (ts : Trees). AreSomeOf (all_numbers us) (all_numbers ts)) old (some_numbers ps none stay) in
    let page : things_with (kept_nodes block) (all_numbers (children_of block)) ≡ things (signs_of k q) =
    styled_nodes ls block h.flat b ∙ ap (λ (n : ℕ). things (signs_of_lines n ls)) (block_begins k q block i) in
    let among : AreSomeOf (things_with (kept_nodes block) (all_numbers us)) (things (signs_of k q)) =
    subst (AreSomeOf (things_with (kept_nodes block) (all_numbers us))) page (things_among (kept_nodes block) (all_numbers us) (all_numbers (children_of block)) some) in
    some_of (things (signs_in t)) (things_with (kept_nodes block) (all_numbers us)) (things (signs_of k q)) (sent_some (known block) us) among
