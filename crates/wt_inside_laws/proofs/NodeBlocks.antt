-- Texts may be typed beside the calls of a block, by the nodes of the page's tree.
use Rattle.std.proofs.Common.{◌≡◌, ℕ, false, List, sym, ap, ◌∙◌, inr}
use Rattle.wt_tree.specs.declared.kind.Kind.TheVariants as kind
use Rattle.wt_tree.specs.Source.{flat}
use Rattle.wt_tree.specs.Tree.{Tree, Trees, label}
use Rattle.wt_span.specs.Origins.{Expanded}
use Rattle.wt_isolation.specs.OpenTags.{any_ends_open}
use Rattle.wt_annotated.specs.CutTexts.{cut_texts}
use Rattle.wt_expand.specs.PageCalls.{expanded_page}
use Rattle.wt_expand.specs.Work.{Pages}
use Rattle.wt_link_spelling.specs.Spelling.{children_of}
use Rattle.wt_part_laws.specs.Expanded.{part_items}
use Rattle.wt_part_laws.specs.HeldCalls.{block_in}
use Rattle.wt_slices.specs.Changes.{Pair}
use Rattle.wt_visible.specs.SameNodes.{same_node}
use Rattle.wt_typed_blocks.specs.Sent.{kind_of}
use Rattle.wt_text_edit_laws.specs.TextBlocks.{TextBlock, a_paragraph, a_heading, block_of, source_of}
use Rattle.wt_text_edit_laws.proofs.Blocks.Untangled.{flat_same}
use Rattle.wt_called_edit_laws.specs.BlockNodes.{IsOfNodes}
use Rattle.wt_called_edit_laws.specs.CalledContents.{tree_round}
use Rattle.wt_called_edit_laws.specs.CalledEdits.{FitsRound, page_things}
use Rattle.wt_called_edit_laws.specs.CallingBlocks.{IsContentIn}
use Rattle.wt_called_edit_laws.specs.Settled.{settled}
use Rattle.wt_called_edit_laws.proofs.Beside.Making.{IsSettledIn, block_kind}
use Rattle.wt_called_edit_laws.proofs.SettledNodes.{settled_gone}
use Rattle.wt_called_edit_laws.proofs.Styles.BlockNodes.{nodes_beside}
use Rattle.wt_called_edit_laws.proofs.Told.FreeNodes.{tree_shut}
use Rattle.wt_called_edit_laws.proofs.Whole.TextAndCalls.{same_nodes}
use Rattle.wt_inside_laws.specs.BesideEdits.{IsBesideBlock}
use Rattle.wt_inside_laws.specs.NodeBlocks.{IsNodeBlock}
use Rattle.wt_inside_laws.specs.TextEdits.{IsRetyped}
use Rattle.wt_inside_laws.proofs.NodeNumbers.{nodes_numbered}

settled_source : (n at : ℕ) (t : Tree) → flat (settled n at t) ≡ flat t
settled_source n at t = sym (flat_same (settled n at t)) ∙ ap flat (settled_gone n at t) ∙ flat_same t

no_heading : (n : ℕ) → kind.Para ≡ kind.Heading n → ⊥
no_heading n e = cc

-- how a heading is read between its `=` is known of each block of a page
round_of : (pages : Pages) (k : TextBlock) (q : List ℕ) (t : Tree) → (label t).kind ≡ kind_of (block_of k) → IsContentIn pages k q → IsNodeBlock pages t
    → FitsRound pages k q (page_things t)
round_of pages a_paragraph q t e c h = tt
round_of pages (a_heading s) q t e c h = (c.read, h.seen (λ p. no_heading s.level (sym p ∙ e)))

pub nodes_take_texts : (pages : Pages) (page : List ℕ) (p : Pair) → IsRetyped same_node (expanded_page pages page) page p → IsNodeBlock pages p.old
    → IsBesideBlock pages page p
nodes_take_texts pages page p r h =
    λ k q b.
    let e : Expanded = expanded_page pages page in
    let v : Tree = cut_texts (block_in e.outer (tree_round k (part_items pages b.before q))) in
    let i : IsSettledIn pages k q p.old =
    record { number = b.settled.number; at = b.settled.at; before = b.before; calls = e.outer; some = b.settled.some; is = b.settled.is } in
    let source : source_of k q ≡ flat p.old = sym b.source ∙ sym (settled_source b.settled.number b.settled.at v) ∙ ap flat (sym b.settled.is) in
    let shut : any_ends_open (children_of p.old) ≡ false =
    ap (λ (ts : Trees). any_ends_open ts) (same_nodes p.old) ∙ tree_shut e page p.old r.untangled in
    let round : FitsRound pages k q (page_things p.old) = round_of pages k q p.old (block_kind pages k q p.old i) b.content h in
    inr (inr (nodes_beside pages k q p.old i source (nodes_numbered same_node e page p r) shut h.nodes round))

pub paragraph_of_nodes : (pages : Pages) (t : Tree) → (label t).kind ≡ kind.Para → IsOfNodes pages t → IsNodeBlock pages t
paragraph_of_nodes pages t e h = record { nodes = h; seen = λ n. absurd (n e) }
