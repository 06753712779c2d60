-- Texts may be typed beside the calls of a block that is texts and calls alone.
use Rattle.std.proofs.Common.{◌≡◌, ℕ, List, sym, ap, ◌∙◌, subst, inl, inr}
use Rattle.wt_tree.specs.declared.kind.Kind.TheVariants as kind
use Rattle.wt_tree.specs.Source.{flat}
use Rattle.wt_tree.specs.Tree.{Tree, label}
use Rattle.wt_span.specs.Origins.{OuterCall}
use Rattle.wt_annotated.specs.CutTexts.{cut_texts}
use Rattle.wt_expand.specs.PageCalls.{expanded_page}
use Rattle.wt_expand.specs.Work.{Pages}
use Rattle.wt_part_laws.specs.Expanded.{part_items}
use Rattle.wt_part_laws.specs.HeldCalls.{block_in}
use Rattle.wt_slices.specs.Changes.{Pair}
use Rattle.wt_typed_blocks.specs.Sent.{kind_of}
use Rattle.wt_text_edit_laws.specs.TextBlocks.{TextBlock, a_paragraph, a_heading, block_of, source_of}
use Rattle.wt_text_edit_laws.proofs.Blocks.Untangled.{flat_same}
use Rattle.wt_called_edit_laws.specs.CalledContents.{tree_round}
use Rattle.wt_called_edit_laws.specs.CalledEdits.{page_things, IsBesideCalls}
use Rattle.wt_called_edit_laws.specs.PageThings.{AllMeetLater}
use Rattle.wt_called_edit_laws.specs.PiecedParagraphs.{IsTextAndCalls}
use Rattle.wt_called_edit_laws.specs.Settled.{settled}
use Rattle.wt_called_edit_laws.proofs.Beside.Making.{block_kind}
use Rattle.wt_called_edit_laws.proofs.Headings.CallsApart.{heading_apart}
use Rattle.wt_called_edit_laws.proofs.Headings.TextAndCalls.{heading_beside}
use Rattle.wt_called_edit_laws.proofs.SettledNodes.{settled_gone}
use Rattle.wt_called_edit_laws.proofs.Whole.CallsApart.{apart_meet}
use Rattle.wt_called_edit_laws.proofs.Whole.TextAndCalls.{texts_beside}
use Rattle.wt_inside_laws.specs.BesideEdits.{IsBlockOf, IsBesideBlock}
use Rattle.wt_inside_laws.specs.TextAndCallBlocks.{DoCallsMeet, IsOfTextsAndCalls, IsTextAndCallBlock}

pub settled_source : (n at : ℕ) (t : Tree) → flat (settled n at t) ≡ flat t
settled_source n at t = sym (flat_same (settled n at t)) ∙ ap flat (settled_gone n at t) ∙ flat_same t

beside_by : (pages : Pages) (page : List ℕ) (k : TextBlock) (q : List ℕ) (t : Tree) → IsBlockOf pages page k q t → IsOfTextsAndCalls pages t k q
    → IsBesideCalls pages k q t
beside_by pages page a_paragraph q t b h =
    let n : ℕ = b.settled.number in
    let at : ℕ = b.settled.at in
    let calls : List OuterCall = (expanded_page pages page).outer in
    let meet : AllMeetLater pages (page_things t) = elim h.1 [
      | inl c ↦ apart_meet pages q t n at b.before calls b.settled.some b.settled.is h.0 c
      | inr m ↦ m
    ] in
    texts_beside pages q t n at b.before calls b.settled.some b.settled.is b.calls h.0 meet
beside_by pages page (a_heading s) q t b h =
    let n : ℕ = b.settled.number in
    let at : ℕ = b.settled.at in
    let calls : List OuterCall = (expanded_page pages page).outer in
    let meet : AllMeetLater pages (page_things t) = elim h.1 [
      | inl c ↦ heading_apart pages s q t n at b.before calls b.settled.some b.settled.is h.0 c
      | inr m ↦ m
    ] in
    heading_beside pages s q t n at b.before calls b.settled.some b.settled.is b.calls h.0 meet

pub takes_texts : (pages : Pages) (page : List ℕ) (p : Pair) → IsTextAndCallBlock pages p.old → IsBesideBlock pages page p
takes_texts pages page p h =
    λ k q b.
    let calls : List OuterCall = (expanded_page pages page).outer in
    let v : Tree = cut_texts (block_in calls (tree_round k (part_items pages b.before q))) in
    let own : (label p.old).kind ≡ kind_of (block_of k) =
    block_kind pages k q p.old (record { number = b.settled.number; at = b.settled.at; before = b.before; calls = calls; some = b.settled.some; is = b.settled.is }) in
    let source : source_of k q ≡ flat p.old = sym b.source ∙ sym (settled_source b.settled.number b.settled.at v) ∙ ap flat (sym b.settled.is) in
    inr (inl (beside_by pages page k q p.old b (h k q own source b.whole)))

no_heading : (n : ℕ) → kind.Para ≡ kind.Heading n → ⊥
no_heading n e = cc

pub paragraph_takes : (pages : Pages) (t : Tree) → (label t).kind ≡ kind.Para → (h : IsTextAndCalls pages (flat t)) → DoCallsMeet pages t h.pieces
    → IsTextAndCallBlock pages t
paragraph_takes pages t e h m = λ k q own source whole. by k q own source
  where
    by : (k : TextBlock) (q : List ℕ) → (label t).kind ≡ kind_of (block_of k) → source_of k q ≡ flat t → IsOfTextsAndCalls pages t k q
    by a_paragraph q own source = subst (λ (x : List ℕ). (g : IsTextAndCalls pages x) × DoCallsMeet pages t g.pieces) (sym source) (h, m)
    by (a_heading s) q own source = absurd (no_heading s.level (sym e ∙ own))
