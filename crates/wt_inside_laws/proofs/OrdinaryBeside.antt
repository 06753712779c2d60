-- A marked block that is ordinary calls nothing, whatever source it is told by: so it may be marked together with blocks that hold calls.
use Rattle.std.proofs.Common.{◌≡◌, ℕ, Some, None, List, map, sym, ap, ◌∙◌, subst, inl, inr}
use Rattle.std.specs.Str.{IsUtf8}
use Rattle.wt_span.specs.Items.{Item, sources}
use Rattle.wt_tree.specs.Source.{flat}
use Rattle.wt_tree.specs.Tree.{Tree, label}
use Rattle.wt_inline.specs.ItemTree.{forest, held_by_all}
use Rattle.wt_inline.specs.Parts.{children}
use Rattle.wt_context.specs.Line.{line_parts}
use Rattle.wt_annotated.specs.CutTexts.{cut_texts}
use Rattle.wt_annotated.specs.Seams.{last_of}
use Rattle.wt_expand.specs.PageCalls.{expanded_page}
use Rattle.wt_expand.specs.Work.{Pages}
use Rattle.wt_part_laws.specs.Expanded.{part_items}
use Rattle.wt_part_laws.specs.HeldCalls.{block_in}
use Rattle.wt_part_laws.proofs.OwnWalks.{text_own}
use Rattle.wt_slices.specs.Changes.{Pair}
use Rattle.wt_visible.specs.SameNodes.{same_node}
use Rattle.wt_commands.specs.Answers.{refusal_of_page}
use Rattle.wt_text_edit_laws.specs.BlockSpots.{BlockSpot, spots_source}
use Rattle.wt_text_edit_laws.specs.LonePages.{page_chars}
use Rattle.wt_text_edit_laws.specs.TextBlocks.{TextBlock, a_paragraph, a_heading}
use Rattle.wt_text_edit_laws.specs.TypedHeadings.{opening, closing_items}
use Rattle.wt_text_edit_laws.proofs.Blocks.BlockLeaves.{open_items, close_items}
use Rattle.wt_text_edit_laws.proofs.Texts.TypedShown.{chars_of_page}
use Rattle.wt_beside_laws.proofs.Groups.CalledHeadings.{closing_page}
use Rattle.wt_called_edit_laws.specs.AllTold.{AllBlocksTold, ToldAtPaths}
use Rattle.wt_called_edit_laws.specs.CalledContents.{tree_round}
use Rattle.wt_called_edit_laws.specs.CalledPages.{IsCalledPage}
use Rattle.wt_called_edit_laws.specs.CallingBlocks.{IsContentIn}
use Rattle.wt_called_edit_laws.specs.Groups.{called_tree}
use Rattle.wt_called_edit_laws.specs.LinedAmong.{spots_of_lines, end_of_lines, IsLinedAmong}
use Rattle.wt_called_edit_laws.specs.PlacedLines.{LinedBlock}
use Rattle.wt_called_edit_laws.specs.ToldLines.{lined}
use Rattle.wt_called_edit_laws.proofs.AllTold.Complete.{all_blocks}
use Rattle.wt_called_edit_laws.proofs.Among.LinedParts.{lined_whole, lined_editable}
use Rattle.wt_called_edit_laws.proofs.Among.ToldAmong.{told_among}
use Rattle.wt_called_edit_laws.proofs.Beside.Making.{IsSettledIn, block_kind}
use Rattle.wt_called_edit_laws.proofs.BlocksOutside.{editable_called}
use Rattle.wt_called_edit_laws.proofs.EditFacts.{spots_contents}
use Rattle.wt_inside_laws.specs.AsSent.{node_at}
use Rattle.wt_inside_laws.specs.BesideEdits.{IsBlockOf, IsCalmBlock, IsBesideBlock}
use Rattle.wt_inside_laws.specs.EditsWithCalls.{IsCallingOn}
use Rattle.wt_inside_laws.specs.TextEdits.{IsRetyped}
use Rattle.wt_inside_laws.specs.ToldEdits.{IsOrdinaryOn}
use Rattle.wt_inside_laws.proofs.OneSource.{HasSides, IsToldBy, IsSameBlock, one_block, standing_told}
use Rattle.wt_inside_laws.proofs.OrdinaryEdits.{IsTold, marked_told}
use Rattle.wt_inside_laws.proofs.Reached.{Reaches}
use Rattle.wt_inside_laws.proofs.TextAndCallBlocks.{settled_source}
use Rattle.wt_inside_laws.proofs.TypedApart.{BlockThere, block_there}

-- ---- the block that a node is

pub block_told : (pages : Pages) (page : List ℕ) (q : List ℕ) (m : Pair) → IsUtf8 page → refusal_of_page pages page ≡ None
    → Reaches (called_tree pages page) q → node_at q (called_tree pages page) ≡ Some m.old → IsRetyped same_node (expanded_page pages page) page m
    → IsOrdinaryOn pages page m → BlockThere m.old
block_told pages page q m utf8 unrefused w e r o =
    let a : AllBlocksTold pages page = all_blocks pages page utf8 unrefused in
    let told : IsTold pages page a q = marked_told pages page a q m w e r o in
    let at : ToldAtPaths pages page a.ts a.behind = a.told told.some in
    let bs : List LinedBlock = map lined a.ts in
    let ss : List BlockSpot = spots_of_lines pages page bs in
    let behind : List ℕ = end_of_lines pages page bs a.behind in
    let among : IsLinedAmong pages page bs a.behind = told_among pages page a.ts a.behind at.told in
    let called : IsCalledPage pages ss behind = editable_called pages ss behind (lined_editable pages page bs a.behind among) in
    block_there (called_tree pages (spots_source ss behind)) ss at.taken.paths q m.old (spots_contents pages ss behind called) called.outside.among.calm
    at.taken.stand told.one
    (subst (λ (bytes : List ℕ). node_at q (called_tree pages bytes) ≡ Some m.old) (sym (lined_whole pages page bs a.behind among)) e)

-- ---- by whatever source it is told

sides_in : (pages : Pages) (k : TextBlock) (q : List ℕ) → IsContentIn pages k q → HasSides k
sides_in pages a_paragraph q c = tt
sides_in pages (a_heading s) q c = let items = c.is 0 in items.sides

opening_in : (pages : Pages) (k : TextBlock) (q : List ℕ) (t : Tree) → IsSettledIn pages k q t → (label t).opening ≡ sources (open_items k)
opening_in pages a_paragraph q t i = ap (λ (u : Tree). (label u).opening) i.is
opening_in pages (a_heading s) q t i =
    ap (λ (u : Tree). (label u).opening) i.is ∙ text_own i.calls None (page_chars (opening s)) (chars_of_page (opening s))

closing_in : (pages : Pages) (k : TextBlock) (q : List ℕ) (t : Tree) → IsSettledIn pages k q t → (label t).closing ≡ sources (close_items k)
closing_in pages a_paragraph q t i = ap (λ (u : Tree). (label u).closing) i.is
closing_in pages (a_heading s) q t i =
    let inside : List Item = held_by_all (forest (children (line_parts (part_items pages i.before q)))) in
    ap (λ (u : Tree). (label u).closing) i.is
    ∙ text_own i.calls (last_of (last_of None (page_chars (opening s))) inside) (closing_items s) (closing_page s)

of_page : (pages : Pages) (page : List ℕ) (k : TextBlock) (q : List ℕ) (t : Tree) → IsBlockOf pages page k q t → IsToldBy k q t
of_page pages page k q t b =
    let there : IsSettledIn pages k q t = record {
      number = b.settled.number;
      at = b.settled.at;
      before = b.before;
      calls = (expanded_page pages page).outer;
      some = b.settled.some;
      is = b.settled.is;
    } in
    record {
      kind = block_kind pages k q t there;
      opening = opening_in pages k q t there;
      closing = closing_in pages k q t there;
      source =
          ap flat b.settled.is
          ∙ settled_source b.settled.number b.settled.at
          (cut_texts (block_in (expanded_page pages page).outer (tree_round k (part_items pages b.before q))))
          ∙ b.source;
      sides = sides_in pages k q b.content;
    }

pub ordinary_beside : (pages : Pages) (page : List ℕ) (m : Pair) → BlockThere m.old → IsOrdinaryOn pages page m → IsBesideBlock pages page m
ordinary_beside pages page m at o =
    λ k q b.
    let same : IsSameBlock k at.block q at.text =
    one_block k at.block q at.text m.old (of_page pages page k q m.old b) (standing_told at.block at.text m.old at.stands at.content) in
    let own : IsCalmBlock at.block at.text m = record {
      content = at.content;
      calls_nothing = at.calm;
      nodes = o.ordinary at.block at.text at.stands;
    } in
    inl (subst (λ (j : TextBlock). IsCalmBlock j q m) (sym same.block) (subst (λ (x : List ℕ). IsCalmBlock at.block x m) (sym same.text) own))

-- ---- it may be marked so

pub ordinary_calling : (pages : Pages) (page : List ℕ) (m : Pair) → BlockThere m.old → IsOrdinaryOn pages page m → IsCallingOn pages page m
ordinary_calling pages page m at o =
    let told : IsToldBy at.block at.text m.old = standing_told at.block at.text m.old at.stands at.content in
    record {
      editable = record {
        block = at.block;
        text = at.text;
        kind = sym told.kind;
        source = told.source;
        content = inl (at.content, at.calm);
      };
      beside = inr (ordinary_beside pages page m at o);
    }
