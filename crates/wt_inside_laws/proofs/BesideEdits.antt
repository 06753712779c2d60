-- A text edit of a page is done, where the marked blocks may hold calls.
use Rattle.std.proofs.Common.{◌≡◌, ℕ, ◌≤◌, Option, Some, None, List, [], ◌∷◌, length, map, refl, sym, ap, ◌∙◌, subst, inl, inr}
use Rattle.std.specs.List.{AllByRecursion}
use Rattle.std.specs.Str.{IsUtf8}
use Rattle.wt_span.specs.declared.limits.TheConstants.{PAGE_BYTES}
use Rattle.wt_span.specs.Items.{Item}
use Rattle.wt_span.specs.Origins.{OuterCall}
use Rattle.wt_tree.specs.Source.{flat}
use Rattle.wt_tree.specs.Tiling.{is_group}
use Rattle.wt_tree.specs.Tree.{Label, Tree, label}
use Rattle.wt_checks.specs.Places.{page_of}
use Rattle.wt_annotated.specs.CutTexts.{cut_texts}
use Rattle.wt_expand.specs.PageCalls.{expanded_page}
use Rattle.wt_expand.specs.Work.{Pages}
use Rattle.wt_link_spelling.specs.Spelling.{children_of}
use Rattle.wt_page_round_trip.specs.PageTree.{page_tree}
use Rattle.wt_part_laws.specs.Expanded.{part_items}
use Rattle.wt_part_laws.specs.HeldCalls.{block_in}
use Rattle.wt_slices.specs.BodySlices.{slices}
use Rattle.wt_slices.specs.Changes.{Pair, marked}
use Rattle.wt_splice.specs.Splice.{spliced}
use Rattle.wt_visible.specs.SameNodes.{same_node}
use Rattle.wt_visible.proofs.SameTells.{tells_same}
use Rattle.wt_selser.specs.Edits.{most_bytes}
use Rattle.wt_commands.specs.Answers.{refusal_of_page, done, edit_of, edit_to}
use Rattle.wt_typed_blocks.specs.Edited.{Edited, Edits, page_node}
use Rattle.wt_text_edit_laws.specs.BlockSpots.{BlockSpot, spots_source}
use Rattle.wt_text_edit_laws.specs.TextBlocks.{TextBlock, source_of, block_tree}
use Rattle.wt_called_edit_laws.specs.CalledContents.{tree_round}
use Rattle.wt_called_edit_laws.specs.CallingBlocks.{IsContentIn, AreContentsInFolder}
use Rattle.wt_called_edit_laws.specs.CallingContents.{FitsIn, IfSent, AreFittingIn, IsContentEditIn, TakesContentsIn}
use Rattle.wt_called_edit_laws.specs.CallingEdits.{IsCallingPage}
use Rattle.wt_called_edit_laws.specs.CallingGroups.{block_with_groups}
use Rattle.wt_called_edit_laws.specs.EditsAt.{IsStanding, edited_by, edited_page}
use Rattle.wt_called_edit_laws.specs.Groups.{called_tree}
use Rattle.wt_called_edit_laws.specs.LinedAmong.{spots_of_lines, end_of_lines}
use Rattle.wt_called_edit_laws.specs.LinedCalling.{IsLinedCalling}
use Rattle.wt_called_edit_laws.specs.Parts.{calls_to, calls_past}
use Rattle.wt_called_edit_laws.specs.PartTexts.{AreSourcesAt, HaveOwnSources}
use Rattle.wt_called_edit_laws.specs.PlacedLines.{LinedBlock}
use Rattle.wt_called_edit_laws.specs.SentAsIs.{HaveNumberedGroups}
use Rattle.wt_called_edit_laws.specs.SettledAt.{IsSettledAt}
use Rattle.wt_called_edit_laws.specs.WholeContents.{EachWhole, IsWholeIn}
use Rattle.wt_called_edit_laws.specs.WrittenAnew.{EachHolds, HoldsAnywhere}
use Rattle.wt_called_edit_laws.proofs.Among.CallingLines.{calling_whole, calling_editable}
use Rattle.wt_called_edit_laws.proofs.CallingMade.{calm_block, calm_standing}
use Rattle.wt_called_edit_laws.proofs.EditableBlocks.{editable_calling}
use Rattle.wt_called_edit_laws.proofs.PageBody.{page_body}
use Rattle.wt_called_edit_laws.proofs.PartTexts.{AreNamed, block_calls}
use Rattle.wt_called_edit_laws.proofs.SettledEdits.{AreOfBlocks, all_there}
use Rattle.wt_called_edit_laws.proofs.SpotSources.{grouped_at, blocks_have}
use Rattle.wt_inside_laws.specs.AsSent.{edit_for, edits_of, paths_of, node_at, IsAlike, IsSentOn}
use Rattle.wt_inside_laws.specs.BesideEdits.{IsBlockOf, IsCalmBlock, IsBesideBlock, IsBesideEdit, IsBesideHtml}
use Rattle.wt_inside_laws.specs.RetypedCalls.{AreOwnTexts, IsBeside, IsCallingNode}
use Rattle.wt_inside_laws.specs.RetypedPieces.{AreRead}
use Rattle.wt_inside_laws.specs.TextEdits.{IsRetyped}
use Rattle.wt_inside_laws.specs.ToldEdits.{IsReadBlock}
use Rattle.wt_inside_laws.proofs.CallingEdits.{retyped_fits}
use Rattle.wt_inside_laws.proofs.HtmlEdits.{edit_is, blocks_read}
use Rattle.wt_inside_laws.proofs.MarkedBlocks.{all_alike, all_numbered}
use Rattle.wt_inside_laws.proofs.MatchedPairs.{same_old}
use Rattle.wt_inside_laws.proofs.PageAlike.{page_plain, text_edit_sent}
use Rattle.wt_inside_laws.proofs.ReadSent.{read_for, read_blocks}
use Rattle.wt_inside_laws.proofs.Reached.{Reaches, edits_reach}
use Rattle.wt_inside_laws.proofs.ToldEdits.{PairAt, pair_at, path_by, calm_fits, reads}
use Rattle.wt_inside_laws.proofs.UncalledBlocks.{block_uncalled, all_own_texts}

-- ---- a marked block

-- what is known of it
pub record IsKnownBeside (pages : Pages) (page : List ℕ) (p : Pair) : Type 0 where
  pub retyped : IsRetyped same_node (expanded_page pages page) page p
  pub alike : IsAlike same_node (page_of (page_tree pages page)) p
  pub read : IsReadBlock p
  pub beside : IsBesideBlock pages page p
  pub groups : HaveNumberedGroups (children_of p.old)
  pub own : AreOwnTexts (children_of p.old)

known : (pages : Pages) (page : List ℕ) (ps : List Pair) → AllByRecursion (IsRetyped same_node (expanded_page pages page) page) ps
    → AllByRecursion (IsAlike same_node (page_of (page_tree pages page))) ps → AllByRecursion IsReadBlock ps → AllByRecursion (IsBesideBlock pages page) ps
    → AllByRecursion (λ p. HaveNumberedGroups (children_of p.old)) ps → AllByRecursion (λ p. AreOwnTexts (children_of p.old)) ps
    → AllByRecursion (IsKnownBeside pages page) ps
known pages page [] a b c d e f = tt
known pages page (p ∷ ps) a b c d e f =
    (record { retyped = a.0; alike = b.0; read = c.0; beside = d.0; groups = e.0; own = f.0 }, known pages page ps a.1 b.1 c.1 d.1 e.1 f.1)

-- it is a node of the page
pub calling_node : (pages : Pages) (page : List ℕ) (k : TextBlock) (q : List ℕ) (p : Pair) → IsBlockOf pages page k q p.old → IsKnownBeside pages page p
    → IsCallingNode pages k q p.old
calling_node pages page k q p b h = record {
  number = b.settled.number;
  at = b.settled.at;
  before = b.before;
  calls = (expanded_page pages page).outer;
  some = b.settled.some;
  is = b.settled.is;
  groups = h.groups;
  uncalled = block_uncalled pages page k q p.old b h.own;
}

-- what is sent for it fits, where it is the page's block
calling_fits : (pages : Pages) (page : List ℕ) (k : TextBlock) (q : List ℕ) (p : Pair) → IsBlockOf pages page k q p.old → IsBeside pages k q p.old
    → IsKnownBeside pages page p → FitsIn pages k q (edit_for p)
calling_fits pages page k q p b c h =
    retyped_fits pages k q (expanded_page pages page) page p h.retyped h.read.read h.read.utf8 (calling_node pages page k q p b h) c

-- as one that calls nothing
pub calm_stands : (pages : Pages) (page : List ℕ) (k : TextBlock) (q : List ℕ) (p : Pair) → IsBlockOf pages page k q p.old → IsCalmBlock k q p
    → IsStanding (block_tree k q) p.old
calm_stands pages page k q p b c =
    let calls : List OuterCall = (expanded_page pages page).outer in
    calm_standing k q (cut_texts (block_in calls (tree_round k (part_items pages b.before q)))) p.old c.content
    (calm_block pages calls b.before k q c.content c.calls_nothing) b.settled

calm_fits_in : (pages : Pages) (page : List ℕ) (k : TextBlock) (q : List ℕ) (p : Pair) → IsBlockOf pages page k q p.old → IsCalmBlock k q p
    → IsKnownBeside pages page p → FitsIn pages k q (edit_for p)
calm_fits_in pages page k q p b c h =
    let stands : IsStanding (block_tree k q) p.old = calm_stands pages page k q p b c in
    inl (c.content, c.calls_nothing, calm_fits pages page k q p c.content c.calls_nothing stands h.retyped h.alike h.read c.nodes)

block_fits : (pages : Pages) (page : List ℕ) (k : TextBlock) (q : List ℕ) (p : Pair) → IsBlockOf pages page k q p.old → IsKnownBeside pages page p
    → FitsIn pages k q (edit_for p)
block_fits pages page k q p b h = elim (h.beside k q b) [
  | inl c ↦ calm_fits_in pages page k q p b c h
  | inr c ↦ calling_fits pages page k q p b c h
]

-- ---- all of them

-- what is known of the page and what was sent for it
record SentKnown (pages : Pages) (page : List ℕ) (t : Tree) (es : Edits) (ms : List Pair) : Type 0 where
  pairs : AllByRecursion (IsKnownBeside pages page) ms
  at : map (λ path. node_at path t) (paths_of es) ≡ map (λ m. Some m.old) ms
  each : map (edited_by es) (paths_of es) ≡ map (λ m. Some (edit_for m)) ms

-- the block at a place of the page, with these calls before it
abbrev pub block_at : Pages → List ℕ → ℕ → BlockSpot → Tree
block_at pages page i s = cut_texts (block_in (expanded_page pages page).outer (tree_round s.block (part_items pages i s.text)))

spot_fits : (pages : Pages) (page : List ℕ) (t : Tree) (es : Edits) (ms : List Pair) (i : ℕ) (s : BlockSpot) (p : List ℕ) (o : Option Edited)
    → edited_by es p ≡ o → SentKnown pages page t es ms → HoldsAnywhere pages s.block s.text → IsWholeIn pages s.block s.text → IsContentIn pages s.block s.text
    → AreSourcesAt (expanded_page pages page).outer i (expanded_page pages (source_of s.block s.text)).outer → flat (block_at pages page i s) ≡ source_of s.block s.text
    → IfSent (λ d. IsSettledAt (block_at pages page i s) (page_node d)) o → IfSent (FitsIn pages s.block s.text) o
spot_fits pages page t es ms i s p None e h hold whole content named own st = tt
spot_fits pages page t es ms i s p (Some x) e h hold whole content named own st =
    let v : Tree = block_at pages page i s in
    let a : PairAt (IsKnownBeside pages page) t es p =
    pair_at (IsKnownBeside pages page) t es p (paths_of es) ms (path_by es p x e) h.pairs h.at h.each in
    let same : Some (edit_for a.pair) ≡ Some x = sym a.found ∙ e in
    let is : edit_for a.pair ≡ x = cc in
    let there : IsSettledAt v (page_node (edit_for a.pair)) = subst (λ (d : Edited). IsSettledAt v (page_node d)) (sym is) st in
    let block : IsBlockOf pages page s.block s.text a.pair.old = record {
      before = i;
      source = own;
      calls = named;
      holds = hold;
      whole = whole;
      content = content;
      settled = subst (IsSettledAt v) (same_old same_node (page_of (page_tree pages page)) a.pair a.known.alike) there;
    } in
    subst (FitsIn pages s.block s.text) is (block_fits pages page s.block s.text a.pair block a.known)

all_fit : (pages : Pages) (page : List ℕ) (t : Tree) (es : Edits) (ms : List Pair) (k : ℕ) (ss : List BlockSpot) (ps : List (List ℕ))
    → SentKnown pages page t es ms → EachHolds pages ss → EachWhole pages ss → AreContentsInFolder pages ss
    → AreNamed pages (expanded_page pages page).outer k ss → HaveOwnSources (grouped_at (expanded_page pages page).outer pages k ss) ss
    → AreOfBlocks (grouped_at (expanded_page pages page).outer pages k ss) ss (map (edited_by es) ps) → AreFittingIn pages ss (map (edited_by es) ps)
all_fit pages page t es ms k [] [] h hold whole contents named own b = tt
all_fit pages page t es ms k [] (p ∷ ps) h hold whole contents named own b = absurd b
all_fit pages page t es ms k (s ∷ ss) [] h hold whole contents named own b = absurd b
all_fit pages page t es ms k (s ∷ ss) (p ∷ ps) h hold whole contents named own b = (
  spot_fits pages page t es ms (calls_to pages k s) s p (edited_by es p) refl h hold.0 whole.0 contents.0 named.0 own.0 b.0,
  all_fit pages page t es ms (calls_past pages k s) ss ps h hold.1 whole.1 contents.1 named.1 own.1 b.1,
)

-- ---- the edit

-- what was sent is an edit of the contents of these blocks, and the new page is the page with them
pub record BesideSent (pages : Pages) (ss : List BlockSpot) (behind : List ℕ) (paths : List (List ℕ)) (new : Tree) : Type 0 where
  pub sent : IsSentOn pages (spots_source ss behind) new (edits_of (called_tree pages (spots_source ss behind)) new)
  pub edit : IsContentEditIn pages (called_tree pages (spots_source ss behind)) ss paths (edits_of (called_tree pages (spots_source ss behind)) new)
  pub same : spliced (spots_source ss behind) (slices same_node (page_tree pages (spots_source ss behind)) new)
      ≡ edited_page ss behind paths (edits_of (called_tree pages (spots_source ss behind)) new)
  pub pairs : AllByRecursion (IsKnownBeside pages (spots_source ss behind)) (marked (page_tree pages (spots_source ss behind)) new)
  pub own : AreOfBlocks (block_with_groups pages ss behind) ss (map (edited_by (edits_of (called_tree pages (spots_source ss behind)) new)) paths)

pub beside_sent : (pages : Pages) (ss : List BlockSpot) (behind : List ℕ) (new : Tree) (c : TakesContentsIn pages ss behind) → IsUtf8 (spots_source ss behind)
    → refusal_of_page pages (spots_source ss behind) ≡ None → HaveOwnSources (block_with_groups pages ss behind) ss
    → IsCallingPage pages ss behind → IsBesideEdit pages (spots_source ss behind) c.paths new → BesideSent pages ss behind c.paths new
beside_sent pages ss behind new c utf8 unrefused own there e =
    let page : List ℕ = spots_source ss behind in
    let t : Tree = called_tree pages page in
    let ms : List Pair = marked (page_tree pages page) new in
    let es : Edits = edits_of t new in
    let b : Label = label new in
    let plain = page_plain pages page utf8 e.short unrefused in
    let read : AllByRecursion (λ p. AreRead (children_of p.new)) ms = reads ms e.blocks in
    let sent : IsSentOn pages page new es = text_edit_sent pages page new utf8 e.short unrefused e.edit e.read read in
    let alike = all_alike same_node (expanded_page pages page) page (page_tree pages page) new tells_same plain e.edit.blocks read in
    let groups = all_numbered same_node (expanded_page pages page) page (page_tree pages page) new plain e.edit.blocks in
    let body = page_body pages page utf8 unrefused in
    let reach : AllByRecursion (Reaches t) (paths_of es) = edits_reach t es (ap is_group body.kind) sent.old sent.outside in
    let own_texts : AllByRecursion (λ p. AreOwnTexts (children_of p.old)) ms =
    all_own_texts pages page utf8 e.short unrefused (paths_of es) ms reach sent.at e.edit.blocks in
    let pairs : SentKnown pages page t es ms = record {
      pairs = known pages page ms e.edit.blocks alike e.blocks e.beside groups own_texts;
      at = sent.at;
      each = sent.each;
    } in
    let of_blocks : AreOfBlocks (block_with_groups pages ss behind) ss (map (edited_by es) c.paths) =
    all_there (block_with_groups pages ss behind) ss c.paths t es c.stand sent.old in
    let edit : IsContentEditIn pages t ss c.paths es = record {
      old = sent.old;
      sent = sent.stay;
      edits = sent.only c.paths e.among;
      fit = all_fit pages page t es ms 0 ss c.paths pairs there.hold there.whole there.outside.blocks.contents (block_calls pages ss behind there.outside.blocks.called) own of_blocks;
    } in
    record { sent = sent; edit = edit; same = ap (spliced page) (sent.changes b) ∙ c.makes b es edit; pairs = pairs.pairs; own = of_blocks }

beside_done : (pages : Pages) (ss : List BlockSpot) (behind : List ℕ) (new : Tree) (c : TakesContentsIn pages ss behind) → IsUtf8 (spots_source ss behind)
    → refusal_of_page pages (spots_source ss behind) ≡ None → HaveOwnSources (block_with_groups pages ss behind) ss
    → IsCallingPage pages ss behind → IsBesideEdit pages (spots_source ss behind) c.paths new
    → edit_to pages (spots_source ss behind) new ≡ done (spliced (spots_source ss behind) (slices same_node (page_tree pages (spots_source ss behind)) new))
unfolding most_bytes
beside_done pages ss behind new c utf8 unrefused own there e =
    let es : Edits = edits_of (called_tree pages (spots_source ss behind)) new in
    let s : BesideSent pages ss behind c.paths new = beside_sent pages ss behind new c utf8 unrefused own there e in
    let room : length (edited_page ss behind c.paths es) ≤ PAGE_BYTES = subst (λ (bs : List ℕ). length bs ≤ PAGE_BYTES) s.same e.edit.room in
    s.sent.alike (label new) ∙ c.takes (label new) es s.edit room ∙ ap done (sym s.same)

-- of a page that its lines tell
pub calling_edit_done : (pages : Pages) (page : List ℕ) (bs : List LinedBlock) (rest : List (List Item)) (new : Tree) → IsLinedCalling pages page bs rest
    → (c : TakesContentsIn pages (spots_of_lines pages page bs) (end_of_lines pages page bs rest)) → IsBesideEdit pages page c.paths new
    → edit_to pages page new ≡ done (spliced page (slices same_node (page_tree pages page) new))
calling_edit_done pages page bs rest new h c e =
    let ss : List BlockSpot = spots_of_lines pages page bs in
    let behind : List ℕ = end_of_lines pages page bs rest in
    let there : IsCallingPage pages ss behind = editable_calling pages ss behind (calling_editable pages page bs rest h) in
    subst (λ (q : List ℕ). IsUtf8 q → refusal_of_page pages q ≡ None → IsBesideEdit pages q c.paths new
    → edit_to pages q new ≡ done (spliced q (slices same_node (page_tree pages q) new)))
    (calling_whole pages page bs rest h)
    (λ u r k. beside_done pages ss behind new c u r (blocks_have pages ss behind there.outside there.unrefused) there k) h.utf8 h.unrefused e

pub html_beside : (pages : Pages) (page input : List ℕ) (bs : List LinedBlock) (rest : List (List Item)) (paths : List (List ℕ)) (new : Tree) (unsourced : Option ℕ)
    → IsLinedCalling pages page bs rest → IsBesideHtml pages page input paths new unsourced → IsBesideEdit pages page paths new
html_beside pages page input bs rest paths new unsourced h e = record {
  short = e.short;
  edit = e.edit;
  read = read_for pages page input new unsourced h.utf8 e.short h.unrefused e.reads e.edit.checks;
  blocks =
      blocks_read (marked (page_tree pages page) new)
      (read_blocks same_node (expanded_page pages page) page pages page input new unsourced h.utf8 e.short h.unrefused e.reads e.edit.checks e.edit.blocks);
  beside = e.beside;
  among = e.among;
}

pub html_beside_done : (pages : Pages) (page input : List ℕ) (bs : List LinedBlock) (rest : List (List Item)) (new : Tree) (unsourced : Option ℕ)
    → IsLinedCalling pages page bs rest → (c : TakesContentsIn pages (spots_of_lines pages page bs) (end_of_lines pages page bs rest))
    → IsBesideHtml pages page input c.paths new unsourced
    → edit_of pages (Some page) input ≡ done (spliced page (slices same_node (page_tree pages page) new))
html_beside_done pages page input bs rest new unsourced h c e =
    edit_is pages page (spliced page (slices same_node (page_tree pages page) new)) input new unsourced h.utf8 e.short e.within e.reads
    (calling_edit_done pages page bs rest new h c (html_beside pages page input bs rest c.paths new unsourced h e))
