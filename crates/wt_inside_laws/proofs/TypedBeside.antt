-- What is written for the marked blocks of a text edit, which may hold calls, makes nothing but what was typed.
use Rattle.std.proofs.Common.{arith, ◌≡◌, ℕ, Some, None, List, [], ◌∷◌, length, map, sym, ap, ◌∙◌, subst, inl, inr}
use Rattle.std.specs.List.{AllByRecursion}
use Rattle.std.specs.Str.{IsUtf8}
use Rattle.wt_span.specs.Items.{Item}
use Rattle.wt_tree.specs.Tree.{Tree, label}
use Rattle.wt_checks.specs.Places.{page_of}
use Rattle.wt_expand.specs.PageCalls.{expanded_page}
use Rattle.wt_expand.specs.Work.{Pages}
use Rattle.wt_guards.specs.Guards.{spelled}
use Rattle.wt_link_spelling.specs.Spelling.{children_of, inline_spelling}
use Rattle.wt_page_round_trip.specs.PageTree.{page_tree}
use Rattle.wt_slices.specs.Changes.{Pair, marked}
use Rattle.wt_visible.specs.SameNodes.{same_node}
use Rattle.wt_commands.specs.Answers.{refusal_of_page}
use Rattle.wt_typed_blocks.specs.Edited.{Edits, page_node, page_pieces}
use Rattle.wt_typed_blocks.specs.Sent.{kind_of}
use Rattle.wt_typed_blocks.specs.Typed.{place_of}
use Rattle.wt_text_edit_laws.specs.BlockSpots.{BlockSpot, spots_source}
use Rattle.wt_text_edit_laws.specs.TextBlocks.{TextBlock, block_of}
use Rattle.wt_beside_laws.specs.ContentEdits.{content_edit, new_content}
use Rattle.wt_called_edit_laws.specs.CalledEdits.{IsCalledEditOf}
use Rattle.wt_called_edit_laws.specs.CallingBlocks.{AreContentsInFolder}
use Rattle.wt_called_edit_laws.specs.CallingContents.{IfSent, TakesContentsIn}
use Rattle.wt_called_edit_laws.specs.CallingEdits.{IsCallingPage}
use Rattle.wt_called_edit_laws.specs.CallingGroups.{block_with_groups}
use Rattle.wt_called_edit_laws.specs.EditsAt.{edited_by}
use Rattle.wt_called_edit_laws.specs.Groups.{called_tree}
use Rattle.wt_called_edit_laws.specs.LinedAmong.{spots_of_lines, end_of_lines}
use Rattle.wt_called_edit_laws.specs.LinedCalling.{IsLinedCalling}
use Rattle.wt_called_edit_laws.specs.Parts.{calls_to, calls_past}
use Rattle.wt_called_edit_laws.specs.PartTexts.{HaveOwnSources}
use Rattle.wt_called_edit_laws.specs.PlacedLines.{LinedBlock}
use Rattle.wt_called_edit_laws.specs.SettledAt.{IsSettledAt}
use Rattle.wt_called_edit_laws.specs.StyledCallEdits.{IsStyledCallEdit}
use Rattle.wt_called_edit_laws.specs.WholeContents.{EachWhole}
use Rattle.wt_called_edit_laws.specs.WrittenAnew.{EachHolds}
use Rattle.wt_called_edit_laws.proofs.Among.CallingLines.{calling_whole, calling_editable}
use Rattle.wt_called_edit_laws.proofs.Beside.Apart.{calls_apart}
use Rattle.wt_called_edit_laws.proofs.Beside.Making.{setting, signs, block_kind, node_by, spelled_by}
use Rattle.wt_called_edit_laws.proofs.EditableBlocks.{editable_calling}
use Rattle.wt_called_edit_laws.proofs.PartTexts.{AreNamed, block_calls}
use Rattle.wt_called_edit_laws.proofs.SettledEdits.{AreOfBlocks}
use Rattle.wt_called_edit_laws.proofs.SpotSources.{grouped_at, blocks_have}
use Rattle.wt_called_edit_laws.proofs.Styles.Apart.{styles_apart}
use Rattle.wt_inside_laws.specs.AsSent.{edit_for, edits_of, paths_of, pieces_for, IsOneOf, AreSomeOf, IsAlike}
use Rattle.wt_inside_laws.specs.BesideEdits.{IsBlockOf, IsBesideEdit}
use Rattle.wt_inside_laws.specs.RetypedCalls.{IsBeside, IsCallingNode}
use Rattle.wt_inside_laws.specs.TypedBeside.{IsTypedBeside, IsTypedIn}
use Rattle.wt_inside_laws.proofs.BesideEdits.{IsKnownBeside, calling_node, calm_stands, block_at, BesideSent, beside_sent}
use Rattle.wt_inside_laws.proofs.CallingEdits.{as_settled, called_edit, styled_edit}
use Rattle.wt_inside_laws.proofs.MatchedPairs.{same_old}
use Rattle.wt_inside_laws.proofs.ToldEdits.{first_same, rest_same}
use Rattle.wt_inside_laws.proofs.TypedApart.{pair_apart}

-- ---- a marked block

written_so : (pages : Pages) (t : Tree) (k : TextBlock) (q : List ℕ) (p : Pair) → IsCallingNode pages k q p.old → page_pieces (pieces_for p) ≡ children_of p.old
    → IsAlike same_node (page_of t) p
    → inline_spelling same_node p.old p.new (place_of (block_of k)) ≡ new_content k p.old (label p.new) (pieces_for p)
unfolding inline_spelling
written_so pages t k q p c e a =
    let node : page_node (content_edit k p.old (label p.new) (pieces_for p)) ≡ p.old =
    node_by (kind_of (block_of k)) p.old (page_pieces (pieces_for p)) (block_kind pages k q p.old (as_settled pages k q p.old c)) e in
    ap (spelled (setting k p.old)) (a.written (place_of (block_of k)))
    ∙ sym
    (spelled_by k (page_node (content_edit k p.old (label p.new) (pieces_for p))) p.old (label p.new) (pieces_for p)
    ∙ ap (λ (old : Tree). spelled (setting k old) (signs k old (pieces_for p))) node)

calling_typed : (pages : Pages) (page : List ℕ) (k : TextBlock) (q : List ℕ) (p : Pair) → IsBlockOf pages page k q p.old → IsBeside pages k q p.old
    → IsKnownBeside pages page p → IsTypedBeside pages p
calling_typed pages page k q p b c h =
    let v : IsCallingNode pages k q p.old = calling_node pages page k q p b h in
    let t : Tree = page_tree pages page in
    elim c [
      | inl w ↦
          let e : IsCalledEditOf pages k p.old (pieces_for p) =
          called_edit pages k q (expanded_page pages page) page p h.retyped h.read.read h.read.utf8 v w in
          record {
            block = k;
            written = written_so pages t k q p v e.old h.alike;
            apart = calls_apart pages k q p.old (label p.new) (pieces_for p) v.number v.at v.before v.calls v.some v.is w e;
          }
      | inr w ↦
          let e : IsStyledCallEdit pages k p.old (pieces_for p) =
          styled_edit pages k q (expanded_page pages page) page p h.retyped h.read.read h.read.utf8 v w in
          record {
            block = k;
            written = written_so pages t k q p v e.old h.alike;
            apart = styles_apart pages k q p.old (label p.new) (pieces_for p) v.number v.at v.before v.calls v.some v.is w e;
          }
    ]

pair_typed : (pages : Pages) (page : List ℕ) (k : TextBlock) (q : List ℕ) (p : Pair) → IsBlockOf pages page k q p.old → IsKnownBeside pages page p → IsTypedIn pages p
pair_typed pages page k q p b h = elim (h.beside k q b) [
  | inl c ↦
      inl (pair_apart pages page k q p c.content c.calls_nothing (calm_stands pages page k q p b c) h.retyped h.alike h.read c.nodes)
  | inr c ↦ inr (calling_typed pages page k q p b c h)
]

-- ---- the block at a path

record BlockThere (pages : Pages) (page : List ℕ) (v : Tree) : Type 0 where
  block : TextBlock
  text : List ℕ
  is : IsBlockOf pages page block text v

-- what is known of the page's blocks, where so many calls come before them
record BlocksKnown (pages : Pages) (page : List ℕ) (k : ℕ) (ss : List BlockSpot) (ps : List (List ℕ)) (es : Edits) : Type 0 where
  hold : EachHolds pages ss
  whole : EachWhole pages ss
  contents : AreContentsInFolder pages ss
  named : AreNamed pages (expanded_page pages page).outer k ss
  own : HaveOwnSources (grouped_at (expanded_page pages page).outer pages k ss) ss
  blocks : AreOfBlocks (grouped_at (expanded_page pages page).outer pages k ss) ss (map (edited_by es) ps)

block_there : (pages : Pages) (page : List ℕ) (k : ℕ) (ss : List BlockSpot) (ps : List (List ℕ)) (es : Edits) (q : List ℕ) (m : Pair)
    → BlocksKnown pages page k ss ps es → IsOneOf q ps → edited_by es q ≡ Some (edit_for m) → IsAlike same_node (page_of (page_tree pages page)) m
    → BlockThere pages page m.old
block_there pages page k [] [] es q m b h e a = absurd h
block_there pages page k [] (p ∷ ps) es q m b h e a = absurd b.blocks
block_there pages page k (s ∷ ss) [] es q m b h e a = absurd h
block_there pages page k (s ∷ ss) (p ∷ ps) es q m b (inl i) e a =
    let i0 : ℕ = calls_to pages k s in
    let hold = b.hold in
    let whole = b.whole in
    let contents = b.contents in
    let named = b.named in
    let own = b.own in
    let blocks = b.blocks in
    let st : IsSettledAt (block_at pages page i0 s) (page_node (edit_for m)) =
    subst (IfSent (λ d. IsSettledAt (block_at pages page i0 s) (page_node d))) (ap (edited_by es) (sym i) ∙ e) blocks.0 in
    record {
      block = s.block;
      text = s.text;
      is = record {
        before = i0;
        source = own.0;
        calls = named.0;
        holds = hold.0;
        whole = whole.0;
        content = contents.0;
        settled = subst (IsSettledAt (block_at pages page i0 s)) (same_old same_node (page_of (page_tree pages page)) m a) st;
      };
    }
block_there pages page k (s ∷ ss) (p ∷ ps) es q m b (inr h) e a =
    let hold = b.hold in
    let whole = b.whole in
    let contents = b.contents in
    let named = b.named in
    let own = b.own in
    let blocks = b.blocks in
    block_there pages page (calls_past pages k s) ss ps es q m
    (record { hold = hold.1; whole = whole.1; contents = contents.1; named = named.1; own = own.1; blocks = blocks.1 }) h e a

-- ---- all marked blocks

all_typed : (pages : Pages) (page : List ℕ) (ss : List BlockSpot) (ps : List (List ℕ)) (es : Edits) (qs : List (List ℕ)) (ms : List Pair)
    → BlocksKnown pages page 0 ss ps es → AreSomeOf qs ps → map (edited_by es) qs ≡ map (λ m. Some (edit_for m)) ms → AllByRecursion (IsKnownBeside pages page) ms
    → AllByRecursion (IsTypedIn pages) ms
all_typed pages page ss ps es [] [] b h e k = tt
all_typed pages page ss ps es [] (m ∷ ms) b h e k = absurd (let no = ap length e in omega (arith, no))
all_typed pages page ss ps es (q ∷ qs) [] b h e k = tt
all_typed pages page ss ps es (q ∷ qs) (m ∷ ms) b h e k =
    let at : BlockThere pages page m.old =
    block_there pages page 0 ss ps es q m b h.0 (first_same (edited_by es q) (Some (edit_for m)) (map (edited_by es) qs) (map (λ m. Some (edit_for m)) ms) e) k.0.alike in (
      pair_typed pages page at.block at.text m at.is k.0,
      all_typed pages page ss ps es qs ms b h.1 (rest_same (edited_by es q) (Some (edit_for m)) (map (edited_by es) qs) (map (λ m. Some (edit_for m)) ms) e) k.1,
    )

beside_typed : (pages : Pages) (ss : List BlockSpot) (behind : List ℕ) (new : Tree) (c : TakesContentsIn pages ss behind) → IsUtf8 (spots_source ss behind)
    → refusal_of_page pages (spots_source ss behind) ≡ None → HaveOwnSources (block_with_groups pages ss behind) ss → IsCallingPage pages ss behind
    → IsBesideEdit pages (spots_source ss behind) c.paths new → AllByRecursion (IsTypedIn pages) (marked (page_tree pages (spots_source ss behind)) new)
beside_typed pages ss behind new c utf8 unrefused own there e =
    let page : List ℕ = spots_source ss behind in
    let es : Edits = edits_of (called_tree pages page) new in
    let s : BesideSent pages ss behind c.paths new = beside_sent pages ss behind new c utf8 unrefused own there e in
    let sent = s.sent in
    all_typed pages page ss c.paths es (paths_of es) (marked (page_tree pages page) new)
    (record {
      hold = there.hold;
      whole = there.whole;
      contents = there.outside.blocks.contents;
      named = block_calls pages ss behind there.outside.blocks.called;
      own = own;
      blocks = s.own;
    }) e.among sent.each s.pairs

-- of a page that its lines tell
pub calling_typed_apart : (pages : Pages) (page : List ℕ) (bs : List LinedBlock) (rest : List (List Item)) (new : Tree) → IsLinedCalling pages page bs rest
    → (c : TakesContentsIn pages (spots_of_lines pages page bs) (end_of_lines pages page bs rest)) → IsBesideEdit pages page c.paths new
    → AllByRecursion (IsTypedIn pages) (marked (page_tree pages page) new)
calling_typed_apart pages page bs rest new h c e =
    let ss : List BlockSpot = spots_of_lines pages page bs in
    let behind : List ℕ = end_of_lines pages page bs rest in
    let there : IsCallingPage pages ss behind = editable_calling pages ss behind (calling_editable pages page bs rest h) in
    subst (λ (q : List ℕ). IsUtf8 q → refusal_of_page pages q ≡ None → IsBesideEdit pages q c.paths new
    → AllByRecursion (IsTypedIn pages) (marked (page_tree pages q) new))
    (calling_whole pages page bs rest h)
    (λ u r k. beside_typed pages ss behind new c u r (blocks_have pages ss behind there.outside there.unrefused) there k) h.utf8 h.unrefused e
