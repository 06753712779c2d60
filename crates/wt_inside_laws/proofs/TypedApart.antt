-- What is written for the marked blocks of a text edit makes nothing but what was typed.
use Rattle.std.proofs.Common.{arith, ◌≡◌, ℕ, Option, Some, List, [], ◌∷◌, length, map, sym, ap, ◌∙◌, subst, inl, inr}
use Rattle.std.specs.List.{AllByRecursion}
use Rattle.wt_span.specs.Items.{Item}
use Rattle.wt_tree.specs.Tree.{Tree, label}
use Rattle.wt_expand.specs.PageCalls.{expanded_page}
use Rattle.wt_expand.specs.Work.{Pages}
use Rattle.wt_checks.specs.Places.{page_of}
use Rattle.wt_guards.specs.Guards.{spelled}
use Rattle.wt_link_spelling.specs.Spelling.{inline_spelling}
use Rattle.wt_page_round_trip.specs.PageTree.{page_tree}
use Rattle.wt_slices.specs.Changes.{Pair, marked}
use Rattle.wt_visible.specs.SameNodes.{same_node}
use Rattle.wt_visible.proofs.SameTells.{tells_same}
use Rattle.wt_typed_blocks.specs.Typed.{place_of}
use Rattle.wt_text_edit_laws.specs.BlockSpots.{BlockSpot, spots_source, AreContents}
use Rattle.wt_text_edit_laws.specs.Contents.{IsContent}
use Rattle.wt_text_edit_laws.specs.NoCalls.{CallsNothing}
use Rattle.wt_text_edit_laws.specs.TextBlocks.{TextBlock, block_of, block_items, block_tree}
use Rattle.wt_beside_laws.specs.ContentEdits.{new_content}
use Rattle.wt_beside_laws.specs.StyledIn.{IsStyledIn, IsStyledEditOf}
use Rattle.wt_beside_laws.proofs.Made.Making.{setting, new_is, in_page}
use Rattle.wt_beside_laws.proofs.Own.Kept.{content_styled}
use Rattle.wt_beside_laws.proofs.Styled.SpelledApart.{spelled_apart}
use Rattle.wt_called_edit_laws.specs.CalledBlocks.{CallNothing}
use Rattle.wt_called_edit_laws.specs.CalledPages.{IsCalledPage}
use Rattle.wt_called_edit_laws.specs.ContentsTaken.{TakesContents}
use Rattle.wt_called_edit_laws.specs.EditsAt.{IsStanding, AllStand}
use Rattle.wt_called_edit_laws.specs.Groups.{called_tree}
use Rattle.wt_called_edit_laws.specs.LinedAmong.{spots_of_lines, end_of_lines, IsLinedAmong}
use Rattle.wt_called_edit_laws.specs.PlacedLines.{LinedBlock}
use Rattle.wt_called_edit_laws.proofs.Among.LinedParts.{lined_whole, lined_editable}
use Rattle.wt_called_edit_laws.proofs.BlocksOutside.{editable_called}
use Rattle.wt_called_edit_laws.proofs.EditFacts.{spots_utf8, spots_contents}
use Rattle.wt_inside_laws.specs.AsSent.{edits_of, pieces_for, paths_of, node_at, IsOneOf, AreSomeOf, IsAlike}
use Rattle.wt_inside_laws.specs.TextEdits.{IsRetyped}
use Rattle.wt_inside_laws.specs.ToldEdits.{IsReadBlock, HasEndedNodes, IsOrdinary, IsToldEdit, IsOrdinaryEdit}
use Rattle.wt_inside_laws.specs.TypedApart.{IsTypedApart}
use Rattle.wt_inside_laws.proofs.MarkedBlocks.{all_alike}
use Rattle.wt_inside_laws.proofs.OrdinaryEdits.{OrdinaryTold, ordinary_told, by_marked}
use Rattle.wt_inside_laws.proofs.OwnEdits.{standing_edit}
use Rattle.wt_inside_laws.proofs.PageAlike.{page_plain, text_edit_sent}
use Rattle.wt_inside_laws.proofs.ToldEdits.{stands_at, first_same, rest_same, reads}

-- ---- a marked block

written_so : (k : TextBlock) (q : List ℕ) (t : Tree) (p : Pair) → IsStanding (block_tree k q) p.old → IsAlike same_node (page_of t) p
    → inline_spelling same_node p.old p.new (place_of (block_of k)) ≡ new_content k p.old (label p.new) (pieces_for p)
unfolding inline_spelling
written_so k q t p s a =
    ap (spelled (setting k p.old)) (a.written (place_of (block_of k)))
    ∙ sym (new_is k q p.old (label p.new) (pieces_for p) (in_page k q s.number s.before p.old s.some s.is) a.are)

pub pair_apart : (pages : Pages) (page : List ℕ) (k : TextBlock) (q : List ℕ) (p : Pair) → IsContent k q → CallsNothing (block_items k q)
    → IsStanding (block_tree k q) p.old → IsRetyped same_node (expanded_page pages page) page p → IsAlike same_node (page_of (page_tree pages page)) p
    → IsReadBlock p → HasEndedNodes k q → IsTypedApart p
pair_apart pages page k q p c r s retyped alike read ended =
    let styled : IsStyledIn k q = content_styled k q c r ended.ended in
    let edit : IsStyledEditOf k p.old (pieces_for p) =
    standing_edit k q (expanded_page pages page) page p retyped read.read read.utf8 s styled ended.tags in
    record {
      block = k;
      text = q;
      stands = s;
      written = written_so k q (page_tree pages page) p s alike;
      apart = spelled_apart k q s.number s.before p.old (label p.new) (pieces_for p) styled s.some s.is edit;
    }

-- ---- the block at a path

pub record BlockThere (v : Tree) : Type 0 where
  pub block : TextBlock
  pub text : List ℕ
  pub content : IsContent block text
  pub calm : CallsNothing (block_items block text)
  pub stands : IsStanding (block_tree block text) v

pub block_there : (t : Tree) (ss : List BlockSpot) (ps : List (List ℕ)) (p : List ℕ) (v : Tree) → AreContents ss → CallNothing ss → AllStand ss ps t → IsOneOf p ps
    → node_at p t ≡ Some v → BlockThere v
block_there t [] [] p v c r st h e = absurd h
block_there t [] (q ∷ ps) p v c r st h e = absurd st
block_there t (s ∷ ss) [] p v c r st h e = absurd st
block_there t (s ∷ ss) (q ∷ ps) p v c r st (inl i) e = record {
  block = s.block;
  text = s.text;
  content = c.0;
  calm = r.0;
  stands = stands_at (block_tree s.block s.text) q t v st.0 (ap (λ path. node_at path t) (sym i) ∙ e);
}
block_there t (s ∷ ss) (q ∷ ps) p v c r st (inr h) e = block_there t ss ps p v c.1 r.1 st.1 h e

-- ---- all marked blocks

-- what is known of a page with these blocks
record BlocksKnown (t : Tree) (ss : List BlockSpot) (ps : List (List ℕ)) : Type 0 where
  contents : AreContents ss
  calm : CallNothing ss
  stand : AllStand ss ps t

all_apart : (pages : Pages) (page : List ℕ) (t : Tree) (ss : List BlockSpot) (ps qs : List (List ℕ)) (ms : List Pair) → BlocksKnown t ss ps → AreSomeOf qs ps
    → map (λ path. node_at path t) qs ≡ map (λ m. Some m.old) ms → AllByRecursion (IsRetyped same_node (expanded_page pages page) page) ms
    → AllByRecursion (IsAlike same_node (page_of (page_tree pages page))) ms → AllByRecursion IsReadBlock ms → AllByRecursion IsOrdinary ms
    → AllByRecursion IsTypedApart ms
all_apart pages page t ss ps [] [] b h e x y z w = tt
all_apart pages page t ss ps [] (m ∷ ms) b h e x y z w = absurd (let no = ap length e in omega (arith, no))
all_apart pages page t ss ps (q ∷ qs) [] b h e x y z w = tt
all_apart pages page t ss ps (q ∷ qs) (m ∷ ms) b h e x y z w =
    let at : BlockThere m.old =
    block_there t ss ps q m.old b.contents b.calm b.stand h.0
    (first_same (node_at q t) (Some m.old) (map (λ path. node_at path t) qs) (map (λ m. Some m.old) ms) e) in (
      pair_apart pages page at.block at.text m at.content at.calm at.stands x.0 y.0 z.0 (w.0 at.block at.text at.stands),
      all_apart pages page t ss ps qs ms b h.1 (rest_same (node_at q t) (Some m.old) (map (λ path. node_at path t) qs) (map (λ m. Some m.old) ms) e) x.1 y.1 z.1 w.1,
    )

-- ---- the page

called_apart : (pages : Pages) (ss : List BlockSpot) (behind : List ℕ) (new : Tree) (c : TakesContents pages ss behind) → IsCalledPage pages ss behind
    → IsToldEdit pages (spots_source ss behind) c.paths new → AllByRecursion IsTypedApart (marked (page_tree pages (spots_source ss behind)) new)
called_apart pages ss behind new c h e =
    let page : List ℕ = spots_source ss behind in
    let t : Tree = called_tree pages page in
    let ms : List Pair = marked (page_tree pages page) new in
    let utf8 = spots_utf8 pages ss behind h in
    let read = reads ms e.blocks in
    let sent = text_edit_sent pages page new utf8 e.short h.unrefused e.edit e.read read in
    let alike =
    all_alike same_node (expanded_page pages page) page (page_tree pages page) new tells_same (page_plain pages page utf8 e.short h.unrefused) e.edit.blocks read in
    all_apart pages page t ss c.paths (paths_of (edits_of t new)) ms
    (record { contents = spots_contents pages ss behind h; calm = h.outside.among.calm; stand = c.stand }) e.among sent.at e.edit.blocks alike e.blocks e.ordinary

lined_apart : (pages : Pages) (page : List ℕ) (bs : List LinedBlock) (rest : List (List Item)) (new : Tree) → IsLinedAmong pages page bs rest
    → (c : TakesContents pages (spots_of_lines pages page bs) (end_of_lines pages page bs rest)) → IsToldEdit pages page c.paths new
    → AllByRecursion IsTypedApart (marked (page_tree pages page) new)
lined_apart pages page bs rest new h c e =
    let ss : List BlockSpot = spots_of_lines pages page bs in
    let behind : List ℕ = end_of_lines pages page bs rest in
    let called : IsCalledPage pages ss behind = editable_called pages ss behind (lined_editable pages page bs rest h) in
    subst (λ (q : List ℕ). IsToldEdit pages q c.paths new → AllByRecursion IsTypedApart (marked (page_tree pages q) new)) (lined_whole pages page bs rest h)
    (λ k. called_apart pages ss behind new c called k) e

pub ordinary_apart : (pages : Pages) (page input : List ℕ) (new : Tree) (u : Option ℕ) → IsOrdinaryEdit pages page input new u
    → AllByRecursion IsTypedApart (marked (page_tree pages page) new)
ordinary_apart pages page input new u h =
    by_marked (marked (page_tree pages page) new) (λ none. subst (AllByRecursion IsTypedApart) (sym none) tt)
    (λ some.
    let o : OrdinaryTold pages page new = ordinary_told pages page input new u h some in lined_apart pages page o.bs o.rest new o.lined o.taken o.edit)
