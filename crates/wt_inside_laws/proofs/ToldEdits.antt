-- A text edit of a page is done, where the marked blocks call nothing.
use Rattle.std.proofs.Common.{arith, ◌≡◌, ℕ, zero, suc, ◌≤◌, Option, Some, None, List, [], ◌∷◌, ◌++◌, length, map, refl, sym, ap, ◌∙◌, subst, inl, inr}
use Rattle.std.specs.List.{AllByRecursion}
use Rattle.std.specs.Str.{IsUtf8}
use Rattle.wt_span.specs.declared.limits.TheConstants.{PAGE_BYTES}
use Rattle.wt_span.specs.Items.{Item}
use Rattle.wt_tree.specs.Tree.{Label, Tree, tree, Trees, none, more, label}
use Rattle.wt_checks.specs.Places.{page_of}
use Rattle.wt_expand.specs.PageCalls.{expanded_page}
use Rattle.wt_expand.specs.Work.{Pages}
use Rattle.wt_link_spelling.specs.Spelling.{children_of}
use Rattle.wt_page_round_trip.specs.PageTree.{page_tree}
use Rattle.wt_slices.specs.BodySlices.{slices}
use Rattle.wt_slices.specs.Changes.{Pair, marked}
use Rattle.wt_splice.specs.Splice.{spliced}
use Rattle.wt_visible.specs.SameNodes.{same_node}
use Rattle.wt_visible.proofs.SameTells.{tells_same}
use Rattle.wt_selser.specs.Edits.{most_bytes}
use Rattle.wt_commands.specs.Answers.{done, edit_to}
use Rattle.wt_typed_blocks.specs.Edited.{Edited, stays, edited, round, Edits, no_edits, more_edits}
use Rattle.wt_text_edit_laws.specs.BlockSpots.{BlockSpot, spots_source, AreContents}
use Rattle.wt_text_edit_laws.specs.Contents.{IsContent}
use Rattle.wt_text_edit_laws.specs.NoCalls.{CallsNothing}
use Rattle.wt_text_edit_laws.specs.TextBlocks.{TextBlock, block_items, block_tree}
use Rattle.wt_inline.specs.ItemTree.{ItemTree}
use Rattle.wt_beside_laws.specs.StyledIn.{IsStyledIn, IsStyledEditOf}
use Rattle.wt_beside_laws.proofs.Own.Kept.{content_styled}
use Rattle.wt_called_edit_laws.specs.CalledBlocks.{CallNothing}
use Rattle.wt_called_edit_laws.specs.CalledPages.{IsCalledPage}
use Rattle.wt_called_edit_laws.specs.ContentsTaken.{TakesContents}
use Rattle.wt_called_edit_laws.specs.EditsAt.{IsStanding, StandsTo, StandsAmong, AllStand, edited_at, edited_among, edited_by, edited_page, Fits, FitsSpot, AreFitting, IsContentEdit}
use Rattle.wt_called_edit_laws.specs.Groups.{called_tree}
use Rattle.wt_called_edit_laws.specs.LinedAmong.{spots_of_lines, end_of_lines, IsLinedAmong}
use Rattle.wt_called_edit_laws.specs.PlacedLines.{LinedBlock}
use Rattle.wt_called_edit_laws.proofs.Among.LinedParts.{lined_whole, lined_editable}
use Rattle.wt_called_edit_laws.proofs.EditFacts.{spots_utf8, spots_contents}
use Rattle.wt_called_edit_laws.proofs.BlocksOutside.{editable_called}
use Rattle.wt_inside_laws.specs.AsSent.{pieces_for, edit_for, edits_of, past_first, paths_in, paths_of, node_at, node_among, IsOneOf, IsAlike, IsSentOn}
use Rattle.wt_inside_laws.specs.RetypedPieces.{AreRead}
use Rattle.wt_inside_laws.specs.TextEdits.{IsRetyped}
use Rattle.wt_inside_laws.specs.ToldEdits.{IsReadBlock, HasEndedNodes, IsOrdinary, IsToldEdit}
use Rattle.wt_inside_laws.proofs.MarkedBlocks.{all_alike}
use Rattle.wt_inside_laws.proofs.MatchedPairs.{same_old}
use Rattle.wt_inside_laws.proofs.OwnEdits.{standing_edit}
use Rattle.wt_inside_laws.proofs.PageAlike.{page_plain, text_edit_sent}

-- ---- where contents are edited

one_left : (p : List ℕ) (ps qs : List (List ℕ)) → IsOneOf p ps → IsOneOf p (ps ++ qs)
one_left p [] qs h = absurd h
one_left p (x ∷ ps) qs (inl e) = inl e
one_left p (x ∷ ps) qs (inr h) = inr (one_left p ps qs h)

one_right : (p : List ℕ) (ps qs : List (List ℕ)) → IsOneOf p qs → IsOneOf p (ps ++ qs)
one_right p [] qs h = h
one_right p (x ∷ ps) qs h = inr (one_right p ps qs h)

one_mapped : (f : List ℕ → List ℕ) (p : List ℕ) (ps : List (List ℕ)) → IsOneOf p ps → IsOneOf (f p) (map f ps)
one_mapped f p [] h = absurd h
one_mapped f p (x ∷ ps) (inl e) = inl (ap f e)
one_mapped f p (x ∷ ps) (inr h) = inr (one_mapped f p ps h)

mutual
  path_in : (e : Edited) (p : List ℕ) (x : Edited) → edited_at p e ≡ Some x → IsOneOf p (paths_in e)
  path_in (stays t u) p x h = cc
  path_in (edited k l m ps) [] x h = inl refl
  path_in (edited k l m ps) (i ∷ is) x h = cc
  path_in (round l m es) [] x h = cc
  path_in (round l m es) (i ∷ is) x h = path_among es i is x h

  path_among : (es : Edits) (i : ℕ) (is : List ℕ) (x : Edited) → edited_among i is es ≡ Some x → IsOneOf (i ∷ is) (paths_of es)
  path_among no_edits i is x h = cc
  path_among (more_edits e es) zero is x h =
      one_left (zero ∷ is) (map (λ p. zero ∷ p) (paths_in e)) (map past_first (paths_of es)) (one_mapped (λ p. zero ∷ p) is (paths_in e) (path_in e is x h))
  path_among (more_edits e es) (suc i) is x h =
      one_right (suc i ∷ is) (map (λ p. zero ∷ p) (paths_in e)) (map past_first (paths_of es))
      (one_mapped past_first (i ∷ is) (paths_of es) (path_among es i is x h))

pub path_by : (es : Edits) (p : List ℕ) (x : Edited) → edited_by es p ≡ Some x → IsOneOf p (paths_of es)
path_by es [] x h = cc
path_by es (i ∷ is) x h = path_among es i is x h

-- ---- the block at a path

pub same_node_at : (t v : Tree) → Some t ≡ Some v → t ≡ v
same_node_at t v e = cc

mutual
  pub stands_at : (u : ItemTree) (p : List ℕ) (t v : Tree) → StandsTo u p t → node_at p t ≡ Some v → IsStanding u v
  stands_at u [] t v h e = subst (IsStanding u) (same_node_at t v e) h
  stands_at u (i ∷ is) (tree l ts) v h e = stands_among u i is ts v h e

  stands_among : (u : ItemTree) (i : ℕ) (is : List ℕ) (ts : Trees) (v : Tree) → StandsAmong u i is ts → node_among i is ts ≡ Some v → IsStanding u v
  stands_among u i is none v h e = absurd h
  stands_among u zero is (more t ts) v h e = stands_at u is t v h e
  stands_among u (suc i) is (more t ts) v h e = stands_among u i is ts v h e

-- ---- the marked block at a path

-- what is known of it
pub record IsKnownPair (pages : Pages) (page : List ℕ) (p : Pair) : Type 0 where
  retyped : IsRetyped same_node (expanded_page pages page) page p
  alike : IsAlike same_node (page_of (page_tree pages page)) p
  read : IsReadBlock p
  ordinary : IsOrdinary p

known : (pages : Pages) (page : List ℕ) (ps : List Pair) → AllByRecursion (IsRetyped same_node (expanded_page pages page) page) ps
    → AllByRecursion (IsAlike same_node (page_of (page_tree pages page))) ps → AllByRecursion IsReadBlock ps → AllByRecursion IsOrdinary ps
    → AllByRecursion (IsKnownPair pages page) ps
known pages page [] a b c d = tt
known pages page (p ∷ ps) a b c d = (record { retyped = a.0; alike = b.0; read = c.0; ordinary = d.0 }, known pages page ps a.1 b.1 c.1 d.1)

-- one of the marked blocks at a path, with what is known of each of them
pub record PairAt (K : Pair → Type 0) (t : Tree) (es : Edits) (p : List ℕ) : Type 0 where
  pub pair : Pair
  pub known : K pair
  pub node : node_at p t ≡ Some pair.old
  pub found : edited_by es p ≡ Some (edit_for pair)

pub first_same : {A : Type 0} (x y : A) (xs ys : List A) → x ∷ xs ≡ y ∷ ys → x ≡ y
first_same x y xs ys e = cc

pub rest_same : {A : Type 0} (x y : A) (xs ys : List A) → x ∷ xs ≡ y ∷ ys → xs ≡ ys
rest_same x y xs ys e = cc

pub pair_at : (K : Pair → Type 0) (t : Tree) (es : Edits) (p : List ℕ) (qs : List (List ℕ)) (ms : List Pair) → IsOneOf p qs
    → AllByRecursion K ms → map (λ path. node_at path t) qs ≡ map (λ m. Some m.old) ms
    → map (edited_by es) qs ≡ map (λ m. Some (edit_for m)) ms → PairAt K t es p
pair_at K t es p [] ms h k e f = absurd h
pair_at K t es p (q ∷ qs) [] h k e f = absurd (let no = ap length e in omega (arith, no))
pair_at K t es p (q ∷ qs) (m ∷ ms) (inl i) k e f = record {
  pair = m;
  known = k.0;
  node = ap (λ path. node_at path t) i ∙ first_same (node_at q t) (Some m.old) (map (λ path. node_at path t) qs) (map (λ m. Some m.old) ms) e;
  found = ap (edited_by es) i ∙ first_same (edited_by es q) (Some (edit_for m)) (map (edited_by es) qs) (map (λ m. Some (edit_for m)) ms) f;
}
pair_at K t es p (q ∷ qs) (m ∷ ms) (inr h) k e f =
    pair_at K t es p qs ms h k.1
    (rest_same (node_at q t) (Some m.old) (map (λ path. node_at path t) qs) (map (λ m. Some m.old) ms) e)
    (rest_same (edited_by es q) (Some (edit_for m)) (map (edited_by es) qs) (map (λ m. Some (edit_for m)) ms) f)

-- ---- what is sent fits

pub calm_fits : (pages : Pages) (page : List ℕ) (k : TextBlock) (q : List ℕ) (p : Pair) → IsContent k q → CallsNothing (block_items k q)
    → IsStanding (block_tree k q) p.old → IsRetyped same_node (expanded_page pages page) page p → IsAlike same_node (page_of (page_tree pages page)) p
    → IsReadBlock p → HasEndedNodes k q → Fits k q (edit_for p)
calm_fits pages page k q p c r s retyped alike read ended =
    let styled : IsStyledIn k q = content_styled k q c r ended.ended in
    inr (
      styled,
      subst (λ (t : Tree). IsStyledEditOf k t (pieces_for p)) (sym (same_old same_node (page_of (page_tree pages page)) p alike))
          (standing_edit k q (expanded_page pages page) page p retyped read.read read.utf8 s styled ended.tags),
    )

pair_fits : (pages : Pages) (page : List ℕ) (k : TextBlock) (q : List ℕ) (p : Pair) → IsContent k q → CallsNothing (block_items k q)
    → IsStanding (block_tree k q) p.old → IsKnownPair pages page p → Fits k q (edit_for p)
pair_fits pages page k q p c r s h = calm_fits pages page k q p c r s h.retyped h.alike h.read (h.ordinary k q s)

-- what is known of the page and what was sent for it
record SentKnown (pages : Pages) (page : List ℕ) (t : Tree) (es : Edits) (ms : List Pair) : Type 0 where
  pairs : AllByRecursion (IsKnownPair pages page) ms
  at : map (λ path. node_at path t) (paths_of es) ≡ map (λ m. Some m.old) ms
  each : map (edited_by es) (paths_of es) ≡ map (λ m. Some (edit_for m)) ms

spot_fits : (pages : Pages) (page : List ℕ) (t : Tree) (es : Edits) (ms : List Pair) (s : BlockSpot) (p : List ℕ) (o : Option Edited) → edited_by es p ≡ o
    → SentKnown pages page t es ms → IsContent s.block s.text → CallsNothing (block_items s.block s.text) → StandsTo (block_tree s.block s.text) p t → FitsSpot s o
spot_fits pages page t es ms s p None e h c r st = tt
spot_fits pages page t es ms s p (Some x) e h c r st =
    let a : PairAt (IsKnownPair pages page) t es p = pair_at (IsKnownPair pages page) t es p (paths_of es) ms (path_by es p x e) h.pairs h.at h.each in
    let fits : Fits s.block s.text (edit_for a.pair) =
    pair_fits pages page s.block s.text a.pair c r (stands_at (block_tree s.block s.text) p t a.pair.old st a.node) a.known in
    subst (FitsSpot s) (sym a.found ∙ e) fits

all_fit : (pages : Pages) (page : List ℕ) (t : Tree) (es : Edits) (ms : List Pair) (ss : List BlockSpot) (ps : List (List ℕ)) → SentKnown pages page t es ms
    → AreContents ss → CallNothing ss → AllStand ss ps t → AreFitting ss (map (edited_by es) ps)
all_fit pages page t es ms [] [] h c r st = tt
all_fit pages page t es ms [] (p ∷ ps) h c r st = absurd st
all_fit pages page t es ms (s ∷ ss) [] h c r st = absurd st
all_fit pages page t es ms (s ∷ ss) (p ∷ ps) h c r st =
    (spot_fits pages page t es ms s p (edited_by es p) refl h c.0 r.0 st.0, all_fit pages page t es ms ss ps h c.1 r.1 st.1)

-- ---- the edit

pub reads : (ps : List Pair) → AllByRecursion IsReadBlock ps → AllByRecursion (λ p. AreRead (children_of p.new)) ps
reads [] h = tt
reads (p ∷ ps) h = (h.0.read, reads ps h.1)

-- Of a page with these blocks, whatever is called beside them: what was sent is an edit of their contents, as the laws of edits take it, and what it
-- splices into the page is what these make of it.
pub record CalledSent (pages : Pages) (ss : List BlockSpot) (behind : List ℕ) (paths : List (List ℕ)) (new : Tree) : Type 0 where
  pub sent : IsSentOn pages (spots_source ss behind) new (edits_of (called_tree pages (spots_source ss behind)) new)
  pub edit : IsContentEdit (called_tree pages (spots_source ss behind)) ss paths (edits_of (called_tree pages (spots_source ss behind)) new)
  pub same : spliced (spots_source ss behind) (slices same_node (page_tree pages (spots_source ss behind)) new)
      ≡ edited_page ss behind paths (edits_of (called_tree pages (spots_source ss behind)) new)

pub called_sent : (pages : Pages) (ss : List BlockSpot) (behind : List ℕ) (new : Tree) (c : TakesContents pages ss behind) → IsCalledPage pages ss behind
    → IsToldEdit pages (spots_source ss behind) c.paths new → CalledSent pages ss behind c.paths new
called_sent pages ss behind new c h e =
    let page : List ℕ = spots_source ss behind in
    let t : Tree = called_tree pages page in
    let ms : List Pair = marked (page_tree pages page) new in
    let es : Edits = edits_of t new in
    let b : Label = label new in
    let utf8 : IsUtf8 page = spots_utf8 pages ss behind h in
    let read : AllByRecursion (λ p. AreRead (children_of p.new)) ms = reads ms e.blocks in
    let sent : IsSentOn pages page new es = text_edit_sent pages page new utf8 e.short h.unrefused e.edit e.read read in
    let alike =
    all_alike same_node (expanded_page pages page) page (page_tree pages page) new tells_same (page_plain pages page utf8 e.short h.unrefused) e.edit.blocks read in
    let pairs : SentKnown pages page t es ms = record { pairs = known pages page ms e.edit.blocks alike e.blocks e.ordinary; at = sent.at; each = sent.each } in
    let edit : IsContentEdit t ss c.paths es = record {
      old = sent.old;
      sent = sent.stay;
      edits = sent.only c.paths e.among;
      fit = all_fit pages page t es ms ss c.paths pairs (spots_contents pages ss behind h) h.outside.among.calm c.stand;
    } in
    record { sent = sent; edit = edit; same = ap (spliced page) (sent.changes b) ∙ c.makes b es edit }

pub called_done : (pages : Pages) (ss : List BlockSpot) (behind : List ℕ) (new : Tree) (c : TakesContents pages ss behind) → IsCalledPage pages ss behind
    → IsToldEdit pages (spots_source ss behind) c.paths new
    → edit_to pages (spots_source ss behind) new ≡ done (spliced (spots_source ss behind) (slices same_node (page_tree pages (spots_source ss behind)) new))
unfolding most_bytes
called_done pages ss behind new c h e =
    let es : Edits = edits_of (called_tree pages (spots_source ss behind)) new in
    let s : CalledSent pages ss behind c.paths new = called_sent pages ss behind new c h e in
    let room : length (edited_page ss behind c.paths es) ≤ PAGE_BYTES = subst (λ (bs : List ℕ). length bs ≤ PAGE_BYTES) s.same e.edit.room in
    s.sent.alike (label new) ∙ c.takes (label new) es s.edit room ∙ ap done (sym s.same)

-- ---- of a page that its lines tell

pub lined_edit_done : (pages : Pages) (page : List ℕ) (bs : List LinedBlock) (rest : List (List Item)) (new : Tree) → IsLinedAmong pages page bs rest
    → (c : TakesContents pages (spots_of_lines pages page bs) (end_of_lines pages page bs rest)) → IsToldEdit pages page c.paths new
    → edit_to pages page new ≡ done (spliced page (slices same_node (page_tree pages page) new))
lined_edit_done pages page bs rest new h c e =
    let ss : List BlockSpot = spots_of_lines pages page bs in
    let behind : List ℕ = end_of_lines pages page bs rest in
    let called : IsCalledPage pages ss behind = editable_called pages ss behind (lined_editable pages page bs rest h) in
    subst (λ (q : List ℕ). IsToldEdit pages q c.paths new → edit_to pages q new ≡ done (spliced q (slices same_node (page_tree pages q) new)))
    (lined_whole pages page bs rest h) (λ k. called_done pages ss behind new c called k) e
