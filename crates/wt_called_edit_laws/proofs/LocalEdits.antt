-- Where contents are edited in blocks among calls, the edit is local: nothing but these blocks is another one, and the expansion is the same work.
use Rattle.std.proofs.Common.{arith, ◌≡◌, ℕ, zero, suc, ◌+◌, Bool, true, false, Option, Some, None, List, [], ◌∷◌, ◌++◌, length, map, refl, sym, ap, ◌∙◌, subst}
use Rattle.std.specs.Prelude.{if◌then◌else◌}
use Rattle.wt_span.specs.Items.{Item, char, whole, call_of, sources}
use Rattle.wt_span.specs.Origins.{OuterCall, same_call}
use Rattle.wt_tree.specs.Kinds.{is_leaf}
use Rattle.wt_tree.specs.Tree.{Tree, tree, Trees, label}
use Rattle.wt_annotated.specs.Numbering.{next_after}
use Rattle.wt_checks.specs.Kept.{children}
use Rattle.wt_expand.specs.PageCalls.{expanded_page}
use Rattle.wt_expand.specs.PageItems.{page_items}
use Rattle.wt_expand.specs.Work.{Pages, Entry, entered}
use Rattle.wt_part_laws.specs.Expanded.{part_items, calls_in}
use Rattle.wt_part_laws.specs.Frames.{content}
use Rattle.wt_part_laws.specs.MovedCalls.{AreMoved}
use Rattle.wt_part_laws.specs.Placeless.{placeless_label, placeless}
use Rattle.wt_part_laws.specs.Rounded.{body_label}
use Rattle.wt_part_laws.specs.Standing.{standing}
use Rattle.wt_part_laws.specs.TreeFrames.{all_filled}
use Rattle.wt_typed_blocks.specs.Sent.{kind_of}
use Rattle.wt_typed_blocks.specs.Edited.{Edited, Edits}
use Rattle.wt_text_edit_laws.specs.BlockSpots.{BlockSpot, spots_source, AreContents, SameRound}
use Rattle.wt_text_edit_laws.specs.Contents.{IsContent, content_parts_of}
use Rattle.wt_text_edit_laws.specs.NoCalls.{CallsNothing}
use Rattle.wt_text_edit_laws.specs.TextBlocks.{TextBlock, a_paragraph, a_heading, block_of, source_of, block_items, block_tree}
use Rattle.wt_text_edit_laws.proofs.Blocks.BlockLeaves.{open_items, close_items, items_of_page}
use Rattle.wt_text_edit_laws.proofs.Texts.TypedShown.{AllOfPage}
use Rattle.wt_beside_laws.proofs.Made.OldBlocks.{parts_are, label_kind, label_opening, label_closing}
use Rattle.wt_called_edit_laws.specs.CalledBlocks.{tree_by, AreAmongCalls, CallNothing}
use Rattle.wt_called_edit_laws.specs.CalledPages.{IsCalledPage}
use Rattle.wt_called_edit_laws.specs.CalledTexts.{spots_tree}
use Rattle.wt_called_edit_laws.specs.EditsAt.{edited_by, with_content, with_contents, IsContentEdit}
use Rattle.wt_called_edit_laws.specs.Groups.{called_tree, GroupsStayAmong}
use Rattle.wt_called_edit_laws.specs.LocalChange.{AreLocal, no_shift, given_by, KeepsCalls, ExpandsAlike, IsLocalChange}
use Rattle.wt_called_edit_laws.specs.Nodes.{block_at}
use Rattle.wt_called_edit_laws.specs.Parts.{calls_to, calls_past, called_items, called_outers, called_work, work_in}
use Rattle.wt_called_edit_laws.specs.Retyped.{AreRetyped}
use Rattle.wt_called_edit_laws.specs.Settled.{all_settled}
use Rattle.wt_called_edit_laws.proofs.BlocksMade.{blocks_made}
use Rattle.wt_called_edit_laws.proofs.Cells.CalledFrames.{among_contents, calm_over}
use Rattle.wt_called_edit_laws.proofs.EditFacts.{IsFramedPage, paths_of, new_spots, AreWellSent, well_sent, spots_body}
use Rattle.wt_called_edit_laws.proofs.GroupsAmong.{groups_among, retyped_self}
use Rattle.wt_called_edit_laws.proofs.Leads.{edit_at}
use Rattle.wt_called_edit_laws.proofs.LocalNodes.{IsKindredBlock, AreBlocksFor, AreLocalNodes, all_local}
use Rattle.wt_called_edit_laws.proofs.MovedOuters.{outers_moved}
use Rattle.wt_called_edit_laws.proofs.PagesSettled.{called_settled}
use Rattle.wt_called_edit_laws.proofs.Parts.NoCallsCalled.{calm_outers}
use Rattle.wt_called_edit_laws.proofs.Parts.PartByPart.{calm_gives}
use Rattle.wt_called_edit_laws.proofs.Parts.Retyped.{is_by_parts, same_round, blocks_over, typed_again, calm_lexemes}
use Rattle.wt_called_edit_laws.proofs.TextsUntangled.{body_settled}

-- ---- each block keeps its kind and delimiters

plain_kind : (t : Tree) → (label (placeless t)).kind ≡ (label t).kind
plain_kind (tree l ts) = refl

plain_opening : (t : Tree) → (label (placeless t)).opening ≡ (label t).opening
plain_opening (tree l ts) = refl

plain_closing : (t : Tree) → (label (placeless t)).closing ≡ (label t).closing
plain_closing (tree l ts) = refl

alone_kind : (k : TextBlock) (q : List ℕ) → (label (placeless (standing 0 [] (block_tree k q)))).kind ≡ kind_of (block_of k)
alone_kind k q =
    plain_kind (standing 0 [] (block_tree k q))
    ∙ ap (λ u. (label (standing 0 [] u)).kind) (parts_are k q) ∙ label_kind k (content_parts_of k (page_items q)) 0 []

alone_opening : (k : TextBlock) (q : List ℕ) → (label (placeless (standing 0 [] (block_tree k q)))).opening ≡ sources (open_items k)
alone_opening k q =
    plain_opening (standing 0 [] (block_tree k q))
    ∙ ap (λ u. (label (standing 0 [] u)).opening) (parts_are k q) ∙ label_opening k (content_parts_of k (page_items q)) 0 []

alone_closing : (k : TextBlock) (q : List ℕ) → (label (placeless (standing 0 [] (block_tree k q)))).closing ≡ sources (close_items k)
alone_closing k q =
    plain_closing (standing 0 [] (block_tree k q))
    ∙ ap (λ u. (label (standing 0 [] u)).closing) (parts_are k q) ∙ label_closing k (content_parts_of k (page_items q)) 0 []

inner_kind : (k : TextBlock) → is_leaf (kind_of (block_of k)) ≡ false
inner_kind a_paragraph = refl
inner_kind (a_heading s) = refl

kindred : (k : TextBlock) (q r : List ℕ) → IsKindredBlock (placeless (standing 0 [] (block_tree k q))) (placeless (standing 0 [] (block_tree k r)))
kindred k q r = record {
  kindred = record {
    kind = alone_kind k q ∙ sym (alone_kind k r);
    opening = alone_opening k q ∙ sym (alone_opening k r);
    closing = alone_closing k q ∙ sym (alone_closing k r);
  };
  inner = ap is_leaf (alone_kind k q) ∙ inner_kind k;
}

one_kindred : (s : BlockSpot) (o : Option Edited)
    → IsKindredBlock (placeless (standing 0 [] (block_tree s.block s.text))) (placeless (standing 0 [] (block_tree (with_content s o).block (with_content s o).text)))
one_kindred s None = kindred s.block s.text s.text
one_kindred s (Some e) = kindred s.block s.text (with_content s (Some e)).text

self_kindred : (ss : List BlockSpot) (n : ℕ) → IsKindredBlock (block_at (tree_by ss) n) (block_at (tree_by ss) n)
self_kindred [] n = kindred a_paragraph [] []
self_kindred (s ∷ ss) zero = kindred s.block s.text s.text
self_kindred (s ∷ ss) (suc n) = self_kindred ss n

all_kindred : (ss : List BlockSpot) (os : List (Option Edited)) (n : ℕ) → IsKindredBlock (block_at (tree_by ss) n) (block_at (tree_by (with_contents ss os)) n)
all_kindred [] os n = kindred a_paragraph [] []
all_kindred (s ∷ ss) [] n = self_kindred (s ∷ ss) n
all_kindred (s ∷ ss) (o ∷ os) zero = one_kindred s o
all_kindred (s ∷ ss) (o ∷ os) (suc n) = all_kindred ss os n

-- ---- the body

label_placeless : (t : Tree) → placeless_label (label t) ≡ label (placeless t)
label_placeless (tree l ts) = refl

body_is : (pages : Pages) (ss rs : List BlockSpot) (behind : List ℕ) (g : GroupsStayAmong pages ss behind) → AreRetyped ss rs
    → placeless_label (label (called_tree pages (spots_source rs behind))) ≡ body_label
body_is pages ss rs behind g t = label_placeless (called_tree pages (spots_source rs behind)) ∙ ap label (g.stay rs t)

-- ---- the expansion: work

calm_work : (pages : Pages) (k : TextBlock) (q : List ℕ) → IsContent k q → CallsNothing (block_items k q) → work_in pages (source_of k q) ≡ []
calm_work pages k q c h = (calm_gives pages (source_of k q) (calm_lexemes k q c h)).work_is

same_work : (pages : Pages) (ss rs : List BlockSpot) (behind : List ℕ) → SameRound ss rs → AreContents ss → CallNothing ss → AreContents rs → CallNothing rs
    → called_work pages ss behind ≡ called_work pages rs behind
same_work pages [] [] behind e b c d f = refl
same_work pages [] (r ∷ rs) behind e b c d f = absurd e
same_work pages (s ∷ ss) [] behind e b c d f = absurd e
same_work pages (s ∷ ss) (r ∷ rs) behind e b c d f =
    let own : work_in pages (source_of s.block s.text) ≡ work_in pages (source_of r.block r.text) =
    calm_work pages s.block s.text b.0 c.0 ∙ sym (calm_work pages r.block r.text d.0 f.0) in
    ap (λ (bs : List ℕ). work_in pages bs ++ (work_in pages (source_of s.block s.text) ++ called_work pages ss behind)) (sym e.0)
    ∙ ap (λ (ds : List Entry). work_in pages r.before ++ (ds ++ called_work pages ss behind)) own
    ∙ ap (λ (ds : List Entry). work_in pages r.before ++ (work_in pages (source_of r.block r.text) ++ ds)) (same_work pages ss rs behind e.2 b.1 c.1 d.1 f.1)

-- ---- the expansion: what calls give

given_cons : (v : Bool) (x : Item) (xs ys zs : List Item) → xs ≡ ys ++ zs → (if v then x ∷ xs else xs) ≡ (if v then x ∷ ys else ys) ++ zs
given_cons true x xs ys zs e = ap (λ (ws : List Item). x ∷ ws) e
given_cons false x xs ys zs e = e

both_given : (k : ℕ) (xs ys : List Item) → given_by k (xs ++ ys) ≡ given_by k xs ++ given_by k ys
both_given k [] ys = refl
both_given k (x ∷ xs) ys = given_cons (same_call (Some k) (call_of x)) x (given_by k (xs ++ ys)) (given_by k xs) (given_by k ys) (both_given k xs ys)

none_given : (k : ℕ) (xs : List Item) → AllOfPage xs → given_by k xs ≡ []
none_given k [] h = refl
none_given k (char None b ∷ xs) h = none_given k xs h
none_given k (char (Some j) b ∷ xs) h = cc
none_given k (whole f None bs ∷ xs) h = none_given k xs h
none_given k (whole f (Some j) bs ∷ xs) h = cc

calm_given : (pages : Pages) (j i : ℕ) (k : TextBlock) (q : List ℕ) → IsContent k q → CallsNothing (block_items k q)
    → given_by j (part_items pages i (source_of k q)) ≡ []
calm_given pages j i k q c h =
    ap (given_by j) ((calm_gives pages (source_of k q) (calm_lexemes k q c h)).items_are i) ∙ none_given j (page_items (source_of k q)) (items_of_page (source_of k q))

beside : (k : ℕ) (xs ys zs : List Item) → given_by k ys ≡ [] → given_by k (xs ++ (ys ++ zs)) ≡ given_by k xs ++ given_by k zs
beside k xs ys zs e =
    both_given k xs (ys ++ zs)
    ∙ ap (λ (ws : List Item). given_by k xs ++ ws) (both_given k ys zs ∙ ap (λ (ws : List Item). ws ++ given_by k zs) e)

calm_past : (pages : Pages) (i : ℕ) (s : BlockSpot) → IsContent s.block s.text → CallsNothing (block_items s.block s.text) → calls_past pages i s ≡ calls_to pages i s
calm_past pages i s c h = none_more (calls_to pages i s) (calls_in pages (source_of s.block s.text)) (ap length (calm_outers pages s.block s.text c h))
  where
    none_more : (a n : ℕ) → n ≡ 0 → a + n ≡ a
    none_more a n e = omega (arith, e)

same_given : (pages : Pages) (j i : ℕ) (ss rs : List BlockSpot) (behind : List ℕ) → SameRound ss rs → AreContents ss → CallNothing ss → AreContents rs → CallNothing rs
    → given_by j (called_items pages i ss behind) ≡ given_by j (called_items pages i rs behind)
same_given pages j i [] [] behind e b c d f = refl
same_given pages j i [] (r ∷ rs) behind e b c d f = absurd e
same_given pages j i (s ∷ ss) [] behind e b c d f = absurd e
same_given pages j i (s ∷ ss) (r ∷ rs) behind e b c d f =
    let past : calls_past pages i s ≡ calls_past pages i r =
    calm_past pages i s b.0 c.0 ∙ ap (λ (bs : List ℕ). i + calls_in pages bs) (sym e.0) ∙ sym (calm_past pages i r d.0 f.0) in
    beside j (part_items pages i s.before) (part_items pages (calls_to pages i s) (source_of s.block s.text)) (called_items pages (calls_past pages i s) ss behind)
    (calm_given pages j (calls_to pages i s) s.block s.text b.0 c.0)
    ∙ ap (λ (bs : List ℕ). given_by j (part_items pages i bs) ++ given_by j (called_items pages (calls_past pages i s) ss behind)) (sym e.0)
    ∙ ap (λ (ws : List Item). given_by j (part_items pages i r.before) ++ ws)
    (same_given pages j (calls_past pages i s) ss rs behind e.2 b.1 c.1 d.1 f.1 ∙ ap (λ (m : ℕ). given_by j (called_items pages m rs behind)) past)
    ∙ sym
    (beside j (part_items pages i r.before) (part_items pages (calls_to pages i r) (source_of r.block r.text)) (called_items pages (calls_past pages i r) rs behind)
    (calm_given pages j (calls_to pages i r) r.block r.text d.0 f.0))

-- ---- the expansion of the new page

alike : (pages : Pages) (ss rs : List BlockSpot) (behind : List ℕ) → AreAmongCalls pages ss behind → AreRetyped ss rs
    → KeepsCalls pages (spots_source ss behind) (spots_source rs behind) × ExpandsAlike pages (spots_source ss behind) (spots_source rs behind)
alike pages ss rs behind h t =
    let again = typed_again pages ss rs behind h.called t in
    let was = is_by_parts pages ss behind h.called in
    let now = is_by_parts pages rs behind again.called in
    let contents : AreContents ss = among_contents pages ss behind h in
    let news : AreContents rs = blocks_over ss rs t contents in
    let calm : CallNothing rs = calm_over ss rs t h.calm in
    let round : SameRound ss rs = same_round ss rs t in
    let others : List OuterCall = (expanded_page pages (spots_source rs behind)).outer in (
      record {
        calls =
            subst (λ cs. AreMoved cs others) (sym was.outers)
            (subst (AreMoved (called_outers pages ss behind)) (sym now.outers) (outers_moved pages ss rs behind round contents h.calm news calm));
        work = again.work;
      },
      record {
        work = now.work ∙ ap (λ (ds : List Entry). entered None ∷ ds) (sym (same_work pages ss rs behind round contents h.calm news calm)) ∙ sym was.work;
        outputs = λ k. ap (given_by k) now.items ∙ sym (same_given pages k 0 ss rs behind round contents h.calm news calm) ∙ sym (ap (given_by k) was.items);
      },
    )

-- ---- the page

pub local_change : (pages : Pages) (ss : List BlockSpot) (behind : List ℕ) (f : IsFramedPage pages ss behind) (es : Edits) → IsCalledPage pages ss behind
    → IsContentEdit (spots_tree pages ss behind) ss (paths_of f) es → IsLocalChange pages (spots_source ss behind) (spots_source (new_spots f es) behind) es
local_change pages ss behind f es h e =
    let os : List (Option Edited) = map (edited_by es) (paths_of f) in
    let rs : List BlockSpot = new_spots f es in
    let m : AreWellSent pages ss behind f es = well_sent pages ss behind f es h e in
    let t : Tree = spots_tree pages ss behind in
    let u : Tree = spots_tree pages rs behind in
    let b : ℕ → Tree = block_at (tree_by ss) in
    let c : ℕ → Tree = block_at (tree_by rs) in
    let was = spots_body pages ss behind h in
    let now = spots_body pages rs behind (f.again rs m.retyped) in
    let n : ℕ = next_after (label t).kind 1 in
    let k : ℕ = next_after (label u).kind 1 in
    let olds : children t ≡ all_settled n 0 (all_filled b f.nodes) =
    body_settled t (all_filled b f.nodes) was.kind (called_settled pages (spots_source ss behind)) (ap length was.opening) (f.stay ss (retyped_self ss)) in
    let news : children u ≡ all_settled k 0 (all_filled c f.nodes) =
    body_settled u (all_filled c f.nodes) now.kind (called_settled pages (spots_source rs behind)) (ap length now.opening) (f.stay rs m.retyped) in
    let blocks : AreBlocksFor (edit_at os) b c = record { sent = all_kindred ss os; same = (blocks_made ss os m.made).1 } in
    let nodes : AreLocalNodes es no_shift (all_filled b f.nodes) (all_filled c f.nodes) n k 0 0 =
    all_local (edit_at os) b c blocks f.nodes es content f.inner_nodes f.holders m.sends n k 0 0 no_shift refl in
    let g : GroupsStayAmong pages ss behind = groups_among pages ss behind h.outside in
    record {
      body = body_is pages ss ss behind g (retyped_self ss) ∙ sym (body_is pages ss rs behind g m.retyped);
      nodes =
          subst (λ (ts : Trees). AreLocal es no_shift ts (children u)) (sym olds)
          (subst (λ (us : Trees). AreLocal es no_shift (all_settled n 0 (all_filled b f.nodes)) us) (sym news) nodes.0);
      keeps = (alike pages ss rs behind h.outside.among m.retyped).0;
    }

pub expands_alike : (pages : Pages) (ss : List BlockSpot) (behind : List ℕ) (f : IsFramedPage pages ss behind) (es : Edits) → IsCalledPage pages ss behind
    → IsContentEdit (spots_tree pages ss behind) ss (paths_of f) es → ExpandsAlike pages (spots_source ss behind) (spots_source (new_spots f es) behind)
expands_alike pages ss behind f es h e =
    let m : AreWellSent pages ss behind f es = well_sent pages ss behind f es h e in (alike pages ss (new_spots f es) behind h.outside.among m.retyped).1
