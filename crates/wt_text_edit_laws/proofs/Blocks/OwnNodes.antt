-- Each page of the class has an edit with any texts: the one that sends every other node as it is.
use Rattle.std.proofs.Common.{◌≡◌, ℕ, zero, suc, Option, Some, None, List, [], ◌∷◌, ◌++◌, length, refl, sym, ap, ◌∙◌, subst, append-nil}
use Rattle.wt_tree.specs.Tiling.{is_group, HasNoGroup, NoneIsGroup}
use Rattle.wt_tree.specs.Tree.{Label, Tree, tree, Trees, none, more}
use Rattle.wt_span.specs.Items.{Item}
use Rattle.wt_inline.specs.ItemTree.{ItemTree}
use Rattle.wt_checks.specs.Kept.{children}
use Rattle.wt_checks.specs.WithoutMarks.{unmarked, all_unmarked}
use Rattle.wt_expand.specs.PageItems.{page_items}
use Rattle.wt_text_edit_laws.proofs.Texts.TypedLeaves.{leaves}
use Rattle.wt_typed_blocks.specs.Sent.{GroupIsSent, StandsAsIs, AllStandAsIs}
use Rattle.wt_typed_blocks.proofs.SentGroups.{no_group}
use Rattle.wt_text_edit_laws.proofs.Prose.ProseTrees.{blocks_of, number_behind, items_behind}
use Rattle.wt_text_edit_laws.specs.ParagraphBetween.{blocks_in}
use Rattle.wt_text_edit_laws.specs.Parts.{part_tree}
use Rattle.wt_text_edit_laws.specs.TextBlocks.{TextBlock}
use Rattle.wt_text_edit_laws.specs.BlockSpots.{BlockSpot, spots_source, AreBlockSpots}
use Rattle.wt_text_edit_laws.specs.BlockEdits.{Sending, old_spots, all_kept, sending_for, spot_sendings, AreKept, IsSentFor, AreSentFor, IsText, AreTexts, IsBlockEdit}
use Rattle.wt_text_edit_laws.specs.OwnNodes.{TypedSpot, spots_of, IsTypedSpot, AreTypedSpots, first_nodes, nodes_behind, past_one, block_count, typing_by, own_spots, last_nodes, own_edit}
use Rattle.wt_text_edit_laws.proofs.Blocks.BlockTrees.{leafy_blocks, spots_tree}
use Rattle.wt_text_edit_laws.proofs.Blocks.BlockLeaves.{leaf_block}
use Rattle.wt_text_edit_laws.proofs.Blocks.BlocksUngrouped.{spots_ungrouped}

-- ---- a node without marks stands as it is

mutual
  pub stands_unmarked : (t : Tree) → HasNoGroup t → StandsAsIs t (unmarked t)
  stands_unmarked (tree l ts) g = (
    record { kind = refl; id = refl; attrs = refl; mw = refl; shown = λ e. refl; unmarked = refl },
    no_group (GroupIsSent l ts (all_unmarked ts)) (is_group l.kind) g.0 (all_stand_unmarked ts g.1),
  )

  all_stand_unmarked : (ts : Trees) → NoneIsGroup ts → AllStandAsIs ts (all_unmarked ts)
  all_stand_unmarked none g = tt
  all_stand_unmarked (more t ts) g = (stands_unmarked t g.0, all_stand_unmarked ts g.1)

none_behind : (n : ℕ) (ts : Trees) → NoneIsGroup ts → NoneIsGroup (nodes_behind n ts)
none_behind zero ts g = g
none_behind (suc n) none g = g
none_behind (suc n) (more t ts) g = none_behind n ts g.1

none_past : (ts : Trees) → NoneIsGroup ts → NoneIsGroup (past_one ts)
none_past none g = g
none_past (more t ts) g = g.1

pub none_inside : (t : Tree) → HasNoGroup t → NoneIsGroup (children t)
none_inside (tree l ts) g = g.1

-- ---- what is kept

kept_front : (n : ℕ) (ts : Trees) (ds : List Sending) → NoneIsGroup ts → AreKept ds (nodes_behind n ts) → AreKept (all_kept (first_nodes n ts) ++ ds) ts
kept_front zero ts ds g h = h
kept_front (suc n) none ds g h = h
kept_front (suc n) (more t ts) ds g h = (stands_unmarked t g.0, kept_front n ts ds g.1 h)

kept_all : (n : ℕ) (ts : Trees) → NoneIsGroup ts → AreKept (all_kept (first_nodes n ts)) ts
kept_all n ts g = subst (λ ds. AreKept ds ts) (append-nil (all_kept (first_nodes n ts))) (kept_front n ts [] g tt)

kept_one : (k : TextBlock) (l : Label) (text : Option (List ℕ)) (rest : Trees) (ds : List Sending) → NoneIsGroup rest → AreKept ds (past_one rest)
    → AreKept (sending_for k (typing_by l text rest) ∷ ds) rest
kept_one k l text none ds g h = tt
kept_one k l (Some text) (more t ts) ds g h = h
kept_one k l None (more t ts) ds g h = (stands_unmarked t g.0, h)

kept_own : (l : Label) (rs : List TypedSpot) (n : ℕ) (ts : Trees) → NoneIsGroup ts
    → AreKept (spot_sendings (own_spots l rs ts) (first_nodes n (last_nodes rs ts))) ts
kept_own l [] n ts g = kept_all n ts g
kept_own l (r ∷ rs) n ts g =
    let rest : Trees = nodes_behind (block_count r.spot.before) ts in
    let free : NoneIsGroup rest = none_behind (block_count r.spot.before) ts g in
    let ds : List Sending = spot_sendings (own_spots l rs (past_one rest)) (first_nodes n (last_nodes rs (past_one rest))) in
    kept_front (block_count r.spot.before) ts (sending_for r.spot.block (typing_by l r.text rest) ∷ ds) g
    (kept_one r.spot.block l r.text rest ds free (kept_own l rs n (past_one rest) (none_past rest free)))

-- ---- how many are sent

first_count : (us vs : List ItemTree) (m : ℕ) (before : List Item) → length (first_nodes (length us) (blocks_of m before (us ++ vs))) ≡ length us
first_count [] vs m before = refl
first_count (u ∷ us) vs m before = ap suc (first_count us vs (number_behind m before u) (items_behind before u))

-- behind the first of them
abbrev AreBlocksOf : Trees → List ItemTree → Type 0
AreBlocksOf ts vs = (m : ℕ) × (before : List Item) × (ts ≡ blocks_of m before vs)

behind_first : (us vs : List ItemTree) (m : ℕ) (before : List Item) → AreBlocksOf (nodes_behind (length us) (blocks_of m before (us ++ vs))) vs
behind_first [] vs m before = (m, before, refl)
behind_first (u ∷ us) vs m before = behind_first us vs (number_behind m before u) (items_behind before u)

behind_spot : (us : List ItemTree) (v : ItemTree) (vs : List ItemTree) (m : ℕ) (before : List Item)
    → AreBlocksOf (past_one (nodes_behind (length us) (blocks_of m before (us ++ v ∷ vs)))) vs
behind_spot us v vs m before =
    let b = behind_first us (v ∷ vs) m before in
    (number_behind b.0 b.1 v, items_behind b.1 v, ap past_one b.2)

sent_own : (l : Label) (rs : List TypedSpot) (behind : List ℕ) (m : ℕ) (before : List Item)
    → AreSentFor (own_spots l rs (blocks_of m before (leafy_blocks (spots_of rs) behind)))
sent_own l [] behind m before = tt
sent_own l (r ∷ rs) behind m before =
    let us : List ItemTree = blocks_in (page_items r.spot.before) in
    let v : ItemTree = leaf_block r.spot.block (leaves (page_items r.spot.text)) in
    let vs : List ItemTree = leafy_blocks (spots_of rs) behind in
    let b = behind_spot us v vs m before in
    (first_count us (v ∷ vs) m before, subst (λ ts. AreSentFor (own_spots l rs ts)) (sym b.2) (sent_own l rs behind b.0 b.1))

last_count : (us : List ItemTree) (m : ℕ) (before : List Item) → length (first_nodes (length us) (blocks_of m before us)) ≡ length us
last_count us m before = ap (λ ts. length (first_nodes (length us) (blocks_of m before ts))) (sym (append-nil us)) ∙ first_count us [] m before

sent_last : (rs : List TypedSpot) (behind : List ℕ) (m : ℕ) (before : List Item)
    → IsSentFor (first_nodes (block_count behind) (last_nodes rs (blocks_of m before (leafy_blocks (spots_of rs) behind)))) behind
sent_last [] behind m before = last_count (blocks_in (page_items behind)) m before
sent_last (r ∷ rs) behind m before =
    let us : List ItemTree = blocks_in (page_items r.spot.before) in
    let v : ItemTree = leaf_block r.spot.block (leaves (page_items r.spot.text)) in
    let b = behind_spot us v (leafy_blocks (spots_of rs) behind) m before in
    subst (λ ts. IsSentFor (first_nodes (block_count behind) (last_nodes rs ts)) behind) (sym b.2) (sent_last rs behind b.0 b.1)

-- ---- the page, and the texts

same_spots : (l : Label) (rs : List TypedSpot) (ts : Trees) → old_spots (own_spots l rs ts) ≡ spots_of rs
same_spots l [] ts = refl
same_spots l (r ∷ rs) ts = ap (λ ss. r.spot ∷ ss) (same_spots l rs (past_one (nodes_behind (block_count r.spot.before) ts)))

text_own : (k : TextBlock) (l : Label) (text : Option (List ℕ)) (rest : Trees) → IsTypedSpot k text → IsText k (typing_by l text rest)
text_own k l (Some text) rest h = h
text_own k l None none h = tt
text_own k l None (more t ts) h = tt

texts_own : (l : Label) (rs : List TypedSpot) (ts : Trees) → AreTypedSpots rs → AreTexts (own_spots l rs ts)
texts_own l [] ts h = tt
texts_own l (r ∷ rs) ts h =
    let rest : Trees = nodes_behind (block_count r.spot.before) ts in
    (text_own r.spot.block l r.text rest h.0, texts_own l rs (past_one rest) h.1)

pub is_edit : (l : Label) (rs : List TypedSpot) (behind : List ℕ) → AreBlockSpots (spots_of rs) behind → AreTypedSpots rs → IsBlockEdit (own_edit l rs behind)
is_edit l rs behind h texts =
    let ss : List BlockSpot = spots_of rs in
    let ts : Trees = children (part_tree (spots_source ss behind)) in
    let same : old_spots (own_spots l rs ts) ≡ ss = same_spots l rs ts in
    let nodes : ts ≡ blocks_of 1 [] (leafy_blocks ss behind) = ap children (spots_tree ss behind h) in
    let sent : List Sending = spot_sendings (own_spots l rs ts) (first_nodes (block_count behind) (last_nodes rs ts)) in
    record {
      are_spots = subst (λ us. AreBlockSpots us behind) (sym same) h;
      are_texts = texts_own l rs ts texts;
      before = subst (λ us. AreSentFor (own_spots l rs us)) (sym nodes) (sent_own l rs behind 1 []);
      behind = subst (λ us. IsSentFor (first_nodes (block_count behind) (last_nodes rs us)) behind) (sym nodes) (sent_last rs behind 1 []);
      are_kept = subst (λ us. AreKept sent (children (part_tree (spots_source us behind)))) (sym same)
          (kept_own l rs (block_count behind) ts (none_inside (part_tree (spots_source ss behind)) (spots_ungrouped ss behind h)));
    }
