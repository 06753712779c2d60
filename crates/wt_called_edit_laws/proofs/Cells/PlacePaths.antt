-- The paths to the blocks of a page, at which texts may be typed.
use Rattle.std.proofs.Common.{arith, ◌≡◌, ◌≢◌, ◌≤◌, ℕ, zero, suc, true, List, [], ◌∷◌, map, length, refl, sym, ap, ◌∙◌, subst, append-nil}
use Rattle.wt_tree.specs.declared.row.Texts.TheVariants.{Page}
use Rattle.wt_tree.specs.Tree.{Label, Tree, tree, Trees, none, more, label}
use Rattle.wt_span.specs.Items.{Item}
use Rattle.wt_inline.specs.ItemTree.{ItemTree}
use Rattle.wt_annotated.specs.Labels.{label_at}
use Rattle.wt_checks.specs.Kept.{children}
use Rattle.wt_part_laws.specs.Frames.{all_places, trees_at}
use Rattle.wt_part_laws.specs.Standing.{standing}
use Rattle.wt_typed_blocks.specs.Sent.{Sent, stands, typed, holds, Sents, none_sent, more_sent, old_child, old_children}
use Rattle.wt_typed_blocks.specs.Typed.{Takes, TakesText, TakeTexts}
use Rattle.wt_text_edit_laws.specs.BlockSpots.{BlockSpot, spots_source}
use Rattle.wt_text_edit_laws.specs.OwnNodes.{IsTypedSpot}
use Rattle.wt_text_edit_laws.specs.Parts.{part_tree}
use Rattle.wt_text_edit_laws.specs.TextBlocks.{TextBlock, a_paragraph, a_heading, block_of, block_tree}
use Rattle.wt_text_edit_laws.proofs.Blocks.Contents.{blocks_contents}
use Rattle.wt_text_edit_laws.proofs.Blocks.KeptBlocks.{blocks_source}
use Rattle.wt_text_edit_laws.proofs.Prose.ProseTrees.{blocks_of}
use Rattle.wt_called_edit_laws.specs.AnyBlocks.{AreSpots, typed_at, typed_among, typed_by, first_paths, other_paths, TypesOnly, AllTypeOnly, IsTextEdit, LeadsTo, LeadsAmong, AllLead}
use Rattle.wt_called_edit_laws.specs.OwnTexts.{AreTypings}
use Rattle.wt_called_edit_laws.proofs.Cells.ManyNodes.{nodes_from, nodes_are}
use Rattle.wt_called_edit_laws.proofs.Cells.ManyPaths.{paths_from, AreAsMany, paths_many, AllLeadFrom, leads_inside, lead_from}
use Rattle.wt_called_edit_laws.proofs.Cells.Nodes.{same_inside}
use Rattle.wt_called_edit_laws.proofs.Cells.Equal.{same_first, same_rest, same_block}
use Rattle.wt_called_edit_laws.proofs.Cells.PlaceGaps.{Gaps, last_gap, gaps_of, numbers_in, numbers_are, fill, sources_at, fill_frames, FillsAll, AreSame, same_gaps, sources_counted, count_counted, many_by}
use Rattle.wt_called_edit_laws.proofs.Cells.PlaceTrees.{tree_by, block_by, counted, Framed}
use Rattle.wt_called_edit_laws.proofs.Cells.SpotTrees.{counted_same, tree_borders, same_self, over_self, over_blocks, nodes_over, label_over, over_tree, new_source}
use Rattle.wt_called_edit_laws.proofs.Cells.FramesBorders.{page_borders}

-- ---- the paths, and that they lead to the blocks

abbrev pub paths_of : {ss : List BlockSpot} {behind : List ℕ} → Framed ss behind → List (List ℕ)
paths_of {ss = ss} f = paths_from (tree_by ss) true Page 1 [] [] f.frames

block_leads : (k : TextBlock) (q : List ℕ) (m : ℕ) (a : List Item) → 1 ≤ m → LeadsTo k [] (standing m a (block_tree k q))
unfolding label_at
block_leads a_paragraph q m a le = let some : m ≢ 0 = omega (arith, le) in (refl, some)
block_leads (a_heading s) q m a le = let some : m ≢ 0 = omega (arith, le) in (refl, some)

tree_leads : (ss : List BlockSpot) (i m : ℕ) (a : List Item) → 1 ≤ m → LeadsTo (block_by ss i) [] (standing m a (tree_by ss i))
tree_leads [] i m a le = block_leads a_paragraph [] m a le
tree_leads (s ∷ ss) zero m a le = block_leads s.block s.text m a le
tree_leads (s ∷ ss) (suc i) m a le = tree_leads ss i m a le

many_moved : (is : List ℕ) (ps : List (List ℕ)) → AreAsMany (map suc is) ps → AreAsMany is ps
many_moved [] ps h = h
many_moved (i ∷ is) [] h = h
many_moved (i ∷ is) (p ∷ ps) h = many_moved is ps h

lead_moved : (k : ℕ → TextBlock) (is : List ℕ) (ps : List (List ℕ)) (ts : Trees) → AllLeadFrom k (map suc is) ps ts → AllLeadFrom (λ i. k (suc i)) is ps ts
lead_moved k [] ps ts h = tt
lead_moved k (i ∷ is) [] ts h = tt
lead_moved k (i ∷ is) (p ∷ ps) ts h = (h.0, lead_moved k is ps ts h.1)

lead_list : (ss : List BlockSpot) (ps : List (List ℕ)) (l : Label) (ts : Trees) → AreAsMany (counted ss) ps → AllLeadFrom (block_by ss) (counted ss) ps ts
    → AllLead ss ps (tree l ts)
lead_list [] [] l ts m h = tt
lead_list [] (p ∷ ps) l ts m h = absurd m
lead_list (s ∷ ss) [] l ts m h = absurd m
lead_list (s ∷ ss) (p ∷ ps) l ts m h =
    (leads_inside s.block p l ts h.0, lead_list ss ps l ts (many_moved (counted ss) ps m) (lead_moved (block_by (s ∷ ss)) (counted ss) ps ts h.1))

pub paths_counted : (ss : List BlockSpot) (behind : List ℕ) (f : Framed ss behind) → AreAsMany (counted ss) (paths_of f)
paths_counted ss behind f = subst (λ is. AreAsMany is (paths_of f)) f.in_order (paths_many (tree_by ss) true Page 1 [] [] f.frames)

pub nodes_so : (ss : List BlockSpot) (behind : List ℕ) (f : Framed ss behind) → blocks_of 1 [] (nodes_over f ss) ≡ nodes_from (tree_by ss) true Page 1 [] [] f.frames
nodes_so ss behind f = nodes_are (tree_by ss) true Page 1 [] [] f.frames (page_borders (tree_by ss) f.frames)

pub tree_so : (ss : List BlockSpot) (behind : List ℕ) (f : Framed ss behind) → AreSpots ss behind
    → part_tree (spots_source ss behind) ≡ tree (label_over f ss) (nodes_from (tree_by ss) true Page 1 [] [] f.frames)
tree_so ss behind f h = over_tree ss ss behind f h (same_self ss) (over_self ss) ∙ ap (tree (label_over f ss)) (nodes_so ss behind f)

pub all_lead : (ss : List BlockSpot) (behind : List ℕ) (f : Framed ss behind) → AreSpots ss behind → AllLead ss (paths_of f) (part_tree (spots_source ss behind))
all_lead ss behind f h =
    let le : 1 ≤ 1 = omega arith in
    let ts : Trees = nodes_from (tree_by ss) true Page 1 [] [] f.frames in
    subst (λ t. AllLead ss (paths_of f) t) (sym (tree_so ss behind f h))
    (lead_list ss (paths_of f) (label_over f ss) ts (paths_counted ss behind f)
    (subst (λ is. AllLeadFrom (block_by ss) is (paths_of f) ts) f.in_order
    (lead_from (tree_by ss) (block_by ss) (tree_leads ss) true Page 1 [] [] f.frames le (tree_borders ss f.frames f.of_cells f.in_order))))

-- ---- each text may be typed in its block

mutual
  fit_at : (k : TextBlock) (p : List ℕ) (t : Tree) (s : Sent) (qs : List (List ℕ)) → LeadsTo k p t → old_child s ≡ t → TypesOnly qs s → TakesText s
      → IsTypedSpot k (typed_at p s)
  fit_at k p t (stands u v) qs h e o c = tt
  fit_at k [] (tree l ts) (typed j m us n x text) qs h e o c =
      let same : j ≡ block_of k = same_block j (block_of k) (ap (λ (u : Tree). (label u).kind) e ∙ h.0) in (o.1, subst (λ i. Takes i text) same c)
  fit_at k (i ∷ is) t (typed j m us n x text) qs h e o c = tt
  fit_at k [] t (holds j m ss) qs h e o c = tt
  fit_at k (i ∷ is) (tree l ts) (holds j m ss) qs h e o c = fit_among k i is ts ss qs h (same_inside j l (old_children ss) ts e) o.1 c

  fit_among : (k : TextBlock) (i : ℕ) (is : List ℕ) (ts : Trees) (es : Sents) (qs : List (List ℕ)) → LeadsAmong k i is ts → old_children es ≡ ts
      → AllTypeOnly qs es → TakeTexts es → IsTypedSpot k (typed_among i is es)
  fit_among k i is ts none_sent qs h e o c = tt
  fit_among k zero is none (more_sent s ss) qs h e o c = absurd h
  fit_among k zero is (more t ts) (more_sent s ss) qs h e o c = fit_at k is t s (first_paths qs) h (same_first (old_child s) t (old_children ss) ts e) o.0 c.0
  fit_among k (suc i) is none (more_sent s ss) qs h e o c = absurd h
  fit_among k (suc i) is (more t ts) (more_sent s ss) qs h e o c =
      fit_among k i is ts ss (other_paths qs) h (same_rest (old_child s) t (old_children ss) ts e) o.1 c.1

fit_by : (k : TextBlock) (p : List ℕ) (l : Label) (ts : Trees) (es : Sents) (qs : List (List ℕ)) → LeadsTo k p (tree l ts) → old_children es ≡ ts
    → AllTypeOnly qs es → TakeTexts es → IsTypedSpot k (typed_by es p)
fit_by k [] l ts es qs h e o c = tt
fit_by k (i ∷ is) l ts es qs h e o c = fit_among k i is ts es qs h e o c

fit_all : (ss : List BlockSpot) (ps : List (List ℕ)) (l : Label) (ts : Trees) (es : Sents) (qs : List (List ℕ)) → AllLead ss ps (tree l ts) → old_children es ≡ ts
    → AllTypeOnly qs es → TakeTexts es → AreTypings ss (map (typed_by es) ps)
fit_all [] [] l ts es qs h e o c = tt
fit_all [] (p ∷ ps) l ts es qs h e o c = absurd h
fit_all (s ∷ ss) [] l ts es qs h e o c = absurd h
fit_all (s ∷ ss) (p ∷ ps) l ts es qs h e o c = (fit_by s.block p l ts es qs h.0 e o c, fit_all ss ps l ts es qs h.1 e o c)

pub by_tree : (ss : List BlockSpot) (ps : List (List ℕ)) (es : Sents) (t : Tree) (qs : List (List ℕ)) → AllLead ss ps t → old_children es ≡ children t
    → AllTypeOnly qs es → TakeTexts es → AreTypings ss (map (typed_by es) ps)
by_tree ss ps es (tree l ts) qs h e o c = fit_all ss ps l ts es qs h e o c

-- at any paths at which the blocks are
pub typings : (ss : List BlockSpot) (behind : List ℕ) (paths : List (List ℕ)) (es : Sents) → AllLead ss paths (part_tree (spots_source ss behind))
    → IsTextEdit ss behind paths es → AreTypings ss (map (typed_by es) paths)
typings ss behind paths es h e = by_tree ss paths es (part_tree (spots_source ss behind)) paths h e.old e.types e.take

-- ---- of the page

fills_all : (ss : List BlockSpot) (behind : List ℕ) (f : Framed ss behind) → AreSpots ss behind → FillsAll (gaps_of f.frames (last_gap [])) ss behind
fills_all ss behind f h rs e c o =
    let g : Gaps = gaps_of f.frames (last_gap []) in
    let t : ℕ → ItemTree = tree_by rs in
    sym (ap (λ ts. fill ts g) (ap (λ is. sources_at t is []) (f.in_order ∙ sym (counted_same ss rs e)) ∙ sources_counted rs))
    ∙ fill_frames t f.frames (last_gap []) []
    ∙ append-nil (blocks_source (trees_at t f.frames))
    ∙ new_source ss rs behind f h e c o

pub numbers_so : (ss : List BlockSpot) (behind : List ℕ) (f : Framed ss behind) → numbers_in (gaps_of f.frames (last_gap [])) ≡ counted ss
numbers_so ss behind f = numbers_are f.frames (last_gap []) ∙ append-nil (all_places f.frames) ∙ f.in_order

pub gaps_so : (ss : List BlockSpot) (behind : List ℕ) (f : Framed ss behind) → AreSpots ss behind → AreSame (gaps_of f.frames (last_gap [])) ss
gaps_so ss behind f h =
    let g : Gaps = gaps_of f.frames (last_gap []) in
    same_gaps g ss behind (many_by g ss (ap length (numbers_so ss behind f) ∙ count_counted ss))
    (blocks_contents ss (over_blocks ss ss behind h (same_self ss) (over_self ss))) (fills_all ss behind f h)
