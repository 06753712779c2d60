-- The paths of a page's blocks lead to the bytes at which these begin, and no other paragraph or heading begins at one of them.
use Rattle.std.proofs.Common.{arith, ◌≡◌, ◌≢◌, inl, inr, ℕ, zero, suc, ◌<◌, ◌≤◌, ◌+◌, false, List, [], ◌∷◌, ◌++◌, length, refl, sym, ap, ap₂, ◌∙◌, subst, append-nil, append_assoc, length-append}
use Rattle.wt_tree.specs.Kinds.{is_leaf}
use Rattle.wt_tree.specs.Source.{flat, flat_of_all}
use Rattle.wt_tree.specs.Tiling.{is_group}
use Rattle.wt_tree.specs.Tree.{Label, Tree, tree, Trees, none, more}
use Rattle.wt_span.specs.Items.{Item}
use Rattle.wt_inline.specs.ItemTree.{ItemTree}
use Rattle.wt_checks.specs.Kept.{children}
use Rattle.wt_expand.specs.Work.{Pages}
use Rattle.wt_part_laws.specs.Frames.{Part, Holds}
use Rattle.wt_part_laws.specs.Placeless.{placeless_label, placeless, all_placeless}
use Rattle.wt_part_laws.specs.Standing.{standing}
use Rattle.wt_part_laws.proofs.Moved.{moved}
use Rattle.wt_part_laws.specs.TreeFrames.{spot, kept, holder, TreeFrames, no_nodes, more_nodes, all_filled, spots}
use Rattle.wt_text_edit_laws.specs.BlockSpots.{BlockSpot, AreContents}
use Rattle.wt_text_edit_laws.specs.Contents.{IsHeadingLine, IsContent}
use Rattle.wt_text_edit_laws.specs.TextBlocks.{TextBlock, a_paragraph, a_heading, source_of, block_tree}
use Rattle.wt_text_edit_laws.specs.TypedHeadings.{equals, closing}
use Rattle.wt_text_edit_laws.proofs.Blocks.Contents.{block_source}
use Rattle.wt_text_edit_laws.proofs.Blocks.OwnContents.{paragraph_some}
use Rattle.wt_called_edit_laws.specs.AllTold.{starts_at, starts_in, IsOneOf}
use Rattle.wt_called_edit_laws.specs.CalledBlocks.{tree_by}
use Rattle.wt_called_edit_laws.specs.CalledPages.{IsCalledPage}
use Rattle.wt_called_edit_laws.specs.CalledTexts.{spots_tree}
use Rattle.wt_called_edit_laws.specs.EditsAt.{IsStanding, StandsTo, StandsAmong, AllStand}
use Rattle.wt_called_edit_laws.specs.Nodes.{block_at, NoneLeaves, AreHolders}
use Rattle.wt_called_edit_laws.specs.ToldTogether.{IsAmongNumbers}
use Rattle.wt_called_edit_laws.specs.PathsTo.{all_past, all_inside, paths_to}
use Rattle.wt_called_edit_laws.proofs.Cells.Equal.{same_first, same_rest}
use Rattle.wt_called_edit_laws.proofs.Cells.Nodes.{same_inside}
use Rattle.wt_called_edit_laws.proofs.CutFrames.{no_group_round}
use Rattle.wt_called_edit_laws.proofs.HoldersSent.{kind_held}
use Rattle.wt_called_edit_laws.proofs.Cells.PlaceGaps.{Gaps, last_gap, then_gap, put_before, numbers_in, source_at, AreSame}
use Rattle.wt_called_edit_laws.proofs.EditFacts.{IsFramedPage, spots_contents, are_the_page, paths_of}
use Rattle.wt_called_edit_laws.proofs.GroupsAmong.{retyped_self}
use Rattle.wt_called_edit_laws.proofs.Leads.{standing_kind}
use Rattle.wt_called_edit_laws.proofs.NodeGaps.{gaps_in, HaveSources, have_sources, both_have, page_gaps, gaps_so, numbers_so}
use Rattle.wt_called_edit_laws.proofs.PathsSend.{NoneEmpty, paths_full}
use Rattle.wt_called_edit_laws.proofs.TextsMake.{flat_same, leaf_or as flat_inner}
use Rattle.wt_called_edit_laws.proofs.TextsUntangled.{AreThere, all_there}
use Rattle.wt_called_edit_laws.proofs.AllTold.Found.{housing_of}
use Rattle.wt_called_edit_laws.proofs.AllTold.Starts.{HasByte, IsBlockNode, BlockAt, BlockIn}

-- ---- where blocks begin among bytes

abbrev pub spot_starts : ℕ → List BlockSpot → List ℕ
spot_starts at [] = []
spot_starts at (s ∷ ss) = (at + length s.before) ∷ spot_starts ((at + length s.before) + length (source_of s.block s.text)) ss

abbrev pub gap_starts : (ℕ → ItemTree) → ℕ → Gaps → List ℕ
gap_starts t at (last_gap xs) = []
gap_starts t at (then_gap xs i g) = (at + length xs) ∷ gap_starts t ((at + length xs) + length (source_at t i)) g

starts_before : (t : ℕ → ItemTree) (at : ℕ) (xs : List ℕ) (g : Gaps) → gap_starts t at (put_before xs g) ≡ gap_starts t (at + length xs) g
starts_before t at xs (last_gap ys) = refl
starts_before t at xs (then_gap ys i g) =
    let z : at + length (xs ++ ys) ≡ (at + length xs) + length ys = omega (arith, length-append xs ys) in
    ap (λ (n : ℕ). n ∷ gap_starts t (n + length (source_at t i)) g) z

pub gaps_are : (t : ℕ → ItemTree) (at : ℕ) (g : Gaps) (ss : List BlockSpot) → AreSame g ss → AreThere t (numbers_in g) ss → gap_starts t at g ≡ spot_starts at ss
gaps_are t at (last_gap xs) [] m a = refl
gaps_are t at (last_gap xs) (s ∷ ss) m a = absurd m
gaps_are t at (then_gap xs i g) [] m a = absurd m
gaps_are t at (then_gap xs i g) (s ∷ ss) m a =
    let one : length (source_at t i) ≡ length (source_of s.block s.text) =
    ap (λ (u : ItemTree). length (source_at (λ (j : ℕ). u) i)) a.0 ∙ ap length (block_source s.block s.text) in
    let n : ℕ = at + length s.before in
    ap (λ (bs : List ℕ). (at + length bs) ∷ gap_starts t ((at + length bs) + length (source_at t i)) g) m.0
    ∙ ap (λ (k : ℕ). n ∷ gap_starts t (n + k) g) one
    ∙ ap (λ (ns : List ℕ). n ∷ ns) (gaps_are t (n + length (source_of s.block s.text)) g ss m.1 a.1)

-- ---- where the nodes at paths begin

abbrev pub start_from : ℕ → Trees → List ℕ → ℕ
start_from at ts [] = at
start_from at ts (i ∷ is) = starts_in at i is ts

abbrev pub starts_from : ℕ → Trees → List (List ℕ) → List ℕ
starts_from at ts [] = []
starts_from at ts (p ∷ ps) = start_from at ts p ∷ starts_from at ts ps

starts_past : (at : ℕ) (t : Tree) (ts : Trees) (ps : List (List ℕ)) → NoneEmpty ps → starts_from at (more t ts) (all_past ps) ≡ starts_from (at + length (flat t)) ts ps
starts_past at t ts [] h = refl
starts_past at t ts ([] ∷ ps) h = absurd h
starts_past at t ts ((i ∷ is) ∷ ps) h = ap (λ (ns : List ℕ). starts_in (at + length (flat t)) i is ts ∷ ns) (starts_past at t ts ps h)

starts_inside : (at : ℕ) (l : Label) (us ts : Trees) (ps : List (List ℕ)) → NoneEmpty ps
    → starts_from at (more (tree l us) ts) (all_inside ps) ≡ starts_from (at + length l.opening) us ps
starts_inside at l us ts [] h = refl
starts_inside at l us ts ([] ∷ ps) h = absurd h
starts_inside at l us ts ((i ∷ is) ∷ ps) h = ap (λ (ns : List ℕ). starts_in (at + length l.opening) i is us ∷ ns) (starts_inside at l us ts ps h)

starts_both : (at : ℕ) (ts : Trees) (ps qs : List (List ℕ)) → starts_from at ts (ps ++ qs) ≡ starts_from at ts ps ++ starts_from at ts qs
starts_both at ts [] qs = refl
starts_both at ts (p ∷ ps) qs = ap (λ (ns : List ℕ). start_from at ts p ∷ ns) (starts_both at ts ps qs)

-- ---- those of places

-- how long what is in a node is, with its delimiters
flat_size : (l : Label) (ts : Trees) → is_leaf l.kind ≡ false → length l.opening + length (flat_of_all ts) + length l.closing ≡ length (flat (tree l ts))
flat_size l ts e =
    let inside : List ℕ = l.opening ++ flat_of_all ts ++ l.closing in
    let all : length inside ≡ length (flat (tree l ts)) = ap length (flat_inner (is_leaf l.kind) l.own inside e) in
    omega (arith, all, length-append (l.opening ++ flat_of_all ts) l.closing, length-append l.opening (flat_of_all ts))

pub all_start : (b : ℕ → Tree) (t : ℕ → ItemTree) (at : ℕ) (fs : TreeFrames) (z : Gaps) → HaveSources b t (spots fs) → NoneLeaves fs
    → starts_from at (all_filled b fs) (paths_to fs) ++ gap_starts t (at + length (flat_of_all (all_filled b fs))) z ≡ gap_starts t at (gaps_in fs z)
all_start b t at no_nodes z s w = let e : at + 0 ≡ at = omega arith in ap (λ (n : ℕ). gap_starts t n z) e
all_start b t at (more_nodes (spot n) fs) z s w =
    let us : Trees = all_filled b fs in
    let ps : List (List ℕ) = paths_to fs in
    let rest : ℕ = at + length (flat (b n)) in
    let e : at + length (flat (b n) ++ flat_of_all us) ≡ rest + length (flat_of_all us) = omega (arith, length-append (flat (b n)) (flat_of_all us)) in
    let f : rest ≡ (at + 0) + length (source_at t n) = omega (arith, ap length s.0) in
    let g : at ≡ at + 0 = omega arith in
    ap₂ (λ (ns : List ℕ) (k : ℕ). (at ∷ ns) ++ gap_starts t k z) (starts_past at (b n) us ps (paths_full fs)) e
    ∙ ap (λ (ns : List ℕ). at ∷ ns) (all_start b t rest fs z s.1 w.1)
    ∙ ap₂ (λ (k j : ℕ). k ∷ gap_starts t j (gaps_in fs z)) g f
all_start b t at (more_nodes (kept u) fs) z s w =
    let us : Trees = all_filled b fs in
    let rest : ℕ = at + length (flat u) in
    let e : at + length (flat u ++ flat_of_all us) ≡ rest + length (flat_of_all us) = omega (arith, length-append (flat u) (flat_of_all us)) in
    ap₂ (λ (ns : List ℕ) (k : ℕ). ns ++ gap_starts t k z) (starts_past at u us (paths_to fs) (paths_full fs)) e
    ∙ all_start b t rest fs z s w.1
    ∙ sym (starts_before t at (flat u) (gaps_in fs z))
all_start b t at (more_nodes (holder l gs) fs) z s w =
    let us : Trees = all_filled b fs in
    let vs : Trees = all_filled b gs in
    let node : Tree = tree l vs in
    let y : Gaps = gaps_in fs z in
    let inner : ℕ = at + length l.opening in
    let rest : ℕ = at + length (flat node) in
    let both = both_have b t (spots gs) (spots fs) s in
    let size = flat_size l vs w.0.0 in
    let e : at + length (flat node ++ flat_of_all us) ≡ rest + length (flat_of_all us) = omega (arith, length-append (flat node) (flat_of_all us)) in
    let f : (inner + length (flat_of_all vs)) + length l.closing ≡ rest = omega (arith, size) in
    let own : List ℕ = starts_from inner vs (paths_to gs) in
    ap₂ (λ (ns : List ℕ) (k : ℕ). ns ++ gap_starts t k z)
    (starts_both at (more node us) (all_inside (paths_to gs)) (all_past (paths_to fs))
    ∙ ap₂ (λ (ms ns : List ℕ). ms ++ ns) (starts_inside at l vs us (paths_to gs) (paths_full gs)) (starts_past at node us (paths_to fs) (paths_full fs))) e
    ∙ append_assoc own (starts_from rest us (paths_to fs)) (gap_starts t (rest + length (flat_of_all us)) z)
    ∙ ap (λ (ns : List ℕ). own ++ ns) (all_start b t rest fs z both.1 w.1
    ∙ ap (λ (k : ℕ). gap_starts t k y) (sym f)
    ∙ sym (starts_before t (inner + length (flat_of_all vs)) l.closing y))
    ∙ all_start b t inner gs (put_before l.closing y) both.0 w.0.1
    ∙ sym (starts_before t at l.opening (gaps_in gs (put_before l.closing y)))

-- ---- with numbers and places

mutual
  placeless_at : (at : ℕ) (is : List ℕ) (t : Tree) → starts_at at is (placeless t) ≡ starts_at at is t
  placeless_at at [] (tree l ts) = refl
  placeless_at at (i ∷ is) (tree l ts) = placeless_in (at + length l.opening) i is ts

  placeless_in : (at i : ℕ) (is : List ℕ) (ts : Trees) → starts_in at i is (all_placeless ts) ≡ starts_in at i is ts
  placeless_in at i is none = refl
  placeless_in at zero is (more t ts) = placeless_at at is t
  placeless_in at (suc i) is (more t ts) =
      ap (λ (n : ℕ). starts_in (at + n) i is (all_placeless ts)) (ap length (flat_same t)) ∙ placeless_in (at + length (flat t)) i is ts

pub placeless_from : (at : ℕ) (ts : Trees) (ps : List (List ℕ)) → starts_from at (all_placeless ts) ps ≡ starts_from at ts ps
placeless_from at ts [] = refl
placeless_from at ts ([] ∷ ps) = ap (λ (ns : List ℕ). at ∷ ns) (placeless_from at ts ps)
placeless_from at ts ((i ∷ is) ∷ ps) = ap₂ (λ (n : ℕ) (ns : List ℕ). n ∷ ns) (placeless_in at i is ts) (placeless_from at ts ps)

pub paths_start : (pages : Pages) (ss : List BlockSpot) (behind : List ℕ) (f : IsFramedPage pages ss behind) → IsCalledPage pages ss behind
    → starts_from 0 (children (spots_tree pages ss behind)) (paths_of f) ≡ spot_starts 0 ss
paths_start pages ss behind f h =
    let b : ℕ → Tree = block_at (tree_by ss) in
    let t : ℕ → ItemTree = tree_by ss in
    let us : Trees = children (spots_tree pages ss behind) in
    let nodes : Trees = all_filled b f.nodes in
    let numbers = numbers_so ss f.nodes f.in_order in
    let same : AreSame (page_gaps f.nodes) ss = gaps_so ss behind f.nodes f.in_order (spots_contents pages ss behind h) (are_the_page pages ss behind f) in
    sym (placeless_from 0 us (paths_of f))
    ∙ ap (λ (vs : Trees). starts_from 0 vs (paths_of f)) (f.stay ss (retyped_self ss))
    ∙ sym (append-nil (starts_from 0 nodes (paths_of f)))
    ∙ all_start b t 0 f.nodes (last_gap []) (have_sources t (spots f.nodes)) f.inner_nodes
    ∙ gaps_are t 0 (page_gaps f.nodes) ss same (subst (λ (ns : List ℕ). AreThere t ns ss) (sym numbers) (all_there ss))

-- ---- the blocks are there

block_housed : (k : TextBlock) (q : List ℕ) (t : Tree) → IsStanding (block_tree k q) t → IsBlockNode t
block_housed a_paragraph q (tree l ts) s = ap housing_of (standing_kind a_paragraph q (tree l ts) s)
block_housed (a_heading h) q (tree l ts) s = ap housing_of (standing_kind (a_heading h) q (tree l ts) s)

pub standing_source : (k : TextBlock) (q : List ℕ) (n : ℕ) (before : List Item) → flat (standing n before (block_tree k q)) ≡ source_of k q
standing_source k q n before =
    let u : ItemTree = block_tree k q in
    sym (flat_same (standing n before u)) ∙ ap flat (sym (moved 0 n [] before u)) ∙ (have_sources (λ (i : ℕ). u) (0 ∷ [])).0 ∙ block_source k q

block_byte : (k : TextBlock) (q : List ℕ) (t : Tree) → IsStanding (block_tree k q) t → 0 < length (source_of k q) → HasByte t
block_byte k q t s h =
    subst (λ (bs : List ℕ). 0 < length bs) (sym (ap flat s.is ∙ standing_source k q s.number s.before)) h

-- no group is on the way there
abbrev mutual
  pub ClearAt : List ℕ → Tree → Type 0
  ClearAt [] t = Unit {0}
  ClearAt (i ∷ is) (tree l ts) = (is_group l.kind ≡ false) × ClearIn i is ts

  pub ClearIn : ℕ → List ℕ → Trees → Type 0
  ClearIn i is none = Unit {0}
  ClearIn zero is (more t ts) = ClearAt is t
  ClearIn (suc i) is (more t ts) = ClearIn i is ts

abbrev pub AllClear : List (List ℕ) → Trees → Type 0
AllClear [] ts = Unit {0}
AllClear ([] ∷ ps) ts = AllClear ps ts
AllClear ((i ∷ is) ∷ ps) ts = ClearIn i is ts × AllClear ps ts

clear_past : (ps : List (List ℕ)) (t : Tree) (ts : Trees) → AllClear ps ts → AllClear (all_past ps) (more t ts)
clear_past [] t ts h = tt
clear_past ([] ∷ ps) t ts h = clear_past ps t ts h
clear_past ((i ∷ is) ∷ ps) t ts h = (h.0, clear_past ps t ts h.1)

clear_inside : (ps : List (List ℕ)) (l : Label) (us ts : Trees) → is_group l.kind ≡ false → NoneEmpty ps → AllClear ps us → AllClear (all_inside ps) (more (tree l us) ts)
clear_inside [] l us ts e n h = tt
clear_inside ([] ∷ ps) l us ts e n h = absurd n
clear_inside ((i ∷ is) ∷ ps) l us ts e n h = ((e, h.0), clear_inside ps l us ts e n h.1)

clear_both : (ps qs : List (List ℕ)) (ts : Trees) → AllClear ps ts → AllClear qs ts → AllClear (ps ++ qs) ts
clear_both [] qs ts h g = g
clear_both ([] ∷ ps) qs ts h g = clear_both ps qs ts h g
clear_both ((i ∷ is) ∷ ps) qs ts h g = (h.0, clear_both ps qs ts h.1 g)

pub clear_paths : (fs : TreeFrames) (p : Part) (b : ℕ → Tree) (ts : Trees) → AreHolders fs p → all_placeless ts ≡ all_filled b fs → AllClear (paths_to fs) ts
clear_paths no_nodes p b ts h e = tt
clear_paths (more_nodes f fs) p b none h e = cc
clear_paths (more_nodes (spot n) fs) p b (more t ts) h e =
    (tt, clear_past (paths_to fs) t ts (clear_paths fs p b ts h.1 (same_rest (placeless t) (b n) (all_placeless ts) (all_filled b fs) e)))
clear_paths (more_nodes (kept u) fs) p b (more t ts) h e =
    clear_past (paths_to fs) t ts (clear_paths fs p b ts h.1 (same_rest (placeless t) u (all_placeless ts) (all_filled b fs) e))
clear_paths (more_nodes (holder k gs) fs) p b (more (tree l us) ts) h e =
    let first : placeless (tree l us) ≡ tree k (all_filled b gs) = same_first (placeless (tree l us)) (tree k (all_filled b gs)) (all_placeless ts) (all_filled b fs) e in
    let part : Holds p l.kind h.0.0 = subst (λ j. Holds p j h.0.0) (sym (kind_held l k (all_placeless us) (all_filled b gs) first)) h.0.1 in
    clear_both (all_inside (paths_to gs)) (all_past (paths_to fs)) (more (tree l us) ts)
    (clear_inside (paths_to gs) l us ts (no_group_round p h.0.0 l.kind part) (paths_full gs)
    (clear_paths gs h.0.0 b us h.0.2 (same_inside (placeless_label l) k (all_placeless us) (all_filled b gs) first)))
    (clear_past (paths_to fs) (tree l us) ts
    (clear_paths fs p b ts h.1 (same_rest (placeless (tree l us)) (tree k (all_filled b gs)) (all_placeless ts) (all_filled b fs) e)))

mutual
  stood_at : (k : TextBlock) (q : List ℕ) (is : List ℕ) (t : Tree) → StandsTo (block_tree k q) is t → ClearAt is t → 0 < length (source_of k q) → BlockAt is t
  stood_at k q [] t s c h = (block_housed k q t s, block_byte k q t s h)
  stood_at k q (i ∷ is) (tree l ts) s c h = (c.0, stood_in k q i is ts s c.1 h)

  stood_in : (k : TextBlock) (q : List ℕ) (i : ℕ) (is : List ℕ) (ts : Trees) → StandsAmong (block_tree k q) i is ts → ClearIn i is ts → 0 < length (source_of k q)
      → BlockIn i is ts
  stood_in k q i is none s c h = s
  stood_in k q zero is (more t ts) s c h = stood_at k q is t s c h
  stood_in k q (suc i) is (more t ts) s c h = stood_in k q i is ts s c h

abbrev pub AllHaveBytes : List BlockSpot → Type 0
AllHaveBytes [] = Unit {0}
AllHaveBytes (s ∷ ss) = (0 < length (source_of s.block s.text)) × AllHaveBytes ss

pub content_some : (k : TextBlock) (q : List ℕ) → IsContent k q → 0 < length (source_of k q)
content_some a_paragraph q h = by q (paragraph_some q h)
  where
    by : (bs : List ℕ) → bs ≢ [] → 0 < length bs
    by [] n = absurd (n refl)
    by (b ∷ bs) n = omega arith
content_some (a_heading s) q h =
    let own : IsHeadingLine s q = h.is in
    by s.level own.frame.sides.some
  where
    by : (n : ℕ) → 1 ≤ n → 0 < length ((equals n ++ s.lead) ++ (q ++ closing s))
    by zero le = absurd (omega (arith, le))
    by (suc n) le = omega arith

pub contents_some : (ss : List BlockSpot) → AreContents ss → AllHaveBytes ss
contents_some [] h = tt
contents_some (s ∷ ss) h = (content_some s.block s.text h.0, contents_some ss h.1)

-- one of these paths leads to a block that begins at this byte
pub data LeadsThere (at : ℕ) (ts : Trees) (ps : List (List ℕ)) : Type 0 where
  leads : (i : ℕ) (is : List ℕ) → IsOneOf (i ∷ is) ps → BlockIn i is ts → starts_in 0 i is ts ≡ at → LeadsThere at ts ps

pub leads_later : (at : ℕ) (ts : Trees) (p : List ℕ) (ps : List (List ℕ)) → LeadsThere at ts ps → LeadsThere at ts (p ∷ ps)
leads_later at ts p ps (leads i is o b e) = leads i is (inr o) b e

pub leads_there : (ss : List BlockSpot) (ps : List (List ℕ)) (l : Label) (ts : Trees) (at : ℕ) → AllStand ss ps (tree l ts) → NoneEmpty ps → AllClear ps ts
    → AllHaveBytes ss → IsAmongNumbers at (starts_from 0 ts ps) → LeadsThere at ts ps
leads_there [] [] l ts at s e c w h = absurd h
leads_there [] (p ∷ ps) l ts at s e c w h = absurd s
leads_there (b ∷ ss) [] l ts at s e c w h = absurd s
leads_there (b ∷ ss) ([] ∷ ps) l ts at s e c w h = absurd e
leads_there (b ∷ ss) ((i ∷ is) ∷ ps) l ts at s e c w (inl z) = leads i is (inl refl) (stood_in b.block b.text i is ts s.0 c.0 w.0) (sym z)
leads_there (b ∷ ss) ((i ∷ is) ∷ ps) l ts at s e c w (inr h) = leads_later at ts (i ∷ is) ps (leads_there ss ps l ts at s.1 e c.1 w.1 h)
