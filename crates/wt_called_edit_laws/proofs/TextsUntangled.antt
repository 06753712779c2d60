-- No block whose content is edited is tangled: each is at the place in the page that its nodes say, with the number that they leave it.
use Rattle.std.proofs.Common.{arith, ◌≡◌, ℕ, zero, suc, ◌+◌, Bool, true, false, Option, Some, None, List, [], ◌∷◌, ◌++◌, length, map, refl, sym, ap, ap₂, ◌∙◌, subst, append-nil, length-append}
use Rattle.std.specs.Prelude.{if◌then◌else◌}
use Rattle.wt_tree.specs.declared.kind.Kind.TheVariants as kind
use Rattle.wt_tree.specs.Kinds.{is_leaf}
use Rattle.wt_tree.specs.Source.{flat}
use Rattle.wt_tree.specs.Tiling.{is_group}
use Rattle.wt_tree.specs.Tree.{Label, Tree, tree, Trees, label}
use Rattle.wt_span.specs.Items.{sources}
use Rattle.wt_span.specs.Origins.{Expanded}
use Rattle.wt_inline.specs.ItemTree.{ItemTree, tree_items}
use Rattle.wt_annotated.specs.Numbering.{next_after, count}
use Rattle.wt_checks.specs.Kept.{children}
use Rattle.wt_part_laws.specs.Frames.{Part}
use Rattle.wt_part_laws.specs.Placeless.{placeless_label, placeless, all_placeless}
use Rattle.wt_selser.specs.Edits.{is_tangled}
use Rattle.wt_typed_blocks.specs.Sent.{Block, paragraph, heading, kind_of}
use Rattle.wt_typed_blocks.specs.Typed.{block_source}
use Rattle.wt_typed_blocks.specs.Edited.{Edited, stays, edited, round, Edits, no_edits, more_edits, page_node, page_nodes, page_pieces}
use Rattle.wt_typed_blocks.specs.EditedPage.{page_source, LiesAt, LieAt, IsApart, AreApart}
use Rattle.wt_text_edit_laws.specs.BlockSpots.{BlockSpot}
use Rattle.wt_text_edit_laws.specs.TextBlocks.{source_of, block_tree}
use Rattle.wt_called_edit_laws.specs.CalledBlocks.{tree_by, counted}
use Rattle.wt_called_edit_laws.proofs.Cells.Nodes.{same_label, same_inside}
use Rattle.wt_called_edit_laws.proofs.Cells.Equal.{same_first, same_rest}
use Rattle.wt_called_edit_laws.proofs.Cells.PlaceGaps.{Gaps, last_gap, then_gap, put_before, numbers_in, source_at, AreSame, AtPlaces, at_before}
use Rattle.wt_text_edit_laws.proofs.Blocks.Contents.{block_source as source_is}
use Rattle.wt_part_laws.specs.TreeFrames.{TreeFrame, spot, kept, holder, TreeFrames, no_nodes, more_nodes, filled, all_filled, spots_in, spots}
use Rattle.wt_called_edit_laws.specs.Untangled.{AreUntangledFrom}
use Rattle.wt_called_edit_laws.specs.Nodes.{NoLeaves, NoneLeaves, IsHolder, AreHolders}
use Rattle.wt_called_edit_laws.specs.Settled.{settled, all_settled, IsSettled}
use Rattle.wt_called_edit_laws.specs.Sends.{BlockSent, Sends, AllSend}
use Rattle.wt_called_edit_laws.proofs.CutFrames.{no_group_round}
use Rattle.wt_called_edit_laws.proofs.Leads.{inside_settled}
use Rattle.wt_called_edit_laws.proofs.TextsMake.{flat_same, leaf_or}
use Rattle.wt_called_edit_laws.proofs.NodeGaps.{HaveSources, both_have, gap_of, gaps_in, page_gaps, past_node}

-- ---- a block at its place

-- A node that is the block with this number, behind so many bytes of the page, isn't tangled.
abbrev IsFree : Expanded → List ℕ → (ℕ → Tree) → (ℕ → ItemTree) → List ℕ → ℕ → Type 0
IsFree items page b t front n =
    (u : Tree) (m first last : ℕ) → u ≡ settled m (length front) (b n)
    → (label u).ranges ≡ Some (record { start = length front; end = length front + length (source_at t n); open_w = first; close_w = last })
    → is_tangled items page u ≡ false

block_flat : (j : Block) (l : Label) (us : Trees) → block_source l us ≡ flat (tree (record l { kind = kind_of j }) us)
block_flat paragraph l us = refl
block_flat (heading n) l us = refl

spot_untangled : (items : Expanded) (page : List ℕ) (b : ℕ → Tree) (t : ℕ → ItemTree) (front : List ℕ) (n m : ℕ) (v : Option Edited) (s : Edited) → flat (b n) ≡ source_at t n
    → IsFree items page b t front n → BlockSent v s → placeless (page_node s) ≡ b n → page_node s ≡ settled m (length front) (b n) → LiesAt (length front) s
    → IsApart items page s
spot_untangled items page b t front n m None (stays x u) h f w e is at = tt
spot_untangled items page b t front n m None (edited j l k ps) h f w e is at = absurd w
spot_untangled items page b t front n m None (round l k ss) h f w e is at = absurd w
spot_untangled items page b t front n m (Some d) (stays x u) h f w e is at = absurd w
spot_untangled items page b t front n m (Some d) (edited j l k ps) h f w e is at =
    let u : Tree = page_node (edited j l k ps) in
    let size : length (block_source l (page_pieces ps)) ≡ length (source_at t n) =
    ap length (block_flat j l (page_pieces ps) ∙ sym (flat_same u) ∙ ap flat e ∙ h) in
    f u m (length l.opening) (length l.closing) is
    (at ∙ ap (λ (x : ℕ). Some (record { start = length front; end = length front + x; open_w = length l.opening; close_w = length l.closing })) size)
spot_untangled items page b t front n m (Some d) (round l k ss) h f w e is at = absurd w

page_flat : (at : ℕ) (s : Edited) → LiesAt at s → page_source s ≡ flat (page_node s)
page_flat at (stays t u) h = refl
page_flat at (edited j l m ps) h = block_flat j l (page_pieces ps)
page_flat at (round l m ss) h = leaf_or (is_leaf l.kind) l.own (block_source l (page_nodes ss)) h.0

-- ---- of all nodes

abbrev AreFree : Expanded → List ℕ → (ℕ → Tree) → (ℕ → ItemTree) → List ℕ → Gaps → Type 0
AreFree items page b t front z = AtPlaces (IsFree items page b t) t front z

no_group : (g : Bool) (xs ys : Trees) → g ≡ false → (if g then xs else ys) ≡ ys
no_group true xs ys e = let no : true ≡ false = e in absurd (cc)
no_group false xs ys e = refl

mutual
  node_untangled : (items : Expanded) (page : List ℕ) (b : ℕ → Tree) (t : ℕ → ItemTree) (o : ℕ → Option Edited) (front : List ℕ) (i : ℕ) (x : Part) (f : TreeFrame) (z : Gaps) (s : Edited)
      → HaveSources b t (spots_in f) → NoLeaves f → IsHolder f x → Sends o f s → placeless (page_node s) ≡ filled b f
      → page_node s ≡ settled i (length front) (filled b f) → LiesAt (length front) s → AreFree items page b t front (gap_of f z) → IsApart items page s
  node_untangled items page b t o front i x (spot n) z s g w r p e is at h =
      spot_untangled items page b t front n i (o n) s g.0 (subst (λ (bs : List ℕ). IsFree items page b t bs n) (append-nil front) h.0) p e is at
  node_untangled items page b t o front i x (kept u) z (stays y v) g w r p e is at h = tt
  node_untangled items page b t o front i x (kept u) z (edited j l m ps) g w r p e is at h = absurd p
  node_untangled items page b t o front i x (kept u) z (round l m ss) g w r p e is at h = absurd p
  node_untangled items page b t o front i x (holder l gs) z (stays y v) g w r p e is at h = tt
  node_untangled items page b t o front i x (holder l gs) z (edited j k m ps) g w r p e is at h = absurd p
  node_untangled items page b t o front i x (holder l gs) z (round k m ss) g w r p e is at h =
      let us : Trees = page_nodes ss in
      let inside : Trees = all_settled (next_after l.kind i) (length front + length l.opening) (all_filled b gs) in
      let label_is : placeless_label k ≡ l = same_label (placeless_label k) l (all_placeless us) (all_filled b gs) e in
      let size : length k.opening ≡ length l.opening = ap (λ (y : Label). length y.opening) label_is in
      let both : length (front ++ l.opening) ≡ length front + length l.opening = length-append front l.opening in
      let place : length front + length k.opening ≡ length (front ++ l.opening) = omega (arith, size, both) in
      let own : us ≡ inside =
      ap children is ∙ no_group (is_group l.kind) (all_filled b gs) inside (no_group_round x r.0 l.kind r.1) in
      let there : us ≡ all_settled (next_after l.kind i) (length (front ++ l.opening)) (all_filled b gs) =
      own ∙ ap (λ (a : ℕ). all_settled (next_after l.kind i) a (all_filled b gs)) (sym both) in
      all_untangled items page b t o (front ++ l.opening) (next_after l.kind i) r.0 gs (put_before l.closing z) ss g w.1 r.2 p
      (same_inside (placeless_label k) l (all_placeless us) (all_filled b gs) e) there
      (subst (λ (a : ℕ). LieAt a ss) place at.1) (at_before (IsFree items page b t) t front l.opening (gaps_in gs (put_before l.closing z)) h)

  all_untangled : (items : Expanded) (page : List ℕ) (b : ℕ → Tree) (t : ℕ → ItemTree) (o : ℕ → Option Edited) (front : List ℕ) (i : ℕ) (x : Part) (fs : TreeFrames) (z : Gaps) (es : Edits)
      → HaveSources b t (spots fs) → NoneLeaves fs → AreHolders fs x → AllSend o fs es → all_placeless (page_nodes es) ≡ all_filled b fs
      → page_nodes es ≡ all_settled i (length front) (all_filled b fs) → LieAt (length front) es → AreFree items page b t front (gaps_in fs z) → AreApart items page es
  all_untangled items page b t o front i x no_nodes z no_edits g w r p e is at h = tt
  all_untangled items page b t o front i x no_nodes z (more_edits s ss) g w r p e is at h = absurd p
  all_untangled items page b t o front i x (more_nodes f fs) z no_edits g w r p e is at h = absurd p
  all_untangled items page b t o front i x (more_nodes f fs) z (more_edits s ss) g w r p e is at h =
      let here = both_have b t (spots_in f) (spots fs) g in
      let own : List ℕ = flat (filled b f) in
      let next : ℕ = i + count (filled b f) in
      let rest : Trees = all_settled next (length front + length own) (all_filled b fs) in
      let first : placeless (page_node s) ≡ filled b f =
      same_first (placeless (page_node s)) (filled b f) (all_placeless (page_nodes ss)) (all_filled b fs) e in
      let size : length (page_source s) ≡ length own = ap length (page_flat (length front) s at.0 ∙ sym (flat_same (page_node s)) ∙ ap flat first) in
      let both : length (front ++ own) ≡ length front + length own = length-append front own in
      let place : length front + length (page_source s) ≡ length (front ++ own) = omega (arith, size, both) in
      let there : page_nodes ss ≡ all_settled next (length (front ++ own)) (all_filled b fs) =
      same_rest (page_node s) (settled i (length front) (filled b f)) (page_nodes ss) rest is
      ∙ ap (λ (a : ℕ). all_settled next a (all_filled b fs)) (sym both) in (
        node_untangled items page b t o front i x f (gaps_in fs z) s here.0 w.0 r.0 p.0 first
            (same_first (page_node s) (settled i (length front) (filled b f)) (page_nodes ss) rest is) at.0 h,
        all_untangled items page b t o (front ++ own) next x fs z ss here.1 w.1 r.1 p.1
            (same_rest (placeless (page_node s)) (filled b f) (all_placeless (page_nodes ss)) (all_filled b fs) e) there
            (subst (λ (a : ℕ). LieAt a ss) place at.1) (past_node (IsFree items page b t) b t front f (gaps_in fs z) here.0 w.0 h),
      )

-- ---- the places of the page's blocks

abbrev pub AreThere : (ℕ → ItemTree) → List ℕ → List BlockSpot → Type 0
AreThere t [] ss = Unit {0}
AreThere t (n ∷ ns) [] = ⊥
AreThere t (n ∷ ns) (s ∷ ss) = (t n ≡ block_tree s.block s.text) × AreThere t ns ss

there_moved : (t : ℕ → ItemTree) (ns : List ℕ) (ss : List BlockSpot) → AreThere (λ n. t (suc n)) ns ss → AreThere t (map suc ns) ss
there_moved t [] ss h = tt
there_moved t (n ∷ ns) [] h = h
there_moved t (n ∷ ns) (s ∷ ss) h = (h.0, there_moved t ns ss h.1)

pub all_there : (ss : List BlockSpot) → AreThere (tree_by ss) (counted ss) ss
all_there [] = tt
all_there (s ∷ ss) = (refl, there_moved (tree_by (s ∷ ss)) (counted ss) ss (all_there ss))

-- the blocks at these places are these, one after the other
abbrev AreInTurn : (ℕ → Tree) → (ℕ → Tree) → List ℕ → Type 0
AreInTurn b c [] = Unit {0}
AreInTurn b c (n ∷ ns) = (b n ≡ c zero) × AreInTurn b (λ i. c (suc i)) ns

turn_moved : (b c : ℕ → Tree) (ns : List ℕ) → AreInTurn (λ i. b (suc i)) c ns → AreInTurn b c (map suc ns)
turn_moved b c [] h = tt
turn_moved b c (n ∷ ns) h = (h.0, turn_moved b (λ i. c (suc i)) ns h.1)

all_in_turn : (b : ℕ → Tree) (ss : List BlockSpot) → AreInTurn b b (counted ss)
all_in_turn b [] = tt
all_in_turn b (s ∷ ss) = (refl, turn_moved b (λ i. b (suc i)) (counted ss) (all_in_turn (λ i. b (suc i)) ss))

free_places : (items : Expanded) (page : List ℕ) (b c : ℕ → Tree) (t : ℕ → ItemTree) (front : List ℕ) (g : Gaps) (ss : List BlockSpot) (at : ℕ)
    → at ≡ length front → AreSame g ss → AreInTurn b c (numbers_in g) → AreThere t (numbers_in g) ss → AreUntangledFrom items page c at ss
    → AreFree items page b t front g
free_places items page b c t front (last_gap xs) ss at i m r a u = tt
free_places items page b c t front (then_gap xs n g) [] at i m r a u = absurd m
free_places items page b c t front (then_gap xs n g) (s ∷ ss) at i m r a u =
    let here : List ℕ = front ++ xs in
    let own : List ℕ = source_at t n in
    let own_is : own ≡ source_of s.block s.text = ap (λ x. sources (tree_items x)) a.0 ∙ source_is s.block s.text in
    let first : length s.before ≡ length xs = ap length (sym m.0) in
    let size : length (source_of s.block s.text) ≡ length own = ap length (sym own_is) in
    let one : length here ≡ length front + length xs = length-append front xs in
    let two : length (here ++ own) ≡ length here + length own = length-append here own in
    let start : at + length s.before ≡ length here = omega (arith, i, first, one) in
    let end : (at + length s.before) + length (source_of s.block s.text) ≡ length here + length own = omega (arith, start, size) in
    let behind : (at + length s.before) + length (source_of s.block s.text) ≡ length (here ++ own) = omega (arith, end, two) in (
      λ x m first_w last_w same ranges.
          u.0 x m first_w last_w (same ∙ ap₂ (λ (k : ℕ) (v : Tree). settled m k v) (sym start) r.0)
          (ranges ∙ ap₂ (λ (i j : ℕ). Some (record { start = i; end = j; open_w = first_w; close_w = last_w })) (sym start) (sym end)),
      free_places items page b (λ i. c (suc i)) t (here ++ own) g ss ((at + length s.before) + length (source_of s.block s.text)) behind m.1 r.1 a.1 u.1,
    )

-- ---- what is sent for a page

pub edit_untangled : (items : Expanded) (page : List ℕ) (o : ℕ → Option Edited) (b : ℕ → Tree) (ss : List BlockSpot) (x : Part) (fs : TreeFrames) (es : Edits) (i : ℕ)
    → HaveSources b (tree_by ss) (spots fs) → NoneLeaves fs → AreHolders fs x → AreSame (page_gaps fs) ss → numbers_in (page_gaps fs) ≡ counted ss
    → AreUntangledFrom items page b 0 ss → AllSend o fs es → all_placeless (page_nodes es) ≡ all_filled b fs → page_nodes es ≡ all_settled i 0 (all_filled b fs)
    → LieAt 0 es → AreApart items page es
edit_untangled items page o b ss x fs es i g w r m n u p e is at =
    all_untangled items page b (tree_by ss) o [] i x fs (last_gap []) es g w r p e is at
    (free_places items page b b (tree_by ss) [] (page_gaps fs) ss 0 refl m (subst (AreInTurn b b) (sym n) (all_in_turn b ss))
    (subst (λ (ns : List ℕ). AreThere (tree_by ss) ns ss) (sym n) (all_there ss)) u)

-- the children of a page's tree
pub body_settled : (t : Tree) (us : Trees) → (label t).kind ≡ kind.Body → IsSettled t → length (label t).opening ≡ 0 → all_placeless (children t) ≡ us
    → children t ≡ all_settled (next_after (label t).kind 1) 0 us
body_settled (tree l ts) us k s o e =
    inside_settled 1 0 l ts (ap is_group k) s
    ∙ ap₂ (λ (a : ℕ) (vs : Trees). all_settled (next_after l.kind 1) a vs) (none_more (length l.opening) o) e
  where
    none_more : (n : ℕ) → n ≡ 0 → 0 + n ≡ 0
    none_more n i = omega (arith, i)
