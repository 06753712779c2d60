-- What a page has before each place of its nodes: its source before this block, which is the same whatever the texts are.
use Rattle.std.proofs.Common.{◌≡◌, ℕ, suc, false, List, [], ◌∷◌, ◌++◌, length, map, refl, sym, ap, ap₂, ◌∙◌, subst, append-nil, append_assoc}
use Rattle.wt_tree.specs.Kinds.{is_leaf}
use Rattle.wt_tree.specs.Source.{flat, flat_of_all}
use Rattle.wt_tree.specs.Tree.{Label, Tree, tree, Trees}
use Rattle.wt_inline.specs.ItemTree.{ItemTree}
use Rattle.wt_part_laws.specs.Standing.{standing}
use Rattle.wt_part_laws.proofs.Sources.{standing_source}
use Rattle.wt_text_edit_laws.specs.BlockSpots.{BlockSpot, spots_source, AreContents}
use Rattle.wt_text_edit_laws.proofs.Blocks.Contents.{block_source as source_is}
use Rattle.wt_called_edit_laws.specs.CalledBlocks.{tree_by, counted}
use Rattle.wt_called_edit_laws.specs.PartTexts.{HaveOwnSources}
use Rattle.wt_called_edit_laws.proofs.Cells.PlaceGaps.{Gaps, last_gap, then_gap, put_before, numbers_in, numbers_before, fill, fill_before, source_at, sources_at, sources_both, own_sources, FillsAll, AreSame, same_gaps, sources_counted, count_counted, many_by, AtPlaces, at_before}
use Rattle.wt_part_laws.specs.TreeFrames.{TreeFrame, spot, kept, holder, TreeFrames, no_nodes, more_nodes, filled, all_filled, spots_in, spots}
use Rattle.wt_called_edit_laws.specs.Nodes.{block_at, NoLeaves, NoneLeaves}
use Rattle.wt_called_edit_laws.proofs.TextsMake.{flat_same, leaf_or}

-- ---- what is between places

-- before others
abbrev mutual
  pub gap_of : TreeFrame → Gaps → Gaps
  gap_of (spot n) z = then_gap [] n z
  gap_of (kept t) z = put_before (flat t) z
  gap_of (holder l fs) z = put_before l.opening (gaps_in fs (put_before l.closing z))

  pub gaps_in : TreeFrames → Gaps → Gaps
  gaps_in no_nodes z = z
  gaps_in (more_nodes f fs) z = gap_of f (gaps_in fs z)

mutual
  one_number : (f : TreeFrame) (z : Gaps) → numbers_in (gap_of f z) ≡ spots_in f ++ numbers_in z
  one_number (spot n) z = refl
  one_number (kept t) z = numbers_before (flat t) z
  one_number (holder l fs) z =
      let y : Gaps = put_before l.closing z in
      numbers_before l.opening (gaps_in fs y) ∙ all_numbers fs y ∙ ap (λ (is : List ℕ). spots fs ++ is) (numbers_before l.closing z)

  all_numbers : (fs : TreeFrames) (z : Gaps) → numbers_in (gaps_in fs z) ≡ spots fs ++ numbers_in z
  all_numbers no_nodes z = refl
  all_numbers (more_nodes f fs) z =
      one_number f (gaps_in fs z)
      ∙ ap (λ (is : List ℕ). spots_in f ++ is) (all_numbers fs z)
      ∙ sym (append_assoc (spots_in f) (spots fs) (numbers_in z))

-- ---- with blocks between them

pub spot_source : (t : ℕ → ItemTree) (n : ℕ) → flat (block_at t n) ≡ source_at t n
spot_source t n = flat_same (standing 0 [] (t n)) ∙ standing_source 0 [] (t n)

-- each of the blocks at these places has this source
abbrev pub HaveSources : (ℕ → Tree) → (ℕ → ItemTree) → List ℕ → Type 0
HaveSources b t [] = Unit {0}
HaveSources b t (n ∷ ns) = (flat (b n) ≡ source_at t n) × HaveSources b t ns

pub have_sources : (t : ℕ → ItemTree) (ns : List ℕ) → HaveSources (block_at t) t ns
have_sources t [] = tt
have_sources t (n ∷ ns) = (spot_source t n, have_sources t ns)

pub both_have : (b : ℕ → Tree) (t : ℕ → ItemTree) (ms ns : List ℕ) → HaveSources b t (ms ++ ns) → HaveSources b t ms × HaveSources b t ns
both_have b t [] ns h = (tt, h)
both_have b t (m ∷ ms) ns h = let r = both_have b t ms ns h.1 in ((h.0, r.0), r.1)

sources_moved : (b : ℕ → Tree) (t : ℕ → ItemTree) (ns : List ℕ) → HaveSources (λ n. b (suc n)) (λ n. t (suc n)) ns → HaveSources b t (map suc ns)
sources_moved b t [] h = tt
sources_moved b t (n ∷ ns) h = (h.0, sources_moved b t ns h.1)

-- nodes with the blocks' sources, one after the other
pub own_have : (b : ℕ → Tree) (ss : List BlockSpot) → HaveOwnSources b ss → HaveSources b (tree_by ss) (counted ss)
own_have b [] h = tt
own_have b (s ∷ ss) h =
    (h.0 ∙ sym (source_is s.block s.text), sources_moved b (tree_by (s ∷ ss)) (counted ss) (own_have (λ n. b (suc n)) ss h.1))

-- what is in a node that holds places
holder_source : (l : Label) (ts : Trees) → is_leaf l.kind ≡ false → l.opening ++ flat_of_all ts ++ l.closing ≡ flat (tree l ts)
holder_source l ts e = leaf_or (is_leaf l.kind) l.own (l.opening ++ flat_of_all ts ++ l.closing) e

mutual
  one_fill : (b : ℕ → Tree) (t : ℕ → ItemTree) (f : TreeFrame) (z : Gaps) (ts : List (List ℕ)) → HaveSources b t (spots_in f) → NoLeaves f
      → fill (sources_at t (spots_in f) ts) (gap_of f z) ≡ flat (filled b f) ++ fill ts z
  one_fill b t (spot n) z ts s w = ap (λ (bs : List ℕ). bs ++ fill ts z) (sym s.0)
  one_fill b t (kept u) z ts s w = fill_before ts (flat u) z
  one_fill b t (holder l gs) z ts s w =
      let A : List ℕ = l.opening in
      let B : List ℕ = flat_of_all (all_filled b gs) in
      let C : List ℕ = l.closing in
      let D : List ℕ = fill ts z in
      fill_before (sources_at t (spots gs) ts) A (gaps_in gs (put_before C z))
      ∙ ap (λ (xs : List ℕ). A ++ xs) (all_fill b t gs (put_before C z) ts s w.1 ∙ ap (λ (xs : List ℕ). B ++ xs) (fill_before ts C z))
      ∙ sym (append_assoc A B (C ++ D))
      ∙ sym (append_assoc (A ++ B) C D)
      ∙ ap (λ (xs : List ℕ). xs ++ D) (holder_source l (all_filled b gs) w.0)

  all_fill : (b : ℕ → Tree) (t : ℕ → ItemTree) (fs : TreeFrames) (z : Gaps) (ts : List (List ℕ)) → HaveSources b t (spots fs) → NoneLeaves fs
      → fill (sources_at t (spots fs) ts) (gaps_in fs z) ≡ flat_of_all (all_filled b fs) ++ fill ts z
  all_fill b t no_nodes z ts s w = refl
  all_fill b t (more_nodes f fs) z ts s w =
      let A : List ℕ = flat (filled b f) in
      let B : List ℕ = flat_of_all (all_filled b fs) in
      let both = both_have b t (spots_in f) (spots fs) s in
      ap (λ (rs : List (List ℕ)). fill rs (gap_of f (gaps_in fs z))) (sources_both t (spots_in f) (spots fs) ts)
      ∙ one_fill b t f (gaps_in fs z) (sources_at t (spots fs) ts) both.0 w.0
      ∙ ap (λ (xs : List ℕ). A ++ xs) (all_fill b t fs z ts both.1 w.1)
      ∙ sym (append_assoc A B (fill ts z))

-- ---- what holds at the places behind a node

mutual
  pub past_node : (P : List ℕ → ℕ → Type 0) (b : ℕ → Tree) (t : ℕ → ItemTree) (front : List ℕ) (f : TreeFrame) (z : Gaps) → HaveSources b t (spots_in f)
      → NoLeaves f → AtPlaces P t front (gap_of f z) → AtPlaces P t (front ++ flat (filled b f)) z
  past_node P b t front (spot n) z s w h =
      let e : (front ++ []) ++ source_at t n ≡ front ++ flat (b n) = ap₂ (λ (xs ys : List ℕ). xs ++ ys) (append-nil front) (sym s.0) in
      subst (λ (xs : List ℕ). AtPlaces P t xs z) e h.1
  past_node P b t front (kept u) z s w h = at_before P t front (flat u) z h
  past_node P b t front (holder l gs) z s w h =
      let A : List ℕ = l.opening in
      let B : List ℕ = flat_of_all (all_filled b gs) in
      let C : List ℕ = l.closing in
      let e : ((front ++ A) ++ B) ++ C ≡ front ++ flat (tree l (all_filled b gs)) =
      ap (λ (xs : List ℕ). xs ++ C) (append_assoc front A B)
      ∙ append_assoc front (A ++ B) C
      ∙ ap (λ (xs : List ℕ). front ++ xs) (holder_source l (all_filled b gs) w.0) in
      subst (λ (xs : List ℕ). AtPlaces P t xs z) e
      (at_before P t ((front ++ A) ++ B) C z
      (past_nodes P b t (front ++ A) gs (put_before C z) s w.1 (at_before P t front A (gaps_in gs (put_before C z)) h)))

  past_nodes : (P : List ℕ → ℕ → Type 0) (b : ℕ → Tree) (t : ℕ → ItemTree) (front : List ℕ) (fs : TreeFrames) (z : Gaps) → HaveSources b t (spots fs)
      → NoneLeaves fs → AtPlaces P t front (gaps_in fs z) → AtPlaces P t (front ++ flat_of_all (all_filled b fs)) z
  past_nodes P b t front no_nodes z s w h = subst (λ (xs : List ℕ). AtPlaces P t xs z) (sym (append-nil front)) h
  past_nodes P b t front (more_nodes f fs) z s w h =
      let A : List ℕ = flat (filled b f) in
      let both = both_have b t (spots_in f) (spots fs) s in
      subst (λ (xs : List ℕ). AtPlaces P t xs z) (append_assoc front A (flat_of_all (all_filled b fs)))
      (past_nodes P b t (front ++ A) fs z both.1 w.1 (past_node P b t front f (gaps_in fs z) both.0 w.0 h))

-- ---- they are those of the page

-- of all nodes of a page
abbrev pub page_gaps : TreeFrames → Gaps
page_gaps fs = gaps_in fs (last_gap [])

pub numbers_so : (ss : List BlockSpot) (fs : TreeFrames) → spots fs ≡ counted ss → numbers_in (page_gaps fs) ≡ counted ss
numbers_so ss fs e = all_numbers fs (last_gap []) ∙ append-nil (spots fs) ∙ e

-- whatever new contents are written, these nodes are the page
abbrev pub AreThePage : TreeFrames → List BlockSpot → List ℕ → Type 0
AreThePage fs ss behind = FillsAll (page_gaps fs) ss behind

pub filled_page : (b : ℕ → Tree) (rs : List BlockSpot) (behind : List ℕ) (fs : TreeFrames) → HaveSources b (tree_by rs) (spots fs) → NoneLeaves fs
    → spots fs ≡ counted rs → flat_of_all (all_filled b fs) ≡ spots_source rs behind → fill (own_sources rs) (page_gaps fs) ≡ spots_source rs behind
filled_page b rs behind fs s w e is =
    let t : ℕ → ItemTree = tree_by rs in
    sym (ap (λ (ts : List (List ℕ)). fill ts (page_gaps fs)) (ap (λ (is : List ℕ). sources_at t is []) e ∙ sources_counted rs))
    ∙ all_fill b t fs (last_gap []) [] s w
    ∙ append-nil (flat_of_all (all_filled b fs))
    ∙ is

pub gaps_so : (ss : List BlockSpot) (behind : List ℕ) (fs : TreeFrames) → spots fs ≡ counted ss → AreContents ss → AreThePage fs ss behind → AreSame (page_gaps fs) ss
gaps_so ss behind fs e b f =
    same_gaps (page_gaps fs) ss behind (many_by (page_gaps fs) ss (ap length (numbers_so ss fs e) ∙ count_counted ss)) b f
