-- Texts are cut between the blocks at places, and between the nodes that hold such: the same whatever blocks are there.
use Rattle.std.proofs.Common.{◌≡◌, ◌⊎◌, ℕ, Bool, true, false, None, List, [], ◌∷◌, ◌++◌, refl, sym, ap, ap₂, ◌∙◌, subst, inl, inr, cond}
use Rattle.wt_tree.specs.declared.kind.Kind.{Kind}
use Rattle.wt_tree.specs.declared.kind.Kind.TheVariants as kind
use Rattle.wt_tree.specs.declared.row.Texts.{Texts}
use Rattle.wt_tree.specs.declared.row.Texts.TheVariants.{Separators, Page, Bordered, OwnCharacter}
use Rattle.wt_tree.specs.Kinds.{is_block, writing, texts_of_kind}
use Rattle.wt_recut.specs.Recut.{is_as_text, any_shows_block}
use Rattle.wt_tree.specs.Tiling.{is_group}
use Rattle.wt_tree.specs.Tree.{Label, Tree, tree, Trees, none, more}
use Rattle.wt_span.specs.Origins.{OuterCall}
use Rattle.wt_inline.specs.ItemTree.{ItemTree, inner}
use Rattle.wt_checks.specs.Kept.{children}
use Rattle.wt_annotated.specs.Annotated.{annotated}
use Rattle.wt_annotated.specs.CutTexts.{cut_as, cut_texts, all_cut_texts}
use Rattle.wt_annotated.specs.GroupData.{group_data}
use Rattle.wt_annotated.specs.Labels.{label_at}
use Rattle.wt_annotated.specs.Numbering.{with_numbers}
use Rattle.wt_annotated.specs.WithoutCalls.{placed}
use Rattle.wt_part_laws.specs.Rounds.{IsCellKind}
use Rattle.wt_part_laws.specs.Frames.{place, whole, around, Frames, no_frames, more_frames, trees_at, all_places, Part, content, in_table, in_body, in_row, Holds, AreFrames}
use Rattle.wt_part_laws.specs.Placeless.{placeless, all_placeless}
use Rattle.wt_part_laws.proofs.Recuts.{texts_same}
use Rattle.wt_called_edit_laws.proofs.Cells.Cuts.{beside}
use Rattle.wt_called_edit_laws.proofs.Cells.Nodes.{AtBorder}
use Rattle.wt_called_edit_laws.proofs.Cells.ManyNodes.{fore_at, cut_at, cut_at_round}
use Rattle.wt_part_laws.specs.TreeFrames.{TreeFrame, spot, kept, holder, TreeFrames, no_nodes, more_nodes, filled, all_filled, spots}
use Rattle.wt_part_laws.specs.Rounded.{AreOwn, AreClean, body_of, body_label, block_alone}
use Rattle.wt_part_laws.proofs.FramesWalked.{kept_before, holder_label, no_leaf, stretch, nodes_of, spots_are}
use Rattle.wt_part_laws.proofs.GroupsStay.{numbers_gone, stays, held_stay}
use Rattle.wt_part_laws.specs.HeldCalls.{block_in, blocks_in}
use Rattle.wt_called_edit_laws.specs.Nodes.{IsBlock, AreBlocks, block_at, NoneLeaves, AreHolders, NodesStay, NodesStayRound}

-- ---- cutting

-- behind these nodes, the first of a node's or not
abbrev pub cut_nodes : Bool → Texts → Trees → TreeFrames → TreeFrames
cut_nodes v x us no_nodes = kept_before (cut_at v x us) no_nodes
cut_nodes v x us (more_nodes (kept t) fs) = cut_nodes v x (beside us (more (cut_texts t) none)) fs
cut_nodes v x us (more_nodes (spot n) fs) = kept_before (fore_at v x us) (more_nodes (spot n) (cut_nodes false x none fs))
cut_nodes v x us (more_nodes (holder l gs) fs) =
    kept_before (fore_at v x us) (more_nodes (holder l (cut_nodes true (texts_of_kind l.kind) none gs)) (cut_nodes false x none fs))

-- where texts are cut, what is at places and round places is a block
abbrev AtCuts : (ℕ → Tree) → Texts → TreeFrames → Type 0
AtCuts b x no_nodes = Unit {0}
AtCuts b x (more_nodes (kept t) fs) = AtCuts b x fs
AtCuts b x (more_nodes (spot n) fs) = AtBorder x (cut_texts (b n)) × AtCuts b x fs
AtCuts b x (more_nodes (holder l gs) fs) =
    (is_group l.kind ≡ false) × ((ts : Trees) → AtBorder x (tree l ts)) × AtCuts b (texts_of_kind l.kind) gs × AtCuts b x fs

none_beside : (us : Trees) → beside us none ≡ us
none_beside none = refl
none_beside (more u us) = ap (more u) (none_beside us)

beside_one : (us : Trees) (t : Tree) (rest : Trees) → beside us (more t rest) ≡ beside (beside us (more t none)) rest
beside_one none t rest = refl
beside_one (more u us) t rest = ap (more u) (beside_one us t rest)

filled_before : (b : ℕ → Tree) (ts : Trees) (fs : TreeFrames) → all_filled b (kept_before ts fs) ≡ beside ts (all_filled b fs)
filled_before b none fs = refl
filled_before b (more t ts) fs = ap (more t) (filled_before b ts fs)

abbrev cut_block : (ℕ → Tree) → ℕ → Tree
cut_block b n = cut_texts (b n)

one_cut : (b : ℕ → Tree) (v : Bool) (x : Texts) (us : Trees) (p : Tree) (ds : Trees) (f : TreeFrame) (fs : TreeFrames) → AtBorder x p
    → p ≡ filled (cut_block b) f → cut_at false x ds ≡ all_filled (cut_block b) fs
    → cut_at v x (beside us (more p ds)) ≡ all_filled (cut_block b) (kept_before (fore_at v x us) (more_nodes f fs))
one_cut b v x us p ds f fs border one rest =
    cut_at_round v x us p ds border
    ∙ ap₂ (λ (t : Tree) (ts : Trees). beside (fore_at v x us) (more t ts)) one rest
    ∙ sym (filled_before (cut_block b) (fore_at v x us) (more_nodes f fs))

inside_cut : (l : Label) (ts : Trees) → is_group l.kind ≡ false → cut_texts (tree l ts) ≡ tree l (cut_as (texts_of_kind l.kind) (all_cut_texts ts))
inside_cut l ts e = ap (λ (v : Bool). tree l (cond v ts (cut_as (texts_of_kind l.kind) (all_cut_texts ts)))) e

pub cuts_are : (b : ℕ → Tree) (v : Bool) (x : Texts) (us : Trees) (fs : TreeFrames) → AtCuts b x fs
    → cut_at v x (beside us (all_cut_texts (all_filled b fs))) ≡ all_filled (cut_block b) (cut_nodes v x us fs)
cuts_are b v x us no_nodes h =
    ap (cut_at v x) (none_beside us) ∙ sym (none_beside (cut_at v x us)) ∙ sym (filled_before (cut_block b) (cut_at v x us) no_nodes)
cuts_are b v x us (more_nodes (kept t) fs) h =
    ap (cut_at v x) (beside_one us (cut_texts t) (all_cut_texts (all_filled b fs))) ∙ cuts_are b v x (beside us (more (cut_texts t) none)) fs h
cuts_are b v x us (more_nodes (spot n) fs) h =
    one_cut b v x us (cut_texts (b n)) (all_cut_texts (all_filled b fs)) (spot n) (cut_nodes false x none fs) h.0 refl (cuts_are b false x none fs h.1)
cuts_are b v x us (more_nodes (holder l gs) fs) h =
    let inside : Trees = cut_as (texts_of_kind l.kind) (all_cut_texts (all_filled b gs)) in
    ap (λ (p : Tree). cut_at v x (beside us (more p (all_cut_texts (all_filled b fs))))) (inside_cut l (all_filled b gs) h.0)
    ∙ one_cut b v x us (tree l inside) (all_cut_texts (all_filled b fs)) (holder l (cut_nodes true (texts_of_kind l.kind) none gs)) (cut_nodes false x none fs)
    (h.1 inside) (ap (tree l) (cuts_are b true (texts_of_kind l.kind) none gs h.2)) (cuts_are b false x none fs h.3)

cut_spots_before : (ts : Trees) (fs : TreeFrames) → spots (kept_before ts fs) ≡ spots fs
cut_spots_before none fs = refl
cut_spots_before (more t ts) fs = cut_spots_before ts fs

cut_spots : (v : Bool) (x : Texts) (us : Trees) (fs : TreeFrames) → spots (cut_nodes v x us fs) ≡ spots fs
cut_spots v x us no_nodes = cut_spots_before (cut_at v x us) no_nodes
cut_spots v x us (more_nodes (kept t) fs) = cut_spots v x (beside us (more (cut_texts t) none)) fs
cut_spots v x us (more_nodes (spot n) fs) =
    cut_spots_before (fore_at v x us) (more_nodes (spot n) (cut_nodes false x none fs)) ∙ ap (λ (ns : List ℕ). n ∷ ns) (cut_spots false x none fs)
cut_spots v x us (more_nodes (holder l gs) fs) =
    cut_spots_before (fore_at v x us) (more_nodes (holder l (cut_nodes true (texts_of_kind l.kind) none gs)) (cut_nodes false x none fs))
    ∙ ap₂ (λ (ms ns : List ℕ). ms ++ ns) (cut_spots true (texts_of_kind l.kind) none gs) (cut_spots false x none fs)

-- ---- which nodes are blocks

abbrev IsBlockKind : Kind → Type 0
IsBlockKind k = (is_as_text (writing k) ≡ false) × (is_group k ≡ false) × (is_block k ≡ true)

as_block : (k j : Kind) → k ≡ j → IsBlockKind j → IsBlockKind k
as_block k j e h = subst IsBlockKind (sym e) h

shows_by : (g b any : Bool) → g ≡ false → b ≡ true → cond g any b ≡ true
shows_by true b any e f = let no : true ≡ false = e in absurd (cc)
shows_by false b any e f = f

block_border : (x : Texts) (l : Label) (ts : Trees) → IsBlockKind l.kind → AtBorder x (tree l ts)
block_border Separators l ts h = tt
block_border Page l ts h = tt
block_border Bordered l ts h = (h.0, shows_by (is_group l.kind) (is_block l.kind) (any_shows_block ts) h.1 h.2)
block_border OwnCharacter l ts h = tt

block_kind : (k : Kind) → ((k ≡ kind.Para) ⊎ ((n : ℕ) × (k ≡ kind.Heading n))) → IsBlockKind k
block_kind k (inl e) = as_block k kind.Para e (refl, refl, refl)
block_kind k (inr (n, e)) = as_block k (kind.Heading n) e (refl, refl, refl)

spot_border : (x : Texts) (t : ItemTree) → IsBlock t → AtBorder x (cut_texts (placeless (placed [] t)))
unfolding label_at
spot_border x (inner h q ts c) is = block_border x _ _ (block_kind h.kind is)

-- what may be in a node of these texts without being a block
abbrev Fits : Part → Texts → Type 0
Fits content x = Unit {0}
Fits in_table x = (p : Tree) → AtBorder x p
Fits in_body x = (p : Tree) → AtBorder x p
Fits in_row x = (p : Tree) → AtBorder x p

by_kind : (q : Part) (k j : Kind) → k ≡ j → Fits q (texts_of_kind j) → Fits q (texts_of_kind k)
by_kind q k j e h = subst (λ (i : Kind). Fits q (texts_of_kind i)) (sym e) h

fits : (p q : Part) (k : Kind) → Holds p k q → Fits q (texts_of_kind k)
fits content in_table k h = by_kind in_table k kind.Table h (λ p. tt {0})
fits content content k h = tt
fits content in_body k h = absurd h
fits content in_row k h = absurd h
fits in_table in_body k h = by_kind in_body k kind.Tbody h (λ p. tt {0})
fits in_table content k h = tt
fits in_table in_table k h = absurd h
fits in_table in_row k h = absurd h
fits in_body in_row k h = by_kind in_row k kind.Tr h (λ p. tt {0})
fits in_body content k h = tt
fits in_body in_table k h = absurd h
fits in_body in_body k h = absurd h
fits in_row content k h = tt
fits in_row in_table k h = absurd h
fits in_row in_body k h = absurd h
fits in_row in_row k h = absurd h

group_as : (k j : Kind) → k ≡ j → is_group j ≡ false → is_group k ≡ false
group_as k j e h = ap is_group e ∙ h

cell_group : (k : Kind) → IsCellKind k → is_group k ≡ false
cell_group k (inl e) = group_as k kind.Td e refl
cell_group k (inr e) = group_as k kind.Th e refl

-- what is round places is no group, and is a block where it has to be
abbrev IsRound : Texts → Kind → Type 0
IsRound x k = (is_group k ≡ false) × ((l : Label) (ts : Trees) → l.kind ≡ k → AtBorder x (tree l ts))

table_round : (x : Texts) (k : Kind) → k ≡ kind.Table → IsRound x k
table_round x k e = (group_as k kind.Table e refl, λ l ts f. block_border x l ts (as_block l.kind kind.Table (f ∙ e) (refl, refl, refl)))

is_round : (p q : Part) (x : Texts) (k : Kind) → Fits p x → Holds p k q → IsRound x k
is_round content in_table x k g h = table_round x k h
is_round content content x k g h = absurd h
is_round content in_body x k g h = absurd h
is_round content in_row x k g h = absurd h
is_round in_table in_body x k g h = (group_as k kind.Tbody h refl, λ l ts f. g (tree l ts))
is_round in_table content x k g h = (group_as k kind.Caption h refl, λ l ts f. g (tree l ts))
is_round in_table in_table x k g h = absurd h
is_round in_table in_row x k g h = absurd h
is_round in_body in_row x k g h = (group_as k kind.Tr h refl, λ l ts f. g (tree l ts))
is_round in_body content x k g h = absurd h
is_round in_body in_table x k g h = absurd h
is_round in_body in_body x k g h = absurd h
is_round in_row content x k g h = (cell_group k h, λ l ts f. g (tree l ts))
is_round in_row in_table x k g h = absurd h
is_round in_row in_body x k g h = absurd h
is_round in_row in_row x k g h = absurd h

-- ---- the nodes of a page

cuts_before : (b : ℕ → Tree) (x : Texts) (ts : Trees) (fs : TreeFrames) → AtCuts b x fs → AtCuts b x (kept_before ts fs)
cuts_before b x none fs h = h
cuts_before b x (more t ts) fs h = cuts_before b x ts fs h

-- each of these blocks is one where texts are cut
abbrev AllBorder : (ℕ → Tree) → List ℕ → Type 0
AllBorder b [] = Unit {0}
AllBorder b (n ∷ ns) = ((x : Texts) → AtBorder x (cut_texts (b n))) × AllBorder b ns

border_split : (b : ℕ → Tree) (ms ns : List ℕ) → AllBorder b (ms ++ ns) → AllBorder b ms × AllBorder b ns
border_split b [] ns h = (tt, h)
border_split b (m ∷ ms) ns h = let r = border_split b ms ns h.1 in ((h.0, r.0), r.1)

own_border : (t : ℕ → ItemTree) (ns : List ℕ) → AreBlocks t ns → AllBorder (block_alone t) ns
own_border t [] h = tt
own_border t (n ∷ ns) h = ((λ x. spot_border x (t n) h.0), own_border t ns h.1)

held_border : (calls : List OuterCall) (x : Texts) (t : ItemTree) → IsBlock t → AtBorder x (cut_texts (block_in calls t))
held_border calls x (inner h q ts c) is = block_border x _ _ (block_kind h.kind is)

all_border : (calls : List OuterCall) (t : ℕ → ItemTree) (ns : List ℕ) → AreBlocks t ns → AllBorder (blocks_in calls t) ns
all_border calls t [] h = tt
all_border calls t (n ∷ ns) h = ((λ x. held_border calls x (t n) h.0), all_border calls t ns h.1)

at_cuts : (calls : List OuterCall) (b : ℕ → Tree) (us : List ItemTree) (fs : Frames) (part : Part) (x : Texts)
    → AreFrames fs part → Fits part x → AllBorder b (all_places fs) → AtCuts b x (nodes_of calls us fs)
at_cuts calls b us no_frames part x h g k = cuts_before b x (stretch calls us) no_nodes tt
at_cuts calls b us (more_frames (whole u) fs) part x h g k = at_cuts calls b (us ++ u ∷ []) fs part x h.1 g k
at_cuts calls b us (more_frames (place n) fs) part x h g k =
    cuts_before b x (stretch calls us) (more_nodes (spot n) (nodes_of calls [] fs)) (k.0 x, at_cuts calls b [] fs part x h.1 g k.1)
at_cuts calls b us (more_frames (around j q gs c) fs) part x h g k =
    let r = border_split b (all_places gs) (all_places fs) k in
    let s = is_round part h.0.0 x j.kind g h.0.1 in
    cuts_before b x (stretch calls us) (more_nodes (holder (holder_label j q c) (nodes_of calls [] gs)) (nodes_of calls [] fs)) (
      s.0,
      (λ ts. s.1 (holder_label j q c) ts refl),
      at_cuts calls b [] gs h.0.0 (texts_of_kind j.kind) h.0.2 (fits part h.0.0 j.kind h.0.1) r.0,
      at_cuts calls b [] fs part x h.1 g r.1,
    )

-- ---- none round places is a leaf

leaves_before : (ts : Trees) (fs : TreeFrames) → NoneLeaves fs → NoneLeaves (kept_before ts fs)
leaves_before none fs h = h
leaves_before (more t ts) fs h = (tt, leaves_before ts fs h)

none_leaves : (calls : List OuterCall) (us : List ItemTree) (fs : Frames) (part : Part) → AreFrames fs part → NoneLeaves (nodes_of calls us fs)
none_leaves calls us no_frames part h = leaves_before (stretch calls us) no_nodes tt
none_leaves calls us (more_frames (whole u) fs) part h = none_leaves calls (us ++ u ∷ []) fs part h.1
none_leaves calls us (more_frames (place n) fs) part h =
    leaves_before (stretch calls us) (more_nodes (spot n) (nodes_of calls [] fs)) (tt, none_leaves calls [] fs part h.1)
none_leaves calls us (more_frames (around j q gs c) fs) part h =
    leaves_before (stretch calls us) (more_nodes (holder (holder_label j q c) (nodes_of calls [] gs)) (nodes_of calls [] fs))
    ((no_leaf part h.0.0 j.kind h.0.1, none_leaves calls [] gs h.0.0 h.0.2), none_leaves calls [] fs part h.1)

cut_leaves : (v : Bool) (x : Texts) (us : Trees) (fs : TreeFrames) → NoneLeaves fs → NoneLeaves (cut_nodes v x us fs)
cut_leaves v x us no_nodes h = leaves_before (cut_at v x us) no_nodes tt
cut_leaves v x us (more_nodes (kept t) fs) h = cut_leaves v x (beside us (more (cut_texts t) none)) fs h.1
cut_leaves v x us (more_nodes (spot n) fs) h =
    leaves_before (fore_at v x us) (more_nodes (spot n) (cut_nodes false x none fs)) (tt, cut_leaves false x none fs h.1)
cut_leaves v x us (more_nodes (holder l gs) fs) h =
    leaves_before (fore_at v x us) (more_nodes (holder l (cut_nodes true (texts_of_kind l.kind) none gs)) (cut_nodes false x none fs))
    ((h.0.0, cut_leaves true (texts_of_kind l.kind) none gs h.0.1), cut_leaves false x none fs h.1)

-- ---- what holds places is a table's part

holders_before : (ts : Trees) (fs : TreeFrames) (p : Part) → AreHolders fs p → AreHolders (kept_before ts fs) p
holders_before none fs p h = h
holders_before (more t ts) fs p h = (tt, holders_before ts fs p h)

are_holders : (calls : List OuterCall) (us : List ItemTree) (fs : Frames) (part : Part) → AreFrames fs part → AreHolders (nodes_of calls us fs) part
are_holders calls us no_frames part h = holders_before (stretch calls us) no_nodes part tt
are_holders calls us (more_frames (whole u) fs) part h = are_holders calls (us ++ u ∷ []) fs part h.1
are_holders calls us (more_frames (place n) fs) part h =
    holders_before (stretch calls us) (more_nodes (spot n) (nodes_of calls [] fs)) part (tt, are_holders calls [] fs part h.1)
are_holders calls us (more_frames (around j q gs c) fs) part h =
    holders_before (stretch calls us) (more_nodes (holder (holder_label j q c) (nodes_of calls [] gs)) (nodes_of calls [] fs)) part
    ((h.0.0, h.0.1, are_holders calls [] gs h.0.0 h.0.2), are_holders calls [] fs part h.1)

cut_holders : (v : Bool) (x : Texts) (us : Trees) (fs : TreeFrames) (p : Part) → AreHolders fs p → AreHolders (cut_nodes v x us fs) p
cut_holders v x us no_nodes p h = holders_before (cut_at v x us) no_nodes p tt
cut_holders v x us (more_nodes (kept t) fs) p h = cut_holders v x (beside us (more (cut_texts t) none)) fs p h.1
cut_holders v x us (more_nodes (spot n) fs) p h =
    holders_before (fore_at v x us) (more_nodes (spot n) (cut_nodes false x none fs)) p (tt, cut_holders false x none fs p h.1)
cut_holders v x us (more_nodes (holder l gs) fs) p h =
    holders_before (fore_at v x us) (more_nodes (holder l (cut_nodes true (texts_of_kind l.kind) none gs)) (cut_nodes false x none fs)) p
    ((h.0.0, h.0.1, cut_holders true (texts_of_kind l.kind) none gs h.0.0 h.0.2), cut_holders false x none fs p h.1)

fits_separators : (p : Part) → Fits p Separators
fits_separators content = tt
fits_separators in_table = λ p. tt {0}
fits_separators in_body = λ p. tt {0}
fits_separators in_row = λ p. tt {0}

-- so it is no group
pub no_group_round : (p q : Part) (k : Kind) → Holds p k q → is_group k ≡ false
no_group_round p q k h = (is_round p q Separators k (fits_separators p) h).0

-- ---- the page

mutual
  filled_same : (b c : ℕ → Tree) → ((n : ℕ) → b n ≡ c n) → (f : TreeFrame) → filled b f ≡ filled c f
  filled_same b c e (spot n) = e n
  filled_same b c e (kept t) = refl
  filled_same b c e (holder l fs) = ap (tree l) (all_filled_same b c e fs)

  all_filled_same : (b c : ℕ → Tree) → ((n : ℕ) → b n ≡ c n) → (fs : TreeFrames) → all_filled b fs ≡ all_filled c fs
  all_filled_same b c e no_nodes = refl
  all_filled_same b c e (more_nodes f fs) = ap₂ more (filled_same b c e f) (all_filled_same b c e fs)

pub block_is : (t : ℕ → ItemTree) (n : ℕ) → cut_texts (block_alone t n) ≡ block_at t n
block_is t n =
    sym (texts_same (with_numbers 0 (placed [] (t n))) ∙ ap cut_texts (numbers_gone 0 (placed [] (t n))))

placeless_children : (t : Tree) → all_placeless (children t) ≡ children (placeless t)
placeless_children (tree l ts) = refl

body_cut : (ts : Trees) → children (cut_texts (tree body_label ts)) ≡ cut_at true Page (all_cut_texts ts)
body_cut ts = refl

pub nodes_stay : (calls : List OuterCall) (fs : Frames) (t : ℕ → ItemTree) → AreFrames fs content → AreOwn t (all_places fs) → AreClean t None fs None
    → NodesStay calls fs
nodes_stay calls fs t h g clean =
    let nodes : TreeFrames = nodes_of calls [] fs in
    record {
      nodes = cut_nodes true Page none nodes;
      in_order = cut_spots true Page none nodes ∙ spots_are calls [] fs;
      inner_nodes = cut_leaves true Page none nodes (none_leaves calls [] fs content h);
      holders = cut_holders true Page none nodes content (are_holders calls [] fs content h);
      stay = λ others w same own blocks.
          placeless_children (annotated others (group_data others) (body_of (trees_at w fs)))
          ∙ ap children (stays calls others fs t w same h g own clean)
          ∙ body_cut (all_filled (block_alone w) nodes)
          ∙ cuts_are (block_alone w) true Page none nodes (at_cuts calls (block_alone w) [] fs content Page h tt (own_border w (all_places fs) blocks))
          ∙ all_filled_same (cut_block (block_alone w)) (block_at w) (block_is w) (cut_nodes true Page none nodes);
    }

-- so it is round blocks that hold calls
pub nodes_stay_round : (calls : List OuterCall) (fs : Frames) → AreFrames fs content → NodesStayRound calls fs
nodes_stay_round calls fs h =
    let nodes : TreeFrames = nodes_of calls [] fs in
    record {
      nodes = cut_nodes true Page none nodes;
      in_order = cut_spots true Page none nodes ∙ spots_are calls [] fs;
      inner_nodes = cut_leaves true Page none nodes (none_leaves calls [] fs content h);
      holders = cut_holders true Page none nodes content (are_holders calls [] fs content h);
      stay = λ others w same clean there blocks.
          placeless_children (annotated others (group_data others) (body_of (trees_at w fs)))
          ∙ ap children (held_stay calls others fs w same h clean there)
          ∙ body_cut (all_filled (blocks_in others w) nodes)
          ∙ cuts_are (blocks_in others w) true Page none nodes (at_cuts calls (blocks_in others w) [] fs content Page h tt (all_border others w (all_places fs) blocks));
    }
