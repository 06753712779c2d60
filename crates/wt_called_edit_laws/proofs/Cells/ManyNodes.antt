-- The nodes of a tree with several places: texts of a cell are cut anew before the first block, between two, and behind the last.
use Rattle.std.proofs.Common.{◌≡◌, ℕ, Bool, true, false, List, [], ◌∷◌, ◌++◌, refl, sym, ap, ◌∙◌, append-nil, append_assoc}
use Rattle.wt_tree.specs.declared.row.Texts.{Texts}
use Rattle.wt_tree.specs.declared.row.Texts.TheVariants.{Separators, Page, Bordered, OwnCharacter}
use Rattle.wt_recut.specs.Recut.{is_text, shows_block, joined_texts, cut_from}
use Rattle.wt_tree.specs.Kinds.{texts_of_kind}
use Rattle.wt_tree.specs.Tree.{Tree, Trees, more}
use Rattle.wt_span.specs.Items.{Item}
use Rattle.wt_inline.specs.ItemTree.{ItemTree}
use Rattle.wt_annotated.specs.CutTexts.{cut_as}
use Rattle.wt_part_laws.specs.Frames.{place, whole, around, Frames, no_frames, more_frames, tree_at, trees_at}
use Rattle.wt_part_laws.specs.Standing.{standing}
use Rattle.wt_text_edit_laws.proofs.Prose.ProseTrees.{blocks_of, number_behind, items_behind}
use Rattle.wt_called_edit_laws.proofs.Cells.Cuts.{beside, front, cut_back, joined_beside, cut_beside}
use Rattle.wt_called_edit_laws.proofs.Cells.Nodes.{number_after, items_after, blocks_split, fore, aft, AtBorder, cut_round, IsHolder}

-- ---- between two blocks

abbrev pub cut_mid : Trees → Trees
cut_mid xs = front true (joined_texts xs)

pub back_round : (xs : Trees) (p : Tree) (ds : Trees) → is_text p ≡ false → shows_block p ≡ true
    → cut_back (beside xs (more p ds)) ≡ beside (cut_mid xs) (more p (cut_back ds))
back_round xs p ds e f = ap (cut_from true) (joined_beside xs p ds e) ∙ cut_beside true (joined_texts xs) p (joined_texts ds) e f

-- ---- by kinds of texts

-- before the first block, or between two
abbrev pub fore_at : Bool → Texts → Trees → Trees
fore_at true x xs = fore x xs
fore_at false Separators xs = xs
fore_at false Page xs = xs
fore_at false Bordered xs = cut_mid xs
fore_at false OwnCharacter xs = xs

-- all of them, or those behind a block
abbrev pub cut_at : Bool → Texts → Trees → Trees
cut_at true x xs = cut_as x xs
cut_at false x xs = aft x xs

pub cut_at_round : (v : Bool) (x : Texts) (xs : Trees) (p : Tree) (ds : Trees) → AtBorder x p
    → cut_at v x (beside xs (more p ds)) ≡ beside (fore_at v x xs) (more p (cut_at false x ds))
cut_at_round true x xs p ds h = cut_round x xs p ds h
cut_at_round false Separators xs p ds h = refl
cut_at_round false Page xs p ds h = refl
cut_at_round false Bordered xs p ds h = back_round xs p ds h.0 h.1
cut_at_round false OwnCharacter xs p ds h = refl

-- ---- the nodes of frames

abbrev pub nodes_from : (ℕ → ItemTree) → Bool → Texts → ℕ → List Item → List ItemTree → Frames → Trees
nodes_from t v x n b us no_frames = cut_at v x (blocks_of n b us)
nodes_from t v x n b us (more_frames (whole u) fs) = nodes_from t v x n b (us ++ u ∷ []) fs
nodes_from t v x n b us (more_frames (place i) fs) =
    beside (fore_at v x (blocks_of n b us)) (more (standing (number_after n b us) (items_after b us) (t i))
    (nodes_from t false x (number_behind (number_after n b us) (items_after b us) (t i)) (items_behind (items_after b us) (t i)) [] fs))
nodes_from t v x n b us (more_frames (around h o gs c) fs) =
    beside (fore_at v x (blocks_of n b us)) (more (standing (number_after n b us) (items_after b us) (tree_at t (around h o gs c)))
    (nodes_from t false x (number_behind (number_after n b us) (items_after b us) (tree_at t (around h o gs c)))
    (items_behind (items_after b us) (tree_at t (around h o gs c))) [] fs))

-- where texts are cut anew, each tree at a place, or round places, is a block
abbrev pub AtBorders : Texts → (ℕ → ItemTree) → Frames → Type 0
AtBorders x t no_frames = Unit {0}
AtBorders x t (more_frames (whole u) fs) = AtBorders x t fs
AtBorders x t (more_frames (place i) fs) = ((m : ℕ) (a : List Item) → AtBorder x (standing m a (t i))) × AtBorders x t fs
AtBorders x t (more_frames (around h o gs c) fs) = ((m : ℕ) (a : List Item) → AtBorder x (standing m a (tree_at t (around h o gs c)))) × AtBorders x t fs

pub one_round : (v : Bool) (x : Texts) (n : ℕ) (b : List Item) (us : List ItemTree) (u : ItemTree) (vs : List ItemTree) (rest : Trees)
    → ((m : ℕ) (a : List Item) → AtBorder x (standing m a u))
    → cut_at false x (blocks_of (number_behind (number_after n b us) (items_after b us) u) (items_behind (items_after b us) u) vs) ≡ rest
    → cut_at v x (blocks_of n b (us ++ u ∷ vs))
    ≡ beside (fore_at v x (blocks_of n b us)) (more (standing (number_after n b us) (items_after b us) u) rest)
one_round v x n b us u vs rest h e =
    let m : ℕ = number_after n b us in
    let a : List Item = items_after b us in
    ap (cut_at v x) (blocks_split n b us (u ∷ vs))
    ∙ cut_at_round v x (blocks_of n b us) (standing m a u) (blocks_of (number_behind m a u) (items_behind a u) vs) (h m a)
    ∙ ap (λ ts. beside (fore_at v x (blocks_of n b us)) (more (standing m a u) ts)) e

pub nodes_are : (t : ℕ → ItemTree) (v : Bool) (x : Texts) (n : ℕ) (b : List Item) (us : List ItemTree) (fs : Frames) → AtBorders x t fs
    → cut_at v x (blocks_of n b (us ++ trees_at t fs)) ≡ nodes_from t v x n b us fs
nodes_are t v x n b us no_frames h = ap (λ ts. cut_at v x (blocks_of n b ts)) (append-nil us)
nodes_are t v x n b us (more_frames (whole u) fs) h =
    ap (λ ts. cut_at v x (blocks_of n b ts)) (sym (append_assoc us (u ∷ []) (trees_at t fs))) ∙ nodes_are t v x n b (us ++ u ∷ []) fs h
nodes_are t v x n b us (more_frames (place i) fs) h =
    let m : ℕ = number_after n b us in
    let a : List Item = items_after b us in
    one_round v x n b us (t i) (trees_at t fs) (nodes_from t false x (number_behind m a (t i)) (items_behind a (t i)) [] fs) h.0
    (nodes_are t false x (number_behind m a (t i)) (items_behind a (t i)) [] fs h.1)
nodes_are t v x n b us (more_frames (around k o gs c) fs) h =
    let m : ℕ = number_after n b us in
    let a : List Item = items_after b us in
    let u : ItemTree = tree_at t (around k o gs c) in
    one_round v x n b us u (trees_at t fs) (nodes_from t false x (number_behind m a u) (items_behind a u) [] fs) h.0
    (nodes_are t false x (number_behind m a u) (items_behind a u) [] fs h.1)

-- ---- where a block is at a border

-- each node round places is a holder, with blocks at its borders
abbrev pub AllBorders : (ℕ → ItemTree) → Frames → Type 0
AllBorders t no_frames = Unit {0}
AllBorders t (more_frames (whole u) fs) = AllBorders t fs
AllBorders t (more_frames (place i) fs) = AllBorders t fs
AllBorders t (more_frames (around h p gs c) fs) = IsHolder h.kind × AtBorders (texts_of_kind h.kind) t gs × AllBorders t gs × AllBorders t fs
