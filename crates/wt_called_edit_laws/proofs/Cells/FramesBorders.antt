-- The nodes round places are no leaves and no groups, and where texts are cut anew in them, at their places are blocks.
use Rattle.std.proofs.Common.{◌≡◌, ℕ, List, [], ◌∷◌, ◌++◌, refl, sym, subst, inl, inr}
use Rattle.wt_tree.specs.declared.kind.Kind.{Kind}
use Rattle.wt_tree.specs.declared.kind.Kind.TheVariants as kind
use Rattle.wt_tree.specs.declared.row.Texts.{Texts}
use Rattle.wt_tree.specs.declared.row.Texts.TheVariants.{Page, Bordered}
use Rattle.wt_tree.specs.Kinds.{texts_of_kind}
use Rattle.wt_tree.specs.Tree.{Tree}
use Rattle.wt_span.specs.Items.{Item}
use Rattle.wt_inline.specs.ItemTree.{Head, ItemTree, inner, forest}
use Rattle.wt_part_laws.specs.Rounds.{IsCellKind}
use Rattle.wt_part_laws.specs.Frames.{place, whole, around, Frames, no_frames, more_frames, trees_at, all_places, Part, content, in_table, in_body, in_row, Holds, AreFrames}
use Rattle.wt_part_laws.specs.Standing.{standing}
use Rattle.wt_called_edit_laws.proofs.Cells.Nodes.{AtBorder, IsHolder}
use Rattle.wt_called_edit_laws.proofs.Cells.HolderKinds.{table_holder, rows_holder, row_holder, cell_holder, as_holder, block_at, table_block}
use Rattle.wt_called_edit_laws.proofs.Cells.ManyNodes.{AtBorders, AllBorders}

-- ---- what is asked of the trees

-- a block where texts are cut anew round it
abbrev pub IsBordered : ItemTree → Type 0
IsBordered u = (m : ℕ) (a : List Item) → AtBorder Bordered (standing m a u)

-- so at each of these places
abbrev pub AreBordered : (ℕ → ItemTree) → List ℕ → Type 0
AreBordered t [] = Unit {0}
AreBordered t (n ∷ ns) = IsBordered (t n) × AreBordered t ns

bordered_split : (t : ℕ → ItemTree) (ms ns : List ℕ) → AreBordered t (ms ++ ns) → AreBordered t ms × AreBordered t ns
bordered_split t [] ns h = (tt, h)
bordered_split t (m ∷ ms) ns h = let r = bordered_split t ms ns h.1 in ((h.0, r.0), r.1)

-- ---- the kinds of nodes round places

caption_holder : IsHolder kind.Caption
caption_holder = record { leaf = refl; group = refl }

holds : (p q : Part) (k : Kind) → Holds p k q → IsHolder k
holds content in_table k h = as_holder k kind.Table h table_holder
holds content content k h = absurd h
holds content in_body k h = absurd h
holds content in_row k h = absurd h
holds in_table in_body k h = as_holder k kind.Tbody h rows_holder
holds in_table content k h = as_holder k kind.Caption h caption_holder
holds in_table in_table k h = absurd h
holds in_table in_row k h = absurd h
holds in_body in_row k h = as_holder k kind.Tr h row_holder
holds in_body content k h = absurd h
holds in_body in_table k h = absurd h
holds in_body in_body k h = absurd h
holds in_row content k h = cell_holder k h
holds in_row in_table k h = absurd h
holds in_row in_body k h = absurd h
holds in_row in_row k h = absurd h

-- ---- at the border

any_borders : (x : Texts) (t : ℕ → ItemTree) (fs : Frames) → ((p : Tree) → AtBorder x p) → AtBorders x t fs
any_borders x t no_frames f = tt
any_borders x t (more_frames (whole u) fs) f = any_borders x t fs f
any_borders x t (more_frames (place i) fs) f = (λ m a. f _, any_borders x t fs f)
any_borders x t (more_frames (around h o gs c) fs) f = (λ m a. f _, any_borders x t fs f)

table_at : (t : ℕ → ItemTree) (q : Part) (h : Head) (o : List Item) (gs : Frames) (c : List Item) → Holds content h.kind q
    → IsBordered (inner h o (forest (trees_at t gs)) c)
table_at t in_table h o gs c k m a = block_at m a h o (forest (trees_at t gs)) c (table_block h.kind k)
table_at t content h o gs c k m a = absurd k
table_at t in_body h o gs c k m a = absurd k
table_at t in_row h o gs c k m a = absurd k

content_borders : (t : ℕ → ItemTree) (fs : Frames) → AreBordered t (all_places fs) → AreFrames fs content → AtBorders Bordered t fs
content_borders t no_frames b h = tt
content_borders t (more_frames (whole u) fs) b h = content_borders t fs b h.1
content_borders t (more_frames (place i) fs) b h = (b.0, content_borders t fs b.1 h.1)
content_borders t (more_frames (around k o gs c) fs) b h =
    (table_at t h.0.0 k o gs c h.0.1, content_borders t fs (bordered_split t (all_places gs) (all_places fs) b).1 h.1)

by_kind : (k j : Kind) (t : ℕ → ItemTree) (gs : Frames) → k ≡ j → AtBorders (texts_of_kind j) t gs → AtBorders (texts_of_kind k) t gs
by_kind k j t gs e h = subst (λ (i : Kind). AtBorders (texts_of_kind i) t gs) (sym e) h

cell_borders : (k : Kind) (t : ℕ → ItemTree) (gs : Frames) → IsCellKind k → AtBorders Bordered t gs → AtBorders (texts_of_kind k) t gs
cell_borders k t gs (inl e) h = by_kind k kind.Td t gs e h
cell_borders k t gs (inr e) h = by_kind k kind.Th t gs e h

inside_borders : (p q : Part) (k : Kind) (t : ℕ → ItemTree) (gs : Frames) → AreBordered t (all_places gs) → Holds p k q → AreFrames gs q → AtBorders (texts_of_kind k) t gs
inside_borders content in_table k t gs b h r = by_kind k kind.Table t gs h (any_borders (texts_of_kind kind.Table) t gs (λ p. tt {0}))
inside_borders content content k t gs b h r = absurd h
inside_borders content in_body k t gs b h r = absurd h
inside_borders content in_row k t gs b h r = absurd h
inside_borders in_table in_body k t gs b h r = by_kind k kind.Tbody t gs h (any_borders (texts_of_kind kind.Tbody) t gs (λ p. tt {0}))
inside_borders in_table content k t gs b h r = by_kind k kind.Caption t gs h (content_borders t gs b r)
inside_borders in_table in_table k t gs b h r = absurd h
inside_borders in_table in_row k t gs b h r = absurd h
inside_borders in_body in_row k t gs b h r = by_kind k kind.Tr t gs h (any_borders (texts_of_kind kind.Tr) t gs (λ p. tt {0}))
inside_borders in_body content k t gs b h r = absurd h
inside_borders in_body in_table k t gs b h r = absurd h
inside_borders in_body in_body k t gs b h r = absurd h
inside_borders in_row content k t gs b h r = cell_borders k t gs h (content_borders t gs b r)
inside_borders in_row in_table k t gs b h r = absurd h
inside_borders in_row in_body k t gs b h r = absurd h
inside_borders in_row in_row k t gs b h r = absurd h

-- ---- all of them

pub all_borders : (p : Part) (t : ℕ → ItemTree) (fs : Frames) → AreBordered t (all_places fs) → AreFrames fs p → AllBorders t fs
all_borders p t no_frames b h = tt
all_borders p t (more_frames (whole u) fs) b h = all_borders p t fs b h.1
all_borders p t (more_frames (place i) fs) b h = all_borders p t fs b.1 h.1
all_borders p t (more_frames (around k o gs c) fs) b h =
    let s = bordered_split t (all_places gs) (all_places fs) b in (
      holds p h.0.0 k.kind h.0.1,
      inside_borders p h.0.0 k.kind t gs s.0 h.0.1 h.0.2,
      all_borders h.0.0 t gs s.0 h.0.2,
      all_borders p t fs s.1 h.1,
    )

-- the page's body cuts no text anew
pub page_borders : (t : ℕ → ItemTree) (fs : Frames) → AtBorders Page t fs
page_borders t fs = any_borders Page t fs (λ p. tt {0})
