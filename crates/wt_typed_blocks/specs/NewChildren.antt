-- What may be among the children of a node that is marked `children`, by what each child is.
use Rattle.std.specs.Prelude.{◌≡◌, ◌≢◌, ◌⊎◌, ℕ, Bool}
use Rattle.wt_tree.specs.declared.kind.Kind.{Kind}
use Rattle.wt_tree.specs.declared.kind.Kind.TheVariants as kind
use Rattle.wt_tree.specs.Tree.{Tree, Trees, none, more, label}
use Rattle.wt_original.specs.Page.{no_page}
use Rattle.wt_content.specs.declared.children.Holder.{Holder}
use Rattle.wt_content.specs.declared.children.Holder.TheVariants as holder
use Rattle.wt_content.specs.Content.{held, outermost}
use Rattle.wt_content.specs.Grammar.{AreContent}

-- in a body a new paragraph, heading or rule, in a list a new item
abbrev pub IsNewBlock : Holder → Kind → Type 0
IsNewBlock holder.Body k = (k ≡ kind.Para) ⊎ ((level : ℕ) × (k ≡ kind.Heading level)) ⊎ (k ≡ kind.Rule)
IsNewBlock holder.List k = k ≡ kind.Li

-- a rule holds nothing, any other new block what may be in a content of which the page has no node
abbrev pub HoldsWell : (Tree → Tree → Bool) → Tree → Type 0
HoldsWell same u =
    (((label u).kind ≡ kind.Rule) × (held u ≡ none))
    ⊎ (((label u).kind ≢ kind.Rule) × AreContent (no_page same) (outermost u) (held u))

-- white space; a child with a number, which is the page's; or a new block
abbrev pub IsChild : (Tree → Tree → Bool) → Holder → Tree → Type 0
IsChild same h u = ((label u).kind ≡ kind.Sep) ⊎ ((label u).id ≢ 0) ⊎ (IsNewBlock h (label u).kind × HoldsWell same u)

-- an item of the page, which is neither white space nor a comment nor an include tag
abbrev pub IsOldItem : Tree → Type 0
IsOldItem u = ((label u).id ≢ 0) × ((label u).kind ≢ kind.Sep) × ((label u).kind ≢ kind.Comment) × ((label u).kind ≢ kind.Include)

abbrev pub HasOldItem : Trees → Type 0
HasOldItem none = ⊥
HasOldItem (more u us) = IsOldItem u ⊎ HasOldItem us

-- a list keeps an item, a body may lose all its blocks
abbrev pub KeepsItem : Holder → Trees → Type 0
KeepsItem holder.Body us = Unit {0}
KeepsItem holder.List us = HasOldItem us

abbrev pub AreEachChildren : (Tree → Tree → Bool) → Holder → Trees → Type 0
AreEachChildren same h none = Unit {0}
AreEachChildren same h (more u us) = IsChild same h u × AreEachChildren same h us

abbrev pub AreChildren : (Tree → Tree → Bool) → Holder → Trees → Type 0
AreChildren same h us = AreEachChildren same h us × KeepsItem h us
