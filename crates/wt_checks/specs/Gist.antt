-- What the checks of an edit compare of a tree.
use Rattle.std.specs.Prelude.{ℕ, List, if◌then◌else◌, Option}
use Rattle.wt_tree.specs.declared.kind.AttrName.{AttrName}
use Rattle.wt_tree.specs.declared.kind.Kind.{Kind}
use Rattle.wt_tree.specs.declared.node.DataMw.{DataMw}
use Rattle.wt_tree.specs.declared.row.Writing.{Writing}
use Rattle.wt_tree.specs.declared.row.Writing.TheVariants.{AsText, AsVoid, RoundCharacter, RoundChildren, AsSection, Unwritten}
use Rattle.wt_tree.specs.Kinds.{showing, writing}
use Rattle.wt_tree.specs.Tree.{Label, Tree, tree, Trees, none, more, label}
use Rattle.wt_checks.specs.Unmarked.{is_compared, own_character}

-- a node's number, kind, attributes and data, and the character of an entity
pub record Features : Type 0 where
  pub number : ℕ
  pub kind : Kind
  pub attrs : List (AttrName × List ℕ)
  pub mw : Option DataMw
  pub character : List ℕ

abbrev pub features : Label → Features
features l = record { number = l.id; kind = l.kind; attrs = l.attrs; mw = l.mw; character = own_character (writing l.kind) l.shown }

mutual
  pub data Gist : Type 0 where
    text : List ℕ → Gist
    node : Features → Gists → Gist

  pub data Gists : Type 0 where
    ended : Gists
    along : Gist → Gists → Gists

-- a text by its characters, any other node by its features and what is compared of its children
abbrev pub gist_by : Writing → Label → Gists → Gist
gist_by AsText l held = text l.shown
gist_by AsVoid l held = node (features l) held
gist_by RoundCharacter l held = node (features l) held
gist_by RoundChildren l held = node (features l) held
gist_by (AsSection n) l held = node (features l) held
gist_by Unwritten l held = node (features l) held

-- Separators, marks and skips are left out, at every level. Neighbouring texts aren't joined.
abbrev mutual
  pub gist : Tree → Gist
  gist (tree l ts) = gist_by (writing l.kind) l (gists ts)

  pub gists : Trees → Gists
  gists none = ended
  gists (more t ts) = if is_compared (showing (label t).kind) then along (gist t) (gists ts) else gists ts
