-- What an editor makes of a page's HTML: which tree its own HTML is written for, and what it sends.
use Rattle.std.specs.Prelude.{◌≡◌, ℕ, ◌==◌, ◌&&◌, ◌||◌, Bool, false, Option, Some, None, List, [], ◌∷◌, ◌++◌}
use Rattle.std.specs.List.{AllByRecursion}
use Rattle.std.specs.Str.{IsUtf8}
use Rattle.wt_tree.specs.declared.kind.Kind.TheVariants as kind
use Rattle.wt_tree.specs.Leaves.{leaf_label, text_leaf}
use Rattle.wt_tree.specs.Tiling.{is_group}
use Rattle.wt_tree.specs.Tree.{Tree, tree, Trees, none, more, label}
use Rattle.wt_recut.specs.Cutting.{begins_with_text}
use Rattle.wt_recut.specs.Recut.{is_text}
use Rattle.wt_schema.specs.Html.{html_text}
use Rattle.wt_schema.specs.Written.{label_read, unranged}
use Rattle.wt_sections.specs.Sections.{with_sections}
use Rattle.wt_typed_blocks.specs.Sent.{kind_of}
use Rattle.wt_typed_blocks.specs.Edited.{Pieces, no_pieces, gone, written, kept, around, new_style, as_new, Edited, stays, edited, round, Edits, no_edits, more_edits}
use Rattle.wt_called_edit_laws.specs.ChosenContents.{Choice}

-- ---- the page's tree with the edited contents in it

-- a text before other nodes; where nothing was typed there is none
abbrev pub typed_text : List ℕ → Trees → Trees
typed_text [] us = us
typed_text (b ∷ bs) us = more (text_leaf None (b ∷ bs)) us

abbrev pub own_pieces : Pieces → Trees
own_pieces no_pieces = none
own_pieces (gone t ps) = own_pieces ps
own_pieces (written x text ps) = typed_text text (own_pieces ps)
own_pieces (kept t u ps) = more t (own_pieces ps)
own_pieces (around l m is ps) = more (tree l (own_pieces is)) (own_pieces ps)
own_pieces (new_style m is ps) = more (tree (as_new m) (own_pieces is)) (own_pieces ps)

abbrev mutual
  pub own_node : Edited → Tree
  own_node (stays t u) = t
  own_node (edited k l m ps) = tree (record l { kind = kind_of k }) (own_pieces ps)
  own_node (round l m es) = tree l (own_nodes es)

  pub own_nodes : Edits → Trees
  own_nodes no_edits = none
  own_nodes (more_edits e es) = more (own_node e) (own_nodes es)

abbrev pub own_tree : Tree → Edits → Tree
own_tree t es = tree (label t) (own_nodes es)

-- The page's HTML with these contents in its blocks: what the editor sends where it puts no marks.
abbrev pub edited_html : Tree → Edits → List ℕ
edited_html t es = html_text (with_sections (own_tree t es))

-- ---- which edits can be sent as HTML

-- no two texts are side by side: in HTML they are one
abbrev pub AreApart : Trees → Type 0
AreApart none = Unit {0}
AreApart (more t ts) = ((is_text t && begins_with_text ts) ≡ false) × AreApart ts

-- What stays is sent as it is read of the page's HTML; a text is UTF-8; nothing else is new.
abbrev pub ArePiecesRead : Pieces → Type 0
ArePiecesRead no_pieces = Unit {0}
ArePiecesRead (gone t ps) = ArePiecesRead ps
ArePiecesRead (written x text ps) = (x ≡ leaf_label kind.Text None text text) × IsUtf8 text × ArePiecesRead ps
ArePiecesRead (kept t u ps) = (u ≡ unranged t) × ArePiecesRead ps
ArePiecesRead (around l m is ps) = (m ≡ label_read l) × AreApart (own_pieces is) × ArePiecesRead is × ArePiecesRead ps
ArePiecesRead (new_style m is ps) = ⊥

-- What holds blocks whose contents were edited is no group.
abbrev mutual
  pub IsRead : Edited → Type 0
  IsRead (stays t u) = u ≡ unranged t
  IsRead (edited k l m ps) = (m ≡ label_read (record l { kind = kind_of k })) × AreApart (own_pieces ps) × ArePiecesRead ps
  IsRead (round l m es) = (m ≡ label_read l) × (is_group l.kind ≡ false) × AreRead es

  pub AreRead : Edits → Type 0
  AreRead no_edits = Unit {0}
  AreRead (more_edits e es) = IsRead e × AreRead es

-- ---- which blocks are marked

abbrev pub is_in : ℕ → List ℕ → Bool
is_in n [] = false
is_in n (m ∷ ms) = n == m || is_in n ms

-- the numbers of the blocks whose contents were edited
abbrev mutual
  pub edited_numbers : Edited → List ℕ
  edited_numbers (stays t u) = []
  edited_numbers (edited k l m ps) = l.id ∷ []
  edited_numbers (round l m es) = numbers_edited es

  pub numbers_edited : Edits → List ℕ
  numbers_edited no_edits = []
  numbers_edited (more_edits e es) = edited_numbers e ++ numbers_edited es

-- ---- contents that are chosen

-- such a content, where one is chosen
abbrev pub IfRead : Option Pieces → Type 0
IfRead None = Unit {0}
IfRead (Some ps) = AreApart (own_pieces ps) × ArePiecesRead ps

abbrev pub AreChosenRead : Choice → List (List ℕ) → Type 0
AreChosenRead at paths = AllByRecursion (λ p. IfRead (at p)) paths
