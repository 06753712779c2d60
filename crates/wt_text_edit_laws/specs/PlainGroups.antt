-- Groups of plain text: what one call gave, a line of text in which nothing begins.
use Rattle.std.specs.Prelude.{◌≡◌, ℕ, true, false, Option, Some, List, ◌∷◌, map, codes}
use Rattle.std.specs.List.{list_all}
use Rattle.wt_span.specs.Items.{char}
use Rattle.wt_span.specs.Origins.{Expanded}
use Rattle.wt_tree.specs.declared.kind.Kind.TheVariants as kind
use Rattle.wt_tree.specs.declared.kind.Ranges.{Ranges}
use Rattle.wt_tree.specs.EditShapes.{edit_shape}
use Rattle.wt_tree.specs.Tiling.{is_group}
use Rattle.wt_tree.specs.Tree.{Label, Tree, tree, Trees, none, more}
use Rattle.wt_content.specs.Content.{has_break}
use Rattle.wt_isolation.specs.GroupItems.{empty_nowiki, items_alone}
use Rattle.wt_isolation.specs.OpenTexts.{in_style}
use Rattle.wt_typed_blocks.specs.Reading.{stands}
use Rattle.wt_text_edit_laws.specs.PlainTexts.{is_plain}

-- None of `<` `&` `{` `}` `[` `]` `|` `=` is in it, no two apostrophes and no two `_` are side by side, and there is no `://` and no line break.
pub record IsPlainLine (text : List ℕ) : Type 0 where
  pub plain : list_all is_plain text ≡ true
  pub quotes : stands (codes "''") text ≡ false
  pub switches : stands (codes "__") text ≡ false
  pub addresses : stands (codes "://") text ≡ false
  pub one_line : has_break text ≡ false

-- these nodes are one text, and it is this
abbrev pub AreOneText : Trees → List ℕ → Type 0
AreOneText none text = ⊥
AreOneText (more (tree m us) none) text = (m.kind ≡ kind.Text) × (m.shown ≡ text)
AreOneText (more t (more u us)) text = ⊥

-- A group with this label and these nodes: its slice, read by itself, is a line of such text, all from one call, and so are its nodes.
pub record IsPlainGroup (page : Expanded) (l : Label) (ts : Trees) : Type 0 where
  pub range : Ranges
  pub ranged : l.ranges ≡ Some range
  pub call : Option ℕ
  pub text : List ℕ
  pub line : IsPlainLine text
  pub items : items_alone page.outer page.items range ≡ empty_nowiki ∷ map (char call) text
  pub nodes : AreOneText ts text

-- So are all groups among these nodes, and in their bold and italic nodes. What is in links and tags may be anything.
abbrev mutual
  pub HasPlainGroups : Expanded → Tree → Type 0
  HasPlainGroups page (tree l ts) =
      (is_group l.kind ≡ true → IsPlainGroup page l ts) × (in_style (edit_shape l.kind).inline true ≡ true → HavePlainGroups page ts)

  pub HavePlainGroups : Expanded → Trees → Type 0
  HavePlainGroups page none = Unit {0}
  HavePlainGroups page (more t ts) = HasPlainGroups page t × HavePlainGroups page ts
