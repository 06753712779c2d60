-- Nodes that may stand in a group, by what is written of them: their kinds, attributes and texts. Nothing is asked of numbers and
-- places, nor of neighbours: texts may follow one another, of two origins.
use Rattle.std.specs.Prelude.{◌≡◌, ℕ, suc, ◌<◌, ◌||◌, ◌&&◌, Bool, true, false, not, None}
use Rattle.wt_tree.specs.declared.kind.Kind.{Kind}
use Rattle.wt_tree.specs.declared.kind.Kind.TheVariants as kind
use Rattle.wt_tree.specs.declared.kind.Mark.TheVariants as mark
use Rattle.wt_tree.specs.declared.row.Texts.{Texts}
use Rattle.wt_tree.specs.declared.row.Texts.TheVariants.{Separators, Page, Bordered, OwnCharacter}
use Rattle.wt_tree.specs.declared.row.Writing.{Writing}
use Rattle.wt_tree.specs.declared.row.Writing.TheVariants.{AsText, AsVoid, RoundCharacter, RoundChildren, AsSection, Unwritten}
use Rattle.wt_tree.specs.Kinds.{writing, is_leaf, is_section, may_hold, texts_of_kind, is_inline}
use Rattle.wt_tree.specs.Tree.{Label, Tree, tree, Trees, none, more}
use Rattle.wt_schema.specs.Rows.{shows_text}
use Rattle.wt_schema.specs.Written.{IsTextIn, has_level, HasSource, IsShown, HasAttributes, is_extension_label, HasData, is_childless}
use Rattle.wt_recut.specs.Recut.{shows_block}

-- an element, by the tables of kinds, but for its number and its places; a section is none
pub record IsShownLabel (l : Label) : Type 0 where
  pub element : is_section l.kind ≡ false
  pub level : has_level l.kind ≡ true
  pub source : HasSource (is_leaf l.kind) l
  pub shown : IsShown (shows_text l.kind) l.shown
  pub attrs : HasAttributes l.kind l.attrs
  pub origin : l.origin ≡ None
  pub mark : l.mark ≡ mark.Nothing
  pub mw : HasData (is_extension_label l) l.mw

abbrev pub IsShownElement : ℕ → Kind → Label → Bool → Type 0 → Type 0
IsShownElement k parent l childless inside =
    (k < 200) × (may_hold parent l.kind ≡ true) × IsShownLabel l × ((not (is_leaf l.kind) || childless) ≡ true) × inside

-- by how it is written; of those that aren't only the mark of a call without output is one
abbrev pub NodeIsShown : Writing → ℕ → Kind → Label → Bool → Type 0 → Type 0
NodeIsShown AsText k parent l childless inside = IsTextIn parent l × (childless ≡ true)
NodeIsShown AsVoid k parent l childless inside = IsShownElement k parent l childless inside
NodeIsShown RoundCharacter k parent l childless inside = IsShownElement k parent l childless inside
NodeIsShown RoundChildren k parent l childless inside = IsShownElement k parent l childless inside
NodeIsShown (AsSection n) k parent l childless inside = ⊥
NodeIsShown Unwritten k parent l childless inside = (l.kind ≡ kind.Empty) × (childless ≡ true)

-- A text shows characters, which would be in a `span` in a group; so it stands behind no block, as an inline element.
abbrev pub shows_words : Kind → Bool
shows_words kind.Text = true
shows_words k = false

abbrev pub can_follow : Bool → Kind → Bool
can_follow behind k = not (behind && (is_inline k || shows_words k))

-- behind a block or not
abbrev pub are_in_line : Bool → Trees → Bool
are_in_line behind none = true
are_in_line behind (more (tree l us) ts) = can_follow behind l.kind && are_in_line (behind || shows_block (tree l us)) ts

-- the children of an item, a cell or a caption stand in their order
abbrev pub IsOrdered : Texts → Trees → Type 0
IsOrdered Separators ts = Unit {0}
IsOrdered Page ts = Unit {0}
IsOrdered Bordered ts = are_in_line false ts ≡ true
IsOrdered OwnCharacter ts = Unit {0}

abbrev mutual
  pub IsShownIn : ℕ → Kind → Tree → Type 0
  IsShownIn k q (tree l ts) = NodeIsShown (writing l.kind) k q l (is_childless ts) (IsOrdered (texts_of_kind l.kind) ts × AreShownIn (suc k) l.kind ts)

  pub AreShownIn : ℕ → Kind → Trees → Type 0
  AreShownIn k q none = Unit {0}
  AreShownIn k q (more t ts) = IsShownIn k q t × AreShownIn k q ts
