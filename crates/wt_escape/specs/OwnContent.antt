-- The content of a block of the page that is spelled to its own source.
use Rattle.std.specs.Prelude.{◌≡◌, ◌≢◌, ℕ, ◌<◌, Bool, true, false, List, [], ◌∷◌}
use Rattle.std.specs.Str.{IsUtf8}
use Rattle.wt_span.specs.Characters as byte
use Rattle.wt_tree.specs.Tree.{Label, Tree, tree, Trees, none, more, label}
use Rattle.wt_tree.specs.Kinds.{is_leaf}
use Rattle.wt_tree.specs.Source.{flat}
use Rattle.wt_tree.specs.Tiling.{is_group}
use Rattle.wt_tree.specs.declared.edit_shape.Place.{Place}
use Rattle.wt_guards.specs.Content.{ContentSign}
use Rattle.wt_guards.specs.Guards.{Setting}
use Rattle.wt_guards.specs.WrittenLaws.{IsQuiet}
use Rattle.wt_tree.specs.declared.edit_shape.InlineForm.{InlineForm}
use Rattle.wt_tree.specs.declared.edit_shape.InlineForm.TheVariants as inline
use Rattle.wt_tree.specs.EditShapes.{edit_shape}
use Rattle.wt_original.specs.Kept.{kept_nodes}
use Rattle.wt_original.specs.Numbers.{counts_up}
use Rattle.wt_original.specs.Page.{Page, page_of}
use Rattle.wt_link_spelling.specs.Spelling.{signs_of_all, children_of}

abbrev pub HasSigns : List ContentSign → Type 0
HasSigns [] = ⊥
HasSigns (s ∷ ss) = Unit {0}

-- a style with these delimiters, which isn't empty
pub record IsStyle (sign : List ℕ) (l : Label) (inside : List ContentSign) : Type 0 where
  pub opening : l.opening ≡ sign
  pub closing : l.closing ≡ sign
  pub no_leaf : is_leaf l.kind ≡ false
  pub some : HasSigns inside

-- What a node of the page is like that is spelled to its own source: a separator without bytes, a text that is in the source
-- as it is shown, a style with the usual delimiters and some such nodes in it, or another node that has a number.
abbrev pub IsPlainBy : InlineForm → Page → Place → Label → Trees → Type 0 → Type 0
IsPlainBy inline.Nothing p pl l ts held = flat (tree l ts) ≡ []
IsPlainBy inline.Characters p pl l ts held = (flat (tree l ts) ≡ l.shown) × IsUtf8 l.shown
IsPlainBy inline.Bold p pl l ts held = held × IsStyle (byte.apostrophe ∷ byte.apostrophe ∷ byte.apostrophe ∷ []) l (signs_of_all p pl ts)
IsPlainBy inline.Italic p pl l ts held = held × IsStyle (byte.apostrophe ∷ byte.apostrophe ∷ []) l (signs_of_all p pl ts)
IsPlainBy inline.Shown p pl l ts held = l.id ≢ 0
IsPlainBy inline.PageLink p pl l ts held = l.id ≢ 0
IsPlainBy inline.ExternalLink p pl l ts held = l.id ≢ 0
IsPlainBy inline.Tag p pl l ts held = l.id ≢ 0
IsPlainBy inline.Break p pl l ts held = l.id ≢ 0
IsPlainBy inline.AsItStood p pl l ts held = l.id ≢ 0

abbrev mutual
  pub IsPlain : Page → Place → Tree → Type 0
  IsPlain p pl (tree l ts) = IsPlainBy (edit_shape l.kind).inline p pl l ts (ArePlain p pl ts)

  pub ArePlain : Page → Place → Trees → Type 0
  ArePlain p pl none = Unit {0}
  ArePlain p pl (more t ts) = IsPlain p pl t × ArePlain p pl ts

-- a leaf holds nothing, unless it is a group
abbrev mutual
  pub IsBare : Tree → Type 0
  IsBare (tree l ts) = (is_leaf l.kind ≡ true → is_group l.kind ≡ false → ts ≡ none) × AreBare ts

  pub AreBare : Trees → Type 0
  AreBare none = Unit {0}
  AreBare (more t ts) = IsBare t × AreBare ts

-- what the content of a block is in
abbrev pub setting_in : Page → Place → Setting
setting_in p pl = record { within = false; place = pl; source = p.source }

-- A block of the page whose content is such nodes: its numbers count up, and where nothing was changed nothing is put, and no
-- character is written as a reference.
pub record IsPlainBlock (same : Tree → Tree → Bool) (block : Tree) (pl : Place) : Type 0 where
  pub first : ℕ
  pub some : 0 < first
  pub counts : counts_up first (kept_nodes block) ≡ true
  pub no_leaf : is_leaf (label block).kind ≡ false
  pub bare : IsBare block
  pub plain : ArePlain (page_of same block) pl (children_of block)
  pub quiet : IsQuiet (setting_in (page_of same block) pl) [] (signs_of_all (page_of same block) pl (children_of block))
