-- The content of a block as texts with what is between them: elements, and where bold and italic text begins and ends.
use Rattle.std.specs.Prelude.{ℕ, List, [], ◌∷◌, ◌++◌, Option, Some, None}
use Rattle.wt_tree.specs.Tree.{Tree, tree, Trees, none, more}
use Rattle.wt_tree.specs.declared.edit_shape.InlineForm.{InlineForm}
use Rattle.wt_tree.specs.declared.edit_shape.InlineForm.TheVariants as inline
use Rattle.wt_tree.specs.EditShapes.{edit_shape}

-- ---- what is between texts

-- an element, and the begin of bold and of italic text, each with its number; and the end of such text
pub data Border : Type 0 where
  element : ℕ → Border
  bold : ℕ → Border
  italic : ℕ → Border
  end : Border

abbrev pub borders_by : InlineForm → ℕ → List Border → List Border
borders_by inline.Nothing n inside = []
borders_by inline.Characters n inside = []
borders_by inline.Bold n inside = bold n ∷ (inside ++ (end ∷ []))
borders_by inline.Italic n inside = italic n ∷ (inside ++ (end ∷ []))
borders_by inline.Shown n inside = element n ∷ []
borders_by inline.PageLink n inside = element n ∷ []
borders_by inline.ExternalLink n inside = element n ∷ []
borders_by inline.Tag n inside = element n ∷ []
borders_by inline.Break n inside = element n ∷ []
borders_by inline.AsItStood n inside = element n ∷ []

-- in order, those in bold and italic text among them
abbrev mutual
  pub borders_of : Tree → List Border
  borders_of (tree l ts) = borders_by (edit_shape l.kind).inline l.id (borders ts)

  pub borders : Trees → List Border
  borders none = []
  borders (more t ts) = borders_of t ++ borders ts

-- ---- the elements

abbrev pub elements_by : InlineForm → Tree → List Tree → List Tree
elements_by inline.Nothing t inside = []
elements_by inline.Characters t inside = []
elements_by inline.Bold t inside = inside
elements_by inline.Italic t inside = inside
elements_by inline.Shown t inside = t ∷ []
elements_by inline.PageLink t inside = t ∷ []
elements_by inline.ExternalLink t inside = t ∷ []
elements_by inline.Tag t inside = t ∷ []
elements_by inline.Break t inside = t ∷ []
elements_by inline.AsItStood t inside = t ∷ []

-- all elements but bold and italic ones, which count by what they hold
abbrev mutual
  pub elements_of : Tree → List Tree
  elements_of (tree l ts) = elements_by (edit_shape l.kind).inline (tree l ts) (elements ts)

  pub elements : Trees → List Tree
  elements none = []
  elements (more t ts) = elements_of t ++ elements ts

abbrev pub styles_by : InlineForm → Tree → List Tree → List Tree
styles_by inline.Nothing t inside = []
styles_by inline.Characters t inside = []
styles_by inline.Bold t inside = t ∷ inside
styles_by inline.Italic t inside = t ∷ inside
styles_by inline.Shown t inside = []
styles_by inline.PageLink t inside = []
styles_by inline.ExternalLink t inside = []
styles_by inline.Tag t inside = []
styles_by inline.Break t inside = []
styles_by inline.AsItStood t inside = []

-- bold and italic, with those in them
abbrev mutual
  pub styles_of : Tree → List Tree
  styles_of (tree l ts) = styles_by (edit_shape l.kind).inline (tree l ts) (styles ts)

  pub styles : Trees → List Tree
  styles none = []
  styles (more t ts) = styles_of t ++ styles ts

-- ---- the texts

-- characters before the first of texts
abbrev pub onto_first : List ℕ → List (List ℕ) → List (List ℕ)
onto_first bs [] = bs ∷ []
onto_first bs (n ∷ ns) = (bs ++ n) ∷ ns

-- before the texts that follow: a node, by its characters and the texts in it
abbrev pub texts_by : InlineForm → List ℕ → (List (List ℕ) → List (List ℕ)) → List (List ℕ) → List (List ℕ)
texts_by inline.Nothing shown inside after = after
texts_by inline.Characters shown inside after = onto_first shown after
texts_by inline.Bold shown inside after = [] ∷ inside ([] ∷ after)
texts_by inline.Italic shown inside after = [] ∷ inside ([] ∷ after)
texts_by inline.Shown shown inside after = [] ∷ after
texts_by inline.PageLink shown inside after = [] ∷ after
texts_by inline.ExternalLink shown inside after = [] ∷ after
texts_by inline.Tag shown inside after = [] ∷ after
texts_by inline.Break shown inside after = [] ∷ after
texts_by inline.AsItStood shown inside after = [] ∷ after

abbrev mutual
  pub texts_before : Tree → List (List ℕ) → List (List ℕ)
  texts_before (tree l ts) after = texts_by (edit_shape l.kind).inline l.shown (all_texts_before ts) after

  pub all_texts_before : Trees → List (List ℕ) → List (List ℕ)
  all_texts_before none after = after
  all_texts_before (more t ts) after = texts_before t (all_texts_before ts after)

-- The text before each border, and that after the last one; characters that nothing parts are one text.
abbrev pub texts : Trees → List (List ℕ)
texts ts = all_texts_before ts ([] ∷ [])

-- ---- texts with the borders beside them

-- a text, and what is on its left and right, unless the content begins or ends there
pub record Slot : Type 0 where
  pub left : Option Border
  pub text : List ℕ
  pub right : Option Border

abbrev pub slots_from : Option Border → List Border → List (List ℕ) → List Slot
slots_from left bs [] = []
slots_from left [] (n ∷ ns) = record { left = left; text = n; right = None } ∷ slots_from None [] ns
slots_from left (b ∷ bs) (n ∷ ns) = record { left = left; text = n; right = Some b } ∷ slots_from (Some b) bs ns

abbrev pub slots : Trees → List Slot
slots ts = slots_from None (borders ts) (texts ts)
