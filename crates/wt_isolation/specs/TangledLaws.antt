-- What tangles a block, in other words.
use Rattle.std.specs.Prelude.{ℕ, ◌≡◌, ◌≤◌, ◌<◌, ◌⊎◌, Bool, true, false, List, [], ◌∷◌, ◌++◌, replicate}
use Rattle.std.specs.List.{flat_map, list_all, list_any}
use Rattle.wt_span.specs.Origins.{Span}
use Rattle.wt_span.specs.Characters as byte
use Rattle.wt_tree.specs.declared.kind.Ranges.{Ranges}
use Rattle.wt_tiles.specs.declared.glyph.Glyph.{Glyph}
use Rattle.wt_tiles.specs.declared.glyph.Glyph.TheVariants as glyph
use Rattle.wt_tree.specs.Tree.{Tree, tree, Trees, none, more, label, listed}
use Rattle.wt_tree.specs.declared.edit_shape.InlineForm.{InlineForm}
use Rattle.wt_tree.specs.declared.edit_shape.InlineForm.TheVariants as inline
use Rattle.wt_tree.specs.EditShapes.{edit_shape}
use Rattle.wt_isolation.specs.OpenTexts.{begins_open, in_style, is_open_before, is_text}
use Rattle.wt_isolation.specs.Toggles.{is_break_glyph, is_quote}

-- one byte of the page lies in both
abbrev pub SharesByte : Span → Ranges → Type 0
SharesByte s r = (n : ℕ) × (s.0 ≤ n) × (n < s.1) × (r.start ≤ n) × (n < r.end)

-- somewhere in the text such bytes begin
abbrev pub HoldsOpen : List ℕ → Type 0
HoldsOpen text = (before : List ℕ) × (after : List ℕ) × (text ≡ before ++ after) × (begins_open after ≡ true)

-- ---- texts

abbrev pub is_text_node : Tree → Bool
is_text_node t = is_text (edit_shape (label t).kind).inline

abbrev pub AreTexts : List Tree → Type 0
AreTexts ts = list_all is_text_node ts ≡ true

abbrev pub shown_in : List Tree → List ℕ
shown_in ts = flat_map (λ t. (label t).shown) ts

-- the inline form of what is first
abbrev pub first_way : List Tree → InlineForm
first_way [] = inline.Nothing
first_way (t ∷ ts) = (edit_shape (label t).kind).inline

-- Among the nodes are texts, one directly after the other, after which no text follows, and what they show together could go on
-- before what follows.
abbrev pub StandsOpen : List Tree → Type 0
StandsOpen ts =
    (before : List Tree) × (texts : List Tree) × (after : List Tree) × (ts ≡ before ++ (texts ++ after)) × AreTexts texts
    × (is_text (first_way after) ≡ false) × (is_open_before (first_way after) (shown_in texts) ≡ true)

-- a bold or an italic node that holds such texts, or a node like itself
abbrev mutual
  pub IsOpenStyle : Tree → Type 0
  IsOpenStyle (tree l ts) = (in_style (edit_shape l.kind).inline true ≡ true) × (StandsOpen (listed ts) ⊎ HasOpenStyle ts)

  pub HasOpenStyle : Trees → Type 0
  HasOpenStyle none = ⊥
  HasOpenStyle (more t ts) = IsOpenStyle t ⊎ HasOpenStyle ts

abbrev pub HasOpenText : Trees → Type 0
HasOpenText ts = StandsOpen (listed ts) ⊎ HasOpenStyle ts

-- ---- lines and runs

abbrev pub HasNoBreak : List Glyph → Type 0
HasNoBreak l = list_any is_break_glyph l ≡ false

-- These lines, with a line break between each two, are the items, and no line break is in a line.
abbrev pub AreLines : List (List Glyph) → List Glyph → Type 0
AreLines [] gs = ⊥
AreLines (l ∷ []) gs = HasNoBreak l × (gs ≡ l)
AreLines (l ∷ m ∷ ls) gs = (rest : List Glyph) × HasNoBreak l × (gs ≡ l ++ glyph.Byte byte.line_break ∷ rest) × AreLines (m ∷ ls) rest

-- So many apostrophes each time, with one other item between each two runs, are the items.
abbrev pub AreRuns : List ℕ → List Glyph → Type 0
AreRuns [] gs = ⊥
AreRuns (n ∷ []) gs = gs ≡ replicate n (glyph.Byte byte.apostrophe)
AreRuns (n ∷ m ∷ ns) gs =
    (g : Glyph) × (rest : List Glyph) × (is_quote g ≡ false) × (gs ≡ replicate n (glyph.Byte byte.apostrophe) ++ g ∷ rest) × AreRuns (m ∷ ns) rest
