-- A block of the page in which a line of comments stands only where a line of it begins: behind a line break, or behind another such line.
use Rattle.std.specs.Prelude.{◌≡◌, ℕ, ◌+◌, ◌<◌, ◌==◌, Bool, true, false, nat_eq, Some, List, [], ◌∷◌, length}
use Rattle.std.specs.List.{ends_with}
use Rattle.wt_span.specs.Characters as byte
use Rattle.wt_tree.specs.declared.edit_shape.InlineForm.{InlineForm}
use Rattle.wt_tree.specs.declared.edit_shape.InlineForm.TheVariants as inline
use Rattle.wt_tree.specs.declared.edit_shape.Sort.{Sort}
use Rattle.wt_tree.specs.declared.edit_shape.Sort.TheVariants as sort
use Rattle.wt_tree.specs.EditShapes.{edit_shape}
use Rattle.wt_tree.specs.Source.{flat}
use Rattle.wt_tree.specs.Tree.{Label, Tree, tree, Trees, none, more, label}
use Rattle.wt_original.specs.Kept.{kept_of, kept_nodes, kept_with, found_at}

-- ---- where a line begins

-- whether a line begins behind these bytes, where one began before them or not
abbrev pub settled : List ℕ → Bool → Bool
settled [] s = s
settled (b ∷ bs) s = settled bs (b == byte.line_break)

-- ---- a line of comments, by its source

abbrev pub line_by : Sort → Tree → Bool
line_by sort.PageLink t = false
line_by sort.Url t = false
line_by sort.Switch t = false
line_by sort.Mark t = ends_with nat_eq (flat t) (byte.line_break ∷ [])
line_by sort.Group t = false
line_by sort.Island t = false
line_by sort.Other t = false

abbrev pub is_line : Tree → Bool
is_line t = line_by (edit_shape (label t).kind).sort t

-- ---- nodes in their block

-- found by its number, at this place
abbrev pub FoundAt : Tree → ℕ → Tree → Type 0
FoundAt block at t = (from : ℕ) × (kept_with (label t).id (kept_nodes block) ≡ Some (kept_of block (found_at at from t)))

-- with no line of comments among them, nor in bold and italic
abbrev pub NoLineBy : InlineForm → Tree → ℕ → Label → Trees → Type 0 → Type 0
NoLineBy inline.Nothing block at l ts inside = Unit {0}
NoLineBy inline.Characters block at l ts inside = Unit {0}
NoLineBy inline.Bold block at l ts inside = inside
NoLineBy inline.Italic block at l ts inside = inside
NoLineBy inline.Shown block at l ts inside = FoundAt block at (tree l ts) × (is_line (tree l ts) ≡ false)
NoLineBy inline.PageLink block at l ts inside = FoundAt block at (tree l ts) × (is_line (tree l ts) ≡ false)
NoLineBy inline.ExternalLink block at l ts inside = FoundAt block at (tree l ts) × (is_line (tree l ts) ≡ false)
NoLineBy inline.Tag block at l ts inside = FoundAt block at (tree l ts) × (is_line (tree l ts) ≡ false)
NoLineBy inline.Break block at l ts inside = FoundAt block at (tree l ts) × (is_line (tree l ts) ≡ false)
NoLineBy inline.AsItStood block at l ts inside = FoundAt block at (tree l ts) × (is_line (tree l ts) ≡ false)

abbrev mutual
  pub NoLineIn : Tree → ℕ → Tree → Type 0
  NoLineIn block at (tree l ts) = NoLineBy (edit_shape l.kind).inline block at l ts (NoLines block (at + length l.opening) ts)

  pub NoLines : Tree → ℕ → Trees → Type 0
  NoLines block at none = Unit {0}
  NoLines block at (more t us) = NoLineIn block at t × NoLines block (at + length (flat t)) us

-- One after the other, where a line begins at this place or not. Of each text its source is what it shows, and none is empty; there are no separators.
abbrev pub LedBy : InlineForm → Tree → ℕ → Bool → Label → Trees → (Bool → Type 0) → Type 0
LedBy inline.Nothing block at s l ts rest = ⊥
LedBy inline.Characters block at s l ts rest = (flat (tree l ts) ≡ l.shown) × (0 < length l.shown) × rest (settled l.shown s)
LedBy inline.Bold block at s l ts rest = NoLines block (at + length l.opening) ts × rest false
LedBy inline.Italic block at s l ts rest = NoLines block (at + length l.opening) ts × rest false
LedBy inline.Shown block at s l ts rest = FoundAt block at (tree l ts) × (is_line (tree l ts) ≡ true → s ≡ true) × rest (is_line (tree l ts))
LedBy inline.PageLink block at s l ts rest = FoundAt block at (tree l ts) × (is_line (tree l ts) ≡ true → s ≡ true) × rest (is_line (tree l ts))
LedBy inline.ExternalLink block at s l ts rest = FoundAt block at (tree l ts) × (is_line (tree l ts) ≡ true → s ≡ true) × rest (is_line (tree l ts))
LedBy inline.Tag block at s l ts rest = FoundAt block at (tree l ts) × (is_line (tree l ts) ≡ true → s ≡ true) × rest (is_line (tree l ts))
LedBy inline.Break block at s l ts rest = FoundAt block at (tree l ts) × (is_line (tree l ts) ≡ true → s ≡ true) × rest (is_line (tree l ts))
LedBy inline.AsItStood block at s l ts rest = FoundAt block at (tree l ts) × (is_line (tree l ts) ≡ true → s ≡ true) × rest (is_line (tree l ts))

abbrev pub AreOwnLed : Tree → ℕ → Bool → Trees → Type 0
AreOwnLed block at s none = Unit {0}
AreOwnLed block at s (more (tree l ts) us) =
    LedBy (edit_shape l.kind).inline block at s l ts (λ v. AreOwnLed block (at + length (flat (tree l ts))) v us)

-- ---- a mark, by its kind

abbrev pub is_mark_sort : Sort → Bool
is_mark_sort sort.PageLink = false
is_mark_sort sort.Url = false
is_mark_sort sort.Switch = false
is_mark_sort sort.Mark = true
is_mark_sort sort.Group = false
is_mark_sort sort.Island = false
is_mark_sort sort.Other = false

abbrev pub is_mark_node : Tree → Bool
is_mark_node t = is_mark_sort (edit_shape (label t).kind).sort

-- the first of these is one
abbrev pub begin_marked : Trees → Bool
begin_marked none = false
begin_marked (more t ts) = is_mark_node t
