-- Where a block touches an open tag: a `<` with a letter directly after it, which neither a `<` nor a `>` nor a line break follows up
-- to the block, or up to the end of one of its nodes.
use Rattle.std.specs.Prelude.{◌≡◌, ℕ, ◌+◌, ◌-◌, ◌==◌, ◌&&◌, ◌||◌, Bool, true, false, not, Option, Some, None, List, [], ◌∷◌, ◌++◌, length, reverse, take, nat_lt, slice_index}
use Rattle.std.specs.Char.{is_ascii_alphabetic}
use Rattle.std.specs.List.{list_any, prefix_len}
use Rattle.wt_span.specs.Characters as byte
use Rattle.wt_tree.specs.declared.kind.Ranges.{Ranges}
use Rattle.wt_tree.specs.Source.{flat}
use Rattle.wt_tree.specs.Tree.{Tree, tree, Trees, none, more}
use Rattle.wt_tree.specs.declared.edit_shape.InlineForm.{InlineForm}
use Rattle.wt_tree.specs.declared.edit_shape.InlineForm.TheVariants as inline
use Rattle.wt_tree.specs.EditShapes.{edit_shape}

abbrev pub is_stop : ℕ → Bool
is_stop b = b == byte.less_than || (b == byte.greater_than || b == byte.line_break)

-- how many bytes come after the last `<`, `>` or line break
abbrev pub bare_len : List ℕ → ℕ
bare_len bs = prefix_len (λ b. not (is_stop b)) (reverse bs)

-- the last of these is a `<`, and the byte after it a letter
abbrev pub ends_open : List ℕ → Bool
ends_open bs =
    let n = bare_len bs in
    nat_lt 0 n && (nat_lt n (length bs) && (slice_index bs (length bs - (n + 1)) == byte.less_than && is_ascii_alphabetic (slice_index bs (length bs - n))))

-- The same in other words: a `<`, a letter, and no `<`, `>` or line break up to the end.
pub record EndsOpen (bs : List ℕ) : Type 0 where
  pub front : List ℕ
  pub letter : ℕ
  pub rest : List ℕ
  pub is : bs ≡ front ++ byte.less_than ∷ letter ∷ rest
  pub is_letter : is_ascii_alphabetic letter ≡ true
  pub bare : list_any is_stop (letter ∷ rest) ≡ false

-- ---- of a block

-- texts don't count, and bold and italic text by what it holds
abbrev pub open_by : InlineForm → List ℕ → Bool → Bool
open_by inline.Nothing source inside = ends_open source
open_by inline.Characters source inside = false
open_by inline.Bold source inside = inside
open_by inline.Italic source inside = inside
open_by inline.Shown source inside = ends_open source
open_by inline.PageLink source inside = ends_open source
open_by inline.ExternalLink source inside = ends_open source
open_by inline.Tag source inside = ends_open source
open_by inline.Break source inside = ends_open source
open_by inline.AsItStood source inside = ends_open source

abbrev mutual
  pub node_ends_open : Tree → Bool
  node_ends_open (tree l ts) = open_by (edit_shape l.kind).inline (flat (tree l ts)) (any_ends_open ts)

  pub any_ends_open : Trees → Bool
  any_ends_open none = false
  any_ends_open (more t ts) = node_ends_open t || any_ends_open ts

-- what is in the page before a node
abbrev pub before : List ℕ → Option Ranges → List ℕ
before page None = []
before page (Some r) = take r.start page

-- a block, with what comes before it in the page
abbrev pub touches_open_tag : List ℕ → Tree → Bool
touches_open_tag before (tree l ts) = ends_open before || any_ends_open ts
