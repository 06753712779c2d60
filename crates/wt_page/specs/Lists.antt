-- Lists: the nest of the lines' prefixes, with what is on the lines.
use Rattle.std.specs.Prelude.{ℕ, ◌+◌, ◌==◌, not, min, Bool, true, false, Option, Some, None, List, [], ◌∷◌, ◌++◌, length, map, take, drop, replicate, nat_lt, get_or, if◌then◌else◌}
use Rattle.std.specs.List.{flat_map, prefix_len}
use Rattle.wt_tree.specs.declared.kind.Kind.{Kind}
use Rattle.wt_tree.specs.declared.kind.Kind.TheVariants as kind
use Rattle.wt_span.specs.Bytes.{is_blank}
use Rattle.wt_span.specs.Items.{Item}
use Rattle.wt_span.specs.Characters as byte
use Rattle.wt_blocks.specs.ListTree.{ListTree, node as list_node, ListTrees, none, more, forest as list_forest}
use Rattle.wt_blocks.specs.Nesting.{is_list_sign, nested}
use Rattle.wt_inline.specs.ItemTree.{plain, ItemTree, inner, forest}
use Rattle.wt_inline.specs.Parts.{children}
use Rattle.wt_blocks.specs.declared.limits.TheConstants.{MOST_SIGNS}
use Rattle.wt_tiles.specs.declared.shape.Shape.{Shape}
use Rattle.wt_tiles.specs.declared.shape.TileKind.{TileKind}
use Rattle.wt_tiles.specs.declared.shape.TileKind.TheVariants as tile
use Rattle.wt_tiles.specs.Contexts.{in_line}
use Rattle.wt_tiles.specs.Tiles.{tiles}
use Rattle.wt_context.specs.Line.{line_parts}
use Rattle.wt_page.specs.Rows.{Row, unwritten_end, signs}
use Rattle.wt_page.specs.Stretches.{Stretch, gap, block, tree_block, opened_by, enclosed}

-- ---- prefixes

-- `MOST_SIGNS` signs at most count; what comes after them is text
abbrev pub prefix_of : List Item → List ℕ
prefix_of xs = take (min MOST_SIGNS (prefix_len is_list_sign (signs xs))) (signs xs)

-- so many items, and the blanks after them
abbrev pub with_blanks : ℕ → List Item → ℕ
with_blanks n xs = n + prefix_len is_blank (drop n (signs xs))

-- the open delimiter of the innermost item that a line begins: the prefix with the blanks after it
abbrev pub item_opening_len : List Item → ℕ
item_opening_len xs = with_blanks (length (prefix_of xs)) xs

-- ---- terms and definitions

-- whether the characters of a tile are in none
abbrev pub is_bare : TileKind → Bool
is_bare tile.Link = false
is_bare tile.Category = false
is_bare tile.Media = false
is_bare tile.ExtLink = false
is_bare tile.BareUrl = false
is_bare tile.Br = false
is_bare tile.Pair = false
is_bare tile.TagIsland = false
is_bare tile.Switch = false
is_bare tile.Atom = false
is_bare tile.Mark = false
is_bare tile.Chars = true

-- the signs of a tile's items; those of a form as the sign of an atom
abbrev pub seen_signs : Shape × List Item → List ℕ
seen_signs (w, xs) = if is_bare w.kind then signs xs else replicate (length xs) 256

-- how many items of a context come before the first `:` that lies in no tile
unfoldable pub colon_at : List Item → ℕ
colon_at xs = prefix_len (λ s. not (s == byte.colon)) (flat_map seen_signs (tiles in_line xs))

-- where a term ends: after a prefix whose last sign is `;`, at the first such `:`
abbrev pub term_len : ℕ → List Item → Option ℕ
term_len sign xs = if sign == byte.semicolon then (if nat_lt (colon_at xs) (length xs) then Some (colon_at xs) else None) else None

-- ---- items

abbrev pub item_kind : ℕ → Kind
item_kind sign = if sign == byte.semicolon then kind.Dt else if sign == byte.colon then kind.Dd else kind.Li

abbrev pub list_kind : ℕ → Kind
list_kind sign = if sign == byte.asterisk then kind.Ul else if sign == byte.hash then kind.Ol else kind.Dl

-- a term, which ends at its `:`
abbrev pub term : List Item → List Item → ItemTree
term opening xs = inner (plain kind.Dt) opening (forest (children (line_parts xs))) []

-- An item with what is on its line, and with what follows in it: after a term a definition follows, whose open delimiter is the `:`
-- with the blanks after it, and what follows lies in this.
abbrev pub item_by : ℕ → Option ℕ → List Item → List Item → List Stretch → List Stretch
item_by sign None opening xs ss = opened_by (plain (item_kind sign)) opening (block (line_parts xs) ∷ ss)
item_by sign (Some n) opening xs ss =
    let rest = drop n xs in
    let colon = with_blanks 1 rest in
    tree_block (term opening (take n xs)) ∷ opened_by (plain kind.Dd) (take colon rest) (block (line_parts (drop colon rest)) ∷ ss)

-- the innermost item that a line begins, with these lists in it
unfoldable pub line_item : ℕ → Row → List Stretch → List Stretch
line_item sign r ss =
    let n = item_opening_len r.items in
    let xs = drop n r.items in
    gap r.lead ∷ item_by sign (term_len sign xs) (take n r.items) xs (gap r.ending ∷ ss)

-- ---- the nest

-- the first of these nodes begins at this line
abbrev pub begins_at : ℕ → ListTrees → Bool
begins_at line none = false
begins_at line (more (list_node item sign first ts) us) = first == line

abbrev pub row_at : List Row → ℕ → Row
row_at rs n = get_or rs n unwritten_end

-- A list holds its items. An item in which a list begins at its own line has nothing of this line by itself, and an empty delimiter; any
-- other is the innermost item of its line.
abbrev mutual
  pub list_stretches : List Row → ListTree → List Stretch
  list_stretches rs (list_node false sign line ts) = enclosed (plain (list_kind sign)) (all_lists rs ts)
  list_stretches rs (list_node true sign line ts) =
      if begins_at line ts then enclosed (plain (item_kind sign)) (all_lists rs ts)
      else line_item sign (row_at rs line) (all_lists rs ts)

  pub all_lists : List Row → ListTrees → List Stretch
  all_lists rs none = []
  all_lists rs (more t ts) = list_stretches rs t ++ all_lists rs ts

abbrev pub prefixes : List Row → List (List ℕ)
prefixes rs = map (λ r. prefix_of r.items) rs

-- the lists of these rows
unfoldable pub lists : List Row → List Stretch
lists rs = all_lists rs (list_forest (nested (prefixes rs)))
