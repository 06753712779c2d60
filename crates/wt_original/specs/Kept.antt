-- What the block was in the page: its kept nodes with their places in its source, and what each is to its neighbours.
use Rattle.std.specs.Prelude.{ℕ, ◌+◌, ◌-◌, Bool, true, false, not, ◌||◌, ◌&&◌, ◌==◌, nat_lt, nat_eq, Option, Some, None, List, [], ◌∷◌, ◌++◌, map, find, length, take, drop, slice_get, if◌then◌else◌, codes}
use Rattle.std.specs.List.{filter, list_all, ends_with, starts_with}
use Rattle.wt_span.specs.Bytes.{is_blank}
use Rattle.wt_span.specs.Characters as byte
use Rattle.wt_names.specs.Good.{holds}
use Rattle.wt_tree.specs.Tree.{Label, Tree, tree, Trees, none, more, label}
use Rattle.wt_tree.specs.declared.kind.Showing.{Showing}
use Rattle.wt_tree.specs.declared.kind.Showing.TheVariants as showing
use Rattle.wt_tree.specs.Kinds.{is_leaf, showing as showing_of}
use Rattle.wt_tree.specs.Source.{flat}
use Rattle.wt_tree.specs.declared.edit_shape.ItemsOf.{ItemsOf}
use Rattle.wt_tree.specs.declared.edit_shape.ItemsOf.TheVariants.{Delimited, Characters, Opaque, Invisible, Nodes}
use Rattle.wt_tree.specs.declared.edit_shape.Sort.{Sort}
use Rattle.wt_tree.specs.declared.edit_shape.Sort.TheVariants as sort
use Rattle.wt_guards.specs.declared.role.Role.{Role}
use Rattle.wt_guards.specs.declared.role.Role.TheVariants as role
use Rattle.wt_guards.specs.declared.role.Transclusion.{Transclusion}
use Rattle.wt_guards.specs.declared.role.Stretch.{Stretch}
use Rattle.wt_original.specs.declared.block.Extent.{Extent}
use Rattle.wt_tree.specs.EditShapes.{edit_shape}

-- ---- items

-- A character; any other visible item, and one that is neither a blank, a line break, an apostrophe nor `=`; or a mark.
pub data Item : Type 0 where
  character : ℕ → Item
  opaque : Item
  invisible : Item

abbrev pub characters : List ℕ → List Item
characters bytes = map character bytes

abbrev pub items_by : ItemsOf → Label → List Item → List Item
items_by Delimited l inside = characters l.opening ++ (inside ++ characters l.closing)
items_by Characters l inside = characters l.own
items_by Opaque l inside = opaque ∷ []
items_by Invisible l inside = invisible ∷ []
items_by Nodes l inside = inside

-- the items of a node: of a group those of the nodes that it shows
abbrev mutual
  pub items : Tree → List Item
  items (tree l ts) = items_by (edit_shape l.kind).items l (items_of_all ts)

  pub items_of_all : Trees → List Item
  items_of_all none = []
  items_of_all (more t ts) = items t ++ items_of_all ts

abbrev pub is_visible : Item → Bool
is_visible (character c) = true
is_visible opaque = true
is_visible invisible = false

abbrev pub visible : List Item → List Item
visible xs = filter is_visible xs

abbrev pub is_character : (ℕ → Bool) → Option Item → Bool
is_character test None = false
is_character test (Some (character c)) = test c
is_character test (Some opaque) = false
is_character test (Some invisible) = false

abbrev pub is_blank_item : Item → Bool
is_blank_item (character c) = is_blank c
is_blank_item opaque = false
is_blank_item invisible = false

-- only spaces and tabs up to a line break or the end
abbrev pub are_blank_to_end : List Item → Bool
are_blank_to_end [] = true
are_blank_to_end (character c ∷ xs) = c == byte.line_break || (is_blank c && are_blank_to_end xs)
are_blank_to_end (opaque ∷ xs) = false
are_blank_to_end (invisible ∷ xs) = are_blank_to_end xs

abbrev pub last_of : List Item → Option Item
last_of xs = slice_get xs (length xs - 1)

-- ---- where a node was: the bytes of its block before it and up to its end, and the visible items before it and up to its end

-- the visible items of the whole block, and of it without its closing delimiter
abbrev pub seen : Tree → List Item
seen block = visible (items block)

abbrev pub seen_inside : Tree → List Item
seen_inside block = take (length (seen block) - length (label block).closing) (seen block)

abbrev pub is_break_at : Option ℕ → Bool
is_break_at None = false
is_break_at (Some b) = b == byte.line_break

-- It began its line, or the content: the byte before it is a line break, or the opening delimiter ends there.
abbrev pub began_line : Tree → Extent → Bool
began_line block s = s.start == length (label block).opening || (nat_lt 0 s.start && is_break_at (slice_get (flat block) (s.start - 1)))

-- It ended its line, or the content: only spaces, tabs and marks came after it.
abbrev pub ended_line : Tree → Extent → Bool
ended_line block s = are_blank_to_end (drop s.to (seen_inside block))

abbrev pub ended_content : Tree → Extent → Bool
ended_content block s = s.end == length (flat block) - length (label block).closing

-- the visible items nearest to its start on both sides are `=`
abbrev pub between_equals : Tree → Extent → Bool
between_equals block s =
    nat_lt 0 s.from && (is_character (λ c. c == byte.equals_sign) (slice_get (seen block) (s.from - 1)) && is_character (λ c. c == byte.equals_sign) (slice_get (seen block) s.from))

-- ---- what it is to its neighbours

abbrev pub shown_by : Showing → Label → List ℕ → List ℕ
shown_by showing.Characters l inside = l.shown
shown_by showing.Inside l inside = inside
shown_by showing.Nothing l inside = []
shown_by showing.Element l inside = inside

-- the characters that a node shows, those of what it holds among them
abbrev mutual
  pub shown : Tree → List ℕ
  shown (tree l ts) = shown_by (showing_of l.kind) l (shown_in ts)

  pub shown_in : Trees → List ℕ
  shown_in none = []
  shown_in (more t ts) = shown t ++ shown_in ts

abbrev pub is_apostrophe : Option Item → Bool
is_apostrophe x = is_character (λ c. c == byte.apostrophe) x

abbrev pub transclusion : Tree → Extent → Tree → Transclusion
transclusion block s t = record {
  slashes = holds (codes "//") (shown t);
  is_invisible = length (visible (items t)) == 0;
  is_blank = not (length (visible (items t)) == 0) && list_all is_blank_item (visible (items t));
  opens_with_apostrophe = is_apostrophe (slice_get (items t) 0);
  closes_with_apostrophe = is_apostrophe (last_of (items t));
  began_line = began_line block s;
  ended_line = ended_line block s;
  ended_content = ended_content block s;
  between_equals = between_equals block s;
}

-- a URL without an opening delimiter is bare
abbrev pub url : List ℕ → List ℕ → Role
url [] text = role.Bare (ends_with nat_eq text (byte.equals_sign ∷ []))
url (b ∷ opening) text = role.External

-- an island that begins with `{{` is a function of the preprocessor
abbrev pub island : Bool → Role
island true = role.Function
island false = role.Node

abbrev pub role_by : Sort → Tree → Extent → Tree → Role
role_by sort.PageLink block s t = role.Link
role_by sort.Url block s t = url (label t).opening (shown t)
role_by sort.Switch block s t = role.Switch
role_by sort.Mark block s t = role.Mark (ends_with nat_eq (flat t) (byte.line_break ∷ [])) (began_line block s)
role_by sort.Group block s t = role.Group (transclusion block s t)
role_by sort.Island block s t = island (starts_with nat_eq (flat t) (byte.opening_brace ∷ byte.opening_brace ∷ []))
role_by sort.Other block s t = role.Node

abbrev pub role_of : Tree → Extent → Tree → Role
role_of block s t = role_by (edit_shape (label t).kind).sort block s t

-- ---- the kept nodes of a block

-- a node of the page with a number, and where it is in its block
pub record KeptNode : Type 0 where
  pub node : Tree
  pub extent : Extent

abbrev pub found_at : ℕ → ℕ → Tree → KeptNode
found_at at from t = record { node = t; extent = record { start = at; end = at + length (flat t); from = from; to = from + length (visible (items t)) } }

abbrev pub found_if : Bool → KeptNode → List KeptNode
found_if true f = []
found_if false f = f ∷ []

abbrev pub is_delimited : ItemsOf → Bool
is_delimited Delimited = true
is_delimited Characters = false
is_delimited Opaque = false
is_delimited Invisible = false
is_delimited Nodes = false

-- It has kept nodes in it: it is no leaf, and its items are its delimiters round those of what it holds.
abbrev pub holds_kept : Label → Bool
holds_kept l = not (is_leaf l.kind) && is_delimited (edit_shape l.kind).items

-- All in preorder, from a node on with so many bytes and visible items before it; what a group shows has no numbers.
abbrev mutual
  pub found_from : ℕ → ℕ → Tree → List KeptNode
  found_from at from (tree l ts) =
      found_if (l.id == 0) (found_at at from (tree l ts)) ++ (if holds_kept l then found_in (at + length l.opening) (from + length l.opening) ts else [])

  pub found_in : ℕ → ℕ → Trees → List KeptNode
  found_in at from none = []
  found_in at from (more t ts) = found_from at from t ++ found_in (at + length (flat t)) (from + length (visible (items t))) ts

-- such a node, what it is, and where it is in the source of its block
pub record Kept : Type 0 where
  pub node : Tree
  pub role : Role
  pub place : Stretch

abbrev pub kept_of : Tree → KeptNode → Kept
kept_of block f = record { node = f.node; role = role_of block f.extent f.node; place = record { start = f.extent.start; end = f.extent.end } }

-- the nodes in a block, and the block
abbrev pub kept_nodes : Tree → List Kept
kept_nodes block = map (kept_of block) (found_from 0 0 block)

-- the first one with this number
abbrev pub first_with : ℕ → List Kept → Option Kept
first_with n ks = find (λ k. (label k.node).id == n) ks

-- 0 is no number
unfoldable pub kept_with : ℕ → List Kept → Option Kept
kept_with n ks = if n == 0 then None else first_with n ks
