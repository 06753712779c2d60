-- What is unmarked is as it was.
use Rattle.std.specs.Prelude.{ℕ, ◌==◌, ◌&&◌, ◌||◌, not, Bool, true, false, Option, Some, None, List, [], ◌∷◌, if◌then◌else◌}
use Rattle.std.specs.Str.{bytes_eq}
use Rattle.wt_tree.specs.declared.node.DataMw.{DataMw}
use Rattle.wt_tree.specs.declared.row.Writing.{Writing}
use Rattle.wt_tree.specs.declared.row.Writing.TheVariants.{AsText, AsVoid, RoundCharacter, RoundChildren, AsSection, Unwritten}
use Rattle.wt_tree.specs.declared.kind.Showing.{Showing}
use Rattle.wt_tree.specs.declared.kind.Showing.TheVariants.{Characters, Inside, Nothing, Element}
use Rattle.wt_tree.specs.Kinds.{showing, writing}
use Rattle.wt_tree.specs.Opened.{opened}
use Rattle.wt_tree.specs.Tiling.{is_group}
use Rattle.wt_tree.specs.Tree.{Label, Tree, tree, Trees, none, more, label}
use Rattle.wt_checks.specs.Alike.{same_kind, same_attrs, same_data}
use Rattle.wt_checks.specs.Places.{Place, number, kind_at, is_kept, is_body, Page, Condition}
use Rattle.wt_checks.specs.Groups.{is_marked}

-- ---- the texts and children of a node

-- what is compared of a child: a text by its characters, any other by its number, which is 0 where it is new
pub data Entry : Type 0 where
  text : List ℕ → Entry
  child : ℕ → Entry

-- Separators, marks and skips, which show nothing, aren't compared.
abbrev pub is_compared : Showing → Bool
is_compared Nothing = false
is_compared Characters = true
is_compared Inside = true
is_compared Element = true

abbrev pub entry_by : Writing → Label → Entry
entry_by AsText l = text l.shown
entry_by AsVoid l = child l.id
entry_by RoundCharacter l = child l.id
entry_by RoundChildren l = child l.id
entry_by (AsSection n) l = child l.id
entry_by Unwritten l = child l.id

abbrev pub entry : Label → Entry
entry l = entry_by (writing l.kind) l

abbrev pub entries : Trees → List Entry
entries none = []
entries (more t ts) = if is_compared (showing (label t).kind) then entry (label t) ∷ entries ts else entries ts

-- the character of an entity, which is no node
abbrev pub own_character : Writing → List ℕ → List ℕ
own_character AsText bs = []
own_character AsVoid bs = []
own_character RoundCharacter bs = bs
own_character RoundChildren bs = []
own_character (AsSection n) bs = []
own_character Unwritten bs = []

abbrev pub same_entry : Entry → Entry → Bool
same_entry (text xs) (text ys) = bytes_eq xs ys
same_entry (text xs) (child n) = false
same_entry (child m) (text ys) = false
same_entry (child m) (child n) = m == n

-- text by text and child by child: neighbouring texts aren't joined
abbrev pub same_entries : List Entry → List Entry → Bool
same_entries [] [] = true
same_entries [] (b ∷ ys) = false
same_entries (a ∷ xs) [] = false
same_entries (a ∷ xs) (b ∷ ys) = same_entry a b && same_entries xs ys

-- the page's node and an edited one hold the same, where what is in a section of the page counts as
-- in its body
abbrev pub holds_same : Tree → Tree → Bool
holds_same (tree l ts) (tree m us) = bytes_eq (own_character (writing l.kind) l.shown)
    (own_character (writing m.kind) m.shown) && same_entries (entries (opened ts)) (entries us)

-- ---- the condition

-- Data that the page's node has is compared; where it has none, `data-mw` is ignored.
abbrev pub keeps_data : Option DataMw → Option DataMw → Bool
keeps_data None d = true
keeps_data (Some c) d = same_data (Some c) d

-- the node has the page's kind, attributes and data
abbrev pub keeps_face : Label → Label → Bool
keeps_face l m = same_kind l.kind m.kind && (same_attrs l.attrs m.attrs && keeps_data l.mw m.mw)

-- a marked node may hold something else
abbrev pub keeps_children : Tree → Tree → Bool
keeps_children t u = is_marked (label u).mark || holds_same t u

-- the page's node is no group, and this node isn't as it was
abbrev pub is_other : Option Place → Tree → Bool
is_other None u = false
is_other (Some q) u = not (is_group (label q.node).kind) && not (keeps_face (label q.node) (label u) && keeps_children q.node u)

-- UnmarkedChange: a kept node or the body, not inside a node that is marked `content`, has another kind
-- or other attributes than in the page, or has no mark and another list of texts and children. Groups
-- have a condition of their own.
abbrev pub is_unmarked_change : Page → Condition
is_unmarked_change page before p after = (is_kept p || is_body (kind_at p)) && (not p.in_content && is_other (page (number p)) p.node)
