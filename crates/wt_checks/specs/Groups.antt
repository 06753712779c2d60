-- A group may not be changed: no mark on it or inside it, and what it shows and its data as in the page.
use Rattle.std.specs.Prelude.{◌==◌, ◌&&◌, ◌||◌, not, Bool, true, false, Option, Some, None, List, [], ◌∷◌}
use Rattle.wt_tree.specs.declared.kind.Mark.{Mark}
use Rattle.wt_tree.specs.declared.kind.Mark.TheVariants as marks
use Rattle.wt_tree.specs.Tiling.{is_group}
use Rattle.wt_tree.specs.Plain.{Face}
use Rattle.wt_tree.specs.Stream.{Bracket, opens, closes, StreamToken, byte, bracket}
use Rattle.wt_tree.specs.Tree.{Tree, tree, Trees, none, more, label}
use Rattle.wt_checks.specs.Places.{Place, number, is_kept, Page, Condition}
use Rattle.wt_checks.specs.Alike.{same_kind, same_attrs, same_data}
use Rattle.wt_checks.specs.Elements.{written_for, all_read, signs_in}

abbrev pub is_marked : Mark → Bool
is_marked marks.Nothing = false
is_marked marks.Content = true
is_marked marks.Children = true
is_marked marks.Other = true

-- a mark is on the node or inside it
abbrev mutual
  pub has_mark : Tree → Bool
  has_mark (tree l ts) = is_marked l.mark || have_mark ts

  pub have_mark : Trees → Bool
  have_mark none = false
  have_mark (more t ts) = has_mark t || have_mark ts

-- ---- the same elements

abbrev pub same_face : Face → Face → Bool
same_face f g = same_kind f.kind g.kind && (same_attrs f.attrs g.attrs && same_data f.mw g.mw)

abbrev pub same_bracket : Bracket → Bracket → Bool
same_bracket (opens f) (opens g) = same_face f g
same_bracket (opens f) closes = false
same_bracket closes (opens g) = false
same_bracket closes closes = true

abbrev pub same_sign : StreamToken → StreamToken → Bool
same_sign (byte a) (byte b) = a == b
same_sign (byte a) (bracket k) = false
same_sign (bracket j) (byte b) = false
same_sign (bracket j) (bracket k) = same_bracket j k

abbrev pub same_signs : List StreamToken → List StreamToken → Bool
same_signs [] [] = true
same_signs [] (t ∷ ts) = false
same_signs (s ∷ ss) [] = false
same_signs (s ∷ ss) (t ∷ ts) = same_sign s t && same_signs ss ts

-- What the two groups show is the same, in the elements that are written for the page's, read from left
-- to right. The word in the first element's `typeof` is the group's own attribute.
abbrev pub shows_same : Tree → Tree → Bool
shows_same (tree l ts) (tree m us) = is_group m.kind && (same_attrs l.attrs m.attrs && same_signs (signs_in (written_for ts)) (signs_in (all_read us)))

-- where the values of parameters are edited, the data isn't compared
abbrev pub carries_same : Bool → Tree → Tree → Bool
carries_same values t u = values || same_data (label t).mw (label u).mw

-- the page's node is a group, and it isn't as it was
abbrev pub is_changed_group : Bool → Option Place → Tree → Bool
is_changed_group values None u = false
is_changed_group values (Some q) u = is_group (label q.node).kind && (has_mark u || not (shows_same q.node u && carries_same values q.node u))

-- InTemplate: the number of a group of the page, with a mark on it or inside it, or with other shown
-- nodes or other data.
abbrev pub is_in_template : Bool → Page → Condition
is_in_template values page before p after = is_kept p && is_changed_group values (page (number p)) p.node
