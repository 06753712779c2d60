-- What may be among the children of a node that is marked `children`: kept ones, and new blocks or items.
use Rattle.std.specs.Prelude.{◌==◌, ◌&&◌, ◌||◌, not, Bool, true, false, Option, List, [], ◌∷◌, ◌++◌, if◌then◌else◌}
use Rattle.wt_tree.specs.declared.kind.Kind.{Kind}
use Rattle.wt_tree.specs.declared.kind.Kind.TheVariants as kind
use Rattle.wt_tree.specs.Tree.{Tree, Trees, none, more, label}
use Rattle.wt_tree.specs.declared.edit_shape.BlockForm.{BlockForm}
use Rattle.wt_tree.specs.declared.edit_shape.BlockForm.TheVariants as form
use Rattle.wt_tree.specs.EditShapes.{edit_shape}
use Rattle.wt_original.specs.Page.{no_page}
use Rattle.wt_content.specs.declared.children.Holder.{Holder}
use Rattle.wt_content.specs.declared.children.Holder.TheVariants as holder
use Rattle.wt_content.specs.declared.reason.ContentWhy.{ContentWhy}
use Rattle.wt_content.specs.declared.reason.ContentWhy.TheVariants as why
use Rattle.wt_content.specs.Content.{all_faults, first_why, held, outermost}

-- ---- children and what is between them

-- white space
abbrev pub is_space : Kind → Bool
is_space kind.Sep = true
is_space k = false

-- comments and include tags
abbrev pub is_mark : Kind → Bool
is_mark kind.Comment = true
is_mark kind.Include = true
is_mark k = false

-- white space and marks
abbrev pub is_separator : Kind → Bool
is_separator k = is_space k || is_mark k

-- What comes and goes: in a body everything but white space, in a list its items.
abbrev pub is_child : Holder → Kind → Bool
is_child holder.Body k = not (is_space k)
is_child holder.List k = not (is_separator k)

-- a child that is in the page
abbrev pub is_kept_child : Holder → Tree → Bool
is_kept_child h t = is_child h (label t).kind && not ((label t).id == 0)

-- ---- new children

-- A new child of a body is a paragraph, a heading or a rule, one of a list an item.
abbrev pub may_come : Holder → BlockForm → Bool
may_come holder.Body form.Paragraph = true
may_come holder.Body (form.Heading n) = true
may_come holder.Body form.Rule = true
may_come holder.Body form.Item = false
may_come holder.Body form.NoBlock = false
may_come holder.List form.Paragraph = false
may_come holder.List (form.Heading n) = false
may_come holder.List form.Rule = false
may_come holder.List form.Item = true
may_come holder.List form.NoBlock = false

abbrev pub if_any_held : Trees → List ContentWhy
if_any_held none = []
if_any_held (more t ts) = why.Element ∷ []

abbrev pub is_rule : BlockForm → Bool
is_rule form.Paragraph = false
is_rule (form.Heading n) = false
is_rule form.Rule = true
is_rule form.Item = false
is_rule form.NoBlock = false

-- A new block holds what a content may that has no node of the page; a rule holds nothing.
abbrev pub inside_faults : (Tree → Tree → Bool) → BlockForm → Tree → List ContentWhy
inside_faults same f u = if is_rule f then if_any_held (held u) else all_faults (no_page same) (outermost u) (held u)

abbrev pub new_faults : (Tree → Tree → Bool) → Holder → BlockForm → Tree → List ContentWhy
new_faults same h f u = if may_come h f then inside_faults same f u else why.Element ∷ []

-- what is wrong with a child; white space and kept children aren't looked into
abbrev pub child_faults : (Tree → Tree → Bool) → Holder → Tree → List ContentWhy
child_faults same h u = if is_space (label u).kind || not ((label u).id == 0) then [] else new_faults same h (edit_shape (label u).kind).form u

abbrev pub all_child_faults : (Tree → Tree → Bool) → Holder → Trees → List ContentWhy
all_child_faults same h none = []
all_child_faults same h (more u us) = child_faults same h u ++ all_child_faults same h us

-- ---- all children

abbrev pub any_kept_child : Holder → Trees → Bool
any_kept_child h none = false
any_kept_child h (more u us) = is_kept_child h u || any_kept_child h us

-- A list keeps an item; a body may lose all its blocks.
abbrev pub empty_fault : Holder → Trees → List ContentWhy
empty_fault holder.Body us = []
empty_fault holder.List us = if any_kept_child holder.List us then [] else why.EmptyList ∷ []

abbrev pub holder_of : Kind → Holder
holder_of kind.Body = holder.Body
holder_of k = holder.List

abbrev pub children_faults : (Tree → Tree → Bool) → Holder → Trees → List ContentWhy
children_faults same h us = all_child_faults same h us ++ empty_fault h us

-- why the children of a node that is marked so can't be written
unfoldable pub bad_children : (Tree → Tree → Bool) → Tree → Option ContentWhy
bad_children same new = first_why (children_faults same (holder_of (label new).kind) (held new))
