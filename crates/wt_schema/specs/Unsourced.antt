-- The first element that doesn't say where it comes from: an element in the body without
-- `data-parsoid`, or with the mark of an edit; or the body itself, where it has such a mark. Sections aren't
-- asked.
use Rattle.std.specs.Prelude.{ℕ, suc, ◌+◌, ◌&&◌, ◌||◌, Bool, not, Option, Some, None, List, codes, if◌then◌else◌}
use Rattle.std.specs.Option.{option_or}
use Rattle.wt_html_grammar.specs.Markup.{Pair, Markup, Markups, text, node, empty, more}
use Rattle.wt_schema.specs.declared.standing.Standing.{Standing}
use Rattle.wt_schema.specs.declared.standing.Standing.TheVariants as stands
use Rattle.wt_schema.specs.Attributes.{has}
use Rattle.wt_schema.specs.Groups.{standing, open_after}
use Rattle.wt_schema.specs.Fit.{BodyElement, elements, body_of}
use Rattle.wt_schema.specs.Sections.{is_section_name}

abbrev pub is_marked : List Pair → Bool
is_marked ps = has (codes "data-wt-edit") ps

abbrev pub is_unsourced : List Pair → Bool
is_unsourced ps = not (has (codes "data-parsoid") ps) || is_marked ps

-- an element of this name, with these attributes
abbrev pub lacks_source : List ℕ → List Pair → Bool
lacks_source name ps = not (is_section_name name) && is_unsourced ps

-- An element by how it is: a group's first element is asked for the group, and nothing else in a
-- group is.
abbrev pub unsourced_as : Standing → ℕ → Bool → Option ℕ → Option ℕ
unsourced_as stands.Alone n lacks inside = if lacks then Some n else inside
unsourced_as stands.First n lacks inside = if lacks then Some n else None
unsourced_as stands.Further n lacks inside = None
unsourced_as stands.Astray n lacks inside = if lacks then Some n else inside

-- the first in preorder, outside groups; `group` is the group that is open, and the first element of what
-- is given has number n
abbrev mutual
  pub unsourced_node : ℕ → Option (List ℕ) → Markup → Option ℕ
  unsourced_node n group (text bs) = None
  unsourced_node n group (node name ps c) = unsourced_as (standing group ps) n (lacks_source name ps) (unsourced_nodes (suc n) None c)

  pub unsourced_nodes : ℕ → Option (List ℕ) → Markups → Option ℕ
  unsourced_nodes n group empty = None
  unsourced_nodes n group (more t ts) = option_or (unsourced_node n group t) (unsourced_nodes (n + elements t) (open_after group t ts) ts)

abbrev pub unsourced_body : Option BodyElement → Option ℕ
unsourced_body None = None
unsourced_body (Some f) = if is_marked f.attributes then Some f.number else unsourced_nodes (suc f.number) None f.contents

abbrev pub unsourced : Markup → Option ℕ
unsourced m = unsourced_body (body_of m)
