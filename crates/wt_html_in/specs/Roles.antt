-- What each text and element is among its siblings.
use Rattle.std.specs.Prelude.{ℕ, Option, None, List, [], ◌∷◌, codes, if◌then◌else◌}
use Rattle.std.specs.Option.{option_map}
use Rattle.wt_tree.specs.declared.kind.Kind.{Kind}
use Rattle.wt_html_grammar.specs.Markup.{Markup, Markups, text, node, empty, more}
use Rattle.wt_schema.specs.declared.standing.Standing.{Standing}
use Rattle.wt_schema.specs.declared.standing.Standing.TheVariants as stands
use Rattle.wt_schema.specs.Attributes.{value_of}
use Rattle.wt_schema.specs.Groups.{Piece, single, standing, is_dropped, open_by, open_after}
use Rattle.wt_schema.specs.Fit.{leaf_in}
use Rattle.wt_html_in.specs.declared.roles.Role.{Role}
use Rattle.wt_html_in.specs.declared.roles.Role.TheVariants as are

abbrev pub text_role : Option (List ℕ) → List ℕ → Markups → Role
text_role group bs ts = if is_dropped group bs ts then are.Gap else are.Text

abbrev pub role_at : Option (List ℕ) → Markup → Markups → Role
role_at group (text bs) ts = text_role group bs ts
role_at group (node name ps c) ts = are.Element (standing group ps)

abbrev pub roles : Option (List ℕ) → Markups → List Role
roles group empty = []
roles group (more t ts) = role_at group t ts ∷ roles (open_after group t ts) ts

-- how an element of this role is
abbrev pub standing_in : Role → Standing
standing_in are.Gap = stands.Alone
standing_in are.Text = stands.Alone
standing_in (are.Element s) = s

-- the `about` of an element; a text has none
abbrev pub about_of : Markup → Option (List ℕ)
about_of (text bs) = None
about_of (node name ps c) = value_of (codes "about") ps

-- the group that is open after a text or an element of this role
abbrev pub open_behind : Role → Option (List ℕ) → Markup → Option (List ℕ)
open_behind are.Gap group m = group
open_behind are.Text group m = None
open_behind (are.Element s) group m = open_by s group (about_of m)

-- what a text of this role is in a parent of this kind
abbrev pub text_piece : Role → Kind → List ℕ → Option Piece
text_piece are.Gap k bs = None
text_piece are.Text k bs = option_map single (leaf_in k bs)
text_piece (are.Element s) k bs = option_map single (leaf_in k bs)
