-- The content as it is read from the left: characters, and nodes by what they write and what they are to their neighbours.
use Rattle.std.specs.Prelude.{ℕ, Bool, true, false, List, [], ◌∷◌, map, Option, Some, None}
use Rattle.std.specs.Str.{chars}
use Rattle.wt_guards.specs.declared.role.Role.{Role}
use Rattle.wt_guards.specs.declared.role.Role.TheVariants.{Link, External, Bare, Switch, Toggle, Mark, Group, Function, Node}
use Rattle.wt_guards.specs.declared.role.Stretch.{Stretch}
use Rattle.wt_guards.specs.declared.side.Side.{Side}
use Rattle.wt_guards.specs.declared.side.Side.TheVariants as side

-- A node of the content, or one delimiter of a style: what it is, what it writes, and where it is in the page, if it does.
pub record Thing : Type 0 where
  pub role : Role
  pub source : List ℕ
  pub place : Option Stretch

-- A sign of the content is a character of text or a node. The signs before a place are listed from the place on to the left,
-- those after it from the place on to the right.
pub data ContentSign : Type 0 where
  letter : ℕ → ContentSign
  thing : Thing → ContentSign

-- the sign next to the place
abbrev pub nearest : List ContentSign → Option ContentSign
nearest [] = None
nearest (s ∷ signs) = Some s

-- the characters of a text
abbrev pub letters : List ℕ → List ContentSign
letters text = map letter (chars text)

-- how its neighbours see it
abbrev pub side_of : Role → Side
side_of Link = side.Link
side_of External = side.Node
side_of (Bare ends) = side.Bare
side_of Switch = side.Switch
side_of Toggle = side.Toggle
side_of (Mark ends began) = side.Node
side_of (Group g) = side.Group g.slashes
side_of Function = side.Node
side_of Node = side.Node

-- a mark whose source ends with a line break: a line begins after it
abbrev pub ends_line : Role → Bool
ends_line Link = false
ends_line External = false
ends_line (Bare ends) = false
ends_line Switch = false
ends_line Toggle = false
ends_line (Mark ends began) = ends
ends_line (Group g) = false
ends_line Function = false
ends_line Node = false

-- a mark, or a group that counts as one since all its items are invisible
abbrev pub is_invisible : Role → Bool
is_invisible Link = false
is_invisible External = false
is_invisible (Bare ends) = false
is_invisible Switch = false
is_invisible Toggle = false
is_invisible (Mark ends began) = true
is_invisible (Group g) = g.is_invisible
is_invisible Function = false
is_invisible Node = false

abbrev pub is_group : Role → Bool
is_group Link = false
is_group External = false
is_group (Bare ends) = false
is_group Switch = false
is_group Toggle = false
is_group (Mark ends began) = false
is_group (Group g) = true
is_group Function = false
is_group Node = false

-- a group that shows spaces and tabs alone
abbrev pub shows_blanks : Role → Bool
shows_blanks Link = false
shows_blanks External = false
shows_blanks (Bare ends) = false
shows_blanks Switch = false
shows_blanks Toggle = false
shows_blanks (Mark ends began) = false
shows_blanks (Group g) = g.is_blank
shows_blanks Function = false
shows_blanks Node = false

abbrev pub is_function : Role → Bool
is_function Link = false
is_function External = false
is_function (Bare ends) = false
is_function Switch = false
is_function Toggle = false
is_function (Mark ends began) = false
is_function (Group g) = false
is_function Function = true
is_function Node = false
