-- Which neighbours may not be next to each other: the table of pairs, a row for what is on the left and in it a cell for
-- what is on the right, and the characters that may not begin a line.
use Rattle.std.specs.Prelude.{ℕ, Bool, true, false, not, ◌||◌, ◌&&◌, ◌==◌}
use Rattle.std.specs.Char.{is_ascii_alphanumeric, is_ascii_lowercase}
use Rattle.wt_span.specs.Bytes.{is_blank, is_white}
use Rattle.wt_span.specs.Characters as byte
use Rattle.wt_guards.specs.declared.side.Side.{Side}
use Rattle.wt_guards.specs.declared.side.Side.TheVariants.{Edge, Text, Link, Bare, Switch, Group, Toggle, Node}

-- an ASCII letter, a digit or `_`: a URL doesn't begin after it
abbrev pub is_word : ℕ → Bool
is_word c = is_ascii_alphanumeric c || c == byte.underscore

-- an ASCII lower-case letter: it joins the link before it
abbrev pub is_trail : ℕ → Bool
is_trail c = is_ascii_lowercase c

-- after these a group may be: a space, a tab, `(`, `,`, or the start of a line
abbrev pub leads_group : ℕ → Bool
leads_group c = is_white c || (c == byte.opening_parenthesis || c == byte.comma)

-- `,` `;` `.` `?` `)`: these end a URL
abbrev pub ends_url : ℕ → Bool
ends_url c = c == byte.comma || (c == byte.semicolon || (c == byte.full_stop || (c == byte.question_mark || c == byte.closing_parenthesis)))

-- these may be after a group: a space, a tab, the end of a line, and where it shows no `//` also what ends a URL
abbrev pub follows_group : Bool → ℕ → Bool
follows_group slashes c = is_white c || (not slashes && ends_url c)

abbrev pub after_edge : Side → Bool
after_edge Edge = false
after_edge (Text c) = false
after_edge Link = false
after_edge Bare = false
after_edge Switch = false
after_edge (Group s) = false
after_edge Toggle = false
after_edge Node = false

abbrev pub after_text : ℕ → Side → Bool
after_text c Edge = false
after_text c (Text d) = false
after_text c Link = false
after_text c Bare = is_word c
after_text c Switch = false
after_text c (Group s) = not (leads_group c)
after_text c Toggle = false
after_text c Node = false

abbrev pub after_link : Side → Bool
after_link Edge = false
after_link (Text c) = is_trail c
after_link Link = false
after_link Bare = true
after_link Switch = false
after_link (Group s) = true
after_link Toggle = false
after_link Node = false

abbrev pub after_bare : Side → Bool
after_bare Edge = false
after_bare (Text c) = not (is_white c)
after_bare Link = true
after_bare Bare = true
after_bare Switch = true
after_bare (Group s) = true
after_bare Toggle = true
after_bare Node = true

abbrev pub after_switch : Side → Bool
after_switch Edge = false
after_switch (Text c) = false
after_switch Link = false
after_switch Bare = true
after_switch Switch = false
after_switch (Group s) = true
after_switch Toggle = false
after_switch Node = false

abbrev pub after_group : Bool → Side → Bool
after_group slashes Edge = false
after_group slashes (Text c) = not (follows_group slashes c)
after_group slashes Link = true
after_group slashes Bare = true
after_group slashes Switch = true
after_group slashes (Group s) = true
after_group slashes Toggle = true
after_group slashes Node = true

abbrev pub after_toggle : Side → Bool
after_toggle Edge = false
after_toggle (Text c) = false
after_toggle Link = false
after_toggle Bare = true
after_toggle Switch = false
after_toggle (Group s) = true
after_toggle Toggle = true
after_toggle Node = false

abbrev pub after_node : Side → Bool
after_node Edge = false
after_node (Text c) = false
after_node Link = false
after_node Bare = false
after_node Switch = false
after_node (Group s) = true
after_node Toggle = false
after_node Node = false

-- These two may not be next to each other.
unfoldable pub hazard : Side → Side → Bool
hazard Edge right = after_edge right
hazard (Text c) right = after_text c right
hazard Link right = after_link right
hazard Bare right = after_bare right
hazard Switch right = after_switch right
hazard (Group slashes) right = after_group slashes right
hazard Toggle right = after_toggle right
hazard Node right = after_node right

-- a space, a tab, `=` `*` `#` `:` `;` `-` `!`: at the start of a line these begin a block of another kind
unfoldable pub line_start_hazard : ℕ → Bool
line_start_hazard c = is_blank c || (c == byte.equals_sign || (c == byte.asterisk || (c == byte.hash || (c == byte.colon || (c == byte.semicolon || (c == byte.hyphen || c == byte.exclamation_mark))))))
