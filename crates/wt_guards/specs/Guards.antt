-- Where `<nowiki/>` is put: at the starts and ends of lines, and between two signs. A place is given by the signs before it and
-- those after it.
use Rattle.std.specs.Prelude.{ℕ, ◌+◌, Bool, true, false, not, ◌||◌, ◌&&◌, ◌==◌, nat_eq, Option, Some, None, List, [], ◌∷◌, ◌++◌, length, if◌then◌else◌, codes, slice_get}
use Rattle.std.specs.List.{ends_with}
use Rattle.wt_span.specs.Bytes.{is_blank}
use Rattle.wt_span.specs.Characters as byte
use Rattle.wt_guards.specs.declared.role.Role.{Role}
use Rattle.wt_guards.specs.declared.role.Role.TheVariants.{Link, External, Bare, Switch, Toggle, Mark, Group, Function, Node}
use Rattle.wt_guards.specs.declared.role.Stretch.{Stretch}
use Rattle.wt_guards.specs.declared.role.Transclusion.{Transclusion}
use Rattle.wt_tree.specs.declared.edit_shape.Place.{Place}
use Rattle.wt_tree.specs.declared.edit_shape.Place.TheVariants as place
use Rattle.wt_guards.specs.declared.side.Side.{Side}
use Rattle.wt_guards.specs.declared.side.Side.TheVariants as side
use Rattle.wt_guards.specs.Table.{hazard, line_start_hazard}
use Rattle.wt_guards.specs.Content.{Thing, ContentSign, letter, thing, nearest, side_of, ends_line, is_invisible, is_group, is_function}
use Rattle.wt_guards.specs.Letters.{is_end, written}

-- ---- a node

-- where a node ends in the page, and where it starts
abbrev pub end_of : Option Stretch → Option ℕ
end_of None = None
end_of (Some s) = Some s.end

abbrev pub start_of : Option Stretch → Option ℕ
start_of None = None
start_of (Some s) = Some s.start

abbrev pub is_this : Option ℕ → ℕ → Bool
is_this None c = false
is_this (Some d) c = d == c

abbrev pub is_reached : Option ℕ → Option ℕ → Bool
is_reached None start = false
is_reached (Some at) start = is_this start at

-- Its source ends with `{`, which would make a longer run of the braces of a call or function after it.
abbrev pub has_brace_last : List ℕ → Bool
has_brace_last source = ends_with nat_eq source (byte.opening_brace ∷ [])

-- ---- starts of lines

-- A line begins at the content's start, after a line break, and after a mark whose source ends with one.
abbrev pub is_line_start : Option ContentSign → Bool
is_line_start None = true
is_line_start (Some (letter c)) = c == byte.line_break
is_line_start (Some (thing t)) = ends_line t.role

-- The line has no character but spaces and tabs from here on, and no node but marks.
abbrev pub is_empty_line : List ContentSign → Bool
is_empty_line [] = true
is_empty_line (letter c ∷ after) = c == byte.line_break || (is_blank c && is_empty_line after)
is_empty_line (thing t ∷ after) = ends_line t.role || (is_invisible t.role && is_empty_line after)

-- the next sign is a mark whose source ends with a line break, before which nothing is put
abbrev pub is_line_mark_next : Option ContentSign → Bool
is_line_mark_next None = false
is_line_mark_next (Some (letter c)) = false
is_line_mark_next (Some (thing t)) = ends_line t.role

-- nothing but marks is between the line's start and this place
abbrev pub is_line_begun : List ContentSign → Bool
is_line_begun [] = true
is_line_begun (letter c ∷ before) = c == byte.line_break
is_line_begun (thing t ∷ before) = ends_line t.role || (is_invisible t.role && is_line_begun before)

-- the next sign is a character that may not begin a line
abbrev pub is_start_hazard : Option ContentSign → Bool
is_start_hazard None = false
is_start_hazard (Some (letter c)) = line_start_hazard c
is_start_hazard (Some (thing t)) = false

-- a group, or a mark whose source doesn't end with a line break, that wasn't at the start of its line or of the content
abbrev pub is_new_at_start : Role → Bool
is_new_at_start Link = false
is_new_at_start External = false
is_new_at_start (Bare ends) = false
is_new_at_start Switch = false
is_new_at_start Toggle = false
is_new_at_start (Mark ends began) = not ends && not began
is_new_at_start (Group g) = not g.began_line
is_new_at_start Function = false
is_new_at_start Node = false

abbrev pub is_new_next : Option ContentSign → Bool
is_new_next None = false
is_new_next (Some (letter c)) = false
is_new_next (Some (thing t)) = is_new_at_start t.role

unfoldable pub is_start_guard : List ContentSign → List ContentSign → Bool
is_start_guard before after =
    (is_line_start (nearest before) && ((is_empty_line after && not (is_line_mark_next (nearest after))) || is_new_next (nearest after)))
    || (is_line_begun before && is_start_hazard (nearest after))

-- ---- ends of lines

-- the content ends here, or the line
abbrev pub is_line_end : Option ContentSign → Bool
is_line_end None = true
is_line_end (Some (letter c)) = c == byte.line_break
is_line_end (Some (thing t)) = false

-- a group that didn't end its line in the page, or a bare URL that ends with `=`
abbrev pub is_new_at_end : Role → Bool
is_new_at_end Link = false
is_new_at_end External = false
is_new_at_end (Bare ends) = ends
is_new_at_end Switch = false
is_new_at_end Toggle = false
is_new_at_end (Mark ends began) = false
is_new_at_end (Group g) = not g.ended_line
is_new_at_end Function = false
is_new_at_end Node = false

-- the last sign of the line, past spaces, tabs and marks, is such a node
abbrev pub is_unended : List ContentSign → Bool
is_unended [] = false
is_unended (letter c ∷ before) = is_blank c && is_unended before
is_unended (thing t ∷ before) = if is_invisible t.role then is_unended before else is_new_at_end t.role

abbrev pub is_blank_last : Option ContentSign → Bool
is_blank_last None = false
is_blank_last (Some (letter c)) = is_blank c
is_blank_last (Some (thing t)) = false

-- a group that didn't end the content in the page
abbrev pub is_new_last : Role → Bool
is_new_last Link = false
is_new_last External = false
is_new_last (Bare ends) = false
is_new_last Switch = false
is_new_last Toggle = false
is_new_last (Mark ends began) = false
is_new_last (Group g) = not g.ended_content
is_new_last Function = false
is_new_last Node = false

abbrev pub is_group_last : Option ContentSign → Bool
is_group_last None = false
is_group_last (Some (letter c)) = false
is_group_last (Some (thing t)) = is_new_last t.role

-- A node that ends with `{` and didn't end the paragraph, of which this is the source: a paragraph has no delimiters.
abbrev pub is_brace_last : List ℕ → Option ContentSign → Bool
is_brace_last source None = false
is_brace_last source (Some (letter c)) = false
is_brace_last source (Some (thing t)) = has_brace_last t.source && not (is_reached (end_of t.place) (Some (length source)))

-- At the content's end `<nowiki/>` keeps a last space or tab; and in a paragraph a group from being all of it, and a last `{` from
-- the braces of a call after the paragraph.
abbrev pub is_content_end_guard : List ℕ → Place → Option ContentSign → Bool
is_content_end_guard source place.Paragraph last = is_group_last last || is_brace_last source last
is_content_end_guard source place.Heading last = is_blank_last last
is_content_end_guard source place.Item last = is_blank_last last
is_content_end_guard source place.Term last = is_blank_last last
is_content_end_guard source place.Cell last = is_blank_last last
is_content_end_guard source place.Header last = is_blank_last last

unfoldable pub is_end_guard : List ℕ → Place → List ContentSign → List ContentSign → Bool
is_end_guard source p before after =
    (is_line_end (nearest after) && is_unended before) || (is_end (nearest after) && is_content_end_guard source p (nearest before))

-- ---- a text of spaces and tabs alone before a group

-- the nearest sign, past spaces, tabs and marks that don't end a line, is a node that passes the test
abbrev pub is_nearest : (Role → Bool) → List ContentSign → Bool
is_nearest test [] = false
is_nearest test (letter c ∷ signs) = is_blank c && is_nearest test signs
is_nearest test (thing t ∷ signs) = if is_invisible t.role && not (ends_line t.role) then is_nearest test signs else test t.role

abbrev pub is_group_or_bare : Role → Bool
is_group_or_bare Link = false
is_group_or_bare External = false
is_group_or_bare (Bare ends) = true
is_group_or_bare Switch = false
is_group_or_bare Toggle = false
is_group_or_bare (Mark ends began) = false
is_group_or_bare (Group g) = true
is_group_or_bare Function = false
is_group_or_bare Node = false

-- only spaces and tabs are between the last node and this place
abbrev pub is_past_node : List ContentSign → Bool
is_past_node [] = false
is_past_node (letter c ∷ before) = is_blank c && is_past_node before
is_past_node (thing t ∷ before) = true

-- after this character, where the source has it here
abbrev pub past : List ℕ → ℕ → Option ℕ → Option ℕ
past source c None = None
past source c (Some at) = if is_this (slice_get source at) c then Some (at + 1) else None

-- Where one comes in the page from the end of the last node on, where the page goes on with the characters that are here.
abbrev pub reached : List ℕ → List ContentSign → Option ℕ
reached source [] = None
reached source (letter c ∷ before) = past source c (reached source before)
reached source (thing t ∷ before) = end_of t.place

-- The next sign is a node, and the page has the same text between the last node and this one.
abbrev pub is_new_text_next : Option ℕ → Option ContentSign → Bool
is_new_text_next at None = false
is_new_text_next at (Some (letter c)) = false
is_new_text_next at (Some (thing t)) = not (is_reached at (start_of t.place))

-- After a text of spaces and tabs alone between a group or a bare URL and a group, unless the page has it there.
unfoldable pub is_blank_guard : List ℕ → List ContentSign → List ContentSign → Bool
is_blank_guard source before after =
    is_blank_last (nearest before) && (is_past_node before
    && (is_nearest is_group_or_bare before && (is_nearest is_group after && is_new_text_next (reached source before) (nearest after))))

-- ---- between two signs

abbrev pub is_mark : Role → Bool
is_mark Link = false
is_mark External = false
is_mark (Bare ends) = false
is_mark Switch = false
is_mark Toggle = false
is_mark (Mark ends began) = true
is_mark (Group g) = false
is_mark Function = false
is_mark Node = false

-- What these are parted from wherever they were in the page: a group from a group, unless the nearest items round their place in the page are
-- both `=`; a group from a URL; a style delimiter from another one, and from a group whose item next to it is an apostrophe.
abbrev pub is_parted_from_group : Transclusion → Role → Bool
is_parted_from_group g Link = false
is_parted_from_group g External = true
is_parted_from_group g (Bare ends) = true
is_parted_from_group g Switch = false
is_parted_from_group g Toggle = g.closes_with_apostrophe
is_parted_from_group g (Mark ends began) = false
is_parted_from_group g (Group h) = not h.between_equals
is_parted_from_group g Function = false
is_parted_from_group g Node = false

abbrev pub is_parted_from_toggle : Role → Bool
is_parted_from_toggle Link = false
is_parted_from_toggle External = false
is_parted_from_toggle (Bare ends) = false
is_parted_from_toggle Switch = false
is_parted_from_toggle Toggle = true
is_parted_from_toggle (Mark ends began) = false
is_parted_from_toggle (Group h) = h.opens_with_apostrophe
is_parted_from_toggle Function = false
is_parted_from_toggle Node = false

abbrev pub is_always_parted : Role → Role → Bool
is_always_parted Link right = false
is_always_parted External right = is_group right
is_always_parted (Bare ends) right = is_group right
is_always_parted Switch right = false
is_always_parted Toggle right = is_parted_from_toggle right
is_always_parted (Mark ends began) right = false
is_always_parted (Group g) right = is_parted_from_group g right
is_always_parted Function right = false
is_always_parted Node right = false

-- both was in the page, the second where the first one ends
abbrev pub is_adjacent : Thing → Thing → Bool
is_adjacent a b = is_reached (end_of a.place) (start_of b.place)

-- what is on the left: after a mark that ends a line there is none, since a line begins there
abbrev pub left_side : Role → Side
left_side r = if ends_line r then side.Edge else side_of r

-- Two nodes: a function is parted from a `{`; marks from each other, unless they were next to each other or the first one ends a
-- line; and others by the table, unless they were next to each other and aren't always parted.
unfoldable pub is_parted : Thing → Thing → Bool
is_parted a b =
    if is_function b.role && has_brace_last a.source then true
    else if is_mark a.role && is_mark b.role then not (ends_line a.role) && not (is_adjacent a b)
    else hazard (left_side a.role) (side_of b.role) && (is_always_parted a.role b.role || not (is_adjacent a b))

-- the sign on the left, and then the one on the right
abbrev pub is_parted_from_letter : ℕ → Option ContentSign → Bool
is_parted_from_letter c None = false
is_parted_from_letter c (Some (letter d)) = false
is_parted_from_letter c (Some (thing b)) = hazard (side.Text c) (side_of b.role)

abbrev pub is_parted_from_thing : Thing → Option ContentSign → Bool
is_parted_from_thing a None = false
is_parted_from_thing a (Some (letter d)) = hazard (left_side a.role) (side.Text d)
is_parted_from_thing a (Some (thing b)) = is_parted a b

unfoldable pub is_between_guard : Option ContentSign → Option ContentSign → Bool
is_between_guard None next = false
is_between_guard (Some (letter c)) next = is_parted_from_letter c next
is_between_guard (Some (thing a)) next = is_parted_from_thing a next

-- ---- all guards, and the content

-- What the spelling of a content depends on: whether it is the inside of a link or tag, where no line begins or ends; what it
-- is in; and the source of its block in the page.
pub record Setting : Type 0 where
  pub within : Bool
  pub place : Place
  pub source : List ℕ

unfoldable pub is_guarded : Setting → List ContentSign → List ContentSign → Bool
is_guarded s before after =
    is_between_guard (nearest before) (nearest after) ||
    (not s.within && (is_start_guard before after || (is_end_guard s.source s.place before after || is_blank_guard s.source before after)))

unfoldable pub nowiki : List ℕ
nowiki = codes "<nowiki/>"

abbrev pub nowiki_if : Bool → List ℕ
nowiki_if true = nowiki
nowiki_if false = []

abbrev pub sign_written : Setting → List ContentSign → ContentSign → List ContentSign → List ℕ
sign_written s before (letter c) after = written s.within s.place before c after
sign_written s before (thing t) after = t.source

-- The content from a place on: `<nowiki/>` where a guard holds, the next sign as it is written, and the rest.
abbrev pub spelled_from : Setting → List ContentSign → List ContentSign → List ℕ
spelled_from s before [] = nowiki_if (is_guarded s before [])
spelled_from s before (sign ∷ after) =
    nowiki_if (is_guarded s before (sign ∷ after)) ++ (sign_written s before sign after ++ spelled_from s (sign ∷ before) after)

abbrev pub spelled : Setting → List ContentSign → List ℕ
spelled s signs = spelled_from s [] signs
