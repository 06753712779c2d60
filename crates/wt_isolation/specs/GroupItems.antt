-- The items of the page that are in a slice of it, and how the slice is read by itself: after a `<nowiki/>`, with what its
-- calls gave in the page.
use Rattle.std.specs.Prelude.{ℕ, ◌+◌, ◌&&◌, Bool, false, not, Option, Some, None, List, [], ◌∷◌, ◌++◌, length, nat_le, slice_get, codes, if◌then◌else◌}
use Rattle.wt_span.specs.declared.form.ItemForm.TheVariants as form
use Rattle.wt_span.specs.Items.{Item, char, whole, source, call_of}
use Rattle.wt_span.specs.Origins.{OuterCall, Span, same_call, span_of_entry}
use Rattle.wt_span.specs.Characters as byte
use Rattle.wt_expand.specs.Expansion.{opens_block}
use Rattle.wt_tree.specs.declared.kind.Ranges.{Ranges}

-- ---- the items of a slice

-- where an item is in the page: at its own bytes, or where its call does
abbrev pub span_by : List OuterCall → ℕ → ℕ → Option ℕ → Span
span_by calls at n None = (at, at + n)
span_by calls at n (Some k) = span_of_entry (slice_get calls k)

abbrev pub span_at : List OuterCall → ℕ → Item → Span
span_at calls at x = span_by calls at (length (source x)) (call_of x)

abbrev pub lies_in : Ranges → Span → Bool
lies_in r s = nat_le r.start s.0 && nat_le s.1 r.end

-- of items that are in the page from this byte on, those that lie in the slice
abbrev pub items_in : List OuterCall → Ranges → ℕ → List Item → List Item
items_in calls r at [] = []
items_in calls r at (x ∷ xs) =
    let s = span_at calls at x in
    if lies_in r s then x ∷ items_in calls r s.1 xs else items_in calls r s.1 xs

-- ---- a call at the beginning

-- what one call gave, at the beginning of items
abbrev pub given_first : ℕ → List Item → List Item
given_first k [] = []
given_first k (x ∷ xs) = if same_call (Some k) (call_of x) then x ∷ given_first k xs else []

abbrev pub is_template : Option OuterCall → Bool
is_template None = false
is_template (Some c) = not c.argument

-- the call is a template, and what it gave opens a block at the start of a line
abbrev pub needs_break : List OuterCall → ℕ → List Item → Bool
needs_break calls k given = is_template (slice_get calls k) && opens_block given

abbrev pub break_of : List OuterCall → Option ℕ → List Item → List Item
break_of calls None xs = []
break_of calls (Some k) xs = if needs_break calls k (given_first k xs) then char (Some k) byte.line_break ∷ [] else []

abbrev pub break_before : List OuterCall → List Item → List Item
break_before calls [] = []
break_before calls (x ∷ xs) = break_of calls (call_of x) (x ∷ xs)

-- The line break before a call that opens a block is taken anew, since the call isn't at the start of a line here.
abbrev pub with_break_anew : List OuterCall → List Item → List Item
with_break_anew calls xs = break_before calls xs ++ xs

-- ---- a slice by itself

-- a `nowiki` that holds nothing
unfoldable pub empty_nowiki : Item
empty_nowiki = whole form.Nowiki None (codes "<nowiki/>")

-- the items of a slice on a line of its own, directly after `<nowiki/>`
abbrev pub items_alone : List OuterCall → List Item → Ranges → List Item
items_alone calls all r = empty_nowiki ∷ with_break_anew calls (items_in calls r 0 all)
