-- What is doubtful in a page: for each kind, what it is found for and with which range.
use Rattle.std.specs.Prelude.{ℕ, ◌-◌, ◌==◌, ◌&&◌, ◌||◌, not, Bool, true, false, List, [], ◌∷◌, ◌++◌, length, take, slice_index, Option, Some, None, if◌then◌else◌}
use Rattle.std.specs.List.{flat_map, prefix_len}
use Rattle.std.specs.BTreeSet.{insert_key}
use Rattle.std.specs.Ordering.{ordering_then, nat_cmp}
use Rattle.std.specs.declared.cmp.Ordering.{Ordering}
use Rattle.wt_span.specs.Bytes.{is_blank}
use Rattle.wt_span.specs.Characters as byte
use Rattle.wt_annotated.specs.Slices.{slice}
use Rattle.wt_tree.specs.declared.kind.Ranges.{Ranges}
use Rattle.wt_tree.specs.Tree.{Label, Tree}
use Rattle.wt_lint.specs.declared.finding.Kind.{Kind}
use Rattle.wt_lint.specs.declared.finding.Kind.TheVariants.{OpenStyle, OpenTable, StrayTableEnd, OpenTag, StrayTag, OpenBraces, StrayBraces, OpenLink, StrayLinkEnd, UnequalHeading, RepeatedCategory}
use Rattle.wt_lint.specs.declared.place.Place.{Place}
use Rattle.wt_lint.specs.declared.place.Sort.{Sort}
use Rattle.wt_lint.specs.Bytes.{suffix_len, is_equals}
use Rattle.wt_lint.specs.Categories.{title_of, is_among, noted}
use Rattle.wt_lint.specs.Found.{Span, KindAndRange, as_all}
use Rattle.wt_lint.specs.Kinds.{kinds, rank}
use Rattle.wt_lint.specs.Nodes.{Stand, nodes, top, sort_of, is_style, is_group, is_table, is_text, is_island, is_heading, is_category}
use Rattle.wt_lint.specs.Tags.{is_open_tag, is_closing_tag}
use Rattle.wt_lint.specs.Texts.{when, runs, pairs, table_ends}

-- ---- styles and tables

-- no closing delimiter
abbrev pub is_unclosed : Ranges → Bool
is_unclosed r = r.close_w == 0

-- no closing delimiter, and no apostrophe after it
abbrev pub is_open_style : List ℕ → Ranges → Bool
is_open_style page r = is_unclosed r && not (slice_index page r.end == byte.apostrophe)

abbrev pub is_empty : Ranges → Bool
is_empty r = r.start == r.end

-- ---- headings

abbrev pub is_sign : ℕ → Bool
is_sign b = is_equals b || is_blank b

-- `=`, spaces and tabs alone
abbrev pub is_plain : List ℕ → Bool
is_plain [] = true
is_plain (b ∷ bs) = is_sign b && is_plain bs

-- how many `=` the last run of a text has
abbrev pub signs_behind : List ℕ → ℕ
signs_behind bs = suffix_len is_equals (take (length bs - suffix_len (λ b. not (is_equals b)) bs) bs)

-- the close delimiter is plain, and the first run and the last one differ in length
abbrev pub is_unequal : List ℕ → Ranges → Bool
is_unequal page r =
    let source = slice page r.start r.end in
    is_plain (slice page (r.end - r.close_w) r.end) && not (prefix_len is_equals source == signs_behind source)

-- ---- all kinds

-- the range of a whole node, where it is so
abbrev pub whole : Bool → Ranges → List Span
whole is r = when is ((r.start, r.end) ∷ [])

-- of a text that is directly in a paragraph, each end of a table
abbrev pub stray_ends : List ℕ → Option ℕ → Ranges → List Span
stray_ends page None r = []
stray_ends page (Some from) r = table_ends page from r.start (slice page r.start r.end)

-- What is found of a kind at a node of this sort, label and range, which is at this place after categories of these titles.
abbrev pub found : List ℕ → List (List ℕ) → Place → Sort → Label → Ranges → Kind → List Span
found page titles p s l r OpenStyle = whole ((is_style s && is_open_style page r) || (is_group s && is_empty r)) r
found page titles p s l r OpenTable = whole (is_table s && is_unclosed r) r
found page titles p s l r StrayTableEnd = when (is_text s) (stray_ends page p.paragraph r)
found page titles p s l r OpenTag = whole (is_island s && is_open_tag (slice page r.start r.end)) r
found page titles p s l r StrayTag = whole (is_island s && is_closing_tag (slice page r.start r.end)) r
found page titles p s l r OpenBraces = when (is_text s && not p.in_nowiki) (runs 123 r.start false (slice page r.start r.end))
found page titles p s l r StrayBraces = when (is_text s && not p.in_nowiki) (runs 125 r.start false (slice page r.start r.end))
found page titles p s l r OpenLink = when (is_text s && not p.in_nowiki) (pairs 91 r.start (slice page r.start r.end))
found page titles p s l r StrayLinkEnd = when (is_text s && not p.in_nowiki) (pairs 93 r.start (slice page r.start r.end))
found page titles p s l r UnequalHeading = whole (is_heading s && is_unequal page r) r
found page titles p s l r RepeatedCategory = whole (is_category s && is_among (title_of l) titles) r

-- ---- all nodes

-- all that is found at a node of this range
abbrev pub at_range : List ℕ → List (List ℕ) → Place → Label → Ranges → List KindAndRange
at_range page titles p l r = flat_map (λ k. as_all k (found page titles p (sort_of l.kind) l r k)) kinds

abbrev pub at_ranges : List ℕ → List (List ℕ) → Place → Label → Option Ranges → List KindAndRange
at_ranges page titles p l None = []
at_ranges page titles p l (Some r) = at_range page titles p l r

-- the titles of categories up to and with a node, each once
abbrev pub titles_after : Label → List (List ℕ) → List (List ℕ)
titles_after l titles = if is_category (sort_of l.kind) then noted (title_of l) titles else titles

-- all that is found at these nodes, after categories of these titles
abbrev pub found_from : List ℕ → List (List ℕ) → List Stand → List KindAndRange
found_from page titles [] = []
found_from page titles ((p, l) ∷ ns) = at_ranges page titles p l l.ranges ++ found_from page (titles_after l titles) ns

abbrev pub titles_from : List (List ℕ) → List Stand → List (List ℕ)
titles_from titles [] = titles
titles_from titles ((p, l) ∷ ns) = titles_from (titles_after l titles) ns

-- all that is found in the tree of a page
abbrev pub all_found : List ℕ → Tree → List KindAndRange
all_found page t = found_from page [] (nodes top t)

-- ---- in order

-- by the start, then the end, then the kind
abbrev pub order_of : KindAndRange → KindAndRange → Ordering
order_of f g = ordering_then (nat_cmp f.1.0 g.1.0) (ordering_then (nat_cmp f.1.1 g.1.1) (nat_cmp (rank f.0) (rank g.0)))

-- each of these at its place among those that are in order, unless it is there
abbrev pub put_all : List KindAndRange → List KindAndRange → List KindAndRange
put_all gs [] = gs
put_all gs (f ∷ fs) = put_all (insert_key order_of gs f) fs

-- in order, each once
abbrev pub in_order : List KindAndRange → List KindAndRange
in_order fs = put_all [] fs
