-- Nodes on a line, lists, preformatted text and rules are neither paragraphs nor headings, nor tables or parts of one.
use Rattle.std.proofs.Common.{arith, ◌≡◌, ℕ, zero, suc, ◌+◌, ◌-◌, Bool, true, false, Option, Some, None, List, [], ◌∷◌, ◌++◌, length, take, drop, map, refl, sym, ap, subst}
use Rattle.std.specs.Prelude.{◌==◌, if◌then◌else◌}
use Rattle.std.specs.List.{AllByRecursion, flat_map}
use Rattle.wt_tree.specs.declared.kind.Kind.TheVariants as kind
use Rattle.wt_span.specs.declared.form.ItemForm.{ItemForm}
use Rattle.wt_span.specs.declared.form.ItemForm.TheVariants as form
use Rattle.wt_span.specs.Items.{Item, char, whole}
use Rattle.wt_span.specs.Runs.{runs}
use Rattle.wt_tiles.specs.declared.context.Context.{Context}
use Rattle.wt_tiles.specs.declared.shape.Shape.{Shape}
use Rattle.wt_tiles.specs.declared.shape.TileKind.{TileKind}
use Rattle.wt_tiles.specs.declared.shape.TileKind.TheVariants as tile
use Rattle.wt_tiles.specs.declared.tag.Name.{Name}
use Rattle.wt_tiles.specs.declared.tag.Name.TheVariants.{Paired, Break, Island}
use Rattle.wt_tiles.specs.declared.tag.Tag.{Tag}
use Rattle.wt_tiles.specs.Contexts.{in_line, in_text}
use Rattle.wt_tiles.specs.Tags.{tag_at}
use Rattle.wt_tiles.specs.Tiles.{tiles}
use Rattle.wt_quotes.specs.Styles.{style_tree_of}
use Rattle.wt_quotes.specs.Forest.{Forest, bare, grown, forest_of}
use Rattle.wt_inline.specs.declared.loose.Loose.{Loose}
use Rattle.wt_inline.specs.declared.loose.Loose.TheVariants.{Text, Sep}
use Rattle.wt_inline.specs.Inside.{opened_all}
use Rattle.wt_inline.specs.ItemTree.{Head, plain, ItemTree, inner, tree_items}
use Rattle.wt_inline.specs.Parts.{Part, loose, node, held_parts, part, parts, whole_tree, nowiki}
use Rattle.wt_inline.proofs.HeldLaws.{held_of_parts}
use Rattle.wt_context.specs.Heads.{glyphs, placeholder, link_head, category_head, ext_link_head, bare_url_head, pair_by_name, pair_by, pair_head, switch_head}
use Rattle.wt_context.specs.Segments.{Segment, one_stretch, loose_segment, loose_segments, segment_parts}
use Rattle.wt_context.specs.Chunks.{chunks}
use Rattle.wt_context.specs.Styled.{style_kind, between, style_node, styled, with_styles}
use Rattle.wt_context.specs.Nodes.{Reading, opening_of, inside_of, closing_of, trail_of, link_by, bare_url, nested_tree, tile_tree, segments_by, tile_segments, segments}
use Rattle.wt_context.specs.Line.{within, context_parts, line_parts}
use Rattle.wt_context.proofs.LineHolding.{line_holds}
use Rattle.wt_context.proofs.Opening.{opened_twice}
use Rattle.wt_blocks.specs.ListTree.{ListTree, node as list_node, ListTrees, none, more, forest as list_forest}
use Rattle.wt_blocks.specs.Nesting.{nested}
use Rattle.wt_page.specs.Rows.{Row, all_items}
use Rattle.wt_page.specs.Stretches.{Stretch, gap, block, stretch_parts, stretches_parts, front_len, front_gaps, past_front, block_len, opened_by, enclosed}
use Rattle.wt_page.specs.Lists.{with_blanks, item_opening_len, term_len, item_kind, list_kind, item_by, line_item, begins_at, row_at, list_stretches, all_lists, prefixes, lists}
use Rattle.wt_page.specs.Texts.{pre, rule}
use Rattle.wt_page.proofs.Held.{kept}
use Rattle.wt_page.proofs.HeldLists.{of_lists}
use Rattle.wt_called_edit_laws.proofs.AllTold.Found.{size, tree_size, size_both, Housing, another, housing_of, ByHousing, FoundIn, FoundAll, FoundParts, parts_to}

-- ---- lists

all_both : {A : Type 0} (P : A → Type 0) (xs ys : List A) → AllByRecursion P xs → AllByRecursion P ys → AllByRecursion P (xs ++ ys)
all_both P [] ys h g = g
all_both P (x ∷ xs) ys h g = (h.0, all_both P xs ys h.1 g)

all_taken : {A : Type 0} (P : A → Type 0) (n : ℕ) (xs : List A) → AllByRecursion P xs → AllByRecursion P (take n xs)
all_taken P zero xs h = tt
all_taken P (suc n) [] h = tt
all_taken P (suc n) (x ∷ xs) h = (h.0, all_taken P n xs h.1)

all_dropped : {A : Type 0} (P : A → Type 0) (n : ℕ) (xs : List A) → AllByRecursion P xs → AllByRecursion P (drop n xs)
all_dropped P zero xs h = h
all_dropped P (suc n) [] h = tt
all_dropped P (suc n) (x ∷ xs) h = all_dropped P n xs h.1

all_mapped : {A B : Type 0} (P : B → Type 0) (f : A → B) → ((x : A) → P (f x)) → (xs : List A) → AllByRecursion P (map f xs)
all_mapped P f h [] = tt
all_mapped P f h (x ∷ xs) = (h x, all_mapped P f h xs)

all_flat : {A B : Type 0} (P : B → Type 0) (f : A → List B) → ((x : A) → AllByRecursion P (f x)) → (xs : List A) → AllByRecursion P (flat_map f xs)
all_flat P f h [] = tt
all_flat P f h (x ∷ xs) = all_both P (f x) (flat_map f xs) (h x) (all_flat P f h xs)

-- ---- parts without blocks

abbrev pub IsOther : ItemTree → Type 0
IsOther (inner h o ts c) = housing_of h.kind ≡ another

abbrev pub IsOtherPart : Part → Type 0
IsOtherPart (loose k o b) = Unit {0}
IsOtherPart (node t) = IsOther t

abbrev pub AreOther : List Part → Type 0
AreOther ps = AllByRecursion IsOtherPart ps

other_in : (P : ℕ → ItemTree → Type 0) (at : ℕ) (t : ItemTree) → IsOther t → FoundIn P at t
other_in P at (inner h o ts c) e =
    subst (λ (v : Housing). ByHousing v (P at (inner h o ts c)) ((to : ℕ) × FoundAll P (at + size o) ts to)) (sym e) tt

pub other_found : (P : ℕ → ItemTree → Type 0) (at : ℕ) (ps : List Part) → AreOther ps → FoundParts P at ps (at + size (held_parts ps))
other_found P at [] h = omega arith
other_found P at (loose k o b ∷ ps) h =
    let m : ℕ = size (held_parts ps) in
    let z : (at + 1) + m ≡ at + suc m = omega arith in
    parts_to P (at + 1) ((at + 1) + m) (at + suc m) ps z (other_found P (at + 1) ps h.1)
other_found P at (node t ∷ ps) h =
    let n : ℕ = at + tree_size t in
    let z : n + size (held_parts ps) ≡ at + size (tree_items t ++ held_parts ps) = omega (arith, size_both (tree_items t) (held_parts ps)) in
    (other_in P at t h.0, parts_to P n (n + size (held_parts ps)) (at + size (tree_items t ++ held_parts ps)) ps z (other_found P n ps h.1))

-- ---- items by themselves

whole_other : (f : ItemForm) (o : Option ℕ) (bs : List ℕ) → IsOther (whole_tree f o bs)
unfolding nowiki
whole_other form.Chars o bs = refl
whole_other (form.Entity c) o bs = refl
whole_other form.Nowiki o bs = refl
whole_other form.Extension o bs = refl
whole_other form.Function o bs = refl
whole_other form.Comment o bs = refl
whole_other form.Include o bs = refl
whole_other form.Hidden o bs = refl
whole_other form.EmptyCall o bs = refl

item_other : (k : Loose) (x : Item) → IsOtherPart (part k x)
item_other k (char o b) = tt
item_other k (whole f o bs) = whole_other f o bs

items_other : (k : Loose) (xs : List Item) → AreOther (parts k xs)
items_other k xs = all_mapped IsOtherPart (part k) (item_other k) xs

pub opened_size : (xs : List Item) → size (opened_all xs) ≡ size xs
opened_size xs = ap length (opened_twice xs)

-- separators
pub gap_found : (P : ℕ → ItemTree → Type 0) (at : ℕ) (xs : List Item) → FoundParts P at (parts Sep xs) (at + size xs)
gap_found P at xs =
    let z : at + size (held_parts (parts Sep xs)) ≡ at + size xs = omega (arith, ap size (held_of_parts Sep xs), opened_size xs) in
    parts_to P at (at + size (held_parts (parts Sep xs))) (at + size xs) (parts Sep xs) z (other_found P at (parts Sep xs) (items_other Sep xs))

-- ---- segments

abbrev HasOther : Segment → Type 0
HasOther u = AreOther u.parts

loose_other : (xs : List Item) → AllByRecursion HasOther (loose_segments xs)
unfolding loose_segments
loose_other xs = all_mapped HasOther loose_segment (λ r. items_other Text r) (runs one_stretch xs)

link_other : (n : ℕ) (xs opening closing trail : List Item) (ps : List Part) → IsOther (link_by (link_head xs) n opening closing trail ps)
unfolding link_head
link_other n xs opening closing trail ps = by_test (n == 0)
  where
    by_test : (t : Bool) → IsOther
        (if t then link_by (link_head xs) 0 opening closing trail ps else link_by (link_head xs) 1 opening closing trail ps)
    by_test true = refl
    by_test false = refl

name_other : (m : Name) (opening : List Item) → housing_of (pair_by_name m opening).kind ≡ another
unfolding placeholder
name_other (Paired m) opening = refl
name_other Break opening = refl
name_other Island opening = refl

pair_other : (o : Option Tag) (opening : List Item) → housing_of (pair_by o opening).kind ≡ another
unfolding placeholder
pair_other None opening = refl
pair_other (Some t) opening = name_other t.name opening

tile_other : (read : Reading) (cx : Context) (w : Shape) (xs : List Item) (k : TileKind) → AllByRecursion HasOther (segments_by (tile_tree read cx k w xs) xs)
unfolding nested_tree category_head switch_head placeholder bare_url bare_url_head ext_link_head pair_head
tile_other read cx w xs tile.Link = ((link_other w.trail xs (opening_of w xs) (closing_of w xs) (trail_of w xs) (read (in_text cx) (inside_of w xs)), tt), tt)
tile_other read cx w xs tile.Category = ((refl, tt), tt)
tile_other read cx w xs tile.Media = ((refl, tt), tt)
tile_other read cx w xs tile.ExtLink = ((refl, tt), tt)
tile_other read cx w xs tile.BareUrl = ((refl, tt), tt)
tile_other read cx w xs tile.Br = ((refl, tt), tt)
tile_other read cx w xs tile.Pair = ((pair_other (tag_at (glyphs (opening_of w xs))) (opening_of w xs), tt), tt)
tile_other read cx w xs tile.TagIsland = ((refl, tt), tt)
tile_other read cx w xs tile.Switch = ((refl, tt), tt)
tile_other read cx w xs tile.Atom = loose_other xs
tile_other read cx w xs tile.Mark = loose_other xs
tile_other read cx w xs tile.Chars = loose_other xs

one_tile : (read : Reading) (cx : Context) (p : Shape × List Item) → AllByRecursion HasOther (tile_segments read cx p)
one_tile read cx (w, xs) = tile_other read cx w xs w.kind

segments_other : (read : Reading) (cx : Context) (xs : List Item) → AllByRecursion HasOther (segments read cx xs)
unfolding segments
segments_other read cx xs = all_flat HasOther (tile_segments read cx) (one_tile read cx) (tiles cx xs)

-- ---- styles

parts_other : (us : List Segment) → AllByRecursion HasOther us → AreOther (segment_parts us)
parts_other [] h = tt
parts_other (u ∷ us) h = all_both IsOtherPart u.parts (segment_parts us) h.0 (parts_other us h.1)

between_other : (from to : ℕ) (us : List Segment) → AllByRecursion HasOther us → AreOther (segment_parts (between from to us))
between_other from to us h =
    parts_other (between from to us) (all_taken HasOther (to - from) (drop from us) (all_dropped HasOther from us h))

style_other : (b : Bool) → housing_of (style_kind b) ≡ another
style_other true = refl
style_other false = refl

styled_other : (low high : ℕ) (f : Forest) (us : List Segment) → AllByRecursion HasOther us → AreOther (styled low high f us)
styled_other low high bare us h = between_other low high us h
styled_other low high (grown s inside after) us h =
    all_both IsOtherPart (segment_parts (between low s.from us))
    (node (style_node s (styled (s.from + s.open_w) (s.to - s.close_w) inside us) us) ∷ styled s.to high after us)
    (between_other low s.from us h) (style_other s.bold, styled_other s.to high after us h)

styles_other : (us : List Segment) → AllByRecursion HasOther us → AreOther (with_styles us)
unfolding with_styles
styles_other us h = styled_other 0 (length us) (forest_of (style_tree_of (chunks us))) us h

-- ---- lines

context_other : (n : ℕ) (cx : Context) (xs : List Item) → AreOther (within n cx xs)
context_other zero cx xs = items_other Text xs
context_other (suc n) cx xs = styles_other (segments (within n) cx xs) (segments_other (within n) cx xs)

line_other : (xs : List Item) → AreOther (line_parts xs)
unfolding context_parts
line_other xs = context_other 18 in_line xs

pub line_found : (P : ℕ → ItemTree → Type 0) (at : ℕ) (xs : List Item) → FoundParts P at (line_parts xs) (at + size xs)
line_found P at xs =
    let z : at + size (held_parts (line_parts xs)) ≡ at + size xs = omega (arith, ap length (line_holds xs)) in
    parts_to P at (at + size (held_parts (line_parts xs))) (at + size xs) (line_parts xs) z (other_found P at (line_parts xs) (line_other xs))

-- ---- stretches

abbrev AreBare : List Stretch → Type 0
AreBare ss = AllByRecursion (λ (s : Stretch). AreOther (stretch_parts s)) ss

bare_parts : (ss : List Stretch) → AreBare ss → AreOther (stretches_parts ss)
bare_parts [] h = tt
bare_parts (s ∷ ss) h = all_both IsOtherPart (stretch_parts s) (stretches_parts ss) h.0 (bare_parts ss h.1)

abbrev Bare : Stretch → Type 0
Bare s = AreOther (stretch_parts s)

gap_bare : (xs : List Item) → Bare (gap xs)
gap_bare xs = items_other Sep xs

opened_bare : (h : Head) (o : List Item) (ss : List Stretch) → housing_of h.kind ≡ another → AreBare ss → AreBare (opened_by h o ss)
opened_bare h o ss e b = ((e, tt), all_dropped Bare (block_len ss) ss b)

enclosed_bare : (h : Head) (ss : List Stretch) → housing_of h.kind ≡ another → AreBare ss → AreBare (enclosed h ss)
enclosed_bare h ss e b =
    all_both Bare (front_gaps ss) (opened_by h [] (past_front ss)) (all_taken Bare (front_len ss) ss b)
    (opened_bare h [] (past_front ss) e (all_dropped Bare (front_len ss) ss b))

-- ---- lists

list_other : (sign : ℕ) → housing_of (list_kind sign) ≡ another
list_other sign = by (sign == 42) (sign == 35)
  where
    by : (a b : Bool) → housing_of (if a then kind.Ul else if b then kind.Ol else kind.Dl) ≡ another
    by true b = refl
    by false true = refl
    by false false = refl

member_other : (sign : ℕ) → housing_of (item_kind sign) ≡ another
member_other sign = by (sign == 59) (sign == 58)
  where
    by : (a b : Bool) → housing_of (if a then kind.Dt else if b then kind.Dd else kind.Li) ≡ another
    by true b = refl
    by false true = refl
    by false false = refl

item_bare : (sign : ℕ) (n : Option ℕ) (opening xs : List Item) (ss : List Stretch) → AreBare ss → AreBare (item_by sign n opening xs ss)
item_bare sign None opening xs ss b = opened_bare (plain (item_kind sign)) opening (block (line_parts xs) ∷ ss) (member_other sign) (line_other xs, b)
item_bare sign (Some n) opening xs ss b =
    let rest : List Item = drop n xs in
    let colon : ℕ = with_blanks 1 rest in
    ((refl, tt), opened_bare (plain kind.Dd) (take colon rest) (block (line_parts (drop colon rest)) ∷ ss) refl (line_other (drop colon rest), b))

line_item_bare : (sign : ℕ) (r : Row) (ss : List Stretch) → AreBare ss → AreBare (line_item sign r ss)
unfolding line_item
line_item_bare sign r ss b =
    let n : ℕ = item_opening_len r.items in
    let xs : List Item = drop n r.items in
    (gap_bare r.lead, item_bare sign (term_len sign xs) (take n r.items) xs (gap r.ending ∷ ss) (gap_bare r.ending, b))

own_bare : (own : Bool) (sign : ℕ) (r : Row) (ss : List Stretch) → AreBare ss
    → AreBare (if own then enclosed (plain (item_kind sign)) ss else line_item sign r ss)
own_bare true sign r ss b = enclosed_bare (plain (item_kind sign)) ss (member_other sign) b
own_bare false sign r ss b = line_item_bare sign r ss b

mutual
  list_bare : (rs : List Row) (t : ListTree) → AreBare (list_stretches rs t)
  list_bare rs (list_node false sign line ts) = enclosed_bare (plain (list_kind sign)) (all_lists rs ts) (list_other sign) (lists_bare rs ts)
  list_bare rs (list_node true sign line ts) = own_bare (begins_at line ts) sign (row_at rs line) (all_lists rs ts) (lists_bare rs ts)

  lists_bare : (rs : List Row) (ts : ListTrees) → AreBare (all_lists rs ts)
  lists_bare rs none = tt
  lists_bare rs (more t ts) = all_both Bare (list_stretches rs t) (all_lists rs ts) (list_bare rs t) (lists_bare rs ts)

-- ---- blocks that are no paragraphs and headings

-- what stretches hold is as long as this
pub bare_found : (P : ℕ → ItemTree → Type 0) (at : ℕ) (ss : List Stretch) (xs : List Item) → AreBare ss → kept ss ≡ opened_all xs
    → FoundParts P at (stretches_parts ss) (at + size xs)
bare_found P at ss xs b e =
    let ps : List Part = stretches_parts ss in
    let z : at + size (held_parts ps) ≡ at + size xs = omega (arith, sym (opened_size (held_parts ps)), ap size e, opened_size xs) in
    parts_to P at (at + size (held_parts ps)) (at + size xs) ps z (other_found P at ps (bare_parts ss b))

pub lists_found : (P : ℕ → ItemTree → Type 0) (at : ℕ) (rs : List Row) → FoundParts P at (stretches_parts (lists rs)) (at + size (all_items rs))
unfolding lists
lists_found P at rs = bare_found P at (lists rs) (all_items rs) (lists_bare rs (list_forest (nested (prefixes rs)))) (of_lists rs)

pub around_bare : (xs ys : List Item) (t : ItemTree) → IsOther t → AreBare (gap xs ∷ block (node t ∷ []) ∷ gap ys ∷ [])
around_bare xs ys t e = (gap_bare xs, ((e, tt), (gap_bare ys, tt)))

pub pre_other : (rs : List Row) → IsOther (pre rs)
unfolding pre
pre_other rs = refl

pub rule_other : (xs : List Item) → IsOther (rule xs)
unfolding rule
rule_other xs = refl
