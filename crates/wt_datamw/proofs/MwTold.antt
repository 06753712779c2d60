-- The text of `data-mw` is read as the value that it was written for.
use Rattle.std.proofs.Common.{◌≡◌, ℕ, ◌≤◌, List, [], ◌∷◌, Some, None, refl, sym, ap, ◌∙◌, subst, arith}
use Rattle.std.specs.Prelude.{Ok, option_map}
use Rattle.std.specs.List.{AllByRecursion}
use Rattle.std.proofs.lemmas.List.Elements.{recursion_from_All}
use Rattle.std.specs.List.Sorted.{IsStrictlySortedBy}
use Rattle.std.specs.Ordering.{nat_cmp, match_ordering, ordering_reverse}
use Rattle.std.specs.Cmp.Lexicographic.{slice_cmp}
use Rattle.std.specs.declared.cmp.Ordering.{Ordering}
use Rattle.std.specs.declared.cmp.Ordering.TheVariants.{Less, Equal, Greater}
use Rattle.std.proofs.lemmas.Cmp.{nat_list_cmp_total}
use Rattle.json.specs.Tree as tree
use Rattle.json.proofs.Printed.Decimals.{IsNumber-decimal}
use Rattle.serde_json.specs.Data.{object, Members, no_members, member, put}
use Rattle.serde_json.specs.Read.{of_json, of_items, of_members, read}
use Rattle.serde_json.specs.Written.{outline, items_outline, members_outline}
use Rattle.serde_json.proofs.Numbers.{number_of-decimal}
use Rattle.wt_tree.specs.declared.node.DataMw.{DataMw}
use Rattle.wt_tree.specs.declared.node.DataMw.TheVariants as mw
use Rattle.wt_tree.specs.declared.node.Part.{Part}
use Rattle.wt_tree.specs.declared.node.Part.TheVariants as part
use Rattle.wt_datamw.specs.Mw.{wt_data, params_from, params_data, template_data, function_data, part_data, parts_items, mw_data, mw_text}
use Rattle.wt_datamw.specs.MwRead.{mw_of_json, mw_told, HasOrderedNames}
use Rattle.wt_datamw.specs.MwValues.{IsPart, IsMw}
use Rattle.wt_datamw.proofs.MwBack.{Param, names, sources, all_last, mw_small, reads_ordered}
use Rattle.wt_datamw.proofs.SyncTold.{json_read}

-- ---- parameters in byte order

-- a parameter at its place among those in order
unfoldable placed : Param → List Param → List Param
placed p [] = p ∷ []
placed p (q ∷ qs) = match_ordering (slice_cmp nat_cmp p.0 q.0) (p ∷ q ∷ qs) ((q.0, p.1) ∷ qs) (q ∷ placed p qs)

match_sources : (o : Ordering) (a b c : List Param) → sources (match_ordering o a b c) ≡ match_ordering o (sources a) (sources b) (sources c)
match_sources Less a b c = refl
match_sources Equal a b c = refl
match_sources Greater a b c = refl

placed_sources : (p : Param) (qs : List Param) → sources (placed p qs) ≡ put p.0 (wt_data p.1) (sources qs)
unfolding sources placed
placed_sources p [] = refl
placed_sources p (q ∷ qs) =
    let o = slice_cmp nat_cmp p.0 q.0 in
    match_sources o (p ∷ q ∷ qs) ((q.0, p.1) ∷ qs) (q ∷ placed p qs)
    ∙ ap (λ ms. match_ordering o (sources (p ∷ q ∷ qs)) (member q.0 (wt_data p.1) (sources qs)) (member q.0 (wt_data q.1) ms)) (placed_sources p qs)

abbrev Below : List ℕ → List Param → Type 0
Below n ps = AllByRecursion (λ y. slice_cmp nat_cmp n y ≡ Less) (names ps)

abbrev AreSorted : List Param → Type 0
AreSorted ps = IsStrictlySortedBy (slice_cmp nat_cmp) (names ps)

below_match : (n : List ℕ) (o : Ordering) (a b c : List Param) → Below n a → Below n b → Below n c → Below n (match_ordering o a b c)
below_match n Less a b c e f g = e
below_match n Equal a b c e f g = f
below_match n Greater a b c e f g = g

below_placed : (n : List ℕ) (p : Param) (qs : List Param) → slice_cmp nat_cmp n p.0 ≡ Less → Below n qs → Below n (placed p qs)
unfolding placed
below_placed n p [] e h = (e, tt)
below_placed n p (q ∷ qs) e h =
    below_match n (slice_cmp nat_cmp p.0 q.0) (p ∷ q ∷ qs) ((q.0, p.1) ∷ qs) (q ∷ placed p qs) (e, h) h (h.0, below_placed n p qs e h.1)

below_more : (m n : List ℕ) (qs : List Param) → slice_cmp nat_cmp m n ≡ Less → Below n qs → Below m qs
below_more m n [] e h = tt
below_more m n (q ∷ qs) e h = (nat_list_cmp_total.trans m n q.0 e h.0, below_more m n qs e h.1)

by_order : (P : List Param → Type 0) (o : Ordering) (a b c : List Param) → (o ≡ Less → P a) → (o ≡ Equal → P b) → (o ≡ Greater → P c) → P (match_ordering o a b c)
by_order P Less a b c e f g = e refl
by_order P Equal a b c e f g = f refl
by_order P Greater a b c e f g = g refl

placed_sorted : (p : Param) (qs : List Param) → AreSorted qs → AreSorted (placed p qs)
unfolding placed IsStrictlySortedBy
placed_sorted p [] s = (tt, tt)
placed_sorted p (q ∷ qs) s =
    by_order AreSorted (slice_cmp nat_cmp p.0 q.0) (p ∷ q ∷ qs) ((q.0, p.1) ∷ qs) (q ∷ placed p qs)
    (λ e. ((e, below_more p.0 q.0 qs e s.0), s)) (λ e. s)
    (λ e. (below_placed q.0 p qs (nat_list_cmp_total.antisymm q.0 p.0 ∙ ap ordering_reverse e) s.0, placed_sorted p qs s.1))

unfoldable all_placed : List Param → List Param → List Param
all_placed qs [] = qs
all_placed qs (p ∷ ps) = all_placed (placed p qs) ps

all_placed_sources : (qs ps : List Param) → params_from (sources qs) ps ≡ sources (all_placed qs ps)
unfolding all_placed
all_placed_sources qs [] = refl
all_placed_sources qs (p ∷ ps) = ap (λ ms. params_from ms ps) (sym (placed_sources p qs)) ∙ all_placed_sources (placed p qs) ps

all_placed_sorted : (qs ps : List Param) → AreSorted qs → AreSorted (all_placed qs ps)
unfolding all_placed
all_placed_sorted qs [] s = s
all_placed_sorted qs (p ∷ ps) s = all_placed_sorted (placed p qs) ps (placed_sorted p qs s)

in_order : (ps : List Param) → params_from no_members ps ≡ sources (all_placed [] ps)
unfolding sources
in_order ps = all_placed_sources [] ps

-- ---- parameters are read

sources_read : (ps : List Param) (found : Members) → of_members (members_outline (sources ps)) found ≡ Some (params_from found ps)
unfolding sources
sources_read [] found = refl
sources_read (p ∷ ps) found = sources_read ps (put p.0 (wt_data p.1) found)

sorted_read : (ps : List Param) → AreSorted ps → of_json (outline (object (sources ps))) ≡ Some (object (sources ps))
unfolding sources
sorted_read ps s = ap (option_map object) (sources_read ps no_members ∙ ap Some (all_last [] ps s))

params_read : (ps : List Param) → of_json (outline (params_data ps)) ≡ Some (params_data ps)
unfolding params_data IsStrictlySortedBy
params_read ps =
    subst (λ ms. of_json (outline (object ms)) ≡ Some (object ms)) (sym (in_order ps)) (sorted_read (all_placed [] ps) (all_placed_sorted [] ps tt))

-- ---- parts are read

part_read : (p : Part) → IsPart p → of_json (outline (part_data p)) ≡ Some (part_data p)
unfolding template_data function_data
part_read (part.Template target href ps i) h = rw (number_of-decimal i (omega (arith, h.3)), params_read ps) refl
part_read (part.Function name target ps i) h = rw (number_of-decimal i (omega (arith, h.3)), params_read ps) refl
part_read (part.Param source) h = refl
part_read (part.Literal text) h = refl

parts_read : (ps : List Part) → AllByRecursion IsPart ps → of_items (items_outline (parts_items ps)) ≡ Some (parts_items ps)
parts_read [] h = refl
parts_read (p ∷ ps) h = rw (part_read p h.0, parts_read ps h.1) refl

data_read : (d : DataMw) → IsMw d → of_json (outline (mw_data d)) ≡ Some (mw_data d)
data_read (mw.Parts ps) h = rw (parts_read ps (recursion_from_All IsPart ps h)) refl
data_read (mw.Extension name None) h = refl
data_read (mw.Extension name (Some body)) h = refl

-- ---- numbers and depth

sources_numbers : (ps : List Param) → tree.MembersHaveNumbers (members_outline (sources ps))
unfolding sources
sources_numbers [] = tt
sources_numbers (p ∷ ps) = ((tt, tt), sources_numbers ps)

params_numbers : (ps : List Param) → tree.HasNumbers (outline (params_data ps))
unfolding params_data
params_numbers ps = subst (λ ms. tree.MembersHaveNumbers (members_outline ms)) (sym (in_order ps)) (sources_numbers (all_placed [] ps))

part_numbers : (p : Part) → IsPart p → tree.HasNumbers (outline (part_data p))
unfolding template_data function_data
part_numbers (part.Template target href ps i) h = ((IsNumber-decimal i (omega (arith, h.3)), (params_numbers ps, ((tt, (tt, tt)), tt))), tt)
part_numbers (part.Function name target ps i) h = ((IsNumber-decimal i (omega (arith, h.3)), (params_numbers ps, ((tt, (tt, tt)), tt))), tt)
part_numbers (part.Param source) h = ((tt, tt), tt)
part_numbers (part.Literal text) h = tt

parts_numbers : (ps : List Part) → AllByRecursion IsPart ps → tree.ItemsHaveNumbers (items_outline (parts_items ps))
parts_numbers [] h = tt
parts_numbers (p ∷ ps) h = (part_numbers p h.0, parts_numbers ps h.1)

data_numbers : (d : DataMw) → IsMw d → tree.HasNumbers (outline (mw_data d))
data_numbers (mw.Parts ps) h = (parts_numbers ps (recursion_from_All IsPart ps h), tt)
data_numbers (mw.Extension name None) h = (tt, tt)
data_numbers (mw.Extension name (Some body)) h = ((tt, tt), (tt, tt))

sources_depth : (ps : List Param) → tree.members_depth (members_outline (sources ps)) ≤ 1
unfolding sources
sources_depth [] = omega arith
sources_depth (p ∷ ps) = omega (arith, sources_depth ps)

params_depth : (ps : List Param) → tree.depth (outline (params_data ps)) ≤ 2
unfolding params_data
params_depth ps =
    let below : tree.members_depth (members_outline (params_from no_members ps)) ≤ 1 =
    subst (λ ms. tree.members_depth (members_outline ms) ≤ 1) (sym (in_order ps)) (sources_depth (all_placed [] ps)) in
    omega (arith, below)

part_depth : (p : Part) → tree.depth (outline (part_data p)) ≤ 5
unfolding template_data function_data
part_depth (part.Template target href ps i) = omega (arith, params_depth ps)
part_depth (part.Function name target ps i) = omega (arith, params_depth ps)
part_depth (part.Param source) = omega arith
part_depth (part.Literal text) = omega arith

parts_depth : (ps : List Part) → tree.items_depth (items_outline (parts_items ps)) ≤ 5
parts_depth [] = omega arith
parts_depth (p ∷ ps) = omega (arith, part_depth p, parts_depth ps)

data_depth : (d : DataMw) → tree.depth (outline (mw_data d)) ≤ 7
data_depth (mw.Parts ps) = omega (arith, parts_depth ps)
data_depth (mw.Extension name None) = omega arith
data_depth (mw.Extension name (Some body)) = omega arith

pub mw_read : (d : DataMw) → IsMw d → read (mw_text d) ≡ Some (mw_data d)
unfolding mw_text
mw_read d h = json_read (mw_data d) (data_numbers d h) (omega (arith, data_depth d)) (data_read d h)

pub mw_back : (d : DataMw) → IsMw d → HasOrderedNames d → mw_told (mw_text d) ≡ Ok d
unfolding mw_told
mw_back d h ordered = ap mw_of_json (mw_read d h) ∙ reads_ordered d (mw_small d h) ordered
