-- Reading what was written to `data-mw` gives the value back.
use Rattle.std.proofs.Common.{◌≡◌, ◌<◌, ◌^◌, ◌++◌, ℕ, Bool, true, false, List, [], ◌∷◌, Some, None, map, refl, sym, ap, ◌∙◌, subst, append_assoc}
use Rattle.std.proofs.lemmas.Bool.{true≢false}
use Rattle.std.proofs.lemmas.List.{append-nil}
use Rattle.std.proofs.lemmas.Bool.Decides.{Decides-ltb}
use Rattle.std.specs.Prelude.{◌&&◌, Ok, is_some, nat_lt, unwrap_or, if◌then◌else◌}
use Rattle.std.specs.List.{AllByRecursion, list_all}
use Rattle.std.proofs.lemmas.List.Elements.{recursion_from_All}
use Rattle.std.specs.List.Sorted.{IsStrictlySortedBy}
use Rattle.std.specs.Ordering.{nat_cmp, match_ordering, ordering_reverse}
use Rattle.std.specs.Cmp.Lexicographic.{slice_cmp}
use Rattle.std.specs.declared.cmp.Ordering.{Ordering}
use Rattle.std.specs.declared.cmp.Ordering.TheVariants.{Less, Equal, Greater}
use Rattle.std.proofs.lemmas.Cmp.{nat_list_cmp_total}
use Rattle.serde_json.specs.Data.{Members, member, no_members, put}
use Rattle.wt_tree.specs.declared.node.DataMw.{DataMw}
use Rattle.wt_tree.specs.declared.node.DataMw.TheVariants as mw
use Rattle.wt_tree.specs.declared.node.Part.{Part}
use Rattle.wt_tree.specs.declared.node.Part.TheVariants as part
use Rattle.wt_datamw.specs.Mw.{wt_data, params_from, params_data, template_data, function_data, part_data, parts_items, mw_data}
use Rattle.wt_datamw.specs.SyncRead.{small}
use Rattle.wt_datamw.specs.MwRead.{all_items, all_values, is_source, is_part, is_mw_shape, part_is_small, has_small_numbers, params_of, template_of, function_of, part_of, parts_of, mw_of_data, HasOrderedParams, HasOrderedNames}
use Rattle.wt_datamw.specs.MwValues.{IsPart, IsMw}

abbrev pub Param : Type 0
Param = List ℕ × List ℕ

abbrev pub names : List Param → List (List ℕ)
names ps = map (λ p. p.0) ps

-- ---- parameters

-- the members that parameters in order are written as
unfoldable pub sources : List Param → Members
sources [] = no_members
sources (p ∷ ps) = member p.0 (wt_data p.1) (sources ps)

below_middle : (n : List ℕ) (done : List Param) (p : Param) (more : List Param)
    → AllByRecursion (λ y. slice_cmp nat_cmp n y ≡ Less) (names (done ++ p ∷ more)) → slice_cmp nat_cmp n p.0 ≡ Less
below_middle n [] p more h = h.0
below_middle n (d ∷ done) p more h = below_middle n done p more h.1

-- a name that is above those before it goes last
put_last : (done : List Param) (p : Param) (more : List Param) → IsStrictlySortedBy (slice_cmp nat_cmp) (names (done ++ p ∷ more))
    → put p.0 (wt_data p.1) (sources done) ≡ sources (done ++ p ∷ [])
unfolding IsStrictlySortedBy sources
put_last [] p more h = refl
put_last (d ∷ done) p more h =
    let above : slice_cmp nat_cmp p.0 d.0 ≡ Greater = nat_list_cmp_total.antisymm p.0 d.0 ∙ ap ordering_reverse (below_middle d.0 done p more h.0) in
    rw above (ap (member d.0 (wt_data d.1)) (put_last done p more h.1))

pub all_last : (done ps : List Param) → IsStrictlySortedBy (slice_cmp nat_cmp) (names (done ++ ps)) → params_from (sources done) ps ≡ sources (done ++ ps)
all_last done [] h = ap sources (sym (append-nil done))
all_last done (p ∷ ps) h =
    let joins : (done ++ p ∷ []) ++ ps ≡ done ++ p ∷ ps = append_assoc done (p ∷ []) ps in
    let sorted = subst (λ qs. IsStrictlySortedBy (slice_cmp nat_cmp) (names qs)) (sym joins) h in
    ap (λ ms. params_from ms ps) (put_last done p ps h) ∙ all_last (done ++ p ∷ []) ps sorted ∙ ap sources joins

params_of_sources : (ps : List Param) → params_of (sources ps) ≡ ps
unfolding sources
params_of_sources [] = refl
params_of_sources (p ∷ ps) = ap (λ (qs : List Param). p ∷ qs) (params_of_sources ps)

params_back : (ps : List Param) → IsStrictlySortedBy (slice_cmp nat_cmp) (names ps) → params_of (params_from no_members ps) ≡ ps
unfolding sources
params_back ps h = ap params_of (all_last [] ps h) ∙ params_of_sources ps

match_pass : (o : Ordering) (a b c : Members) → all_values is_source a ≡ true → all_values is_source b ≡ true
    → all_values is_source c ≡ true → all_values is_source (match_ordering o a b c) ≡ true
match_pass Less a b c e f g = e
match_pass Equal a b c e f g = f
match_pass Greater a b c e f g = g

and_left : (a b : Bool) → (a && b) ≡ true → a ≡ true
and_left true b e = refl
and_left false b e = e

and_right : (a b : Bool) → (a && b) ≡ true → b ≡ true
and_right true b e = e
and_right false b e = cc

and_true : (a b : Bool) → a ≡ true → b ≡ true → (a && b) ≡ true
and_true a b e f = ap (λ x. x && b) e ∙ f

put_passes : (k text : List ℕ) (ms : Members) → all_values is_source ms ≡ true → all_values is_source (put k (wt_data text) ms) ≡ true
put_passes k text no_members h = refl
put_passes k text (member l e ms) h =
    let first = and_left (is_source e) (all_values is_source ms) h in
    let more = and_right (is_source e) (all_values is_source ms) h in
    match_pass (slice_cmp nat_cmp k l) (member k (wt_data text) (member l e ms)) (member l (wt_data text) ms) (member l e (put k (wt_data text) ms))
    h more (and_true (is_source e) (all_values is_source (put k (wt_data text) ms)) first (put_passes k text ms more))

params_pass : (ps : List Param) (ms : Members) → all_values is_source ms ≡ true → all_values is_source (params_from ms ps) ≡ true
params_pass [] ms h = h
params_pass (p ∷ ps) ms h = params_pass ps (put p.0 (wt_data p.1) ms) (put_passes p.0 p.1 ms h)

-- ---- parts

pub template_small : (target href : List ℕ) (ps : List Param) (i : ℕ) → i < 2 ^ 32 → part_is_small (template_data target href ps i) ≡ true
unfolding template_data
template_small target href ps i h = rw ((Decides-ltb i (2 ^ 32)).1 h) refl

pub function_small : (name target : List ℕ) (ps : List Param) (i : ℕ) → i < 2 ^ 32 → part_is_small (function_data name target ps i) ≡ true
unfolding function_data
function_small name target ps i h = rw ((Decides-ltb i (2 ^ 32)).1 h) refl

part_passes : (p : Part) → HasOrderedParams p → is_part (part_data p) ≡ true
unfolding template_data function_data params_data
part_passes (part.Template target href ps i) h = rw (params_pass ps no_members refl) refl
part_passes (part.Function name target ps i) h = rw (params_pass ps no_members refl, h.0) refl
part_passes (part.Param source) h = refl
part_passes (part.Literal text) h = refl

parts_pass : (ps : List Part) → AllByRecursion HasOrderedParams ps → all_items is_part (parts_items ps) ≡ true
parts_pass [] h = refl
parts_pass (p ∷ ps) h = and_true (is_part (part_data p)) (all_items is_part (parts_items ps)) (part_passes p h.0) (parts_pass ps h.1)

small_back : (i : ℕ) (b : Bool) → is_some (if b then Some i else None) ≡ true → unwrap_or (if b then Some i else None) 0 ≡ i
small_back i true h = refl
small_back i false h = absurd (true≢false (sym h))

part_back : (p : Part) → part_is_small (part_data p) ≡ true → HasOrderedParams p → part_of (part_data p) ≡ p
unfolding template_data function_data params_data template_of function_of
part_back (part.Template target href ps i) small ordered =
    rw (params_back ps ordered, small_back i (nat_lt i (2 ^ 32)) small) refl
part_back (part.Function name target ps i) small ordered =
    rw (params_back ps ordered.1, small_back i (nat_lt i (2 ^ 32)) small) refl
part_back (part.Param source) small ordered = refl
part_back (part.Literal text) small ordered = refl

parts_back : (ps : List Part) → all_items part_is_small (parts_items ps) ≡ true → AllByRecursion HasOrderedParams ps → parts_of (parts_items ps) ≡ ps
parts_back [] small ordered = refl
parts_back (p ∷ ps) small ordered =
    let first = and_left (part_is_small (part_data p)) (all_items part_is_small (parts_items ps)) small in
    let more = and_right (part_is_small (part_data p)) (all_items part_is_small (parts_items ps)) small in
    rw (part_back p first ordered.0, parts_back ps more ordered.1) refl

pub parts_small : (ps : List Part) → list_all (λ p. part_is_small (part_data p)) ps ≡ true → all_items part_is_small (parts_items ps) ≡ true
parts_small [] h = refl
parts_small (p ∷ ps) h =
    let first = and_left (part_is_small (part_data p)) (list_all (λ p. part_is_small (part_data p)) ps) h in
    let more = and_right (part_is_small (part_data p)) (list_all (λ p. part_is_small (part_data p)) ps) h in
    and_true (part_is_small (part_data p)) (all_items part_is_small (parts_items ps)) first (parts_small ps more)

part_small : (p : Part) → IsPart p → part_is_small (part_data p) ≡ true
part_small (part.Template target href ps i) h = template_small target href ps i h.3
part_small (part.Function name target ps i) h = function_small name target ps i h.3
part_small (part.Param source) h = refl
part_small (part.Literal text) h = refl

parts_are_small : (ps : List Part) → AllByRecursion IsPart ps → all_items part_is_small (parts_items ps) ≡ true
parts_are_small [] h = refl
parts_are_small (p ∷ ps) h = and_true (part_is_small (part_data p)) (all_items part_is_small (parts_items ps)) (part_small p h.0) (parts_are_small ps h.1)

pub mw_small : (d : DataMw) → IsMw d → has_small_numbers (mw_data d) ≡ true
unfolding has_small_numbers
mw_small (mw.Parts ps) h = parts_are_small ps (recursion_from_All IsPart ps h)
mw_small (mw.Extension name None) h = refl
mw_small (mw.Extension name (Some body)) h = refl

pub reads_ordered : (d : DataMw) → has_small_numbers (mw_data d) ≡ true → HasOrderedNames d → mw_of_data (mw_data d) ≡ Ok d
unfolding mw_of_data is_mw_shape has_small_numbers
reads_ordered (mw.Parts ps) small ordered = rw (parts_pass ps ordered, small, parts_back ps small ordered) refl
reads_ordered (mw.Extension name None) small ordered = refl
reads_ordered (mw.Extension name (Some body)) small ordered = refl
