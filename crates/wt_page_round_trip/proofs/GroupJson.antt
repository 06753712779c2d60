-- The JSON of a group's parts: it is UTF-8, and read as what was written.
use Rattle.std.proofs.Common.{◌≡◌, ℕ, ◌<◌, ◌≤◌, ◌^◌, ◌++◌, true, Some, List, [], ◌∷◌, map, IsUtf8, refl, sym, ap, ap₂, ◌∙◌, subst, arith, codes, append_assoc, append-nil}
use Rattle.std.specs.Prelude.{◌&&◌, suc, max}
use Rattle.std.specs.List.{AllByRecursion, list_all}
use Rattle.std.specs.List.Sorted.{IsStrictlySortedBy}
use Rattle.std.specs.Ordering.{nat_cmp, match_ordering, ordering_reverse}
use Rattle.std.specs.Cmp.Lexicographic.{slice_cmp}
use Rattle.std.specs.declared.cmp.Ordering.{Ordering}
use Rattle.std.specs.declared.cmp.Ordering.TheVariants.{Less, Equal, Greater}
use Rattle.std.proofs.lemmas.Cmp.{nat_list_cmp_total}
use Rattle.json.specs.Tree as tree
use Rattle.json.proofs.Printed.Decimals.{IsNumber-decimal}
use Rattle.json.proofs.Printed.Utf8.{IsUtf8-are_ascii}
use Rattle.serde_json.specs.Data.{Num, unsigned, negative, float, Data, null, boolean, number, string, array, object, Items, no_items, item, Members, no_members, member, put, depth, items_depth, members_depth}
use Rattle.serde_json.specs.Read.{of_json, of_items, of_members, max_depth}
use Rattle.serde_json.specs.Written.{outline, items_outline, members_outline}
use Rattle.serde_json.proofs.Numbers.{number_of-decimal}
use Rattle.wt_tree.specs.declared.node.DataMw.TheVariants as mw
use Rattle.wt_tree.specs.declared.node.Part.{Part}
use Rattle.wt_tree.specs.declared.node.Part.TheVariants as part
use Rattle.wt_datamw.specs.Mw.{wt_data, params_from, params_data, template_data, function_data, part_data, parts_items, mw_data, mw_text}
use Rattle.wt_datamw.specs.MwRead.{is_function_name, part_is_small, has_small_numbers, HasOrderedParams, mw_of_json, mw_told}
use Rattle.wt_datamw.proofs.Mws.{mw_depth}
use Rattle.wt_datamw.proofs.MwBack.{template_small, function_small, parts_small, reads_ordered}
use Rattle.wt_datamw.proofs.SyncTold.{json_read}
use Rattle.wt_schema.specs.Written.{HasParts}
use Rattle.wt_schema.proofs.Json.{HasUtf8, ItemsHaveUtf8, MembersHaveUtf8, data_utf8}

abbrev Param : Type 0
Param = List ℕ × List ℕ

abbrev names : List Param → List (List ℕ)
names ps = map (λ p. p.0) ps

-- a name and a value in UTF-8
abbrev pub IsTextParam : List ℕ × List ℕ → Type 0
IsTextParam p = IsUtf8 p.0 × IsUtf8 p.1

-- the name of a parser function, which is UTF-8
abbrev pub IsFunctionName : List ℕ → Type 0
IsFunctionName name = IsUtf8 name × (is_function_name name ≡ true)

-- the texts of a part are UTF-8, its parameters have names that rise, and its number is below 2^32
abbrev pub IsTextPart : Part → Type 0
IsTextPart (part.Template target href params i) =
    IsUtf8 target × IsUtf8 href × AllByRecursion IsTextParam params × IsStrictlySortedBy (slice_cmp nat_cmp) (map (λ p. p.0) params) × (i < 2 ^ 32)
IsTextPart (part.Function name target params i) =
    IsFunctionName name × IsUtf8 target × AllByRecursion IsTextParam params × IsStrictlySortedBy (slice_cmp nat_cmp) (map (λ p. p.0) params) × (i < 2 ^ 32)
IsTextPart (part.Param source) = IsUtf8 source
IsTextPart (part.Literal text) = IsUtf8 text

-- ---- data of any kind

mutual
  outline_depth : (d : Data) → tree.depth (outline d) ≡ depth d
  outline_depth null = refl
  outline_depth (boolean b) = refl
  outline_depth (number n) = refl
  outline_depth (string s) = refl
  outline_depth (array ds) = ap suc (items_outline_depth ds)
  outline_depth (object ms) = ap suc (members_outline_depth ms)

  items_outline_depth : (ds : Items) → tree.items_depth (items_outline ds) ≡ items_depth ds
  items_outline_depth no_items = refl
  items_outline_depth (item d ds) = ap₂ max (outline_depth d) (items_outline_depth ds)

  members_outline_depth : (ms : Members) → tree.members_depth (members_outline ms) ≡ members_depth ms
  members_outline_depth no_members = refl
  members_outline_depth (member k d ms) = ap₂ max (outline_depth d) (members_outline_depth ms)

number_read : (n : Num) → HasUtf8 (number n) → tree.HasNumbers (outline (number n))
number_read (unsigned n) h = IsNumber-decimal n h
number_read (negative z) h = absurd h
number_read (float x) h = absurd h

mutual
  numbers_read : (d : Data) → HasUtf8 d → tree.HasNumbers (outline d)
  numbers_read null h = tt
  numbers_read (boolean b) h = tt
  numbers_read (number n) h = number_read n h
  numbers_read (string s) h = tt
  numbers_read (array ds) h = items_numbers ds h
  numbers_read (object ms) h = members_numbers ms h

  items_numbers : (ds : Items) → ItemsHaveUtf8 ds → tree.ItemsHaveNumbers (items_outline ds)
  items_numbers no_items h = tt
  items_numbers (item d ds) h = (numbers_read d h.0, items_numbers ds h.1)

  members_numbers : (ms : Members) → MembersHaveUtf8 ms → tree.MembersHaveNumbers (members_outline ms)
  members_numbers no_members h = tt
  members_numbers (member k d ms) h = (numbers_read d h.1, members_numbers ms h.2)

-- ---- parameters

-- the keys of the data
record Keys : Type 0 where
  wt : IsUtf8 (codes "wt")
  href : IsUtf8 (codes "href")
  i : IsUtf8 (codes "i")
  params : IsUtf8 (codes "params")
  target : IsUtf8 (codes "target")
  function : IsUtf8 (codes "function")
  template : IsUtf8 (codes "template")
  param : IsUtf8 (codes "param")
  parts : IsUtf8 (codes "parts")

keys : Keys
keys = record {
  wt = IsUtf8-are_ascii (codes "wt") refl;
  href = IsUtf8-are_ascii (codes "href") refl;
  i = IsUtf8-are_ascii (codes "i") refl;
  params = IsUtf8-are_ascii (codes "params") refl;
  target = IsUtf8-are_ascii (codes "target") refl;
  function = IsUtf8-are_ascii (codes "function") refl;
  template = IsUtf8-are_ascii (codes "template") refl;
  param = IsUtf8-are_ascii (codes "param") refl;
  parts = IsUtf8-are_ascii (codes "parts") refl;
}

match_utf8 : (o : Ordering) (a b c : Members) → MembersHaveUtf8 a → MembersHaveUtf8 b → MembersHaveUtf8 c → MembersHaveUtf8 (match_ordering o a b c)
match_utf8 Less a b c e f g = e
match_utf8 Equal a b c e f g = f
match_utf8 Greater a b c e f g = g

put_utf8 : (k : List ℕ) (d : Data) (ms : Members) → IsUtf8 k → HasUtf8 d → MembersHaveUtf8 ms → MembersHaveUtf8 (put k d ms)
put_utf8 k d no_members u v h = (u, v, tt)
put_utf8 k d (member l e ms) u v h =
    match_utf8 (slice_cmp nat_cmp k l) (member k d (member l e ms)) (member l d ms) (member l e (put k d ms))
    (u, v, h) (h.0, v, h.2) (h.0, h.1, put_utf8 k d ms u v h.2)

params_utf8 : (ps : List Param) (ms : Members) → Keys → AllByRecursion IsTextParam ps → MembersHaveUtf8 ms → MembersHaveUtf8 (params_from ms ps)
params_utf8 [] ms k h m = m
params_utf8 (p ∷ ps) ms k h m = params_utf8 ps (put p.0 (wt_data p.1) ms) k h.1 (put_utf8 p.0 (wt_data p.1) ms h.0.0 (k.wt, h.0.1, tt) m)

-- the members that parameters in order are written as
written : List Param → Members
written [] = no_members
written (p ∷ ps) = member p.0 (wt_data p.1) (written ps)

below_middle : (n : List ℕ) (done : List Param) (p : Param) (more : List Param)
    → AllByRecursion (λ y. slice_cmp nat_cmp n y ≡ Less) (names (done ++ p ∷ more)) → slice_cmp nat_cmp n p.0 ≡ Less
below_middle n [] p more h = h.0
below_middle n (d ∷ done) p more h = below_middle n done p more h.1

-- a name that is above those before it goes last
put_last : (done : List Param) (p : Param) (more : List Param) → IsStrictlySortedBy (slice_cmp nat_cmp) (names (done ++ p ∷ more))
    → put p.0 (wt_data p.1) (written done) ≡ written (done ++ p ∷ [])
unfolding IsStrictlySortedBy written
put_last [] p more h = refl
put_last (d ∷ done) p more h =
    let above : slice_cmp nat_cmp p.0 d.0 ≡ Greater = nat_list_cmp_total.antisymm p.0 d.0 ∙ ap ordering_reverse (below_middle d.0 done p more h.0) in
    rw above (ap (member d.0 (wt_data d.1)) (put_last done p more h.1))

all_last : (done ps : List Param) → IsStrictlySortedBy (slice_cmp nat_cmp) (names (done ++ ps)) → params_from (written done) ps ≡ written (done ++ ps)
all_last done [] h = ap written (sym (append-nil done))
all_last done (p ∷ ps) h =
    let joins : (done ++ p ∷ []) ++ ps ≡ done ++ p ∷ ps = append_assoc done (p ∷ []) ps in
    let sorted = subst (λ qs. IsStrictlySortedBy (slice_cmp nat_cmp) (names qs)) (sym joins) h in
    ap (λ ms. params_from ms ps) (put_last done p ps h) ∙ all_last (done ++ p ∷ []) ps sorted ∙ ap written joins

written_back : (done ps : List Param) → IsStrictlySortedBy (slice_cmp nat_cmp) (names (done ++ ps))
    → of_members (members_outline (written ps)) (written done) ≡ Some (written (done ++ ps))
unfolding written
written_back done [] h = ap (λ qs. Some (written qs)) (sym (append-nil done))
written_back done (p ∷ ps) h =
    let joins : (done ++ p ∷ []) ++ ps ≡ done ++ p ∷ ps = append_assoc done (p ∷ []) ps in
    let sorted = subst (λ qs. IsStrictlySortedBy (slice_cmp nat_cmp) (names qs)) (sym joins) h in
    ap (of_members (members_outline (written ps))) (put_last done p ps h) ∙ written_back (done ++ p ∷ []) ps sorted ∙ ap (λ qs. Some (written qs)) joins

params_back : (ps : List Param) → IsStrictlySortedBy (slice_cmp nat_cmp) (names ps) → of_json (outline (params_data ps)) ≡ Some (params_data ps)
unfolding params_data written
params_back ps h =
    let same : params_from no_members ps ≡ written ps = all_last [] ps h in
    rw (same, written_back [] ps h) refl

-- ---- parts

part_utf8 : (p : Part) → Keys → IsTextPart p → HasUtf8 (part_data p)
unfolding template_data function_data params_data
part_utf8 (part.Template target href ps i) k h = (
  k.template,
  (
    k.i,
    omega (arith, h.4),
    (
      k.params,
      params_utf8 ps no_members k h.2 tt,
      (k.target, (k.href, h.1, (k.wt, h.0, tt)), tt),
    ),
  ),
  tt,
)
part_utf8 (part.Function name target ps i) k h = (
  k.template,
  (
    k.i,
    omega (arith, h.4),
    (
      k.params,
      params_utf8 ps no_members k h.2 tt,
      (k.target, (k.function, h.0.0, (k.wt, h.1, tt)), tt),
    ),
  ),
  tt,
)
part_utf8 (part.Param source) k h = (k.param, (k.wt, h, tt), tt)
part_utf8 (part.Literal text) k h = h

parts_utf8 : (ps : List Part) → Keys → AllByRecursion IsTextPart ps → ItemsHaveUtf8 (parts_items ps)
parts_utf8 [] k h = tt
parts_utf8 (p ∷ ps) k h = (part_utf8 p k h.0, parts_utf8 ps k h.1)

part_back : (p : Part) → IsTextPart p → of_json (outline (part_data p)) ≡ Some (part_data p)
unfolding template_data function_data
part_back (part.Template target href ps i) h = rw (number_of-decimal i (omega (arith, h.4)), params_back ps h.3) refl
part_back (part.Function name target ps i) h = rw (number_of-decimal i (omega (arith, h.4)), params_back ps h.3) refl
part_back (part.Param source) h = refl
part_back (part.Literal text) h = refl

parts_back : (ps : List Part) → AllByRecursion IsTextPart ps → of_items (items_outline (parts_items ps)) ≡ Some (parts_items ps)
parts_back [] h = refl
parts_back (p ∷ ps) h = rw (part_back p h.0, parts_back ps h.1) refl

part_small : (p : Part) → IsTextPart p → part_is_small (part_data p) ≡ true
part_small (part.Template target href ps i) h = template_small target href ps i h.4
part_small (part.Function name target ps i) h = function_small name target ps i h.4
part_small (part.Param source) h = refl
part_small (part.Literal text) h = refl

all_small : (ps : List Part) → AllByRecursion IsTextPart ps → list_all (λ p. part_is_small (part_data p)) ps ≡ true
all_small [] h = refl
all_small (p ∷ ps) h = ap (λ b. b && list_all (λ q. part_is_small (part_data q)) ps) (part_small p h.0) ∙ all_small ps h.1

have_small : (ps : List Part) → AllByRecursion IsTextPart ps → has_small_numbers (mw_data (mw.Parts ps)) ≡ true
unfolding has_small_numbers
have_small ps h = parts_small ps (all_small ps h)

part_ordered : (p : Part) → IsTextPart p → HasOrderedParams p
part_ordered (part.Template target href ps i) h = h.3
part_ordered (part.Function name target ps i) h = (h.0.1, h.3)
part_ordered (part.Param source) h = tt
part_ordered (part.Literal text) h = tt

all_ordered : (ps : List Part) → AllByRecursion IsTextPart ps → AllByRecursion HasOrderedParams ps
all_ordered [] h = tt
all_ordered (p ∷ ps) h = (part_ordered p h.0, all_ordered ps h.1)

-- the data of such parts is UTF-8 and is read as it is written
pub parts_written : (ps : List Part) → AllByRecursion IsTextPart ps → HasParts (Some (mw.Parts ps))
unfolding mw_text mw_told
parts_written ps h =
    let d = mw_data (mw.Parts ps) in
    let u : HasUtf8 d = (keys.parts, parts_utf8 ps keys h, tt) in
    let low : tree.depth (outline d) ≤ max_depth = omega (arith, outline_depth d, mw_depth (mw.Parts ps)) in
    let same : of_json (outline d) ≡ Some d = rw (parts_back ps h) refl in (
      data_utf8 d u,
      ap mw_of_json (json_read d (numbers_read d u) low same) ∙ reads_ordered (mw.Parts ps) (have_small ps h) (all_ordered ps h),
    )
