-- What is accepted of `data-mw`.
use Rattle.std.proofs.Common.{◌≡◌, refl, sym, ◌∙◌, ap, subst, ℕ, ◌<◌, ◌^◌, Bool, true, false, cond, Option, Some, None, List, [], ◌∷◌}
use Rattle.std.specs.Prelude.{◌↔◌, ◌&&◌, ◌||◌, Result, Ok, Err, codes, is_some, option_and_then, IfSome}
use Rattle.std.specs.List.{AllByRecursion}
use Rattle.std.specs.List.Sorted.{IsStrictlySortedBy}
use Rattle.std.specs.Ordering.{nat_cmp}
use Rattle.std.specs.Cmp.Lexicographic.{slice_cmp}
use Rattle.std.specs.declared.cmp.Ordering.TheVariants.{Less}
use Rattle.serde_json.specs.Data.{unsigned, Data, null, boolean, number, string, array, object, Items, no_items, item, Members, no_members, member}
use Rattle.serde_json.specs.Find.{get_member, as_str, as_array}
use Rattle.serde_json.specs.Read.{read}
use Rattle.wt_tree.specs.declared.node.DataMw.{DataMw}
use Rattle.wt_tree.specs.declared.node.DataMw.TheVariants as mw
use Rattle.wt_tree.specs.declared.node.Part.{Part}
use Rattle.wt_tree.specs.declared.node.Part.TheVariants as part
use Rattle.wt_datamw.specs.declared.refusal.DataWhy.{DataWhy}
use Rattle.wt_datamw.specs.Mw.{wt_data, params_data, target_data, function_target, template_data, function_data, part_data, parts_items, mw_data}
use Rattle.wt_datamw.specs.SyncRead.{only_keys, is_among, is_number, small_number}
use Rattle.wt_datamw.specs.MwRead.{holds, holds_if_any, all_items, all_values, is_source, are_params, is_function_name, names_function, is_page_target, is_function_target, is_target, is_template, is_part, are_parts, is_group, is_body, is_extension, is_mw_shape, has_small_number, part_is_small, are_small_parts, has_small_numbers, mw_of, mw_of_data, mw_of_json, mw_told, HasOrderedParams, HasOrderedNames}
use Rattle.wt_datamw.proofs.MwBack.{Param, names, sources, all_last, template_small, function_small, reads_ordered}
use Rattle.wt_page_laws.specs.Told.{IsNumbered, AreNumbered, SaysMw}
use Rattle.wt_page_laws.proofs.Tidy.{Above, Tidy, ItemsTidy, Sorted, read_tidy}
use Rattle.wt_page_laws.proofs.Fields.{pick, both, fields, text_there}
use Rattle.wt_page_laws.proofs.SyncAccepted.{number_is}

held : (test : Data → Bool) (o : Option Data) → holds test o ≡ true → (x : Data) × (o ≡ Some x) × (test x ≡ true)
held test None h = cc
held test (Some x) h = (x, refl, h)

or_cases : (a b : Bool) (P : Type 0) → (a ≡ true → P) → (b ≡ true → P) → (a || b) ≡ true → P
or_cases true b P f g h = f refl
or_cases false b P f g h = g h

-- ---- sources and parameters

source_by : (ms : Members) → Sorted ms → is_source (object ms) ≡ true → (text : List ℕ) × (object ms ≡ wt_data text)
source_by ms t h =
    let k = both (only_keys (is_among (codes "wt" ∷ [])) ms) (is_some (option_and_then as_str (get_member (codes "wt") ms))) h in
    let text = text_there (get_member (codes "wt") ms) k.1 in
    (text.0, ap object (fields (codes "wt" ∷ []) ms t (tt, tt) k.0 ∙ ap (λ x. pick (codes "wt") x no_members) text.1))

source_is : (d : Data) → Tidy d → is_source d ≡ true → (text : List ℕ) × (d ≡ wt_data text)
source_is null t h = cc
source_is (boolean b) t h = cc
source_is (number n) t h = cc
source_is (string s) t h = cc
source_is (array ds) t h = cc
source_is (object ms) t h = source_by ms t h

record AreParams (ms : Members) : Type 0 where
  params : List Param
  written : ms ≡ sources params
  ordered : IsStrictlySortedBy (slice_cmp nat_cmp) (names params)

above_names : (k : List ℕ) (ps : List Param) → Above k (sources ps) → AllByRecursion (λ y. slice_cmp nat_cmp k y ≡ Less) (names ps)
unfolding sources
above_names k [] a = tt
above_names k (p ∷ ps) a = (a.0, above_names k ps a.1)

params_are : (ms : Members) → Sorted ms → all_values is_source ms ≡ true → AreParams ms
unfolding sources IsStrictlySortedBy
params_are no_members t h = record { params = []; written = refl; ordered = tt }
params_are (member k d ms) t h =
    let v = both (is_source d) (all_values is_source ms) h in
    let s = source_is d t.1 v.0 in
    let r = params_are ms t.2 v.1 in
    record {
      params = (k, s.0) ∷ r.params;
      written = ap (λ x. member k x ms) s.1 ∙ ap (member k (wt_data s.0)) r.written;
      ordered = (above_names k r.params (subst (Above k) r.written t.0), r.ordered);
    }

record IsParams (d : Data) : Type 0 where
  params : List Param
  written : d ≡ params_data params
  ordered : IsStrictlySortedBy (slice_cmp nat_cmp) (names params)

params_by : (ms : Members) → AreParams ms → IsParams (object ms)
unfolding params_data sources
params_by ms r = record { params = r.params; written = ap object (r.written ∙ sym (all_last [] r.params r.ordered)); ordered = r.ordered }

params_is : (d : Data) → Tidy d → are_params d ≡ true → IsParams d
params_is null t h = cc
params_is (boolean b) t h = cc
params_is (number n) t h = cc
params_is (string s) t h = cc
params_is (array ds) t h = cc
params_is (object ms) t h = params_by ms (params_are ms t h)

-- ---- targets

page_by : (ms : Members) → Sorted ms → is_page_target (object ms) ≡ true → (href : List ℕ) × (wt : List ℕ) × (object ms ≡ target_data href wt)
page_by ms t h =
    let href = get_member (codes "href") ms in
    let wt = get_member (codes "wt") ms in
    let k = both (only_keys (is_among (codes "href" ∷ codes "wt" ∷ [])) ms) (is_some (option_and_then as_str href) && is_some (option_and_then as_str wt)) h in
    let l = both (is_some (option_and_then as_str href)) (is_some (option_and_then as_str wt)) k.1 in
    let a = text_there href l.0 in
    let b = text_there wt l.1 in (
      a.0,
      b.0,
      ap object (fields (codes "href" ∷ codes "wt" ∷ []) ms t ((refl, tt), (tt, tt)) k.0
          ∙ ap (λ x. pick (codes "href") x (pick (codes "wt") wt no_members)) a.1
          ∙ ap (λ x. member (codes "href") (string a.0) (pick (codes "wt") x no_members)) b.1),
    )

name_there : (o : Option Data) → names_function (option_and_then as_str o) ≡ true → (name : List ℕ) × (o ≡ Some (string name)) × (is_function_name name ≡ true)
name_there None h = cc
name_there (Some null) h = cc
name_there (Some (boolean b)) h = cc
name_there (Some (number n)) h = cc
name_there (Some (string s)) h = (s, refl, h)
name_there (Some (array ds)) h = cc
name_there (Some (object ms)) h = cc

function_by : (ms : Members) → Sorted ms → is_function_target (object ms) ≡ true
    → (name : List ℕ) × (wt : List ℕ) × (object ms ≡ function_target name wt) × (is_function_name name ≡ true)
function_by ms t h =
    let name = get_member (codes "function") ms in
    let wt = get_member (codes "wt") ms in
    let k = both (only_keys (is_among (codes "function" ∷ codes "wt" ∷ [])) ms) (names_function (option_and_then as_str name) && is_some (option_and_then as_str wt)) h in
    let l = both (names_function (option_and_then as_str name)) (is_some (option_and_then as_str wt)) k.1 in
    let a = name_there name l.0 in
    let b = text_there wt l.1 in (
      a.0,
      b.0,
      ap object (fields (codes "function" ∷ codes "wt" ∷ []) ms t ((refl, tt), (tt, tt)) k.0
          ∙ ap (λ x. pick (codes "function") x (pick (codes "wt") wt no_members)) a.1
          ∙ ap (λ x. member (codes "function") (string a.0) (pick (codes "wt") x no_members)) b.1),
      a.2,
    )

-- ---- calls

record IsWritten (d : Data) : Type 0 where
  value : Part
  written : d ≡ part_data value
  ordered : HasOrderedParams value
  numbered : IsNumbered value

abbrev call_data : Data → Data → Data → Data
call_data i params target =
    object (member (codes "template") (object (member (codes "i") i (member (codes "params") params (member (codes "target") target no_members)))) no_members)

page_call : (i : ℕ) (p g : Data) → IsParams p → i < 2 ^ 32 → ((href : List ℕ) × (wt : List ℕ) × (g ≡ target_data href wt))
    → IsWritten (call_data (number (unsigned i)) p g)
unfolding template_data
page_call i p g ps small t = record {
  value = part.Template t.1 t.0 ps.params i;
  written = ap (λ x. call_data (number (unsigned i)) x g) ps.written ∙ ap (call_data (number (unsigned i)) (params_data ps.params)) t.2;
  ordered = ps.ordered;
  numbered = small;
}

function_call : (i : ℕ) (p g : Data) → IsParams p → i < 2 ^ 32
    → ((name : List ℕ) × (wt : List ℕ) × (g ≡ function_target name wt) × (is_function_name name ≡ true)) → IsWritten (call_data (number (unsigned i)) p g)
unfolding function_data
function_call i p g ps small t = record {
  value = part.Function t.0 t.1 ps.params i;
  written = ap (λ x. call_data (number (unsigned i)) x g) ps.written ∙ ap (call_data (number (unsigned i)) (params_data ps.params)) t.2;
  ordered = (t.3, ps.ordered);
  numbered = small;
}

target_call : (i : ℕ) (p g : Data) → IsParams p → i < 2 ^ 32 → Tidy g → is_target g ≡ true → IsWritten (call_data (number (unsigned i)) p g)
target_call i p null ps small t h = cc
target_call i p (boolean b) ps small t h = cc
target_call i p (number n) ps small t h = cc
target_call i p (string s) ps small t h = cc
target_call i p (array ds) ps small t h = cc
target_call i p (object ms) ps small t h = or_cases (is_page_target (object ms)) (is_function_target (object ms)) (IsWritten (call_data (number (unsigned i)) p (object ms)))
    (λ e. page_call i p (object ms) ps small (page_by ms t e)) (λ e. function_call i p (object ms) ps small (function_by ms t e)) h

number_there : (o : Option ℕ) → is_some o ≡ true → (n : ℕ) × (o ≡ Some n)
number_there None h = cc
number_there (Some n) h = (n, refl)

call_by : (ms : Members) → Sorted ms → is_template (object ms) ≡ true → has_small_number (object ms) ≡ true
    → IsWritten (object (member (codes "template") (object ms) no_members))
call_by ms t h small =
    let i = get_member (codes "i") ms in
    let params = get_member (codes "params") ms in
    let target = get_member (codes "target") ms in
    let keys : List (List ℕ) = codes "i" ∷ codes "params" ∷ codes "target" ∷ [] in
    let k = both (only_keys (is_among keys) ms) (holds is_number i && (holds are_params params && holds is_target target)) h in
    let l = both (holds is_number i) (holds are_params params && holds is_target target) k.1 in
    let m = both (holds are_params params) (holds is_target target) l.1 in
    let a = held is_number i l.0 in
    let b = held are_params params m.0 in
    let c = held is_target target m.1 in
    let n = number_there (option_and_then small_number i) small in
    let j : (a.0 ≡ number (unsigned n.0)) × (n.0 < 2 ^ 32) = number_is a.0 n.0 (ap (option_and_then small_number) (sym a.1) ∙ n.1) in
    let all : ms ≡ member (codes "i") (number (unsigned n.0)) (member (codes "params") b.0 (member (codes "target") c.0 no_members)) =
    fields keys ms t ((refl, (refl, tt)), ((refl, tt), (tt, tt))) k.0
    ∙ ap (λ x. pick (codes "i") x (pick (codes "params") params (pick (codes "target") target no_members))) (a.1 ∙ ap Some j.0)
    ∙ ap (λ x. member (codes "i") (number (unsigned n.0)) (pick (codes "params") x (pick (codes "target") target no_members))) b.1
    ∙ ap (λ x. member (codes "i") (number (unsigned n.0)) (member (codes "params") b.0 (pick (codes "target") x no_members))) c.1 in
    let tidy : Sorted (member (codes "i") (number (unsigned n.0)) (member (codes "params") b.0 (member (codes "target") c.0 no_members))) = subst Sorted all t in
    subst (λ x. IsWritten (object (member (codes "template") (object x) no_members))) (sym all)
    (target_call n.0 b.0 c.0 (params_is b.0 tidy.2.1 b.2) j.1 tidy.2.2.1 c.2)

call_is : (d : Data) → Tidy d → is_template d ≡ true → has_small_number d ≡ true → IsWritten (object (member (codes "template") d no_members))
call_is null t h small = cc
call_is (boolean b) t h small = cc
call_is (number n) t h small = cc
call_is (string s) t h small = cc
call_is (array ds) t h small = cc
call_is (object ms) t h small = call_by ms t h small

-- ---- parts

called : (ms : Members) → Sorted ms → (only_keys (is_among (codes "template" ∷ [])) ms && holds is_template (get_member (codes "template") ms)) ≡ true
    → holds_if_any has_small_number (get_member (codes "template") ms) ≡ true → IsWritten (object ms)
called ms t h small =
    let k = both (only_keys (is_among (codes "template" ∷ [])) ms) (holds is_template (get_member (codes "template") ms)) h in
    let c = held is_template (get_member (codes "template") ms) k.1 in
    let all : ms ≡ member (codes "template") c.0 no_members =
    fields (codes "template" ∷ []) ms t (tt, tt) k.0 ∙ ap (λ x. pick (codes "template") x no_members) c.1 in
    let tidy : Sorted (member (codes "template") c.0 no_members) = subst Sorted all t in
    subst (λ x. IsWritten (object x)) (sym all) (call_is c.0 tidy.1 c.2 (ap (holds_if_any has_small_number) (sym c.1) ∙ small))

argument : (ms : Members) → Sorted ms → (only_keys (is_among (codes "param" ∷ [])) ms && holds is_source (get_member (codes "param") ms)) ≡ true
    → IsWritten (object ms)
argument ms t h =
    let k = both (only_keys (is_among (codes "param" ∷ [])) ms) (holds is_source (get_member (codes "param") ms)) h in
    let c = held is_source (get_member (codes "param") ms) k.1 in
    let all : ms ≡ member (codes "param") c.0 no_members =
    fields (codes "param" ∷ []) ms t (tt, tt) k.0 ∙ ap (λ x. pick (codes "param") x no_members) c.1 in
    let tidy : Sorted (member (codes "param") c.0 no_members) = subst Sorted all t in
    let s = source_is c.0 tidy.1 c.2 in
    record { value = part.Param s.0; written = ap object (all ∙ ap (λ x. member (codes "param") x no_members) s.1); ordered = tt; numbered = tt }

part_is : (d : Data) → Tidy d → is_part d ≡ true → part_is_small d ≡ true → IsWritten d
part_is null t h small = cc
part_is (boolean b) t h small = cc
part_is (number n) t h small = cc
part_is (string s) t h small = record { value = part.Literal s; written = refl; ordered = tt; numbered = tt }
part_is (array ds) t h small = cc
part_is (object ms) t h small =
    or_cases (only_keys (is_among (codes "template" ∷ [])) ms && holds is_template (get_member (codes "template") ms))
    (only_keys (is_among (codes "param" ∷ [])) ms && holds is_source (get_member (codes "param") ms)) (IsWritten (object ms))
    (λ e. called ms t e small) (λ e. argument ms t e) h

record AreWritten (ds : Items) : Type 0 where
  values : List Part
  written : ds ≡ parts_items values
  ordered : AllByRecursion HasOrderedParams values
  numbered : AllByRecursion IsNumbered values

parts_are : (ds : Items) → ItemsTidy ds → all_items is_part ds ≡ true → all_items part_is_small ds ≡ true → AreWritten ds
parts_are no_items t h small = record { values = []; written = refl; ordered = tt; numbered = tt }
parts_are (item d ds) t h small =
    let k = both (is_part d) (all_items is_part ds) h in
    let l = both (part_is_small d) (all_items part_is_small ds) small in
    let first = part_is d t.0 k.0 l.0 in
    let more = parts_are ds t.1 k.1 l.1 in
    record {
      values = first.value ∷ more.values;
      written = ap (λ x. item x ds) first.written ∙ ap (item (part_data first.value)) more.written;
      ordered = (first.ordered, more.ordered);
      numbered = (first.numbered, more.numbered);
    }

-- ---- groups and extensions

record IsMwData (d : Data) : Type 0 where
  value : DataMw
  written : d ≡ mw_data value
  ordered : HasOrderedNames value
  numbered : AreNumbered value

array_there : (o : Option Data) → are_parts (option_and_then as_array o) ≡ true → (ds : Items) × (o ≡ Some (array ds)) × (all_items is_part ds ≡ true)
array_there None h = cc
array_there (Some null) h = cc
array_there (Some (boolean b)) h = cc
array_there (Some (number n)) h = cc
array_there (Some (string s)) h = cc
array_there (Some (array ds)) h = (ds, refl, h)
array_there (Some (object ms)) h = cc

group_by : (ms : Members) → Sorted ms → is_group (object ms) ≡ true → are_small_parts (option_and_then as_array (get_member (codes "parts") ms)) ≡ true → IsMwData (object ms)
group_by ms t h small =
    let parts = get_member (codes "parts") ms in
    let k = both (only_keys (is_among (codes "parts" ∷ [])) ms) (are_parts (option_and_then as_array parts)) h in
    let a = array_there parts k.1 in
    let all : ms ≡ member (codes "parts") (array a.0) no_members =
    fields (codes "parts" ∷ []) ms t (tt, tt) k.0 ∙ ap (λ x. pick (codes "parts") x no_members) a.1 in
    let tidy : Sorted (member (codes "parts") (array a.0) no_members) = subst Sorted all t in
    let w = parts_are a.0 tidy.1 a.2 (ap (λ x. are_small_parts (option_and_then as_array x)) (sym a.1) ∙ small) in
    record {
      value = mw.Parts w.values;
      written = ap object (all ∙ ap (λ x. member (codes "parts") (array x) no_members) w.written);
      ordered = w.ordered;
      numbered = w.numbered;
    }

body_by : (ms : Members) → Sorted ms → is_body (object ms) ≡ true → (text : List ℕ) × (object ms ≡ object (member (codes "extsrc") (string text) no_members))
body_by ms t h =
    let k = both (only_keys (is_among (codes "extsrc" ∷ [])) ms) (is_some (option_and_then as_str (get_member (codes "extsrc") ms))) h in
    let text = text_there (get_member (codes "extsrc") ms) k.1 in
    (text.0, ap object (fields (codes "extsrc" ∷ []) ms t (tt, tt) k.0 ∙ ap (λ x. pick (codes "extsrc") x no_members) text.1))

body_is : (d : Data) → Tidy d → is_body d ≡ true → (text : List ℕ) × (d ≡ object (member (codes "extsrc") (string text) no_members))
body_is null t h = cc
body_is (boolean b) t h = cc
body_is (number n) t h = cc
body_is (string s) t h = cc
body_is (array ds) t h = cc
body_is (object ms) t h = body_by ms t h

bodied : (ms : Members) (name : List ℕ) (o : Option Data) → holds_if_any is_body o ≡ true → Sorted ms
    → ms ≡ pick (codes "body") o (member (codes "name") (string name) no_members) → IsMwData (object ms)
bodied ms name None h t all = record { value = mw.Extension name None; written = ap object all; ordered = tt; numbered = tt }
bodied ms name (Some d) h t all =
    let tidy : Sorted (member (codes "body") d (member (codes "name") (string name) no_members)) = subst Sorted all t in
    let b = body_is d tidy.1 h in
    record {
      value = mw.Extension name (Some b.0);
      written = ap object (all ∙ ap (λ x. member (codes "body") x (member (codes "name") (string name) no_members)) b.1);
      ordered = tt;
      numbered = tt;
    }

extension_by : (ms : Members) → Sorted ms → is_extension (object ms) ≡ true → IsMwData (object ms)
extension_by ms t h =
    let body = get_member (codes "body") ms in
    let name = get_member (codes "name") ms in
    let k = both (only_keys (is_among (codes "body" ∷ codes "name" ∷ [])) ms) (is_some (option_and_then as_str name) && holds_if_any is_body body) h in
    let l = both (is_some (option_and_then as_str name)) (holds_if_any is_body body) k.1 in
    let a = text_there name l.0 in
    bodied ms a.0 body l.1 t
    (fields (codes "body" ∷ codes "name" ∷ []) ms t ((refl, tt), (tt, tt)) k.0 ∙ ap (λ x. pick (codes "body") body (pick (codes "name") x no_members)) a.1)

data_is : (d : Data) → Tidy d → is_mw_shape d ≡ true → has_small_numbers d ≡ true → IsMwData d
unfolding is_mw_shape has_small_numbers
data_is null t h small = cc
data_is (boolean b) t h small = cc
data_is (number n) t h small = cc
data_is (string s) t h small = cc
data_is (array ds) t h small = cc
data_is (object ms) t h small = or_cases (is_group (object ms)) (is_extension (object ms)) (IsMwData (object ms))
    (λ e. group_by ms t e small) (λ e. extension_by ms t e) h

-- ---- what is accepted is said

record IsOk (b c : Bool) (r : Result DataMw DataWhy) (v : DataMw) : Type 0 where
  shape : b ≡ true
  small : c ≡ true
  result : r ≡ Ok v

is_ok : (b c : Bool) (r : Result DataMw DataWhy) (w x : DataWhy) (v : DataMw) → cond b (cond c r (Err w)) (Err x) ≡ Ok v → IsOk b c r v
is_ok true true r w x v h = record { shape = refl; small = refl; result = h }
is_ok true false r w x v h = cc
is_ok false c r w x v h = cc

data_says : (text : List ℕ) (d : Data) (v : DataMw) → read text ≡ Some d → mw_of_data d ≡ Ok v → has_small_numbers d ≡ true → IsMwData d → SaysMw text v
data_says text d v e h small w =
    let again : mw_of_data (mw_data w.value) ≡ Ok w.value =
    reads_ordered w.value (ap has_small_numbers (sym w.written) ∙ small) w.ordered in
    let same : w.value ≡ v = let both_ok : Ok w.value ≡ Ok v = sym again ∙ ap mw_of_data (sym w.written) ∙ h in cc in
    subst (SaysMw text) same (record { json = e ∙ ap Some w.written; ordered = w.ordered; numbered = w.numbered })

accepted : (text : List ℕ) (v : DataMw) (o : Option Data) → read text ≡ o → IfSome o Tidy → mw_of_json o ≡ Ok v → SaysMw text v
unfolding mw_of_data
accepted text v None e t h = cc
accepted text v (Some d) e t h =
    let k = is_ok (is_mw_shape d) (has_small_numbers d) (Ok (mw_of d)) _ _ v h in
    data_says text d v e h k.small (data_is d t k.shape k.small)

-- ---- what is said is accepted

part_small : (p : Part) → IsNumbered p → part_is_small (part_data p) ≡ true
part_small (part.Template target href ps i) h = template_small target href ps i h
part_small (part.Function name target ps i) h = function_small name target ps i h
part_small (part.Param source) h = refl
part_small (part.Literal text) h = refl

parts_small : (ps : List Part) → AllByRecursion IsNumbered ps → all_items part_is_small (parts_items ps) ≡ true
parts_small [] h = refl
parts_small (p ∷ ps) h = ap (λ x. x && all_items part_is_small (parts_items ps)) (part_small p h.0) ∙ parts_small ps h.1

small_numbers : (v : DataMw) → AreNumbered v → has_small_numbers (mw_data v) ≡ true
unfolding has_small_numbers
small_numbers (mw.Parts ps) h = parts_small ps h
small_numbers (mw.Extension name None) h = refl
small_numbers (mw.Extension name (Some body)) h = refl

said : (text : List ℕ) (v : DataMw) → SaysMw text v → mw_told text ≡ Ok v
unfolding mw_told
said text v s = ap mw_of_json s.json ∙ reads_ordered v (small_numbers v s.numbered) s.ordered

pub mw_accepts : (text : List ℕ) (v : DataMw) → (mw_told text ≡ Ok v) ↔ SaysMw text v
unfolding mw_told
mw_accepts text v = (λ h. accepted text v (read text) refl (read_tidy text) h, said text v)
