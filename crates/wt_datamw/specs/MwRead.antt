-- What a text of `data-mw` says, or why it is refused.
use Rattle.std.specs.Prelude.{◌≡◌, ℕ, ◌&&◌, ◌||◌, Bool, true, false, List, [], ◌∷◌, Option, Some, None, Result, Ok, Err, codes, map, is_some, unwrap_or, option_and_then, if◌then◌else◌}
use Rattle.std.specs.List.{AllByRecursion}
use Rattle.std.specs.List.Sorted.{IsStrictlySortedBy}
use Rattle.std.specs.Ordering.{nat_cmp}
use Rattle.std.specs.Cmp.Lexicographic.{slice_cmp}
use Rattle.serde_json.specs.Data.{Data, Items, no_items, item, Members, no_members, member}
use Rattle.serde_json.specs.Find.{get, as_object, as_array, as_str}
use Rattle.serde_json.specs.Read.{read}
use Rattle.wt_tree.specs.declared.node.DataMw.{DataMw}
use Rattle.wt_tree.specs.declared.node.DataMw.TheVariants as mw
use Rattle.wt_tree.specs.declared.node.Part.{Part}
use Rattle.wt_tree.specs.declared.node.Part.TheVariants as part
use Rattle.wt_datamw.specs.declared.refusal.DataWhy.{DataWhy}
use Rattle.wt_datamw.specs.declared.refusal.DataWhy.TheVariants as why
use Rattle.wt_datamw.specs.SyncRead.{is_among, has_only, is_number, small_number, text_in}

-- ---- shapes

-- what is under a key passes a test; it fails where the key is missing
abbrev pub holds : (Data → Bool) → Option Data → Bool
holds test None = false
holds test (Some d) = test d

-- each item passes a test
abbrev pub all_items : (Data → Bool) → Items → Bool
all_items test no_items = true
all_items test (item d ds) = test d && all_items test ds

-- the value of each member passes a test
abbrev pub all_values : (Data → Bool) → Members → Bool
all_values test no_members = true
all_values test (member k d ms) = test d && all_values test ms

abbrev pub has_text : List ℕ → Data → Bool
has_text key d = is_some (text_in key d)

-- a source under `wt`, and no other keys
abbrev pub is_source : Data → Bool
is_source d = has_only (is_among (codes "wt" ∷ [])) (as_object d) && has_text (codes "wt") d

-- parameters: an object whose values are sources, under any names
abbrev pub are_sources : Option Members → Bool
are_sources None = false
are_sources (Some ms) = all_values is_source ms

abbrev pub are_params : Data → Bool
are_params d = are_sources (as_object d)

-- the target of a page: two texts, `href` and `wt`
abbrev pub is_page_target : Data → Bool
is_page_target d = has_only (is_among (codes "href" ∷ codes "wt" ∷ [])) (as_object d) && (has_text (codes "href") d && has_text (codes "wt") d)

-- the name of a parser function that decides by texts
abbrev pub is_function_name : List ℕ → Bool
is_function_name name = is_among (codes "if" ∷ codes "ifeq" ∷ codes "switch" ∷ []) name

abbrev pub names_function : Option (List ℕ) → Bool
names_function None = false
names_function (Some name) = is_function_name name

-- the target of a parser function: its name under `function`, and a text `wt`
abbrev pub is_function_target : Data → Bool
is_function_target d =
    has_only (is_among (codes "function" ∷ codes "wt" ∷ [])) (as_object d) && (names_function (text_in (codes "function") d) && has_text (codes "wt") d)

abbrev pub is_target : Data → Bool
is_target d = is_page_target d || is_function_target d

-- a call: a number `i`, its parameters `params` and its `target`
abbrev pub is_template : Data → Bool
is_template d =
    has_only (is_among (codes "i" ∷ codes "params" ∷ codes "target" ∷ [])) (as_object d)
    && (holds is_number (get (codes "i") d) && (holds are_params (get (codes "params") d) && holds is_target (get (codes "target") d)))

-- a part: a text, or an object with one key, `template` or `param`
abbrev pub is_part : Data → Bool
is_part d =
    is_some (as_str d)
    || ((has_only (is_among (codes "template" ∷ [])) (as_object d) && holds is_template (get (codes "template") d))
    || (has_only (is_among (codes "param" ∷ [])) (as_object d) && holds is_source (get (codes "param") d)))

-- an array of parts
abbrev pub are_parts : Option Items → Bool
are_parts None = false
are_parts (Some ds) = all_items is_part ds

abbrev pub parts_in : Data → Option Items
parts_in d = option_and_then as_array (get (codes "parts") d)

-- a group: an array of parts under `parts`, and no other keys
abbrev pub is_group : Data → Bool
is_group d = has_only (is_among (codes "parts" ∷ [])) (as_object d) && are_parts (parts_in d)

-- the inside of an extension tag: a text under `extsrc`, and no other keys
abbrev pub is_body : Data → Bool
is_body d = has_only (is_among (codes "extsrc" ∷ [])) (as_object d) && has_text (codes "extsrc") d

-- a test of what is under a key, if anything does
abbrev pub holds_if_any : (Data → Bool) → Option Data → Bool
holds_if_any test None = true
holds_if_any test (Some d) = test d

-- an extension: a text under `name`, maybe a `body`, and no other keys
abbrev pub is_extension : Data → Bool
is_extension d =
    has_only (is_among (codes "body" ∷ codes "name" ∷ [])) (as_object d) && (has_text (codes "name") d && holds_if_any is_body (get (codes "body") d))

unfoldable pub is_mw_shape : Data → Bool
is_mw_shape d = is_group d || is_extension d

-- ---- numbers

-- the number under `i`, if it is a whole one from 0 to 4,294,967,295 in digits alone
abbrev pub number_in : Data → Option ℕ
number_in d = option_and_then small_number (get (codes "i") d)

abbrev pub has_small_number : Data → Bool
has_small_number d = is_some (number_in d)

-- the number of a transclusion is such a one; other parts have none
abbrev pub part_is_small : Data → Bool
part_is_small d = holds_if_any has_small_number (get (codes "template") d)

abbrev pub are_small_parts : Option Items → Bool
are_small_parts None = true
are_small_parts (Some ds) = all_items part_is_small ds

unfoldable pub has_small_numbers : Data → Bool
has_small_numbers d = are_small_parts (parts_in d)

-- ---- values: what data of the shape says (the empty text is where there is none)

abbrev pub text_or_empty : Option (List ℕ) → List ℕ
text_or_empty text = unwrap_or text []

-- the text under a key of the object under a key
abbrev pub text_below : List ℕ → List ℕ → Data → Option (List ℕ)
text_below outer key d = option_and_then (text_in key) (get outer d)

-- the parameters in the order of the members, which is the byte order of their names
abbrev pub params_of : Members → List (List ℕ × List ℕ)
params_of no_members = []
params_of (member name d ms) = (name, text_or_empty (text_in (codes "wt") d)) ∷ params_of ms

abbrev pub params_if_any : Option Members → List (List ℕ × List ℕ)
params_if_any None = []
params_if_any (Some ms) = params_of ms

abbrev pub params_in : Data → Option Members
params_in d = option_and_then as_object (get (codes "params") d)

unfoldable pub template_of : Data → Part
template_of d =
    part.Template (text_or_empty (text_below (codes "target") (codes "wt") d)) (text_or_empty (text_below (codes "target") (codes "href") d))
    (params_if_any (params_in d)) (unwrap_or (number_in d) 0)

unfoldable pub function_of : List ℕ → Data → Part
function_of name d =
    part.Function name (text_or_empty (text_below (codes "target") (codes "wt") d)) (params_if_any (params_in d)) (unwrap_or (number_in d) 0)

-- a call whose target has `function` is a parser function, any other a transclusion
abbrev pub call_by : Option (List ℕ) → Data → Part
call_by None d = template_of d
call_by (Some name) d = function_of name d

abbrev pub call_of : Data → Part
call_of d = call_by (text_below (codes "target") (codes "function") d) d

-- a text is a literal slice, an object with `template` a call, one with `param` an argument
abbrev pub part_from : Option (List ℕ) → Option Data → Data → Part
part_from (Some text) template d = part.Literal text
part_from None (Some t) d = call_of t
part_from None None d = part.Param (text_or_empty (text_below (codes "param") (codes "wt") d))

abbrev pub part_of : Data → Part
part_of d = part_from (as_str d) (get (codes "template") d) d

abbrev pub parts_of : Items → List Part
parts_of no_items = []
parts_of (item d ds) = part_of d ∷ parts_of ds

abbrev pub mw_from : Option Items → Data → DataMw
mw_from (Some ds) d = mw.Parts (parts_of ds)
mw_from None d = mw.Extension (text_or_empty (text_in (codes "name") d)) (text_below (codes "body") (codes "extsrc") d)

abbrev pub mw_of : Data → DataMw
mw_of d = mw_from (parts_in d) d

-- ---- the whole text

unfoldable pub mw_of_data : Data → Result DataMw DataWhy
mw_of_data d = if is_mw_shape d then (if has_small_numbers d then Ok (mw_of d) else Err why.Number) else Err why.Shape

abbrev pub mw_of_json : Option Data → Result DataMw DataWhy
mw_of_json None = Err why.Json
mw_of_json (Some d) = mw_of_data d

-- what a text says: its reasons are tried in the order JSON, shape, number, each over the whole text
unfoldable pub mw_told : List ℕ → Result DataMw DataWhy
mw_told text = mw_of_json (read text)

-- ---- the values that a text gives back

-- the parameter names of a call are distinct and in byte order, and a parser function has a name of one
abbrev pub HasOrderedParams : Part → Type 0
HasOrderedParams (part.Template target href params i) = IsStrictlySortedBy (slice_cmp nat_cmp) (map (λ p. p.0) params)
HasOrderedParams (part.Function name target params i) = (is_function_name name ≡ true) × IsStrictlySortedBy (slice_cmp nat_cmp) (map (λ p. p.0) params)
HasOrderedParams (part.Param source) = Unit {0}
HasOrderedParams (part.Literal text) = Unit {0}

-- those of each transclusion are
abbrev pub HasOrderedNames : DataMw → Type 0
HasOrderedNames (mw.Parts parts) = AllByRecursion HasOrderedParams parts
HasOrderedNames (mw.Extension name body) = Unit {0}
