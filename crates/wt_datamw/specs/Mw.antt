-- The JSON of `data-mw`.
use Rattle.std.specs.Prelude.{ℕ, List, Option, Some, None, codes, fold, map}
use Rattle.serde_json.specs.Data.{Data, number, unsigned, string, array, object, Items, Members, member, no_members, put}
use Rattle.serde_json.specs.View.{items_of}
use Rattle.serde_json.specs.Written.{compact_text}
use Rattle.wt_tree.specs.declared.node.DataMw.{DataMw}
use Rattle.wt_tree.specs.declared.node.DataMw.TheVariants as mw
use Rattle.wt_tree.specs.declared.node.Part.{Part}
use Rattle.wt_tree.specs.declared.node.Part.TheVariants as part

-- a source under the key `wt`
abbrev pub wt_data : List ℕ → Data
wt_data text = object (member (codes "wt") (string text) no_members)

-- the parameters of a template by their names: of one name the last counts, and `put` keeps the
-- names in byte order
abbrev pub params_from : Members → List (List ℕ × List ℕ) → Members
params_from ms ps = fold (λ ms p. put p.0 (wt_data p.1) ms) ms ps

unfoldable pub params_data : List (List ℕ × List ℕ) → Data
params_data ps = object (params_from no_members ps)

abbrev pub target_data : List ℕ → List ℕ → Data
target_data href source = object (member (codes "href") (string href) (member (codes "wt") (string source) no_members))

-- a transclusion: its number among the group's calls, its parameters, its target
unfoldable pub template_data : List ℕ → List ℕ → List (List ℕ × List ℕ) → ℕ → Data
template_data target href ps i =
    object (member (codes "template")
    (object (member (codes "i") (number (unsigned i))
    (member (codes "params") (params_data ps) (member (codes "target") (target_data href target) no_members))))
    no_members)

abbrev pub function_target : List ℕ → List ℕ → Data
function_target name source = object (member (codes "function") (string name) (member (codes "wt") (string source) no_members))

-- a parser function: the same with its name in place of a link
unfoldable pub function_data : List ℕ → List ℕ → List (List ℕ × List ℕ) → ℕ → Data
function_data name target ps i =
    object (member (codes "template")
    (object (member (codes "i") (number (unsigned i))
    (member (codes "params") (params_data ps) (member (codes "target") (function_target name target) no_members))))
    no_members)

-- a part of a group: a transclusion, a parser function, an argument by its source, or the slice between two of these
abbrev pub part_data : Part → Data
part_data (part.Template target href ps i) = template_data target href ps i
part_data (part.Function name target ps i) = function_data name target ps i
part_data (part.Param source) = object (member (codes "param") (wt_data source) no_members)
part_data (part.Literal text) = string text

abbrev pub parts_items : List Part → Items
parts_items ps = items_of (map part_data ps)

-- the inside of an extension tag; one that closes itself has none
abbrev pub body_member : Option (List ℕ) → Members → Members
body_member None ms = ms
body_member (Some text) ms = member (codes "body") (object (member (codes "extsrc") (string text) no_members)) ms

abbrev pub extension_data : List ℕ → Option (List ℕ) → Data
extension_data name body = object (body_member body (member (codes "name") (string name) no_members))

abbrev pub mw_data : DataMw → Data
mw_data (mw.Parts ps) = object (member (codes "parts") (array (parts_items ps)) no_members)
mw_data (mw.Extension name body) = extension_data name body

-- the text of the attribute, before it is escaped: compact JSON
unfoldable pub mw_text : DataMw → List ℕ
mw_text d = compact_text (mw_data d)
