-- The text of `data-mw`, piece by piece as it is written.
use Rattle.std.specs.Prelude.{ℕ, List, [], ◌∷◌, ◌++◌, Option, Some, None, codes, decimal, flat_map}
use Rattle.json.specs.Print.{quoted}
use Rattle.serde_json.specs.Written.{compact_text}
use Rattle.wt_tree.specs.declared.node.DataMw.{DataMw}
use Rattle.wt_tree.specs.declared.node.DataMw.TheVariants as mw
use Rattle.wt_tree.specs.declared.node.Part.{Part}
use Rattle.wt_tree.specs.declared.node.Part.TheVariants as part
use Rattle.wt_datamw.specs.Mw.{params_data}

-- a key of an object, with its colon
abbrev pub key_text : List ℕ → List ℕ
key_text key = quoted key ++ codes ":"

-- ---- parameters

-- what is between the name of a parameter and its source
unfoldable pub value_start : List ℕ
value_start = codes ":{" ++ key_text (codes "wt")

-- a parameter: its name, and its source under `wt`
abbrev pub param_text : List ℕ × List ℕ → List ℕ
param_text p = quoted p.0 ++ (value_start ++ (quoted p.1 ++ codes "}"))

-- a parameter after another one
abbrev pub later_param : List ℕ × List ℕ → List ℕ
later_param p = codes "," ++ param_text p

abbrev pub params_listed : List (List ℕ × List ℕ) → List ℕ
params_listed [] = []
params_listed (p ∷ ps) = param_text p ++ flat_map later_param ps

-- parameters as they are, where their names are distinct and in byte order
unfoldable pub ordered_params : List (List ℕ × List ℕ) → List ℕ
ordered_params ps = codes "{" ++ (params_listed ps ++ codes "}")

-- ---- parts

-- before the number of a transclusion, its parameters and the two texts of its target
unfoldable pub number_start : List ℕ
number_start = codes "{" ++ (key_text (codes "template") ++ (codes "{" ++ key_text (codes "i")))

unfoldable pub params_start : List ℕ
params_start = codes "," ++ key_text (codes "params")

unfoldable pub href_start : List ℕ
href_start = codes "," ++ (key_text (codes "target") ++ (codes "{" ++ key_text (codes "href")))

unfoldable pub target_start : List ℕ
target_start = codes "," ++ key_text (codes "wt")

unfoldable pub target_text : List ℕ → List ℕ → List ℕ
target_text href target = href_start ++ (quoted href ++ (target_start ++ (quoted target ++ codes "}}}")))

unfoldable pub function_start : List ℕ
function_start = codes "," ++ (key_text (codes "target") ++ (codes "{" ++ key_text (codes "function")))

unfoldable pub function_target_text : List ℕ → List ℕ → List ℕ
function_target_text name target = function_start ++ (quoted name ++ (target_start ++ (quoted target ++ codes "}}}")))

unfoldable pub function_text : List ℕ → List ℕ → List (List ℕ × List ℕ) → ℕ → List ℕ
function_text name target ps i =
    number_start ++ (decimal i ++ (params_start ++ (compact_text (params_data ps) ++ function_target_text name target)))

unfoldable pub template_text : List ℕ → List ℕ → List (List ℕ × List ℕ) → ℕ → List ℕ
template_text target href ps i =
    number_start ++ (decimal i ++ (params_start ++ (compact_text (params_data ps) ++ target_text href target)))

-- before the source of an argument
unfoldable pub argument_start : List ℕ
argument_start = codes "{" ++ (key_text (codes "param") ++ (codes "{" ++ key_text (codes "wt")))

abbrev pub part_text : Part → List ℕ
part_text (part.Template target href ps i) = template_text target href ps i
part_text (part.Function name target ps i) = function_text name target ps i
part_text (part.Param source) = argument_start ++ (quoted source ++ codes "}}")
part_text (part.Literal text) = quoted text

-- a part after another one
abbrev pub later_part : Part → List ℕ
later_part p = codes "," ++ part_text p

abbrev pub parts_listed : List Part → List ℕ
parts_listed [] = []
parts_listed (p ∷ ps) = part_text p ++ flat_map later_part ps

unfoldable pub parts_start : List ℕ
parts_start = codes "{" ++ (key_text (codes "parts") ++ codes "[")

-- ---- extension tags

unfoldable pub body_start : List ℕ
body_start = key_text (codes "body") ++ (codes "{" ++ key_text (codes "extsrc"))

-- the inside of an extension tag before its name
abbrev pub body_text : Option (List ℕ) → List ℕ
body_text None = []
body_text (Some text) = body_start ++ (quoted text ++ codes "},")

unfoldable pub name_start : List ℕ
name_start = key_text (codes "name")

abbrev pub extension_text : List ℕ → Option (List ℕ) → List ℕ
extension_text name body = codes "{" ++ (body_text body ++ (name_start ++ (quoted name ++ codes "}")))

-- ---- the whole

abbrev pub mw_pieces : DataMw → List ℕ
mw_pieces (mw.Parts ps) = parts_start ++ (parts_listed ps ++ codes "]}")
mw_pieces (mw.Extension name body) = extension_text name body
