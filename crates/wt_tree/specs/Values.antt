-- The values that an attribute of a node's own may have: what the table says of each.
use Rattle.std.specs.Prelude.{ℕ, Bool, true, false, ◌&&◌, ◌||◌, List, [], ◌∷◌, length, drop, codes}
use Rattle.std.specs.List.{list_any}
use Rattle.std.specs.Str.{bytes_eq}
use Rattle.wt_span.specs.Bytes.{begins}
use Rattle.wt_span.specs.Tags.{is_extension}
use Rattle.wt_tree.specs.declared.row.Values.{Values}
use Rattle.wt_tree.specs.declared.row.Values.TheVariants.{IslandType, IncludeType, SwitchName, Any, Link}

-- ---- islands: of an extension, by its name, or of a tag, media or a function

unfoldable pub extension_prefix : List ℕ
extension_prefix = codes "mw:Extension/"

unfoldable pub placeholder : List ℕ
placeholder = codes "mw:Placeholder"

abbrev pub is_extension_type : List ℕ → Bool
is_extension_type t = begins extension_prefix t && is_extension (drop (length extension_prefix) t)

abbrev pub is_island_type : List ℕ → Bool
is_island_type t = bytes_eq t placeholder || is_extension_type t

-- ---- include tags

unfoldable pub no_include : List ℕ
no_include = codes "mw:Includes/NoInclude"

unfoldable pub no_include_end : List ℕ
no_include_end = codes "mw:Includes/NoInclude/End"

unfoldable pub only_include : List ℕ
only_include = codes "mw:Includes/OnlyInclude"

unfoldable pub only_include_end : List ℕ
only_include_end = codes "mw:Includes/OnlyInclude/End"

unfoldable pub include_only : List ℕ
include_only = codes "mw:Includes/IncludeOnly"

abbrev pub is_include_type : List ℕ → Bool
is_include_type t = list_any (bytes_eq t) (no_include ∷ no_include_end ∷ only_include ∷ only_include_end ∷ include_only ∷ [])

-- ---- switches

unfoldable pub switch_prefix : List ℕ
switch_prefix = codes "mw:PageProp/"

unfoldable pub is_switch : List ℕ → Bool
is_switch name =
    list_any (bytes_eq name) (codes "notoc" ∷ codes "forcetoc" ∷ codes "toc" ∷ codes "noeditsection" ∷ codes "newsectionlink"
    ∷ codes "hiddencat" ∷ codes "nogallery" ∷ codes "index" ∷ codes "noindex" ∷ [])

abbrev pub is_switch_name : List ℕ → Bool
is_switch_name t = begins switch_prefix t && is_switch (drop (length switch_prefix) t)

-- ---- all of them

abbrev pub passes : Values → List ℕ → Bool
passes IslandType t = is_island_type t
passes IncludeType t = is_include_type t
passes SwitchName t = is_switch_name t
passes Any t = true
passes Link t = true

-- the attribute has to be there
abbrev pub is_needed : Values → Bool
is_needed IslandType = true
is_needed IncludeType = true
is_needed SwitchName = true
is_needed Any = false
is_needed Link = false
