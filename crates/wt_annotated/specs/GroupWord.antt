-- The word of a group: the `typeof` that its first element has, before that element's own.
use Rattle.std.specs.Prelude.{ℕ, Option, Some, None, List, [], ◌∷◌, codes}
use Rattle.wt_tree.specs.declared.kind.AttrName.{AttrName}
use Rattle.wt_tree.specs.declared.kind.AttrName.TheVariants as attr
use Rattle.wt_tree.specs.declared.node.DataMw.{DataMw}
use Rattle.wt_tree.specs.declared.node.DataMw.TheVariants as mw
use Rattle.wt_tree.specs.declared.node.Part.{Part}
use Rattle.wt_tree.specs.declared.node.Part.TheVariants as part

unfoldable pub transclusion_word : List ℕ
transclusion_word = codes "mw:Transclusion"

unfoldable pub argument_word : List ℕ
argument_word = codes "mw:Param"

-- by a part that is first
abbrev pub part_word : Part → List ℕ
part_word (part.Template target href params i) = transclusion_word
part_word (part.Function name target params i) = transclusion_word
part_word (part.Param wt) = argument_word
part_word (part.Literal bs) = transclusion_word

-- by its parts: an empty style is a group without any
abbrev pub parts_word : List Part → List ℕ
parts_word [] = transclusion_word
parts_word (p ∷ ps) = part_word p

-- by what its element carries; what isn't a group's has that of a transclusion
abbrev pub group_word : Option DataMw → List ℕ
group_word None = transclusion_word
group_word (Some (mw.Parts ps)) = parts_word ps
group_word (Some (mw.Extension name body)) = transclusion_word

abbrev pub group_attrs : Option DataMw → List (AttrName × List ℕ)
group_attrs d = (attr.Typeof, group_word d) ∷ []
