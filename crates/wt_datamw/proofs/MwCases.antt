-- Worked cases of what data of `data-mw` says.
use Rattle.std.specs.Prelude.{◌≡◌, refl, true, [], ◌∷◌, Some, None, Ok, Err, codes}
use Rattle.serde_json.specs.Data.{Data, Num, unsigned, number, boolean, string, array, object, Items, no_items, item, Members, no_members, member}
use Rattle.wt_tree.specs.declared.node.DataMw.TheVariants as mw
use Rattle.wt_tree.specs.declared.node.Part.TheVariants as part
use Rattle.wt_datamw.specs.declared.refusal.DataWhy.TheVariants as why
use Rattle.wt_datamw.specs.Mw.{wt_data}
use Rattle.wt_datamw.specs.MwRead.{is_mw_shape, has_small_numbers, template_of, function_of, mw_of_data}

abbrev group : Items → Data
group ds = object (member (codes "parts") (array ds) no_members)

-- its keys aren't in byte order
abbrev transclusion : Num → Members → Data
transclusion i params =
    object (member (codes "template")
    (object (member (codes "target") (object (member (codes "wt") (string (codes "x "))
    (member (codes "href") (string (codes "./Template:X")) no_members)))
    (member (codes "params") (object params) (member (codes "i") (number i) no_members))))
    no_members)

-- a call of a parser function of this name
abbrev named : Data → Data
named name =
    object (member (codes "template")
    (object (member (codes "i") (number (unsigned 0))
    (member (codes "params") (object (member (codes "1") (wt_data (codes " a ")) no_members))
    (member (codes "target") (object (member (codes "function") name (member (codes "wt") (string (codes "#if: x ")) no_members))) no_members))))
    no_members)

function_part : mw_of_data (group (item (named (string (codes "if"))) no_items))
    ≡ Ok (mw.Parts (part.Function (codes "if") (codes "#if: x ") ((codes "1", codes " a ") ∷ []) 0 ∷ []))
unfolding mw_of_data is_mw_shape has_small_numbers template_of function_of
function_part = refl

-- only functions by text have such data
another_name : mw_of_data (group (item (named (string (codes "invoke"))) no_items)) ≡ Err why.Shape
unfolding mw_of_data is_mw_shape has_small_numbers
another_name = refl

three_parts : mw_of_data (group (item (transclusion (unsigned 3) (member (codes "1") (wt_data (codes " c ")) no_members))
    (item (string (codes "b")) (item (object (member (codes "param") (wt_data (codes "{{{1}}}")) no_members)) no_items))))
    ≡ Ok (mw.Parts (part.Template (codes "x ") (codes "./Template:X") ((codes "1", codes " c ") ∷ []) 3 ∷ part.Literal (codes "b")
    ∷ part.Param (codes "{{{1}}}") ∷ []))
unfolding mw_of_data is_mw_shape has_small_numbers template_of
three_parts = refl

too_large : mw_of_data (group (item (transclusion (unsigned 4294967296) no_members) no_items)) ≡ Err why.Number
unfolding mw_of_data is_mw_shape has_small_numbers
too_large = refl

-- the shape of the whole is tried before any number
shape_first : mw_of_data (group (item (transclusion (unsigned 4294967296) no_members) (item (boolean true) no_items))) ≡ Err why.Shape
unfolding mw_of_data is_mw_shape has_small_numbers
shape_first = refl

empty_body : mw_of_data (object (member (codes "name") (string (codes "ref"))
    (member (codes "body") (object (member (codes "extsrc") (string []) no_members)) no_members)))
    ≡ Ok (mw.Extension (codes "ref") (Some []))
unfolding mw_of_data is_mw_shape has_small_numbers
empty_body = refl

no_body : mw_of_data (object (member (codes "name") (string (codes "ref")) no_members)) ≡ Ok (mw.Extension (codes "ref") None)
unfolding mw_of_data is_mw_shape has_small_numbers
no_body = refl

body_without_text : mw_of_data (object (member (codes "body") (object no_members) (member (codes "name") (string (codes "ref")) no_members))) ≡ Err why.Shape
unfolding mw_of_data is_mw_shape has_small_numbers
body_without_text = refl

group_with_name : mw_of_data (object (member (codes "name") (string (codes "ref")) (member (codes "parts") (array no_items) no_members))) ≡ Err why.Shape
unfolding mw_of_data is_mw_shape has_small_numbers
group_with_name = refl
