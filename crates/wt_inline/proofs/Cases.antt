-- Worked cases of the definitions, each computed.
use Rattle.std.proofs.Common.{◌≡◌, ℕ, List, [], ◌∷◌, Some, None, map, refl}
use Rattle.std.specs.Prelude.{codes}
use Rattle.std.proofs.Math.Utf8.{encode}
use Rattle.wt_tree.specs.declared.kind.Kind.TheVariants as kind
use Rattle.wt_tree.specs.declared.kind.AttrName.TheVariants as attr
use Rattle.wt_tree.specs.declared.node.DataMw.TheVariants as mw
use Rattle.wt_span.specs.declared.form.ItemForm.TheVariants as form
use Rattle.wt_span.specs.Tags.{opening_tag, closing_tag, tag_after}
use Rattle.wt_span.specs.Entities.{entity_at, named_entity, entity_names, decimal_entity, hex_entity}
use Rattle.wt_span.specs.Items.{Item, char, whole}
use Rattle.wt_inline.specs.ItemTree.{plain, inner, forest}
use Rattle.wt_inline.specs.Parts.{loose_leaf, form_leaf, children, nowiki}
use Rattle.wt_inline.specs.declared.loose.Loose.TheVariants.{Text}
use Rattle.wt_inline.specs.Inline.{inline_parts}
use Rattle.wt_inline.specs.Carried.{attrs_whole, data_whole, shown_item, extension_typeof, noinclude_typeof, onlyinclude_typeof, includeonly_typeof, extension_data}

abbrev text : List ℕ → List Item
text bs = map (char None) bs

-- the inside of `nowiki` has texts and entities alone
inside : children (inline_parts (whole form.Nowiki None (codes "<nowiki>a&lt;b</nowiki >") ∷ []))
    ≡ inner (plain kind.Nowiki) (text (codes "<nowiki>"))
    (forest (loose_leaf Text (text (codes "a")) ∷ form_leaf (form.Entity 60) None (codes "&lt;") ∷ loose_leaf Text (text (codes "b")) ∷ []))
    (text (codes "</nowiki >")) ∷ []
unfolding children nowiki opening_tag closing_tag tag_after entity_at named_entity entity_names decimal_entity hex_entity
inside = refl

-- characters of the page and of a call are two texts
two_origins : children (inline_parts (char None 97 ∷ char (Some 0) 98 ∷ char (Some 0) 99 ∷ char (Some 1) 100 ∷ []))
    ≡ loose_leaf Text (char None 97 ∷ []) ∷ loose_leaf Text (char (Some 0) 98 ∷ char (Some 0) 99 ∷ []) ∷ loose_leaf Text (char (Some 1) 100 ∷ []) ∷ []
unfolding children
two_origins = refl

opening_tag_alone : attrs_whole form.Include (codes "<NoInclude x/>") ≡ (attr.Typeof, codes "mw:Includes/NoInclude") ∷ []
unfolding noinclude_typeof opening_tag tag_after
opening_tag_alone = refl

closing_tag_alone : attrs_whole form.Include (codes "</onlyinclude >") ≡ (attr.Typeof, codes "mw:Includes/OnlyInclude/End") ∷ []
unfolding onlyinclude_typeof opening_tag closing_tag
closing_tag_alone = refl

hidden_part : attrs_whole form.Hidden (codes "<includeonly/>") ≡ (attr.Typeof, codes "mw:Includes/IncludeOnly") ∷ []
unfolding includeonly_typeof
hidden_part = refl

comment : attrs_whole form.Comment (codes "<!-- -->") ≡ []
comment = refl

extension : attrs_whole form.Extension (codes "<REF name=a>y</Ref>") ≡ (attr.Typeof, codes "mw:Extension/ref") ∷ []
unfolding extension_typeof opening_tag tag_after
extension = refl

extension_inside : data_whole form.Extension (codes "<REF name=a>y</Ref>") ≡ Some (mw.Extension (codes "ref") (Some (codes "y")))
unfolding extension_data opening_tag tag_after closing_tag
extension_inside = refl

extension_alone : data_whole form.Extension (codes "<ref />") ≡ Some (mw.Extension (codes "ref") None)
unfolding extension_data opening_tag tag_after
extension_alone = refl

shown_entity : shown_item (whole (form.Entity 233) None (codes "&#233;")) ≡ 195 ∷ 169 ∷ []
unfolding encode
shown_entity = refl
