-- Worked cases of the definitions, each by computing.
use Rattle.std.proofs.Common.{◌≡◌, ℕ, None, List, [], ◌∷◌, ◌++◌, map, refl}
use Rattle.std.specs.Prelude.{codes}
use Rattle.wt_span.specs.declared.form.ItemForm.TheVariants as form
use Rattle.wt_span.specs.Items.{Item, char, whole}
use Rattle.wt_tree.specs.declared.kind.AttrName.TheVariants as attr
use Rattle.wt_attributes.specs.Attributes.{begins_any_case, name_at, quoted, bare, value_at, past_blanks, assigned, attribute_at, attributes}

abbrev text : List ℕ → List Item
text bs = map (char None) bs

-- values in either quote and without quotes; blanks round the `=`; names in any case; other text is passed over
forms : attributes (text (codes " class=\"a b\" ROWSPAN = 2 id=x lang='d''e'")) ≡ (attr.Class, codes "a b")
    ∷ (attr.Rowspan, codes "2") ∷ (attr.Lang, codes "d") ∷ []
unfolding begins_any_case name_at quoted bare value_at past_blanks assigned attribute_at attributes
forms = refl

-- the first of a name counts, and the order is that in which attributes are written
first : attributes (text (codes "dir=r class=a dir=l")) ≡ (attr.Class, codes "a") ∷ (attr.Dir, codes "r") ∷ []
unfolding begins_any_case name_at quoted bare value_at past_blanks assigned attribute_at attributes
first = refl

-- an attribute begins at the text's start or after a blank, also in another one's value that isn't closed; none begins in a
-- value in quotes, or directly after one
places : attributes (text (codes "xclass=a title=\"lang=b \" scope='c'dir=d colspan=\"e")) ≡ (attr.Scope, codes "c") ∷ []
unfolding begins_any_case name_at quoted bare value_at past_blanks assigned attribute_at attributes
places = refl

-- an entity gives its character, a mark and an atom nothing
items_read : attributes (text (codes "cl") ++ whole form.Comment None (codes "<!-- -->") ∷ (text (codes "ass=") ++ whole (form.Entity 34) None (codes "&quot;")
    ∷ (text (codes "a") ++ whole form.Nowiki None (codes "<nowiki>x</nowiki>") ∷ whole (form.Entity 228) None (codes "&#228;") ∷ text (codes "\""))))
    ≡ (attr.Class, 97 ∷ 195 ∷ 164 ∷ []) ∷ []
unfolding begins_any_case name_at quoted bare value_at past_blanks assigned attribute_at attributes lib.Utf8.encode
items_read = refl

-- blanks after a `=` are passed over too; a name without a value, and a value that is empty in quotes
empty_values : map (λ bs. attributes (text bs))
    (codes "class= lang=\"\" dir" ∷ codes "dir lang=\"\" class=" ∷ codes "class==a scope =''" ∷ [])
    ≡ ((attr.Class, codes "lang") ∷ []) ∷ ((attr.Lang, []) ∷ []) ∷ ((attr.Scope, []) ∷ []) ∷ []
unfolding begins_any_case name_at quoted bare value_at past_blanks assigned attribute_at attributes
empty_values = refl
