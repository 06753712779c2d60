-- What an element has beside its source: the characters that it shows, attributes, and the data of an extension. A table by
-- form and source.
use Rattle.std.specs.Prelude.{ℕ, Bool, Option, Some, None, List, [], ◌∷◌, ◌++◌, codes, encode_utf8, if◌then◌else◌}
use Rattle.wt_tree.specs.declared.kind.AttrName.{AttrName}
use Rattle.wt_tree.specs.declared.kind.AttrName.TheVariants as attr
use Rattle.wt_tree.specs.declared.node.DataMw.{DataMw}
use Rattle.wt_tree.specs.declared.node.DataMw.TheVariants as mw
use Rattle.wt_span.specs.declared.form.ItemForm.{ItemForm}
use Rattle.wt_span.specs.declared.form.ItemForm.TheVariants as form
use Rattle.wt_span.specs.Tags.{Tag, opening_tag, closing_tag, is_noinclude}
use Rattle.wt_span.specs.Items.{Item, char, whole}
use Rattle.wt_inline.specs.RawTag.{name_of, is_alone, inside_of}

-- ---- what it shows

-- a character shows itself, and an entity the character that it stands for
abbrev pub shown_whole : ItemForm → List ℕ
shown_whole form.Chars = []
shown_whole (form.Entity c) = encode_utf8 c
shown_whole form.Nowiki = []
shown_whole form.Extension = []
shown_whole form.Function = []
shown_whole form.Comment = []
shown_whole form.Include = []
shown_whole form.Hidden = []
shown_whole form.EmptyCall = []

-- ---- its `typeof`

unfoldable pub extension_typeof : List ℕ → List ℕ
extension_typeof name = codes "mw:Extension/" ++ name

unfoldable pub placeholder_typeof : List ℕ
placeholder_typeof = codes "mw:Placeholder"

unfoldable pub noinclude_typeof : List ℕ
noinclude_typeof = codes "mw:Includes/NoInclude"

unfoldable pub onlyinclude_typeof : List ℕ
onlyinclude_typeof = codes "mw:Includes/OnlyInclude"

unfoldable pub includeonly_typeof : List ℕ
includeonly_typeof = codes "mw:Includes/IncludeOnly"

-- by the name of the tag
abbrev pub include_name : List ℕ → List ℕ
include_name name = if is_noinclude name then noinclude_typeof else onlyinclude_typeof

-- an opening tag that is alone, or a closing tag
abbrev pub include_typeof : Option Tag → Option Tag → List ℕ
include_typeof None closing = include_name (name_of closing) ++ codes "/End"
include_typeof (Some t) closing = include_name t.name

abbrev pub typeof : List ℕ → List (AttrName × List ℕ)
typeof value = (attr.Typeof, value) ∷ []

-- The kind alone says what an entity, a `nowiki` and a comment are, so they have no attribute of their own.
abbrev pub attrs_whole : ItemForm → List ℕ → List (AttrName × List ℕ)
attrs_whole form.Chars bs = []
attrs_whole (form.Entity c) bs = []
attrs_whole form.Nowiki bs = []
attrs_whole form.Extension bs = typeof (extension_typeof (name_of (opening_tag bs)))
attrs_whole form.Function bs = typeof placeholder_typeof
attrs_whole form.Comment bs = []
attrs_whole form.Include bs = typeof (include_typeof (opening_tag bs) (closing_tag bs))
attrs_whole form.Hidden bs = typeof includeonly_typeof
attrs_whole form.EmptyCall bs = []

-- ---- the data of an extension: its name in lower case, and its inside, which a tag that closes itself has not

abbrev pub extension_of : List ℕ → Bool → List ℕ → DataMw
extension_of name alone inside = mw.Extension name (if alone then None else Some inside)

unfoldable pub extension_data : List ℕ → DataMw
extension_data bs = extension_of (name_of (opening_tag bs)) (is_alone (opening_tag bs)) (inside_of bs)

abbrev pub data_whole : ItemForm → List ℕ → Option DataMw
data_whole form.Chars bs = None
data_whole (form.Entity c) bs = None
data_whole form.Nowiki bs = None
data_whole form.Extension bs = Some (extension_data bs)
data_whole form.Function bs = None
data_whole form.Comment bs = None
data_whole form.Include bs = None
data_whole form.Hidden bs = None
data_whole form.EmptyCall bs = None

-- ---- of an item

abbrev pub shown_item : Item → List ℕ
shown_item (char o b) = b ∷ []
shown_item (whole f o bs) = shown_whole f
