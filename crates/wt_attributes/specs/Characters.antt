-- The text in which attributes are read.
use Rattle.std.specs.Prelude.{ℕ, List, [], ◌∷◌, encode_utf8}
use Rattle.std.specs.List.{flat_map}
use Rattle.wt_span.specs.declared.form.ItemForm.{ItemForm}
use Rattle.wt_span.specs.declared.form.ItemForm.TheVariants as form
use Rattle.wt_span.specs.Items.{Item, char, whole}

-- an entity gives the character that it stands for; other atoms and marks give nothing
abbrev pub characters_by : ItemForm → List ℕ
characters_by form.Chars = []
characters_by (form.Entity c) = encode_utf8 c
characters_by form.Nowiki = []
characters_by form.Extension = []
characters_by form.Function = []
characters_by form.Comment = []
characters_by form.Include = []
characters_by form.Hidden = []
characters_by form.EmptyCall = []

-- a character gives itself
abbrev pub characters : Item → List ℕ
characters (char o b) = b ∷ []
characters (whole f o bs) = characters_by f

abbrev pub text_of : List Item → List ℕ
text_of xs = flat_map characters xs
