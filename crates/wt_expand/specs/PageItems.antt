-- The items of a page without calls: its lexemes, each by the form that it has as an item.
use Rattle.std.specs.Prelude.{ℕ, Option, Some, None, List, [], ◌∷◌, ◌++◌, take, drop, if◌then◌else◌}
use Rattle.wt_span.specs.declared.form.Mode.TheVariants.{Page}
use Rattle.wt_span.specs.declared.form.LexKind.{LexKind}
use Rattle.wt_span.specs.declared.form.LexKind.TheVariants as lex
use Rattle.wt_span.specs.declared.form.ItemForm.{ItemForm}
use Rattle.wt_span.specs.declared.form.ItemForm.TheVariants as form
use Rattle.wt_span.specs.Tags.{Tag, opening_tag, is_nowiki}
use Rattle.wt_span.specs.Lexemes.{Word, words}
use Rattle.wt_span.specs.Items.{Item, items_by}

-- a raw tag is a nowiki or an extension, by its name
abbrev pub raw_form_by : Option Tag → ItemForm
raw_form_by None = form.Extension
raw_form_by (Some t) = if is_nowiki t.name then form.Nowiki else form.Extension

abbrev pub raw_form : List ℕ → ItemForm
raw_form bs = raw_form_by (opening_tag bs)

-- The form of a lexeme's bytes. Signs and runs of braces are characters, since no calls are read.
abbrev pub form_of : LexKind → List ℕ → ItemForm
form_of lex.Chars bs = form.Chars
form_of lex.CommentLine bs = form.Comment
form_of lex.Comment bs = form.Comment
form_of lex.Raw bs = raw_form bs
form_of lex.Include bs = form.Include
form_of lex.Hidden bs = form.Hidden
form_of (lex.Entity c) bs = form.Entity c
form_of lex.Opens bs = form.Chars
form_of lex.Closes bs = form.Chars
form_of lex.LinkOpen bs = form.Chars
form_of lex.LinkClose bs = form.Chars
form_of lex.Pipe bs = form.Chars
form_of lex.Equals bs = form.Chars

-- the items of a lexeme of the page: each byte of a character is one, and any other form
abbrev pub items_of_word : LexKind → List ℕ → List Item
items_of_word kind bs = items_by (form_of kind bs) None bs

-- the items of lexemes that follow one another in a text
abbrev pub items_of_words : List Word → List ℕ → List Item
items_of_words [] bs = []
items_of_words ((kind, n) ∷ ws) bs = items_of_word kind (take n bs) ++ items_of_words ws (drop n bs)

-- the items of a page, all of them from the page itself
unfoldable pub page_items : List ℕ → List Item
page_items page = items_of_words (words Page page) page
