-- What the reader of pages answers.
use Rattle.std.specs.Prelude.{◌≡◌, ℕ, Option, Result, Ok, Err, List}
use Rattle.wt_tree.specs.Tree.{Tree}
use Rattle.wt_tree.specs.View.{view}
use Rattle.wt_schema.specs.Read.{page, ill, misfit, read}
use Rattle.wt_html_in.specs.declared.edited.Edited.{Edited}
use Rattle.wt_html_in.specs.declared.refusal.HtmlRefusal.{HtmlRefusal}
use Rattle.wt_html_in.specs.declared.refusal.HtmlRefusal.TheVariants as refusals

-- the tree of an edited page, and its first element without a source
unfoldable pub body_of : Edited → Tree
body_of e = view e.body

unfoldable pub unsourced_of : Edited → Option ℕ
unsourced_of e = e.unsourced

-- these bytes are no page, for this reason
abbrev pub RefusedFor : List ℕ → HtmlRefusal → Type 0
RefusedFor bytes (refusals.Html place w) = read bytes ≡ ill place w
RefusedFor bytes (refusals.Unfit n w) = read bytes ≡ misfit n w
RefusedFor bytes refusals.NoMemory = Unit {0}

-- what is read of these bytes
abbrev pub Answers : Result Edited HtmlRefusal → List ℕ → Type 0
Answers (Ok e) bytes = read bytes ≡ page (body_of e) (unsourced_of e)
Answers (Err e) bytes = RefusedFor bytes e
