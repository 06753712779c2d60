-- Lexemes that are whole by themselves, on the page and in a template.
use Rattle.std.specs.Prelude.{◌≡◌, ◌⊎◌, ℕ, Some, List, length}
use Rattle.wt_span.specs.declared.form.Mode.{Mode}
use Rattle.wt_span.specs.declared.form.LexKind.{LexKind}
use Rattle.wt_span.specs.declared.form.LexKind.TheVariants.{Chars, CommentLine, Comment, Raw, Include, Hidden, Entity, Opens, Closes, LinkOpen, LinkClose, Pipe, Equals}
use Rattle.wt_span.specs.declared.form.ItemForm.TheVariants as form
use Rattle.wt_span.specs.Tags.{include_at}
use Rattle.wt_span.specs.Whole.{IsWhole}

-- The bytes are a whole form of an item, where a lexeme of this kind makes an item by itself; of an include tag or a hidden
-- part, that they are one in this mode, since those of a template make none. Of a run of braces or a sign, which are read
-- further, nothing is said.
abbrev pub IsWholeWord : Mode → LexKind → List ℕ → Type 0
IsWholeWord mode Chars bs = IsWhole form.Chars bs
IsWholeWord mode CommentLine bs = IsWhole form.Comment bs
IsWholeWord mode Comment bs = IsWhole form.Comment bs
IsWholeWord mode Raw bs = IsWhole form.Nowiki bs ⊎ IsWhole form.Extension bs
IsWholeWord mode Include bs = include_at mode bs ≡ Some (Include, length bs)
IsWholeWord mode Hidden bs = include_at mode bs ≡ Some (Hidden, length bs)
IsWholeWord mode (Entity c) bs = IsWhole (form.Entity c) bs
IsWholeWord mode Opens bs = Unit {0}
IsWholeWord mode Closes bs = Unit {0}
IsWholeWord mode LinkOpen bs = Unit {0}
IsWholeWord mode LinkClose bs = Unit {0}
IsWholeWord mode Pipe bs = Unit {0}
IsWholeWord mode Equals bs = Unit {0}
