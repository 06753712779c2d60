-- Whole forms: texts that are one form from their first byte to their last.
use Rattle.std.specs.Prelude.{◌≡◌, ◌<◌, ◌⊎◌, ℕ, Bool, Some, List, length}
use Rattle.wt_span.specs.declared.form.Mode.TheVariants.{Page, Template}
use Rattle.wt_span.specs.declared.form.LexKind.TheVariants as lex
use Rattle.wt_span.specs.declared.form.ItemForm.{ItemForm}
use Rattle.wt_span.specs.declared.form.ItemForm.TheVariants as form
use Rattle.wt_span.specs.Comments.{comment_len, comment_line_len}
use Rattle.wt_span.specs.Entities.{entity_at}
use Rattle.wt_span.specs.Tags.{opening_tag, raw_by, is_nowiki, is_extension, include_at}
use Rattle.wt_span.specs.Braces.{IsCall}

-- a raw tag whose name passes a test
abbrev pub IsRawTag : (List ℕ → Bool) → List ℕ → Type 0
IsRawTag named bs = raw_by named (opening_tag bs) bs ≡ Some (length bs)

-- The bytes are one whole form. Include tags and hidden parts are those of the page, since a template's are removed; so is an
-- empty call, since only outermost calls are items. A function may come out of a template.
abbrev pub IsWhole : ItemForm → List ℕ → Type 0
IsWhole form.Chars bs = 0 < length bs
IsWhole (form.Entity c) bs = entity_at bs ≡ Some (c, length bs)
IsWhole form.Nowiki bs = IsRawTag is_nowiki bs
IsWhole form.Extension bs = IsRawTag is_extension bs
IsWhole form.Function bs = IsCall Page bs ⊎ IsCall Template bs
IsWhole form.Comment bs = (comment_len bs ≡ Some (length bs)) ⊎ (comment_line_len bs ≡ Some (length bs))
IsWhole form.Include bs = include_at Page bs ≡ Some (lex.Include, length bs)
IsWhole form.Hidden bs = include_at Page bs ≡ Some (lex.Hidden, length bs)
IsWhole form.EmptyCall bs = IsCall Page bs
