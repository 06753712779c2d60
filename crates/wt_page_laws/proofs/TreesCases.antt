-- Worked cases of what may stand where.
use Rattle.std.proofs.Common.{◌≡◌, true, false, [], ◌∷◌, refl}
use Rattle.std.specs.Prelude.{codes}
use Rattle.wt_tree.specs.Elements.{as_elements, or_empty_span, span}
use Rattle.wt_tree.specs.Kinds.{may_hold}
use Rattle.wt_tree.specs.Plain.{text, element, ended, along}
use Rattle.wt_tree.specs.declared.kind.Kind.TheVariants as kind
use Rattle.wt_page_laws.specs.Homes.{follow}

-- a list stands in an item, a paragraph doesn't; a comment stands anywhere
list_in_item : may_hold kind.Li kind.Ul ≡ true
list_in_item = refl

no_paragraph_in_item : may_hold kind.Li kind.Para ≡ false
no_paragraph_in_item = refl

comment_in_row : may_hold kind.Tr kind.Comment ≡ true
comment_in_row = refl

cell_in_row_alone : may_hold kind.Tbody kind.Td ≡ false
cell_in_row_alone = refl

-- a line and then a list, and not the other way round
line_then_list : follow false (kind.Bold ∷ kind.Comment ∷ kind.Ul ∷ kind.Ol ∷ []) ≡ true
line_then_list = refl

no_line_behind : follow false (kind.Ul ∷ kind.Bold ∷ []) ≡ false
no_line_behind = refl

-- a text stands in a `span`, and nothing is one empty `span`
text_in_span : or_empty_span (as_elements (along (text (codes "a")) ended)) ≡ along (element span (along (text (codes "a")) ended)) ended
text_in_span = refl

empty_span : or_empty_span (as_elements ended) ≡ along (element span ended) ended
empty_span = refl
