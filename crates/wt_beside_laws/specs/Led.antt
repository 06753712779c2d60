-- Marks at the starts of lines, in a content of text that is typed and nodes that stay: comments, lines of comments and include tags.
use Rattle.std.specs.Prelude.{◌≡◌, true, false, List, [], ◌∷◌}
use Rattle.wt_tree.specs.declared.edit_shape.Place.{Place}
use Rattle.wt_tree.specs.declared.edit_shape.Place.TheVariants as place
use Rattle.wt_guards.specs.declared.role.Role.{Role}
use Rattle.wt_guards.specs.Content.{ContentSign, letter, thing, nearest, ends_line}
use Rattle.wt_guards.specs.Guards.{is_line_start, is_new_at_start, is_mark}

-- In a paragraph a mark that began its line in the page isn't first: nothing would be put before it, and it would stand before the paragraph. In a
-- heading any mark may be first, behind the `=`, but no line of comments: no line begins there.
abbrev pub MayBegin : Place → Role → Type 0
MayBegin place.Paragraph r = is_mark r ≡ true → is_new_at_start r ≡ true
MayBegin place.Heading r = ends_line r ≡ false
MayBegin place.Item r = is_mark r ≡ true → is_new_at_start r ≡ true
MayBegin place.Term r = is_mark r ≡ true → is_new_at_start r ≡ true
MayBegin place.Cell r = is_mark r ≡ true → is_new_at_start r ≡ true
MayBegin place.Header r = is_mark r ≡ true → is_new_at_start r ≡ true

abbrev pub BeginsUnled : Place → List ContentSign → Type 0
BeginsUnled p [] = Unit {0}
BeginsUnled p (letter c ∷ after) = Unit {0}
BeginsUnled p (thing t ∷ after) = MayBegin p t.role

-- Where a line of comments stands a line begins: the text before it is empty, or ends with a line break.
abbrev pub AreLed : List ContentSign → List ContentSign → Type 0
AreLed before [] = Unit {0}
AreLed before (letter c ∷ after) = AreLed (letter c ∷ before) after
AreLed before (thing t ∷ after) = (ends_line t.role ≡ true → is_line_start (nearest before) ≡ true) × AreLed (thing t ∷ before) after

pub record AreMarksLed (p : Place) (signs : List ContentSign) : Type 0 where
  pub first : BeginsUnled p signs
  pub others : AreLed [] signs
