-- The items of a content of text that is typed and nodes that stay: of each sign by itself.
use Rattle.std.specs.Prelude.{ℕ, Bool, true, false, None, List, [], ◌∷◌, ◌++◌, encode_utf8}
use Rattle.wt_span.specs.declared.form.ItemForm.TheVariants as form
use Rattle.wt_span.specs.Items.{Item, whole}
use Rattle.wt_guards.specs.Content.{ContentSign, letter, thing}
use Rattle.wt_guards.specs.Guards.{Setting, nowiki, is_guarded}
use Rattle.wt_guards.specs.Letters.{is_escaped, reference}
use Rattle.wt_text_edit_laws.specs.LonePages.{page_chars}
use Rattle.wt_beside_laws.specs.NodeItems.{node_items}
use Rattle.wt_beside_laws.specs.Commented.{IsHeld, EndsAsSaid}

-- each node stands so whatever is written behind it; a line of comments stands so where a line begins
abbrev pub AreKept : List ContentSign → Type 0
AreKept [] = Unit {0}
AreKept (letter c ∷ after) = AreKept after
AreKept (thing t ∷ after) = (IsHeld t.source × EndsAsSaid t.role t.source) × AreKept after

abbrev pub guard_items : Bool → List Item
guard_items true = whole form.Nowiki None nowiki ∷ []
guard_items false = []

abbrev pub letter_items : Bool → ℕ → List Item
letter_items true c = whole (form.Entity c) None (reference c) ∷ []
letter_items false c = page_chars (encode_utf8 c)

-- Between them are the nowikis that are put, and no other item.
abbrev pub content_items : Setting → List ContentSign → List ContentSign → List Item
content_items s before [] = guard_items (is_guarded s before [])
content_items s before (letter c ∷ after) =
    guard_items (is_guarded s before (letter c ∷ after)) ++ (letter_items (is_escaped s.within s.place before c after) c ++ content_items s (letter c ∷ before) after)
content_items s before (thing t ∷ after) =
    guard_items (is_guarded s before (thing t ∷ after)) ++ (node_items t.source ++ content_items s (thing t ∷ before) after)
