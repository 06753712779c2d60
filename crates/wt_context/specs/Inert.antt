-- Characters with which no tile and no style begins: what holds these alone is text, in every context.
use Rattle.std.specs.Prelude.{ℕ, ◌==◌, ◌||◌, Bool, false, not, List}
use Rattle.std.specs.List.{list_all}
use Rattle.wt_span.specs.Items.{Item, char, whole}
use Rattle.wt_span.specs.Characters as byte

-- An apostrophe, a `<`, a `[` or a `_` begins each of them, and a URL has a `:`.
abbrev pub is_inert : ℕ → Bool
is_inert b = not (b == byte.apostrophe || (b == byte.colon || (b == byte.less_than || (b == byte.opening_bracket || b == byte.underscore))))

abbrev pub is_inert_item : Item → Bool
is_inert_item (char o b) = is_inert b
is_inert_item (whole f o bs) = false

abbrev pub are_inert : List Item → Bool
are_inert xs = list_all is_inert_item xs
