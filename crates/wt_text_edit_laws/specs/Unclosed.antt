-- A mark that nothing ends: a comment without `-->`, and a hidden part without its closing tag. It runs to the page's end.
use Rattle.std.specs.Prelude.{ℕ, ◌-◌, ◌==◌, ◌&&◌, Bool, true, false, not, Option, Some, None, List, drop, length, slice_get, codes}
use Rattle.std.specs.Option.{is_some}
use Rattle.wt_span.specs.declared.form.ItemForm.{ItemForm}
use Rattle.wt_span.specs.declared.form.ItemForm.TheVariants as form
use Rattle.wt_span.specs.Items.{Item, char, whole}
use Rattle.wt_span.specs.Tags.{Tag, opening_tag, with_inside}
use Rattle.wt_names.specs.Good.{holds}
use Rattle.wt_tree.specs.declared.kind.Ranges.{Ranges}

-- a comment without `-->`, and a part that pages don't show without its closing tag
abbrev pub is_tag_unclosed : Option Tag → List ℕ → Bool
is_tag_unclosed None bs = false
is_tag_unclosed (Some t) bs = not (is_some (with_inside t bs))

abbrev pub is_unclosed : ItemForm → List ℕ → Bool
is_unclosed form.Chars bs = false
is_unclosed (form.Entity c) bs = false
is_unclosed form.Nowiki bs = false
is_unclosed form.Extension bs = false
is_unclosed form.Function bs = false
is_unclosed form.Comment bs = not (holds (codes "-->") (drop 4 bs))
is_unclosed form.Include bs = false
is_unclosed form.Hidden bs = is_tag_unclosed (opening_tag bs) bs
is_unclosed form.EmptyCall bs = false

-- an item of the page itself
abbrev pub is_unclosed_item : Option Item → Bool
is_unclosed_item None = false
is_unclosed_item (Some (char o b)) = false
is_unclosed_item (Some (whole f None bs)) = is_unclosed f bs
is_unclosed_item (Some (whole f (Some k) bs)) = false

abbrev pub last_of : List Item → Option Item
last_of xs = slice_get xs (length xs - 1)

abbrev pub reaches : ℕ → Option Ranges → Bool
reaches size None = false
reaches size (Some r) = r.end == size

-- An unclosed mark is the page's last item; a block holds it where it goes up to there.
abbrev pub holds_unclosed : List Item → List ℕ → Option Ranges → Bool
holds_unclosed items page r = is_unclosed_item (last_of items) && reaches (length page) r
