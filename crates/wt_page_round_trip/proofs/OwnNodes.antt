-- What is asked of a page's nodes beside what is written of them: no two neighbours are texts that were one, and two kinds have
-- items of one origin.
use Rattle.std.specs.Prelude.{◌≡◌, Bool, true, false, ◌&&◌, List, ◌++◌}
use Rattle.std.specs.List.{list_all, list_any}
use Rattle.wt_span.specs.Items.{Item}
use Rattle.wt_tree.specs.declared.kind.Kind.{Kind}
use Rattle.wt_tree.specs.declared.kind.Kind.TheVariants as kind
use Rattle.wt_inline.specs.ItemTree.{ItemTree, inner, ItemTrees, nothing, further, tree_items, held_by_all}
use Rattle.wt_annotated.specs.Clean.{is_page}

-- no item of it comes from a call
abbrev pub is_own : ItemTree → Bool
is_own t = list_all is_page (tree_items t)

-- two texts, or two separators
abbrev pub are_one_kind : Kind → Kind → Bool
are_one_kind kind.Text kind.Text = true
are_one_kind kind.Sep kind.Sep = true
are_one_kind k j = false

-- two texts of the page itself that were one
abbrev pub is_one_text : ItemTree → ItemTree → Bool
is_one_text (inner h o ts c) (inner i p us d) =
    are_one_kind h.kind i.kind && (is_own (inner h o ts c) && is_own (inner i p us d))

abbrev pub IsApartFrom : ItemTree → ItemTrees → Type 0
IsApartFrom t nothing = Unit {0}
IsApartFrom t (further u us) = is_one_text t u ≡ false

-- each of these holds items, all of the page itself
abbrev pub AreOwn : ItemTrees → Type 0
AreOwn nothing = Unit {0}
AreOwn (further t ts) = (is_own t ≡ true) × (list_any is_page (tree_items t) ≡ true) × AreOwn ts

-- The mark of an empty call is none of the page's own, and a `nowiki` whose delimiters are the page's holds what is the page's.
abbrev pub HasOrigin : Kind → List Item → ItemTrees → List Item → Type 0
HasOrigin kind.Empty opening ts closing = list_all is_page (opening ++ (held_by_all ts ++ closing)) ≡ false
HasOrigin kind.Nowiki opening ts closing = list_all is_page (opening ++ closing) ≡ true → AreOwn ts
HasOrigin k opening ts closing = Unit {0}

abbrev mutual
  pub IsParted : ItemTree → Type 0
  IsParted (inner h opening ts closing) = HasOrigin h.kind opening ts closing × AreParted ts

  pub AreParted : ItemTrees → Type 0
  AreParted nothing = Unit {0}
  AreParted (further t ts) = IsParted t × IsApartFrom t ts × AreParted ts
