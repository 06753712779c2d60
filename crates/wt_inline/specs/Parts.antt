-- What is in a node is a list of parts: characters by themselves, and nodes. Characters that are neighbours make one
-- leaf where they are of one kind and of one origin.
use Rattle.std.specs.Prelude.{◌≡◌, ℕ, Bool, true, false, ◌==◌, ◌&&◌, Option, Some, None, List, [], ◌∷◌, map}
use Rattle.std.specs.List.{flat_map, list_all}
use Rattle.wt_tree.specs.declared.kind.Kind.{Kind}
use Rattle.wt_tree.specs.declared.kind.Kind.TheVariants as kind
use Rattle.wt_span.specs.declared.form.ItemForm.{ItemForm}
use Rattle.wt_span.specs.declared.form.ItemForm.TheVariants as form
use Rattle.wt_span.specs.Items.{Item, char, whole}
use Rattle.wt_span.specs.Runs.{runs, AreRuns}
use Rattle.wt_inline.specs.declared.loose.Loose.{Loose}
use Rattle.wt_inline.specs.declared.loose.Loose.TheVariants.{Text, Sep}
use Rattle.wt_inline.specs.RawTag.{opening_of, inside_of, closing_of}
use Rattle.wt_inline.specs.Inside.{inside_items}
use Rattle.wt_inline.specs.Carried.{shown_whole, shown_item, attrs_whole, data_whole}
use Rattle.wt_inline.specs.ItemTree.{Head, plain, ItemTree, leaf, inner, forest, tree_items}

-- a byte of a character of a text or a separator, with the call that it comes from; or a node
pub data Part : Type 0 where
  loose : Loose → Option ℕ → ℕ → Part
  node : ItemTree → Part

abbrev pub held_part : Part → List Item
held_part (loose k o b) = char o b ∷ []
held_part (node t) = tree_items t

abbrev pub held_parts : List Part → List Item
held_parts ps = flat_map held_part ps

-- ---- the children of a node

abbrev pub same_loose : Loose → Loose → Bool
same_loose Text Text = true
same_loose Text Sep = false
same_loose Sep Text = false
same_loose Sep Sep = true

-- both of the page, or both of the same call
abbrev pub same_origin : Option ℕ → Option ℕ → Bool
same_origin None None = true
same_origin None (Some k) = false
same_origin (Some j) None = false
same_origin (Some j) (Some k) = j == k

-- a character of this origin
abbrev pub is_of : Option ℕ → Item → Bool
is_of o (char p b) = same_origin o p
is_of o (whole f p bs) = false

abbrev pub are_of : Option ℕ → List Item → Bool
are_of o items = list_all (is_of o) items

-- neighbours that make one leaf
abbrev pub one_leaf : Part → Part → Bool
one_leaf (loose k o b) (loose j p c) = same_loose k j && same_origin o p
one_leaf (loose k o b) (node t) = false
one_leaf (node t) p = false

abbrev pub loose_kind : Loose → Kind
loose_kind Text = kind.Text
loose_kind Sep = kind.Sep

-- a text shows its characters, and a separator nothing
abbrev pub loose_head : Loose → List Item → Head
loose_head Text own = record { kind = kind.Text; shown = flat_map shown_item own; attrs = []; mw = None }
loose_head Sep own = plain kind.Sep

abbrev pub loose_leaf : Loose → List Item → ItemTree
loose_leaf k own = leaf (loose_head k own) own

abbrev pub child : List Part → ItemTree
child [] = loose_leaf Text []
child (loose k o b ∷ ps) = loose_leaf k (char o b ∷ held_parts ps)
child (node t ∷ ps) = t

-- what is in a node, as trees
unfoldable pub children : List Part → List ItemTree
children ps = map child (runs one_leaf ps)

-- The same as a relation, by cuts that exist: the parts can be cut where neighbours make no one leaf, and each run is a child.
abbrev pub AreChildren : List ItemTree → List Part → Type 0
AreChildren ts ps = (rs : List (List Part)) × AreRuns one_leaf rs ps × (ts ≡ map child rs)

-- ---- the part that an item is by itself

-- The kind of a form's node. An extension and a function are islands, and a hidden part is written as an include tag.
abbrev pub form_kind : ItemForm → Kind
form_kind form.Chars = kind.Text
form_kind (form.Entity c) = kind.Entity
form_kind form.Nowiki = kind.Nowiki
form_kind form.Extension = kind.Island
form_kind form.Function = kind.Island
form_kind form.Comment = kind.Comment
form_kind form.Include = kind.Include
form_kind form.Hidden = kind.Include
form_kind form.EmptyCall = kind.Empty

-- a form's head, by its source
abbrev pub form_head : ItemForm → List ℕ → Head
form_head f bs = record { kind = form_kind f; shown = shown_whole f; attrs = attrs_whole f bs; mw = data_whole f bs }

abbrev pub form_leaf : ItemForm → Option ℕ → List ℕ → ItemTree
form_leaf f o bs = leaf (form_head f bs) (whole f o bs ∷ [])

-- an item of the inside of `nowiki`: a character, or an entity
abbrev pub inside_part : Item → Part
inside_part (char o b) = loose Text o b
inside_part (whole f o bs) = node (form_leaf f o bs)

-- The node of a `nowiki`: its tags are the delimiters, and a tag that closes itself has no inside and no closing one.
unfoldable pub nowiki : Option ℕ → List ℕ → ItemTree
nowiki o bs = inner (plain kind.Nowiki) (map (char o) (opening_of bs))
    (forest (children (map inside_part (inside_items o 0 (inside_of bs))))) (map (char o) (closing_of bs))

-- the node of a whole form: of `nowiki` one with an inside, and of any other a leaf
abbrev pub whole_tree : ItemForm → Option ℕ → List ℕ → ItemTree
whole_tree form.Nowiki o bs = nowiki o bs
whole_tree f o bs = form_leaf f o bs

abbrev pub part : Loose → Item → Part
part k (char o b) = loose k o b
part k (whole f o bs) = node (whole_tree f o bs)

abbrev pub parts : Loose → List Item → List Part
parts k items = map (part k) items
