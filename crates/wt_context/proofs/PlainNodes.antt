-- Nodes that are no styles.
use Rattle.std.proofs.Common.{◌≡◌, ℕ, ◌==◌, Bool, true, false, Option, Some, None, List, [], ◌∷◌, ◌++◌, refl}
use Rattle.std.specs.Prelude.{if◌then◌else◌}
use Rattle.std.specs.List.{AllByRecursion}
use Rattle.wt_span.specs.declared.form.ItemForm.{ItemForm}
use Rattle.wt_span.specs.declared.form.ItemForm.TheVariants as form
use Rattle.wt_span.specs.Items.{Item, char, whole}
use Rattle.wt_tiles.specs.declared.context.Context.{Context}
use Rattle.wt_tiles.specs.declared.shape.Shape.{Shape}
use Rattle.wt_tiles.specs.declared.shape.TileKind.{TileKind}
use Rattle.wt_tiles.specs.declared.shape.TileKind.TheVariants as kind
use Rattle.wt_tiles.specs.declared.tag.Name.{Name}
use Rattle.wt_tiles.specs.declared.tag.Name.TheVariants.{Paired, Break, Island}
use Rattle.wt_tiles.specs.declared.tag.Tag.{Tag}
use Rattle.wt_tiles.specs.Tags.{tag_at}
use Rattle.wt_tiles.specs.Contexts.{in_text, in_pair}
use Rattle.wt_inline.specs.declared.loose.Loose.{Loose}
use Rattle.wt_inline.specs.declared.loose.Loose.TheVariants.{Text, Sep}
use Rattle.wt_inline.specs.ItemTree.{Head, ItemTree, ItemTrees, inner, forest}
use Rattle.wt_inline.specs.Parts.{Part, loose, node, children, nowiki, whole_tree, part, parts}
use Rattle.wt_context.specs.declared.node.Nested.{Nested}
use Rattle.wt_context.specs.declared.node.Nested.TheVariants as nested
use Rattle.wt_context.specs.declared.node.Leaf.{Leaf}
use Rattle.wt_context.specs.declared.node.Leaf.TheVariants as as_leaf
use Rattle.wt_context.specs.Heads.{glyphs, placeholder, link_head, category_head, ext_link_head, bare_url_head, pair_by_name, pair_by, pair_head, switch_head}
use Rattle.wt_context.specs.Nodes.{Reading, opening_of, inside_of, closing_of, trail_of, leaf_tree, bare_url, trail_parts, round_parts, nested_head, nested_tree, tile_tree}
use Rattle.wt_context.specs.Unstyled.{other, role, unstyled}
use Rattle.wt_context.specs.StyledPlaces.{places}

-- ---- parts

-- characters of texts, and nodes
abbrev pub IsText : Loose → Type 0
IsText Text = Unit {0}
IsText Sep = ⊥

abbrev pub IsTextPart : Part → Type 0
IsTextPart (loose k o b) = IsText k
IsTextPart (node t) = Unit {0}

abbrev pub AreTexts : List Part → Type 0
AreTexts ps = AllByRecursion IsTextPart ps

pub texts_both : (ps qs : List Part) → AreTexts ps → AreTexts qs → AreTexts (ps ++ qs)
texts_both [] qs f g = g
texts_both (p ∷ ps) qs f g = (f.0, texts_both ps qs f.1 g)

pub texts_first : (ps qs : List Part) → AreTexts (ps ++ qs) → AreTexts ps
texts_first [] qs h = tt
texts_first (p ∷ ps) qs h = (h.0, texts_first ps qs h.1)

pub texts_rest : (ps qs : List Part) → AreTexts (ps ++ qs) → AreTexts qs
texts_rest [] qs h = h
texts_rest (p ∷ ps) qs h = texts_rest ps qs h.1

-- ---- nodes that stay whole

-- without styles it is itself, and it stands in one place
abbrev pub IsWhole : ItemTree → Type 0
IsWhole t = (unstyled t ≡ node t ∷ []) × ((k now : Bool) → places k now t ≡ Some now ∷ [])

whole_by : (h : Head) (opening closing : List Item) (ts : ItemTrees) → role h.kind ≡ other → IsWhole (inner h opening ts closing)
whole_by h opening closing ts e = (rw e refl, λ k now. rw e refl)

pub whole_form : (f : ItemForm) (o : Option ℕ) (bs : List ℕ) → IsWhole (whole_tree f o bs)
unfolding nowiki
whole_form form.Chars o bs = (refl, λ k now. refl)
whole_form (form.Entity c) o bs = (refl, λ k now. refl)
whole_form form.Nowiki o bs = (refl, λ k now. refl)
whole_form form.Extension o bs = (refl, λ k now. refl)
whole_form form.Function o bs = (refl, λ k now. refl)
whole_form form.Comment o bs = (refl, λ k now. refl)
whole_form form.Include o bs = (refl, λ k now. refl)
whole_form form.Hidden o bs = (refl, λ k now. refl)
whole_form form.EmptyCall o bs = (refl, λ k now. refl)

one_text : (x : Item) → IsTextPart (part Text x)
one_text (char o b) = tt
one_text (whole f o bs) = tt

pub text_parts : (xs : List Item) → AreTexts (parts Text xs)
text_parts [] = tt
text_parts (x ∷ xs) = (one_text x, text_parts xs)

-- ---- the nodes of tiles

name_other : (m : Name) (opening : List Item) → role (pair_by_name m opening).kind ≡ other
unfolding placeholder
name_other (Paired m) opening = refl
name_other Break opening = refl
name_other Island opening = refl

pair_other_by : (o : Option Tag) (opening : List Item) → role (pair_by o opening).kind ≡ other
unfolding placeholder
pair_other_by None opening = refl
pair_other_by (Some t) opening = name_other t.name opening

head_other : (k : Nested) (xs opening : List Item) → role (nested_head k xs opening).kind ≡ other
unfolding link_head ext_link_head pair_head
head_other nested.Link xs opening = refl
head_other nested.ExtLink xs opening = refl
head_other nested.Pair xs opening = pair_other_by (tag_at (glyphs opening)) opening

link_whole : (t : Bool) (h : Head) (opening closing trail : List Item) (ps : List Part) → role h.kind ≡ other
    → IsWhole (if t then round_parts h opening ps closing else round_parts h opening (ps ++ trail_parts closing trail) [])
link_whole true h opening closing trail ps e = whole_by h opening closing (forest (children ps)) e
link_whole false h opening closing trail ps e = whole_by h opening [] (forest (children (ps ++ trail_parts closing trail))) e

nested_whole : (k : Nested) (w : Shape) (xs : List Item) (ps : List Part) → IsWhole (nested_tree k w xs ps)
unfolding nested_tree
nested_whole nested.Link w xs ps =
    link_whole (w.trail == 0) (nested_head nested.Link xs (opening_of w xs)) (opening_of w xs) (closing_of w xs) (trail_of w xs) ps
    (head_other nested.Link xs (opening_of w xs))
nested_whole nested.ExtLink w xs ps =
    whole_by (nested_head nested.ExtLink xs (opening_of w xs)) (opening_of w xs) (closing_of w xs) (forest (children ps))
    (head_other nested.ExtLink xs (opening_of w xs))
nested_whole nested.Pair w xs ps =
    whole_by (nested_head nested.Pair xs (opening_of w xs)) (opening_of w xs) (closing_of w xs) (forest (children ps))
    (head_other nested.Pair xs (opening_of w xs))

leaf_whole : (k : Leaf) (xs : List Item) → IsWhole (leaf_tree k xs)
unfolding category_head switch_head placeholder
leaf_whole as_leaf.Category xs = (refl, λ k now. refl)
leaf_whole as_leaf.Switch xs = (refl, λ k now. refl)
leaf_whole as_leaf.Break xs = (refl, λ k now. refl)
leaf_whole as_leaf.Placeholder xs = (refl, λ k now. refl)

bare_whole : (w : Shape) (xs : List Item) → IsWhole (bare_url w xs)
unfolding bare_url bare_url_head
bare_whole w xs = (refl, λ k now. refl)

abbrev pub OptWhole : Option ItemTree → Type 0
OptWhole None = Unit {0}
OptWhole (Some t) = IsWhole t

pub tile_whole : (read : Reading) (cx : Context) (k : TileKind) (w : Shape) (xs : List Item) → OptWhole (tile_tree read cx k w xs)
tile_whole read cx kind.Link w xs = nested_whole nested.Link w xs (read (in_text cx) (inside_of w xs))
tile_whole read cx kind.Category w xs = leaf_whole as_leaf.Category xs
tile_whole read cx kind.Media w xs = leaf_whole as_leaf.Placeholder xs
tile_whole read cx kind.ExtLink w xs = nested_whole nested.ExtLink w xs (read (in_text cx) (inside_of w xs))
tile_whole read cx kind.BareUrl w xs = bare_whole w xs
tile_whole read cx kind.Br w xs = leaf_whole as_leaf.Break xs
tile_whole read cx kind.Pair w xs = nested_whole nested.Pair w xs (read (in_pair cx) (inside_of w xs))
tile_whole read cx kind.TagIsland w xs = leaf_whole as_leaf.Placeholder xs
tile_whole read cx kind.Switch w xs = leaf_whole as_leaf.Switch xs
tile_whole read cx kind.Atom w xs = tt
tile_whole read cx kind.Mark w xs = tt
tile_whole read cx kind.Chars w xs = tt
