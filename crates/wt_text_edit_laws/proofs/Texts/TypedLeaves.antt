-- What stands in a paragraph of typed text: runs of characters, references and `<nowiki/>`, as nodes.
use Rattle.std.proofs.Common.{◌≡◌, ℕ, false, Some, None, List, [], ◌∷◌, ◌++◌, map, refl, sym, ap, ◌∙◌}
use Rattle.std.specs.Prelude.{encode_utf8}
use Rattle.std.specs.List.{flat_map}
use Rattle.wt_tree.specs.declared.kind.Kind.TheVariants as kind
use Rattle.wt_span.specs.declared.form.ItemForm.{ItemForm}
use Rattle.wt_span.specs.declared.form.ItemForm.TheVariants as form
use Rattle.wt_span.specs.Items.{Item, char, whole, sources}
use Rattle.wt_span.specs.Runs.{put, runs}
use Rattle.wt_span.specs.Tags.{opening_tag, tag_after}
use Rattle.wt_guards.specs.Guards.{nowiki}
use Rattle.wt_inline.specs.declared.loose.Loose.TheVariants.{Text}
use Rattle.wt_inline.specs.Carried.{shown_item}
use Rattle.wt_inline.specs.ItemTree.{plain, ItemTree, inner, nothing, forest}
use Rattle.wt_inline.specs.Parts.{Part, loose, node, held_parts, one_leaf, loose_leaf, child, children, form_leaf, nowiki as nowiki_tree, whole_tree, parts}
use Rattle.wt_isolation.specs.OpenTags.{ends_open}
use Rattle.wt_text_edit_laws.specs.LonePages.{page_chars, para_of}

-- ---- items of the page itself

-- a reference, which doesn't end with an open tag, or `<nowiki/>` as it is put
abbrev pub IsOwnForm : ItemForm → List ℕ → Type 0
IsOwnForm form.Chars bs = ⊥
IsOwnForm (form.Entity c) bs = ends_open bs ≡ false
IsOwnForm form.Nowiki bs = bs ≡ nowiki
IsOwnForm form.Extension bs = ⊥
IsOwnForm form.Function bs = ⊥
IsOwnForm form.Comment bs = ⊥
IsOwnForm form.Include bs = ⊥
IsOwnForm form.Hidden bs = ⊥
IsOwnForm form.EmptyCall bs = ⊥

-- and nothing comes from a call
abbrev pub AreOwn : List Item → Type 0
AreOwn [] = Unit {0}
AreOwn (char None b ∷ xs) = AreOwn xs
AreOwn (char (Some k) b ∷ xs) = ⊥
AreOwn (whole f None bs ∷ xs) = IsOwnForm f bs × AreOwn xs
AreOwn (whole f (Some k) bs ∷ xs) = ⊥

-- ---- the leaves

pub data Leaf : Type 0 where
  letters : ℕ → List ℕ → Leaf
  reference : ℕ → List ℕ → Leaf
  guard : Leaf

abbrev pub with_letter : ℕ → List Leaf → List Leaf
with_letter b [] = letters b [] ∷ []
with_letter b (letters c cs ∷ ls) = letters b (c ∷ cs) ∷ ls
with_letter b (reference c bs ∷ ls) = letters b [] ∷ reference c bs ∷ ls
with_letter b (guard ∷ ls) = letters b [] ∷ guard ∷ ls

abbrev leaf_of : ItemForm → List ℕ → Leaf
leaf_of form.Chars bs = guard
leaf_of (form.Entity c) bs = reference c bs
leaf_of form.Nowiki bs = guard
leaf_of form.Extension bs = guard
leaf_of form.Function bs = guard
leaf_of form.Comment bs = guard
leaf_of form.Include bs = guard
leaf_of form.Hidden bs = guard
leaf_of form.EmptyCall bs = guard

abbrev pub leaves : List Item → List Leaf
leaves [] = []
leaves (char o b ∷ xs) = with_letter b (leaves xs)
leaves (whole f o bs ∷ xs) = leaf_of f bs ∷ leaves xs

abbrev pub HasAny : List Leaf → Type 0
HasAny [] = ⊥
HasAny (l ∷ ls) = Unit {0}

letter_any : (b : ℕ) (ls : List Leaf) → HasAny (with_letter b ls)
letter_any b [] = tt
letter_any b (letters c cs ∷ ls) = tt
letter_any b (reference c bs ∷ ls) = tt
letter_any b (guard ∷ ls) = tt

pub has_any : (x : Item) (xs : List Item) → HasAny (leaves (x ∷ xs))
has_any (char o b) xs = letter_any b (leaves xs)
has_any (whole f o bs) xs = tt

-- ---- what they show

abbrev pub leaf_shown : Leaf → List ℕ
leaf_shown (letters b bs) = b ∷ bs
leaf_shown (reference c bs) = encode_utf8 c
leaf_shown guard = []

letter_shown : (b : ℕ) (ls : List Leaf) → flat_map leaf_shown (with_letter b ls) ≡ b ∷ flat_map leaf_shown ls
letter_shown b [] = refl
letter_shown b (letters c cs ∷ ls) = refl
letter_shown b (reference c bs ∷ ls) = refl
letter_shown b (guard ∷ ls) = refl

form_shown : (f : ItemForm) (bs : List ℕ) → IsOwnForm f bs → leaf_shown (leaf_of f bs) ≡ shown_item (whole f None bs)
form_shown form.Chars bs h = absurd h
form_shown (form.Entity c) bs h = refl
form_shown form.Nowiki bs h = refl
form_shown form.Extension bs h = absurd h
form_shown form.Function bs h = absurd h
form_shown form.Comment bs h = absurd h
form_shown form.Include bs h = absurd h
form_shown form.Hidden bs h = absurd h
form_shown form.EmptyCall bs h = absurd h

pub leaves_shown : (xs : List Item) → AreOwn xs → flat_map leaf_shown (leaves xs) ≡ flat_map shown_item xs
leaves_shown [] h = refl
leaves_shown (char None b ∷ xs) h = letter_shown b (leaves xs) ∙ ap (λ bs. b ∷ bs) (leaves_shown xs h)
leaves_shown (char (Some k) b ∷ xs) h = absurd h
leaves_shown (whole f None bs ∷ xs) h =
    ap (λ cs. cs ++ flat_map leaf_shown (leaves xs)) (form_shown f bs h.0)
    ∙ ap (λ cs. shown_item (whole f None bs) ++ cs) (leaves_shown xs h.1)
leaves_shown (whole f (Some k) bs ∷ xs) h = absurd h

-- ---- their sources

abbrev pub leaf_source : Leaf → List ℕ
leaf_source (letters b bs) = b ∷ bs
leaf_source (reference c bs) = bs
leaf_source guard = nowiki

letter_source : (b : ℕ) (ls : List Leaf) → flat_map leaf_source (with_letter b ls) ≡ b ∷ flat_map leaf_source ls
letter_source b [] = refl
letter_source b (letters c cs ∷ ls) = refl
letter_source b (reference c bs ∷ ls) = refl
letter_source b (guard ∷ ls) = refl

form_source : (f : ItemForm) (bs : List ℕ) → IsOwnForm f bs → leaf_source (leaf_of f bs) ≡ bs
form_source form.Chars bs h = absurd h
form_source (form.Entity c) bs h = refl
form_source form.Nowiki bs h = sym h
form_source form.Extension bs h = absurd h
form_source form.Function bs h = absurd h
form_source form.Comment bs h = absurd h
form_source form.Include bs h = absurd h
form_source form.Hidden bs h = absurd h
form_source form.EmptyCall bs h = absurd h

pub leaves_source : (xs : List Item) → AreOwn xs → flat_map leaf_source (leaves xs) ≡ sources xs
leaves_source [] h = refl
leaves_source (char None b ∷ xs) h = letter_source b (leaves xs) ∙ ap (λ bs. b ∷ bs) (leaves_source xs h)
leaves_source (char (Some k) b ∷ xs) h = absurd h
leaves_source (whole f None bs ∷ xs) h =
    ap (λ cs. cs ++ flat_map leaf_source (leaves xs)) (form_source f bs h.0) ∙ ap (λ cs. bs ++ cs) (leaves_source xs h.1)
leaves_source (whole f (Some k) bs ∷ xs) h = absurd h

-- no reference ends with an open tag
abbrev pub AreShut : List Leaf → Type 0
AreShut [] = Unit {0}
AreShut (letters b bs ∷ ls) = AreShut ls
AreShut (reference c bs ∷ ls) = (ends_open bs ≡ false) × AreShut ls
AreShut (guard ∷ ls) = AreShut ls

letter_shut : (b : ℕ) (ls : List Leaf) → AreShut ls → AreShut (with_letter b ls)
letter_shut b [] h = tt
letter_shut b (letters c cs ∷ ls) h = h
letter_shut b (reference c bs ∷ ls) h = h
letter_shut b (guard ∷ ls) h = h

form_shut : (f : ItemForm) (bs : List ℕ) (ls : List Leaf) → IsOwnForm f bs → AreShut ls → AreShut (leaf_of f bs ∷ ls)
form_shut form.Chars bs ls h s = absurd h
form_shut (form.Entity c) bs ls h s = (h, s)
form_shut form.Nowiki bs ls h s = s
form_shut form.Extension bs ls h s = absurd h
form_shut form.Function bs ls h s = absurd h
form_shut form.Comment bs ls h s = absurd h
form_shut form.Include bs ls h s = absurd h
form_shut form.Hidden bs ls h s = absurd h
form_shut form.EmptyCall bs ls h s = absurd h

pub leaves_shut : (xs : List Item) → AreOwn xs → AreShut (leaves xs)
leaves_shut [] h = tt
leaves_shut (char None b ∷ xs) h = letter_shut b (leaves xs) (leaves_shut xs h)
leaves_shut (char (Some k) b ∷ xs) h = absurd h
leaves_shut (whole f None bs ∷ xs) h = form_shut f bs (leaves xs) h.0 (leaves_shut xs h.1)
leaves_shut (whole f (Some k) bs ∷ xs) h = absurd h

-- ---- as runs of parts

abbrev letter_part : ℕ → Part
letter_part b = loose Text None b

abbrev leaf_run : Leaf → List Part
leaf_run (letters b bs) = letter_part b ∷ map letter_part bs
leaf_run (reference c bs) = node (form_leaf (form.Entity c) None bs) ∷ []
leaf_run guard = node (nowiki_tree None nowiki) ∷ []

put_letter : (b : ℕ) (ls : List Leaf) → put one_leaf (letter_part b) (map leaf_run ls) ≡ map leaf_run (with_letter b ls)
put_letter b [] = refl
put_letter b (letters c cs ∷ ls) = refl
put_letter b (reference c bs ∷ ls) = refl
put_letter b (guard ∷ ls) = refl

put_node : (t : ItemTree) (ls : List Leaf) → put one_leaf (node t) (map leaf_run ls) ≡ (node t ∷ []) ∷ map leaf_run ls
put_node t [] = refl
put_node t (letters c cs ∷ ls) = refl
put_node t (reference c bs ∷ ls) = refl
put_node t (guard ∷ ls) = refl

form_run : (f : ItemForm) (bs : List ℕ) → IsOwnForm f bs → node (whole_tree f None bs) ∷ [] ≡ leaf_run (leaf_of f bs)
form_run form.Chars bs h = absurd h
form_run (form.Entity c) bs h = refl
form_run form.Nowiki bs h = ap (λ cs. node (nowiki_tree None cs) ∷ []) h
form_run form.Extension bs h = absurd h
form_run form.Function bs h = absurd h
form_run form.Comment bs h = absurd h
form_run form.Include bs h = absurd h
form_run form.Hidden bs h = absurd h
form_run form.EmptyCall bs h = absurd h

runs_are : (xs : List Item) → AreOwn xs → runs one_leaf (parts Text xs) ≡ map leaf_run (leaves xs)
runs_are [] h = refl
runs_are (char None b ∷ xs) h = ap (put one_leaf (letter_part b)) (runs_are xs h) ∙ put_letter b (leaves xs)
runs_are (char (Some k) b ∷ xs) h = absurd h
runs_are (whole f None bs ∷ xs) h =
    ap (put one_leaf (node (whole_tree f None bs))) (runs_are xs h.1)
    ∙ put_node (whole_tree f None bs) (leaves xs)
    ∙ ap (λ r. r ∷ map leaf_run (leaves xs)) (form_run f bs h.0)
runs_are (whole f (Some k) bs ∷ xs) h = absurd h

-- ---- as trees

abbrev pub leaf_tree : Leaf → ItemTree
leaf_tree (letters b bs) = loose_leaf Text (page_chars (b ∷ bs))
leaf_tree (reference c bs) = form_leaf (form.Entity c) None bs
leaf_tree guard = inner (plain kind.Nowiki) (page_chars nowiki) nothing []

held_letters : (bs : List ℕ) → held_parts (map letter_part bs) ≡ page_chars bs
held_letters [] = refl
held_letters (b ∷ bs) = ap (λ xs. char None b ∷ xs) (held_letters bs)

pub guard_tree : nowiki_tree None nowiki ≡ inner (plain kind.Nowiki) (page_chars nowiki) nothing []
unfolding nowiki_tree nowiki opening_tag tag_after children
guard_tree = refl

child_is : (l : Leaf) → child (leaf_run l) ≡ leaf_tree l
child_is (letters b bs) = ap (λ xs. loose_leaf Text (char None b ∷ xs)) (held_letters bs)
child_is (reference c bs) = refl
child_is guard = guard_tree

children_are : (ls : List Leaf) → map child (map leaf_run ls) ≡ map leaf_tree ls
children_are [] = refl
children_are (l ∷ ls) = ap (λ t. t ∷ map child (map leaf_run ls)) (child_is l) ∙ ap (λ ts. leaf_tree l ∷ ts) (children_are ls)

abbrev pub leaves_para : List Leaf → ItemTree
leaves_para ls = inner (plain kind.Para) [] (forest (map leaf_tree ls)) []

pub para_leaves : (xs : List Item) → AreOwn xs → para_of xs ≡ leaves_para (leaves xs)
unfolding children
para_leaves xs h =
    ap (λ rs. inner (plain kind.Para) [] (forest (map child rs)) []) (runs_are xs h)
    ∙ ap (λ ts. inner (plain kind.Para) [] (forest ts) []) (children_are (leaves xs))
