-- What the node of a tile is to its neighbours, wherever it is.
use Rattle.std.proofs.Common.{arith, ◌≡◌, ℕ, ◌<◌, ◌==◌, Bool, true, false, Option, Some, None, List, [], ◌∷◌, length, refl, sym, ap, ap₂, ◌∙◌, subst}
use Rattle.std.specs.Prelude.{nat_eq}
use Rattle.std.specs.List.{starts_with, ends_with}
use Rattle.wt_span.specs.Items.{Item, sources}
use Rattle.wt_span.specs.declared.form.ItemForm.{ItemForm}
use Rattle.wt_span.specs.declared.form.ItemForm.TheVariants as form
use Rattle.wt_tree.specs.declared.kind.Kind.{Kind}
use Rattle.wt_tree.specs.declared.kind.Kind.TheVariants as node_kind
use Rattle.wt_tree.specs.declared.edit_shape.Sort.{Sort}
use Rattle.wt_tree.specs.declared.edit_shape.Sort.TheVariants as sort
use Rattle.wt_tree.specs.EditShapes.{edit_shape}
use Rattle.wt_tree.specs.Kinds.{is_numbered}
use Rattle.wt_tree.specs.Tree.{Tree, label}
use Rattle.wt_guards.specs.declared.role.Role.{Role}
use Rattle.wt_guards.specs.declared.role.Role.TheVariants as role
use Rattle.wt_inline.specs.ItemTree.{Head, ItemTree, leaf}
use Rattle.wt_inline.specs.Parts.{Part, nowiki, whole_tree}
use Rattle.wt_tiles.specs.declared.shape.Shape.{Shape}
use Rattle.wt_tiles.specs.declared.tag.Name.{Name}
use Rattle.wt_tiles.specs.declared.tag.Name.TheVariants.{Paired, Break, Island}
use Rattle.wt_tiles.specs.declared.tag.Tag.{Tag}
use Rattle.wt_tiles.specs.Tags.{tag_at}
use Rattle.wt_tiles.specs.Urls.{bare_shape}
use Rattle.wt_context.specs.Heads.{glyphs, placeholder, link_head, category_head, ext_link_head, bare_url_head, pair_by_name, pair_by, pair_head, switch_head}
use Rattle.wt_context.specs.Nodes.{opening_of, bare_url, nested_tree}
use Rattle.wt_context.specs.declared.node.Nested.TheVariants as nested
use Rattle.wt_annotated.specs.Labels.{label_at}
use Rattle.wt_part_laws.specs.Standing.{standing}
use Rattle.wt_part_laws.proofs.Sources.{standing_source}
use Rattle.wt_original.specs.Kept.{url, island, role_by, role_of, shown}
use Rattle.wt_original.specs.declared.block.Extent.{Extent}
use Rattle.wt_beside_laws.specs.PageSigns.{form_role}
use Rattle.wt_beside_laws.proofs.PartThings.{head_of, IsThingForm, IsThing, tree_source, stands_kind}

-- ---- by the kind of a node

abbrev pub NoBraces : List ℕ → Type 0
NoBraces bs = starts_with nat_eq bs (123 ∷ 123 ∷ []) ≡ false

-- one that is this to its neighbours whatever its source is
abbrev pub IsSort : Role → Sort → Type 0
IsSort r sort.PageLink = r ≡ role.Link
IsSort r sort.Url = ⊥
IsSort r sort.Switch = r ≡ role.Switch
IsSort r sort.Mark = ⊥
IsSort r sort.Group = ⊥
IsSort r sort.Island = ⊥
IsSort r sort.Other = r ≡ role.Node

sort_role : (w : Sort) (r : Role) (block : Tree) (s : Extent) (t : Tree) → IsSort r w → role_by w block s t ≡ r
sort_role sort.PageLink r block s t h = sym h
sort_role sort.Url r block s t h = absurd h
sort_role sort.Switch r block s t h = sym h
sort_role sort.Mark r block s t h = absurd h
sort_role sort.Group r block s t h = absurd h
sort_role sort.Island r block s t h = absurd h
sort_role sort.Other r block s t h = sym h

role_is : (block t : Tree) (s : Extent) (k : Kind) → (label t).kind ≡ k → role_of block s t ≡ role_by (edit_shape k).sort block s t
role_is block t s k e = ap (λ (j : Kind). role_by (edit_shape j).sort block s t) e

-- a node of such a kind
pub record IsKindOf (k : Kind) (r : Role) : Type 0 where
  pub form : IsThingForm (edit_shape k).inline
  pub numbered : is_numbered k ≡ true
  pub sorted : IsSort r (edit_shape k).sort

pub of_kind : (u : ItemTree) (k : Kind) (r : Role) → (head_of u).kind ≡ k → IsKindOf k r → IsThing u r
of_kind u k r e i = record {
  form = subst (λ (j : Kind). IsThingForm (edit_shape j).inline) (sym e) i.form;
  numbered = ap is_numbered e ∙ i.numbered;
  role = λ block s n before so.
      role_is block (standing n before u) s k (stands_kind n before u ∙ e) ∙ sort_role (edit_shape k).sort r block s (standing n before u) i.sorted;
}

-- an island that doesn't begin with two braces
pub of_island : (u : ItemTree) → (head_of u).kind ≡ node_kind.Island → NoBraces (tree_source u) → IsThing u role.Node
of_island u e b = record {
  form = subst (λ (j : Kind). IsThingForm (edit_shape j).inline) (sym e) tt;
  numbered = ap is_numbered e;
  role = λ block s n before so.
      role_is block (standing n before u) s node_kind.Island (stands_kind n before u ∙ e)
      ∙ ap (λ (bs : List ℕ). island (starts_with nat_eq bs (123 ∷ 123 ∷ []))) (standing_source n before u)
      ∙ ap island b;
}

-- ---- links, categories, switches and tags

link_kind_by : (v : Bool) (w : Shape) (xs : List Item) (ps : List Part) → (w.trail == 0) ≡ v → (head_of (nested_tree nested.Link w xs ps)).kind ≡ node_kind.WikiLink
unfolding nested_tree link_head
link_kind_by true w xs ps i = rw i refl
link_kind_by false w xs ps i = rw i refl

pub link_thing : (w : Shape) (xs : List Item) (ps : List Part) → IsThing (nested_tree nested.Link w xs ps) role.Link
link_thing w xs ps =
    of_kind (nested_tree nested.Link w xs ps) node_kind.WikiLink role.Link (link_kind_by (w.trail == 0) w xs ps refl) (record { form = tt; numbered = refl; sorted = refl })

pub category_thing : (xs : List Item) → IsThing (leaf (category_head xs) xs) role.Node
unfolding category_head
category_thing xs = of_kind (leaf (category_head xs) xs) node_kind.Category role.Node refl (record { form = tt; numbered = refl; sorted = refl })

pub switch_thing : (xs : List Item) → IsThing (leaf (switch_head xs) xs) role.Switch
unfolding switch_head
switch_thing xs = of_kind (leaf (switch_head xs) xs) node_kind.Switch role.Switch refl (record { form = tt; numbered = refl; sorted = refl })

pub break_thing : (h : Head) (xs : List Item) → h.kind ≡ node_kind.Br → IsThing (leaf h xs) role.Node
break_thing h xs e = of_kind (leaf h xs) node_kind.Br role.Node e (record { form = tt; numbered = refl; sorted = refl })

pub placeholder_thing : (xs : List Item) → NoBraces (tree_source (leaf placeholder xs)) → IsThing (leaf placeholder xs) role.Node
unfolding placeholder
placeholder_thing xs b = of_island (leaf placeholder xs) refl b

-- a pair of tags, or what is kept whole in its place
pair_named : (m : Name) (opening : List Item) (u : ItemTree) → (head_of u).kind ≡ (pair_by_name m opening).kind → NoBraces (tree_source u) → IsThing u role.Node
unfolding placeholder
pair_named (Paired m) opening u e b = of_kind u (node_kind.Tag m) role.Node e (record { form = tt; numbered = refl; sorted = refl })
pair_named Break opening u e b = of_island u e b
pair_named Island opening u e b = of_island u e b

pair_tagged : (o : Option Tag) (opening : List Item) (u : ItemTree) → (head_of u).kind ≡ (pair_by o opening).kind → NoBraces (tree_source u) → IsThing u role.Node
unfolding placeholder
pair_tagged None opening u e b = of_island u e b
pair_tagged (Some t) opening u e b = pair_named t.name opening u e b

pub pair_thing : (w : Shape) (xs : List Item) (ps : List Part) → NoBraces (tree_source (nested_tree nested.Pair w xs ps)) → IsThing (nested_tree nested.Pair w xs ps) role.Node
unfolding nested_tree pair_head
pair_thing w xs ps b = pair_tagged (tag_at (glyphs (opening_of w xs))) (opening_of w xs) (nested_tree nested.Pair w xs ps) refl b

-- ---- external links

url_opened : (bs text : List ℕ) → 0 < length bs → url bs text ≡ role.External
url_opened [] text some = absurd (omega (arith, some))
url_opened (b ∷ bs) text some = refl

external_kind : (w : Shape) (xs : List Item) (ps : List Part) → (head_of (nested_tree nested.ExtLink w xs ps)).kind ≡ node_kind.ExtLink
unfolding nested_tree ext_link_head
external_kind w xs ps = refl

external_opening : (w : Shape) (xs : List Item) (ps : List Part) (n : ℕ) (before : List Item)
    → (label (standing n before (nested_tree nested.ExtLink w xs ps))).opening ≡ sources (opening_of w xs)
unfolding nested_tree ext_link_head label_at
external_opening w xs ps n before = refl

pub external_thing : (w : Shape) (xs : List Item) (ps : List Part) → 0 < length (sources (opening_of w xs)) → IsThing (nested_tree nested.ExtLink w xs ps) role.External
external_thing w xs ps some =
    let u : ItemTree = nested_tree nested.ExtLink w xs ps in
    record {
      form = subst (λ (j : Kind). IsThingForm (edit_shape j).inline) (sym (external_kind w xs ps)) tt;
      numbered = ap is_numbered (external_kind w xs ps);
      role = λ block s n before so.
          role_is block (standing n before u) s node_kind.ExtLink (stands_kind n before u ∙ external_kind w xs ps)
          ∙ ap (λ (bs : List ℕ). url bs (shown (standing n before u))) (external_opening w xs ps n before)
          ∙ url_opened (sources (opening_of w xs)) (shown (standing n before u)) some;
    }

-- ---- bare URLs, by what they show

-- it has no opening delimiter
bare_kind : (m : ℕ) (xs : List Item) → (head_of (bare_url (bare_shape m) xs)).kind ≡ node_kind.ExtLink
unfolding bare_url bare_url_head
bare_kind m xs = refl

bare_opening : (m n : ℕ) (before xs : List Item) → (label (standing n before (bare_url (bare_shape m) xs))).opening ≡ []
unfolding bare_url bare_url_head label_at
bare_opening m n before [] = refl
bare_opening m n before (x ∷ xs) = refl

pub bare_thing : (m : ℕ) (xs : List Item) (text : List ℕ) → ((n : ℕ) (before : List Item) → shown (standing n before (bare_url (bare_shape m) xs)) ≡ text)
    → IsThing (bare_url (bare_shape m) xs) (role.Bare (ends_with nat_eq text (61 ∷ [])))
bare_thing m xs text shows =
    let u : ItemTree = bare_url (bare_shape m) xs in
    record {
      form = subst (λ (j : Kind). IsThingForm (edit_shape j).inline) (sym (bare_kind m xs)) tt;
      numbered = ap is_numbered (bare_kind m xs);
      role = λ block s n before so.
          role_is block (standing n before u) s node_kind.ExtLink (stands_kind n before u ∙ bare_kind m xs)
          ∙ ap₂ (λ (bs cs : List ℕ). url bs cs) (bare_opening m n before xs) (shows n before);
    }

-- ---- other lexemes

-- those that are read in a page without calls, but for marks
abbrev pub IsLexemeForm : ItemForm → Type 0
IsLexemeForm form.Chars = ⊥
IsLexemeForm (form.Entity c) = Unit {0}
IsLexemeForm form.Nowiki = Unit {0}
IsLexemeForm form.Extension = Unit {0}
IsLexemeForm form.Function = ⊥
IsLexemeForm form.Comment = ⊥
IsLexemeForm form.Include = ⊥
IsLexemeForm form.Hidden = ⊥
IsLexemeForm form.EmptyCall = ⊥

pub lexeme_thing : (f : ItemForm) (o : Option ℕ) (bs : List ℕ) → IsLexemeForm f → NoBraces (tree_source (whole_tree f o bs)) → IsThing (whole_tree f o bs) (form_role f)
unfolding nowiki
lexeme_thing form.Chars o bs l b = absurd l
lexeme_thing (form.Entity c) o bs l b = of_kind (whole_tree (form.Entity c) o bs) node_kind.Entity role.Node refl (record { form = tt; numbered = refl; sorted = refl })
lexeme_thing form.Nowiki o bs l b = of_kind (whole_tree form.Nowiki o bs) node_kind.Nowiki role.Node refl (record { form = tt; numbered = refl; sorted = refl })
lexeme_thing form.Extension o bs l b = of_island (whole_tree form.Extension o bs) refl b
lexeme_thing form.Function o bs l b = absurd l
lexeme_thing form.Comment o bs l b = absurd l
lexeme_thing form.Include o bs l b = absurd l
lexeme_thing form.Hidden o bs l b = absurd l
lexeme_thing form.EmptyCall o bs l b = absurd l

-- ---- marks

-- those of a page without calls
abbrev pub IsMarkForm : ItemForm → Type 0
IsMarkForm form.Chars = ⊥
IsMarkForm (form.Entity c) = ⊥
IsMarkForm form.Nowiki = ⊥
IsMarkForm form.Extension = ⊥
IsMarkForm form.Function = ⊥
IsMarkForm form.Comment = Unit {0}
IsMarkForm form.Include = Unit {0}
IsMarkForm form.Hidden = Unit {0}
IsMarkForm form.EmptyCall = ⊥

of_mark : (ends began : Bool) (u : ItemTree) (k : Kind) → (head_of u).kind ≡ k → IsThingForm (edit_shape k).inline → is_numbered k ≡ true → (edit_shape k).sort ≡ sort.Mark
    → IsThing u (role.Mark ends began)
of_mark ends began u k e f numbered is = record {
  form = subst (λ (j : Kind). IsThingForm (edit_shape j).inline) (sym e) f;
  numbered = ap is_numbered e ∙ numbered;
  role = λ block s n before so.
      role_is block (standing n before u) s k (stands_kind n before u ∙ e)
      ∙ ap (λ (w : Sort). role_by w block s (standing n before u)) is
      ∙ ap₂ (λ (v w : Bool). role.Mark v w) (ap (λ (bs : List ℕ). ends_with nat_eq bs (10 ∷ [])) (standing_source n before u) ∙ so.0) (so.1 s refl);
}

pub mark_thing : (ends began : Bool) (f : ItemForm) (o : Option ℕ) (bs : List ℕ) → IsMarkForm f → IsThing (whole_tree f o bs) (role.Mark ends began)
mark_thing ends began form.Chars o bs l = absurd l
mark_thing ends began (form.Entity c) o bs l = absurd l
mark_thing ends began form.Nowiki o bs l = absurd l
mark_thing ends began form.Extension o bs l = absurd l
mark_thing ends began form.Function o bs l = absurd l
mark_thing ends began form.Comment o bs l = of_mark ends began (whole_tree form.Comment o bs) node_kind.Comment refl tt refl refl
mark_thing ends began form.Include o bs l = of_mark ends began (whole_tree form.Include o bs) node_kind.Include refl tt refl refl
mark_thing ends began form.Hidden o bs l = of_mark ends began (whole_tree form.Hidden o bs) node_kind.Include refl tt refl refl
mark_thing ends began form.EmptyCall o bs l = absurd l
