-- A page's tree without groups comes of items of the page alone, and has no empty node.
use Rattle.std.proofs.Common.{◌≡◌, ℕ, ◌+◌, Bool, true, false, Option, List, [], ◌∷◌, ◌++◌, length, refl, sym, subst, cond}
use Rattle.std.specs.Prelude.{◌&&◌, ◌||◌}
use Rattle.std.specs.List.{AllByRecursion, flat_map, list_all}
use Rattle.wt_tree.specs.declared.kind.Kind.TheVariants as kind
use Rattle.wt_tree.specs.declared.kind.Ranges.{Ranges}
use Rattle.wt_tree.specs.declared.row.Texts.{Texts}
use Rattle.wt_tree.specs.declared.row.Texts.TheVariants.{Separators, Page, Bordered, OwnCharacter}
use Rattle.wt_tree.specs.Kinds.{is_leaf, texts_of_kind}
use Rattle.wt_tree.specs.Leaves.{text_leaf, sep_leaf}
use Rattle.wt_recut.specs.Recut.{is_blank, is_text, is_border, leads_to_block, front_ranges, rest_ranges, joined_ranges, text_onto, joined_texts, from_start, front_of, rest_of, parts_before, text_before, cut_from}
use Rattle.wt_tree.specs.Tiling.{is_group, HasNoGroup, NoneIsGroup}
use Rattle.wt_tree.specs.Tree.{Tree, tree, Trees, none, more, label}
use Rattle.wt_span.specs.Cuts.{is_free}
use Rattle.wt_span.specs.Items.{Item}
use Rattle.wt_span.specs.Origins.{OuterCall}
use Rattle.wt_span.specs.Runs.{runs}
use Rattle.wt_span.proofs.RunLaws.{runs_joined}
use Rattle.wt_inline.specs.ItemTree.{plain, ItemTree, inner, ItemTrees, nothing, further, tree_items, held_by_all}
use Rattle.wt_annotated.specs.Annotated.{placed, all_placed, annotated}
use Rattle.wt_annotated.specs.Clean.{is_page, own_by, is_clean}
use Rattle.wt_annotated.specs.CutTexts.{cut_as, cut_texts, all_cut_texts}
use Rattle.wt_annotated.specs.Grouped.{group, Child, is_tied, of_runs, grouped, children}
use Rattle.wt_annotated.specs.Numbering.{next_after, count, with_numbers, all_with_numbers}
use Rattle.wt_annotated.specs.WithoutCalls.{inside_by, InsideOf, holds_page, NoneEmpty, AllNonEmpty, IsPlain}
use Rattle.wt_annotated.proofs.CutNumbered.{text_no_group, is_bare}
use Rattle.wt_annotated.proofs.CutPlaced.{placed_bare}
use Rattle.wt_annotated.proofs.CutTexts.{leaf_text, BareInside, BareTexts, AllBareTexts}
use Rattle.wt_annotated.proofs.Calls.{all_split}
use Rattle.wt_annotated.proofs.Ends.{both, false_true}
use Rattle.wt_annotated.proofs.PlainTrees.{all_joined}
use Rattle.wt_annotated.proofs.Tiles.{Carried}
use Rattle.wt_annotated.proofs.WithoutCalls.{OfPage}

-- ---- numbers

inside_numbered : (g : Bool) (ts us : Trees) → g ≡ false → NoneIsGroup (cond g ts us) → NoneIsGroup us
inside_numbered true ts us e h = false_true (sym e)
inside_numbered false ts us e h = h

mutual
  numbered_none : (n : ℕ) (t : Tree) → HasNoGroup (with_numbers n t) → HasNoGroup t
  numbered_none n (tree l ts) h =
      (h.0, all_numbered_none (next_after l.kind n) ts (inside_numbered (is_group l.kind) ts (all_with_numbers (next_after l.kind n) ts) h.0 h.1))

  all_numbered_none : (n : ℕ) (ts : Trees) → NoneIsGroup (all_with_numbers n ts) → NoneIsGroup ts
  all_numbered_none n none h = tt
  all_numbered_none n (more t ts) h = (numbered_none n t h.0, all_numbered_none (n + count t) ts h.1)

-- ---- texts

abbrev TextIsNone : Tree → Type 0
TextIsNone t = is_text t ≡ true → HasNoGroup t

abbrev TextsAreNone : Trees → Type 0
TextsAreNone none = Unit {0}
TextsAreNone (more t ts) = TextIsNone t × TextsAreNone ts

bare_none : (t : Tree) → BareTexts t → TextIsNone t
bare_none (tree l ts) b e =
    let g : is_group l.kind ≡ false = text_no_group l.kind e in
    let z : ts ≡ none = is_bare (is_group l.kind) (is_leaf l.kind) ts (AllBareTexts ts) g (leaf_text l.kind e) b.1 in
    (g, subst NoneIsGroup (sym z) tt)

onto_free : (v : Bool) (r s : Option Ranges) (own bs : List ℕ) (t : Tree) (ts : Trees) → TextsAreNone (more t ts)
    → TextsAreNone (cond v (more (sep_leaf s bs) ts) (more (sep_leaf r own) (more t ts)))
onto_free true r s own bs t ts z = (λ e. (refl, tt), z.1)
onto_free false r s own bs t ts z = (λ e. (refl, tt), z)

text_onto_free : (r : Option Ranges) (own : List ℕ) (ts : Trees) → TextsAreNone ts → TextsAreNone (text_onto r own ts)
text_onto_free r [] ts z = z
text_onto_free r (b ∷ bs) none z = (λ e. (refl, tt), tt)
text_onto_free r (b ∷ bs) (more t ts) z =
    onto_free (is_text t) r (joined_ranges r (label t).ranges) (b ∷ bs) ((b ∷ bs) ++ (label t).own) t ts z

joined_free_by : (v : Bool) (t : Tree) (ts : Trees) → TextIsNone t → TextsAreNone ts
    → TextsAreNone (cond v (text_onto (label t).ranges (label t).own ts) (more t ts))
joined_free_by true t ts y z = text_onto_free (label t).ranges (label t).own ts z
joined_free_by false t ts y z = (y, z)

joined_free : (ts : Trees) → TextsAreNone ts → TextsAreNone (joined_texts ts)
joined_free none z = tt
joined_free (more t ts) z = joined_free_by (is_text t) t (joined_texts ts) z.0 (joined_free ts z.1)

onto_none : (v : Bool) (r s : Option Ranges) (own bs : List ℕ) (t : Tree) (ts : Trees) → (v ≡ true → HasNoGroup t)
    → NoneIsGroup (cond v (more (sep_leaf s bs) ts) (more (sep_leaf r own) (more t ts))) → NoneIsGroup (more t ts)
onto_none true r s own bs t ts z h = (z refl, h.1)
onto_none false r s own bs t ts z h = h.1

text_onto_none : (r : Option Ranges) (own : List ℕ) (ts : Trees) → TextsAreNone ts → NoneIsGroup (text_onto r own ts) → NoneIsGroup ts
text_onto_none r [] ts z h = h
text_onto_none r (b ∷ bs) none z h = tt
text_onto_none r (b ∷ bs) (more t ts) z h =
    onto_none (is_text t) r (joined_ranges r (label t).ranges) (b ∷ bs) ((b ∷ bs) ++ (label t).own) t ts z.0 h

joined_by : (v : Bool) (t : Tree) (ts : Trees) → (v ≡ true → HasNoGroup t) → TextsAreNone ts
    → NoneIsGroup (cond v (text_onto (label t).ranges (label t).own ts) (more t ts)) → HasNoGroup t × NoneIsGroup ts
joined_by true t ts y z h = (y refl, text_onto_none (label t).ranges (label t).own ts z h)
joined_by false t ts y z h = h

joined_none : (ts : Trees) → TextsAreNone ts → NoneIsGroup (joined_texts ts) → NoneIsGroup ts
joined_none none z h = tt
joined_none (more t ts) z h =
    let r = joined_by (is_text t) t (joined_texts ts) z.0 (joined_free ts z.1) h in
    (r.0, joined_none ts z.1 r.1)

both_none : (v : Bool) (p q r : Option Ranges) (front rest own : List ℕ) (ts : Trees)
    → NoneIsGroup (cond v (more (text_leaf p front) (more (sep_leaf q rest) ts)) (more (text_leaf r own) ts)) → NoneIsGroup ts
both_none true p q r front rest own ts h = h.1.1
both_none false p q r front rest own ts h = h.1

parts_none : (r : Option Ranges) (front rest : List ℕ) (ts : Trees) → NoneIsGroup (parts_before r front rest ts) → NoneIsGroup ts
parts_none r front [] ts h = h.1
parts_none r [] (b ∷ bs) ts h = h.1
parts_none r (c ∷ cs) (b ∷ bs) ts h =
    both_none (is_blank (b ∷ bs)) (front_ranges (length (c ∷ cs)) r) (rest_ranges (length (c ∷ cs)) r) r (c ∷ cs) (b ∷ bs) ((c ∷ cs) ++ (b ∷ bs)) ts h

cut_by : (v x : Bool) (t : Tree) (ts : Trees) → (v ≡ true → HasNoGroup t)
    → NoneIsGroup (cond v (text_before x (label t).ranges (label t).own ts) (more t ts)) → HasNoGroup t × NoneIsGroup ts
cut_by true x t ts z h = (z refl, parts_none (label t).ranges (front_of x (label t).own) (rest_of x (label t).own) ts h)
cut_by false x t ts z h = h

cut_none : (behind : Bool) (ts : Trees) → TextsAreNone ts → NoneIsGroup (cut_from behind ts) → NoneIsGroup ts
cut_none behind none z h = tt
cut_none behind (more t ts) z h =
    let r = cut_by (is_text t) (from_start behind (leads_to_block ts) (label t).own) t (cut_from (behind || is_border t) ts) z.0 h in
    (r.0, cut_none (behind || is_border t) ts z.1 r.1)

as_none : (x : Texts) (ts : Trees) → TextsAreNone ts → NoneIsGroup (cut_as x ts) → NoneIsGroup ts
as_none Separators ts z h = h
as_none Page ts z h = h
as_none Bordered ts z h = joined_none ts z (cut_none false (joined_texts ts) (joined_free ts z) h)
as_none OwnCharacter ts z h = h

-- ---- trees whose texts are cut

cut_text : (g : Bool) (x : Texts) (ts : Trees) → ts ≡ none → NoneIsGroup (cond g ts (cut_as x (all_cut_texts ts)))
cut_text true x ts z = subst NoneIsGroup (sym z) tt
cut_text false x ts z = subst (λ (us : Trees). NoneIsGroup (cut_as x (all_cut_texts us))) (sym z) (nothing x)
  where
    nothing : (x : Texts) → NoneIsGroup (cut_as x none)
    nothing Separators = tt
    nothing Page = tt
    nothing Bordered = tt
    nothing OwnCharacter = tt

cut_is_none : (t : Tree) → BareTexts t → TextIsNone (cut_texts t)
cut_is_none (tree l ts) b e =
    let g : is_group l.kind ≡ false = text_no_group l.kind e in (
      g,
      cut_text (is_group l.kind) (texts_of_kind l.kind) ts
          (is_bare (is_group l.kind) (is_leaf l.kind) ts (AllBareTexts ts) g (leaf_text l.kind e) b.1),
    )

all_cut_free : (ts : Trees) → AllBareTexts ts → TextsAreNone (all_cut_texts ts)
all_cut_free none b = tt
all_cut_free (more t ts) b = (cut_is_none t b.0, all_cut_free ts b.1)

inside_cut : (g leaf : Bool) (x : Texts) (ts : Trees) → g ≡ false → BareInside g leaf ts (AllBareTexts ts)
    → (AllBareTexts ts → NoneIsGroup (all_cut_texts ts) → NoneIsGroup ts) → NoneIsGroup (cond g ts (cut_as x (all_cut_texts ts))) → NoneIsGroup ts
inside_cut true leaf x ts e b f h = h
inside_cut false true x ts e b f h = subst NoneIsGroup (sym b) tt
inside_cut false false x ts e b f h = f b (as_none x (all_cut_texts ts) (all_cut_free ts b) h)

mutual
  cut_texts_none : (t : Tree) → BareTexts t → HasNoGroup (cut_texts t) → HasNoGroup t
  cut_texts_none (tree l ts) b h =
      (h.0, inside_cut (is_group l.kind) (is_leaf l.kind) (texts_of_kind l.kind) ts h.0 b.1 (all_cut_texts_none ts) h.1)

  all_cut_texts_none : (ts : Trees) → AllBareTexts ts → NoneIsGroup (all_cut_texts ts) → NoneIsGroup ts
  all_cut_texts_none none b h = tt
  all_cut_texts_none (more t ts) b h = (cut_texts_none t b.0 h.0, all_cut_texts_none ts b.1 h.1)

-- ---- trees over items

holds_by : (a b c d e f : Bool) → (a && (b && (c && (d && (e && f))))) ≡ true → (e ≡ true) × (f ≡ true)
holds_by a b c d e f x =
    let p = both a (b && (c && (d && (e && f)))) x in
    let q = both b (c && (d && (e && f))) p.1 in
    let r = both c (d && (e && f)) q.1 in
    let s = both d (e && f) r.1 in
    both e f s.1

abbrev own_items : ItemTree → List Item
own_items (inner h o ts c) = own_by (is_leaf h.kind) o (held_by_all ts) c

-- a clean node has its own items from the page, and holds one
clean_holds : (all : List Item) (n : ℕ) (t : ItemTree) → is_clean all n t ≡ true → OfPage (own_items t) × (holds_page t ≡ true)
clean_holds all n (inner h o ts c) e =
    holds_by (is_free all n) (is_free all (n + length o)) (is_free all (n + length o + length (held_by_all ts)))
    (is_free all (n + length o + length (held_by_all ts) + length c)) (list_all is_page (own_by (is_leaf h.kind) o (held_by_all ts) c))
    (holds_page (inner h o ts c)) e

-- children that are no group are clean
abbrev IsKept : List OuterCall → Carried → List Item → Child → Type 0
IsKept calls carried all c = (c.clean ≡ true) × HasNoGroup (placed calls carried all c.whole)

is_kept : (calls : List OuterCall) (carried : Carried) (all : List Item) (c : Child) (v : Bool) → HasNoGroup (placed calls carried all
    (cond v c.whole (group c.from c.size (further c.tree nothing)))) → (v ≡ true) × HasNoGroup (placed calls carried all c.whole)
is_kept calls carried all c true h = (refl, h)
is_kept calls carried all c false h = false_true (sym h.0)

are_kept : (calls : List OuterCall) (carried : Carried) (all : List Item) (rs : List (List Child))
    → NoneIsGroup (all_placed calls carried all (of_runs rs)) → AllByRecursion (IsKept calls carried all) (flat_map (λ (r : List Child). r) rs)
are_kept calls carried all [] h = tt
are_kept calls carried all ([] ∷ rs) h = false_true (sym h.0.0)
are_kept calls carried all ((c ∷ []) ∷ rs) h = (is_kept calls carried all c c.clean h.0, are_kept calls carried all rs h.1)
are_kept calls carried all ((c ∷ d ∷ ds) ∷ rs) h = false_true (sym h.0.0)

-- what is shown of a tree: of the page, with no empty node
abbrev Plain : ItemTree → Type 0
Plain t = OfPage (tree_items t) × NoneEmpty t

abbrev AllPlain : ItemTrees → Type 0
AllPlain ts = OfPage (held_by_all ts) × AllNonEmpty ts

plain_by : (is : Bool) (o c : List Item) (ts : ItemTrees) (us : Trees) → OfPage (own_by is o (held_by_all ts) c) → (NoneIsGroup us → AllPlain ts)
    → NoneIsGroup (inside_by is us) → OfPage (o ++ (held_by_all ts ++ c)) × InsideOf is (AllNonEmpty ts)
plain_by true o c ts us p f h = (p, tt)
plain_by false o c ts us p f h =
    let q = all_split o c p in
    let r : AllPlain ts = f h in
    (all_joined o (held_by_all ts ++ c) q.0 (all_joined (held_by_all ts) c r.0 q.1), r.1)

mutual
  placed_plain : (calls : List OuterCall) (carried : Carried) (all : List Item) (n : ℕ) (t : ItemTree) → OfPage (own_items t)
      → HasNoGroup (placed calls carried all (grouped all n t)) → Plain t
  placed_plain calls carried all n (inner h o ts c) p g =
      let cs : List Child = children all (n + length o) ts in
      plain_by (is_leaf h.kind) o c ts (all_placed calls carried all (of_runs (runs (is_tied all) cs))) p
      (λ i. children_plain calls carried all (n + length o) ts
      (subst (λ (ds : List Child). AllByRecursion (IsKept calls carried all) ds) (runs_joined (is_tied all) cs)
      (are_kept calls carried all (runs (is_tied all) cs) i))) g.1

  children_plain : (calls : List OuterCall) (carried : Carried) (all : List Item) (n : ℕ) (ts : ItemTrees)
      → AllByRecursion (IsKept calls carried all) (children all n ts) → AllPlain ts
  children_plain calls carried all n nothing h = (refl, tt)
  children_plain calls carried all n (further t ts) h =
      let q = clean_holds all n t h.0.0 in
      let r : Plain t = placed_plain calls carried all n t q.0 h.0.1 in
      let s : AllPlain ts = children_plain calls carried all (n + length (tree_items t)) ts h.1 in
      (all_joined (tree_items t) (held_by_all ts) r.0 s.0, (q.1, r.1, s.1))

pub only_plain : (calls : List OuterCall) (carried : Carried) (ts : ItemTrees) → HasNoGroup (annotated calls carried (inner (plain kind.Body) [] ts []))
    → IsPlain (inner (plain kind.Body) [] ts [])
unfolding annotated
only_plain calls carried ts h =
    let t : ItemTree = inner (plain kind.Body) [] ts [] in
    let u : Tree = placed calls carried (tree_items t) (grouped (tree_items t) 0 t) in
    let r : Plain t = placed_plain calls carried (tree_items t) 0 t refl
    (cut_texts_none u (placed_bare calls carried (tree_items t) (grouped (tree_items t) 0 t)) (numbered_none 1 (cut_texts u) h)) in
    record { of_page = r.0; none_empty = r.1 }
