-- In the body of a page is neither a body nor a section, also in what its calls show.
use Rattle.std.proofs.Common.{◌≡◌, ℕ, suc, ◌+◌, Bool, true, false, Option, None, List, [], ◌∷◌, ◌++◌, length, refl, sym, ap, ◌∙◌, subst, cond}
use Rattle.std.specs.Prelude.{◌||◌, if◌then◌else◌}
use Rattle.std.specs.Str.{IsUtf8}
use Rattle.wt_tree.specs.declared.kind.Kind.{Kind}
use Rattle.wt_tree.specs.declared.kind.Kind.TheVariants as kind
use Rattle.wt_tree.specs.declared.kind.Ranges.{Ranges}
use Rattle.wt_tree.specs.declared.node.DataMw.{DataMw}
use Rattle.wt_tree.specs.declared.row.Texts.{Texts}
use Rattle.wt_tree.specs.declared.row.Texts.TheVariants.{Separators, Page, Bordered, OwnCharacter}
use Rattle.wt_tree.specs.declared.row.Writing.{Writing}
use Rattle.wt_tree.specs.declared.row.Writing.TheVariants.{AsText, AsVoid, RoundCharacter, RoundChildren, AsSection, Unwritten}
use Rattle.wt_tree.specs.Kinds.{shape, writing, is_leaf, texts_of_kind}
use Rattle.wt_tree.specs.Leaves.{text_leaf, sep_leaf}
use Rattle.wt_tree.specs.Tiling.{is_group}
use Rattle.wt_tree.specs.Tree.{Label, Tree, tree, Trees, none, more, label}
use Rattle.wt_recut.specs.Recut.{is_blank, is_text, is_border, leads_to_block, front_ranges, rest_ranges, joined_ranges, text_onto, joined_texts, from_start, front_of, rest_of, parts_before, text_before, cut_from}
use Rattle.wt_span.specs.Items.{Item}
use Rattle.wt_span.specs.Origins.{OuterCall}
use Rattle.wt_span.specs.Runs.{runs}
use Rattle.wt_inline.specs.ItemTree.{plain, ItemTree, inner, ItemTrees, nothing, further, tree_items}
use Rattle.wt_checks.specs.Kept.{children}
use Rattle.wt_checks.specs.PutBack.{is_frame, has_frame, have_frame}
use Rattle.wt_expand.specs.PageCalls.{expanded_page}
use Rattle.wt_expand.specs.Work.{Pages}
use Rattle.wt_commands.specs.Answers.{refusal_of_page}
use Rattle.wt_page.specs.Body.{meaning}
use Rattle.wt_annotated.specs.Annotated.{all_unplaced, placed, all_placed, annotated}
use Rattle.wt_annotated.specs.CutTexts.{cut_as, cut_texts, all_cut_texts}
use Rattle.wt_annotated.specs.GroupData.{group_data}
use Rattle.wt_annotated.specs.GroupParts.{Part}
use Rattle.wt_annotated.specs.Grouped.{Grouped, kept, group, GroupedAll, ended, along, is_tied, of_runs, grouped, children as grouped_children}
use Rattle.wt_annotated.specs.Labels.{label_at}
use Rattle.wt_annotated.specs.Numbering.{next_after, count, with_numbers, all_with_numbers}
use Rattle.wt_annotated.specs.Ungrouped.{joined, ungrouped, all_ungrouped}
use Rattle.wt_annotated.specs.WithoutCalls.{inside_by, InsideOf}
use Rattle.wt_annotated.proofs.TakenApart.{taken_apart}
use Rattle.wt_schema.specs.Written.{is_childless}
use Rattle.wt_schema.proofs.Rows.{is_somewhere, held}
use Rattle.wt_page_round_trip.proofs.ExpandedItems.{expanded_items}
use Rattle.wt_page_round_trip.proofs.PageShown.{body_nodes, page_shown}
use Rattle.wt_page_round_trip.proofs.ShownNodes.{NodeIsShown, IsOrdered, IsShownIn, AreShownIn}
use Rattle.wt_called_edit_laws.specs.Groups.{called_tree}

-- neither a body nor a section, nor is one in it
abbrev mutual
  IsUnframed : Tree → Type 0
  IsUnframed (tree l ts) = (is_frame l.kind ≡ false) × AreUnframed ts

  AreUnframed : Trees → Type 0
  AreUnframed none = Unit {0}
  AreUnframed (more t ts) = IsUnframed t × AreUnframed ts

either : (v : Bool) (us vs : Trees) → AreUnframed us → AreUnframed vs → AreUnframed (cond v us vs)
either true us vs h k = h
either false us vs h k = k

-- ---- a node that may stand in another

element_kind : (k : Kind) → is_somewhere (shape k).class ≡ true → is_frame k ≡ false
element_kind kind.Body e = absurd cc
element_kind (kind.Section n) e = absurd cc
element_kind k e = refl

text_kind : (k : Kind) → writing k ≡ AsText → is_frame k ≡ false
text_kind kind.Body e = absurd cc
text_kind (kind.Section n) e = absurd cc
text_kind k e = refl

node_kind : (w : Writing) (k : ℕ) (q : Kind) (l : Label) (childless : Bool) (inside : Type 0) → writing l.kind ≡ w → NodeIsShown w k q l childless inside
    → is_frame l.kind ≡ false
node_kind AsText k q l childless inside e h = text_kind l.kind e
node_kind AsVoid k q l childless inside e h = element_kind l.kind (held q l.kind h.1 h.2.element)
node_kind RoundCharacter k q l childless inside e h = element_kind l.kind (held q l.kind h.1 h.2.element)
node_kind RoundChildren k q l childless inside e h = element_kind l.kind (held q l.kind h.1 h.2.element)
node_kind (AsSection n) k q l childless inside e h = absurd h
node_kind Unwritten k q l childless inside e h = ap is_frame h.0

none_inside : (ts : Trees) → is_childless ts ≡ true → AreUnframed ts
none_inside none e = tt
none_inside (more t ts) e = cc

inside_of : (w : Writing) (k : ℕ) (q : Kind) (l : Label) (ts : Trees) (inside : Type 0) → NodeIsShown w k q l (is_childless ts) inside
    → (inside → AreUnframed ts) → AreUnframed ts
inside_of AsText k q l ts inside h f = none_inside ts h.1
inside_of AsVoid k q l ts inside h f = f h.4
inside_of RoundCharacter k q l ts inside h f = f h.4
inside_of RoundChildren k q l ts inside h f = f h.4
inside_of (AsSection n) k q l ts inside h f = absurd h
inside_of Unwritten k q l ts inside h f = none_inside ts h.1

mutual
  shown_unframed : (k : ℕ) (q : Kind) (t : Tree) → IsShownIn k q t → IsUnframed t
  shown_unframed k q (tree l ts) h =
      let inside : Type 0 = IsOrdered (texts_of_kind l.kind) ts × AreShownIn (suc k) l.kind ts in (
        node_kind (writing l.kind) k q l (is_childless ts) inside refl h,
        inside_of (writing l.kind) k q l ts inside h (λ w. all_shown_unframed (suc k) l.kind ts w.1),
      )

  all_shown_unframed : (k : ℕ) (q : Kind) (ts : Trees) → AreShownIn k q ts → AreUnframed ts
  all_shown_unframed k q none h = tt
  all_shown_unframed k q (more t ts) h = (shown_unframed k q t h.0, all_shown_unframed k q ts h.1)

-- ---- groups

abbrev mutual
  NodeUnframed : Grouped → Type 0
  NodeUnframed (kept h n o i c gs) = (is_frame h.kind ≡ false) × InsideOf (is_leaf h.kind) (NodesUnframed gs)
  NodeUnframed (group n k ts) = AreUnframed (all_unplaced ts)

  NodesUnframed : GroupedAll → Type 0
  NodesUnframed ended = Unit {0}
  NodesUnframed (along g gs) = NodeUnframed g × NodesUnframed gs

inside_split : (leaf : Bool) (us : Trees) (A : Type 0) → (AreUnframed us → A) → AreUnframed (inside_by leaf us) → InsideOf leaf A
inside_split true us A f h = tt
inside_split false us A f h = f h

inside_join : (leaf : Bool) (us : Trees) (A : Type 0) → (A → AreUnframed us) → InsideOf leaf A → AreUnframed (inside_by leaf us)
inside_join true us A f h = tt
inside_join false us A f h = f h

joined_split : (ts us : ItemTrees) → AreUnframed (all_unplaced (joined ts us)) → AreUnframed (all_unplaced ts) × AreUnframed (all_unplaced us)
joined_split nothing us h = (tt, h)
joined_split (further t ts) us h = let r = joined_split ts us h.1 in ((h.0, r.0), r.1)

mutual
  unfolding label_at

  one_apart : (all : List Item) (g : Grouped) (rest : ItemTrees) → AreUnframed (all_unplaced (ungrouped all g rest))
      → NodeUnframed g × AreUnframed (all_unplaced rest)
  one_apart all (kept h n o i c gs) rest f =
      ((f.0.0, inside_split (is_leaf h.kind) (all_unplaced (all_ungrouped all gs)) (NodesUnframed gs) (all_apart all gs) f.0.1), f.1)
  one_apart all (group n k ts) rest f = joined_split ts rest f

  all_apart : (all : List Item) (gs : GroupedAll) → AreUnframed (all_unplaced (all_ungrouped all gs)) → NodesUnframed gs
  all_apart all ended f = tt
  all_apart all (along g gs) f = let r = one_apart all g (all_ungrouped all gs) f in (r.0, all_apart all gs r.1)

mutual
  one_placed : (calls : List OuterCall) (carried : List Part → Option DataMw) (all : List Item) (g : Grouped) → NodeUnframed g → IsUnframed (placed calls carried all g)
  one_placed calls carried all (kept h n o i c gs) f =
      (f.0, inside_join (is_leaf h.kind) (all_placed calls carried all gs) (NodesUnframed gs) (all_in_place calls carried all gs) f.1)
  one_placed calls carried all (group n k ts) f = (refl, f)

  all_in_place : (calls : List OuterCall) (carried : List Part → Option DataMw) (all : List Item) (gs : GroupedAll) → NodesUnframed gs
      → AreUnframed (all_placed calls carried all gs)
  all_in_place calls carried all ended f = tt
  all_in_place calls carried all (along g gs) f = (one_placed calls carried all g f.0, all_in_place calls carried all gs f.1)

-- ---- texts cut anew

text_onto_unframed : (r : Option Ranges) (own : List ℕ) (ts : Trees) → AreUnframed ts → AreUnframed (text_onto r own ts)
text_onto_unframed r [] ts h = h
text_onto_unframed r (b ∷ bs) none h = ((refl, tt), tt)
text_onto_unframed r (b ∷ bs) (more t ts) h =
    either (is_text t) (more (sep_leaf (joined_ranges r (label t).ranges) ((b ∷ bs) ++ (label t).own)) ts) (more (sep_leaf r (b ∷ bs)) (more t ts))
    ((refl, tt), h.1) ((refl, tt), h)

joined_unframed : (ts : Trees) → AreUnframed ts → AreUnframed (joined_texts ts)
joined_unframed none h = tt
joined_unframed (more t ts) h =
    let us : Trees = joined_texts ts in
    let k : AreUnframed us = joined_unframed ts h.1 in
    either (is_text t) (text_onto (label t).ranges (label t).own us) (more t us) (text_onto_unframed (label t).ranges (label t).own us k) (h.0, k)

one_leaf : (v : Bool) (r : Option Ranges) (bs : List ℕ) → IsUnframed (if v then sep_leaf r bs else text_leaf r bs)
one_leaf true r bs = (refl, tt)
one_leaf false r bs = (refl, tt)

parts_unframed : (r : Option Ranges) (front rest : List ℕ) (ts : Trees) → AreUnframed ts → AreUnframed (parts_before r front rest ts)
parts_unframed r front [] ts h = ((refl, tt), h)
parts_unframed r [] (b ∷ bs) ts h = (one_leaf (is_blank (b ∷ bs)) r (b ∷ bs), h)
parts_unframed r (c ∷ cs) (b ∷ bs) ts h =
    either (is_blank (b ∷ bs))
    (more (text_leaf (front_ranges (length (c ∷ cs)) r) (c ∷ cs)) (more (sep_leaf (rest_ranges (length (c ∷ cs)) r) (b ∷ bs)) ts))
    (more (text_leaf r ((c ∷ cs) ++ (b ∷ bs))) ts) ((refl, tt), ((refl, tt), h)) ((refl, tt), h)

cut_unframed : (behind : Bool) (ts : Trees) → AreUnframed ts → AreUnframed (cut_from behind ts)
cut_unframed behind none h = tt
cut_unframed behind (more t ts) h =
    let us : Trees = cut_from (behind || is_border t) ts in
    let k : AreUnframed us = cut_unframed (behind || is_border t) ts h.1 in
    let all : Bool = from_start behind (leads_to_block ts) (label t).own in
    either (is_text t) (text_before all (label t).ranges (label t).own us) (more t us)
    (parts_unframed (label t).ranges (front_of all (label t).own) (rest_of all (label t).own) us k) (h.0, k)

as_unframed : (x : Texts) (us : Trees) → AreUnframed us → AreUnframed (cut_as x us)
as_unframed Separators us h = h
as_unframed Page us h = h
as_unframed Bordered us h = cut_unframed false (joined_texts us) (joined_unframed us h)
as_unframed OwnCharacter us h = h

all_cut : (ts : Trees) → AreUnframed ts → AreUnframed (all_cut_texts ts)
all_cut none h = tt
all_cut (more (tree l us) ts) h = (
  (
    h.0.0,
    either (is_group l.kind) us (cut_as (texts_of_kind l.kind) (all_cut_texts us)) h.0.1
        (as_unframed (texts_of_kind l.kind) (all_cut_texts us) (all_cut us h.0.1)),
  ),
  all_cut ts h.1,
)

-- ---- numbers

all_numbered : (n : ℕ) (ts : Trees) → AreUnframed ts → AreUnframed (all_with_numbers n ts)
all_numbered n none h = tt
all_numbered n (more (tree l us) ts) h = (
  (h.0.0, either (is_group l.kind) us (all_with_numbers (next_after l.kind n) us) h.0.1 (all_numbered (next_after l.kind n) us h.0.1)),
  all_numbered (n + count (tree l us)) ts h.1,
)

-- ---- the body

body_cut : (t : Tree) → AreUnframed (children t) → AreUnframed (children (cut_texts t))
body_cut (tree l ts) h =
    either (is_group l.kind) ts (cut_as (texts_of_kind l.kind) (all_cut_texts ts)) h
    (as_unframed (texts_of_kind l.kind) (all_cut_texts ts) (all_cut ts h))

body_numbered : (n : ℕ) (t : Tree) → AreUnframed (children t) → AreUnframed (children (with_numbers n t))
body_numbered n (tree l ts) h =
    either (is_group l.kind) ts (all_with_numbers (next_after l.kind n) ts) h (all_numbered (next_after l.kind n) ts h)

held_in : ItemTrees → ItemTrees
held_in nothing = nothing
held_in (further (inner h o ts c) us) = ts

body_unframed : (calls : List OuterCall) (carried : List Part → Option DataMw) (ts : ItemTrees) → AreUnframed (all_unplaced ts)
    → AreUnframed (children (annotated calls carried (inner (plain kind.Body) [] ts [])))
unfolding annotated held_in
body_unframed calls carried ts h =
    let body : ItemTree = inner (plain kind.Body) [] ts [] in
    let all : List Item = tree_items body in
    let gs : GroupedAll = of_runs (runs (is_tied all) (grouped_children all 0 ts)) in
    let apart : all_ungrouped all gs ≡ ts = ap held_in (taken_apart body) in
    let f : NodesUnframed gs = all_apart all gs (subst (λ us. AreUnframed (all_unplaced us)) (sym apart) h) in
    body_numbered 1 (cut_texts (placed calls carried all (grouped all 0 body))) (body_cut (placed calls carried all (grouped all 0 body)) (all_in_place calls carried all gs f))

mutual
  no_frame : (t : Tree) → IsUnframed t → has_frame t ≡ false
  no_frame (tree l ts) h = ap (λ (v : Bool). v || have_frame ts) h.0 ∙ none_frame ts h.1

  none_frame : (ts : Trees) → AreUnframed ts → have_frame ts ≡ false
  none_frame none h = refl
  none_frame (more t ts) h = ap (λ (v : Bool). v || have_frame ts) (no_frame t h.0) ∙ none_frame ts h.1

pub page_unframed : (pages : Pages) (page : List ℕ) → IsUtf8 page → refusal_of_page pages page ≡ None → have_frame (children (called_tree pages page)) ≡ false
unfolding meaning
page_unframed pages page u e =
    let calls : List OuterCall = (expanded_page pages page).outer in
    let xs : List Item = (expanded_page pages page).items in
    none_frame (children (called_tree pages page))
    (body_unframed calls (group_data calls) (body_nodes xs) (all_shown_unframed 9 kind.Body (all_unplaced (body_nodes xs)) (page_shown xs (expanded_items pages page u e)).0))
