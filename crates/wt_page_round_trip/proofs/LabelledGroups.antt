-- Every group of an annotated tree has a label that is written, where each node is cut between characters.
use Rattle.std.proofs.Common.{◌≡◌, ℕ, ◌+◌, ◌<◌, ◌≤◌, ◌^◌, Bool, true, false, Option, None, Some, List, [], ◌∷◌, ◌++◌, length, map, refl, sym, ◌∙◌, subst, cond, arith}
use Rattle.std.specs.Prelude.{◌||◌}
use Rattle.std.specs.List.{AllByRecursion}
use Rattle.std.proofs.lemmas.Str.{IsUtf8-nil}
use Rattle.wt_tree.specs.declared.kind.Kind.{Kind}
use Rattle.wt_tree.specs.declared.kind.Kind.TheVariants as kind
use Rattle.wt_tree.specs.declared.kind.Ranges.{Ranges}
use Rattle.wt_tree.specs.declared.row.Texts.{Texts}
use Rattle.wt_tree.specs.declared.row.Texts.TheVariants.{Separators, Page, Bordered, OwnCharacter}
use Rattle.wt_tree.specs.Kinds.{is_leaf, is_numbered, texts_of_kind}
use Rattle.wt_tree.specs.Leaves.{text_leaf, sep_leaf}
use Rattle.wt_recut.specs.Recut.{is_blank, is_text, is_border, leads_to_block, front_ranges, rest_ranges, joined_ranges, text_onto, joined_texts, from_start, front_of, rest_of, parts_before, text_before, cut_from}
use Rattle.wt_tree.specs.Tiling.{is_group}
use Rattle.wt_tree.specs.Tree.{Label, Tree, tree, Trees, none, more, label, trees}
use Rattle.wt_span.specs.Cuts.{page_of}
use Rattle.wt_span.specs.Items.{Item}
use Rattle.wt_span.specs.Origins.{OuterCall}
use Rattle.wt_span.specs.Runs.{runs, AreRuns}
use Rattle.wt_span.proofs.RunLaws.{runs_are}
use Rattle.wt_schema.specs.Written.{IsNumber, IsGroupLabel}
use Rattle.wt_inline.specs.ItemTree.{ItemTree, inner, ItemTrees, nothing, further, tree_items, held_by_all}
use Rattle.wt_annotated.specs.Annotated.{kept_label, group_label, placed, annotated}
use Rattle.wt_annotated.specs.Clean.{is_clean}
use Rattle.wt_annotated.specs.CutTexts.{cut_as, cut_texts, all_cut_texts}
use Rattle.wt_annotated.specs.GroupData.{group_data}
use Rattle.wt_annotated.specs.Grouped.{grouped}
use Rattle.wt_annotated.specs.Numbering.{next_after, count, count_all, with_id, with_numbers, all_with_numbers}
use Rattle.wt_annotated.specs.Reached.{AreReachedSlices, reached, reached_in_all}
use Rattle.wt_annotated.specs.Seams.{last_of, first_of, text_from}
use Rattle.wt_annotated.specs.Slices.{IsSlice, StandsIn}
use Rattle.wt_annotated.specs.Walked.{parts_from, Near, near_tied, near_nodes, near_group, near_run, near_runs, walked, near}
use Rattle.wt_annotated.specs.WithoutCalls.{inside_by}
use Rattle.wt_annotated.proofs.AnnotatedTree.{annotated_slices}
use Rattle.wt_annotated.proofs.Walks.{walk_all}
use Rattle.wt_page_round_trip.specs.GroupTexts.{ArePageCalls, AreOwnTexts, HoldsTexts, AllHoldTexts, HasGroupLabel}
use Rattle.wt_page_round_trip.proofs.OwnTexts.{own_joined}
use Rattle.wt_page_round_trip.proofs.GroupLabels.{labelled}

-- ---- trees over items

mutual
  pub tree_own : (t : ItemTree) → HoldsTexts t → AreOwnTexts [] (tree_items t)
  tree_own (inner h o ts c) q = own_joined [] o (held_by_all ts ++ c) q.1 (own_joined [] (held_by_all ts) c (held_own ts q.2) q.3)

  pub held_own : (ts : ItemTrees) → AllHoldTexts ts → AreOwnTexts [] (held_by_all ts)
  held_own nothing q = IsUtf8-nil
  held_own (further t ts) q = own_joined [] (tree_items t) (held_by_all ts) (tree_own t q.0) (held_own ts q.1)

-- ---- groups of a tree

abbrev pub IfGroup : Bool → Type 0 → Type 0 → Type 0
IfGroup true own inside = own
IfGroup false own inside = inside

-- this holds of the label of each group that is reached
abbrev mutual
  pub OfGroups : (Label → Type 0) → Tree → Type 0
  OfGroups P (tree l ts) = IfGroup (is_group l.kind) (P l) (OfAllGroups P ts)

  pub OfAllGroups : (Label → Type 0) → Trees → Type 0
  OfAllGroups P none = Unit {0}
  OfAllGroups P (more t ts) = OfGroups P t × OfAllGroups P ts

-- it ends at a place that a page can have
abbrev pub EndsBelow : Option Ranges → Type 0
EndsBelow None = ⊥
EndsBelow (Some r) = r.end < 2 ^ 32

-- a group's label is written as soon as it has a number, where it ends in a page
abbrev pub IsAlmost : Label → Type 0
IsAlmost l = (id : ℕ) → IsNumber true id → EndsBelow l.ranges → IsGroupLabel (with_id id l)

no_group : (P : Label → Type 0) (l : Label) (ts : Trees) → is_group l.kind ≡ false → OfAllGroups P ts → OfGroups P (tree l ts)
no_group P l ts e h = subst (λ (b : Bool). IfGroup b (P l) (OfAllGroups P ts)) (sym e) h

-- ---- groups as they are made

-- a child whose own nodes are so
abbrev IsMade : Near → Type 0
IsMade c = AreOwnTexts [] (tree_items c.tree) × OfGroups IsAlmost c.whole

own_of_all : (cs : List Near) → AllByRecursion IsMade cs → AreOwnTexts [] (held_by_all (near_nodes cs))
own_of_all [] h = IsUtf8-nil
own_of_all (c ∷ cs) h = own_joined [] (tree_items c.tree) (held_by_all (near_nodes cs)) h.0.0 (own_of_all cs h.1)

almost_at : (calls : List OuterCall) (at : ℕ) (o : Option ℕ) (xs : List Item) → ArePageCalls calls → AreOwnTexts [] xs
    → IsAlmost (group_label at (text_from calls o xs) (group_data calls (parts_from o None xs)))
almost_at calls at o xs c t id n end = labelled calls at id o xs c t n end

group_made : (calls : List OuterCall) (cs : List Near) → ArePageCalls calls → AllByRecursion IsMade cs
    → OfGroups IsAlmost (near_group calls (group_data calls) cs)
group_made calls [] c h = almost_at calls 0 None [] c IsUtf8-nil
group_made calls (d ∷ ds) c h = almost_at calls d.byte d.before (held_by_all (near_nodes (d ∷ ds))) c (own_of_all (d ∷ ds) h)

one_made : (calls : List OuterCall) (d : Near) (v : Bool) → ArePageCalls calls → IsMade d
    → OfGroups IsAlmost (cond v d.whole (near_group calls (group_data calls) (d ∷ [])))
one_made calls d true c h = h.1
one_made calls d false c h = group_made calls (d ∷ []) c (h, tt)

run_made : (calls : List OuterCall) (cs : List Near) → ArePageCalls calls → AllByRecursion IsMade cs → OfGroups IsAlmost (near_run calls (group_data calls) cs)
run_made calls [] c h = group_made calls [] c h
run_made calls (d ∷ []) c h = one_made calls d d.clean c h.0
run_made calls (d ∷ e ∷ ds) c h = group_made calls (d ∷ e ∷ ds) c h

first_made : (rs cs : List Near) → AllByRecursion IsMade (rs ++ cs) → AllByRecursion IsMade rs
first_made [] cs h = tt
first_made (r ∷ rs) cs h = (h.0, first_made rs cs h.1)

rest_made : (rs cs : List Near) → AllByRecursion IsMade (rs ++ cs) → AllByRecursion IsMade cs
rest_made [] cs h = h
rest_made (r ∷ rs) cs h = rest_made rs cs h.1

runs_made : (calls : List OuterCall) (rs : List (List Near)) (cs : List Near) → ArePageCalls calls → AreRuns near_tied rs cs → AllByRecursion IsMade cs
    → OfAllGroups IsAlmost (trees (map (near_run calls (group_data calls)) rs))
runs_made calls [] cs c a h = tt
runs_made calls (r ∷ rs) cs c a h =
    let k : AllByRecursion IsMade (r ++ a.0) = subst (λ (ds : List Near). AllByRecursion IsMade ds) a.1 h in
    (run_made calls r c (first_made r a.0 k), runs_made calls rs a.0 c a.3 (rest_made r a.0 k))

inside_made : (is : Bool) (us : Trees) → OfAllGroups IsAlmost us → OfAllGroups IsAlmost (inside_by is us)
inside_made true us h = tt
inside_made false us h = h

mutual
  walked_made : (calls : List OuterCall) (o : Option ℕ) (at : ℕ) (p : Option ℕ) (t : ItemTree) → ArePageCalls calls → HoldsTexts t
      → OfGroups IsAlmost (walked calls (group_data calls) o at p t)
  walked_made calls o at p (inner h op ts cl) c q =
      let place : ℕ = at + length (text_from calls o op) in
      let ns : List Near = near calls (group_data calls) (last_of o op) place (first_of cl p) ts in
      let l : Label = kept_label (is_leaf h.kind) h at (text_from calls o (op ++ (held_by_all ts ++ cl))) (text_from calls o op)
      (text_from calls (last_of (last_of o op) (held_by_all ts)) cl) in
      no_group IsAlmost l (inside_by (is_leaf h.kind) (trees (near_runs calls (group_data calls) ns))) q.0
      (inside_made (is_leaf h.kind) (trees (near_runs calls (group_data calls) ns))
      (runs_made calls (runs near_tied ns) ns c (runs_are near_tied ns) (all_made calls (last_of o op) place (first_of cl p) ts c q.2)))

  all_made : (calls : List OuterCall) (o : Option ℕ) (at : ℕ) (p : Option ℕ) (ts : ItemTrees) → ArePageCalls calls → AllHoldTexts ts
      → AllByRecursion IsMade (near calls (group_data calls) o at p ts)
  all_made calls o at p nothing c q = tt
  all_made calls o at p (further u ts) c q = (
    (tree_own u q.0, walked_made calls o at (first_of (held_by_all ts) p) u c q.0),
    all_made calls (last_of o (tree_items u)) (at + length (text_from calls o (tree_items u))) p ts c q.1,
  )

-- ---- texts cut anew

onto_groups : (P : Label → Type 0) (v : Bool) (r s : Option Ranges) (own bs : List ℕ) (t : Tree) (ts : Trees) → OfAllGroups P (more t ts)
    → OfAllGroups P (cond v (more (sep_leaf s bs) ts) (more (sep_leaf r own) (more t ts)))
onto_groups P true r s own bs t ts h = (tt, h.1)
onto_groups P false r s own bs t ts h = (tt, h)

text_onto_groups : (P : Label → Type 0) (r : Option Ranges) (own : List ℕ) (ts : Trees) → OfAllGroups P ts → OfAllGroups P (text_onto r own ts)
text_onto_groups P r [] ts h = h
text_onto_groups P r (b ∷ bs) none h = (tt, tt)
text_onto_groups P r (b ∷ bs) (more t ts) h = onto_groups P (is_text t) r (joined_ranges r (label t).ranges) (b ∷ bs) ((b ∷ bs) ++ (label t).own) t ts h

joined_groups_by : (P : Label → Type 0) (v : Bool) (t : Tree) (ts : Trees) → OfGroups P t → OfAllGroups P ts
    → OfAllGroups P (cond v (text_onto (label t).ranges (label t).own ts) (more t ts))
joined_groups_by P true t ts g h = text_onto_groups P (label t).ranges (label t).own ts h
joined_groups_by P false t ts g h = (g, h)

joined_groups : (P : Label → Type 0) (ts : Trees) → OfAllGroups P ts → OfAllGroups P (joined_texts ts)
joined_groups P none h = tt
joined_groups P (more t ts) h = joined_groups_by P (is_text t) t (joined_texts ts) h.0 (joined_groups P ts h.1)

whole_groups : (P : Label → Type 0) (v : Bool) (r : Option Ranges) (own : List ℕ) (ts : Trees) → OfAllGroups P ts
    → OfAllGroups P (more (cond v (sep_leaf r own) (text_leaf r own)) ts)
whole_groups P true r own ts h = (tt, h)
whole_groups P false r own ts h = (tt, h)

two_groups : (P : Label → Type 0) (v : Bool) (p q r : Option Ranges) (front rest own : List ℕ) (ts : Trees) → OfAllGroups P ts
    → OfAllGroups P (cond v (more (text_leaf p front) (more (sep_leaf q rest) ts)) (more (text_leaf r own) ts))
two_groups P true p q r front rest own ts h = (tt, (tt, h))
two_groups P false p q r front rest own ts h = (tt, h)

parts_groups : (P : Label → Type 0) (r : Option Ranges) (front rest : List ℕ) (ts : Trees) → OfAllGroups P ts → OfAllGroups P (parts_before r front rest ts)
parts_groups P r front [] ts h = (tt, h)
parts_groups P r [] (b ∷ bs) ts h = whole_groups P (is_blank (b ∷ bs)) r (b ∷ bs) ts h
parts_groups P r (c ∷ cs) (b ∷ bs) ts h =
    two_groups P (is_blank (b ∷ bs)) (front_ranges (length (c ∷ cs)) r) (rest_ranges (length (c ∷ cs)) r) r (c ∷ cs) (b ∷ bs) ((c ∷ cs) ++ (b ∷ bs)) ts h

cut_groups_by : (P : Label → Type 0) (v x : Bool) (t : Tree) (ts : Trees) → OfGroups P t → OfAllGroups P ts
    → OfAllGroups P (cond v (text_before x (label t).ranges (label t).own ts) (more t ts))
cut_groups_by P true x t ts g h = parts_groups P (label t).ranges (front_of x (label t).own) (rest_of x (label t).own) ts h
cut_groups_by P false x t ts g h = (g, h)

cut_groups : (P : Label → Type 0) (behind : Bool) (ts : Trees) → OfAllGroups P ts → OfAllGroups P (cut_from behind ts)
cut_groups P behind none h = tt
cut_groups P behind (more t ts) h =
    cut_groups_by P (is_text t) (from_start behind (leads_to_block ts) (label t).own) t (cut_from (behind || is_border t) ts) h.0
    (cut_groups P (behind || is_border t) ts h.1)

as_groups : (P : Label → Type 0) (x : Texts) (ts : Trees) → OfAllGroups P ts → OfAllGroups P (cut_as x ts)
as_groups P Separators ts h = h
as_groups P Page ts h = h
as_groups P Bordered ts h = cut_groups P false (joined_texts ts) (joined_groups P ts h)
as_groups P OwnCharacter ts h = h

by_group : (P : Label → Type 0) (g : Bool) (x : Texts) (l : Label) (ts us : Trees) → (OfAllGroups P ts → OfAllGroups P us) → IfGroup g (P l) (OfAllGroups P ts)
    → IfGroup g (P l) (OfAllGroups P (cond g ts (cut_as x us)))
by_group P true x l ts us f h = h
by_group P false x l ts us f h = as_groups P x us (f h)

mutual
  pub cut_texts_groups : (P : Label → Type 0) (t : Tree) → OfGroups P t → OfGroups P (cut_texts t)
  cut_texts_groups P (tree l ts) h = by_group P (is_group l.kind) (texts_of_kind l.kind) l ts (all_cut_texts ts) (λ q. all_cut_texts_groups P ts q) h

  all_cut_texts_groups : (P : Label → Type 0) (ts : Trees) → OfAllGroups P ts → OfAllGroups P (all_cut_texts ts)
  all_cut_texts_groups P none h = tt
  all_cut_texts_groups P (more t ts) h = (cut_texts_groups P t h.0, all_cut_texts_groups P ts h.1)

-- ---- numbers

-- a group's label is written where it ends in a page
abbrev pub IsNearly : Label → Type 0
IsNearly l = EndsBelow l.ranges → IsGroupLabel l

group_number : (k : Kind) → is_group k ≡ true → is_numbered k ≡ true
group_number kind.Group e = refl
group_number k e = absurd (subst (λ (b : Bool). cond b ⊥ (Unit {0})) e tt)

numbered_by : (g n : Bool) (next : ℕ) (l : Label) (ts us : Trees) → (g ≡ true → n ≡ true) → 0 < next
    → next + (cond n 1 0 + cond g 0 (count_all ts)) ≤ 2 ^ 32
    → (0 < cond n (next + 1) next → cond n (next + 1) next + count_all ts ≤ 2 ^ 32 → OfAllGroups IsAlmost ts → OfAllGroups IsNearly us)
    → IfGroup g (IsAlmost l) (OfAllGroups IsAlmost ts) → IfGroup g (IsNearly (with_id (cond n next 0) l)) (OfAllGroups IsNearly (cond g ts us))
numbered_by true true next l ts us e some few f h = λ end. h next (some, omega (arith, few)) end
numbered_by true false next l ts us e some few f h = absurd (subst (λ (b : Bool). cond b ⊥ (Unit {0})) (e refl) tt)
numbered_by false true next l ts us e some few f h = f (omega arith) (omega (arith, few)) h
numbered_by false false next l ts us e some few f h = f some (omega (arith, few)) h

mutual
  numbers_groups : (next : ℕ) (t : Tree) → 0 < next → next + count t ≤ 2 ^ 32 → OfGroups IsAlmost t → OfGroups IsNearly (with_numbers next t)
  numbers_groups next (tree l ts) some few h =
      numbered_by (is_group l.kind) (is_numbered l.kind) next l ts (all_with_numbers (next_after l.kind next) ts) (group_number l.kind) some few
      (λ s f q. all_numbers_groups (next_after l.kind next) ts s f q) h

  all_numbers_groups : (next : ℕ) (ts : Trees) → 0 < next → next + count_all ts ≤ 2 ^ 32 → OfAllGroups IsAlmost ts
      → OfAllGroups IsNearly (all_with_numbers next ts)
  all_numbers_groups next none some few h = tt
  all_numbers_groups next (more t ts) some few h = (
    numbers_groups next t some (omega (arith, few)) h.0,
    all_numbers_groups (next + count t) ts (omega (arith, some)) (omega (arith, few)) h.1,
  )

-- ---- the nodes that are reached

ends_below : (page : List ℕ) (r : Option Ranges) (source opening closing : List ℕ) → length page < 2 ^ 32 → StandsIn page r source opening closing
    → EndsBelow r
ends_below page None source opening closing room h = h
ends_below page (Some r) source opening closing room h = omega (arith, room, h.within)

group_reached : (g : Bool) (page : List ℕ) (l : Label) (ts : Trees) → is_group l.kind ≡ g → length page < 2 ^ 32
    → IfGroup g (IsNearly l) (OfAllGroups IsNearly ts) → IsSlice page (tree l ts) → AllByRecursion (IsSlice page) (cond g [] (reached_in_all ts))
    → (OfAllGroups IsNearly ts → AllByRecursion (IsSlice page) (reached_in_all ts) → AllByRecursion HasGroupLabel (reached_in_all ts))
    → HasGroupLabel (tree l ts) × AllByRecursion HasGroupLabel (cond g [] (reached_in_all ts))
group_reached true page l ts e room h s i f = (λ y. h (ends_below page l.ranges _ _ _ room s), tt)
group_reached false page l ts e room h s i f = (λ y. absurd (subst (λ (b : Bool). cond b ⊥ (Unit {0})) (sym e ∙ y) tt), f h i)

all_left : (P : Tree → Type 0) (us vs : List Tree) → AllByRecursion P (us ++ vs) → AllByRecursion P us × AllByRecursion P vs
all_left P [] vs h = (tt, h)
all_left P (u ∷ us) vs h = let r = all_left P us vs h.1 in ((h.0, r.0), r.1)

all_both : (P : Tree → Type 0) (us vs : List Tree) → AllByRecursion P us → AllByRecursion P vs → AllByRecursion P (us ++ vs)
all_both P [] vs g h = h
all_both P (u ∷ us) vs g h = (g.0, all_both P us vs g.1 h)

mutual
  groups_reached : (page : List ℕ) (t : Tree) → length page < 2 ^ 32 → OfGroups IsNearly t → AreReachedSlices page t
      → AllByRecursion HasGroupLabel (reached t)
  groups_reached page (tree l ts) room h s =
      group_reached (is_group l.kind) page l ts refl room h s.0 s.1 (λ q r. all_groups_reached page ts room q r)

  all_groups_reached : (page : List ℕ) (ts : Trees) → length page < 2 ^ 32 → OfAllGroups IsNearly ts → AllByRecursion (IsSlice page) (reached_in_all ts)
      → AllByRecursion HasGroupLabel (reached_in_all ts)
  all_groups_reached page none room h s = tt
  all_groups_reached page (more t ts) room h s =
      let r = all_left (IsSlice page) (reached t) (reached_in_all ts) s in
      all_both HasGroupLabel (reached t) (reached_in_all ts) (groups_reached page t room h.0 r.0) (all_groups_reached page ts room h.1 r.1)

-- ---- the annotated tree

pub annotated_almost : (calls : List OuterCall) (t : ItemTree) → ArePageCalls calls → HoldsTexts t
    → OfGroups IsAlmost (placed calls (group_data calls) (tree_items t) (grouped (tree_items t) 0 t))
annotated_almost calls t c h = subst (OfGroups IsAlmost) (walk_all calls (group_data calls) t) (walked_made calls None 0 None t c h)

-- each group of the annotated tree has a label that is written
pub groups_labelled : (calls : List OuterCall) (t : ItemTree) → ArePageCalls calls → HoldsTexts t
    → is_clean (tree_items t) 0 t ≡ true → length (page_of calls (tree_items t)) < 2 ^ 32
    → count (cut_texts (placed calls (group_data calls) (tree_items t) (grouped (tree_items t) 0 t))) < 2 ^ 32
    → AllByRecursion HasGroupLabel (reached (annotated calls (group_data calls) t))
unfolding annotated
groups_labelled calls t c h clean room few =
    let p : Tree = placed calls (group_data calls) (tree_items t) (grouped (tree_items t) 0 t) in
    groups_reached (page_of calls (tree_items t)) (with_numbers 1 (cut_texts p)) room
    (numbers_groups 1 (cut_texts p) (omega arith) (omega (arith, few)) (cut_texts_groups IsAlmost p (annotated_almost calls t c h)))
    (annotated_slices calls (group_data calls) t clean)
