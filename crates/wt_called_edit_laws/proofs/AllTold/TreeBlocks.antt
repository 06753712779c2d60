-- What is found among the nodes over items of a page is found in its tree, outside of groups: each paragraph and heading stands there, and in what is on
-- a line none is.
use Rattle.std.proofs.Common.{◌≡◌, ℕ, suc, ◌+◌, Bool, true, false, Option, None, List, [], ◌∷◌, ◌++◌, length, map, refl, sym, ap, ap₂, ◌∙◌, subst, cond, append_assoc, length-append}
use Rattle.std.specs.Prelude.{◌||◌, if◌then◌else◌}
use Rattle.std.specs.List.{AllByRecursion, flat_map}
use Rattle.std.specs.Str.{IsUtf8}
use Rattle.wt_tree.specs.declared.kind.Kind.{Kind}
use Rattle.wt_tree.specs.declared.kind.Kind.TheVariants as kind
use Rattle.wt_tree.specs.declared.kind.Ranges.{Ranges}
use Rattle.wt_tree.specs.declared.row.Holding.{Holding}
use Rattle.wt_tree.specs.declared.row.Holding.TheVariants.{NoElements, Blocks, Inlines, Entities, Items, Terms, TableParts, TableRows, Cells, InlinesThenLists, InlinesThenBlocks}
use Rattle.wt_tree.specs.declared.row.Placement.{Placement}
use Rattle.wt_tree.specs.declared.row.Placement.TheVariants.{Block, TablePart, TableRow, Cell}
use Rattle.wt_tree.specs.declared.row.Texts.{Texts}
use Rattle.wt_tree.specs.declared.row.Texts.TheVariants.{Separators, Page, Bordered, OwnCharacter}
use Rattle.wt_tree.specs.declared.row.Writing.{Writing}
use Rattle.wt_tree.specs.declared.row.Writing.TheVariants.{AsText, AsVoid, RoundCharacter, RoundChildren, AsSection, Unwritten}
use Rattle.wt_tree.specs.Kinds.{shape, writing, is_leaf, texts_of_kind, is_anywhere, admits, may_hold}
use Rattle.wt_tree.specs.Leaves.{text_leaf, sep_leaf}
use Rattle.wt_tree.specs.Tiling.{is_group}
use Rattle.wt_tree.specs.Tree.{Label, Tree, Trees, none, more, label, trees}
use Rattle.wt_recut.specs.Recut.{is_blank, is_text, is_border, leads_to_block, front_ranges, rest_ranges, joined_ranges, text_onto, joined_texts, from_start, front_of, rest_of, parts_before, text_before, cut_from}
use Rattle.wt_span.specs.Items.{Item}
use Rattle.wt_span.specs.Origins.{OuterCall, Expanded}
use Rattle.wt_span.specs.Runs.{runs}
use Rattle.wt_span.proofs.RunLaws.{runs_joined}
use Rattle.wt_inline.specs.ItemTree.{ItemTree, inner, ItemTrees, nothing, further, tree_items, held_by_all, forest}
use Rattle.wt_checks.specs.Kept.{children}
use Rattle.wt_checks.specs.PutBack.{is_frame}
use Rattle.wt_expand.specs.PageCalls.{expanded_page}
use Rattle.wt_expand.specs.Work.{Pages}
use Rattle.wt_commands.specs.Answers.{refusal_of_page}
use Rattle.wt_page.specs.Body.{meaning}
use Rattle.wt_annotated.specs.Annotated.{unplaced, all_unplaced, placed, annotated}
use Rattle.wt_annotated.specs.CutTexts.{cut_as, cut_texts, all_cut_texts}
use Rattle.wt_annotated.specs.GroupData.{group_data}
use Rattle.wt_annotated.specs.Grouped.{Grouped, grouped}
use Rattle.wt_annotated.specs.Labels.{label_at}
use Rattle.wt_annotated.specs.Numbering.{next_after, count, with_numbers, all_with_numbers}
use Rattle.wt_annotated.specs.Seams.{last_of, first_of, text_from}
use Rattle.wt_annotated.specs.Walked.{clean_at, Near, near_tied, near_group, near_run, near_runs, walked, near}
use Rattle.wt_annotated.specs.WithoutCalls.{inside_by}
use Rattle.wt_annotated.proofs.CutNumbered.{cut_numbered}
use Rattle.wt_annotated.proofs.CutPlaced.{placed_bare}
use Rattle.wt_annotated.proofs.Seams.{last_append, first_append, text_append_from}
use Rattle.wt_annotated.proofs.Walks.{walk_all}
use Rattle.wt_schema.specs.Written.{is_childless}
use Rattle.wt_schema.proofs.Rows.{is_somewhere, held}
use Rattle.wt_page_round_trip.proofs.ExpandedItems.{expanded_items}
use Rattle.wt_page_round_trip.proofs.OfPage.{ArePageItems}
use Rattle.wt_page_round_trip.proofs.PageShown.{page_shown}
use Rattle.wt_page_round_trip.proofs.Shown.{none_group}
use Rattle.wt_page_round_trip.proofs.ShownNodes.{NodeIsShown, IsOrdered, IsShownIn, AreShownIn}
use Rattle.wt_text_edit_laws.specs.ParagraphBetween.{blocks_in, body_with}
use Rattle.wt_text_edit_laws.proofs.Paragraphs.Standing.{parts_in, body_is}
use Rattle.wt_called_edit_laws.specs.Groups.{called_tree}
use Rattle.wt_called_edit_laws.specs.RowBlocks.{node_between}
use Rattle.wt_called_edit_laws.proofs.AllTold.Found.{size, size_both, Housing, a_block, a_shell, another, housing_of, ByHousing, FoundIn, FoundAll}
use Rattle.wt_called_edit_laws.proofs.AllTold.EachBlocks.{OfHousing, EachBlock, EachBlockIn, unless_group}

-- ---- what may be in which

-- no block, no table and no part of one
abbrev is_inert : Holding → Bool
is_inert NoElements = true
is_inert Blocks = false
is_inert Inlines = true
is_inert Entities = true
is_inert Items = true
is_inert Terms = true
is_inert TableParts = false
is_inert TableRows = false
is_inert Cells = false
is_inert InlinesThenLists = true
is_inert InlinesThenBlocks = false

abbrev is_home : Placement → Bool
is_home Block = true
is_home TablePart = true
is_home TableRow = true
is_home Cell = true
is_home c = false

none_admitted : (h : Holding) (c : Placement) → is_inert h ≡ true → is_home c ≡ true → (is_anywhere c || admits h c) ≡ false
none_admitted Blocks c e f = absurd (cc)
none_admitted TableParts c e f = absurd (cc)
none_admitted TableRows c e f = absurd (cc)
none_admitted Cells c e f = absurd (cc)
none_admitted InlinesThenBlocks c e f = absurd (cc)
none_admitted h Block e f = refl
none_admitted h TablePart e f = refl
none_admitted h TableRow e f = refl
none_admitted h Cell e f = refl
none_admitted h c e f = absurd (cc)

-- what is no such node
abbrev is_another : Housing → Bool
is_another a_block = false
is_another a_shell = false
is_another another = true

home_of : (k : Kind) → is_another (housing_of k) ≡ false → is_home (shape k).class ≡ true
home_of kind.Para e = refl
home_of (kind.Heading n) e = refl
home_of kind.Table e = refl
home_of kind.Tbody e = refl
home_of kind.Tr e = refl
home_of kind.Caption e = refl
home_of kind.Td e = refl
home_of kind.Th e = refl
home_of k e = absurd (cc)

true_or : (v : Bool) → (v ≡ false → ⊥) → v ≡ true
true_or true h = refl
true_or false h = absurd (h refl)

another_is : (v : Housing) → is_another v ≡ true → v ≡ another
another_is a_block e = absurd (cc)
another_is a_shell e = absurd (cc)
another_is another e = refl

held_another : (q k : Kind) → is_inert (shape q).holding ≡ true → may_hold q k ≡ true → housing_of k ≡ another
held_another q k i m =
    another_is (housing_of k) (true_or (is_another (housing_of k)) (λ e.
    let nay : false ≡ true = sym (none_admitted (shape q).holding (shape k).class i (home_of k e)) ∙ m in absurd (cc)))

-- neither the body nor a section is in another node
element_kind : (k : Kind) → is_somewhere (shape k).class ≡ true → is_frame k ≡ false
element_kind kind.Body e = absurd (cc)
element_kind (kind.Section n) e = absurd (cc)
element_kind k e = refl

inert_kind : (k : Kind) → is_frame k ≡ false → housing_of k ≡ another → is_inert (shape k).holding ≡ true
inert_kind kind.Body f e = absurd (cc)
inert_kind (kind.Section n) f e = absurd (cc)
inert_kind kind.Para f e = absurd (cc)
inert_kind (kind.Heading n) f e = absurd (cc)
inert_kind kind.Table f e = absurd (cc)
inert_kind kind.Tbody f e = absurd (cc)
inert_kind kind.Tr f e = absurd (cc)
inert_kind kind.Caption f e = absurd (cc)
inert_kind kind.Td f e = absurd (cc)
inert_kind kind.Th f e = absurd (cc)
inert_kind k f e = refl

block_inert : (k : Kind) → housing_of k ≡ a_block → is_inert (shape k).holding ≡ true
block_inert kind.Para e = refl
block_inert (kind.Heading n) e = refl
block_inert k e = absurd (cc)

text_another : (k : Kind) → writing k ≡ AsText → (housing_of k ≡ another) × (is_frame k ≡ false)
text_another kind.Text e = (refl, refl)
text_another kind.Sep e = (refl, refl)
text_another k e = absurd (cc)

-- ---- a node that is shown in another

record IsHeld (q k : Kind) : Type 0 where
  no_frame : is_frame k ≡ false
  other : is_inert (shape q).holding ≡ true → housing_of k ≡ another

node_held : (w : Writing) (j : ℕ) (q : Kind) (l : Label) (childless : Bool) (inside : Type 0) → writing l.kind ≡ w → NodeIsShown w j q l childless inside → IsHeld q l.kind
node_held AsText j q l childless inside e h = let t = text_another l.kind e in record { no_frame = t.1; other = λ i. t.0 }
node_held AsVoid j q l childless inside e h =
    record { no_frame = element_kind l.kind (held q l.kind h.1 h.2.element); other = λ i. held_another q l.kind i h.1 }
node_held RoundCharacter j q l childless inside e h =
    record { no_frame = element_kind l.kind (held q l.kind h.1 h.2.element); other = λ i. held_another q l.kind i h.1 }
node_held RoundChildren j q l childless inside e h =
    record { no_frame = element_kind l.kind (held q l.kind h.1 h.2.element); other = λ i. held_another q l.kind i h.1 }
node_held (AsSection n) j q l childless inside e h = absurd h
node_held Unwritten j q l childless inside e h = record { no_frame = ap is_frame h.0; other = λ i. ap housing_of h.0 }

none_shown : (j : ℕ) (p : Kind) (ts : Trees) → is_childless ts ≡ true → AreShownIn j p ts
none_shown j p none e = tt
none_shown j p (more t ts) e = absurd (cc)

shown_inside : (w : Writing) (i : ℕ) (q : Kind) (l : Label) (j : ℕ) (p : Kind) (ts : Trees) (A : Type 0) → NodeIsShown w i q l (is_childless ts) (A × AreShownIn j p ts)
    → AreShownIn j p ts
shown_inside AsText i q l j p ts A h = none_shown j p ts h.1
shown_inside AsVoid i q l j p ts A h = h.4.1
shown_inside RoundCharacter i q l j p ts A h = h.4.1
shown_inside RoundChildren i q l j p ts A h = h.4.1
shown_inside (AsSection n) i q l j p ts A h = absurd h
shown_inside Unwritten i q l j p ts A h = none_shown j p ts h.1

-- ---- texts cut anew

either : (Q : Tree → Type 0) (v : Bool) (us vs : Trees) → EachBlockIn Q us → EachBlockIn Q vs → EachBlockIn Q (cond v us vs)
either Q true us vs h k = h
either Q false us vs h k = k

leaf_each : (Q : Tree → Type 0) (v : Bool) (r : Option Ranges) (bs : List ℕ) → EachBlock Q (if v then sep_leaf r bs else text_leaf r bs)
leaf_each Q true r bs = (λ e. refl, tt)
leaf_each Q false r bs = (λ e. refl, tt)

onto_each : (Q : Tree → Type 0) (r : Option Ranges) (own : List ℕ) (ts : Trees) → EachBlockIn Q ts → EachBlockIn Q (text_onto r own ts)
onto_each Q r [] ts h = h
onto_each Q r (b ∷ bs) none h = (leaf_each Q true r (b ∷ bs), tt)
onto_each Q r (b ∷ bs) (more t ts) h =
    either Q (is_text t) (more (sep_leaf (joined_ranges r (label t).ranges) ((b ∷ bs) ++ (label t).own)) ts) (more (sep_leaf r (b ∷ bs)) (more t ts))
    (leaf_each Q true (joined_ranges r (label t).ranges) ((b ∷ bs) ++ (label t).own), h.1) (leaf_each Q true r (b ∷ bs), h)

joined_each : (Q : Tree → Type 0) (ts : Trees) → EachBlockIn Q ts → EachBlockIn Q (joined_texts ts)
joined_each Q none h = tt
joined_each Q (more t ts) h =
    let us : Trees = joined_texts ts in
    let k : EachBlockIn Q us = joined_each Q ts h.1 in
    either Q (is_text t) (text_onto (label t).ranges (label t).own us) (more t us) (onto_each Q (label t).ranges (label t).own us k) (h.0, k)

parts_each : (Q : Tree → Type 0) (r : Option Ranges) (front rest : List ℕ) (ts : Trees) → EachBlockIn Q ts → EachBlockIn Q (parts_before r front rest ts)
parts_each Q r front [] ts h = (leaf_each Q false r front, h)
parts_each Q r [] (b ∷ bs) ts h = (leaf_each Q (is_blank (b ∷ bs)) r (b ∷ bs), h)
parts_each Q r (c ∷ cs) (b ∷ bs) ts h =
    either Q (is_blank (b ∷ bs))
    (more (text_leaf (front_ranges (length (c ∷ cs)) r) (c ∷ cs)) (more (sep_leaf (rest_ranges (length (c ∷ cs)) r) (b ∷ bs)) ts))
    (more (text_leaf r ((c ∷ cs) ++ (b ∷ bs))) ts)
    (leaf_each Q false (front_ranges (length (c ∷ cs)) r) (c ∷ cs), (leaf_each Q true (rest_ranges (length (c ∷ cs)) r) (b ∷ bs), h))
    (leaf_each Q false r ((c ∷ cs) ++ (b ∷ bs)), h)

cut_each : (Q : Tree → Type 0) (behind : Bool) (ts : Trees) → EachBlockIn Q ts → EachBlockIn Q (cut_from behind ts)
cut_each Q behind none h = tt
cut_each Q behind (more t ts) h =
    let us : Trees = cut_from (behind || is_border t) ts in
    let k : EachBlockIn Q us = cut_each Q (behind || is_border t) ts h.1 in
    let all : Bool = from_start behind (leads_to_block ts) (label t).own in
    either Q (is_text t) (text_before all (label t).ranges (label t).own us) (more t us)
    (parts_each Q (label t).ranges (front_of all (label t).own) (rest_of all (label t).own) us k) (h.0, k)

as_each : (Q : Tree → Type 0) (x : Texts) (us : Trees) → EachBlockIn Q us → EachBlockIn Q (cut_as x us)
as_each Q Separators us h = h
as_each Q Page us h = h
as_each Q Bordered us h = cut_each Q false (joined_texts us) (joined_each Q us h)
as_each Q OwnCharacter us h = h

none_cut : (x : Texts) → cut_as x none ≡ none
none_cut Separators = refl
none_cut Page = refl
none_cut Bordered = refl
none_cut OwnCharacter = refl

-- ---- nodes with numbers, and their texts cut

abbrev finished : ℕ → Tree → Tree
finished n t = cut_texts (with_numbers n t)

abbrev pub all_finished : ℕ → Trees → Trees
all_finished n ts = all_cut_texts (all_with_numbers n ts)

-- what is in a node of this kind then, of these nodes
abbrev inner_finished : Kind → ℕ → Trees → Trees
inner_finished k n us =
    let vs = cond (is_group k) us (all_with_numbers (next_after k n) us) in
    cond (is_group k) vs (cut_as (texts_of_kind k) (all_cut_texts vs))

no_group_inside : (v : Bool) (k : Kind) (n : ℕ) (us : Trees) → v ≡ false
    → cond v (cond v us (all_with_numbers (next_after k n) us)) (cut_as (texts_of_kind k) (all_cut_texts (cond v us (all_with_numbers (next_after k n) us))))
    ≡ cut_as (texts_of_kind k) (all_finished (next_after k n) us)
no_group_inside true k n us e = absurd (cc)
no_group_inside false k n us e = refl

leaf_inside : (v : Bool) (k : Kind) (n : ℕ) (ts : Trees) → v ≡ true → cut_as (texts_of_kind k) (all_finished (next_after k n) (inside_by v ts)) ≡ none
leaf_inside true k n ts e = none_cut (texts_of_kind k)
leaf_inside false k n ts e = absurd (cc)

by_leaf : (Q : Tree → Type 0) (v : Bool) (n : ℕ) (ts : Trees) → (v ≡ false → EachBlockIn Q (all_finished n ts)) → EachBlockIn Q (all_finished n (inside_by v ts))
by_leaf Q true n ts f = tt
by_leaf Q false n ts f = f refl

not_leaf_shown : (v : Bool) (j : ℕ) (p : Kind) (ts : Trees) → v ≡ false → AreShownIn j p (inside_by v ts) → AreShownIn j p ts
not_leaf_shown true j p ts e h = absurd (cc)
not_leaf_shown false j p ts e h = h

-- of what a node of this kind holds
record IsStood (Q : Tree → Type 0) (k : Kind) (n : ℕ) (ts : Trees) : Type 0 where
  no_group : is_group k ≡ false
  each : is_leaf k ≡ false → EachBlockIn Q (all_finished (next_after k n) ts)

stood_inside : (Q : Tree → Type 0) (k : Kind) (n : ℕ) (ts : Trees) → IsStood Q k n ts → EachBlockIn Q (inner_finished k n (inside_by (is_leaf k) ts))
stood_inside Q k n ts s =
    let us : Trees = inside_by (is_leaf k) ts in
    subst (EachBlockIn Q) (sym (no_group_inside (is_group k) k n us s.no_group))
    (as_each Q (texts_of_kind k) (all_finished (next_after k n) us) (by_leaf Q (is_leaf k) (next_after k n) ts s.each))

stood_leaf : (k : Kind) (n : ℕ) (ts : Trees) → is_group k ≡ false → is_leaf k ≡ true → inner_finished k n (inside_by (is_leaf k) ts) ≡ none
stood_leaf k n ts g e = no_group_inside (is_group k) k n (inside_by (is_leaf k) ts) g ∙ leaf_inside (is_leaf k) k n ts e

other_of : (v : Housing) (own all neither : Type 0) → v ≡ another → neither → OfHousing v own all neither
other_of a_block own all neither e h = absurd (cc)
other_of a_shell own all neither e h = absurd (cc)
other_of another own all neither e h = h

-- ---- children of a node, alone and in groups

-- this holds of each child that is alone, whatever its number is
abbrev IsEach : (Tree → Type 0) → Near → Type 0
IsEach Q c = c.clean ≡ true → (n : ℕ) → EachBlock Q (finished n c.whole)

alone_each : (Q : Tree → Type 0) (calls : List OuterCall) (n : ℕ) (c : Near) (v : Bool) → c.clean ≡ v → IsEach Q c
    → EachBlock Q (finished n (cond v c.whole (near_group calls (group_data calls) (c ∷ []))))
alone_each Q calls n c true e h = h e n
alone_each Q calls n c false e h = tt

run_each : (Q : Tree → Type 0) (calls : List OuterCall) (n : ℕ) (rs : List (List Near)) → AllByRecursion (IsEach Q) (flat_map (λ (r : List Near). r) rs)
    → EachBlockIn Q (all_finished n (trees (map (near_run calls (group_data calls)) rs)))
run_each Q calls n [] h = tt
run_each Q calls n ([] ∷ rs) h = (tt, run_each Q calls (n + count (near_run calls (group_data calls) [])) rs h)
run_each Q calls n ((c ∷ []) ∷ rs) h =
    (alone_each Q calls n c c.clean refl h.0, run_each Q calls (n + count (near_run calls (group_data calls) (c ∷ []))) rs h.1)
run_each Q calls n ((c ∷ d ∷ ds) ∷ rs) h =
    (tt, run_each Q calls (n + count (near_run calls (group_data calls) (c ∷ d ∷ ds))) rs (later ds h.1.1))
  where
    later : (es : List Near) → AllByRecursion (IsEach Q) (es ++ flat_map (λ (r : List Near). r) rs) → AllByRecursion (IsEach Q) (flat_map (λ (r : List Near). r) rs)
    later [] g = g
    later (e ∷ es) g = later es g.1

runs_each : (Q : Tree → Type 0) (calls : List OuterCall) (n : ℕ) (cs : List Near) → AllByRecursion (IsEach Q) cs
    → EachBlockIn Q (all_finished n (trees (near_runs calls (group_data calls) cs)))
runs_each Q calls n cs h =
    run_each Q calls n (runs near_tied cs) (subst (λ (ds : List Near). AllByRecursion (IsEach Q) ds) (sym (runs_joined near_tied cs)) h)

abbrev inside_walked : List OuterCall → Option ℕ → ℕ → Option ℕ → List Item → ItemTrees → List Item → Trees
inside_walked calls o at p q ts c =
    trees (near_runs calls (group_data calls) (near calls (group_data calls) (last_of o q) (at + length (text_from calls o q)) (first_of c p) ts))

-- ---- in such a node no block stands

mutual
  unfolding label_at

  none_stands : (calls : List OuterCall) (i : ℕ) (q : Kind) (o : Option ℕ) (at : ℕ) (p : Option ℕ) (n : ℕ) (t : ItemTree) → is_inert (shape q).holding ≡ true
      → IsShownIn i q (unplaced t) → EachBlock (λ (u : Tree). ⊥) (finished n (walked calls (group_data calls) o at p t))
  none_stands calls i q o at p n (inner h op ts cl) inert s =
      let k : Kind = h.kind in
      let us : Trees = inside_by (is_leaf k) (all_unplaced ts) in
      let l : Label = label (unplaced (inner h op ts cl)) in
      let is : IsHeld q k = node_held (writing k) i q l (is_childless us) (IsOrdered (texts_of_kind k) us × AreShownIn (suc i) k us) refl s in
      let other : housing_of k ≡ another = is.other inert in
      let group : is_group k ≡ false = none_group i q l us s in
      let inside : AreShownIn (suc i) k us = shown_inside (writing k) i q l (suc i) k us (IsOrdered (texts_of_kind k) us) s in
      let held_ts : Trees = inside_walked calls o at p op ts cl in
      let each : IsStood (λ (u : Tree). ⊥) k n held_ts = record {
        no_group = group;
        each = λ e. runs_each (λ (u : Tree). ⊥) calls (next_after k n) (near calls (group_data calls) (last_of o op) (at + length (text_from calls o op)) (first_of cl p) ts)
            (none_stand calls (suc i) k (last_of o op) (at + length (text_from calls o op)) (first_of cl p) ts (inert_kind k is.no_frame other)
            (not_leaf_shown (is_leaf k) (suc i) k (all_unplaced ts) e inside));
      } in
      let own : Trees = inner_finished k n (inside_by (is_leaf k) held_ts) in
      unless_group (is_group k) ((is_leaf k ≡ true → own ≡ none)
      × OfHousing (housing_of k) (⊥ × EachBlockIn (λ (u : Tree). ⊥) own) (EachBlockIn (λ (u : Tree). ⊥) own) (EachBlockIn (λ (u : Tree). ⊥) own)) (λ g. (
        λ e. stood_leaf k n held_ts group e,
        other_of (housing_of k) (⊥ × EachBlockIn (λ (u : Tree). ⊥) own) (EachBlockIn (λ (u : Tree). ⊥) own) (EachBlockIn (λ (u : Tree). ⊥) own) other
            (stood_inside (λ (u : Tree). ⊥) k n held_ts each),
      ))

  none_stand : (calls : List OuterCall) (i : ℕ) (q : Kind) (o : Option ℕ) (at : ℕ) (p : Option ℕ) (ts : ItemTrees) → is_inert (shape q).holding ≡ true
      → AreShownIn i q (all_unplaced ts) → AllByRecursion (IsEach (λ (u : Tree). ⊥)) (near calls (group_data calls) o at p ts)
  none_stand calls i q o at p nothing inert s = tt
  none_stand calls i q o at p (further t ts) inert s = (
    λ e n. none_stands calls i q o at (first_of (held_by_all ts) p) n t inert s.0,
    none_stand calls i q (last_of o (tree_items t)) (at + length (text_from calls o (tree_items t))) p ts inert s.1,
  )

-- ---- where a node is among the items of all

record IsHere (calls : List OuterCall) (all before own behind : List Item) (o : Option ℕ) (at : ℕ) (p : Option ℕ) : Type 0 where
  whole : all ≡ before ++ (own ++ behind)
  call_before : o ≡ last_of None before
  byte : at ≡ length (text_from calls None before)
  call_behind : p ≡ first_of behind None

byte_more : (calls : List OuterCall) (o : Option ℕ) (at : ℕ) (before xs : List Item) → o ≡ last_of None before → at ≡ length (text_from calls None before)
    → at + length (text_from calls o xs) ≡ length (text_from calls None (before ++ xs))
byte_more calls o at before xs e f =
    ap₂ (λ (n : ℕ) (j : Option ℕ). n + length (text_from calls j xs)) f e
    ∙ sym (length-append (text_from calls None before) (text_from calls (last_of None before) xs))
    ∙ sym (ap length (text_append_from calls None before xs))

call_more : (o : Option ℕ) (before xs : List Item) → o ≡ last_of None before → last_of o xs ≡ last_of None (before ++ xs)
call_more o before xs e = ap (λ (j : Option ℕ). last_of j xs) e ∙ sym (last_append None before xs)

inside_here : (calls : List OuterCall) (all before op held cl behind : List Item) (o : Option ℕ) (at : ℕ) (p : Option ℕ)
    → IsHere calls all before (op ++ (held ++ cl)) behind o at p
    → IsHere calls all (before ++ op) held (cl ++ behind) (last_of o op) (at + length (text_from calls o op)) (first_of cl p)
inside_here calls all before op held cl behind o at p h = record {
  whole = h.whole ∙ ap (λ (xs : List Item). before ++ xs) (append_assoc op (held ++ cl) behind ∙ ap (λ (xs : List Item). op ++ xs) (append_assoc held cl behind))
      ∙ sym (append_assoc before op (held ++ (cl ++ behind)));
  call_before = call_more o before op h.call_before;
  byte = byte_more calls o at before op h.call_before h.byte;
  call_behind = ap (first_of cl) h.call_behind ∙ sym (first_append cl behind None);
}

first_here : (calls : List OuterCall) (all before own held behind : List Item) (o : Option ℕ) (at : ℕ) (p : Option ℕ)
    → IsHere calls all before (own ++ held) behind o at p → IsHere calls all before own (held ++ behind) o at (first_of held p)
first_here calls all before own held behind o at p h = record {
  whole = h.whole ∙ ap (λ (xs : List Item). before ++ xs) (append_assoc own held behind);
  call_before = h.call_before;
  byte = h.byte;
  call_behind = ap (first_of held) h.call_behind ∙ sym (first_append held behind None);
}

next_here : (calls : List OuterCall) (all before own held behind : List Item) (o : Option ℕ) (at : ℕ) (p : Option ℕ)
    → IsHere calls all before (own ++ held) behind o at p
    → IsHere calls all (before ++ own) held behind (last_of o own) (at + length (text_from calls o own)) p
next_here calls all before own held behind o at p h = record {
  whole = h.whole ∙ ap (λ (xs : List Item). before ++ xs) (append_assoc own held behind) ∙ sym (append_assoc before own (held ++ behind));
  call_before = call_more o before own h.call_before;
  byte = byte_more calls o at before own h.call_before h.byte;
  call_behind = h.call_behind;
}

-- this holds of a block that stands, if that holds of it
abbrev Stood : List OuterCall → List Item → (ℕ → ItemTree → Type 0) → (Tree → Type 0) → Type 0
Stood calls all P Q =
    (n : ℕ) (before : List Item) (u : ItemTree) (behind : List Item) → all ≡ before ++ (tree_items u ++ behind)
    → clean_at (last_of None before) (first_of behind None) u ≡ true → P (size before) u → Q (node_between calls n before u behind)

stood_here : (P : ℕ → ItemTree → Type 0) (Q : Tree → Type 0) (calls : List OuterCall) (all : List Item) → Stood calls all P Q → (n : ℕ) (before behind : List Item)
    (o : Option ℕ) (at : ℕ) (p : Option ℕ) (t : ItemTree) → IsHere calls all before (tree_items t) behind o at p → clean_at o p t ≡ true → P (size before) t
    → Q (finished n (walked calls (group_data calls) o at p t))
stood_here P Q calls all f n before behind o at p t h e g =
    let clean : clean_at (last_of None before) (first_of behind None) t ≡ true =
    sym (ap₂ (λ (i j : Option ℕ). clean_at i j t) h.call_before h.call_behind) ∙ e in
    let same : walked calls (group_data calls) o at p t
    ≡ walked calls (group_data calls) (last_of None before) (length (text_from calls None before)) (first_of behind None) t =
    ap₂ (λ (i j : Option ℕ). walked calls (group_data calls) i at j t) h.call_before h.call_behind
    ∙ ap (λ (m : ℕ). walked calls (group_data calls) (last_of None before) m (first_of behind None) t) h.byte in
    subst (λ (u : Tree). Q (finished n u)) (sym same) (f n before t behind h.whole clean g)

-- ---- each block stands

by_kind : (P : ℕ → ItemTree → Type 0) (Q : Tree → Type 0) (i : ℕ) (k : Kind) (n : ℕ) (own : Type 0) (inside : Type 0) (t : Tree) (held_ts : Trees) (shown : Trees)
    → is_frame k ≡ false → is_group k ≡ false → (own → Q t) → AreShownIn i k (inside_by (is_leaf k) shown)
    → (is_inert (shape k).holding ≡ true → AreShownIn i k shown → EachBlockIn (λ (u : Tree). ⊥) (all_finished (next_after k n) held_ts))
    → (inside → AreShownIn i k shown → EachBlockIn Q (all_finished (next_after k n) held_ts))
    → (v : Housing) → housing_of k ≡ v → ByHousing v own inside
    → OfHousing v (Q t × EachBlockIn (λ (u : Tree). ⊥) (inner_finished k n (inside_by (is_leaf k) held_ts))) (EachBlockIn Q (inner_finished k n (inside_by (is_leaf k) held_ts)))
    (EachBlockIn (λ (u : Tree). ⊥) (inner_finished k n (inside_by (is_leaf k) held_ts)))
by_kind P Q i k n own inside t held_ts shown frame group mine s bare go a_block e g = (
  mine g,
  stood_inside (λ (u : Tree). ⊥) k n held_ts (record {
    no_group = group;
    each = λ z. bare (block_inert k e) (not_leaf_shown (is_leaf k) i k shown z s);
  }),
)
by_kind P Q i k n own inside t held_ts shown frame group mine s bare go a_shell e g =
    stood_inside Q k n held_ts (record {
      no_group = group;
      each = λ z. go g (not_leaf_shown (is_leaf k) i k shown z s);
    })
by_kind P Q i k n own inside t held_ts shown frame group mine s bare go another e g =
    stood_inside (λ (u : Tree). ⊥) k n held_ts (record {
      no_group = group;
      each = λ z. bare (inert_kind k frame e) (not_leaf_shown (is_leaf k) i k shown z s);
    })

mutual
  unfolding label_at

  found_stands : (P : ℕ → ItemTree → Type 0) (Q : Tree → Type 0) (calls : List OuterCall) (all : List Item) → Stood calls all P Q → (i : ℕ) (q : Kind) (n : ℕ)
      (before behind : List Item) (o : Option ℕ) (at : ℕ) (p : Option ℕ) (t : ItemTree) → FoundIn P (size before) t → IsShownIn i q (unplaced t)
      → IsHere calls all before (tree_items t) behind o at p → clean_at o p t ≡ true → EachBlock Q (finished n (walked calls (group_data calls) o at p t))
  found_stands P Q calls all f i q n before behind o at p (inner h op ts cl) g s here clean =
      let k : Kind = h.kind in
      let us : Trees = inside_by (is_leaf k) (all_unplaced ts) in
      let l : Label = label (unplaced (inner h op ts cl)) in
      let is : IsHeld q k = node_held (writing k) i q l (is_childless us) (IsOrdered (texts_of_kind k) us × AreShownIn (suc i) k us) refl s in
      let group : is_group k ≡ false = none_group i q l us s in
      let inside : AreShownIn (suc i) k us = shown_inside (writing k) i q l (suc i) k us (IsOrdered (texts_of_kind k) us) s in
      let x : Option ℕ = last_of o op in
      let from : ℕ = at + length (text_from calls o op) in
      let y : Option ℕ = first_of cl p in
      let cs : List Near = near calls (group_data calls) x from y ts in
      let held_ts : Trees = inside_walked calls o at p op ts cl in
      let own : Trees = inner_finished k n (inside_by (is_leaf k) held_ts) in
      let node : Tree = finished n (walked calls (group_data calls) o at p (inner h op ts cl)) in
      let within : IsHere calls all (before ++ op) (held_by_all ts) (cl ++ behind) x from y = inside_here calls all before op (held_by_all ts) cl behind o at p here in
      unless_group (is_group k) ((is_leaf k ≡ true → own ≡ none)
      × OfHousing (housing_of k) (Q node × EachBlockIn (λ (u : Tree). ⊥) own) (EachBlockIn Q own) (EachBlockIn (λ (u : Tree). ⊥) own)) (λ z. (
        λ e. stood_leaf k n held_ts group e,
        by_kind P Q (suc i) k n (P (size before) (inner h op ts cl)) ((to : ℕ) × FoundAll P (size before + size op) ts to) node held_ts (all_unplaced ts) is.no_frame group
            (stood_here P Q calls all f n before behind o at p (inner h op ts cl) here clean) inside
            (λ inert shown. runs_each (λ (u : Tree). ⊥) calls (next_after k n) cs (none_stand calls (suc i) k x from y ts inert shown))
            (λ found shown. runs_each Q calls (next_after k n) cs
            (found_stand P Q calls all f (suc i) k (before ++ op) (cl ++ behind) x from y ts found.0
            (subst (λ (m : ℕ). FoundAll P m ts found.0) (sym (size_both before op)) found.1) shown within)) (housing_of k) refl g,
      ))

  found_stand : (P : ℕ → ItemTree → Type 0) (Q : Tree → Type 0) (calls : List OuterCall) (all : List Item) → Stood calls all P Q → (i : ℕ) (q : Kind)
      (before behind : List Item) (o : Option ℕ) (at : ℕ) (p : Option ℕ) (ts : ItemTrees) (to : ℕ) → FoundAll P (size before) ts to → AreShownIn i q (all_unplaced ts)
      → IsHere calls all before (held_by_all ts) behind o at p → AllByRecursion (IsEach Q) (near calls (group_data calls) o at p ts)
  found_stand P Q calls all f i q before behind o at p nothing to g s here = tt
  found_stand P Q calls all f i q before behind o at p (further t ts) to g s here =
      let own : List Item = tree_items t in
      let held : List Item = held_by_all ts in (
        λ e n. found_stands P Q calls all f i q n before (held ++ behind) o at (first_of held p) t g.0 s.0 (first_here calls all before own held behind o at p here) e,
        found_stand P Q calls all f i q (before ++ own) behind (last_of o own) (at + length (text_from calls o own)) p ts to
            (subst (λ (m : ℕ). FoundAll P m ts to) (sym (size_both before own)) g.1) s.1 (next_here calls all before own held behind o at p here),
      )

-- ---- the page's tree

page_meaning : (xs : List Item) → meaning xs ≡ body_with (blocks_in xs)
page_meaning xs = body_is xs (parts_in xs) refl

pub page_walked : (calls : List OuterCall) (ts : List ItemTree)
    → children (annotated calls (group_data calls) (body_with ts))
    ≡ all_finished 1 (trees (near_runs calls (group_data calls) (near calls (group_data calls) None 0 None (forest ts))))
unfolding annotated
page_walked calls ts =
    let t : ItemTree = body_with ts in
    let g : Grouped = grouped (tree_items t) 0 t in
    sym (ap children (ap (λ (u : Tree). cut_texts (with_numbers 1 u)) (walk_all calls (group_data calls) t)
    ∙ cut_numbered 1 (placed calls (group_data calls) (tree_items t) g) (placed_bare calls (group_data calls) (tree_items t) g)))

pub page_blocks : (pages : Pages) (page : List ℕ)
    → children (called_tree pages page)
    ≡ all_finished 1 (trees (near_runs (expanded_page pages page).outer (group_data (expanded_page pages page).outer)
    (near (expanded_page pages page).outer (group_data (expanded_page pages page).outer) None 0 None (forest (blocks_in (expanded_page pages page).items)))))
page_blocks pages page =
    let e : Expanded = expanded_page pages page in
    ap (λ (m : ItemTree). children (annotated e.outer (group_data e.outer) m)) (page_meaning e.items) ∙ page_walked e.outer (blocks_in e.items)

items_here : (xs : List Item) → tree_items (meaning xs) ≡ [] ++ (held_by_all (forest (blocks_in xs)) ++ [])
items_here xs = ap tree_items (page_meaning xs)

pub blocks_stand : (P : ℕ → ItemTree → Type 0) (Q : Tree → Type 0) (pages : Pages) (page : List ℕ) (to : ℕ) → IsUtf8 page → refusal_of_page pages page ≡ None
    → Stood (expanded_page pages page).outer (tree_items (meaning (expanded_page pages page).items)) P Q
    → FoundAll P 0 (forest (blocks_in (expanded_page pages page).items)) to → EachBlockIn Q (children (called_tree pages page))
blocks_stand P Q pages page to u r f g =
    let e : Expanded = expanded_page pages page in
    let sound : ArePageItems e.items = expanded_items pages page u r in
    let all : List Item = tree_items (meaning e.items) in
    let ts : ItemTrees = forest (blocks_in e.items) in
    subst (EachBlockIn Q) (sym (page_blocks pages page))
    (runs_each Q e.outer 1 (near e.outer (group_data e.outer) None 0 None ts)
    (found_stand P Q e.outer all f 9 kind.Body [] [] None 0 None ts to g (page_shown e.items sound).0
    (record { whole = items_here e.items; call_before = refl; byte = refl; call_behind = refl })))
