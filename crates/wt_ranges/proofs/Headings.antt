-- A body has no more headings than numbers.
use Rattle.std.proofs.Common.{◌≡◌, ℕ, ◌+◌, ◌^◌, ◌<◌, ◌≤◌, Bool, true, false, List, refl, ap, ◌∙◌, subst, arith}
use Rattle.std.specs.Prelude.{if◌then◌else◌}
use Rattle.wt_tree.specs.declared.kind.Kind.{Kind}
use Rattle.wt_tree.specs.declared.kind.Kind.TheVariants as kind
use Rattle.wt_tree.specs.Kinds.{is_numbered, spelling}
use Rattle.wt_tree.specs.Tiling.{is_group}
use Rattle.wt_tree.specs.Tree.{Tree, tree, Trees, none, more, label}
use Rattle.wt_span.specs.Items.{Item}
use Rattle.wt_span.specs.Origins.{OuterCall}
use Rattle.wt_inline.specs.ItemTree.{ItemTree, tree_items}
use Rattle.wt_page.specs.Body.{meaning}
use Rattle.wt_annotated.specs.Annotated.{annotated}
use Rattle.wt_annotated.specs.CutTexts.{cut_texts}
use Rattle.wt_annotated.specs.GroupData.{group_data}
use Rattle.wt_annotated.specs.Numbering.{next_after, count, count_all, with_numbers, all_with_numbers}
use Rattle.wt_annotated.specs.NumbersNeeded.{numbers_needed}
use Rattle.wt_annotated.proofs.AnnotatedTree.{placed_tree}
use Rattle.wt_annotated.proofs.CutNumbers.{cut_texts_few}
use Rattle.wt_annotated.proofs.Walks.{walk_all}
use Rattle.wt_sections.specs.Gathering.{heading_count, headings_in}
use Rattle.wt_sections.specs.Sections.{opens}

-- ---- a heading has a number

opened_by : (k : Kind) → opens (spelling k).level ≤ (if is_numbered k then 1 else 0)
unfolding spelling
opened_by (kind.Heading n) = omega arith
opened_by k = omega arith

headings_few : (ts : Trees) → heading_count ts ≤ count_all ts
headings_few none = omega arith
headings_few (more (tree l us) ts) =
    let a : opens (spelling l.kind).level ≤ (if is_numbered l.kind then 1 else 0) = opened_by l.kind in
    let b : heading_count ts ≤ count_all ts = headings_few ts in
    omega (arith, a, b)

among : (g : Bool) (n m k : ℕ) → g ≡ false → n ≤ m → n ≤ k + (if g then 0 else m)
among true n m k e l = absurd cc
among false n m k e l = omega (arith, l)

in_body : (t : Tree) → is_group (label t).kind ≡ false → headings_in t ≤ count t
in_body (tree l ts) e = among (is_group l.kind) (heading_count ts) (count_all ts) (if is_numbered l.kind then 1 else 0) e (headings_few ts)

-- ---- numbers that are given

inside_same : (g : Bool) (ts us : Trees) → count_all us ≡ count_all ts
    → (if g then 0 else count_all (if g then ts else us)) ≡ (if g then 0 else count_all ts)
inside_same true ts us e = refl
inside_same false ts us e = e

mutual
  count_numbered : (next : ℕ) (t : Tree) → count (with_numbers next t) ≡ count t
  count_numbered next (tree l ts) =
      ap (λ m. (if is_numbered l.kind then 1 else 0) + m)
      (inside_same (is_group l.kind) ts (all_with_numbers (next_after l.kind next) ts) (all_count_numbered (next_after l.kind next) ts))

  all_count_numbered : (next : ℕ) (ts : Trees) → count_all (all_with_numbers next ts) ≡ count_all ts
  all_count_numbered next none = refl
  all_count_numbered next (more t ts) =
      ap (λ m. m + count_all (all_with_numbers (next + count t) ts)) (count_numbered next t)
      ∙ ap (λ m. count t + m) (all_count_numbered (next + count t) ts)

-- ---- a page

annotated_few : (calls : List OuterCall) (t : ItemTree)
    → count (annotated calls (group_data calls) t) ≤ numbers_needed calls t
unfolding annotated
annotated_few calls t =
    let placed : Tree = placed_tree calls (group_data calls) t in
    let numbers : count (with_numbers 1 (cut_texts placed)) ≡ count (cut_texts placed) = count_numbered 1 (cut_texts placed) in
    let same = ap count (walk_all calls (group_data calls) t) in
    omega (arith, numbers, cut_texts_few placed, same)

page_body : (calls : List OuterCall) (xs : List Item) → is_group (label (annotated calls (group_data calls) (meaning xs))).kind ≡ false
unfolding annotated meaning
page_body calls xs = refl

pub headings_below : (calls : List OuterCall) (xs : List Item)
    → 1 + numbers_needed calls (meaning xs) < 2 ^ 32
    → headings_in (annotated calls (group_data calls) (meaning xs)) < 2 ^ 32
headings_below calls xs h =
    let t : ItemTree = meaning xs in
    let a = in_body (annotated calls (group_data calls) t) (page_body calls xs) in
    omega (arith, a, annotated_few calls t, h)
