-- Each range of an annotated tree is a slice of the page.
use Rattle.std.proofs.Common.{◌≡◌, ℕ, ◌+◌, ◌-◌, ◌≤◌, Bool, true, false, List, [], ◌∷◌, ◌++◌, length, take, drop, refl, sym, ap, subst, ◌∙◌, cond, arith, append_assoc, length-append, length-take}
use Rattle.std.specs.List.{AllByRecursion}
use Rattle.wt_tree.specs.declared.kind.Kind.{Kind}
use Rattle.wt_tree.specs.declared.kind.Kind.TheVariants as kind
use Rattle.wt_tree.specs.Kinds.{is_leaf}
use Rattle.wt_tree.specs.Source.{flat}
use Rattle.wt_tree.specs.Tiling.{is_group}
use Rattle.wt_tree.specs.Tree.{Label, Tree, tree, Trees, none, more}
use Rattle.wt_span.specs.Items.{Item}
use Rattle.wt_span.specs.Origins.{OuterCall}
use Rattle.wt_span.specs.Cuts.{place, text_between, page_of}
use Rattle.wt_inline.specs.ItemTree.{Head}
use Rattle.wt_annotated.specs.Labels.{leaf_open}
use Rattle.wt_annotated.specs.Numbering.{number_of, next_after, count, with_id, with_numbers, all_with_numbers}
use Rattle.wt_annotated.specs.WithoutCalls.{inside_by}
use Rattle.wt_annotated.specs.Slices.{slice, opening_by, StandsAt, StandsIn, IsSlice}
use Rattle.wt_annotated.specs.Grouped.{Grouped, kept, group, GroupedAll, ended, along}
use Rattle.wt_annotated.specs.Annotated.{open_by, kept_label, placed, all_placed}
use Rattle.wt_annotated.specs.Reached.{reached, reached_in_all, AreReachedSlices, start_of, size_of, Fills, FillFrom}
use Rattle.wt_annotated.proofs.Places.{place_between, text_append}
use Rattle.wt_annotated.proofs.Tiles.{Carried, source, fill_up, flat_numbered}

take_front : (xs ys : List ℕ) → take (length xs) (xs ++ ys) ≡ xs
take_front [] ys = refl
take_front (x ∷ xs) ys = ap (λ zs. x ∷ zs) (take_front xs ys)

drop_front : (xs ys : List ℕ) → drop (length xs) (xs ++ ys) ≡ ys
drop_front [] ys = refl
drop_front (x ∷ xs) ys = drop_front xs ys

slice_middle : (before middle after : List ℕ) (start end : ℕ) → start ≡ length before → end ≡ start + length middle
    → slice (before ++ (middle ++ after)) start end ≡ middle
slice_middle before middle after start end s e =
    let n : end ≡ length (before ++ middle) = omega (arith, e, s, length-append before middle) in
    ap (λ xs. drop start (take end xs)) (sym (append_assoc before middle after))
    ∙ ap (λ m. drop start (take m ((before ++ middle) ++ after))) n
    ∙ ap (drop start) (take_front (before ++ middle) after)
    ∙ ap (λ m. drop m (before ++ middle)) s
    ∙ drop_front before middle

-- the page, before, between and after two cuts
page_three : (calls : List OuterCall) (all : List Item) (n k : ℕ) → n + k ≤ length all
    → page_of calls all ≡ text_between calls all 0 n ++ (text_between calls all n k ++ text_between calls all (n + k) (length all - (n + k)))
page_three calls all n k w =
    let r : ℕ = length all - (n + k) in
    let e : length all ≡ n + (k + r) = omega (arith, w) in
    let z : 0 + n ≡ n = omega arith in
    ap (text_between calls all 0) e
    ∙ text_append calls all 0 n (k + r)
    ∙ ap (λ m. text_between calls all 0 n ++ text_between calls all m (k + r)) z
    ∙ ap (λ bs. text_between calls all 0 n ++ bs) (text_append calls all n k r)

pub place_is : (calls : List OuterCall) (all : List Item) (n : ℕ) → place calls all n ≡ length (text_between calls all 0 n)
place_is calls all n =
    let z : n ≡ 0 + n = omega arith in
    ap (place calls all) z ∙ place_between calls all n 0 ∙ omega arith

stands_by : (calls : List OuterCall) (all : List Item) (n k open_w close_w : ℕ) (source opening closing : List ℕ) → n + k ≤ length all
    → source ≡ text_between calls all n k → open_w ≡ length opening → close_w ≡ length closing
    → StandsAt (page_of calls all)
    (record { start = place calls all n; end = place calls all n + length (text_between calls all n k); open_w = open_w; close_w = close_w }) source
    opening closing
stands_by calls all n k open_w close_w source opening closing w s o c =
    let before : List ℕ = text_between calls all 0 n in
    let middle : List ℕ = text_between calls all n k in
    let after : List ℕ = text_between calls all (n + k) (length all - (n + k)) in
    let p : page_of calls all ≡ before ++ (middle ++ after) = page_three calls all n k w in
    let l : length (page_of calls all) ≡ length before + (length middle + length after) = ap length p
    ∙ omega (arith, length-append before (middle ++ after), length-append middle after) in
    let q = place_is calls all n in
    record {
      ordered = omega arith;
      within = omega (arith, l, q);
      stands = ap (λ bs. slice bs (place calls all n) (place calls all n + length middle)) p
          ∙ slice_middle before middle after (place calls all n) (place calls all n + length middle) q refl ∙ sym s;
      open_width = o;
      close_width = c;
    }

leaf_most : (k : Kind) (n : ℕ) → leaf_open k n ≤ n
leaf_most kind.Sep n = omega arith
leaf_most kind.Text n = omega arith
leaf_most kind.Group n = omega arith
leaf_most k n = omega arith

open_is : (is : Bool) (h : Head) (at : ℕ) (source opening closing : List ℕ)
    → open_by is h.kind source opening ≡ length (opening_by is (kept_label is h at source opening closing))
open_is true h at source opening closing = omega (arith, length-take (leaf_open h.kind (length source)) source, leaf_most h.kind (length source))
open_is false h at source opening closing = refl

all_both : (P : Tree → Type 0) (us vs : List Tree) → AllByRecursion P us → AllByRecursion P vs → AllByRecursion P (us ++ vs)
all_both P [] vs g h = h
all_both P (u ∷ us) vs g h = (g.0, all_both P us vs g.1 h)

inside_slices : (group is : Bool) (page : List ℕ) (us : Trees) → AllByRecursion (IsSlice page) (reached_in_all us)
    → AllByRecursion (IsSlice page) (cond group [] (reached_in_all (inside_by is us)))
inside_slices true is page us h = tt
inside_slices false true page us h = tt
inside_slices false false page us h = h

mutual
  pub slices : (calls : List OuterCall) (carried : Carried) (all : List Item) (g : Grouped) → Fills g → start_of g + size_of g ≤ length all
      → AreReachedSlices (page_of calls all) (placed calls carried all g)
  slices calls carried all (kept h n o i c gs) f w =
      let is : Bool = is_leaf h.kind in
      let body : List ℕ = text_between calls all n (o + i + c) in
      let opening : List ℕ = text_between calls all n o in
      let closing : List ℕ = text_between calls all (n + o + i) c in
      let inside : n + o + i ≤ length all = omega (arith, w) in (
        stands_by calls all n (o + i + c) (open_by is h.kind body opening) (length (kept_label is h (place calls all n) body opening closing).closing)
            (flat (placed calls carried all (kept h n o i c gs))) (opening_by is (kept_label is h (place calls all n) body opening closing))
            (kept_label is h (place calls all n) body opening closing).closing
            w (source calls carried all (kept h n o i c gs) f) (open_is is h (place calls all n) body opening closing) refl,
        inside_slices (is_group h.kind) is (page_of calls all) (all_placed calls carried all gs)
            (all_slices calls carried all gs (n + o) (n + o + i) f inside),
      )
  slices calls carried all (group n k ts) f w = (stands_by calls all n k 0 0 (text_between calls all n k) [] [] w refl refl refl, tt)

  all_slices : (calls : List OuterCall) (carried : Carried) (all : List Item) (gs : GroupedAll) (from to : ℕ) → FillFrom gs from to → to ≤ length all
      → AllByRecursion (IsSlice (page_of calls all)) (reached_in_all (all_placed calls carried all gs))
  all_slices calls carried all ended from to f w = tt
  all_slices calls carried all (along g gs) from to f w =
      let up = fill_up gs (start_of g + size_of g) to f.2 in
      all_both (IsSlice (page_of calls all)) (reached (placed calls carried all g)) (reached_in_all (all_placed calls carried all gs))
      (slices calls carried all g f.1 (omega (arith, up, w)))
      (all_slices calls carried all gs (start_of g + size_of g) to f.2 w)

-- ---- numbers change nothing of this

same_opening : (is : Bool) (n : ℕ) (l : Label) → opening_by is l ≡ opening_by is (with_id n l)
same_opening true n l = refl
same_opening false n l = refl

slice_numbered : (page : List ℕ) (next : ℕ) (l : Label) (ts : Trees) → IsSlice page (tree l ts) → IsSlice page (with_numbers next (tree l ts))
slice_numbered page next l ts h =
    subst (λ (bs : List ℕ). StandsIn page l.ranges bs (opening_by (is_leaf l.kind) (with_id (number_of l.kind next) l)) l.closing)
    (sym (flat_numbered next (tree l ts)))
    (subst (λ (bs : List ℕ). StandsIn page l.ranges (flat (tree l ts)) bs l.closing) (same_opening (is_leaf l.kind) (number_of l.kind next) l) h)

reached_by : (group : Bool) (page : List ℕ) (ts us : Trees)
    → (AllByRecursion (IsSlice page) (reached_in_all ts) → AllByRecursion (IsSlice page) (reached_in_all us))
    → AllByRecursion (IsSlice page) (cond group [] (reached_in_all ts)) → AllByRecursion (IsSlice page) (cond group [] (reached_in_all (cond group ts us)))
reached_by true page ts us m h = tt
reached_by false page ts us m h = m h

all_left : (P : Tree → Type 0) (us vs : List Tree) → AllByRecursion P (us ++ vs) → AllByRecursion P us × AllByRecursion P vs
all_left P [] vs h = (tt, h)
all_left P (u ∷ us) vs h = let r = all_left P us vs h.1 in ((h.0, r.0), r.1)

mutual
  pub reached_numbered : (page : List ℕ) (next : ℕ) (t : Tree) → AreReachedSlices page t → AreReachedSlices page (with_numbers next t)
  reached_numbered page next (tree l ts) h = (
    slice_numbered page next l ts h.0,
    reached_by (is_group l.kind) page ts (all_with_numbers (next_after l.kind next) ts) (λ q. all_reached_numbered page (next_after l.kind next) ts q) h.1,
  )

  all_reached_numbered : (page : List ℕ) (next : ℕ) (ts : Trees) → AllByRecursion (IsSlice page) (reached_in_all ts)
      → AllByRecursion (IsSlice page) (reached_in_all (all_with_numbers next ts))
  all_reached_numbered page next none h = tt
  all_reached_numbered page next (more t ts) h =
      let r = all_left (IsSlice page) (reached t) (reached_in_all ts) h in
      all_both (IsSlice page) (reached (with_numbers next t)) (reached_in_all (all_with_numbers (next + count t) ts)) (reached_numbered page next t r.0)
      (all_reached_numbered page (next + count t) ts r.1)
