-- Where no node is marked `children`, the slices of an edit are the insides of the nodes marked `content`, in preorder.
use Rattle.std.proofs.Common.{◌≡◌, ℕ, Bool, true, false, List, [], ◌∷◌, ◌++◌, refl, sym, ap, ◌∙◌, None, Option}
use Rattle.std.specs.Prelude.{◌||◌, if◌then◌else◌}
use Rattle.std.specs.List.{AllByRecursion, flat_map}
use Rattle.std.proofs.lemmas.Grind.{flat_map-append}
use Rattle.wt_tree.specs.declared.kind.Kind.{Kind}
use Rattle.wt_tree.specs.declared.kind.Kind.TheVariants as kind
use Rattle.wt_tree.specs.declared.kind.Mark.{Mark}
use Rattle.wt_tree.specs.declared.kind.Mark.TheVariants as marks
use Rattle.wt_tree.specs.Opened.{opened}
use Rattle.wt_tree.specs.Tiling.{InPreorder}
use Rattle.wt_tree.specs.Tree.{Tree, tree, Trees, none, more, label}
use Rattle.wt_checks.specs.Checked.{checked}
use Rattle.wt_checks.specs.Groups.{is_marked}
use Rattle.wt_checks.specs.Kept.{children, WellMarked}
use Rattle.wt_checks.specs.Marks.{editing, allows, is_children}
use Rattle.wt_checks.specs.Places.{Place, placed, all_placed, places, is_body, is_content, Page, page_of, parent_below}
use Rattle.wt_checks.proofs.Lookups.{each_split}
use Rattle.wt_checks.proofs.WhatIsKept.{kept}
use Rattle.wt_content.specs.declared.children.Holder.TheVariants as holder
use Rattle.wt_slices.specs.BodySlices.{all_child_slices, body_slices, list_at, slices, start}
use Rattle.wt_slices.specs.Changes.{all_insides, inside_at, inside_of, insides, AllStay}
use Rattle.wt_splice.specs.Splice.{Change}
use Rattle.wt_slices.specs.Steps.{steps}
use Rattle.wt_slices.proofs.BodyWalk.{nothing_pushed}

abbrev IsOutside : Place → Type 0
IsOutside p = is_content (label p.node).mark ≡ true → p.in_content ≡ false

abbrev Stays : Place → Type 0
Stays p = is_children (label p.node).mark ≡ false

content_or : (b : Bool) (P : Type 0) → (b ≡ true → P) → (b ≡ false → P) → P
content_or true P f g = f refl
content_or false P f g = g refl

not_true : (b : Bool) → (b ≡ true → ⊥) → b ≡ false
not_true true f = absurd (f refl)
not_true false f = refl

or_true : (w b : Bool) → b ≡ true → (w || b) ≡ true
or_true true b e = refl
or_true false b e = e

-- ---- inside a content nothing is marked

mutual
  none_inside : (same : Tree → Tree → Bool) (page : Page) (m : ℕ) (u : Tree) → AllByRecursion IsOutside (placed m true u)
      → flat_map (inside_at same page) (placed m true u) ≡ []
  none_inside same page m (tree l us) o =
      let rest = flat_map (inside_at same page) (all_placed (parent_below m l.id) true us) in
      ap (λ b. (if b then inside_of same (page l.id) (tree l us) else []) ++ rest) (not_true (is_content l.mark) (λ e. let f = o.0 e in absurd (cc)))
      ∙ all_none_inside same page (parent_below m l.id) us o.1

  all_none_inside : (same : Tree → Tree → Bool) (page : Page) (m : ℕ) (us : Trees) → AllByRecursion IsOutside (all_placed m true us)
      → flat_map (inside_at same page) (all_placed m true us) ≡ []
  all_none_inside same page m none o = refl
  all_none_inside same page m (more u us) o =
      let s = each_split IsOutside (placed m true u) (all_placed m true us) o in
      flat_map-append (inside_at same page) (placed m true u) (all_placed m true us)
      ∙ ap (λ cs. cs ++ flat_map (inside_at same page) (all_placed m true us)) (none_inside same page m u s.0) ∙ all_none_inside same page m us s.1

none_held : (same : Tree → Tree → Bool) (page : Page) (m : ℕ) (v : Bool) (us : Trees) → v ≡ true → AllByRecursion IsOutside (all_placed m v us)
    → flat_map (inside_at same page) (all_placed m v us) ≡ []
none_held same page m true us e o = all_none_inside same page m us o
none_held same page m false us e o = absurd (cc)

-- ---- in preorder

mutual
  listed : (same : Tree → Tree → Bool) (page : Page) (m : ℕ) (w : Bool) (u : Tree) → AllByRecursion IsOutside (placed m w u)
      → insides same page u ≡ flat_map (inside_at same page) (placed m w u)
  listed same page m w (tree l us) o =
      let own = inside_of same (page l.id) (tree l us) in
      let down = parent_below m l.id in
      let v = w || is_content l.mark in
      let rest = flat_map (inside_at same page) (all_placed down v us) in
      let by : Bool → List Change = λ b. if b then own else all_insides same page us in
      let with_own : Bool → List Change = λ b. (if b then own else []) ++ rest in
      content_or (is_content l.mark) (insides same page (tree l us) ≡ flat_map (inside_at same page) (placed m w (tree l us)))
      (λ e. ap by e ∙ nothing_pushed own ∙ ap (λ (cs : List Change). own ++ cs) (sym (none_held same page down v us (or_true w (is_content l.mark) e) o.1))
      ∙ ap with_own (sym e))
      (λ e. ap by e ∙ all_listed same page down v us o.1 ∙ ap with_own (sym e))

  all_listed : (same : Tree → Tree → Bool) (page : Page) (m : ℕ) (w : Bool) (us : Trees) → AllByRecursion IsOutside (all_placed m w us)
      → all_insides same page us ≡ flat_map (inside_at same page) (all_placed m w us)
  all_listed same page m w none o = refl
  all_listed same page m w (more u us) o =
      let s = each_split IsOutside (placed m w u) (all_placed m w us) o in
      ap (λ cs. cs ++ all_insides same page us) (listed same page m w u s.0)
      ∙ ap (λ cs. flat_map (inside_at same page) (placed m w u) ++ cs) (all_listed same page m w us s.1)
      ∙ sym (flat_map-append (inside_at same page) (placed m w u) (all_placed m w us))

-- ---- of an edit

children_stay : (same : Tree → Tree → Bool) (page : Page) (m : ℕ) (w : Bool) (us : Trees) → AllByRecursion Stays (all_placed m w us)
    → all_child_slices same page us ≡ all_insides same page us
children_stay same page m w none h = refl
children_stay same page m w (more (tree l vs) us) h =
    let s = each_split Stays (placed m w (tree l vs)) (all_placed m w us) h in
    ap (λ b. (if b then list_at same page (page l.id) vs else insides same page (tree l vs)) ++ all_child_slices same page us) s.0.0
    ∙ ap (λ cs. insides same page (tree l vs) ++ cs) (children_stay same page m w us s.1)

content_marked : (m : Mark) → is_content m ≡ true → is_marked m ≡ true
content_marked marks.Content e = refl
content_marked m e = absurd (cc)

outside_all : (page : Page) (ps : List Place) → AllByRecursion (λ p. is_marked (label p.node).mark ≡ true → WellMarked page p) ps
    → AllByRecursion IsOutside ps
outside_all page [] h = tt
outside_all page (p ∷ ps) h = (λ e. (h.0 (content_marked (label p.node).mark e)).outside, outside_all page ps h.1)

body_allows : (k : Kind) (m : Mark) (o : Option Place) → is_body k ≡ true → allows (editing k) m o ≡ true → is_children m ≡ true
body_allows kind.Body m o e a = a
body_allows k m o e a = absurd (cc)

root_bare : (page : Page) (p : Place) → is_body (label p.node).kind ≡ true → Stays p → (is_marked (label p.node).mark ≡ true → WellMarked page p)
    → is_content (label p.node).mark ≡ false
root_bare page p b s w =
    not_true (is_content (label p.node).mark) (λ e.
    let c = body_allows (label p.node).kind (label p.node).mark (page (label p.node).id) b (w (content_marked (label p.node).mark e)).allowed in
    let f : true ≡ false = sym c ∙ s in absurd (cc))

listed_by : (same : Tree → Tree → Bool) (t u : Tree) → is_body (label u).kind ≡ true → AllStay u
    → AllByRecursion (λ p. is_marked (label p.node).mark ≡ true → WellMarked (page_of t) p) (places u)
    → slices same t u ≡ flat_map (inside_at same (page_of t)) (places u)
listed_by same t (tree l us) b s h =
    let page = page_of t in
    let p : Place = record { node = tree l us; parent = 0; in_content = false } in
    let v = is_content l.mark in
    let down = parent_below 0 l.id in
    let o = outside_all page (places (tree l us)) h in
    let rest = flat_map (inside_at same page) (all_placed down v us) in
    ap (λ c. if c then body_slices same page start (steps holder.Body (opened (children t)) us) else all_child_slices same page us) s.0
    ∙ children_stay same page down v us s.1 ∙ all_listed same page down v us o.1
    ∙ ap (λ c. (if c then inside_of same (page l.id) (tree l us) else []) ++ rest) (sym (root_bare page p b s.0 h.0))

pub contents_alone : (same : Tree → Tree → Bool) (t u : Tree) → (label t).kind ≡ kind.Body → InPreorder t → is_body (label u).kind ≡ true → AllStay u
    → checked false t u ≡ None → slices same t u ≡ flat_map (inside_at same (page_of t)) (places u)
contents_alone same t u k i b s free = listed_by same t u b s (kept false t u k i free).marks
