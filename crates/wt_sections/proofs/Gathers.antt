-- What the loops of the code go by.
use Rattle.std.proofs.Common.{◌≡◌, ℕ, ◌+◌, ◌<◌, length, Bool, true, false, Option, Some, None, List, [], ◌∷◌, ◌++◌, refl, sym, ap, ap₂, ◌∙◌, subst, cond, arith, map, reverse}
use Rattle.std.proofs.lemmas.List.{map-append, reverse-append}
use Rattle.wt_recut.specs.Recutting.{appended}
use Rattle.wt_tree.specs.Tree.{Tree, Trees, none, more}
use Rattle.wt_tree.specs.View.{view, views}
use Rattle.wt_tree.specs.declared.node.Node.{Node}
use Rattle.wt_recut.proofs.Recuts.{appended_none, appended_assoc, views_append}
use Rattle.wt_sections.specs.declared.gather.Part.{Part as Found}
use Rattle.wt_sections.specs.Gathering.{part_view, parts_view, heading_count, section_of, section_if_any}
use Rattle.wt_sections.specs.Sections.{Part, before, ends, from, lead_if_any, level_of, opens, part_trees, parts, put, with_lead}

-- the part that was put last stands first
pub one_more : (ps : List Found) (p : Found) → parts_view (ps ++ p ∷ []) ≡ part_view p ∷ parts_view ps
one_more ps p = ap reverse (map-append part_view ps (p ∷ [])) ∙ reverse-append (map part_view ps) (part_view p ∷ [])

-- ---- parts that are taken

-- so far these nodes were taken, and the same is still to take
pub record IsTaking (limit : Option ℕ) (nodes : Trees) (ps : List Part) (first : Trees) (all : List Part) : Type 0 where
  pub taken : appended nodes (before limit ps) ≡ appended first (before limit all)
  pub left : from limit ps ≡ from limit all

taking_first : (limit : Option ℕ) (first : Trees) (all : List Part) → IsTaking limit first all first all
taking_first limit first all = record { taken = refl; left = refl }

-- the next part is none that ends it
pub taking_step : (limit : Option ℕ) (ns ms : List Node) (qs rs : List Found) (p : Found) (first : Trees) (all : List Part)
    → IsTaking limit (views ns) (parts_view qs) first all → qs ≡ rs ++ p ∷ [] → ends limit p.level ≡ false → ms ≡ ns ++ p.node ∷ []
    → IsTaking limit (views ms) (parts_view rs) first all
taking_step limit ns ms qs rs p first all i e f g =
    let same : parts_view qs ≡ part_view p ∷ parts_view rs = ap parts_view e ∙ one_more rs p in
    let nodes_are : views ms ≡ appended (views ns) (more (view p.node) none) = ap views g ∙ views_append ns (p.node ∷ []) in
    let before_is : before limit (parts_view qs) ≡ more (view p.node) (before limit (parts_view rs)) =
    ap (before limit) same ∙ ap (λ v. cond v none (more (view p.node) (before limit (parts_view rs)))) f in
    record {
      taken =
          ap (λ us. appended us (before limit (parts_view rs))) nodes_are
          ∙ appended_assoc (views ns) (more (view p.node) none) (before limit (parts_view rs))
          ∙ ap (appended (views ns)) (sym before_is)
          ∙ i.taken;
      left =
          ap (λ v. cond v (part_view p ∷ parts_view rs) (from limit (parts_view rs))) (sym f)
          ∙ ap (from limit) (sym same)
          ∙ i.left;
    }

-- the next part ends it, and stays
pub taking_ends : (limit : Option ℕ) (ns : List Node) (qs rs : List Found) (p : Found) (first : Trees) (all : List Part)
    → IsTaking limit (views ns) (parts_view qs) first all → qs ≡ rs ++ p ∷ [] → ends limit p.level ≡ true
    → (views ns ≡ appended first (before limit all)) × (parts_view qs ≡ from limit all)
taking_ends limit ns qs rs p first all i e f =
    let same : parts_view qs ≡ part_view p ∷ parts_view rs = ap parts_view e ∙ one_more rs p in
    let nothing : before limit (parts_view qs) ≡ none =
    ap (before limit) same ∙ ap (λ v. cond v none (more (view p.node) (before limit (parts_view rs)))) f in
    let all_left : from limit (parts_view qs) ≡ parts_view qs =
    ap (from limit) same ∙ ap (λ v. cond v (part_view p ∷ parts_view rs) (from limit (parts_view rs))) f ∙ sym same in
    (sym (appended_none (views ns)) ∙ ap (appended (views ns)) (sym nothing) ∙ i.taken, sym all_left ∙ i.left)

-- no part is left
pub taking_all : (limit : Option ℕ) (ns : List Node) (qs : List Found) (first : Trees) (all : List Part)
    → IsTaking limit (views ns) (parts_view qs) first all → qs ≡ []
    → (views ns ≡ appended first (before limit all)) × (parts_view qs ≡ from limit all)
taking_all limit ns qs first all i e =
    let none_left : before limit (parts_view qs) ≡ none = ap (λ xs. before limit (parts_view xs)) e in
    let same : parts_view qs ≡ from limit (parts_view qs) = ap parts_view e ∙ sym (ap (λ xs. from limit (parts_view xs)) e) in
    (sym (appended_none (views ns)) ∙ ap (appended (views ns)) (sym none_left) ∙ i.taken, same ∙ i.left)

-- ---- headings

heading_append : (us vs : Trees) → heading_count (appended us vs) ≡ heading_count us + heading_count vs
heading_append none vs = omega arith
heading_append (more t us) vs = omega (arith, heading_append us vs)

-- ---- parts of a body, from the last child on

-- of these children some are left, with so many headings, and the parts of the others are these
pub record IsGathered (left : Trees) (number : ℕ) (ps : List Part) (all : Trees) : Type 0 where
  pub done : Trees
  pub joined : appended left done ≡ all
  pub counted : number ≡ heading_count left
  pub become : ps ≡ parts (1 + number) done

pub gathered_first : (number : ℕ) (all : Trees) → number ≡ heading_count all → IsGathered all number [] all
gathered_first number all e = record { done = none; joined = appended_none all; counted = e; become = refl }

put_by : (o : Option ℕ) (t : Tree) (number now : ℕ) (done : Trees) → now + opens o ≡ number
    → put number o t (parts (1 + number) done) ≡ put (1 + now) o t (parts (1 + now + opens o) done)
put_by None t number now done e =
    let same : 1 + number ≡ 1 + now + 0 = omega (arith, e) in
    ap (λ k. put number None t (parts k done)) same
put_by (Some level) t number now done e =
    let here : number ≡ 1 + now = omega (arith, e) in
    let behind : 1 + number ≡ 1 + now + 1 = omega (arith, e) in
    ap₂ (λ n k. put n (Some level) t (parts k done)) here behind

-- the last of those that are left is put before the others
pub gathered_step : (ns ms : List Node) (n : Node) (number now : ℕ) (ps qs : List Part) (all : Trees)
    → IsGathered (views ns) number ps all → ns ≡ ms ++ n ∷ [] → qs ≡ put number (level_of (view n)) (view n) ps → now + opens (level_of (view n)) ≡ number
    → IsGathered (views ms) now qs all
gathered_step ns ms n number now ps qs all i e f g =
    let split : views ns ≡ appended (views ms) (more (view n) none) = ap views e ∙ views_append ms (n ∷ []) in
    let counts : heading_count (views ns) ≡ heading_count (views ms) + (opens (level_of (view n)) + 0) =
    ap heading_count split ∙ heading_append (views ms) (more (view n) none) in
    record {
      done = more (view n) i.done;
      joined = sym (appended_assoc (views ms) (more (view n) none) i.done) ∙ ap (λ us. appended us i.done) (sym split) ∙ i.joined;
      counted = omega (arith, i.counted, counts, g);
      become = f ∙ ap (put number (level_of (view n)) (view n)) i.become ∙ put_by (level_of (view n)) (view n) number now i.done g;
    }

pub gathered_all : (ns : List Node) (number : ℕ) (ps : List Part) (all : Trees) → IsGathered (views ns) number ps all → ns ≡ [] → ps ≡ parts 1 all
gathered_all ns number ps all i e =
    let zero_left : heading_count (views ns) ≡ 0 = ap (λ xs. heading_count (views xs)) e in
    let one : 1 + number ≡ 1 = omega (arith, i.counted, zero_left) in
    let whole : i.done ≡ all = ap (λ xs. appended (views xs) i.done) (sym e) ∙ i.joined in
    i.become ∙ ap₂ (λ k us. parts k us) one whole

-- a heading that is left is counted
pub counted_heading : (ns ms : List Node) (n : Node) (number : ℕ) (ps : List Part) (all : Trees) → IsGathered (views ns) number ps all → ns ≡ ms ++ n ∷ []
    → number ≡ heading_count (views ms) + opens (level_of (view n))
counted_heading ns ms n number ps all i e =
    let split : views ns ≡ appended (views ms) (more (view n) none) = ap views e ∙ views_append ms (n ∷ []) in
    let counts : heading_count (views ns) ≡ heading_count (views ms) + (opens (level_of (view n)) + 0) =
    ap heading_count split ∙ heading_append (views ms) (more (view n) none) in
    omega (arith, i.counted, counts)

-- ---- parts as they are written

pub parts_step : (ns ms : List Node) (qs rs : List Found) (p : Found) → qs ≡ rs ++ p ∷ [] → ms ≡ ns ++ p.node ∷ []
    → appended (views ms) (part_trees (parts_view rs)) ≡ appended (views ns) (part_trees (parts_view qs))
parts_step ns ms qs rs p e g =
    ap (λ us. appended us (part_trees (parts_view rs))) (ap views g ∙ views_append ns (p.node ∷ []))
    ∙ appended_assoc (views ns) (more (view p.node) none) (part_trees (parts_view rs))
    ∙ ap (λ xs. appended (views ns) (part_trees xs)) (sym (ap parts_view e ∙ one_more rs p))

pub lead_is : (us vs : Trees) → appended (section_if_any us) vs ≡ lead_if_any us vs
lead_is none vs = refl
lead_is (more t us) vs = refl

-- without nodes there is no lead
pub no_lead : (out : Trees) (ns : List Node) → length ns ≡ 0 → out ≡ appended out (section_if_any (views ns))
no_lead out [] e = sym (appended_none out)
no_lead out (n ∷ ns) e = absurd (omega (arith, e))

pub lead_pushed : (os ms ns : List Node) (s : Node) → ms ≡ os ++ s ∷ [] → view s ≡ section_of 0 (views ns) → 0 < length ns
    → views ms ≡ appended (views os) (section_if_any (views ns))
lead_pushed os ms [] s e f g = absurd (omega (arith, g))
lead_pushed os ms (n ∷ ns) s e f g = ap views e ∙ views_append os (s ∷ []) ∙ ap (λ t. appended (views os) (more t none)) f

-- the lead, and the parts behind it
pub written_is : (ps left : List Part) (lead first all : Trees) → lead ≡ before None ps → left ≡ from None ps → first ≡ section_if_any lead
    → all ≡ appended first (part_trees left) → all ≡ with_lead ps
written_is ps left lead first all e f g h =
    h ∙ ap₂ (λ us xs. appended us (part_trees xs)) (g ∙ ap section_if_any e) f ∙ lead_is (before None ps) (part_trees (from None ps))
