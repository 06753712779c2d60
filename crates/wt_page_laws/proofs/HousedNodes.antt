-- Nodes over stretches hold what may stand in them.
use Rattle.std.proofs.Common.{◌≡◌, ℕ, zero, suc, List, [], ◌∷◌, ◌++◌, take, map, refl, sym, subst, inl, inr}
use Rattle.std.specs.List.{AllByRecursion}
use Rattle.wt_span.specs.Items.{Item, char, whole}
use Rattle.wt_span.specs.Runs.{runs, AreRuns}
use Rattle.wt_span.proofs.RunLaws.{runs_are}
use Rattle.wt_inline.specs.declared.loose.Loose.TheVariants.{Text, Sep}
use Rattle.wt_inline.specs.ItemTree.{Head, ItemTree, inner, forest}
use Rattle.wt_inline.specs.Parts.{Part, loose, node, parts, one_leaf, child, children}
use Rattle.wt_context.specs.Line.{line_parts}
use Rattle.wt_page.specs.Stretches.{Stretch, gap, block, stretches_parts, front_len, front_gaps, past_front, block_len, before_end, end_gaps, opened_by, enclosed}
use Rattle.wt_page_laws.specs.Roles.{Role, outer, lines, list, item, rows, table, row, cell, caption, separator, skipped, other, role, role_of}
use Rattle.wt_page_laws.specs.Places.{holds, IsOneOf, MayStand, IsHousedBy, IsHoused, AreHoused}
use Rattle.wt_page_laws.proofs.Alls.{all_both, all_taken, all_dropped}
use Rattle.wt_page_laws.proofs.LineWords.{AreWords, whole_role, line_words}
use Rattle.wt_page_laws.proofs.EndGaps.{AreGaps, front_are_gaps, end_are_gaps}

-- ---- by parts

abbrev pub IsPartIn : Role → Part → Type 0
IsPartIn parent (loose k o b) = Unit {0}
IsPartIn parent (node t) = MayStand parent (role_of t) × IsHoused t

abbrev pub ArePartsIn : Role → List Part → Type 0
ArePartsIn parent ps = AllByRecursion (IsPartIn parent) ps

child_in : (parent : Role) (p : Part) (ps : List Part) → IsPartIn parent p → MayStand parent (role_of (child (p ∷ ps))) × IsHoused (child (p ∷ ps))
child_in parent (loose Text o b) ps h = (inr (inl refl), tt)
child_in parent (loose Sep o b) ps h = (inl refl, tt)
child_in parent (node t) ps h = h

runs_in : (parent : Role) (rs : List (List Part)) (ps : List Part) → AreRuns one_leaf rs ps → ArePartsIn parent ps → AreHoused parent (forest (map child rs))
runs_in parent [] ps h w = tt
runs_in parent ([] ∷ rs) ps h w = absurd h.2
runs_in parent ((p ∷ r) ∷ rs) ps h w =
    let v : ArePartsIn parent ((p ∷ r) ++ h.0) = subst (ArePartsIn parent) h.1 w in
    let c = child_in parent p r v.0 in
    (c.0, c.1, runs_in parent rs h.0 h.3 (behind r h.0 v.1))
  where
    behind : (qs os : List Part) → ArePartsIn parent (qs ++ os) → ArePartsIn parent os
    behind [] os v = v
    behind (q ∷ qs) os v = behind qs os v.1

pub children_in : (parent : Role) (ps : List Part) → ArePartsIn parent ps → AreHoused parent (forest (children ps))
unfolding children
children_in parent ps w = runs_in parent (runs one_leaf ps) ps (runs_are one_leaf ps) w

other_housed : (t : ItemTree) → role_of t ≡ other → IsHoused t
other_housed (inner h opening ts closing) e = subst (λ r. IsHousedBy r (AreHoused (role h.kind) ts)) (sym e) tt

pub words_in : (parent : Role) (ps : List Part) → AreWords ps → ArePartsIn parent ps
words_in parent [] w = tt
words_in parent (loose k o b ∷ ps) w = (tt, words_in parent ps w.1)
words_in parent (node t ∷ ps) w = ((inr (inl w.0), other_housed t w.0), words_in parent ps w.1)

gap_in : (parent : Role) (xs : List Item) → ArePartsIn parent (parts Sep xs)
gap_in parent [] = tt
gap_in parent (char o b ∷ xs) = (tt, gap_in parent xs)
gap_in parent (whole f o bs ∷ xs) = ((inr (inl (whole_role f o bs)), other_housed _ (whole_role f o bs)), gap_in parent xs)

-- ---- by stretches

abbrev pub IsOneIn : Role → List Part → Type 0
IsOneIn parent [] = ⊥
IsOneIn parent (loose k o b ∷ ps) = ⊥
IsOneIn parent (node t ∷ []) = IsOneOf (role_of t) (holds parent) × IsHoused t
IsOneIn parent (node t ∷ p ∷ ps) = ⊥

abbrev pub IsIn : Role → Stretch → Type 0
IsIn parent (gap xs) = Unit {0}
IsIn parent (block ps) = IsOneIn parent ps

abbrev pub AreIn : Role → List Stretch → Type 0
AreIn parent ss = AllByRecursion (IsIn parent) ss

one_in : (parent : Role) (ps : List Part) → IsOneIn parent ps → ArePartsIn parent ps
one_in parent [] h = absurd h
one_in parent (loose k o b ∷ ps) h = absurd h
one_in parent (node t ∷ []) h = ((inr (inr h.0), h.1), tt)
one_in parent (node t ∷ p ∷ ps) h = absurd h

pub stretches_in : (parent : Role) (ss : List Stretch) → AreIn parent ss → ArePartsIn parent (stretches_parts ss)
stretches_in parent [] h = tt
stretches_in parent (gap xs ∷ ss) h = all_both (IsPartIn parent) (parts Sep xs) (stretches_parts ss) (gap_in parent xs) (stretches_in parent ss h.1)
stretches_in parent (block ps ∷ ss) h = all_both (IsPartIn parent) ps (stretches_parts ss) (one_in parent ps h.0) (stretches_in parent ss h.1)

pub gaps_in : (parent : Role) (ss : List Stretch) → AreGaps ss → AreIn parent ss
gaps_in parent [] g = tt
gaps_in parent (gap xs ∷ ss) g = (tt, gaps_in parent ss g.1)
gaps_in parent (block ps ∷ ss) g = absurd (let e = g.0 in cc)

-- ---- nodes

housed_by : (r : Role) (inside : Type 0) → inside → IsHousedBy r inside
housed_by outer inside h = h
housed_by lines inside h = tt
housed_by list inside h = h
housed_by item inside h = h
housed_by rows inside h = h
housed_by table inside h = h
housed_by row inside h = h
housed_by cell inside h = h
housed_by caption inside h = h
housed_by separator inside h = tt
housed_by skipped inside h = tt
housed_by other inside h = tt

pub housed_node : (h : Head) (opening : List Item) (ps : List Part) (closing : List Item) → ArePartsIn (role h.kind) ps
    → IsHoused (inner h opening (forest (children ps)) closing)
housed_node h opening ps closing w =
    housed_by (role h.kind) (AreHoused (role h.kind) (forest (children ps))) (children_in (role h.kind) ps w)

pub opened_in : (parent own : Role) (h : Head) (opening : List Item) (ss : List Stretch) → role h.kind ≡ own → IsOneOf own (holds parent)
    → ArePartsIn own (stretches_parts (before_end ss)) → AreIn parent (opened_by h opening ss)
opened_in parent own h opening ss e m w = (
  (
    subst (λ r. IsOneOf r (holds parent)) (sym e) m,
    housed_node h opening (stretches_parts (before_end ss)) [] (subst (λ r. ArePartsIn r (stretches_parts (before_end ss))) (sym e) w),
  ),
  gaps_in parent (end_gaps ss) (end_are_gaps ss),
)

pub enclosed_in : (parent own : Role) (h : Head) (ss : List Stretch) → role h.kind ≡ own → IsOneOf own (holds parent) → AreIn own ss
    → AreIn parent (enclosed h ss)
enclosed_in parent own h ss e m w =
    let past = past_front ss in
    let p : AreIn own past = all_dropped (IsIn own) (front_len ss) ss w in
    all_both (IsIn parent) (front_gaps ss) (opened_by h [] past) (gaps_in parent (front_gaps ss) (front_are_gaps ss))
    (opened_in parent own h [] past e m (stretches_in own (before_end past) (all_taken (IsIn own) (block_len past) past p)))

pub row_in : (parent own : Role) (h : Head) (opening : List Item) (ss : List Stretch) → role h.kind ≡ own → IsOneOf own (holds parent) → AreIn own ss
    → AreIn parent (opened_by h opening ss)
row_in parent own h opening ss e m w =
    opened_in parent own h opening ss e m (stretches_in own (before_end ss) (all_taken (IsIn own) (block_len ss) ss w))

-- some words and stretches, of which so many count
front_in : (own : Role) (xs : List Item) (ss : List Stretch) → AreIn own ss → (n : ℕ) → ArePartsIn own (stretches_parts (take n (block (line_parts xs) ∷ ss)))
front_in own xs ss w zero = tt
front_in own xs ss w (suc n) =
    all_both (IsPartIn own) (line_parts xs) (stretches_parts (take n ss)) (words_in own (line_parts xs) (line_words xs))
    (stretches_in own (take n ss) (all_taken (IsIn own) n ss w))

pub line_in : (parent own : Role) (h : Head) (opening xs : List Item) (ss : List Stretch) → role h.kind ≡ own → IsOneOf own (holds parent) → AreIn own ss
    → AreIn parent (opened_by h opening (block (line_parts xs) ∷ ss))
line_in parent own h opening xs ss e m w =
    opened_in parent own h opening (block (line_parts xs) ∷ ss) e m (front_in own xs ss w (block_len (block (line_parts xs) ∷ ss)))
