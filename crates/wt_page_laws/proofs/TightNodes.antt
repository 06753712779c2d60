-- Nodes over stretches are tight.
use Rattle.std.proofs.Common.{◌≡◌, ℕ, zero, suc, ◌<◌, Bool, true, false, List, [], ◌∷◌, ◌++◌, take, drop, refl, sym, ap, ◌∙◌, subst, arith, inl, inr}
use Rattle.std.specs.List.{AllByRecursion}
use Rattle.std.specs.Prelude.{◌||◌}
use Rattle.std.proofs.lemmas.List.{map-append}
use Rattle.wt_span.specs.Items.{Item, char, whole}
use Rattle.wt_inline.specs.declared.loose.Loose.TheVariants.{Sep}
use Rattle.wt_inline.specs.ItemTree.{Head, ItemTrees, inner, forest}
use Rattle.wt_inline.specs.Parts.{Part, loose, node, parts, children}
use Rattle.wt_context.specs.Line.{line_parts}
use Rattle.wt_page.specs.Stretches.{Stretch, gap, block, stretches_parts, front_len, front_gaps, past_front, block_len, before_end, tree_block, node_of, opened_by, enclosed}
use Rattle.wt_page_laws.specs.Roles.{Role, outer, lines, list, item, rows, table, row, cell, caption, separator, skipped, other, role, role_of, is_separator, is_between}
use Rattle.wt_page_laws.specs.Ends.{first_is, last_is, BeginsWithMember, EndsWithMember, EndsWithNone, IsTightBy, IsTight, AreTight}
use Rattle.wt_page_laws.proofs.Alls.{all_both, all_taken, all_dropped}
use Rattle.wt_page_laws.proofs.LineWords.{whole_role, line_words}
use Rattle.wt_page_laws.proofs.Children.{part_passes, parts_pass, last_append, children_last, children_first, words_last, IsTightPart, AreTightParts, other_tight, words_tight, tight_children}
use Rattle.wt_page_laws.proofs.EndGaps.{block_first, gap_first}

-- a gap, or a tight node that is no separator and no mark
abbrev pub IsOneNode : List Part → Type 0
IsOneNode [] = ⊥
IsOneNode (loose k o b ∷ ps) = ⊥
IsOneNode (node t ∷ []) = IsTight t × (is_between (role_of t) ≡ false)
IsOneNode (node t ∷ p ∷ ps) = ⊥

abbrev pub IsSolid : Stretch → Type 0
IsSolid (gap xs) = Unit {0}
IsSolid (block ps) = IsOneNode ps

abbrev pub AreSolid : List Stretch → Type 0
AreSolid ss = AllByRecursion IsSolid ss

-- ---- their parts are tight

gap_tight : (xs : List Item) → AreTightParts (parts Sep xs)
gap_tight [] = tt
gap_tight (char o b ∷ xs) = (tt, gap_tight xs)
gap_tight (whole f o bs ∷ xs) = (other_tight _ (whole_role f o bs), gap_tight xs)

one_tight : (ps : List Part) → IsOneNode ps → AreTightParts ps
one_tight [] h = absurd h
one_tight (loose k o b ∷ ps) h = absurd h
one_tight (node t ∷ []) h = (h.0, tt)
one_tight (node t ∷ p ∷ ps) h = absurd h

pub solid_tight : (ss : List Stretch) → AreSolid ss → AreTightParts (stretches_parts ss)
solid_tight [] h = tt
solid_tight (gap xs ∷ ss) h = all_both IsTightPart (parts Sep xs) (stretches_parts ss) (gap_tight xs) (solid_tight ss h.1)
solid_tight (block ps ∷ ss) h = all_both IsTightPart ps (stretches_parts ss) (one_tight ps h.0) (solid_tight ss h.1)

-- ---- how they end

-- a test that what stands between members passes, if anything does
abbrev IsOfBetween : (Role → Bool) → Type 0
IsOfBetween test = (r : Role) → is_between r ≡ false → test r ≡ false

between : IsOfBetween is_between
between r e = e

separating : IsOfBetween is_separator
separating separator e = cc
separating outer e = refl
separating lines e = refl
separating list e = refl
separating item e = refl
separating rows e = refl
separating row e = refl
separating table e = refl
separating cell e = refl
separating caption e = refl
separating skipped e = refl
separating other e = refl

last_of_both : (test : Role → Bool) (b : Bool) (ps qs : List Part)
    → last_is b (parts_pass test (ps ++ qs)) ≡ last_is (last_is b (parts_pass test ps)) (parts_pass test qs)
last_of_both test b ps qs = ap (last_is b) (map-append (part_passes test) ps qs) ∙ last_append b (parts_pass test ps) (parts_pass test qs)

one_last : (test : Role → Bool) → IsOfBetween test → (b : Bool) (ps : List Part) → IsOneNode ps → last_is b (parts_pass test ps) ≡ false
one_last test w b [] h = absurd h
one_last test w b (loose k o c ∷ ps) h = absurd h
one_last test w b (node t ∷ []) h = w (role_of t) h.1
one_last test w b (node t ∷ p ∷ ps) h = absurd h

abbrev LastOfFront : (Role → Bool) → ℕ → Bool → List Stretch → Type 0
LastOfFront test n b ss = last_is b (parts_pass test (stretches_parts (take n ss))) ≡ false

-- some stretches, of which the last is a block, end so whatever stands before them; none do where what stands before does
solid_last : (test : Role → Bool) → IsOfBetween test → (ss : List Stretch) (b : Bool) → AreSolid ss
    → (0 < block_len ss → LastOfFront test (block_len ss) b ss) × (b ≡ false → LastOfFront test (block_len ss) b ss)
solid_last test w [] b h = ((λ l. absurd (omega (arith, l))), λ e. e)
solid_last test w (block ps ∷ ss) b h =
    let here : last_is b (parts_pass test ps) ≡ false = one_last test w b ps h.0 in
    let rest : LastOfFront test (block_len ss) (last_is b (parts_pass test ps)) ss = (solid_last test w ss (last_is b (parts_pass test ps)) h.1).1 here in
    let all : LastOfFront test (block_len (block ps ∷ ss)) b (block ps ∷ ss) =
    subst (λ n. LastOfFront test n b (block ps ∷ ss)) (sym (block_first ps ss))
    (last_of_both test b ps (stretches_parts (take (block_len ss) ss)) ∙ rest) in
    ((λ l. all), λ e. all)
solid_last test w (gap xs ∷ ss) b h = elim (gap_first xs ss) [
  | inl q ↦
      let none : b ≡ false → LastOfFront test (block_len (gap xs ∷ ss)) b (gap xs ∷ ss) =
      λ e. subst (λ n. LastOfFront test n b (gap xs ∷ ss)) (sym q.0) e in
      ((λ l. absurd (let z = q.0 in omega (arith, l, z))), none)
  | inr q ↦
      let c = last_is b (parts_pass test (parts Sep xs)) in
      let all : LastOfFront test (block_len (gap xs ∷ ss)) b (gap xs ∷ ss) =
      subst (λ n. LastOfFront test n b (gap xs ∷ ss)) (sym q.0)
      (last_of_both test b (parts Sep xs) (stretches_parts (take (block_len ss) ss)) ∙ (solid_last test w ss c h.1).0 q.1) in
      ((λ l. all), λ e. all)
]

-- ---- nodes

abbrev pub asks_end : Role → Bool
asks_end outer = false
asks_end lines = false
asks_end list = false
asks_end item = true
asks_end rows = false
asks_end row = false
asks_end table = false
asks_end cell = true
asks_end caption = true
asks_end separator = false
asks_end skipped = false
asks_end other = false

abbrev pub asks_both : Role → Bool
asks_both outer = false
asks_both lines = false
asks_both list = true
asks_both item = false
asks_both rows = true
asks_both row = true
asks_both table = false
asks_both cell = false
asks_both caption = false
asks_both separator = false
asks_both skipped = false
asks_both other = false

by_end : (r : Role) (ts : ItemTrees) (inside : Type 0) → asks_end r ≡ true → EndsWithNone ts → inside → IsTightBy r ts inside
by_end item ts inside e l t = (l, t)
by_end row ts inside e l t = cc
by_end table ts inside e l t = cc
by_end cell ts inside e l t = (l, t)
by_end caption ts inside e l t = (l, t)
by_end outer ts inside e l t = cc
by_end lines ts inside e l t = cc
by_end list ts inside e l t = cc
by_end rows ts inside e l t = cc
by_end separator ts inside e l t = cc
by_end skipped ts inside e l t = cc
by_end other ts inside e l t = cc

by_both : (r : Role) (ts : ItemTrees) (inside : Type 0) → asks_both r ≡ true → BeginsWithMember ts → EndsWithMember ts → inside → IsTightBy r ts inside
by_both list ts inside e f l t = (f, l, t)
by_both rows ts inside e f l t = (f, l, t)
by_both row ts inside e f l t = (l, t)
by_both table ts inside e f l t = cc
by_both item ts inside e f l t = cc
by_both cell ts inside e f l t = cc
by_both caption ts inside e f l t = cc
by_both outer ts inside e f l t = cc
by_both lines ts inside e f l t = cc
by_both separator ts inside e f l t = cc
by_both skipped ts inside e f l t = cc
by_both other ts inside e f l t = cc

is_member : (r : Role) → (asks_end r || asks_both r) ≡ true → is_between r ≡ false
is_member item e = refl
is_member row e = refl
is_member table e = refl
is_member cell e = refl
is_member caption e = refl
is_member list e = refl
is_member rows e = refl
is_member outer e = refl
is_member lines e = refl
is_member separator e = cc
is_member skipped e = refl
is_member other e = cc

or_last : (a b : Bool) → b ≡ true → (a || b) ≡ true
or_last true b e = refl
or_last false b e = e

-- an item, a row or a cell with what stands on its line, and what follows
pub line_opened : (h : Head) (opening xs : List Item) (ss : List Stretch) → asks_end (role h.kind) ≡ true → AreSolid ss
    → AreSolid (opened_by h opening (block (line_parts xs) ∷ ss))
line_opened h opening xs ss a s =
    let ps : List Part = line_parts xs in
    let n = block_len ss in
    let w = line_words xs in
    let qs : List Part = ps ++ stretches_parts (take n ss) in
    let ends : last_is false (parts_pass is_separator qs) ≡ false =
    last_of_both is_separator false ps (stretches_parts (take n ss))
    ∙ (solid_last is_separator separating ss (last_is false (parts_pass is_separator ps)) s).1 (words_last ps w) in
    let t : AreTightParts qs = all_both IsTightPart ps (stretches_parts (take n ss)) (words_tight ps w) (solid_tight (take n ss) (all_taken IsSolid n ss s)) in
    let made : IsTight (inner h opening (forest (children qs)) []) =
    by_end (role h.kind) (forest (children qs)) (AreTight (forest (children qs))) a (children_last is_separator qs ∙ ends) (tight_children qs t) in
    subst (λ m. AreSolid (tree_block (node_of h opening (take m (block ps ∷ ss)) []) ∷ drop m (block ps ∷ ss))) (sym (block_first ps ss))
    ((made, is_member (role h.kind) (ap (λ b. b || asks_both (role h.kind)) a)), all_dropped IsSolid n ss s)

-- a row with a delimiter, whose role is given
pub row_opened : (h : Head) (opening : List Item) (ss : List Stretch) → role h.kind ≡ row → AreSolid ss → AreSolid (opened_by h opening ss)
row_opened h opening ss a s =
    let front = before_end ss in
    let qs : List Part = stretches_parts front in
    let t : AreTightParts qs = solid_tight front (all_taken IsSolid (block_len ss) ss s) in
    let made : IsTight (node_of h opening front []) =
    subst (λ r. IsTightBy r (forest (children qs)) (AreTight (forest (children qs)))) (sym a)
    (children_last is_between qs ∙ (solid_last is_between between ss false s).1 refl, tight_children qs t) in
    ((made, ap is_between a), all_dropped IsSolid (block_len ss) ss s)

-- an item in which a list begins at its line
pub item_opened : (h : Head) (ss : List Stretch) → asks_end (role h.kind) ≡ true → AreSolid ss → AreSolid (opened_by h [] ss)
item_opened h ss a s =
    let front = before_end ss in
    let qs : List Part = stretches_parts front in
    let t : AreTightParts qs = solid_tight front (all_taken IsSolid (block_len ss) ss s) in
    let made : IsTight (node_of h [] front []) =
    by_end (role h.kind) (forest (children qs)) (AreTight (forest (children qs))) a
    (children_last is_separator qs ∙ (solid_last is_separator separating ss false s).1 refl) (tight_children qs t) in
    ((made, is_member (role h.kind) (ap (λ b. b || asks_both (role h.kind)) a)), all_dropped IsSolid (block_len ss) ss s)

-- ---- nodes without delimiters

one_first : (ps : List Part) (qs : List Part) → IsOneNode ps → first_is (parts_pass is_between (ps ++ qs)) ≡ false
one_first [] qs h = absurd h
one_first (loose k o b ∷ ps) qs h = absurd h
one_first (node t ∷ []) qs h = h.1
one_first (node t ∷ p ∷ ps) qs h = absurd h

-- behind the gaps in front a block stands, or nothing
past_first : (ss : List Stretch) (n : ℕ) → AreSolid ss → first_is (parts_pass is_between (stretches_parts (take n (past_front ss)))) ≡ false
past_first [] zero h = refl
past_first [] (suc n) h = refl
past_first (block ps ∷ ss) zero h = refl
past_first (block ps ∷ ss) (suc n) h = one_first ps (stretches_parts (take n ss)) h.0
past_first (gap xs ∷ ss) n h =
    let z : front_len (gap xs ∷ ss) ≡ suc (front_len ss) = omega arith in
    subst (λ m. first_is (parts_pass is_between (stretches_parts (take n (drop m (gap xs ∷ ss))))) ≡ false) (sym z) (past_first ss n h.1)

pub enclosed_solid : (h : Head) (ss : List Stretch) → asks_both (role h.kind) ≡ true → AreSolid ss → AreSolid (enclosed h ss)
enclosed_solid h ss a s =
    let past = past_front ss in
    let p : AreSolid past = all_dropped IsSolid (front_len ss) ss s in
    let qs : List Part = stretches_parts (before_end past) in
    let t : AreTightParts qs = solid_tight (before_end past) (all_taken IsSolid (block_len past) past p) in
    let made : IsTight (node_of h [] (before_end past) []) =
    by_both (role h.kind) (forest (children qs)) (AreTight (forest (children qs))) a (children_first is_between qs ∙ past_first ss (block_len past) s)
    (children_last is_between qs ∙ (solid_last is_between between past false p).1 refl) (tight_children qs t) in
    all_both IsSolid (front_gaps ss) (opened_by h [] past) (all_taken IsSolid (front_len ss) ss s)
    ((made, is_member (role h.kind) (or_last (asks_end (role h.kind)) (asks_both (role h.kind)) a)), all_dropped IsSolid (block_len past) past p)
