-- What a call gives among the parts of a block is a group of the nodes that it gives on a line by itself.
use Rattle.std.proofs.Common.{arith, ◌≡◌, ◌⊎◌, inl, inr, ℕ, ◌==◌, Bool, true, false, not, Option, None, Some, List, [], ◌∷◌, ◌++◌, map, refl, sym, ap, ◌∙◌, subst}
use Rattle.std.specs.Prelude.{◌&&◌, if◌then◌else◌}
use Rattle.std.proofs.lemmas.Bool.Decides.{nat_tests}
use Rattle.std.proofs.lemmas.List.{map-append}
use Rattle.wt_span.specs.Items.{Item, call_of}
use Rattle.wt_span.specs.Origins.{same_call}
use Rattle.wt_span.specs.Runs.{put, runs, IsRun, AreRuns}
use Rattle.wt_span.proofs.RunLaws.{runs_cut, runs_are}
use Rattle.wt_inline.specs.declared.loose.Loose.TheVariants.{Text, Sep}
use Rattle.wt_inline.specs.ItemTree.{ItemTree}
use Rattle.wt_inline.specs.Parts.{Part, loose, node, held_parts, same_loose, same_origin, one_leaf, child, children}
use Rattle.wt_inline.proofs.HeldLaws.{held_children}
use Rattle.wt_context.specs.Line.{line_parts}
use Rattle.wt_annotated.specs.Seams.{first_of, parted}
use Rattle.wt_part_laws.specs.CallPieces.{IsOfCall, AreOfCall, IsRoundNode, ArePieceNodes, CallPiece, own, given, given_before, piece_before, call_pieces}
use Rattle.wt_part_laws.specs.Rounded.{IsOwn}
use Rattle.wt_part_laws.proofs.CallPieces.{IsApart, own_first, first_of_call, children_given, behind_call}
use Rattle.wt_part_laws.proofs.CallTexts.{itself, same_is}
use Rattle.wt_beside_laws.specs.Called.{ArePageParts}
use Rattle.wt_beside_laws.specs.Given.{AreGivenBy, GivesSigns}
use Rattle.wt_beside_laws.specs.RoundCalls.{IsRoundCalls}
use Rattle.wt_beside_laws.proofs.Groups.Faults.{node_first}
use Rattle.wt_beside_laws.proofs.Groups.GivenNodes.{by_call_children}
use Rattle.wt_beside_laws.proofs.Groups.RoundNodes.{deep_round}
use Rattle.wt_called_edit_laws.specs.WholeContents.{of_call, AreGroups}
use Rattle.wt_called_edit_laws.proofs.Whole.OfCall.{of_here}

-- ---- no item of this call is first

abbrev pub IsPastCall : ℕ → List Part → Type 0
IsPastCall j ps = parted (Some j) (first_of (held_parts ps) None) ≡ true

other_way : (i j : ℕ) → (i == j) ≡ false → not (j == i) ≡ true
other_way i j e = grind (arith, nat_tests, e)

other_parted : (j : ℕ) (o : Option ℕ) → same_call o (Some j) ≡ false → parted (Some j) o ≡ true
other_parted j None e = refl
other_parted j (Some i) e = other_way i j e

pub past_first : (j : ℕ) (xs : List Item) → of_call j xs ≡ [] → parted (Some j) (first_of xs None) ≡ true
past_first j [] e = refl
past_first j (x ∷ xs) e = by (same_call (call_of x) (Some j)) refl
  where
    by : (v : Bool) → same_call (call_of x) (Some j) ≡ v → parted (Some j) (call_of x) ≡ true
    by true f = let no : x ∷ of_call j xs ≡ [] = sym (of_here j x xs f) ∙ e in cc
    by false f = other_parted j (call_of x) f

-- ---- nodes of the call, and those behind them

not_same : (j i : ℕ) → not (j == i) ≡ true → (j == i) ≡ false
not_same j i e = by (j == i) e
  where
    by : (v : Bool) → not v ≡ true → v ≡ false
    by true f = cc
    by false f = refl

origin_other : (j : ℕ) (p : Option ℕ) → parted (Some j) p ≡ true → same_origin (Some j) p ≡ false
origin_other j None e = refl
origin_other j (Some i) e = not_same j i e

and_right : (u v : Bool) → v ≡ false → (u && v) ≡ false
and_right true v e = e
and_right false v e = refl

-- the last part doesn't go on with what is behind it
last_apart : (j : ℕ) (g : Part) (qs : List Part) → AreGivenBy j (g ∷ []) → IsPastCall j qs → IsRun one_leaf (g ∷ []) qs
last_apart j g [] h e = tt
last_apart j (loose Text o b) (loose k p c ∷ qs) h e =
    and_right (same_loose Text k) (same_origin o p) (ap (λ (x : Option ℕ). same_origin x p) h.0 ∙ origin_other j p e)
last_apart j (loose Text o b) (node t ∷ qs) h e = refl
last_apart j (loose Sep o b) (q ∷ qs) h e = absurd h
last_apart j (node t) (loose k p c ∷ qs) h e = refl
last_apart j (node t) (node u ∷ qs) h e = refl

first_by : (j : ℕ) (g : Part) (gs : List Part) → AreGivenBy j (g ∷ gs) → AreGivenBy j (g ∷ []) × AreGivenBy j gs
first_by j (loose Text o b) gs h = ((h.0, tt), h.1)
first_by j (loose Sep o b) gs h = absurd h
first_by j (node t) gs h = ((h.0, tt), h.1)

put_front : (g : Part) (rs ss : List (List Part)) (xs : List Part) → AreRuns one_leaf rs xs → (xs ≡ [] → ⊥) → put one_leaf g (rs ++ ss) ≡ put one_leaf g rs ++ ss
put_front g [] ss xs a some = absurd (some a)
put_front g ([] ∷ rs) ss xs a some = absurd a.2
put_front g ((y ∷ ys) ∷ rs) ss xs a some = by (one_leaf g y)
  where
    by : (v : Bool) → (if v then (g ∷ y ∷ ys) ∷ (rs ++ ss) else (g ∷ []) ∷ (y ∷ ys) ∷ (rs ++ ss))
        ≡ (if v then (g ∷ y ∷ ys) ∷ rs else (g ∷ []) ∷ (y ∷ ys) ∷ rs) ++ ss
    by true = refl
    by false = refl

runs_both : (j : ℕ) (gs qs : List Part) → AreGivenBy j gs → IsPastCall j qs → runs one_leaf (gs ++ qs) ≡ runs one_leaf gs ++ runs one_leaf qs
runs_both j [] qs h e = refl
runs_both j (g ∷ []) qs h e = runs_cut one_leaf (g ∷ []) qs (last_apart j g qs h e)
runs_both j (g ∷ k ∷ gs) qs h e =
    let rest = first_by j g (k ∷ gs) h in
    ap (put one_leaf g) (runs_both j (k ∷ gs) qs rest.1 e)
    ∙ put_front g (runs one_leaf (k ∷ gs)) (runs one_leaf qs) (k ∷ gs) (runs_are one_leaf (k ∷ gs)) (λ z. cc)

children_both : (j : ℕ) (gs qs : List Part) → AreGivenBy j gs → IsPastCall j qs → children (gs ++ qs) ≡ children gs ++ children qs
unfolding children
children_both j gs qs h e = ap (map child) (runs_both j gs qs h e) ∙ map-append child (runs one_leaf gs) (runs one_leaf qs)

-- ---- they are one group

before_apart : (j : ℕ) (t : ItemTree) (ps : List CallPiece) → IsApart (Some j) ps → given_before j t ps ≡ given j t [] ∷ ps
before_apart j t [] e = refl
before_apart j t (own u ∷ ps) e = refl
before_apart j t (given k u us ∷ ps) e = ap (λ (v : Bool). if v then given j t (u ∷ us) ∷ ps else given j t [] ∷ given k u us ∷ ps) (not_same j k e)

one_piece : (j : ℕ) (t : ItemTree) (ts us : List ItemTree) → IsOfCall j t → AreOfCall j ts → IsApart (Some j) (call_pieces us)
    → call_pieces (t ∷ (ts ++ us)) ≡ given j t ts ∷ call_pieces us
one_piece j t [] us h k e =
    ap (λ (c : Option ℕ). piece_before c t (call_pieces us)) (first_of_call j t None h) ∙ before_apart j t (call_pieces us) e
one_piece j t (u ∷ ts) us h k e =
    ap (λ (c : Option ℕ). piece_before c t (call_pieces (u ∷ (ts ++ us)))) (first_of_call j t None h)
    ∙ ap (given_before j t) (one_piece j u ts us k.0 k.1 e)
    ∙ ap (λ (v : Bool). if v then given j t (u ∷ ts) ∷ call_pieces us else given j t [] ∷ given j u ts ∷ call_pieces us) (itself j)

pub groups_call : (xs : List Item) (j : ℕ) (qs : List Part) → AreGivenBy j (line_parts (of_call j xs)) → GivesSigns j (of_call j xs) → ArePieceNodes qs → IsPastCall j qs
    → AreGroups xs (call_pieces (children qs)) → AreGroups xs (call_pieces (children (line_parts (of_call j xs) ++ qs)))
groups_call xs j qs h g o e k =
    subst (λ (ts : List ItemTree). AreGroups xs (call_pieces ts)) (sym (children_both j (line_parts (of_call j xs)) qs h e))
    (by (children (line_parts (of_call j xs))) refl (by_call_children j (line_parts (of_call j xs)) h))
  where
    apart : IsApart (Some j) (call_pieces (children qs))
    apart =
        behind_call (Some j) (children qs) (children_given qs o)
        (ap (λ (ys : List Item). parted (Some j) (first_of ys None)) (held_children qs) ∙ e)

    by : (ts : List ItemTree) → ts ≡ children (line_parts (of_call j xs)) → AreOfCall j ts → AreGroups xs (call_pieces (ts ++ children qs))
    by [] i a = k
    by (t ∷ ts) i a = subst (AreGroups xs) (sym (one_piece j t ts (children qs) a.0 a.1 apart)) (g, i, k)

-- ---- and what is the page's own is no part of it

char_put : (xs : List Item) (b : ℕ) (rs : List (List Part)) (ps : List Part) → AreRuns one_leaf rs ps → AreGroups xs (call_pieces (map child rs))
    → AreGroups xs (call_pieces (map child (put one_leaf (loose Text None b) rs)))
char_put xs b [] ps a h = tt
char_put xs b ([] ∷ rs) ps a h = absurd a.2
char_put xs b ((node t ∷ r) ∷ rs) ps a h = h
char_put xs b ((loose Sep o c ∷ r) ∷ rs) ps a h = h
char_put xs b ((loose Text o c ∷ r) ∷ rs) ps a h = by (same_origin None o) refl
  where
    joined : o ≡ None → AreGroups xs (call_pieces (child (loose Text None b ∷ loose Text o c ∷ r) ∷ map child rs))
    joined e =
        let was : AreGroups xs (call_pieces (child (loose Text None c ∷ r) ∷ map child rs)) =
        subst (λ (x : Option ℕ). AreGroups xs (call_pieces (child (loose Text x c ∷ r) ∷ map child rs))) e h in was

    by : (v : Bool) → same_origin None o ≡ v
        → AreGroups xs (call_pieces (map child (if v then (loose Text None b ∷ loose Text o c ∷ r) ∷ rs else (loose Text None b ∷ []) ∷ (loose Text o c ∷ r) ∷ rs)))
    by true e = joined (sym (same_is None o e))
    by false e = h

groups_char : (xs : List Item) (o : Option ℕ) (b : ℕ) (qs : List Part) → o ≡ None → AreGroups xs (call_pieces (children qs))
    → AreGroups xs (call_pieces (children (loose Text o b ∷ qs)))
unfolding children
groups_char xs o b qs e h =
    subst (λ (x : Option ℕ). AreGroups xs (call_pieces (map child (put one_leaf (loose Text x b) (runs one_leaf qs))))) (sym e)
    (char_put xs b (runs one_leaf qs) qs (runs_are one_leaf qs) h)

pub groups_node : (xs : List Item) (t : ItemTree) (qs : List Part) → IsOwn t ⊎ IsRoundNode t → AreGroups xs (call_pieces (children qs))
    → AreGroups xs (call_pieces (children (node t ∷ qs)))
groups_node xs t qs k h =
    subst (λ (ts : List ItemTree). AreGroups xs (call_pieces ts)) (sym (node_first t qs))
    (subst (λ (c : Option ℕ). AreGroups xs (piece_before c t (call_pieces (children qs)))) (sym (own_first t None k)) h)

pub groups_round : (xs mine : List Item) (qs : List Part) → IsRoundCalls mine → AreGroups xs (call_pieces (children qs))
    → AreGroups xs (call_pieces (children (line_parts mine ++ qs)))
groups_round xs mine qs r h =
    subst (λ (ps : List Part). AreGroups xs (call_pieces (children (ps ++ qs)))) (sym r.is) (groups_node xs r.tree qs (inr (deep_round r.tree r.deep)) h)

pub groups_page : (xs : List Item) (ps qs : List Part) → ArePageParts ps → AreGroups xs (call_pieces (children qs))
    → AreGroups xs (call_pieces (children (ps ++ qs)))
groups_page xs [] qs k h = h
groups_page xs (loose Text o b ∷ ps) qs k h = groups_char xs o b (ps ++ qs) k.0 (groups_page xs ps qs k.1 h)
groups_page xs (loose Sep o b ∷ ps) qs k h = absurd k
groups_page xs (node t ∷ ps) qs k h = groups_node xs t (ps ++ qs) (inl k.0) (groups_page xs ps qs k.1 h)
