-- The children of a node, by its parts: which of them are separators, and that each is tight.
use Rattle.std.proofs.Common.{◌≡◌, Bool, true, false, List, [], ◌∷◌, ◌++◌, map, refl, sym, ap, ◌∙◌, subst}
use Rattle.std.specs.List.{AllByRecursion}
use Rattle.std.proofs.lemmas.List.{map-append}
use Rattle.wt_span.specs.Runs.{runs, IsRun, AreRuns}
use Rattle.wt_span.proofs.RunLaws.{runs_are}
use Rattle.wt_inline.specs.declared.loose.Loose.{Loose}
use Rattle.wt_inline.specs.declared.loose.Loose.TheVariants.{Text, Sep}
use Rattle.wt_inline.specs.ItemTree.{ItemTree, inner, forest}
use Rattle.wt_inline.specs.Parts.{Part, loose, node, one_leaf, child, children}
use Rattle.wt_page_laws.specs.Roles.{Role, separator, other, role_of, is_separator}
use Rattle.wt_page_laws.specs.Ends.{IsTightBy, tested, first_is, last_is, HasNone, IsTight, AreTight}
use Rattle.wt_page_laws.proofs.LineWords.{IsWord, AreWords}

-- ---- which are separators

abbrev pub role_of_loose : Loose → Role
role_of_loose Text = other
role_of_loose Sep = separator

abbrev pub part_passes : (Role → Bool) → Part → Bool
part_passes test (loose k o b) = test (role_of_loose k)
part_passes test (node t) = test (role_of t)

abbrev pub parts_pass : (Role → Bool) → List Part → List Bool
parts_pass test ps = map (part_passes test) ps

child_is : (test : Role → Bool) (p : Part) (ps : List Part) → test (role_of (child (p ∷ ps))) ≡ part_passes test p
child_is test (loose Text o b) ps = refl
child_is test (loose Sep o b) ps = refl
child_is test (node t) ps = refl

pub last_append : (b : Bool) (xs ys : List Bool) → last_is b (xs ++ ys) ≡ last_is (last_is b xs) ys
last_append b [] ys = refl
last_append b (x ∷ xs) ys = last_append x xs ys

same_part : (test : Role → Bool) (p q : Part) → one_leaf p q ≡ true → part_passes test p ≡ part_passes test q
same_part test (loose Text o b) (loose Text j c) e = refl
same_part test (loose Text o b) (loose Sep j c) e = cc
same_part test (loose Sep o b) (loose Text j c) e = cc
same_part test (loose Sep o b) (loose Sep j c) e = refl
same_part test (loose k o b) (node t) e = cc
same_part test (node t) q e = cc

run_last : (test : Role → Bool) (b : Bool) (p : Part) (ps others : List Part) → IsRun one_leaf (p ∷ ps) others
    → last_is b (parts_pass test (p ∷ ps)) ≡ part_passes test p
run_last test b p [] others h = refl
run_last test b p (q ∷ ps) others h = run_last test (part_passes test p) q ps others h.1 ∙ sym (same_part test p q h.0)

runs_last : (test : Role → Bool) (b : Bool) (rs : List (List Part)) (ps : List Part) → AreRuns one_leaf rs ps
    → last_is b (tested test (forest (map child rs))) ≡ last_is b (parts_pass test ps)
runs_last test b [] ps h = sym (ap (λ qs. last_is b (parts_pass test qs)) h)
runs_last test b ([] ∷ rs) ps h = absurd h.2
runs_last test b ((p ∷ r) ∷ rs) ps h =
    ap (λ c. last_is c (tested test (forest (map child rs)))) (child_is test p r)
    ∙ runs_last test (part_passes test p) rs h.0 h.3
    ∙ ap (λ c. last_is c (parts_pass test h.0)) (sym (run_last test b p r h.0 h.2))
    ∙ sym (ap (λ qs. last_is b (parts_pass test qs)) h.1 ∙ ap (last_is b) (map-append (part_passes test) (p ∷ r) h.0)
    ∙ last_append b (parts_pass test (p ∷ r)) (parts_pass test h.0))

pub children_last : (test : Role → Bool) (ps : List Part) → last_is false (tested test (forest (children ps))) ≡ last_is false (parts_pass test ps)
unfolding children
children_last test ps = runs_last test false (runs one_leaf ps) ps (runs_are one_leaf ps)

runs_first : (test : Role → Bool) (rs : List (List Part)) (ps : List Part) → AreRuns one_leaf rs ps
    → first_is (tested test (forest (map child rs))) ≡ first_is (parts_pass test ps)
runs_first test [] ps h = sym (ap (λ qs. first_is (parts_pass test qs)) h)
runs_first test ([] ∷ rs) ps h = absurd h.2
runs_first test ((p ∷ r) ∷ rs) ps h = child_is test p r ∙ sym (ap (λ qs. first_is (parts_pass test qs)) h.1)

pub children_first : (test : Role → Bool) (ps : List Part) → first_is (tested test (forest (children ps))) ≡ first_is (parts_pass test ps)
unfolding children
children_first test ps = runs_first test (runs one_leaf ps) ps (runs_are one_leaf ps)

-- ---- words are none

pub word_is : (p : Part) → IsWord p → part_passes is_separator p ≡ false
word_is (loose k o b) h = ap (λ j. is_separator (role_of_loose j)) h
word_is (node t) h = ap is_separator h

abbrev pub AreNoGaps : List Part → Type 0
AreNoGaps ps = AllByRecursion (λ p. part_passes is_separator p ≡ false) ps

pub words_no_gaps : (ps : List Part) → AreWords ps → AreNoGaps ps
words_no_gaps [] w = tt
words_no_gaps (p ∷ ps) w = (word_is p w.0, words_no_gaps ps w.1)

runs_none : (rs : List (List Part)) (ps : List Part) → AreRuns one_leaf rs ps → AreNoGaps ps → HasNone (forest (map child rs))
runs_none [] ps h w = tt
runs_none ([] ∷ rs) ps h w = absurd h.2
runs_none ((p ∷ r) ∷ rs) ps h w =
    let v : AreNoGaps ((p ∷ r) ++ h.0) = subst AreNoGaps h.1 w in
    (child_is is_separator p r ∙ v.0, runs_none rs h.0 h.3 (behind r h.0 v.1))
  where
    behind : (qs os : List Part) → AreNoGaps (qs ++ os) → AreNoGaps os
    behind [] os v = v
    behind (q ∷ qs) os v = behind qs os v.1

pub none_among : (ps : List Part) → AreNoGaps ps → HasNone (forest (children ps))
unfolding children
none_among ps w = runs_none (runs one_leaf ps) ps (runs_are one_leaf ps) w

-- behind words the last isn't one
pub words_last : (ps : List Part) → AreWords ps → last_is false (parts_pass is_separator ps) ≡ false
words_last ps w = by ps false refl w
  where
    by : (qs : List Part) (b : Bool) → b ≡ false → AreWords qs → last_is b (parts_pass is_separator qs) ≡ false
    by [] b e v = e
    by (q ∷ qs) b e v = by qs (part_passes is_separator q) (word_is q v.0) v.1

-- ---- tight children

abbrev pub IsTightPart : Part → Type 0
IsTightPart (loose k o b) = Unit {0}
IsTightPart (node t) = IsTight t

abbrev pub AreTightParts : List Part → Type 0
AreTightParts ps = AllByRecursion IsTightPart ps

pub other_tight : (t : ItemTree) → role_of t ≡ other → IsTight t
other_tight (inner h opening ts closing) e = subst (λ r. IsTightBy r ts (AreTight ts)) (sym e) tt

pub words_tight : (ps : List Part) → AreWords ps → AreTightParts ps
words_tight [] w = tt
words_tight (loose k o b ∷ ps) w = (tt, words_tight ps w.1)
words_tight (node t ∷ ps) w = (other_tight t w.0, words_tight ps w.1)

tight_child : (p : Part) (ps : List Part) → IsTightPart p → IsTight (child (p ∷ ps))
tight_child (loose Text o b) ps h = tt
tight_child (loose Sep o b) ps h = tt
tight_child (node t) ps h = h

tight_runs : (rs : List (List Part)) (ps : List Part) → AreRuns one_leaf rs ps → AreTightParts ps → AreTight (forest (map child rs))
tight_runs [] ps h w = tt
tight_runs ([] ∷ rs) ps h w = absurd h.2
tight_runs ((p ∷ r) ∷ rs) ps h w =
    let v : AreTightParts ((p ∷ r) ++ h.0) = subst AreTightParts h.1 w in
    (tight_child p r v.0, tight_runs rs h.0 h.3 (tight_behind r h.0 v.1))
  where
    tight_behind : (qs os : List Part) → AreTightParts (qs ++ os) → AreTightParts os
    tight_behind [] os v = v
    tight_behind (q ∷ qs) os v = tight_behind qs os v.1

pub tight_children : (ps : List Part) → AreTightParts ps → AreTight (forest (children ps))
unfolding children
tight_children ps w = tight_runs (runs one_leaf ps) ps (runs_are one_leaf ps) w
