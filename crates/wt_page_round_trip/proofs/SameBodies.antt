-- Attributes of sections, but for the mark of an edit, count for nothing.
use Rattle.std.proofs.Common.{◌≡◌, ℕ, ◌+◌, Bool, true, false, Option, Some, None, List, refl, ap, ap₂, subst, codes, ◌∙◌}
use Rattle.std.specs.Prelude.{◌&&◌, filter, if◌then◌else◌, not}
use Rattle.std.specs.Str.{bytes_eq}
use Rattle.std.proofs.lemmas.Slice.Eq.{bytes_eq-Decides}
use Rattle.wt_html_grammar.specs.Markup.{Pair, Markup, Markups, text, node, empty, more}
use Rattle.wt_schema.specs.Fit.{elements_of_all, elements_in, is_marked_root, BodyElement, body_in, body_of, fit_body, fit}
use Rattle.wt_schema.specs.Sections.{is_section_name, is_mark_pair, bared, all_bared}
use Rattle.wt_page_round_trip.specs.SameBodies.{AreSamePairs, AreSameInside, IsSamePart, AreSameParts, is_body_name, AreSameChildren, IsSameDocument}

-- ---- what stands in a body

node_by : (section : Bool) (name : List ℕ) (ps qs : List Pair) (c d : Markups) (again : Type 0) → AreSamePairs section ps qs
    → AreSameInside section c d again → (again → all_bared c ≡ all_bared d)
    → Path Markup (if section then node name (filter is_mark_pair ps) (all_bared c) else node name ps c)
    (if section then node name (filter is_mark_pair qs) (all_bared d) else node name qs d)
node_by true name ps qs c d again e h f = ap₂ (node name) e (f h)
node_by false name ps qs c d again e h f = ap₂ (node name) e h

mutual
  part_bared : (t u : Markup) → IsSamePart t u → bared t ≡ bared u
  part_bared (text was) (text bs) h = ap text h
  part_bared (text was) (node other qs d) h = absurd h
  part_bared (node name ps c) (text bs) h = absurd h
  part_bared (node name ps c) (node other qs d) h =
      subst (λ (w : List ℕ). bared (node name ps c) ≡ bared (node w qs d)) h.0
      (node_by (is_section_name name) name ps qs c d (AreSameParts c d) h.1 h.2 (λ g. parts_bared c d g))

  parts_bared : (c d : Markups) → AreSameParts c d → all_bared c ≡ all_bared d
  parts_bared empty empty h = refl
  parts_bared empty (more u us) h = absurd h
  parts_bared (more t ts) empty h = absurd h
  parts_bared (more t ts) (more u us) h = ap₂ more (part_bared t u h.0) (parts_bared ts us h.1)

-- ---- the body that is found

body_bared : (b : Bool) (c d : Markups) → AreSameInside b c d (AreSameParts c d) → all_bared c ≡ all_bared d
body_bared true c d h = parts_bared c d h
body_bared false c d h = ap all_bared h

abbrev found_if : Bool → ℕ → List Pair → Markups → Option BodyElement
found_if b n ps c = if b then Some (record { number = n; attributes = ps; contents = c }) else None

-- a head is no body, so it is the same
head_same : (name : List ℕ) (c d : Markups) → bytes_eq name (codes "head") ≡ true → AreSameInside (is_body_name name) c d (AreSameParts c d) → c ≡ d
head_same name c d e h =
    subst (λ (w : List ℕ). AreSameInside (is_body_name w) c d (AreSameParts c d)) ((bytes_eq-Decides name (codes "head")).0 e) h

head_counts : (head : Bool) (c d : Markups) (b : Bool) (ps : List Pair) (body : Markups) → (head ≡ true → c ≡ d)
    → found_if (head && b) (3 + elements_of_all c) ps body ≡ found_if (head && b) (3 + elements_of_all d) ps body
head_counts true c d b ps body h = ap (λ x. found_if b (3 + elements_of_all x) ps body) (h refl)
head_counts false c d b ps body h = refl

body_second : (head name : List ℕ) (hc kc c d : Markups) (ps : List Pair) → AreSameInside (is_body_name head) hc kc (AreSameParts hc kc)
    → AreSameInside (is_body_name name) c d (AreSameParts c d)
    → found_if (bytes_eq head (codes "head") && bytes_eq name (codes "body")) (3 + elements_of_all hc) ps (all_bared c)
    ≡ found_if (bytes_eq head (codes "head") && bytes_eq name (codes "body")) (3 + elements_of_all kc) ps (all_bared d)
body_second head name hc kc c d ps h g =
    head_counts (bytes_eq head (codes "head")) hc kc (bytes_eq name (codes "body")) ps (all_bared c) (λ e. head_same head hc kc e h)
    ∙ ap (found_if (bytes_eq head (codes "head") && bytes_eq name (codes "body")) (3 + elements_of_all kc) ps) (body_bared (is_body_name name) c d g)

elements_same : (c d : Markups) → AreSameChildren c d → AreSameChildren (elements_in c) (elements_in d)
elements_same empty empty h = tt
elements_same empty (more u us) h = absurd h
elements_same (more t ts) empty h = absurd h
elements_same (more (text was) ts) (more (text bs) us) h = elements_same ts us h.1
elements_same (more (text was) ts) (more (node other qs d) us) h = absurd h.0
elements_same (more (node name ps c) ts) (more (text bs) us) h = absurd h.0
elements_same (more (node name ps c) ts) (more (node other qs d) us) h = (h.0, elements_same ts us h.1)

found_same : (c d : Markups) → AreSameChildren c d → body_in c ≡ body_in d
found_same empty empty h = refl
found_same empty (more u us) h = absurd h
found_same (more t ts) empty h = absurd h
found_same (more (text was) ts) (more (text bs) us) h = refl
found_same (more (text was) ts) (more (node other qs d) us) h = absurd h.0
found_same (more (node name ps c) ts) (more (text bs) us) h = absurd h.0
found_same (more (node name ps c) empty) (more (node other qs d) empty) h =
    subst (λ (w : List ℕ). body_in (more (node name ps c) empty) ≡ body_in (more (node w qs d) empty)) h.0.0
    (subst (λ (xs : List Pair). body_in (more (node name ps c) empty) ≡ body_in (more (node name xs d) empty)) h.0.1
    (ap (found_if (is_body_name name) 2 ps) (body_bared (is_body_name name) c d h.0.2)))
found_same (more (node name ps c) empty) (more (node other qs d) (more u us)) h = absurd h.1
found_same (more (node name ps c) (more t ts)) (more (node other qs d) empty) h = absurd h.1
found_same (more (node name ps c) (more (text was) ts)) (more (node other qs d) (more (text bs) us)) h = refl
found_same (more (node name ps c) (more (text was) ts)) (more (node other qs d) (more (node word xs e) us)) h = absurd h.1.0
found_same (more (node name ps c) (more (node body bs b) ts)) (more (node other qs d) (more (text was) us)) h = absurd h.1.0
found_same (more (node name ps c) (more (node body bs b) empty)) (more (node other qs d) (more (node word xs e) empty)) h =
    subst (λ (w : List ℕ). body_in (more (node name ps c) (more (node body bs b) empty)) ≡ body_in (more (node w qs d) (more (node word xs e) empty))) h.0.0
    (subst (λ (w : List ℕ). body_in (more (node name ps c) (more (node body bs b) empty)) ≡ body_in (more (node name qs d) (more (node w xs e) empty))) h.1.0.0
    (subst (λ (w : List Pair). body_in (more (node name ps c) (more (node body bs b) empty)) ≡ body_in (more (node name qs d) (more (node body w e) empty))) h.1.0.1
    (body_second name body c d b e bs h.0.2 h.1.0.2)))
found_same (more (node name ps c) (more (node body bs b) empty)) (more (node other qs d) (more (node word xs e) (more u us))) h = absurd h.1.1
found_same (more (node name ps c) (more (node body bs b) (more t ts))) (more (node other qs d) (more (node word xs e) empty)) h = absurd h.1.1
found_same (more (node name ps c) (more (node body bs b) (more t ts))) (more (node other qs d) (more (node word xs e) (more u us))) h = refl

body_same : (m n : Markup) → IsSameDocument m n → body_of m ≡ body_of n
body_same (text was) (text bs) h = refl
body_same (text was) (node other qs d) h = absurd h
body_same (node name ps c) (text bs) h = absurd h
body_same (node name ps c) (node other qs d) h =
    subst (λ (w : List ℕ). body_of (node name ps c) ≡ body_of (node w qs d)) h.0
    (subst (λ (w : List Pair). body_of (node name ps c) ≡ body_of (node name w d)) h.1
    (ap (λ o. if bytes_eq name (codes "html") && not (is_marked_root ps) then o else None)
    (found_same (elements_in c) (elements_in d) (elements_same c d h.2))))

pub fit_same : (m n : Markup) → IsSameDocument m n → fit m ≡ fit n
fit_same m n h = ap fit_body (body_same m n h)
