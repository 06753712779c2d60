-- What is told of each child, by the parts of a node: nothing of what stands on a line and of separators.
use Rattle.std.proofs.Common.{◌≡◌, ◌⊎◌, List, [], ◌∷◌, ◌++◌, map, refl, sym, ap, ◌∙◌, inl, inr, append-nil}
use Rattle.std.specs.List.{flat_map}
use Rattle.std.proofs.lemmas.Grind.{flat_map-append}
use Rattle.wt_span.specs.Items.{Item, char, whole}
use Rattle.wt_span.specs.Runs.{runs, IsRun, AreRuns}
use Rattle.wt_span.proofs.RunLaws.{runs_are}
use Rattle.wt_inline.specs.declared.loose.Loose.TheVariants.{Text, Sep}
use Rattle.wt_inline.specs.ItemTree.{Head, ItemTree, forest}
use Rattle.wt_inline.specs.Parts.{Part, loose, node, parts, one_leaf, child, children}
use Rattle.wt_context.specs.Line.{line_parts}
use Rattle.wt_page.specs.Stretches.{Stretch, gap, block, stretch_parts, stretches_parts, before_end, end_gaps, node_of, opened_by}
use Rattle.wt_page_laws.specs.Roles.{other, separator, role_of}
use Rattle.wt_page_laws.specs.Members.{of_each}
use Rattle.wt_page_laws.proofs.LineWords.{AreWords, whole_role, line_words}
use Rattle.wt_page_laws.proofs.EndGaps.{AreGaps, end_are_gaps}

-- nothing is told of separators and of what stands on a line
abbrev pub TellsNone : {A : Type 0} → (ItemTree → List A) → Type 0
TellsNone told = (t : ItemTree) → (role_of t ≡ other) ⊎ (role_of t ≡ separator) → told t ≡ []

abbrev pub part_told : {A : Type 0} → (ItemTree → List A) → Part → List A
part_told told (loose k o b) = []
part_told told (node t) = told t

abbrev pub parts_told : {A : Type 0} → (ItemTree → List A) → List Part → List A
parts_told told ps = flat_map (part_told told) ps

loose_run : {A : Type 0} (told : ItemTree → List A) (p : Part) (ps others : List Part) → IsRun one_leaf (p ∷ ps) others → part_told told p ≡ []
    → parts_told told (p ∷ ps) ≡ []
loose_run told p [] others h e = append-nil (part_told told p) ∙ e
loose_run told (loose k o b) (loose j i c ∷ ps) others h e = loose_run told (loose j i c) ps others h.1 refl
loose_run told (loose k o b) (node t ∷ ps) others h e = absurd (let no = h.0 in cc)
loose_run told (node t) (q ∷ ps) others h e = absurd (let no = h.0 in cc)

run_told : {A : Type 0} (told : ItemTree → List A) → TellsNone told → (p : Part) (ps others : List Part) → IsRun one_leaf (p ∷ ps) others
    → told (child (p ∷ ps)) ≡ parts_told told (p ∷ ps)
run_told told n (loose Text o b) ps others h = n _ (inl refl) ∙ sym (loose_run told (loose Text o b) ps others h refl)
run_told told n (loose Sep o b) ps others h = n _ (inr refl) ∙ sym (loose_run told (loose Sep o b) ps others h refl)
run_told told n (node t) [] others h = sym (append-nil (told t))
run_told told n (node t) (q ∷ ps) others h = absurd (let no = h.0 in cc)

runs_told : {A : Type 0} (told : ItemTree → List A) → TellsNone told → (rs : List (List Part)) (ps : List Part) → AreRuns one_leaf rs ps
    → of_each told (forest (map child rs)) ≡ parts_told told ps
runs_told told n [] ps h = sym (ap (parts_told told) h)
runs_told told n ([] ∷ rs) ps h = absurd h.2
runs_told told n ((p ∷ r) ∷ rs) ps h =
    ap (λ ns. ns ++ of_each told (forest (map child rs))) (run_told told n p r h.0 h.2)
    ∙ ap (λ ns. parts_told told (p ∷ r) ++ ns) (runs_told told n rs h.0 h.3)
    ∙ sym (ap (parts_told told) h.1 ∙ flat_map-append (part_told told) (p ∷ r) h.0)

pub children_told : {A : Type 0} (told : ItemTree → List A) → TellsNone told → (ps : List Part) → of_each told (forest (children ps)) ≡ parts_told told ps
unfolding children
children_told told n ps = runs_told told n (runs one_leaf ps) ps (runs_are one_leaf ps)

-- ---- what stands on a line, and gaps

pub words_told : {A : Type 0} (told : ItemTree → List A) → TellsNone told → (ps : List Part) → AreWords ps → parts_told told ps ≡ []
words_told told n [] w = refl
words_told told n (loose k o b ∷ ps) w = words_told told n ps w.1
words_told told n (node t ∷ ps) w = ap (λ ns. ns ++ parts_told told ps) (n t (inl w.0)) ∙ words_told told n ps w.1

gap_told : {A : Type 0} (told : ItemTree → List A) → TellsNone told → (xs : List Item) → parts_told told (parts Sep xs) ≡ []
gap_told told n [] = refl
gap_told told n (char o b ∷ xs) = gap_told told n xs
gap_told told n (whole f o bs ∷ xs) = ap (λ ns. ns ++ parts_told told (parts Sep xs)) (n _ (inl (whole_role f o bs))) ∙ gap_told told n xs

-- ---- stretches

abbrev pub told_in : {A : Type 0} → (ItemTree → List A) → List Stretch → List A
told_in told ss = parts_told told (stretches_parts ss)

pub in_both : {A : Type 0} (told : ItemTree → List A) (ss ts : List Stretch) → told_in told (ss ++ ts) ≡ told_in told ss ++ told_in told ts
in_both told ss ts = ap (parts_told told) (flat_map-append stretch_parts ss ts) ∙ flat_map-append (part_told told) (stretches_parts ss) (stretches_parts ts)

pub behind_gap : {A : Type 0} (told : ItemTree → List A) → TellsNone told → (xs : List Item) (ss : List Stretch) → told_in told (gap xs ∷ ss) ≡ told_in told ss
behind_gap told n xs ss = flat_map-append (part_told told) (parts Sep xs) (stretches_parts ss) ∙ ap (λ ns. ns ++ told_in told ss) (gap_told told n xs)

pub gaps_told : {A : Type 0} (told : ItemTree → List A) → TellsNone told → (ss : List Stretch) → AreGaps ss → told_in told ss ≡ []
gaps_told told n [] g = refl
gaps_told told n (gap xs ∷ ss) g = behind_gap told n xs ss ∙ gaps_told told n ss g.1
gaps_told told n (block ps ∷ ss) g = absurd (let e = g.0 in cc)

pub behind_line : {A : Type 0} (told : ItemTree → List A) → TellsNone told → (xs : List Item) (ss : List Stretch)
    → told_in told (block (line_parts xs) ∷ ss) ≡ told_in told ss
behind_line told n xs ss =
    flat_map-append (part_told told) (line_parts xs) (stretches_parts ss) ∙ ap (λ ns. ns ++ told_in told ss) (words_told told n (line_parts xs) (line_words xs))

-- a node before what lies outside it
pub of_opened : {A : Type 0} (told : ItemTree → List A) → TellsNone told → (h : Head) (opening : List Item) (ss : List Stretch)
    → told_in told (opened_by h opening ss) ≡ told (node_of h opening (before_end ss) [])
of_opened told n h opening ss =
    ap (λ ns. told (node_of h opening (before_end ss) []) ++ ns) (gaps_told told n (end_gaps ss) (end_are_gaps ss))
    ∙ append-nil (told (node_of h opening (before_end ss) []))
