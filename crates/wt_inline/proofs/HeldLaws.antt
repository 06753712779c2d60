-- Trees hold what their parts hold, and parts hold the items that they are made of, opened.
use Rattle.std.proofs.Common.{◌≡◌, ℕ, zero, suc, ◌-◌, false, Option, Some, None, List, [], ◌∷◌, ◌++◌, take, drop, map, refl, sym, ap, ◌∙◌, append-nil}
use Rattle.std.proofs.lemmas.List.{take-append-drop, map-append}
use Rattle.std.proofs.lemmas.Grind.{flat_map-append}
use Rattle.wt_span.specs.declared.form.ItemForm.{ItemForm}
use Rattle.wt_span.specs.declared.form.ItemForm.TheVariants as form
use Rattle.wt_span.specs.Entities.{entity_at}
use Rattle.wt_span.specs.Items.{Item, char, whole, source, sources}
use Rattle.wt_span.specs.Runs.{runs, IsRun, AreRuns}
use Rattle.wt_span.proofs.RunLaws.{runs_are, runs_only, runs_alone}
use Rattle.wt_inline.specs.declared.loose.Loose.{Loose}
use Rattle.wt_inline.specs.RawTag.{opening_len, inside_len, behind, opening_of, inside_of, closing_of}
use Rattle.wt_inline.specs.Inside.{read_with, inside_items, opened_whole, opened, opened_all}
use Rattle.wt_inline.specs.ItemTree.{ItemTree, forest, tree_items, held_by_all}
use Rattle.wt_inline.specs.Parts.{Part, loose, node, held_part, held_parts, one_leaf, child, children, AreChildren, inside_part, nowiki, whole_tree, part, parts}

-- ---- children

held_child : (r others : List Part) → IsRun one_leaf r others → tree_items (child r) ≡ held_parts r
held_child [] others h = absurd h
held_child (loose k o b ∷ ps) others h = ap (λ xs. char o b ∷ xs) (append-nil (held_parts ps))
held_child (node t ∷ []) others h = sym (append-nil (tree_items t))
held_child (node t ∷ p ∷ ps) others h = let no = h.0 in cc

held_runs : (rs : List (List Part)) (ps : List Part) → AreRuns one_leaf rs ps → held_by_all (forest (map child rs)) ≡ held_parts ps
held_runs [] ps h = sym (ap held_parts h)
held_runs (r ∷ rs) ps h =
    ap (λ xs. xs ++ held_by_all (forest (map child rs))) (held_child r h.0 h.2)
    ∙ ap (λ xs. held_parts r ++ xs) (held_runs rs h.0 h.3)
    ∙ sym (ap held_parts h.1 ∙ flat_map-append held_part r h.0)

pub held_children : (ps : List Part) → held_by_all (forest (children ps)) ≡ held_parts ps
unfolding children
held_children ps = held_runs (runs one_leaf ps) ps (runs_are one_leaf ps)

-- the children are the parts, cut, and nothing else is
pub are_children : (ps : List Part) → AreChildren (children ps) ps
unfolding children
are_children ps = (runs one_leaf ps, runs_are one_leaf ps, refl)

pub only_children : (ts : List ItemTree) (ps : List Part) → AreChildren ts ps → ts ≡ children ps
unfolding children
only_children ts ps h = h.2 ∙ ap (map child) (runs_only one_leaf h.0 ps h.1)

-- a node parts what stands before it from what stands after it
left_of : (t : ItemTree) (p : Part) → one_leaf p (node t) ≡ false
left_of t (loose k o b) = refl
left_of t (node u) = refl

pub children_node : (ps qs : List Part) (t : ItemTree) → children (ps ++ node t ∷ qs) ≡ children ps ++ t ∷ children qs
unfolding children
children_node ps qs t = ap (map child) (runs_alone one_leaf (node t) ps qs (left_of t) (λ p. refl))
    ∙ map-append child (runs one_leaf ps) ((node t ∷ []) ∷ runs one_leaf qs)

-- ---- parts

held_inside_part : (x : Item) → held_part (inside_part x) ≡ x ∷ []
held_inside_part (char o b) = refl
held_inside_part (whole f o bs) = refl

held_inside_parts : (xs : List Item) → held_parts (map inside_part xs) ≡ xs
held_inside_parts [] = refl
held_inside_parts (x ∷ xs) = ap (λ ys. ys ++ held_parts (map inside_part xs)) (held_inside_part x) ∙ ap (λ ys. x ∷ ys) (held_inside_parts xs)

held_nowiki : (o : Option ℕ) (bs : List ℕ) → tree_items (nowiki o bs) ≡ opened_whole form.Nowiki o bs
unfolding nowiki
held_nowiki o bs =
    let xs = inside_items o 0 (inside_of bs) in
    ap (λ ys. map (char o) (opening_of bs) ++ (ys ++ map (char o) (closing_of bs))) (held_children (map inside_part xs) ∙ held_inside_parts xs)

held_whole : (f : ItemForm) (o : Option ℕ) (bs : List ℕ) → tree_items (whole_tree f o bs) ≡ opened_whole f o bs
held_whole form.Chars o bs = refl
held_whole (form.Entity c) o bs = refl
held_whole form.Nowiki o bs = held_nowiki o bs
held_whole form.Extension o bs = refl
held_whole form.Function o bs = refl
held_whole form.Comment o bs = refl
held_whole form.Include o bs = refl
held_whole form.Hidden o bs = refl
held_whole form.EmptyCall o bs = refl

held_one : (k : Loose) (x : Item) → held_part (part k x) ≡ opened x
held_one k (char o b) = refl
held_one k (whole f o bs) = held_whole f o bs

pub held_of_parts : (k : Loose) (xs : List Item) → held_parts (parts k xs) ≡ opened_all xs
held_of_parts k [] = refl
held_of_parts k (x ∷ xs) = ap (λ ys. ys ++ held_parts (parts k xs)) (held_one k x) ∙ ap (λ ys. opened x ++ ys) (held_of_parts k xs)

pub held_append : (ps qs : List Part) → held_parts (ps ++ qs) ≡ held_parts ps ++ held_parts qs
held_append ps qs = flat_map-append held_part ps qs

pub opened_append : (xs ys : List Item) → opened_all (xs ++ ys) ≡ opened_all xs ++ opened_all ys
opened_append xs ys = flat_map-append opened xs ys

-- ---- sources

pub sources_append : (xs ys : List Item) → sources (xs ++ ys) ≡ sources xs ++ sources ys
sources_append xs ys = flat_map-append source xs ys

pub sources_chars : (o : Option ℕ) (bs : List ℕ) → sources (map (char o) bs) ≡ bs
sources_chars o [] = refl
sources_chars o (b ∷ bs) = ap (λ cs. b ∷ cs) (sources_chars o bs)

-- the skipped bytes of an entity, and what follows them
take_rest : (n : ℕ) (bs : List ℕ) → take n bs ++ drop n bs ≡ bs
take_rest n bs = take-append-drop n bs

sources_read : (o : Option ℕ) (e : Option (ℕ × ℕ)) (b : ℕ) (bs : List ℕ) → ((n : ℕ) → sources (inside_items o n bs) ≡ drop n bs)
    → sources (read_with o e b bs (λ n. inside_items o n bs)) ≡ b ∷ bs
sources_read o None b bs h = ap (λ cs. b ∷ cs) (h 0)
sources_read o (Some e) b bs h = ap (λ cs. b ∷ cs) (ap (λ cs. take (e.1 - 1) bs ++ cs) (h (e.1 - 1)) ∙ take_rest (e.1 - 1) bs)

pub sources_inside : (o : Option ℕ) (n : ℕ) (bs : List ℕ) → sources (inside_items o n bs) ≡ drop n bs
sources_inside o zero [] = refl
sources_inside o (suc n) [] = refl
sources_inside o (suc n) (b ∷ bs) = sources_inside o n bs
sources_inside o zero (b ∷ bs) = sources_read o (entity_at (b ∷ bs)) b bs (λ n. sources_inside o n bs)

sources_nowiki : (o : Option ℕ) (bs : List ℕ) → sources (opened_whole form.Nowiki o bs) ≡ bs
sources_nowiki o bs =
    let xs = inside_items o 0 (inside_of bs) in
    sources_append (map (char o) (opening_of bs)) (xs ++ map (char o) (closing_of bs))
    ∙ ap (λ cs. cs ++ sources (xs ++ map (char o) (closing_of bs))) (sources_chars o (opening_of bs))
    ∙ ap (λ cs. opening_of bs ++ cs) (sources_append xs (map (char o) (closing_of bs)))
    ∙ ap (λ cs. opening_of bs ++ (cs ++ sources (map (char o) (closing_of bs)))) (sources_inside o 0 (inside_of bs))
    ∙ ap (λ cs. opening_of bs ++ (inside_of bs ++ cs)) (sources_chars o (closing_of bs))
    ∙ ap (λ cs. opening_of bs ++ cs) (take-append-drop (inside_len bs) (behind bs))
    ∙ take-append-drop (opening_len bs) bs

sources_whole : (f : ItemForm) (o : Option ℕ) (bs : List ℕ) → sources (opened_whole f o bs) ≡ bs
sources_whole form.Chars o bs = append-nil bs
sources_whole (form.Entity c) o bs = append-nil bs
sources_whole form.Nowiki o bs = sources_nowiki o bs
sources_whole form.Extension o bs = append-nil bs
sources_whole form.Function o bs = append-nil bs
sources_whole form.Comment o bs = append-nil bs
sources_whole form.Include o bs = append-nil bs
sources_whole form.Hidden o bs = append-nil bs
sources_whole form.EmptyCall o bs = append-nil bs

sources_one : (x : Item) → sources (opened x) ≡ source x
sources_one (char o b) = refl
sources_one (whole f o bs) = sources_whole f o bs

pub sources_opened : (xs : List Item) → sources (opened_all xs) ≡ sources xs
sources_opened [] = refl
sources_opened (x ∷ xs) = sources_append (opened x) (opened_all xs) ∙ ap (λ cs. cs ++ sources (opened_all xs)) (sources_one x)
    ∙ ap (λ cs. source x ++ cs) (sources_opened xs)
