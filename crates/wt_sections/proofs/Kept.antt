-- What sections leave as it is: numbers, the source and what is shown.
use Rattle.std.proofs.Common.{◌≡◌, ℕ, zero, suc, ◌+◌, Bool, true, false, Option, Some, None, List, [], ◌∷◌, ◌++◌, arith, length, refl, sym, ap, ap₂, ◌∙◌, subst, cond, append_assoc, append-nil}
use Rattle.std.specs.Prelude.{All}
use Rattle.std.specs.List.{AllByRecursion, range_with_len}
use Rattle.std.proofs.lemmas.List.Elements.{All-from_recursion, recursion_from_All}
use Rattle.wt_tree.specs.Kinds.{is_leaf, is_numbered, showing}
use Rattle.wt_tree.specs.Plain.{Plains, ended, plain, plain_before, plains_before, shown_before}
use Rattle.wt_tree.specs.Source.{flat, flat_of_all}
use Rattle.wt_tree.specs.Tiling.{InPreorder, is_group, numbers, numbers_of_all, ids, ids_of_all, others, others_of_all}
use Rattle.wt_tree.specs.Tree.{Tree, tree, Trees, none, more}
use Rattle.wt_sections.specs.Sections.{Part, level_of, ends, opens, before, from, put, parts, part_trees, section, lead_if_any, gathered, with_sections}

-- ---- whatever is read off children one after another, and off a section as off what it holds

abbrev pub all_before : {X : Type 0} → (Tree → X → X) → Trees → X → X
all_before g none rest = rest
all_before g (more t ts) rest = g t (all_before g ts rest)

abbrev pub PassesSections : {X : Type 0} → (Tree → X → X) → Type 0
PassesSections {X} g = (n : ℕ) (t : Tree) (us : Trees) (rest : X) → g (section n t us) rest ≡ g t (all_before g us rest)

cut_stays : {X : Type 0} (g : Tree → X → X) (limit : Option ℕ) (ps : List Part) (rest : X)
    → all_before g (before limit ps) (all_before g (part_trees (from limit ps)) rest) ≡ all_before g (part_trees ps) rest
cut_stays g limit [] rest = refl
cut_stays {X} g limit (p ∷ ps) rest = by_test (ends limit p.level) (cut_stays g limit ps rest)
  where
    by_test : (v : Bool)
        → all_before g (before limit ps) (all_before g (part_trees (from limit ps)) rest) ≡ all_before g (part_trees ps) rest
        → all_before g (cond v none (more p.tree (before limit ps))) (all_before g (part_trees (cond v (p ∷ ps) (from limit ps))) rest)
        ≡ g p.tree (all_before g (part_trees ps) rest)
    by_test true h = refl
    by_test false h = ap (g p.tree) h

put_stays : {X : Type 0} (g : Tree → X → X) → PassesSections g → (o : Option ℕ) (n : ℕ) (t : Tree) (ps : List Part) (rest : X)
    → all_before g (part_trees (put n o t ps)) rest ≡ g t (all_before g (part_trees ps) rest)
put_stays g h None n t ps rest = refl
put_stays g h (Some level) n t ps rest =
    h n t (before (Some level) ps) (all_before g (part_trees (from (Some level) ps)) rest) ∙ ap (g t) (cut_stays g (Some level) ps rest)

parts_stay : {X : Type 0} (g : Tree → X → X) → PassesSections g → (ts : Trees) (n : ℕ) (rest : X)
    → all_before g (part_trees (parts n ts)) rest ≡ all_before g ts rest
parts_stay g h none n rest = refl
parts_stay g h (more t ts) n rest =
    put_stays g h (level_of t) n t (parts (n + opens (level_of t)) ts) rest
    ∙ ap (g t) (parts_stay g h ts (n + opens (level_of t)) rest)

lead_stays : {X : Type 0} (g : Tree → X → X) → PassesSections g → (us vs : Trees) (rest : X)
    → all_before g (lead_if_any us vs) rest ≡ all_before g us (all_before g vs rest)
lead_stays g h none vs rest = refl
lead_stays g h (more t us) vs rest = h 0 t us (all_before g vs rest)

pub all_stay : {X : Type 0} (g : Tree → X → X) → PassesSections g → (ts : Trees) (rest : X) → all_before g (gathered ts) rest ≡ all_before g ts rest
all_stay g h ts rest =
    lead_stays g h (before None (parts 1 ts)) (part_trees (from None (parts 1 ts))) rest
    ∙ cut_stays g None (parts 1 ts) rest
    ∙ parts_stay g h ts 1 rest

-- ---- what is shown

plains_are : (ts : Trees) (rest : Plains) → plains_before ts rest ≡ all_before plain_before ts rest
plains_are none rest = refl
plains_are (more t ts) rest = ap (plain_before t) (plains_are ts rest)

pub plains_stay : (ts : Trees) (rest : Plains) → plains_before (gathered ts) rest ≡ plains_before ts rest
plains_stay ts rest =
    plains_are (gathered ts) rest
    ∙ all_stay plain_before (λ n t us ps. ap (plain_before t) (plains_are us ps)) ts rest
    ∙ sym (plains_are ts rest)

pub shown : (t : Tree) → plain (with_sections t) ≡ plain t
shown (tree l ts) = λ i. shown_before (showing l.kind) l (λ ps. plains_stay ts ps i) ended

-- ---- lists that are joined, child by child

joined_are : {X : Type 0} (f : Tree → List X) (all : Trees → List X) → all none ≡ [] → ((t : Tree) (ts : Trees) → all (more t ts) ≡ f t ++ all ts)
    → (ts : Trees) (rest : List X) → all ts ++ rest ≡ all_before (λ t xs. f t ++ xs) ts rest
joined_are f all e h none rest = ap (λ xs. xs ++ rest) e
joined_are f all e h (more t ts) rest =
    ap (λ xs. xs ++ rest) (h t ts) ∙ append_assoc (f t) (all ts) rest ∙ ap (λ xs. f t ++ xs) (joined_are f all e h ts rest)

joined_stay : {X : Type 0} (f : Tree → List X) (all : Trees → List X) → all none ≡ [] → ((t : Tree) (ts : Trees) → all (more t ts) ≡ f t ++ all ts)
    → ((n : ℕ) (t : Tree) (us : Trees) → f (section n t us) ≡ f t ++ all us) → (ts : Trees) → all (gathered ts) ≡ all ts
joined_stay {X} f all e h s ts =
    let passes : PassesSections (λ t xs. f t ++ xs) =
    λ n t us rest.
    ap (λ (xs : List X). xs ++ rest) (s n t us) ∙ append_assoc (f t) (all us) rest ∙ ap (λ xs. f t ++ xs) (joined_are f all e h us rest) in
    sym (append-nil (all (gathered ts)))
    ∙ joined_are f all e h (gathered ts) []
    ∙ all_stay (λ t xs. f t ++ xs) passes ts []
    ∙ sym (joined_are f all e h ts [])
    ∙ append-nil (all ts)

-- ---- the source

flat_stays : (ts : Trees) → flat_of_all (gathered ts) ≡ flat_of_all ts
flat_stays ts = joined_stay flat flat_of_all refl (λ t us. refl) (λ n t us. append-nil (flat t ++ flat_of_all us)) ts

pub source : (t : Tree) → flat (with_sections t) ≡ flat t
source (tree l ts) = ap (λ bs. cond (is_leaf l.kind) l.own (l.opening ++ bs ++ l.closing)) (flat_stays ts)

-- ---- numbers

numbers_stay : (ts : Trees) → numbers_of_all (gathered ts) ≡ numbers_of_all ts
numbers_stay ts = joined_stay numbers numbers_of_all refl (λ t us. refl) (λ n t us. refl) ts

numbers_same : (t : Tree) → numbers (with_sections t) ≡ numbers t
numbers_same (tree l ts) = ap (λ ns. cond (is_numbered l.kind) (l.id ∷ []) [] ++ cond (is_group l.kind) [] ns) (numbers_stay ts)

-- the numbers in a list but 0, which a section has
abbrev numbered : List ℕ → List ℕ
numbered [] = []
numbered (zero ∷ ns) = numbered ns
numbered (suc n ∷ ns) = suc n ∷ numbered ns

numbered_append : (ms ns : List ℕ) → numbered (ms ++ ns) ≡ numbered ms ++ numbered ns
numbered_append [] ns = refl
numbered_append (zero ∷ ms) ns = numbered_append ms ns
numbered_append (suc m ∷ ms) ns = ap (λ xs. suc m ∷ xs) (numbered_append ms ns)

abbrev AllZero : List ℕ → Type 0
AllZero ns = AllByRecursion (λ n. n ≡ 0) ns

none_numbered : (ns : List ℕ) → AllZero ns → numbered ns ≡ []
none_numbered [] h = refl
none_numbered (zero ∷ ns) h = none_numbered ns h.1
none_numbered (suc n ∷ ns) h = absurd (omega (arith, h.0))

all_zero : (ns : List ℕ) → numbered ns ≡ [] → AllZero ns
all_zero [] e = tt
all_zero (zero ∷ ns) e = (refl, all_zero ns e)
all_zero (suc n ∷ ns) e = absurd (cc e)

others_stay : (ts : Trees) → numbered (others_of_all (gathered ts)) ≡ numbered (others_of_all ts)
others_stay ts =
    joined_stay (λ t. numbered (others t)) (λ us. numbered (others_of_all us)) refl
    (λ t us. numbered_append (others t) (others_of_all us)) (λ n t us. numbered_append (others t) (others_of_all us)) ts

ids_stay : (ts : Trees) → numbered (ids_of_all (gathered ts)) ≡ numbered (ids_of_all ts)
ids_stay ts =
    joined_stay (λ t. numbered (ids t)) (λ us. numbered (ids_of_all us)) refl
    (λ t us. numbered_append (ids t) (ids_of_all us)) (λ n t us. numbered_append (ids t) (ids_of_all us)) ts

below_stay : (group : Bool) (ts : Trees)
    → numbered (cond group (ids_of_all (gathered ts)) (others_of_all (gathered ts))) ≡ numbered (cond group (ids_of_all ts) (others_of_all ts))
below_stay true ts = ids_stay ts
below_stay false ts = others_stay ts

others_same : (t : Tree) → numbered (others (with_sections t)) ≡ numbered (others t)
others_same (tree l ts) =
    let own : List ℕ = cond (is_numbered l.kind) [] (l.id ∷ []) in
    numbered_append own (cond (is_group l.kind) (ids_of_all (gathered ts)) (others_of_all (gathered ts)))
    ∙ ap (λ ns. numbered own ++ ns) (below_stay (is_group l.kind) ts)
    ∙ sym (numbered_append own (cond (is_group l.kind) (ids_of_all ts) (others_of_all ts)))

pub preorder : (t : Tree) → InPreorder t → InPreorder (with_sections t)
preorder t h = record {
  counted = numbers_same t ∙ h.counted ∙ ap (λ ns. range_with_len 1 (length ns)) (sym (numbers_same t));
  unnumbered = All-from_recursion (λ n. n ≡ 0) (others (with_sections t))
      (all_zero (others (with_sections t)) (others_same t ∙ none_numbered (others t) (recursion_from_All (λ n. n ≡ 0) (others t) h.unnumbered)));
}
