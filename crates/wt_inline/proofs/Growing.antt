-- Runs of characters of one origin make one leaf, and the children grow by parts.
use Rattle.std.proofs.Common.{◌≡◌, ℕ, ◌<◌, Bool, true, false, Option, Some, None, List, [], ◌∷◌, ◌++◌, length, map, refl, sym, ap, ◌∙◌, arith, append_assoc, append-nil}
use Rattle.std.specs.Prelude.{◌&&◌}
use Rattle.std.specs.List.{AllByRecursion}
use Rattle.std.proofs.lemmas.Bool.Decides.{nat_tests}
use Rattle.std.proofs.lemmas.List.{map-append}
use Rattle.wt_span.specs.declared.form.ItemForm.{ItemForm}
use Rattle.wt_span.specs.declared.form.ItemForm.TheVariants as form
use Rattle.wt_span.specs.Items.{Item, char, whole, items_by}
use Rattle.wt_span.specs.Runs.{runs, IsRun}
use Rattle.wt_span.proofs.RunLaws.{runs_cut}
use Rattle.wt_lines.specs.Pieces.{is_chars}
use Rattle.wt_inline.specs.declared.loose.Loose.{Loose}
use Rattle.wt_inline.specs.declared.loose.Loose.TheVariants.{Text, Sep}
use Rattle.wt_inline.specs.ItemTree.{ItemTree}
use Rattle.wt_inline.specs.Parts.{Part, loose, node, same_loose, same_origin, are_of, one_leaf, loose_leaf, child, children, held_parts, part, parts}
use Rattle.wt_inline.specs.Grown.{OpenRun, Grown, made, Grows, IsStopped, Ends}
use Rattle.wt_inline.proofs.HeldLaws.{children_node}

-- ---- tests

same_loose_refl : (k : Loose) → same_loose k k ≡ true
same_loose_refl Text = refl
same_loose_refl Sep = refl

pub same_loose_is : (k j : Loose) → same_loose k j ≡ true → k ≡ j
same_loose_is Text Text e = refl
same_loose_is Text Sep e = cc
same_loose_is Sep Text e = cc
same_loose_is Sep Sep e = refl

same_refl : (o : Option ℕ) → same_origin o o ≡ true
same_refl None = refl
same_refl (Some a) = grind (arith, nat_tests)

pub same_origin_is : (o p : Option ℕ) → same_origin o p ≡ true → o ≡ p
same_origin_is None None e = refl
same_origin_is None (Some b) e = cc
same_origin_is (Some a) None e = cc
same_origin_is (Some a) (Some b) e = let n : a ≡ b = grind (arith, nat_tests) in ap Some n

-- ---- one run

-- a character of this origin
abbrev pub IsOf : Option ℕ → Item → Type 0
IsOf o (char p b) = o ≡ p
IsOf o (whole f p bs) = ⊥

-- some characters, all of one origin
pub record IsOneRun (r : OpenRun) : Type 0 where
  pub some : 0 < length r.items
  pub one : AllByRecursion (IsOf r.call) r.items

and_left : (a b : Bool) → (a && b) ≡ true → a ≡ true
and_left true b e = refl
and_left false b e = cc

and_right : (a b : Bool) → (a && b) ≡ true → b ≡ true
and_right true b e = e
and_right false b e = cc

pub all_of : (o : Option ℕ) (xs : List Item) → are_of o xs ≡ true → AllByRecursion (IsOf o) xs
all_of o [] e = tt
all_of o (char p b ∷ xs) e = (same_origin_is o p (and_left (same_origin o p) (are_of o xs) e), all_of o xs (and_right (same_origin o p) (are_of o xs) e))
all_of o (whole f p bs ∷ xs) e = cc

pub are_of_all : (o : Option ℕ) (xs : List Item) → AllByRecursion (IsOf o) xs → are_of o xs ≡ true
are_of_all o [] a = refl
are_of_all o (char p b ∷ xs) a = rw (← a.0, same_refl o) (are_of_all o xs a.1)
are_of_all o (whole f p bs ∷ xs) a = absurd a.0

pub one_run : (r : OpenRun) → 0 < length r.items → are_of r.call r.items ≡ true → IsOneRun r
one_run r s e = record { some = s; one = all_of r.call r.items e }

of_bytes : (o : Option ℕ) (bs : List ℕ) → AllByRecursion (IsOf o) (map (char o) bs)
of_bytes o [] = tt
of_bytes o (b ∷ bs) = (refl, of_bytes o bs)

pub of_chars : (f : ItemForm) (o : Option ℕ) (bs : List ℕ) → is_chars f ≡ true → AllByRecursion (IsOf o) (items_by f o bs)
of_chars form.Chars o bs e = of_bytes o bs
of_chars (form.Entity c) o bs e = cc
of_chars form.Nowiki o bs e = cc
of_chars form.Extension o bs e = cc
of_chars form.Function o bs e = cc
of_chars form.Comment o bs e = cc
of_chars form.Include o bs e = cc
of_chars form.Hidden o bs e = cc
of_chars form.EmptyCall o bs e = cc

pub of_append : (o : Option ℕ) (xs ys : List Item) → AllByRecursion (IsOf o) xs → AllByRecursion (IsOf o) ys → AllByRecursion (IsOf o) (xs ++ ys)
of_append o [] ys a b = b
of_append o (x ∷ xs) ys a b = (a.0, of_append o xs ys a.1 b)

joins : (k : Loose) (o : Option ℕ) (x y : Item) → IsOf o x → IsOf o y → one_leaf (part k x) (part k y) ≡ true
joins k o (char p b) (char q c) e f = rw (same_loose_refl k, ← e, ← f) (same_refl o)
joins k o (char p b) (whole g q bs) e f = absurd f
joins k o (whole g p bs) y e f = absurd e

stopped_rest : (k : Loose) (o : Option ℕ) (x : Item) (xs : List Item) (ps : List Part)
    → IsStopped (Some (record { loose = k; call = o; items = x ∷ xs })) ps
    → IsStopped (Some (record { loose = k; call = o; items = xs })) ps
stopped_rest k o x xs [] h = tt
stopped_rest k o x xs (p ∷ ps) h = h.1

is_run : (k : Loose) (o : Option ℕ) (xs : List Item) (ps : List Part) → 0 < length xs → AllByRecursion (IsOf o) xs
    → IsStopped (Some (record { loose = k; call = o; items = xs })) ps → IsRun one_leaf (parts k xs) ps
is_run k o [] ps s a h = absurd (omega arith)
is_run k o (x ∷ []) [] s a h = tt
is_run k o (x ∷ []) (p ∷ ps) s a h = h.0
is_run k o (x ∷ y ∷ ys) ps s a h = (joins k o x y a.0 a.1.0, is_run k o (y ∷ ys) ps (omega arith) a.1 (stopped_rest k o x (y ∷ ys) ps h))

held_run : (k : Loose) (o : Option ℕ) (xs : List Item) → AllByRecursion (IsOf o) xs → held_parts (parts k xs) ≡ xs
held_run k o [] a = refl
held_run k o (char p b ∷ xs) a = ap (λ ys. char p b ∷ ys) (held_run k o xs a.1)
held_run k o (whole f p bs ∷ xs) a = absurd a.0

child_of_run : (k : Loose) (o : Option ℕ) (xs : List Item) → 0 < length xs → AllByRecursion (IsOf o) xs → child (parts k xs) ≡ loose_leaf k xs
child_of_run k o [] s a = absurd (omega arith)
child_of_run k o (char p b ∷ xs) s a = ap (λ ys. loose_leaf k (char p b ∷ ys)) (held_run k o xs a.1)
child_of_run k o (whole f p bs ∷ xs) s a = absurd a.0

close_run : (r : OpenRun) (ps : List Part) → IsOneRun r → IsStopped (Some r) ps
    → children (parts r.loose r.items ++ ps) ≡ loose_leaf r.loose r.items ∷ children ps
unfolding children
close_run r ps one h =
    ap (map child) (runs_cut one_leaf (parts r.loose r.items) ps (is_run r.loose r.call r.items ps one.some one.one h))
    ∙ ap (λ t. t ∷ map child (runs one_leaf ps)) (child_of_run r.loose r.call r.items one.some one.one)

-- ---- growing

pub ends_none : (ts : List ItemTree) → Ends (record { trees = ts; run = None }) ts
ends_none ts ps h = refl

pub ends_some : (ts us : List ItemTree) (t : ItemTree) (r : OpenRun) → IsOneRun r → t ≡ loose_leaf r.loose r.items
    → us ≡ ts ++ t ∷ [] → Ends (record { trees = ts; run = Some r }) us
ends_some ts us t r one e f ps h =
    ap (λ vs. vs ++ children ps) f
    ∙ append_assoc ts (t ∷ []) (children ps)
    ∙ ap (λ u. ts ++ u ∷ children ps) e
    ∙ ap (λ vs. ts ++ vs) (sym (close_run r ps one h))

pub grows_begun : (ts : List ItemTree) (k : Loose) (o p : Option ℕ) (xs ys : List Item) → p ≡ o → ys ≡ xs → (j : Loose) → j ≡ k
    → Grows (record { trees = ts; run = None }) (parts k xs) (record { trees = ts; run = Some (record { loose = j; call = p; items = ys }) })
grows_begun ts k o p xs ys eo ex j ek ps = ap (λ zs. ts ++ children (map (part j) zs ++ ps)) ex ∙ ap (λ l. ts ++ children (parts l xs ++ ps)) ek

pub grows_more : (ts : List ItemTree) (k j : Loose) (o p : Option ℕ) (xs ys zs : List Item) → j ≡ k → zs ≡ xs ++ ys
    → Grows (record { trees = ts; run = Some (record { loose = k; call = o; items = xs }) }) (parts k ys)
    (record { trees = ts; run = Some (record { loose = j; call = p; items = zs }) })
grows_more ts k j o p xs ys zs ek ez ps =
    ap (λ ws. ts ++ children (parts j ws ++ ps)) ez
    ∙ ap (λ l. ts ++ children (parts l (xs ++ ys) ++ ps)) ek
    ∙ ap (λ qs. ts ++ children (qs ++ ps)) (map-append (part k) xs ys)
    ∙ ap (λ qs. ts ++ children qs) (append_assoc (parts k xs) (parts k ys) ps)

and_false : (a b : Bool) → (a && b) ≡ false → (c : Bool) → c ≡ (a && b) → c ≡ false
and_false a b e c f = f ∙ e

-- characters that the run doesn't take stop it
all_apart : (k j : Loose) (o p : Option ℕ) (b : ℕ) (xs : List Item) → (same_loose k j && same_origin o p) ≡ false
    → AllByRecursion (IsOf o) xs → AllByRecursion (λ x. one_leaf (part k x) (loose j p b) ≡ false) xs
all_apart k j o p b [] e a = tt
all_apart k j o p b (char q c ∷ xs) e a = (rw (← a.0) e, all_apart k j o p b xs e a.1)
all_apart k j o p b (whole f q bs ∷ xs) e a = absurd a.0

stopped_by : (k j : Loose) (o p : Option ℕ) (xs ys : List Item) (ps : List Part) → (same_loose k j && same_origin o p) ≡ false
    → AllByRecursion (IsOf o) xs → AllByRecursion (IsOf p) ys → 0 < length ys
    → IsStopped (Some (record { loose = k; call = o; items = xs })) (parts j ys ++ ps)
stopped_by k j o p xs [] ps e a b s = absurd (omega arith)
stopped_by k j o p xs (char q c ∷ ys) ps e a b s = all_apart k j o q c xs (rw (← b.0) e) a
stopped_by k j o p xs (whole f q bs ∷ ys) ps e a b s = absurd b.0

pub grows_past : (ts us : List ItemTree) (t : ItemTree) (r : OpenRun) (j : Loose) (p : Option ℕ) (ys : List Item) (g : Grown)
    → IsOneRun r → (same_loose r.loose j && same_origin r.call p) ≡ false → AllByRecursion (IsOf p) ys → 0 < length ys
    → t ≡ loose_leaf r.loose r.items → us ≡ ts ++ t ∷ [] → Grows (record { trees = us; run = None }) (parts j ys) g
    → Grows (record { trees = ts; run = Some r }) (parts j ys) g
grows_past ts us t r j p ys g one e b s et eu h ps =
    h ps ∙ ends_some ts us t r one et eu (parts j ys ++ ps) (stopped_by r.loose j r.call p r.items ys ps e one.one b s)

-- a node stops any run
all_before_node : (k : Loose) (t : ItemTree) (xs : List Item) → AllByRecursion (λ x. one_leaf (part k x) (node t) ≡ false) xs
all_before_node k t [] = tt
all_before_node k t (char p b ∷ xs) = (refl, all_before_node k t xs)
all_before_node k t (whole f p bs ∷ xs) = (refl, all_before_node k t xs)

node_stops : (o : Option OpenRun) (t : ItemTree) (ps : List Part) → IsStopped o (node t ∷ ps)
node_stops None t ps = tt
node_stops (Some r) t ps = all_before_node r.loose t r.items

no_children : children [] ≡ []
unfolding children
no_children = refl

pub grows_node : (g : Grown) (ts us : List ItemTree) (t : ItemTree) → Ends g ts → us ≡ ts ++ t ∷ [] → Grows g (node t ∷ []) (record { trees = us; run = None })
grows_node g ts us t h e ps =
    ap (λ vs. vs ++ children ps) e
    ∙ append_assoc ts (t ∷ []) (children ps)
    ∙ ap (λ vs. ts ++ vs) (sym (children_node [] ps t ∙ ap (λ vs. vs ++ t ∷ children ps) no_children))
    ∙ h (node t ∷ ps) (node_stops g.run t ps)

end_stops : (o : Option OpenRun) → IsStopped o []
end_stops None = tt
end_stops (Some r) = tt

pub finished : (g : Grown) (ts : List ItemTree) → Ends g ts → ts ≡ made g []
finished g ts h = sym (append-nil ts) ∙ ap (λ vs. ts ++ vs) (sym no_children) ∙ h [] (end_stops g.run)

-- nothing more
pub grows_none : (g : Grown) → Grows g [] g
grows_none g ps = refl

pub grows_both : (g h i : Grown) (ps qs : List Part) → Grows g ps h → Grows h qs i → Grows g (ps ++ qs) i
grows_both g h i ps qs a b rs = b rs ∙ a (qs ++ rs) ∙ ap (made g) (sym (append_assoc ps qs rs))

-- of pieces that are characters
pub chars_are : (f : ItemForm) (o p : Option ℕ) (bs : List ℕ) → is_chars f ≡ true → o ≡ p → are_of o (items_by f p bs) ≡ true
chars_are f o p bs e h = rw h (are_of_all p (items_by f p bs) (of_chars f p bs e))

pub more_are : (o p : Option ℕ) (f : ItemForm) (bs : List ℕ) (xs : List Item) → are_of o xs ≡ true → is_chars f ≡ true
    → same_origin o p ≡ true → are_of o (xs ++ items_by f p bs) ≡ true
more_are o p f bs xs a e s = are_of_all o (xs ++ items_by f p bs)
    (of_append o xs (items_by f p bs) (all_of o xs a) (all_of o (items_by f p bs) (chars_are f o p bs e (same_origin_is o p s))))
