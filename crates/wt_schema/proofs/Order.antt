-- Attributes in their order: what is found among them, and that they are good.
use Rattle.std.proofs.Common.{◌≡◌, ℕ, suc, ◌<◌, ◌≤◌, inl, inr, Bool, true, false, Option, Some, None, List, [], ◌∷◌, ◌++◌, map, IsUtf8, refl, sym, ap, ap₂, ◌∙◌, subst, arith, codes}
use Rattle.std.specs.Prelude.{◌==◌, ◌&&◌, ◌||◌, nat_le, nat_lt, if◌then◌else◌}
use Rattle.std.specs.List.{flat_map}
use Rattle.std.specs.Str.{bytes_eq}
use Rattle.std.proofs.lemmas.Bool.{and_parts}
use Rattle.std.proofs.lemmas.Bool.Decides.{nat_tests}
use Rattle.wt_tree.specs.declared.kind.AttrName.{AttrName}
use Rattle.wt_tree.specs.declared.row.Own.{Own}
use Rattle.wt_tree.specs.Kinds.{attribute_name, order}
use Rattle.wt_html_grammar.specs.Signs.{is_among}
use Rattle.wt_html_grammar.specs.Markup.{Pair}
use Rattle.wt_html_grammar.proofs.Steps.{if_true, if_false}
use Rattle.wt_schema.specs.Attributes.{value_of}
use Rattle.wt_schema.specs.Rows.{own_told, own_of}
use Rattle.wt_schema.specs.Written.{AreOwn, value_at}
use Rattle.wt_schema.proofs.Names.{names_eq, good_name, not_edit}
use Rattle.wt_schema.proofs.Said.{Said, double, single, pair_said, own_said, said_name, said_value, AreGood}

abbrev pub pairs : List Said → List Pair
pairs ss = map pair_said ss

abbrev pub place : Said → ℕ
place (double n v) = order n
place (single n v) = order n

-- the value at a place of the order
abbrev pub look : ℕ → List Said → Option (List ℕ)
look k [] = None
look k (s ∷ ss) = if place s == k then Some (said_value s) else look k ss

-- each stands behind the one before it, the first at b at least, and says a text
abbrev pub Rise : ℕ → List Said → Type 0
Rise b [] = Unit {0}
Rise b (s ∷ ss) = (b ≤ place s) × IsUtf8 (said_value s) × Rise (suc (place s)) ss

pub rise_weaken : (b c : ℕ) (ss : List Said) → c ≤ b → Rise b ss → Rise c ss
rise_weaken b c [] l h = tt
rise_weaken b c (s ∷ ss) l h = (omega (arith, l, h.0), h.1, h.2)

differ : (m n : ℕ) → m < n → (m == n) ≡ false
differ m n h = grind (arith, nat_tests)

differ_up : (m n : ℕ) → n < m → (m == n) ≡ false
differ_up m n h = grind (arith, nat_tests)

same_number : (n : ℕ) → (n == n) ≡ true
same_number n = grind (arith, nat_tests)

is_le : (m n : ℕ) → nat_le m n ≡ true → m ≤ n
is_le m n h = grind (arith, nat_tests)

is_lt : (m n : ℕ) → nat_lt m n ≡ true → m < n
is_lt m n h = grind (arith, nat_tests)

-- ---- they are good: no name comes twice

-- words that are no names from this place on
abbrev Below : ℕ → List (List ℕ) → Type 0
Below b [] = Unit {0}
Below b (w ∷ ws) = ((n : AttrName) → b ≤ order n → bytes_eq (attribute_name n) w ≡ false) × Below b ws

or_false : (a b : Bool) → a ≡ false → b ≡ false → (a || b) ≡ false
or_false true b e f = cc
or_false false b e f = f

not_among : (n : AttrName) (b : ℕ) (ws : List (List ℕ)) → Below b ws → b ≤ order n → is_among (attribute_name n) ws ≡ false
not_among n b [] h l = refl
not_among n b (w ∷ ws) h l = or_false (bytes_eq (attribute_name n) w) (is_among (attribute_name n) ws) (h.0 n l) (not_among n b ws h.1 l)

other_name : (s : Said) (n : AttrName) → suc (place s) ≤ order n → bytes_eq (attribute_name n) (said_name s) ≡ false
other_name (double m v) n l = names_eq n m ∙ differ_up (order n) (order m) (omega (arith, l))
other_name (single m v) n l = names_eq n m ∙ differ_up (order n) (order m) (omega (arith, l))

below_push : (b : ℕ) (ws : List (List ℕ)) (s : Said) → Below b ws → b ≤ place s → Below (suc (place s)) (ws ++ said_name s ∷ [])
below_push b [] s h l = (λ n m. other_name s n m, tt)
below_push b (w ∷ ws) s h l = (λ n m. h.0 n (omega (arith, l, m)), below_push b ws s h.1 l)

name_good : (s : Said) (b : ℕ) (before : List (List ℕ)) → Below b before → b ≤ place s → is_among (said_name s) before ≡ false
name_good (double n v) b before h l = not_among n b before h l
name_good (single n v) b before h l = not_among n b before h l

pub good_from : (b : ℕ) (before : List (List ℕ)) (ss : List Said) → Below b before → Rise b ss → AreGood before ss
good_from b before [] h r = tt
good_from b before (double n v ∷ ss) h r =
    (good_name n, r.1, not_among n b before h r.0, good_from (suc (order n)) (before ++ attribute_name n ∷ []) ss (below_push b before (double n v) h r.0) r.2)
good_from b before (single n v ∷ ss) h r =
    (good_name n, r.1, not_among n b before h r.0, good_from (suc (order n)) (before ++ attribute_name n ∷ []) ss (below_push b before (single n v) h r.0) r.2)

-- ---- what is found among them

pub value_is : (n : AttrName) (ss : List Said) → value_of (attribute_name n) (pairs ss) ≡ look (order n) ss
value_is n [] = refl
value_is n (double m v ∷ ss) = ap₂ (λ (b : Bool) (o : Option (List ℕ)). if b then Some v else o) (names_eq m n) (value_is n ss)
value_is n (single m v ∷ ss) = ap₂ (λ (b : Bool) (o : Option (List ℕ)). if b then Some v else o) (names_eq m n) (value_is n ss)

pub no_edit : (ss : List Said) → value_of (codes "data-wt-edit") (pairs ss) ≡ None
no_edit [] = refl
no_edit (double m v ∷ ss) = ap₂ (λ (b : Bool) (o : Option (List ℕ)). if b then Some v else o) (not_edit m) (no_edit ss)
no_edit (single m v ∷ ss) = ap₂ (λ (b : Bool) (o : Option (List ℕ)). if b then Some v else o) (not_edit m) (no_edit ss)

-- nothing before the first
pub look_before : (k b : ℕ) (ss : List Said) → k < b → Rise b ss → look k ss ≡ None
look_before k b [] l r = refl
look_before k b (s ∷ ss) l r = if_false (place s == k) _ _ (differ_up (place s) k (omega (arith, l, r.0)))
    ∙ look_before k (suc (place s)) ss (omega (arith, l, r.0)) r.2

-- among the node's attributes, and behind them
pub look_of : (k : ℕ) (xs : List (AttrName × List ℕ)) (ss : List Said) → look k ss ≡ None → look k (map own_said xs ++ ss) ≡ value_at k xs
look_of k [] ss e = e
look_of k (x ∷ xs) ss e = ap (λ (o : Option (List ℕ)). if order x.0 == k then Some x.1 else o) (look_of k xs ss e)

pub look_past : (k : ℕ) (xs : List (AttrName × List ℕ)) (ss : List Said) → value_at k xs ≡ None → look k (map own_said xs ++ ss) ≡ look k ss
look_past k [] ss e = refl
look_past k (x ∷ xs) ss e = by_test (order x.0 == k) e (λ f. look_past k xs ss f)
  where
    by_test : (b : Bool) → (if b then Some x.1 else value_at k xs) ≡ None
        → (value_at k xs ≡ None → look k (map own_said xs ++ ss) ≡ look k ss)
        → (if b then Some x.1 else look k (map own_said xs ++ ss)) ≡ look k ss
    by_test true e f = cc
    by_test false e f = f e

pub value_front : (k : ℕ) (xs ys : List (AttrName × List ℕ)) → value_at k ys ≡ None → value_at k (xs ++ ys) ≡ value_at k xs
value_front k [] ys e = e
value_front k (x ∷ xs) ys e = ap (λ (o : Option (List ℕ)). if order x.0 == k then Some x.1 else o) (value_front k xs ys e)

-- ---- the attributes of a row

-- names in their order, the first at b at least, and all before the number's
abbrev pub rises : ℕ → List AttrName → Bool
rises b [] = true
rises b (n ∷ ns) = nat_le b (order n) && (nat_lt (order n) 11 && rises (suc (order n)) ns)

pub record RisesBy (b : ℕ) (n : AttrName) (ns : List AttrName) : Type 0 where
  pub least : b ≤ order n
  pub most : order n < 11
  pub rest : rises (suc (order n)) ns ≡ true

pub rises_by : (b : ℕ) (n : AttrName) (ns : List AttrName) → rises b (n ∷ ns) ≡ true → RisesBy b n ns
rises_by b n ns h =
    let p = and_parts (nat_le b (order n)) (nat_lt (order n) 11 && rises (suc (order n)) ns) h in
    let q = and_parts (nat_lt (order n) 11) (rises (suc (order n)) ns) p.1 in
    record { least = is_le b (order n) p.0; most = is_lt (order n) 11 q.0; rest = q.1 }

abbrev pub names_of : List Own → List AttrName
names_of os = map (λ (o : Own). o.name) os

abbrev pub names_in : List (AttrName × List ℕ) → List AttrName
names_in xs = map (λ (x : AttrName × List ℕ). x.0) xs

-- attributes in their order, all before the number's, with texts
abbrev pub Rising : ℕ → List (AttrName × List ℕ) → Type 0
Rising b [] = Unit {0}
Rising b (x ∷ xs) = (b ≤ order x.0) × (order x.0 < 11) × IsUtf8 x.1 × Rising (suc (order x.0)) xs

pub rising_weaken : (b c : ℕ) (xs : List (AttrName × List ℕ)) → c ≤ b → Rising b xs → Rising c xs
rising_weaken b c [] l h = tt
rising_weaken b c (x ∷ xs) l h = (omega (arith, l, h.0), h.1, h.2, h.3)

own_rising : (os : List Own) (xs : List (AttrName × List ℕ)) (b : ℕ) → rises b (names_of os) ≡ true → AreOwn os xs → Rising b xs
own_rising [] xs b q h = subst (λ ys. Rising b ys) (sym h) tt
own_rising (o ∷ os) xs b q (inl h) =
    let r = rises_by b o.name (names_of os) q in
    subst (λ ys. Rising b ys) (sym h.2) (r.least, r.most, h.5, own_rising os h.1 (suc (order o.name)) r.rest h.6)
own_rising (o ∷ os) xs b q (inr h) =
    let r = rises_by b o.name (names_of os) q in
    rising_weaken (suc (order o.name)) b xs (omega (arith, r.least)) (own_rising os xs (suc (order o.name)) r.rest h.1)

abbrev pub AllUtf8 : List (AttrName × List ℕ) → Type 0
AllUtf8 [] = Unit {0}
AllUtf8 (x ∷ xs) = IsUtf8 x.1 × AllUtf8 xs

pub whole_rising : (fs : List (AttrName × List ℕ)) (os : List Own) (xs : List (AttrName × List ℕ)) (b : ℕ)
    → rises b (names_in fs ++ names_of os) ≡ true → AllUtf8 fs → AreOwn os xs → Rising b (fs ++ xs)
whole_rising [] os xs b q u h = own_rising os xs b q h
whole_rising (f ∷ fs) os xs b q u h =
    let r = rises_by b f.0 (names_in fs ++ names_of os) q in
    (r.least, r.most, u.0, whole_rising fs os xs (suc (order f.0)) r.rest u.1 h)

pub rising_said : (xs : List (AttrName × List ℕ)) (b : ℕ) (ss : List Said) → Rising b xs → b ≤ 11 → Rise 11 ss → Rise b (map own_said xs ++ ss)
rising_said [] b ss h l r = rise_weaken 11 b ss l r
rising_said (x ∷ xs) b ss h l r = (h.0, h.2, rising_said xs (suc (order x.0)) ss h.3 (omega (arith, h.1)) r)

-- nothing stands before the first, and nothing from the number's place on
pub value_before : (xs : List (AttrName × List ℕ)) (b k : ℕ) → k < b → Rising b xs → value_at k xs ≡ None
value_before [] b k l h = refl
value_before (x ∷ xs) b k l h = if_false (order x.0 == k) _ _ (differ_up (order x.0) k (omega (arith, l, h.0)))
    ∙ value_before xs (suc (order x.0)) k (omega (arith, l, h.0)) h.3

pub value_behind : (xs : List (AttrName × List ℕ)) (b k : ℕ) → 11 ≤ k → Rising b xs → value_at k xs ≡ None
value_behind [] b k l h = refl
value_behind (x ∷ xs) b k l h = if_false (order x.0 == k) _ _ (differ (order x.0) k (omega (arith, l, h.1))) ∙ value_behind xs (suc (order x.0)) k l h.3

pub own_before : (os : List Own) (xs : List (AttrName × List ℕ)) (b k : ℕ) → k < b → rises b (names_of os) ≡ true → AreOwn os xs → value_at k xs ≡ None
own_before os xs b k l q h = value_before xs b k l (own_rising os xs b q h)

-- ---- the node's own are read as they are

abbrev pub own_look : List Own → List Said → List (AttrName × List ℕ)
own_look os ss = flat_map (λ (o : Own). own_told o (look (order o.name) ss)) os

pub own_values : (os : List Own) (ss : List Said) → own_of os (pairs ss) ≡ own_look os ss
own_values [] ss = refl
own_values (o ∷ os) ss = ap₂ (λ (x y : List (AttrName × List ℕ)). x ++ y) (ap (own_told o) (value_is o.name ss)) (own_values os ss)

pub own_skip : (os : List Own) (b : ℕ) (s : Said) (ss : List Said) → rises b (names_of os) ≡ true → place s < b → own_look os (s ∷ ss) ≡ own_look os ss
own_skip [] b s ss q l = refl
own_skip (o ∷ os) b s ss q l =
    let r = rises_by b o.name (names_of os) q in
    ap₂ (λ (x y : List (AttrName × List ℕ)). x ++ y)
    (ap (own_told o) (if_false (place s == order o.name) _ _ (differ (place s) (order o.name) (omega (arith, l, r.least)))))
    (own_skip os (suc (order o.name)) s ss r.rest (omega (arith, l, r.least)))

own_back : (os : List Own) (xs : List (AttrName × List ℕ)) (b : ℕ) (ss : List Said) → rises b (names_of os) ≡ true → AreOwn os xs
    → Rise 11 ss → own_look os (map own_said xs ++ ss) ≡ xs
own_back [] xs b ss q h s = sym h
own_back (o ∷ os) xs b ss q (inl h) s =
    let r = rises_by b o.name (names_of os) q in
    let ys : List (AttrName × List ℕ) = h.1 in
    let t : List Said = double o.name h.0 ∷ (map own_said ys ++ ss) in
    let here : own_told o (look (order o.name) t) ≡ (o.name, h.0) ∷ [] =
    ap (own_told o) (if_true (order o.name == order o.name) _ _ (same_number (order o.name))) ∙ ap (λ (w : List ℕ). (o.name, w) ∷ []) h.4 in
    let there : own_look os t ≡ ys = own_skip os (suc (order o.name)) (double o.name h.0) (map own_said ys ++ ss) r.rest
    (omega arith) ∙ own_back os ys (suc (order o.name)) ss r.rest h.6 s in
    subst (λ zs. own_look (o ∷ os) (map own_said zs ++ ss) ≡ zs) (sym h.2) (ap₂ (λ (x y : List (AttrName × List ℕ)). x ++ y) here there)
own_back (o ∷ os) xs b ss q (inr h) s =
    let r = rises_by b o.name (names_of os) q in
    let none : look (order o.name) (map own_said xs ++ ss) ≡ None =
    look_of (order o.name) xs ss (look_before (order o.name) 11 ss r.most s) ∙ own_before os xs (suc (order o.name)) (order o.name) (omega arith) r.rest h.1 in
    ap₂ (λ (x y : List (AttrName × List ℕ)). x ++ y) (ap (own_told o) none) (own_back os xs (suc (order o.name)) ss r.rest h.1 s)

rises_weaken : (b c : ℕ) (ns : List AttrName) → c ≤ b → rises b ns ≡ true → rises c ns ≡ true
rises_weaken b c [] l q = refl
rises_weaken b c (n ∷ ns) l q =
    let p = and_parts (nat_le b (order n)) (nat_lt (order n) 11 && rises (suc (order n)) ns) q in
    ap (λ (t : Bool). t && (nat_lt (order n) 11 && rises (suc (order n)) ns)) (to_le c (order n) (omega (arith, l, is_le b (order n) p.0))) ∙ p.1
  where
    to_le : (m n : ℕ) → m ≤ n → nat_le m n ≡ true
    to_le m n h = grind (arith, nat_tests)

pub rises_behind : (b : ℕ) (ms ns : List AttrName) → rises b (ms ++ ns) ≡ true → rises b ns ≡ true
rises_behind b [] ns q = q
rises_behind b (m ∷ ms) ns q =
    let r = rises_by b m (ms ++ ns) q in
    rises_weaken (suc (order m)) b ns (omega (arith, r.least)) (rises_behind (suc (order m)) ms ns r.rest)

whole_back : (fs : List (AttrName × List ℕ)) (os : List Own) (xs : List (AttrName × List ℕ)) (b : ℕ) (ss : List Said)
    → rises b (names_in fs ++ names_of os) ≡ true → AreOwn os xs → Rise 11 ss
    → own_look os (map own_said (fs ++ xs) ++ ss) ≡ xs
whole_back [] os xs b ss q h s = own_back os xs b ss q h s
whole_back (f ∷ fs) os xs b ss q h s =
    let r = rises_by b f.0 (names_in fs ++ names_of os) q in
    own_skip os (suc (order f.0)) (own_said f) (map own_said (fs ++ xs) ++ ss) (rises_behind (suc (order f.0)) (names_in fs) (names_of os) r.rest) (omega arith)
    ∙ whole_back fs os xs (suc (order f.0)) ss r.rest h s

pub own_read : (fs : List (AttrName × List ℕ)) (os : List Own) (xs : List (AttrName × List ℕ)) (b : ℕ) (ss : List Said)
    → rises b (names_in fs ++ names_of os) ≡ true → AreOwn os xs → Rise 11 ss
    → own_of os (pairs (map own_said (fs ++ xs) ++ ss)) ≡ xs
own_read fs os xs b ss q h s = own_values os (map own_said (fs ++ xs) ++ ss) ∙ whole_back fs os xs b ss q h s
