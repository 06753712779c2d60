-- What is made of stretches round a place, whatever tree is at it, is round that place again.
use Rattle.std.proofs.Common.{◌≡◌, ℕ, zero, suc, ◌+◌, ◌≤◌, Bool, false, List, [], ◌∷◌, ◌++◌, length, take, drop, refl, sym, ap, ◌∙◌, append_assoc, length-append, arith, cond}
use Rattle.std.specs.Prelude.{map, reverse}
use Rattle.std.specs.List.{prefix_len}
use Rattle.std.proofs.lemmas.List.{reverse-append, length-reverse, map-append}
use Rattle.std.proofs.lemmas.List.Sums.{prefix_len-le-length}
use Rattle.std.proofs.lemmas.Grind.{flat_map-append}
use Rattle.wt_span.specs.Items.{Item}
use Rattle.wt_span.specs.Runs.{runs}
use Rattle.wt_span.proofs.RunLaws.{runs_alone}
use Rattle.wt_inline.specs.ItemTree.{Head, ItemTree, inner, forest}
use Rattle.wt_inline.specs.Parts.{Part, loose, node, one_leaf, child, children}
use Rattle.wt_page.specs.Stretches.{Stretch, block, is_gap, stretch_parts, stretches_parts, front_len, front_gaps, past_front, block_len, before_end, end_gaps, tree_block, node_of, opened_by, enclosed}
use Rattle.wt_part_laws.specs.Rounds.{Holder, round, Around, filled}

-- of any tree at the place, in nodes of which this holds
pub record Fits (I : Type 0) (t : I → ItemTree) (P : List Holder → Type 0) (f : I → List Stretch) : Type 0 where
  pub around : Around
  pub held : P around.holders
  pub is : (i : I) → f i ≡ filled around (t i)

-- ---- lists

pub stops : {A : Type 0} (p : A → Bool) (xs : List A) (y : A) (ys : List A) → p y ≡ false → prefix_len p (xs ++ y ∷ ys) ≡ prefix_len p xs
stops p [] y ys e = ap (λ (v : Bool). cond v (1 + prefix_len p ys) 0) e
stops p (x ∷ xs) y ys e = ap (λ (n : ℕ). cond (p x) (1 + n) 0) (stops p xs y ys e)

take_past : {A : Type 0} (xs ys : List A) (n m : ℕ) → m ≡ length xs + n → take m (xs ++ ys) ≡ xs ++ take n ys
take_past [] ys n m e = let z : m ≡ n = omega (arith, e) in ap (λ (k : ℕ). take k ys) z
take_past (x ∷ xs) ys n zero e = absurd (omega (arith, e))
take_past (x ∷ xs) ys n (suc m) e = let z : m ≡ length xs + n = omega (arith, e) in ap (λ zs. x ∷ zs) (take_past xs ys n m z)

drop_past : {A : Type 0} (xs ys : List A) (n m : ℕ) → m ≡ length xs + n → drop m (xs ++ ys) ≡ drop n ys
drop_past [] ys n m e = let z : m ≡ n = omega (arith, e) in ap (λ (k : ℕ). drop k ys) z
drop_past (x ∷ xs) ys n zero e = absurd (omega (arith, e))
drop_past (x ∷ xs) ys n (suc m) e = let z : m ≡ length xs + n = omega (arith, e) in drop_past xs ys n m z

-- ---- a node among the children of another

node_last : (t : ItemTree) (p : Part) → one_leaf p (node t) ≡ false
node_last t (loose k o b) = refl
node_last t (node u) = refl

node_first : (t : ItemTree) (p : Part) → one_leaf (node t) p ≡ false
node_first t p = refl

pub round_node : (t : ItemTree) (ps qs : List Part) → children (ps ++ node t ∷ qs) ≡ children ps ++ t ∷ children qs
unfolding children
round_node t ps qs =
    ap (map child) (runs_alone one_leaf (node t) ps qs (node_last t) (node_first t))
    ∙ map-append child (runs one_leaf ps) ((node t ∷ []) ∷ runs one_leaf qs)

pub parts_round : (us vs : List Stretch) (t : ItemTree) → stretches_parts (us ++ tree_block t ∷ vs) ≡ stretches_parts us ++ node t ∷ stretches_parts vs
parts_round us vs t = flat_map-append stretch_parts us (tree_block t ∷ vs)

-- ---- gaps at the ends

last_block : (us : List Stretch) (ps : List Part) (vs : List Stretch) → block_len (us ++ block ps ∷ vs) ≡ length us + suc (block_len vs)
last_block us ps vs =
    let all : List Stretch = us ++ block ps ∷ vs in
    let back : reverse all ≡ reverse vs ++ block ps ∷ reverse us =
    reverse-append us (block ps ∷ vs) ∙ ap (λ zs. zs ++ reverse us) (reverse-append (block ps ∷ []) vs) ∙ append_assoc (reverse vs) (block ps ∷ []) (reverse us) in
    let n : prefix_len is_gap (reverse all) ≡ prefix_len is_gap (reverse vs) = ap (prefix_len is_gap) back ∙ stops is_gap (reverse vs) (block ps) (reverse us) refl in
    let le : prefix_len is_gap (reverse vs) ≤ length (reverse vs) = prefix_len-le-length is_gap (reverse vs) in
    let same : length (reverse vs) ≡ length vs = length-reverse vs in
    let size : length all ≡ length us + length (block ps ∷ vs) = length-append us (block ps ∷ vs) in
    omega (arith, n, le, same, size)

pub before_last : (us : List Stretch) (ps : List Part) (vs : List Stretch) → before_end (us ++ block ps ∷ vs) ≡ us ++ block ps ∷ before_end vs
before_last us ps vs = take_past us (block ps ∷ vs) (suc (block_len vs)) (block_len (us ++ block ps ∷ vs)) (last_block us ps vs)

pub behind_last : (us : List Stretch) (ps : List Part) (vs : List Stretch) → end_gaps (us ++ block ps ∷ vs) ≡ end_gaps vs
behind_last us ps vs = drop_past us (block ps ∷ vs) (suc (block_len vs)) (block_len (us ++ block ps ∷ vs)) (last_block us ps vs)

first_block : (us : List Stretch) (ps : List Part) (vs : List Stretch) → front_len (us ++ block ps ∷ vs) ≡ front_len us
first_block us ps vs = stops is_gap us (block ps) vs refl

take_within : {A : Type 0} (n : ℕ) (xs ys : List A) → n ≤ length xs → take n (xs ++ ys) ≡ take n xs
take_within zero xs ys le = refl
take_within (suc n) [] ys le = absurd (omega (arith, le))
take_within (suc n) (x ∷ xs) ys le = ap (λ zs. x ∷ zs) (take_within n xs ys (omega (arith, le)))

drop_within : {A : Type 0} (n : ℕ) (xs ys : List A) → n ≤ length xs → drop n (xs ++ ys) ≡ drop n xs ++ ys
drop_within zero xs ys le = refl
drop_within (suc n) [] ys le = absurd (omega (arith, le))
drop_within (suc n) (x ∷ xs) ys le = drop_within n xs ys (omega (arith, le))

pub first_taken : {A : Type 0} (p : A → Bool) (xs : List A) (y : A) (ys : List A) → p y ≡ false
    → take (prefix_len p (xs ++ y ∷ ys)) (xs ++ y ∷ ys) ≡ take (prefix_len p xs) xs
first_taken p xs y ys e =
    ap (λ n. take n (xs ++ y ∷ ys)) (stops p xs y ys e) ∙ take_within (prefix_len p xs) xs (y ∷ ys) (prefix_len-le-length p xs)

pub rest_dropped : {A : Type 0} (p : A → Bool) (xs : List A) (y : A) (ys : List A) → p y ≡ false
    → drop (prefix_len p (xs ++ y ∷ ys)) (xs ++ y ∷ ys) ≡ drop (prefix_len p xs) xs ++ y ∷ ys
rest_dropped p xs y ys e =
    ap (λ n. drop n (xs ++ y ∷ ys)) (stops p xs y ys e) ∙ drop_within (prefix_len p xs) xs (y ∷ ys) (prefix_len-le-length p xs)

-- ---- round a place

pub fits_same : {I : Type 0} (t : I → ItemTree) (P : List Holder → Type 0) (f g : I → List Stretch) → ((i : I) → f i ≡ g i) → Fits I t P g → Fits I t P f
fits_same t P f g e h = record { around = h.around; held = h.held; is = λ i. e i ∙ h.is i }

pub fits_behind : {I : Type 0} (t : I → ItemTree) (P : List Holder → Type 0) (f : I → List Stretch) (us : List Stretch) → Fits I t P f
    → Fits I t P (λ i. us ++ f i)
fits_behind t P f us h =
    let a : Around = h.around in
    record {
      around = record { front = us ++ a.front; holders = a.holders; back = a.back };
      held = h.held;
      is = λ i. ap (λ ss. us ++ ss) (h.is i) ∙ sym (append_assoc us a.front (tree_block (round a.holders (t i)) ∷ a.back));
    }

pub fits_before : {I : Type 0} (t : I → ItemTree) (P : List Holder → Type 0) (f : I → List Stretch) (vs : List Stretch) → Fits I t P f
    → Fits I t P (λ i. f i ++ vs)
fits_before t P f vs h =
    let a : Around = h.around in
    record {
      around = record { front = a.front; holders = a.holders; back = a.back ++ vs };
      held = h.held;
      is = λ i. ap (λ ss. ss ++ vs) (h.is i) ∙ append_assoc a.front (tree_block (round a.holders (t i)) ∷ a.back) vs;
    }

-- one node more round it
pub node_is : (h : Head) (o : List Item) (a : Around) (t : ItemTree) (us vs : List Stretch) (c : List Item)
    → node_of h o (us ++ tree_block (round a.holders t) ∷ vs) c
    ≡ round (record { head = h; opening = o; before = children (stretches_parts us); behind = children (stretches_parts vs); closing = c } ∷ a.holders) t
node_is h o a t us vs c =
    let u : ItemTree = round a.holders t in
    ap (λ ps. inner h o (forest (children ps)) c) (parts_round us vs u)
    ∙ ap (λ us. inner h o (forest us) c) (round_node u (stretches_parts us) (stretches_parts vs))

abbrev one_round : Head → List Item → Around → List Stretch → List Stretch → List Item → List Holder
one_round h o a us vs c =
    record { head = h; opening = o; before = children (stretches_parts us); behind = children (stretches_parts vs); closing = c } ∷ a.holders

-- a node with this head round the others
abbrev pub Raises : Head → (List Holder → Type 0) → (List Holder → Type 0) → Type 0
Raises h P Q = (r : Holder) (hs : List Holder) → r.head ≡ h → P hs → Q (r ∷ hs)

pub fits_node : {I : Type 0} (t : I → ItemTree) (P Q : List Holder → Type 0) (f : I → List Stretch) (h : Head) (o c : List Item) → Raises h P Q
    → Fits I t P f → Fits I t Q (λ i. tree_block (node_of h o (f i) c) ∷ [])
fits_node t P Q f h o c q g =
    let a : Around = g.around in
    record {
      around = record { front = []; holders = one_round h o a a.front a.back c; back = [] };
      held = q (record { head = h; opening = o; before = children (stretches_parts a.front); behind = children (stretches_parts a.back); closing = c }) a.holders refl g.held;
      is = λ i. ap (λ ss. tree_block (node_of h o ss c) ∷ []) (g.is i) ∙ ap (λ u. tree_block u ∷ []) (node_is h o a (t i) a.front a.back c);
    }

pub fits_opened : {I : Type 0} (t : I → ItemTree) (P Q : List Holder → Type 0) (f : I → List Stretch) (h : Head) (o : List Item) → Raises h P Q
    → Fits I t P f → Fits I t Q (λ i. opened_by h o (f i))
fits_opened t P Q f h o q g =
    let a : Around = g.around in
    record {
      around = record { front = []; holders = one_round h o a a.front (before_end a.back) []; back = end_gaps a.back };
      held = q (record { head = h; opening = o; before = children (stretches_parts a.front); behind = children (stretches_parts (before_end a.back)); closing = [] })
          a.holders refl g.held;
      is = λ i.
          let u : ItemTree = round a.holders (t i) in
          ap (opened_by h o) (g.is i)
          ∙ ap (λ ss. tree_block (node_of h o ss []) ∷ end_gaps (filled a (t i))) (before_last a.front (node u ∷ []) a.back)
          ∙ ap (λ v. tree_block v ∷ end_gaps (filled a (t i))) (node_is h o a (t i) a.front (before_end a.back) [])
          ∙ ap (λ ss. tree_block (round (one_round h o a a.front (before_end a.back) []) (t i)) ∷ ss) (behind_last a.front (node u ∷ []) a.back);
    }

pub fits_enclosed : {I : Type 0} (t : I → ItemTree) (P Q : List Holder → Type 0) (f : I → List Stretch) (h : Head) → Raises h P Q
    → Fits I t P f → Fits I t Q (λ i. enclosed h (f i))
fits_enclosed {I} t P Q f h q g =
    let a : Around = g.around in
    let us : List Stretch = front_gaps a.front in
    let rest : List Stretch = past_front a.front in
    let past : Fits I t P (λ i. rest ++ tree_block (round a.holders (t i)) ∷ a.back) =
    record { around = record { front = rest; holders = a.holders; back = a.back }; held = g.held; is = λ i. refl } in
    let opened = fits_opened t P Q (λ i. rest ++ tree_block (round a.holders (t i)) ∷ a.back) h [] q past in
    fits_same t Q (λ i. enclosed h (f i)) (λ i. us ++ opened_by h [] (rest ++ tree_block (round a.holders (t i)) ∷ a.back))
    (λ i.
    let u : Stretch = tree_block (round a.holders (t i)) in
    ap (enclosed h) (g.is i)
    ∙ ap (λ ss. ss ++ opened_by h [] (past_front (filled a (t i)))) (first_taken is_gap a.front u a.back refl)
    ∙ ap (λ ss. us ++ opened_by h [] ss) (rest_dropped is_gap a.front u a.back refl))
    (fits_behind t Q (λ i. opened_by h [] (rest ++ tree_block (round a.holders (t i)) ∷ a.back)) us opened)
