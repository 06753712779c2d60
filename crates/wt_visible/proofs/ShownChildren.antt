-- The children of a body as they are shown, found from left to right.
use Rattle.std.proofs.Common.{arith, ◌≡◌, ◌<◌, ◌≤◌, ℕ, zero, suc, ◌+◌, Bool, List, [], ◌∷◌, ◌++◌, length, take, drop, get_or, refl, sym, ap, ◌∙◌, append_assoc, append-nil, inl, inr, ◌⊎◌}
use Rattle.std.specs.Prelude.{◌≢◌, Some, None, slice_get}
use Rattle.std.specs.Bool.{Decides}
use Rattle.std.proofs.lemmas.List.{drop_more}
use Rattle.wt_tree.specs.declared.kind.Showing.{Showing}
use Rattle.wt_tree.specs.declared.kind.Showing.TheVariants.{Characters, Inside, Nothing}
use Rattle.wt_tree.specs.declared.node.Node.{Node, out-Node}
use Rattle.wt_tree.specs.Kinds.{showing}
use Rattle.wt_tree.specs.Plain.{Plain, text, element, Plains, ended, along, text_before, shown_before, plain_before, plains_before}
use Rattle.wt_tree.specs.Tree.{Trees}
use Rattle.wt_tree.specs.View.{label_of, view, views}
use Rattle.wt_tree.proofs.Views.{view_out}
use Rattle.wt_visible.specs.declared.children.Child.{Child}
use Rattle.wt_visible.specs.declared.shown_node.ShownNode.{ShownNode}
use Rattle.wt_visible.specs.declared.children.ShownSoFar.{ShownSoFar}
use Rattle.wt_visible.specs.Children.{listed, followed, closed, IsCommonLen, Differs}
use Rattle.wt_visible.specs.Views.{node_view, child_view, children_view, so_far, Adds}

-- ---- texts that are joined

text_joined : (bs cs : List ℕ) (rest : Plains) → text_before (bs ++ cs) rest ≡ text_before bs (text_before cs rest)
text_joined [] cs rest = refl
text_joined (b ∷ bs) [] rest = ap (λ xs. text_before xs rest) (append-nil (b ∷ bs))
text_joined (b ∷ bs) (c ∷ cs) ended = refl
text_joined (b ∷ bs) (c ∷ cs) (along (text ds) ps) = ap (λ xs. along (text xs) ps) (append_assoc (b ∷ bs) (c ∷ cs) ds)
text_joined (b ∷ bs) (c ∷ cs) (along (element f qs) ps) = refl

followed_join : (ps qs : List Plain) (rest : Plains) → followed (ps ++ qs) rest ≡ followed ps (followed qs rest)
followed_join [] qs rest = refl
followed_join (p ∷ ps) qs rest = ap (along p) (followed_join ps qs rest)

listed_join : (ps : List Plain) (rest : Plains) → listed (followed ps rest) ≡ ps ++ listed rest
listed_join [] rest = refl
listed_join (p ∷ ps) rest = ap (λ qs. p ∷ qs) (listed_join ps rest)

-- a text that has ended, and an element
closed_before : (ps : List Plain) (bs : List ℕ) (s : ShownNode) (rest : Plains)
    → followed (closed ps bs ++ node_view s ∷ []) rest ≡ followed ps (text_before bs (along (node_view s) rest))
closed_before ps [] s rest = followed_join ps (node_view s ∷ []) rest
closed_before ps (b ∷ bs) s rest =
    followed_join (ps ++ text (b ∷ bs) ∷ []) (node_view s ∷ []) rest ∙ followed_join ps (text (b ∷ bs) ∷ []) (along (node_view s) rest)

closed_ended : (ps : List Plain) (bs : List ℕ) → listed (followed ps (text_before bs ended)) ≡ closed ps bs
closed_ended ps [] = listed_join ps ended ∙ append-nil ps
closed_ended ps (b ∷ bs) = listed_join ps (along (text (b ∷ bs)) ended)

pub nothing_closed : (ps : List Plain) (bs : List ℕ) → length bs ≡ 0 → ps ≡ closed ps bs
nothing_closed ps [] e = refl
nothing_closed ps (b ∷ bs) e = absurd (cc)

pub something_closed : (ps qs : List Plain) (bs : List ℕ) → length bs ≢ 0 → qs ≡ ps ++ text bs ∷ [] → qs ≡ closed ps bs
something_closed ps qs [] n e = absurd (n refl)
something_closed ps qs (b ∷ bs) n e = e

-- ---- a node by what its kind shows

shown_as : (n : Node) (s : Showing) (rest : Plains) → showing (out-Node n).kind ≡ s
    → shown_before s (label_of (out-Node n)) (λ ps. plains_before (views (out-Node n).children) ps) rest ≡ plain_before (view n) rest
shown_as n s rest e =
    sym (ap (λ t. plain_before t rest) (view_out n)
    ∙ ap (λ k. shown_before k (label_of (out-Node n)) (λ ps. plains_before (views (out-Node n).children) ps) rest) e)

pub adds_text : (a b : ShownSoFar) (bs : List ℕ) → b.done.items ≡ a.done.items → b.text.items ≡ a.text.items ++ bs → Adds a b (text_before bs)
adds_text a b bs e f = λ rest.
    ap (λ cs. followed (children_view cs) (text_before b.text.items rest)) e
    ∙ ap (λ xs. followed (children_view a.done.items) (text_before xs rest)) f
    ∙ ap (followed (children_view a.done.items)) (text_joined a.text.items bs rest)

-- an element behind what was shown
pub element_added : (a b : ShownSoFar) (s : ShownNode) → children_view b.done.items ≡ closed (children_view a.done.items) a.text.items ++ node_view s ∷ []
    → b.text.items ≡ [] → (rest : Plains) → so_far b rest ≡ so_far a (along (node_view s) rest)
element_added a b s f g = λ rest.
    ap (λ ps. followed ps (text_before b.text.items rest)) f
    ∙ ap (λ bs. followed (closed (children_view a.done.items) a.text.items ++ node_view s ∷ []) (text_before bs rest)) g
    ∙ closed_before (children_view a.done.items) a.text.items s rest

pub adds_characters : (a b : ShownSoFar) (n : Node) (bs : List ℕ) → showing (out-Node n).kind ≡ Characters → bs ≡ (out-Node n).source.shown → Adds a b (text_before bs)
    → Adds a b (plain_before (view n))
adds_characters a b n bs e is h = λ rest. h rest ∙ ap (λ xs. so_far a (text_before xs rest)) is ∙ ap (so_far a) (shown_as n Characters rest e)

pub adds_inside : (a b : ShownSoFar) (n : Node) (ns : List Node) → showing (out-Node n).kind ≡ Inside → ns ≡ (out-Node n).children
    → Adds a b (plains_before (views ns)) → Adds a b (plain_before (view n))
adds_inside a b n ns e is h = λ rest. h rest ∙ ap (λ ms. so_far a (plains_before (views ms) rest)) is ∙ ap (so_far a) (shown_as n Inside rest e)

pub adds_nothing : (a : ShownSoFar) (n : Node) → showing (out-Node n).kind ≡ Nothing → Adds a a (plain_before (view n))
adds_nothing a n e = λ rest. ap (so_far a) (shown_as n Nothing rest e)

-- ---- all nodes

-- what is left of them, before what follows
abbrev pub Left : ShownSoFar → ShownSoFar → List Node → ℕ → Type 0
Left a b ns i = (rest : Plains) → so_far b (plains_before (views (drop i ns)) rest) ≡ so_far a (plains_before (views ns) rest)

pub left_turn : (a b d : ShownSoFar) (ns : List Node) (i : ℕ) (n : Node) → i < length ns → n ≡ get_or ns i n → Left a b ns i → Adds b d (plain_before (view n))
    → Left a d ns (i + 1)
left_turn a b d ns i n lt is h k = λ rest.
    k (plains_before (views (drop (i + 1) ns)) rest)
    ∙ ap (λ ms. so_far b (plains_before (views ms) rest)) (sym (drop_more ns i n lt ∙ ap (λ m. m ∷ drop (i + 1) ns) (sym is))) ∙ h rest

pub left_none : (a b : ShownSoFar) (ns : List Node) (i : ℕ) → drop i ns ≡ [] → Left a b ns i → Adds a b (plains_before (views ns))
left_none a b ns i e h = λ rest. ap (λ ms. so_far b (plains_before (views ms) rest)) (sym e) ∙ h rest

-- ---- all that is shown

pub nodes_shown : (a b : ShownSoFar) (ts : Trees) (qs : List Plain) → a.done.items ≡ [] → a.text.items ≡ [] → Adds a b (plains_before ts)
    → qs ≡ closed (children_view b.done.items) b.text.items → qs ≡ listed (plains_before ts ended)
nodes_shown a b ts qs d t h e =
    e ∙ sym (closed_ended (children_view b.done.items) b.text.items)
    ∙ ap listed (h ended ∙ ap (λ cs. followed (children_view cs) (text_before a.text.items (plains_before ts ended))) d
    ∙ ap (λ bs. text_before bs (plains_before ts ended)) t)

-- ---- two children

pub texts_decided : (bs cs : List ℕ) (v : Bool) → Decides v (bs ≡ cs) → Decides v (text bs ≡ text cs)
texts_decided bs cs v d = (λ h. ap text (d.0 h), λ h. d.1 (cc))

-- ---- how many are the same

get_at : (cs : List Child) (i : ℕ) (c : Child) → i < length cs → c ≡ get_or cs i c → slice_get (children_view cs) i ≡ Some (child_view c)
get_at [] i c lt is = absurd (omega (arith, lt))
get_at (x ∷ xs) zero c lt is = ap (λ y. Some (child_view y)) (sym is)
get_at (x ∷ xs) (suc i) c lt is = get_at xs i c (omega (arith, lt)) is

take_at : (cs : List Child) (i : ℕ) (c : Child) → i < length cs → c ≡ get_or cs i c
    → take (suc i) (children_view cs) ≡ take i (children_view cs) ++ child_view c ∷ []
take_at [] i c lt is = absurd (omega (arith, lt))
take_at (x ∷ xs) zero c lt is = ap (λ y. child_view y ∷ []) (sym is)
take_at (x ∷ xs) (suc i) c lt is = ap (λ ps. child_view x ∷ ps) (take_at xs i c (omega (arith, lt)) is)

pub same_more : (ls rs : List Child) (i : ℕ) (x y : Child) → i < length ls → i < length rs → x ≡ get_or ls i x → y ≡ get_or rs i y
    → take i (children_view ls) ≡ take i (children_view rs) → child_view x ≡ child_view y → take (i + 1) (children_view ls) ≡ take (i + 1) (children_view rs)
same_more ls rs i x y m n a b h e =
    let k : i + 1 ≡ suc i = omega arith in
    ap (λ j. take j (children_view ls)) k ∙ take_at ls i x m a ∙ ap (λ ps. ps ++ child_view x ∷ []) h
    ∙ ap (λ p. take i (children_view rs) ++ p ∷ []) e ∙ sym (take_at rs i y n b) ∙ ap (λ j. take j (children_view rs)) (sym k)

pub views_long : (cs : List Child) → length (children_view cs) ≡ length cs
views_long [] = refl
views_long (c ∷ cs) = ap suc (views_long cs)

some_same : (p q : Plain) → Some p ≡ Some q → p ≡ q
some_same p q e = cc

pub differ_here : (ls rs : List Child) (i : ℕ) (x y : Child) → i < length ls → i < length rs → x ≡ get_or ls i x → y ≡ get_or rs i y
    → take i (children_view ls) ≡ take i (children_view rs) → child_view x ≢ child_view y → IsCommonLen (children_view ls) (children_view rs) i
differ_here ls rs i x y m n a b h d = record {
  same = h;
  left = let e = views_long ls in omega (arith, e, m);
  right = let e = views_long rs in omega (arith, e, n);
  differs = λ k l e. d (some_same (child_view x) (child_view y) (sym (get_at ls i x m a) ∙ e ∙ get_at rs i y n b));
}

pub one_ends : (ls rs : List Child) (i : ℕ) → i ≤ length ls → i ≤ length rs → (i < length ls → i < length rs → ⊥)
    → take i (children_view ls) ≡ take i (children_view rs) → IsCommonLen (children_view ls) (children_view rs) i
one_ends ls rs i m n f h =
    let e = views_long ls in
    let g = views_long rs in
    record {
      same = h;
      left = omega (arith, e, m);
      right = omega (arith, g, n);
      differs = λ k l. absurd (f (omega (arith, k, e)) (omega (arith, l, g)));
    }

-- ---- the first that differs

take_whole : (xs : List Plain) (n : ℕ) → length xs ≤ n → take n xs ≡ xs
take_whole [] zero le = refl
take_whole [] (suc n) le = refl
take_whole (x ∷ xs) zero le = absurd (omega (arith, le))
take_whole (x ∷ xs) (suc n) le = ap (λ ys. x ∷ ys) (take_whole xs n (omega (arith, le)))

pub none_differs : (ls rs : List Child) (xs ys : List Plain) (n : ℕ) → children_view ls ≡ xs → children_view rs ≡ ys
    → IsCommonLen (children_view ls) (children_view rs) n
    → length ls ≤ n → length rs ≤ n → xs ≡ ys
none_differs ls rs xs ys n d e c l r =
    let p = views_long ls in
    let q = views_long rs in
    sym d ∙ sym (take_whole (children_view ls) n (omega (arith, p, l))) ∙ c.same ∙ take_whole (children_view rs) n (omega (arith, q, r)) ∙ e

get_none : (xs : List Plain) (n : ℕ) → length xs ≤ n → slice_get xs n ≡ None
get_none [] n le = refl
get_none (x ∷ xs) zero le = absurd (omega (arith, le))
get_none (x ∷ xs) (suc n) le = get_none xs n (omega (arith, le))

get_some : (xs : List Plain) (n : ℕ) → n < length xs → slice_get xs n ≢ None
get_some [] n lt e = absurd (omega (arith, lt))
get_some (x ∷ xs) zero lt e = cc
get_some (x ∷ xs) (suc n) lt e = get_some xs n (omega (arith, lt)) e

-- they differ where the same ones end
differs_there : (xs ys : List Plain) (n : ℕ) → IsCommonLen xs ys n → (length xs ≤ n → length ys ≤ n → ⊥) → slice_get xs n ≢ slice_get ys n
differs_there xs ys n c f e = by_left (nat_or n (length xs)) (nat_or n (length ys))
  where
    nat_or : (a b : ℕ) → (a < b) ⊎ (b ≤ a)
    nat_or zero zero = inr (omega arith)
    nat_or zero (suc b) = inl (omega arith)
    nat_or (suc a) zero = inr (omega arith)
    nat_or (suc a) (suc b) = elim (nat_or a b) [ inl l ↦ inl (omega (arith, l)) | inr l ↦ inr (omega (arith, l)) ]

    by_left : (n < length xs) ⊎ (length xs ≤ n) → (n < length ys) ⊎ (length ys ≤ n) → ⊥
    by_left (inl l) (inl r) = c.differs l r e
    by_left (inl l) (inr r) = get_some xs n l (e ∙ get_none ys n r)
    by_left (inr l) (inl r) = get_some ys n r (sym e ∙ get_none xs n l)
    by_left (inr l) (inr r) = f l r

pub first_differs : (ls rs : List Child) (xs ys : List Plain) (n k : ℕ) → children_view ls ≡ xs → children_view rs ≡ ys → k ≡ suc n
    → IsCommonLen (children_view ls) (children_view rs) n → (length ls ≤ n → length rs ≤ n → ⊥) → Differs xs ys k
first_differs ls rs xs ys n k d e is c f =
    let p = views_long ls in
    let q = views_long rs in
    let g = differs_there (children_view ls) (children_view rs) n c (λ l r. f (omega (arith, p, l)) (omega (arith, q, r))) in
    record {
      before = n;
      is = is;
      same = ap (take n) (sym d) ∙ c.same ∙ ap (take n) e;
      differs = λ h. g (ap (λ zs. slice_get zs n) d ∙ h ∙ ap (λ zs. slice_get zs n) (sym e));
    }
