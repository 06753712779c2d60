-- The marks on the blocks whose contents were edited: by their numbers, which no other node of the page has.
use Rattle.std.proofs.Common.{◌≡◌, ℕ, ◌<◌, inl, inr, Bool, true, false, List, [], ◌∷◌, ◌++◌, refl, sym, ap, ap₂, ◌∙◌, subst, arith}
use Rattle.std.specs.Prelude.{◌==◌, ◌||◌, ◌&&◌, not, if◌then◌else◌}
use Rattle.std.specs.List.{AllByRecursion}
use Rattle.std.proofs.lemmas.Bool.Decides.{nat_tests}
use Rattle.wt_tree.specs.declared.kind.Kind.{Kind}
use Rattle.wt_tree.specs.declared.kind.Kind.TheVariants as kind
use Rattle.wt_tree.specs.declared.kind.Mark.TheVariants as mark
use Rattle.wt_tree.specs.Kinds.{is_numbered}
use Rattle.wt_tree.specs.Tiling.{is_group, numbers, numbers_of_all, ids_of_all, others, others_of_all}
use Rattle.wt_tree.specs.Tree.{Label, Tree, tree, Trees, none, more}
use Rattle.wt_schema.specs.GroupNodes.{group_nodes}
use Rattle.wt_schema.specs.Written.{label_read, unranged, unranged_all}
use Rattle.wt_checks.proofs.InOrder.{Above, Increasing}
use Rattle.wt_checks.proofs.Lookups.{AllZero, each_split, each_join}
use Rattle.wt_typed_blocks.specs.Sent.{Block, paragraph, heading, kind_of}
use Rattle.wt_typed_blocks.specs.Edited.{Pieces, no_pieces, gone, written, kept, around, new_style, page_pieces, text_node, sent_pieces, IsStyle, PiecesStay, Edited, stays, edited, round, Edits, no_edits, more_edits, page_node, page_nodes, sent_node, sent_nodes, IsEdited, AreEdited}
use Rattle.wt_typed_blocks.specs.EditedUnmarked.{bare_node, bare_nodes}
use Rattle.wt_page_laws.specs.EditMarks.{mark_by, label_marked, tree_marked, trees_marked}
use Rattle.wt_program.specs.SentHtml.{ArePiecesRead, IsRead, AreRead, edited_numbers, numbers_edited, is_in}

-- ---- a node without chosen numbers

abbrev NoneChosen : (ℕ → Bool) → List ℕ → Type 0
NoneChosen f ns = AllByRecursion (λ n. f n ≡ false) ns

own_unchosen : (f : ℕ → Bool) (numbered group : Bool) (id : ℕ) (inner outer : List ℕ) → f 0 ≡ false → NoneChosen f ((if numbered then id ∷ [] else []) ++ inner)
    → AllZero ((if numbered then [] else id ∷ []) ++ outer) → f id ≡ false
own_unchosen f true group id inner outer z h o = h.0
own_unchosen f false group id inner outer z h o = ap f o.0 ∙ z

past_number : (P : ℕ → Type 0) (numbered : Bool) (id : ℕ) (inner : List ℕ) → AllByRecursion P ((if numbered then id ∷ [] else []) ++ inner) → AllByRecursion P inner
past_number P true id inner h = h.1
past_number P false id inner h = h

past_other : (numbered : Bool) (id : ℕ) (outer : List ℕ) → AllZero ((if numbered then [] else id ∷ []) ++ outer) → AllZero outer
past_other true id outer h = h
past_other false id outer h = h.1

label_same : (f : ℕ → Bool) (l : Label) → f l.id ≡ false → label_marked f l ≡ l
label_same f l e = ap (λ (b : Bool). record l { mark = mark_by (not (is_group l.kind) && b) l.mark }) e ∙ by_test (is_group l.kind)
  where
    by_test : (g : Bool) → record l { mark = mark_by (not g && false) l.mark } ≡ l
    by_test true = refl
    by_test false = refl

mutual
  tree_same : (f : ℕ → Bool) (t : Tree) → f 0 ≡ false → NoneChosen f (numbers t) → AllZero (others t) → tree_marked f (unranged t) ≡ unranged t
  tree_same f (tree l ts) z h o =
      ap₂ tree
      (label_same f (label_read l) (own_unchosen f (is_numbered l.kind) (is_group l.kind) l.id (if is_group l.kind then [] else numbers_of_all ts)
      (if is_group l.kind then ids_of_all ts else others_of_all ts) z h o))
      (by_group (is_group l.kind) (past_number (λ n. f n ≡ false) (is_numbered l.kind) l.id (if is_group l.kind then [] else numbers_of_all ts) h)
      (past_other (is_numbered l.kind) l.id (if is_group l.kind then ids_of_all ts else others_of_all ts) o) (λ i j. trees_same f ts z i j))
    where
      by_group : (g : Bool) → NoneChosen f (if g then [] else numbers_of_all ts) → AllZero (if g then ids_of_all ts else others_of_all ts)
          → (NoneChosen f (numbers_of_all ts) → AllZero (others_of_all ts) → trees_marked f (unranged_all ts) ≡ unranged_all ts)
          → (if g then (if g then group_nodes ts else unranged_all ts) else trees_marked f (if g then group_nodes ts else unranged_all ts))
          ≡ (if g then group_nodes ts else unranged_all ts)
      by_group true i j ih = refl
      by_group false i j ih = ih i j

  trees_same : (f : ℕ → Bool) (ts : Trees) → f 0 ≡ false → NoneChosen f (numbers_of_all ts) → AllZero (others_of_all ts)
      → trees_marked f (unranged_all ts) ≡ unranged_all ts
  trees_same f none z h o = refl
  trees_same f (more t ts) z h o =
      let i = each_split (λ n. f n ≡ false) (numbers t) (numbers_of_all ts) h in
      let j = each_split (λ n. n ≡ 0) (others t) (others_of_all ts) o in
      ap₂ more (tree_same f t z i.0 j.0) (trees_same f ts z i.1 j.1)

-- ---- so is a content of which none is chosen

style_group : (k : Kind) → IsStyle k → is_group k ≡ false
style_group k (inl e) = ap is_group e
style_group k (inr e) = ap is_group e

-- what is in a node that is no group
inner_numbers : (l : Label) (ts : Trees) → is_group l.kind ≡ false → numbers (tree l ts) ≡ (if is_numbered l.kind then l.id ∷ [] else []) ++ numbers_of_all ts
inner_numbers l ts e = ap (λ (g : Bool). (if is_numbered l.kind then l.id ∷ [] else []) ++ (if g then [] else numbers_of_all ts)) e

inner_others : (l : Label) (ts : Trees) → is_group l.kind ≡ false → others (tree l ts) ≡ (if is_numbered l.kind then [] else l.id ∷ []) ++ others_of_all ts
inner_others l ts e = ap (λ (g : Bool). (if is_numbered l.kind then [] else l.id ∷ []) ++ (if g then ids_of_all ts else others_of_all ts)) e

holder_marked : (f : ℕ → Bool) (l : Label) (ts : Trees) → is_group l.kind ≡ false → tree_marked f (tree l ts) ≡ tree (label_marked f l) (trees_marked f ts)
holder_marked f l ts e = ap (λ (g : Bool). tree (label_marked f l) (if g then ts else trees_marked f ts)) e

pieces_same : (f : ℕ → Bool) (ps : Pieces) → f 0 ≡ false → PiecesStay ps → ArePiecesRead ps → NoneChosen f (numbers_of_all (page_pieces ps))
    → AllZero (others_of_all (page_pieces ps)) → trees_marked f (sent_pieces ps) ≡ sent_pieces ps
pieces_same f no_pieces z s r h o = refl
pieces_same f (gone t ps) z s r h o =
    pieces_same f ps z s r (each_split (λ n. f n ≡ false) (numbers t) (numbers_of_all (page_pieces ps)) h).1
    (each_split (λ n. n ≡ 0) (others t) (others_of_all (page_pieces ps)) o).1
pieces_same f (written x text ps) z s r h o = by_text text (pieces_same f ps z s r.2 h o)
  where
    by_text : (bs : List ℕ) → trees_marked f (sent_pieces ps) ≡ sent_pieces ps → trees_marked f (text_node x bs (sent_pieces ps)) ≡ text_node x bs (sent_pieces ps)
    by_text [] e = e
    by_text (c ∷ cs) e =
        ap₂ (λ (m : Label) (us : Trees). more (tree m none) us) (label_same f (record x { kind = kind.Text; id = 0; shown = c ∷ cs; mark = mark.Nothing }) z) e
pieces_same f (kept t u ps) z s r h o =
    let i = each_split (λ n. f n ≡ false) (numbers t) (numbers_of_all (page_pieces ps)) h in
    let j = each_split (λ n. n ≡ 0) (others t) (others_of_all (page_pieces ps)) o in
    ap₂ more (subst (λ (v : Tree). tree_marked f v ≡ v) (sym r.0) (tree_same f t z i.0 j.0)) (pieces_same f ps z s.1 r.1 i.1 j.1)
pieces_same f (around l m is ps) z s r h o =
    let g : is_group l.kind ≡ false = style_group l.kind s.0 in
    let i = each_split (λ n. f n ≡ false) (numbers (tree l (page_pieces is))) (numbers_of_all (page_pieces ps)) h in
    let j = each_split (λ n. n ≡ 0) (others (tree l (page_pieces is))) (others_of_all (page_pieces ps)) o in
    let u = subst (NoneChosen f) (inner_numbers l (page_pieces is) g) i.0 in
    let v = subst AllZero (inner_others l (page_pieces is) g) j.0 in
    let id : f l.id ≡ false = own_unchosen f (is_numbered l.kind) false l.id (numbers_of_all (page_pieces is)) (others_of_all (page_pieces is)) z u v in
    let inside : trees_marked f (sent_pieces is) ≡ sent_pieces is =
    pieces_same f is z s.2 r.2 (past_number (λ n. f n ≡ false) (is_numbered l.kind) l.id (numbers_of_all (page_pieces is)) u)
    (past_other (is_numbered l.kind) l.id (others_of_all (page_pieces is)) v) in
    let here : tree_marked f (tree (label_read l) (sent_pieces is)) ≡ tree (label_read l) (sent_pieces is) =
    holder_marked f (label_read l) (sent_pieces is) g ∙ ap₂ tree (label_same f (label_read l) id) inside in
    ap₂ more (subst (λ (y : Label). tree_marked f (tree y (sent_pieces is)) ≡ tree y (sent_pieces is)) (sym r.0) here)
    (pieces_same f ps z s.3 r.3 i.1 j.1)
pieces_same f (new_style m is ps) z s r h o = absurd r

-- ---- each block is chosen, and no other node

block_numbers : (k : Block) (l : Label) (ts : Trees) → numbers (tree (record l { kind = kind_of k }) ts) ≡ l.id ∷ numbers_of_all ts
block_numbers paragraph l ts = refl
block_numbers (heading n) l ts = refl

block_others : (k : Block) (l : Label) (ts : Trees) → others (tree (record l { kind = kind_of k }) ts) ≡ others_of_all ts
block_others paragraph l ts = refl
block_others (heading n) l ts = refl

mutual
  numbers_in : (P : ℕ → Type 0) (e : Edited) → IsRead e → AllByRecursion P (numbers (page_node e)) → AllByRecursion P (edited_numbers e)
  numbers_in P (stays t u) r h = tt
  numbers_in P (edited k l m ps) r h = let i = subst (AllByRecursion P) (block_numbers k l (page_pieces ps)) h in (i.0, tt)
  numbers_in P (round l m es) r h =
      all_numbers_in P es r.2 (past_number P (is_numbered l.kind) l.id (numbers_of_all (page_nodes es)) (subst (AllByRecursion P) (inner_numbers l (page_nodes es) r.1) h))

  all_numbers_in : (P : ℕ → Type 0) (es : Edits) → AreRead es → AllByRecursion P (numbers_of_all (page_nodes es)) → AllByRecursion P (numbers_edited es)
  all_numbers_in P no_edits r h = tt
  all_numbers_in P (more_edits e es) r h =
      let i = each_split P (numbers (page_node e)) (numbers_of_all (page_nodes es)) h in
      each_join P (edited_numbers e) (numbers_edited es) (numbers_in P e r.0 i.0) (all_numbers_in P es r.1 i.1)

-- numbers that rise are others in each part
abbrev AllAbove : List ℕ → List ℕ → Type 0
AllAbove ms ns = AllByRecursion (λ m. Above m ns) ms

rising_parts : (xs ys : List ℕ) → Increasing (xs ++ ys) → Increasing xs × Increasing ys × AllAbove xs ys
rising_parts [] ys h = (tt, h, tt)
rising_parts (x ∷ xs) ys h =
    let r = rising_parts xs ys h.1 in
    let a = each_split (λ k. x < k) xs ys h.0 in
    ((a.0, r.0), r.1, (a.1, r.2))

not_in_above : (n : ℕ) (ns : List ℕ) → Above n ns → is_in n ns ≡ false
not_in_above n [] h = refl
not_in_above n (m ∷ ms) h = ap₂ (λ x y. x || y) (differ n m h.0) (not_in_above n ms h.1)
  where
    differ : (a b : ℕ) → a < b → (a == b) ≡ false
    differ a b l = grind (arith, nat_tests)

not_in_below : (n : ℕ) (ms : List ℕ) → AllByRecursion (λ m. m < n) ms → is_in n ms ≡ false
not_in_below n [] h = refl
not_in_below n (m ∷ ms) h = ap₂ (λ x y. x || y) (differ n m h.0) (not_in_below n ms h.1)
  where
    differ : (a b : ℕ) → b < a → (a == b) ≡ false
    differ a b l = grind (arith, nat_tests)

in_both : (n : ℕ) (xs ys : List ℕ) → is_in n (xs ++ ys) ≡ (is_in n xs || is_in n ys)
in_both n [] ys = refl
in_both n (x ∷ xs) ys = by_test (n == x) (in_both n xs ys)
  where
    by_test : (b : Bool) → is_in n (xs ++ ys) ≡ (is_in n xs || is_in n ys) → (b || is_in n (xs ++ ys)) ≡ ((b || is_in n xs) || is_in n ys)
    by_test true e = refl
    by_test false e = e

in_first : (n : ℕ) (xs ys : List ℕ) → is_in n ys ≡ false → is_in n (xs ++ ys) ≡ is_in n xs
in_first n xs ys e = in_both n xs ys ∙ ap (λ b. is_in n xs || b) e ∙ by_test (is_in n xs)
  where
    by_test : (b : Bool) → (b || false) ≡ b
    by_test true = refl
    by_test false = refl

in_second : (n : ℕ) (xs ys : List ℕ) → is_in n xs ≡ false → is_in n (xs ++ ys) ≡ is_in n ys
in_second n xs ys e = in_both n xs ys ∙ ap (λ b. b || is_in n ys) e

-- of these numbers those of the blocks alone are chosen
abbrev pub ChosenAre : (ℕ → Bool) → List ℕ → List ℕ → Type 0
ChosenAre f ms ns = AllByRecursion (λ n. f n ≡ is_in n ms) ns

first_chosen : (f : ℕ → Bool) (xs ms ks : List ℕ) → ChosenAre f (ms ++ ks) xs → AllAbove xs ks → ChosenAre f ms xs
first_chosen f [] ms ks h a = tt
first_chosen f (x ∷ xs) ms ks h a = (h.0 ∙ in_first x ms ks (not_in_above x ks a.0), first_chosen f xs ms ks h.1 a.1)

-- where every one of some numbers is below each of others
abbrev AllBelow : List ℕ → List ℕ → Type 0
AllBelow ms ns = AllByRecursion (λ n. AllByRecursion (λ m. m < n) ms) ns

second_chosen : (f : ℕ → Bool) (ys ms ks : List ℕ) → ChosenAre f (ms ++ ks) ys → AllBelow ms ys → ChosenAre f ks ys
second_chosen f [] ms ks h a = tt
second_chosen f (y ∷ ys) ms ks h a = (h.0 ∙ in_second y ms ks (not_in_below y ms a.0), second_chosen f ys ms ks h.1 a.1)

none_chosen : (f : ℕ → Bool) (ns : List ℕ) → ChosenAre f [] ns → NoneChosen f ns
none_chosen f [] h = tt
none_chosen f (n ∷ ns) h = (h.0, none_chosen f ns h.1)

-- above a number that alone is chosen none is chosen
others_chosen : (f : ℕ → Bool) (id : ℕ) (ns : List ℕ) → Above id ns → ChosenAre f (id ∷ []) ns → NoneChosen f ns
others_chosen f id [] a h = tt
others_chosen f id (n ∷ ns) a h = (h.0 ∙ not_in_below n (id ∷ []) (a.0, tt), others_chosen f id ns a.1 h.1)

below_by : (xs ys : List ℕ) → AllAbove xs ys → AllBelow xs ys
below_by xs [] h = tt
below_by xs (y ∷ ys) h = (heads xs h, below_by xs ys (tails xs h))
  where
    heads : (zs : List ℕ) → AllAbove zs (y ∷ ys) → AllByRecursion (λ m. m < y) zs
    heads [] i = tt
    heads (v ∷ vs) i = (i.0.0, heads vs i.1)

    tails : (zs : List ℕ) → AllAbove zs (y ∷ ys) → AllAbove zs ys
    tails [] i = tt
    tails (v ∷ vs) i = (i.0.1, tails vs i.1)

same_number : (n : ℕ) → (n == n) ≡ true
same_number n = grind (arith, nat_tests)

-- the numbers of edited blocks are among those of the page's nodes
each_up : (xs : List ℕ) (es : Edits) → AreRead es → AllAbove xs (numbers_of_all (page_nodes es)) → AllAbove xs (numbers_edited es)
each_up [] es r h = tt
each_up (x ∷ xs) es r h = (all_numbers_in (λ k. x < k) es r h.0, each_up xs es r h.1)

each_down : (ys : List ℕ) (e : Edited) → IsRead e → AllBelow (numbers (page_node e)) ys → AllBelow (edited_numbers e) ys
each_down [] e r h = tt
each_down (y ∷ ys) e r h = (numbers_in (λ m. m < y) e r h.0, each_down ys e r h.1)

-- ---- what is sent is what is read without marks, with the mark on the chosen blocks

block_marked : (f : ℕ → Bool) (k : Block) (l m : Label) (us : Trees) → f l.id ≡ true → trees_marked f us ≡ us
    → tree (record m { kind = kind_of k; id = l.id; attrs = l.attrs; mark = mark.Content; mw = l.mw }) us
    ≡ tree_marked f (tree (record m { kind = kind_of k; id = l.id; attrs = l.attrs; mw = l.mw }) us)
block_marked f paragraph l m us e h =
    ap₂ (λ (b : Bool) (vs : Trees). tree (record m { kind = kind.Para; id = l.id; attrs = l.attrs; mark = mark_by b m.mark; mw = l.mw }) vs) (sym e) (sym h)
block_marked f (heading n) l m us e h =
    ap₂ (λ (b : Bool) (vs : Trees). tree (record m { kind = kind.Heading n; id = l.id; attrs = l.attrs; mark = mark_by b m.mark; mw = l.mw }) vs) (sym e) (sym h)

-- a number that is before those of what the node holds
number_unchosen : (f : ℕ → Bool) (numbered : Bool) (id : ℕ) (ms ns outer : List ℕ) → f 0 ≡ false → Increasing ((if numbered then id ∷ [] else []) ++ ns)
    → ChosenAre f ms ((if numbered then id ∷ [] else []) ++ ns) → AllZero ((if numbered then [] else id ∷ []) ++ outer)
    → ((P : ℕ → Type 0) → AllByRecursion P ns → AllByRecursion P ms) → f id ≡ false
number_unchosen f true id ms ns outer z i h o g = h.0 ∙ not_in_above id ms (g (λ k. id < k) i.0)
number_unchosen f false id ms ns outer z i h o g = ap f o.0 ∙ z

past_rising : (numbered : Bool) (id : ℕ) (ns : List ℕ) → Increasing ((if numbered then id ∷ [] else []) ++ ns) → Increasing ns
past_rising true id ns h = h.1
past_rising false id ns h = h

mutual
  node_marked : (f : ℕ → Bool) (e : Edited) → f 0 ≡ false → IsEdited e → IsRead e → Increasing (numbers (page_node e)) → AllZero (others (page_node e))
      → ChosenAre f (edited_numbers e) (numbers (page_node e)) → sent_node e ≡ tree_marked f (bare_node e)
  node_marked f (stays t u) z s r i o h =
      sym (subst (λ (v : Tree). tree_marked f v ≡ v) (sym r) (tree_same f t z (none_chosen f (numbers t) h) o))
  node_marked f (edited k l m ps) z s r i o h =
      let a = subst Increasing (block_numbers k l (page_pieces ps)) i in
      let b = subst (ChosenAre f (l.id ∷ [])) (block_numbers k l (page_pieces ps)) h in
      let c = subst AllZero (block_others k l (page_pieces ps)) o in
      block_marked f k l m (sent_pieces ps) (b.0 ∙ ap (λ x. x || false) (same_number l.id))
      (pieces_same f ps z s.1 r.2 (others_chosen f l.id (numbers_of_all (page_pieces ps)) a.0 b.1) c)
  node_marked f (round l m es) z s r i o h =
      let a = subst Increasing (inner_numbers l (page_nodes es) r.1) i in
      let b = subst (ChosenAre f (numbers_edited es)) (inner_numbers l (page_nodes es) r.1) h in
      let c = subst AllZero (inner_others l (page_nodes es) r.1) o in
      let ns : List ℕ = numbers_of_all (page_nodes es) in
      let id : f l.id ≡ false =
      number_unchosen f (is_numbered l.kind) l.id (numbers_edited es) ns (others_of_all (page_nodes es)) z a b c (λ P g. all_numbers_in P es r.2 g) in
      let inside : sent_nodes es ≡ trees_marked f (bare_nodes es) =
      nodes_marked f es z s.1 r.2 (past_rising (is_numbered l.kind) l.id ns a) (past_other (is_numbered l.kind) l.id (others_of_all (page_nodes es)) c)
      (past_number (λ n. f n ≡ is_in n (numbers_edited es)) (is_numbered l.kind) l.id ns b) in
      let P : Label → Type 0 = λ y. tree y (sent_nodes es) ≡ tree_marked f (tree y (bare_nodes es)) in
      subst P (sym r.0)
      (ap₂ tree (sym (label_same f (label_read l) id)) inside ∙ sym (holder_marked f (label_read l) (bare_nodes es) r.1))

  pub nodes_marked : (f : ℕ → Bool) (es : Edits) → f 0 ≡ false → AreEdited es → AreRead es → Increasing (numbers_of_all (page_nodes es))
      → AllZero (others_of_all (page_nodes es)) → ChosenAre f (numbers_edited es) (numbers_of_all (page_nodes es))
      → sent_nodes es ≡ trees_marked f (bare_nodes es)
  nodes_marked f no_edits z s r i o h = refl
  nodes_marked f (more_edits e es) z s r i o h =
      let xs : List ℕ = numbers (page_node e) in
      let ys : List ℕ = numbers_of_all (page_nodes es) in
      let ms : List ℕ = edited_numbers e in
      let ks : List ℕ = numbers_edited es in
      let rising = rising_parts xs ys i in
      let chosen = each_split (λ n. f n ≡ is_in n (ms ++ ks)) xs ys h in
      let zero = each_split (λ n. n ≡ 0) (others (page_node e)) (others_of_all (page_nodes es)) o in
      let below : AllBelow xs ys = below_by xs ys rising.2 in
      ap₂ more
      (node_marked f e z s.0 r.0 rising.0 zero.0 (first_chosen f xs ms ks chosen.0 (each_up xs es r.1 rising.2)))
      (nodes_marked f es z s.1 r.1 rising.1 zero.1 (second_chosen f ys ms ks chosen.1 (each_down ys e r.0 below)))
