-- The children of the body of prose, and what is sent for them where paragraphs come and go, one by one.
use Rattle.std.proofs.Common.{arith, ◌≡◌, ◌≢◌, ℕ, zero, suc, ◌+◌, ◌≤◌, List, [], ◌∷◌, ◌++◌, map, refl, ap, ◌∙◌}
use Rattle.std.specs.List.{flat_map}
use Rattle.wt_tree.specs.Tree.{Tree, tree, Trees, none, more}
use Rattle.wt_span.specs.Items.{Item}
use Rattle.wt_inline.specs.ItemTree.{ItemTree, forest}
use Rattle.wt_annotated.specs.Labels.{label_at}
use Rattle.wt_annotated.specs.Numbering.{count_all}
use Rattle.wt_annotated.specs.WithoutCalls.{all_placed}
use Rattle.wt_typed_blocks.specs.Coming as coming
use Rattle.wt_typed_blocks.specs.Coming.{Coming, no_more, spaced, comes, white_space, new_paragraph, page_children, sent_children, Stays, AllStay, NextIsOther, AreListed}
use Rattle.wt_text_edit_laws.proofs.Texts.TypedLeaves.{leaf_tree, leaves_para}
use Rattle.wt_text_edit_laws.specs.ProsePages.{Passage}
use Rattle.wt_text_edit_laws.specs.ProseTrees.{separator}
use Rattle.wt_text_edit_laws.specs.ProseChanges.{Addition, white, paragraph, PassageChange, stays, goes, ProseChange, passages_before, sent_before, sent_passages, after_breaks, AreSentAsIs}
use Rattle.wt_text_edit_laws.proofs.Prose.ProseTrees.{leaves_of, leafy, blocks_of, blocks_from, para_label, para_nodes, number_behind, items_behind, sep_label, sep_tree}

-- ---- nodes

abbrev pub passage_node : ℕ → List Item → Passage → Tree
passage_node n before p = tree (para_label n before (leaves_of p)) (para_nodes n before (leaves_of p))

abbrev pub breaks_node : ℕ → List Item → Tree
breaks_node k before = tree (sep_label before k) none

-- the number and the place behind a paragraph, and behind so many line breaks
abbrev pub number_past : ℕ → List Item → Passage → ℕ
number_past n before p = number_behind n before (leaves_para (leaves_of p))

abbrev pub items_past : List Item → Passage → List Item
items_past before p = items_behind before (leaves_para (leaves_of p))

abbrev pub number_after : ℕ → ℕ → List Item → ℕ
number_after zero n before = n
number_after (suc k) n before = number_behind n before (sep_tree (suc k))

abbrev pub items_after : ℕ → List Item → List Item
items_after zero before = before
items_after (suc k) before = items_behind before (sep_tree (suc k))

-- ---- one by one

abbrev pub with_breaks : ℕ → List Item → Coming → Coming
with_breaks zero before cs = cs
with_breaks (suc k) before cs = coming.goes (breaks_node (suc k) before) cs

abbrev pub with_added : List Addition → Coming → Coming
with_added [] cs = cs
with_added (white x ∷ xs) cs = spaced x (with_added xs cs)
with_added (paragraph m x text ∷ xs) cs = comes m x text (with_added xs cs)

-- from this number and place on
abbrev pub coming_of : ℕ → List Item → List PassageChange → Coming
coming_of n before [] = no_more
coming_of n before (stays p u xs ∷ cs) =
    let m : ℕ = number_past n before p in
    let after : List Item = items_past before p in
    coming.stays (passage_node n before p) u
    (with_added xs (with_breaks p.breaks after (coming_of (number_after p.breaks m after) (items_after p.breaks after) cs)))
coming_of n before (goes p ∷ cs) =
    let m : ℕ = number_past n before p in
    let after : List Item = items_past before p in
    coming.goes (passage_node n before p) (with_breaks p.breaks after (coming_of (number_after p.breaks m after) (items_after p.breaks after) cs))

abbrev pub whole_coming : ProseChange → Coming
whole_coming c = with_added c.first (coming_of 1 [] c.changes)

-- ---- these are the page's nodes

added_page : (xs : List Addition) (cs : Coming) → page_children (with_added xs cs) ≡ page_children cs
added_page [] cs = refl
added_page (white x ∷ xs) cs = added_page xs cs
added_page (paragraph m x text ∷ xs) cs = added_page xs cs

breaks_page : (k m : ℕ) (after : List Item) (ts : List ItemTree) (cs : Coming)
    → page_children cs ≡ blocks_of (number_after k m after) (items_after k after) ts
    → page_children (with_breaks k after cs) ≡ blocks_of m after (separator k ++ ts)
unfolding label_at
breaks_page zero m after ts cs e = e
breaks_page (suc k) m after ts cs e = ap (λ (us : Trees). more (breaks_node (suc k) after) us) e

pub page_is : (n : ℕ) (before : List Item) (cs : List PassageChange) → page_children (coming_of n before cs) ≡ blocks_from n before (passages_before cs)
unfolding label_at
page_is n before [] = refl
page_is n before (stays p u xs ∷ cs) =
    let k : ℕ = p.breaks in
    let m : ℕ = number_past n before p in
    let after : List Item = items_past before p in
    let rest : Coming = coming_of (number_after k m after) (items_after k after) cs in
    ap (λ (us : Trees). more (passage_node n before p) us)
    (added_page xs (with_breaks k after rest)
    ∙ breaks_page k m after (flat_map leafy (passages_before cs)) rest (page_is (number_after k m after) (items_after k after) cs))
page_is n before (goes p ∷ cs) =
    let k : ℕ = p.breaks in
    let m : ℕ = number_past n before p in
    let after : List Item = items_past before p in
    let rest : Coming = coming_of (number_after k m after) (items_after k after) cs in
    ap (λ (us : Trees). more (passage_node n before p) us)
    (breaks_page k m after (flat_map leafy (passages_before cs)) rest (page_is (number_after k m after) (items_after k after) cs))

pub whole_page : (c : ProseChange) → page_children (whole_coming c) ≡ blocks_from 1 [] (passages_before c.changes)
whole_page c = added_page c.first (coming_of 1 [] c.changes) ∙ page_is 1 [] c.changes

-- ---- and those that are sent

added_sent : (xs : List Addition) (cs : Coming) → sent_children (with_added xs cs) ≡ sent_before xs (sent_children cs)
added_sent [] cs = refl
added_sent (white x ∷ xs) cs = ap (λ (us : Trees). more (white_space x) us) (added_sent xs cs)
added_sent (paragraph m x text ∷ xs) cs = ap (λ (us : Trees). more (new_paragraph m x text) us) (added_sent xs cs)

breaks_sent : (k : ℕ) (after : List Item) (cs : Coming) → sent_children (with_breaks k after cs) ≡ sent_children cs
breaks_sent zero after cs = refl
breaks_sent (suc k) after cs = refl

sent_is : (n : ℕ) (before : List Item) (cs : List PassageChange) → sent_children (coming_of n before cs) ≡ sent_passages cs
sent_is n before [] = refl
sent_is n before (stays p u xs ∷ cs) =
    let k : ℕ = p.breaks in
    let m : ℕ = number_past n before p in
    let after : List Item = items_past before p in
    let rest : Coming = coming_of (number_after k m after) (items_after k after) cs in
    ap (λ (us : Trees). more u us)
    (added_sent xs (with_breaks k after rest)
    ∙ ap (sent_before xs) (breaks_sent k after rest ∙ sent_is (number_after k m after) (items_after k after) cs))
sent_is n before (goes p ∷ cs) =
    let k : ℕ = p.breaks in
    let m : ℕ = number_past n before p in
    let after : List Item = items_past before p in
    breaks_sent k after (coming_of (number_after k m after) (items_after k after) cs) ∙ sent_is (number_after k m after) (items_after k after) cs

pub whole_sent : (c : ProseChange) → sent_children (whole_coming c) ≡ sent_before c.first (sent_passages c.changes)
whole_sent c = added_sent c.first (coming_of 1 [] c.changes) ∙ ap (sent_before c.first) (sent_is 1 [] c.changes)

-- ---- what stays

added_stay : (xs : List Addition) (cs : Coming) → AllStay cs → AllStay (with_added xs cs)
added_stay [] cs h = h
added_stay (white x ∷ xs) cs h = added_stay xs cs h
added_stay (paragraph m x text ∷ xs) cs h = added_stay xs cs h

breaks_stay : (k : ℕ) (after : List Item) (cs : Coming) → AllStay cs → AllStay (with_breaks k after cs)
breaks_stay zero after cs h = h
breaks_stay (suc k) after cs h = h

pub stay_added : (xs : List Addition) (cs : Coming) → AllStay (with_added xs cs) → AllStay cs
stay_added [] cs h = h
stay_added (white x ∷ xs) cs h = stay_added xs cs h
stay_added (paragraph m x text ∷ xs) cs h = stay_added xs cs h

pub stay_behind : (k : ℕ) (after : List Item) (cs : Coming) → AllStay (with_breaks k after cs) → AllStay cs
stay_behind zero after cs h = h
stay_behind (suc k) after cs h = h

-- the number behind a paragraph is greater, and that behind line breaks not less
past_more : (n : ℕ) (before : List Item) (p : Passage) → suc n ≤ number_past n before p
unfolding label_at
past_more n before p =
    let c : ℕ = count_all (all_placed (before ++ []) (forest (map leaf_tree (leaves_of p)))) in
    let e : number_past n before p ≡ n + (1 + c) = refl in
    omega (arith, e)

after_least : (k m : ℕ) (after : List Item) → m ≤ number_after k m after
after_least zero m after = omega arith
after_least (suc k) m after = omega arith

rest_sent : (k m : ℕ) (after : List Item) (cs : List PassageChange) (ts : List ItemTree) → AreSentAsIs cs (after_breaks k (blocks_of m after (separator k ++ ts)))
    → AreSentAsIs cs (blocks_of (number_after k m after) (items_after k after) ts)
unfolding label_at
rest_sent zero m after cs ts h = h
rest_sent (suc k) m after cs ts h = h

pub later : (n k : ℕ) (before : List Item) (p : Passage) → 1 ≤ n → 1 ≤ number_after k (number_past n before p) (items_past before p)
later n k before p le =
    let a : suc n ≤ number_past n before p = past_more n before p in
    let b : number_past n before p ≤ number_after k (number_past n before p) (items_past before p) = after_least k (number_past n before p) (items_past before p) in
    omega (arith, le, a, b)

pub all_stay : (n : ℕ) (before : List Item) (cs : List PassageChange) → 1 ≤ n → AreSentAsIs cs (blocks_from n before (passages_before cs))
    → AllStay (coming_of n before cs)
unfolding label_at
all_stay n before [] le h = tt
all_stay n before (stays p u xs ∷ cs) le h =
    let k : ℕ = p.breaks in
    let m : ℕ = number_past n before p in
    let after : List Item = items_past before p in
    let rest : Coming = coming_of (number_after k m after) (items_after k after) cs in
    let some : n ≢ 0 = omega (arith, le) in
    let here : Stays (passage_node n before p) u = record { as_is = h.0; numbered = some; block = refl } in (
      here,
      added_stay xs (with_breaks k after rest) (breaks_stay k after rest
          (all_stay (number_after k m after) (items_after k after) cs (later n k before p le) (rest_sent k m after cs (flat_map leafy (passages_before cs)) h.1))),
    )
all_stay n before (goes p ∷ cs) le h =
    let k : ℕ = p.breaks in
    let m : ℕ = number_past n before p in
    let after : List Item = items_past before p in
    let rest : Coming = coming_of (number_after k m after) (items_after k after) cs in
    breaks_stay k after rest
    (all_stay (number_after k m after) (items_after k after) cs (later n k before p le) (rest_sent k m after cs (flat_map leafy (passages_before cs)) h))

pub whole_stay : (c : ProseChange) → AreSentAsIs c.changes (blocks_from 1 [] (passages_before c.changes)) → AllStay (whole_coming c)
whole_stay c h = added_stay c.first (coming_of 1 [] c.changes) (all_stay 1 [] c.changes (omega arith) h)

-- ---- the order in which they are listed

breaks_next : (j k : ℕ) (after : List Item) (cs : Coming) → NextIsOther j cs → NextIsOther j (with_breaks k after cs)
breaks_next j zero after cs h = h
breaks_next j (suc k) after cs h = h

next_other : (j n : ℕ) (before : List Item) (cs : List PassageChange) → suc j ≤ n → NextIsOther j (coming_of n before cs)
next_other j n before [] le = tt
next_other j n before (stays p u xs ∷ cs) le =
    let other : n ≢ j = omega (arith, le) in
    other
next_other j n before (goes p ∷ cs) le =
    let k : ℕ = p.breaks in
    let m : ℕ = number_past n before p in
    let after : List Item = items_past before p in
    let a : suc n ≤ m = past_more n before p in
    let b : m ≤ number_after k m after = after_least k m after in
    breaks_next j k after (coming_of (number_after k m after) (items_after k after) cs)
    (next_other j (number_after k m after) (items_after k after) cs (omega (arith, le, a, b)))

added_listed : (xs : List Addition) (cs : Coming) → AreListed cs → AreListed (with_added xs cs)
added_listed [] cs h = h
added_listed (white x ∷ xs) cs h = added_listed xs cs h
added_listed (paragraph m x text ∷ xs) cs h = added_listed xs cs h

-- line breaks have no number
breaks_listed : (k : ℕ) (after : List Item) (cs : Coming) → NextIsOther 0 cs → AreListed cs → AreListed (with_breaks k after cs)
breaks_listed zero after cs o h = h
breaks_listed (suc k) after cs o h = (o, h)

rest_listed : (n : ℕ) (before : List Item) (p : Passage) (cs : List PassageChange) → 1 ≤ n
    → ((m : ℕ) (after : List Item) → 1 ≤ m → AreListed (coming_of m after cs))
    → AreListed (with_breaks p.breaks (items_past before p)
    (coming_of (number_after p.breaks (number_past n before p) (items_past before p)) (items_after p.breaks (items_past before p)) cs))
rest_listed n before p cs le g =
    let k : ℕ = p.breaks in
    let m : ℕ = number_past n before p in
    let after : List Item = items_past before p in
    let le : 1 ≤ number_after k m after = later n k before p le in
    breaks_listed k after (coming_of (number_after k m after) (items_after k after) cs) (next_other 0 (number_after k m after) (items_after k after) cs le)
    (g (number_after k m after) (items_after k after) le)

listed_so : (cs : List PassageChange) (n : ℕ) (before : List Item) → 1 ≤ n → AreListed (coming_of n before cs)
listed_so [] n before le = tt
listed_so (stays p u xs ∷ cs) n before le =
    let k : ℕ = p.breaks in
    let m : ℕ = number_past n before p in
    let after : List Item = items_past before p in
    added_listed xs (with_breaks k after (coming_of (number_after k m after) (items_after k after) cs)) (rest_listed n before p cs le (listed_so cs))
listed_so (goes p ∷ cs) n before le =
    let k : ℕ = p.breaks in
    let m : ℕ = number_past n before p in
    let after : List Item = items_past before p in
    let a : suc n ≤ m = past_more n before p in
    let b : m ≤ number_after k m after = after_least k m after in (
      breaks_next n k after (coming_of (number_after k m after) (items_after k after) cs)
          (next_other n (number_after k m after) (items_after k after) cs (omega (arith, a, b))),
      rest_listed n before p cs le (listed_so cs),
    )

pub whole_listed : (c : ProseChange) → AreListed (whole_coming c)
whole_listed c = added_listed c.first (coming_of 1 [] c.changes) (listed_so c.changes 1 [] (omega arith))
