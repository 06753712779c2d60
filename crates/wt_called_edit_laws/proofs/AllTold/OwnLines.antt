-- What a paragraph or a heading of a page's tree holds that has no group comes from no call, so neither does what is on its lines.
use Rattle.std.proofs.Common.{arith, ◌≡◌, ◌≤◌, ℕ, zero, suc, ◌-◌, Bool, true, false, Option, Some, None, List, [], ◌∷◌, ◌++◌, length, map, slice_get, refl, sym, ap, ap₂, ◌∙◌, subst, append-nil, append_assoc, length-append}
use Rattle.std.specs.Prelude.{◌&&◌}
use Rattle.std.specs.List.{AllByRecursion}
use Rattle.std.proofs.lemmas.Grind.{flat_map-append}
use Rattle.wt_span.specs.declared.form.ItemForm.{ItemForm}
use Rattle.wt_span.specs.declared.form.ItemForm.TheVariants as form
use Rattle.wt_span.specs.Cuts.{source_of_call, text_by}
use Rattle.wt_span.specs.Entities.{entity_at}
use Rattle.wt_span.specs.Items.{Item, char, whole, source, sources, call_of}
use Rattle.wt_span.specs.Origins.{OuterCall}
use Rattle.wt_annotated.specs.Clean.{is_no_call, is_page}
use Rattle.wt_annotated.proofs.Calls.{all_split}
use Rattle.wt_expand.proofs.PiecePlaces.{AllFrom}
use Rattle.wt_inline.specs.RawTag.{opening_of, inside_of, closing_of}
use Rattle.wt_inline.specs.Inside.{read_with, inside_items, opened_whole, opened, opened_all}
use Rattle.wt_inline.specs.ItemTree.{ItemTree, tree_items}
use Rattle.wt_lines.specs.Lines.{content}
use Rattle.wt_tables.specs.Parts.{joined}
use Rattle.wt_page.specs.Headings.{heading}
use Rattle.wt_page.specs.Lines.{ending}
use Rattle.wt_page.specs.Rows.{Row, row_items, all_items, last_ending}
use Rattle.wt_page.specs.Texts.{para}
use Rattle.wt_page.proofs.Ends.{content_ending}
use Rattle.wt_page.proofs.Held.{kept_tree}
use Rattle.wt_page.proofs.HeldTexts.{of_around, of_para, of_heading}
use Rattle.wt_page_round_trip.proofs.OpenedPages.{IsOne, AreOnes, opened_text}
use Rattle.wt_part_laws.proofs.OwnWalks.{OfPage, text_own}
use Rattle.wt_called_edit_laws.specs.RowBlocks.{text_row}
use Rattle.wt_called_edit_laws.proofs.AllTold.LineKinds.{Lines, led_by, past_marks, led_whole}

-- ---- of a nowiki that is opened

abbrev AllOf : Option ℕ → List Item → Type 0
AllOf o xs = AllByRecursion (λ (x : Item). call_of x ≡ o) xs

both_of : (o : Option ℕ) (xs ys : List Item) → AllOf o xs → AllOf o ys → AllOf o (xs ++ ys)
both_of o [] ys p q = q
both_of o (x ∷ xs) ys p q = (p.0, both_of o xs ys p.1 q)

chars_of : (o : Option ℕ) (bs : List ℕ) → AllOf o (map (char o) bs)
chars_of o [] = tt
chars_of o (b ∷ bs) = (refl, chars_of o bs)

read_of : (o : Option ℕ) (e : Option (ℕ × ℕ)) (b : ℕ) (bs : List ℕ) (rest : ℕ → List Item) → ((n : ℕ) → AllOf o (rest n)) → AllOf o (read_with o e b bs rest)
read_of o None b bs rest h = (refl, h 0)
read_of o (Some e) b bs rest h = (refl, h (e.1 - 1))

inside_from : (o : Option ℕ) (n : ℕ) (bs : List ℕ) → AllOf o (inside_items o n bs)
inside_from o n [] = tt
inside_from o (suc n) (b ∷ bs) = inside_from o n bs
inside_from o zero (b ∷ bs) = read_of o (entity_at (b ∷ bs)) b bs (λ n. inside_items o n bs) (λ n. inside_from o n bs)

whole_from : (f : ItemForm) (o : Option ℕ) (bs : List ℕ) → AllOf o (opened_whole f o bs)
whole_from form.Chars o bs = (refl, tt)
whole_from (form.Entity c) o bs = (refl, tt)
whole_from form.Nowiki o bs =
    both_of o (map (char o) (opening_of bs)) (inside_items o 0 (inside_of bs) ++ map (char o) (closing_of bs)) (chars_of o (opening_of bs))
    (both_of o (inside_items o 0 (inside_of bs)) (map (char o) (closing_of bs)) (inside_from o 0 (inside_of bs)) (chars_of o (closing_of bs)))
whole_from form.Extension o bs = (refl, tt)
whole_from form.Function o bs = (refl, tt)
whole_from form.Comment o bs = (refl, tt)
whole_from form.Include o bs = (refl, tt)
whole_from form.Hidden o bs = (refl, tt)
whole_from form.EmptyCall o bs = (refl, tt)

opened_from : (x : Item) → AllOf (call_of x) (opened x)
opened_from (char o b) = (refl, tt)
opened_from (whole f o bs) = whole_from f o bs

page_of : (xs : List Item) → AllOf None xs → OfPage xs
page_of [] h = refl
page_of (x ∷ xs) h = ap₂ (λ (v w : Bool). v && w) (ap is_no_call h.0) (page_of xs h.1)

no_call : (o : Option ℕ) → is_no_call o ≡ true → o ≡ None
no_call None e = refl
no_call (Some k) e = absurd (cc)

pub from_own : (xs : List Item) → OfPage xs → AllFrom None xs
from_own [] h = tt
from_own (x ∷ xs) h = let r = all_split (x ∷ []) xs h in (no_call (call_of x) (one_of (is_page x) r.0), from_own xs r.1)
  where
    one_of : (v : Bool) → (v && true) ≡ true → v ≡ true
    one_of true e = refl
    one_of false e = e

all_own : (xs ys : List Item) → OfPage xs → OfPage ys → OfPage (xs ++ ys)
all_own [] ys p q = q
all_own (x ∷ xs) ys p q = let r = all_split (x ∷ []) xs p in ap₂ (λ (v w : Bool). v && w) (one_of (is_page x) r.0) (all_own xs ys r.1 q)
  where
    one_of : (v : Bool) → (v && true) ≡ true → v ≡ true
    one_of true e = refl
    one_of false e = e

-- what is in a page's own item is its own
opened_own : (xs : List Item) → AllFrom None xs → OfPage (opened_all xs)
opened_own [] h = refl
opened_own (x ∷ xs) h = all_own (opened x) (opened_all xs) (page_of (opened x) (subst (λ (o : Option ℕ). AllOf o (opened x)) h.0 (opened_from x))) (opened_own xs h.1)

-- ---- and back

-- as many calls of this source
calls_with : ℕ → ℕ → List OuterCall
calls_with zero v = record { start = 0; source = v ∷ []; argument = false; parts = []; equals = []; href = None } ∷ []
calls_with (suc k) v = record { start = 0; source = v ∷ []; argument = false; parts = []; equals = []; href = None } ∷ calls_with k v

last_with : (k v : ℕ) → source_of_call (slice_get (calls_with k v) k) ≡ v ∷ []
unfolding calls_with
last_with zero v = refl
last_with (suc k) v = last_with k v

text_so : (x : Item) (k v : ℕ) → IsOne x → OfPage (opened x) → call_of x ≡ Some k → sources (opened x ++ []) ≡ v ∷ []
text_so x k v one own e =
    let calls : List OuterCall = calls_with k v in
    sym (text_own calls None (opened x ++ []) (all_own (opened x) [] own refl)) ∙ opened_text calls None (x ∷ []) (one, tt)
    ∙ ap (λ (o : Option ℕ). text_by calls o (source x) ++ []) e ∙ ap (λ (bs : List ℕ). bs ++ []) (last_with k v)

abbrev first_or : ℕ → List ℕ → ℕ
first_or n [] = n
first_or n (m ∷ ms) = m

item_own : (x : Item) → IsOne x → OfPage (opened x) → call_of x ≡ None
item_own x one own = by (call_of x) refl
  where
    first : ℕ
    first = 0

    second : ℕ
    second = 1

    same : (k : ℕ) → call_of x ≡ Some k → first ≡ second
    same k e = ap (first_or first) (sym (text_so x k first one own e) ∙ text_so x k second one own e)

    by : (o : Option ℕ) → call_of x ≡ o → call_of x ≡ None
    by None e = e
    by (Some k) e = absurd (omega (arith, same k e))

items_own : (xs : List Item) → AreOnes xs → OfPage (opened_all xs) → AllFrom None xs
items_own [] h p = tt
items_own (x ∷ xs) h p = let r = all_split (opened x) (opened_all xs) p in (item_own x h.0 r.0, items_own xs h.1 r.1)

-- ---- of lines

pub cancel_left : (xs ys zs : List Item) → xs ++ ys ≡ xs ++ zs → ys ≡ zs
cancel_left [] ys zs e = e
cancel_left (x ∷ xs) ys zs e = cancel_left xs ys zs (ap rest_of e)
  where
    rest_of : List Item → List Item
    rest_of [] = []
    rest_of (w ∷ ws) = ws

front_of : (xs ys us vs : List Item) → xs ++ ys ≡ us ++ vs → length ys ≡ length vs → OfPage us → OfPage xs
front_of [] ys us vs e n p = refl
front_of (x ∷ xs) ys [] vs e n p = absurd (omega (arith, n, ap length e, length-append xs ys))
front_of (x ∷ xs) ys (u ∷ us) vs e n p =
    let r = all_split (u ∷ []) us p in
    all_own (x ∷ []) xs (subst (λ (z : Item). OfPage (z ∷ [])) (sym (ap (item_or x) e)) r.0) (front_of xs ys us vs (ap rest_of e) n r.1)
  where
    item_or : Item → List Item → Item
    item_or w [] = w
    item_or w (z ∷ zs) = z

    rest_of : List Item → List Item
    rest_of [] = []
    rest_of (w ∷ ws) = ws

line_items : (l : List Item) → row_items (text_row l) ≡ l
line_items l = ap (λ (xs : List Item). led_by l ++ xs) (content_ending (past_marks l)) ∙ led_whole l

lines_items : (ls : Lines) → all_items (map text_row ls) ≡ joined ls
lines_items [] = refl
lines_items (l ∷ ls) = ap₂ (λ (xs ys : List Item). xs ++ ys) (line_items l) (lines_items ls)

ending_behind : (xs : List Item) (y : Item) (ys : List Item) → ending (xs ++ y ∷ ys) ≡ ending (y ∷ ys)
ending_behind [] y ys = refl
ending_behind (x ∷ []) y ys = refl
ending_behind (x ∷ z ∷ xs) y ys = ending_behind (z ∷ xs) y ys

ending_some : (xs ys : List Item) → 1 ≤ length ys → ending (xs ++ ys) ≡ ending ys
ending_some xs [] h = absurd (omega (arith, h))
ending_some xs (y ∷ ys) h = ending_behind xs y ys

-- each line has something behind its marks
abbrev pub AreSeen : Lines → Type 0
AreSeen [] = Unit {0}
AreSeen (l ∷ ls) = (1 ≤ length (past_marks l)) × AreSeen ls

some_joined : (l : List Item) (ls : Lines) → 1 ≤ length (past_marks l) → 1 ≤ length (past_marks l ++ joined ls)
some_joined l ls h = omega (arith, h, length-append (past_marks l) (joined ls))

last_is : (l : List Item) (ls : Lines) → AreSeen (l ∷ ls) → last_ending (map text_row (l ∷ ls)) ≡ ending (joined (past_marks l ∷ ls))
last_is l [] h = ap ending (sym (append-nil (past_marks l)))
last_is l (k ∷ ks) h =
    let behind : List Item = past_marks k ++ joined ks in
    let whole_is : past_marks l ++ joined (k ∷ ks) ≡ (past_marks l ++ led_by k) ++ behind =
    ap (λ (xs : List Item). past_marks l ++ (xs ++ joined ks)) (sym (led_whole k)) ∙ ap (λ (xs : List Item). past_marks l ++ xs) (append_assoc (led_by k) (past_marks k) (joined ks))
    ∙ sym (append_assoc (past_marks l) (led_by k) behind) in
    last_is k ks h.1 ∙ sym (ap ending whole_is ∙ ending_some (past_marks l ++ led_by k) behind (some_joined k ks h.1.0))

-- ---- the blocks

pub text_own_lines : (first : List Item) (others : Lines) (u : ItemTree) → u ≡ para (map text_row (first ∷ others)) → OfPage (tree_items u) → AreSeen (first ∷ others)
    → AreOnes (content (joined (past_marks first ∷ others))) → AllFrom None (content (joined (past_marks first ∷ others)))
text_own_lines first others u is p seen ones =
    let rows : List Row = map text_row (first ∷ others) in
    let t : ItemTree = para rows in
    let own : List Item = joined (past_marks first ∷ others) in
    let tree : OfPage (kept_tree t) = opened_own (tree_items t) (from_own (tree_items t) (subst (λ (v : ItemTree). OfPage (tree_items v)) is p)) in
    let all : opened_all (led_by first) ++ (kept_tree t ++ opened_all (last_ending rows)) ≡ opened_all (joined (first ∷ others)) =
    sym (of_around t rows) ∙ of_para rows ∙ ap opened_all (lines_items (first ∷ others)) in
    let lines : joined (first ∷ others) ≡ led_by first ++ own =
    ap (λ (xs : List Item). xs ++ joined others) (sym (led_whole first)) ∙ append_assoc (led_by first) (past_marks first) (joined others) in
    let mine : opened_all own ≡ kept_tree t ++ opened_all (last_ending rows) =
    cancel_left (opened_all (led_by first)) (opened_all own) (kept_tree t ++ opened_all (last_ending rows))
    (sym (flat_map-append opened (led_by first) own) ∙ sym (ap opened_all lines) ∙ sym all) in
    let parts : opened_all (content own) ++ opened_all (ending own) ≡ kept_tree t ++ opened_all (last_ending rows) =
    sym (flat_map-append opened (content own) (ending own)) ∙ ap opened_all (content_ending own) ∙ mine in
    let ends : length (opened_all (ending own)) ≡ length (opened_all (last_ending rows)) = ap (λ (xs : List Item). length (opened_all xs)) (sym (last_is first others seen)) in
    items_own (content own) ones (front_of (opened_all (content own)) (opened_all (ending own)) (kept_tree t) (opened_all (last_ending rows)) parts ends tree)

pub heading_own_lines : (l : List Item) (u : ItemTree) → u ≡ heading (content (past_marks l)) → OfPage (tree_items u) → AreOnes (content (joined (past_marks l ∷ [])))
    → AllFrom None (content (joined (past_marks l ∷ [])))
heading_own_lines l u is p ones =
    let xs : List Item = content (past_marks l) in
    let t : ItemTree = heading xs in
    let one : xs ≡ content (joined (past_marks l ∷ [])) = ap content (sym (append-nil (past_marks l))) in
    let tree : OfPage (kept_tree t) = opened_own (tree_items t) (from_own (tree_items t) (subst (λ (v : ItemTree). OfPage (tree_items v)) is p)) in
    items_own (content (joined (past_marks l ∷ []))) ones (subst (λ (ys : List Item). OfPage (opened_all ys)) one (subst OfPage (of_heading xs) tree))
