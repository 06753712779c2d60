-- What comes from one call, among the items of a part and among those of the page.
use Rattle.std.proofs.Common.{◌≡◌, ℕ, zero, suc, ◌+◌, ◌-◌, ◌<◌, ◌≤◌, ◌==◌, Bool, true, false, Option, Some, None, List, [], ◌∷◌, ◌++◌, length, map, refl, sym, ap, ◌∙◌, subst, arith}
use Rattle.std.specs.Prelude.{if◌then◌else◌}
use Rattle.std.specs.List.{list_all}
use Rattle.std.proofs.lemmas.Bool.Decides.{nat_tests, Decides-eqb}
use Rattle.wt_span.specs.declared.form.ItemForm.{ItemForm}
use Rattle.wt_span.specs.declared.form.ItemForm.TheVariants as form
use Rattle.wt_span.specs.Entities.{entity_at}
use Rattle.wt_span.specs.Items.{Item, char, whole, call_of}
use Rattle.wt_span.specs.Origins.{OuterCall, same_call}
use Rattle.wt_inline.specs.Inside.{read_with, inside_items, opened_whole, opened, opened_all}
use Rattle.wt_inline.specs.RawTag.{opening_of, inside_of, closing_of}
use Rattle.wt_annotated.specs.Clean.{is_no_call, is_page}
use Rattle.wt_annotated.proofs.Ends.{both}
use Rattle.wt_expand.specs.Work.{Pages}
use Rattle.wt_expand.specs.PageCalls.{Stretch, own, outer, text_call, from_call, outer_items, numbered, outer_calls, page_stretches, expanded_page}
use Rattle.wt_expand.proofs.PiecePlaces.{AllFrom, chars_from}
use Rattle.wt_part_laws.specs.Expanded.{part_items, calls_in}
use Rattle.wt_part_laws.specs.CallPieces.{AreItemsOf as AllOf}
use Rattle.wt_called_edit_laws.specs.WholeContents.{of_call}
use Rattle.wt_called_edit_laws.proofs.PartTexts.{OwnPage, own_page, called_from}

-- ---- an item of this call, or of another one

pub same_is : (o : Option ℕ) (j : ℕ) → same_call o (Some j) ≡ true → o ≡ Some j
same_is None j e = absurd (cc)
same_is (Some i) j e = ap (λ (n : ℕ). Some n) ((Decides-eqb i j).0 e)

pub is_same : (o : Option ℕ) (j : ℕ) → o ≡ Some j → same_call o (Some j) ≡ true
is_same o j e = subst (λ (q : Option ℕ). same_call q (Some j) ≡ true) (sym e) ((Decides-eqb j j).1 refl)

pub of_here : (j : ℕ) (x : Item) (xs : List Item) → same_call (call_of x) (Some j) ≡ true → of_call j (x ∷ xs) ≡ x ∷ of_call j xs
of_here j x xs e = ap (λ (v : Bool). if v then x ∷ of_call j xs else of_call j xs) e

pub of_past : (j : ℕ) (x : Item) (xs : List Item) → same_call (call_of x) (Some j) ≡ false → of_call j (x ∷ xs) ≡ of_call j xs
of_past j x xs e = ap (λ (v : Bool). if v then x ∷ of_call j xs else of_call j xs) e

onto_both : (v : Bool) (x : Item) (xs ys : List Item) → (if v then x ∷ (xs ++ ys) else xs ++ ys) ≡ (if v then x ∷ xs else xs) ++ ys
onto_both true x xs ys = refl
onto_both false x xs ys = refl

pub of_append : (j : ℕ) (xs ys : List Item) → of_call j (xs ++ ys) ≡ of_call j xs ++ of_call j ys
of_append j [] ys = refl
of_append j (x ∷ xs) ys =
    ap (λ (zs : List Item). if same_call (call_of x) (Some j) then x ∷ zs else zs) (of_append j xs ys)
    ∙ onto_both (same_call (call_of x) (Some j)) x (of_call j xs) (of_call j ys)

pub of_own : (j : ℕ) (xs : List Item) → AllFrom None xs → of_call j xs ≡ []
of_own j [] h = refl
of_own j (x ∷ xs) h = of_past j x xs (ap (λ (o : Option ℕ). same_call o (Some j)) h.0) ∙ of_own j xs h.1

page_call : (o : Option ℕ) → is_no_call o ≡ true → o ≡ None
page_call None e = refl
page_call (Some k) e = absurd (cc)

pub own_from : (xs : List Item) → list_all is_page xs ≡ true → AllFrom None xs
own_from [] e = tt
own_from (x ∷ xs) e = let r = both (is_page x) (list_all is_page xs) e in (page_call (call_of x) r.0, own_from xs r.1)

pub of_page : (j : ℕ) (xs : List Item) → list_all is_page xs ≡ true → of_call j xs ≡ []
of_page j xs e = of_own j xs (own_from xs e)

pub of_same : (j : ℕ) (xs : List Item) → AllOf j xs → of_call j xs ≡ xs
of_same j [] h = refl
of_same j (x ∷ xs) h = of_here j x xs (is_same (call_of x) j h.0) ∙ ap (λ (zs : List Item). x ∷ zs) (of_same j xs h.1)

of_other : (j k : ℕ) (xs : List Item) → (k == j) ≡ false → AllFrom (Some k) xs → of_call j xs ≡ []
of_other j k [] e h = refl
of_other j k (x ∷ xs) e h = of_past j x xs (ap (λ (o : Option ℕ). same_call o (Some j)) h.0 ∙ e) ∙ of_other j k xs e h.1

-- ---- in a part

outer_other : (j k : ℕ) (c : OuterCall) (xs : List Item) → (k == j) ≡ false → of_call j (outer_items k c xs) ≡ []
outer_other j k c [] e = of_other j k (whole form.EmptyCall (Some k) c.source ∷ []) e (refl, tt)
outer_other j k c (x ∷ xs) e = of_other j k (map (from_call k) (x ∷ xs)) e (called_from k (x ∷ xs))

none_both : (j : ℕ) (xs ys : List Item) → of_call j xs ≡ [] → of_call j ys ≡ [] → of_call j (xs ++ ys) ≡ []
none_both j xs ys e f = of_append j xs ys ∙ ap (λ (zs : List Item). zs ++ of_call j ys) e ∙ f

above : (j k : ℕ) → j < k → (k == j) ≡ false
above j k l = grind (arith, nat_tests)

below : (j k : ℕ) → k < j → (k == j) ≡ false
below j k l = grind (arith, nat_tests)

pub of_before : (j k : ℕ) (ss : List Stretch) → OwnPage ss → j < k → of_call j (numbered k ss) ≡ []
of_before j k [] h l = refl
of_before j k (own xs ∷ ss) h l = none_both j xs (numbered k ss) (of_own j xs h.0) (of_before j k ss h.1 l)
of_before j k (outer c xs ∷ ss) h l =
    none_both j (outer_items k c xs) (numbered (suc k) ss) (outer_other j k c xs (above j k l)) (of_before j (suc k) ss h (omega (arith, l)))
of_before j k (text_call s ∷ ss) h l = of_before j k ss h l

of_behind : (j k : ℕ) (ss : List Stretch) → OwnPage ss → k + length (outer_calls ss) ≤ j → of_call j (numbered k ss) ≡ []
of_behind j k [] h l = refl
of_behind j k (own xs ∷ ss) h l = none_both j xs (numbered k ss) (of_own j xs h.0) (of_behind j k ss h.1 l)
of_behind j k (outer c xs ∷ ss) h l =
    let n : ℕ = length (outer_calls ss) in
    let more : k + suc n ≤ j = l in
    let lt : k < j = omega (arith, more) in
    let le : suc k + n ≤ j = omega (arith, more) in
    none_both j (outer_items k c xs) (numbered (suc k) ss) (outer_other j k c xs (below j k lt)) (of_behind j (suc k) ss h le)
of_behind j k (text_call s ∷ ss) h l = of_behind j k ss h l

pub before_part : (pages : Pages) (j k : ℕ) (bs : List ℕ) → j < k → of_call j (part_items pages k bs) ≡ []
before_part pages j k bs l = of_before j k (page_stretches pages bs) (own_page pages bs) l

pub behind_part : (pages : Pages) (j k : ℕ) (bs : List ℕ) → k + calls_in pages bs ≤ j → of_call j (part_items pages k bs) ≡ []
unfolding expanded_page
behind_part pages j k bs l = of_behind j k (page_stretches pages bs) (own_page pages bs) l

-- ---- opened

pub joined_from : (o : Option ℕ) (xs ys : List Item) → AllFrom o xs → AllFrom o ys → AllFrom o (xs ++ ys)
joined_from o [] ys p q = q
joined_from o (x ∷ xs) ys p q = (p.0, joined_from o xs ys p.1 q)

read_from : (o : Option ℕ) (e : Option (ℕ × ℕ)) (b : ℕ) (bs : List ℕ) (rest : ℕ → List Item) → ((n : ℕ) → AllFrom o (rest n)) → AllFrom o (read_with o e b bs rest)
read_from o None b bs rest h = (refl, h 0)
read_from o (Some e) b bs rest h = (refl, h (e.1 - 1))

inside_from : (o : Option ℕ) (n : ℕ) (bs : List ℕ) → AllFrom o (inside_items o n bs)
inside_from o n [] = tt
inside_from o (suc n) (b ∷ bs) = inside_from o n bs
inside_from o zero (b ∷ bs) = read_from o (entity_at (b ∷ bs)) b bs (λ n. inside_items o n bs) (λ n. inside_from o n bs)

whole_from : (f : ItemForm) (o : Option ℕ) (bs : List ℕ) → AllFrom o (opened_whole f o bs)
whole_from form.Chars o bs = (refl, tt)
whole_from (form.Entity c) o bs = (refl, tt)
whole_from form.Nowiki o bs =
    joined_from o (map (char o) (opening_of bs)) (inside_items o 0 (inside_of bs) ++ map (char o) (closing_of bs)) (chars_from o (opening_of bs))
    (joined_from o (inside_items o 0 (inside_of bs)) (map (char o) (closing_of bs)) (inside_from o 0 (inside_of bs)) (chars_from o (closing_of bs)))
whole_from form.Extension o bs = (refl, tt)
whole_from form.Function o bs = (refl, tt)
whole_from form.Comment o bs = (refl, tt)
whole_from form.Include o bs = (refl, tt)
whole_from form.Hidden o bs = (refl, tt)
whole_from form.EmptyCall o bs = (refl, tt)

pub opened_from : (x : Item) → AllFrom (call_of x) (opened x)
opened_from (char o b) = (refl, tt)
opened_from (whole f o bs) = whole_from f o bs

pub all_here : (j : ℕ) (o : Option ℕ) (xs : List Item) → same_call o (Some j) ≡ true → AllFrom o xs → of_call j xs ≡ xs
all_here j o [] e h = refl
all_here j o (x ∷ xs) e h =
    of_here j x xs (ap (λ (q : Option ℕ). same_call q (Some j)) h.0 ∙ e) ∙ ap (λ (zs : List Item). x ∷ zs) (all_here j o xs e h.1)

all_past : (j : ℕ) (o : Option ℕ) (xs : List Item) → same_call o (Some j) ≡ false → AllFrom o xs → of_call j xs ≡ []
all_past j o [] e h = refl
all_past j o (x ∷ xs) e h = of_past j x xs (ap (λ (q : Option ℕ). same_call q (Some j)) h.0 ∙ e) ∙ all_past j o xs e h.1

opened_one : (j : ℕ) (x : Item) (v : Bool) (zs : List Item) → same_call (call_of x) (Some j) ≡ v
    → of_call j (opened x) ++ opened_all zs ≡ opened_all (if v then x ∷ zs else zs)
opened_one j x true zs e = ap (λ (ys : List Item). ys ++ opened_all zs) (all_here j (call_of x) (opened x) e (opened_from x))
opened_one j x false zs e = ap (λ (ys : List Item). ys ++ opened_all zs) (all_past j (call_of x) (opened x) e (opened_from x))

pub of_opened : (j : ℕ) (xs : List Item) → of_call j (opened_all xs) ≡ opened_all (of_call j xs)
of_opened j [] = refl
of_opened j (x ∷ xs) =
    of_append j (opened x) (opened_all xs)
    ∙ ap (λ (zs : List Item). of_call j (opened x) ++ zs) (of_opened j xs)
    ∙ opened_one j x (same_call (call_of x) (Some j)) (of_call j xs) refl

-- characters are opened as they are
pub chars_opened : (o : Option ℕ) (bs : List ℕ) → opened_all (map (char o) bs) ≡ map (char o) bs
chars_opened o [] = refl
chars_opened o (b ∷ bs) = ap (λ (zs : List Item). char o b ∷ zs) (chars_opened o bs)
