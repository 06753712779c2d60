-- A cut of the whole page, told by the calls beside it.
use Rattle.std.proofs.Common.{◌≡◌, ℕ, zero, suc, ◌+◌, Option, None, Some, List, [], ◌∷◌, ◌++◌, length, drop, refl, sym, ap, ◌∙◌, cond, arith, append_assoc, append-nil}
use Rattle.std.specs.Prelude.{slice_get}
use Rattle.wt_span.specs.Items.{Item, call_of}
use Rattle.wt_span.specs.Origins.{OuterCall}
use Rattle.wt_span.specs.Cuts.{call_of_item, is_free, origin_text, page_of, text_at, text_between}
use Rattle.wt_annotated.specs.Seams.{last_of, first_of, first_found, parted, text_step, text_from}
use Rattle.wt_annotated.proofs.Calls.{at_get, at_rest}

-- the call of the item before a cut, and of the one after it
abbrev pub before_call : List Item → ℕ → Option ℕ
before_call all zero = None
before_call all (suc n) = call_of_item (slice_get all n)

abbrev pub after_call : List Item → ℕ → Option ℕ
after_call all n = call_of_item (slice_get all n)

pub free_is : (all : List Item) (n : ℕ) → is_free all n ≡ parted (before_call all n) (after_call all n)
free_is all zero = refl
free_is all (suc n) = refl

pub after_is : (all : List Item) (n : ℕ) (x : Item) (rest : List Item) → drop n all ≡ x ∷ rest → after_call all n ≡ call_of x
after_is all n x rest e = ap call_of_item (at_get all n x rest e)

pub before_more : (all : List Item) (n : ℕ) (xs ys : List Item) → drop n all ≡ xs ++ ys → before_call all (n + length xs) ≡ last_of (before_call all n) xs
before_more all n [] ys e = let f : n + 0 ≡ n = omega arith in ap (before_call all) f
before_more all n (x ∷ xs) ys e =
    let f : n + length (x ∷ xs) ≡ suc n + length xs = omega arith in
    ap (before_call all) f ∙ before_more all (suc n) xs ys (at_rest all n x (xs ++ ys) e) ∙ ap (λ o. last_of o xs) (after_is all n x (xs ++ ys) e)

pub after_first : (all : List Item) (n : ℕ) (xs ys : List Item) → drop n all ≡ xs ++ ys → after_call all n ≡ first_of xs (after_call all (n + length xs))
after_first all n [] ys e = let f : n ≡ n + 0 = omega arith in ap (after_call all) f
after_first all n (x ∷ xs) ys e = after_is all n x (xs ++ ys) e

pub step_is : (calls : List OuterCall) (all : List Item) (n : ℕ) (x : Item) (rest : List Item) → drop n all ≡ x ∷ rest
    → text_at calls all n ≡ text_step calls (before_call all n) x
step_is calls all n x rest e =
    ap (λ v. cond v (origin_text calls (slice_get all n)) []) (free_is all n ∙ ap (parted (before_call all n)) (after_is all n x rest e))
    ∙ ap (λ y. cond (parted (before_call all n) (call_of x)) (origin_text calls y) []) (at_get all n x rest e)

pub text_is : (calls : List OuterCall) (all : List Item) (n : ℕ) (xs ys : List Item) → drop n all ≡ xs ++ ys
    → text_between calls all n (length xs) ≡ text_from calls (before_call all n) xs
text_is calls all n [] ys e = refl
text_is calls all n (x ∷ xs) ys e =
    ap (λ bs. bs ++ text_between calls all (suc n) (length xs)) (step_is calls all n x (xs ++ ys) e)
    ∙ ap (λ bs. text_step calls (before_call all n) x ++ bs)
    (text_is calls all (suc n) xs ys (at_rest all n x (xs ++ ys) e) ∙ ap (λ o. text_from calls o xs) (after_is all n x (xs ++ ys) e))

-- ---- the whole page

pub page_is : (calls : List OuterCall) (all : List Item) → page_of calls all ≡ text_from calls None all
page_is calls all = text_is calls all 0 all [] (sym (append-nil all))

-- ---- joined items

pub last_append : (o : Option ℕ) (xs ys : List Item) → last_of o (xs ++ ys) ≡ last_of (last_of o xs) ys
last_append o [] ys = refl
last_append o (x ∷ xs) ys = last_append (call_of x) xs ys

pub first_append : (xs ys : List Item) (o : Option ℕ) → first_of (xs ++ ys) o ≡ first_of xs (first_of ys o)
first_append [] ys o = refl
first_append (x ∷ xs) ys o = refl

-- what is found in the first, or else in the second
abbrev pub either : Option (Option ℕ) → Option (Option ℕ) → Option (Option ℕ)
either None other = other
either (Some call) other = Some call

pub found_append : (xs ys : List Item) → first_found (xs ++ ys) ≡ either (first_found xs) (first_found ys)
found_append [] ys = refl
found_append (x ∷ xs) ys = refl

-- the first call is the one that is found, or else the one behind
abbrev pub or_call : Option (Option ℕ) → Option ℕ → Option ℕ
or_call None o = o
or_call (Some call) o = call

pub first_is : (xs : List Item) (o : Option ℕ) → first_of xs o ≡ or_call (first_found xs) o
first_is [] o = refl
first_is (x ∷ xs) o = refl

pub first_some : (xs : List Item) (o call : Option ℕ) → first_found xs ≡ Some call → first_of xs o ≡ call
first_some xs o call e = first_is xs o ∙ ap (λ (f : Option (Option ℕ)). or_call f o) e

pub first_none : (xs : List Item) (o : Option ℕ) → first_found xs ≡ None → first_of xs o ≡ o
first_none xs o e = first_is xs o ∙ ap (λ (f : Option (Option ℕ)). or_call f o) e

pub text_append_from : (calls : List OuterCall) (o : Option ℕ) (xs ys : List Item)
    → text_from calls o (xs ++ ys) ≡ text_from calls o xs ++ text_from calls (last_of o xs) ys
text_append_from calls o [] ys = refl
text_append_from calls o (x ∷ xs) ys = ap (λ bs. text_step calls o x ++ bs) (text_append_from calls (call_of x) xs ys)
    ∙ sym (append_assoc (text_step calls o x) (text_from calls (call_of x) xs) (text_from calls (last_of (call_of x) xs) ys))
