-- Laws of trimming, of values, and of pages that were cut.
use Rattle.std.proofs.Common.{◌≡◌, ℕ, suc, ◌+◌, ◌<◌, ◌≤◌, Bool, true, false, cond, Option, Some, None, List, [], ◌∷◌, ◌++◌, length, take, drop, reverse, nat_lt, refl, sym, ap, ◌∙◌, subst, ⊎_elim, arith, length-take}
use Rattle.std.specs.Prelude.{if◌then◌else◌}
use Rattle.std.specs.Option.{option_or, option_map}
use Rattle.std.specs.List.{prefix_len}
use Rattle.std.specs.Str.{bytes_eq}
use Rattle.std.proofs.lemmas.Bool.{cases_lt}
use Rattle.std.proofs.lemmas.Bool.Decides.{nat_tests}
use Rattle.std.proofs.lemmas.List.{reverse-append, take_all}
use Rattle.std.proofs.lemmas.Slice.Eq.{bytes_eq-Decides}
use Rattle.wt_span.specs.Items.{Item, is_char_in}
use Rattle.wt_span.specs.declared.form.Mode.TheVariants as mode
use Rattle.wt_utf8.specs.Places.{not_utf8_place}
use Rattle.wt_expand.specs.Expansion.{Frame, value_of}
use Rattle.wt_expand.specs.Templates.{template_text}
use Rattle.wt_expand.specs.Texts.{is_space, without_front, trimmed_by, trimmed, trimmed_items}
use Rattle.wt_expand.specs.Trimmed.{AllPass, FirstFails, IsTrimmed}
use Rattle.wt_expand.specs.Work.{Refused, too_long, not_utf8, braces_too_deep, most_bytes, deep_place, template_refusal}

-- ---- trimming

record Cut {A : Type 0} (p : A → Bool) (xs ys : List A) : Type 0 where
  pub front : List A
  pub all : xs ≡ front ++ ys
  pub passes : AllPass p front
  pub first : FirstFails p ys

cut : {A : Type 0} (p : A → Bool) (xs : List A) → Cut p xs (without_front p xs)
cut p [] = record { front = []; all = refl; passes = tt; first = tt }
cut {A} p (x ∷ xs) = by (p x) refl (cut p xs)
  where
    by : (t : Bool) → p x ≡ t → Cut p xs (drop (prefix_len p xs) xs) → Cut p (x ∷ xs) (drop (cond t (1 + prefix_len p xs) 0) (x ∷ xs))
    by true e c =
        let z : suc (prefix_len p xs) ≡ 1 + prefix_len p xs = omega arith in
        let P : ℕ → Type 0 = λ n. Cut p (x ∷ xs) (drop n (x ∷ xs)) in
        subst P z (record { front = x ∷ c.front; all = ap (λ ys. x ∷ ys) c.all; passes = (e, c.passes); first = c.first })
    by false e c = record { front = []; all = refl; passes = tt; first = e }

passes_append : {A : Type 0} (p : A → Bool) (xs ys : List A) → AllPass p xs → AllPass p ys → AllPass p (xs ++ ys)
passes_append p [] ys f g = g
passes_append p (x ∷ xs) ys f g = (f.0, passes_append p xs ys f.1 g)

passes_reverse : {A : Type 0} (p : A → Bool) (xs : List A) → AllPass p xs → AllPass p (reverse xs)
passes_reverse p [] f = tt
passes_reverse {A} p (x ∷ xs) f = let P : List A → Type 0 = AllPass p in
    subst P (sym (reverse-append (x ∷ []) xs)) (passes_append p (reverse xs) (x ∷ []) (passes_reverse p xs f.1) (f.0, tt))

twice : {A : Type 0} (xs : List A) → reverse (reverse xs) ≡ xs
twice [] = refl
twice (x ∷ xs) = ap reverse (reverse-append (x ∷ []) xs) ∙ reverse-append (reverse xs) (x ∷ []) ∙ ap (λ ys. x ∷ ys) (twice xs)

first_front : {A : Type 0} (p : A → Bool) (xs ys : List A) → FirstFails p (xs ++ ys) → FirstFails p xs
first_front p [] ys f = tt
first_front p (x ∷ xs) ys f = f

trimmed_so : {A : Type 0} (p : A → Bool) (xs : List A) → IsTrimmed p xs (trimmed_by p xs)
trimmed_so {A} p xs =
    let mid = without_front p xs in
    let a = cut p xs in
    let b = cut p (reverse mid) in
    let zs = without_front p (reverse mid) in
    let whole : mid ≡ reverse zs ++ reverse b.front = sym (twice mid) ∙ ap reverse b.all ∙ reverse-append b.front zs in
    let P : List A → Type 0 = FirstFails p in
    record {
      front = a.front;
      back = reverse b.front;
      all = a.all ∙ ap (λ ys. a.front ++ ys) whole;
      front_passes = a.passes;
      back_passes = passes_reverse p b.front b.passes;
      first_stays = first_front p (reverse zs) (reverse b.front) (subst P whole a.first);
      last_stays = subst P (sym (twice zs)) b.first;
    }

pub text_trimmed : (bs : List ℕ) → IsTrimmed is_space bs (trimmed bs)
unfolding trimmed
text_trimmed bs = trimmed_so is_space bs

pub items_trimmed : (xs : List Item) → IsTrimmed (is_char_in is_space) xs (trimmed_items xs)
unfolding trimmed_items
items_trimmed xs = trimmed_so (is_char_in is_space) xs

-- ---- values

-- of several values of a name the last counts
pub last_counts : (name : List ℕ) (before after : Frame) (v : List Item) → value_of name after ≡ None → value_of name (before ++ (name, v) ∷ after) ≡ Some v
last_counts name [] after v e =
    let same : bytes_eq name name ≡ true = (bytes_eq-Decides name name).1 refl in
    ap (λ o. option_or o (if bytes_eq name name then Some v else None)) e ∙ ap (λ t. if t then Some v else None) same
last_counts name ((n, w) ∷ before) after v e = ap (λ o. option_or o (if bytes_eq n name then Some w else None)) (last_counts name before after v e)

-- ---- pages that were cut

abbrev refusal_by : Bool → List ℕ → List ℕ → Option Refused
refusal_by t title bytes = if t then Some (too_long title) else option_or (option_map (not_utf8 title) (not_utf8_place bytes))
    (option_map (braces_too_deep (Some title)) (deep_place mode.Template (template_text bytes)))

refusal_is : (title bytes : List ℕ) → template_refusal title bytes ≡ refusal_by (nat_lt most_bytes (length bytes)) title bytes
unfolding template_refusal
refusal_is title bytes = refl

-- a page of which only one byte more than the most is taken is refused as the whole page
pub cut_page_refused : (title bytes : List ℕ) → template_refusal title (take (most_bytes + 1) bytes) ≡ template_refusal title bytes
cut_page_refused title bytes = ⊎_elim long short (cases_lt most_bytes (length bytes))
  where
    long : most_bytes < length bytes → template_refusal title (take (most_bytes + 1) bytes) ≡ template_refusal title bytes
    long h =
        let size = length-take (most_bytes + 1) bytes in
        let a : nat_lt most_bytes (length (take (most_bytes + 1) bytes)) ≡ true =
        let low : most_bytes < length (take (most_bytes + 1) bytes) = omega (arith, size, h) in grind (arith, nat_tests) in
        let b : nat_lt most_bytes (length bytes) ≡ true = grind (arith, nat_tests) in
        refusal_is title (take (most_bytes + 1) bytes) ∙ ap (λ t. refusal_by t title (take (most_bytes + 1) bytes)) a
        ∙ sym (ap (λ t. refusal_by t title bytes) b) ∙ sym (refusal_is title bytes)

    short : length bytes ≤ most_bytes → template_refusal title (take (most_bytes + 1) bytes) ≡ template_refusal title bytes
    short h = ap (template_refusal title) (take_all (most_bytes + 1) bytes (omega (arith, h)))
