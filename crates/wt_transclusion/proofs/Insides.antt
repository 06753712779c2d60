-- What is taken of a template's text, tag by tag.
use Rattle.std.proofs.Common.{◌≡◌, ℕ, zero, suc, ◌+◌, ◌<◌, ◌≤◌, Bool, true, false, cond, Option, Some, None, option_map, List, [], ◌∷◌, ◌++◌, length, get_or, take, drop, codes, refl, sym, ap, ◌∙◌, subst, arith, length-append, lit<, append-nil}
use Rattle.std.specs.Prelude.{is_some}
use Rattle.std.specs.Str.{IsUtf8, IsCharBoundary}
use Rattle.std.proofs.lemmas.List.{drop-drop, get_or-drop, length-drop, get_or_append_left}
use Rattle.std.proofs.lemmas.Str.{IsUtf8-drop, IsCharBoundary-before_ascii, IsCharBoundary-after_ascii}
use Rattle.wt_names.proofs.Words.{begins_rest}
use Rattle.wt_expand.specs.Templates.{begins_only, ends_only, has_end, has_only, insides, template_text}
use Rattle.wt_transclusion.specs.Only.{first_at, behind_begin, IsNext}

-- ---- where the first place is

pub record Found (test : List ℕ → Bool) (bs : List ℕ) (n : ℕ) : Type 0 where
  pub within : n < length bs
  pub passes : test (drop n bs) ≡ true

found_by : (test : List ℕ → Bool) (b : ℕ) (bs : List ℕ) (n : ℕ) (t : Bool) (o : Option ℕ) → test (b ∷ bs) ≡ t → ((m : ℕ) → o ≡ Some m → Found test bs m)
    → cond t (Some 0) (option_map suc o) ≡ Some n → Found test (b ∷ bs) n
found_by test b bs n true o is on e =
    let z : 0 ≡ n = let f : Some 0 ≡ Some n = e in cc in
    subst (Found test (b ∷ bs)) z (record { within = omega arith; passes = is })
found_by test b bs n false None is on e = absurd (let z : None ≡ Some n = e in cc)
found_by test b bs n false (Some m) is on e =
    let f = on m refl in
    let z : suc m ≡ n = let g : Some (suc m) ≡ Some n = e in cc in
    subst (Found test (b ∷ bs)) z (record { within = omega (arith, f.within); passes = f.passes })

pub found : (test : List ℕ → Bool) (bs : List ℕ) (n : ℕ) → first_at test bs ≡ Some n → Found test bs n
found test [] n e = absurd (let z : None ≡ Some n = e in cc)
found test (b ∷ bs) n e = found_by test b bs n (test (b ∷ bs)) (first_at test bs) refl (found test bs) e

-- ---- the tags

begin_word : (bs : List ℕ) → begins_only bs ≡ true → bs ≡ codes "<onlyinclude>" ++ drop 13 bs
unfolding begins_only
begin_word bs e = begins_rest (codes "<onlyinclude>") bs e

end_word : (bs : List ℕ) → ends_only bs ≡ true → bs ≡ codes "</onlyinclude>" ++ drop 14 bs
unfolding ends_only
end_word bs e = begins_rest (codes "</onlyinclude>") bs e

tag_len : (word bs : List ℕ) (n k : ℕ) → n < length bs → drop n bs ≡ word ++ drop k (drop n bs) → length word ≡ k → n + k ≤ length bs
tag_len word bs n k l e w =
    let a = ap length e in
    let b = length-append word (drop k (drop n bs)) in
    let c = length-drop n bs in
    omega (arith, a, b, c, w, l)

tag_byte : (word bs : List ℕ) (n k i : ℕ) → drop n bs ≡ word ++ drop k (drop n bs) → i < length word → get_or bs (n + i) 0 ≡ get_or word i 0
tag_byte word bs n k i e l = sym (get_or-drop n bs i 0) ∙ ap (λ xs. get_or xs i 0) e ∙ get_or_append_left word (drop k (drop n bs)) 0 i l

pub begin_len : (bs : List ℕ) (n : ℕ) → first_at begins_only bs ≡ Some n → n + 13 ≤ length bs
begin_len bs n e = let f = found begins_only bs n e in tag_len (codes "<onlyinclude>") bs n 13 f.within (begin_word (drop n bs) f.passes) refl

pub end_len : (bs : List ℕ) (n : ℕ) → first_at ends_only bs ≡ Some n → n + 14 ≤ length bs
end_len bs n e = let f = found ends_only bs n e in tag_len (codes "</onlyinclude>") bs n 14 f.within (end_word (drop n bs) f.passes) refl

-- behind a tag that begins a text
tag_border : (word bs : List ℕ) (k : ℕ) → IsUtf8 bs → bs ≡ word ++ drop (suc k) bs → length word ≡ suc k → get_or word k 0 ≡ 62 → IsCharBoundary bs (suc k)
tag_border word bs k u e w is =
    let b = ap (λ xs. get_or xs k 0) e ∙ get_or_append_left word (drop (suc k) bs) 0 k (omega (arith, w)) ∙ is in
    let l = ap length e ∙ length-append word (drop (suc k) bs) in
    let z : k + 1 ≡ suc k = omega arith in
    subst (IsCharBoundary bs) z (IsCharBoundary-after_ascii bs k u (omega (arith, l, w)) (omega (arith, b)))

pub begin_place : (bs : List ℕ) (n : ℕ) → Some n ≡ first_at begins_only bs → IsCharBoundary bs n
begin_place bs n e =
    let f = found begins_only bs n (sym e) in
    let b = tag_byte (codes "<onlyinclude>") bs n 13 0 (begin_word (drop n bs) f.passes) (lit< tt) in
    let z : get_or bs (n + 0) 0 ≡ get_or bs n 0 = ap (λ k. get_or bs k 0) (omega arith) in
    let is : get_or (codes "<onlyinclude>") 0 0 ≡ 60 = refl in
    IsCharBoundary-before_ascii bs n f.within (omega (arith, b, z, is))

pub begin_border : (bs rest : List ℕ) (n : ℕ) → IsUtf8 rest → Some n ≡ first_at begins_only bs → rest ≡ drop n bs → IsCharBoundary rest 13
begin_border bs rest n u e r =
    let f = found begins_only bs n (sym e) in
    tag_border (codes "<onlyinclude>") rest 12 u (begin_word rest (ap begins_only r ∙ f.passes)) refl refl

pub end_place : (bs : List ℕ) (n : ℕ) → Some n ≡ first_at ends_only bs → IsCharBoundary bs n
end_place bs n e =
    let f = found ends_only bs n (sym e) in
    let b = tag_byte (codes "</onlyinclude>") bs n 14 0 (end_word (drop n bs) f.passes) (lit< tt) in
    let z : get_or bs (n + 0) 0 ≡ get_or bs n 0 = ap (λ k. get_or bs k 0) (omega arith) in
    let is : get_or (codes "</onlyinclude>") 0 0 ≡ 60 = refl in
    IsCharBoundary-before_ascii bs n f.within (omega (arith, b, z, is))

pub end_border : (bs rest : List ℕ) (n : ℕ) → IsUtf8 bs → Some n ≡ first_at ends_only bs → rest ≡ drop n bs → IsCharBoundary rest 14
end_border bs rest n u e r =
    let f = found ends_only bs n (sym e) in
    let v : IsUtf8 rest = subst IsUtf8 (sym r) (IsUtf8-drop bs n u (end_place bs n e)) in
    tag_border (codes "</onlyinclude>") rest 13 v (end_word rest (ap ends_only r ∙ f.passes)) refl refl

-- ---- whether there are both

some_mapped : (o : Option ℕ) → is_some (option_map suc o) ≡ is_some o
some_mapped None = refl
some_mapped (Some n) = refl

end_here : (t e : Bool) (o : Option ℕ) → e ≡ is_some o → cond t true e ≡ is_some (cond t (Some 0) (option_map suc o))
end_here true e o h = refl
end_here false e o h = h ∙ sym (some_mapped o)

has_end_is : (bs : List ℕ) → has_end bs ≡ is_some (first_at ends_only bs)
has_end_is [] = refl
has_end_is (b ∷ bs) = end_here (ends_only (b ∷ bs)) (has_end bs) (first_at ends_only bs) (has_end_is bs)

-- an end stands behind the first begin
abbrev ended : Option (List ℕ) → Bool
ended None = false
ended (Some rest) = is_some (first_at ends_only rest)

only_next : (b : ℕ) (bs : List ℕ) (o : Option ℕ)
    → ended (option_map (λ n. drop (n + 13) (b ∷ bs)) (option_map suc o)) ≡ ended (option_map (λ n. drop (n + 13) bs) o)
only_next b bs None = refl
only_next b bs (Some n) = let e : suc n + 13 ≡ suc (n + 13) = omega arith in ap (λ k. ended (Some (drop k (b ∷ bs)))) e

only_here : (b : ℕ) (bs : List ℕ) (t : Bool) (o : Option ℕ) → has_only bs ≡ ended (option_map (λ n. drop (n + 13) bs) o)
    → cond t (has_end (drop 13 (b ∷ bs))) (has_only bs) ≡ ended (option_map (λ n. drop (n + 13) (b ∷ bs)) (cond t (Some 0) (option_map suc o)))
only_here b bs true o e = has_end_is (drop 13 (b ∷ bs))
only_here b bs false o e = e ∙ sym (only_next b bs o)

has_only_by : (bs : List ℕ) → has_only bs ≡ ended (behind_begin bs)
has_only_by [] = refl
has_only_by (b ∷ bs) = only_here b bs (begins_only (b ∷ bs)) (first_at begins_only bs) (has_only_by bs)

pub only_none : (bs : List ℕ) → None ≡ behind_begin bs → has_only bs ≡ false
only_none bs e = has_only_by bs ∙ ap ended (sym e)

pub only_some : (bs rest : List ℕ) → Some rest ≡ behind_begin bs → has_only bs ≡ is_some (first_at ends_only rest)
only_some bs rest e = has_only_by bs ∙ ap ended (sym e)

-- ---- what is taken

skipped : (n : ℕ) (inside : Bool) (bs : List ℕ) → insides n inside bs ≡ insides 0 inside (drop n bs)
skipped zero inside bs = refl
skipped (suc n) inside [] = refl
skipped (suc n) inside (b ∷ bs) = skipped n inside bs

-- behind the first begin
abbrev behind_first : List ℕ → Option ℕ → List ℕ
behind_first bs None = []
behind_first bs (Some n) = insides 0 true (drop (n + 13) bs)

begin_next : (b : ℕ) (bs : List ℕ) (o : Option ℕ) → behind_first (b ∷ bs) (option_map suc o) ≡ behind_first bs o
begin_next b bs None = refl
begin_next b bs (Some n) = let e : suc n + 13 ≡ suc (n + 13) = omega arith in ap (λ k. insides 0 true (drop k (b ∷ bs))) e

begin_here : (b : ℕ) (bs : List ℕ) (t : Bool) (o : Option ℕ) → insides 0 false bs ≡ behind_first bs o
    → cond t (insides 12 true bs) (insides 0 false bs) ≡ behind_first (b ∷ bs) (cond t (Some 0) (option_map suc o))
begin_here b bs true o e = skipped 12 true bs
begin_here b bs false o e = e ∙ sym (begin_next b bs o)

begin_by : (bs : List ℕ) → insides 0 false bs ≡ behind_first bs (first_at begins_only bs)
begin_by [] = refl
begin_by (b ∷ bs) = begin_here b bs (begins_only (b ∷ bs)) (first_at begins_only bs) (begin_by bs)

-- up to the first end
abbrev up_to_first : List ℕ → Option ℕ → List ℕ
up_to_first bs None = bs
up_to_first bs (Some n) = take n bs ++ insides 0 false (drop (n + 14) bs)

end_next : (b : ℕ) (bs : List ℕ) (o : Option ℕ) → up_to_first (b ∷ bs) (option_map suc o) ≡ b ∷ up_to_first bs o
end_next b bs None = refl
end_next b bs (Some n) = let e : suc n + 14 ≡ suc (n + 14) = omega arith in ap (λ k. b ∷ (take n bs ++ insides 0 false (drop k (b ∷ bs)))) e

end_first : (b : ℕ) (bs : List ℕ) (t : Bool) (o : Option ℕ) → insides 0 true bs ≡ up_to_first bs o
    → cond t (insides 13 false bs) (b ∷ insides 0 true bs) ≡ up_to_first (b ∷ bs) (cond t (Some 0) (option_map suc o))
end_first b bs true o e = skipped 13 false bs
end_first b bs false o e = ap (λ xs. b ∷ xs) e ∙ sym (end_next b bs o)

end_by : (bs : List ℕ) → insides 0 true bs ≡ up_to_first bs (first_at ends_only bs)
end_by [] = refl
end_by (b ∷ bs) = end_first b bs (ends_only (b ∷ bs)) (first_at ends_only bs) (end_by bs)

pub next_none : (bs : List ℕ) → None ≡ behind_begin bs → insides 0 false bs ≡ []
next_none bs e = by_place (first_at begins_only bs) e (begin_by bs)
  where
    by_place : (o : Option ℕ) → None ≡ option_map (λ n. drop (n + 13) bs) o → insides 0 false bs ≡ behind_first bs o → insides 0 false bs ≡ []
    by_place None e f = f
    by_place (Some n) e f = absurd (let z : None ≡ Some (drop (n + 13) bs) = e in cc)

-- an inside begins
pub record Begun (bs rest : List ℕ) : Type 0 where
  pub place : ℕ
  pub is : first_at begins_only bs ≡ Some place
  pub rest_is : rest ≡ drop (place + 13) bs

pub begun : (bs rest : List ℕ) → Some rest ≡ behind_begin bs → Begun bs rest
begun bs rest e = by_place (first_at begins_only bs) refl e
  where
    by_place : (o : Option ℕ) → first_at begins_only bs ≡ o → Some rest ≡ option_map (λ n. drop (n + 13) bs) o → Begun bs rest
    by_place None at e = absurd (let z : Some rest ≡ None = e in cc)
    by_place (Some n) at e = record { place = n; is = at; rest_is = let z : Some rest ≡ Some (drop (n + 13) bs) = e in cc }

taken_rest : (bs rest : List ℕ) → Begun bs rest → insides 0 false bs ≡ insides 0 true rest
taken_rest bs rest b = begin_by bs ∙ ap (behind_first bs) b.is ∙ ap (insides 0 true) (sym b.rest_is)

shorter : (bs rest : List ℕ) → Begun bs rest → length rest < length bs
shorter bs rest b =
    let l = begin_len bs b.place b.is in
    let d = ap length b.rest_is ∙ length-drop (b.place + 13) bs in
    omega (arith, l, d)

pub next_last : (bs rest : List ℕ) → Some rest ≡ behind_begin bs → None ≡ first_at ends_only rest → IsNext bs (Some (rest, []))
next_last bs rest e f =
    let b = begun bs rest e in
    let s = shorter bs rest b in
    (taken_rest bs rest b ∙ end_by rest ∙ ap (up_to_first rest) (sym f) ∙ sym (append-nil rest), omega (arith, s))

pub next_cut : (bs rest : List ℕ) (n : ℕ) → Some rest ≡ behind_begin bs → Some n ≡ first_at ends_only rest → IsNext bs (Some (take n rest, drop (n + 14) rest))
next_cut bs rest n e f =
    let b = begun bs rest e in
    let s = shorter bs rest b in
    let d = length-drop (n + 14) rest in
    (taken_rest bs rest b ∙ end_by rest ∙ ap (up_to_first rest) (sym f), omega (arith, s, d))

pub behind_found : (bs rest after : List ℕ) (n : ℕ) → Some n ≡ first_at begins_only bs → rest ≡ drop n bs → after ≡ drop 13 rest → Some after ≡ behind_begin bs
behind_found bs rest after n e r a = ap Some (a ∙ ap (drop 13) r ∙ drop-drop 13 n bs) ∙ ap (option_map (λ k. drop (k + 13) bs)) e

-- what is behind an end, in two steps
pub next_parts : (bs inside front behind after : List ℕ) (n : ℕ) → Some inside ≡ behind_begin bs → Some n ≡ first_at ends_only inside
    → front ≡ take n inside → behind ≡ drop n inside → after ≡ drop 14 behind → IsNext bs (Some (front, after))
next_parts bs inside front behind after n e f t d a =
    let same : after ≡ drop (n + 14) inside = a ∙ ap (drop 14) d ∙ drop-drop 14 n inside in
    subst (λ xs. IsNext bs (Some (xs, after))) (sym t) (subst (λ xs. IsNext bs (Some (take n inside, xs))) (sym same) (next_cut bs inside n e f))

-- no more is taken than there is
insides_len : (n : ℕ) (inside : Bool) (bs : List ℕ) → length (insides n inside bs) ≤ length bs
insides_len n inside [] = omega arith
insides_len (suc n) inside (b ∷ bs) = let l = insides_len n inside bs in omega (arith, l)
insides_len zero false (b ∷ bs) = by_test (begins_only (b ∷ bs)) (insides_len 12 true bs) (insides_len 0 false bs)
  where
    by_test : (t : Bool) → length (insides 12 true bs) ≤ length bs → length (insides 0 false bs) ≤ length bs
        → length (cond t (insides 12 true bs) (insides 0 false bs)) ≤ length (b ∷ bs)
    by_test true l m = omega (arith, l)
    by_test false l m = omega (arith, m)
insides_len zero true (b ∷ bs) = by_test (ends_only (b ∷ bs)) (insides_len 13 false bs) (insides_len 0 true bs)
  where
    by_test : (t : Bool) → length (insides 13 false bs) ≤ length bs → length (insides 0 true bs) ≤ length bs
        → length (cond t (insides 13 false bs) (b ∷ insides 0 true bs)) ≤ length (b ∷ bs)
    by_test true l m = omega (arith, l)
    by_test false l m = omega (arith, m)

pub template_len : (bs : List ℕ) → length (template_text bs) ≤ length bs
unfolding template_text
template_len bs = by_test (has_only bs)
  where
    by_test : (t : Bool) → length (cond t (insides 0 false bs) bs) ≤ length bs
    by_test true = insides_len 0 false bs
    by_test false = omega arith
