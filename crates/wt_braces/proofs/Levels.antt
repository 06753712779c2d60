-- The signs of a level, read with a stack of open links, are those that lie in no link.
use Rattle.std.proofs.Common.{◌≡◌, ℕ, zero, suc, ◌+◌, ◌-◌, ◌≤◌, Bool, true, false, List, [], ◌∷◌, ◌++◌, length, take, reverse, nat_lt, refl, sym, ap, ◌∙◌, subst, arith, append_assoc, append-nil, length-append}
use Rattle.std.specs.Prelude.{◌&&◌, if◌then◌else◌}
use Rattle.std.proofs.lemmas.Bool.Decides.{nat_tests}
use Rattle.std.proofs.lemmas.List.{reverse-append, take_all, take-append-le}
use Rattle.wt_span.specs.Braces.{Member, PartSign, sign_of, signs, width, is_kind_open, is_kind_close, links_open, links_close, in_link, again}
use Rattle.wt_braces.specs.Matched.{end_of}
use Rattle.wt_braces.proofs.Shapes.{Shape, plain, closing, opening, shape}

-- ---- the signs of members, with what stands after them

abbrev pub counted : ℕ → List Member → List Member → List PartSign
counted from [] after = []
counted from (x ∷ before) after = counted from before (x ∷ after) ++ (if in_link before after then [] else sign_of x (end_of from before))

signs_split : (from : ℕ) (before after : List Member) → signs from [] (reverse before ++ after) ≡ counted from before after
    ++ signs (end_of from before) before after
signs_split from [] after = refl
signs_split from (x ∷ before) after =
    let one = if in_link before after then [] else sign_of x (end_of from before) in
    ap (λ ms. signs from [] (ms ++ after)) (reverse-append (x ∷ []) before)
    ∙ ap (signs from []) (append_assoc (reverse before) (x ∷ []) after)
    ∙ signs_split from before (x ∷ after)
    ∙ sym (append_assoc (counted from before (x ∷ after)) one (signs (end_of from before + width x) (x ∷ before) after))

pub signs_counted : (from : ℕ) (before : List Member) → signs from [] (reverse before) ≡ counted from before []
signs_counted from before = ap (signs from []) (sym (append-nil (reverse before))) ∙ signs_split from before [] ∙ append-nil (counted from before [])

-- ---- the same with a stack

pub record Level : Type 0 where
  pub signs : List PartSign
  pub links : List ℕ

-- the nearest open link is closed, and the signs in it are gone
abbrev pub shut_by : List PartSign → List ℕ → Level
shut_by ss [] = record { signs = ss; links = [] }
shut_by ss (k ∷ ks) = record { signs = take k ss; links = ks }

abbrev pub shut : Level → Level
shut l = shut_by l.signs l.links

abbrev pub open_one : Level → Level
open_one l = record { signs = l.signs; links = length l.signs ∷ l.links }

abbrev pub put : List PartSign → Level → Level
put ss l = record { signs = l.signs ++ ss; links = l.links }

abbrev pub level_with : ℕ → Member → Level → Level
level_with at x l = if is_kind_close x then shut l else (if is_kind_open x then open_one l else put (sign_of x at) l)

abbrev pub level : List PartSign → ℕ → List Member → Level
level base from [] = record { signs = base; links = [] }
level base from (x ∷ before) = level_with (end_of from before) x (level base from before)

pub with_close : (at : ℕ) (x : Member) (l : Level) → is_kind_close x ≡ true → level_with at x l ≡ shut l
with_close at x l e = ap (λ t. if t then shut l else (if is_kind_open x then open_one l else put (sign_of x at) l)) e

pub with_open : (at : ℕ) (x : Member) (l : Level) → is_kind_close x ≡ false → is_kind_open x ≡ true → level_with at x l ≡ open_one l
with_open at x l e f = ap (λ t. if t then shut l else (if is_kind_open x then open_one l else put (sign_of x at) l)) e
    ∙ ap (λ t. if t then open_one l else put (sign_of x at) l) f

pub with_plain : (at : ℕ) (x : Member) (l : Level) → is_kind_close x ≡ false → is_kind_open x ≡ false → level_with at x l ≡ put (sign_of x at) l
with_plain at x l e f = ap (λ t. if t then shut l else (if is_kind_open x then open_one l else put (sign_of x at) l)) e
    ∙ ap (λ t. if t then open_one l else put (sign_of x at) l) f

-- ---- counts of links

abbrev Opened : Bool → Bool → ℕ → ℕ
Opened close opens n = if close then n - 1 else (if opens then 1 + n else n)

links_open_by : (x : Member) (before : List Member) (a b : Bool) → is_kind_close x ≡ a → is_kind_open x ≡ b
    → links_open (x ∷ before) ≡ Opened a b (links_open before)
links_open_by x before a b e f = ap (λ t. Opened t (is_kind_open x) (links_open before)) e ∙ ap (λ t. Opened a t (links_open before)) f

links_close_by : (x : Member) (after : List Member) (a b : Bool) → is_kind_close x ≡ a → is_kind_open x ≡ b
    → links_close (x ∷ after) ≡ Opened b a (links_close after)
links_close_by x after a b e f = ap (λ t. Opened t (is_kind_close x) (links_close after)) f ∙ ap (λ t. Opened b t (links_close after)) e

-- the open links are within the signs
abbrev pub Within : List PartSign → List ℕ → Type 0
Within ss [] = Unit {0}
Within ss (k ∷ ks) = (k ≤ length ss) × Within (take k ss) ks

within_more : (ss ts : List PartSign) (ks : List ℕ) → Within ss ks → Within (ss ++ ts) ks
within_more ss ts [] h = tt
within_more ss ts (k ∷ ks) h =
    let P : List PartSign → Type 0 = λ us. Within us ks in (omega (arith, h.0, length-append ss ts), subst P (sym (take-append-le k ss ts h.0)) h.1)

within_shut : (l : Level) → Within l.signs l.links → Within (shut l).signs (shut l).links
within_shut l h = by_links l.signs l.links h
  where
    by_links : (ss : List PartSign) (ks : List ℕ) → Within ss ks → Within (shut_by ss ks).signs (shut_by ss ks).links
    by_links ss [] h = tt
    by_links ss (k ∷ ks) h = h.1

within_open : (l : Level) → Within l.signs l.links → Within l.signs (length l.signs ∷ l.links)
within_open l h = let P : List PartSign → Type 0 = λ us. Within us l.links in (omega arith, subst P (sym (take_all (length l.signs) l.signs (omega arith))) h)

abbrev Sound : Level → Type 0
Sound l = Within l.signs l.links

pub within_level : (base : List PartSign) (from : ℕ) (before : List Member) → Within (level base from before).signs (level base from before).links
within_level base from [] = tt
within_level base from (x ∷ before) =
    let l = level base from before in by_shape x (end_of from before) l (shape x) (within_level base from before)
  where
    by_shape : (x : Member) (at : ℕ) (l : Level) → Shape x → Sound l → Sound (level_with at x l)
    by_shape x at l (closing s) h = subst Sound (sym (with_close at x l s.close)) (within_shut l h)
    by_shape x at l (opening s) h = subst Sound (sym (with_open at x l s.no_close s.open_link)) (within_open l h)
    by_shape x at l (plain s) h = subst Sound (sym (with_plain at x l s.no_close s.no_open)) (within_more l.signs (sign_of x at) l.links h)

abbrev shut_len : List PartSign → List ℕ → ℕ
shut_len ss ks = length (shut_by ss ks).links

shut_length : (ss : List PartSign) (ks : List ℕ) → shut_len ss ks ≡ length ks - 1
shut_length ss [] = refl
shut_length ss (k ∷ ks) = omega arith

pub links_are : (base : List PartSign) (from : ℕ) (before : List Member) → length (level base from before).links ≡ links_open before
links_are base from [] = refl
links_are base from (x ∷ before) = by_shape x (end_of from before) (level base from before) before (shape x) (links_are base from before)
  where
    by_shape : (x : Member) (at : ℕ) (l : Level) (before : List Member) → Shape x → length l.links ≡ links_open before
        → length (level_with at x l).links ≡ links_open (x ∷ before)
    by_shape x at l before (closing s) h = ap (λ (m : Level). length m.links) (with_close at x l s.close)
        ∙ shut_length l.signs l.links ∙ ap (λ n. n - 1) h ∙ sym (links_open_by x before true false s.close s.no_open)
    by_shape x at l before (opening s) h = ap (λ (m : Level). length m.links) (with_open at x l s.no_close s.open_link)
        ∙ omega (arith, h, links_open_by x before false true s.no_close s.open_link)
    by_shape x at l before (plain s) h = ap (λ (m : Level). length m.links) (with_plain at x l s.no_close s.no_open) ∙ h
        ∙ sym (links_open_by x before false false s.no_close s.no_open)

-- ---- they are the same

-- the signs that are left when so many more links are closed
abbrev left_by : ℕ → Level → List PartSign
left_by n l = (again n shut l).signs

left_none : (n : ℕ) (ss : List PartSign) → left_by n (record { signs = ss; links = [] }) ≡ ss
left_none zero ss = refl
left_none (suc n) ss = left_none n ss

left_open : (n : ℕ) (l : Level) → left_by n (open_one l) ≡ left_by (n - 1) l
left_open zero l = refl
left_open (suc n) l =
    let e : suc n - 1 ≡ n = omega arith in
    ap (λ ss. left_by n (record { signs = ss; links = l.links })) (take_all (length l.signs) l.signs (omega arith)) ∙ ap (λ m. left_by m l) (sym e)

and_no : (a : Bool) → (a && false) ≡ false
and_no true = refl
and_no false = refl

left_put : (n m : ℕ) (ss ts : List PartSign) (ks : List ℕ) → length ks ≡ m → Within ss ks
    → left_by n (record { signs = ss ++ ts; links = ks }) ≡ left_by n (record { signs = ss; links = ks }) ++ (if nat_lt 0 m && nat_lt 0 n then [] else ts)
left_put zero m ss ts ks e h = ap (λ t. ss ++ (if t then [] else ts)) (sym (and_no (nat_lt 0 m)))
left_put (suc n) m ss ts [] e h =
    let f : nat_lt 0 m ≡ false = ap (λ k. nat_lt 0 k) (sym e) in
    left_none n (ss ++ ts) ∙ ap (λ us. us ++ ts) (sym (left_none n ss))
    ∙ ap (λ t. left_by n (record { signs = ss; links = [] }) ++ (if t && nat_lt 0 (suc n) then [] else ts)) (sym f)
left_put (suc n) m ss ts (k ∷ ks) e h =
    let f : nat_lt 0 m ≡ true = grind (arith, nat_tests) in
    let g : nat_lt 0 (suc n) ≡ true = grind (arith, nat_tests) in
    let both : (nat_lt 0 m && nat_lt 0 (suc n)) ≡ true = ap (λ t. t && nat_lt 0 (suc n)) f ∙ g in
    let one = left_by n (record { signs = take k ss; links = ks }) in
    ap (λ us. left_by n (record { signs = us; links = ks })) (take-append-le k ss ts h.0) ∙ sym (append-nil one)
    ∙ ap (λ t. one ++ (if t then [] else ts)) (sym both)

none_same : (t : Bool) (ss : List PartSign) → ss ≡ [] → (if t then [] else ss) ≡ []
none_same true ss e = refl
none_same false ss e = e

same_by : (x : Member) (base : List PartSign) (from : ℕ) (before after : List Member) → Shape x
    → left_by (links_close (x ∷ after)) (level base from before) ≡ base ++ counted from before (x ∷ after)
    → left_by (links_close after) (level base from (x ∷ before)) ≡ base ++ counted from (x ∷ before) after
same_by x base from before after (closing s) h =
    let at = end_of from before in
    let l = level base from before in
    let c = links_close after in
    let more : links_close (x ∷ after) ≡ suc c = links_close_by x after true false s.close s.no_open ∙ omega arith in
    let none : (if in_link before after then [] else sign_of x at) ≡ [] = none_same (in_link before after) (sign_of x at) (s.no_sign at) in
    ap (left_by c) (with_close at x l s.close) ∙ ap (λ n. left_by n l) (sym more) ∙ h
    ∙ ap (λ ss. base ++ ss) (sym (append-nil (counted from before (x ∷ after)))
    ∙ ap (λ ss. counted from before (x ∷ after) ++ ss) (sym none))
same_by x base from before after (opening s) h =
    let at = end_of from before in
    let l = level base from before in
    let c = links_close after in
    let less : links_close (x ∷ after) ≡ c - 1 = links_close_by x after false true s.no_close s.open_link in
    let none : (if in_link before after then [] else sign_of x at) ≡ [] = none_same (in_link before after) (sign_of x at) (s.no_sign at) in
    ap (left_by c) (with_open at x l s.no_close s.open_link) ∙ left_open c l ∙ ap (λ n. left_by n l) (sym less) ∙ h
    ∙ ap (λ ss. base ++ ss) (sym (append-nil (counted from before (x ∷ after))) ∙ ap (λ ss. counted from before (x ∷ after) ++ ss) (sym none))
same_by x base from before after (plain s) h =
    let at = end_of from before in
    let l = level base from before in
    let c = links_close after in
    let same : links_close (x ∷ after) ≡ c = links_close_by x after false false s.no_close s.no_open in
    let one = if in_link before after then [] else sign_of x at in
    ap (left_by c) (with_plain at x l s.no_close s.no_open) ∙ left_put c (links_open before) l.signs (sign_of x at) l.links
    (links_are base from before) (within_level base from before)
    ∙ ap (λ ss. ss ++ one) (ap (λ n. left_by n l) (sym same) ∙ h) ∙ append_assoc base (counted from before (x ∷ after)) one

level_left : (base : List PartSign) (from : ℕ) (before after : List Member) → left_by (links_close after) (level base from before)
    ≡ base ++ counted from before after
level_left base from [] after = left_none (links_close after) base ∙ sym (append-nil base)
level_left base from (x ∷ before) after = same_by x base from before after (shape x) (level_left base from before (x ∷ after))

pub level_signs : (base : List PartSign) (from : ℕ) (before : List Member) → (level base from before).signs ≡ base ++ signs from [] (reverse before)
level_signs base from before = level_left base from before [] ∙ ap (λ ss. base ++ ss) (sym (signs_counted from before))
