-- Tags, and what they hold, that are cut out of their text are whole by themselves.
use Rattle.std.proofs.Common.{◌≡◌, ℕ, zero, suc, ◌+◌, ◌-◌, ◌<◌, ◌≤◌, ◌⊎◌, ◌==◌, Bool, true, false, Option, Some, None, List, [], ◌∷◌, length, get_or, take, drop, nat_lt, refl, sym, ap, ◌∙◌, subst, ⊎_elim, inl, inr, arith, length-drop, length-take, codes}
use Rattle.std.specs.Prelude.{if◌then◌else◌, ◌&&◌}
use Rattle.std.specs.Option.{option_or, option_map, unwrap_or}
use Rattle.std.specs.Char.{is_ascii_alphabetic, is_ascii_alphanumeric}
use Rattle.std.specs.List.{prefix_len}
use Rattle.std.specs.Str.{bytes_eq}
use Rattle.std.proofs.lemmas.List.{get_or-drop, take-take, take_all}
use Rattle.std.proofs.lemmas.List.Sums.{prefix_len-le-length}
use Rattle.wt_span.specs.declared.form.Mode.{Mode}
use Rattle.wt_span.specs.declared.form.LexKind.{LexKind}
use Rattle.wt_span.specs.declared.form.LexKind.TheVariants.{Include, Hidden}
use Rattle.wt_span.specs.Bytes.{is_blank, begins, blank_len, name_len, lower}
use Rattle.wt_span.specs.Tags.{Tag, is_tag_byte, is_tag_inside, closes_itself, tag_after, opening_tag, closing_tag, len_if_named, to_closing, with_inside, raw_by, hides, is_left_out, hidden_len, opening_include, closing_include, include_at}
use Rattle.wt_span.specs.Lexemes.{Word}
use Rattle.wt_lex.proofs.Begins.{and_left, and_right, lt_is, begins_get}
use Rattle.wt_lex.proofs.TagForms.{OptTag, OptEnds, closing_ends, closing_fits, After, OptAfter, after_fits, name_len-le}
use Rattle.wt_lex.proofs.Fronts.{drop_front, begins_front, begins_more, prefix_front, prefix_more, name_front, name_more, byte_front}

-- what a test that passed says
if_some : {A : Type 0} → (t : Bool) (o : Option A) (x : A) → (if t then o else None) ≡ Some x → (t ≡ true) × (o ≡ Some x)
if_some true o x e = (refl, e)
if_some false o x e = cc

then_some : {A : Type 0} → (t : Bool) (o : Option A) (x : A) → t ≡ true → o ≡ Some x → (if t then o else None) ≡ Some x
then_some true o x e f = f
then_some false o x e f = cc

-- ---- opening tags

-- the tag by what stands in it and the byte after that
abbrev tag_by : List ℕ → List ℕ → ℕ → Option Tag
tag_by name inside byte = if byte == 62 && is_tag_inside inside then
    Some (record { name = lower name; len = 2 + length name + length inside; alone = closes_itself inside }) else None

after_is : (name rest : List ℕ) → tag_after name rest ≡ tag_by name (take (prefix_len is_tag_byte rest) rest)
    (get_or rest (length (take (prefix_len is_tag_byte rest) rest)) 0)
unfolding tag_after
after_is name rest = refl

after_at : (name rest : List ℕ) (t : Tag) → tag_after name rest ≡ Some t → After name rest t
after_at name rest t e = let P : Option Tag → Type 0 = λ o. OptAfter name rest o in subst P e (after_fits name rest)

len_is : (name rest : List ℕ) (t : Tag) → tag_after name rest ≡ Some t → t.len ≡ 2 + length name + length (take (prefix_len is_tag_byte rest) rest)
len_is name rest t e =
    let inside = take (prefix_len is_tag_byte rest) rest in
    let x : Tag = record { name = lower name; len = 2 + length name + length inside; alone = closes_itself inside } in
    let is = if_some (get_or rest (length inside) 0 == 62 && is_tag_inside inside) (Some x) t (sym (after_is name rest) ∙ e) in
    same_len x t is.1
  where
    same_len : (x y : Tag) → Some x ≡ Some y → y.len ≡ x.len
    same_len x y e = let same : x ≡ y = cc in ap (λ (z : Tag). z.len) (sym same)

after_front : (name rest : List ℕ) (t : Tag) (m : ℕ) → tag_after name rest ≡ Some t → t.len ≤ 1 + length name + m → tag_after name (take m rest) ≡ Some t
after_front name rest t m e le =
    let k = prefix_len is_tag_byte rest in
    let inside = take k rest in
    let size = len_is name rest t e in
    let full : length inside ≡ k = omega (arith, length-take k rest, prefix_len-le-length is_tag_byte rest) in
    let run = prefix_front is_tag_byte rest m (omega arith) in
    let same : take (prefix_len is_tag_byte (take m rest)) (take m rest) ≡ inside = ap (λ (i : ℕ). take i (take m rest)) run
    ∙ take-take k m rest (omega arith) in
    after_is name (take m rest) ∙ ap (λ (i : List ℕ). tag_by name i (get_or (take m rest) (length i) 0)) same
    ∙ ap (tag_by name inside) (byte_front rest m (length inside) (omega arith)) ∙ sym (after_is name rest) ∙ e

-- the opening tag by the first byte, the name and what follows it
abbrev opening_by : ℕ → ℕ → List ℕ → List ℕ → Option Tag
opening_by first n name rest = if first == 60 && nat_lt 0 n then tag_after name rest else None

opening_is : (bs : List ℕ) → opening_tag bs ≡ opening_by (get_or bs 0 0) (name_len (drop 1 bs))
    (take (name_len (drop 1 bs)) (drop 1 bs)) (drop (1 + name_len (drop 1 bs)) bs)
unfolding opening_tag
opening_is bs = refl

pub opening_front : (bs : List ℕ) (t : Tag) (m : ℕ) → opening_tag bs ≡ Some t → t.len ≤ m → opening_tag (take m bs) ≡ Some t
opening_front bs t m e le =
    let n = name_len (drop 1 bs) in
    let name = take n (drop 1 bs) in
    let rest = drop (1 + n) bs in
    let is = if_some (get_or bs 0 0 == 60 && nat_lt 0 n) (tag_after name rest) t (sym (opening_is bs) ∙ e) in
    let full : length name ≡ n = omega (arith, length-take n (drop 1 bs), name_len-le (drop 1 bs)) in
    let size = len_is name rest t is.1 in
    let cut : drop 1 (take m bs) ≡ take (m - 1) (drop 1 bs) = drop_front 1 m bs (omega arith) in
    let names : name_len (drop 1 (take m bs)) ≡ n = ap name_len cut ∙ name_front (drop 1 bs) (m - 1) (omega arith) in
    let same : take n (drop 1 (take m bs)) ≡ name = ap (take n) cut ∙ take-take n (m - 1) (drop 1 bs) (omega arith) in
    let after : drop (1 + n) (take m bs) ≡ take (m - (1 + n)) rest = drop_front (1 + n) m bs (omega arith) in
    opening_is (take m bs)
    ∙ ap (λ (i : ℕ). opening_by (get_or (take m bs) 0 0) i (take i (drop 1 (take m bs))) (drop (1 + i) (take m bs))) names
    ∙ ap (λ (b : ℕ). opening_by b n (take n (drop 1 (take m bs))) (drop (1 + n) (take m bs))) (byte_front bs m 0 (omega arith))
    ∙ ap (λ (i : List ℕ). opening_by (get_or bs 0 0) n i (drop (1 + n) (take m bs))) same
    ∙ ap (opening_by (get_or bs 0 0) n name) after
    ∙ then_some (get_or bs 0 0 == 60 && nat_lt 0 n) (tag_after name (take (m - (1 + n)) rest)) t is.0 (after_front name rest t (m - (1 + n)) is.1 (omega arith))

-- ---- closing tags

abbrev closing_by : Bool → ℕ → ℕ → ℕ → List ℕ → Option Tag
closing_by starts n k byte name = if starts && (nat_lt 0 n && byte == 62) then Some (record { name = lower name; len = 3 + n + k; alone = false }) else None

closing_is : (bs : List ℕ) → closing_tag bs ≡ closing_by (begins (codes "</") bs) (name_len (drop 2 bs))
    (blank_len (drop (2 + name_len (drop 2 bs)) bs))
    (get_or bs (2 + name_len (drop 2 bs) + blank_len (drop (2 + name_len (drop 2 bs)) bs)) 0) (take (name_len (drop 2 bs)) (drop 2 bs))
unfolding closing_tag
closing_is bs = refl

-- where name, blanks and the byte after them are the same, so is the tag
closing_same : (xs ys : List ℕ) → begins (codes "</") xs ≡ begins (codes "</") ys → name_len (drop 2 xs) ≡ name_len (drop 2 ys)
    → (let n = name_len (drop 2 ys) in blank_len (drop (2 + n) xs) ≡ blank_len (drop (2 + n) ys))
    → (let n = name_len (drop 2 ys) in let k = blank_len (drop (2 + n) ys) in get_or xs (2 + n + k) 0 ≡ get_or ys (2 + n + k) 0)
    → (let n = name_len (drop 2 ys) in take n (drop 2 xs) ≡ take n (drop 2 ys)) → closing_tag xs ≡ closing_tag ys
closing_same xs ys starts names blanks byte name =
    let n = name_len (drop 2 ys) in
    let k = blank_len (drop (2 + n) ys) in
    closing_is xs
    ∙ ap (λ (i : ℕ). closing_by (begins (codes "</") xs) i (blank_len (drop (2 + i) xs))
    (get_or xs (2 + i + blank_len (drop (2 + i) xs)) 0) (take i (drop 2 xs))) names
    ∙ ap (λ (j : ℕ). closing_by (begins (codes "</") xs) n j (get_or xs (2 + n + j) 0) (take n (drop 2 xs))) blanks
    ∙ ap (λ (b : ℕ). closing_by (begins (codes "</") xs) n k b (take n (drop 2 xs))) byte
    ∙ ap (λ (t : Bool). closing_by t n k (get_or ys (2 + n + k) 0) (take n (drop 2 xs))) starts
    ∙ ap (closing_by (begins (codes "</") ys) n k (get_or ys (2 + n + k) 0)) name ∙ sym (closing_is ys)

-- what a closing tag that was read says
record Closing (bs : List ℕ) (len : ℕ) : Type 0 where
  starts : begins (codes "</") bs ≡ true
  named : 0 < name_len (drop 2 bs)
  size : len ≡ 3 + name_len (drop 2 bs) + blank_len (drop (2 + name_len (drop 2 bs)) bs)

closing_at : (bs : List ℕ) (t : Tag) → closing_tag bs ≡ Some t → Closing bs t.len
closing_at bs t e =
    let n = name_len (drop 2 bs) in
    let k = blank_len (drop (2 + n) bs) in
    let x : Tag = record { name = lower (take n (drop 2 bs)); len = 3 + n + k; alone = false } in
    let is = if_some (begins (codes "</") bs && (nat_lt 0 n && get_or bs (2 + n + k) 0 == 62)) (Some x) t (sym (closing_is bs) ∙ e) in
    let both = and_right (begins (codes "</") bs) _ is.0 in
    record { starts = and_left (begins (codes "</") bs) _ is.0; named = lt_is 0 n (and_left (nat_lt 0 n) _ both); size = same_len x t is.1 }
  where
    same_len : (x y : Tag) → Some x ≡ Some y → y.len ≡ x.len
    same_len x y e = let same : x ≡ y = cc in ap (λ (z : Tag). z.len) (sym same)

pub closing_front : (bs : List ℕ) (t : Tag) (m : ℕ) → closing_tag bs ≡ Some t → t.len ≤ m → closing_tag (take m bs) ≡ Some t
closing_front bs t m e le =
    let f = closing_at bs t e in
    let n = name_len (drop 2 bs) in
    let k = blank_len (drop (2 + n) bs) in
    let size = f.size in
    let cut : drop 2 (take m bs) ≡ take (m - 2) (drop 2 bs) = drop_front 2 m bs (omega arith) in
    let after : drop (2 + n) (take m bs) ≡ take (m - (2 + n)) (drop (2 + n) bs) = drop_front (2 + n) m bs (omega arith) in
    closing_same (take m bs) bs (begins_front (codes "</") bs m (omega arith) f.starts ∙ sym f.starts)
    (ap name_len cut ∙ name_front (drop 2 bs) (m - 2) (omega arith))
    (ap blank_len after ∙ prefix_front is_blank (drop (2 + n) bs) (m - (2 + n)) (omega arith)) (byte_front bs m (2 + n + k) (omega arith))
    (ap (take n) cut ∙ take-take n (m - 2) (drop 2 bs) (omega arith)) ∙ e

pub closing_more : (bs : List ℕ) (t : Tag) (m : ℕ) → closing_tag (take m bs) ≡ Some t → closing_tag bs ≡ Some t
closing_more bs t m e =
    let xs = take m bs in
    let f = closing_at xs t e in
    let n = name_len (drop 2 xs) in
    let k = blank_len (drop (2 + n) xs) in
    let size = f.size in
    let fits = (let P : Option Tag → Type 0 = λ o. OptTag xs o in subst P e (closing_fits xs)) in
    let inside = fits.within in
    let short : length xs ≤ m = omega (arith, length-take m bs) in
    let cut : drop 2 xs ≡ take (m - 2) (drop 2 bs) = drop_front 2 m bs (omega arith) in
    let after : drop (2 + n) xs ≡ take (m - (2 + n)) (drop (2 + n) bs) = drop_front (2 + n) m bs (omega arith) in
    let left : n < length (take (m - 2) (drop 2 bs)) = omega (arith, ap length cut, length-drop 2 xs) in
    let names : name_len (drop 2 bs) ≡ n = name_more (drop 2 bs) (m - 2) (omega (arith, ap name_len cut))
    (omega (arith, ap name_len cut)) ∙ ap name_len (sym cut) in
    let blanks : blank_len (drop (2 + n) bs) ≡ k =
    prefix_more is_blank (drop (2 + n) bs) (m - (2 + n))
    (omega (arith, ap blank_len after, ap length after, length-drop (2 + n) xs)) ∙ ap blank_len (sym after) in
    closing_same bs xs (begins_more (codes "</") bs m f.starts ∙ sym f.starts) names blanks (sym (byte_front bs m (2 + n + k) (omega arith)))
    (sym (ap (take n) cut ∙ take-take n (m - 2) (drop 2 bs) (omega arith))) ∙ e

-- ---- the next closing tag

named_by : (name : List ℕ) (o : Option Tag) (n : ℕ) → len_if_named name o ≡ Some n → (t : Tag) × (o ≡ Some t) × (t.len ≡ n)
named_by name None n e = cc
named_by name (Some t) n e = (t, refl, by (bytes_eq t.name name) e)
  where
    by : (v : Bool) → (if v then Some t.len else None) ≡ Some n → t.len ≡ n
    by true e = cc
    by false e = cc

named_front : (name bs : List ℕ) (n m : ℕ) → len_if_named name (closing_tag bs) ≡ Some n → n ≤ m → len_if_named name (closing_tag (take m bs)) ≡ Some n
named_front name bs n m e le =
    let f = named_by name (closing_tag bs) n e in
    let size = f.2 in
    ap (len_if_named name) (closing_front bs f.0 m f.1 (omega arith) ∙ sym f.1) ∙ e

-- where no closing tag of the name begins the text, none begins its front
none_front_by : (name bs : List ℕ) (m : ℕ) (o : Option Tag) → closing_tag (take m bs) ≡ o
    → len_if_named name (closing_tag bs) ≡ None → len_if_named name o ≡ None
none_front_by name bs m None e h = refl
none_front_by name bs m (Some t) e h = ap (len_if_named name) (sym (closing_more bs t m e)) ∙ h

none_front : (name bs : List ℕ) (m : ℕ) → len_if_named name (closing_tag bs) ≡ None → len_if_named name (closing_tag (take m bs)) ≡ None
none_front name bs m h = none_front_by name bs m (closing_tag (take m bs)) refl h

or_some : (o p : Option ℕ) (n : ℕ) → option_or o (option_map (λ k. 1 + k) p) ≡ Some n → (o ≡ Some n) ⊎ ((o ≡ None) × (0 < n) × (p ≡ Some (n - 1)))
or_some None None n e = cc
or_some None (Some k) n e = let size : 1 + k ≡ n = cc in let z : k ≡ n - 1 = omega arith in inr (refl, omega arith, ap Some z)
or_some (Some j) p n e = inl e

closing_some : (name bs : List ℕ) (n : ℕ) → to_closing name bs ≡ Some n → 0 < n
closing_some name bs n e = let P : Option ℕ → Type 0 = λ o. OptEnds bs o in let f = subst P e (closing_ends name bs) in f.some

pub to_closing_front : (name bs : List ℕ) (n m : ℕ) → to_closing name bs ≡ Some n → n ≤ m → to_closing name (take m bs) ≡ Some n
to_closing_front name [] n m e le = cc
to_closing_front name (b ∷ bs) n zero e le = absurd (no_zero (closing_some name (b ∷ bs) n e))
  where
    no_zero : 0 < n → ⊥
    no_zero h = omega arith
to_closing_front name (b ∷ bs) n (suc m) e le = by (or_some (len_if_named name (closing_tag (b ∷ bs))) (to_closing name bs) n e)
    (to_closing_front name bs (n - 1) m)
  where
    by : ((len_if_named name (closing_tag (b ∷ bs)) ≡ Some n)
        ⊎ ((len_if_named name (closing_tag (b ∷ bs)) ≡ None) × (0 < n) × (to_closing name bs ≡ Some (n - 1))))
        → (to_closing name bs ≡ Some (n - 1) → n - 1 ≤ m → to_closing name (take m bs) ≡ Some (n - 1)) → to_closing name (b ∷ take m bs) ≡ Some n
    by (inl here) rest = ap (λ (o : Option ℕ). option_or o (option_map (λ k. 1 + k) (to_closing name (take m bs))))
        (named_front name (b ∷ bs) n (suc m) here le)
    by (inr (none, pos, later)) rest =
        let z : 1 + (n - 1) ≡ n = omega arith in
        ap (λ (o : Option ℕ). option_or o (option_map (λ k. 1 + k) (to_closing name (take m bs)))) (none_front name (b ∷ bs) (suc m) none)
        ∙ ap (option_map (λ k. 1 + k)) (rest later (omega arith)) ∙ ap Some z

-- ---- a tag with its inside

inside_by : (t : Tag) (v : Bool) (o : Option ℕ) (n : ℕ) → (if v then Some t.len else option_map (λ j. t.len + j) o) ≡ Some n
    → ((v ≡ true) × (t.len ≡ n)) ⊎ ((v ≡ false) × (j : ℕ) × (o ≡ Some j) × (t.len + j ≡ n))
inside_by t true o n e = let size : t.len ≡ n = cc in inl (refl, size)
inside_by t false None n e = cc
inside_by t false (Some j) n e = let size : t.len + j ≡ n = cc in inr (refl, j, refl, size)

inside_is : (t : Tag) (bs : List ℕ) → with_inside t bs ≡ (if t.alone then Some t.len else option_map (λ j. t.len + j) (to_closing t.name (drop t.len bs)))
unfolding with_inside
inside_is t bs = refl

pub inside_front : (t : Tag) (bs : List ℕ) (n m : ℕ) → with_inside t bs ≡ Some n → n ≤ m → with_inside t (take m bs) ≡ Some n
inside_front t bs n m e le = by (inside_by t t.alone (to_closing t.name (drop t.len bs)) n (sym (inside_is t bs) ∙ e))
  where
    by : (((t.alone ≡ true) × (t.len ≡ n)) ⊎ ((t.alone ≡ false) × (j : ℕ) × (to_closing t.name (drop t.len bs) ≡ Some j)
        × (t.len + j ≡ n))) → with_inside t (take m bs) ≡ Some n
    by (inl (alone, size)) =
        inside_is t (take m bs) ∙ ap (λ (v : Bool). if v then Some t.len else
        option_map (λ j. t.len + j) (to_closing t.name (drop t.len (take m bs)))) alone ∙ ap Some size
    by (inr (alone, j, found, size)) =
        let cut : drop t.len (take m bs) ≡ take (m - t.len) (drop t.len bs) = drop_front t.len m bs (omega arith) in
        inside_is t (take m bs) ∙ ap (λ (v : Bool). if v then Some t.len else option_map (λ j. t.len + j) (to_closing t.name (drop t.len (take m bs)))) alone
        ∙ ap (λ (i : List ℕ). option_map (λ j. t.len + j) (to_closing t.name i)) cut
        ∙ ap (option_map (λ j. t.len + j)) (to_closing_front t.name (drop t.len bs) j (m - t.len) found (omega arith)) ∙ ap Some size

tag_le : (t : Tag) (bs : List ℕ) (n : ℕ) → with_inside t bs ≡ Some n → t.len ≤ n
tag_le t bs n e = by (inside_by t t.alone (to_closing t.name (drop t.len bs)) n (sym (inside_is t bs) ∙ e))
  where
    by : (((t.alone ≡ true) × (t.len ≡ n)) ⊎ ((t.alone ≡ false) × (j : ℕ) × (to_closing t.name (drop t.len bs) ≡ Some j) × (t.len + j ≡ n))) → t.len ≤ n
    by (inl (alone, size)) = omega arith
    by (inr (alone, j, found, size)) = omega arith

-- ---- raw tags

pub raw_at : (named : List ℕ → Bool) (o : Option Tag) (bs : List ℕ) (n : ℕ) → raw_by named o bs ≡ Some n
    → (t : Tag) × (o ≡ Some t) × (named t.name ≡ true) × (with_inside t bs ≡ Some n)
raw_at named None bs n e = cc
raw_at named (Some t) bs n e = let is = if_some (named t.name) (with_inside t bs) n e in (t, refl, is.0, is.1)

-- a raw tag whose name passes another test too
pub raw_front : (named other : List ℕ → Bool) (bs : List ℕ) (n : ℕ) → raw_by named (opening_tag bs) bs ≡ Some n
    → ((t : Tag) → opening_tag bs ≡ Some t → other t.name ≡ true) → raw_by other (opening_tag (take n bs)) (take n bs) ≡ Some n
raw_front named other bs n e also =
    let f = raw_at named (opening_tag bs) bs n e in
    let t = f.0 in
    let size = tag_le t bs n f.3 in
    ap (λ (o : Option Tag). raw_by other o (take n bs)) (opening_front bs t n f.1 size)
    ∙ then_some (other t.name) (with_inside t (take n bs)) n (also t f.1) (inside_front t bs n n f.3 (omega arith))

-- ---- include tags

or_word : (o p : Option Word) (w : Word) → option_or o p ≡ Some w → (o ≡ Some w) ⊎ ((o ≡ None) × (p ≡ Some w))
or_word None p w e = inr (refl, e)
or_word (Some v) p w e = inl e

-- a text that begins as a closing tag begins with no opening tag
no_opening : (xs : List ℕ) → begins (codes "</") xs ≡ true → opening_tag xs ≡ None
no_opening xs e =
    let slash : get_or (drop 1 xs) 0 0 ≡ 47 = get_or-drop 1 xs 0 0 ∙ begins_get (codes "</") xs e 1 (omega arith) in
    let none : name_len (drop 1 xs) ≡ 0 = ap (λ (b : ℕ). if is_ascii_alphabetic b then prefix_len is_ascii_alphanumeric (drop 1 xs) else 0) slash in
    opening_is xs ∙ ap (λ (i : ℕ). opening_by (get_or xs 0 0) i (take i (drop 1 xs)) (drop (1 + i) xs)) none
    ∙ never (get_or xs 0 0 == 60) (tag_after (take 0 (drop 1 xs)) (drop (1 + 0) xs))
  where
    never : (t : Bool) (o : Option Tag) → (if t && nat_lt 0 0 then o else None) ≡ None
    never true o = refl
    never false o = refl

-- which part of the definition an include tag by an opening tag is
data OpeningWord (mode : Mode) (bs : List ℕ) (t : Tag) (w : Word) : Type 0 where
  hidden : hides mode t.name ≡ true → (Hidden, hidden_len t bs) ≡ w → OpeningWord mode bs t w
  left_out : hides mode t.name ≡ false → is_left_out mode t.name ≡ true → (Include, t.len) ≡ w → OpeningWord mode bs t w

opening_word_by : (mode : Mode) (bs : List ℕ) (t : Tag) (w : Word) (u v : Bool) → hides mode t.name ≡ u → is_left_out mode t.name ≡ v
    → (if u then Some (Hidden, hidden_len t bs) else (if v then Some (Include, t.len) else None)) ≡ Some w → OpeningWord mode bs t w
opening_word_by mode bs t w true v h l e = let is : (Hidden, hidden_len t bs) ≡ w = cc in hidden h is
opening_word_by mode bs t w false true h l e = let is : (Include, t.len) ≡ w = cc in left_out h l is
opening_word_by mode bs t w false false h l e = cc

opening_word : (mode : Mode) (o : Option Tag) (bs : List ℕ) (w : Word) → opening_include mode o bs ≡ Some w → (t : Tag) × (o ≡ Some t) × OpeningWord mode bs t w
opening_word mode None bs w e = cc
opening_word mode (Some t) bs w e = (t, refl, opening_word_by mode bs t w (hides mode t.name) (is_left_out mode t.name) refl refl e)

closing_word : (mode : Mode) (o : Option Tag) (w : Word) → closing_include mode o ≡ Some w
    → (t : Tag) × (o ≡ Some t) × (is_left_out mode t.name ≡ true) × ((Include, t.len) ≡ w)
closing_word mode None w e = cc
closing_word mode (Some t) w e = by (is_left_out mode t.name) refl e
  where
    by : (v : Bool) → is_left_out mode t.name ≡ v → (if v then Some (Include, t.len) else None) ≡ Some w
        → (s : Tag) × (Some t ≡ Some s) × (is_left_out mode s.name ≡ true) × ((Include, s.len) ≡ w)
    by true l e = let is : (Include, t.len) ≡ w = cc in (t, refl, l, is)
    by false l e = cc

include_is : (mode : Mode) (bs : List ℕ) → include_at mode bs ≡ option_or (opening_include mode (opening_tag bs) bs) (closing_include mode (closing_tag bs))
unfolding include_at
include_is mode bs = refl

opened : (mode : Mode) (bs : List ℕ) (o p : Option Word) (w : Word) → opening_include mode (opening_tag bs) bs ≡ Some w → include_at mode bs ≡ Some w
opened mode bs o p w e = include_is mode bs ∙ ap (λ (i : Option Word). option_or i (closing_include mode (closing_tag bs))) e

hidden_front : (mode : Mode) (bs : List ℕ) (t : Tag) (o : Option ℕ) → opening_tag bs ≡ Some t → hides mode t.name ≡ true → with_inside t bs ≡ o
    → include_at mode bs ≡ Some (Hidden, unwrap_or o (length bs)) → include_at mode (take (unwrap_or o (length bs)) bs) ≡ Some (Hidden, unwrap_or o (length bs))
hidden_front mode bs t None tag hid is all = ap (include_at mode) (take_all (length bs) bs (omega arith)) ∙ all
hidden_front mode bs t (Some n) tag hid is all =
    let size = tag_le t bs n is in
    opened mode (take n bs) None None (Hidden, n)
    (ap (λ (o : Option Tag). opening_include mode o (take n bs)) (opening_front bs t n tag size)
    ∙ ap (λ (v : Bool). if v then Some (Hidden, hidden_len t (take n bs)) else (if is_left_out mode t.name then Some (Include, t.len) else None)) hid
    ∙ ap (λ (o : Option ℕ). Some (Hidden, unwrap_or o (length (take n bs)))) (inside_front t bs n n is (omega arith)))

opening_word_front : (mode : Mode) (bs : List ℕ) (t : Tag) (w : Word) → opening_tag bs ≡ Some t → include_at mode bs ≡ Some w
    → OpeningWord mode bs t w → include_at mode (take w.1 bs) ≡ Some w
opening_word_front mode bs t w tag all (hidden hid is) =
    let P : Word → Type 0 = λ v. include_at mode (take v.1 bs) ≡ Some v in
    subst P is (hidden_front mode bs t (with_inside t bs) tag hid refl (all ∙ ap Some (sym is)))
opening_word_front mode bs t w tag all (left_out hid out is) =
    let P : Word → Type 0 = λ v. include_at mode (take v.1 bs) ≡ Some v in
    subst P is
    (opened mode (take t.len bs) None None (Include, t.len)
    (ap (λ (o : Option Tag). opening_include mode o (take t.len bs)) (opening_front bs t t.len tag (omega arith))
    ∙ ap (λ (v : Bool). if v then Some (Hidden, hidden_len t (take t.len bs)) else (if is_left_out mode t.name then Some (Include, t.len) else None)) hid
    ∙ ap (λ (v : Bool). if v then Some (Include, t.len) else None) out))

closing_word_front : (mode : Mode) (bs : List ℕ) (t : Tag) → closing_tag bs ≡ Some t → is_left_out mode t.name ≡ true
    → include_at mode (take t.len bs) ≡ Some (Include, t.len)
closing_word_front mode bs t tag out =
    let same = closing_front bs t t.len tag (omega arith) in
    let f = closing_at (take t.len bs) t same in
    include_is mode (take t.len bs)
    ∙ ap (λ (o : Option Tag). option_or (opening_include mode o (take t.len bs))
    (closing_include mode (closing_tag (take t.len bs)))) (no_opening (take t.len bs) f.starts)
    ∙ ap (closing_include mode) same ∙ ap (λ (v : Bool). if v then Some (Include, t.len) else None) out

pub include_front : (mode : Mode) (bs : List ℕ) (w : Word) → include_at mode bs ≡ Some w → include_at mode (take w.1 bs) ≡ Some w
include_front mode bs w e =
    ⊎_elim
    (λ h. let f = opening_word mode (opening_tag bs) bs w h in opening_word_front mode bs f.0 w f.1 e f.2)
    (λ h.
    let f = closing_word mode (closing_tag bs) w h.1 in
    let P : Word → Type 0 = λ v. include_at mode (take v.1 bs) ≡ Some v in
    subst P f.3 (closing_word_front mode bs f.0 f.1 f.2))
    (or_word (opening_include mode (opening_tag bs) bs) (closing_include mode (closing_tag bs)) w (sym (include_is mode bs) ∙ e))

-- the kinds of include tags
abbrev pub IsIncludeKind : LexKind → Type 0
IsIncludeKind Include = Unit {0}
IsIncludeKind Hidden = Unit {0}
IsIncludeKind kind = ⊥

opening_kind : (mode : Mode) (bs : List ℕ) (t : Tag) (w : Word) → OpeningWord mode bs t w → IsIncludeKind w.0
opening_kind mode bs t w (hidden hid is) = let P : Word → Type 0 = λ v. IsIncludeKind v.0 in subst P is tt
opening_kind mode bs t w (left_out hid out is) = let P : Word → Type 0 = λ v. IsIncludeKind v.0 in subst P is tt

pub include_kind : (mode : Mode) (bs : List ℕ) (w : Word) → include_at mode bs ≡ Some w → IsIncludeKind w.0
include_kind mode bs w e =
    ⊎_elim
    (λ h. let f = opening_word mode (opening_tag bs) bs w h in opening_kind mode bs f.0 w f.2)
    (λ h. let f = closing_word mode (closing_tag bs) w h.1 in let P : Word → Type 0 = λ v. IsIncludeKind v.0 in subst P f.3 tt)
    (or_word (opening_include mode (opening_tag bs) bs) (closing_include mode (closing_tag bs)) w (sym (include_is mode bs) ∙ e))
