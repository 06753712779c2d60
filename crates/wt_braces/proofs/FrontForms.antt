-- The form that begins a text begins each front of the text that holds it; and where none begins the text, none begins a front.
use Rattle.std.proofs.Common.{◌≡◌, ℕ, zero, suc, ◌+◌, ◌-◌, ◌<◌, ◌≤◌, ◌==◌, Bool, true, false, cond, Option, Some, None, List, [], ◌∷◌, length, get_or, take, drop, nat_lt, nat_le, refl, sym, ap, ◌∙◌, subst, arith, length-take, length-drop, codes}
use Rattle.std.specs.Prelude.{if◌then◌else◌, ◌&&◌, ◌||◌}
use Rattle.std.specs.Option.{option_or, option_map}
use Rattle.std.specs.Char.{is_ascii_digit, is_ascii_hexdigit}
use Rattle.std.specs.List.{prefix_len}
use Rattle.std.specs.Str.Parse.{digits_value}
use Rattle.std.proofs.lemmas.Bool.Decides.{nat_tests}
use Rattle.std.proofs.lemmas.List.{take-take}
use Rattle.wt_span.specs.declared.form.LexKind.{LexKind}
use Rattle.wt_span.specs.Bytes.{is_blank, is_break, begins, through, blank_len}
use Rattle.wt_span.specs.Comments.{comment_len, remarks_with, remarks_len, comment_line_len}
use Rattle.wt_span.specs.Entities.{named_in, entity_names, is_entity_number, numbered, decimal_entity, hex_entity, named_entity, entity_at}
use Rattle.wt_span.specs.Lexemes.{run_at, sign_at}
use Rattle.wt_lex.proofs.Begins.{and_left, and_right, lt_is, is_within, byte_is, begins_get}
use Rattle.wt_lex.proofs.Forms.{OptFits, comment_fits}
use Rattle.wt_lex.proofs.Fronts.{drop_front, begins_more, begins_front, begins_none, prefix_front, byte_front, prefix_more}
use Rattle.wt_lex.proofs.WholeComments.{comment_front, no_comment_front, line_front}

-- ---- what is read of a text, and of a front of it

-- what is read is read of a front that holds it, and where nothing is read of the text, nothing is of the front
abbrev pub IsFront : {A : Type 0} → (A → ℕ) → ℕ → Option A → Option A → Type 0
IsFront size m None o = o ≡ None
IsFront size m (Some x) o = size x ≤ m → o ≡ Some x

pub or_front : {A : Type 0} → (size : A → ℕ) (m : ℕ) (a b c d : Option A) → IsFront size m a c → IsFront size m b d
    → IsFront size m (option_or a b) (option_or c d)
or_front size m None b c d f g = let P : Option _ → Type 0 = λ o. IsFront size m b (option_or o d) in subst P (sym f) g
or_front size m (Some x) b c d f g = λ le. ap (λ o. option_or o d) (f le)

pub front_by : {A : Type 0} → (size : A → ℕ) (m : ℕ) (o p : Option A) → ((x : A) → o ≡ Some x → size x ≤ m → p ≡ Some x)
    → ((x : A) → p ≡ Some x → o ≡ Some x) → IsFront size m o p
front_by size m None None f g = refl
front_by size m None (Some y) f g = let z = g y refl in cc
front_by size m (Some x) p f g = f x refl

pub map_front : {A B : Type 0} → (size : A → ℕ) (wide : B → ℕ) (h : A → B) (m : ℕ) (o p : Option A)
    → ((x : A) → wide (h x) ≡ size x) → IsFront size m o p → IsFront wide m (option_map h o) (option_map h p)
map_front size wide h m None p same f = ap (option_map h) f
map_front size wide h m (Some x) p same f = λ le. ap (option_map h) (f (omega (arith, le, same x)))

abbrev pub len_size : ℕ → ℕ
len_size n = n

abbrev pub pair_size : {A : Type 0} → A × ℕ → ℕ
pair_size x = x.1

-- ---- signs

pub prefix_same : (p : ℕ → Bool) (bs : List ℕ) (m : ℕ) → prefix_len p bs ≤ m → prefix_len p (take m bs) ≡ prefix_len p bs
prefix_same p [] zero h = refl
prefix_same p [] (suc m) h = refl
prefix_same p (b ∷ bs) zero h = by (p b) h
  where
    by : (t : Bool) → cond t (1 + prefix_len p bs) 0 ≤ 0 → 0 ≡ cond t (1 + prefix_len p bs) 0
    by true h = absurd (omega arith)
    by false h = refl
prefix_same p (b ∷ bs) (suc m) h = by (p b) h (prefix_same p bs m)
  where
    by : (t : Bool) → cond t (1 + prefix_len p bs) 0 ≤ suc m → (prefix_len p bs ≤ m → prefix_len p (take m bs) ≡ prefix_len p bs)
        → cond t (1 + prefix_len p (take m bs)) 0 ≡ cond t (1 + prefix_len p bs) 0
    by true h rest = ap (λ k. 1 + k) (rest (omega arith))
    by false h rest = refl

prefix_le : (p : ℕ → Bool) (bs : List ℕ) (m : ℕ) → prefix_len p (take m bs) ≤ prefix_len p bs
prefix_le p [] zero = omega arith
prefix_le p [] (suc m) = omega arith
prefix_le p (b ∷ bs) zero = omega arith
prefix_le p (b ∷ bs) (suc m) = by (p b) (prefix_le p bs m)
  where
    by : (t : Bool) → prefix_len p (take m bs) ≤ prefix_len p bs → cond t (1 + prefix_len p (take m bs)) 0 ≤ cond t (1 + prefix_len p bs) 0
    by true h = omega arith
    by false h = omega arith

pub run_front : (kind : LexKind) (byte : ℕ) (bs : List ℕ) (m : ℕ) → IsFront pair_size m (run_at kind byte bs) (run_at kind byte (take m bs))
run_front kind byte bs m = by (nat_lt 1 n) refl
  where
    n : ℕ
    n = prefix_len (λ b. b == byte) bs

    k : ℕ
    k = prefix_len (λ b. b == byte) (take m bs)

    by : (t : Bool) → nat_lt 1 n ≡ t → IsFront {A = LexKind × ℕ} pair_size m (if t then Some (kind, n) else None) (if nat_lt 1 k then Some (kind, k) else None)
    by true e = λ le. ap (λ (i : ℕ). if nat_lt 1 i then Some (kind, i) else None) (prefix_same (λ b. b == byte) bs m le)
        ∙ ap (λ t. if t then Some (kind, n) else None) e
    by false e =
        let le = prefix_le (λ b. b == byte) bs m in
        let no : nat_lt 1 k ≡ false = grind (arith, nat_tests) in
        ap (λ t. if t then Some (kind, k) else None) no

pub sign_front : (kind : LexKind) (sign : List ℕ) (bs : List ℕ) (m : ℕ) → IsFront pair_size m (sign_at kind sign (length sign) bs)
    (sign_at kind sign (length sign) (take m bs))
sign_front kind sign bs m = by (begins sign bs) refl
  where
    by : (t : Bool) → begins sign bs ≡ t → IsFront {A = LexKind × ℕ} pair_size m (if t then Some (kind, length sign) else None)
        (if begins sign (take m bs) then Some (kind, length sign) else None)
    by true e = λ le. ap (λ t. if t then Some (kind, length sign) else None) (begins_front sign bs m le e)
    by false e = ap (λ t. if t then Some (kind, length sign) else None) (begins_none sign bs m e)

-- ---- comments

pub comment_len_front : (bs : List ℕ) (m : ℕ) → IsFront len_size m (comment_len bs) (comment_len (take m bs))
comment_len_front bs m = by (comment_len bs) refl
  where
    by : (o : Option ℕ) → comment_len bs ≡ o → IsFront len_size m o (comment_len (take m bs))
    by None e = no_comment_front bs m e
    by (Some c) e = λ le. comment_front bs m c e le

-- a word that is found takes so much
through_len : (word bs : List ℕ) → through word bs < length bs → length word ≤ through word bs
through_len word [] h = absurd (omega arith)
through_len word (b ∷ bs) h = by (begins word (b ∷ bs)) h (through_len word bs)
  where
    by : (t : Bool) → (if t then length word else 1 + through word bs) < suc (length bs)
        → (through word bs < length bs → length word ≤ through word bs) → length word ≤ (if t then length word else 1 + through word bs)
    by true h rest = omega arith
    by false h rest = let z = rest (omega arith) in omega (arith, z)

through_more : (word bs : List ℕ) (m : ℕ) → through word (take m bs) < length (take m bs) → through word bs ≡ through word (take m bs)
through_more word [] zero h = refl
through_more word [] (suc m) h = refl
through_more word (b ∷ bs) zero h = absurd (omega arith)
through_more word (b ∷ bs) (suc m) h = by (begins word (b ∷ take m bs)) (begins word (b ∷ bs)) refl refl h (through_more word bs m)
  where
    by : (t u : Bool) → begins word (b ∷ take m bs) ≡ t → begins word (b ∷ bs) ≡ u
        → (if t then length word else 1 + through word (take m bs)) < suc (length (take m bs))
        → (through word (take m bs) < length (take m bs) → through word bs ≡ through word (take m bs))
        → (if u then length word else 1 + through word bs) ≡ (if t then length word else 1 + through word (take m bs))
    by true true e f h rest = refl
    by true false e f h rest = let z : true ≡ false = sym (begins_more word (b ∷ bs) (suc m) e) ∙ f in cc
    by false true e f h rest =
        let long = through_len word (take m bs) (omega arith) in
        let z : true ≡ false = sym (begins_front word (b ∷ bs) (suc m) (omega (arith, long, length-take m bs)) f) ∙ e in cc
    by false false e f h rest = ap (λ k. 1 + k) (rest (omega arith))

some_comment : (t : Bool) (k c : ℕ) → (if t then Some (4 + k) else None) ≡ Some c → (t ≡ true) × (4 + k ≡ c)
some_comment true k c e = (refl, cc)
some_comment false k c e = cc

comment_more : (bs : List ℕ) (m c : ℕ) → comment_len (take m bs) ≡ Some c → c < length (take m bs) → comment_len bs ≡ Some c
unfolding comment_len
comment_more bs m c e h =
    let xs = take m bs in
    let is = some_comment (begins (codes "<!--") xs) (through (codes "-->") (drop 4 xs)) c e in
    let size = is.1 in
    let cut : drop 4 xs ≡ take (m - 4) (drop 4 bs) = drop_front 4 m bs (omega (arith, length-take m bs)) in
    let same : through (codes "-->") (drop 4 bs) ≡ through (codes "-->") (drop 4 xs) =
    through_more (codes "-->") (drop 4 bs) (m - 4)
    (omega (arith, ap (through (codes "-->")) cut, ap length cut, length-drop 4 xs)) ∙ ap (through (codes "-->")) (sym cut) in
    ap (λ t. if t then Some (4 + through (codes "-->") (drop 4 bs)) else None) (begins_more (codes "<!--") bs m is.0)
    ∙ ap (λ (k : ℕ). Some (4 + k)) same ∙ ap Some size

-- a text that begins with another byte begins with no comment
pub no_comment : (b : ℕ) (bs : List ℕ) → (b ≡ 60 → ⊥) → comment_len (b ∷ bs) ≡ None
unfolding comment_len
no_comment b bs h = by (begins (codes "<!--") (b ∷ bs)) refl
  where
    by : (t : Bool) → begins (codes "<!--") (b ∷ bs) ≡ t → (if t then Some (4 + through (codes "-->") (drop 4 (b ∷ bs))) else None) ≡ None
    by true e = absurd (h (begins_get (codes "<!--") (b ∷ bs) e 0 (omega arith)))
    by false e = refl

skipped_le : (n : ℕ) (bs : List ℕ) → n ≤ length bs → n ≤ remarks_len n bs
skipped_le zero bs le = omega arith
skipped_le (suc n) [] le = absurd (omega arith)
skipped_le (suc n) (b ∷ bs) le = omega (arith, skipped_le n bs (omega arith))

not_open : (b : ℕ) → is_blank b ≡ true → b ≡ 60 → ⊥
not_open b e f = let z : is_blank 60 ≡ true = ap is_blank (sym f) ∙ e in cc

comment_within : (b : ℕ) (bs : List ℕ) (c : ℕ) → comment_len (b ∷ bs) ≡ Some c → c ≤ suc (length bs)
comment_within b bs c e = let P : Option ℕ → Type 0 = λ o. OptFits (b ∷ bs) o in let f = subst P e (comment_fits (b ∷ bs)) in f.within

get_next : (b : ℕ) (xs : List ℕ) (n : ℕ) → get_or (b ∷ xs) (1 + n) 0 ≡ get_or xs n 0
get_next b xs n = let e : 1 + n ≡ suc n = omega arith in ap (λ (i : ℕ). get_or (b ∷ xs) i 0) e

-- the comments and blanks of a front before a line break are those of the text
remarks_more : (k : ℕ) (bs : List ℕ) (m : ℕ) → get_or (take m bs) (remarks_len k (take m bs)) 0 ≡ 10 → remarks_len k bs ≡ remarks_len k (take m bs)
remarks_more k [] zero h = refl
remarks_more k [] (suc m) h = refl
remarks_more zero (b ∷ bs) zero h = cc
remarks_more (suc k) (b ∷ bs) zero h = cc
remarks_more (suc k) (b ∷ bs) (suc m) h = ap (λ i. 1 + i) (remarks_more k bs m (sym (get_next b (take m bs) (remarks_len k (take m bs))) ∙ h))
remarks_more zero (b ∷ bs) (suc m) h = by (comment_len (b ∷ take m bs)) refl h (λ k g. remarks_more k bs m g)
  where
    Rest : Type 0
    Rest = (k : ℕ) → get_or (take m bs) (remarks_len k (take m bs)) 0 ≡ 10 → remarks_len k bs ≡ remarks_len k (take m bs)

    blank_or : (t : Bool) → is_blank b ≡ t → get_or (b ∷ take m bs) (if t then 1 + remarks_len 0 (take m bs) else 0) 0 ≡ 10 → Rest
        → remarks_with (comment_len (b ∷ bs)) b (λ n. remarks_len n bs) ≡ (if t then 1 + remarks_len 0 (take m bs) else 0)
    blank_or true e h rest =
        ap (λ o. remarks_with o b (λ n. remarks_len n bs)) (no_comment b bs (not_open b e)) ∙ ap (λ t. if t then 1 + remarks_len 0 bs else 0) e
        ∙ ap (λ i. 1 + i) (rest zero (sym (get_next b (take m bs) (remarks_len 0 (take m bs))) ∙ h))
    blank_or false e h rest =
        ap (λ o. remarks_with o b (λ n. remarks_len n bs)) (no_comment b bs (λ f. let z : 10 ≡ 60 = sym h ∙ f in cc))
        ∙ ap (λ t. if t then 1 + remarks_len 0 bs else 0) e

    by : (o : Option ℕ) → comment_len (b ∷ take m bs) ≡ o → get_or (b ∷ take m bs) (remarks_with o b (λ n. remarks_len n (take m bs))) 0 ≡ 10 → Rest
        → remarks_with (comment_len (b ∷ bs)) b (λ n. remarks_len n bs) ≡ remarks_with o b (λ n. remarks_len n (take m bs))
    by None e h rest = blank_or (is_blank b) refl h rest
    by (Some c) e h rest =
        let g : get_or (take m bs) (remarks_len (c - 1) (take m bs)) 0 ≡ 10 = sym (get_next b (take m bs) (remarks_len (c - 1) (take m bs))) ∙ h in
        let there = is_within (take m bs) (remarks_len (c - 1) (take m bs)) 10 g (omega arith) in
        let short = comment_within b (take m bs) c e in
        let past = skipped_le (c - 1) (take m bs) (omega (arith, short)) in
        ap (λ o. remarks_with o b (λ n. remarks_len n bs)) (comment_more (b ∷ bs) (suc m) c e (omega (arith, there, past))) ∙ ap (λ i. 1 + i) (rest (c - 1) g)

some_line : (t : Bool) (n c : ℕ) → (if t then Some (n + 1) else None) ≡ Some c → (t ≡ true) × (n + 1 ≡ c)
some_line true n c e = (refl, cc)
some_line false n c e = cc

line_more : (bs : List ℕ) (m c : ℕ) → comment_line_len (take m bs) ≡ Some c → comment_line_len bs ≡ Some c
unfolding comment_line_len
line_more bs m c e =
    let xs = take m bs in
    let n = remarks_len 0 xs in
    let is = some_line (nat_lt (blank_len xs) n && is_break (get_or xs n 0)) n c e in
    let more = lt_is (blank_len xs) n (and_left (nat_lt (blank_len xs) n) _ is.0) in
    let break = byte_is xs n 10 (and_right (nat_lt (blank_len xs) n) _ is.0) in
    let there = is_within xs n 10 break (omega arith) in
    let same = remarks_more 0 bs m break in
    let blanks : blank_len bs ≡ blank_len xs = prefix_more is_blank bs m (omega arith) in
    let T : ℕ → ℕ → ℕ → Bool = λ k i b. nat_lt k i && is_break b in
    ap (λ i. if T (blank_len bs) i (get_or bs i 0) then Some (i + 1) else None) same
    ∙ ap (λ k. if T k n (get_or bs n 0) then Some (n + 1) else None) blanks
    ∙ ap (λ b. if T (blank_len xs) n b then Some (n + 1) else None) (sym (byte_front bs m n (omega (arith, there, length-take m bs)))) ∙ e

pub line_len_front : (bs : List ℕ) (m : ℕ) → IsFront len_size m (comment_line_len bs) (comment_line_len (take m bs))
line_len_front bs m = front_by len_size m (comment_line_len bs) (comment_line_len (take m bs)) (λ c e le. line_front bs m c e le) (λ c e. line_more bs m c e)

-- ---- entities

names_front : (table : List (List ℕ × ℕ)) (bs : List ℕ) (m : ℕ) → IsFront pair_size m (named_in table bs) (named_in table (take m bs))
names_front [] bs m = refl
names_front ((name, c) ∷ entries) bs m = by (begins name bs) refl (names_front entries bs m)
  where
    by : (t : Bool) → begins name bs ≡ t → IsFront {A = ℕ × ℕ} pair_size m (named_in entries bs) (named_in entries (take m bs))
        → IsFront {A = ℕ × ℕ} pair_size m (if t then Some (c, length name) else named_in entries bs)
        (if begins name (take m bs) then Some (c, length name) else named_in entries (take m bs))
    by true e rest = λ le. ap (λ t. if t then Some (c, length name) else named_in entries (take m bs)) (begins_front name bs m le e)
    by false e rest =
        let P : Option (ℕ × ℕ) → Type 0 = λ o. IsFront pair_size m (named_in entries bs) o in
        subst P (sym (ap (λ t. if t then Some (c, length name) else named_in entries (take m bs)) (begins_none name bs m e))) rest

abbrev number_by : ℕ → ℕ → ℕ → ℕ → ℕ → Option (ℕ × ℕ)
number_by start most n byte c = if nat_lt 0 n && (nat_le n most && (byte == 59 && is_entity_number c)) then Some (c, start + n + 1) else None

number_size : (start most n byte c : ℕ) (x : ℕ × ℕ) → number_by start most n byte c ≡ Some x → (start + n + 1 ≡ x.1) × ((byte == 59) ≡ true)
number_size start most n byte c x e = by (nat_lt 0 n && (nat_le n most && (byte == 59 && is_entity_number c))) refl e
  where
    by : (t : Bool) → (nat_lt 0 n && (nat_le n most && (byte == 59 && is_entity_number c))) ≡ t
        → (if t then Some (c, start + n + 1) else None) ≡ Some x → (start + n + 1 ≡ x.1) × ((byte == 59) ≡ true)
    by true f e = let same : (c, start + n + 1) ≡ x = cc in
        (ap (λ (y : ℕ × ℕ). y.1) same, and_left (byte == 59) _ (and_right (nat_le n most) _ (and_right (nat_lt 0 n) _ f)))
    by false f e = cc

-- the digits, the byte after them and their value are the same
number_same : (start most base : ℕ) (is_digit : ℕ → Bool) (bs : List ℕ) (m : ℕ) → start ≤ m → (let n = prefix_len is_digit (drop start bs) in start + n < m)
    → prefix_len is_digit (drop start (take m bs)) ≡ prefix_len is_digit (drop start bs)
    → numbered start most base is_digit (take m bs) ≡ numbered start most base is_digit bs
number_same start most base is_digit bs m le h run =
    let n = prefix_len is_digit (drop start bs) in
    let digits = take n (drop start bs) in
    let cut : drop start (take m bs) ≡ take (m - start) (drop start bs) = drop_front start m bs le in
    let same : take n (drop start (take m bs)) ≡ digits = ap (take n) cut ∙ take-take n (m - start) (drop start bs) (omega arith) in
    ap (λ (i : ℕ). number_by start most i (get_or (take m bs) (start + i) 0) (digits_value base (take i (drop start (take m bs))))) run
    ∙ ap (λ (b : ℕ). number_by start most n b (digits_value base (take n (drop start (take m bs))))) (byte_front bs m (start + n) (omega arith))
    ∙ ap (λ (ds : List ℕ). number_by start most n (get_or bs (start + n) 0) (digits_value base ds)) same

number_front : (start most base : ℕ) (is_digit : ℕ → Bool) (bs : List ℕ) (m : ℕ)
    → IsFront pair_size m (numbered start most base is_digit bs) (numbered start most base is_digit (take m bs))
number_front start most base is_digit bs m = front_by pair_size m (numbered start most base is_digit bs)
    (numbered start most base is_digit (take m bs)) some more
  where
    some : (x : ℕ × ℕ) → numbered start most base is_digit bs ≡ Some x → x.1 ≤ m → numbered start most base is_digit (take m bs) ≡ Some x
    some x e le =
        let n = prefix_len is_digit (drop start bs) in
        let size = (number_size start most n (get_or bs (start + n) 0) (digits_value base (take n (drop start bs))) x e).0 in
        let cut : drop start (take m bs) ≡ take (m - start) (drop start bs) = drop_front start m bs (omega arith) in
        number_same start most base is_digit bs m (omega arith) (omega arith)
        (ap (prefix_len is_digit) cut ∙ prefix_front is_digit (drop start bs) (m - start) (omega arith)) ∙ e

    more : (x : ℕ × ℕ) → numbered start most base is_digit (take m bs) ≡ Some x → numbered start most base is_digit bs ≡ Some x
    more x e =
        let xs = take m bs in
        let k = prefix_len is_digit (drop start xs) in
        let size = number_size start most k (get_or xs (start + k) 0) (digits_value base (take k (drop start xs))) x e in
        let there = is_within xs (start + k) 59 (byte_is xs (start + k) 59 size.1) (omega arith) in
        let short = length-take m bs in
        let cut : drop start xs ≡ take (m - start) (drop start bs) = drop_front start m bs (omega arith) in
        let run : prefix_len is_digit (drop start bs) ≡ k =
        prefix_more is_digit (drop start bs) (m - start)
        (omega (arith, ap (prefix_len is_digit) cut, ap length cut, length-drop start xs)) ∙ ap (prefix_len is_digit) (sym cut) in
        sym (number_same start most base is_digit bs m (omega arith) (omega arith) (sym run)) ∙ e

started_front : (sign : List ℕ) (bs : List ℕ) (m : ℕ) (o p : Option (ℕ × ℕ)) → ((x : ℕ × ℕ) → o ≡ Some x → length sign ≤ x.1) → IsFront pair_size m o p
    → IsFront {A = ℕ × ℕ} pair_size m (if begins sign bs then o else None) (if begins sign (take m bs) then p else None)
started_front sign bs m o p long f = by (begins sign bs) refl o long f
  where
    by : (t : Bool) → begins sign bs ≡ t → (o : Option (ℕ × ℕ)) → ((x : ℕ × ℕ) → o ≡ Some x → length sign ≤ x.1) → IsFront {A = ℕ × ℕ} pair_size m o p
        → IsFront {A = ℕ × ℕ} pair_size m (if t then o else None) (if begins sign (take m bs) then p else None)
    by false e o long f = ap (λ t. if t then p else None) (begins_none sign bs m e)
    by true e None long f = ap (λ q. if begins sign (take m bs) then q else None) f ∙ never (begins sign (take m bs))
      where
        never : (t : Bool) → ◌≡◌ {A = Option (ℕ × ℕ)} (if t then None else None) None
        never true = refl
        never false = refl
    by true e (Some x) long f = λ le. ap (λ t. if t then p else None) (begins_front sign bs m (omega (arith, long x refl, le)) e) ∙ f le

number_long : (start most base : ℕ) (is_digit : ℕ → Bool) (bs : List ℕ) (x : ℕ × ℕ) → numbered start most base is_digit bs ≡ Some x → start ≤ x.1
number_long start most base is_digit bs x e =
    let n = prefix_len is_digit (drop start bs) in
    let size = (number_size start most n (get_or bs (start + n) 0) (digits_value base (take n (drop start bs))) x e).0 in omega arith

decimal_front : (bs : List ℕ) (m : ℕ) → IsFront pair_size m (decimal_entity bs) (decimal_entity (take m bs))
unfolding decimal_entity
decimal_front bs m = started_front (codes "&#") bs m (numbered 2 7 10 is_ascii_digit bs)
    (numbered 2 7 10 is_ascii_digit (take m bs)) (number_long 2 7 10 is_ascii_digit bs) (number_front 2 7 10 is_ascii_digit bs m)

either_front : (one two : List ℕ) (bs : List ℕ) (m : ℕ) (o p : Option (ℕ × ℕ)) → length one ≡ length two
    → ((x : ℕ × ℕ) → o ≡ Some x → length one ≤ x.1) → IsFront pair_size m o p
    → IsFront {A = ℕ × ℕ} pair_size m (if begins one bs || begins two bs then o else None)
    (if begins one (take m bs) || begins two (take m bs) then p else None)
either_front one two bs m o p same long f = by o long f
  where
    none_both : (t u : Bool) → ◌≡◌ {A = Option (ℕ × ℕ)} (if t || u then None else None) None
    none_both true u = refl
    none_both false true = refl
    none_both false false = refl

    none_by : (t u : Bool) → begins one bs ≡ t → begins two bs ≡ u → (o : Option (ℕ × ℕ))
        → ((x : ℕ × ℕ) → o ≡ Some x → length one ≤ x.1) → IsFront {A = ℕ × ℕ} pair_size m o p
        → IsFront {A = ℕ × ℕ} pair_size m (if t || u then o else None) (if begins one (take m bs) || begins two (take m bs) then p else None)
    none_by false false e g o long f =
        ap (λ t. if t || begins two (take m bs) then p else None) (begins_none one bs m e) ∙ ap (λ t. if t then p else None) (begins_none two bs m g)
    none_by true u e g None long f = ap (λ q. if begins one (take m bs) || begins two (take m bs) then q else None) f
        ∙ none_both (begins one (take m bs)) (begins two (take m bs))
    none_by false true e g None long f = ap (λ q. if begins one (take m bs) || begins two (take m bs) then q else None) f
        ∙ none_both (begins one (take m bs)) (begins two (take m bs))
    none_by true u e g (Some x) long f = λ le. ap (λ t. if t || begins two (take m bs) then p else None)
        (begins_front one bs m (omega (arith, long x refl, le)) e) ∙ f le
    none_by false true e g (Some x) long f = λ le.
        ap (λ t. if t || begins two (take m bs) then p else None) (begins_none one bs m e)
        ∙ ap (λ t. if t then p else None) (begins_front two bs m (omega (arith, long x refl, le, same)) g) ∙ f le

    by : (o : Option (ℕ × ℕ)) → ((x : ℕ × ℕ) → o ≡ Some x → length one ≤ x.1) → IsFront {A = ℕ × ℕ} pair_size m o p
        → IsFront {A = ℕ × ℕ} pair_size m (if begins one bs || begins two bs then o else None)
        (if begins one (take m bs) || begins two (take m bs) then p else None)
    by o long f = none_by (begins one bs) (begins two bs) refl refl o long f

hex_front : (bs : List ℕ) (m : ℕ) → IsFront pair_size m (hex_entity bs) (hex_entity (take m bs))
unfolding hex_entity
hex_front bs m =
    either_front (codes "&#x") (codes "&#X") bs m (numbered 3 6 16 is_ascii_hexdigit bs)
    (numbered 3 6 16 is_ascii_hexdigit (take m bs)) refl (number_long 3 6 16 is_ascii_hexdigit bs)
    (number_front 3 6 16 is_ascii_hexdigit bs m)

named_front : (bs : List ℕ) (m : ℕ) → IsFront pair_size m (named_entity bs) (named_entity (take m bs))
unfolding named_entity
named_front bs m = names_front entity_names bs m

pub entity_at_front : (bs : List ℕ) (m : ℕ) → IsFront pair_size m (entity_at bs) (entity_at (take m bs))
unfolding entity_at
entity_at_front bs m =
    or_front pair_size m (named_entity bs) _ (named_entity (take m bs)) _ (named_front bs m)
    (or_front pair_size m (decimal_entity bs) (hex_entity bs) (decimal_entity (take m bs)) (hex_entity (take m bs)) (decimal_front bs m) (hex_front bs m))
