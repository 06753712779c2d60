-- Tags that begin a text and each front of the text that holds them; and any form.
use Rattle.std.proofs.Common.{◌≡◌, ℕ, zero, suc, ◌+◌, ◌-◌, ◌<◌, ◌≤◌, ◌⊎◌, ◌==◌, Bool, true, false, Option, Some, None, List, [], ◌∷◌, length, get_or, take, drop, nat_lt, refl, sym, ap, ◌∙◌, subst, ⊎_elim, inl, inr, arith, length-take, length-drop, codes}
use Rattle.std.specs.Prelude.{if◌then◌else◌, ◌&&◌}
use Rattle.std.specs.Option.{option_or, option_map, unwrap_or}
use Rattle.std.specs.List.{prefix_len}
use Rattle.std.proofs.lemmas.Bool.{cases_lt}
use Rattle.std.proofs.lemmas.List.{take-take, take_all}
use Rattle.std.proofs.lemmas.List.Sums.{prefix_len-le-length}
use Rattle.wt_span.specs.declared.form.Mode.{Mode}
use Rattle.wt_span.specs.declared.form.LexKind.TheVariants.{CommentLine, Comment, Raw, Include, Hidden, Entity, Opens, Closes, LinkOpen, LinkClose, Pipe, Equals}
use Rattle.wt_span.specs.Bytes.{name_len, lower}
use Rattle.wt_span.specs.Comments.{comment_len, comment_line_len}
use Rattle.wt_span.specs.Tags.{Tag, is_tag_byte, is_tag_inside, closes_itself, tag_after, opening_tag, closing_tag, len_if_named, to_closing, with_inside, is_raw_name, raw_by, raw_len, hides, is_left_out, hidden_len, opening_include, closing_include, include_at}
use Rattle.wt_span.specs.Entities.{entity_at}
use Rattle.wt_span.specs.Lexemes.{Word, as_word, run_at, sign_at, sign_word, entity_word, comment_line_word, form_at}
use Rattle.wt_lex.proofs.Begins.{and_left, and_right, lt_is, is_within, byte_is}
use Rattle.wt_lex.proofs.Fronts.{drop_front, byte_front, prefix_more, name_more}
use Rattle.wt_lex.proofs.TagForms.{OptTag, opening_fits}
use Rattle.wt_lex.proofs.WholeTags.{opening_front, closing_front, closing_more, inside_front}
use Rattle.wt_braces.proofs.FrontForms.{IsFront, or_front, map_front, len_size, pair_size, run_front, sign_front, comment_len_front, line_len_front, entity_at_front}

if_some : {A : Type 0} → (t : Bool) (o : Option A) (x : A) → (if t then o else None) ≡ Some x → (t ≡ true) × (o ≡ Some x)
if_some true o x e = (refl, e)
if_some false o x e = cc

then_some : {A : Type 0} → (t : Bool) (o : Option A) (x : A) → t ≡ true → o ≡ Some x → (if t then o else None) ≡ Some x
then_some true o x e f = f
then_some false o x e f = cc

-- ---- an opening tag of a front is one of the text

abbrev tag_by : List ℕ → List ℕ → ℕ → Option Tag
tag_by name inside byte = if byte == 62 && is_tag_inside inside then
    Some (record { name = lower name; len = 2 + length name + length inside; alone = closes_itself inside }) else None

after_is : (name rest : List ℕ) → tag_after name rest ≡ tag_by name (take (prefix_len is_tag_byte rest) rest)
    (get_or rest (length (take (prefix_len is_tag_byte rest) rest)) 0)
unfolding tag_after
after_is name rest = refl

-- the byte behind what stands in the tag
after_byte : (name rest : List ℕ) (t : Tag) → tag_after name rest ≡ Some t → get_or rest (prefix_len is_tag_byte rest) 0 ≡ 62
after_byte name rest t e =
    let inside = take (prefix_len is_tag_byte rest) rest in
    let x : Tag = record { name = lower name; len = 2 + length name + length inside; alone = closes_itself inside } in
    let is = if_some (get_or rest (length inside) 0 == 62 && is_tag_inside inside) (Some x) t (sym (after_is name rest) ∙ e) in
    let full : length inside ≡ prefix_len is_tag_byte rest =
    omega (arith, length-take (prefix_len is_tag_byte rest) rest, prefix_len-le-length is_tag_byte rest) in
    ap (λ (i : ℕ). get_or rest i 0) (sym full) ∙ byte_is rest (length inside) 62 (and_left (get_or rest (length inside) 0 == 62) _ is.0)

after_more : (name rest : List ℕ) (t : Tag) (m : ℕ) → tag_after name (take m rest) ≡ Some t → tag_after name rest ≡ Some t
after_more name rest t m e =
    let xs = take m rest in
    let k = prefix_len is_tag_byte xs in
    let byte = after_byte name xs t e in
    let there = is_within xs k 62 byte (omega arith) in
    let short = length-take m rest in
    let run : prefix_len is_tag_byte rest ≡ k = prefix_more is_tag_byte rest m there in
    let same : take (prefix_len is_tag_byte rest) rest ≡ take k xs = ap (λ (i : ℕ). take i rest) run ∙ sym (take-take k m rest (omega arith)) in
    let full : length (take k xs) ≡ k = omega (arith, length-take k xs) in
    after_is name rest ∙ ap (λ (i : List ℕ). tag_by name i (get_or rest (length i) 0)) same
    ∙ ap (tag_by name (take k xs)) (sym (byte_front rest m (length (take k xs)) (omega arith))) ∙ sym (after_is name xs) ∙ e

abbrev opening_by : ℕ → ℕ → List ℕ → List ℕ → Option Tag
opening_by first n name rest = if first == 60 && nat_lt 0 n then tag_after name rest else None

opening_is : (bs : List ℕ) → opening_tag bs ≡ opening_by (get_or bs 0 0) (name_len (drop 1 bs))
    (take (name_len (drop 1 bs)) (drop 1 bs)) (drop (1 + name_len (drop 1 bs)) bs)
unfolding opening_tag
opening_is bs = refl

opening_more : (bs : List ℕ) (t : Tag) (m : ℕ) → opening_tag (take m bs) ≡ Some t → opening_tag bs ≡ Some t
opening_more bs t m e =
    let xs = take m bs in
    let n = name_len (drop 1 xs) in
    let name = take n (drop 1 xs) in
    let rest = drop (1 + n) xs in
    let is = if_some (get_or xs 0 0 == 60 && nat_lt 0 n) (tag_after name rest) t (sym (opening_is xs) ∙ e) in
    let first = byte_is xs 0 60 (and_left (get_or xs 0 0 == 60) _ is.0) in
    let some = is_within xs 0 60 first (omega arith) in
    let named = lt_is 0 n (and_right (get_or xs 0 0 == 60) _ is.0) in
    let last = is_within rest (prefix_len is_tag_byte rest) 62 (after_byte name rest t is.1) (omega arith) in
    let short = length-take m bs in
    let left = length-drop (1 + n) xs in
    let all = length-drop 1 xs in
    let cut : drop 1 xs ≡ take (m - 1) (drop 1 bs) = drop_front 1 m bs (omega arith) in
    let names : name_len (drop 1 bs) ≡ n = name_more (drop 1 bs) (m - 1) (omega (arith, ap name_len cut))
    (omega (arith, ap name_len cut, ap length cut)) ∙ ap name_len (sym cut) in
    let same : name ≡ take n (drop 1 bs) = ap (take n) cut ∙ take-take n (m - 1) (drop 1 bs) (omega arith) in
    let after : rest ≡ take (m - (1 + n)) (drop (1 + n) bs) = drop_front (1 + n) m bs (omega arith) in
    let tail : tag_after name (drop (1 + n) bs) ≡ Some t = after_more name (drop (1 + n) bs) t (m - (1 + n)) (ap (tag_after name) (sym after) ∙ is.1) in
    opening_is bs
    ∙ ap (λ (i : ℕ). opening_by (get_or bs 0 0) i (take i (drop 1 bs)) (drop (1 + i) bs)) names
    ∙ ap (λ (b : ℕ). opening_by b n (take n (drop 1 bs)) (drop (1 + n) bs)) (sym (byte_front bs m 0 (omega arith)))
    ∙ ap (λ (i : List ℕ). opening_by (get_or xs 0 0) n i (drop (1 + n) bs)) (sym same)
    ∙ then_some (get_or xs 0 0 == 60 && nat_lt 0 n) (tag_after name (drop (1 + n) bs)) t is.0 tail

abbrev tag_size : Tag → ℕ
tag_size t = t.len

-- the front has the tag, or it ends within it
data TagCase (m : ℕ) (o p : Option Tag) : Type 0 where
  same : p ≡ o → TagCase m o p
  past : (t : Tag) → o ≡ Some t → m < t.len → p ≡ None → TagCase m o p

tag_case : (bs : List ℕ) (m : ℕ) → TagCase m (opening_tag bs) (opening_tag (take m bs))
tag_case bs m = by (opening_tag bs) (opening_tag (take m bs)) refl refl
  where
    by : (o p : Option Tag) → opening_tag bs ≡ o → opening_tag (take m bs) ≡ p → TagCase m o p
    by None None e f = same refl
    by None (Some t) e f = let z : None ≡ Some t = sym e ∙ opening_more bs t m f in cc
    by (Some t) (Some u) e f = same (sym (opening_more bs u m f) ∙ e)
    by (Some t) None e f = ⊎_elim (λ h. past t refl h refl) (λ h. let z : None ≡ Some t = sym f ∙ opening_front bs t m e h in cc) (cases_lt m t.len)

shut_case : (bs : List ℕ) (m : ℕ) → TagCase m (closing_tag bs) (closing_tag (take m bs))
shut_case bs m = by (closing_tag bs) (closing_tag (take m bs)) refl refl
  where
    by : (o p : Option Tag) → closing_tag bs ≡ o → closing_tag (take m bs) ≡ p → TagCase m o p
    by None None e f = same refl
    by None (Some t) e f = let z : None ≡ Some t = sym e ∙ closing_more bs t m f in cc
    by (Some t) (Some u) e f = same (sym (closing_more bs u m f) ∙ e)
    by (Some t) None e f = ⊎_elim (λ h. past t refl h refl) (λ h. let z : None ≡ Some t = sym f ∙ closing_front bs t m e h in cc) (cases_lt m t.len)

-- ---- a tag with its inside

named_none : (name bs : List ℕ) (m : ℕ) → len_if_named name (closing_tag bs) ≡ None → len_if_named name (closing_tag (take m bs)) ≡ None
named_none name bs m h = by (closing_tag (take m bs)) refl
  where
    by : (o : Option Tag) → closing_tag (take m bs) ≡ o → len_if_named name o ≡ None
    by None e = refl
    by (Some t) e = ap (len_if_named name) (sym (closing_more bs t m e)) ∙ h

none_of : (o p : Option ℕ) → option_or o (option_map (λ n. 1 + n) p) ≡ None → (o ≡ None) × (p ≡ None)
none_of None None e = (refl, refl)
none_of None (Some n) e = cc
none_of (Some n) p e = cc

closing_none : (name bs : List ℕ) (m : ℕ) → to_closing name bs ≡ None → to_closing name (take m bs) ≡ None
closing_none name [] zero e = refl
closing_none name [] (suc m) e = refl
closing_none name (b ∷ bs) zero e = refl
closing_none name (b ∷ bs) (suc m) e =
    let is = none_of (len_if_named name (closing_tag (b ∷ bs))) (to_closing name bs) e in
    ap (λ o. option_or o (option_map (λ n. 1 + n) (to_closing name (take m bs)))) (named_none name (b ∷ bs) (suc m) is.0)
    ∙ ap (option_map (λ n. 1 + n)) (closing_none name bs m is.1)

inside_is : (t : Tag) (bs : List ℕ) → with_inside t bs ≡ (if t.alone then Some t.len else option_map (λ j. t.len + j) (to_closing t.name (drop t.len bs)))
unfolding with_inside
inside_is t bs = refl

none_inside : (t : Tag) (o : Option ℕ) → (if t.alone then Some t.len else option_map (λ j. t.len + j) o) ≡ None → (t.alone ≡ false) × (o ≡ None)
none_inside t o e = by t.alone o refl e
  where
    by : (v : Bool) (o : Option ℕ) → t.alone ≡ v → (if v then Some t.len else option_map (λ j. t.len + j) o) ≡ None → (t.alone ≡ false) × (o ≡ None)
    by true o a e = cc
    by false None a e = (a, refl)
    by false (Some j) a e = cc

drop_short : (k m : ℕ) (bs : List ℕ) → (drop k (take m bs) ≡ take (m - k) (drop k bs)) ⊎ (drop k (take m bs) ≡ [])
drop_short k m bs = ⊎_elim (λ h. inr (drop_past k (take m bs) (omega (arith, h, length-take m bs)))) (λ h. inl (drop_front k m bs h)) (cases_lt m k)
  where
    drop_past : (k : ℕ) (xs : List ℕ) → length xs ≤ k → drop k xs ≡ []
    drop_past zero [] h = refl
    drop_past zero (x ∷ xs) h = absurd (omega arith)
    drop_past (suc k) [] h = refl
    drop_past (suc k) (x ∷ xs) h = drop_past k xs (omega arith)

inside_none : (t : Tag) (bs : List ℕ) (m : ℕ) → with_inside t bs ≡ None → with_inside t (take m bs) ≡ None
inside_none t bs m e =
    let is = none_inside t (to_closing t.name (drop t.len bs)) (sym (inside_is t bs) ∙ e) in
    let none : to_closing t.name (drop t.len (take m bs)) ≡ None =
    ⊎_elim (λ c. ap (to_closing t.name) c ∙ closing_none t.name (drop t.len bs) (m - t.len) is.1) (λ c. ap (to_closing t.name) c) (drop_short t.len m bs) in
    inside_is t (take m bs) ∙ ap (λ (v : Bool). if v then Some t.len else
    option_map (λ j. t.len + j) (to_closing t.name (drop t.len (take m bs)))) is.0 ∙ ap (option_map (λ j. t.len + j)) none

inside_len_front : (t : Tag) (bs : List ℕ) (m : ℕ) → IsFront len_size m (with_inside t bs) (with_inside t (take m bs))
inside_len_front t bs m = by (with_inside t bs) refl
  where
    by : (o : Option ℕ) → with_inside t bs ≡ o → IsFront len_size m o (with_inside t (take m bs))
    by None e = inside_none t bs m e
    by (Some n) e = λ le. inside_front t bs n m e le

long_inside : (t : Tag) (bs : List ℕ) (n : ℕ) → with_inside t bs ≡ Some n → t.len ≤ n
long_inside t bs n e = by t.alone (to_closing t.name (drop t.len bs)) (sym (inside_is t bs) ∙ e)
  where
    by : (v : Bool) (o : Option ℕ) → (if v then Some t.len else option_map (λ j. t.len + j) o) ≡ Some n → t.len ≤ n
    by true o e = let z : t.len ≡ n = cc in omega (arith, z)
    by false None e = cc
    by false (Some j) e = let z : t.len + j ≡ n = cc in omega (arith, z)

-- ---- raw tags

raw_tag_front : (o : Option Tag) (bs : List ℕ) (m : ℕ) → IsFront len_size m (raw_by is_raw_name o bs) (raw_by is_raw_name o (take m bs))
raw_tag_front None bs m = refl
raw_tag_front (Some t) bs m = by (is_raw_name t.name)
  where
    by : (v : Bool) → IsFront len_size m (if v then with_inside t bs else None) (if v then with_inside t (take m bs) else None)
    by true = inside_len_front t bs m
    by false = refl

raw_past : (t : Tag) (bs : List ℕ) (m : ℕ) → m < t.len → IsFront len_size m (raw_by is_raw_name (Some t) bs) None
raw_past t bs m h = by (is_raw_name t.name) (with_inside t bs) refl
  where
    by : (v : Bool) (o : Option ℕ) → with_inside t bs ≡ o → IsFront len_size m (if v then o else None) None
    by false o e = refl
    by true None e = refl
    by true (Some n) e = λ le. absurd (omega (arith, long_inside t bs n e, le, h))

raw_len_front : (bs : List ℕ) (m : ℕ) → IsFront len_size m (raw_len bs) (raw_len (take m bs))
unfolding raw_len
raw_len_front bs m = by (opening_tag bs) (opening_tag (take m bs)) (tag_case bs m)
  where
    by : (o p : Option Tag) → TagCase m o p → IsFront len_size m (raw_by is_raw_name o bs) (raw_by is_raw_name p (take m bs))
    by o p (same e) = let P : Option Tag → Type 0 = λ q. IsFront len_size m (raw_by is_raw_name o bs)
        (raw_by is_raw_name q (take m bs)) in subst P (sym e) (raw_tag_front o bs m)
    by o p (past t e h f) =
        let P : Option Tag → Type 0 = λ q. IsFront len_size m (raw_by is_raw_name o bs) (raw_by is_raw_name q (take m bs)) in
        let Q : Option Tag → Type 0 = λ q. IsFront len_size m (raw_by is_raw_name q bs) None in
        subst P (sym f) (subst Q (sym e) (raw_past t bs m h))

-- ---- include tags

hidden_front : (mode : Mode) (t : Tag) (bs : List ℕ) (m : ℕ) → hidden_len t bs ≤ m → hidden_len t (take m bs) ≡ hidden_len t bs
hidden_front mode t bs m le = by (with_inside t bs) refl le
  where
    by : (o : Option ℕ) → with_inside t bs ≡ o → unwrap_or o (length bs) ≤ m
        → unwrap_or (with_inside t (take m bs)) (length (take m bs)) ≡ unwrap_or o (length bs)
    by None e le = ap (λ xs. unwrap_or (with_inside t xs) (length xs)) (take_all m bs le) ∙ ap (λ o. unwrap_or o (length bs)) e
    by (Some n) e le = ap (λ o. unwrap_or o (length (take m bs))) (inside_front t bs n m e le)

opening_tag_front : (mode : Mode) (o : Option Tag) (bs : List ℕ) (m : ℕ) → IsFront pair_size m (opening_include mode o bs) (opening_include mode o (take m bs))
opening_tag_front mode None bs m = refl
opening_tag_front mode (Some t) bs m = by (hides mode t.name) (is_left_out mode t.name)
  where
    by : (u v : Bool) → IsFront {A = Word} pair_size m
        (if u then Some (Hidden, hidden_len t bs) else (if v then Some (Include, t.len) else None))
        (if u then Some (Hidden, hidden_len t (take m bs)) else (if v then Some (Include, t.len) else None))
    by true v = λ le. let W : ℕ → Option Word = λ n. Some (Hidden, n) in ap W (hidden_front mode t bs m le)
    by false true = λ le. refl
    by false false = refl

opening_past : (mode : Mode) (t : Tag) (bs : List ℕ) (m : ℕ) → t.len ≤ length bs → m < t.len → IsFront pair_size m (opening_include mode (Some t) bs) None
opening_past mode t bs m fits h = by (hides mode t.name) (is_left_out mode t.name) (with_inside t bs) refl
  where
    by : (u v : Bool) (o : Option ℕ) → with_inside t bs ≡ o
        → IsFront {A = Word} pair_size m (if u then Some (Hidden, unwrap_or o (length bs)) else
        (if v then Some (Include, t.len) else None)) None
    by true v None e = λ le. absurd (omega arith)
    by true v (Some n) e = λ le. absurd (omega (arith, long_inside t bs n e, le, h))
    by false true o e = λ le. absurd (omega arith)
    by false false o e = refl

tag_within : (bs : List ℕ) (t : Tag) → opening_tag bs ≡ Some t → t.len ≤ length bs
tag_within bs t e = let P : Option Tag → Type 0 = λ o. OptTag bs o in let f = subst P e (opening_fits bs) in f.within

opening_include_front : (mode : Mode) (bs : List ℕ) (m : ℕ) → IsFront pair_size m (opening_include mode (opening_tag bs) bs)
    (opening_include mode (opening_tag (take m bs)) (take m bs))
opening_include_front mode bs m = by (opening_tag bs) (opening_tag (take m bs)) refl (tag_case bs m)
  where
    by : (o p : Option Tag) → opening_tag bs ≡ o → TagCase m o p → IsFront pair_size m (opening_include mode o bs) (opening_include mode p (take m bs))
    by o p is (same e) = let P : Option Tag → Type 0 = λ q. IsFront pair_size m (opening_include mode o bs)
        (opening_include mode q (take m bs)) in subst P (sym e) (opening_tag_front mode o bs m)
    by o p is (past t e h f) =
        let P : Option Tag → Type 0 = λ q. IsFront pair_size m (opening_include mode o bs) (opening_include mode q (take m bs)) in
        let Q : Option Tag → Type 0 = λ q. IsFront pair_size m (opening_include mode q bs) None in
        subst P (sym f) (subst Q (sym e) (opening_past mode t bs m (tag_within bs t (is ∙ e)) h))

closing_past : (mode : Mode) (t : Tag) (m : ℕ) → m < t.len → IsFront pair_size m (closing_include mode (Some t)) None
closing_past mode t m h = by (is_left_out mode t.name)
  where
    by : (v : Bool) → IsFront {A = Word} pair_size m (if v then Some (Include, t.len) else None) None
    by true = λ le. absurd (omega arith)
    by false = refl

closing_same : (mode : Mode) (o : Option Tag) (m : ℕ) → IsFront pair_size m (closing_include mode o) (closing_include mode o)
closing_same mode o m = by (closing_include mode o)
  where
    by : (w : Option Word) → IsFront pair_size m w w
    by None = refl
    by (Some w) = λ le. refl

closing_include_front : (mode : Mode) (bs : List ℕ) (m : ℕ) → IsFront pair_size m (closing_include mode (closing_tag bs))
    (closing_include mode (closing_tag (take m bs)))
closing_include_front mode bs m = by (closing_tag bs) (closing_tag (take m bs)) (shut_case bs m)
  where
    by : (o p : Option Tag) → TagCase m o p → IsFront pair_size m (closing_include mode o) (closing_include mode p)
    by o p (same e) = let P : Option Tag → Type 0 = λ q. IsFront pair_size m (closing_include mode o) (closing_include mode q) in
        subst P (sym e) (closing_same mode o m)
    by o p (past t e h f) =
        let P : Option Tag → Type 0 = λ q. IsFront pair_size m (closing_include mode o) (closing_include mode q) in
        let Q : Option Tag → Type 0 = λ q. IsFront pair_size m (closing_include mode q) None in
        subst P (sym f) (subst Q (sym e) (closing_past mode t m h))

include_at_front : (mode : Mode) (bs : List ℕ) (m : ℕ) → IsFront pair_size m (include_at mode bs) (include_at mode (take m bs))
unfolding include_at
include_at_front mode bs m =
    or_front pair_size m (opening_include mode (opening_tag bs) bs) (closing_include mode (closing_tag bs))
    (opening_include mode (opening_tag (take m bs)) (take m bs)) (closing_include mode (closing_tag (take m bs)))
    (opening_include_front mode bs m) (closing_include_front mode bs m)

-- ---- any form

signs_front : (bs : List ℕ) (m : ℕ) → IsFront pair_size m (sign_word bs) (sign_word (take m bs))
unfolding sign_word
signs_front bs m =
    let xs = take m bs in
    or_front pair_size m (run_at Opens 123 bs) _ (run_at Opens 123 xs) _ (run_front Opens 123 bs m)
    (or_front pair_size m (run_at Closes 125 bs) _ (run_at Closes 125 xs) _ (run_front Closes 125 bs m)
    (or_front pair_size m (sign_at LinkOpen (codes "[[") 2 bs) _ (sign_at LinkOpen (codes "[[") 2 xs) _ (sign_front LinkOpen (codes "[[") bs m)
    (or_front pair_size m (sign_at LinkClose (codes "]]") 2 bs) _ (sign_at LinkClose (codes "]]") 2 xs) _ (sign_front LinkClose (codes "]]") bs m)
    (or_front pair_size m (sign_at Pipe (codes "|") 1 bs) (sign_at Equals (codes "=") 1 bs) (sign_at Pipe (codes "|") 1 xs)
    (sign_at Equals (codes "=") 1 xs) (sign_front Pipe (codes "|") bs m) (sign_front Equals (codes "=") bs m)))))

line_word_front : (after : Bool) (bs : List ℕ) (m : ℕ) → IsFront pair_size m (comment_line_word after bs) (comment_line_word after (take m bs))
line_word_front true bs m = map_front len_size pair_size (λ n. (CommentLine, n)) m (comment_line_len bs)
    (comment_line_len (take m bs)) (λ n. refl) (line_len_front bs m)
line_word_front false bs m = refl

-- the form that begins a text begins each front that holds it, and where none does, none begins a front
pub form_front : (mode : Mode) (after : Bool) (bs : List ℕ) (m : ℕ) → IsFront pair_size m (form_at mode after bs) (form_at mode after (take m bs))
unfolding form_at
form_front mode after bs m =
    let xs = take m bs in
    or_front pair_size m (comment_line_word after bs) _ (comment_line_word after xs) _ (line_word_front after bs m)
    (or_front pair_size m (as_word Comment (comment_len bs)) _ (as_word Comment (comment_len xs)) _
    (map_front len_size pair_size (λ n. (Comment, n)) m (comment_len bs) (comment_len xs) (λ n. refl) (comment_len_front bs m))
    (or_front pair_size m (as_word Raw (raw_len bs)) _ (as_word Raw (raw_len xs)) _
    (map_front len_size pair_size (λ n. (Raw, n)) m (raw_len bs) (raw_len xs) (λ n. refl) (raw_len_front bs m))
    (or_front pair_size m (include_at mode bs) _ (include_at mode xs) _ (include_at_front mode bs m)
    (or_front pair_size m (entity_word (entity_at bs)) (sign_word bs) (entity_word (entity_at xs)) (sign_word xs)
    (map_front pair_size pair_size (λ e. (Entity e.0, e.1)) m (entity_at bs) (entity_at xs) (λ e. refl) (entity_at_front bs m)) (signs_front bs m)))))
