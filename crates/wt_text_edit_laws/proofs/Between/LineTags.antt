-- Tags that begin lines, or what ends with a comment or tag, end in them, and a tag with its inside does where its closing tag is there.
use Rattle.std.proofs.Common.{arith, ◌≡◌, ℕ, zero, suc, ◌+◌, ◌≤◌, ◌==◌, Bool, true, false, Option, Some, None, List, [], ◌∷◌, ◌++◌, length, get_or, take, drop, nat_lt, refl, sym, ap, ◌∙◌, subst, length-take}
use Rattle.std.specs.Prelude.{◌&&◌, if◌then◌else◌, slice_index, codes}
use Rattle.std.specs.Option.{option_map, option_or}
use Rattle.std.specs.Char.{is_ascii_alphabetic, is_ascii_alphanumeric}
use Rattle.std.specs.List.{prefix_len}
use Rattle.std.proofs.lemmas.List.{drop-append-le}
use Rattle.std.proofs.Math.Seq.{take-append_seam}
use Rattle.wt_span.specs.Bytes.{is_blank, begins, name_len, blank_len, lower}
use Rattle.wt_span.specs.Tags.{Tag, is_tag_byte, is_tag_inside, closes_itself, tag_after, opening_tag, closing_tag, len_if_named, to_closing, with_inside}
use Rattle.wt_lex.proofs.Begins.{and_left, byte_is}
use Rattle.wt_lex.proofs.WholeTags.{opening_front, closing_front, closing_more}
use Rattle.wt_text_edit_laws.specs.TextBetween.{is_end, AreEnded}
use Rattle.wt_text_edit_laws.proofs.Between.LineWords.{word_within, run_before}
use Rattle.wt_text_edit_laws.proofs.Between.LineComments.{ends_behind, ends_dropped, last_end}

-- ---- tags

abbrev pub TagWithin : ℕ → Option Tag → Type 0
TagWithin k None = Unit {0}
TagWithin k (Some t) = t.len ≤ k + 1

if_tag : (k : ℕ) (t : Bool) (o : Option Tag) → (t ≡ true → TagWithin k o) → TagWithin k (if t then o else None)
if_tag k true o f = f refl
if_tag k false o f = tt

if_len : (k : ℕ) (t : Bool) (x : Tag) → x.len ≤ k + 1 → TagWithin k (if t then Some x else None)
if_len k true x le = le
if_len k false x le = tt

name_before : (start k : ℕ) (bs : List ℕ) → is_end (get_or bs k 0) ≡ true → start ≤ k → start + name_len (drop start bs) ≤ k
name_before start k bs g le = by (is_ascii_alphabetic (slice_index (drop start bs) 0)) (run_before start k is_ascii_alphanumeric bs (refl, refl) g le)
  where
    by : (t : Bool) → start + prefix_len is_ascii_alphanumeric (drop start bs) ≤ k → start + (if t then prefix_len is_ascii_alphanumeric (drop start bs) else 0) ≤ k
    by true h = h
    by false h = omega (arith, le)

past_first : (k : ℕ) (bs : List ℕ) → get_or bs 0 0 ≡ 60 → is_end (get_or bs k 0) ≡ true → 1 ≤ k
past_first zero bs f g = let z : is_end 60 ≡ true = ap is_end (sym f) ∙ g in cc
past_first (suc k) bs f g = omega arith

after_within : (k n : ℕ) (bs : List ℕ) → is_end (get_or bs k 0) ≡ true → 1 + n ≤ k → TagWithin k (tag_after (take n (drop 1 bs)) (drop (1 + n) bs))
unfolding tag_after
after_within k n bs g le =
    let rest = drop (1 + n) bs in
    let name = take n (drop 1 bs) in
    let inside = take (prefix_len is_tag_byte rest) rest in
    let before = run_before (1 + n) k is_tag_byte bs (refl, refl) g le in
    if_len k (slice_index rest (length inside) == 62 && is_tag_inside inside)
    (record { name = lower name; len = 2 + length name + length inside; alone = closes_itself inside })
    (omega (arith, before, length-take n (drop 1 bs), length-take (prefix_len is_tag_byte rest) rest))

pub opening_within : (k : ℕ) (bs : List ℕ) → is_end (get_or bs k 0) ≡ true → TagWithin k (opening_tag bs)
unfolding opening_tag
opening_within k bs g =
    let n = name_len (drop 1 bs) in
    if_tag k (slice_index bs 0 == 60 && nat_lt 0 n) (tag_after (take n (drop 1 bs)) (drop (1 + n) bs))
    (λ e.
    let first = past_first k bs (byte_is bs 0 60 (and_left (slice_index bs 0 == 60) (nat_lt 0 n) e)) g in
    after_within k n bs g (name_before 1 k bs g first))

pub closing_within : (k : ℕ) (bs : List ℕ) → is_end (get_or bs k 0) ≡ true → TagWithin k (closing_tag bs)
unfolding closing_tag
closing_within k bs g =
    let n = name_len (drop 2 bs) in
    let j = blank_len (drop (2 + n) bs) in
    let t : Tag = record { name = lower (take n (drop 2 bs)); len = 3 + n + j; alone = false } in
    if_tag k (begins (codes "</") bs && (nat_lt 0 n && slice_index bs (2 + n + j) == 62)) (Some t)
    (λ e.
    let two = word_within (codes "</") bs k (and_left (begins (codes "</") bs) (nat_lt 0 n && slice_index bs (2 + n + j) == 62) e) refl g in
    let named = name_before 2 k bs g (omega (arith, two)) in
    let blanks = run_before (2 + n) k is_blank bs (refl, refl) g named in
    omega (arith, blanks))

-- a tag that begins lines is one of them alone
pub opening_here : (b : ℕ) (q rest : List ℕ) (t : Tag) → AreEnded (b ∷ q) → opening_tag ((b ∷ q) ++ rest) ≡ Some t → opening_tag (b ∷ q) ≡ Some t
opening_here b q rest t l e =
    let bs : List ℕ = (b ∷ q) ++ rest in
    let le = subst (TagWithin (length q)) e (opening_within (length q) bs (last_end is_end b q rest l)) in
    sym (ap opening_tag (take-append_seam (b ∷ q) rest)) ∙ opening_front bs t (suc (length q)) e (omega (arith, le))

pub closing_same : (b : ℕ) (q rest : List ℕ) → AreEnded (b ∷ q) → closing_tag ((b ∷ q) ++ rest) ≡ closing_tag (b ∷ q)
closing_same b q rest l = by (closing_tag bs) (closing_tag (b ∷ q)) refl refl
  where
    bs : List ℕ
    bs = (b ∷ q) ++ rest

    cut : closing_tag (take (suc (length q)) bs) ≡ closing_tag (b ∷ q)
    cut = ap closing_tag (take-append_seam (b ∷ q) rest)

    by : (o p : Option Tag) → closing_tag bs ≡ o → closing_tag (b ∷ q) ≡ p → o ≡ p
    by None None e f = refl
    by None (Some t) e f = let z : None ≡ Some t = sym e ∙ closing_more bs t (suc (length q)) (cut ∙ f) in cc
    by (Some t) p e f =
        let le = subst (TagWithin (length q)) e (closing_within (length q) bs (last_end is_end b q rest l)) in
        sym (sym cut ∙ closing_front bs t (suc (length q)) e (omega (arith, le))) ∙ f

abbrev pub IsFound : Option ℕ → Type 0
IsFound None = ⊥
IsFound (Some n) = Unit {0}

found_map : (f : ℕ → ℕ) (o : Option ℕ) → IsFound (option_map f o) → IsFound o
found_map f None h = h
found_map f (Some n) h = tt

to_closing_same : (name ys rest : List ℕ) → AreEnded ys → IsFound (to_closing name ys) → to_closing name (ys ++ rest) ≡ to_closing name ys
to_closing_same name [] rest l h = absurd h
to_closing_same name (b ∷ ys) rest l h =
    ap (λ (o : Option Tag). option_or (len_if_named name o) (option_map (λ n. 1 + n) (to_closing name (ys ++ rest)))) (closing_same b ys rest l)
    ∙ by (len_if_named name (closing_tag (b ∷ ys))) h (λ f. to_closing_same name ys rest (ends_behind is_end b ys l) f)
  where
    by : (o : Option ℕ) → IsFound (option_or o (option_map (λ n. 1 + n) (to_closing name ys)))
        → (IsFound (to_closing name ys) → to_closing name (ys ++ rest) ≡ to_closing name ys)
        → option_or o (option_map (λ n. 1 + n) (to_closing name (ys ++ rest))) ≡ option_or o (option_map (λ n. 1 + n) (to_closing name ys))
    by None h f = ap (option_map (λ n. 1 + n)) (f (found_map (λ n. 1 + n) (to_closing name ys) h))
    by (Some n) h f = refl

found_inside : (t : Tag) (v : Bool) (o : Option ℕ) → v ≡ false → IsFound (if v then Some t.len else option_map (λ n. t.len + n) o) → IsFound o
found_inside t true o e h = cc
found_inside t false o e h = found_map (λ n. t.len + n) o h

pub inside_same : (t : Tag) (q rest : List ℕ) → AreEnded q → t.len ≤ length q → IsFound (with_inside t q) → with_inside t (q ++ rest) ≡ with_inside t q
unfolding with_inside
inside_same t q rest l le h = by t.alone refl
  where
    by : (v : Bool) → t.alone ≡ v → (if v then Some t.len else option_map (λ n. t.len + n) (to_closing t.name (drop t.len (q ++ rest))))
        ≡ (if v then Some t.len else option_map (λ n. t.len + n) (to_closing t.name (drop t.len q)))
    by true e = refl
    by false e =
        ap (λ (ys : List ℕ). option_map (λ n. t.len + n) (to_closing t.name ys)) (drop-append-le t.len q rest le)
        ∙ ap (option_map (λ n. t.len + n)) (to_closing_same t.name (drop t.len q) rest (ends_dropped is_end t.len q l)
        (found_inside t t.alone (to_closing t.name (drop t.len q)) e h))
