-- The place at which bytes stop being UTF-8 is exact.
use Rattle.std.proofs.Common.{◌≡◌, ℕ, zero, suc, ◌+◌, ◌-◌, ◌<◌, ◌≤◌, Bool, true, false, Option, Some, None, List, [], ◌∷◌, ◌++◌, length, take, drop, refl, sym, ap, ◌∙◌, subst, arith, append_assoc, inl, inr, ⊎_elim, length-append, length-drop}
use Rattle.std.specs.Prelude.{if◌then◌else◌}
use Rattle.std.specs.Prelude.{◌⊎◌, ◌&&◌, nat_lt}
use Rattle.std.specs.Str.{IsUtf8, IsValidUpTo}
use Rattle.std.proofs.Math.Seq.{take-add, take-append_seam}
use Rattle.std.proofs.lemmas.List.{take_all, drop_at}
use Rattle.std.proofs.lemmas.Bool.{ltb-true, ltb-false}
use Rattle.std.proofs.lemmas.Str.{IsUtf8-append, IsUtf8-drop, IsUtf8-encode, IsUtf8-nil, IsCharBoundary-from_take, encode_ascii}
use lib.Utf8.{scalar, scalars, encode, encodes, low_scalar}
use Rattle.wt_html_grammar.specs.Signs.{Follow, follow, between, Follows}
use Rattle.wt_html_grammar.proofs.Chars.{IsChar, of_bytes, of_char}
use Rattle.wt_utf8.specs.Begun.{following_len, begun_by, begun_len}
use Rattle.wt_utf8.specs.Places.{BeginsText, IsPlace, not_utf8_place}
use Rattle.std.specs.Str.{is_utf8}
use Rattle.std.specs.Str.Lossy.{utf8_valid_len, valid_len_up_to}
use Rattle.std.specs.Prelude.{MatchOption}
use Rattle.std.proofs.lemmas.Str.{is_utf8-from_IsUtf8, IsUtf8-from_is_utf8}
use Rattle.wt_utf8.proofs.Characters.{completed, whole, blocked, ordered, IsOrdered}

-- what is left of a text behind a text is a text
text_behind : (u w : List ℕ) → IsUtf8 u → IsUtf8 (u ++ w) → IsUtf8 w
text_behind u w hu h =
    let P : List ℕ → Type 0 = IsUtf8 in
    let le : length u ≤ length (u ++ w) = omega (arith, length-append u w) in
    let border = IsCharBoundary-from_take (u ++ w) (length u) h le (subst P (sym (take-append_seam u w)) hu) in
    subst P (drop_at u w (length u) refl) (IsUtf8-drop (u ++ w) (length u) h border)

-- ---- the first character of a text

and_left : (x y : Bool) → (x && y) ≡ true → x ≡ true
and_left true y e = refl
and_left false y e = cc

-- a text behind its first byte: that byte is a character, or others that may follow it come first
Behind : ℕ → List ℕ → Type 0
Behind b xs = (b < 128) ⊎ ((es : List ℕ) × (w : List ℕ) × Follows (follow b) es × (es ++ w ≡ xs))

behind_table : (a b : ℕ) (es w xs : List ℕ) → a ∷ (es ++ w) ≡ b ∷ xs → Follows (follow a) es → Behind b xs
unfolding Behind
behind_table a b es w xs e f =
    let same : a ≡ b = cc in
    let P : ℕ → Type 0 = λ n. Follows (follow n) es in
    let others : es ++ w ≡ xs = cc in
    inr (es, w, subst P same f, others)

behind_ascii : (c b : ℕ) (w xs : List ℕ) → c < 128 → encode c ++ w ≡ b ∷ xs → Behind b xs
unfolding Behind
behind_ascii c b w xs lt e =
    let f : c ∷ w ≡ b ∷ xs = sym (ap (λ q. q ++ w) (encode_ascii c lt)) ∙ e in
    let same : c ≡ b = cc in
    inl (omega arith)

behind_char : (c b : ℕ) (w xs : List ℕ) (t : Bool) → scalar c ≡ true → nat_lt c 128 ≡ t → encode c ++ w ≡ b ∷ xs → Behind b xs
behind_char c b w xs true s lt e = behind_ascii c b w xs (ltb-true c 128 lt) e
behind_char c b w xs false s lt e =
    let r = of_char c s (ltb-false c 128 lt) in
    behind_table r.0 b r.1 w xs (sym (ap (λ q. q ++ w) r.2) ∙ e) r.3

behind_first : (b : ℕ) (xs cs : List ℕ) → scalars cs ≡ true → encodes cs ≡ b ∷ xs → Behind b xs
behind_first b xs [] s e = absurd cc
behind_first b xs (c ∷ cs) s e = behind_char c b (encodes cs) xs (nat_lt c 128) (and_left (scalar c) (scalars cs) s) refl e

behind : (b : ℕ) (xs : List ℕ) → IsUtf8 (b ∷ xs) → Behind b xs
behind b xs u = behind_first b xs u.0 u.1.0 u.1.1

char_text : (bs : List ℕ) → IsChar bs → IsUtf8 bs
char_text bs h = let P : List ℕ → Type 0 = IsUtf8 in subst P h.2 (IsUtf8-encode h.0 h.1)

-- ---- behind the longest front that is a text

-- no character stands whole there
longer : (bytes : List ℕ) (v n : ℕ) → IsValidUpTo bytes v → 0 < n → IsUtf8 (take n (drop v bytes)) → ⊥
longer bytes v n valid lt u =
    let P : List ℕ → Type 0 = IsUtf8 in
    valid.longest (v + n) (omega arith) (subst P (sym (take-add v n bytes)) (IsUtf8-append _ _ valid.front u))

ill_by : (bytes : List ℕ) (v : ℕ) → IsValidUpTo bytes v → IsUtf8 bytes → ⊥
ill_by bytes v valid u =
    let P : List ℕ → Type 0 = IsUtf8 in
    valid.longest (length bytes) valid.short (subst P (sym (take_all (length bytes) bytes (omega arith))) u)

front_by : (bytes : List ℕ) (v n : ℕ) (more : List ℕ) → IsValidUpTo bytes v → IsUtf8 (take n (drop v bytes) ++ more) → BeginsText (take (v + n) bytes)
front_by bytes v n more valid u =
    let P : List ℕ → Type 0 = IsUtf8 in
    let same : take v bytes ++ (take n (drop v bytes) ++ more) ≡ take (v + n) bytes ++ more =
    sym (append_assoc (take v bytes) (take n (drop v bytes)) more) ∙ ap (λ q. q ++ more) (sym (take-add v n bytes)) in
    (more, subst P same (IsUtf8-append _ _ valid.front u))

-- what begins no text there
abbrev pub Stops : List ℕ → ℕ → Type 0
Stops rest n = (j : ℕ) (more : List ℕ) → n < j → j ≤ length rest → IsUtf8 (take j rest ++ more) → ⊥

longest_by : (bytes : List ℕ) (v n : ℕ) → IsValidUpTo bytes v → Stops (drop v bytes) n → (k : ℕ) → v + n < k → k ≤ length bytes → BeginsText (take k bytes) → ⊥
longest_by bytes v n valid stops k lt le h =
    let P : List ℕ → Type 0 = IsUtf8 in
    let j : v + (k - v) ≡ k = omega arith in
    let cut : take k bytes ≡ take v bytes ++ take (k - v) (drop v bytes) = ap (λ m. take m bytes) (sym j) ∙ take-add v (k - v) bytes in
    let same : take k bytes ++ h.0 ≡ take v bytes ++ (take (k - v) (drop v bytes) ++ h.0) = ap (λ q. q ++ h.0) cut
    ∙ append_assoc (take v bytes) (take (k - v) (drop v bytes)) h.0 in
    stops (k - v) h.0 (omega arith) (omega (arith, length-drop v bytes))
    (text_behind (take v bytes) (take (k - v) (drop v bytes) ++ h.0) valid.front (subst P same h.1))

-- ---- how much of a character stands there

step_within : (n m : ℕ) (t : Bool) → n ≤ m → (if t then suc n else zero) ≤ suc m
step_within n m true h = omega arith
step_within n m false h = omega arith

within_by : (low high n : ℕ) (bs : List ℕ) → following_len low high n bs ≤ length bs
within_by low high n [] = omega arith
within_by low high zero (b ∷ bs) = step_within 0 (length bs) (between low high b) (omega arith)
within_by low high (suc n) (b ∷ bs) = step_within (following_len 128 191 n bs) (length bs) (between low high b) (within_by 128 191 n bs)

none_follows : (b : ℕ) (es : List ℕ) → follow b ≡ None → Follows (follow b) es → ⊥
none_follows b es e f = let P : Option Follow → Type 0 = λ o. Follows o es in subst P e f

stops_none : (b : ℕ) (bs : List ℕ) → follow b ≡ None → (b < 128 → ⊥) → Stops (b ∷ bs) 0
unfolding Behind
stops_none b bs e big zero more lt le u = absurd (omega arith)
stops_none b bs e big (suc i) more lt le u = ⊎_elim big (λ r. none_follows b r.0 e r.2) (behind b (take i bs ++ more) u)

stops_some : (b : ℕ) (bs : List ℕ) (f : Follow) → follow b ≡ Some f → (b < 128 → ⊥)
    → (following_len f.low f.high f.more bs ≡ suc f.more → ⊥) → Stops (b ∷ bs) (suc (following_len f.low f.high f.more bs))
unfolding Behind
stops_some b bs f e big half zero more lt le u = absurd (omega arith)
stops_some b bs f e big half (suc i) more lt le u =
    ⊎_elim big
    (λ r. let P : Option Follow → Type 0 = λ o. Follows o r.0 in blocked f.low f.high f.more bs r.0 r.1 more i (subst P e r.2) r.3
    (omega arith) (omega arith) half)
    (behind b (take i bs ++ more) u)

-- so much of a character stands at the front of these bytes
pub record IsBegun (rest : List ℕ) (n : ℕ) : Type 0 where
  pub within : n ≤ length rest
  pub more : List ℕ
  pub whole_text : IsUtf8 (take n rest ++ more)
  pub stops : Stops rest n

ascii_text : (b : ℕ) → b < 128 → IsUtf8 (b ∷ [])
ascii_text b lt = let P : List ℕ → Type 0 = IsUtf8 in subst P (encode_ascii b lt) (IsUtf8-encode b (low_scalar b (omega arith)))

whole_text_of : (b : ℕ) (bs : List ℕ) (f : Follow) → follow b ≡ Some f → following_len f.low f.high f.more bs ≡ suc f.more
    → IsUtf8 (take (suc (suc f.more)) (b ∷ bs))
whole_text_of b bs f e h =
    let P : Option Follow → Type 0 = λ o. Follows o (take (suc f.more) bs) in
    char_text (b ∷ take (suc f.more) bs) (of_bytes b (take (suc f.more) bs) (subst P (sym e) (whole f.low f.high f.more bs h)))

begun : (b : ℕ) (bs : List ℕ) (o : Option Follow) → follow b ≡ o → ((n : ℕ) → 0 < n → IsUtf8 (take n (b ∷ bs)) → ⊥) → IsBegun (b ∷ bs) (begun_by o bs)
begun b bs None e none_whole = record {
  within = omega arith;
  more = [];
  whole_text = IsUtf8-nil;
  stops = stops_none b bs e (λ lt. none_whole 1 (omega arith) (ascii_text b lt));
}
begun b bs (Some f) e none_whole =
    let P : Option Follow → Type 0 = IsOrdered in
    let r = completed f.low f.high f.more bs (subst P e (ordered b)) in
    let rest : List ℕ = take (following_len f.low f.high f.more bs) bs ++ r.0 in
    let Q : Option Follow → Type 0 = λ o. Follows o rest in
    record {
      within = omega (arith, within_by f.low f.high f.more bs);
      more = r.0;
      whole_text = char_text (b ∷ rest) (of_bytes b rest (subst Q (sym e) r.1));
      stops = stops_some b bs f e (λ lt. none_whole 1 (omega arith) (ascii_text b lt))
          (λ h. none_whole (suc (suc f.more)) (omega arith) (whole_text_of b bs f e h));
    }

-- ---- the place

placed : (bytes : List ℕ) (v n : ℕ) → IsValidUpTo bytes v → IsBegun (drop v bytes) n → IsPlace bytes (v + n)
placed bytes v n valid front = record {
  ill = ill_by bytes v valid;
  within = (let s : v < length bytes = valid.short in omega (arith, front.within, length-drop v bytes));
  front = front_by bytes v n front.more valid front.whole_text;
  longest = longest_by bytes v n valid front.stops;
}

begun_of : (bytes : List ℕ) (v : ℕ) (rest : List ℕ) → IsValidUpTo bytes v → drop v bytes ≡ rest → IsBegun rest (begun_len rest)
begun_of bytes v [] valid e = absurd (let s : v < length bytes = valid.short in omega (arith, length-drop v bytes, ap length e))
begun_of bytes v (b ∷ bs) valid e =
    begun b bs (follow b) refl (λ n lt u. let P : List ℕ → Type 0 = λ q. IsUtf8 (take n q) in longer bytes v n valid lt (subst P (sym e) u))

pub place_of : (bytes rest : List ℕ) (u v n : ℕ) → IsValidUpTo bytes u → v ≡ u → rest ≡ drop v bytes → n ≡ begun_len rest → IsPlace bytes (v + n)
place_of bytes rest u v n valid same e h =
    let P : ℕ → Type 0 = IsValidUpTo bytes in
    let Q : ℕ → Type 0 = λ m. IsBegun (drop v bytes) m in
    let front : IsValidUpTo bytes v = subst P (sym same) valid in
    placed bytes v n front (subst Q (sym (h ∙ ap begun_len e)) (begun_of bytes v (drop v bytes) front refl))

-- ---- one place

none_longer : (bytes : List ℕ) (m n : ℕ) → IsPlace bytes m → IsPlace bytes n → m < n → ⊥
none_longer bytes m n p q lt = p.longest n lt q.within q.front

pub same_place : (bytes : List ℕ) (m n : ℕ) → IsPlace bytes m → IsPlace bytes n → m ≡ n
same_place bytes m n p q =
    let less : m < n → ⊥ = none_longer bytes m n p q in
    let greater : n < m → ⊥ = none_longer bytes n m q p in
    omega arith

-- ---- the place by computing

abbrev Cut : List ℕ → ℕ → Bool
Cut bs n = is_utf8 (take n bs)

front_by_test : (bs : List ℕ) (n : ℕ) (t : Bool) → Cut bs (suc n) ≡ t → Cut bs (valid_len_up_to bs n) ≡ true
    → Cut bs (if t then suc n else valid_len_up_to bs n) ≡ true
front_by_test bs n true e h = e
front_by_test bs n false e h = h

valid_front : (bs : List ℕ) (n : ℕ) → Cut bs (valid_len_up_to bs n) ≡ true
valid_front bs zero = is_utf8-from_IsUtf8 [] IsUtf8-nil
valid_front bs (suc n) = front_by_test bs n (is_utf8 (take (suc n) bs)) refl (valid_front bs n)

last_or_less : (m n : ℕ) (t : Bool) → nat_lt m (suc n) ≡ t → m ≤ suc n → (m ≤ n) ⊎ (m ≡ suc n)
last_or_less m n true e le = inl (let lt = ltb-true m (suc n) e in omega arith)
last_or_less m n false e le = inr (let ge = ltb-false m (suc n) e in omega arith)

most_by_test : (bs : List ℕ) (n m : ℕ) (t : Bool) → Cut bs (suc n) ≡ t → ((k : ℕ) → valid_len_up_to bs n < k → k ≤ n → Cut bs k ≡ false)
    → (if t then suc n else valid_len_up_to bs n) < m → m ≤ suc n → Cut bs m ≡ false
most_by_test bs n m true e rest lt le = absurd (omega arith)
most_by_test bs n m false e rest lt le = ⊎_elim (λ less. rest m lt less) (λ same. ap (Cut bs) same ∙ e) (last_or_less m n (nat_lt m (suc n)) refl le)

valid_most : (bs : List ℕ) (n m : ℕ) → valid_len_up_to bs n < m → m ≤ n → Cut bs m ≡ false
valid_most bs zero m lt le = absurd (omega arith)
valid_most bs (suc n) m lt le = most_by_test bs n m (is_utf8 (take (suc n) bs)) refl (valid_most bs n) lt le

whole_cut : (bs : List ℕ) (m : ℕ) → length bs ≤ m → is_utf8 bs ≡ false → Cut bs m ≡ false
whole_cut bs m le e = ap is_utf8 (take_all m bs le) ∙ e

shorter : (bs : List ℕ) (v : ℕ) (t : Bool) → nat_lt v (length bs) ≡ t → is_utf8 bs ≡ false → Cut bs v ≡ true → v < length bs
shorter bs v true e ill front = ltb-true v (length bs) e
shorter bs v false e ill front = absurd (let z : true ≡ false = sym front ∙ whole_cut bs v (ltb-false v (length bs) e) ill in cc)

no_longer : (bs : List ℕ) (m : ℕ) (t : Bool) → nat_lt m (length bs) ≡ t → is_utf8 bs ≡ false → valid_len_up_to bs (length bs) < m → Cut bs m ≡ false
no_longer bs m true e ill lt = let less = ltb-true m (length bs) e in valid_most bs (length bs) m lt (omega arith)
no_longer bs m false e ill lt = whole_cut bs m (ltb-false m (length bs) e) ill

valid_up_to_there : (bs : List ℕ) → is_utf8 bs ≡ false → IsValidUpTo bs (utf8_valid_len bs)
unfolding utf8_valid_len
valid_up_to_there bs ill =
    let v = valid_len_up_to bs (length bs) in
    let front : Cut bs v ≡ true = valid_front bs (length bs) in
    record {
      short = shorter bs v (nat_lt v (length bs)) refl ill front;
      front = IsUtf8-from_is_utf8 (take v bs) front;
      longest = λ m lt u. (let z : true ≡ false = sym (is_utf8-from_IsUtf8 (take m bs) u) ∙ no_longer bs m (nat_lt m (length bs)) refl ill lt in cc);
    }

exact_by : (bs : List ℕ) (t : Bool) → is_utf8 bs ≡ t
    → MatchOption (if t then None else Some (utf8_valid_len bs + begun_len (drop (utf8_valid_len bs) bs))) (IsUtf8 bs) (λ n. IsPlace bs n)
exact_by bs true e = IsUtf8-from_is_utf8 bs e
exact_by bs false e = place_of bs (drop (utf8_valid_len bs) bs) (utf8_valid_len bs) (utf8_valid_len bs)
    (begun_len (drop (utf8_valid_len bs) bs)) (valid_up_to_there bs e) refl refl refl

pub exact : (bs : List ℕ) → MatchOption (not_utf8_place bs) (IsUtf8 bs) (λ n. IsPlace bs n)
unfolding not_utf8_place
exact bs = exact_by bs (is_utf8 bs) refl

pub no_place : (bs : List ℕ) → IsUtf8 bs → not_utf8_place bs ≡ None
unfolding not_utf8_place
no_place bs u = ap (λ t. if t then None else Some (utf8_valid_len bs + begun_len (drop (utf8_valid_len bs) bs))) (is_utf8-from_IsUtf8 bs u)

ill_test : (bs : List ℕ) (t : Bool) → is_utf8 bs ≡ t → (IsUtf8 bs → ⊥) → is_utf8 bs ≡ false
ill_test bs true e ill = absurd (ill (IsUtf8-from_is_utf8 bs e))
ill_test bs false e ill = e

pub some_place : (bs rest : List ℕ) (u v n : ℕ) → (IsUtf8 bs → ⊥) → v ≡ u → u ≡ utf8_valid_len bs → rest ≡ drop v bs
    → n ≡ begun_len rest → not_utf8_place bs ≡ Some (v + n)
unfolding not_utf8_place
some_place bs rest u v n ill same valid e h =
    let there : v ≡ utf8_valid_len bs = same ∙ valid in
    let begun : n ≡ begun_len (drop (utf8_valid_len bs) bs) = h ∙ ap begun_len (e ∙ ap (λ m. drop m bs) there) in
    ap (λ t. if t then None else Some (utf8_valid_len bs + begun_len (drop (utf8_valid_len bs) bs))) (ill_test bs (is_utf8 bs) refl ill)
    ∙ ap (λ (m : ℕ). Some (m + begun_len (drop (utf8_valid_len bs) bs))) (sym there)
    ∙ ap (λ (m : ℕ). Some (v + m)) (sym begun)

pub at_place : (bs : List ℕ) (n : ℕ) → not_utf8_place bs ≡ Some n → IsPlace bs n
at_place bs n e = let P : Option ℕ → Type 0 = λ o. MatchOption o (IsUtf8 bs) (λ m. IsPlace bs m) in subst P e (exact bs)
