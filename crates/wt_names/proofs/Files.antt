-- The names of files.
use Rattle.std.proofs.Common.{◌≡◌, ◌≢◌, ℕ, ◌+◌, ◌*◌, ◌<◌, ◌≤◌, Bool, true, false, cond, not, ◌||◌, nat_eq, Some, List, [], ◌∷◌, ◌++◌, length, get_or, All, refl, sym, ap, ◌∙◌, subst, inl, inr, ◌⊎◌, ⊎_elim, arith, append_assoc, length-append, lit<, codes}
use Rattle.std.specs.Str.{IsUtf8, bytes_eq}
use Rattle.std.proofs.lemmas.Bool.{cond_both, cases_Bool}
use Rattle.std.proofs.lemmas.Bool.Decides.{nat_tests}
use Rattle.std.proofs.lemmas.List.{append_cancel_right, length-map}
use Rattle.std.proofs.lemmas.List.Elements.{All-nil, All-cons, All-append, All-weaker}
use Rattle.std.proofs.lemmas.Slice.Eq.{bytes_eq-Decides}
use Rattle.percent_encoding.specs.Percent.{percent_decode, percent_encode_byte}
use Rattle.percent_encoding.proofs.PercentLemmas.{IsByte, IsEscapeByte, All-percent_encode}
use Rattle.wt_names.specs.declared.link.TheConstants.{FILE}
use Rattle.wt_names.specs.declared.title.Title.{Title}
use Rattle.wt_names.specs.Namespace.{full_name_of}
use Rattle.wt_names.specs.Reading.{replaced_byte, spaced}
use Rattle.wt_names.specs.Good.{is_step, is_forbidden, read_text}
use Rattle.wt_names.specs.Tidy.{IsTidy, is_no_fragment_byte}
use Rattle.wt_names.specs.Written.{underscored, stays_in_file, escaped, file_of}
use Rattle.wt_names.proofs.Lacks.{Lacks, replaced_back}
use Rattle.wt_names.proofs.Prefixes.{is_sign}
use Rattle.wt_names.proofs.Readings.{whole, first_lacks, second_lacks, read_tidy}
use Rattle.wt_names.proofs.Escapes.{file_escaped, file_byte}
use Rattle.wt_names.proofs.Links.{decode_front, name_is_text}
use Rattle.wt_names.proofs.Utf8.{utf8_bytes, utf8_replaced}

-- ---- different names

pub file_same : (first second : List ℕ) → All IsByte (underscored first) → All IsByte (underscored second)
    → file_of first ≡ file_of second → underscored first ≡ underscored second
unfolding file_of
file_same first second small other e =
    let wiki = codes ".wiki" in
    let one = ap (λ x. percent_decode (x ++ wiki)) (sym (file_escaped (underscored first))) ∙ decode_front FILE (underscored first) wiki refl small in
    let two = ap (λ x. percent_decode (x ++ wiki)) (sym (file_escaped (underscored second))) ∙ decode_front FILE (underscored second) wiki refl other in
    append_cancel_right (underscored first) (underscored second) (percent_decode wiki) (sym one ∙ ap percent_decode e ∙ two)

no_underscore : (t : Title) → IsTidy t → Lacks (is_sign 95) (full_name_of t)
no_underscore t tidy = second_lacks is_forbidden (is_sign 95) (full_name_of t)
    (first_lacks is_no_fragment_byte (is_sign 35) (full_name_of t) (whole t tidy).bytes)

pub full_same : (t u : Title) → IsTidy t → IsTidy u → underscored (full_name_of t) ≡ underscored (full_name_of u) → full_name_of t ≡ full_name_of u
full_same t u tidy other e = sym (replaced_back 32 95 (full_name_of t) (no_underscore t tidy)) ∙ ap spaced e
    ∙ replaced_back 32 95 (full_name_of u) (no_underscore u other)

underscored_bytes : (text : List ℕ) → IsUtf8 text → All IsByte (underscored text)
underscored_bytes text is = utf8_bytes (underscored text) (utf8_replaced 32 95 text (lit< tt) (lit< tt) is)

pub files_same : (first second : List ℕ) → IsUtf8 first → IsUtf8 second → file_of first ≡ file_of second → underscored first ≡ underscored second
files_same first second is other e = file_same first second (underscored_bytes first is) (underscored_bytes second other) e

pub titles_same : (first second : List ℕ) (t u : Title) → IsUtf8 first → IsUtf8 second → read_text first ≡ Some t → read_text second ≡ Some u
    → file_of (full_name_of t) ≡ file_of (full_name_of u) → full_name_of t ≡ full_name_of u
titles_same first second t u is other read reads e =
    full_same t u (read_tidy first t read) (read_tidy second u reads)
    (files_same (full_name_of t) (full_name_of u) (name_is_text first t is read) (name_is_text second u other reads) e)

-- ---- what stands in them

abbrev pub IsFileByte : ℕ → Type 0
IsFileByte b = (stays_in_file b ≡ true) ⊎ (b ≡ 37)

turned : (t : Bool) → not t ≡ false → t ≡ true
turned true e = refl
turned false e = absurd (let z : true ≡ false = e in cc)

digit_stays : (b : ℕ) → 48 ≤ b → b ≤ 57 → stays_in_file b ≡ true
unfolding stays_in_file
digit_stays b low high = grind (arith, nat_tests)

letter_stays : (b : ℕ) → 65 ≤ b → b ≤ 70 → stays_in_file b ≡ true
unfolding stays_in_file
letter_stays b low high = grind (arith, nat_tests)

escape_stays : (b : ℕ) → IsEscapeByte b → IsFileByte b
escape_stays b (inl percent) = inr percent
escape_stays b (inr (inl digit)) = inl (digit_stays b digit.0 digit.1)
escape_stays b (inr (inr letter)) = inl (letter_stays b letter.0 letter.1)

wiki_bytes : All IsFileByte (codes ".wiki")
unfolding stays_in_file
wiki_bytes =
    let five = All-cons IsFileByte 105 [] (inl refl) (All-nil IsFileByte) in
    let four = All-cons IsFileByte 107 (105 ∷ []) (inl refl) five in
    let three = All-cons IsFileByte 105 (107 ∷ 105 ∷ []) (inl refl) four in
    All-cons IsFileByte 46 (119 ∷ 105 ∷ 107 ∷ 105 ∷ []) (inl refl) (All-cons IsFileByte 119 (105 ∷ 107 ∷ 105 ∷ []) (inl refl) three)

pub file_bytes : (full : List ℕ) → All IsFileByte (file_of full)
unfolding file_of
file_bytes full =
    All-append IsFileByte (escaped stays_in_file (underscored full)) (codes ".wiki")
    (subst (All IsFileByte) (file_escaped (underscored full))
    (All-percent_encode IsFileByte FILE (underscored full)
    (λ b kept. inl (turned (stays_in_file b) (sym (file_byte b) ∙ kept))) escape_stays))
    wiki_bytes

byte_no_slash : (b : ℕ) → IsFileByte b → b ≢ 47
unfolding stays_in_file
byte_no_slash b (inl stays) = λ e. let z : false ≡ true = subst (λ (c : ℕ). stays_in_file c ≡ true) e stays in cc
byte_no_slash b (inr percent) = λ e. absurd (omega (arith, e))

pub file_no_slash : (full : List ℕ) → All (λ b. b ≢ 47) (file_of full)
file_no_slash full = All-weaker IsFileByte (λ b. b ≢ 47) byte_no_slash (file_of full) (file_bytes full)

long_differs : (bs word : List ℕ) → length word < length bs → bytes_eq bs word ≡ false
long_differs bs word long = ⊎_elim (λ e. let same = ap length ((bytes_eq-Decides bs word).0 e) in absurd (omega (arith, same)))
    (λ e. e) (cases_Bool (bytes_eq bs word))

pub file_no_step : (full : List ℕ) → is_step (file_of full) ≡ false
unfolding file_of is_step
file_no_step full =
    let name = escaped stays_in_file (underscored full) ++ codes ".wiki" in
    let one : length (codes ".") < length name = simp length-append (omega arith) in
    let two : length (codes "..") < length name = simp length-append (omega arith) in
    ap (λ t. t || bytes_eq name (codes "..")) (long_differs name (codes ".") one) ∙ long_differs name (codes "..") two

kept_dot : (b : ℕ) → replaced_byte 32 95 b ≡ 46 → b ≡ 46
kept_dot b = cond_both (nat_eq b 32) 95 b (λ c. c ≡ 46 → b ≡ 46) (λ _ e. absurd (omega (arith, e))) (λ _ e. e)

first_byte : (c : ℕ) (rest : List ℕ) → get_or (cond (stays_in_file c) (c ∷ []) (percent_encode_byte c) ++ rest) 0 0 ≡ 46 → c ≡ 46
unfolding percent_encode_byte
first_byte c rest = cond_both (stays_in_file c) (c ∷ []) (percent_encode_byte c) (λ x. get_or (x ++ rest) 0 0 ≡ 46 → c ≡ 46)
    (λ _ e. e) (λ _ e. absurd (let z : 37 ≡ 46 = e in omega arith))

pub file_dot : (full : List ℕ) → get_or (file_of full) 0 0 ≡ 46 → (full ≡ []) ⊎ (get_or full 0 0 ≡ 46)
unfolding file_of
file_dot [] e = inl refl
file_dot (b ∷ bs) e =
    let c = replaced_byte 32 95 b in
    let first = cond (stays_in_file c) (c ∷ []) (percent_encode_byte c) in
    let others = escaped stays_in_file (underscored bs) in
    inr (kept_dot b (first_byte c (others ++ codes ".wiki") (ap (λ x. get_or x 0 0) (sym (append_assoc first others (codes ".wiki"))) ∙ e)))

escaped_length : (stays : ℕ → Bool) (bs : List ℕ) → length (escaped stays bs) ≤ 3 * length bs
unfolding percent_encode_byte
escaped_length stays [] = omega arith
escaped_length stays (b ∷ bs) =
    let first = cond (stays b) (b ∷ []) (percent_encode_byte b) in
    let short : length first ≤ 3 = cond_both (stays b) (b ∷ []) (percent_encode_byte b) (λ x. length x ≤ 3) (λ _. omega arith) (λ _. omega arith) in
    let on = escaped_length stays bs in
    omega (arith, length-append first (escaped stays bs))

pub file_length : (full : List ℕ) → length (file_of full) ≤ 3 * length full + 5
unfolding file_of
file_length full =
    let on = escaped_length stays_in_file (underscored full) in
    let same : length (underscored full) ≡ length full = length-map full (replaced_byte 32 95) in
    omega (arith, length-append (escaped stays_in_file (underscored full)) (codes ".wiki"))
