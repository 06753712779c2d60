-- What `percent_encoding` writes for its two sets is what the tables of kept characters say.
use Rattle.std.proofs.Common.{◌≡◌, ℕ, ◌<◌, ◌≤◌, Bool, true, false, not, cond, ◌||◌, ◌&&◌, inl, inr, nat_lt, List, [], ◌∷◌, ◌++◌, length, get_or, refl, sym, ap, ◌∙◌, subst, arith, ⊎_elim, None}
use Rattle.std.specs.List.{range_with_len, list_all, flat_map}
use Rattle.std.specs.Str.{IsUtf8, is_utf8}
use Rattle.std.proofs.lemmas.Str.{IsUtf8-from_is_utf8, is_utf8-from_IsUtf8}
use Rattle.wt_names.specs.Good.{read_text}
use Rattle.std.proofs.lemmas.Bool.{cases_lt, lt-ltb, cases_Bool, cond-true, cond-false}
use Rattle.std.proofs.lemmas.Bool.Decides.{nat_tests}
use Rattle.std.proofs.lemmas.List.FromFn.{length-range_with_len, get_or-range_with_len}
use Rattle.std.proofs.lemmas.List.Sums.{AllPass-from_list_all}
use Rattle.percent_encoding.specs.AsciiSet.{contains, should_percent_encode}
use Rattle.percent_encoding.specs.Percent.{percent_encode, percent_encode_byte, encode_byte}
use Rattle.percent_encoding.specs.declared.ascii_set.AsciiSet.{AsciiSet}
use Rattle.wt_names.specs.declared.link.TheConstants.{LINK, FILE}
use Rattle.wt_names.specs.Written.{stays_in_link, stays_in_file, escaped, read_bytes}

not_below : (b : ℕ) → 128 ≤ b → nat_lt b 128 ≡ false
not_below b wide = grind (arith, nat_tests)

-- a test of all numbers below n, by computing
pub below_by_test : (test : ℕ → Bool) (n : ℕ) → list_all test (range_with_len 0 n) ≡ true → (b : ℕ) → b < n → test b ≡ true
below_by_test test n all b h =
    let within : b < length (range_with_len 0 n) = omega (arith, length-range_with_len 0 n) in
    let at = AllPass-from_list_all test (range_with_len 0 n) all b 0 within in
    let e : get_or (range_with_len 0 n) b 0 ≡ b = omega (arith, get_or-range_with_len 0 n b 0 h) in
    let P : ℕ → Type 0 = λ m. test m ≡ true in subst P e at

-- the set has the byte just where the table doesn't keep it
abbrev agrees : AsciiSet → (ℕ → Bool) → ℕ → Bool
agrees set stays b = cond (contains set b) (not (stays b)) (stays b)

from_agrees : (p q : Bool) → cond p (not q) q ≡ true → p ≡ not q
from_agrees true true e = sym e
from_agrees true false e = refl
from_agrees false true e = refl
from_agrees false false e = e

pub link_set : (b : ℕ) → b < 128 → contains LINK b ≡ not (stays_in_link b)
unfolding stays_in_link
link_set b h = from_agrees (contains LINK b) (stays_in_link b) (below_by_test (agrees LINK stays_in_link) 128 refl b h)

pub file_set : (b : ℕ) → b < 128 → contains FILE b ≡ not (stays_in_file b)
unfolding stays_in_file
file_set b h = from_agrees (contains FILE b) (stays_in_file b) (below_by_test (agrees FILE stays_in_file) 128 refl b h)

-- of a byte past ASCII both say that it is escaped
agree : (set : AsciiSet) (kept : ℕ → Bool) → ((b : ℕ) → b < 128 → contains set b ≡ not (nat_lt b 128 && kept b)) → (b : ℕ)
    → should_percent_encode set b ≡ not (nat_lt b 128 && kept b)
unfolding should_percent_encode
agree set kept below b = elim (cases_lt b 128) [
  | inl small ↦ ap (λ t. not t || contains set b) (lt-ltb b 128 small) ∙ below b small
  | inr wide ↦ ap (λ t. not t || contains set b) (not_below b wide) ∙ sym (ap (λ t. not (t && kept b)) (not_below b wide))
]

turned : (t : Bool) (xs ys : List ℕ) → cond (not t) xs ys ≡ cond t ys xs
turned true xs ys = refl
turned false xs ys = refl

percent_encode_is : (set : AsciiSet) (stays : ℕ → Bool) → ((b : ℕ) → should_percent_encode set b ≡ not (stays b)) → (bs : List ℕ)
    → percent_encode set bs ≡ escaped stays bs
unfolding percent_encode
percent_encode_is set stays same [] = refl
percent_encode_is set stays same (b ∷ bs) =
    ap (λ t. cond t (percent_encode_byte b) (b ∷ []) ++ flat_map (encode_byte set) bs) (same b)
    ∙ ap (λ x. x ++ flat_map (encode_byte set) bs) (turned (stays b) (percent_encode_byte b) (b ∷ []))
    ∙ ap (λ x. cond (stays b) (b ∷ []) (percent_encode_byte b) ++ x) (percent_encode_is set stays same bs)

link_byte : (b : ℕ) → should_percent_encode LINK b ≡ not (stays_in_link b)
unfolding stays_in_link
link_byte b = agree LINK _ link_set b

pub file_byte : (b : ℕ) → should_percent_encode FILE b ≡ not (stays_in_file b)
unfolding stays_in_file
file_byte b = agree FILE _ file_set b

pub link_escaped : (bs : List ℕ) → percent_encode LINK bs ≡ escaped stays_in_link bs
link_escaped bs = percent_encode_is LINK stays_in_link link_byte bs

pub file_escaped : (bs : List ℕ) → percent_encode FILE bs ≡ escaped stays_in_file bs
file_escaped bs = percent_encode_is FILE stays_in_file file_byte bs

-- bytes read as a title
pub read_bytes-text : (bs : List ℕ) → IsUtf8 bs → read_bytes bs ≡ read_text bs
read_bytes-text bs is = cond-true (is_utf8 bs) (read_text bs) None (is_utf8-from_IsUtf8 bs is)

pub read_bytes-other : (bs : List ℕ) → ¬ IsUtf8 bs → read_bytes bs ≡ None
read_bytes-other bs other = ⊎_elim (λ e. absurd (other (IsUtf8-from_is_utf8 bs e)))
    (λ e. cond-false (is_utf8 bs) (read_text bs) None e) (cases_Bool (is_utf8 bs))
