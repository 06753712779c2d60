-- Blank lines hold spaces, tabs and marks alone.
use Rattle.std.proofs.Common.{◌≡◌, ℕ, suc, ◌<◌, Bool, true, false, List, [], ◌∷◌, ◌++◌, length, map, IsUtf8, chars, nat_lt, refl, sym, subst, arith}
use Rattle.std.specs.Prelude.{◌==◌, if◌then◌else◌}
use Rattle.std.specs.List.{AllByRecursion}
use Rattle.std.proofs.lemmas.Bool.{eqb-true, ltb-true, and_parts}
use Rattle.std.proofs.lemmas.Bool.Decides.{nat_tests}
use Rattle.std.proofs.lemmas.Str.{encodes-chars, scalars-chars}
use lib.Utf8.{scalar, scalars, encode, encodes}
use Rattle.wt_html_grammar.proofs.Steps.{if_case}
use Rattle.wt_span.specs.Items.{Item, char, whole, sign, is_mark_form}
use Rattle.wt_lines.specs.declared.kind.LineKind.TheVariants as line
use Rattle.wt_lines.specs.Kinds.{kind_of_signs, past, is_idle}
use Rattle.wt_lines.specs.Lines.{content}
use Rattle.wt_page.specs.Lines.{ending}
use Rattle.wt_page_round_trip.proofs.TextItems.{AreTexts}
use Rattle.wt_page_round_trip.proofs.PageLines.{IsBetween, is_white_byte, all_left, all_right, all_both, content_ending, ending_between}
use Rattle.wt_page_round_trip.proofs.KindTests.{kind_told}

-- ---- bytes

abbrev pub AreSmall : List ℕ → Type 0
AreSmall bs = AllByRecursion (λ b. b < 256) bs

scalar_small : (c : ℕ) → scalar c ≡ true → c < 1114112
scalar_small c h = grind (arith, nat_tests)

encode_small : (c : ℕ) → scalar c ≡ true → AreSmall (encode c)
unfolding encode
encode_small c h =
    let m : c < 1114112 = scalar_small c h in
    if_case AreSmall (nat_lt c 128) _ _ (λ e. let l : c < 128 = ltb-true c 128 e in (omega arith, tt)) (λ _.
    if_case AreSmall (nat_lt c 2048) _ _ (λ e. let l : c < 2048 = ltb-true c 2048 e in (omega arith, (omega arith, tt))) (λ _.
    if_case AreSmall (nat_lt c 65536) _ _ (λ e. let l : c < 65536 = ltb-true c 65536 e in
    (omega arith, (omega arith, (omega arith, tt)))) (λ _. (omega arith, (omega arith, (omega arith, (omega arith, tt)))))))

all_small : (cs : List ℕ) → scalars cs ≡ true → AreSmall (encodes cs)
all_small [] h = tt
all_small (c ∷ cs) h = let q = and_parts _ _ h in all_both (λ b. b < 256) (encode c) (encodes cs) (encode_small c q.0) (all_small cs q.1)

utf8_small : (bs : List ℕ) → IsUtf8 bs → AreSmall bs
utf8_small bs u = subst AreSmall (encodes-chars bs u) (all_small (chars bs) (scalars-chars bs u))

-- characters are bytes
abbrev pub IsSmallItem : Item → Type 0
IsSmallItem (char o b) = b < 256
IsSmallItem (whole f o bs) = Unit {0}

small_texts : (run : List ℕ) (xs : List Item) → AreTexts run xs → AreSmall run × AllByRecursion IsSmallItem xs
small_texts run [] t = (utf8_small run t, tt)
small_texts run (char o b ∷ xs) t =
    let q : AreSmall (run ++ b ∷ []) × AllByRecursion IsSmallItem xs = small_texts (run ++ b ∷ []) xs t.1 in
    let r : AreSmall (b ∷ []) = all_right (λ b. b < 256) run (b ∷ []) q.0 in
    (all_left (λ b. b < 256) run (b ∷ []) q.0, (r.0, q.1))
small_texts run (whole f o bs ∷ xs) t = (utf8_small run t.0, (tt, (small_texts [] xs t.1).1))

pub texts_small : (xs : List Item) → AreTexts [] xs → AllByRecursion IsSmallItem xs
texts_small xs t = (small_texts [] xs t).1

-- ---- the kind of a line

blank_signs : (tables : ℕ) (ss : List ℕ) → kind_of_signs tables ss ≡ line.Blank → (length (past is_idle ss) == 0) ≡ true
blank_signs tables ss h = kind_told tables ss line.Blank h

idle_char : (b : ℕ) → b < 256 → is_idle b ≡ true → is_white_byte b ≡ true
idle_char b l e = grind (arith, nat_tests)

idle_form : (b : Bool) → is_idle (if b then 257 else 256) ≡ true → b ≡ true
idle_form true e = refl
idle_form false e = absurd cc

pub idle_item : (x : Item) → IsSmallItem x → is_idle (sign x) ≡ true → IsBetween x
idle_item (char o b) l e = idle_char b l e
idle_item (whole f o bs) l e = idle_form (is_mark_form f) e

pub idle_items : (xs : List Item) → AllByRecursion IsSmallItem xs → (length (past is_idle (map sign xs)) == 0) ≡ true → AllByRecursion IsBetween xs
idle_items [] l e = tt
idle_items (x ∷ xs) l e = by_test (is_idle (sign x)) refl e (λ f. idle_items xs l.1 f)
  where
    by_test : (t : Bool) → is_idle (sign x) ≡ t → (length (if t then past is_idle (map sign xs) else (sign x ∷ map sign xs)) == 0) ≡ true
        → ((length (past is_idle (map sign xs)) == 0) ≡ true → AllByRecursion IsBetween xs) → AllByRecursion IsBetween (x ∷ xs)
    by_test true f g more = (idle_item x l.0 f, more g)
    by_test false f g more = absurd (let z : suc (length (map sign xs)) ≡ 0 = eqb-true (suc (length (map sign xs))) 0 g in omega (arith, z))

-- a line that makes no block
pub blank_line : (tables : ℕ) (l : List Item) → AllByRecursion IsSmallItem l → kind_of_signs tables (map sign (content l))
    ≡ line.Blank → AllByRecursion IsBetween l
blank_line tables l s e =
    let small : AllByRecursion IsSmallItem (content l) =
    all_left IsSmallItem (content l) (ending l) (subst (λ xs. AllByRecursion IsSmallItem xs) (sym (content_ending l)) s) in
    subst (λ xs. AllByRecursion IsBetween xs) (content_ending l)
    (all_both IsBetween (content l) (ending l) (idle_items (content l) small (blank_signs tables (map sign (content l)) e))
    (ending_between l))
