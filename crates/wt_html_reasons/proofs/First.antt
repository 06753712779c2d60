-- The reason of a refusal is the first that holds.
use Rattle.std.proofs.Common.{◌≡◌, ℕ, zero, suc, ◌≤◌, Bool, true, false, None, Result, Ok, Err, List, [], ◌∷◌, ◌++◌, length, take, drop, refl, sym, ap, ◌∙◌, subst, nat_lt, append_assoc, arith, inl, inr}
use Rattle.std.specs.Prelude.{◌==◌, ◌⊎◌, if◌then◌else◌}
use Rattle.std.specs.Str.{IsUtf8}
use Rattle.std.proofs.lemmas.List.{append-nil, take-append-drop, length-drop}
use Rattle.std.proofs.lemmas.Bool.{both_ways}
use Rattle.std.proofs.lemmas.Bool.Decides.{nat_tests}
use Rattle.wt_html_grammar.specs.declared.why.HtmlWhy.{HtmlWhy}
use Rattle.wt_html_grammar.specs.declared.why.HtmlWhy.TheVariants as why
use Rattle.wt_html_grammar.specs.Signs.{between, is_lower, is_name_byte, is_attribute_byte, is_among, begins_character}
use Rattle.wt_html_grammar.specs.Grammar.{Front}
use Rattle.wt_html_grammar.specs.Machine.{State, start, less, attribute, closing, escaping, Escape, ampersand, apart, letters, sharp, digits, wide, EscapeStep, stop, on, ended, in_escape, turned, why_of, mended, step, run}
use Rattle.wt_html_grammar.specs.Places.{IsPlace, Refused, why_in, why_of_refusal}
use Rattle.wt_html_grammar.proofs.Steps.{if_case}
use Rattle.wt_html_grammar.proofs.Whole.{reached, front_of}
use Rattle.wt_html_grammar.proofs.Places.{run_push, run_err, no_front}
use Rattle.wt_html_grammar.proofs.Reading.{first_eq}
use Rattle.wt_html_grammar.proofs.Spaces.{one_place}
use Rattle.wt_html_reasons.specs.Reasons.{Next, BeginsNoText, IsTooDeep, InEndTagName, InEscape, IsRepeated, HoldsBetween, Holds, rank, comes_before}
use Rattle.wt_html_reasons.proofs.Characters.{left_of, InCharacter, characters_read}
use Rattle.wt_html_reasons.proofs.Texts.{no_character, no_follow, goes_on}
use Rattle.wt_html_reasons.proofs.Explained.{Explains, Told, told}
use Rattle.wt_html_reasons.proofs.States.{names, deep_at, closing_at, attribute_at, IsEscape, escape_at}

-- the input ends, or a byte is refused
abbrev StopsSo : State → List ℕ → HtmlWhy → Type 0
StopsSo s behind w = ((behind ≡ []) × (w ≡ why.End)) ⊎ ((b : ℕ) × (others : List ℕ) × (behind ≡ b ∷ others) × (mended b (step s b) ≡ Err w))

-- the state at the place, and how it stops there
abbrev Stop : List ℕ → List ℕ → HtmlWhy → Type 0
Stop before behind w = (s : State) × (run start before ≡ Ok s) × StopsSo s behind w

-- the bytes up to a place, and those behind it
cut_next : (bytes : List ℕ) (n b : ℕ) (others : List ℕ) → drop n bytes ≡ b ∷ others → take (suc n) bytes ≡ take n bytes ++ b ∷ []
cut_next [] zero b others e = absurd cc
cut_next [] (suc n) b others e = absurd cc
cut_next (c ∷ cs) zero b others e = ap (λ x. x ∷ []) (first_eq c b cs others e)
cut_next (c ∷ cs) (suc n) b others e = ap (λ x. c ∷ x) (cut_next cs n b others e)

cut_within : (bytes : List ℕ) (n b : ℕ) (others : List ℕ) → drop n bytes ≡ b ∷ others → suc n ≤ length bytes
cut_within bytes n b others e = omega (arith, length-drop n bytes, ap length e)

alive : (before : List ℕ) → Front before → (o : Result State HtmlWhy) → run start before ≡ o → (s : State) × (run start before ≡ Ok s)
alive before f (Ok s) e = (s, e)
alive before f (Err v) e = absurd (no_front before v e f)

stop_byte : (bytes : List ℕ) (place : ℕ) (w : HtmlWhy) (s : State) (b : ℕ) (others : List ℕ) → Refused bytes place w
    → run start (take place bytes) ≡ Ok s → drop place bytes ≡ b ∷ others
    → (o : Result State HtmlWhy) → mended b (step s b) ≡ o → mended b (step s b) ≡ Err w
stop_byte bytes place w s b others r e q (Ok t) m =
    let p : IsPlace bytes place = r.0 in
    let k : run start (take (suc place) bytes) ≡ Ok t = ap (run start) (cut_next bytes place b others q) ∙ run_push (take place bytes) b start s e ∙ m in
    absurd (p.longest (suc place) (omega arith) (cut_within bytes place b others q) (front_of (take (suc place) bytes) t k))
stop_byte bytes place w s b others r e q (Err v) m =
    let before : List ℕ = take place bytes in
    let whole : bytes ≡ (before ++ b ∷ []) ++ others = sym (take-append-drop place bytes) ∙ ap (λ x. before ++ x) q
    ∙ sym (append_assoc before (b ∷ []) others) in
    let k : run start bytes ≡ Err v = ap (run start) whole ∙ run_err (before ++ b ∷ []) others start v (run_push before b start s e ∙ m) in
    m ∙ ap Err (sym (r.1 ∙ ap why_in k))

stop_at : (bytes : List ℕ) (place : ℕ) (w : HtmlWhy) (s : State) (behind : List ℕ) → Refused bytes place w
    → run start (take place bytes) ≡ Ok s → drop place bytes ≡ behind
    → Stop (take place bytes) behind w
stop_at bytes place w s [] r e q =
    let whole : bytes ≡ take place bytes = sym (take-append-drop place bytes) ∙ ap (λ x. take place bytes ++ x) q ∙ append-nil (take place bytes) in
    (s, e, inl (refl, r.1 ∙ ap why_in (ap (run start) whole ∙ e)))
stop_at bytes place w s (b ∷ others) r e q = (s, e, inr (b, others, refl, stop_byte bytes place w s b others r e q (mended b (step s b)) refl))

refusal : (bytes : List ℕ) (place : ℕ) (w : HtmlWhy) → Refused bytes place w → Stop (take place bytes) (drop place bytes) w
refusal bytes place w r =
    let p : IsPlace bytes place = r.0 in
    let a = alive (take place bytes) p.front (run start (take place bytes)) refl in
    stop_at bytes place w a.0 (drop place bytes) r a.1 refl

-- the reason holds
wide_stop : (t : State) (low high n b : ℕ) (v : HtmlWhy) → step (escaping t (wide low high n)) b ≡ Err v → between low high b ≡ false
wide_stop t low high zero b v =
    let P : EscapeStep → Type 0 = λ u. turned t (wide low high zero) u ≡ Err v → between low high b ≡ false in
    if_case P (between low high b) _ _ (λ _ e. absurd cc) (λ f _. f)
wide_stop t low high (suc n) b v =
    let P : EscapeStep → Type 0 = λ u. turned t (wide low high (suc n)) u ≡ Err v → between low high b ≡ false in
    if_case P (between low high b) _ _ (λ _ e. absurd cc) (λ f _. f)

no_text : (s : State) (before : List ℕ) (b : ℕ) (v : HtmlWhy) → InCharacter (left_of s) before → step s b ≡ Err v
    → (left_of s ≡ None → begins_character b ≡ false)
    → (more : List ℕ) → IsUtf8 (before ++ b ∷ more) → ⊥
no_text (escaping t (wide low high n)) before b v h e k = no_follow before (record { low = low; high = high; more = n }) b h (wide_stop t low high n b v e)
no_text s before b v h e k = no_character before b h (k refl)

explained_holds : (v : HtmlWhy) (before : List ℕ) (b : ℕ) (others : List ℕ) (s : State) → run start before ≡ Ok s
    → step s b ≡ Err v → Explains v before b s → HoldsBetween v before (b ∷ others)
explained_holds why.NotUtf8 before b others s e q h = no_text s before b why.NotUtf8 (characters_read before s e) q h
explained_holds why.End before b others s e q h = absurd h
explained_holds why.TooDeep before b others s e q h = h others
explained_holds why.EndTag before b others s e q h = h others
explained_holds why.Escape before b others s e q h = h others
explained_holds why.Repeated before b others s e q h = h others
explained_holds why.Syntax before b others s e q h = tt

ok_err : (t : State) (w : HtmlWhy) (o : Result State HtmlWhy) → o ≡ Ok t → o ≡ Err w → ⊥
ok_err t w o e f = cc

same_fault : (u w : HtmlWhy) (o : Result State HtmlWhy) → o ≡ Err u → o ≡ Err w → u ≡ w
same_fault u w o e f = cc

holds_byte : (before : List ℕ) (b : ℕ) (others : List ℕ) (s : State) (w : HtmlWhy) → run start before ≡ Ok s
    → (o : Result State HtmlWhy) → step s b ≡ o → Told before b s o → mended b o ≡ Err w
    → HoldsBetween w before (b ∷ others)
holds_byte before b others s w e (Ok t) q h m = absurd (ok_err t w (Ok t) refl m)
holds_byte before b others s w e (Err v) q h m =
    let H : HtmlWhy → Type 0 = λ u. HoldsBetween u before (b ∷ others) in
    let P : Result State HtmlWhy → Type 0 = λ o. o ≡ Err w → H w in
    if_case P (begins_character b) (Err v) (Err why.NotUtf8)
    (λ _ m. subst H (same_fault v w (Err v) refl m) (explained_holds v before b others s e q h))
    (λ f m. subst H (same_fault why.NotUtf8 w (Err why.NotUtf8) refl m) (no_text s before b v (characters_read before s e) q (λ _. f)))
    m

holds_stop : (before behind : List ℕ) (w : HtmlWhy) → Stop before behind w → HoldsBetween w before behind
holds_stop before behind w k = by_case k.2
  where
    by_case : StopsSo k.0 behind w → HoldsBetween w before behind
    by_case (inl q) = let P : HtmlWhy → Type 0 = λ v. HoldsBetween v before behind in subst P (sym q.1) q.0
    by_case (inr r) =
        let P : List ℕ → Type 0 = λ x. HoldsBetween w before x in
        subst P (sym r.2) (holds_byte before r.0 r.1 k.0 w k.1 (step k.0 r.0) refl (told before r.0 k.0 (reached before (Ok k.0) k.1)) r.3)

pub holds : (bytes : List ℕ) (place : ℕ) (w : HtmlWhy) → Refused bytes place w → Holds w bytes place
holds bytes place w r = holds_stop (take place bytes) (drop place bytes) w (refusal bytes place w r)

-- where a reason holds, the machine's is that, or one before it
abbrev Gives : HtmlWhy → Result State HtmlWhy → Type 0
Gives v (Ok t) = Unit {0}
Gives v (Err u) = u ≡ v

abbrev Among : HtmlWhy → HtmlWhy → Type 0
Among v w = (w ≡ why.End) ⊎ ((w ≡ why.NotUtf8) ⊎ (w ≡ v))

gives : (b : ℕ) (o : Result State HtmlWhy) (v w : HtmlWhy) → Gives v o → mended b o ≡ Err w → (w ≡ why.NotUtf8) ⊎ (w ≡ v)
gives b (Ok t) v w h m = absurd (ok_err t w (Ok t) refl m)
gives b (Err u) v w h m =
    let P : Result State HtmlWhy → Type 0 = λ o. o ≡ Err w → (w ≡ why.NotUtf8) ⊎ (w ≡ v) in
    if_case P (begins_character b) (Err u) (Err why.NotUtf8) (λ _ q. inr (sym (same_fault u w (Err u) refl q) ∙ h))
    (λ _ q. inl (sym (same_fault why.NotUtf8 w (Err why.NotUtf8) refl q)))
    m

ok_ok : (s t : State) (o : Result State HtmlWhy) → o ≡ Ok s → o ≡ Ok t → s ≡ t
ok_ok s t o e f = cc

by_state : (before behind : List ℕ) (v w : HtmlWhy) (t : State) → Stop before behind w → run start before ≡ Ok t
    → ((b : ℕ) (others : List ℕ) → behind ≡ b ∷ others → Gives v (step t b)) → Among v w
by_state before behind v w t k e h = by_case k.2
  where
    by_case : StopsSo k.0 behind w → Among v w
    by_case (inl q) = inl q.1
    by_case (inr r) =
        let P : State → Type 0 = λ u. mended r.0 (step u r.0) ≡ Err w in
        inr (gives r.0 (step t r.0) v w (h r.0 r.1 r.2) (subst P (ok_ok k.0 t (run start before) k.1 e) r.3))

deep_first : (before behind : List ℕ) (w : HtmlWhy) → Stop before behind w → IsTooDeep before behind → Among why.TooDeep w
deep_first before behind w k h =
    by_state before behind why.TooDeep w (less (names h.0)) k (ap (run start) h.4 ∙ deep_at h.0 h.1 h.2 h.3)
    (λ b others q.
    let lower : is_lower b ≡ true = subst (Next is_lower) q h.5 in
    let P : Result State HtmlWhy → Type 0 = Gives why.TooDeep in
    if_case P (is_lower b) _ _ (λ _. if_case P (nat_lt (length (names h.0)) 200) _ _ (λ _. tt) (λ _. refl)) (λ f. absurd (both_ways (is_lower b) f lower)))

closing_gives : (left : List ℕ) (ns : List (List ℕ)) (b : ℕ) → (left ≡ [] → is_name_byte b ≡ true) → Gives why.EndTag (step (closing left ns) b)
closing_gives (c ∷ cs) ns b h = if_case (Gives why.EndTag) (b == c) _ _ (λ _. tt) (λ _. refl)
closing_gives [] ns b h = if_case (Gives why.EndTag) (is_name_byte b) _ _ (λ _. refl) (λ f. absurd (both_ways (is_name_byte b) f (h refl)))

end_tag_first : (before behind : List ℕ) (w : HtmlWhy) → Stop before behind w → InEndTagName before behind → Among why.EndTag w
end_tag_first before behind w k h =
    by_state before behind why.EndTag w (closing h.4 (names h.1)) k (ap (run start) h.7 ∙ closing_at h.0 h.1 h.2 h.3 h.4 h.5 h.6)
    (λ b others q. closing_gives h.4 (names h.1) b (λ n. subst (Next is_name_byte) q (h.8 n)))

escape_why : (e : Escape) → IsEscape e → why_of e ≡ why.Escape
escape_why (wide low high n) h = absurd h
escape_why ampersand h = refl
escape_why apart h = refl
escape_why (letters n cs) h = refl
escape_why sharp h = refl
escape_why (digits r k n) h = refl

turn_gives : (t : State) (e : Escape) (v : HtmlWhy) (u : EscapeStep) → why_of e ≡ v → Gives v (turned t e u)
turn_gives t e v stop h = h
turn_gives t e v (on f) h = tt
turn_gives t e v ended h = tt

escape_first : (before behind : List ℕ) (w : HtmlWhy) → Stop before behind w → InEscape before → Among why.Escape w
escape_first before behind w k h =
    let r = escape_at before k.0 h k.1 in
    by_state before behind why.Escape w (escaping r.0 r.1) k (k.1 ∙ ap Ok r.3)
    (λ b others q. turn_gives r.0 r.1 why.Escape (in_escape r.1 b) (escape_why r.1 r.2))

repeated_first : (before behind : List ℕ) (w : HtmlWhy) → Stop before behind w → IsRepeated before behind → Among why.Repeated w
repeated_first before behind w k h =
    let r = attribute_at h.0 h.1 h.2 h.3 h.4 h.5 h.6 in
    let again : is_among h.3 r.0.seen ≡ true = ap (is_among h.3) r.1 ∙ h.7 in
    by_state before behind why.Repeated w (attribute r.0 h.3) k (ap (run start) h.8 ∙ r.2)
    (λ b others q.
    let P : Result State HtmlWhy → Type 0 = Gives why.Repeated in
    if_case P (is_attribute_byte b) _ _ (λ _. tt)
    (λ _. if_case P (is_among h.3 r.0.seen) _ _ (λ _. refl) (λ f. absurd (both_ways (is_among h.3 r.0.seen) f again))))

end_first : (before behind : List ℕ) (w : HtmlWhy) → Stop before behind w → behind ≡ [] → w ≡ why.End
end_first before behind w k e = by_case k.2
  where
    by_case : StopsSo k.0 behind w → w ≡ why.End
    by_case (inl q) = q.1
    by_case (inr r) = let n : [] ≡ r.0 ∷ r.1 = sym e ∙ r.2 in absurd cc

same_either : (v w : HtmlWhy) → (w ≡ v) ⊎ (w ≡ v) → w ≡ v
same_either v w (inl e) = e
same_either v w (inr e) = e

no_begin : (b : ℕ) (o : Result State HtmlWhy) (w : HtmlWhy) → begins_character b ≡ false → mended b o ≡ Err w → w ≡ why.NotUtf8
no_begin b (Ok t) w f m = absurd (ok_err t w (Ok t) refl m)
no_begin b (Err u) w f m =
    let P : Result State HtmlWhy → Type 0 = λ o. o ≡ Err w → w ≡ why.NotUtf8 in
    if_case P (begins_character b) (Err u) (Err why.NotUtf8) (λ e _. absurd (both_ways (begins_character b) f e))
    (λ _ q. sym (same_fault why.NotUtf8 w (Err why.NotUtf8) refl q))
    m

not_utf8 : (s : State) (before : List ℕ) (b : ℕ) (w : HtmlWhy) → InCharacter (left_of s) before
    → ((more : List ℕ) → IsUtf8 (before ++ b ∷ more) → ⊥) → mended b (step s b) ≡ Err w → w ≡ why.NotUtf8
not_utf8 (escaping t (wide low high n)) before b w h k m =
    same_either why.NotUtf8 w (gives b (step (escaping t (wide low high n)) b) why.NotUtf8 w
    (turn_gives t (wide low high n) why.NotUtf8 (in_escape (wide low high n) b) refl) m)
not_utf8 s before b w h k m = by_test (begins_character b) refl
  where
    by_test : (t : Bool) → begins_character b ≡ t → w ≡ why.NotUtf8
    by_test true e = let r = goes_on before b h e in absurd (k r.0 r.1)
    by_test false e = no_begin b (step s b) w e m

utf8_first : (before behind : List ℕ) (w : HtmlWhy) → Stop before behind w → BeginsNoText before behind → w ≡ why.NotUtf8
utf8_first before behind w k h = by_case k.2
  where
    by_case : StopsSo k.0 behind w → w ≡ why.NotUtf8
    by_case (inl q) = absurd (subst (BeginsNoText before) q.0 h)
    by_case (inr r) = not_utf8 k.0 before r.0 w (characters_read before k.0 k.1) (subst (BeginsNoText before) r.2 h) r.3

-- the order
not_before : (v w u : HtmlWhy) → comes_before v u ≡ false → comes_before v w ≡ true → w ≡ u → ⊥
not_before v w u f e q = both_ways (comes_before v w) (ap (comes_before v) q ∙ f) e

not_among : (v w : HtmlWhy) → comes_before v why.End ≡ false → comes_before v why.NotUtf8 ≡ false → comes_before v v ≡ false
    → comes_before v w ≡ true → Among v w → ⊥
not_among v w f g h e (inl q) = not_before v w why.End f e q
not_among v w f g h e (inr (inl q)) = not_before v w why.NotUtf8 g e q
not_among v w f g h e (inr (inr q)) = not_before v w v h e q

last : (w : HtmlWhy) → comes_before why.Syntax w ≡ false
last why.NotUtf8 = refl
last why.End = refl
last why.TooDeep = refl
last why.EndTag = refl
last why.Escape = refl
last why.Repeated = refl
last why.Syntax = refl

first_stop : (v w : HtmlWhy) (before behind : List ℕ) → Stop before behind w → comes_before v w ≡ true → HoldsBetween v before behind → ⊥
first_stop why.NotUtf8 w before behind k e h = not_before why.NotUtf8 w why.NotUtf8 refl e (utf8_first before behind w k h)
first_stop why.End w before behind k e h = not_before why.End w why.End refl e (end_first before behind w k h)
first_stop why.TooDeep w before behind k e h = not_among why.TooDeep w refl refl refl e (deep_first before behind w k h)
first_stop why.EndTag w before behind k e h = not_among why.EndTag w refl refl refl e (end_tag_first before behind w k h)
first_stop why.Escape w before behind k e h = not_among why.Escape w refl refl refl e (escape_first before behind w k h)
first_stop why.Repeated w before behind k e h = not_among why.Repeated w refl refl refl e (repeated_first before behind w k h)
first_stop why.Syntax w before behind k e h = both_ways (comes_before why.Syntax w) (last w) e

pub first_reason : (bytes : List ℕ) (place : ℕ) (v w : HtmlWhy) → Refused bytes place w → comes_before v w ≡ true → Holds v bytes place → ⊥
first_reason bytes place v w r e h = first_stop v w (take place bytes) (drop place bytes) (refusal bytes place w r) e h

-- each reason by its number
of_rank : ℕ → HtmlWhy
of_rank n =
    if n == 0 then why.NotUtf8 else if n == 1 then why.End else if n == 2 then why.TooDeep else if n == 3 then why.EndTag
    else if n == 4 then why.Escape else if n == 5 then why.Repeated else why.Syntax

of_own : (w : HtmlWhy) → of_rank (rank w) ≡ w
unfolding of_rank
of_own why.NotUtf8 = refl
of_own why.End = refl
of_own why.TooDeep = refl
of_own why.EndTag = refl
of_own why.Escape = refl
of_own why.Repeated = refl
of_own why.Syntax = refl

equal : (m n : ℕ) → nat_lt m n ≡ false → nat_lt n m ≡ false → m ≡ n
equal m n e f = grind (arith, nat_tests)

same_reason : (v w : HtmlWhy) → comes_before v w ≡ false → comes_before w v ≡ false → v ≡ w
same_reason v w e f = sym (of_own v) ∙ ap of_rank (equal (rank v) (rank w) e f) ∙ of_own w

pub only : (bytes : List ℕ) (place : ℕ) (w : HtmlWhy) → IsPlace bytes place → Holds w bytes place
    → ((v : HtmlWhy) → comes_before v w ≡ true → Holds v bytes place → ⊥) → Refused bytes place w
only bytes place w p h n = by_tests (comes_before w u) (comes_before u w) refl refl
  where
    u : HtmlWhy
    u = why_of_refusal bytes

    refused : Refused bytes place (why_of_refusal bytes)
    refused = (p, refl)

    by_tests : (s t : Bool) → comes_before w (why_of_refusal bytes) ≡ s → comes_before (why_of_refusal bytes) w ≡ t → Refused bytes place w
    by_tests true t e f = absurd (first_reason bytes place w (why_of_refusal bytes) refused e h)
    by_tests false true e f = absurd (n (why_of_refusal bytes) f (holds bytes place (why_of_refusal bytes) refused))
    by_tests false false e f = (p, same_reason w (why_of_refusal bytes) e f)

pub one_reason : (bytes : List ℕ) (m n : ℕ) (v w : HtmlWhy) → Refused bytes m v → Refused bytes n w → (m ≡ n) × (v ≡ w)
one_reason bytes m n v w a b = (one_place bytes m n a.0 b.0, a.1 ∙ sym b.1)
