-- What holds of a part that ends with lines, comments or tags holds of one with the sign of a table's end or a rule, or the end of a call, behind these.
use Rattle.std.proofs.Common.{arith, ◌≡◌, ℕ, zero, suc, ◌+◌, ◌-◌, ◌==◌, Bool, true, false, List, [], ◌∷◌, ◌++◌, length, drop, nat_lt, cond, refl, sym, ap, ◌∙◌, subst, append_assoc, append-nil, length-append, inl, inr}
use Rattle.std.specs.Prelude.{◌&&◌, ◌||◌, not, slice_index}
use Rattle.std.specs.Char.{is_ascii_alphabetic}
use Rattle.std.specs.List.{prefix_len}
use Rattle.std.proofs.lemmas.Bool.Decides.{nat_tests}
use Rattle.std.proofs.lemmas.List.{reverse-append}
use Rattle.wt_span.specs.Bytes.{is_break}
use Rattle.wt_isolation.specs.OpenTags.{is_stop, bare_len, ends_open}
use Rattle.wt_text_edit_laws.specs.SignParts.{is_sign_end, ends_unopened, AreSigned, IsLedTo}
use Rattle.wt_text_edit_laws.specs.TextBetween.{is_end, AreEnded, HasEndsBefore}
use Rattle.wt_text_edit_laws.specs.TextBlocks.{TextBlock}
use Rattle.wt_text_edit_laws.proofs.Between.ClosingTags.{Unclosed, unclosed_other, unclosed_untagged, ClosesNoMore, KeepsClosings, ends_other_by}
use Rattle.wt_text_edit_laws.proofs.Between.LineComments.{ends_behind}
use Rattle.wt_text_edit_laws.proofs.Between.LineForms.{get_behind}
use Rattle.wt_text_edit_laws.proofs.Between.LineWords.{lacks}
use Rattle.wt_text_edit_laws.proofs.Blocks.SignBraces.{ends_rest}
use Rattle.wt_text_edit_laws.proofs.Blocks.SignReading.{IsLine, IsSplit, sign_line, split, and_rest, line_unopened, line_unbroken}
use Rattle.wt_text_edit_laws.proofs.Paragraphs.ClearLines.{end_is}

-- ---- its end

-- what ends so ends so, whatever is before it
behind_both : (v : Bool) (ps bs : List ℕ) → ends_unopened v (ps ++ bs) ≡ ends_unopened (ends_unopened v ps) bs
behind_both v [] bs = refl
behind_both v (p ∷ ps) bs = behind_both (is_end p || (v && not (p == 60))) ps bs

more_unopened : (bs : List ℕ) → ends_unopened false bs ≡ true → ends_unopened true bs ≡ true
more_unopened [] h = absurd (cc)
more_unopened (b ∷ bs) h = by (is_end b) (not (b == 60)) h (λ g. more_unopened bs g)
  where
    by : (u v : Bool) → ends_unopened (u || (false && v)) bs ≡ true → (ends_unopened false bs ≡ true → ends_unopened true bs ≡ true)
        → ends_unopened (u || (true && v)) bs ≡ true
    by true v g more = g
    by false true g more = more g
    by false false g more = g

unopened_by : (v : Bool) (bs : List ℕ) → ends_unopened v bs ≡ true → ends_unopened true bs ≡ true
unopened_by true bs h = h
unopened_by false bs h = more_unopened bs h

pub led_rest : (ps bs : List ℕ) (k : TextBlock) (q : List ℕ) → IsLedTo (ps ++ bs) k q → IsLedTo bs k q
led_rest ps bs k q (inl l) = inl (ends_rest is_end ps bs l)
led_rest ps [] k q (inr l) = inl tt
led_rest ps (b ∷ bs) k q (inr l) =
    let s : AreSigned (ps ++ b ∷ bs) = l.0 in
    let unopened : ends_unopened true (b ∷ bs) ≡ true = unopened_by (ends_unopened true ps) (b ∷ bs) (sym (behind_both true ps (b ∷ bs)) ∙ s.unopened) in
    inr (record { some = omega arith; sign = ends_rest is_sign_end ps (b ∷ bs) s.sign; unopened = unopened }, l.1)

-- ---- closing tags

-- the line with the sign
abbrev line_of : (bs : List ℕ) → IsSplit bs → List ℕ
line_of bs h = h.line ++ h.last ∷ []

unopened : (bs : List ℕ) (h : IsSplit bs) → lacks (λ b. b == 60) (line_of bs h) ≡ true
unopened bs h = let l : IsLine (line_of bs h) = sign_line bs h in line_unopened (line_of bs h) l.bare

lacks_dropped : (test : ℕ → Bool) (n : ℕ) (s : List ℕ) → lacks test s ≡ true → lacks test (drop n s) ≡ true
lacks_dropped test zero [] h = h
lacks_dropped test zero (b ∷ s) h = h
lacks_dropped test (suc n) [] h = h
lacks_dropped test (suc n) (b ∷ s) h = lacks_dropped test n s (and_rest (not (test b)) (lacks test s) h)

signed_other : (name front s rest other : List ℕ) → AreEnded front → lacks (λ b. b == 60) s ≡ true → Unclosed name ((front ++ s) ++ rest) → Unclosed name other
    → Unclosed name ((front ++ s) ++ other)
signed_other name front s rest other l h u g =
    subst (Unclosed name) (sym (append_assoc front s other))
    (unclosed_other name front (s ++ rest) (s ++ other) l (subst (Unclosed name) (append_assoc front s rest) u) (unclosed_untagged name s other h g))

front_keeps : (front s : List ℕ) → AreEnded front → lacks (λ b. b == 60) s ≡ true → KeepsClosings (front ++ s)
front_keeps front s l h zero name rest other u g =
    let same : drop 0 (front ++ s) ≡ front ++ s = none (front ++ s) in
    subst (λ (q : List ℕ). Unclosed name (q ++ other)) (sym same)
    (signed_other name front s rest other l h (subst (λ (q : List ℕ). Unclosed name (q ++ rest)) same u) g)
  where
    none : (q : List ℕ) → drop 0 q ≡ q
    none [] = refl
    none (b ∷ q) = refl
front_keeps [] s l h (suc n) name rest other u g = unclosed_untagged name (drop (suc n) s) other (lacks_dropped (λ b. b == 60) (suc n) s h) g
front_keeps (b ∷ front) s l h (suc n) name rest other u g = front_keeps front s (ends_behind is_end b front l) h n name rest other u g

pub signed_keeps : (bs : List ℕ) → AreSigned bs → KeepsClosings bs
signed_keeps bs h = let g : IsSplit bs = split bs h in subst KeepsClosings (sym g.is) (front_keeps g.front (line_of bs g) g.ended (unopened bs g))

pub signed_unclosed : (name bs rest other : List ℕ) → AreSigned bs → Unclosed name (bs ++ rest) → Unclosed name other → Unclosed name (bs ++ other)
signed_unclosed name bs rest other h u g =
    let s : IsSplit bs = split bs h in
    subst (λ (q : List ℕ). Unclosed name (q ++ other)) (sym s.is)
    (signed_other name s.front (line_of bs s) rest other s.ended (unopened bs s) (subst (λ (q : List ℕ). Unclosed name (q ++ rest)) s.is u) g)

pub signed_ends : (rest other bs : List ℕ) → AreSigned bs → ClosesNoMore rest other → HasEndsBefore rest bs → HasEndsBefore other bs
signed_ends rest other bs h c e = ends_other_by rest other false 0 bs (signed_keeps bs h) c e

-- ---- no tag is open at its end

bare_more : (zs : List ℕ) (b : ℕ) → is_stop b ≡ false → bare_len (zs ++ b ∷ []) ≡ suc (bare_len zs)
bare_more zs b e =
    let z : 1 + bare_len zs ≡ suc (bare_len zs) = omega arith in
    ap (prefix_len (λ c. not (is_stop c))) (reverse-append zs (b ∷ []))
    ∙ ap (λ (t : Bool). cond (not t) (1 + bare_len zs) 0) e ∙ z

bare_end : (zs : List ℕ) (b : ℕ) → is_stop b ≡ true → bare_len (zs ++ b ∷ []) ≡ 0
bare_end zs b e =
    ap (prefix_len (λ c. not (is_stop c))) (reverse-append zs (b ∷ [])) ∙ ap (λ (t : Bool). cond (not t) (1 + bare_len zs) 0) e

not_first : (u v : Bool) → (not u && v) ≡ true → u ≡ false
not_first true v e = sym e
not_first false v e = refl

bare_low : (zs s : List ℕ) → lacks is_stop s ≡ true → bare_len (zs ++ s) ≡ length s + bare_len zs
bare_low zs [] h = let z : bare_len zs ≡ 0 + bare_len zs = omega arith in ap bare_len (append-nil zs) ∙ z
bare_low zs (b ∷ s) h =
    let one : bare_len (zs ++ b ∷ []) ≡ suc (bare_len zs) = bare_more zs b (not_first (is_stop b) (lacks is_stop s) h) in
    let more : bare_len ((zs ++ b ∷ []) ++ s) ≡ length s + bare_len (zs ++ b ∷ []) = bare_low (zs ++ b ∷ []) s (and_rest (not (is_stop b)) (lacks is_stop s) h) in
    let z : length s + suc (bare_len zs) ≡ suc (length s) + bare_len zs = omega arith in
    ap bare_len (sym (append_assoc zs (b ∷ []) s)) ∙ more ∙ ap (λ (k : ℕ). length s + k) one ∙ z

three_false : (a b c d : Bool) → c ≡ false → (a && (b && (c && d))) ≡ false
three_false true true false d e = refl
three_false true false false d e = refl
three_false false true false d e = refl
three_false false false false d e = refl
three_false a b true d e = absurd (cc)

closed_at : (bs : List ℕ) (n : ℕ) → bare_len bs ≡ n → (slice_index bs (length bs - (n + 1)) == 60) ≡ false → ends_open bs ≡ false
closed_at bs n is e =
    ap (λ (k : ℕ). nat_lt 0 k && (nat_lt k (length bs) && (slice_index bs (length bs - (k + 1)) == 60 && is_ascii_alphabetic (slice_index bs (length bs - k))))) is
    ∙ three_false (nat_lt 0 n) (nat_lt n (length bs)) (slice_index bs (length bs - (n + 1)) == 60) (is_ascii_alphabetic (slice_index bs (length bs - n))) e

-- behind a byte that ends lines, comments or tags
behind_end : (zs : List ℕ) (e : ℕ) (s : List ℕ) → is_end e ≡ true → lacks is_stop s ≡ true → ends_open ((zs ++ e ∷ []) ++ s) ≡ false
behind_end zs e s end h =
    let ws : List ℕ = zs ++ e ∷ [] in
    let bare : bare_len ws ≡ 0 = bare_end zs e (end_is (λ (c : ℕ). is_stop c ≡ true) refl refl e end) in
    let z : length s + 0 ≡ length s = omega arith in
    let n : bare_len (ws ++ s) ≡ length s = bare_low ws s h ∙ ap (λ (k : ℕ). length s + k) bare ∙ z in
    let long : length (ws ++ s) ≡ length zs + suc (length s) = ap length (append_assoc zs (e ∷ []) s) ∙ length-append zs (e ∷ s) in
    let i : length (ws ++ s) - (length s + 1) ≡ length zs + 0 = omega (arith, long) in
    let at : slice_index (ws ++ s) (length (ws ++ s) - (length s + 1)) ≡ e =
    ap (λ (q : List ℕ). slice_index q (length (ws ++ s) - (length s + 1))) (append_assoc zs (e ∷ []) s) ∙ ap (slice_index (zs ++ e ∷ s)) i ∙ get_behind zs (e ∷ s) 0 in
    closed_at (ws ++ s) (length s) n (ap (λ (c : ℕ). c == 60) at ∙ end_is (λ (c : ℕ). (c == 60) ≡ false) refl refl e end)

unstopped : (bs : List ℕ) (h : IsSplit bs) → lacks is_stop (line_of bs h) ≡ true
unstopped bs h = let l : IsLine (line_of bs h) = sign_line bs h in l.bare

signed_line : (zs : List ℕ) (b : ℕ) (front s : List ℕ) → AreEnded (b ∷ front) → lacks is_stop s ≡ true → ends_open (zs ++ ((b ∷ front) ++ s)) ≡ false
signed_line zs b [] s l h = ap ends_open (sym (append_assoc zs (b ∷ []) s)) ∙ behind_end zs b s l h
signed_line zs b (c ∷ front) s l h = ap ends_open (sym (append_assoc zs (b ∷ []) ((c ∷ front) ++ s))) ∙ signed_line (zs ++ b ∷ []) c front s l h

not_below : (n : ℕ) → nat_lt n n ≡ false
not_below n = grind (arith, nat_tests)

two_false : (a b c : Bool) → b ≡ false → (a && (b && c)) ≡ false
two_false true false c e = refl
two_false false false c e = refl
two_false a true c e = absurd (cc)

alone_closed : (s : List ℕ) → lacks is_stop s ≡ true → ends_open s ≡ false
alone_closed s h =
    let z : length s + bare_len [] ≡ length s = omega arith in
    let n : bare_len s ≡ length s = bare_low [] s h ∙ z in
    ap (λ (k : ℕ). nat_lt 0 k && (nat_lt k (length s) && (slice_index s (length s - (k + 1)) == 60 && is_ascii_alphabetic (slice_index s (length s - k))))) n
    ∙ two_false (nat_lt 0 (length s)) (nat_lt (length s) (length s)) _ (not_below (length s))

-- at the page's start
pub signed_first : (bs : List ℕ) → AreSigned bs → ends_open bs ≡ false
signed_first bs h = ap ends_open g.is ∙ by g.front g.ended
  where
    g : IsSplit bs
    g = split bs h

    by : (front : List ℕ) → AreEnded front → ends_open (front ++ line_of bs g) ≡ false
    by [] l = alone_closed (line_of bs g) (unstopped bs g)
    by (b ∷ front) l = signed_line [] b front (line_of bs g) l (unstopped bs g)

-- behind what comes before it, where it begins with a line break
pub signed_clear : (zs : List ℕ) (b : ℕ) (bs : List ℕ) → AreSigned (b ∷ bs) → b ≡ 10 → ends_open (zs ++ b ∷ bs) ≡ false
signed_clear zs b bs h e = by g.front g.is g.ended
  where
    g : IsSplit (b ∷ bs)
    g = split (b ∷ bs) h

    line : List ℕ
    line = line_of (b ∷ bs) g

    by : (front : List ℕ) → ◌≡◌ {A = List ℕ} (b ∷ bs) (front ++ line) → AreEnded front → ends_open (zs ++ b ∷ bs) ≡ false
    by [] is l =
        let lack : lacks is_break (b ∷ bs) ≡ true = subst (λ (q : List ℕ). lacks is_break q ≡ true) (sym is) (line_unbroken line (unstopped (b ∷ bs) g)) in
        let no : lacks is_break (10 ∷ bs) ≡ true = subst (λ (c : ℕ). lacks is_break (c ∷ bs) ≡ true) e lack in
        absurd (cc)
    by (c ∷ front) is l = ap (λ (q : List ℕ). ends_open (zs ++ q)) is ∙ signed_line zs c front line l (unstopped (b ∷ bs) g)
