-- A page is UTF-8, and so is each part of it, where it is cut at a block.
use Rattle.std.proofs.Common.{arith, ◌≡◌, ◌≢◌, inl, inr, ℕ, zero, suc, ◌<◌, ◌≤◌, ◌==◌, true, List, [], ◌∷◌, ◌++◌, refl, sym, ap, subst, append_assoc, append-nil}
use Rattle.std.specs.Str.{IsUtf8}
use Rattle.std.proofs.lemmas.Bool.{eqb-true}
use Rattle.std.proofs.lemmas.Str.{IsUtf8-append, IsUtf8-nil}
use Rattle.wt_names.proofs.Utf8.{utf8_around}
use Rattle.wt_text_edit_laws.specs.PageCuts.{EndsThere}
use Rattle.wt_text_edit_laws.specs.SignParts.{is_sign_end, IsLedTo}
use Rattle.wt_text_edit_laws.specs.TextBetween.{EndsBy, is_end, AreEnded}
use Rattle.wt_text_edit_laws.specs.TextBlocks.{TextBlock, a_heading, source_of}
use Rattle.wt_text_edit_laws.specs.TypedHeadings.{Sides, AreBlanks, equals, opening, closing}
use Rattle.wt_text_edit_laws.proofs.Between.LineWords.{either}
use Rattle.wt_text_edit_laws.proofs.Blocks.SignBraces.{signed_by}
use Rattle.wt_text_edit_laws.proofs.Blocks.BlockReading.{AreQuiet, quiet_joined, run_quiet, blanks_quiet, each_quiet}

-- ---- behind a line break, a comment or a tag

break_utf8 : IsUtf8 (10 ∷ [])
unfolding lib.Utf8.encode
break_utf8 = (10 ∷ [], (refl, refl))

tag_utf8 : IsUtf8 (62 ∷ [])
unfolding lib.Utf8.encode
tag_utf8 = (62 ∷ [], (refl, refl))

record Low (b : ℕ) : Type 0 where
  low : b < 128
  utf8 : IsUtf8 (b ∷ [])

end_low : (b : ℕ) → (is_end b) ≡ true → Low b
end_low b e = elim (either (b == 10) (b == 62) e) [
  | inl f ↦ subst Low (sym (eqb-true b 10 f)) (record { low = omega arith; utf8 = break_utf8 })
  | inr f ↦ subst Low (sym (eqb-true b 62 f)) (record { low = omega arith; utf8 = tag_utf8 })
]

record Last (bs : List ℕ) : Type 0 where
  front : List ℕ
  end : ℕ
  is : bs ≡ front ++ end ∷ []
  ends : Low end

last_of : (b : ℕ) (bs : List ℕ) → AreEnded (b ∷ bs) → Last (b ∷ bs)
last_of b [] e = record { front = []; end = b; is = refl; ends = end_low b e }
last_of b (c ∷ cs) e =
    let l = last_of c cs e in
    record { front = b ∷ l.front; end = l.end; is = ap (λ (xs : List ℕ). b ∷ xs) l.is; ends = l.ends }

behind_low : (front : List ℕ) (end : ℕ) (rest : List ℕ) → Low end → IsUtf8 ((front ++ end ∷ []) ++ rest) → IsUtf8 (front ++ end ∷ []) × IsUtf8 rest
behind_low front end rest l u =
    let both = utf8_around front rest end l.low (subst IsUtf8 (append_assoc front (end ∷ []) rest) u) in
    (IsUtf8-append front (end ∷ []) both.0 l.utf8, both.1)

pub ended_utf8 : (bs rest : List ℕ) → AreEnded bs → IsUtf8 (bs ++ rest) → IsUtf8 bs × IsUtf8 rest
ended_utf8 [] rest e u = (IsUtf8-nil, u)
ended_utf8 (b ∷ bs) rest e u =
    let l = last_of b bs e in
    let both = behind_low l.front l.end rest l.ends (subst (λ (xs : List ℕ). IsUtf8 (xs ++ rest)) l.is u) in
    (subst IsUtf8 (sym l.is) both.0, both.1)

-- ---- behind the sign of a table's end or a rule, or the end of a call

brace_utf8 : IsUtf8 (125 ∷ [])
unfolding lib.Utf8.encode
brace_utf8 = (125 ∷ [], (refl, refl))

hyphen_utf8 : IsUtf8 (45 ∷ [])
unfolding lib.Utf8.encode
hyphen_utf8 = (45 ∷ [], (refl, refl))

sign_low : (b : ℕ) → is_sign_end b ≡ true → Low b
sign_low b e = elim (either (b == 125) (b == 45) e) [
  | inl f ↦ subst Low (sym (eqb-true b 125 f)) (record { low = omega arith; utf8 = brace_utf8 })
  | inr f ↦ subst Low (sym (eqb-true b 45 f)) (record { low = omega arith; utf8 = hyphen_utf8 })
]

last_sign : (b : ℕ) (bs : List ℕ) → EndsBy is_sign_end (b ∷ bs) → Last (b ∷ bs)
last_sign b [] e = record { front = []; end = b; is = refl; ends = sign_low b e }
last_sign b (c ∷ cs) e =
    let l = last_sign c cs e in
    record { front = b ∷ l.front; end = l.end; is = ap (λ (xs : List ℕ). b ∷ xs) l.is; ends = l.ends }

sign_utf8 : (bs rest : List ℕ) → EndsBy is_sign_end bs → IsUtf8 (bs ++ rest) → IsUtf8 bs × IsUtf8 rest
sign_utf8 [] rest e u = (IsUtf8-nil, u)
sign_utf8 (b ∷ bs) rest e u =
    let l = last_sign b bs e in
    let both = behind_low l.front l.end rest l.ends (subst (λ (xs : List ℕ). IsUtf8 (xs ++ rest)) l.is u) in
    (subst IsUtf8 (sym l.is) both.0, both.1)

pub led_utf8 : (bs : List ℕ) (k : TextBlock) (q rest : List ℕ) → IsLedTo bs k q → IsUtf8 (bs ++ rest) → IsUtf8 bs × IsUtf8 rest
led_utf8 bs k q rest (inl l) u = ended_utf8 bs rest l u
led_utf8 bs k q rest (inr l) u = sign_utf8 bs rest (signed_by is_sign_end refl refl bs l.0) u

-- ---- before a line break, or at the page's end

pub there_utf8 : (bs rest : List ℕ) → EndsThere rest → IsUtf8 (bs ++ rest) → IsUtf8 bs × IsUtf8 rest
there_utf8 bs [] e u = (subst IsUtf8 (append-nil bs) u, IsUtf8-nil)
there_utf8 bs (b ∷ rest) e u =
    let P : ℕ → Type 0 = λ (c : ℕ). IsUtf8 (bs ++ c ∷ rest) → IsUtf8 bs × IsUtf8 (c ∷ rest) in
    subst P (sym e) (λ v. let both = utf8_around bs rest 10 (omega arith) v in (both.0, IsUtf8-append (10 ∷ []) rest break_utf8 both.1)) u

-- ---- in a heading

quiet_low : (b : ℕ) (bs : List ℕ) → AreQuiet (b ∷ bs) → b < 128
quiet_low b bs h = each_quiet (λ (c : ℕ). c < 128) (omega arith) (omega arith) (omega arith) b h.0

behind_quiet : (bs rest : List ℕ) → AreQuiet bs → IsUtf8 (bs ++ rest) → IsUtf8 rest
behind_quiet [] rest h u = u
behind_quiet (b ∷ bs) rest h u = let both = utf8_around [] (bs ++ rest) b (quiet_low b bs h) u in behind_quiet bs rest h.1 both.1

round_quiet : (q bs rest : List ℕ) → AreQuiet bs → bs ≢ [] → IsUtf8 (q ++ (bs ++ rest)) → IsUtf8 q × IsUtf8 rest
round_quiet q [] rest h n u = absurd (n refl)
round_quiet q (b ∷ bs) rest h n u =
    let both = utf8_around q (bs ++ rest) b (quiet_low b bs h) u in
    (both.0, behind_quiet bs rest h.1 both.1)

-- what it holds, and what is behind its last `=`
pub heading_utf8 : (s : Sides) (q : List ℕ) → AreBlanks s.lead → AreBlanks s.trail → 1 ≤ s.level → IsUtf8 (source_of (a_heading s) q) → IsUtf8 q × IsUtf8 s.rest
heading_utf8 s q lead trail some u =
    let signs : List ℕ = s.trail ++ equals s.level in
    let quiet : AreQuiet signs = quiet_joined s.trail (equals s.level) (blanks_quiet s.trail trail) (run_quiet s.level) in
    let first : AreQuiet (opening s) = quiet_joined (equals s.level) s.lead (run_quiet s.level) (blanks_quiet s.lead lead) in
    let inside : IsUtf8 (q ++ closing s) = behind_quiet (opening s) (q ++ closing s) first u in
    round_quiet q signs s.rest quiet (some_signs s.trail s.level some)
    (subst (λ (bs : List ℕ). IsUtf8 (q ++ bs)) (sym (append_assoc s.trail (equals s.level) s.rest)) inside)
  where
    none : (n : ℕ) → 1 ≤ n → equals n ≢ []
    none zero le = absurd (omega (arith, le))
    none (suc n) le = λ e. cc

    some_signs : (bs : List ℕ) (n : ℕ) → 1 ≤ n → bs ++ equals n ≢ []
    some_signs [] n le = none n le
    some_signs (b ∷ bs) n le = λ e. cc
