-- The lexemes of what is left of a text: one character more, one form more.
use Rattle.std.proofs.Common.{◌≡◌, ℕ, zero, suc, ◌+◌, ◌-◌, ◌<◌, ◌≤◌, ◌==◌, Bool, true, false, Option, Some, None, List, [], ◌∷◌, ◌++◌, length, get_or, drop, nat_lt, refl, sym, ap, ◌∙◌, subst, ⊎_elim, arith, append_assoc}
use Rattle.std.specs.Prelude.{if◌then◌else◌}
use Rattle.std.proofs.lemmas.Bool.Decides.{nat_tests}
use Rattle.std.proofs.lemmas.Bool.{cases_lt}
use Rattle.std.proofs.lemmas.List.{drop_more, drop_all}
use Rattle.wt_span.specs.declared.form.Mode.{Mode}
use Rattle.wt_span.specs.declared.form.LexKind.TheVariants.{Chars}
use Rattle.wt_span.specs.Bytes.{is_break}
use Rattle.wt_span.specs.Lexemes.{Word, Cut, cuts, cut_with, closed, words, form_at}
use Rattle.wt_lex.specs.Words.{after_break}

closed_if : (t : Bool) (n : ℕ) (ws : List Word) → (if t then ws else (Chars, n) ∷ ws) ≡ (if t then [] else (Chars, n) ∷ []) ++ ws
closed_if true n ws = refl
closed_if false n ws = refl

pub closed_split : (n : ℕ) (ws : List Word) → closed n ws ≡ closed n [] ++ ws
unfolding closed
closed_split n ws = closed_if (n == 0) n ws

-- the line break before the next place is the byte at this one
pub after_next : (text : List ℕ) (at : ℕ) → after_break text (at + 1) ≡ is_break (get_or text at 0)
after_next text at =
    let e : at + 1 - 1 ≡ at = omega arith in
    let p : nat_lt 0 (at + 1) ≡ true = grind (arith, nat_tests) in
    rw (e, p) refl

-- what is left of the text from a place on
abbrev pub left : Mode → List ℕ → ℕ → Cut
left mode text at = cuts mode (after_break text at) 0 (drop at text)

nil_cuts : (mode : Mode) (a b : Bool) (n m : ℕ) → cuts mode a n [] ≡ cuts mode b m []
nil_cuts mode a b n m = refl

past : (mode : Mode) (text : List ℕ) (a b : Bool) (at n m : ℕ) → length text ≤ at → length text ≤ m → cuts mode a n (drop at text) ≡ cuts mode b 0 (drop m text)
past mode text a b at n m h g = ap (cuts mode a n) (drop_all at text h) ∙ nil_cuts mode a b n 0 ∙ ap (cuts mode b 0) (sym (drop_all m text g))

-- a form's bytes are skipped
pub skipped : (mode : Mode) (text : List ℕ) (n at : ℕ) → cuts mode (after_break text at) n (drop at text) ≡ left mode text (at + n)
skipped mode text zero at = let z : at + 0 ≡ at = omega arith in ap (left mode text) (sym z)
skipped mode text (suc n) at =
    ⊎_elim
    (λ h.
    let there : at + 1 + n ≡ at + suc n = omega arith in
    ap (cuts mode (after_break text at) (suc n)) (drop_more text at 0 h)
    ∙ ap (λ (t : Bool). cuts mode t n (drop (at + 1) text)) (sym (after_next text at))
    ∙ skipped mode text n (at + 1) ∙ ap (left mode text) there)
    (λ h. past mode text (after_break text at) (after_break text (at + suc n)) at (suc n) (at + suc n) h (omega arith))
    (cases_lt at (length text))

with_same : (o : Option Word) (f g : ℕ → Cut) → ((n : ℕ) → f n ≡ g n) → cut_with o f ≡ cut_with o g
with_same None f g h = let F : Cut → Cut = λ c. (suc c.0, c.1) in ap F (h 0)
with_same (Some w) f g h = let F : Cut → Cut = λ c. (0, w ∷ closed c.0 c.1) in ap F (h (w.1 - 1))

pub cuts_cons : (mode : Mode) (a : Bool) (b : ℕ) (bs : List ℕ) (o : Option Word) → form_at mode a (b ∷ bs) ≡ o
    → cuts mode a 0 (b ∷ bs) ≡ cut_with o (λ n. cuts mode (is_break b) n bs)
cuts_cons mode a b bs o e = ap (λ o. cut_with o (λ n. cuts mode (is_break b) n bs)) e

-- the text from a place on, by the form that begins there
pub cuts_more : (mode : Mode) (text : List ℕ) (at : ℕ) (o : Option Word) → at < length text → form_at mode (after_break text at) (drop at text) ≡ o
    → left mode text at ≡ cut_with o (λ n. left mode text (at + 1 + n))
cuts_more mode text at o h e =
    let d = drop_more text at 0 h in
    ap (cuts mode (after_break text at) 0) d
    ∙ cuts_cons mode (after_break text at) (get_or text at 0) (drop (at + 1) text) o (ap (form_at mode (after_break text at)) (sym d) ∙ e)
    ∙ with_same o _ _ (λ n. ap (λ (t : Bool). cuts mode t n (drop (at + 1) text)) (sym (after_next text at)) ∙ skipped mode text n (at + 1))

-- one more character
pub char_more : (mode : Mode) (text : List ℕ) (from at : ℕ) (done : List Word) → at < length text → from ≤ at
    → form_at mode (after_break text at) (drop at text) ≡ None
    → done ++ closed ((at - from) + (left mode text at).0) (left mode text at).1 ≡ words mode text
    → done ++ closed ((at + 1 - from) + (left mode text (at + 1)).0) (left mode text (at + 1)).1 ≡ words mode text
char_more mode text from at done h le e had =
    let c = cuts_more mode text at None h e in
    let z : at + 1 + 0 ≡ at + 1 = omega arith in
    let s : (at - from) + (suc (left mode text (at + 1)).0) ≡ (at + 1 - from) + (left mode text (at + 1)).0 = omega arith in
    ap (λ (m : ℕ). done ++ closed m (left mode text (at + 1)).1) (sym s)
    ∙ ap (λ (m : ℕ). done ++ closed ((at - from) + (suc (left mode text m).0)) (left mode text m).1) (sym z)
    ∙ ap (λ (x : Cut). done ++ closed ((at - from) + x.0) x.1) (sym c) ∙ had

-- one more form
pub form_more : (mode : Mode) (text : List ℕ) (old mid new : List Word) (from at : ℕ) (w : Word) → at < length text → 0 < w.1
    → form_at mode (after_break text at) (drop at text) ≡ Some w
    → mid ≡ old ++ closed (at - from) [] → new ≡ mid ++ w ∷ []
    → old ++ closed ((at - from) + (left mode text at).0) (left mode text at).1 ≡ words mode text
    → new ++ closed ((at + w.1 - (at + w.1)) + (left mode text (at + w.1)).0) (left mode text (at + w.1)).1 ≡ words mode text
form_more mode text old mid new from at w h pos e mids news had =
    let c = cuts_more mode text at (Some w) h e in
    let z : at + 1 + (w.1 - 1) ≡ at + w.1 = omega arith in
    let n : (at + w.1 - (at + w.1)) + (left mode text (at + w.1)).0 ≡ (left mode text (at + w.1)).0 = omega arith in
    let k : (at - from) + 0 ≡ at - from = omega arith in
    let rest : List Word = closed (left mode text (at + w.1)).0 (left mode text (at + w.1)).1 in
    let front : new ≡ (old ++ closed (at - from) []) ++ w ∷ [] = news ∙ ap (λ ws. ws ++ w ∷ []) mids in
    let back : closed ((at - from) + (left mode text at).0) (left mode text at).1 ≡ closed (at - from) [] ++ (w ∷ rest) =
    ap (λ (x : Cut). closed ((at - from) + x.0) x.1) c
    ∙ ap (λ (m : ℕ). closed m (w ∷ closed (left mode text (at + 1 + (w.1 - 1))).0 (left mode text (at + 1 + (w.1 - 1))).1)) k
    ∙ ap (λ (m : ℕ). closed (at - from) (w ∷ closed (left mode text m).0 (left mode text m).1)) z ∙ closed_split (at - from) (w ∷ rest) in
    ap (λ (m : ℕ). new ++ closed m (left mode text (at + w.1)).1) n ∙ ap (λ ws. ws ++ rest) front
    ∙ append_assoc (old ++ closed (at - from) []) (w ∷ []) rest ∙ append_assoc old (closed (at - from) []) (w ∷ rest)
    ∙ ap (λ ws. old ++ ws) (sym back) ∙ had

-- nothing is left
pub none_left : (mode : Mode) (text : List ℕ) (from at : ℕ) (old new : List Word) → length text ≤ at → new ≡ old ++ closed (at - from) []
    → old ++ closed ((at - from) + (left mode text at).0) (left mode text at).1 ≡ words mode text → new ≡ words mode text
none_left mode text from at old new h news had =
    let c : left mode text at ≡ (0, []) = ap (cuts mode (after_break text at) 0) (drop_all at text h) in
    let k : (at - from) + 0 ≡ at - from = omega arith in
    news ∙ ap (λ (m : ℕ). old ++ closed m []) (sym k) ∙ ap (λ (x : Cut). old ++ closed ((at - from) + x.0) x.1) (sym c) ∙ had

-- all is left
pub all_left : (mode : Mode) (text : List ℕ) → closed (0 + (left mode text 0).0) (left mode text 0).1 ≡ words mode text
unfolding words
all_left mode text = let z : 0 + (left mode text 0).0 ≡ (left mode text 0).0 = omega arith in ap (λ (m : ℕ). closed m (left mode text 0).1) z

-- more characters, at which no form may begin
pub chars_more : (mode : Mode) (text : List ℕ) (from at n : ℕ) (done : List Word) → at + n ≤ length text → from ≤ at
    → ((k : ℕ) → at ≤ k → k < at + n → form_at mode (after_break text k) (drop k text) ≡ None)
    → done ++ closed ((at - from) + (left mode text at).0) (left mode text at).1 ≡ words mode text
    → done ++ closed ((at + n - from) + (left mode text (at + n)).0) (left mode text (at + n)).1 ≡ words mode text
chars_more mode text from at zero done h le none had =
    let z : at ≡ at + 0 = omega arith in
    let P : ℕ → Type 0 = λ m. done ++ closed ((m - from) + (left mode text m).0) (left mode text m).1 ≡ words mode text in
    subst P z had
chars_more mode text from at (suc n) done h le none had =
    let z : at + 1 + n ≡ at + suc n = omega arith in
    let P : ℕ → Type 0 = λ m. done ++ closed ((m - from) + (left mode text m).0) (left mode text m).1 ≡ words mode text in
    subst P z
    (chars_more mode text from (at + 1) n done (omega arith) (omega arith) (λ k low high. none k (omega arith) (omega arith))
    (char_more mode text from at done (omega arith) le (none at (omega arith) (omega arith)) had))
