-- Characters at which no form may begin are passed over.
use Rattle.std.proofs.Common.{◌≡◌, ℕ, ◌+◌, ◌-◌, ◌<◌, ◌≤◌, ◌++◌, false, None, List, length, get_or, drop, ap, ◌∙◌, subst, arith}
use Rattle.std.proofs.lemmas.List.{get_or-drop}
use Rattle.wt_span.specs.declared.form.Mode.{Mode}
use Rattle.wt_span.specs.Lexemes.{Word, closed, words, form_at}
use Rattle.wt_lex.specs.Words.{after_break, may_begin}
use Rattle.wt_lex.proofs.AllForms.{no_form}
use Rattle.wt_lex.proofs.Cuts.{left, chars_more}

no_form_at : (mode : Mode) (text : List ℕ) (at : ℕ) → may_begin (after_break text at) (get_or text at 0) ≡ false
    → form_at mode (after_break text at) (drop at text) ≡ None
no_form_at mode text at h =
    let z : at + 0 ≡ at = omega arith in
    no_form mode (after_break text at) (drop at text) (ap (may_begin (after_break text at)) (get_or-drop at text 0 0 ∙ ap (λ k. get_or text k 0) z) ∙ h)

-- the lexemes so far and those of what is left are the lexemes of the text
abbrev pub Done : Mode → List ℕ → List Word → ℕ → ℕ → Type 0
Done mode text done from at = done ++ closed ((at - from) + (left mode text at).0) (left mode text at).1 ≡ words mode text

pub passed : (mode : Mode) (text bytes : List ℕ) (done : List Word) (from at to : ℕ) → bytes ≡ text → from ≤ at → at ≤ to → to ≤ length bytes
    → ((k : ℕ) → at ≤ k → k < to → may_begin (after_break bytes k) (get_or bytes k 0) ≡ false) → Done mode text done from at → Done mode text done from to
passed mode text bytes done from at to same le up end none had =
    let there : at + (to - at) ≡ to = omega arith in
    let N : List ℕ → Type 0 = λ t. (k : ℕ) → at ≤ k → k < to → may_begin (after_break t k) (get_or t k 0) ≡ false in
    let free = subst N same none in
    subst (Done mode text done from) there
    (chars_more mode text from at (to - at) done (omega (arith, ap length same)) le (λ k low high. no_form_at mode text k (free k low (omega arith))) had)
