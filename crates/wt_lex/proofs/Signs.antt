-- Signs by their first byte: at most one of them begins a text.
use Rattle.std.proofs.Common.{◌≡◌, ℕ, ◌<◌, ◌==◌, Bool, true, false, Option, Some, None, List, length, get_or, nat_lt, refl, ap, ◌∙◌, arith, codes}
use Rattle.std.specs.Prelude.{if◌then◌else◌}
use Rattle.std.specs.Option.{option_or}
use Rattle.std.specs.List.{prefix_len}
use Rattle.std.proofs.lemmas.Bool.{eqb-true}
use Rattle.std.proofs.lemmas.List.Sums.{prefix_len_passes}
use Rattle.wt_span.specs.declared.form.LexKind.{LexKind}
use Rattle.wt_span.specs.declared.form.LexKind.TheVariants.{Opens, Closes, LinkOpen, LinkClose, Pipe, Equals}
use Rattle.wt_span.specs.Bytes.{begins}
use Rattle.wt_span.specs.Lexemes.{Word, run_at, sign_at, sign_word}
use Rattle.wt_lex.proofs.Begins.{lt_is, begins_get}

none_if : (t : Bool) (w : Word) → (t ≡ true → ⊥) → (if t then Some w else None) ≡ None
none_if true w f = absurd (f refl)
none_if false w f = refl

run_none : (kind : LexKind) (byte : ℕ) (bs : List ℕ) → (get_or bs 0 0 ≡ byte → ⊥) → run_at kind byte bs ≡ None
run_none kind byte bs differs =
    let n = prefix_len (λ b. b == byte) bs in
    none_if (nat_lt 1 n) (kind, n) (λ e. let more = lt_is 1 n e in
    differs (eqb-true (get_or bs 0 0) byte (prefix_len_passes (λ b. b == byte) bs 0 0 (omega arith))))

sign_none : (kind : LexKind) (sign : List ℕ) (n : ℕ) (bs : List ℕ) → 0 < length sign → (get_or bs 0 0 ≡ get_or sign 0 0 → ⊥) → sign_at kind sign n bs ≡ None
sign_none kind sign n bs pos differs = none_if (begins sign bs) (kind, n) (λ e. differs (begins_get sign bs e 0 pos))

or_left : (a b : Option Word) → b ≡ None → option_or a b ≡ a
or_left None b e = e
or_left (Some w) b e = refl

or_right : (a b : Option Word) → a ≡ None → option_or a b ≡ b
or_right a b e = ap (λ o. option_or o b) e

five : (a b c d e : Option Word) → a ≡ None → b ≡ None → c ≡ None → d ≡ None → e ≡ None → option_or a (option_or b (option_or c (option_or d e))) ≡ None
five a b c d e ha hb hc hd he = or_right a _ ha ∙ or_right b _ hb ∙ or_right c _ hc ∙ or_right d e hd ∙ he

opens_none : (bs : List ℕ) → (get_or bs 0 0 ≡ 123 → ⊥) → run_at Opens 123 bs ≡ None
opens_none bs h = run_none Opens 123 bs h

closes_none : (bs : List ℕ) → (get_or bs 0 0 ≡ 125 → ⊥) → run_at Closes 125 bs ≡ None
closes_none bs h = run_none Closes 125 bs h

link_open_none : (bs : List ℕ) → (get_or bs 0 0 ≡ 91 → ⊥) → sign_at LinkOpen (codes "[[") 2 bs ≡ None
link_open_none bs h = sign_none LinkOpen (codes "[[") 2 bs (omega arith) h

link_close_none : (bs : List ℕ) → (get_or bs 0 0 ≡ 93 → ⊥) → sign_at LinkClose (codes "]]") 2 bs ≡ None
link_close_none bs h = sign_none LinkClose (codes "]]") 2 bs (omega arith) h

pipe_none : (bs : List ℕ) → (get_or bs 0 0 ≡ 124 → ⊥) → sign_at Pipe (codes "|") 1 bs ≡ None
pipe_none bs h = sign_none Pipe (codes "|") 1 bs (omega arith) h

equals_none : (bs : List ℕ) → (get_or bs 0 0 ≡ 61 → ⊥) → sign_at Equals (codes "=") 1 bs ≡ None
equals_none bs h = sign_none Equals (codes "=") 1 bs (omega arith) h

pub opens_alone : (bs : List ℕ) → get_or bs 0 0 ≡ 123 → sign_word bs ≡ run_at Opens 123 bs
unfolding sign_word
opens_alone bs e =
    or_left (run_at Opens 123 bs) _ (five _ _ _ _ _ (closes_none bs (λ h. omega arith)) (link_open_none bs (λ h. omega arith))
    (link_close_none bs (λ h. omega arith)) (pipe_none bs (λ h. omega arith)) (equals_none bs (λ h. omega arith)))

pub closes_alone : (bs : List ℕ) → get_or bs 0 0 ≡ 125 → sign_word bs ≡ run_at Closes 125 bs
unfolding sign_word
closes_alone bs e =
    or_right (run_at Opens 123 bs) _ (opens_none bs (λ h. omega arith))
    ∙ or_left (run_at Closes 125 bs) _
    (or_right _ _ (link_open_none bs (λ h. omega arith)) ∙ or_right _ _ (link_close_none bs (λ h. omega arith))
    ∙ or_right _ _ (pipe_none bs (λ h. omega arith)) ∙ equals_none bs (λ h. omega arith))

pub link_open_alone : (bs : List ℕ) → get_or bs 0 0 ≡ 91 → sign_word bs ≡ sign_at LinkOpen (codes "[[") 2 bs
unfolding sign_word
link_open_alone bs e =
    or_right (run_at Opens 123 bs) _ (opens_none bs (λ h. omega arith)) ∙ or_right (run_at Closes 125 bs) _ (closes_none bs (λ h. omega arith))
    ∙ or_left (sign_at LinkOpen (codes "[[") 2 bs) _
    (or_right _ _ (link_close_none bs (λ h. omega arith)) ∙ or_right _ _ (pipe_none bs (λ h. omega arith))
    ∙ equals_none bs (λ h. omega arith))

pub link_close_alone : (bs : List ℕ) → get_or bs 0 0 ≡ 93 → sign_word bs ≡ sign_at LinkClose (codes "]]") 2 bs
unfolding sign_word
link_close_alone bs e =
    or_right (run_at Opens 123 bs) _ (opens_none bs (λ h. omega arith)) ∙ or_right (run_at Closes 125 bs) _ (closes_none bs (λ h. omega arith))
    ∙ or_right (sign_at LinkOpen (codes "[[") 2 bs) _ (link_open_none bs (λ h. omega arith))
    ∙ or_left (sign_at LinkClose (codes "]]") 2 bs) _ (or_right _ _ (pipe_none bs (λ h. omega arith)) ∙ equals_none bs (λ h. omega arith))

pub pipe_alone : (bs : List ℕ) → get_or bs 0 0 ≡ 124 → sign_word bs ≡ sign_at Pipe (codes "|") 1 bs
unfolding sign_word
pipe_alone bs e =
    or_right (run_at Opens 123 bs) _ (opens_none bs (λ h. omega arith)) ∙ or_right (run_at Closes 125 bs) _ (closes_none bs (λ h. omega arith))
    ∙ or_right (sign_at LinkOpen (codes "[[") 2 bs) _ (link_open_none bs (λ h. omega arith))
    ∙ or_right (sign_at LinkClose (codes "]]") 2 bs) _ (link_close_none bs (λ h. omega arith))
    ∙ or_left (sign_at Pipe (codes "|") 1 bs) _ (equals_none bs (λ h. omega arith))

pub equals_alone : (bs : List ℕ) → get_or bs 0 0 ≡ 61 → sign_word bs ≡ sign_at Equals (codes "=") 1 bs
unfolding sign_word
equals_alone bs e =
    or_right (run_at Opens 123 bs) _ (opens_none bs (λ h. omega arith)) ∙ or_right (run_at Closes 125 bs) _ (closes_none bs (λ h. omega arith))
    ∙ or_right (sign_at LinkOpen (codes "[[") 2 bs) _ (link_open_none bs (λ h. omega arith))
    ∙ or_right (sign_at LinkClose (codes "]]") 2 bs) _ (link_close_none bs (λ h. omega arith))
    ∙ or_right (sign_at Pipe (codes "|") 1 bs) _ (pipe_none bs (λ h. omega arith))

pub no_sign : (bs : List ℕ) → (get_or bs 0 0 ≡ 123 → ⊥) → (get_or bs 0 0 ≡ 125 → ⊥) → (get_or bs 0 0 ≡ 91 → ⊥)
    → (get_or bs 0 0 ≡ 93 → ⊥) → (get_or bs 0 0 ≡ 124 → ⊥) → (get_or bs 0 0 ≡ 61 → ⊥) → sign_word bs ≡ None
unfolding sign_word
no_sign bs a b c d e f = or_right (run_at Opens 123 bs) _ (opens_none bs a)
    ∙ five _ _ _ _ _ (closes_none bs b) (link_open_none bs c) (link_close_none bs d) (pipe_none bs e) (equals_none bs f)
