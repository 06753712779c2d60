-- The table of kinds, row by row.
use Rattle.std.proofs.Common.{◌≡◌, ℕ, ◌==◌, Bool, true, false, Some, None, List, [], ◌∷◌, ◌++◌, length, refl, sym, ap, ◌∙◌, nat_lt}
use Rattle.std.specs.Prelude.{codes, reverse, if◌then◌else◌}
use Rattle.std.specs.Option.{unwrap_or, option_or}
use Rattle.wt_span.specs.Bytes.{begins}
use Rattle.wt_lines.specs.declared.kind.LineKind.{LineKind}
use Rattle.wt_lines.specs.declared.kind.LineKind.TheVariants as kind
use Rattle.wt_lines.specs.Kinds.{first_of, open_kind, table_rows, text_rows, kind_of_signs, past, is_idle, is_mark_sign}

first_by : (rows others : List (Bool × LineKind)) → first_of (rows ++ others) ≡ option_or (first_of rows) (first_of others)
first_by [] others = refl
first_by ((true, k) ∷ rows) others = refl
first_by ((false, k) ∷ rows) others = first_by rows others

pub kind_blank : (tables : ℕ) (ss sign : List ℕ) → sign ≡ past is_idle ss → (length sign == 0) ≡ true → kind_of_signs tables ss ≡ kind.Blank
unfolding kind_of_signs
kind_blank tables ss sign s e = let h = ap (λ (cs : List ℕ). length cs == 0) (sym s) ∙ e in rw h refl

pub kind_open : (tables : ℕ) (ss sign : List ℕ) → sign ≡ past is_idle ss → (length sign == 0) ≡ false
    → begins (codes "{|") sign ≡ true → kind_of_signs tables ss ≡ open_kind tables
unfolding kind_of_signs
kind_open tables ss sign s e f =
    let h = ap (λ (cs : List ℕ). length cs == 0) (sym s) ∙ e in
    let g = ap (λ (cs : List ℕ). begins (codes "{|") cs) (sym s) ∙ f in
    rw (h, g) refl

-- the rows in a table
abbrev in_table : ℕ → List ℕ → List (Bool × LineKind)
in_table tables sign = if nat_lt 0 tables then table_rows sign else []

kind_rest : (tables : ℕ) (ss sign : List ℕ) → sign ≡ past is_idle ss → (length sign == 0) ≡ false → begins (codes "{|") sign ≡ false
    → kind_of_signs tables ss ≡ unwrap_or (option_or (first_of (in_table tables sign))
    (first_of (text_rows (past is_mark_sign ss) (past is_idle (reverse ss))))) kind.Text
unfolding kind_of_signs
kind_rest tables ss sign s e f =
    let h = ap (λ (cs : List ℕ). length cs == 0) (sym s) ∙ e in
    let g = ap (λ (cs : List ℕ). begins (codes "{|") cs) (sym s) ∙ f in
    let rows = text_rows (past is_mark_sign ss) (past is_idle (reverse ss)) in
    rw (h, g) (ap (λ o. unwrap_or o kind.Text) (first_by (in_table tables (past is_idle ss)) rows
    ∙ ap (λ cs. option_or (first_of (in_table tables cs)) (first_of rows)) (sym s)))

pub kind_in_table : (tables : ℕ) (ss sign : List ℕ) (k : LineKind) → sign ≡ past is_idle ss → (length sign == 0) ≡ false → begins (codes "{|") sign ≡ false
    → first_of (in_table tables sign) ≡ Some k → kind_of_signs tables ss ≡ k
kind_in_table tables ss sign k s e f h =
    kind_rest tables ss sign s e f ∙ ap (λ o. unwrap_or (option_or o (first_of (text_rows (past is_mark_sign ss) (past is_idle (reverse ss))))) kind.Text) h

pub kind_of_text : (tables : ℕ) (ss sign first last : List ℕ) → sign ≡ past is_idle ss → (length sign == 0) ≡ false → begins (codes "{|") sign ≡ false
    → first_of (in_table tables sign) ≡ None → first ≡ past is_mark_sign ss → last ≡ past is_idle (reverse ss)
    → kind_of_signs tables ss ≡ unwrap_or (first_of (text_rows first last)) kind.Text
kind_of_text tables ss sign first last s e f h a b =
    kind_rest tables ss sign s e f ∙ ap (λ o. unwrap_or (option_or o (first_of (text_rows (past is_mark_sign ss) (past is_idle (reverse ss))))) kind.Text) h
    ∙ ap (λ cs. unwrap_or (first_of (text_rows cs (past is_idle (reverse ss)))) kind.Text) (sym a)
    ∙ ap (λ cs. unwrap_or (first_of (text_rows first cs)) kind.Text) (sym b)
