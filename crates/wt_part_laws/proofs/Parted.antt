-- The lexemes of a text are what the scanner reads.
use Rattle.std.proofs.Common.{◌≡◌, ℕ, zero, suc, ◌-◌, Bool, Option, Some, None, List, [], ◌∷◌, ◌++◌, refl, sym, ap, ◌∙◌}
use Rattle.wt_span.specs.declared.form.Mode.{Mode}
use Rattle.wt_span.specs.Bytes.{is_break}
use Rattle.wt_span.specs.Lexemes.{Word, Cut, cuts, cut_with, closed, form_at}
use Rattle.wt_part_laws.specs.Scans as sc
use Rattle.wt_part_laws.proofs.Joins.{scan_joins}
use Rattle.wt_part_laws.specs.Lexer.{lexer}

cut_same : (mode : Mode) (o : Option Word) (f g : ℕ → Cut) → ((n : ℕ) → f n ≡ g n) → cut_with o f ≡ sc.cut_with (lexer mode) o g
unfolding closed
cut_same mode None f g h = let F : Cut → Cut = λ c. (suc c.0, c.1) in ap F (h 0)
cut_same mode (Some w) f g h = let F : Cut → Cut = λ c. (0, w ∷ sc.closed (lexer mode) c.0 c.1) in ap F (h (w.1 - 1))

pub cuts_scan : (mode : Mode) (a : Bool) (n : ℕ) (bs : List ℕ) → cuts mode a n bs ≡ sc.scan (lexer mode) a n bs
cuts_scan mode a n [] = refl
cuts_scan mode a (suc n) (b ∷ bs) = cuts_scan mode (is_break b) n bs
cuts_scan mode a zero (b ∷ bs) =
    cut_same mode (form_at mode a (b ∷ bs)) (λ n. cuts mode (is_break b) n bs) (λ n. sc.scan (lexer mode) (is_break b) n bs)
    (λ n. cuts_scan mode (is_break b) n bs)

pub cuts_join : (mode : Mode) (a : Bool) (n : ℕ) (q rest : List ℕ) → sc.Settles (lexer mode) rest a n q
    → cuts mode a n (q ++ rest) ≡ sc.onto (lexer mode) a n q (cuts mode (sc.after_all (lexer mode) a q) 0 rest)
cuts_join mode a n q rest h =
    cuts_scan mode a n (q ++ rest) ∙ scan_joins (lexer mode) rest a n q h
    ∙ ap (sc.onto (lexer mode) a n q) (sym (cuts_scan mode (sc.after_all (lexer mode) a q) 0 rest))
