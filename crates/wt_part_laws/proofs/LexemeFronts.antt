-- A lexeme that fits into a front of a text is read of the front alone.
use Rattle.std.proofs.Common.{◌≡◌, ℕ, Bool, Option, Some, None, List, ◌++◌, length, take, subst}
use Rattle.std.proofs.Math.Seq.{take-append_seam}
use Rattle.wt_span.specs.declared.form.Mode.{Mode}
use Rattle.wt_span.specs.Lexemes.{Word, cuts, form_at}
use Rattle.wt_braces.proofs.FrontForms.{IsFront, pair_size}
use Rattle.wt_braces.proofs.FrontTags.{form_front}
use Rattle.wt_part_laws.specs.Lexer.{lexer}
use Rattle.wt_part_laws.specs.Scans.{after_all, onto, Passes, IsFrontOf, HasFronts}
use Rattle.wt_part_laws.proofs.Joins.{passes_settle}
use Rattle.wt_part_laws.proofs.Parted.{cuts_join}

as_front : (mode : Mode) (q : List ℕ) (o p : Option Word) → IsFront pair_size (length q) o p → IsFrontOf (lexer mode) q o p
as_front mode q None p h = h
as_front mode q (Some w) p h = h

pub lexemes_front : (mode : Mode) → HasFronts (lexer mode)
lexemes_front mode a q rest =
    let P : List ℕ → Type 0 = λ xs. IsFrontOf (lexer mode) q (form_at mode a (q ++ rest)) (form_at mode a xs) in
    subst P (take-append_seam q rest)
    (as_front mode q (form_at mode a (q ++ rest)) (form_at mode a (take (length q) (q ++ rest))) (form_front mode a (q ++ rest) (length q)))

pub uncrossed_join : (mode : Mode) (a : Bool) (n : ℕ) (q rest : List ℕ) → Passes (lexer mode) rest a n q
    → cuts mode a n (q ++ rest) ≡ onto (lexer mode) a n q (cuts mode (after_all (lexer mode) a q) 0 rest)
uncrossed_join mode a n q rest h = cuts_join mode a n q rest (passes_settle (lexer mode) rest a n q (lexemes_front mode) h)
