-- The lexemes of a text as a scanner.
use Rattle.std.specs.Prelude.{ℕ}
use Rattle.wt_span.specs.declared.form.Mode.{Mode}
use Rattle.wt_span.specs.declared.form.LexKind.TheVariants.{Chars}
use Rattle.wt_span.specs.Bytes.{is_break}
use Rattle.wt_span.specs.Lexemes.{Word, form_at}
use Rattle.wt_part_laws.specs.Scans.{Scanner}

abbrev pub lexer : Mode → Scanner ℕ Word
lexer mode = record { form = form_at mode; size = λ w. w.1; run = λ n. (Chars, n); mark = is_break }
