use Rattle.std.proofs.Common.{◌+◌, ◌∙◌, sym, ap, arith, eq-eqb}
use Rattle.std.proofs.lemmas.Bool.{ne_eqb}
use Rattle.wt_lint.proofs.LineLaws.{column_few, first_column, line_few, next_column, next_line, same_line}
use Rattle.wt_lint.proofs.cursor.Cursor.stepped.Goals as goal

pub overflow_add-result-then-page-self-eq10 : goal.overflow_add-result-then-page-self-eq10
overflow_add-result-then-page-self-eq10 c =
    omega (arith, c.requires.is.line, c.requires.room, line_few c.args.page.now c.args.self.at)

pub overflow_add-result-else-page-self-eq10-2 : goal.overflow_add-result-else-page-self-eq10-2
overflow_add-result-else-page-self-eq10-2 c =
    omega (arith, c.requires.is.column, c.requires.room, column_few c.args.page.now c.args.self.at)

pub returns-then-page-self-eq10-clause-is : goal.returns-then-page-self-eq10-clause-is
returns-then-page-self-eq10-clause-is c = record {
  line = ap (λ n. n + 1) c.requires.is.line ∙ sym (next_line c.args.page.now c.args.self.at c.requires.within (eq-eqb _ 10 c.if-page-self-eq10.true));
  column = sym (first_column c.args.page.now c.args.self.at c.requires.within (eq-eqb _ 10 c.if-page-self-eq10.true));
}

pub returns-else-page-self-eq10-clause-is : goal.returns-else-page-self-eq10-clause-is
returns-else-page-self-eq10-clause-is c = record {
  line = c.requires.is.line ∙ sym (same_line c.args.page.now c.args.self.at c.requires.within (ne_eqb _ 10 c.if-page-self-eq10.false));
  column = ap (λ n. n + 1) c.requires.is.column ∙ sym (next_column c.args.page.now c.args.self.at c.requires.within (ne_eqb _ 10 c.if-page-self-eq10.false));
}
