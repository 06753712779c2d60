use Rattle.std.proofs.Common.{List, drop, sym, ap, ◌∙◌, subst}
use Rattle.wt_span.specs.declared.form.Piece.{Piece}
use Rattle.wt_span.specs.Items.{items}
use Rattle.wt_lines.specs.Lines.{full_lines, content}
use Rattle.wt_page.specs.Lines.{kind_at}
use Rattle.wt_tables.proofs.Steps.{few_after}
use Rattle.wt_rows.specs.Unread.{left}
use Rattle.wt_rows.specs.Building.{AreWhole, made_rows}
use Rattle.wt_rows.proofs.LineCuts.{line_unbroken}
use Rattle.wt_rows.proofs.LinesBehind.{has_line, rows_behind, portion_more}
use Rattle.wt_rows.proofs.Portions.{count_step}
use Rattle.wt_rows.proofs.portion.Portion.with_line.Goals as goal

pub line_kind-kind-requires : goal.line_kind-kind-requires
line_kind-kind-requires c =
    subst AreWhole (ap (λ n. drop n c.in_ok-pieces.pieces) (sym c.len-start.ensures) ∙ ap (drop c.len-start.result) (sym c.as_slice.ensures)
    ∙ sym c.rest_of.ensures) c.in_ok-pieces.ensures.whole

pub with_line_from-requires : goal.with_line_from-requires
with_line_from-requires c =
    let line = ap (λ (qs : List Piece). kind_at c.args.self.tables (items qs)) (c.rest_of.ensures ∙ ap (drop c.len-start.result) c.as_slice.ensures
    ∙ ap (λ n. drop n c.in_ok-pieces.pieces) c.len-start.ensures) in
    record {
      line = has_line c.line_kind-kind.result c.args.self.made.pieces c.in_ok-pieces.pieces c.args.self.made.rows c.len-start.result
          c.requires.portion.rows_ready c.in_ok-pieces.ensures.kept c.len-start.ensures c.in_ok-pieces.ensures.whole
          (line_unbroken (items (left c.args.self.rest)) _ (full_lines (items (left c.in_ok-pieces.after))) c.in_ok-pieces.ensures.cut)
          (c.args.self.tables, c.line_kind-kind.ensures ∙ line);
    }

pub returns-clause-portion_after : goal.returns-clause-portion_after
returns-clause-portion_after c =
    let more = rows_behind c.line_kind-kind.result c.args.self.made.pieces c.in_ok-pieces.pieces c.args.self.made.rows c.len-start.result
    (made_rows c.in_ok-made.made) c.in_ok-pieces.ensures.kept c.len-start.ensures c.in_ok-made.ensures.rows in
    record {
      few = few_after c.args.self.tables c.behind.result c.line_kind-kind.result (content (items c.rest_of.result.now)) c.requires.portion.few
          c.line_kind-kind.ensures c.behind.ensures;
      rows_ready = c.in_ok-made.ensures.made_after;
      count = count_step (made_rows c.args.self.made) (made_rows c.in_ok-made.made) c.args.self.tables c.behind.result c.line_kind-kind.result
          _ more c.requires.portion.count c.behind.ensures;
      sound = c.in_ok-pieces.ensures.sound_after;
    }

pub returns-clause-all : goal.returns-clause-all
returns-clause-all c all so_far =
    let more = rows_behind c.line_kind-kind.result c.args.self.made.pieces c.in_ok-pieces.pieces c.args.self.made.rows c.len-start.result
    (made_rows c.in_ok-made.made) c.in_ok-pieces.ensures.kept c.len-start.ensures c.in_ok-made.ensures.rows in
    let line = ap (λ (qs : List Piece). kind_at c.args.self.tables (items qs)) (c.rest_of.ensures ∙ ap (drop c.len-start.result) c.as_slice.ensures
    ∙ ap (λ n. drop n c.in_ok-pieces.pieces) c.len-start.ensures) in
    portion_more c.line_kind-kind.result (made_rows c.args.self.made) (made_rows c.in_ok-made.made) all c.args.self.tables c.behind.result _
    (left c.args.self.rest) (left c.in_ok-pieces.after) more (c.line_kind-kind.ensures ∙ line) c.behind.ensures c.in_ok-pieces.ensures.cut so_far
