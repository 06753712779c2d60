use Rattle.std.proofs.Common.{◌≡◌, sym, ap, ◌∙◌, map}
use Rattle.std.specs.Prelude.{reverse}
use Rattle.wt_span.specs.Items.{sign, items}
use Rattle.wt_lines.specs.Kinds.{is_idle, is_mark_sign, past}
use Rattle.wt_lines.specs.Signs.{left, right}
use Rattle.wt_lines.proofs.KindRows.{kind_blank, kind_open, kind_in_table, kind_of_text}
use Rattle.wt_lines.proofs.kind.kind_of_pieces.Goals as goal

pub returns-then-is_empty : goal.returns-then-is_empty
returns-then-is_empty c =
    let ss = map sign (items c.args.pieces.now) in
    let all : left c.of-all.result ≡ ss = c.of-all.ensures in
    sym (kind_blank c.args.tables ss (left c.past_idle-sign.result) (c.past_idle-sign.ensures ∙ ap (past is_idle) all)
    (sym c.is_empty.ensures ∙ c.if-is_empty.true))

pub returns-then-begins : goal.returns-then-begins
returns-then-begins c =
    let ss = map sign (items c.args.pieces.now) in
    let all : left c.of-all.result ≡ ss = c.of-all.ensures in
    c.open_kind.ensures ∙ sym (kind_open c.args.tables ss (left c.past_idle-sign.result)
    (c.past_idle-sign.ensures ∙ ap (past is_idle) all) (sym c.is_empty.ensures ∙ c.if-is_empty.false)
    (sym c.begins.ensures ∙ c.if-begins.true))

pub returns-in-Some : goal.returns-in-Some
returns-in-Some c =
    let ss = map sign (items c.args.pieces.now) in
    let all : left c.of-all.result ≡ ss = c.of-all.ensures in
    sym (kind_in_table c.args.tables ss (left c.past_idle-sign.result) c.in-Some.kind
    (c.past_idle-sign.ensures ∙ ap (past is_idle) all) (sym c.is_empty.ensures ∙ c.if-is_empty.false)
    (sym c.begins.ensures ∙ c.if-begins.false) (sym c.table_kind.ensures ∙ c.in-Some.is))

pub returns-in-None : goal.returns-in-None
returns-in-None c =
    let ss = map sign (items c.args.pieces.now) in
    let all : left c.of-all.result ≡ ss = c.of-all.ensures in
    let back : right c.of.result ≡ reverse ss = c.of.ensures in
    c.text_kind.ensures
    ∙ sym (kind_of_text c.args.tables ss (left c.past_idle-sign.result) (left c.past_marks.result)
    (past is_idle (right c.of.result)) (c.past_idle-sign.ensures ∙ ap (past is_idle) all)
    (sym c.is_empty.ensures ∙ c.if-is_empty.false) (sym c.begins.ensures ∙ c.if-begins.false) (sym c.table_kind.ensures ∙ c.in-None.is)
    (c.past_marks.ensures ∙ ap (past is_mark_sign) all) (ap (past is_idle) back))
