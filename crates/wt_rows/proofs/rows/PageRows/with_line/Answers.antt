use Rattle.std.proofs.Common.{◌++◌, sym, ap, ◌∙◌, subst}
use Rattle.std.proofs.lemmas.Result.{IfOk-weaker}
use Rattle.wt_span.specs.Items.{items}
use Rattle.wt_lines.specs.declared.kind.LineKind.{LineKind}
use Rattle.wt_lines.specs.Kinds.{past, is_idle, is_mark_sign}
use Rattle.wt_page.specs.Rows.{signs}
use Rattle.wt_rows.specs.Building.{made_rows}
use Rattle.wt_rows.proofs.KindSigns.{Tells, told, idle_tells, marked_begins}
use Rattle.wt_rows.proofs.LineCuts.{idle_cut, end_cut, end_sign}
use Rattle.wt_rows.proofs.LineKinds.{table_line, text_line, idle_are, marked_are, end_are, rule_are}
use Rattle.wt_rows.proofs.rows.PageRows.with_line.Goals as goal

pub with_idle-requires-clause-edge : goal.with_idle-requires-clause-edge
with_idle-requires-clause-edge c =
    let xs = items c.front_of-content.result.now in
    let tells = told (items c.args.line.now) xs c.args.kind (ap items c.front_of-content.ensures ∙ sym c.content_len-n.ensures.content) c.requires.kind in
    idle_cut c.args.kind xs (past is_mark_sign (signs xs)) (table_line c.args.kind c.in-TableOpen.is) tells

pub with_idle-requires-clause-begins : goal.with_idle-requires-clause-begins
with_idle-requires-clause-begins c =
    let xs = items c.front_of-content.result.now in
    let tells = told (items c.args.line.now) xs c.args.kind (ap items c.front_of-content.ensures ∙ sym c.content_len-n.ensures.content) c.requires.kind in
    idle_tells c.args.kind (past is_idle (signs xs)) (past is_mark_sign (signs xs)) (table_line c.args.kind c.in-TableOpen.is) tells

pub with_table_end-requires-clause-edge : goal.with_table_end-requires-clause-edge
with_table_end-requires-clause-edge c =
    let xs = items c.front_of-content.result.now in
    let tells = told (items c.args.line.now) xs c.args.kind (ap items c.front_of-content.ensures ∙ sym c.content_len-n.ensures.content) c.requires.kind in
    end_cut xs (subst (λ (k : LineKind). Tells k (past is_idle (signs xs)) (past is_mark_sign (signs xs))) c.in-TableEnd.is tells)

pub with_table_end-requires-clause-within : goal.with_table_end-requires-clause-within
with_table_end-requires-clause-within c =
    let xs = items c.front_of-content.result.now in
    let tells = told (items c.args.line.now) xs c.args.kind (ap items c.front_of-content.ensures ∙ sym c.content_len-n.ensures.content) c.requires.kind in
    (end_sign xs (subst (λ (k : LineKind). Tells k (past is_idle (signs xs)) (past is_mark_sign (signs xs))) c.in-TableEnd.is tells)).0

pub with_table_end-requires-clause-sign_edge : goal.with_table_end-requires-clause-sign_edge
with_table_end-requires-clause-sign_edge c =
    let xs = items c.front_of-content.result.now in
    let tells = told (items c.args.line.now) xs c.args.kind (ap items c.front_of-content.ensures ∙ sym c.content_len-n.ensures.content) c.requires.kind in
    (end_sign xs (subst (λ (k : LineKind). Tells k (past is_idle (signs xs)) (past is_mark_sign (signs xs))) c.in-TableEnd.is tells)).1

pub with_marked-requires-clause-begins : goal.with_marked-requires-clause-begins
with_marked-requires-clause-begins c =
    let xs = items c.front_of-content.result.now in
    let tells = told (items c.args.line.now) xs c.args.kind (ap items c.front_of-content.ensures ∙ sym c.content_len-n.ensures.content) c.requires.kind in
    marked_begins c.args.kind (past is_idle (signs xs)) (past is_mark_sign (signs xs)) (text_line c.args.kind c.in-Heading.is) tells

pub returns-in-TableOpen-clause-rows : goal.returns-in-TableOpen-clause-rows
returns-in-TableOpen-clause-rows c =
    IfOk-weaker c.with_idle.result _ _ (λ r e. e ∙ ap (λ vs. made_rows c.args.self ++ vs)
    (idle_are c.args.kind (items c.args.line.now) (items c.front_of-content.result.now) (items c.rest_of-ending.result.now)
    (ap items c.front_of-content.ensures ∙ sym c.content_len-n.ensures.content) (ap items c.rest_of-ending.ensures ∙ sym c.content_len-n.ensures.ending)
    (table_line c.args.kind c.in-TableOpen.is))) c.with_idle.ensures.rows

pub returns-in-TableEnd-clause-rows : goal.returns-in-TableEnd-clause-rows
returns-in-TableEnd-clause-rows c =
    let xs = items c.front_of-content.result.now in
    let tells = told (items c.args.line.now) xs c.args.kind (ap items c.front_of-content.ensures ∙ sym c.content_len-n.ensures.content) c.requires.kind in
    let sign = end_sign xs (subst (λ (k : LineKind). Tells k (past is_idle (signs xs)) (past is_mark_sign (signs xs))) c.in-TableEnd.is tells) in
    IfOk-weaker c.with_table_end.result _ _ (λ r e. e ∙ ap (λ vs. made_rows c.args.self ++ vs)
    (end_are c.args.kind (items c.args.line.now) xs (items c.rest_of-ending.result.now) c.in-TableEnd.is
    (ap items c.front_of-content.ensures ∙ sym c.content_len-n.ensures.content) (ap items c.rest_of-ending.ensures ∙ sym c.content_len-n.ensures.ending)
    sign.0)) c.with_table_end.ensures.rows

pub returns-in-Rule-clause-rows : goal.returns-in-Rule-clause-rows
returns-in-Rule-clause-rows c =
    IfOk-weaker c.with_rule.result _ _ (λ r e. e ∙ ap (λ vs. made_rows c.args.self ++ vs)
    (rule_are c.args.kind (items c.args.line.now) (items c.front_of-content.result.now) (items c.rest_of-ending.result.now) c.in-Rule.is
    (ap items c.front_of-content.ensures ∙ sym c.content_len-n.ensures.content) (ap items c.rest_of-ending.ensures ∙ sym c.content_len-n.ensures.ending)))
    c.with_rule.ensures.rows

pub returns-in-Heading-clause-rows : goal.returns-in-Heading-clause-rows
returns-in-Heading-clause-rows c =
    IfOk-weaker c.with_marked.result _ _ (λ r e. e ∙ ap (λ vs. made_rows c.args.self ++ vs)
    (marked_are c.args.kind (items c.args.line.now) (items c.front_of-content.result.now) (items c.rest_of-ending.result.now)
    (ap items c.front_of-content.ensures ∙ sym c.content_len-n.ensures.content) (ap items c.rest_of-ending.ensures ∙ sym c.content_len-n.ensures.ending)
    (text_line c.args.kind c.in-Heading.is))) c.with_marked.ensures.rows
