use Rattle.std.proofs.Common.{◌≡◌, ◌+◌, ◌-◌, length, map, drop, ap, sym, ◌∙◌, arith}
use Rattle.std.specs.Prelude.{min}
use Rattle.std.specs.List.{prefix_len}
use Rattle.std.proofs.lemmas.List.{length-map}
use Rattle.wt_span.specs.Bytes.{blank_len}
use Rattle.wt_span.specs.Items.{sign, items}
use Rattle.wt_lines.specs.Kinds.{is_idle, past}
use Rattle.wt_blocks.specs.Headings.{equals}
use Rattle.wt_blocks.proofs.Cuts.{core_len, level_is, open_is, inside_is, cuts_within}
use Rattle.wt_blocks.proofs.heading.heading_cuts.Goals as goal

pub returns-clause-level : goal.returns-clause-level
returns-clause-level c =
    let ss = map sign (items c.args.pieces.now) in
    let n : c.item_count-count.result ≡ length ss = c.item_count-count.ensures ∙ sym (length-map (items c.args.pieces.now) sign) in
    let core = core_len ss c.item_count-count.result c.back_len.result n
    (c.back_len.ensures.value ∙ ap (λ rs. min c.item_count-count.result (prefix_len is_idle rs)) c.of-back.ensures) in
    level_is ss _ c.front_len-first.result c.back_len-last.result c.level_by-level.result core
    (c.front_len-first.ensures.value ∙ ap (λ rs. min (c.item_count-count.result - c.back_len.result) (equals rs)) c.of-signs.ensures)
    (c.back_len-last.ensures.value ∙ ap (λ rs. min 6 (equals rs)) (c.before_idle-core_back.ensures ∙ ap (past is_idle) c.of-back.ensures))
    c.level_by-level.ensures

pub returns-clause-open_len : goal.returns-clause-open_len
returns-clause-open_len c =
    let ss = map sign (items c.args.pieces.now) in
    let n : c.item_count-count.result ≡ length ss = c.item_count-count.ensures ∙ sym (length-map (items c.args.pieces.now) sign) in
    let core = core_len ss c.item_count-count.result c.back_len.result n
    (c.back_len.ensures.value ∙ ap (λ rs. min c.item_count-count.result (prefix_len is_idle rs)) c.of-back.ensures) in
    open_is ss _ c.level_by-level.result c.saturating_sub-rest_len.result c.front_len.result core (returns-clause-level c) c.saturating_sub-rest_len.ensures
    (c.front_len.ensures.value ∙ ap (λ rs. min c.saturating_sub-rest_len.result (blank_len rs))
    (c.past_front.ensures ∙ ap (drop c.level_by-level.result) c.of-signs.ensures))

pub returns-clause-inside_len : goal.returns-clause-inside_len
returns-clause-inside_len c =
    let ss = map sign (items c.args.pieces.now) in
    let n : c.item_count-count.result ≡ length ss = c.item_count-count.ensures ∙ sym (length-map (items c.args.pieces.now) sign) in
    let core = core_len ss c.item_count-count.result c.back_len.result n
    (c.back_len.ensures.value ∙ ap (λ rs. min c.item_count-count.result (prefix_len is_idle rs)) c.of-back.ensures) in
    inside_is ss _ c.level_by-level.result c.saturating_sub-rest_len.result (c.level_by-level.result + c.front_len.result)
    c.saturating_sub-between.result c.back_len-blanks.result core (returns-clause-level c)
    c.saturating_sub-rest_len.ensures (returns-clause-open_len c) c.saturating_sub-between.ensures
    (c.back_len-blanks.ensures.value ∙ ap (λ rs. min c.saturating_sub-between.result (blank_len rs))
    (c.before_back.ensures ∙ ap (drop c.level_by-level.result) (c.before_idle-core_back.ensures ∙ ap (past is_idle) c.of-back.ensures)))

pub returns-clause-within : goal.returns-clause-within
returns-clause-within c =
    let ss = map sign (items c.args.pieces.now) in
    let w = cuts_within ss in
    let n : length ss ≡ length (items c.args.pieces.now) = length-map (items c.args.pieces.now) sign in
    let o = returns-clause-open_len c in
    let i = returns-clause-inside_len c in
    omega (arith, w, n, o, i)
