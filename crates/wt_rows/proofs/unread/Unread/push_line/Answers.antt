use Rattle.std.proofs.Common.{◌++◌, List, length, drop, sym, ap, ◌∙◌, subst}
use Rattle.wt_span.specs.declared.form.Piece.{Piece}
use Rattle.wt_span.specs.Items.{items}
use Rattle.wt_lines.specs.Lines.{IsUnbroken}
use Rattle.wt_rows.specs.Building.{AreWhole}
use Rattle.wt_rows.specs.Unread.{left}
use Rattle.wt_rows.proofs.LinesBehind.{none_behind, behind_none, line_more, behind_more}
use Rattle.wt_rows.proofs.Making.{whole_none}
use Rattle.wt_rows.proofs.Unreading.{unbroken_more, whole_more, joined_more, cut_break, cut_end, some_left, fewer_end}
use Rattle.wt_rows.proofs.unread.Unread.push_line.Goals as goal

pub loop-piece-init : goal.loop-piece-init
loop-piece-init c =
    let none = sym (none_behind c.args.pieces) in
    record {
      sound = c.requires.sound;
      kept = behind_none c.args.pieces;
      whole = subst AreWhole none whole_none;
      unbroken = subst (λ (qs : List Piece). IsUnbroken (items qs)) none tt;
      joined = ap (λ qs. items qs ++ items (left c.args.self)) none;
    }

pub returns-then-is_break-clause-kept : goal.returns-then-is_break-clause-kept
returns-then-is_break-clause-kept c =
    behind_more c.args.pieces c.loop-piece.pieces c.push.new.self c.in-Some.piece c.loop-piece.invariant.kept c.in_ok-push.ensures.ok

pub returns-then-is_break-clause-cut : goal.returns-then-is_break-clause-cut
returns-then-is_break-clause-cut c =
    let p = c.in-Some.piece in
    let n = length c.args.pieces in
    let line = drop n c.loop-piece.pieces in
    let next = drop n c.push.new.self in
    let all = items (left c.args.self) in
    let after = items (left c.in-Some.after) in
    let more = line_more c.args.pieces c.loop-piece.pieces c.push.new.self p c.loop-piece.invariant.kept c.in_ok-push.ensures.ok in
    let joined = joined_more line next p all (items (left c.loop-piece.rest)) after more c.in-Some.ensures.joined c.loop-piece.invariant.joined in
    cut_break line next p all after more c.in-Some.ensures.parted (sym c.is_break.ensures ∙ c.if-is_break.true) c.loop-piece.invariant.unbroken joined

pub returns-then-is_break-clause-whole : goal.returns-then-is_break-clause-whole
returns-then-is_break-clause-whole c =
    let p = c.in-Some.piece in
    let n = length c.args.pieces in
    whole_more (drop n c.loop-piece.pieces) (drop n c.push.new.self) p
    (line_more c.args.pieces c.loop-piece.pieces c.push.new.self p c.loop-piece.invariant.kept c.in_ok-push.ensures.ok)
    c.in-Some.ensures.parted c.in-Some.ensures.sound c.loop-piece.invariant.whole

pub loop-piece-preserved : goal.loop-piece-preserved
loop-piece-preserved c =
    let p = c.in-Some.piece in
    let n = length c.args.pieces in
    let line = drop n c.loop-piece.pieces in
    let next = drop n c.push.new.self in
    let more = line_more c.args.pieces c.loop-piece.pieces c.push.new.self p c.loop-piece.invariant.kept c.in_ok-push.ensures.ok in
    record {
      sound = c.in-Some.ensures.sound_after;
      kept = behind_more c.args.pieces c.loop-piece.pieces c.push.new.self p c.loop-piece.invariant.kept c.in_ok-push.ensures.ok;
      whole = whole_more line next p more c.in-Some.ensures.parted c.in-Some.ensures.sound c.loop-piece.invariant.whole;
      unbroken = unbroken_more line next p more c.in-Some.ensures.parted (sym c.is_break.ensures ∙ c.if-is_break.false) c.loop-piece.invariant.unbroken;
      joined = joined_more line next p (items (left c.args.self)) (items (left c.loop-piece.rest)) (items (left c.in-Some.after)) more
          c.in-Some.ensures.joined c.loop-piece.invariant.joined;
    }

pub returns-clause-cut : goal.returns-clause-cut
returns-clause-cut c =
    let all = items (left c.args.self) in
    let some = some_left (left c.args.self) c.requires.sound c.requires.some in
    cut_end (drop (length c.args.pieces) c.loop-piece.pieces) all (left c.loop-piece.rest) c.in_default.ensures.joined some
    c.loop-piece.invariant.unbroken c.loop-piece.invariant.joined

pub returns-clause-fewer : goal.returns-clause-fewer
returns-clause-fewer c =
    fewer_end (left c.loop-piece.rest) (items (left c.args.self)) c.in_default.ensures.joined
    (some_left (left c.args.self) c.requires.sound c.requires.some)
