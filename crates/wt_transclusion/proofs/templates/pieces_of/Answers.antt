use Rattle.std.proofs.Common.{ap, sym, ◌∙◌, subst}
use Rattle.std.specs.Str.{IsUtf8}
use Rattle.std.proofs.lemmas.Str.{IsUtf8-drop}
use Rattle.wt_expand.specs.Expansion.{chars}
use Rattle.wt_transclusion.proofs.CutTexts.{one_more, front_cut}
use Rattle.wt_transclusion.proofs.templates.pieces_of.Goals as goal

pub loop-rest-preserved : goal.loop-rest-preserved
loop-rest-preserved c =
    let l = c.loop-rest in
    record {
      joined = front_cut l.pieces c.push.new.self c.piece_of.result l.rest.now c.split_at.result.0.now c.split_at.result.1.now c.front_len.result
          (chars c.args.text.now) c.in_ok-push.ensures.ok (c.piece_of.ensures.items ∙ ap chars c.new.ensures.bytes) c.split_at.ensures.front
          c.split_at.ensures.back l.invariant.joined;
      text = subst IsUtf8 (sym c.split_at.ensures.back) (IsUtf8-drop l.rest.now c.front_len.result l.invariant.text c.front_len.ensures.border);
    }

pub returns : goal.returns
returns c =
    let l = c.loop-rest in
    one_more l.pieces c.push-2.new.self c.piece_of-2.result l.rest.now c.in_ok-push-2.ensures.ok
    (c.piece_of-2.ensures.items ∙ ap chars c.new-2.ensures.bytes) ∙ l.invariant.joined
