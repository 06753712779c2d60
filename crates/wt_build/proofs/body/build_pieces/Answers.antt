use Rattle.std.proofs.Common.{[], List, ◌<◌, ◌^◌, length, sym, ap, ◌∙◌, subst, arith}
use Rattle.std.specs.Prelude.{All}
use Rattle.wt_span.specs.declared.form.Piece.{Piece}
use Rattle.wt_span.specs.Items.{items, sources}
use Rattle.wt_span.specs.Origins.{IsSoundPiece}
use Rattle.wt_tree.specs.declared.kind.Kind.TheVariants as kind
use Rattle.wt_inline.specs.Grown.{growth}
use Rattle.wt_inline.specs.ItemTree.{plain, inner, forest}
use Rattle.wt_inline.specs.View.{item_trees}
use Rattle.wt_rows.specs.Unread.{left}
use Rattle.wt_build.proofs.Carrying.{carries_none, carries_on, none_left, meaning_is}
use Rattle.wt_build.proofs.body.build_pieces.Goals as goal

pub with_next-requires-clause-sound : goal.with_next-requires-clause-sound
with_next-requires-clause-sound c = c.loop-rest.invariant.sound

pub loop-rest-init : goal.loop-rest-init
loop-rest-init c = record {
  sound = subst (λ (ps : List Piece). All IsSoundPiece ps) (sym c.of-rest.ensures) c.requires.sound;
  few = subst (λ (ps : List Piece). length (sources (items ps)) < 2 ^ 32) (sym c.of-rest.ensures) c.requires.few;
  carries = carries_none (growth c.new-children.result) (items c.args.pieces.now) (items (left c.of-rest.result))
      (ap items c.of-rest.ensures);
}

pub loop-rest-preserved : goal.loop-rest-preserved
loop-rest-preserved c = record {
  sound = c.in_ok-grown.ensures.sound_after;
  few = omega (arith, c.loop-rest.invariant.few, c.in_ok-grown.ensures.few_after);
  carries = carries_on (growth c.new-children.result) (growth c.loop-rest.children) (growth c.in_ok-grown.grown) (items c.args.pieces.now)
      (items (left c.loop-rest.rest)) (items (left c.in_ok-grown.after)) c.loop-rest.invariant.carries c.in_ok-grown.ensures.grown;
}

pub returns : goal.returns
returns c =
    let ts = item_trees c.in_ok-nodes.nodes in
    let none = none_left (left c.loop-rest.rest) (sym c.is_empty.ensures ∙ c.loop-rest-test.false) in
    c.plain_node.ensures
    ∙ ap (λ opening. inner (plain kind.Body) (items opening) (forest ts) []) c.new.ensures
    ∙ meaning_is (growth c.new-children.result) (growth c.loop-rest.children) (items c.args.pieces.now) (left c.loop-rest.rest) ts c.new-children.ensures none
    c.loop-rest.invariant.carries c.in_ok-nodes.ensures
