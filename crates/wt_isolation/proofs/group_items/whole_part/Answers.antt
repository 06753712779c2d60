use Rattle.std.proofs.Common.{map, [], cond, sym, ap, ◌∙◌}
use Rattle.wt_span.specs.Items.{items_of}
use Rattle.wt_span.specs.Origins.{outer_call}
use Rattle.wt_isolation.specs.GroupItems.{lies_in}
use Rattle.wt_isolation.proofs.SliceItems.{uncut_part}
use Rattle.wt_isolation.proofs.group_items.whole_part.Goals as goal

pub returns-then-lies_in : goal.returns-then-lies_in
returns-then-lies_in c =
    let r = c.args.ranges in
    let p = c.args.piece.now in (
      c.requires.sound,
      sym (uncut_part (map outer_call c.args.outer.now) r p c.requires.uncut c.requires.sound
          ∙ ap (λ v. cond v (items_of p) []) (ap (λ s. lies_in r s) (sym c.place_of.ensures) ∙ sym c.lies_in.ensures ∙ c.if-lies_in.true)),
    )

pub returns : goal.returns
returns c =
    let r = c.args.ranges in
    let p = c.args.piece.now in
    uncut_part (map outer_call c.args.outer.now) r p c.requires.uncut c.requires.sound
    ∙ ap (λ v. cond v (items_of p) []) (ap (λ s. lies_in r s) (sym c.place_of.ensures) ∙ sym c.lies_in.ensures ∙ c.if-lies_in.false)
