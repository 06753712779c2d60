use Rattle.std.proofs.Common.{ℕ, ap, ◌∙◌, length}
use Rattle.std.specs.Prelude.{slice_set}
use Rattle.wt_tree.specs.View.{view, views, label_of}
use Rattle.wt_tree.specs.declared.node.Node.{out-Node}
use Rattle.wt_original.specs.declared.block.Extent.{Extent}
use Rattle.wt_original.specs.Kept.{KeptNode}
use Rattle.wt_original.specs.Gathered.{found_so_far, ended}
use Rattle.wt_original.proofs.Gathering.{delimited_node, numbered}
use Rattle.wt_original.proofs.block.+gathering.Goals as goal

pub gather_delimited-returns : goal.gather_delimited-returns
gather_delimited-returns t c =
    delimited_node c.args.node.now c.args.out.now c.gather_texts.new.out c.gather_all.new.out c.gather_texts-2.new.out c.requires
    (rw c.opening.ensures at c.in_ok-gather_texts.ensures) (rw c.as_slice.ensures at c.in_ok-gather_all.ensures)
    (rw c.closing.ensures at c.in_ok-gather_texts-2.ensures)

pub gather_numbered-returns : goal.gather_numbered-returns
gather_numbered-returns t c =
    let node = c.args.node.now in
    let inside = found_so_far c.gather_inside.new.out in
    let at_spot : Extent → KeptNode = λ s. record { node = view node; extent = s } in
    let extent = c.end-extent.ensures ∙ ap (λ (s : Extent). ended c.gather_inside.new.out s) c.begin-extent.ensures in
    numbered (view node) (label_of (out-Node node)) (views (out-Node node).children) c.args.out.now c.push_found.new.out
    c.gather_inside.new.out c.set_found.new.out (at_spot c.begin-extent.result)
    c.in_ok-push_found.ensures c.in_ok-gather_inside.ensures c.set_found.ensures.source c.set_found.ensures.seen
    (c.set_found.ensures.found ∙ ap (λ (i : ℕ). slice_set inside i (at_spot c.end-extent.result)) c.count-index.ensures
    ∙ ap (λ (s : Extent). slice_set inside (length (found_so_far c.args.out.now)) (at_spot s)) extent)
