use Rattle.std.proofs.Common.{◌≡◌, rules, Ok, Err, Some, refl, ap}
use Rattle.wt_html_elements.specs.Built.{pairs, views}
use Rattle.wt_html_in.specs.Frame.{found_of}
use Rattle.wt_html_in.proofs.Frames.{bodied_at, body_made, body_misfit, body_inside, fits_at}
use Rattle.wt_html_in.proofs.frame.edited.Goals as goal

pub returns-in_err-children : goal.returns-in_err-children
returns-in_err-children c =
    let r : c.from_residual-in_err-children.result ≡ Err c.in_err-children.field-0.0 = search rules in
    fits_at (Some (found_of c.args.number (pairs c.args.attributes.items) (views c.args.contents.items))) _
    c.from_residual-in_err-children.result (Err c.in_err-children.field-0.0) refl r
    (body_inside c.args.number (pairs c.args.attributes.items) (views c.args.contents.items) c.in_ok-head.head
    c.walk_in-walk.result c.nodes.new.walk c.in_err-children.field-0.0
    (bodied_at c.args.number (pairs c.as_slice.result.now) (pairs c.args.attributes.items) c.as_slice-2.result.now
    c.args.contents.items (Ok c.in_ok-head.head) (ap pairs c.as_slice.ensures.value) c.as_slice-2.ensures.value
    c.in_ok-head.ensures)
    c.walk_in-walk.ensures.next c.in_err-children.ensures)

pub returns : goal.returns
returns c =
    body_made c.args.number (pairs c.args.attributes.items) (views c.args.contents.items) c.in_ok-head.head c.walk_in-walk.result
    c.nodes.new.walk c.in_ok-children.children c.in_ok-sectioned.sectioned c.in_ok-body.body c.of.result
    (bodied_at c.args.number (pairs c.as_slice.result.now) (pairs c.args.attributes.items) c.as_slice-2.result.now
    c.args.contents.items (Ok c.in_ok-head.head) (ap pairs c.as_slice.ensures.value) c.as_slice-2.ensures.value
    c.in_ok-head.ensures)
    c.walk_in-walk.ensures.next c.walk_in-walk.ensures.unsourced c.in_ok-children.ensures c.in_ok-sectioned.ensures c.in_ok-body.ensures c.of.ensures.body c.of.ensures.unsourced

pub returns-in_err-head : goal.returns-in_err-head
returns-in_err-head c =
    let r : c.from_residual.result ≡ Err c.in_err-head.field-0.0 = search rules in
    fits_at (Some (found_of c.args.number (pairs c.args.attributes.items) (views c.args.contents.items))) _ c.from_residual.result
    (Err c.in_err-head.field-0.0) refl r
    (body_misfit c.args.number (pairs c.args.attributes.items) (views c.args.contents.items) c.in_err-head.field-0.0
    (bodied_at c.args.number (pairs c.as_slice.result.now) (pairs c.args.attributes.items) c.as_slice-2.result.now
    c.args.contents.items (Err c.in_err-head.field-0.0) (ap pairs c.as_slice.ensures.value) c.as_slice-2.ensures.value
    c.in_err-head.ensures))
