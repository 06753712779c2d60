use Rattle.std.proofs.Common.{◌≡◌, rules, false, None, Ok, Err, [], ◌∷◌, sym, refl, ap, ◌∙◌}
use Rattle.std.specs.Vec.Iter.{into_iter_items}
use Rattle.wt_html_grammar.specs.Markup.{text, node}
use Rattle.wt_html_elements.specs.declared.content.Content.{fold-roll-Content, the_lemmas}
use Rattle.wt_html_elements.specs.Built.{view_content, pairs, views as markups}
use Rattle.wt_html_in.specs.Roles.{roles}
use Rattle.wt_html_in.proofs.Walking.{begun_at, within_at, piece_at, nodes_at, text_ok, element_ok, element_misfit, element_inside, no_items, going_start, going_on, going_end, going_err, going_at}
use Rattle.wt_html_in.proofs.walk.+fitting.Goals as goal

pub piece-returns-in_ok-made-in-Text : goal.piece-returns-in_ok-made-in-Text
piece-returns-in_ok-made-in-Text t c =
    let e : view_content c.args.content ≡ text c.in-Text.bytes.items = search (rules, the_lemmas, fold-roll-Content) in
    piece_at c.args.walk.now c.args.walk.now c.args.position c.args.role (view_content c.args.content) (text c.as_slice.result.now)
    (Ok c.in_ok-made-in-Text.made) (Ok c.in_ok-made-in-Text.made) (e ∙ sym (ap text c.as_slice.ensures.value)) refl
    (text_ok c.args.walk.now c.args.position c.args.role c.as_slice.result.now c.in_ok-made-in-Text.made c.in_ok-made-in-Text.ensures)

pub piece-returns-in_err-headed-in-Element : goal.piece-returns-in_err-headed-in-Element
piece-returns-in_err-headed-in-Element t c =
    let e : view_content c.args.content ≡ node c.in-Element.name.items (pairs c.in-Element.attributes.items)
    (markups c.in-Element.contents.items) = search (rules, the_lemmas, fold-roll-Content) in
    let z = c.standing_in-standing.result in
    let ps = pairs c.in-Element.attributes.items in
    let ms = markups c.in-Element.contents.items in
    let r : c.from_residual-in_err-headed-in-Element.result ≡ Err c.in_err-headed-in-Element.field-0.0 = search rules in
    piece_at c.args.walk.now c.begin.new.walk c.args.position c.args.role (view_content c.args.content) _ c.from_residual-in_err-headed-in-Element.result
    (Err c.in_err-headed-in-Element.field-0.0) e r
    (element_misfit c.args.walk.now c.begin.new.walk c.args.position c.args.role z c.in-Element.name.items ps ms c.in_err-headed-in-Element.field-0.0
    c.standing_in-standing.ensures
    (begun_at c.args.walk.now c.args.position z c.in-Element.name.items ps c.as_slice-in-Element.result.now c.in-Element.contents.items
    (Err c.in_err-headed-in-Element.field-0.0) c.as_slice-in-Element.ensures.value c.in_err-headed-in-Element.ensures.headed))

pub piece-returns-in_err-children-in-Element : goal.piece-returns-in_err-children-in-Element
piece-returns-in_err-children-in-Element t c =
    let e : view_content c.args.content ≡ node c.in-Element.name.items (pairs c.in-Element.attributes.items)
    (markups c.in-Element.contents.items) = search (rules, the_lemmas, fold-roll-Content) in
    let z = c.standing_in-standing.result in
    let ps = pairs c.in-Element.attributes.items in
    let ms = markups c.in-Element.contents.items in
    let r : c.from_residual-in_err-children-in-Element.result ≡ Err c.in_err-children-in-Element.field-0.0 = search rules in
    piece_at c.args.walk.now c.nodes.new.walk c.args.position c.args.role (view_content c.args.content) _ c.from_residual-in_err-children-in-Element.result
    (Err c.in_err-children-in-Element.field-0.0) e r
    (element_inside c.args.walk.now c.begin.new.walk c.nodes.new.walk c.nodes.new.walk c.args.position c.args.role z c.in-Element.name.items ps ms
    c.in_ok-headed-in-Element.headed c.in_err-children-in-Element.field-0.0 c.standing_in-standing.ensures
    (begun_at c.args.walk.now c.args.position z c.in-Element.name.items ps c.as_slice-in-Element.result.now c.in-Element.contents.items
    (Ok c.in_ok-headed-in-Element.headed) c.as_slice-in-Element.ensures.value c.in_ok-headed-in-Element.ensures.headed)
    c.begin.ensures.passed
    (within_at c.begin.new.walk c.nodes.new.walk c.in_ok-headed-in-Element.headed.head.kind _ c.is_within-inside.result ms
    (Err c.in_err-children-in-Element.field-0.0) c.is_within-inside.ensures c.in_err-children-in-Element.ensures))

pub piece-returns-in_ok-made-in-Element : goal.piece-returns-in_ok-made-in-Element
piece-returns-in_ok-made-in-Element t c =
    let e : view_content c.args.content ≡ node c.in-Element.name.items (pairs c.in-Element.attributes.items)
    (markups c.in-Element.contents.items) = search (rules, the_lemmas, fold-roll-Content) in
    let z = c.standing_in-standing.result in
    let ps = pairs c.in-Element.attributes.items in
    let ms = markups c.in-Element.contents.items in
    let h = c.in_ok-headed-in-Element.headed in
    piece_at c.args.walk.now c.nodes.new.walk c.args.position c.args.role (view_content c.args.content) _ (Ok c.in_ok-made-in-Element.made) (Ok c.in_ok-made-in-Element.made) e refl
    (element_ok c.args.walk.now c.begin.new.walk c.nodes.new.walk c.args.position c.args.role z c.in-Element.name.items ps ms
    h c.in_ok-children-in-Element.children c.in_ok-made-in-Element.made c.standing_in-standing.ensures
    (begun_at c.args.walk.now c.args.position z c.in-Element.name.items ps c.as_slice-in-Element.result.now c.in-Element.contents.items
    (Ok h) c.as_slice-in-Element.ensures.value c.in_ok-headed-in-Element.ensures.headed)
    c.begin.ensures.passed
    (within_at c.begin.new.walk c.nodes.new.walk h.head.kind _ c.is_within-inside.result ms
    (Ok c.in_ok-children-in-Element.children) c.is_within-inside.ensures c.in_ok-children-in-Element.ensures)
    (rw (sym c.is_within-inside.ensures) c.in_ok-made-in-Element.ensures))

pub nodes-loop-content-init : goal.nodes-loop-content-init
nodes-loop-content-init t c =
    let b : into_iter_items c.into_iter-content-iterator.result ≡ c.args.contents.items = search rules in
    going_at c.args.walk.now c.args.outer c.args.inside c.in_ok-children.children.items c.in_ok-children.children.items c.args.walk.now false
    c.in_ok-roles.roles.items c.args.contents.items _ c.args.contents.items _ refl b b
    (going_start c.args.walk.now c.args.outer c.args.inside (markups c.args.contents.items) c.in_ok-children.children.items false c.in_ok-roles.roles.items
    c.in_ok-children.ensures.items refl (c.in_ok-roles.ensures ∙ ap (λ xs. roles None (markups xs)) c.as_slice.ensures.value)
    c.requires.few c.requires.utf8)

pub nodes-returns-in_err-made : goal.nodes-returns-in_err-made
nodes-returns-in_err-made t c =
    let r : c.from_residual-in_err-made.result ≡ Err c.in_err-made.field-0.0 = search rules in
    let s : into_iter_items c.loop-content.content-iterator ≡ c.in-Some.content ∷ into_iter_items c.next.new.self = search rules in
    let b : into_iter_items c.into_iter-content-iterator.result ≡ c.args.contents.items = search rules in
    nodes_at c.args.walk.now c.piece.new.walk c.args.outer c.args.inside (markups c.args.contents.items) c.from_residual-in_err-made.result
    (Err c.in_err-made.field-0.0) r
    (going_err c.args.walk.now c.args.outer c.args.inside (markups c.args.contents.items) c.loop-content.children.items c.loop-content.walk
    c.piece.new.walk c.piece.new.walk c.loop-content.behind c.in_ok-roles.roles.items c.loop-content.at c.role_in.result _
    (view_content c.in-Some.content) (markups (into_iter_items c.next.new.self)) c.in_err-made.field-0.0
    (going_at c.args.walk.now c.args.outer c.args.inside c.loop-content.children.items c.loop-content.children.items c.loop-content.walk
    c.loop-content.behind _ _ _ _ _ refl (sym b) (sym s) c.loop-content.invariant)
    (search rules) refl refl refl c.in_err-made.ensures)

pub nodes-loop-content-preserved : goal.nodes-loop-content-preserved
nodes-loop-content-preserved t c =
    let s : into_iter_items c.loop-content.content-iterator ≡ c.in-Some.content ∷ into_iter_items c.next.new.self = search rules in
    going_on c.args.walk.now c.args.outer c.args.inside (markups (into_iter_items c.into_iter-content-iterator.result))
    c.loop-content.children.items c.push_made.new.nodes.items c.loop-content.walk c.piece.new.walk c.loop-content.behind c.is_behind-behind.result
    c.in_ok-roles.roles.items c.loop-content.at c.role_in.result _
    (view_content c.in-Some.content) (markups (into_iter_items c.next.new.self)) c.in_ok-made.made
    (going_at c.args.walk.now c.args.outer c.args.inside c.loop-content.children.items c.loop-content.children.items c.loop-content.walk
    c.loop-content.behind _ _ _ _ _ refl refl (sym s) c.loop-content.invariant)
    (search rules) refl refl refl c.in_ok-made.ensures c.is_behind-behind.ensures c.in_ok-push_made.ensures

pub nodes-returns : goal.nodes-returns
nodes-returns t c =
    let s : into_iter_items c.loop-content.content-iterator ≡ [] = no_items _ (sym c.loop-content.content-iterator.rest.ok.0 ∙ c.in-None.ensures.steps.0) in
    let b : into_iter_items c.into_iter-content-iterator.result ≡ c.args.contents.items = search rules in
    going_end c.args.walk.now c.args.outer c.args.inside (markups c.args.contents.items) c.from_vec.result c.loop-content.walk c.loop-content.behind _
    (going_at c.args.walk.now c.args.outer c.args.inside c.loop-content.children.items c.from_vec.result c.loop-content.walk
    c.loop-content.behind _ _ _ _ _ c.from_vec.ensures (sym b) (sym s) c.loop-content.invariant)
