use Rattle.std.proofs.Common.{◌≡◌, Err, ap, arith, length, map, rules, subst, sym, true, ◌∙◌}
use Rattle.std.specs.Prelude.{IfErr}
use Rattle.wt_span.specs.declared.form.Mode.TheVariants as mode
use Rattle.wt_span.specs.Items.{items}
use Rattle.wt_span.specs.Origins.{Expanded, outer_call, span_of}
use Rattle.wt_expand.specs.Expansion.{page_work}
use Rattle.wt_expand.specs.Fronts.{known_after}
use Rattle.wt_expand.specs.Work.{fetches, first_refusal}
use Rattle.wt_transclusion.specs.Answers.{IsRefused}
use Rattle.wt_transclusion.specs.Stops.{Stops}
use Rattle.wt_transclusion.proofs.GrowthLaws.{agrees_known, has_known}
use Rattle.wt_template_stack.specs.declared.expansion.Expansion.{Expansion}
use Rattle.wt_expansion.proofs.PageWalk.{page_members, page_stands}
use Rattle.wt_expansion.proofs.KnownLaws.{few_found, found_refused, found_stops, free_by_agreeing, free_still, page_is_found}
use Rattle.wt_expansion.proofs.page.expand_knowing.Goals as goal

pub returns-in_err-text-clause-refused : goal.returns-in_err-text-clause-refused
returns-in_err-text-clause-refused g c = λ pages met told h.
    let bytes = c.args.page.now in
    let e : c.from_residual.result ≡ Err c.in_err-text.field-0.0 = search rules in
    subst (λ x. IfErr x (IsRefused (first_refusal pages bytes (page_work pages bytes)))) (sym e) (c.in_err-text.ensures.refused pages)

pub returns-in_err-stretch-clause-refused : goal.returns-in_err-stretch-clause-refused
returns-in_err-stretch-clause-refused g c = λ pages met told h.
    let bytes = c.args.page.now in
    let walk = c.new-walk.result in
    let answered = g.F.Folder.answered c.args.folder.now in
    let spent = ap (λ (y : Expansion). y.spent) c.new-walk.ensures.expansion in
    let store = ap (λ (y : Expansion). y.store) c.new-walk.ensures.expansion in
    let names = ap (λ (y : Expansion). y.names) c.new-walk.ensures.expansion in
    let free = free_still pages met c.args.expansion walk.expansion store names h in
    let e : c.from_residual-in_err-stretch.result ≡ Err c.in_err-stretch.field-0.0 = search rules in
    let refused = c.in_err-stretch.ensures.given pages bytes met 0 true (page_members bytes) told free
    (c.start.ensures mode.Page bytes c.in_ok-text.ensures.read) (page_stands bytes) in
    subst (λ y. IfErr y (IsRefused (first_refusal pages bytes (page_work pages bytes)))) (sym e)
    (found_refused pages bytes met walk.expansion.spent answered
    (g.F.Folder.answered c.stretch.new.folder) c.in_err-stretch.field-0.0
    c.in_ok-text.ensures.fits spent refused)

pub returns-in_err-text-clause-stops : goal.returns-in_err-text-clause-stops
returns-in_err-text-clause-stops g c = λ pages met told h.
    let bytes = c.args.page.now in
    let answered = g.F.Folder.answered c.args.folder.now in
    let e : c.from_residual.result ≡ Err c.in_err-text.field-0.0 = search rules in
    subst (λ x. IfErr x (Stops pages bytes 0 met (page_work pages bytes) answered answered)) (sym e)
    (c.in_err-text.ensures.stops pages met answered)

pub returns-in_err-stretch-clause-stops : goal.returns-in_err-stretch-clause-stops
returns-in_err-stretch-clause-stops g c = λ pages met told h.
    let bytes = c.args.page.now in
    let walk = c.new-walk.result in
    let answered = g.F.Folder.answered c.args.folder.now in
    let told_now = g.F.Folder.answered c.stretch.new.folder in
    let spent = ap (λ (y : Expansion). y.spent) c.new-walk.ensures.expansion in
    let store = ap (λ (y : Expansion). y.store) c.new-walk.ensures.expansion in
    let names = ap (λ (y : Expansion). y.names) c.new-walk.ensures.expansion in
    let free = free_still pages met c.args.expansion walk.expansion store names h in
    let e : c.from_residual-in_err-stretch.result ≡ Err c.in_err-stretch.field-0.0 = search rules in
    let refused = c.in_err-stretch.ensures.given pages bytes met 0 true (page_members bytes) told free
    (c.start.ensures mode.Page bytes c.in_ok-text.ensures.read) (page_stands bytes) in
    subst (λ x. IfErr x (Stops pages bytes 0 met (page_work pages bytes) answered told_now)) (sym e)
    (found_stops pages bytes met walk.expansion.spent answered told_now c.in_err-stretch.field-0.0
    c.in_ok-text.ensures.fits spent refused)

pub new-items-requires : goal.new-items-requires
new-items-requires g c =
    let bytes = c.args.page.now in
    let walk = c.new-walk.result in
    let answered = g.F.Folder.answered c.args.folder.now in
    let spent = ap (λ (y : Expansion). y.spent) c.new-walk.ensures.expansion in
    let store = ap (λ (y : Expansion). y.store) c.new-walk.ensures.expansion in
    let names = ap (λ (y : Expansion). y.names) c.new-walk.ensures.expansion in
    let next = c.stretch.new.self in
    let told_now = g.F.Folder.answered c.stretch.new.folder in
    let known = c.requires.known in
    let others = known.0 in
    let met = known.1 in
    let first = free_still others met c.args.expansion walk.expansion store names known.2 in
    let has = c.in_ok-stretch.ensures.grown.has (has_known others met walk.expansion.store first.stored) in
    let pages = has.0 in
    let agrees = has.1 in
    let free = free_by_agreeing pages others met walk.expansion next.expansion first c.in_ok-stretch.ensures.grown.kept agrees in
    let walked = c.in_ok-stretch.ensures.given pages bytes met 0 true (page_members bytes) agrees free
    (c.start.ensures mode.Page bytes c.in_ok-text.ensures.read) (page_stands bytes) in
    let found = page_is_found pages bytes met walk.expansion.spent answered told_now (length bytes) walk.found next.found next.expansion
    c.from_vec-pieces.result c.from_vec-outer.result c.from_vec-text_calls.result c.utf8.page (omega (arith, c.requires.short)) c.in_ok-text.ensures.fits spent
    c.new-walk.ensures.pieces c.new-walk.ensures.outer c.new-walk.ensures.text_calls (c.in_ok-stretch.ensures.names ∙ free.names) walked
    c.from_vec-pieces.ensures c.from_vec-outer.ensures c.from_vec-text_calls.ensures in
    record {
      sound = found.found.owed;
      few = few_found pages bytes met next.expansion answered told_now c.from_vec-pieces.result c.from_vec-outer.result c.from_vec-text_calls.result
          c.requires.short found;
    }

pub returns-clause-items : goal.returns-clause-items
returns-clause-items g c = λ pages met told h.
    let bytes = c.args.page.now in
    let walk = c.new-walk.result in
    let answered = g.F.Folder.answered c.args.folder.now in
    let spent = ap (λ (y : Expansion). y.spent) c.new-walk.ensures.expansion in
    let store = ap (λ (y : Expansion). y.store) c.new-walk.ensures.expansion in
    let names = ap (λ (y : Expansion). y.names) c.new-walk.ensures.expansion in
    let next = c.stretch.new.self in
    let told_now = g.F.Folder.answered c.stretch.new.folder in
    let free = free_still pages met c.args.expansion walk.expansion store names h in
    let agrees = c.in_ok-stretch.ensures.grown.agrees pages told (agrees_known pages met walk.expansion.store free.stored) in
    let walked = c.in_ok-stretch.ensures.given pages bytes met 0 true (page_members bytes) agrees free
    (c.start.ensures mode.Page bytes c.in_ok-text.ensures.read) (page_stands bytes) in
    let found = page_is_found pages bytes met walk.expansion.spent answered told_now (length bytes) walk.found next.found next.expansion
    c.from_vec-pieces.result c.from_vec-outer.result c.from_vec-text_calls.result c.utf8.page (omega (arith, c.requires.short)) c.in_ok-text.ensures.fits spent
    c.new-walk.ensures.pieces c.new-walk.ensures.outer c.new-walk.ensures.text_calls (c.in_ok-stretch.ensures.names ∙ free.names) walked
    c.from_vec-pieces.ensures c.from_vec-outer.ensures c.from_vec-text_calls.ensures in
    let given : c.new-items.result ≡ record {
      items = items c.from_vec-pieces.result;
      outer = map outer_call c.from_vec-outer.result;
      text_calls = map span_of c.from_vec-text_calls.result;
    } = ap (λ xs. let r : Expanded = record { items = xs; outer = c.new-items.result.outer; text_calls = c.new-items.result.text_calls } in r)
    c.new-items.ensures.items
    ∙ ap (λ cs. let r : Expanded = record { items = items c.from_vec-pieces.result; outer = cs; text_calls = c.new-items.result.text_calls } in r)
    c.new-items.ensures.outer
    ∙ ap (λ ts. let r : Expanded = record {
      items = items c.from_vec-pieces.result;
      outer = map outer_call c.from_vec-outer.result;
      text_calls = ts;
    } in r) c.new-items.ensures.text_calls in
    given ∙ found.found.same

pub returns-clause-some : goal.returns-clause-some
returns-clause-some g c =
    let bytes = c.args.page.now in
    let walk = c.new-walk.result in
    let answered = g.F.Folder.answered c.args.folder.now in
    let spent = ap (λ (y : Expansion). y.spent) c.new-walk.ensures.expansion in
    let store = ap (λ (y : Expansion). y.store) c.new-walk.ensures.expansion in
    let names = ap (λ (y : Expansion). y.names) c.new-walk.ensures.expansion in
    let next = c.stretch.new.self in
    let told_now = g.F.Folder.answered c.stretch.new.folder in
    let known = c.requires.known in
    let others = known.0 in
    let met = known.1 in
    let first = free_still others met c.args.expansion walk.expansion store names known.2 in
    let has = c.in_ok-stretch.ensures.grown.has (has_known others met walk.expansion.store first.stored) in
    let pages = has.0 in
    let agrees = has.1 in
    let free = free_by_agreeing pages others met walk.expansion next.expansion first c.in_ok-stretch.ensures.grown.kept agrees in
    let walked = c.in_ok-stretch.ensures.given pages bytes met 0 true (page_members bytes) agrees free
    (c.start.ensures mode.Page bytes c.in_ok-text.ensures.read) (page_stands bytes) in
    let found = page_is_found pages bytes met walk.expansion.spent answered told_now (length bytes) walk.found next.found next.expansion
    c.from_vec-pieces.result c.from_vec-outer.result c.from_vec-text_calls.result c.utf8.page (omega (arith, c.requires.short)) c.in_ok-text.ensures.fits spent
    c.new-walk.ensures.pieces c.new-walk.ensures.outer c.new-walk.ensures.text_calls (c.in_ok-stretch.ensures.names ∙ free.names) walked
    c.from_vec-pieces.ensures c.from_vec-outer.ensures c.from_vec-text_calls.ensures in
    let given : c.new-items.result ≡ record {
      items = items c.from_vec-pieces.result;
      outer = map outer_call c.from_vec-outer.result;
      text_calls = map span_of c.from_vec-text_calls.result;
    } = ap (λ xs. let r : Expanded = record { items = xs; outer = c.new-items.result.outer; text_calls = c.new-items.result.text_calls } in r)
    c.new-items.ensures.items
    ∙ ap (λ cs. let r : Expanded = record { items = items c.from_vec-pieces.result; outer = cs; text_calls = c.new-items.result.text_calls } in r)
    c.new-items.ensures.outer
    ∙ ap (λ ts. let r : Expanded = record {
      items = items c.from_vec-pieces.result;
      outer = map outer_call c.from_vec-outer.result;
      text_calls = ts;
    } in r) c.new-items.ensures.text_calls in
    (pages, given ∙ found.found.same, found.allowed)

pub returns-clause-whole : goal.returns-clause-whole
returns-clause-whole g c = λ pages met told h.
    let bytes = c.args.page.now in
    let walk = c.new-walk.result in
    let answered = g.F.Folder.answered c.args.folder.now in
    let spent = ap (λ (y : Expansion). y.spent) c.new-walk.ensures.expansion in
    let store = ap (λ (y : Expansion). y.store) c.new-walk.ensures.expansion in
    let names = ap (λ (y : Expansion). y.names) c.new-walk.ensures.expansion in
    let next = c.stretch.new.self in
    let told_now = g.F.Folder.answered c.stretch.new.folder in
    let free = free_still pages met c.args.expansion walk.expansion store names h in
    let agrees = c.in_ok-stretch.ensures.grown.agrees pages told (agrees_known pages met walk.expansion.store free.stored) in
    let walked = c.in_ok-stretch.ensures.given pages bytes met 0 true (page_members bytes) agrees free
    (c.start.ensures mode.Page bytes c.in_ok-text.ensures.read) (page_stands bytes) in
    let found = page_is_found pages bytes met walk.expansion.spent answered told_now (length bytes) walk.found next.found next.expansion
    c.from_vec-pieces.result c.from_vec-outer.result c.from_vec-text_calls.result c.utf8.page (omega (arith, c.requires.short)) c.in_ok-text.ensures.fits spent
    c.new-walk.ensures.pieces c.new-walk.ensures.outer c.new-walk.ensures.text_calls (c.in_ok-stretch.ensures.names ∙ free.names) walked
    c.from_vec-pieces.ensures c.from_vec-outer.ensures c.from_vec-text_calls.ensures in
    found.allowed

pub returns-clause-named : goal.returns-clause-named
returns-clause-named g c = λ pages met told h.
    let bytes = c.args.page.now in
    let walk = c.new-walk.result in
    let answered = g.F.Folder.answered c.args.folder.now in
    let spent = ap (λ (y : Expansion). y.spent) c.new-walk.ensures.expansion in
    let store = ap (λ (y : Expansion). y.store) c.new-walk.ensures.expansion in
    let names = ap (λ (y : Expansion). y.names) c.new-walk.ensures.expansion in
    let next = c.stretch.new.self in
    let told_now = g.F.Folder.answered c.stretch.new.folder in
    let free = free_still pages met c.args.expansion walk.expansion store names h in
    let agrees = c.in_ok-stretch.ensures.grown.agrees pages told (agrees_known pages met walk.expansion.store free.stored) in
    let walked = c.in_ok-stretch.ensures.given pages bytes met 0 true (page_members bytes) agrees free
    (c.start.ensures mode.Page bytes c.in_ok-text.ensures.read) (page_stands bytes) in
    let found = page_is_found pages bytes met walk.expansion.spent answered told_now (length bytes) walk.found next.found next.expansion
    c.from_vec-pieces.result c.from_vec-outer.result c.from_vec-text_calls.result c.utf8.page (omega (arith, c.requires.short)) c.in_ok-text.ensures.fits spent
    c.new-walk.ensures.pieces c.new-walk.ensures.outer c.new-walk.ensures.text_calls (c.in_ok-stretch.ensures.names ∙ free.names) walked
    c.from_vec-pieces.ensures c.from_vec-outer.ensures c.from_vec-text_calls.ensures in
    found.more

pub returns-clause-known : goal.returns-clause-known
returns-clause-known g c =
    let bytes = c.args.page.now in
    let walk = c.new-walk.result in
    let answered = g.F.Folder.answered c.args.folder.now in
    let spent = ap (λ (y : Expansion). y.spent) c.new-walk.ensures.expansion in
    let store = ap (λ (y : Expansion). y.store) c.new-walk.ensures.expansion in
    let names = ap (λ (y : Expansion). y.names) c.new-walk.ensures.expansion in
    let next = c.stretch.new.self in
    let told_now = g.F.Folder.answered c.stretch.new.folder in
    let known = c.requires.known in
    let others = known.0 in
    let met = known.1 in
    let first = free_still others met c.args.expansion walk.expansion store names known.2 in
    let has = c.in_ok-stretch.ensures.grown.has (has_known others met walk.expansion.store first.stored) in
    let pages = has.0 in
    let agrees = has.1 in
    let free = free_by_agreeing pages others met walk.expansion next.expansion first c.in_ok-stretch.ensures.grown.kept agrees in
    let walked = c.in_ok-stretch.ensures.given pages bytes met 0 true (page_members bytes) agrees free
    (c.start.ensures mode.Page bytes c.in_ok-text.ensures.read) (page_stands bytes) in
    let found = page_is_found pages bytes met walk.expansion.spent answered told_now (length bytes) walk.found next.found next.expansion
    c.from_vec-pieces.result c.from_vec-outer.result c.from_vec-text_calls.result c.utf8.page (omega (arith, c.requires.short)) c.in_ok-text.ensures.fits spent
    c.new-walk.ensures.pieces c.new-walk.ensures.outer c.new-walk.ensures.text_calls (c.in_ok-stretch.ensures.names ∙ free.names) walked
    c.from_vec-pieces.ensures c.from_vec-outer.ensures c.from_vec-text_calls.ensures in
    (pages, known_after met (fetches (page_work pages bytes)), found.more.free)
