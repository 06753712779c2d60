use Rattle.std.proofs.Common.{◌≡◌, Err, [], rules, subst, sym}
use Rattle.std.specs.Prelude.{IfErr}
use Rattle.wt_expand.specs.Expansion.{page_work}
use Rattle.wt_expand.specs.Work.{first_refusal}
use Rattle.wt_transclusion.specs.Answers.{IsRefused}
use Rattle.wt_transclusion.specs.Stops.{Stops}
use Rattle.wt_expansion.proofs.KnownLaws.{asked_at_first, free_at_first, holds_at_first}
use Rattle.wt_expansion.proofs.page.expand.Goals as goal

pub expand_knowing-requires-clause-known : goal.expand_knowing-requires-clause-known
expand_knowing-requires-clause-known g c =
    holds_at_first c.new-expansion.result c.new-expansion.ensures.store c.new-expansion.ensures.names

pub returns-in_err-expanded-clause-refused : goal.returns-in_err-expanded-clause-refused
returns-in_err-expanded-clause-refused g c = λ pages told.
    let bytes = c.args.page.now in
    let free = free_at_first pages c.new-expansion.result c.new-expansion.ensures.store c.new-expansion.ensures.names in
    let e : c.from_residual.result ≡ Err c.in_err-expanded.field-0.0 = search rules in
    subst (λ x. IfErr x (IsRefused (first_refusal pages bytes (page_work pages bytes)))) (sym e)
    (c.in_err-expanded.ensures.refused pages [] told free)

pub returns-in_err-expanded-clause-stops : goal.returns-in_err-expanded-clause-stops
returns-in_err-expanded-clause-stops g c = λ pages told.
    let bytes = c.args.page.now in
    let free = free_at_first pages c.new-expansion.result c.new-expansion.ensures.store c.new-expansion.ensures.names in
    let e : c.from_residual.result ≡ Err c.in_err-expanded.field-0.0 = search rules in
    subst (λ x. IfErr x (Stops pages bytes 0 [] (page_work pages bytes) (g.F.Folder.answered c.args.folder.now)
    (g.F.Folder.answered c.expand_knowing.new.folder))) (sym e)
    (c.in_err-expanded.ensures.stops pages [] told free)

pub returns-clause-items : goal.returns-clause-items
returns-clause-items g c = λ pages told.
    c.in_ok-expanded.ensures.items pages [] told
    (free_at_first pages c.new-expansion.result c.new-expansion.ensures.store c.new-expansion.ensures.names)

pub returns-clause-whole : goal.returns-clause-whole
returns-clause-whole g c = λ pages told.
    c.in_ok-expanded.ensures.whole pages [] told
    (free_at_first pages c.new-expansion.result c.new-expansion.ensures.store c.new-expansion.ensures.names)

pub returns-clause-named : goal.returns-clause-named
returns-clause-named g c = λ pages told.
    let free = free_at_first pages c.new-expansion.result c.new-expansion.ensures.store c.new-expansion.ensures.names in
    asked_at_first pages (page_work pages c.args.page.now) c.in_ok-expanded.expanded.expansion (g.F.Folder.answered c.args.folder.now)
    (g.F.Folder.answered c.expand_knowing.new.folder) (c.in_ok-expanded.ensures.named pages [] told free)
