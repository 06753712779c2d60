use Rattle.std.proofs.Common.{arith, ◌≡◌, true, false, sym, ◌∙◌}
use Rattle.std.proofs.lemmas.Bool.Decides.{Decides-eqb}
use Rattle.std.proofs.lemmas.Slice.Eq.{slice_eq-Decides}
use Rattle.wt_visible.proofs.Within.{next_found, next_other}
use Rattle.wt_visible.proofs.kept_marks.found_with.Goals as goal

pub returns-then-eq-clause-same : goal.returns-then-eq-clause-same
returns-then-eq-clause-same c = λ rest.
    let d = slice_eq-Decides Decides-eqb c.as_str.result.now c.as_str-2.result.now c.eq.result c.eq.ensures in
    next_found c.args.kept.now c.args.found c.index-kept-found.result c.args.source.now rest (omega (arith, c.requires, c.if-found-kept.false))
    c.index-kept-found.is (sym c.as_str.ensures ∙ d.0 c.if-eq.true ∙ c.as_str-2.ensures)

pub returns-clause-same : goal.returns-clause-same
returns-clause-same c = λ rest.
    let d = slice_eq-Decides Decides-eqb c.as_str.result.now c.as_str-2.result.now c.eq.result c.eq.ensures in
    next_other c.args.kept.now c.args.found c.index-kept-found.result c.args.source.now rest (omega (arith, c.requires, c.if-found-kept.false))
    c.index-kept-found.is (λ e. let t : true ≡ false = sym (d.1 (c.as_str.ensures ∙ e ∙ sym c.as_str-2.ensures)) ∙ c.if-eq.false in absurd (cc))
