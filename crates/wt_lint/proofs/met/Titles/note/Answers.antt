use Rattle.std.proofs.Common.{refl, ap, map, ◌∙◌}
use Rattle.wt_lint.specs.Categories.{is_among, noted}
use Rattle.wt_lint.specs.Titles.{names}
use Rattle.wt_lint.proofs.Noting.{any_met, met_noted, told}
use Rattle.wt_lint.proofs.met.Titles.note.Goals as goal

pub returns-clause-repeated : goal.returns-clause-repeated
returns-clause-repeated c =
    told _ _ _ c.in_ok-is_new.ensures.added
    (any_met (λ v. v.items) c.in_ok-title.title.items c.args.self.now.met.keys ∙ ap (λ t. is_among t (names c.args.self.now)) c.in_ok-title.ensures.items)

pub returns-clause-noted : goal.returns-clause-noted
returns-clause-noted c =
    ap (λ vs. map (λ v. v.items) vs) c.in_ok-is_new.ensures.keys
    ∙ met_noted (λ v. v.items) _ (λ x y. refl) c.in_ok-title.title c.args.self.now.met.keys
    ∙ ap (λ t. noted t (names c.args.self.now)) c.in_ok-title.ensures.items
