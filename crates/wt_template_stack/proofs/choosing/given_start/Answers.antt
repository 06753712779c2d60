use Rattle.std.proofs.Common.{◌≡◌, ◌+◌, ◌-◌, ◌<◌, ℕ, Option, None, Some, ap, sym, subst, ◌∙◌, arith}
use Rattle.std.specs.Prelude.{min, ◌^◌}
use Rattle.std.proofs.Math.Nat.{min-eq_left}
use Rattle.wt_template_stack.specs.ToldParts.{start_by}
use Rattle.wt_template_stack.proofs.choosing.given_start.Goals as goal

behind_name : (o : Option ℕ) (equals start at : ℕ) → Some equals ≡ o → at ≡ min (equals + 1) (2 ^ 32 - 1) → start_by o start < 2 ^ 32 → at ≡ start_by o start
behind_name o equals start at is m few =
    let fits : equals + 1 < 2 ^ 32 = subst (λ p. start_by p start < 2 ^ 32) (sym is) few in
    m ∙ min-eq_left (omega (arith, fits)) ∙ ap (λ p. start_by p start) is

pub returns-in-Some : goal.returns-in-Some
returns-in-Some c = λ few. behind_name _ c.in-Some.equals c.args.part.at.start _ (sym c.in-Some.is ∙ c.name_end.ensures) c.saturating_add.ensures few
