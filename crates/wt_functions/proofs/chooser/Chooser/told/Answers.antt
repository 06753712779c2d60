use Rattle.std.proofs.Common.{◌≡◌, sym, ◌∙◌, ap, List, ℕ, [], ◌∷◌, ◌++◌, ◌≤◌, ◌+◌, length, arith, length-append}
use Rattle.wt_functions.specs.Choice.{Telling, equal_part}
use Rattle.wt_functions.proofs.EqualParts.{told_there}
use Rattle.wt_functions.proofs.chooser.Chooser.told.Goals as goal

pub invariant_of-self-2 : goal.invariant_of-self-2
invariant_of-self-2 c =
    let texts : c.self.inside.texts ≡ c.args.self.now.texts = ap (λ (t : Telling). t.texts) c.self.view_is in
    let equals : c.self.inside.equals ≡ c.args.self.now.equals = ap (λ (t : Telling). t.equals) c.self.view_is in
    let room : length c.args.self.now.texts ≤ length c.args.self.now.equals = told_there c.args.self.now c.requires in
    let pushed : c.push.new.self ≡ c.self.inside.texts ++ c.in_ok-copy_of.field-0 ∷ [] = c.in_ok-push.ensures.ok in
    let few : length c.push.new.self ≤ length c.self.inside.equals + 1 = rw (pushed, texts, equals) (omega (arith, length-append c.args.self.now.texts (c.in_ok-copy_of.field-0 ∷ []))) in (
      few,
      c.equal_after-equal.ensures
          ∙ ap (λ (ts : List (List ℕ)). equal_part (ts ++ c.args.text.now ∷ [])) c.as_slice.ensures
          ∙ ap (λ (x : List ℕ). equal_part (c.self.inside.texts ++ x ∷ [])) (sym c.in_ok-copy_of.ensures)
          ∙ ap equal_part (sym pushed),
    )
