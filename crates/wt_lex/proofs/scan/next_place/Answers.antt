use Rattle.std.proofs.Common.{◌≡◌, ℕ, Bool, sym, ◌∙◌, ap, arith, false, get_or, subst, ⊎_elim}
use Rattle.std.proofs.lemmas.Bool.{cases_lt}
use Rattle.wt_lex.specs.Words.{after_break, may_begin}
use Rattle.wt_lex.proofs.scan.next_place.Goals as goal

pub loop-at-preserved : goal.loop-at-preserved
loop-at-preserved c =
    let text = c.args.text.now in
    let at = c.loop-at.at in
    let here : may_begin (after_break text at) (get_or text at 0) ≡ false =
    ap (λ (a : Bool). may_begin a (get_or text at 0)) (sym c.is_after_break.ensures) ∙ sym c.may_begin.ensures ∙ c.if-may_begin.false in
    let P : ℕ → Type 0 = λ k. may_begin (after_break text k) (get_or text k 0) ≡ false in
    λ k low high. ⊎_elim (λ h. c.loop-at.invariant k low h) (λ h. let e : at ≡ k = omega arith in subst P e here) (cases_lt k at)
