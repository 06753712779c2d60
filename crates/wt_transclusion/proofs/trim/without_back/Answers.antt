use Rattle.std.proofs.Common.{◌≡◌, ℕ, ◌+◌, ◌-◌, ap, sym, ◌∙◌, refl, subst, arith, length, take}
use Rattle.std.specs.Prelude.{reverse}
use Rattle.std.specs.List.{prefix_len}
use Rattle.std.specs.Str.{IsCharBoundary}
use Rattle.wt_span.specs.Slice.{bytes_of, start_of}
use Rattle.wt_expand.specs.Texts.{is_space}
use Rattle.wt_transclusion.proofs.Trimming.{back_border}
use Rattle.wt_transclusion.proofs.TrimmedPieces.{back_gone, back_left}
use Rattle.wt_transclusion.proofs.trim.without_back.Goals as goal

pub split_at-requires-clause-border : goal.split_at-requires-clause-border
split_at-requires-clause-border c =
    let p = c.args.piece in
    let n = c.back_end-to.result in
    let e : n ≡ (c.range.result.start + n) - start_of p.text = omega (arith, c.range.ensures.start) in
    let P : ℕ → Type 0 = λ m. IsCharBoundary (bytes_of p.text) m in
    subst P e (back_border (bytes_of p.text) n (c.back_end-to.ensures.value
    ∙ ap (λ bs. length bs - prefix_len is_space (reverse bs)) (c.as_bytes.ensures.value ∙ c.as_str.ensures)))

pub returns-then-to-eq0 : goal.returns-then-to-eq0
returns-then-to-eq0 c =
    back_gone c.args.piece c.back_end-to.result (sym c.is_chars.ensures ∙ c.if-not-is_chars.false)
    (c.back_end-to.ensures.value ∙ ap (λ bs. length bs - prefix_len is_space (reverse bs)) (c.as_bytes.ensures.value ∙ c.as_str.ensures)) c.if-to-eq0.true

pub returns : goal.returns
returns c =
    let p = c.args.piece in
    let n = c.back_end-to.result in
    let e : (c.range.result.start + n) - start_of p.text ≡ n = omega (arith, c.range.ensures.start) in
    back_left p (record { text = c.split_at.result.0; form = p.form; origin = p.origin }) n (sym c.is_chars.ensures ∙ c.if-not-is_chars.false) refl refl
    (c.back_end-to.ensures.value ∙ ap (λ bs. length bs - prefix_len is_space (reverse bs)) (c.as_bytes.ensures.value ∙ c.as_str.ensures))
    (c.split_at.ensures.front ∙ ap (λ k. take k (bytes_of p.text)) e) c.if-to-eq0.false
