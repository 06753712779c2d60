use Rattle.std.proofs.Common.{◌≡◌, ℕ, ◌+◌, ◌-◌, ap, sym, ◌∙◌, refl, subst, arith, length, drop}
use Rattle.std.specs.List.{prefix_len}
use Rattle.std.specs.Str.{IsUtf8, IsCharBoundary}
use Rattle.wt_span.specs.Slice.{bytes_of, start_of}
use Rattle.wt_expand.specs.Texts.{is_space}
use Rattle.wt_transclusion.proofs.Trimming.{front_border}
use Rattle.wt_transclusion.proofs.TrimmedPieces.{front_gone, front_left}
use Rattle.wt_transclusion.proofs.trim.without_front.Goals as goal

pub split_at-requires-clause-border : goal.split_at-requires-clause-border
split_at-requires-clause-border c =
    let p = c.args.piece in
    let n = c.front_len-from.result in
    let e : n ≡ (c.range.result.start + n) - start_of p.text = omega (arith, c.range.ensures.start) in
    let P : ℕ → Type 0 = λ m. IsCharBoundary (bytes_of p.text) m in
    let u : IsUtf8 (bytes_of p.text) = subst IsUtf8 c.as_str-text.ensures c.as_str-text.utf8 in
    subst P e (front_border (bytes_of p.text) n u (c.front_len-from.ensures.value
    ∙ ap (prefix_len is_space) (c.as_bytes.ensures.value ∙ c.as_str-text.ensures)))

pub returns-then-from-text : goal.returns-then-from-text
returns-then-from-text c =
    front_gone c.args.piece c.front_len-from.result (sym c.is_chars.ensures ∙ c.if-not-is_chars.false)
    (c.front_len-from.ensures.value ∙ ap (prefix_len is_space) (c.as_bytes.ensures.value ∙ c.as_str-text.ensures)) (c.if-from-text.true
    ∙ ap length c.as_str-text.ensures)

pub returns : goal.returns
returns c =
    let p = c.args.piece in
    let n = c.front_len-from.result in
    let e : (c.range.result.start + n) - start_of p.text ≡ n = omega (arith, c.range.ensures.start) in
    front_left p (record { text = c.split_at.result.1; form = p.form; origin = p.origin }) n (sym c.is_chars.ensures ∙ c.if-not-is_chars.false) refl refl
    (c.front_len-from.ensures.value ∙ ap (prefix_len is_space) (c.as_bytes.ensures.value ∙ c.as_str-text.ensures))
    (c.split_at.ensures.back ∙ ap (λ k. drop k (bytes_of p.text)) e) (λ same. c.if-from-text.false (same ∙ ap length (sym c.as_str-text.ensures)))
