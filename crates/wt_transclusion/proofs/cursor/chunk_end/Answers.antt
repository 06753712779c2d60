use Rattle.std.proofs.Common.{sym, ap, ◌∙◌, ◌+◌, ◌∷◌, drop, subst}
use Rattle.std.proofs.lemmas.Bool.{OnTrue_at}
use Rattle.std.proofs.lemmas.List.{drop_more}
use Rattle.wt_transclusion.specs.Steps.{MayFollow, no_more, and_one}
use Rattle.wt_transclusion.proofs.cursor.chunk_end.Goals as goal

pub returns-then-not-is_characters : goal.returns-then-not-is_characters
returns-then-not-is_characters c = no_more _ _

pub loop-lexeme-init : goal.loop-lexeme-init
loop-lexeme-init c = λ end f. f

pub returns-then-limit-to : goal.returns-then-limit-to
returns-then-limit-to c = c.loop-lexeme.invariant c.loop-lexeme.to (no_more _ _)

pub loop-lexeme-preserved : goal.loop-lexeme-preserved
loop-lexeme-preserved c = λ end f.
    let xs = c.args.others.now in
    let i = c.loop-lexeme.lexeme-index in
    let x = c.lexeme-item.result in
    let here = OnTrue_at c.if-not-is_characters.false c.is_characters.ensures in
    let there = OnTrue_at c.if-not-is_characters-2.false c.is_characters-else-limit-to.ensures in
    let row = drop_more xs i x c.loop-lexeme-test.true ∙ ap (λ y. y ∷ drop (i + 1) xs) (sym c.lexeme-item.is) in
    c.loop-lexeme.invariant end (subst (λ ys. MayFollow c.args.first.kind c.args.limit c.loop-lexeme.to ys end) (sym row)
    (and_one c.loop-lexeme.to end x (drop (i + 1) xs) here there c.if-limit-to.false f))

pub returns : goal.returns
returns c = c.loop-lexeme.invariant c.loop-lexeme.to (no_more _ _)
