use Rattle.std.proofs.Common.{ℕ, List, get_or, sym, subst, drop, map, length, min, refl, arith}
use Rattle.std.proofs.lemmas.Option.{slice_get_read, slice_get_past}
use Rattle.wt_lex.specs.declared.lexeme.Lexeme.{Lexeme}
use Rattle.wt_transclusion.specs.Reads.{braces_of}
use Rattle.wt_transclusion.specs.declared.read.Braces.{Braces}
use Rattle.wt_transclusion.specs.declared.cursor.Next.TheVariants as next
use Rattle.wt_transclusion.specs.Steps.{MayFollow, AnswersNext}
use Rattle.wt_transclusion.specs.Stretch.{IsLimit}
use Rattle.wt_transclusion.proofs.CursorLaws.{next_call, next_chunk, next_lost}
use Rattle.wt_transclusion.proofs.cursor.Cursor.next.Goals as goal

pub returns-then-limit-self : goal.returns-then-limit-self
returns-then-limit-self c = λ mode bytes xs h at s.
    subst (λ (b : Braces). AnswersNext mode bytes c.args.self.at c.args.end xs (next.Call b)) c.index-text-call.is
    (next_call mode bytes c.args.text c.index-text-call.result c.args.self.at c.args.end c.args.self.call xs h at.call_is s c.requires
    (subst (IsLimit (drop c.args.self.call (map braces_of c.args.text.calls.now)) c.args.end) c.if-limit-self.true c.limit_at-limit.ensures.limit)
    (slice_get_read c.args.text.calls.now (length c.args.text.calls.now) c.args.self.call c.index-text-call.result refl
    (c.limit_at-limit.ensures.there (omega arith)) c.index-text-call.is))

pub returns-then-self-text : goal.returns-then-self-text
returns-then-self-text c = λ mode bytes xs h at s.
    let x = c.index-text-self.result in
    let y = get_or c.args.text.lexemes.now c.args.self.lexeme x in
    let g = c.limit_at-limit.result in
    let end = c.chunk_end-to.result in
    let there = slice_get_read c.args.text.lexemes.now (length c.args.text.lexemes.now) c.args.self.lexeme x refl c.if-self-text.true c.index-text-self.is in
    let follow = subst (λ (ys : List Lexeme). MayFollow x.kind g x.at.end ys end) c.rest_of.ensures
    (subst (λ (z : Lexeme). MayFollow z.kind g z.at.end c.rest_of.result.now end) (sym c.index-text-self.is) c.chunk_end-to.ensures) in
    let chunk = next_chunk mode bytes c.args.text c.args.self.at c.args.end g c.args.self.call c.args.self.lexeme end x xs h at.lexeme_is at.call_is s
    c.requires c.limit_at-limit.ensures.limit c.if-limit-self.false there follow in
    let same = subst (λ (z : Lexeme). AnswersNext mode bytes c.args.self.at c.args.end xs (next.Chunk z.kind (min end g))) c.index-text-self.is chunk in
    subst (λ (q : ℕ). AnswersNext mode bytes c.args.self.at c.args.end xs (next.Chunk y.kind q)) (sym c.min.ensures) same

pub returns : goal.returns
returns c = λ mode bytes xs h at s.
    absurd (next_lost mode bytes c.args.text c.args.self.at c.args.end c.args.self.lexeme xs h at.lexeme_is s c.requires
    (slice_get_past c.args.text.lexemes.now c.args.self.lexeme c.if-self-text.false))
