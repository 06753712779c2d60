use Rattle.std.proofs.Common.{ℕ, sym, arith}
use Rattle.std.proofs.lemmas.List.{length-map}
use Rattle.wt_tiles.proofs.Spelling.{begins_like_short}
use Rattle.wt_tiles.specs.declared.glyph.Glyph.TheVariants as glyph
use Rattle.wt_tiles.specs.Glyphs.{byte_glyphs}
use Rattle.wt_isolation.proofs.scheme.begins_like.Goals as goal

pub returns-then-bytes-word : goal.returns-then-bytes-word
returns-then-bytes-word c =
    let bs = c.args.bytes.now in
    sym (begins_like_short c.args.word.now (byte_glyphs bs)
    (omega (arith, c.if-bytes-word.true, length-map bs (λ (b : ℕ). glyph.Byte b))))
