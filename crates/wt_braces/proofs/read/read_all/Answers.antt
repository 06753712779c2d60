use Rattle.std.proofs.Common.{[], map}
use Rattle.wt_span.specs.Braces.{reduced_onto}
use Rattle.wt_lex.specs.Places.{word_of}
use Rattle.wt_braces.specs.Found.{first_place}
use Rattle.wt_braces.proofs.Wholes.{reads_first, is_read}
use Rattle.wt_braces.proofs.read.read_all.Goals as goal

pub loop-lexeme-init : goal.loop-lexeme-init
loop-lexeme-init c = reads_first c.args.lexemes.now c.new-matching.result c.requires c.new-matching.ensures

pub read-requires : goal.read-requires
read-requires c =
    is_read (first_place c.args.lexemes.now) (reduced_onto [] (map word_of c.args.lexemes.now)) c.loop-lexeme.matching
    c.args.lexemes.now c.loop-lexeme.lexeme-index c.lexeme-item.result c.loop-lexeme-test.true c.lexeme-item.is c.loop-lexeme.invariant
