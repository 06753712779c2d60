use Rattle.std.proofs.Common.{◌≡◌, ◌≤◌, ◌+◌, ◌-◌, ◌++◌, map, length}
use Rattle.std.specs.List.{All}
use Rattle.std.specs.Str.{IsCharBoundary}
use Rattle.wt_span.specs.Lexemes.{closed, words}
use Rattle.wt_lex.specs.Places.{word_of, Follow, AtBorders}
use Rattle.wt_lex.proofs.Cuts.{left}
use Rattle.wt_lex.proofs.scan.lex.Given as goal

abbrev pub invariant-loop-at : goal.invariant-loop-at
invariant-loop-at l = record {
  order : l.from ≤ l.at;
  within : l.at ≤ length l.text;
  known : l.closings ≡ l.text;
  border : IsCharBoundary l.text l.from;
  borders : All (AtBorders l.text) l.lexemes;
  follow : Follow 0 l.lexemes l.from;
  done : map word_of l.lexemes ++ closed ((l.at - l.from) + (left l.mode l.text l.at).0) (left l.mode l.text l.at).1 ≡ words l.mode l.text;
}

abbrev pub decreases-loop-at : goal.decreases-loop-at
decreases-loop-at l = length l.text - l.at
