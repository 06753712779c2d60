use Rattle.std.proofs.Common.{◌≡◌, ◌++◌, length, drop}
use Rattle.std.specs.List.{All}
use Rattle.wt_span.specs.Items.{items}
use Rattle.wt_span.specs.Origins.{IsSoundPiece}
use Rattle.wt_lines.specs.Lines.{IsUnbroken}
use Rattle.wt_rows.specs.Building.{AreWhole}
use Rattle.wt_rows.specs.Unread.{left, IsBehind}
use Rattle.wt_rows.proofs.unread.Unread.push_line.Given as goal

abbrev pub invariant-loop-piece : goal.invariant-loop-piece
invariant-loop-piece l =
    let line = drop (length l.initial.pieces) l.pieces in
    record {
      sound : All IsSoundPiece (left l.rest);
      kept : IsBehind l.initial.pieces l.pieces;
      whole : AreWhole line;
      unbroken : IsUnbroken (items line);
      joined : items (left l.self) ≡ items line ++ items (left l.rest);
    }

abbrev pub decreases-loop-piece : goal.decreases-loop-piece
decreases-loop-piece l = length (items (left l.rest))
