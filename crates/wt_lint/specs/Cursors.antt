-- A cursor has the line and the column of a place.
use Rattle.std.specs.Prelude.{◌≡◌, ℕ, List}
use Rattle.wt_lint.specs.declared.cursor.Cursor.{Cursor}
use Rattle.wt_lint.specs.Lines.{line_of, column_of}

pub record IsAt (page : List ℕ) (place : ℕ) (c : Cursor) : Type 0 where
  pub line : c.line ≡ line_of page place
  pub column : c.column ≡ column_of page place
