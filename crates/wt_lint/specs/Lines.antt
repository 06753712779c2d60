-- Where findings are, and the list of a page's findings.
use Rattle.std.specs.Prelude.{ℕ, ◌+◌, not, List, [], ◌∷◌, map, take, if◌then◌else◌}
use Rattle.wt_span.specs.Bytes.{is_break}
use Rattle.wt_tree.specs.Tree.{Tree}
use Rattle.wt_lint.specs.declared.finding.Kind.{Kind}
use Rattle.wt_lint.specs.declared.finding.Finding.{Finding}
use Rattle.wt_lint.specs.Bytes.{suffix_len}
use Rattle.wt_lint.specs.Findings.{all_found, in_order}
use Rattle.wt_lint.specs.Found.{KindAndRange}

-- how many line breaks a text has
abbrev pub breaks : List ℕ → ℕ
breaks [] = 0
breaks (b ∷ bs) = if is_break b then 1 + breaks bs else breaks bs

-- the line of a place, from 1
abbrev pub line_of : List ℕ → ℕ → ℕ
line_of page at = 1 + breaks (take at page)

-- the byte of its line at which a place is, from 1
abbrev pub column_of : List ℕ → ℕ → ℕ
column_of page at = 1 + suffix_len (λ b. not (is_break b)) (take at page)

-- a finding with the line and the column of its start
pub record Located : Type 0 where
  pub kind : Kind
  pub start : ℕ
  pub end : ℕ
  pub line : ℕ
  pub column : ℕ

abbrev pub located : List ℕ → KindAndRange → Located
located page f = record { kind = f.0; start = f.1.0; end = f.1.1; line = line_of page f.1.0; column = column_of page f.1.0 }

-- the findings of a page, by its tree
abbrev pub findings : List ℕ → Tree → List Located
findings page t = map (located page) (in_order (all_found page t))

-- what is seen of the code's findings
abbrev pub as_located : Finding → Located
as_located f = record { kind = f.kind; start = f.at.start; end = f.at.end; line = f.line; column = f.column }
