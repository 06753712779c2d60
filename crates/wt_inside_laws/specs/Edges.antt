-- The bytes at the edges of a block, as lists of those that may be there.
use Rattle.std.specs.Prelude.{◌≡◌, ℕ, List, [], ◌∷◌, ◌++◌}
use Rattle.wt_span.specs.Characters as byte

-- what ends before a block: a line, a mark or an extension, a call or a table, a rule
pub data EndsBefore : ℕ → Type 0 where
  line_end : EndsBefore 10
  tag_end : EndsBefore 62
  closed : EndsBefore 125
  rule_end : EndsBefore 45

-- what begins after it: a line, or the call that gives its line break
pub data BeginsBehind : ℕ → Type 0 where
  next_line : BeginsBehind 10
  call : BeginsBehind 123

-- what no block begins with
pub data BeginsNone : ℕ → Type 0 where
  space : BeginsNone 32
  tab : BeginsNone 9
  line_break : BeginsNone 10
  brace : BeginsNone 125

-- The bytes on both sides of the edges of what was typed: at the left one of the first list or none, at the right one of the second or
-- none, and what was typed begins with some byte that is none of the third, and not with a `-` after a `-`.
pub record MeetsPlainly (before new behind : List ℕ) : Type 0 where
  pub left : (front : List ℕ) (b : ℕ) → before ≡ front ++ b ∷ [] → EndsBefore b
  pub right : (b : ℕ) (rest : List ℕ) → behind ≡ b ∷ rest → BeginsBehind b
  pub some : new ≡ [] → ⊥
  pub first : (b : ℕ) (rest : List ℕ) → new ≡ b ∷ rest → BeginsNone b → ⊥
  pub no_rule : (front rest : List ℕ) → before ≡ front ++ byte.hyphen ∷ [] → new ≡ byte.hyphen ∷ rest → ⊥
