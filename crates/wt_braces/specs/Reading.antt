-- How far the lexemes of a text are read.
use Rattle.std.specs.Prelude.{◌≡◌, ◌<◌, ◌+◌, ◌^◌, ℕ, List, map}
use Rattle.wt_span.specs.Braces.{Member, reduced_onto}
use Rattle.wt_lex.specs.declared.lexeme.Lexeme.{Lexeme}
use Rattle.wt_lex.specs.Places.{word_of}
use Rattle.wt_braces.specs.Matched.{Matched, Stands}
use Rattle.wt_braces.specs.Found.{FollowFrom}

-- members are read up to a place, from which these lexemes follow; with them they are all members
pub record Reading (at : ℕ) (goal : List Member) (m : Matched) (rest : List Lexeme) : Type 0 where
  pub place : ℕ
  pub before : List Member
  pub stands : Stands at before m place
  pub follow : FollowFrom place rest
  pub small : place < at + 2 ^ 32
  pub same : reduced_onto before (map word_of rest) ≡ goal

-- all members are read
pub record AllRead (at : ℕ) (before : List Member) (m : Matched) : Type 0 where
  pub place : ℕ
  pub stands : Stands at before m place
  pub small : place < at + 2 ^ 32
