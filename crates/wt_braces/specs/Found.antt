-- What `match_braces` asks and answers.
use Rattle.std.specs.Prelude.{◌≡◌, ℕ, Option, Some, None, List, [], ◌∷◌, Result, Ok, Err, map, nat_le, if◌then◌else◌}
use Rattle.wt_span.specs.declared.list.List.{List as Listed}
use Rattle.wt_span.specs.Braces.{CallAt, nesting}
use Rattle.wt_lex.specs.declared.lexeme.Lexeme.{Lexeme}
use Rattle.wt_braces.specs.declared.call.Call.{Call}
use Rattle.wt_braces.specs.declared.call.BraceRefusal.{BraceRefusal}
use Rattle.wt_braces.specs.declared.call.BraceRefusal.TheVariants as refusal
use Rattle.wt_braces.specs.declared.nesting.TheConstants.{NESTED_BRACES}
use Rattle.wt_braces.specs.Views.{call_of}

-- where the first of the lexemes begins
abbrev pub first_place : List Lexeme → ℕ
first_place [] = 0
first_place (x ∷ xs) = x.at.start

-- the lexemes follow one another from a place on
abbrev pub FollowFrom : ℕ → List Lexeme → Type 0
FollowFrom place [] = Unit {0}
FollowFrom place (x ∷ xs) = (x.at.start ≡ place) × FollowFrom x.at.end xs

-- each lexeme begins where the one before ends
abbrev pub AreAdjacent : List Lexeme → Type 0
AreAdjacent xs = FollowFrom (first_place xs) xs

-- the first byte of the first of these calls that has a hundred of all calls round it
abbrev pub deep_among : List CallAt → List CallAt → Option ℕ
deep_among all [] = None
deep_among all (c ∷ cs) = if nat_le NESTED_BRACES (nesting all c) then Some c.from else deep_among all cs

unfoldable pub too_deep : List CallAt → Option ℕ
too_deep cs = deep_among cs cs

-- The calls, where none lies too deep; else the first byte of the leftmost one that does.
abbrev pub AnswersCalls : List CallAt → Result (Listed Call) BraceRefusal → Type 0
AnswersCalls cs (Ok found) = (map call_of found ≡ cs) × (too_deep cs ≡ None)
AnswersCalls cs (Err (refusal.BracesTooDeep place)) = too_deep cs ≡ Some place
AnswersCalls cs (Err refusal.NoMemory) = Unit {0}
