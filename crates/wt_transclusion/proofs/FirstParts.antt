-- Each call of a text has its first part.
use Rattle.std.proofs.Common.{◌≡◌, ◌<◌, ℕ, ◌+◌, Bool, true, false, Option, None, Some, List, [], ◌∷◌, ◌++◌, map, length, sym, subst, arith}
use Rattle.std.specs.Prelude.{All}
use Rattle.std.specs.List.{AllByRecursion}
use Rattle.std.proofs.lemmas.List.{length-map}
use Rattle.std.proofs.lemmas.List.Elements.{All-from_recursion, All-append, All-cons, All-nil, recursion_from_All}
use Rattle.wt_span.specs.Lexemes.{Word}
use Rattle.wt_span.specs.Braces.{CallAt, Member, Members, PartAt, PartSign, lexeme, call, none, more, pipe, equals, with_name, parts_between, parts_of, signs, listed, width, width_of_all, call_count, calls_of, calls_of_all, calls, members, reduced}
use Rattle.wt_braces.specs.declared.call.Call.{Call}
use Rattle.wt_braces.specs.Views.{call_of, part_of}
use Rattle.wt_transclusion.specs.Targets.{HasTarget}

abbrev HasParts : CallAt → Type 0
HasParts c = 0 < length c.parts

some_named : (later : Bool) (at : ℕ) (ps : List PartAt) → 0 < length ps → 0 < length (with_name later at ps)
some_named later at [] h = h
some_named true at (p ∷ ps) h = omega arith
some_named false at (p ∷ ps) h = omega arith

some_between : (later : Bool) (from to : ℕ) (ss : List PartSign) → 0 < length (parts_between later from to ss)
some_between later from to [] = omega arith
some_between later from to (pipe at n ∷ ss) = omega arith
some_between later from to (equals at n ∷ ss) = some_named later at (parts_between later from to ss) (some_between later from to ss)

some_parts : (from : ℕ) (ms : Members) → 0 < length (parts_of from ms)
unfolding parts_of
some_parts from ms = some_between false from (from + width_of_all ms) (signs from [] (listed ms))

mutual
  have_of : (at : ℕ) (parent : Option ℕ) (n : ℕ) (m : Member) → All HasParts (calls_of at parent n m)
  have_of at parent n (lexeme w) = All-nil HasParts
  have_of at parent n (call k ms) =
      All-cons HasParts _ (calls_of_all (at + k) (Some n) (n + 1) ms) (some_parts (at + k) ms) (have_of_all (at + k) (Some n) (n + 1) ms)

  have_of_all : (at : ℕ) (parent : Option ℕ) (n : ℕ) (ms : Members) → All HasParts (calls_of_all at parent n ms)
  have_of_all at parent n none = All-nil HasParts
  have_of_all at parent n (more m ms) =
      All-append HasParts (calls_of at parent n m) (calls_of_all (at + width m) parent (n + call_count m) ms)
      (have_of at parent n m) (have_of_all (at + width m) parent (n + call_count m) ms)

have_all : (at : ℕ) (ws : List Word) → All HasParts (calls at ws)
unfolding calls
have_all at ws = have_of_all at None 0 (members (reduced ws))

seen : (cs : List Call) → AllByRecursion HasParts (map call_of cs) → AllByRecursion HasTarget cs
seen [] h = tt
seen (c ∷ cs) h = (let l = length-map c.parts part_of in let p = h.0 in omega (arith, l, p), seen cs h.1)

pub have_targets : (cs : List Call) (at : ℕ) (ws : List Word) → map call_of cs ≡ calls at ws → All HasTarget cs
have_targets cs at ws e =
    All-from_recursion HasTarget cs (seen cs (recursion_from_All HasParts (map call_of cs) (subst (All HasParts) (sym e) (have_all at ws))))
