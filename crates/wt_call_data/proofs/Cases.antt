-- Worked cases of the definitions, each computed.
use Rattle.std.proofs.Common.{◌≡◌, [], ◌∷◌, Some, None, refl}
use Rattle.std.specs.Prelude.{codes, decimal, true, false}
use Rattle.wt_tree.specs.declared.node.Part.TheVariants as part
use Rattle.wt_span.specs.Functions.{begins_with, function_of}
use Rattle.wt_span.specs.Origins.{OuterCall}
use Rattle.wt_call_data.specs.CallData.{trimmed, param_by, call_part, next_call}

-- `{{x| b = c |a=d|b=e}}` at the place 5: of the name `b` the last value stands, and `a` comes before it
abbrev named : OuterCall
named = record {
  start = 5;
  source = codes "{{x| b = c |a=d|b=e}}";
  argument = false;
  parts = (7, 8) ∷ (9, 16) ∷ (17, 20) ∷ (21, 24) ∷ [];
  equals = None ∷ Some 12 ∷ Some 18 ∷ Some 22 ∷ [];
  href = Some (codes "./Template:X");
}

named_part : call_part named 3 ≡ part.Template (codes "x") (codes "./Template:X") ((codes "a", codes "d") ∷ (codes "b", codes "e") ∷ []) 3
unfolding call_part param_by trimmed function_of begins_with
named_part = refl

-- a target stands as it is written, and a value without a name, too
abbrev spaced : OuterCall
spaced = record {
  start = 0;
  source = codes "{{ x\n| b }}";
  argument = false;
  parts = (2, 5) ∷ (6, 9) ∷ [];
  equals = None ∷ None ∷ [];
  href = Some (codes "./Template:X");
}

spaced_part : call_part spaced 0 ≡ part.Template (codes " x\n") (codes "./Template:X") ((decimal 1, codes " b ") ∷ []) 0
unfolding call_part param_by trimmed function_of begins_with
spaced_part = refl

-- a function, whose target is all in front of its first `|`
abbrev function_call : OuterCall
function_call = record {
  start = 0;
  source = codes "{{#If:x| a }}";
  argument = false;
  parts = (2, 7) ∷ (8, 11) ∷ [];
  equals = None ∷ None ∷ [];
  href = None;
}

function_part : call_part function_call 2 ≡ part.Function (codes "if") (codes "#If:x") ((decimal 1, codes " a ") ∷ []) 2
unfolding call_part param_by function_of begins_with
function_part = refl

-- an argument by its whole source, and it isn't counted
abbrev argument : OuterCall
argument = record {
  start = 0;
  source = codes "{{{ n |d}}}";
  argument = true;
  parts = (3, 6) ∷ (7, 8) ∷ [];
  equals = None ∷ None ∷ [];
  href = None;
}

argument_part : call_part argument 4 ≡ part.Param (codes "{{{ n |d}}}")
unfolding call_part
argument_part = refl

argument_next : next_call argument 4 ≡ 4
argument_next = refl

all_white : trimmed (codes " \n\t") ≡ []
unfolding trimmed
all_white = refl
