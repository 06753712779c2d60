-- Worked cases: which function a target names, and where its part 0 begins.
use Rattle.std.proofs.Common.{◌≡◌, refl, Some, None}
use Rattle.std.specs.Prelude.{codes}
use Rattle.wt_span.specs.declared.function.Function.TheVariants.{If, IfEq, Switch}
use Rattle.wt_span.specs.Functions.{begins_with, function_of}

plain : function_of (codes "#if: x ") ≡ Some (If, 4)
unfolding function_of begins_with
plain = refl

any_case_past_space : function_of (codes "\n \t#IfEQ:a") ≡ Some (IfEq, 9)
unfolding function_of begins_with
any_case_past_space = refl

word_alone : function_of (codes "#SWITCH:") ≡ Some (Switch, 8)
unfolding function_of begins_with
word_alone = refl

-- the colon follows the name at once
space_before_colon : function_of (codes "#if :x") ≡ None
unfolding function_of begins_with
space_before_colon = refl

no_colon : function_of (codes "#if") ≡ None
unfolding function_of begins_with
no_colon = refl

another_function : function_of (codes "#invoke:x") ≡ None
unfolding function_of begins_with
another_function = refl

-- a longer name is another function's
longer_name : function_of (codes "#ifexpr:1") ≡ None
unfolding function_of begins_with
longer_name = refl

no_sign : function_of (codes "if:x") ≡ None
unfolding function_of begins_with
no_sign = refl

-- a mark before the sign is no blank
behind_mark : function_of (codes "<!-- -->#if:x") ≡ None
unfolding function_of begins_with
behind_mark = refl

nothing : function_of (codes "") ≡ None
unfolding function_of begins_with
nothing = refl
