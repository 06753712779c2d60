-- The word of a group by its first call.
use Rattle.std.proofs.Common.{◌≡◌, ℕ, Bool, true, false, Option, Some, None, List, [], ◌∷◌, refl, ap, ◌∙◌}
use Rattle.std.specs.Prelude.{◌++◌, slice_get, if◌then◌else◌}
use Rattle.wt_tree.specs.declared.node.Part.TheVariants as datum
use Rattle.wt_span.specs.declared.function.Function.{Function}
use Rattle.wt_span.specs.Origins.{OuterCall}
use Rattle.wt_call_data.specs.CallData.{braces_part, call_part, function_named}
use Rattle.wt_annotated.specs.GroupData.{call_parts, data_parts, group_data, next_number}
use Rattle.wt_annotated.specs.GroupParts.{Part, called}
use Rattle.wt_annotated.specs.GroupWord.{argument_word, group_word, part_word, parts_word, transclusion_word}

word_by : (b : Bool) (f : Option (Function × ℕ)) (c : OuterCall) (i : ℕ)
    → part_word (if b then datum.Param c.source else braces_part c i f) ≡ (if b then argument_word else transclusion_word)
word_by true f c i = refl
word_by false None c i = refl
word_by false (Some (f, n)) c i = refl

first_word : (c : OuterCall) (i : ℕ) → part_word (call_part c i) ≡ (if c.argument then argument_word else transclusion_word)
unfolding call_part
first_word c i = word_by c.argument (function_named c) c i

pub called_word : (calls : List OuterCall) (k : ℕ) (ps : List Part) (c : OuterCall) → slice_get calls k ≡ Some c
    → group_word (group_data calls (called k ∷ ps)) ≡ (if c.argument then argument_word else transclusion_word)
unfolding group_data
called_word calls k ps c e =
    ap (λ (x : Option OuterCall). parts_word (call_parts x 0 ++ data_parts calls (next_number (slice_get calls k) 0) ps)) e
    ∙ first_word c 0

pub empty_word : (calls : List OuterCall) → group_word (group_data calls []) ≡ transclusion_word
unfolding group_data
empty_word calls = refl
