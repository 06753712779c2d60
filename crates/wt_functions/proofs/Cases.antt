-- Worked cases: what is asked after these texts. A part with a `=` is told by its name.
use Rattle.std.proofs.Common.{◌≡◌, refl, Bool, true, false, List, ℕ, [], ◌∷◌}
use Rattle.std.specs.Prelude.{codes}
use Rattle.wt_span.specs.declared.function.Function.{Function}
use Rattle.wt_span.specs.declared.function.Function.TheVariants.{If, IfEq, Switch}
use Rattle.wt_functions.specs.declared.chooser.Ask.{Ask}
use Rattle.wt_functions.specs.declared.chooser.Ask.TheVariants.{Tell, Give, Nothing}
use Rattle.wt_functions.specs.Choice.{equal_part, last_whole, chosen, told_count, asked}

abbrev after : Function → List Bool → List (List ℕ) → Ask
after f es ts = asked (record { function = f; equals = es; texts = ts })

-- #if begins with part 0
if_begins : after If (false ∷ false ∷ []) [] ≡ Tell 0
unfolding asked told_count chosen equal_part last_whole
if_begins = refl

-- {{#if: x | a | b}}
if_text : after If (false ∷ false ∷ []) (codes "x" ∷ []) ≡ Give 1
unfolding asked told_count chosen equal_part last_whole
if_text = refl

-- {{#if:|a|b}}
if_empty : after If (false ∷ false ∷ []) (codes "" ∷ []) ≡ Give 2
unfolding asked told_count chosen equal_part last_whole
if_empty = refl

-- {{#if:|a}}: part 2 is missing
if_missing : after If (false ∷ []) (codes "" ∷ []) ≡ Nothing
unfolding asked told_count chosen equal_part last_whole
if_missing = refl

-- {{#if:x}}
if_alone : after If [] (codes "x" ∷ []) ≡ Nothing
unfolding asked told_count chosen equal_part last_whole
if_alone = refl

-- {{#if:x|a=b}}: a part of `#if` is given whole
if_equals : after If (true ∷ []) (codes "x" ∷ []) ≡ Give 1
unfolding asked told_count chosen equal_part last_whole
if_equals = refl

-- `#ifeq` tells parts 0 and 1
ifeq_second : after IfEq (false ∷ false ∷ false ∷ []) (codes "a" ∷ []) ≡ Tell 1
unfolding asked told_count chosen equal_part last_whole
ifeq_second = refl

-- {{#ifeq: a | a | y }}
ifeq_equal : after IfEq (false ∷ false ∷ []) (codes "a" ∷ codes "a" ∷ []) ≡ Give 2
unfolding asked told_count chosen equal_part last_whole
ifeq_equal = refl

-- {{#ifeq:a|b|y}}
ifeq_other : after IfEq (false ∷ false ∷ []) (codes "a" ∷ codes "b" ∷ []) ≡ Nothing
unfolding asked told_count chosen equal_part last_whole
ifeq_other = refl

-- {{#ifeq:1|01|y|n}}: texts, not numbers
ifeq_numbers : after IfEq (false ∷ false ∷ false ∷ []) (codes "1" ∷ codes "01" ∷ []) ≡ Give 3
unfolding asked told_count chosen equal_part last_whole
ifeq_numbers = refl

-- {{#ifeq:a}}: a missing part 1 is empty, and isn't told
ifeq_missing : after IfEq [] (codes "a" ∷ []) ≡ Nothing
unfolding asked told_count chosen equal_part last_whole
ifeq_missing = refl

-- {{#ifeq:||y}}
ifeq_both_empty : after IfEq (false ∷ false ∷ []) (codes "" ∷ codes "" ∷ []) ≡ Give 2
unfolding asked told_count chosen equal_part last_whole
ifeq_both_empty = refl

-- {{#switch:a}}
switch_alone : after Switch [] (codes "a" ∷ []) ≡ Nothing
unfolding asked told_count chosen equal_part last_whole
switch_alone = refl

-- {{#switch: b | a = 1 | b | c = 2 | 3 }}: each part up to the equal one
switch_first : after Switch (true ∷ false ∷ true ∷ false ∷ []) (codes "b" ∷ []) ≡ Tell 1
unfolding asked told_count chosen equal_part last_whole
switch_first = refl

switch_second : after Switch (true ∷ false ∷ true ∷ false ∷ []) (codes "b" ∷ codes "a" ∷ []) ≡ Tell 2
unfolding asked told_count chosen equal_part last_whole
switch_second = refl

-- and from the equal one on the first value
switch_falls : after Switch (true ∷ false ∷ true ∷ false ∷ []) (codes "b" ∷ codes "a" ∷ codes "b" ∷ []) ≡ Give 3
unfolding asked told_count chosen equal_part last_whole
switch_falls = refl

-- {{#switch: a | a = 1 | a = 2 }}: the first equal part
switch_value : after Switch (true ∷ true ∷ []) (codes "a" ∷ codes "a" ∷ []) ≡ Give 1
unfolding asked told_count chosen equal_part last_whole
switch_value = refl

-- {{#switch: z | a = 1 | 3 }}: no part is equal, and the last has no `=`
switch_last : after Switch (true ∷ false ∷ []) (codes "z" ∷ codes "a" ∷ codes "3" ∷ []) ≡ Give 2
unfolding asked told_count chosen equal_part last_whole
switch_last = refl

-- {{#switch: b | a = 1 | b | 3 }}: no value follows the equal part
switch_no_value : after Switch (true ∷ false ∷ false ∷ []) (codes "b" ∷ codes "a" ∷ codes "b" ∷ []) ≡ Give 3
unfolding asked told_count chosen equal_part last_whole
switch_no_value = refl

-- {{#switch: z | a = 1 | #default = 4 }}
switch_default : after Switch (true ∷ true ∷ []) (codes "z" ∷ codes "a" ∷ codes "#default" ∷ []) ≡ Give 2
unfolding asked told_count chosen equal_part last_whole
switch_default = refl

-- {{#switch: z | #default = 4 | a = 1 | #default = 5 | b = 2 }}: the last default
switch_last_default : after Switch (true ∷ true ∷ true ∷ true ∷ []) (codes "z" ∷ codes "#default" ∷ codes "a" ∷ codes "#default" ∷ codes "b" ∷ []) ≡ Give 3
unfolding asked told_count chosen equal_part last_whole
switch_last_default = refl

-- {{#switch: z | #default = 4 | 3 }}: a last part without `=` goes before a default
switch_last_first : after Switch (true ∷ false ∷ []) (codes "z" ∷ codes "#default" ∷ codes "3" ∷ []) ≡ Give 2
unfolding asked told_count chosen equal_part last_whole
switch_last_first = refl

-- {{#switch: z | #default | a = 1 }}: a default is a name
switch_default_text : after Switch (false ∷ true ∷ []) (codes "z" ∷ codes "#default" ∷ codes "a" ∷ []) ≡ Nothing
unfolding asked told_count chosen equal_part last_whole
switch_default_text = refl

-- {{#switch: z | #DEFAULT = 4 }}
switch_default_case : after Switch (true ∷ []) (codes "z" ∷ codes "#DEFAULT" ∷ []) ≡ Nothing
unfolding asked told_count chosen equal_part last_whole
switch_default_case = refl

-- {{#switch: #default | #default = 4 | a = 1 }}: it is equal, so the part behind it isn't told
switch_equal_default : after Switch (true ∷ true ∷ []) (codes "#default" ∷ codes "#default" ∷ []) ≡ Give 1
unfolding asked told_count chosen equal_part last_whole
switch_equal_default = refl

-- {{#switch: z | a = 1 | b = 2 }}
switch_nothing : after Switch (true ∷ true ∷ []) (codes "z" ∷ codes "a" ∷ codes "b" ∷ []) ≡ Nothing
unfolding asked told_count chosen equal_part last_whole
switch_nothing = refl

-- {{#switch:|a=1|=2}}: an empty name
switch_empty : after Switch (true ∷ true ∷ []) (codes "" ∷ codes "a" ∷ codes "" ∷ []) ≡ Give 2
unfolding asked told_count chosen equal_part last_whole
switch_empty = refl
