-- The parts that a function asks for are there.
use Rattle.std.proofs.Common.{◌≡◌, ℕ, ◌+◌, ◌<◌, ◌≤◌, List, [], ◌∷◌, length, map, drop, subst, sym, ap, ◌∙◌, arith}
use Rattle.std.proofs.lemmas.List.{length-drop, length-map}
use Rattle.wt_braces.specs.declared.call.PartAt.{PartAt as PartOf}
use Rattle.wt_functions.specs.declared.chooser.Ask.TheVariants.{Tell, Give}
use Rattle.wt_functions.specs.Choice.{Telling, asked}
use Rattle.wt_functions.proofs.ChoiceLaws.{told_in_order, given_there}
use Rattle.wt_template_stack.specs.ToldParts.{have_equals, with_text}

-- of a call with a target
pub parts_asked : (t : Telling) (ps : List PartOf) → 0 < length ps → t.equals ≡ have_equals ps → length t.equals < length ps
parts_asked t [] some e = absurd (omega arith)
parts_asked t (p ∷ ps) some e = let n = ap length e ∙ length-map ps _ in omega (arith, n)

-- one more text changes no part
pub parts_still : (t next : Telling) (text : List ℕ) (n : ℕ) → next ≡ with_text t text → length t.equals < n → length next.equals < n
parts_still t next text n e l = subst (λ (x : Telling). length x.equals < n) (sym e) l

pub told_is_there : (t next : Telling) (text : List ℕ) (n k : ℕ) → next ≡ with_text t text → length t.equals < n → asked next ≡ Tell k → k < n
told_is_there t next text n k e l a =
    let few = parts_still t next text n e l in
    let z = (told_in_order next k a).1 in
    omega (arith, few, z)

pub given_is_there : (t next : Telling) (text : List ℕ) (n k : ℕ) → next ≡ with_text t text → length t.equals < n → asked next ≡ Give k → k < n
given_is_there t next text n k e l a =
    let few = parts_still t next text n e l in
    let z = (given_there next k a).1 in
    omega (arith, few, z)
