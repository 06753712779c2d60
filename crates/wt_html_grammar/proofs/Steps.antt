-- One step, and several.
use Rattle.std.proofs.Common.{◌≡◌, ℕ, Bool, true, false, Result, Ok, Err, List, [], ◌∷◌, ◌++◌, refl, ap, nat_lt, ◌<◌, arith}
use Rattle.std.specs.Prelude.{if◌then◌else◌}
use Rattle.std.proofs.lemmas.Bool.Decides.{nat_tests}
use Rattle.wt_html_grammar.specs.declared.why.HtmlWhy.{HtmlWhy}
use Rattle.wt_html_grammar.specs.Machine.{State, step, mended, run, onward}

pub if_true : {A : Type 0} (t : Bool) (x y : A) → t ≡ true → (if t then x else y) ≡ x
if_true true x y e = refl
if_true false x y e = cc

pub if_false : {A : Type 0} (t : Bool) (x y : A) → t ≡ false → (if t then x else y) ≡ y
if_false true x y e = cc
if_false false x y e = refl

pub if_case : {A : Type 0} (P : A → Type 0) (t : Bool) (x y : A) → (t ≡ true → P x) → (t ≡ false → P y) → P (if t then x else y)
if_case P true x y f g = f refl
if_case P false x y f g = g refl

pub lt_test : (m n : ℕ) → m < n → nat_lt m n ≡ true
lt_test m n h = grind (arith, nat_tests)

pub lt_of_test : (m n : ℕ) → nat_lt m n ≡ true → m < n
lt_of_test m n h = grind (arith, nat_tests)

pub run_step : (s t : State) (b : ℕ) (bs : List ℕ) → step s b ≡ Ok t → run s (b ∷ bs) ≡ run t bs
run_step s t b bs e = let F : Result State HtmlWhy → Result State HtmlWhy = λ o. onward (λ u. run u bs) (mended b o) in ap F e

then_append : (bs cs : List ℕ) → ((t : State) → run t (bs ++ cs) ≡ onward (λ u. run u cs) (run t bs)) → (o : Result State HtmlWhy)
    → onward (λ t. run t (bs ++ cs)) o ≡ onward (λ t. run t cs) (onward (λ t. run t bs) o)
then_append bs cs h (Err w) = refl
then_append bs cs h (Ok t) = h t

-- a run of two pieces is a run of the first and then of the second
pub run_append : (s : State) (bs cs : List ℕ) → run s (bs ++ cs) ≡ onward (λ t. run t cs) (run s bs)
run_append s [] cs = refl
run_append s (b ∷ bs) cs = then_append bs cs (λ t. run_append t bs cs) (mended b (step s b))
