-- Where a refusal is, and why.
use Rattle.std.specs.Prelude.{◌≡◌, ℕ, suc, ◌<◌, ◌≤◌, Bool, true, false, Result, Ok, Err, List, [], ◌∷◌, length, take}
use Rattle.wt_html_grammar.specs.declared.why.HtmlWhy.{HtmlWhy}
use Rattle.wt_html_grammar.specs.declared.why.HtmlWhy.TheVariants as why
use Rattle.wt_html_grammar.specs.Grammar.{Well, Front}
use Rattle.wt_html_grammar.specs.Machine.{State, start, inside, mended, step, run}

-- the input isn't well-formed, and its longest prefix that begins a well-formed input has this length
pub record IsPlace (bytes : List ℕ) (place : ℕ) : Type 0 where
  pub ill : Well bytes → ⊥
  pub within : place ≤ length bytes
  pub front : Front (take place bytes)
  pub longest : (k : ℕ) → place < k → k ≤ length bytes → Front (take k bytes) → ⊥

-- why the machine stops: at a byte that it refuses, or since there are no more
abbrev pub why_in : Result State HtmlWhy → HtmlWhy
why_in (Ok s) = why.End
why_in (Err w) = w

abbrev pub why_of_refusal : List ℕ → HtmlWhy
why_of_refusal bytes = why_in (run start bytes)

-- refused at this place for this reason
abbrev pub Refused : List ℕ → ℕ → HtmlWhy → Type 0
Refused bytes place w = IsPlace bytes place × (w ≡ why_of_refusal bytes)

-- how many bytes the machine takes
abbrev pub count_on : (State → ℕ) → Result State HtmlWhy → ℕ
count_on f (Ok s) = suc (f s)
count_on f (Err w) = 0

abbrev pub taken : State → List ℕ → ℕ
taken s [] = 0
taken s (b ∷ bs) = count_on (λ t. taken t bs) (mended b (step s b))

-- after the root: nothing more is needed
abbrev pub is_accepted : State → Bool
is_accepted (inside []) = true
is_accepted s = false
