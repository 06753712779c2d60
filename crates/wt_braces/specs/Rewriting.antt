-- The reduction as single rewritings of a text: its runs and signs, and whatever is between them, from left to right.
use Rattle.std.specs.Prelude.{◌≡◌, ◌≤◌, ℕ, zero, suc, ◌-◌, false, List, [], ◌∷◌, ◌++◌}
use Rattle.wt_span.specs.declared.form.LexKind.TheVariants.{Opens, Closes}
use Rattle.wt_span.specs.Lexemes.{Word}
use Rattle.wt_span.specs.Braces.{Member, lexeme, call, members, has_two, taken, left_over}

-- lexemes as members
abbrev pub as_members : List Word → List Member
as_members [] = []
as_members (w ∷ ws) = lexeme w ∷ as_members ws

-- none of them is an open run that has two braces left
abbrev pub NoOpen : List Member → Type 0
NoOpen [] = Unit {0}
NoOpen (x ∷ xs) = (has_two x ≡ false) × NoOpen xs

-- no closing run that has two braces left comes after an open run that has two left
abbrev pub NoPair : List Member → Type 0
NoPair xs = (left between right : List Member) (n c : ℕ) → xs ≡ (left ++ lexeme (Opens, n) ∷ between) ++ lexeme (Closes, c) ∷ right → 2 ≤ n → 2 ≤ c → ⊥

-- One step: the leftmost closing run that has two braces left, and an open run with two left before it, takes from the
-- nearest such open run. The open run gives its last braces, the closing run its first.
pub record IsStep (from to : List Member) : Type 0 where
  pub before : List Member
  pub opening : ℕ
  pub inside : List Member
  pub closing : ℕ
  pub after : List Member
  pub from_is : from ≡ (before ++ lexeme (Opens, opening) ∷ inside) ++ lexeme (Closes, closing) ∷ after
  pub two_open : 2 ≤ opening
  pub two_close : 2 ≤ closing
  pub nearest : NoOpen inside
  pub leftmost : NoPair (before ++ lexeme (Opens, opening) ∷ inside)
  pub to_is : to ≡ before ++ (left_over Opens (opening - taken opening closing) ++ call (taken opening closing)
      (members inside) ∷ (left_over Closes (closing - taken opening closing) ++ after))

-- so many steps lead from one text to another
abbrev pub AreSteps : ℕ → List Member → List Member → Type 0
AreSteps zero from to = from ≡ to
AreSteps (suc n) from to = (next : List Member) × IsStep from next × AreSteps n next to

-- each closing run has some braces
abbrev pub HaveBraces : List Word → Type 0
HaveBraces [] = Unit {0}
HaveBraces ((Closes, n) ∷ ws) = (1 ≤ n) × HaveBraces ws
HaveBraces ((kind, n) ∷ ws) = HaveBraces ws

-- steps lead from one text to another, and no further step is possible there; and there is no other such text
pub record IsOnlyEnd (from to : List Member) : Type 0 where
  pub count : ℕ
  pub steps : AreSteps count from to
  pub ends : (next : List Member) → IsStep to next → ⊥
  pub only : (n : ℕ) (other : List Member) → AreSteps n from other → ((next : List Member) → IsStep other next → ⊥) → other ≡ to
