-- The first call that lies too deep.
use Rattle.std.proofs.Common.{arith, ◌≡◌, ◌↔◌, ℕ, ◌<◌, ◌≤◌, Bool, true, false, Some, None, List, [], ◌∷◌, ◌++◌, Ok, Err, map, refl, sym, ap, ◌∙◌}
use Rattle.std.specs.Prelude.{nat_le, if◌then◌else◌}
use Rattle.std.proofs.lemmas.Bool.Decides.{nat_tests}
use Rattle.wt_span.specs.Braces.{CallAt, nesting}
use Rattle.wt_braces.specs.Found.{AnswersCalls, deep_among, too_deep}
use Rattle.wt_braces.specs.Views.{call_of}
use Rattle.wt_braces.specs.declared.call.BraceRefusal.TheVariants as refusal
use Rattle.wt_braces.specs.declared.call.Call.{Call}
use Rattle.wt_braces.specs.declared.nesting.TheConstants.{NESTED_BRACES}
use Rattle.wt_page_laws.specs.Deepest.{IsFirstDeep, NoneIsDeep}

record FirstAmong (all cs : List CallAt) (place : ℕ) : Type 0 where
  before : List CallAt
  deep : CallAt
  behind : List CallAt
  whole : cs ≡ before ++ deep ∷ behind
  place_is : place ≡ deep.from
  is_deep : NESTED_BRACES ≤ nesting all deep
  first : NoneIsDeep all before

found_first : (all cs : List CallAt) (place : ℕ) → deep_among all cs ≡ Some place → FirstAmong all cs place
found_first all [] place e = cc
found_first all (c ∷ cs) place e = by (nat_le NESTED_BRACES (nesting all c)) refl e (found_first all cs place)
  where
    by : (v : Bool) → nat_le NESTED_BRACES (nesting all c) ≡ v → (if v then Some c.from else deep_among all cs) ≡ Some place
        → (deep_among all cs ≡ Some place → FirstAmong all cs place) → FirstAmong all (c ∷ cs) place
    by true t e g = record { before = []; deep = c; behind = cs; whole = refl; place_is = cc; is_deep = grind (arith, nat_tests); first = tt }
    by false t e g =
        let f = g e in
        record {
          before = c ∷ f.before;
          deep = f.deep;
          behind = f.behind;
          whole = ap (λ (l : List CallAt). c ∷ l) f.whole;
          place_is = f.place_is;
          is_deep = f.is_deep;
          first = (grind (arith, nat_tests), f.first);
        }

deep_here : (all : List CallAt) (c : CallAt) (cs : List CallAt) → NESTED_BRACES ≤ nesting all c → deep_among all (c ∷ cs) ≡ Some c.from
deep_here all c cs h = let t : nat_le NESTED_BRACES (nesting all c) ≡ true = grind (arith, nat_tests) in rw t refl

deep_later : (all : List CallAt) (c : CallAt) (cs : List CallAt) → nesting all c < NESTED_BRACES → deep_among all (c ∷ cs) ≡ deep_among all cs
deep_later all c cs h = let t : nat_le NESTED_BRACES (nesting all c) ≡ false = grind (arith, nat_tests) in rw t refl

first_found : (all before : List CallAt) (c : CallAt) (behind : List CallAt) → NoneIsDeep all before → NESTED_BRACES ≤ nesting all c
    → deep_among all (before ++ c ∷ behind) ≡ Some c.from
first_found all [] c behind h g = deep_here all c behind g
first_found all (b ∷ before) c behind h g = deep_later all b (before ++ c ∷ behind) h.0 ∙ first_found all before c behind h.1 g

none_found : (all cs : List CallAt) → NoneIsDeep all cs → deep_among all cs ≡ None
none_found all [] h = refl
none_found all (c ∷ cs) h = deep_later all c cs h.0 ∙ none_found all cs h.1

found_none : (all cs : List CallAt) → deep_among all cs ≡ None → NoneIsDeep all cs
found_none all [] e = tt
found_none all (c ∷ cs) e = by (nat_le NESTED_BRACES (nesting all c)) refl e (found_none all cs)
  where
    by : (v : Bool) → nat_le NESTED_BRACES (nesting all c) ≡ v → (if v then Some c.from else deep_among all cs) ≡ None
        → (deep_among all cs ≡ None → NoneIsDeep all cs) → NoneIsDeep all (c ∷ cs)
    by true t e g = cc
    by false t e g = (grind (arith, nat_tests), g e)

pub refused_first : (cs : List CallAt) → (place : ℕ) → (AnswersCalls cs (Err (refusal.BracesTooDeep place))) ↔ (IsFirstDeep cs place)
unfolding too_deep
refused_first cs place = (
  λ e. let f = found_first cs cs place e in
      record { before = f.before; deep = f.deep; behind = f.behind; whole = f.whole; place_is = f.place_is; is_deep = f.is_deep; first = f.first },
  λ f. ap (deep_among cs) f.whole ∙ first_found cs f.before f.deep f.behind f.first f.is_deep ∙ ap Some (sym f.place_is),
)

pub found_where_none : (cs : List CallAt) → (found : List Call) → (AnswersCalls cs (Ok found)) ↔ ((map call_of found ≡ cs) × NoneIsDeep cs cs)
unfolding too_deep
found_where_none cs found = (λ h. (h.0, found_none cs cs h.1), λ h. (h.0, none_found cs cs h.1))
