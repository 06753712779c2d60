-- What members are: a `]]`, a `[[`, or another one; and an open run that has two braces left.
use Rattle.std.proofs.Common.{◌≡◌, ℕ, suc, ◌+◌, ◌≤◌, Bool, true, false, Some, None, List, [], ◌∷◌, ◌++◌, length, take, drop, nat_le, refl, ap, ◌∙◌, arith, inl, inr}
use Rattle.std.specs.Prelude.{◌⊎◌, slice_get, not, if◌then◌else◌}
use Rattle.std.specs.List.{position_or_len}
use Rattle.std.proofs.lemmas.Bool.Decides.{nat_tests}
use Rattle.wt_span.specs.declared.form.LexKind.TheVariants.{Chars, CommentLine, Comment, Raw, Include, Hidden, Entity, Opens, Closes, LinkOpen, LinkClose, Pipe, Equals}
use Rattle.wt_span.specs.Braces.{Member, lexeme, call, members, listed, sign_of, is_kind_open, is_kind_close, has_two}

-- it is no link's bracket
pub record Plain (x : Member) : Type 0 where
  pub no_close : is_kind_close x ≡ false
  pub no_open : is_kind_open x ≡ false

pub record ClosesLink (x : Member) : Type 0 where
  pub close : is_kind_close x ≡ true
  pub no_open : is_kind_open x ≡ false
  pub no_sign : (at : ℕ) → sign_of x at ≡ []

pub record OpensLink (x : Member) : Type 0 where
  pub no_close : is_kind_close x ≡ false
  pub open_link : is_kind_open x ≡ true
  pub no_sign : (at : ℕ) → sign_of x at ≡ []

pub data Shape (x : Member) : Type 0 where
  plain : Plain x → Shape x
  closing : ClosesLink x → Shape x
  opening : OpensLink x → Shape x

is_plain : (x : Member) → is_kind_close x ≡ false → is_kind_open x ≡ false → Shape x
is_plain x a b = plain (record { no_close = a; no_open = b })

pub shape : (x : Member) → Shape x
shape (lexeme (Chars, n)) = is_plain _ refl refl
shape (lexeme (CommentLine, n)) = is_plain _ refl refl
shape (lexeme (Comment, n)) = is_plain _ refl refl
shape (lexeme (Raw, n)) = is_plain _ refl refl
shape (lexeme (Include, n)) = is_plain _ refl refl
shape (lexeme (Hidden, n)) = is_plain _ refl refl
shape (lexeme (Entity c, n)) = is_plain _ refl refl
shape (lexeme (Opens, n)) = is_plain _ refl refl
shape (lexeme (Closes, n)) = is_plain _ refl refl
shape (lexeme (LinkOpen, n)) = opening (record { no_close = refl; open_link = refl; no_sign = λ at. refl })
shape (lexeme (LinkClose, n)) = closing (record { close = refl; no_open = refl; no_sign = λ at. refl })
shape (lexeme (Pipe, n)) = is_plain _ refl refl
shape (lexeme (Equals, n)) = is_plain _ refl refl
shape (call k ms) = is_plain _ refl refl

-- ---- the nearest open run that has two braces left

pub record IsRun (x : Member) : Type 0 where
  pub braces : ℕ
  pub is : x ≡ lexeme (Opens, braces)
  pub two : 2 ≤ braces

two_braces : (n : ℕ) → nat_le 2 n ≡ true → 2 ≤ n
two_braces n e = grind (arith, nat_tests)

pub run_of : (x : Member) → has_two x ≡ true → IsRun x
run_of (lexeme (Chars, n)) e = absurd cc
run_of (lexeme (CommentLine, n)) e = absurd cc
run_of (lexeme (Comment, n)) e = absurd cc
run_of (lexeme (Raw, n)) e = absurd cc
run_of (lexeme (Include, n)) e = absurd cc
run_of (lexeme (Hidden, n)) e = absurd cc
run_of (lexeme (Entity c, n)) e = absurd cc
run_of (lexeme (Opens, n)) e = record { braces = n; is = refl; two = two_braces n e }
run_of (lexeme (Closes, n)) e = absurd cc
run_of (lexeme (LinkOpen, n)) e = absurd cc
run_of (lexeme (LinkClose, n)) e = absurd cc
run_of (lexeme (Pipe, n)) e = absurd cc
run_of (lexeme (Equals, n)) e = absurd cc
run_of (call k ms) e = absurd cc

-- none of them is such a run
abbrev pub NoRun : List Member → Type 0
NoRun [] = Unit {0}
NoRun (x ∷ xs) = (has_two x ≡ false) × NoRun xs

pub record Behind (before : List Member) : Type 0 where
  pub inside : List Member
  pub braces : ℕ
  pub rest : List Member
  pub is : before ≡ inside ++ lexeme (Opens, braces) ∷ rest
  pub free : NoRun inside
  pub two : 2 ≤ braces

pub nearest : (before : List Member) → NoRun before ⊎ Behind before
nearest [] = inl tt
nearest (x ∷ before) = by_test (has_two x) refl (nearest before)
  where
    by_test : (t : Bool) → has_two x ≡ t → NoRun before ⊎ Behind before → NoRun (x ∷ before) ⊎ Behind (x ∷ before)
    by_test true e h = let r = run_of x e in inr (record {
      inside = [];
      braces = r.braces;
      rest = before;
      is =
          ap (λ y. y ∷ before) r.is;
      free = tt;
      two = r.two;
    })
    by_test false e (inl h) = inl (e, h)
    by_test false e (inr h) = inr (record {
      inside = x ∷ h.inside;
      braces = h.braces;
      rest = h.rest;
      is =
          ap (λ ys. x ∷ ys) h.is;
      free = (e, h.free);
      two = h.two;
    })

pub place_none : (before : List Member) → NoRun before → position_or_len has_two before ≡ length before
place_none [] h = refl
place_none (x ∷ before) h =
    let e : position_or_len has_two (x ∷ before) ≡ 1 + position_or_len has_two before = ap (λ t. if not t then 1 + position_or_len has_two before else 0) h.0 in
    omega (arith, e, place_none before h.1)

pub place_some : (inside : List Member) (x : Member) (rest : List Member) → NoRun inside → has_two x ≡ true
    → position_or_len has_two (inside ++ x ∷ rest) ≡ length inside
place_some [] x rest h e = ap (λ t. if not t then 1 + position_or_len has_two rest else 0) e
place_some (y ∷ inside) x rest h e =
    let f : position_or_len has_two (y ∷ (inside ++ x ∷ rest)) ≡ 1 + position_or_len has_two (inside ++ x ∷ rest) =
    ap (λ t. if not t then 1 + position_or_len has_two (inside ++ x ∷ rest) else 0) h.0 in
    omega (arith, f, place_some inside x rest h.1 e)

pub get_at : (inside : List Member) (x : Member) (rest : List Member) → slice_get (inside ++ x ∷ rest) (length inside) ≡ Some x
get_at [] x rest = refl
get_at (y ∷ inside) x rest = get_at inside x rest

pub get_none : (before : List Member) → slice_get before (length before) ≡ None
get_none [] = refl
get_none (x ∷ before) = get_none before

pub take_at : (inside rest : List Member) → take (length inside) (inside ++ rest) ≡ inside
take_at [] [] = refl
take_at [] (x ∷ rest) = refl
take_at (y ∷ inside) rest = ap (λ ys. y ∷ ys) (take_at inside rest)

pub drop_past : (inside : List Member) (x : Member) (rest : List Member) → drop (length inside + 1) (inside ++ x ∷ rest) ≡ rest
drop_past [] x [] = refl
drop_past [] x (y ∷ rest) = refl
drop_past (z ∷ inside) x rest =
    let e : length (z ∷ inside) + 1 ≡ suc (length inside + 1) = omega arith in ap (λ n. drop n (z ∷ (inside ++ x ∷ rest))) e ∙ drop_past inside x rest

pub listed_members : (xs : List Member) → listed (members xs) ≡ xs
listed_members [] = refl
listed_members (x ∷ xs) = ap (λ ys. x ∷ ys) (listed_members xs)
