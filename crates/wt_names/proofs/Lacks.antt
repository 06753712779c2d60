-- Lists that lack a kind of byte, and what keeps that so.
use Rattle.std.proofs.Common.{◌≡◌, ℕ, Bool, true, false, cond, ◌||◌, ◌&&◌, nat_eq, List, [], ◌∷◌, ◌++◌, length, refl, sym, ap, ◌∙◌, inl, inr}
use Rattle.std.specs.List.{list_any}
use Rattle.std.specs.Char.{to_ascii_uppercase}
use Rattle.std.proofs.lemmas.Bool.{cond_both, eq-eqb}
use Rattle.std.proofs.lemmas.Bool.Decides.{eqb_tells}
use Rattle.wt_names.specs.Reading.{replaced, replaced_byte, squeezed, begins_with_space, trimmed_start, trimmed_end, trimmed, raised}

-- no byte passes the test
abbrev pub Lacks : (ℕ → Bool) → List ℕ → Type 0
Lacks test [] = Unit {0}
Lacks test (b ∷ bs) = (test b ≡ false) × Lacks test bs

pub both_false : (s t : Bool) → (s || t) ≡ false → (s ≡ false) × (t ≡ false)
both_false true t e = absurd (let z : true ≡ false = e in cc)
both_false false t e = (refl, e)

pub lacks_from_any : (test : ℕ → Bool) (bs : List ℕ) → list_any test bs ≡ false → Lacks test bs
lacks_from_any test [] e = tt
lacks_from_any test (b ∷ bs) e = let both = both_false (test b) (list_any test bs) e in (both.0, lacks_from_any test bs both.1)

pub any_from_lacks : (test : ℕ → Bool) (bs : List ℕ) → Lacks test bs → list_any test bs ≡ false
any_from_lacks test [] l = refl
any_from_lacks test (b ∷ bs) l = ap (λ t. t || list_any test bs) l.0 ∙ any_from_lacks test bs l.1

pub lacks_weaker : (test other : ℕ → Bool) → ((b : ℕ) → test b ≡ false → other b ≡ false) → (bs : List ℕ) → Lacks test bs → Lacks other bs
lacks_weaker test other weaker [] l = tt
lacks_weaker test other weaker (b ∷ bs) l = (weaker b l.0, lacks_weaker test other weaker bs l.1)

pub lacks_append : (test : ℕ → Bool) (xs ys : List ℕ) → Lacks test xs → Lacks test ys → Lacks test (xs ++ ys)
lacks_append test [] ys l m = m
lacks_append test (x ∷ xs) ys l m = (l.0, lacks_append test xs ys l.1 m)

pub lacks_left : (test : ℕ → Bool) (xs ys : List ℕ) → Lacks test (xs ++ ys) → Lacks test xs
lacks_left test [] ys l = tt
lacks_left test (x ∷ xs) ys l = (l.0, lacks_left test xs ys l.1)

pub lacks_right : (test : ℕ → Bool) (xs ys : List ℕ) → Lacks test (xs ++ ys) → Lacks test ys
lacks_right test [] ys l = l
lacks_right test (x ∷ xs) ys l = lacks_right test xs ys l.1

pub lacks_squeezed : (test : ℕ → Bool) (bs : List ℕ) → Lacks test bs → Lacks test (squeezed bs)
lacks_squeezed test [] l = tt
lacks_squeezed test (b ∷ bs) l =
    cond_both (nat_eq b 32 && begins_with_space bs) (squeezed bs) (b ∷ squeezed bs) (Lacks test) (λ _. lacks_squeezed test bs l.1)
    (λ _. (l.0, lacks_squeezed test bs l.1))

pub lacks_trimmed_start : (test : ℕ → Bool) (bs : List ℕ) → Lacks test bs → Lacks test (trimmed_start bs)
lacks_trimmed_start test [] l = tt
lacks_trimmed_start test (b ∷ bs) l = cond_both (nat_eq b 32) (trimmed_start bs) (b ∷ bs) (Lacks test) (λ _. lacks_trimmed_start test bs l.1) (λ _. l)

pub lacks_trimmed_end : (test : ℕ → Bool) (bs : List ℕ) → Lacks test bs → Lacks test (trimmed_end bs)
lacks_trimmed_end test [] l = tt
lacks_trimmed_end test (b ∷ bs) l =
    cond_both (nat_eq b 32 && nat_eq (length (trimmed_end bs)) 0) [] (b ∷ trimmed_end bs) (Lacks test) (λ _. tt) (λ _. (l.0, lacks_trimmed_end test bs l.1))

pub lacks_trimmed : (test : ℕ → Bool) (bs : List ℕ) → Lacks test bs → Lacks test (trimmed bs)
lacks_trimmed test bs l = lacks_trimmed_end test (trimmed_start bs) (lacks_trimmed_start test bs l)

pub lacks_raised : (test : ℕ → Bool) → ((b : ℕ) → test b ≡ false → test (to_ascii_uppercase b) ≡ false) → (bs : List ℕ) → Lacks test bs → Lacks test (raised bs)
lacks_raised test keeps [] l = tt
lacks_raised test keeps (b ∷ bs) l = (keeps b l.0, l.1)

pub lacks_replaced : (test : ℕ → Bool) (from to : ℕ) → test to ≡ false → (bs : List ℕ) → Lacks test bs → Lacks test (replaced from to bs)
lacks_replaced test from to fine [] l = tt
lacks_replaced test from to fine (b ∷ bs) l =
    (cond_both (nat_eq b from) to b (λ c. test c ≡ false) (λ _. fine) (λ _. l.0), lacks_replaced test from to fine bs l.1)

-- after the change the byte that was changed is gone
pub lacks_replaced_byte : (from to : ℕ) → nat_eq to from ≡ false → (bs : List ℕ) → Lacks (λ b. nat_eq b from) (replaced from to bs)
lacks_replaced_byte from to other [] = tt
lacks_replaced_byte from to other (b ∷ bs) =
    (cond_both (nat_eq b from) to b (λ c. nat_eq c from ≡ false) (λ _. other) (λ e. e), lacks_replaced_byte from to other bs)

byte_back : (from to b : ℕ) → nat_eq b to ≡ false → replaced_byte to from (replaced_byte from to b) ≡ b
byte_back from to b other = elim (eqb_tells b from) [
  | inl is ↦ ap (λ t. replaced_byte to from (cond t to b)) is.0 ∙ ap (λ t. cond t from to) (eq-eqb to to refl) ∙ sym is.1
  | inr no_from ↦ ap (λ t. replaced_byte to from (cond t to b)) no_from.0 ∙ ap (λ t. cond t from b) other
]

-- and back
pub replaced_back : (from to : ℕ) (bs : List ℕ) → Lacks (λ b. nat_eq b to) bs → replaced to from (replaced from to bs) ≡ bs
replaced_back from to [] l = refl
replaced_back from to (b ∷ bs) l = ap (λ c. c ∷ replaced to from (replaced from to bs)) (byte_back from to b l.0)
    ∙ ap (λ x. b ∷ x) (replaced_back from to bs l.1)
