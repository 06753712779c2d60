-- The bytes of cuts, and what stands on the page between them.
use Rattle.std.proofs.Common.{◌≡◌, ℕ, zero, suc, ◌+◌, List, ◌++◌, length, sym, ap, ◌∙◌, arith, length-append, append_assoc}
use Rattle.wt_span.specs.Items.{Item}
use Rattle.wt_span.specs.Origins.{OuterCall}
use Rattle.wt_span.specs.Cuts.{place, text_at, text_between}

pub text_append : (calls : List OuterCall) (all : List Item) (n j k : ℕ)
    → text_between calls all n (j + k) ≡ text_between calls all n j ++ text_between calls all (n + j) k
text_append calls all n zero k =
    let e : 0 + k ≡ k = omega arith in
    let f : n ≡ n + 0 = omega arith in
    ap (text_between calls all n) e ∙ ap (λ m. text_between calls all m k) f
text_append calls all n (suc j) k =
    let e : suc j + k ≡ suc (j + k) = omega arith in
    let f : suc n + j ≡ n + suc j = omega arith in
    ap (text_between calls all n) e
    ∙ ap (λ bs. text_at calls all n ++ bs) (text_append calls all (suc n) j k)
    ∙ sym (append_assoc (text_at calls all n) (text_between calls all (suc n) j) (text_between calls all (suc n + j) k))
    ∙ ap (λ m. (text_at calls all n ++ text_between calls all (suc n) j) ++ text_between calls all m k) f

-- from a cut to one that lies k items behind it
pub place_between : (calls : List OuterCall) (all : List Item) (k n : ℕ) → place calls all (n + k) ≡ place calls all n + length (text_between calls all n k)
place_between calls all zero n = let e : n + 0 ≡ n = omega arith in ap (place calls all) e ∙ omega arith
place_between calls all (suc k) n =
    let e : n + suc k ≡ suc n + k = omega arith in
    let r = place_between calls all k (suc n) in
    let l = length-append (text_at calls all n) (text_between calls all (suc n) k) in
    ap (place calls all) e ∙ omega (arith, r, l)

-- what stands between two cuts, in three
pub text_three : (calls : List OuterCall) (all : List Item) (n o i c : ℕ)
    → text_between calls all n (o + i + c) ≡ text_between calls all n o ++ (text_between calls all (n + o) i ++ text_between calls all (n + o + i) c)
text_three calls all n o i c =
    let e : o + i + c ≡ o + (i + c) = omega arith in
    ap (text_between calls all n) e ∙ text_append calls all n o (i + c) ∙ ap (λ bs. text_between calls all n o ++ bs) (text_append calls all (n + o) i c)

pub width_three : (calls : List OuterCall) (all : List Item) (n o i c : ℕ)
    → length (text_between calls all n (o + i + c))
    ≡ length (text_between calls all n o) + (length (text_between calls all (n + o) i) + length (text_between calls all (n + o + i) c))
width_three calls all n o i c =
    ap length (text_three calls all n o i c)
    ∙ omega (
      arith,
      length-append (text_between calls all n o) (text_between calls all (n + o) i ++ text_between calls all (n + o + i) c),
      length-append
          (text_between calls all (n + o) i) (text_between calls all (n + o + i) c),
    )
