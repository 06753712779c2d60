-- Names stay distinct after a push that was made or wasn't.
use Rattle.std.proofs.Common.{◌≡◌, ◌≢◌, ◌<◌, ℕ, List, [], ◌∷◌, ◌++◌, length, get_or, Result, Ok, Err, OnOk, OnErr, AllPairs, sym, subst}
use Rattle.std.proofs.lemmas.List.Quantifiers.{all_pairs_push}

pub after_push : {N P U E : Type 0} (r : Result U E) (old seen new : List (N × P)) (y : N × P) (name : N) → seen ≡ old → name ≡ y.0
    → OnOk r (new ≡ old ++ y ∷ []) → OnErr r (new ≡ old)
    → ((k : ℕ) (d : N × P) → k < length seen → (get_or seen k d).0 ≢ name) → AllPairs (λ a b. a.0 ≢ b.0) old → AllPairs (λ a b. a.0 ≢ b.0) new
after_push {N} {P} (Ok _) old seen new y name same called made _ others was =
    let apart = subst (λ xs. (k : ℕ) (d : N × P) → k < length xs → (get_or xs k d).0 ≢ y.0) same
    (subst (λ n. (k : ℕ) (d : N × P) → k < length seen → (get_or seen k d).0 ≢ n) called others) in
    subst (λ xs. AllPairs (λ a b. a.0 ≢ b.0) xs) (sym made) (all_pairs_push (λ a b. a.0 ≢ b.0) old y was apart)
after_push (Err _) old seen new y name _ _ _ left _ was = subst (λ xs. AllPairs (λ a b. a.0 ≢ b.0) xs) (sym left) was
