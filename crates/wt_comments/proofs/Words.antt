-- The first place of a word: a step of the search.
use Rattle.std.proofs.Common.{◌≡◌, ℕ, ◌+◌, ◌<◌, true, false, List, ◌∷◌, length, get_or, drop, nat_eq, sym, ap, ◌∙◌}
use Rattle.std.specs.Prelude.{if◌then◌else◌}
use Rattle.std.specs.List.{starts_with}
use Rattle.std.proofs.lemmas.List.{drop_more}
use Rattle.wt_span.specs.Bytes.{through}

through_cons : (word : List ℕ) (b : ℕ) (bs : List ℕ) → starts_with nat_eq (b ∷ bs) word ≡ false → 1 + through word bs ≡ through word (b ∷ bs)
through_cons word b bs h = ap (λ t. if t then length word else 1 + through word bs) (sym h)

-- one more byte at which the word doesn't begin
pub through_more : (word bytes : List ℕ) (at : ℕ) → at < length bytes → starts_with nat_eq (drop at bytes) word ≡ false
    → 1 + through word (drop (at + 1) bytes) ≡ through word (drop at bytes)
through_more word bytes at h absent =
    let e = drop_more bytes at 0 h in
    through_cons word (get_or bytes at 0) (drop (at + 1) bytes) (ap (λ t. starts_with nat_eq t word) (sym e) ∙ absent) ∙ ap (through word) (sym e)

through_head : (word : List ℕ) (b : ℕ) (bs : List ℕ) → starts_with nat_eq (b ∷ bs) word ≡ true → through word (b ∷ bs) ≡ length word
through_head word b bs h = ap (λ t. if t then length word else 1 + through word bs) h

-- the word begins here
pub through_here : (word bytes : List ℕ) (at : ℕ) → at < length bytes → starts_with nat_eq (drop at bytes) word ≡ true
    → through word (drop at bytes) ≡ length word
through_here word bytes at h begins =
    let e = drop_more bytes at 0 h in
    ap (through word) e ∙ through_head word (get_or bytes at 0) (drop (at + 1) bytes) (ap (λ t. starts_with nat_eq t word) (sym e) ∙ begins)
