-- The next closing tag: a step of the search, and what is known further on.
use Rattle.std.proofs.Common.{◌≡◌, ℕ, zero, suc, ◌+◌, ◌-◌, ◌<◌, ◌≤◌, Option, Some, None, List, [], ◌∷◌, length, drop, refl, sym, ap, ◌∙◌, arith}
use Rattle.std.specs.Option.{option_map, option_or}
use Rattle.std.proofs.lemmas.List.{drop_more, drop-drop}
use Rattle.wt_span.specs.Tags.{closing_tag, len_if_named, to_closing}

moved : (at : ℕ) (o : Option ℕ) → option_map (λ n. at + n) (option_map (λ n. 1 + n) o) ≡ option_map (λ n. at + 1 + n) o
moved at None = refl
moved at (Some n) = let e : at + (1 + n) ≡ at + 1 + n = omega arith in ap Some e

onto : (o p q : Option ℕ) → o ≡ q → option_or o p ≡ option_or q p
onto o p q e = ap (λ r. option_or r p) e

closing_at : (name bytes : List ℕ) (at : ℕ) (o : Option ℕ) → at < length bytes → len_if_named name (closing_tag (drop at bytes)) ≡ o
    → to_closing name (drop at bytes) ≡ option_or o (option_map (λ n. 1 + n) (to_closing name (drop (at + 1) bytes)))
closing_at name bytes at o h e =
    let d = drop_more bytes at 0 h in
    ap (to_closing name) d ∙ onto _ _ o (sym (ap (λ t. len_if_named name (closing_tag t)) d) ∙ e)

-- a closing tag of the name begins here
pub closing_here : (name bytes : List ℕ) (at n : ℕ) → at < length bytes → len_if_named name (closing_tag (drop at bytes)) ≡ Some n
    → option_map (λ m. at + m) (to_closing name (drop at bytes)) ≡ Some (at + n)
closing_here name bytes at n h e = ap (option_map (λ m. at + m)) (closing_at name bytes at (Some n) h e)

-- none begins here
pub closing_more : (name bytes : List ℕ) (at : ℕ) → at < length bytes → len_if_named name (closing_tag (drop at bytes)) ≡ None
    → option_map (λ m. at + m) (to_closing name (drop at bytes)) ≡ option_map (λ m. at + 1 + m) (to_closing name (drop (at + 1) bytes))
closing_more name bytes at h e = ap (option_map (λ m. at + m)) (closing_at name bytes at None h e) ∙ moved at (to_closing name (drop (at + 1) bytes))

none_behind : (o p : Option ℕ) → option_or o (option_map (λ n. 1 + n) p) ≡ None → p ≡ None
none_behind None None e = refl
none_behind None (Some n) e = cc
none_behind (Some m) p e = cc

none_cons : (name : List ℕ) (k : ℕ) (bs : List ℕ) → to_closing name bs ≡ None → to_closing name (drop k bs) ≡ None
none_cons name zero bs e = e
none_cons name (suc k) [] e = e
none_cons name (suc k) (b ∷ bs) e = none_cons name k bs (none_behind _ _ e)

-- where none comes from a place on, none comes later
pub none_later : (name bytes : List ℕ) (from at : ℕ) → from ≤ at → to_closing name (drop from bytes) ≡ None → to_closing name (drop at bytes) ≡ None
none_later name bytes from at le e =
    let there : from + (at - from) ≡ at = omega arith in
    ap (λ (m : ℕ). to_closing name (drop m bytes)) (sym there) ∙ ap (to_closing name) (sym (drop-drop (at - from) from bytes))
    ∙ none_cons name (at - from) (drop from bytes) e
