-- Tokens that are taken from the front.
use Rattle.std.proofs.Common.{◌≡◌, ℕ, ◌-◌, ◌≤◌, Option, Some, None, List, [], ◌++◌, length, take, drop, refl, sym, ap, ◌∙◌, subst, arith, append_assoc, append-nil, zero, suc}
use Rattle.std.specs.Prelude.{MatchOption}
use Rattle.std.specs.Vec.Iter.{into_iter_items}
use Rattle.std.proofs.lemmas.List.{take-append-drop, take_all, drop_all}
use Rattle.std.proofs.lemmas.Grind.{flat_map-append}
use Rattle.wt_span.proofs.Lists.{take_append, drop_append}
use Rattle.wt_span.specs.Items.{Item}
use Rattle.wt_inline.specs.Parts.{Part}
use Rattle.wt_inline.specs.Grown.{Grown, Grows, made}
use Rattle.wt_context.specs.declared.token.Token.{Token}
use Rattle.wt_context.specs.declared.stretch.Quotes.{Quotes}
use Rattle.wt_context.specs.declared.rest.Rest.{Rest}
use Rattle.wt_context.specs.Segments.{Segment, segment_items, segment_parts}
use Rattle.wt_context.specs.Tokens.{token_segments, segments_of, quotes_left, rest_segments}

-- a token of which some is taken
pub rest_cut : (r s : Rest) (t front : Token) (q : Option Quotes) (n : ℕ) (o : Option Token) → o ≡ Some t
    → MatchOption o (rest_segments r ≡ []) (λ t. rest_segments r ≡ token_segments t ++ rest_segments s)
    → MatchOption o (rest_segments s ≡ []) (λ t. s.quotes ≡ None)
    → token_segments front ≡ take n (token_segments t) → quotes_left q ≡ drop n (token_segments t)
    → rest_segments r ≡ token_segments front ++ (quotes_left q ++ segments_of (into_iter_items s.tokens))
rest_cut r s t front q n None e h k f g = cc
rest_cut r s t front q n (Some u) e h k f g =
    let is : u ≡ t = same u t e in
    h ∙ ap (λ us. token_segments u ++ (quotes_left us ++ segments_of (into_iter_items s.tokens))) k
    ∙ ap (λ v. token_segments v ++ segments_of (into_iter_items s.tokens)) is
    ∙ ap (λ us. us ++ segments_of (into_iter_items s.tokens))
    (sym (take-append-drop n (token_segments t)) ∙ ap (λ us. us ++ drop n (token_segments t)) (sym f) ∙ ap (λ us. token_segments front ++ us) (sym g))
    ∙ append_assoc (token_segments front) (quotes_left q) (segments_of (into_iter_items s.tokens))
  where
    same : (a b : Token) → Some a ≡ Some b → a ≡ b
    same a b i = cc

pub at_some : {X : Type 0} (o : Option X) (x : X) (A : Type 0) (B : X → Type 0) → o ≡ Some x → MatchOption o A B → B x
at_some {X} o x A B e h = let P : Option X → Type 0 = λ p. MatchOption p A B in subst P e h

-- ---- one token more

pub take_token : (n m : ℕ) (us ts vs : List Segment) → us ≡ ts ++ vs → length ts ≤ n → m ≡ n - length ts → take n us ≡ ts ++ take m vs
take_token n m us ts vs e l i = ap (take n) e ∙ take_append n ts vs ∙ ap (λ xs. xs ++ take (n - length ts) vs) (take_all n ts l)
    ∙ ap (λ k. ts ++ take k vs) (sym i)

pub drop_token : (n m : ℕ) (us ts vs : List Segment) → us ≡ ts ++ vs → length ts ≤ n → m ≡ n - length ts → drop n us ≡ drop m vs
drop_token n m us ts vs e l i = ap (drop n) e ∙ drop_append n ts vs ∙ ap (λ xs. xs ++ drop (n - length ts) vs) (drop_all n ts l) ∙ ap (λ k. drop k vs) (sym i)

-- so many segments of a list are still to come, which are those of the others
abbrev pub AreTaken : Grown → List Segment → ℕ → Grown → List Segment → ℕ → Type 0
AreTaken g us n h vs m = ((ps : List Part) → made h (segment_parts (take m vs) ++ ps) ≡ made g (segment_parts (take n us) ++ ps)) × (drop m vs ≡ drop n us)

pub taken_none : (g : Grown) (us : List Segment) (n : ℕ) → AreTaken g us n g us n
taken_none g us n = (λ ps. refl, refl)

pub taken_step : (g h i : Grown) (n m k : ℕ) (us vs ts ws : List Segment) → vs ≡ ts ++ ws → length ts ≤ m → k ≡ m - length ts → Grows h (segment_parts ts) i
    → AreTaken g us n h vs m → AreTaken g us n i ws k
taken_step g h i n m k us vs ts ws e l f a t = (
  λ ps. a (segment_parts (take k ws) ++ ps)
      ∙ ap (made h) (sym (append_assoc (segment_parts ts) (segment_parts (take k ws)) ps)
      ∙ ap (λ qs. qs ++ ps) (sym (flat_map-append (λ (u : Segment). u.parts) ts (take k ws)) ∙ ap segment_parts (sym (take_token m k vs ts ws e l f))))
      ∙ t.0 ps,
  sym (drop_token m k vs ts ws e l f) ∙ t.1,
)

pub taken_all : (g h : Grown) (n m : ℕ) (us vs : List Segment) → m ≡ 0 → AreTaken g us n h vs m → Grows g (segment_parts (take n us)) h × (vs ≡ drop n us)
taken_all g h n zero us vs e t = (λ ps. t.0 ps, t.1)
taken_all g h n (suc m) us vs e t = absurd (omega (arith, e))

abbrev none_yet : List Segment
none_yet = []

take_nil : (n : ℕ) → take n none_yet ≡ []
take_nil zero = refl
take_nil (suc n) = refl

drop_nil : (n : ℕ) → drop n none_yet ≡ []
drop_nil zero = refl
drop_nil (suc n) = refl

pub taken_end : (g h : Grown) (n m : ℕ) (us vs ws : List Segment) → vs ≡ [] → ws ≡ [] → AreTaken g us n h vs m → Grows g (segment_parts (take n us)) h
    × (ws ≡ drop n us)
taken_end g h n m us vs ws e f t = (
  λ ps. ap (λ xs. made h (segment_parts xs ++ ps)) (sym (take_nil m) ∙ ap (take m) (sym e)) ∙ t.0 ps,
  f ∙ sym (drop_nil m) ∙ ap (drop m) (sym e) ∙ t.1,
)

-- the same of pieces
abbrev pub AreCut : List Item → List Segment → ℕ → List Item → List Segment → ℕ → Type 0
AreCut xs us n ys vs m = (ys ++ segment_items (take m vs) ≡ xs ++ segment_items (take n us)) × (drop m vs ≡ drop n us)

pub cut_step : (xs ys zs : List Item) (n m k : ℕ) (us vs ts ws : List Segment) → vs ≡ ts ++ ws → length ts ≤ m → k ≡ m - length ts
    → zs ≡ ys ++ segment_items ts → AreCut xs us n ys vs m → AreCut xs us n zs ws k
cut_step xs ys zs n m k us vs ts ws e l f a t = (
  ap (λ qs. qs ++ segment_items (take k ws)) a
      ∙ append_assoc ys (segment_items ts) (segment_items (take k ws))
      ∙ ap (λ qs. ys ++ qs) (sym (flat_map-append (λ (u : Segment). u.items) ts (take k ws)) ∙ ap segment_items (sym (take_token m k vs ts ws e l f)))
      ∙ t.0,
  sym (drop_token m k vs ts ws e l f) ∙ t.1,
)

pub cut_all : (ys : List Item) (n m : ℕ) (us vs : List Segment) → m ≡ 0 → AreCut [] us n ys vs m → (ys ≡ segment_items (take n us)) × (vs ≡ drop n us)
cut_all ys n zero us vs e t = (sym (append-nil ys) ∙ t.0, t.1)
cut_all ys n (suc m) us vs e t = absurd (omega (arith, e))

pub cut_end : (ys : List Item) (n m : ℕ) (us vs ws : List Segment) → vs ≡ [] → ws ≡ [] → AreCut [] us n ys vs m → (ys ≡ segment_items (take n us))
    × (ws ≡ drop n us)
cut_end ys n m us vs ws e f t = (
  sym (append-nil ys) ∙ ap (λ xs. ys ++ segment_items xs) (sym (take_nil m) ∙ ap (take m) (sym e)) ∙ t.0,
  f ∙ sym (drop_nil m) ∙ ap (drop m) (sym e) ∙ t.1,
)
