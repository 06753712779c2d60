-- The most children that can stay in their turn, counted from the last one back.
use Rattle.std.proofs.Common.{◌≡◌, ◌⊎◌, ◌≤◌, ◌<◌, ℕ, zero, suc, ◌+◌, ◌-◌, max, Bool, true, false, List, [], ◌∷◌, ◌++◌, length, drop, get_or, set, refl, sym, ap, ◌∙◌, subst, arith, inl, inr, reverse, ltb-true, ltb-false, lt-ltb, le-ltb, le-leb, leb-false, true≢false, append_assoc, length-append}
use Rattle.std.specs.Prelude.{nat_lt, nat_le, ◌&&◌, if◌then◌else◌}
use Rattle.std.proofs.lemmas.Bool.{lt-leb}
use Rattle.std.proofs.lemmas.Bool.Decides.{leb_tells}
use Rattle.std.proofs.lemmas.List.{drop_all, reverse-append, reverse-reverse}
use Rattle.wt_tree.specs.Tree.{Tree, Trees, more, label}
use Rattle.wt_tree.specs.View.{view, views}
use Rattle.wt_tree.specs.declared.node.Node.{Node, out-Node}
use Rattle.wt_checks.specs.Places.{Page}
use Rattle.wt_checks.proofs.Firsts.{if_true, if_false}
use Rattle.wt_places.specs.Piles.{AreFalling, FallFrom, above, put, rise_from, rises}
use Rattle.wt_places.specs.Turns.{is_in_turn, may_follow, may_stay, most_after, turns}
use Rattle.wt_places.proofs.Passing.{from_place, id_seen}

-- ---- numbers that fall

pub lt_tells : (a b : ℕ) → ((nat_lt a b ≡ true) × (a < b)) ⊎ ((nat_lt a b ≡ false) × (b ≤ a))
lt_tells a b = by (nat_lt a b) refl
  where
    by : (t : Bool) → nat_lt a b ≡ t → ((nat_lt a b ≡ true) × (a < b)) ⊎ ((nat_lt a b ≡ false) × (b ≤ a))
    by true e = inl (e, ltb-true a b e)
    by false e = inr (e, ltb-false a b e)

below : (b : ℕ) (ms : List ℕ) (k d : ℕ) → FallFrom b ms → k < length ms → get_or ms k d < b
below b [] k d f lt = absurd (let w : ⊥ = omega arith in w)
below b (m ∷ ms) zero d f lt = f.0
below b (m ∷ ms) (suc k) d f lt = let h = below m ms k d f.1 (omega arith) in omega (arith, h, f.0)

pub above_long : (n : ℕ) (ms : List ℕ) → above n ms ≤ length ms
above_long n [] = omega arith
above_long n (m ∷ ms) = elim (lt_tells n m) [ inl e ↦ (let h = above_long n ms in rw e.0 (omega (arith, h))) | inr e ↦ rw e.0 (omega arith) ]

falls : (m : ℕ) (ms : List ℕ) → AreFalling (m ∷ ms) → AreFalling ms
falls m [] f = tt
falls m (k ∷ ms) f = f.1

-- one that is above it is among those that are
pub in_front : (n : ℕ) (ms : List ℕ) (k d : ℕ) → AreFalling ms → k < length ms → n < get_or ms k d → k < above n ms
in_front n [] k d f lt h = absurd (let w : ⊥ = omega arith in w)
in_front n (m ∷ ms) zero d f lt h =
    elim (lt_tells n m) [ inl e ↦ rw e.0 (omega arith) | inr e ↦ absurd (let w : ⊥ = omega (arith, h, e.1) in w) ]
in_front n (m ∷ ms) (suc k) d f lt h =
    let less = below m ms k d f (omega arith) in
    let rest = in_front n ms k d (falls m ms f) (omega arith) h in
    elim (lt_tells n m) [ inl e ↦ rw e.0 (omega (arith, rest)) | inr e ↦ absurd (let w : ⊥ = omega (arith, h, less, e.1) in w) ]

-- and one that isn't comes after them
pub not_in_front : (n : ℕ) (ms : List ℕ) (k d : ℕ) → k < length ms → get_or ms k d ≤ n → above n ms ≤ k
not_in_front n [] k d lt h = omega arith
not_in_front n (m ∷ ms) zero d lt h =
    elim (lt_tells n m) [ inl e ↦ absurd (let w : ⊥ = omega (arith, h, e.1) in w) | inr e ↦ rw e.0 (omega arith) ]
not_in_front n (m ∷ ms) (suc k) d lt h =
    let rest = not_in_front n ms k d (omega arith) h in
    elim (lt_tells n m) [ inl e ↦ rw e.0 (omega (arith, rest)) | inr e ↦ rw e.0 (omega arith) ]

-- ---- one more

-- where all are above it
pub all_above : (n : ℕ) (ms : List ℕ) → length ms ≤ above n ms → above n ms ≡ length ms
all_above n ms le = let most = above_long n ms in omega (arith, le, most)

above_one : (n m : ℕ) (ms : List ℕ) → nat_lt n m ≡ true → above n (m ∷ ms) ≡ suc (above n ms)
above_one n m ms e = rw e refl

above_none : (n m : ℕ) (ms : List ℕ) → nat_lt n m ≡ false → above n (m ∷ ms) ≡ 0
above_none n m ms e = rw e refl

put_past : (n m : ℕ) (ms : List ℕ) → nat_lt n m ≡ true → put n (m ∷ ms) ≡ m ∷ put n ms
put_past n m ms e = rw e refl

put_here : (n m : ℕ) (ms : List ℕ) → nat_lt n m ≡ false → put n (m ∷ ms) ≡ n ∷ ms
put_here n m ms e = rw e refl

pub put_within : (n : ℕ) (ms : List ℕ) → above n ms < length ms → set ms (above n ms) n ≡ put n ms
put_within n [] lt = absurd (let w : ⊥ = omega arith in w)
put_within n (m ∷ ms) lt = elim (lt_tells n m) [
  | inl e ↦
      let one = above_one n m ms e.0 in
      ap (λ (k : ℕ). set (m ∷ ms) k n) one ∙ ap (λ (ks : List ℕ). m ∷ ks) (put_within n ms (omega (arith, lt, one))) ∙ sym (put_past n m ms e.0)
  | inr e ↦ ap (λ (k : ℕ). set (m ∷ ms) k n) (above_none n m ms e.0) ∙ sym (put_here n m ms e.0)
]

pub put_behind : (n : ℕ) (ms : List ℕ) → length ms ≤ above n ms → ms ++ n ∷ [] ≡ put n ms
put_behind n [] le = refl
put_behind n (m ∷ ms) le = elim (lt_tells n m) [
  | inl e ↦
      let one = above_one n m ms e.0 in
      ap (λ (ks : List ℕ). m ∷ ks) (put_behind n ms (omega (arith, le, one))) ∙ sym (put_past n m ms e.0)
  | inr e ↦ absurd (let zero_here = above_none n m ms e.0 in let w : ⊥ = omega (arith, le, zero_here) in w)
]

fall_lower : (m n : ℕ) (ms : List ℕ) → m ≤ n → FallFrom m ms → FallFrom n ms
fall_lower m n [] le f = tt
fall_lower m n (k ∷ ms) le f = (omega (arith, le, f.0), f.1)

put_falls_from : (b n : ℕ) (ms : List ℕ) → n < b → FallFrom b ms → FallFrom b (put n ms)
put_falls_from b n [] lt f = (lt, tt)
put_falls_from b n (m ∷ ms) lt f = elim (lt_tells n m) [
  | inl e ↦ rw e.0 (f.0, put_falls_from m n ms e.1 f.1)
  | inr e ↦ rw e.0 (lt, fall_lower m n ms e.1 f.1)
]

pub put_falls : (n : ℕ) (ms : List ℕ) → AreFalling ms → AreFalling (put n ms)
put_falls n [] f = tt
put_falls n (m ∷ ms) f = elim (lt_tells n m) [
  | inl e ↦ subst AreFalling (sym (put_past n m ms e.0)) (put_falls_from m n ms e.1 f)
  | inr e ↦ subst AreFalling (sym (put_here n m ms e.0)) (fall_lower m n ms e.1 f)
]

none_above : (m k : ℕ) (ms : List ℕ) → FallFrom m ms → m ≤ k → above k ms ≡ 0
none_above m k [] f le = refl
none_above m k (n ∷ ms) f le = above_none k n ms (le-ltb k n (omega (arith, le, f.0)))

-- of one that isn't less nothing changes
pub above_put_more : (k n : ℕ) (ms : List ℕ) → n ≤ k → above k (put n ms) ≡ above k ms
above_put_more k n [] le = above_none k n [] (le-ltb k n le)
above_put_more k n (m ∷ ms) le = elim (lt_tells n m) [
  | inl e ↦ ap (above k) (put_past n m ms e.0) ∙ elim (lt_tells k m) [
    | inl f ↦ above_one k m (put n ms) f.0 ∙ ap suc (above_put_more k n ms le) ∙ sym (above_one k m ms f.0)
    | inr f ↦ above_none k m (put n ms) f.0 ∙ sym (above_none k m ms f.0)
  ]
  | inr e ↦ ap (above k) (put_here n m ms e.0) ∙ above_none k n ms (le-ltb k n le) ∙ sym (above_none k m ms (le-ltb k m (omega (arith, le, e.1))))
]

-- of a lesser one it may be one more than of the number itself
pub above_put_less : (k n : ℕ) (ms : List ℕ) → k < n → AreFalling ms → above k (put n ms) ≡ max (above k ms) (suc (above n ms))
above_put_less k n [] lt f = above_one k n [] (lt-ltb k n lt)
above_put_less k n (m ∷ ms) lt f = elim (lt_tells n m) [
  | inl e ↦
      let past = ap (above k) (put_past n m ms e.0) in
      let more = above_one k m (put n ms) (lt-ltb k m (omega (arith, lt, e.1))) in
      let rest = above_put_less k n ms lt (falls m ms f) in
      let all = above_one k m ms (lt-ltb k m (omega (arith, lt, e.1))) in
      let one = above_one n m ms e.0 in
      omega (arith, past, more, rest, all, one)
  | inr e ↦
      let here = ap (above k) (put_here n m ms e.0) in
      let more = above_one k n ms (lt-ltb k n lt) in
      let one = above_none n m ms e.0 in
      elim (lt_tells k m) [
        | inl g ↦ let all = above_one k m ms g.0 in omega (arith, here, more, one, all)
        | inr g ↦ let all = above_none k m ms g.0 in let empty = none_above m k ms f g.1 in omega (arith, here, more, one, all, empty)
      ]
]

-- ---- the children from the last one back

-- those behind a place are counted
pub record AreCounted (page : Page) (holder : ℕ) (ns : List Node) (at : ℕ) (piles each : List ℕ) : Type 0 where
  pub within : at ≤ length ns
  pub falling : AreFalling piles
  pub most : (n : ℕ) → most_after page holder n (views (drop at ns)) ≡ above n piles
  pub counted : each ≡ reverse (rises page holder (views (drop at ns)))

one_more : (page : Page) (holder n m : ℕ) (u : Tree) (us : Trees) (piles : List ℕ) → may_stay page holder u ≡ true → (label u).id ≡ m → AreFalling piles
    → ((k : ℕ) → most_after page holder k us ≡ above k piles) → most_after page holder n (more u us) ≡ above n (put m piles)
one_more page holder n m u us piles stays id f most = elim (lt_tells n m) [
  | inl e ↦
      let follows : may_follow page holder n u ≡ true = ap (λ (k : ℕ). nat_lt n k && may_stay page holder u) id ∙ rw e.0 stays in
      if_true (may_follow page holder n u) (max (most_after page holder n us) (suc (most_after page holder (label u).id us))) (most_after page holder n us) follows
      ∙ ap (λ (k : ℕ). max k (suc (most_after page holder (label u).id us))) (most n)
      ∙ ap (λ (k : ℕ). max (above n piles) (suc (most_after page holder k us))) id
      ∙ ap (λ (k : ℕ). max (above n piles) (suc k)) (most m)
      ∙ sym (above_put_less n m piles e.1 f)
  | inr e ↦
      let follows : may_follow page holder n u ≡ false = ap (λ (k : ℕ). nat_lt n k && may_stay page holder u) id ∙ rw e.0 refl in
      if_false (may_follow page holder n u) (max (most_after page holder n us) (suc (most_after page holder (label u).id us))) (most_after page holder n us) follows
      ∙ most n ∙ sym (above_put_more n m piles e.1)
]

and_false : (b c : Bool) → c ≡ false → (b && c) ≡ false
and_false true c e = e
and_false false c e = refl

none_more : (page : Page) (holder n : ℕ) (u : Tree) (us : Trees) → may_stay page holder u ≡ false
    → most_after page holder n (more u us) ≡ most_after page holder n us
none_more page holder n u us e =
    if_false (may_follow page holder n u) (max (most_after page holder n us) (suc (most_after page holder (label u).id us))) (most_after page holder n us)
    (and_false (nat_lt n (label u).id) (may_stay page holder u) e)

rises_pushed : (page : Page) (holder r : ℕ) (u : Tree) (us : Trees) (each new : List ℕ) → each ≡ reverse (rises page holder us)
    → r ≡ rise_from page holder u us → new ≡ each ++ r ∷ [] → new ≡ reverse (rises page holder (more u us))
rises_pushed page holder r u us each new e is added =
    added ∙ ap (λ (ks : List ℕ). ks ++ r ∷ []) e ∙ ap (λ (k : ℕ). reverse (rises page holder us) ++ k ∷ []) is
    ∙ sym (reverse-append (rise_from page holder u us ∷ []) (rises page holder us))

pub counted_more : (page : Page) (holder : ℕ) (ns : List Node) (at r : ℕ) (n : Node) (piles each next new : List ℕ) → at < length ns → n ≡ get_or ns at n
    → may_stay page holder (view n) ≡ true → AreCounted page holder ns (at + 1) piles each → r ≡ suc (above (out-Node n).id piles)
    → next ≡ put (out-Node n).id piles → new ≡ each ++ r ∷ [] → AreCounted page holder ns at next new
counted_more page holder ns at r n piles each next new lt is stays inv above_r put_is added =
    let here : views (drop at ns) ≡ more (view n) (views (drop (at + 1) ns)) = ap views (from_place ns at n lt is) in
    let behind = views (drop (at + 1) ns) in
    record {
      within = omega (arith, lt);
      falling = subst AreFalling (sym put_is) (put_falls (out-Node n).id piles inv.falling);
      most = λ k. ap (most_after page holder k) here ∙ one_more page holder k (out-Node n).id (view n) behind piles stays (id_seen n) inv.falling inv.most
          ∙ ap (above k) (sym put_is);
      counted = rises_pushed page holder r (view n) behind each new inv.counted
          (above_r ∙ ap suc (ap (λ (k : ℕ). above k piles) (sym (id_seen n)) ∙ sym (inv.most (label (view n)).id))
          ∙ sym (if_true (may_stay page holder (view n)) (suc (most_after page holder (label (view n)).id behind)) 0 stays)) added
          ∙ ap (λ us. reverse (rises page holder us)) (sym here);
    }

pub counted_past : (page : Page) (holder : ℕ) (ns : List Node) (at : ℕ) (n : Node) (piles each new : List ℕ) → at < length ns → n ≡ get_or ns at n
    → may_stay page holder (view n) ≡ false → AreCounted page holder ns (at + 1) piles each → new ≡ each ++ 0 ∷ [] → AreCounted page holder ns at piles new
counted_past page holder ns at n piles each new lt is goes inv added =
    let here : views (drop at ns) ≡ more (view n) (views (drop (at + 1) ns)) = ap views (from_place ns at n lt is) in
    let behind = views (drop (at + 1) ns) in
    record {
      within = omega (arith, lt);
      falling = inv.falling;
      most = λ k. ap (most_after page holder k) here ∙ none_more page holder k (view n) behind goes ∙ inv.most k;
      counted = rises_pushed page holder 0 (view n) behind each new inv.counted
          (sym (if_false (may_stay page holder (view n)) (suc (most_after page holder (label (view n)).id behind)) 0 goes)) added
          ∙ ap (λ us. reverse (rises page holder us)) (sym here);
    }

pub counted_none : (page : Page) (holder : ℕ) (ns : List Node) (at : ℕ) → at ≡ length ns → AreCounted page holder ns at [] []
counted_none page holder ns at e =
    let none_left : drop at ns ≡ [] = drop_all at ns (omega (arith, e)) in
    record {
      within = omega (arith, e);
      falling = tt;
      most = λ k. ap (λ ms. most_after page holder k (views ms)) none_left;
      counted = sym (ap (λ ms. reverse (rises page holder (views ms))) none_left);
    }

-- ---- the children from the first one on

-- the children from a place on have their turns as those of all behind the first ones
pub record AreTurned (page : Page) (holder : ℕ) (ns : List Node) (i number left : ℕ) (each : List ℕ) (bs : List Bool) : Type 0 where
  pub size : length bs ≡ i
  pub counted : each ≡ reverse (rises page holder (views (drop i ns)))
  pub most : left ≡ most_after page holder number (views (drop i ns))
  pub turned : bs ++ turns page holder number (views (drop i ns)) ≡ turns page holder 0 (views ns)

le_max : (a b : ℕ) → nat_le (max a b) b ≡ nat_le a b
le_max a b = elim (leb_tells a b) [
  | inl e ↦ le-leb (max a b) b (let h = e.1 in omega (arith, h)) ∙ sym e.0
  | inr e ↦ lt-leb (max a b) b (let h = e.1 in omega (arith, h)) ∙ sym e.0
]

-- what is asked of a child's numbers is what it is to be in its turn
is_asked : (page : Page) (holder n left rise : ℕ) (u : Tree) (us : Trees) → rise ≡ rise_from page holder u us
    → left ≡ most_after page holder n (more u us)
    → (nat_lt n (label u).id && (nat_lt 0 rise && nat_le left rise)) ≡ is_in_turn page holder n u us
is_asked page holder n left rise u us r l = by (nat_lt n (label u).id) (may_stay page holder u) refl refl
  where
    later : ℕ
    later = most_after page holder n us

    own : ℕ
    own = suc (most_after page holder (label u).id us)

    by : (b s : Bool) → nat_lt n (label u).id ≡ b → may_stay page holder u ≡ s
        → (nat_lt n (label u).id && (nat_lt 0 rise && nat_le left rise)) ≡ is_in_turn page holder n u us
    by false s e f = rw e refl
    by true false e f =
        let none_left : rise ≡ 0 = r ∙ if_false (may_stay page holder u) own 0 f in
        ap (λ (k : ℕ). nat_lt n (label u).id && (nat_lt 0 k && nat_le left k)) none_left
        ∙ ap (λ (b : Bool). b && false) e
        ∙ sym (ap (λ (b : Bool). (nat_lt n (label u).id && b) && nat_le later own) f ∙ ap (λ (b : Bool). (b && false) && nat_le later own) e)
    by true true e f =
        let all : rise ≡ own = r ∙ if_true (may_stay page holder u) own 0 f in
        let follows : may_follow page holder n u ≡ true = ap (λ (b : Bool). b && may_stay page holder u) e ∙ f in
        let most : left ≡ max later own = l ∙ if_true (may_follow page holder n u) (max later own) later follows in
        ap (λ (b : Bool). b && (nat_lt 0 rise && nat_le left rise)) e
        ∙ ap (λ (k : ℕ). nat_lt 0 k && nat_le left k) all
        ∙ ap (λ (b : Bool). b && nat_le left own) (lt-ltb 0 own (omega arith))
        ∙ ap (λ (k : ℕ). nat_le k own) most ∙ le_max later own
        ∙ sym (ap (λ (b : Bool). b && nat_le later own) follows)

-- after a child in its turn, and after any other
left_behind : (page : Page) (holder n rise : ℕ) (u : Tree) (us : Trees) → rise ≡ rise_from page holder u us
    → is_in_turn page holder n u us ≡ true → rise ≡ suc (most_after page holder (label u).id us)
left_behind page holder n rise u us r e = by (may_stay page holder u) refl
  where
    by : (s : Bool) → may_stay page holder u ≡ s → rise ≡ suc (most_after page holder (label u).id us)
    by true f = r ∙ if_true (may_stay page holder u) (suc (most_after page holder (label u).id us)) 0 f
    by false f =
        let goes : may_follow page holder n u ≡ false = and_false (nat_lt n (label u).id) (may_stay page holder u) f in
        absurd (true≢false (sym e ∙ ap (λ (b : Bool). b && nat_le (most_after page holder n us) (suc (most_after page holder (label u).id us))) goes))

left_past : (page : Page) (holder n : ℕ) (u : Tree) (us : Trees) → is_in_turn page holder n u us ≡ false
    → most_after page holder n (more u us) ≡ most_after page holder n us
left_past page holder n u us e = by (may_follow page holder n u) refl
  where
    later : ℕ
    later = most_after page holder n us

    own : ℕ
    own = suc (most_after page holder (label u).id us)

    by : (s : Bool) → may_follow page holder n u ≡ s → most_after page holder n (more u us) ≡ later
    by false f = if_false (may_follow page holder n u) (max later own) later f
    by true f =
        let fewer : nat_le later own ≡ false = sym (ap (λ (b : Bool). b && nat_le later own) f) ∙ e in
        let lt : own < later = leb-false later own fewer in
        if_true (may_follow page holder n u) (max later own) later f ∙ omega (arith, lt)

abbrev first_of : ℕ → List ℕ → ℕ
first_of d [] = d
first_of d (k ∷ ks) = k

abbrev others : List ℕ → List ℕ
others [] = []
others (k ∷ ks) = ks

turned_round : (each rest : List ℕ) (r : ℕ) (all : List ℕ) → each ≡ reverse all → each ≡ rest ++ r ∷ [] → all ≡ r ∷ reverse rest
turned_round each rest r all e f = sym (reverse-reverse all) ∙ ap reverse (sym e ∙ f) ∙ reverse-append rest (r ∷ [])

pub turned_more : (page : Page) (holder : ℕ) (ns : List Node) (i number left rise next before : ℕ) (n : Node) (each rest : List ℕ) (bs new : List Bool) (b : Bool)
    → i < length ns → n ≡ get_or ns i n → AreTurned page holder ns i number left each bs → each ≡ rest ++ rise ∷ []
    → b ≡ (nat_lt number (out-Node n).id && (nat_lt 0 rise && nat_le left rise)) → new ≡ bs ++ b ∷ []
    → (b ≡ true → (before ≡ (out-Node n).id) × (next ≡ rise - 1)) → (b ≡ false → (before ≡ number) × (next ≡ left))
    → AreTurned page holder ns (i + 1) before next rest new
turned_more page holder ns i number left rise next before n each rest bs new b lt is inv popped asked added taken past =
    let u : Tree = view n in
    let us : Trees = views (drop (i + 1) ns) in
    let here : views (drop i ns) ≡ more u us = ap views (from_place ns i n lt is) in
    let all : rise_from page holder u us ∷ rises page holder us ≡ rise ∷ reverse rest =
    turned_round each rest rise (rise_from page holder u us ∷ rises page holder us) (inv.counted ∙ ap (λ ts. reverse (rises page holder ts)) here) popped in
    let r : rise ≡ rise_from page holder u us = sym (ap (first_of 0) all) in
    let l : left ≡ most_after page holder number (more u us) = inv.most ∙ ap (most_after page holder number) here in
    let turn : b ≡ is_in_turn page holder number u us =
    asked ∙ ap (λ (k : ℕ). nat_lt number k && (nat_lt 0 rise && nat_le left rise)) (sym (id_seen n)) ∙ is_asked page holder number left rise u us r l in
    let number_is : before ≡ (if is_in_turn page holder number u us then (label u).id else number) = numbered b refl us turn in
    record {
      size = ap length added ∙ length-append bs (b ∷ []) ∙ ap (λ (k : ℕ). k + 1) inv.size;
      counted = sym (reverse-reverse rest) ∙ ap reverse (sym (ap others all));
      most = left_is b refl us turn r l;
      turned =
          ap (λ (cs : List Bool). cs ++ turns page holder before us) added ∙ append_assoc bs (b ∷ []) (turns page holder before us)
          ∙ ap (λ (c : Bool). bs ++ c ∷ turns page holder before us) turn
          ∙ ap (λ (k : ℕ). bs ++ is_in_turn page holder number u us ∷ turns page holder k us) number_is
          ∙ ap (λ ts. bs ++ turns page holder number ts) (sym here) ∙ inv.turned;
    }
  where
    id_is : (label (view n)).id ≡ (out-Node n).id
    id_is = id_seen n

    numbered : (c : Bool) → b ≡ c → (us : Trees) → b ≡ is_in_turn page holder number (view n) us
        → before ≡ (if is_in_turn page holder number (view n) us then (label (view n)).id else number)
    numbered true e us turn =
        (taken e).0 ∙ sym id_is ∙ sym (if_true (is_in_turn page holder number (view n) us) (label (view n)).id number (sym turn ∙ e))
    numbered false e us turn =
        (past e).0 ∙ sym (if_false (is_in_turn page holder number (view n) us) (label (view n)).id number (sym turn ∙ e))

    left_is : (c : Bool) → b ≡ c → (us : Trees) → b ≡ is_in_turn page holder number (view n) us → rise ≡ rise_from page holder (view n) us
        → left ≡ most_after page holder number (more (view n) us) → next ≡ most_after page holder before us
    left_is true e us turn r l =
        let own : rise ≡ suc (most_after page holder (label (view n)).id us) = left_behind page holder number rise (view n) us r (sym turn ∙ e) in
        let one_less : suc (most_after page holder (label (view n)).id us) - 1 ≡ most_after page holder (label (view n)).id us = omega arith in
        (taken e).1 ∙ ap (λ (k : ℕ). k - 1) own ∙ one_less ∙ ap (λ (k : ℕ). most_after page holder k us) (id_is ∙ sym (taken e).0)
    left_is false e us turn r l =
        (past e).1 ∙ l ∙ left_past page holder number (view n) us (sym turn ∙ e) ∙ ap (λ (k : ℕ). most_after page holder k us) (sym (past e).0)
