-- The children that stay in their turn, beside any choice that rises.
use Rattle.std.proofs.Common.{◌≡◌, ◌≤◌, ◌<◌, ℕ, suc, ◌+◌, max, Bool, true, false, List, [], ◌∷◌, refl, sym, ap, ◌∙◌, subst, arith, ltb-true, lt-ltb, le-leb, leb-true, leb-false, true≢false}
use Rattle.std.specs.Prelude.{nat_lt, nat_le, ◌&&◌, if◌then◌else◌}
use Rattle.wt_tree.specs.Tree.{Tree, Trees, none, more, label}
use Rattle.wt_checks.specs.Places.{Page}
use Rattle.wt_places.specs.Turns.{is_in_turn, may_follow, may_stay, most_after, turns}
use Rattle.wt_call_laws.specs.Choices.{IsFirstOfMost, IsRising, TakesFirst, moved, taken, those_that_may_stay}

-- ---- two tests

pub both : (b c : Bool) → (b && c) ≡ true → (b ≡ true) × (c ≡ true)
both true c e = (refl, e)
both false c e = absurd (true≢false (sym e))

not_both : (b c : Bool) → c ≡ false → (b && c) ≡ false
not_both true c e = e
not_both false c e = refl

-- ---- one child

follows : (page : Page) (holder n : ℕ) (u : Tree) → n < (label u).id → may_stay page holder u ≡ true → may_follow page holder n u ≡ true
follows page holder n u lt stays = ap (λ (b : Bool). b && may_stay page holder u) (lt-ltb n (label u).id lt) ∙ stays

-- the most with a child before the others, by whether it may follow
abbrev most_by : Page → ℕ → ℕ → Tree → Trees → Bool → ℕ
most_by page holder n u us b =
    if b then max (most_after page holder n us) (suc (most_after page holder (label u).id us)) else most_after page holder n us

not_less : (page : Page) (holder n : ℕ) (u : Tree) (us : Trees) → most_after page holder n us ≤ most_after page holder n (more u us)
not_less page holder n u us = by (may_follow page holder n u)
  where
    by : (b : Bool) → most_after page holder n us ≤ most_by page holder n u us b
    by true = omega arith
    by false = omega arith

not_more : (page : Page) (holder n : ℕ) (u : Tree) (us : Trees)
    → most_after page holder n (more u us) ≤ max (most_after page holder n us) (suc (most_after page holder (label u).id us))
not_more page holder n u us = by (may_follow page holder n u)
  where
    by : (b : Bool) → most_by page holder n u us b ≤ max (most_after page holder n us) (suc (most_after page holder (label u).id us))
    by true = omega arith
    by false = omega arith

with_it : (page : Page) (holder n : ℕ) (u : Tree) (us : Trees) → may_follow page holder n u ≡ true
    → most_after page holder n (more u us) ≡ max (most_after page holder n us) (suc (most_after page holder (label u).id us))
with_it page holder n u us e = ap (most_by page holder n u us) e

without_it : (page : Page) (holder n : ℕ) (u : Tree) (us : Trees) → may_follow page holder n u ≡ false
    → most_after page holder n (more u us) ≡ most_after page holder n us
without_it page holder n u us e = ap (most_by page holder n u us) e

own_first : (page : Page) (holder n : ℕ) (u : Tree) (us : Trees) → n < (label u).id → may_stay page holder u ≡ true
    → suc (most_after page holder (label u).id us) ≤ most_after page holder n (more u us)
own_first page holder n u us lt stays = let e = with_it page holder n u us (follows page holder n u lt stays) in omega (arith, e)

pub record InTurn (page : Page) (holder n : ℕ) (u : Tree) (us : Trees) : Type 0 where
  pub stays : may_stay page holder u ≡ true
  pub greater : n < (label u).id
  pub enough : most_after page holder n us ≤ suc (most_after page holder (label u).id us)

pub in_turn : (page : Page) (holder n : ℕ) (u : Tree) (us : Trees) → is_in_turn page holder n u us ≡ true → InTurn page holder n u us
in_turn page holder n u us e =
    let asked = both (may_follow page holder n u) (nat_le (most_after page holder n us) (suc (most_after page holder (label u).id us))) e in
    let parts = both (nat_lt n (label u).id) (may_stay page holder u) asked.0 in
    record {
      stays = parts.1;
      greater = ltb-true n (label u).id parts.0;
      enough = leb-true (most_after page holder n us) (suc (most_after page holder (label u).id us)) asked.1;
    }

is_turn : (page : Page) (holder n : ℕ) (u : Tree) (us : Trees) → InTurn page holder n u us → is_in_turn page holder n u us ≡ true
is_turn page holder n u us t =
    ap (λ (b : Bool). b && nat_le (most_after page holder n us) (suc (most_after page holder (label u).id us))) (follows page holder n u t.greater t.stays)
    ∙ le-leb (most_after page holder n us) (suc (most_after page holder (label u).id us)) t.enough

turn_counts : (page : Page) (holder n : ℕ) (u : Tree) (us : Trees) → is_in_turn page holder n u us ≡ true
    → most_after page holder n (more u us) ≡ suc (most_after page holder (label u).id us)
turn_counts page holder n u us e =
    let t = in_turn page holder n u us e in
    let enough : most_after page holder n us ≤ suc (most_after page holder (label u).id us) = t.enough in
    let m = with_it page holder n u us (follows page holder n u t.greater t.stays) in omega (arith, m, enough)

past_counts : (page : Page) (holder n : ℕ) (u : Tree) (us : Trees) → is_in_turn page holder n u us ≡ false
    → most_after page holder n (more u us) ≡ most_after page holder n us
past_counts page holder n u us e = by (may_follow page holder n u) refl
  where
    later : ℕ
    later = most_after page holder n us

    own : ℕ
    own = suc (most_after page holder (label u).id us)

    by : (b : Bool) → may_follow page holder n u ≡ b → most_after page holder n (more u us) ≡ later
    by false f = without_it page holder n u us f
    by true f =
        let fewer : nat_le later own ≡ false = sym (ap (λ (b : Bool). b && nat_le later own) f) ∙ e in
        let lt : own < later = leb-false later own fewer in
        let m : most_after page holder n (more u us) ≡ max later own = with_it page holder n u us f in m ∙ omega (arith, lt)

-- ---- they rise

rises_at : (page : Page) (holder n : ℕ) (u : Tree) (us : Trees) → ((k : ℕ) → IsRising page holder k (turns page holder k us) us)
    → (b : Bool) → is_in_turn page holder n u us ≡ b
    → IsRising page holder n (b ∷ turns page holder (if b then (label u).id else n) us) (more u us)
rises_at page holder n u us rest true e = let t = in_turn page holder n u us e in (t.stays, (t.greater, rest (label u).id))
rises_at page holder n u us rest false e = rest n

pub turns_are_rising : (page : Page) (holder n : ℕ) (us : Trees) → IsRising page holder n (turns page holder n us) us
turns_are_rising page holder n none = tt
turns_are_rising page holder n (more u us) =
    rises_at page holder n u us (λ k. turns_are_rising page holder k us) (is_in_turn page holder n u us) refl

-- ---- none takes more

at_most : (page : Page) (holder n : ℕ) (choice : List Bool) (us : Trees) → IsRising page holder n choice us
    → taken choice ≤ most_after page holder n us
at_most page holder n [] none h = omega arith
at_most page holder n [] (more u us) h = absurd h
at_most page holder n (b ∷ bs) none h = absurd h
at_most page holder n (true ∷ bs) (more u us) h =
    let rest = at_most page holder (label u).id bs us h.1.1 in let own = own_first page holder n u us h.1.0 h.0 in omega (arith, rest, own)
at_most page holder n (false ∷ bs) (more u us) h =
    let rest = at_most page holder n bs us h in let less = not_less page holder n u us in omega (arith, rest, less)

counted_at : (page : Page) (holder n : ℕ) (u : Tree) (us : Trees) → ((k : ℕ) → taken (turns page holder k us) ≡ most_after page holder k us)
    → (b : Bool) → is_in_turn page holder n u us ≡ b
    → taken (b ∷ turns page holder (if b then (label u).id else n) us) ≡ most_after page holder n (more u us)
counted_at page holder n u us rest true e = ap suc (rest (label u).id) ∙ sym (turn_counts page holder n u us e)
counted_at page holder n u us rest false e = rest n ∙ sym (past_counts page holder n u us e)

counted : (page : Page) (holder n : ℕ) (us : Trees) → taken (turns page holder n us) ≡ most_after page holder n us
counted page holder n none = refl
counted page holder n (more u us) =
    counted_at page holder n u us (λ k. counted page holder k us) (is_in_turn page holder n u us) refl

pub none_takes_more : (page : Page) (holder n : ℕ) (choice : List Bool) (us : Trees) → IsRising page holder n choice us
    → taken choice ≤ taken (turns page holder n us)
none_takes_more page holder n choice us h =
    let most = at_most page holder n choice us h in let c = counted page holder n us in omega (arith, most, c)

-- ---- the fewest count as moved

left_out : (s : Bool) (bs : List Bool) (t m : ℕ) → t + m ≡ taken bs → t + (if s then suc m else m) ≡ taken (s ∷ bs)
left_out true bs t m e = omega (arith, e)
left_out false bs t m e = e

-- those that are taken and those that aren't are all that may stay
parted : (page : Page) (holder n : ℕ) (choice : List Bool) (us : Trees) → IsRising page holder n choice us
    → taken choice + moved page holder choice us ≡ taken (those_that_may_stay page holder us)
parted page holder n [] none h = refl
parted page holder n [] (more u us) h = absurd h
parted page holder n (b ∷ bs) none h = absurd h
parted page holder n (true ∷ bs) (more u us) h =
    let rest = parted page holder (label u).id bs us h.1.1 in
    let one : suc (taken bs) + moved page holder bs us ≡ suc (taken (those_that_may_stay page holder us)) = omega (arith, rest) in
    one ∙ sym (ap (λ (b : Bool). taken (b ∷ those_that_may_stay page holder us)) h.0)
parted page holder n (false ∷ bs) (more u us) h =
    left_out (may_stay page holder u) (those_that_may_stay page holder us) (taken bs) (moved page holder bs us) (parted page holder n bs us h)

pub fewest_moved : (page : Page) (holder n : ℕ) (choice : List Bool) (us : Trees) → IsRising page holder n choice us
    → moved page holder (turns page holder n us) us ≤ moved page holder choice us
fewest_moved page holder n choice us h =
    let own = parted page holder n (turns page holder n us) us (turns_are_rising page holder n us) in
    let other = parted page holder n choice us h in
    let more_taken = none_takes_more page holder n choice us h in omega (arith, own, other, more_taken)

-- ---- the first of them

first_past : (page : Page) (holder n : ℕ) (u : Tree) (us : Trees) (bs : List Bool)
    → (most_after page holder n us ≤ taken bs → TakesFirst (turns page holder n us) bs) → most_after page holder n (more u us) ≤ taken bs
    → (b : Bool) → is_in_turn page holder n u us ≡ b
    → TakesFirst (b ∷ turns page holder (if b then (label u).id else n) us) (false ∷ bs)
first_past page holder n u us bs rest le true e = tt
first_past page holder n u us bs rest le false e = let past = past_counts page holder n u us e in rest (omega (arith, le, past))

comes_first : (page : Page) (holder n : ℕ) (choice : List Bool) (us : Trees) → IsRising page holder n choice us
    → most_after page holder n us ≤ taken choice → TakesFirst (turns page holder n us) choice
comes_first page holder n [] none h le = tt
comes_first page holder n [] (more u us) h le = absurd h
comes_first page holder n (b ∷ bs) none h le = absurd h
comes_first page holder n (true ∷ bs) (more u us) h le =
    let rest = at_most page holder (label u).id bs us h.1.1 in
    let less = not_less page holder n u us in
    let own = own_first page holder n u us h.1.0 h.0 in
    let turn : is_in_turn page holder n u us ≡ true =
    is_turn page holder n u us (record { stays = h.0; greater = h.1.0; enough = omega (arith, rest, less, le) }) in
    subst (λ (b : Bool). TakesFirst (b ∷ turns page holder (if b then (label u).id else n) us) (true ∷ bs)) (sym turn)
    (comes_first page holder (label u).id bs us h.1.1 (omega (arith, own, le)))
comes_first page holder n (false ∷ bs) (more u us) h le =
    first_past page holder n u us bs (λ l. comes_first page holder n bs us h l) le (is_in_turn page holder n u us) refl

pub turns_come_first : (page : Page) (holder n : ℕ) (choice : List Bool) (us : Trees) → IsRising page holder n choice us
    → taken choice ≡ taken (turns page holder n us) → TakesFirst (turns page holder n us) choice
turns_come_first page holder n choice us h e =
    let c = counted page holder n us in comes_first page holder n choice us h (omega (arith, c, e))

alike : (bs cs : List Bool) → TakesFirst bs cs → TakesFirst cs bs → bs ≡ cs
alike [] [] h g = refl
alike [] (c ∷ cs) h g = absurd h
alike (b ∷ bs) [] h g = absurd h
alike (true ∷ bs) (true ∷ cs) h g = ap (λ (ds : List Bool). true ∷ ds) (alike bs cs h g)
alike (true ∷ bs) (false ∷ cs) h g = absurd g
alike (false ∷ bs) (true ∷ cs) h g = absurd h
alike (false ∷ bs) (false ∷ cs) h g = ap (λ (ds : List Bool). false ∷ ds) (alike bs cs h g)

pub no_other : (page : Page) (holder n : ℕ) (choice : List Bool) (us : Trees) → IsFirstOfMost page holder n choice us
    → choice ≡ turns page holder n us
no_other page holder n choice us f =
    let own = f.most (turns page holder n us) (turns_are_rising page holder n us) in
    let other = none_takes_more page holder n choice us f.rising in
    let as_many : taken (turns page holder n us) ≡ taken choice = omega (arith, own, other) in
    alike choice (turns page holder n us) (f.first (turns page holder n us) (turns_are_rising page holder n us) as_many)
    (turns_come_first page holder n choice us f.rising (sym as_many))

-- ---- where all rise already

most_at : (page : Page) (holder n : ℕ) (u : Tree) (us : Trees)
    → ((k : ℕ) → most_after page holder k us ≤ taken (those_that_may_stay page holder us))
    → (s : Bool) → may_stay page holder u ≡ s → most_after page holder n (more u us) ≤ taken (s ∷ those_that_may_stay page holder us)
most_at page holder n u us rest true e =
    let less = not_more page holder n u us in let one = rest n in let two = rest (label u).id in omega (arith, less, one, two)
most_at page holder n u us rest false e =
    let past = without_it page holder n u us (not_both (nat_lt n (label u).id) (may_stay page holder u) e) in let one = rest n in omega (arith, past, one)

at_most_all : (page : Page) (holder n : ℕ) (us : Trees) → most_after page holder n us ≤ taken (those_that_may_stay page holder us)
at_most_all page holder n none = omega arith
at_most_all page holder n (more u us) =
    most_at page holder n u us (λ k. at_most_all page holder k us) (may_stay page holder u) refl

stay_at : (page : Page) (holder n : ℕ) (u : Tree) (us : Trees)
    → ((k : ℕ) → IsRising page holder k (those_that_may_stay page holder us) us → turns page holder k us ≡ those_that_may_stay page holder us)
    → (s : Bool) → may_stay page holder u ≡ s → IsRising page holder n (s ∷ those_that_may_stay page holder us) (more u us)
    → turns page holder n (more u us) ≡ s ∷ those_that_may_stay page holder us
stay_at page holder n u us rest true e h =
    let all = at_most_all page holder n us in
    let own = at_most page holder (label u).id (those_that_may_stay page holder us) us h.1.1 in
    let turn : is_in_turn page holder n u us ≡ true =
    is_turn page holder n u us (record { stays = e; greater = h.1.0; enough = omega (arith, all, own) }) in
    ap (λ (b : Bool). b ∷ turns page holder (if b then (label u).id else n) us) turn ∙ ap (λ (cs : List Bool). true ∷ cs) (rest (label u).id h.1.1)
stay_at page holder n u us rest false e h =
    let turn : is_in_turn page holder n u us ≡ false =
    ap (λ (b : Bool). b && nat_le (most_after page holder n us) (suc (most_after page holder (label u).id us)))
    (not_both (nat_lt n (label u).id) (may_stay page holder u) e) in
    ap (λ (b : Bool). b ∷ turns page holder (if b then (label u).id else n) us) turn ∙ ap (λ (cs : List Bool). false ∷ cs) (rest n h)

pub all_stay : (page : Page) (holder n : ℕ) (us : Trees) → IsRising page holder n (those_that_may_stay page holder us) us
    → turns page holder n us ≡ those_that_may_stay page holder us
all_stay page holder n none h = refl
all_stay page holder n (more u us) h =
    stay_at page holder n u us (λ k. all_stay page holder k us) (may_stay page holder u) refl h
