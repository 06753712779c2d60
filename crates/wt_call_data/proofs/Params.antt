-- The parameters of a call: their names ascend, and of one name the last stands.
use Rattle.std.proofs.Common.{◌≡◌, ℕ, Bool, true, false, Option, None, Some, List, [], ◌∷◌, refl, sym, ap, ◌∙◌, cond}
use Rattle.std.specs.Prelude.{fold}
use Rattle.std.specs.BTreeMap.{insert_entry}
use Rattle.std.specs.Cmp.{IsTotalOrder}
use Rattle.std.specs.Cmp.Lexicographic.{slice_cmp}
use Rattle.std.specs.List.{AllByRecursion}
use Rattle.std.specs.List.Sorted.{IsStrictlySortedBy}
use Rattle.std.specs.Map.{keys_of}
use Rattle.std.specs.Option.{option_or}
use Rattle.std.specs.Ordering.{nat_cmp, is_eq, ordering_reverse, match_ordering}
use Rattle.std.specs.declared.cmp.Ordering.{Ordering}
use Rattle.std.specs.declared.cmp.Ordering.TheVariants.{Less, Equal, Greater}
use Rattle.std.proofs.lemmas.Cmp.{nat_list_cmp_total}
use Rattle.wt_span.specs.Origins.{OuterCall}
use Rattle.wt_call_data.specs.CallData.{Param, put_param, params_of, is_same, value_of, value_if, last_value, written_params}

abbrev by_bytes : List ℕ → List ℕ → Ordering
by_bytes = slice_cmp nat_cmp

order : IsTotalOrder by_bytes
order = nat_list_cmp_total

abbrev Below : List ℕ → List (List ℕ) → Type 0
Below x ys = AllByRecursion (λ y. by_bytes x y ≡ Less) ys

-- ---- their order

below_put : (x k v : List ℕ) (es : List Param) → Below x (keys_of es) → by_bytes x k ≡ Less → Below x (keys_of (insert_entry by_bytes es k v))
below_put x k v [] h l = (l, tt)
below_put x k v (e ∷ es) h l = by (by_bytes k e.0) (below_put x k v es h.1 l)
  where
    by : (r : Ordering) → Below x (keys_of (insert_entry by_bytes es k v))
        → Below x (keys_of (match_ordering r ((k, v) ∷ e ∷ es) ((e.0, v) ∷ es) (e ∷ insert_entry by_bytes es k v)))
    by Less i = (l, h)
    by Equal i = h
    by Greater i = (h.0, i)

below_all : (k x : List ℕ) (ys : List (List ℕ)) → by_bytes k x ≡ Less → Below x ys → Below k ys
below_all k x [] l h = tt
below_all k x (y ∷ ys) l h = (order.trans k x y l h.0, below_all k x ys l h.1)

sorted_put : (k v : List ℕ) (es : List Param) → IsStrictlySortedBy by_bytes (keys_of es) → IsStrictlySortedBy by_bytes (keys_of (insert_entry by_bytes es k v))
unfolding IsStrictlySortedBy
sorted_put k v [] s = (tt, tt)
sorted_put k v (e ∷ es) s = by (by_bytes k e.0) refl (sorted_put k v es s.1)
  where
    by : (r : Ordering) → by_bytes k e.0 ≡ r → IsStrictlySortedBy by_bytes (keys_of (insert_entry by_bytes es k v))
        → IsStrictlySortedBy by_bytes (keys_of (match_ordering r ((k, v) ∷ e ∷ es) ((e.0, v) ∷ es) (e ∷ insert_entry by_bytes es k v)))
    by Less q i = ((q, below_all k e.0 (keys_of es) q s.0), s)
    by Equal q i = s
    by Greater q i = (below_put e.0 k v es s.0 (order.antisymm e.0 k ∙ ap ordering_reverse q), i)

sorted_fold : (ps acc : List Param) → IsStrictlySortedBy by_bytes (keys_of acc) → IsStrictlySortedBy by_bytes (keys_of (fold put_param acc ps))
sorted_fold [] acc s = s
sorted_fold (p ∷ ps) acc s = sorted_fold ps (put_param acc p) (sorted_put p.0 p.1 acc s)

pub names_ascend : (c : OuterCall) → IsStrictlySortedBy (slice_cmp nat_cmp) (keys_of (params_of c))
unfolding IsStrictlySortedBy
names_ascend c = sorted_fold (written_params c) [] tt

-- ---- their values

same_equal : (r : Ordering) → is_eq r ≡ true → r ≡ Equal
same_equal Less e = cc e
same_equal Equal e = refl
same_equal Greater e = cc e

greater_equal : {A : Type 0} → (r : Ordering) → r ≡ Greater → r ≡ Equal → A
greater_equal Less p q = cc p
greater_equal Equal p q = cc p
greater_equal Greater p q = cc q

over : (b : Bool) (v w : List ℕ) (l : Option (List ℕ)) → cond b (Some v) l ≡ cond b (Some v) (cond b (Some w) l)
over true v w l = refl
over false v w l = refl

swap : (a b : Bool) (v w : List ℕ) (l : Option (List ℕ)) → (a ≡ true → b ≡ true → cond a (Some w) (cond b (Some v) l) ≡ cond b (Some v) (cond a (Some w) l))
    → cond a (Some w) (cond b (Some v) l) ≡ cond b (Some v) (cond a (Some w) l)
swap true true v w l h = h refl refl
swap true false v w l h = refl
swap false b v w l h = refl

lookup_put : (q k v : List ℕ) (es : List Param) → value_of q (insert_entry by_bytes es k v) ≡ cond (is_same q k) (Some v) (value_of q es)
lookup_put q k v [] = refl
lookup_put q k v (e ∷ es) = by (by_bytes k e.0) refl (lookup_put q k v es)
  where
    by : (r : Ordering) → by_bytes k e.0 ≡ r → value_of q (insert_entry by_bytes es k v) ≡ cond (is_same q k) (Some v) (value_of q es)
        → value_of q (match_ordering r ((k, v) ∷ e ∷ es) ((e.0, v) ∷ es) (e ∷ insert_entry by_bytes es k v))
        ≡ cond (is_same q k) (Some v) (cond (is_same q e.0) (Some e.1) (value_of q es))
    by Less c i = refl
    by Equal c i =
        let s : is_same q e.0 ≡ is_same q k =
        ap is_eq (order.antisymm q e.0 ∙ ap ordering_reverse (sym (order.congr k e.0 q c)) ∙ sym (order.antisymm q k)) in
        ap (λ b. cond b (Some v) (value_of q es)) s
        ∙ over (is_same q k) v e.1 (value_of q es)
        ∙ ap (λ b. cond (is_same q k) (Some v) (cond b (Some e.1) (value_of q es))) (sym s)
    by Greater c i =
        ap (cond (is_same q e.0) (Some e.1)) i
        ∙ swap (is_same q e.0) (is_same q k) v e.1 (value_of q es)
        (λ x y. greater_equal (by_bytes k e.0) c (sym (order.congr q k e.0 (same_equal (by_bytes q k) y)) ∙ same_equal (by_bytes q e.0) x))

or_more : (a : Option (List ℕ)) (b : Bool) (v : List ℕ) (l : Option (List ℕ)) → option_or a (cond b (Some v) l) ≡ option_or (option_or a (value_if b v)) l
or_more (Some w) b v l = refl
or_more None true v l = refl
or_more None false v l = refl

value_fold : (q : List ℕ) (ps acc : List Param) → value_of q (fold put_param acc ps) ≡ option_or (last_value q ps) (value_of q acc)
value_fold q [] acc = refl
value_fold q (p ∷ ps) acc =
    value_fold q ps (put_param acc p)
    ∙ ap (option_or (last_value q ps)) (lookup_put q p.0 p.1 acc)
    ∙ or_more (last_value q ps) (is_same q p.0) p.1 (value_of q acc)

or_none : (a : Option (List ℕ)) → option_or a None ≡ a
or_none None = refl
or_none (Some v) = refl

pub last_stands : (c : OuterCall) (name : List ℕ) → value_of name (params_of c) ≡ last_value name (written_params c)
last_stands c name = value_fold name (written_params c) [] ∙ or_none (last_value name (written_params c))
