-- What is asked part after part, over the texts of all parts.
use Rattle.std.proofs.Common.{◌≡◌, refl, sym, ◌∙◌, ap, subst, ℕ, zero, suc, ◌+◌, ◌<◌, ◌≤◌, Bool, true, false, cond, Option, Some, None, List, [], ◌∷◌, ◌++◌, length, take, drop, get_or, min, nat_lt, arith, length-take, take-append-drop}
use Rattle.std.proofs.lemmas.Bool.{ltb-true, ltb-false, le-ltb, lt-ltb}
use Rattle.std.proofs.lemmas.List.{get_or-take}
use Rattle.std.specs.Option.{unwrap_or}
use Rattle.std.specs.Str.{bytes_eq}
use Rattle.wt_span.specs.declared.function.Function.{Function}
use Rattle.wt_span.specs.declared.function.Function.TheVariants.{If, IfEq, Switch}
use Rattle.wt_functions.specs.declared.chooser.Ask.{Ask}
use Rattle.wt_functions.specs.declared.chooser.Ask.TheVariants.{Tell}
use Rattle.wt_functions.specs.Choice.{Telling, text_at, equal_part, chosen, told_count, given, asked}
use Rattle.wt_functions.specs.Laws.{AsksAlong}
use Rattle.wt_functions.proofs.EqualParts.{IsFirst, equal_part_first, equal_part_none}
use Rattle.wt_functions.proofs.ChoiceLaws.{Alike, alike, none_equal}

-- where none of the first texts is equal, the first equal part lies behind them
behind_by : (xs : List (List ℕ)) (m n : ℕ) (o : Option ℕ) → equal_part xs ≡ o → m ≤ length xs → length xs ≡ n + 1 → equal_part (take m xs) ≡ None → m < 1 + n → m < 1 + unwrap_or o n
behind_by xs m n None e l all h below = below
behind_by xs m n (Some k) e l all h below =
    let first : IsFirst (λ t. bytes_eq t (text_at xs 0)) xs k = equal_part_first xs k e in
    apart (nat_lt k m) refl first
  where
    apart : (b : Bool) → nat_lt k m ≡ b → IsFirst (λ t. bytes_eq t (text_at xs 0)) xs k → m < 1 + k
    apart false e first = let f : m ≤ k = ltb-false k m e in omega arith
    apart true e first =
        let f : k < m = ltb-true k m e in
        let some : 0 < k = first.behind in
        let len : length (take m xs) ≡ m = length-take m xs ∙ (let q : min m (length xs) ≡ m = omega arith in q) in
        let not_equal : bytes_eq (get_or (take m xs) k []) (get_or (take m xs) 0 []) ≡ false = equal_part_none (take m xs) k h some (omega arith) in
        let here : get_or (take m xs) k [] ≡ get_or xs k [] = get_or-take m xs k [] f in
        let zeroth : get_or (take m xs) 0 [] ≡ get_or xs 0 [] = get_or-take m xs 0 [] (omega arith) in
        let equal : bytes_eq (get_or xs k []) (get_or xs 0 []) ≡ true = first.passes in
        let no : bytes_eq (get_or xs k []) (get_or xs 0 []) ≡ false = ap (λ x. bytes_eq x (get_or xs 0 [])) (sym here) ∙ ap (λ x. bytes_eq (get_or (take m xs) k []) x) (sym zeroth) ∙ not_equal in
        cc

-- what the first texts leave open, all leave open
still_open : (f : Function) (es : List Bool) (xs : List (List ℕ)) (m : ℕ) → length xs ≡ length es + 1 → m ≤ length xs → length (take m xs) ≡ m
    → m < told_count f es (take m xs) → m < told_count f es xs
unfolding told_count
still_open If es xs m all l len h = h
still_open IfEq es xs m all l len h = h
still_open Switch es xs m all l len h =
    let below : length (take m xs) < 1 + unwrap_or (equal_part (take m xs)) (length es) = omega arith in
    let none : equal_part (take m xs) ≡ None = none_equal (take m xs) (length es) (equal_part (take m xs)) refl below in
    let room : m < 1 + length es = subst (λ o. m < 1 + unwrap_or o (length es)) none h in
    behind_by xs m (length es) (equal_part xs) refl l all none room

tell_when : (b : Bool) (n : ℕ) (o : Option ℕ) → b ≡ true → cond b (Tell n) (given o) ≡ Tell n
tell_when true n o h = refl
tell_when false n o h = cc

give_when : (b : Bool) (n : ℕ) (o : Option ℕ) → b ≡ false → cond b (Tell n) (given o) ≡ given o
give_when true n o h = cc
give_when false n o h = refl

along_by : (f : Function) (es : List Bool) (xs : List (List ℕ)) (m : ℕ) (b : Bool) → length xs ≡ length es + 1 → m ≤ told_count f es xs → m ≤ length xs → length (take m xs) ≡ m
    → nat_lt (length (take m xs)) (told_count f es (take m xs)) ≡ b
    → asked (record { function = f; equals = es; texts = take m xs }) ≡ cond (nat_lt m (told_count f es xs)) (Tell m) (given (chosen f es xs))
unfolding asked
along_by f es xs m true all most l len e =
    let h : m < told_count f es (take m xs) = subst (λ n. n < told_count f es (take m xs)) len (ltb-true (length (take m xs)) (told_count f es (take m xs)) e) in
    tell_when (nat_lt (length (take m xs)) (told_count f es (take m xs))) (length (take m xs)) (chosen f es (take m xs)) e
    ∙ ap Tell len
    ∙ sym (tell_when (nat_lt m (told_count f es xs)) m (chosen f es xs) (lt-ltb m (told_count f es xs) (still_open f es xs m all l len h)))
along_by f es xs m false all most l len e =
    let enough : told_count f es (take m xs) ≤ length (take m xs) = ltb-false (length (take m xs)) (told_count f es (take m xs)) e in
    let whole : take m xs ++ drop m xs ≡ xs = take-append-drop m xs in
    let few : length (take m xs ++ drop m xs) ≤ length es + 1 = rw whole (omega arith) in
    let a : Alike f es (take m xs) (take m xs ++ drop m xs) = alike f es (take m xs) (drop m xs) enough few in
    let count : told_count f es xs ≡ told_count f es (take m xs) = ap (told_count f es) (sym whole) ∙ a.count in
    let part : chosen f es xs ≡ chosen f es (take m xs) = ap (chosen f es) (sym whole) ∙ a.part in
    give_when (nat_lt (length (take m xs)) (told_count f es (take m xs))) (length (take m xs)) (chosen f es (take m xs)) e
    ∙ ap given (sym part)
    ∙ sym (give_when (nat_lt m (told_count f es xs)) m (chosen f es xs) (le-ltb m (told_count f es xs) (omega arith)))

pub count_within : (f : Function) (es : List Bool) (xs : List (List ℕ)) → length xs ≡ length es + 1 → told_count f es xs ≤ length xs
unfolding told_count
count_within If es xs h = omega arith
count_within IfEq es xs h = let m : min 1 (length es) ≤ length es = omega arith in omega arith
count_within Switch es xs h = switch_within es xs (equal_part xs) refl h
  where
    switch_within : (es : List Bool) (xs : List (List ℕ)) (o : Option ℕ) → equal_part xs ≡ o → length xs ≡ length es + 1 → 1 + unwrap_or o (length es) ≤ length xs
    switch_within es xs None e h = omega arith
    switch_within es xs (Some k) e h = let first : IsFirst (λ t. bytes_eq t (text_at xs 0)) xs k = equal_part_first xs k e in omega arith

pub asks_along : (f : Function) (es : List Bool) (xs : List (List ℕ)) → length xs ≡ length es + 1 → AsksAlong f es xs
asks_along f es xs all m most =
    let l : m ≤ length xs = omega (arith, count_within f es xs all) in
    let len : length (take m xs) ≡ m = length-take m xs ∙ (let q : min m (length xs) ≡ m = omega arith in q) in
    along_by f es xs m (nat_lt (length (take m xs)) (told_count f es (take m xs))) all most l len refl

-- lists of texts that begin alike, as far as the first tells, are told and given alike
pub told_alike : (f : Function) (es : List Bool) (xs ys : List (List ℕ)) → length xs ≡ length es + 1 → length ys ≡ length es + 1
    → take (told_count f es xs) xs ≡ take (told_count f es xs) ys → Alike f es xs ys
told_alike f es xs ys all every e =
    let n : ℕ = told_count f es xs in
    let l : n ≤ length xs = count_within f es xs all in
    let len : length (take n xs) ≡ n = length-take n xs ∙ (let q : min n (length xs) ≡ n = omega arith in q) in
    let enough : told_count f es (take n xs) ≤ length (take n xs) = enough_by f es xs n all l len (nat_lt n (told_count f es (take n xs))) refl refl in
    let a : Alike f es (take n xs) xs = beginning f es xs (take n xs) (drop n xs) (take-append-drop n xs) enough all in
    let b : Alike f es (take n xs) ys = beginning f es ys (take n xs) (drop n ys) (ap (λ ts. ts ++ drop n ys) e ∙ take-append-drop n ys) enough every in
    record { count = b.count ∙ sym a.count; part = b.part ∙ sym a.part }
  where
    beginning : (f : Function) (es : List Bool) (all ts more : List (List ℕ)) → ts ++ more ≡ all → told_count f es ts ≤ length ts → length all ≡ length es + 1 → Alike f es ts all
    beginning f es all ts more e h l = subst (λ us. Alike f es ts us) e (alike f es ts more h (rw e (omega arith)))

    enough_by : (f : Function) (es : List Bool) (xs : List (List ℕ)) (n : ℕ) → length xs ≡ length es + 1 → n ≤ length xs → length (take n xs) ≡ n
        → (b : Bool) → nat_lt n (told_count f es (take n xs)) ≡ b → n ≡ told_count f es xs → told_count f es (take n xs) ≤ length (take n xs)
    enough_by f es xs n all l len true e h =
        let below : n < told_count f es xs = still_open f es xs n all l len (ltb-true n (told_count f es (take n xs)) e) in absurd (omega arith)
    enough_by f es xs n all l len false e h =
        let below : told_count f es (take n xs) ≤ n = ltb-false n (told_count f es (take n xs)) e in omega arith
