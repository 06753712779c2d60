-- How often a text stands in a list that is read from left to right, and what a tally says of it.
use Rattle.std.proofs.Common.{arith, ◌≡◌, ◌<◌, ◌≤◌, ℕ, ◌+◌, ◌-◌, Bool, true, false, List, [], ◌∷◌, ◌++◌, Option, Some, length, drop, map, take, get_or, refl, sym, ap, ◌∙◌}
use Rattle.std.specs.Bool.{Decides}
use Rattle.std.specs.Prelude.{cond}
use Rattle.std.specs.Map.{update}
use Rattle.std.specs.Option.{unwrap_or}
use Rattle.std.specs.Str.{bytes_eq}
use Rattle.std.proofs.lemmas.List.{map-append, take-append-drop, take-map, take_more, take_all, length-drop}
use Rattle.std.proofs.lemmas.List.Sums.{sum_by_push, sum_by-append, sum_by-take-le}
use Rattle.std.proofs.lemmas.Slice.Eq.{bytes_eq-Decides}
use Rattle.wt_visible.specs.Tally.{times, trimmed, StandAmong}

-- ---- a list that is read from left to right

abbrev pub only : List ℕ → List (List ℕ)
only text = text ∷ []

once : (text it : List ℕ) → times text (it ∷ []) ≡ cond (bytes_eq it text) 1 0
once text it = let e = sum_by_push (λ x. cond (bytes_eq x text) 1 0) [] it in omega (arith, e)

pub turned : (text : List ℕ) (texts : List (List ℕ)) (i : ℕ) (it : List ℕ) → i < length texts → it ≡ get_or texts i it
    → times text (map trimmed (take (i + 1) texts)) ≡ times text (map trimmed (take i texts)) + times text (only (trimmed it))
turned text texts i it below is =
    ap (λ xs. times text (map trimmed xs)) (take_more texts i it below)
    ∙ ap (λ x. times text (map trimmed (take i texts ++ x ∷ []))) (sym is)
    ∙ ap (times text) (map-append trimmed (take i texts) (it ∷ []))
    ∙ sum_by_push (λ x. cond (bytes_eq x text) 1 0) (map trimmed (take i texts)) (trimmed it)
    ∙ ap (λ n. times text (map trimmed (take i texts)) + n) (sym (once text (trimmed it)))

pub counted_on : (texts : List (List ℕ)) (i : ℕ) (it bare : List ℕ) → i < length texts → it ≡ get_or texts i it → bare ≡ trimmed it
    → (old new : List ℕ → ℕ) → ((text : List ℕ) → old text ≡ times text (map trimmed (take i texts)))
    → ((text : List ℕ) → new text ≡ old text + times text (only bare)) → (text : List ℕ) → new text ≡ times text (map trimmed (take (i + 1) texts))
counted_on texts i it bare below is same old new before step text =
    step text
    ∙ ap (λ n. n + times text (only bare)) (before text)
    ∙ ap (λ x. times text (map trimmed (take i texts)) + times text (only x)) same
    ∙ sym (turned text texts i it below is)

pub taken_on : (texts : List (List ℕ)) (i : ℕ) (it bare : List ℕ) → i < length texts → it ≡ get_or texts i it → bare ≡ trimmed it
    → (there old new : List ℕ → ℕ) → ((text : List ℕ) → there text ≡ old text + times text (map trimmed (take i texts)))
    → ((text : List ℕ) → old text ≡ new text + times text (only bare)) → (text : List ℕ)
    → there text ≡ new text + times text (map trimmed (take (i + 1) texts))
taken_on texts i it bare below is same there old new before step text =
    let b = before text in
    let s = step text ∙ ap (λ x. new text + times text (only x)) same in
    let t = turned text texts i it below is in
    omega (arith, b, s, t)

-- ---- one more, and one less

pub put : (entries : List ℕ → Option ℕ) (text : List ℕ) (n : ℕ) → n ≡ unwrap_or (entries text) 0 → (other : List ℕ)
    → unwrap_or (update bytes_eq entries text (Some (n + 1)) other) 0 ≡ unwrap_or (entries other) 0 + times other (text ∷ [])
put entries text n is other = by (bytes_eq text other) refl ∙ ap (λ k. unwrap_or (entries other) 0 + k) (sym (once other text))
  where
    by : (same : Bool) → bytes_eq text other ≡ same → unwrap_or (cond same (Some (n + 1)) (entries other)) 0 ≡ unwrap_or (entries other) 0 + cond same 1 0
    by true e = ap (λ k. k + 1) (is ∙ ap (λ t. unwrap_or (entries t) 0) ((bytes_eq-Decides text other).0 e))
    by false e = omega (arith)

pub taken : (entries : List ℕ → Option ℕ) (text : List ℕ) (n : ℕ) → n ≡ unwrap_or (entries text) 0 → 0 < n → (other : List ℕ)
    → unwrap_or (entries other) 0 ≡ unwrap_or (update bytes_eq entries text (Some (n - 1)) other) 0 + times other (text ∷ [])
taken entries text n is some other = by (bytes_eq text other) refl
    ∙ ap (λ k. unwrap_or (update bytes_eq entries text (Some (n - 1)) other) 0 + k) (sym (once other text))
  where
    by : (same : Bool) → bytes_eq text other ≡ same → unwrap_or (entries other) 0 ≡ unwrap_or (cond same (Some (n - 1)) (entries other)) 0 + cond same 1 0
    by true e = let s = is ∙ ap (λ t. unwrap_or (entries t) 0) ((bytes_eq-Decides text other).0 e) in omega (arith, s, some)
    by false e = omega (arith)

-- ---- what is decided

pub all_taken : (texts others : List (List ℕ)) (left : List ℕ → ℕ) (i : ℕ) → length texts ≤ i
    → ((text : List ℕ) → times text others ≡ left text + times text (map trimmed (take i texts))) → StandAmong (map trimmed texts) others
all_taken texts others left i end h = λ text.
    let e = h text in
    let t = ap (λ xs. times text (map trimmed xs)) (take_all i texts end) in
    omega (arith, e, t)

pub none_left : (texts others : List (List ℕ)) (left : List ℕ → ℕ) (i : ℕ) (it : List ℕ) → i < length texts → it ≡ get_or texts i it
    → ((text : List ℕ) → times text others ≡ left text + times text (map trimmed (take i texts))) → left (trimmed it) ≡ 0
    → StandAmong (map trimmed texts) others → ⊥
none_left texts others left i it below is h none among =
    let e = h (trimmed it) in
    let a = among (trimmed it) in
    let t = turned (trimmed it) texts i it below is in
    let o = once (trimmed it) (trimmed it) ∙ ap (λ b. cond b 1 0) ((bytes_eq-Decides (trimmed it) (trimmed it)).1 refl) in
    let l : times (trimmed it) (take (i + 1) (map trimmed texts)) ≤ times (trimmed it) (map trimmed texts) =
    sum_by-take-le (λ x. cond (bytes_eq x (trimmed it)) 1 0) (map trimmed texts) (i + 1) in
    let m = ap (times (trimmed it)) (take-map trimmed (i + 1) texts) in
    omega (arith, e, a, t, o, l, m, none)

-- ---- a start that two lists have in common doesn't count

pub same_more : (xs ys : List (List ℕ)) (i : ℕ) (x y : List ℕ) → i < length xs → i < length ys → x ≡ get_or xs i x → y ≡ get_or ys i y → x ≡ y
    → take i xs ≡ take i ys → take (i + 1) xs ≡ take (i + 1) ys
same_more xs ys i x y below under is other same start =
    take_more xs i x below
    ∙ ap (λ z. take i xs ++ z ∷ []) (sym is ∙ same ∙ other)
    ∙ ap (λ zs. zs ++ get_or ys i y ∷ []) start
    ∙ sym (take_more ys i y under)

halves : (text : List ℕ) (n : ℕ) (xs : List (List ℕ))
    → times text (map trimmed xs) ≡ times text (map trimmed (take n xs)) + times text (map trimmed (drop n xs))
halves text n xs =
    ap (λ zs. times text (map trimmed zs)) (sym (take-append-drop n xs))
    ∙ ap (times text) (map-append trimmed (take n xs) (drop n xs))
    ∙ sum_by-append (λ x. cond (bytes_eq x text) 1 0) (map trimmed (take n xs)) (map trimmed (drop n xs))

whole_rest : (n : ℕ) (xs : List (List ℕ)) → take (length xs - n) (drop n xs) ≡ drop n xs
whole_rest n xs = let l = length-drop n xs in take_all (length xs - n) (drop n xs) (omega (arith, l))

pub start_aside : (r : Bool) (xs ys us vs : List (List ℕ)) (n : ℕ) → us ≡ take (length xs - n) (drop n xs)
    → vs ≡ take (length ys - n) (drop n ys) → take n xs ≡ take n ys
    → Decides r (StandAmong (map trimmed us) (map trimmed vs)) → Decides r (StandAmong (map trimmed xs) (map trimmed ys))
start_aside r xs ys us vs n left right start d = (λ e text. onward text (d.0 e text), λ h. d.1 (λ text. back text (h text)))
  where
    onward : (text : List ℕ) → times text (map trimmed us) ≤ times text (map trimmed vs) → times text (map trimmed xs) ≤ times text (map trimmed ys)
    onward text le =
        let a = halves text n xs in
        let b = halves text n ys in
        let s = ap (λ zs. times text (map trimmed zs)) start in
        let l = ap (λ zs. times text (map trimmed zs)) (left ∙ whole_rest n xs) in
        let m = ap (λ zs. times text (map trimmed zs)) (right ∙ whole_rest n ys) in
        omega (arith, a, b, s, l, m, le)

    back : (text : List ℕ) → times text (map trimmed xs) ≤ times text (map trimmed ys) → times text (map trimmed us) ≤ times text (map trimmed vs)
    back text le =
        let a = halves text n xs in
        let b = halves text n ys in
        let s = ap (λ zs. times text (map trimmed zs)) start in
        let l = ap (λ zs. times text (map trimmed zs)) (left ∙ whole_rest n xs) in
        let m = ap (λ zs. times text (map trimmed zs)) (right ∙ whole_rest n ys) in
        omega (arith, a, b, s, l, m, le)
