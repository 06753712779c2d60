-- Taking a run of bytes that stand for themselves is taking its bytes one by one.
use Rattle.std.proofs.Common.{◌≡◌, ℕ, zero, suc, ◌+◌, ◌<◌, ◌≤◌, Bool, true, false, Ok, List, [], ◌∷◌, ◌++◌, length, drop, map, refl, sym, ap, ◌∙◌, subst, append_assoc, length-append, nat_lt, arith, codes}
use Rattle.std.specs.Prelude.{◌&&◌, nat_le}
use Rattle.std.specs.List.{list_all}
use Rattle.std.proofs.lemmas.Bool.Decides.{nat_tests}
use Rattle.std.proofs.lemmas.List.{append-nil}
use Rattle.wt_html_grammar.specs.Signs.{in_text, in_value}
use Rattle.wt_html_grammar.specs.Machine.{State, start, first, doctype, inside, less, naming, gap, attribute, named_so, equals, value, valued, slashed, closing, closed, escaping, Tag, is_plain, mended, step, onward, run}
use Rattle.wt_html_grammar.specs.Events.{Building, Frame, with_open, with_value, add_bytes, put, out, tell, tell_on}
use Rattle.wt_html_grammar.proofs.Steps.{if_true}
use Rattle.wt_html_grammar.proofs.Places.{run_push}
use Rattle.wt_html_elements.specs.Kept.{IsKept, is_between}
use Rattle.wt_html_elements.specs.declared.machine.Mode.{Mode}
use Rattle.wt_html_elements.specs.declared.machine.Mode.TheVariants as modes
use Rattle.wt_html_elements.specs.declared.machine.Within.{Within}
use Rattle.wt_html_elements.specs.declared.machine.Within.TheVariants as withins
use Rattle.wt_html_elements.specs.declared.machine.Machine.{Machine}
use Rattle.wt_html_elements.specs.View.{inside_of, place_at, place_of, view, names, first_name, other_names}
use Rattle.wt_html_elements.specs.Runs.{stays, put_run}
use Rattle.wt_html_elements.specs.Held.{tag_len, needed, spent, fits}
use Rattle.wt_html_elements.specs.Reads.{held_behind}
use Rattle.wt_html_elements.proofs.Standing.{IsShort, next_held, push_kept}

both : (a b : Bool) → (a && b) ≡ true → (a ≡ true) × (b ≡ true)
both true b e = (refl, e)
both false b e = cc

-- it stays where it is
abbrev pub Stays : State → ℕ → Type 0
Stays s b = mended b (step s b) ≡ Ok s

stays_text : (n : List ℕ) (ns : List (List ℕ)) (b : ℕ) → is_plain in_text b ≡ true → Stays (inside (n ∷ ns)) b
stays_text n ns b e = ap (mended b) (if_true (is_plain in_text b) _ _ e)

stays_value : (t : Tag) (q b : ℕ) → is_plain (in_value q) b ≡ true → Stays (value t q) b
stays_value t q b e = ap (mended b) (if_true (is_plain (in_value q) b) _ _ e)

run_stays : (s : State) (p : ℕ → Bool) → ((b : ℕ) → p b ≡ true → Stays s b) → (bs : List ℕ) → list_all p bs ≡ true → run s bs ≡ Ok s
run_stays s p f [] h = refl
run_stays s p f (b ∷ bs) h =
    let t = both (p b) (list_all p bs) h in
    ap (onward (λ u. run u bs)) (f b t.0) ∙ run_stays s p f bs t.1

held_more : (t : Bool) (k n : ℕ) → next_held t (next_held t (k + 1) + n) ≡ next_held t (k + suc n)
held_more true k n = refl
held_more false k n = omega arith

kept_stays : (s : State) (p : ℕ → Bool) → ((b : ℕ) → p b ≡ true → Stays s b) → IsShort s → (bs bytes : List ℕ) (k : ℕ) → 0 < length bs
    → list_all p bs ≡ true → run start bytes ≡ Ok s → IsKept bytes k → IsKept (bytes ++ bs) (next_held (is_between s) (k + length bs))
kept_stays s p f i [] bytes k lt h r g = absurd (omega arith)
kept_stays s p f i (b ∷ []) bytes k lt h r g = push_kept bytes b k s s r (f b (both (p b) true h).0) i g
kept_stays s p f i (b ∷ c ∷ bs) bytes k lt h r g =
    let t = both (p b) (list_all p (c ∷ bs)) h in
    let one = push_kept bytes b k s s r (f b t.0) i g in
    let two = kept_stays s p f i (c ∷ bs) (bytes ++ b ∷ []) (next_held (is_between s) (k + 1)) (omega arith) t.1 (run_push bytes b start s r ∙ f b t.0) one in
    let P : ℕ → Type 0 = IsKept (bytes ++ (b ∷ c ∷ bs)) in
    let Q : List ℕ → Type 0 = λ w. IsKept w (next_held (is_between s) (next_held (is_between s) (k + 1) + length (c ∷ bs))) in
    subst P (held_more (is_between s) k (length (c ∷ bs))) (subst Q (append_assoc bytes (b ∷ []) (c ∷ bs)) two)

-- what a text's bytes build
add_more : (fs : List Frame) (b : ℕ) (bs : List ℕ) → add_bytes (add_bytes fs (b ∷ [])) bs ≡ add_bytes fs (b ∷ bs)
add_more [] b bs = refl
add_more (f ∷ fs) b bs = ap (λ r. record { name = f.name; attributes = f.attributes; items = f.items; run = r } ∷ fs) (append_assoc f.run (b ∷ []) bs)

add_none : (fs : List Frame) → add_bytes fs [] ≡ fs
add_none [] = refl
add_none (f ∷ fs) = ap (λ r. record { name = f.name; attributes = f.attributes; items = f.items; run = r } ∷ fs) (append-nil f.run)

plain_text : (b : ℕ) → is_plain in_text b ≡ true → in_text b ≡ true
plain_text b e = (both (nat_lt b 128) (in_text b) e).1

tell_text : (n : List ℕ) (ns : List (List ℕ)) (bs : List ℕ) (x : Building) → list_all (is_plain in_text) bs ≡ true
    → tell x (inside (n ∷ ns)) bs ≡ with_open x (add_bytes x.opened bs)
tell_text n ns [] x h = ap (with_open x) (sym (add_none x.opened))
tell_text n ns (b ∷ bs) x h =
    let t = both (is_plain in_text b) (list_all (is_plain in_text) bs) h in
    ap (tell_on x (λ u. tell (put x (out (inside (n ∷ ns)) b)) u bs)) (stays_text n ns b t.0)
    ∙ ap (λ e. tell (put x e) (inside (n ∷ ns)) bs) (if_true (in_text b) _ _ (plain_text b t.0))
    ∙ tell_text n ns bs (with_open x (add_bytes x.opened (b ∷ []))) t.1
    ∙ ap (with_open x) (add_more x.opened b bs)

plain_value : (q b : ℕ) → is_plain (in_value q) b ≡ true → in_value q b ≡ true
plain_value q b e = (both (nat_lt b 128) (in_value q b) e).1

tell_value : (t : Tag) (q : ℕ) (bs : List ℕ) (x : Building) → list_all (is_plain (in_value q)) bs ≡ true
    → tell x (value t q) bs ≡ with_value x (x.value ++ bs)
tell_value t q [] x h = ap (with_value x) (sym (append-nil x.value))
tell_value t q (b ∷ bs) x h =
    let r = both (is_plain (in_value q) b) (list_all (is_plain (in_value q)) bs) h in
    ap (tell_on x (λ u. tell (put x (out (value t q) b)) u bs)) (stays_value t q b r.0)
    ∙ ap (λ e. tell (put x e) (value t q) bs) (if_true (in_value q b) _ _ (plain_value q b r.0))
    ∙ tell_value t q bs (with_value x (x.value ++ b ∷ [])) r.1
    ∙ ap (with_value x) (append_assoc x.value (b ∷ []) bs)

-- a run
pub record Runs (s : State) (bs : List ℕ) : Type 0 where
  pub runs : run s bs ≡ Ok s
  pub tells : (x : Building) → tell x s bs ≡ put_run x s bs
  pub same : (y : Building) → put_run (needed s y) s bs ≡ needed s (put_run y s bs)
  pub fit : (x : Building) → fits s x ≡ true → fits s (put_run x s bs) ≡ true
  pub few : (y : Building) (k : ℕ) → tag_len (needed s y) + spent s ≤ k → tag_len (put_run (needed s y) s bs) + spent s ≤ held_behind s (k + length bs)
  pub keeps : (bytes : List ℕ) (k : ℕ) → IsShort s → run start bytes ≡ Ok s → IsKept bytes k → IsKept (bytes ++ bs) (next_held (is_between s) (k + length bs))

runs_text : (n : List ℕ) (ns : List (List ℕ)) (bs : List ℕ) → 0 < length bs → list_all (is_plain in_text) bs ≡ true → Runs (inside (n ∷ ns)) bs
runs_text n ns bs lt h = record {
  runs = run_stays (inside (n ∷ ns)) (is_plain in_text) (stays_text n ns) bs h;
  tells = λ x. tell_text n ns bs x h;
  same = λ y. refl;
  fit = λ x e. e;
  few = λ y k l. omega arith;
  keeps = λ bytes k i r g. kept_stays (inside (n ∷ ns)) (is_plain in_text) (stays_text n ns) i bs bytes k lt h r g;
}

runs_value : (t : Tag) (q : ℕ) (bs : List ℕ) → 0 < length bs → list_all (is_plain (in_value q)) bs ≡ true → Runs (value t q) bs
runs_value t q bs lt h = record {
  runs = run_stays (value t q) (is_plain (in_value q)) (stays_value t q) bs h;
  tells = λ x. tell_value t q bs x h;
  same = λ y. refl;
  fit = λ x e. e;
  few = λ y k l. omega (arith, length-append y.value bs, l);
  keeps = λ bytes k i r g. kept_stays (value t q) (is_plain (in_value q)) (stays_value t q) i bs bytes k lt h r g;
}

nowhere : (p : ℕ → Bool) → ((b : ℕ) → p b ≡ false) → (bs : List ℕ) → 0 < length bs → list_all p bs ≡ true → ⊥
nowhere p f [] lt h = omega arith
nowhere p f (b ∷ bs) lt h = let e : false ≡ true = sym (f b) ∙ (both (p b) (list_all p bs) h).0 in cc

pub runs_of : (s : State) (bs : List ℕ) → 0 < length bs → list_all (stays s) bs ≡ true → Runs s bs
runs_of (inside (n ∷ ns)) bs lt h = runs_text n ns bs lt h
runs_of (value t q) bs lt h = runs_value t q bs lt h
runs_of (inside []) bs lt h = absurd (nowhere (stays (inside [])) (λ b. refl) bs lt h)
runs_of start bs lt h = absurd (nowhere (stays start) (λ b. refl) bs lt h)
runs_of first bs lt h = absurd (nowhere (stays first) (λ b. refl) bs lt h)
runs_of (doctype cs) bs lt h = absurd (nowhere (stays (doctype cs)) (λ b. refl) bs lt h)
runs_of (less ns) bs lt h = absurd (nowhere (stays (less ns)) (λ b. refl) bs lt h)
runs_of (naming ns n) bs lt h = absurd (nowhere (stays (naming ns n)) (λ b. refl) bs lt h)
runs_of (gap t) bs lt h = absurd (nowhere (stays (gap t)) (λ b. refl) bs lt h)
runs_of (attribute t a) bs lt h = absurd (nowhere (stays (attribute t a)) (λ b. refl) bs lt h)
runs_of (named_so t) bs lt h = absurd (nowhere (stays (named_so t)) (λ b. refl) bs lt h)
runs_of (equals t) bs lt h = absurd (nowhere (stays (equals t)) (λ b. refl) bs lt h)
runs_of (valued t) bs lt h = absurd (nowhere (stays (valued t)) (λ b. refl) bs lt h)
runs_of (slashed t) bs lt h = absurd (nowhere (stays (slashed t)) (λ b. refl) bs lt h)
runs_of (closing cs ns) bs lt h = absurd (nowhere (stays (closing cs ns)) (λ b. refl) bs lt h)
runs_of (closed ns) bs lt h = absurd (nowhere (stays (closed ns)) (λ b. refl) bs lt h)
runs_of (escaping s e) bs lt h = absurd (nowhere (stays (escaping s e)) (λ b. refl) bs lt h)

-- a doctype is whole
pub between_word : (word : List ℕ) (at : ℕ) → is_between (doctype (drop at word)) ≡ nat_le (length word) at
between_word [] zero = refl
between_word [] (suc at) = sym (all_le (suc at))
  where
    all_le : (k : ℕ) → nat_le 0 k ≡ true
    all_le k = grind (arith, nat_tests)
between_word (c ∷ cs) zero = sym (none_le (length cs))
  where
    none_le : (k : ℕ) → nat_le (suc k) 0 ≡ false
    none_le k = grind (arith, nat_tests)
between_word (c ∷ cs) (suc at) = between_word cs at ∙ less (length cs) at
  where
    less : (k m : ℕ) → nat_le k m ≡ nat_le (suc k) (suc m)
    less k m = grind (arith, nat_tests)

pub between_doctype : (m : Machine) (x : Building) (w : List ℕ) → m.within ≡ withins.Nothing → m.mode ≡ modes.Doctype → w ≡ codes "doctype html>"
    → nat_le (length w) m.at ≡ is_between (view m x)
between_doctype m x w e f g =
    let P : Within → Type 0 = λ v. nat_le (length w) m.at ≡ is_between (inside_of v (place_of m x)) in
    let Q : Mode → Type 0 = λ k. nat_le (length w) m.at ≡ is_between (place_at k m x) in
    subst P (sym e) (subst Q (sym f) (ap (λ (xs : List ℕ). nat_le (length xs) m.at) g ∙ sym (between_word (codes "doctype html>") m.at)))

-- a run leaves the machine where it is
names_add : (fs : List Frame) (bs : List ℕ) → names (add_bytes fs bs) ≡ names fs
names_add [] bs = refl
names_add (f ∷ fs) bs = refl

first_add : (fs : List Frame) (bs : List ℕ) → first_name (add_bytes fs bs) ≡ first_name fs
first_add [] bs = refl
first_add (f ∷ fs) bs = refl

other_add : (fs : List Frame) (bs : List ℕ) → other_names (add_bytes fs bs) ≡ other_names fs
other_add [] bs = refl
other_add (f ∷ fs) bs = refl

abbrev tag_with : List (List ℕ) → List ℕ → List (List ℕ) → Tag
tag_with ns n seen = record { outer = ns; name = n; seen = seen }

run_place : (k : Mode) (m : Machine) (x : Building) (bs : List ℕ) → place_at k m (put_run x (place_at k m x) bs) ≡ place_at k m x
run_place modes.Start m x bs = refl
run_place modes.First m x bs = refl
run_place modes.Doctype m x bs = refl
run_place modes.Inside m x bs = ap inside (names_add x.opened bs)
run_place modes.Less m x bs = ap less (names_add x.opened bs)
run_place modes.Naming m x bs = ap (λ ns. naming ns x.name) (names_add x.opened bs)
run_place modes.Gap m x bs = ap (λ ns. gap (tag_with ns x.name (map (λ p. p.0) x.attributes))) (names_add x.opened bs)
run_place modes.Attribute m x bs = ap (λ ns. attribute (tag_with ns x.name (map (λ p. p.0) x.attributes)) x.key) (names_add x.opened bs)
run_place modes.Named m x bs = ap (λ ns. named_so (tag_with ns x.name (map (λ p. p.0) x.attributes ++ x.key ∷ []))) (names_add x.opened bs)
run_place modes.Equals m x bs = ap (λ ns. equals (tag_with ns x.name (map (λ p. p.0) x.attributes ++ x.key ∷ []))) (names_add x.opened bs)
run_place modes.Value m x bs = refl
run_place modes.Valued m x bs = ap (λ ns. valued (tag_with ns x.name (map (λ p. p.0) x.attributes))) (names_add x.opened bs)
run_place modes.Slashed m x bs = ap (λ ns. slashed (tag_with ns x.name (map (λ p. p.0) x.attributes))) (names_add x.opened bs)
run_place modes.Closing m x bs = ap (λ n. closing (drop m.at n) (other_names (add_bytes x.opened bs))) (first_add x.opened bs)
    ∙ ap (closing (drop m.at (first_name x.opened))) (other_add x.opened bs)
run_place modes.Closed m x bs = ap closed (other_add x.opened bs)

pub run_view : (m : Machine) (x : Building) (bs : List ℕ) → m.within ≡ withins.Nothing → view m (put_run x (view m x) bs) ≡ view m x
run_view m x bs e =
    let P : Within → Type 0 = λ w. inside_of w (place_at m.mode m (put_run x (inside_of w (place_at m.mode m x)) bs)) ≡ inside_of w (place_at m.mode m x) in
    subst P (sym e) (run_place m.mode m x bs)
