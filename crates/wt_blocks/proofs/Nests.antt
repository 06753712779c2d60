-- Lists and items, run by run.
use Rattle.std.proofs.Common.{◌≡◌, ℕ, zero, suc, ◌+◌, ◌-◌, ◌<◌, ◌≤◌, Bool, true, false, List, [], ◌∷◌, ◌++◌, length, get_or, take, drop, map, refl, sym, ap, ◌∙◌, subst, arith, append_assoc, append-nil, length-drop}
use Rattle.std.specs.Prelude.{nat_lt}
use Rattle.std.specs.List.{AllByRecursion}
use Rattle.std.proofs.lemmas.Bool.Decides.{nat_tests}
use Rattle.std.proofs.lemmas.List.{map-append, length-map, get_or-drop, drop-drop, take-append-drop, length-take-le, get_or-take}
use Rattle.wt_span.specs.Runs.{IsRun}
use Rattle.wt_span.proofs.RunLaws.{runs_cut}
use Rattle.wt_blocks.specs.ListTree.{ListTree}
use Rattle.wt_blocks.specs.Nesting.{ListLine, numbered, same_list, one_list, one_item, inner, item_by, items_by, list_by, lists}
use Rattle.wt_blocks.specs.View.{list_tree, list_trees}
use Rattle.wt_blocks.specs.declared.nest.ListNode.{ListNode}
use Rattle.wt_blocks.specs.Slices.{lines_from, AreLeft, one_list_at, one_item_at, IsFront}

-- ---- lines of prefixes

numbered_append : (n : ℕ) (ps qs : List (List ℕ)) → numbered n (ps ++ qs) ≡ numbered n ps ++ numbered (n + length ps) qs
numbered_append n [] qs = let e : n + 0 ≡ n = omega arith in ap (λ m. numbered m qs) (sym e)
numbered_append n (p ∷ ps) qs =
    let e : suc n + length ps ≡ n + suc (length ps) = omega arith in
    ap (λ (ls : List ListLine). record { number = n; prefix = p } ∷ ls) (numbered_append (suc n) ps qs ∙ ap (λ m. numbered (suc n) ps ++ numbered m qs) e)

pub lines_append : (first depth : ℕ) (ps qs : List (List ℕ)) → lines_from first depth (ps ++ qs) ≡ lines_from first depth ps
    ++ lines_from (first + length ps) depth qs
lines_append first depth ps qs =
    ap (numbered first) (map-append (drop depth) ps qs) ∙ numbered_append first (map (drop depth) ps) (map (drop depth) qs)
    ∙ ap (λ m. lines_from first depth ps ++ numbered (first + m) (map (drop depth) qs)) (length-map ps (drop depth))

-- runs of prefixes are runs of lines
run_of_lines : (joins : List ℕ → List ℕ → Bool) (over : ListLine → ListLine → Bool) (depth : ℕ)
    → ((p q : List ℕ) (a b : ℕ) → over (record { number = a; prefix = drop depth p }) (record { number = b; prefix = drop depth q }) ≡ joins p q)
    → (f g : ℕ) (ps qs : List (List ℕ)) → IsRun joins ps qs → IsRun over (lines_from f depth ps) (lines_from g depth qs)
run_of_lines joins over depth e f g [] qs r = absurd r
run_of_lines joins over depth e f g (p ∷ []) [] r = tt
run_of_lines joins over depth e f g (p ∷ []) (q ∷ qs) r = e p q f g ∙ r
run_of_lines joins over depth e f g (p ∷ q ∷ ps) qs r = (e p q f (suc f) ∙ r.0, run_of_lines joins over depth e (suc f) g (q ∷ ps) qs r.1)

sign_after : (depth : ℕ) (p : List ℕ) → get_or (drop depth p) 0 0 ≡ get_or p depth 0
sign_after depth p = let z : depth + 0 ≡ depth = omega arith in get_or-drop depth p 0 0 ∙ ap (λ k. get_or p k 0) z

list_joins : (depth : ℕ) (p q : List ℕ) (a b : ℕ) → one_list (record { number = a; prefix = drop depth p })
    (record { number = b; prefix = drop depth q }) ≡ one_list_at depth p q
list_joins depth p q a b = ap (λ c. same_list c (get_or (drop depth q) 0 0)) (sign_after depth p)
    ∙ ap (λ c. same_list (get_or p depth 0) c) (sign_after depth q)

goes_on_at : (depth : ℕ) (q : List ℕ) → nat_lt 1 (length (drop depth q)) ≡ nat_lt (depth + 1) (length q)
goes_on_at depth q = let e = length-drop depth q in grind (arith, nat_tests)

-- ---- the first list, the first item

pub lists_cut : (n : ℕ) (r o : List ListLine) → 0 < n → IsRun one_list r o → lists n (r ++ o) ≡ list_by (lists (n - 1)) r ∷ lists n o
lists_cut zero r o s run = absurd (omega arith)
lists_cut (suc n) r o s run =
    let e : suc n - 1 ≡ n = omega arith in
    ap (map (list_by (lists n))) (runs_cut one_list r o run) ∙ ap (λ m. list_by (lists m) r ∷ lists (suc n) o) (sym e)

pub items_cut : (lists_in : List ListLine → List ListTree) (r o : List ListLine) → IsRun one_item r o
    → items_by lists_in (r ++ o) ≡ item_by lists_in r ∷ items_by lists_in o
items_cut lists_in r o run = ap (map (item_by lists_in)) (runs_cut one_item r o run)

no_lists : (n : ℕ) → lists n [] ≡ []
no_lists zero = refl
no_lists (suc n) = refl

-- the lines of a run, and those after it
lines_cut : (first depth at m : ℕ) (ps rest : List (List ℕ)) → rest ≡ drop at ps → m ≤ length rest
    → lines_from (first + at) depth (drop at ps) ≡ lines_from (first + at) depth (take m rest) ++ lines_from (first + (at + m)) depth (drop (at + m) ps)
lines_cut first depth at m ps rest e w =
    let n : first + at + m ≡ first + (at + m) = omega arith in
    let l : length (take m rest) ≡ m = length-take-le m rest w in
    let d : drop m rest ≡ drop (at + m) ps = ap (drop m) e ∙ drop-drop m at ps in
    ap (lines_from (first + at) depth) (sym e ∙ sym (take-append-drop m rest))
    ∙ lines_append (first + at) depth (take m rest) (drop m rest)
    ∙ ap (λ k. lines_from (first + at) depth (take m rest) ++ lines_from k depth (drop m rest)) (ap (λ k. first + at + k) l ∙ n)
    ∙ ap (λ qs. lines_from (first + at) depth (take m rest) ++ lines_from (first + (at + m)) depth qs) d

-- one more list
pub list_done : (n first depth at m : ℕ) (ps rest run : List (List ℕ)) (done all : List ListTree) (t : ListTree) → 0 < n
    → rest ≡ drop at ps → run ≡ take m rest → m ≤ length rest
    → IsFront (one_list_at depth) rest m → t ≡ list_by (lists (n - 1)) (lines_from (first + at) depth run)
    → done ++ lists n (lines_from (first + at) depth (drop at ps)) ≡ all
    → (done ++ t ∷ []) ++ lists n (lines_from (first + (at + m)) depth (drop (at + m) ps)) ≡ all
list_done n first depth at m ps rest run done all t s e r w front is h =
    let others = lines_from (first + (at + m)) depth (drop (at + m) ps) in
    let d : drop m rest ≡ drop (at + m) ps = ap (drop m) e ∙ drop-drop m at ps in
    let cut = lists_cut n (lines_from (first + at) depth (take m rest)) others s
    (subst (λ (qs : List (List ℕ)). IsRun one_list (lines_from (first + at) depth (take m rest)) (lines_from (first + (at + m)) depth qs)) d
    (run_of_lines (one_list_at depth) one_list depth (list_joins depth) (first + at) (first + (at + m)) (take m rest) (drop m rest) front)) in
    append_assoc done (t ∷ []) (lists n others)
    ∙ ap (λ u. done ++ u ∷ lists n others) (is ∙ ap (λ qs. list_by (lists (n - 1)) (lines_from (first + at) depth qs)) r)
    ∙ ap (λ ts. done ++ ts) (sym (ap (lists n) (lines_cut first depth at m ps rest e w) ∙ cut))
    ∙ h

-- one more item
pub item_done : (lists_in : List ListLine → List ListTree) (first depth at m : ℕ) (ps rest item : List (List ℕ))
    (done all : List ListTree) (t : ListTree) → rest ≡ drop at ps → item ≡ take m rest → m ≤ length rest
    → IsFront (one_item_at depth) rest m → t ≡ item_by lists_in (lines_from (first + at) depth item)
    → done ++ items_by lists_in (lines_from (first + at) depth (drop at ps)) ≡ all
    → (done ++ t ∷ []) ++ items_by lists_in (lines_from (first + (at + m)) depth (drop (at + m) ps)) ≡ all
item_done lists_in first depth at m ps rest item done all t e r w front is h =
    let others = lines_from (first + (at + m)) depth (drop (at + m) ps) in
    let d : drop m rest ≡ drop (at + m) ps = ap (drop m) e ∙ drop-drop m at ps in
    let cut = items_cut lists_in (lines_from (first + at) depth (take m rest)) others
    (subst (λ (qs : List (List ℕ)). IsRun one_item (lines_from (first + at) depth (take m rest)) (lines_from (first + (at + m)) depth qs)) d
    (run_of_lines (one_item_at depth) one_item depth (λ p q a b. goes_on_at depth q) (first + at) (first + (at + m)) (take m rest) (drop m rest) front)) in
    append_assoc done (t ∷ []) (items_by lists_in others)
    ∙ ap (λ u. done ++ u ∷ items_by lists_in others) (is ∙ ap (λ qs. item_by lists_in (lines_from (first + at) depth qs)) r)
    ∙ ap (λ ts. done ++ ts) (sym (ap (items_by lists_in) (lines_cut first depth at m ps rest e w) ∙ cut))
    ∙ h

pub lists_end : (n number depth : ℕ) (rest : List (List ℕ)) (done all : List ListTree) → rest ≡ []
    → done ++ lists n (lines_from number depth rest) ≡ all → done ≡ all
lists_end n number depth rest done all e h = sym (append-nil done)
    ∙ ap (λ ts. done ++ ts) (sym (no_lists n) ∙ ap (λ qs. lists n (lines_from number depth qs)) (sym e)) ∙ h

pub items_end : (lists_in : List ListLine → List ListTree) (number depth : ℕ) (rest : List (List ℕ)) (done all : List ListTree)
    → rest ≡ [] → done ++ items_by lists_in (lines_from number depth rest) ≡ all → done ≡ all
items_end lists_in number depth rest done all e h = sym (append-nil done) ∙ ap (λ qs. done ++ items_by lists_in (lines_from number depth qs)) (sym e) ∙ h

-- ---- the lines that go on in an item

-- these all go on behind this place
abbrev pub AllGoOn : ℕ → List (List ℕ) → Type 0
AllGoOn depth ps = AllByRecursion (λ q. nat_lt (depth + 1) (length q) ≡ true) ps

pub all_go_on : (depth : ℕ) (p : List ℕ) (ps others : List (List ℕ)) → IsRun (one_item_at depth) (p ∷ ps) others → AllGoOn depth ps
all_go_on depth p [] others r = tt
all_go_on depth p (q ∷ ps) others r = (r.0, all_go_on depth q ps others r.1)

inner_all : (first depth : ℕ) (ps : List (List ℕ)) → AllGoOn depth ps → inner (lines_from first depth ps) ≡ lines_from first (depth + 1) ps
inner_all first depth [] h = refl
inner_all first depth (p ∷ ps) h =
    rw (goes_on_at depth p, h.0)
    (ap (λ (cs : List ℕ). record { number = first; prefix = cs } ∷ inner (lines_from (suc first) depth ps)) (drop-drop 1 depth p)
    ∙ ap (λ (ls : List ListLine). record { number = first; prefix = drop (depth + 1) p } ∷ ls) (inner_all (suc first) depth ps h.1))

pub inner_longer : (first depth : ℕ) (p : List ℕ) (ps : List (List ℕ)) → AllGoOn depth ps → nat_lt (depth + 1) (length p) ≡ true
    → inner (lines_from first depth (p ∷ ps)) ≡ lines_from first (depth + 1) (p ∷ ps)
inner_longer first depth p ps h e = inner_all first depth (p ∷ ps) (e, h)

pub inner_shorter : (first depth : ℕ) (p : List ℕ) (ps : List (List ℕ)) → AllGoOn depth ps → nat_lt (depth + 1) (length p) ≡ false
    → inner (lines_from first depth (p ∷ ps)) ≡ lines_from (suc first) (depth + 1) ps
inner_shorter first depth p ps h e = rw (goes_on_at depth p, e) (inner_all (suc first) depth ps h)

go_on_at : (depth : ℕ) (ps : List (List ℕ)) → AllGoOn depth ps → (k : ℕ) (d : List ℕ) → k < length ps → depth + 1 < length (get_or ps k d)
go_on_at depth [] h k d l = absurd (omega arith)
go_on_at depth (p ∷ ps) h zero d l = let e : nat_lt (depth + 1) (length p) ≡ true = h.0 in grind (arith, nat_tests)
go_on_at depth (p ∷ ps) h (suc k) d l = go_on_at depth ps h.1 k d (omega arith)

pub left_longer : (depth : ℕ) (ps others : List (List ℕ)) → AreLeft depth ps → IsRun (one_item_at depth) ps others
    → nat_lt (depth + 1) (length (get_or ps 0 [])) ≡ true → AreLeft (depth + 1) ps
left_longer depth [] others a r e k d l = absurd r
left_longer depth (p ∷ ps) others a r e k d l = (go_on_at depth (p ∷ ps) (e, all_go_on depth p ps others r) k d l, (a k d l).1)

pub left_shorter : (depth : ℕ) (ps qs others : List (List ℕ)) → qs ≡ drop 1 ps → AreLeft depth ps → IsRun (one_item_at depth) ps others → AreLeft (depth + 1) qs
left_shorter depth [] qs others q a r = absurd r
left_shorter depth (p ∷ ps) qs others q a r =
    subst (AreLeft (depth + 1)) (sym q) (λ k d l. (go_on_at depth ps (all_go_on depth p ps others r) k d l, (a (suc k) d (omega arith)).1))

pub inside_longer : (first depth : ℕ) (ps others : List (List ℕ)) → IsRun (one_item_at depth) ps others → nat_lt (depth + 1) (length (get_or ps 0 [])) ≡ true
    → inner (lines_from first depth ps) ≡ lines_from (first + (length ps - length ps)) (depth + 1) ps
inside_longer first depth [] others r e = absurd r
inside_longer first depth (p ∷ ps) others r e =
    let z : first + (suc (length ps) - suc (length ps)) ≡ first = omega arith in
    inner_longer first depth p ps (all_go_on depth p ps others r) e ∙ ap (λ n. lines_from n (depth + 1) (p ∷ ps)) (sym z)

pub inside_shorter : (first depth : ℕ) (ps qs others : List (List ℕ)) → qs ≡ drop 1 ps → IsRun (one_item_at depth) ps others
    → nat_lt (depth + 1) (length (get_or ps 0 [])) ≡ false
    → inner (lines_from first depth ps) ≡ lines_from (first + (length ps - length qs)) (depth + 1) qs
inside_shorter first depth [] qs others q r e = absurd r
inside_shorter first depth (p ∷ ps) qs others q r e =
    let z : first + (suc (length ps) - length ps) ≡ suc first = omega arith in
    inner_shorter first depth p ps (all_go_on depth p ps others r) e
    ∙ ap (λ n. lines_from n (depth + 1) ps) (sym z)
    ∙ ap (λ rs. lines_from (first + (suc (length ps) - length rs)) (depth + 1) rs) (sym q)

-- ---- loops over lines

pub within_by : (ps rest : List (List ℕ)) (at m : ℕ) → at ≤ length ps → rest ≡ drop at ps → m ≤ length rest → at + m ≤ length ps
within_by ps rest at m a e w = omega (arith, ap length e, length-drop at ps)

pub taken : (rest run : List (List ℕ)) (m : ℕ) → run ≡ take m rest → m ≤ length rest → length run ≡ m
taken rest run m e w = ap length e ∙ length-take-le m rest w

pub pushed : (ns ms : List ListNode) (n : ListNode) → ms ≡ ns ++ n ∷ [] → list_trees ms ≡ list_trees ns ++ list_tree n ∷ []
pushed ns ms n e = ap list_trees e ∙ map-append list_tree ns (n ∷ [])

-- the signs that are left of some of the lines
pub left_rest : (depth at : ℕ) (ps rest : List (List ℕ)) → rest ≡ drop at ps → AreLeft depth ps → AreLeft depth rest
left_rest depth at ps rest e a = subst (AreLeft depth) (sym e)
    (λ k d l. subst (λ (p : List ℕ). (depth < length p) × (length p ≤ 32)) (sym (get_or-drop at ps k d))
    (a (at + k) d (omega (arith, length-drop at ps))))

pub left_front : (depth m : ℕ) (rest run : List (List ℕ)) → run ≡ take m rest → m ≤ length rest → AreLeft depth rest → AreLeft depth run
left_front depth m rest run e w a =
    subst (AreLeft depth) (sym e)
    (λ k d l. let h : k < m = omega (arith, length-take-le m rest w) in
    subst (λ (p : List ℕ). (depth < length p) × (length p ≤ 32)) (sym (get_or-take m rest k d h)) (a k d (omega arith)))

pub from_the_first : (n : ℕ) (ps : List (List ℕ)) → lines_from n 0 ps ≡ numbered n ps
from_the_first n [] = refl
from_the_first n (p ∷ ps) = ap (λ (ls : List ListLine). record { number = n; prefix = p } ∷ ls) (from_the_first (suc n) ps)
