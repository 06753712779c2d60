-- That a function gives what it gives part after part.
use Rattle.std.proofs.Common.{◌≡◌, refl, sym, ◌∙◌, ap, subst, ℕ, zero, suc, ◌+◌, ◌-◌, ◌<◌, ◌≤◌, Bool, true, false, cond, Option, Some, None, List, [], ◌∷◌, ◌++◌, length, take, drop, map, nat_lt, arith, append_assoc, add-zero}
use Rattle.std.proofs.lemmas.Bool.{le-ltb, lt-ltb}
use Rattle.std.proofs.lemmas.List.{length-map}
use Rattle.std.specs.Prelude.{is_some}
use Rattle.wt_span.specs.declared.function.Function.{Function}
use Rattle.wt_functions.specs.declared.chooser.Ask.{Ask}
use Rattle.wt_functions.specs.declared.chooser.Ask.TheVariants.{Tell, Give, Nothing}
use Rattle.wt_functions.specs.Choice.{asked, chosen, told_count, given as gives}
use Rattle.wt_functions.proofs.WholeLists.{asks_along, count_within}
use Rattle.wt_expand.specs.Texts.{name_text, trimmed_items}
use Rattle.wt_expand.specs.Work.{Entry}
use Rattle.wt_expand.specs.Expansion.{Output, PartOutput, just, joined, given, with_break, later_parts, told_outputs, chosen_output, function_output}
use Rattle.wt_expand.specs.Asking.{have_names, answer_of, next_of, asking, AsksInTurn}
use Rattle.wt_expand.proofs.Agreements.{texts_of, tell_count}

-- ---- the texts of the first parts

more_texts : (m : ℕ) (os : List Output) (o : Output) (rest : List Output) → drop m os ≡ o ∷ rest → take m (texts_of os) ++ name_text o.items ∷ [] ≡ take (suc m) (texts_of os)
more_texts zero [] o rest e = cc
more_texts zero (u ∷ us) o rest e = let h : u ≡ o = cc in ap (λ x. name_text x.items ∷ []) (sym h)
more_texts (suc m) [] o rest e = cc
more_texts (suc m) (u ∷ us) o rest e = ap (λ xs. name_text u.items ∷ xs) (more_texts m us o rest e)

behind : (m : ℕ) (os : List Output) (o : Output) (rest : List Output) → drop m os ≡ o ∷ rest → drop (suc m) os ≡ rest
behind zero [] o rest e = cc
behind zero (u ∷ us) o rest e = cc
behind (suc m) [] o rest e = cc
behind (suc m) (u ∷ us) o rest e = behind m us o rest e

no_more : (m : ℕ) (os : List Output) → drop m os ≡ [] → length os ≤ m
no_more zero [] e = omega arith
no_more zero (u ∷ us) e = cc
no_more (suc m) [] e = omega arith
no_more (suc m) (u ∷ us) e = let h : length us ≤ m = no_more m us e in omega arith

-- ---- from one part on

-- what is given behind so much work
abbrev behind_work : List Entry → Output → Output
behind_work es o = record { items = o.items; work = es ++ o.work }

given_now : (c : Option ℕ) (f : Function) (ps : List PartOutput) → answer_of (gives c) f ps ≡ chosen_output f c ps
given_now None f ps = refl
given_now (Some k) f ps = refl

given_next : (c : Option ℕ) (f : Function) (ps : List PartOutput) (o rest : Output) → next_of (gives c) f ps o rest ≡ chosen_output f c ps
given_next None f ps o rest = refl
given_next (Some k) f ps o rest = refl

ends_here : (f : Function) (es : List Bool) (ps : List PartOutput) (texts : List (List ℕ)) (c : Option ℕ) (os : List Output)
    → asked (record { function = f; equals = es; texts = texts }) ≡ gives c → asking f es ps texts os ≡ chosen_output f c ps
ends_here f es ps texts c [] e = ap (λ a. answer_of a f ps) e ∙ given_now c f ps
ends_here f es ps texts c (o ∷ os) e = ap (λ a. next_of a f ps o (asking f es ps (texts ++ name_text o.items ∷ []) os)) e ∙ given_next c f ps o _

abbrev Along : Function → List Bool → List PartOutput → List Output → ℕ → ℕ → Type 0
Along f es ps all m left =
    asking f es ps (take m (texts_of all)) (drop m all)
    ≡ behind_work (joined (take left (drop m all))).work (chosen_output f (chosen f es (texts_of all)) ps)

by_asked : (b : Bool) (n m : ℕ) (c : Option ℕ) → b ≡ false → cond b (Tell m) (gives c) ≡ gives c
by_asked true n m c h = cc
by_asked false n m c h = refl

by_told : (b : Bool) (m : ℕ) (c : Option ℕ) → b ≡ true → cond b (Tell m) (gives c) ≡ Tell m
by_told true m c h = refl
by_told false m c h = cc

along_by : (f : Function) (es : List Bool) (ps : List PartOutput) (all : List Output) (m left : ℕ) (rest : List Output) → drop m all ≡ rest
    → length (texts_of all) ≡ length es + 1 → length all ≡ length (texts_of all) → told_count f es (texts_of all) ≤ length all
    → m + suc left ≡ told_count f es (texts_of all) → Along f es ps all (suc m) left
    → asking f es ps (take m (texts_of all)) rest ≡ behind_work (joined (take (suc left) rest)).work (chosen_output f (chosen f es (texts_of all)) ps)
along_by f es ps all m left [] d long same most e next = let h : length all ≤ m = no_more m all d in absurd (omega arith)
along_by f es ps all m left (o ∷ os) d long same most e next =
    let count : ℕ = told_count f es (texts_of all) in
    let c : Option ℕ = chosen f es (texts_of all) in
    let tell : asked (record { function = f; equals = es; texts = take m (texts_of all) }) ≡ Tell m =
    asks_along f es (texts_of all) long m (omega arith) ∙ by_told (nat_lt m count) m c (lt-ltb m count (omega arith)) in
    let texts : take m (texts_of all) ++ name_text o.items ∷ [] ≡ take (suc m) (texts_of all) = more_texts m all o os d in
    let after : drop (suc m) all ≡ os = behind m all o os d in
    let here : asking f es ps (take m (texts_of all) ++ name_text o.items ∷ []) os ≡ behind_work (joined (take left os)).work (chosen_output f c ps) =
    ap (λ ts. asking f es ps ts os) texts ∙ ap (asking f es ps (take (suc m) (texts_of all))) (sym after) ∙ next
    ∙ ap (λ us. behind_work (joined (take left us)).work (chosen_output f c ps)) after in
    ap (λ a. next_of a f ps o (asking f es ps (take m (texts_of all) ++ name_text o.items ∷ []) os)) tell
    ∙ ap (λ (u : Output). record { items = u.items; work = o.work ++ u.work }) here
    ∙ ap (λ (es : List Entry). record { items = (chosen_output f c ps).items; work = es }) (sym (append_assoc o.work (joined (take left os)).work (chosen_output f c ps).work))

along : (f : Function) (es : List Bool) (ps : List PartOutput) (all : List Output) (m left : ℕ) → length (texts_of all) ≡ length es + 1
    → length all ≡ length (texts_of all) → told_count f es (texts_of all) ≤ length all → m + left ≡ told_count f es (texts_of all) → Along f es ps all m left
along f es ps all m zero long same most e =
    let count : ℕ = told_count f es (texts_of all) in
    let stop : asked (record { function = f; equals = es; texts = take m (texts_of all) }) ≡ gives (chosen f es (texts_of all)) =
    asks_along f es (texts_of all) long m (omega arith)
    ∙ by_asked (nat_lt m count) m m (chosen f es (texts_of all)) (le-ltb m count (omega arith)) in
    ends_here f es ps (take m (texts_of all)) (chosen f es (texts_of all)) (drop m all) stop
along f es ps all m (suc left) long same most e =
    let q : suc m + left ≡ told_count f es (texts_of all) = omega arith in
    along_by f es ps all m left (drop m all) refl long same most e (along f es ps all (suc m) left long same most q)

pub asks_in_turn : (f : Function) (n : ℕ) (at_start : Bool) (ps : List PartOutput) → AsksInTurn f n at_start ps
asks_in_turn f n at_start ps =
    let all : List Output = told_outputs f n ps in
    let es : List Bool = have_names ps in
    let long : length (texts_of all) ≡ length es + 1 = tell_count f n ps in
    let same : length all ≡ length (texts_of all) = sym (length-map all (λ (o : Output). name_text o.items)) in
    let most : told_count f es (texts_of all) ≤ length all = let w : told_count f es (texts_of all) ≤ length (texts_of all) = count_within f es (texts_of all) long in omega arith in
    ap (λ (o : Output). given [] o.work (with_break at_start (trimmed_items o.items))) (sym (along f es ps all 0 (told_count f es (texts_of all)) long same most (let q : 0 + told_count f es (texts_of all) ≡ told_count f es (texts_of all) = omega arith in q)))
