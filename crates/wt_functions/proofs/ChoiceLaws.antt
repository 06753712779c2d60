-- What holds of every list of told texts.
use Rattle.std.proofs.Common.{◌≡◌, refl, sym, ◌∙◌, ap, subst, ℕ, zero, suc, ◌+◌, ◌-◌, ◌<◌, ◌≤◌, Bool, true, false, cond, Option, Some, None, List, [], ◌∷◌, ◌++◌, length, drop, get_or, min, nat_lt, arith, length-append, length-drop, append_assoc, append-nil}
use Rattle.std.proofs.Math.ListN.{get_or-append}
use Rattle.std.proofs.lemmas.Bool.{ltb-true, ltb-false, le-ltb}
use Rattle.std.proofs.lemmas.List.{get_or-drop, nil_from_length}
use Rattle.std.proofs.lemmas.List.Quantifiers.{position-Some}
use Rattle.std.proofs.lemmas.Slice.Eq.{bytes_eq-Decides}
use Rattle.std.specs.List.{position}
use Rattle.std.specs.Option.{option_map, option_or, option_and_then, is_some, unwrap_or}
use Rattle.std.specs.Str.{bytes_eq}
use Rattle.wt_span.specs.declared.function.Function.{Function}
use Rattle.wt_span.specs.declared.function.Function.TheVariants.{If, IfEq, Switch}
use Rattle.wt_functions.specs.declared.chooser.Ask.TheVariants.{Tell, Give}
use Rattle.wt_functions.specs.Choice.{Telling, text_at, if_there, equal_part, value_from, last_whole, is_default, last_default, chosen, told_count, given, asked}
use Rattle.wt_functions.specs.Laws.{IsNeeded, with_more}
use Rattle.wt_functions.proofs.EqualParts.{IsFirst, equal_part_first, equal_part_none, none_passes, stays, asked_part}

-- ---- the part that is given is there

there_by : (es : List Bool) (n k : ℕ) (b : Bool) → nat_lt (length es) n ≡ b → cond b None (Some n) ≡ Some k → (n ≡ k) × (n ≤ length es)
there_by es n k true e h = cc
there_by es n k false e h = (cc, ltb-false (length es) n e)

is_there : (es : List Bool) (n k : ℕ) → 0 < n → if_there es n ≡ Some k → (0 < k) × (k ≤ length es)
is_there es n k some h = let t : (n ≡ k) × (n ≤ length es) = there_by es n k (nat_lt (length es) n) refl h in (omega arith, omega arith)

abbrev id : Bool → Bool
id e = e

value_by : (es : List Bool) (part k : ℕ) (o : Option ℕ) → position id (drop part (false ∷ es)) ≡ o → option_map (λ j. part + j) o ≡ Some k → (part ≤ k) × (k ≤ length es)
value_by es part k None e h = cc
value_by es part k (Some j) e h =
    let w : j < length (drop part (false ∷ es)) = (position-Some id (drop part (false ∷ es)) j true e).0 in
    let s : part + j ≡ k = cc in
    let l : length (drop part (false ∷ es)) ≡ suc (length es) - part = length-drop part (false ∷ es) in
    (omega arith, omega arith)

value_there : (es : List Bool) (part k : ℕ) → value_from es part ≡ Some k → (part ≤ k) × (k ≤ length es)
value_there es part k h = value_by es part k (position id (drop part (false ∷ es))) refl h

last_by : (b : Bool) (n k : ℕ) → cond b None (Some n) ≡ Some k → n ≡ k
last_by true n k h = cc
last_by false n k h = cc

last_there : (es : List Bool) (k : ℕ) → last_whole es ≡ Some k → (0 < k) × (k ≤ length es)
unfolding last_whole
last_there [] k h = cc
last_there (e ∷ es) k h = let n : suc (length es) ≡ k = last_by (get_or (e ∷ es) (length es) true) (suc (length es)) k h in (omega arith, omega arith)

default_by : (b : Bool) (n k : ℕ) (o : Option ℕ) → (o ≡ Some k → (0 < k) × (k ≤ n)) → cond b (Some (suc n)) o ≡ Some k → (0 < k) × (k ≤ suc n)
default_by true n k o f h = let s : suc n ≡ k = cc in (omega arith, omega arith)
default_by false n k o f h = let w : (0 < k) × (k ≤ n) = f h in (omega arith, omega arith)

default_there : (es : List Bool) (ts : List (List ℕ)) (n k : ℕ) → last_default es ts n ≡ Some k → (0 < k) × (k ≤ n)
default_there es ts zero k h = cc
default_there es ts (suc n) k h = default_by (is_default es ts (suc n)) n k (last_default es ts n) (default_there es ts n k) h

-- one of three answers, the first of which is below a part
or_by : (P : ℕ → Type 0) (a b c : Option ℕ) → ((k : ℕ) → a ≡ Some k → P k) → ((k : ℕ) → b ≡ Some k → P k) → ((k : ℕ) → c ≡ Some k → P k) → (k : ℕ) → option_or a (option_or b c) ≡ Some k → P k
or_by P (Some j) b c f g h k e = f k e
or_by P None (Some j) c f g h k e = g k e
or_by P None None c f g h k e = h k e

from_equal : (es : List Bool) (ts : List (List ℕ)) (o : Option ℕ) → equal_part ts ≡ o → (k : ℕ) → option_and_then (value_from es) o ≡ Some k → (0 < k) × (k ≤ length es)
from_equal es ts None e k h = cc
from_equal es ts (Some j) e k h =
    let first : IsFirst (λ t. bytes_eq t (text_at ts 0)) ts j = equal_part_first ts j e in
    let v : (j ≤ k) × (k ≤ length es) = value_there es j k h in
    (omega arith, v.1)

if_by : (es : List Bool) (b : Bool) (m n k : ℕ) → 0 < m → 0 < n → if_there es (cond b m n) ≡ Some k → (0 < k) × (k ≤ length es)
if_by es true m n k p q h = is_there es m k p h
if_by es false m n k p q h = is_there es n k q h

chosen_there : (f : Function) (es : List Bool) (ts : List (List ℕ)) (k : ℕ) → chosen f es ts ≡ Some k → (0 < k) × (k ≤ length es)
unfolding chosen
chosen_there If es ts k h = if_by es _ 2 1 k (omega arith) (omega arith) h
chosen_there IfEq es ts k h = if_by es _ 2 3 k (omega arith) (omega arith) h
chosen_there Switch es ts k h = or_by (λ n. (0 < n) × (n ≤ length es)) (option_and_then (value_from es) (equal_part ts)) (last_whole es) (last_default es ts (length es)) (from_equal es ts (equal_part ts) refl) (last_there es) (default_there es ts (length es)) k h

give_by : (b : Bool) (n k : ℕ) (o : Option ℕ) → cond b (Tell n) (given o) ≡ Give k → o ≡ Some k
give_by true n k o h = cc
give_by false n k None h = cc
give_by false n k (Some j) h = cc

pub given_there : (t : Telling) (k : ℕ) → asked t ≡ Give k → (0 < k) × (k ≤ length t.equals)
unfolding asked
given_there t k h = chosen_there t.function t.equals t.texts k (give_by (nat_lt (length t.texts) (told_count t.function t.equals t.texts)) (length t.texts) k (chosen t.function t.equals t.texts) h)

pub told_in_order : (t : Telling) (k : ℕ) → asked t ≡ Tell k → (k ≡ length t.texts) × (k ≤ length t.equals)
told_in_order t k h = let a : (length t.texts ≡ k) × (length t.texts ≤ length t.equals) = asked_part t k h in (sym a.0, omega arith)

-- ---- what is told decides

told_by : (b : Bool) (n k : ℕ) (o : Option ℕ) → cond b (Tell n) (given o) ≡ Tell k → b ≡ true
told_by true n k o h = refl
told_by false n k None h = cc
told_by false n k (Some j) h = cc

pub none_equal : (ts : List (List ℕ)) (n : ℕ) (o : Option ℕ) → equal_part ts ≡ o → length ts < 1 + unwrap_or o n → equal_part ts ≡ None
none_equal ts n None e l = e
none_equal ts n (Some k) e l = let first : IsFirst (λ t. bytes_eq t (text_at ts 0)) ts k = equal_part_first ts k e in absurd (omega arith)

needed_by : (f : Function) (es : List Bool) (ts : List (List ℕ)) → length ts < told_count f es ts → IsNeeded f (length ts) ts
unfolding told_count
needed_by If es ts l = omega arith
needed_by IfEq es ts l = let m : min 1 (length es) ≤ 1 = omega arith in omega arith
needed_by Switch es ts l = λ j some below same.
    let apart : bytes_eq (get_or ts j []) (get_or ts 0 []) ≡ false = equal_part_none ts j (none_equal ts (length es) (equal_part ts) refl l) some below in
    let equal : bytes_eq (get_or ts j []) (get_or ts 0 []) ≡ true = (bytes_eq-Decides (get_or ts j []) (get_or ts 0 [])).1 same in
    cc

pub told_is_needed : (t : Telling) (k : ℕ) → asked t ≡ Tell k → IsNeeded t.function k t.texts
unfolding asked
told_is_needed t k h =
    let part : length t.texts ≡ k = (asked_part t k h).0 in
    let b : nat_lt (length t.texts) (told_count t.function t.equals t.texts) ≡ true = told_by (nat_lt (length t.texts) (told_count t.function t.equals t.texts)) (length t.texts) k (chosen t.function t.equals t.texts) h in
    subst (λ n. IsNeeded t.function n t.texts) part (needed_by t.function t.equals t.texts (ltb-true _ _ b))

-- ---- what isn't told changes nothing

enough_by : (b : Bool) (n : ℕ) (o : Option ℕ) → ((k : ℕ) → cond b (Tell n) (given o) ≡ Tell k → ⊥) → b ≡ false
enough_by true n o h = absurd (h n refl)
enough_by false n o h = refl

stay : (ts more : List (List ℕ)) → is_some (equal_part ts) ≡ true → equal_part (ts ++ more) ≡ equal_part ts
stay ts [] h = ap equal_part (append-nil ts)
stay ts (x ∷ xs) h =
    let one : equal_part (ts ++ x ∷ []) ≡ equal_part ts = stays ts x h in
    ap equal_part (sym (append_assoc ts (x ∷ []) xs)) ∙ stay (ts ++ x ∷ []) xs (ap is_some one ∙ h) ∙ one

-- without a value from a part on the last part has no `=`
whole_by : (b : Bool) (n : ℕ) → b ≡ false → cond b None (Some n) ≡ Some n
whole_by true n h = cc
whole_by false n h = refl

map_none : (o : Option ℕ) (part : ℕ) → option_map (λ j. part + j) o ≡ None → o ≡ None
map_none None part h = refl
map_none (Some k) part h = cc

no_value : (es : List Bool) (part : ℕ) → 0 < part → part ≤ length es → value_from es part ≡ None → last_whole es ≡ Some (length es)
unfolding last_whole
no_value [] part some l h = absurd (omega arith)
no_value (e ∷ es) part some l h =
    let n : length (drop part (false ∷ e ∷ es)) ≡ suc (suc (length es)) - part = length-drop part (false ∷ e ∷ es) in
    let last : get_or (drop part (false ∷ e ∷ es)) (suc (length es) - part) true ≡ false = none_passes id (drop part (false ∷ e ∷ es)) (suc (length es) - part) true (map_none (position id (drop part (false ∷ e ∷ es))) part h) (omega arith) in
    let place : part + (suc (length es) - part) ≡ suc (length es) = omega arith in
    whole_by (get_or (e ∷ es) (length es) true) (suc (length es)) (ap (λ i. get_or (false ∷ e ∷ es) i true) (sym place) ∙ sym (get_or-drop part (false ∷ e ∷ es) (suc (length es) - part) true) ∙ last)

-- of three answers the third doesn't count where the first or the second is there
third_by : (a b : Option ℕ) (c d : Option ℕ) (n : ℕ) → (a ≡ None → b ≡ Some n) → option_or a (option_or b c) ≡ option_or a (option_or b d)
third_by (Some j) b c d n f = refl
third_by None b c d n f = rw (f refl)

switched_alike : (es : List Bool) (ts us : List (List ℕ)) (k : ℕ) → 0 < k → k ≤ length es → equal_part ts ≡ Some k → equal_part us ≡ Some k → chosen Switch es us ≡ chosen Switch es ts
unfolding chosen
switched_alike es ts us k some l e g = rw (e, g, third_by (value_from es k) (last_whole es) (last_default es us (length es)) (last_default es ts (length es)) (length es) (no_value es k some l))

-- nothing more is asked of these, whatever is told
pub record Alike (f : Function) (es : List Bool) (ts us : List (List ℕ)) : Type 0 where
  pub count : told_count f es us ≡ told_count f es ts
  pub part : chosen f es us ≡ chosen f es ts

same : (f : Function) (es : List Bool) (ts more : List (List ℕ)) → length more ≡ 0 → Alike f es ts (ts ++ more)
same f es ts more n =
    let e : ts ++ more ≡ ts = ap (λ x. ts ++ x) (nil_from_length more n) ∙ append-nil ts in
    record { count = ap (told_count f es) e; part = ap (chosen f es) e }

switch_alike : (es : List Bool) (ts more : List (List ℕ)) (o : Option ℕ) → equal_part ts ≡ o → 1 + unwrap_or o (length es) ≤ length ts → length (ts ++ more) ≤ length es + 1 → Alike Switch es ts (ts ++ more)
unfolding told_count
switch_alike es ts more None e l few = same Switch es ts more (let n : length (ts ++ more) ≡ length ts + length more = length-append ts more in omega arith)
switch_alike es ts more (Some k) e l few =
    let n : length (ts ++ more) ≡ length ts + length more = length-append ts more in
    let first : IsFirst (λ t. bytes_eq t (text_at ts 0)) ts k = equal_part_first ts k e in
    let told : k < length ts = first.told in
    let g : equal_part (ts ++ more) ≡ Some k = stay ts more (ap is_some e) ∙ e in
    record { count = rw (e, g); part = switched_alike es ts (ts ++ more) k first.behind (omega arith) e g }

ifeq_alike : (es : List Bool) (ts more : List (List ℕ)) → 1 + min 1 (length es) ≤ length ts → length (ts ++ more) ≤ length es + 1 → Alike IfEq es ts (ts ++ more)
unfolding told_count chosen
ifeq_alike [] ts more l few = same IfEq [] ts more (let n : length (ts ++ more) ≡ length ts + length more = length-append ts more in omega arith)
ifeq_alike (e ∷ es) ts more l few =
    let m : min 1 (suc (length es)) ≡ 1 = omega arith in
    let zero_stays : get_or (ts ++ more) 0 [] ≡ get_or ts 0 [] = get_or-append ts more [] 0 (omega arith) in
    let one_stays : get_or (ts ++ more) 1 [] ≡ get_or ts 1 [] = get_or-append ts more [] 1 (omega arith) in
    record { count = refl; part = rw (zero_stays, one_stays) }

pub alike : (f : Function) (es : List Bool) (ts more : List (List ℕ)) → told_count f es ts ≤ length ts → length (ts ++ more) ≤ length es + 1 → Alike f es ts (ts ++ more)
unfolding told_count chosen
alike If es ts more l few = record { count = refl; part = rw (get_or-append ts more [] 0 l) }
alike IfEq es ts more l few = ifeq_alike es ts more l few
alike Switch es ts more l few = switch_alike es ts more (equal_part ts) refl l few

asked_by : (b : Bool) (n : ℕ) (o : Option ℕ) → b ≡ false → cond b (Tell n) (given o) ≡ given o
asked_by true n o h = cc
asked_by false n o h = refl

pub for_good : (t : Telling) → ((k : ℕ) → asked t ≡ Tell k → ⊥) → (more : List (List ℕ)) → length (t.texts ++ more) ≤ length t.equals + 1 → asked (with_more t more) ≡ asked t
unfolding asked
for_good t h more few =
    let enough : nat_lt (length t.texts) (told_count t.function t.equals t.texts) ≡ false = enough_by (nat_lt (length t.texts) (told_count t.function t.equals t.texts)) (length t.texts) (chosen t.function t.equals t.texts) h in
    let l : told_count t.function t.equals t.texts ≤ length t.texts = ltb-false (length t.texts) (told_count t.function t.equals t.texts) enough in
    let a : Alike t.function t.equals t.texts (t.texts ++ more) = alike t.function t.equals t.texts more l few in
    let n : length (t.texts ++ more) ≡ length t.texts + length more = length-append t.texts more in
    let count : told_count t.function t.equals (t.texts ++ more) ≡ told_count t.function t.equals t.texts = a.count in
    let b : nat_lt (length (t.texts ++ more)) (told_count t.function t.equals (t.texts ++ more)) ≡ false = le-ltb (length (t.texts ++ more)) (told_count t.function t.equals (t.texts ++ more)) (omega arith) in
    asked_by (nat_lt (length (t.texts ++ more)) (told_count t.function t.equals (t.texts ++ more))) (length (t.texts ++ more)) (chosen t.function t.equals (t.texts ++ more)) b
    ∙ ap given a.part
    ∙ sym (asked_by (nat_lt (length t.texts) (told_count t.function t.equals t.texts)) (length t.texts) (chosen t.function t.equals t.texts) enough)
