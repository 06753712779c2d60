-- What a group carries of a call hangs on the call's source and on the places of its parts in it, and so not on where it is in the page.
use Rattle.std.proofs.Common.{arith, ◌≡◌, ℕ, zero, suc, ◌+◌, ◌-◌, Option, Some, None, List, [], ◌∷◌, ◌++◌, drop, map, fold, refl, sym, ap, ap₂, ◌∙◌, subst}
use Rattle.std.specs.Prelude.{slice_get, slice_range, decimal, if◌then◌else◌}
use Rattle.wt_tree.specs.declared.node.DataMw.TheVariants as mw
use Rattle.wt_tree.specs.declared.node.Part.{Part as Datum}
use Rattle.wt_tree.specs.declared.node.Part.TheVariants as datum
use Rattle.wt_span.specs.declared.function.Function.{Function}
use Rattle.wt_span.specs.Functions.{name_of}
use Rattle.wt_span.specs.Origins.{OuterCall, Span}
use Rattle.wt_span.specs.Cuts.{source_of_call}
use Rattle.wt_call_data.specs.CallData.{trimmed, source_slice, Param, param_by, next_number as number_behind, params_from, put_param, params_of, text_or_none, target_by, function_named, braces_part, call_part, next_call}
use Rattle.wt_annotated.specs.GroupParts.{Part, called, between}
use Rattle.wt_annotated.specs.GroupData.{call_parts, next_number, data_parts, group_data}
use Rattle.wt_part_laws.specs.Expanded.{moved_span, moved_place, moved_call}
use Rattle.wt_part_laws.specs.Rounded.{HaveSameData}
use Rattle.wt_part_laws.specs.MovedCalls.{IsMoved, AreMoved}

-- ---- a call's data

less : (d a b : ℕ) → (d + a) - (d + b) ≡ a - b
less d a b = omega arith

slice_moved : (d : ℕ) (c : OuterCall) (from to : ℕ) → source_slice (moved_call d c) (d + from) (d + to) ≡ source_slice c from to
slice_moved d c from to = ap₂ (λ (i j : ℕ). slice_range c.source i j) (less d from c.start) (less d to c.start)

param_moved : (d : ℕ) (c : OuterCall) (n : ℕ) (s : Span) (e : Option ℕ) → param_by (moved_call d c) n (moved_span d s) (moved_place d e) ≡ param_by c n s e
unfolding param_by
param_moved d c n (from, to) None = ap (λ (bs : List ℕ). (decimal (n + 1), bs)) (slice_moved d c from to)
param_moved d c n (from, to) (Some place) =
    let behind : (d + place) + 1 ≡ d + (place + 1) = omega arith in
    ap₂ (λ (x y : List ℕ). (trimmed x, trimmed y)) (slice_moved d c from place)
    (ap (λ (i : ℕ). source_slice (moved_call d c) i (d + to)) behind ∙ slice_moved d c (place + 1) to)

number_moved : (d n : ℕ) (e : Option ℕ) → number_behind n (moved_place d e) ≡ number_behind n e
number_moved d n None = refl
number_moved d n (Some place) = refl

params_moved : (d : ℕ) (c : OuterCall) (n : ℕ) (ps : List Span) (es : List (Option ℕ))
    → params_from (moved_call d c) n (map (moved_span d) ps) (map (moved_place d) es) ≡ params_from c n ps es
params_moved d c n [] es = refl
params_moved d c n (p ∷ ps) [] = refl
params_moved d c n (p ∷ ps) (e ∷ es) =
    ap₂ (λ (x : Param) (xs : List Param). x ∷ xs) (param_moved d c n p e)
    (ap (λ (m : ℕ). params_from (moved_call d c) m (map (moved_span d) ps) (map (moved_place d) es)) (number_moved d n e)
    ∙ params_moved d c (number_behind n e) ps es)

rest_mapped : {A B : Type 0} (f : A → B) (xs : List A) → drop 1 (map f xs) ≡ map f (drop 1 xs)
rest_mapped f [] = refl
rest_mapped f (x ∷ xs) = refl

all_params_moved : (d : ℕ) (c : OuterCall) → params_of (moved_call d c) ≡ params_of c
all_params_moved d c =
    ap (fold put_param [])
    (ap₂ (λ (ps : List Span) (es : List (Option ℕ)). params_from (moved_call d c) 0 ps es) (rest_mapped (moved_span d) c.parts) (rest_mapped (moved_place d) c.equals)
    ∙ params_moved d c 0 (drop 1 c.parts) (drop 1 c.equals))

target_moved : (d : ℕ) (c : OuterCall) (ps : List Span) → target_by (moved_call d c) (map (moved_span d) ps) ≡ target_by c ps
target_moved d c [] = refl
target_moved d c ((from, to) ∷ ps) = slice_moved d c from to

braces_moved : (d : ℕ) (c : OuterCall) (i : ℕ) (f : Option (Function × ℕ)) → braces_part (moved_call d c) i f ≡ braces_part c i f
braces_moved d c i None =
    ap₂ (λ (t : List ℕ) (ps : List Param). datum.Template t (text_or_none c.href) ps i) (target_moved d c c.parts) (all_params_moved d c)
braces_moved d c i (Some (f, n)) =
    ap₂ (λ (t : List ℕ) (ps : List Param). datum.Function (name_of f) t ps i) (target_moved d c c.parts) (all_params_moved d c)

part_moved : (d : ℕ) (c : OuterCall) (i : ℕ) → call_part (moved_call d c) i ≡ call_part c i
unfolding call_part
part_moved d c i = ap (λ (p : Datum). if c.argument then datum.Param c.source else p) (braces_moved d c i (function_named c))

-- ---- two calls

record IsAlike (c d : OuterCall) : Type 0 where
  source : c.source ≡ d.source
  part : (i : ℕ) → call_part c i ≡ call_part d i
  next : (i : ℕ) → next_call c i ≡ next_call d i

moved_alike : (n m : ℕ) (c : OuterCall) → IsAlike (moved_call n c) (moved_call m c)
moved_alike n m c = record {
  source = refl;
  part = λ i. part_moved n c i ∙ sym (part_moved m c i);
  next = λ i. refl;
}

alike : (c d : OuterCall) → IsMoved c d → IsAlike c d
alike c d h =
    subst (λ (x : OuterCall). IsAlike x d) (sym h.was)
    (subst (λ (y : OuterCall). IsAlike (moved_call h.first h.call) y) (sym h.now) (moved_alike h.first h.second h.call))

abbrev AlikeIfAny : Option OuterCall → Option OuterCall → Type 0
AlikeIfAny None None = Unit {0}
AlikeIfAny None (Some d) = ⊥
AlikeIfAny (Some c) None = ⊥
AlikeIfAny (Some c) (Some d) = IsAlike c d

at_number : (cs ds : List OuterCall) → AreMoved cs ds → (k : ℕ) → AlikeIfAny (slice_get cs k) (slice_get ds k)
at_number [] [] h k = tt
at_number [] (d ∷ ds) h k = absurd h
at_number (c ∷ cs) [] h k = absurd h
at_number (c ∷ cs) (d ∷ ds) h zero = alike c d h.0
at_number (c ∷ cs) (d ∷ ds) h (suc k) = at_number cs ds h.1 k

source_so : (c d : Option OuterCall) → AlikeIfAny c d → source_of_call c ≡ source_of_call d
source_so None None h = refl
source_so None (Some d) h = absurd h
source_so (Some c) None h = absurd h
source_so (Some c) (Some d) h = h.source

parts_so : (c d : Option OuterCall) (i : ℕ) → AlikeIfAny c d → call_parts c i ≡ call_parts d i
parts_so None None i h = refl
parts_so None (Some d) i h = absurd h
parts_so (Some c) None i h = absurd h
parts_so (Some c) (Some d) i h = ap (λ (p : Datum). p ∷ []) (h.part i)

next_so : (c d : Option OuterCall) (i : ℕ) → AlikeIfAny c d → next_number c i ≡ next_number d i
next_so None None i h = refl
next_so None (Some d) i h = absurd h
next_so (Some c) None i h = absurd h
next_so (Some c) (Some d) i h = h.next i

data_so : (cs ds : List OuterCall) → AreMoved cs ds → (i : ℕ) (ps : List Part) → data_parts cs i ps ≡ data_parts ds i ps
data_so cs ds h i [] = refl
data_so cs ds h i (between bs ∷ ps) = ap (λ (xs : List Datum). datum.Literal bs ∷ xs) (data_so cs ds h i ps)
data_so cs ds h i (called k ∷ ps) =
    let here = at_number cs ds h k in
    ap₂ (λ (xs ys : List Datum). xs ++ ys) (parts_so (slice_get cs k) (slice_get ds k) i here)
    (ap (λ (j : ℕ). data_parts cs j ps) (next_so (slice_get cs k) (slice_get ds k) i here) ∙ data_so cs ds h (next_number (slice_get ds k) i) ps)

carried_so : (cs ds : List OuterCall) → AreMoved cs ds → (ps : List Part) → group_data cs ps ≡ group_data ds ps
unfolding group_data
carried_so cs ds h ps = ap (λ (xs : List Datum). Some (mw.Parts xs)) (data_so cs ds h 0 ps)

pub moved_data : (cs ds : List OuterCall) → AreMoved cs ds → HaveSameData cs ds
moved_data cs ds h = record {
  sources = λ k. source_so (slice_get cs k) (slice_get ds k) (at_number cs ds h k);
  carried = carried_so cs ds h;
}
